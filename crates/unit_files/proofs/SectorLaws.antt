-- A sector that was written is read back, and other sectors stay.
use Rattle.std.proofs.Common.{◌≡◌, ◌≢◌, ◌⊎◌, ◌<◌, ◌≤◌, ◌+◌, ◌-◌, ◌*◌, ℕ, List, [], ◌∷◌, ◌++◌, length, drop, replicate, inl, inr, sym, ◌∙◌, arith}
use Rattle.std.proofs.lemmas.Bool.{cases_lt}
use Rattle.std.proofs.lemmas.List.{get_or-drop, get_or-take, length-append, length-replicate, length-take-le, ext_get_or}
use Rattle.std.proofs.lemmas.Nat.{mul-add-lt}
use Rattle.std.proofs.Math.Nat.{mul_comm}
use Rattle.file_traits.specs.Lists.{overwritten}
use Rattle.unit_files.specs.Buffer.{sector_bytes, sector_of, with_sector}
use Rattle.unit_files.specs.Laws.{SectorsReadBack}
use Rattle.unit_files.proofs.Overwriting.{at, zeros-behind, over-before, over-within, over-behind}

-- a byte of a sector
pub sector-byte : (bytes : List ℕ) (sector k : ℕ) → k < sector_bytes → at (sector_of bytes sector) k ≡ at bytes (sector * sector_bytes + k)
unfolding sector_of
sector-byte bytes sector k within =
    get_or-take sector_bytes (drop (sector * sector_bytes) bytes ++ replicate sector_bytes 0) k 0 within
    ∙ zeros-behind (drop (sector * sector_bytes) bytes) sector_bytes k
    ∙ get_or-drop (sector * sector_bytes) bytes k 0

pub sector-long : (bytes : List ℕ) (sector : ℕ) → length (sector_of bytes sector) ≡ sector_bytes
unfolding sector_of
sector-long bytes sector =
    let all = drop (sector * sector_bytes) bytes in
    length-take-le sector_bytes (all ++ replicate sector_bytes 0)
    (omega (arith, length-append all (replicate sector_bytes 0), length-replicate {A = ℕ} sector_bytes 0))

same : (bytes piece : List ℕ) (sector : ℕ) → length piece ≡ sector_bytes
    → sector_of (with_sector bytes sector piece) sector ≡ piece
unfolding with_sector sector_bytes
same bytes [] sector long = absurd (omega (arith, long))
same bytes (b ∷ rest) sector long =
    let new = overwritten bytes (sector * sector_bytes) (b ∷ rest) in
    ext_get_or 0 (sector_of new sector) (b ∷ rest) (sector-long new sector ∙ sym long) (λ k below.
    let within : k < sector_bytes = omega (arith, sector-long new sector, below) in
    sector-byte new sector k within ∙ over-within bytes (sector * sector_bytes) (b ∷ rest) k (omega (arith, within, long)))

-- the bytes of another sector stand in front of this one or behind it
apart : (size sector other k : ℕ) → k < size → other ≢ sector → (other * size + k < sector * size) ⊎ (sector * size + size ≤ other * size + k)
apart size sector other k within not_same = elim (cases_lt other sector) [
  | inl low ↦ inl (omega (arith, mul-add-lt other size k sector low within, mul_comm size sector))
  | inr high ↦
      let above : sector < other = omega (arith, high, not_same) in
      let last : size - 1 < size = omega (arith, within) in
      inr (omega (arith, mul-add-lt sector size (size - 1) other above last, mul_comm size other, within))
]

others : (bytes piece : List ℕ) (sector other : ℕ) → length piece ≡ sector_bytes → other ≢ sector
    → sector_of (with_sector bytes sector piece) other ≡ sector_of bytes other
unfolding with_sector sector_bytes
others bytes [] sector other long not_same = absurd (omega (arith, long))
others bytes (b ∷ rest) sector other long not_same =
    let new = overwritten bytes (sector * sector_bytes) (b ∷ rest) in
    ext_get_or 0 (sector_of new other) (sector_of bytes other) (sector-long new other ∙ sym (sector-long bytes other)) (λ k below.
    let within : k < sector_bytes = omega (arith, sector-long new other, below) in
    sector-byte new other k within
    ∙ (elim (apart sector_bytes sector other k within not_same) [
      | inl before ↦ over-before bytes (sector * sector_bytes) (b ∷ rest) (other * sector_bytes + k) before
      | inr behind ↦ over-behind bytes (sector * sector_bytes) (b ∷ rest) (other * sector_bytes + k) (omega (arith, behind, long))
    ])
    ∙ sym (sector-byte bytes other k within))

pub sectors-back : SectorsReadBack
sectors-back = record { same = same; others = others }
