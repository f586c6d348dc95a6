-- A sector marks the pages in which it changes the copy.
use Rattle.std.proofs.Common.{◌≡◌, ◌≢◌, ◌<◌, ◌≤◌, ◌+◌, ◌-◌, ◌*◌, ◌%◌, ◌⊎◌, ℕ, Bool, true, false, List, length, min, get_or, slice_get, None, Some, inl, inr, ap, sym, ◌∙◌, arith, if◌then◌else◌}
use Rattle.std.proofs.lemmas.Bool.{cases_Bool, cases_lt}
use Rattle.std.proofs.lemmas.List.{ext_get_or}
use Rattle.std.proofs.lemmas.Option.{slice_get_past}
use Rattle.file_traits.specs.Lists.{overwritten}
use Rattle.unit_files.specs.Attachments.{Attachment}
use Rattle.unit_files.specs.Pages.{page_bytes, disk_pages, page_of}
use Rattle.unit_files.specs.InStep.{with_marks, marks_written, written_pages, pages_back, MarksCover}
use Rattle.unit_files.specs.Buffer.{Buffer, AttachedFiles, sector_bytes, disk_sectors, with_sector, sector_written}
use Rattle.unit_files.specs.Laws.{SectorsMarkTheirPages}
use Rattle.unit_files.proofs.Overwriting.{at, over-before, over-behind, over-least, over-most, over-reach}
use Rattle.unit_files.proofs.Pages.{pages-least, pages-most, last-unmarked}
use Rattle.unit_files.proofs.Marks.{page-split, page-rest, page-is, sector-page, sector-some, sector-below, page-order, unmarked}
use Rattle.unit_files.proofs.FlushLaws.{some-same, at-marked, at-other, reached, from-front}
use Rattle.unit_files.proofs.InStep.{step-covered}

-- ---- the copy is written over itself

module _ (marks : List Bool) (bytes : List ℕ) where
  itself-at : (page k : ℕ) → k < page_bytes → page * page_bytes + k < length bytes
      → at (written_pages marks 0 bytes bytes) (page * page_bytes + k) ≡ at bytes (page * page_bytes + k)
  itself-at page k low within = elim (cases_Bool (get_or marks page false)) [
    | inl is ↦ at-marked marks bytes bytes page k low is within
    | inr not ↦ at-other marks bytes bytes page k low not
  ]

  pub itself : written_pages marks 0 bytes bytes ≡ bytes
  itself =
      let least = pages-least marks 0 bytes bytes in
      let most = pages-most marks 0 bytes bytes (length bytes) (omega arith) (omega arith) in
      let long : length (written_pages marks 0 bytes bytes) ≡ length bytes = omega (arith, least, most) in
      ext_get_or 0 (written_pages marks 0 bytes bytes) bytes long (λ i within.
      let split = page-split i in
      ap (λ (n : ℕ). at (written_pages marks 0 bytes bytes) n) split
      ∙ itself-at (page_of i) (i % page_bytes) (page-rest i) (omega (arith, split, long, within))
      ∙ ap (λ (n : ℕ). at bytes n) (sym split))

-- ---- a sector is written

module _ (marks : List Bool) (bytes old piece : List ℕ) (sector : ℕ) (below : sector < disk_sectors)
    (long : length piece ≡ sector_bytes) (all : length marks ≡ disk_pages)
    (was : written_pages marks 0 bytes old ≡ bytes) where
  abbrev place : ℕ
  place = sector * sector_bytes

  abbrev after : List ℕ
  after = overwritten bytes place piece

  abbrev more : List Bool
  more = with_marks bytes sector marks

  abbrev result : List ℕ
  result = written_pages more 0 after old

  -- a byte in a page that is not marked now is in none that was marked, and is no byte of the sector
  pub free : (page : ℕ) → get_or more page false ≡ false → (get_or marks page false ≡ false) × (page ≢ page_of place)
  free page not =
      let first : page_of (min (length bytes) place) ≤ page_of place = page-order (min (length bytes) place) place (omega arith) in
      let one = unmarked (page_of (min (length bytes) place)) (page_of place) marks first (omega (arith, sector-below sector below, all)) page not in
      (one.0, λ same. elim one.1 [ inl low ↦ omega (arith, low, same, first) | inr high ↦ omega (arith, high, same) ])

  not-within : (page k : ℕ) → k < page_bytes → page ≢ page_of place → place ≤ page * page_bytes + k
      → page * page_bytes + k < place + sector_bytes → ⊥
  not-within page k low other from to =
      other (sym (page-is page k low)
      ∙ ap page_of {x = page * page_bytes + k} {y = place + (page * page_bytes + k - place)} (omega (arith, from))
      ∙ sector-page sector (page * page_bytes + k - place) (omega (arith, from, to)))

  kept-at : (page k : ℕ) → k < page_bytes → page ≢ page_of place
      → at after (page * page_bytes + k) ≡ at bytes (page * page_bytes + k)
  kept-at page k low other = elim (cases_lt (page * page_bytes + k) place) [
    | inl before ↦ over-before bytes place piece (page * page_bytes + k) before
    | inr from ↦ elim (cases_lt (page * page_bytes + k) (place + sector_bytes)) [
      | inl to ↦ absurd (not-within page k low other from to)
      | inr behind ↦ over-behind bytes place piece (page * page_bytes + k) (omega (arith, long, behind))
    ]
  ]

  is-at : (page k : ℕ) → k < page_bytes → page * page_bytes + k < length after
      → at result (page * page_bytes + k) ≡ at after (page * page_bytes + k)
  is-at page k low within = elim (cases_Bool (get_or more page false)) [
    | inl is ↦ at-marked more after old page k low is within
    | inr not ↦
        let none = free page not in
        at-other more after old page k low not
        ∙ sym (at-other marks bytes old page k low none.0)
        ∙ ap (λ (l : List ℕ). at l (page * page_bytes + k)) was
        ∙ sym (kept-at page k low none.1)
  ]

  short : length old ≤ length bytes
  short =
      let least = pages-least marks 0 bytes old in
      omega (arith, ap (λ (l : List ℕ). length l) was, least)

  -- the last byte of the copy in a page that is not the sector's is the last that it had
  was-last : (page k : ℕ) → k < page_bytes → page ≢ page_of place → length after ≡ page * page_bytes + k + 1
      → length bytes ≡ page * page_bytes + k + 1
  was-last page k low other last = elim (cases_lt (page * page_bytes + k) (length bytes)) [
    | inl in_old ↦ let least = over-least bytes place piece in omega (arith, in_old, least, last)
    | inr past ↦ elim (cases_lt (page * page_bytes + k) (place + sector_bytes)) [
      | inl to ↦
          let reach = over-reach bytes place piece 0 (omega (arith, long, sector-some)) in
          absurd (not-within page k low other (omega (arith, reach, last)) to)
      | inr behind ↦
          let most = over-most bytes place piece (page * page_bytes + k) past (omega (arith, long, behind)) in
          absurd (omega (arith, most, last))
    ]
  ]

  -- the last byte of the copy is one of the file
  reaches : (page k : ℕ) → k < page_bytes → length after ≡ page * page_bytes + k + 1 → page * page_bytes + k < length result
  reaches page k low last = elim (cases_Bool (get_or more page false)) [
    | inl is ↦ reached more after old page k low is (omega (arith, last))
    | inr not ↦ elim (cases_lt (page * page_bytes + k) (length old)) [
      | inl in_old ↦ let least = pages-least more 0 after old in omega (arith, in_old, least)
      | inr past ↦
          let none = free page not in
          let here = from-front page k in
          let end = was-last page k low none.1 last in
          let no_more = last-unmarked marks page 0 bytes old k low none.0 (omega (arith, here, end)) (omega (arith, here, past)) in
          absurd (omega (arith, here, no_more, ap (λ (l : List ℕ). length l) was, end))
    ]
  ]

  least : length after ≤ length result
  least = elim (cases_lt 0 (length after)) [
    | inl some ↦
        let split = page-split (length after - 1) in
        let last = reaches (page_of (length after - 1)) ((length after - 1) % page_bytes) (page-rest (length after - 1)) (omega (arith, split, some)) in
        omega (arith, split, last)
    | inr none ↦ omega (arith, none)
  ]

  most : length result ≤ length after
  most = let grown = over-least bytes place piece in pages-most more 0 after old (length after) (omega (arith, short, grown)) (omega arith)

  pub sector-left : result ≡ after
  sector-left =
      let same : length result ≡ length after = omega (arith, least, most) in
      ext_get_or 0 result after same (λ i within.
      let split = page-split i in
      ap (λ (n : ℕ). at result n) split
      ∙ is-at (page_of i) (i % page_bytes) (page-rest i) (omega (arith, split, same, within))
      ∙ ap (λ (n : ℕ). at after n) (sym split))

sector : (a : Attachment) (disk : Buffer) (marks : List Bool) (old piece : List ℕ) (sector : ℕ) → sector < disk_sectors
    → length piece ≡ sector_bytes → length marks ≡ disk_pages → pages_back None disk marks old ≡ disk.bytes
    → pages_back None (sector_written (Some a) disk sector piece) (marks_written (Some a) disk.bytes sector marks) old
    ≡ (sector_written (Some a) disk sector piece).bytes
unfolding with_sector
sector a disk marks old piece number below long all was = by-mode a.read_only
  where
    by-mode : (b : Bool)
        → pages_back None (if b then disk else record { bytes = with_sector disk.bytes number piece; written = true })
        (if b then marks else with_marks disk.bytes number marks) old
        ≡ (if b then disk else record { bytes = with_sector disk.bytes number piece; written = true }).bytes
    by-mode true = was
    by-mode false = sector-left marks disk.bytes old piece number below long all was

-- ---- the pages in which the copy changes

module _ (marks : List Bool) (bytes piece : List ℕ) (sector : ℕ) (below : sector < disk_sectors)
    (long : length piece ≡ sector_bytes) (all : length marks ≡ disk_pages) where
  abbrev start : ℕ
  start = sector * sector_bytes

  abbrev written : List ℕ
  written = overwritten bytes start piece

  abbrev first : ℕ
  first = page_of (min (length bytes) start)

  in-order : first ≤ page_of start
  in-order = page-order (min (length bytes) start) start (omega arith)

  no-mark : (page : ℕ) → get_or (with_marks bytes sector marks) page false ≡ false
      → (get_or marks page false ≡ false) × ((page < first) ⊎ (page_of start < page))
  no-mark page not =
      unmarked first (page_of start) marks in-order (omega (arith, in-order, sector-below sector below, all)) page not

  -- a page in front of those that are marked has all its bytes in front of the sector and of the gap
  in-front : (page k : ℕ) → k < page_bytes → page < first → page * page_bytes + k < min (length bytes) start
  in-front page k low before = elim (cases_lt (page * page_bytes + k) (min (length bytes) start)) [
    | inl is ↦ is
    | inr past ↦
        let order = page-order (min (length bytes) start) (page * page_bytes + k) past in
        absurd (omega (arith, order, page-is page k low, before))
  ]

  -- .. and one behind them has none of the sector
  behind-all : (page k : ℕ) → k < page_bytes → page_of start < page → start + sector_bytes ≤ page * page_bytes + k
  behind-all page k low past = elim (cases_lt (page * page_bytes + k) (start + sector_bytes)) [
    | inr is ↦ is
    | inl within ↦
        let last : sector_bytes - 1 < sector_bytes = omega (arith, sector-some) in
        let order = page-order (page * page_bytes + k) (start + (sector_bytes - 1)) (omega (arith, within)) in
        absurd (omega (arith, order, page-is page k low, sector-page sector (sector_bytes - 1) last, past))
  ]

  same-slice : (page k : ℕ) → k < page_bytes → get_or (with_marks bytes sector marks) page false ≡ false
      → slice_get bytes (page * page_bytes + k) ≡ slice_get written (page * page_bytes + k)
  same-slice page k low not = elim (no-mark page not).1 [
    | inl before ↦
        let here = in-front page k low before in
        let grown = over-least bytes start piece in
        some-same bytes written (page * page_bytes + k) (omega (arith, here)) (omega (arith, here, grown))
        (sym (over-before bytes start piece (page * page_bytes + k) (omega (arith, here))))
    | inr past ↦
        let here = behind-all page k low past in
        elim (cases_lt (page * page_bytes + k) (length bytes)) [
          | inl in_old ↦
              let grown = over-least bytes start piece in
              some-same bytes written (page * page_bytes + k) in_old (omega (arith, in_old, grown))
              (sym (over-behind bytes start piece (page * page_bytes + k) (omega (arith, here, long))))
          | inr out ↦
              let most = over-most bytes start piece (page * page_bytes + k) out (omega (arith, here, long)) in
              slice_get_past bytes (page * page_bytes + k) out ∙ sym (slice_get_past written (page * page_bytes + k) most)
        ]
  ]

-- a sector is written where there is a file that may be written
pub covers-sector : (old new : AttachedFiles) (piece : List ℕ) (sector : ℕ) → sector < disk_sectors → length piece ≡ sector_bytes
    → length old.aside ≡ disk_pages → new.disk ≡ record { bytes = with_sector old.disk.bytes sector piece; written = true }
    → new.aside ≡ with_marks old.disk.bytes sector old.aside → MarksCover old new
unfolding with_sector
covers-sector old new piece sector below long all copy marks = record {
  no_shorter =
      let grown = over-least old.disk.bytes (sector * sector_bytes) piece in
      let is = ap (λ (d : Buffer). length d.bytes) copy in omega (arith, grown, is);
  kept = λ page not.
      (no-mark old.aside old.disk.bytes piece sector below long all page (ap (λ (l : List Bool). get_or l page false) (sym marks) ∙ not)).0;
  same = λ page k low not.
      same-slice old.aside old.disk.bytes piece sector below long all page k low (ap (λ (l : List Bool). get_or l page false) (sym marks) ∙ not)
      ∙ ap (λ (d : Buffer). slice_get d.bytes (page * page_bytes + k)) (sym copy);
  unwritten = λ none. let written = ap (λ (d : Buffer). d.written) copy in absurd (cc);
}

pub sectors-mark : SectorsMarkTheirPages
sectors-mark = record {
  same = λ disk marks. itself marks disk.bytes;
  sector = sector;
  step = λ old new files slots covers step. step-covered old new files slots covers step;
}
