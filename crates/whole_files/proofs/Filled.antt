-- A buffer is filled from its front, a piece at a time.
use Rattle.std.proofs.Common.{◌≡◌, ℕ, ◌+◌, ◌-◌, ◌≤◌, List, ◌++◌, length, take, drop, min, refl, sym, ap, ◌∙◌, arith}
use Rattle.std.proofs.Math.Seq.{take-add, take-append-add}
use Rattle.std.proofs.lemmas.List.{length-take-le, take-take}
use Rattle.std.proofs.lemmas.Slice.{take-put_mid}
use borrow.Rule.Slice.PartMut.{put_mid}

-- the first bytes of a list behind the first bytes of another
front : (bytes piece : List ℕ) (done count : ℕ) → done ≤ length bytes
    → take (done + count) (take done bytes ++ piece) ≡ take done bytes ++ take count piece
front bytes piece done count within =
    ap (λ (n : ℕ). take (n + count) (take done bytes ++ piece)) (sym (length-take-le done bytes within))
    ∙ take-append-add (take done bytes) piece count

-- behind what was read before, as many bytes more are those of the file
pub filled-more : (bytes piece content : List ℕ) (done more count : ℕ) → done ≤ length bytes → count ≤ length piece
    → take done bytes ≡ take done content → take count piece ≡ take count (drop done content)
    → take (done + count) (put_mid done more bytes piece) ≡ take (done + count) content
filled-more bytes piece content done more count within fits before read =
    let all = put_mid done more bytes piece in
    let less : done + count ≤ done + length piece = omega (arith, fits) in
    sym (take-take (done + count) (done + length piece) all less)
    ∙ ap (take (done + count)) (take-put_mid done more bytes piece (done + length piece) refl within)
    ∙ front bytes piece done count within
    ∙ (λ i. before i ++ read i)
    ∙ sym (take-add done count content)

-- a read gives no byte past the end
pub more-within : (done count room all : ℕ) → done ≤ all → count ≡ min room (all - done) → done + count ≤ all
more-within done count room all within is = omega (arith, within, is)
