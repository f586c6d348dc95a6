-- A sector is copied out of the bytes of a disk.
use Rattle.std.proofs.Common.{◌≡◌, ◌≤◌, ◌-◌, ◌+◌, ℕ, List, ◌++◌, length, take, drop, min, replicate, inl, inr, ap, sym, ◌∙◌, arith, append-nil}
use Rattle.std.proofs.lemmas.Bool.{cases_lt}
use Rattle.std.proofs.lemmas.List.{length-take-le, take-append-le, take-replicate, take_rest, drop_min}
use Rattle.std.proofs.Math.Seq.{take-append-add, take-append_seam, take-length}

-- the bytes that were copied stay while those behind them are cleared
kept : (bytes into : List ℕ) (count : ℕ) → count ≤ length bytes → take count (take count bytes ++ drop count into) ≡ take count bytes
kept bytes into count within =
    let long = length-take-le count bytes within in
    (λ i. take (sym long i) (take count bytes ++ drop count into)) ∙ take-append_seam (take count bytes) (drop count into)

short-copied : (bytes into : List ℕ) (count : ℕ) → count ≡ length bytes → length bytes ≤ length into
    → take count bytes ++ replicate (length into - count) 0 ≡ take (length into) (bytes ++ replicate (length into) 0)
short-copied bytes into count all short =
    let room = length into in
    let split : room ≡ length bytes + (room - length bytes) = omega (arith, short) in
    (λ i. take (all i) bytes ++ replicate (room - all i) 0)
    ∙ ap (λ (xs : List ℕ). xs ++ replicate (room - length bytes) 0) (take-length bytes)
    ∙ ap (λ (xs : List ℕ). bytes ++ xs) (sym (take-replicate (room - length bytes) room 0 (omega arith)))
    ∙ sym (take-append-add bytes (replicate room 0) (room - length bytes))
    ∙ ap (λ (n : ℕ). take n (bytes ++ replicate room 0)) (sym split)

long-copied : (bytes into : List ℕ) (count : ℕ) → count ≡ length into → length into ≤ length bytes
    → take count bytes ++ replicate (length into - count) 0 ≡ take (length into) (bytes ++ replicate (length into) 0)
long-copied bytes into count all long =
    let room = length into in
    let none : room - count ≡ 0 = omega (arith, all) in
    (λ i. take count bytes ++ replicate (none i) 0) ∙ append-nil (take count bytes)
    ∙ (λ i. take (all i) bytes) ∙ sym (take-append-le room bytes (replicate room 0) long)

pub front-copied : (bytes into : List ℕ) (count : ℕ) → count ≡ min (length bytes) (length into)
    → take count (take count bytes ++ drop count into) ++ replicate (length into - count) 0
    ≡ take (length into) (bytes ++ replicate (length into) 0)
front-copied bytes into count is =
    let within : count ≤ length bytes = omega (arith, is) in
    ap (λ (xs : List ℕ). xs ++ replicate (length into - count) 0) (kept bytes into count within)
    ∙ (elim (cases_lt (length bytes) (length into)) [
      | inl short ↦ short-copied bytes into count (omega (arith, is, short)) (omega (arith, short))
      | inr long ↦ long-copied bytes into count (omega (arith, is, long)) long
    ])

-- what stands behind a place, which may be behind the end
pub behind-place : (bytes : List ℕ) (place from : ℕ) → from ≡ min place (length bytes)
    → take (length bytes - from) (drop from bytes) ≡ drop place bytes
behind-place bytes place from is =
    take_rest bytes from ∙ ap (λ (n : ℕ). drop n bytes) is ∙ drop_min place bytes
