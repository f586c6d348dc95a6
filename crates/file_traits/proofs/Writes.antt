-- A piece that is written over bytes, where there is room for it.
use Rattle.std.proofs.Common.{◌≡◌, ℕ, ◌+◌, ◌-◌, ◌<◌, ◌≤◌, List, [], ◌∷◌, ◌++◌, length, take, drop, replicate, inl, inr, ap, sym, ◌∙◌, arith, append-nil}
use Rattle.std.proofs.lemmas.Bool.{cases_lt}
use Rattle.std.proofs.lemmas.List.{length-append, length-replicate, take-append-le, take-replicate, drop_all}
use Rattle.std.proofs.Math.Seq.{take-append-add}
use Rattle.file_traits.specs.Lists.{filled, overwritten}

-- the first bytes up to a place, of bytes that are filled up to it or further
take-filled : (xs : List ℕ) (n p : ℕ) → p - length xs ≤ n → length xs ≤ p → take p (xs ++ replicate n 0) ≡ xs ++ replicate (p - length xs) 0
take-filled xs n p enough long =
    let place : p ≡ length xs + (p - length xs) = omega (arith, long) in
    ap (λ (k : ℕ). take k (xs ++ replicate n 0)) place ∙ take-append-add xs (replicate n 0) (p - length xs)
    ∙ ap (λ (ys : List ℕ). xs ++ ys) (take-replicate (p - length xs) n 0 enough)

pub take-same : (xs : List ℕ) (n p : ℕ) → p - length xs ≤ n → take p (xs ++ replicate n 0) ≡ take p (filled xs p)
take-same xs n p enough =
    elim (cases_lt p (length xs)) [
      | inl short ↦ take-append-le p xs (replicate n 0) (omega (arith, short)) ∙ sym (take-append-le p xs (replicate (p - length xs) 0) (omega (arith, short)))
      | inr long ↦ take-filled xs n p enough long ∙ sym (take-filled xs (p - length xs) p (omega arith) long)
    ]

-- what stands behind a place that bytes are filled up to
drop-filled : (xs : List ℕ) (end : ℕ) → drop end (xs ++ replicate (end - length xs) 0) ≡ drop end xs
drop-filled xs end =
    elim (cases_lt (length xs) end) [
      | inl short ↦
          let long : length (xs ++ replicate (end - length xs) 0) ≤ end = rw (length-append xs (replicate (end - length xs) 0), length-replicate {A = ℕ} (end - length xs) 0) (omega (arith, short)) in
          drop_all end (xs ++ replicate (end - length xs) 0) long ∙ sym (drop_all end xs (omega (arith, short)))
      | inr long ↦
          let none : end - length xs ≡ 0 = omega (arith, long) in
          ap (λ (n : ℕ). drop end (xs ++ replicate n 0)) none ∙ ap (λ (ys : List ℕ). drop end ys) (append-nil xs)
    ]

-- a piece that is put over bytes which reach as far as it does
pub written : (xs piece : List ℕ) (p : ℕ) → 0 < length piece
    → take p (xs ++ replicate (p + length piece - length xs) 0) ++ piece ++ drop (p + length piece) (xs ++ replicate (p + length piece - length xs) 0) ≡ overwritten xs p piece
written xs [] p some = absurd (omega (arith, some))
written xs (b ∷ rest) p some =
    let end = p + length (b ∷ rest) in
    ap (λ (front : List ℕ). front ++ (b ∷ rest) ++ drop end (xs ++ replicate (end - length xs) 0)) (take-same xs (end - length xs) p (omega arith))
    ∙ ap (λ (back : List ℕ). take p (filled xs p) ++ (b ∷ rest) ++ back) (drop-filled xs end)
