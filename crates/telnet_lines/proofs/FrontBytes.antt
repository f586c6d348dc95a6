-- The first bytes of a list that stands in two parts.
use Rattle.std.proofs.Common.{◌≡◌, ◌∙◌, ap, sym, inl, inr, arith, ℕ, ◌+◌, ◌-◌, min, List, ◌++◌, length, take, length-append, length-take, append-nil}
use Rattle.std.proofs.lemmas.Bool.Decides.{leb_tells}
use Rattle.std.proofs.lemmas.List.{take_min, take-append-le}
use Rattle.std.proofs.Math.Seq.{take-length, take-append-add}

pub taken_of_both : (n : ℕ) (f b : List ℕ) → take (min (length f) n) f ++ take (min (length b) (n - min (length f) n)) b ≡ take n (f ++ b)
taken_of_both n f b =
    let parts = λ (k : ℕ). take k f ++ take (min (length b) (n - k)) b in
    elim (leb_tells (length f) n) as (λ x. parts (min (length f) n) ≡ take n (f ++ b)) [
      | inl e ↦
          let front : min (length f) n ≡ length f = omega (arith, e.1) in
          let rest : min (length b) (n - length f) ≡ min (n - length f) (length b) = omega arith in
          let whole : length f + (n - length f) ≡ n = omega (arith, e.1) in
          ap parts front ∙ ap (λ (l : List ℕ). l ++ take (min (length b) (n - length f)) b) (take-length f)
          ∙ ap (λ (k : ℕ). f ++ take k b) rest ∙ ap (λ (l : List ℕ). f ++ l) (take_min (n - length f) b)
          ∙ sym (take-append-add f b (n - length f)) ∙ ap (λ (k : ℕ). take k (f ++ b)) whole
      | inr e ↦
          let front : min (length f) n ≡ n = omega (arith, e.1) in
          let none : min (length b) (n - n) ≡ 0 = omega arith in
          ap parts front ∙ ap (λ (k : ℕ). take n f ++ take k b) none ∙ append-nil (take n f) ∙ sym (take-append-le n f b (omega (arith, e.1)))
    ]

pub count_of_both : (n : ℕ) (f b : List ℕ) → min (length f) n + min (length b) (n - min (length f) n) ≡ length (take n (f ++ b))
count_of_both n f b = omega (arith, length-take n (f ++ b), length-append f b)

pub front_of : (n : ℕ) (xs rest : List ℕ) → n ≡ length xs → take n (xs ++ rest) ≡ xs
front_of n xs rest is = ap (λ (k : ℕ). take k (xs ++ rest)) is ∙ take-append-le (length xs) xs rest (omega arith) ∙ take-length xs
