-- Laws of digits and of the numbers that they stand for.
use Rattle.std.proofs.Common.{◌≡◌, ℕ, ◌+◌, ◌-◌, ◌*◌, ◌/◌, ◌%◌, ◌^◌, ◌<◌, ◌≤◌, zero, suc, Result, Ok, Err, List, [], ◌∷◌, ◌++◌, length, take, All, subst, refl, sym, ap, ◌∙◌, arith}
use Rattle.std.proofs.Math.Nat.{mul-le-mul_right}
use Rattle.std.proofs.lemmas.List.{length_push}
use Rattle.std.proofs.lemmas.List.Elements.{All-nil, All-push}
use Rattle.std.proofs.lemmas.List.{get_or-take, length-take-le}
use Rattle.nova_word.specs.declared.numbers.NumberFault.{NumberFault}
use Rattle.nova_word.specs.declared.numbers.NumberFault.TheVariants.{Empty, BadDigit, TooLarge}
use Rattle.nova_word.specs.Numbers.{octal_digits, value_after, value_of, IsDigit, IsNumber, IsFirstBad, ReadsNumber}

-- further digits make no number smaller
pub value_after-ge : (base before : ℕ) (text : List ℕ) → 0 < base → before ≤ value_after base before text
value_after-ge base before [] some = omega arith
value_after-ge base before (b ∷ more) some =
    let more_is = value_after-ge base (base * before + (b - 48)) more some in
    let grows = mul-le-mul_right before some in
    omega (arith, more_is, grows)

pub value_after-append : (base before : ℕ) (xs ys : List ℕ) → value_after base before (xs ++ ys) ≡ value_after base (value_after base before xs) ys
value_after-append base before [] ys = refl
value_after-append base before (x ∷ xs) ys = value_after-append base (base * before + (x - 48)) xs ys

-- that many digits are written
pub length-octal_digits : (count n : ℕ) → length (octal_digits count n) ≡ count
length-octal_digits zero n = refl
length-octal_digits (suc count) n =
    let h = length-octal_digits count (n / 8) in
    omega (arith, h, length_push (octal_digits count (n / 8)) (48 + n % 8))

-- each byte written is an octal digit
pub octal_digits_are_digits : (count n : ℕ) → All (IsDigit 8) (octal_digits count n)
octal_digits_are_digits zero n = All-nil (IsDigit 8)
octal_digits_are_digits (suc count) n =
    All-push (IsDigit 8) (octal_digits count (n / 8)) (48 + n % 8) (octal_digits_are_digits count (n / 8)) (omega arith, omega arith)

-- a number that so many digits can write reads back from them
pub value_of-octal_digits : (count n : ℕ) → n < 8 ^ count → value_of 8 (octal_digits count n) ≡ n
value_of-octal_digits zero n small = omega arith
value_of-octal_digits (suc count) n small =
    let rest : n / 8 < 8 ^ count = omega arith in
    let h = value_of-octal_digits count (n / 8) rest in
    let split = value_after-append 8 0 (octal_digits count (n / 8)) ((48 + n % 8) ∷ []) in
    omega (arith, h, split)

pub digits_are_number : (count n : ℕ) → 0 < count → n < 8 ^ count → IsNumber 8 (octal_digits count n) n
digits_are_number count n some small = record {
  some = omega (arith, length-octal_digits count n);
  digits = octal_digits_are_digits count n;
  value = value_of-octal_digits count n small;
}

-- numbers of which neither is below the other
same_from_not_lt : (p q : ℕ) → (p < q → ⊥) → (q < p → ⊥) → p ≡ q
same_from_not_lt p q not_below not_above = omega arith

-- a first bad byte stands before no other one
first_bad-not_before : (base : ℕ) (text : List ℕ) (p q : ℕ) → IsFirstBad base text p → IsFirstBad base text q → p < q → ⊥
first_bad-not_before base text p q at_p at_q before =
    let within : p < length (take q text) = omega (arith, length-take-le q text (omega arith)) in
    at_p.bad (subst (IsDigit base) (get_or-take q text p 0 before) (at_q.digits p 0 within))

pub number-has_no_bad : (base : ℕ) (text : List ℕ) (n p : ℕ) → IsNumber base text n → IsFirstBad base text p → ⊥
number-has_no_bad base text n p number first = first.bad (number.digits p 0 first.within)

-- a text has one answer
pub one_answer : (base largest : ℕ) (text : List ℕ) (a b : Result ℕ NumberFault) → ReadsNumber base largest text a → ReadsNumber base largest text b → a ≡ b
one_answer base largest text (Ok m) (Ok n) h k = ap (λ x. Ok x) (sym h.0.value ∙ k.0.value)
one_answer base largest text (Ok m) (Err Empty) h k = absurd (omega (arith, h.0.some, ap length k))
one_answer base largest text (Ok m) (Err (BadDigit q)) h k = absurd (number-has_no_bad base text m q h.0 k)
one_answer base largest text (Ok m) (Err TooLarge) h k = absurd (omega (arith, h.0.value, h.1, k.1.value, k.2))
one_answer base largest text (Err Empty) (Ok n) h k = absurd (omega (arith, k.0.some, ap length h))
one_answer base largest text (Err Empty) (Err Empty) h k = refl
one_answer base largest text (Err Empty) (Err (BadDigit q)) h k = absurd (omega (arith, k.within, ap length h))
one_answer base largest text (Err Empty) (Err TooLarge) h k = absurd (omega (arith, k.1.some, ap length h))
one_answer base largest text (Err (BadDigit p)) (Ok n) h k = absurd (number-has_no_bad base text n p k.0 h)
one_answer base largest text (Err (BadDigit p)) (Err Empty) h k = absurd (omega (arith, h.within, ap length k))
one_answer base largest text (Err (BadDigit p)) (Err (BadDigit q)) h k =
    let same : p ≡ q = same_from_not_lt p q (first_bad-not_before base text p q h k) (first_bad-not_before base text q p k h) in
    ap (λ x. Err (BadDigit x)) same
one_answer base largest text (Err (BadDigit p)) (Err TooLarge) h k = absurd (number-has_no_bad base text k.0 p k.1 h)
one_answer base largest text (Err TooLarge) (Ok n) h k = absurd (omega (arith, k.0.value, k.1, h.1.value, h.2))
one_answer base largest text (Err TooLarge) (Err Empty) h k = absurd (omega (arith, h.1.some, ap length k))
one_answer base largest text (Err TooLarge) (Err (BadDigit q)) h k = absurd (number-has_no_bad base text h.0 q h.1 k)
one_answer base largest text (Err TooLarge) (Err TooLarge) h k = refl
