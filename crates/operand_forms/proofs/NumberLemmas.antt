-- The readers of numbers decide the forms of numbers.
use Rattle.std.specs.Prelude.{not}
use Rattle.std.proofs.Common.{◌≡◌, inl, inr, ℕ, ◌<◌, ◌≤◌, true, ◌==◌, Some, Result, Ok, Err, List, [], ◌∷◌, ◌++◌, refl, ap, sym, ◌∙◌, arith}
use Rattle.std.proofs.lemmas.Bool.{cases_lt, not_from_false, ne_eqb}
use Rattle.std.proofs.lemmas.Bool.Decides.{nat_tests}
use Rattle.std.proofs.lemmas.List.Sums.{list_all-from_AllPass}
use Rattle.nova_word.specs.declared.numbers.NumberFault.{NumberFault}
use Rattle.nova_word.specs.declared.numbers.NumberFault.TheVariants.{Empty, BadDigit, TooLarge}
use Rattle.nova_word.specs.Numbers.{IsDigit, value_of, number_read}
use Rattle.nova_word.proofs.ReadingLemmas.{digit_passes, number_read-of_number, number_read-of_large, number_read-Ok, number_read-TooLarge}
use Rattle.operand_forms.specs.Forms.{IsHeld, held, too_large, largest_octal, largest_decimal, IsOctal, IsDecimal}
use Rattle.operand_forms.specs.Operands.{as_held, octal, decimal}
use Rattle.operand_forms.proofs.ChoiceLemmas.{same_some}
use Rattle.operand_forms.proofs.SpellingLemmas.{starts_digit, lacks}

held_small : (largest n : ℕ) → n ≤ largest → held largest n ≡ n
held_small largest n h = grind (arith, nat_tests)

held_large : (largest n : ℕ) → largest < n → held largest n ≡ too_large
held_large largest n h = grind (arith, nat_tests)

held_by : (base largest : ℕ) (text : List ℕ) (v : ℕ) (r : Result ℕ NumberFault) → number_read base largest text ≡ r → as_held r ≡ Some v → IsHeld base largest text v
held_by base largest text v (Ok n) read h =
    let is = number_read-Ok base largest text n read in
    record { number = n; is = is.0; counts = sym (same_some n v h) ∙ sym (held_small largest n is.1) }
held_by base largest text v (Err TooLarge) read h =
    let is = number_read-TooLarge base largest text read in
    record { number = value_of base text; is = is.0; counts = sym (same_some too_large v h) ∙ sym (held_large largest (value_of base text) is.1) }
held_by base largest text v (Err Empty) read h = absurd (cc h)
held_by base largest text v (Err (BadDigit place)) read h = absurd (cc h)

held_reads : (base largest : ℕ) (text : List ℕ) (v : ℕ) → IsHeld base largest text v → as_held (number_read base largest text) ≡ Some v
held_reads base largest text v h =
    elim (cases_lt largest h.number) [
      | inl large ↦ ap as_held (number_read-of_large base largest text h.number h.is large) ∙ ap (λ (n : ℕ). Some n) (sym (h.counts ∙ held_large largest h.number large))
      | inr small ↦ ap as_held (number_read-of_number base largest text h.number h.is small) ∙ ap (λ (n : ℕ). Some n) (sym (h.counts ∙ held_small largest h.number small))
    ]

pub octal_found : (text : List ℕ) (v : ℕ) → octal text ≡ Some v → IsOctal text v
unfolding octal
octal_found text v h = held_by 8 largest_octal text v (number_read 8 largest_octal text) refl h

pub octal_reads : (text : List ℕ) (v : ℕ) → IsOctal text v → octal text ≡ Some v
unfolding octal
octal_reads text v h = held_reads 8 largest_octal text v h

pub decimal_found : (text : List ℕ) (v : ℕ) → decimal text ≡ Some v → IsDecimal text v
unfolding decimal
decimal_found text v h = held_by 10 largest_decimal text v (number_read 10 largest_decimal text) refl h

pub decimal_reads : (text : List ℕ) (v : ℕ) → IsDecimal text v → decimal text ≡ Some v
unfolding decimal
decimal_reads text v h = held_reads 10 largest_decimal text v h

-- no byte of a number is any other than a digit
pub number_lacks : (base largest mark : ℕ) (text : List ℕ) (n : ℕ) → IsHeld base largest text n → (IsDigit base mark → ⊥) → lacks mark text ≡ true
number_lacks base largest mark text n h other =
    list_all-from_AllPass (λ b. not (b == mark)) text (λ k d l. differs _ (h.is.digits k d l))
  where
    differs : (b : ℕ) → IsDigit base b → not (b == mark) ≡ true
    differs b is = not_from_false (b == mark) (ne_eqb b mark (λ e. other (omega (arith, e, is.0), omega (arith, e, is.1))))

-- a text that begins with a number begins with a digit
pub number_starts : (text rest : List ℕ) (n : ℕ) → IsOctal text n → starts_digit (text ++ rest) ≡ true
number_starts [] rest n h = absurd (omega (arith, h.is.some))
number_starts (b ∷ more) rest n h =
    let digit = h.is.digits 0 0 (omega arith) in
    digit_passes 10 b (digit.0, omega (arith, digit.1))
