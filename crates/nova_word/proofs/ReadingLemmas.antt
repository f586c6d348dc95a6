-- What a reader of numbers computes is the one answer of its text, and what that says of numbers.
use Rattle.std.proofs.Common.{◌≡◌, ℕ, ◌+◌, ◌<◌, ◌≤◌, Bool, true, false, not, nat_le, nat_lt, cond, Option, Some, None, Result, Ok, Err, List, [], ◌∷◌, length, take, get_or, All, refl, sym, subst, ap, arith}
use Rattle.std.specs.List.{position, position_or_len}
use Rattle.std.proofs.lemmas.Bool.{and_parts, and_from, leb-true, leb-false, le-leb, ltb-true, lt-ltb}
use Rattle.std.proofs.lemmas.Bool.Decides.{nat_tests}
use Rattle.std.proofs.lemmas.List.{get_or-take, length-take-le}
use Rattle.std.proofs.lemmas.List.Elements.{All-from_get_or}
use Rattle.std.proofs.lemmas.List.Quantifiers.{position-Some}
use Rattle.std.proofs.lemmas.List.Sums.{prefix_len-le-length, fails_before_first}
use Rattle.nova_word.specs.declared.numbers.NumberFault.{NumberFault}
use Rattle.nova_word.specs.declared.numbers.NumberFault.TheVariants.{Empty, BadDigit, TooLarge}
use Rattle.nova_word.specs.Numbers.{value_of, IsDigit, IsNumber, IsFirstBad, ReadsNumber, is_digit, number_up_to, number_unless, number_read}
use Rattle.nova_word.proofs.NumberLemmas.{one_answer, number-has_no_bad}

pub digit_is : (base b : ℕ) → is_digit base b ≡ true → IsDigit base b
digit_is base b h =
    let parts = and_parts (nat_le 48 b) (nat_lt b (48 + base)) h in
    (leb-true 48 b parts.0, ltb-true b (48 + base) parts.1)

pub digit_passes : (base b : ℕ) → IsDigit base b → is_digit base b ≡ true
digit_passes base b h = and_from (nat_le 48 b) (nat_lt b (48 + base)) (le-leb 48 b h.0) (lt-ltb b (48 + base) h.1)

not-false : (p : Bool) → not p ≡ false → p ≡ true
not-false true h = refl
not-false false h = cc

not-true : (p : Bool) → not p ≡ true → p ≡ true → ⊥
not-true true h k = cc
not-true false h k = cc

-- a first place that is none is the end
end_is_first : (at end : ℕ) → at ≤ end → cond (nat_lt at end) (Some at) None ≡ None → at ≡ end
end_is_first at end within h = grind (arith, nat_tests)

-- where no byte is other than a digit, all are digits
pub all_digits : (base : ℕ) (text : List ℕ) → position (λ b. not (is_digit base b)) text ≡ None → All (IsDigit base) text
all_digits base text h =
    let first = position_or_len (λ b. not (is_digit base b)) text in
    let whole : first ≡ length text = end_is_first first (length text) (prefix_len-le-length _ text) h in
    All-from_get_or (IsDigit base) text 0 (λ k below.
    let here : k < first = omega (arith, whole) in
    digit_is base (get_or text k 0) (not-false (is_digit base (get_or text k 0)) (fails_before_first (λ b. not (is_digit base b)) text k 0 here)))

pub first_bad : (base : ℕ) (text : List ℕ) (place : ℕ) → position (λ b. not (is_digit base b)) text ≡ Some place → IsFirstBad base text place
first_bad base text place h =
    let at = position-Some (λ b. not (is_digit base b)) text place 0 h in
    record {
      within = at.0;
      digits = All-from_get_or (IsDigit base) (take place text) 0 (λ k below.
          let before : k < place = omega (arith, length-take-le place text (omega (arith, at.0))) in
          subst (IsDigit base) (sym (get_or-take place text k 0 before)) (digit_is base (get_or text k 0) (not-false (is_digit base (get_or text k 0)) (at.2 k before))));
      bad = λ digit. not-true (is_digit base (get_or text place 0)) at.1 (digit_passes base (get_or text place 0) digit);
    }

number_up_to-reads : (base largest : ℕ) (text : List ℕ) → IsNumber base text (value_of base text) → ReadsNumber base largest text (number_up_to largest (value_of base text))
number_up_to-reads base largest text is = by_size (nat_le (value_of base text) largest) refl
  where
    by_size : (small : Bool) → nat_le (value_of base text) largest ≡ small → ReadsNumber base largest text (cond small (Ok (value_of base text)) (Err TooLarge))
    by_size true h = (is, leb-true (value_of base text) largest h)
    by_size false h = (value_of base text, is, leb-false (value_of base text) largest h)

number_unless-reads : (base largest : ℕ) (text : List ℕ) (place : Option ℕ) → 0 < length text → position (λ b. not (is_digit base b)) text ≡ place
    → ReadsNumber base largest text (number_unless base largest text place)
number_unless-reads base largest text (Some place) some h = first_bad base text place h
number_unless-reads base largest text None some h = number_up_to-reads base largest text (record { some = some; digits = all_digits base text h; value = refl })

-- what is computed is an answer of the text
pub number_read-reads : (base largest : ℕ) (text : List ℕ) → ReadsNumber base largest text (number_read base largest text)
unfolding number_read
number_read-reads base largest [] = refl
number_read-reads base largest (b ∷ more) =
    number_unless-reads base largest (b ∷ more) (position (λ c. not (is_digit base c)) (b ∷ more)) (omega arith) refl

-- an answer of a text is what is computed
pub number_read-is : (base largest : ℕ) (text : List ℕ) (a : Result ℕ NumberFault) → ReadsNumber base largest text a → number_read base largest text ≡ a
number_read-is base largest text a h = one_answer base largest text (number_read base largest text) a (number_read-reads base largest text) h

pub reads_computed : (base largest : ℕ) (text : List ℕ) (a : Result ℕ NumberFault) → number_read base largest text ≡ a → ReadsNumber base largest text a
reads_computed base largest text a h = subst (ReadsNumber base largest text) h (number_read-reads base largest text)

-- Of a text of digits the number is answered, or that it is too large; and of no other text.

pub number_read-of_number : (base largest : ℕ) (text : List ℕ) (n : ℕ) → IsNumber base text n → n ≤ largest → number_read base largest text ≡ Ok n
number_read-of_number base largest text n is small = number_read-is base largest text (Ok n) (is, small)

pub number_read-of_large : (base largest : ℕ) (text : List ℕ) (n : ℕ) → IsNumber base text n → largest < n → number_read base largest text ≡ Err TooLarge
number_read-of_large base largest text n is large = number_read-is base largest text (Err TooLarge) (n, is, large)

pub number_read-Ok : (base largest : ℕ) (text : List ℕ) (n : ℕ) → number_read base largest text ≡ Ok n → IsNumber base text n × (n ≤ largest)
number_read-Ok base largest text n h = reads_computed base largest text (Ok n) h

pub number_read-TooLarge : (base largest : ℕ) (text : List ℕ) → number_read base largest text ≡ Err TooLarge → IsNumber base text (value_of base text) × (largest < value_of base text)
number_read-TooLarge base largest text h =
    let large = reads_computed base largest text (Err TooLarge) h in
    (record { some = large.1.some; digits = large.1.digits; value = refl }, omega (arith, large.1.value, large.2))

pub number_read-Empty : (base largest : ℕ) (text : List ℕ) → number_read base largest text ≡ Err Empty → (n : ℕ) → IsNumber base text n → ⊥
number_read-Empty base largest text h n is =
    let empty : text ≡ [] = reads_computed base largest text (Err Empty) h in
    omega (arith, is.some, ap length empty)

pub number_read-BadDigit : (base largest : ℕ) (text : List ℕ) (place : ℕ) → number_read base largest text ≡ Err (BadDigit place) → (n : ℕ) → IsNumber base text n → ⊥
number_read-BadDigit base largest text place h n is = number-has_no_bad base text n place is (reads_computed base largest text (Err (BadDigit place)) h)
