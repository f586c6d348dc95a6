-- What a reader of octal numbers answered, as a number up to a largest one.
use Rattle.std.proofs.Common.{◌≡◌, ℕ, ◌<◌, ◌≤◌, Bool, true, false, ◌&&◌, ltb, leb, Ok, Err, List, [], ◌∷◌, length, All, refl, ap, arith}
use Rattle.std.specs.List.{list_all}
use Rattle.std.proofs.lemmas.Bool.{ltb-true, leb-true}
use Rattle.std.proofs.lemmas.List.Folds.{list_all_at}
use Rattle.std.proofs.lemmas.List.Elements.{All-head, All-tail}
use Rattle.std.proofs.lemmas.Bool.Decides.{nat_tests}
use Rattle.nova_word.specs.declared.numbers.NumberFault.TheVariants as word
use Rattle.nova_word.specs.Numbers.{IsDigit, IsNumber, IsFirstBad, ReadsNumber}
use Rattle.nova_symbols.specs.declared.fault.SymbolFault.TheVariants.{BadField, OutOfRange}
use Rattle.nova_symbols.specs.Operands.{is_octal, is_octal_digit, number}

digit_passes : (b : ℕ) → IsDigit 8 b → is_octal_digit b ≡ true
digit_passes b h = grind (arith, nat_tests, h.0, h.1)

digits_pass : (text : List ℕ) → All (IsDigit 8) text → list_all is_octal_digit text ≡ true
digits_pass [] h = refl
digits_pass (b ∷ more) h =
    let here = digit_passes b (All-head (IsDigit 8) b more h) in
    let rest = digits_pass more (All-tail (IsDigit 8) b more h) in
    cc

pub is_octal-number : (text : List ℕ) (n : ℕ) → IsNumber 8 text n → is_octal text ≡ true
unfolding is_octal
is_octal-number text n h =
    let all = digits_pass text h.digits in
    let some = h.some in
    grind (arith, nat_tests)

-- two tests of which not both pass
decided : (p q : Bool) → (p ≡ true → q ≡ true → ⊥) → (p && q) ≡ false
decided true true h = absurd (h refl refl)
decided true false h = refl
decided false q h = refl

other_fails : (b : ℕ) → (IsDigit 8 b → ⊥) → is_octal_digit b ≡ false
other_fails b h = decided (leb 48 b) (ltb b 56) (λ low high. h (leb-true 48 b low, ltb-true b 56 high))

pub is_octal-bad : (text : List ℕ) (place : ℕ) → IsFirstBad 8 text place → is_octal text ≡ false
unfolding is_octal
is_octal-bad text place h =
    let all = list_all_at is_octal_digit text place 0 h.within (other_fails _ h.bad) in
    grind (arith, nat_tests)

-- what the reader answered, as a number up to a largest one
pub number_fits : (largest : ℕ) (digits : List ℕ) (field own n : ℕ) → ReadsNumber 8 4294967295 digits (Ok n) → n ≤ largest → number largest digits field own ≡ Ok n
unfolding number
number_fits largest digits field own n h small =
    let octal = is_octal-number digits n h.0 in
    let value = h.0.value in
    grind (arith, nat_tests)

pub number_above : (largest : ℕ) (digits : List ℕ) (field own n : ℕ) → ReadsNumber 8 4294967295 digits (Ok n) → largest < n → number largest digits field own ≡ Err (OutOfRange own)
unfolding number
number_above largest digits field own n h large =
    let octal = is_octal-number digits n h.0 in
    let value = h.0.value in
    grind (arith, nat_tests)

pub number_too_large : (largest : ℕ) (digits : List ℕ) (field own : ℕ) → ReadsNumber 8 4294967295 digits (Err word.TooLarge) → largest ≤ 4294967295 → number largest digits field own ≡ Err (OutOfRange own)
unfolding number
number_too_large largest digits field own h fits =
    let octal = is_octal-number digits h.0 h.1 in
    let value = h.1.value in
    let above = h.2 in
    grind (arith, nat_tests)

pub number_bad : (largest : ℕ) (digits : List ℕ) (field own place : ℕ) → ReadsNumber 8 4294967295 digits (Err (word.BadDigit place)) → number largest digits field own ≡ Err (BadField field)
unfolding number
number_bad largest digits field own place h =
    let octal = is_octal-bad digits place h in
    grind (arith, nat_tests)

pub number_empty : (largest : ℕ) (digits : List ℕ) (field own : ℕ) → ReadsNumber 8 4294967295 digits (Err word.Empty) → number largest digits field own ≡ Err (BadField field)
unfolding number is_octal
number_empty largest digits field own h =
    let none : length digits ≡ 0 = ap length h in
    grind (arith, nat_tests)
