-- Accumulators that hold words hold words behind each instruction.
use Rattle.std.proofs.Common.{◌≡◌, ℕ, ◌+◌, ◌*◌, ◌/◌, ◌%◌, ◌^◌, ◌<◌, zero, suc, Bool, List, [], ◌∷◌, length, slice_index, refl, ◌∙◌, arith}
use Rattle.std.specs.Prelude.{slice_set}
use Rattle.std.specs.List.{AllByRecursion}
use Rattle.std.proofs.lemmas.Bool.{cond_both, leb-false}
use Rattle.std.proofs.lemmas.List.{length-set}
use Rattle.std.proofs.lemmas.List.Elements.{All-set, All-from_recursion, recursion_from_All}
use Rattle.std.proofs.lemmas.Nat.{div_below}
use Rattle.nova_word.specs.Bits.{bits}
use Rattle.nova_alu.specs.Arithmetic.{loads, result_of, shifted_number, loaded_accumulators}
use Rattle.nova_alu.specs.MultiplyDivide.{double_word, product, multiplied, divide_overflows, divided}

-- each of them is a word of 16 bits
abbrev pub AreWords : List ℕ → Type 0
AreWords acs = AllByRecursion (λ (w : ℕ). w < 2 ^ 16) acs

pub word-held : (acs : List ℕ) (i : ℕ) → AreWords acs → slice_index acs i < 2 ^ 16
word-held [] i words = omega arith
word-held (a ∷ acs) zero words = words.0
word-held (a ∷ acs) (suc i) words = word-held acs i words.1

pub words-set : (acs : List ℕ) (i w : ℕ) → w < 2 ^ 16 → AreWords acs → AreWords (slice_set acs i w)
words-set acs i w word words =
    let P : ℕ → Type 0 = λ (n : ℕ). n < 2 ^ 16 in
    recursion_from_All P (slice_set acs i w) (All-set P acs i w word (All-from_recursion P acs words))

-- there are as many, and each is a word
pub record Keeps (before after : List ℕ) : Type 0 where
  pub many : length after ≡ length before
  pub words : AreWords after

pub keeps-set : (acs : List ℕ) (i w : ℕ) → w < 2 ^ 16 → AreWords acs → Keeps acs (slice_set acs i w)
keeps-set acs i w word words = record { many = length-set acs i w; words = words-set acs i w word words }

keeps-two : (acs : List ℕ) (v w : ℕ) → v < 2 ^ 16 → w < 2 ^ 16 → AreWords acs → Keeps acs (slice_set (slice_set acs 0 v) 1 w)
keeps-two acs v w first second words = record {
  many = length-set (slice_set acs 0 v) 1 w ∙ length-set acs 0 v;
  words = words-set (slice_set acs 0 v) 1 w second (words-set acs 0 v first words);
}

pub loaded-keeps : (word : ℕ) (acs : List ℕ) (carry : Bool) → AreWords acs → Keeps acs (loaded_accumulators word acs carry)
unfolding loaded_accumulators
loaded-keeps word acs carry words =
    cond_both (loads word) (slice_set acs (bits 3 4 word) (result_of (shifted_number word acs carry))) acs (Keeps acs)
    (λ _. keeps-set acs (bits 3 4 word) (result_of (shifted_number word acs carry)) (omega arith) words) (λ _. record { many = refl; words = words })

-- a product of two words and a word have 32 bits
product-high : (x y z : ℕ) → x < 2 ^ 16 → y < 2 ^ 16 → z < 2 ^ 16 → (x * y + z) / 2 ^ 16 < 2 ^ 16
product-high x y z first second third = grind arith

pub multiplied-keeps : (acs : List ℕ) → AreWords acs → Keeps acs (multiplied acs)
unfolding multiplied
multiplied-keeps acs words =
    keeps-two acs (product acs / 2 ^ 16) (product acs % 2 ^ 16)
    (product-high (slice_index acs 1) (slice_index acs 2) (slice_index acs 0) (word-held acs 1 words) (word-held acs 2 words) (word-held acs 0 words)) (omega arith) words

-- a quotient is a word where the divisor is above the high word
quotient-word : (high low by : ℕ) → high < by → low < 2 ^ 16 → (2 ^ 16 * high + low) / by < 2 ^ 16
quotient-word high low by above word = div_below (2 ^ 16 * high + low) by (2 ^ 16) (omega arith) (omega arith)

remainder-word : (n by : ℕ) → 0 < by → by < 2 ^ 16 → n % by < 2 ^ 16
remainder-word n by some word = omega arith

pub divided-keeps : (acs : List ℕ) → AreWords acs → Keeps acs (divided acs)
unfolding divided
divided-keeps acs words =
    let dividend = double_word acs in
    let by = slice_index acs 2 in
    let word : by < 2 ^ 16 = word-held acs 2 words in
    cond_both (divide_overflows acs) acs (slice_set (slice_set acs 0 (dividend % by)) 1 (dividend / by)) (Keeps acs) (λ _. record { many = refl; words = words })
    (λ fits.
    let above : slice_index acs 0 < by = leb-false by (slice_index acs 0) fits in
    keeps-two acs (dividend % by) (dividend / by) (remainder-word dividend by (omega arith) word)
    (quotient-word (slice_index acs 0) (slice_index acs 1) by above (word-held acs 1 words)) words)
