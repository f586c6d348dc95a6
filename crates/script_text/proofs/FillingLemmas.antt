-- Laws of lines with their arguments filled in.
use Rattle.std.proofs.Common.{◌≡◌, ℕ, ◌+◌, ◌<◌, ◌≤◌, ◌==◌, ◌&&◌, Bool, true, false, suc, nat_le, List, [], ◌∷◌, ◌++◌}
use Rattle.std.proofs.Common.{length, take, drop, get_or, refl, sym, ap, ◌∙◌, arith}
use Rattle.std.proofs.Common.{if◌then◌else◌, Some, None}
use Rattle.std.proofs.lemmas.List.{append_assoc, length-append, append-nil, drop-drop, drop_all}
use Rattle.std.proofs.lemmas.Bool.Decides.{nat_tests}
use Rattle.script_text.specs.Filling.{is_name, named_text, filled, begins_named}

-- the test of a text of two bytes at least
two_bytes : (n a b : ℕ) → (nat_le 2 (suc (suc n)) && a == 37 && is_name b) ≡ (a == 37 && is_name b)
two_bytes n a b = grind (arith, nat_tests)

-- the first bytes of a line, which stand for something together, and what is behind them
pub named_first : (arguments : List (List ℕ)) (s : List ℕ) → begins_named s ≡ true →
    filled arguments s ≡ named_text arguments (get_or s 1 0) ++ filled arguments (drop 2 s)
unfolding filled
named_first arguments [] begins = cc
named_first arguments (a ∷ []) begins = cc
named_first arguments (a ∷ b ∷ rest) begins =
    ap (λ (t : Bool). if t then named_text arguments b ++ filled arguments rest else a ∷ filled arguments (b ∷ rest))
    (sym (two_bytes (length rest) a b) ∙ begins)

-- a first byte that stands for itself
pub plain_first : (arguments : List (List ℕ)) (s : List ℕ) → 0 < length s → begins_named s ≡ false →
    filled arguments s ≡ take 1 s ++ filled arguments (drop 1 s)
unfolding filled
plain_first arguments [] some begins = absurd (omega arith)
plain_first arguments (a ∷ []) some begins = refl
plain_first arguments (a ∷ b ∷ rest) some begins =
    ap (λ (t : Bool). if t then named_text arguments b ++ filled arguments rest else a ∷ filled arguments (b ∷ rest))
    (sym (two_bytes (length rest) a b) ∙ begins)

pub filled_none : (arguments : List (List ℕ)) → filled arguments [] ≡ []
unfolding filled
filled_none arguments = refl

-- a line that is filled up to a place, with one piece more
pub filled_more : (arguments : List (List ℕ)) (line text piece : List ℕ) (place width : ℕ) →
    text ++ filled arguments (drop place line) ≡ filled arguments line →
    filled arguments (drop place line) ≡ piece ++ filled arguments (drop width (drop place line)) →
    (text ++ piece) ++ filled arguments (drop (place + width) line) ≡ filled arguments line
filled_more arguments line text piece place width whole next =
    append_assoc text piece (filled arguments (drop (place + width) line))
    ∙ ap (λ (x : List ℕ). text ++ (piece ++ filled arguments x)) (sym (drop-drop width place line))
    ∙ ap (λ (x : List ℕ). text ++ x) (sym next) ∙ whole

-- a line that is filled to its end
pub filled_whole : (arguments : List (List ℕ)) (line text : List ℕ) (place : ℕ) →
    text ++ filled arguments (drop place line) ≡ filled arguments line → length line ≤ place →
    text ≡ filled arguments line
filled_whole arguments line text place whole past =
    sym (append-nil text) ∙ ap (λ (x : List ℕ). text ++ x) (sym (filled_none arguments))
    ∙ ap (λ (x : List ℕ). text ++ filled arguments x) (sym (drop_all place line past)) ∙ whole

-- a piece with which a line becomes too long
pub filled_longer : (arguments : List (List ℕ)) (line text piece : List ℕ) (place width most : ℕ) →
    text ++ filled arguments (drop place line) ≡ filled arguments line →
    filled arguments (drop place line) ≡ piece ++ filled arguments (drop width (drop place line)) →
    most < length text + length piece → most < length (filled arguments line)
filled_longer arguments line text piece place width most whole next long =
    omega (
      arith,
      ap length whole,
      ap length next,
      length-append text (filled arguments (drop place line)),
      length-append piece (filled arguments (drop width (drop place line))),
    )

-- what is answered of a line that fits, and of one that does not

fits_itself : (most : ℕ) (all : List ℕ) → length all ≤ most →
    Some all ≡ (if nat_le (length all) most then Some all else None)
fits_itself most all few = grind (arith, nat_tests)

pub fits : (most : ℕ) (text all : List ℕ) → text ≡ all → length text ≤ most →
    Some text ≡ (if nat_le (length all) most then Some all else None)
fits most text all same few =
    ap (λ (x : List ℕ). Some x) same ∙ fits_itself most all (omega (arith, ap length same))

pub too_long : (most : ℕ) (all : List ℕ) → most < length all →
    None ≡ (if nat_le (length all) most then Some all else None)
too_long most all long = grind (arith, nat_tests)
