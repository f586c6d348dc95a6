-- Laws of the lines of a script.
use Rattle.std.proofs.Common.{◌≡◌, ℕ, ◌+◌, ◌-◌, ◌<◌, ◌≤◌, ◌==◌, Bool, true, false, not, cond, ltb, Some, None, List, []}
use Rattle.std.proofs.Common.{◌∷◌}
use Rattle.std.proofs.Common.{length, take, drop, refl, sym, ap, ◌∙◌, arith, unwrap_or}
use Rattle.std.specs.List.{position, position_or_len}
use Rattle.std.proofs.lemmas.List.Sums.{prefix_len-le-length}
use Rattle.std.proofs.lemmas.List.Folds.{length-prefix_len}
use Rattle.std.proofs.lemmas.Bool.Decides.{nat_tests}
use Rattle.std.proofs.Common.{suc, nat_eq, min, get_or, if◌then◌else◌}
use Rattle.std.proofs.lemmas.List.Sums.{prefix_len_is, prefix_len_passes, prefix_len_stops}
use Rattle.std.proofs.lemmas.List.{get_or-take, take-take, length-take, length-drop}
use Rattle.script_text.specs.Lines.{first_line, has_lf, without_cr, command_line, behind_line, lines_of, with_front}
use Rattle.line_text.proofs.PlaceLemmas.{some_or_end}

pub length-first_line : (s : List ℕ) → length (first_line s) ≡ position_or_len (λ b. b == 10) s
length-first_line s = length-prefix_len _ s

pub first_line_within : (s : List ℕ) → length (first_line s) ≤ length s
first_line_within s = omega (arith, length-first_line s, prefix_len-le-length (λ b. not (b == 10)) s)

pub place_or_end : (s : List ℕ) → unwrap_or (position (λ b. b == 10) s) (length s) ≡ length (first_line s)
place_or_end s =
    some_or_end (position_or_len (λ b. b == 10) s) (length s) (prefix_len-le-length _ s) ∙ sym (length-first_line s)

-- the first of the lines of a script, and the others

one_more : (n : ℕ) → 1 + n + 1 ≡ suc (n + 1)
one_more n = omega arith

first_of : (s : List ℕ) → 0 < length s →
    lines_of s
    ≡ take (position_or_len (λ b. b == 10) s + 1) s ∷ lines_of (drop (position_or_len (λ b. b == 10) s + 1) s)
unfolding lines_of
first_of [] some = absurd (omega arith)
first_of (b ∷ []) some =
    elim (b == 10) as (λ t. (if t then (b ∷ []) ∷ [] else (b ∷ []) ∷ [])
    ≡ take (cond (not t) (1 + 0) 0 + 1) (b ∷ []) ∷ lines_of (drop (cond (not t) (1 + 0) 0 + 1) (b ∷ []))) [
      | true ↦ refl
      | false ↦ refl
    ]
first_of (b ∷ c ∷ rest) some =
    let n = position_or_len (λ b. b == 10) (c ∷ rest) in
    let later = first_of (c ∷ rest) (omega arith) in
    elim (b == 10) as (λ t. (if t then (b ∷ []) ∷ lines_of (c ∷ rest) else with_front b (lines_of (c ∷ rest)))
    ≡ take (cond (not t) (1 + n) 0 + 1) (b ∷ c ∷ rest) ∷ lines_of (drop (cond (not t) (1 + n) 0 + 1) (b ∷ c ∷ rest))) [
      | true ↦ refl
      | false ↦ ap (with_front b) later
          ∙ ap (λ (k : ℕ). take k (b ∷ c ∷ rest) ∷ lines_of (drop k (b ∷ c ∷ rest))) (sym (one_more n))
    ]

pub lines_first : (s : List ℕ) → 0 < length s →
    lines_of s ≡ take (length (first_line s) + 1) s ∷ lines_of (behind_line s)
lines_first s some =
    first_of s some ∙ ap (λ (n : ℕ). take (n + 1) s ∷ lines_of (drop (n + 1) s)) (sym (length-first_line s))

-- the first line as it stands in a script has the same text

same_end : (s : List ℕ) (n : ℕ) → n ≡ position_or_len (λ b. b == 10) s →
    position_or_len (λ b. b == 10) (take (n + 1) s) ≡ n
same_end s n is =
    let p = λ (b : ℕ). not (b == 10) in
    prefix_len_is p (take (n + 1) s) n 0 (omega (arith, length-take (n + 1) s, prefix_len-le-length p s))
    (λ k below. ap p (get_or-take (n + 1) s k 0 (omega arith)) ∙ prefix_len_passes p s k 0 (omega arith))
    (λ before. ap p (get_or-take (n + 1) s n 0 (omega arith)) ∙ ap (λ (k : ℕ). p (get_or s k 0)) is
    ∙ prefix_len_stops p s 0 (omega (arith, length-take (n + 1) s)))

first_line-taken : (s : List ℕ) → first_line (take (length (first_line s) + 1) s) ≡ first_line s
first_line-taken s =
    let n = length (first_line s) in
    ap (λ (k : ℕ). take k (take (n + 1) s)) (same_end s n (length-first_line s)) ∙ take-take n (n + 1) s (omega arith)
    ∙ ap (λ (k : ℕ). take k s) (length-first_line s)

same_test : (n all : ℕ) → n ≤ all → not (nat_eq n (min (n + 1) all)) ≡ not (nat_eq n all)
same_test n all within = grind (arith, nat_tests)

has_lf-taken : (s : List ℕ) → has_lf (take (length (first_line s) + 1) s) ≡ has_lf s
has_lf-taken s =
    let n = length (first_line s) in
    ap (λ (x : List ℕ). not (nat_eq (length x) (length (take (n + 1) s)))) (first_line-taken s)
    ∙ ap (λ (k : ℕ). not (nat_eq n k)) (length-take (n + 1) s) ∙ same_test n (length s) (first_line_within s)

pub command_line-taken : (s : List ℕ) → command_line (take (length (first_line s) + 1) s) ≡ command_line s
command_line-taken s =
    let line = take (length (first_line s) + 1) s in
    ap (λ (t : Bool). if t then without_cr (first_line line) else first_line line) (has_lf-taken s)
    ∙ ap (λ (x : List ℕ). if has_lf s then without_cr x else x) (first_line-taken s)

-- the line and what is behind it are the whole
pub length-taken : (s : List ℕ) → length (take (length (first_line s) + 1) s) ≡ length s - length (behind_line s)
length-taken s = let n = length (first_line s) in omega (arith, length-take (n + 1) s, length-drop (n + 1) s)
