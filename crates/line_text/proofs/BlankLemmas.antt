-- Blanks, and where a text is split at them.
use Rattle.std.specs.Prelude.{not}
use Rattle.std.proofs.Common.{◌≡◌, ℕ, ◌≤◌, ◌<◌, Bool, true, false, List, ◌++◌, length, take, drop, get_or, All, eqb, ◌⊎◌, inl, inr, refl, ap, sym, subst, ◌∙◌, arith}
use Rattle.std.specs.List.{position_or_len}
use Rattle.std.proofs.lemmas.Bool.{eqb-true, or_cases, not-false}
use Rattle.std.proofs.lemmas.List.{take-append-drop, take_at, drop_at, get_or-take, length-take-le, length-drop}
use Rattle.std.proofs.lemmas.List.Sums.{prefix_len-le-length, fails_before_first}
use Rattle.line_text.specs.Words.{IsBlank, IsBlanks, is_blank, past_blanks, word_at}

pub blank_is : (b : ℕ) → is_blank b ≡ true → IsBlank b
blank_is b h = elim (or_cases (eqb b 32) (eqb b 9) h) [ inl space ↦ inl (eqb-true b 32 space) | inr tab ↦ inr (eqb-true b 9 tab) ]

pub blank_passes : (b : ℕ) → IsBlank b → is_blank b ≡ true
blank_passes b h =
    elim h [
      | inl space ↦ subst (λ (c : ℕ). is_blank c ≡ true) (sym space) refl
      | inr tab ↦ subst (λ (c : ℕ). is_blank c ≡ true) (sym tab) refl
    ]

abbrev pub is_other : ℕ → Bool
is_other b = not (is_blank b)

-- no byte before the first one that passes does
pub none_before_place : (p : ℕ → Bool) (text : List ℕ) → All (λ b. p b ≡ false) (take (position_or_len p text) text)
none_before_place p text = λ k d below.
    let n = position_or_len p text in
    let long : length (take n text) ≡ n = length-take-le n text (prefix_len-le-length (λ b. not (p b)) text) in
    let early : k < n = omega (arith, long, below) in
    subst (λ (b : ℕ). p b ≡ false) (sym (get_or-take n text k d early)) (fails_before_first p text k d early)

-- the blanks in front of a text, and the rest
pub record Blanked (text : List ℕ) : Type 0 where
  pub blanks : List ℕ
  pub are : IsBlanks blanks
  pub spelled : text ≡ blanks ++ past_blanks text

pub blanked : (text : List ℕ) → Blanked text
unfolding past_blanks
blanked text =
    let n = position_or_len is_other text in
    let none = none_before_place is_other text in
    record {
      blanks = take n text;
      are = λ k d below. blank_is (get_or (take n text) k d) (not-false (is_blank (get_or (take n text) k d)) (none k d below));
      spelled = sym (take-append-drop n text);
    }

pub past_shorter : (text : List ℕ) → length (past_blanks text) ≤ length text
unfolding past_blanks
past_shorter text = omega (arith, length-drop (position_or_len (λ b. not (is_blank b)) text) text)

pub split_at_place : (part rest : List ℕ) (n : ℕ) → n ≡ length part → ◌≡◌ {A = List ℕ × List ℕ} (take n (part ++ rest), drop n (part ++ rest)) (part, rest)
split_at_place part rest n is =
    ap (λ (t : List ℕ). (t, drop n (part ++ rest))) (take_at part rest n (sym is)) ∙ ap (λ (t : List ℕ). (part, t)) (drop_at part rest n (sym is))

pub word_parts : (text : List ℕ) → text ≡ (word_at text).0 ++ (word_at text).1
unfolding word_at
word_parts text = sym (take-append-drop (position_or_len is_blank text) text)
