-- Texts of each form are read: words, operands and gaps split off a text.
use Rattle.std.specs.Prelude.{not}
use Rattle.std.proofs.Common.{◌≡◌, ℕ, ◌+◌, ◌<◌, ◌≤◌, suc, Bool, true, false, ◌&&◌, ◌||◌, cond, eqb, Option, Some, None, Ok, List, [], ◌∷◌, ◌++◌, length, take, drop, All, refl, ap, sym, subst, ◌∙◌, inl, inr, arith, append_assoc}
use Rattle.std.specs.Char.{to_ascii_uppercase}
use Rattle.std.specs.List.{position, position_or_len}
use Rattle.std.specs.Str.{bytes_eq, str_to_ascii_uppercase}
use Rattle.std.proofs.lemmas.Bool.{eqb-true, and_from, and_parts}
use Rattle.std.proofs.lemmas.Bool.Decides.{nat_tests}
use Rattle.std.proofs.lemmas.List.{take_at, drop_at}
use Rattle.std.proofs.lemmas.List.Elements.{All-head, All-tail}
use Rattle.nova_word.specs.Numbers.{IsNumber, IsDigit}
use Rattle.line_text.specs.Words.{is_blank, word_at, past_blanks, IsBlank, IsBlanks}
use Rattle.nova_symbols.specs.Names.{entry}
use Rattle.nova_symbols.specs.Naming.{name_place}
use Rattle.nova_symbols.specs.Operands.{is_separator, operand_at, behind_comma, after_comma, number}
use Rattle.nova_symbols.specs.Forms.{IsEntry, IsGap}
use Rattle.nova_symbols.proofs.OctalLemmas.{number_fits}
use Rattle.nova_symbols.proofs.CanonLemmas.{every, every_at}
use Rattle.line_text.proofs.BlankLemmas.{is_other, split_at_place, blank_passes}

-- no byte of a text passes
abbrev pub free : (ℕ → Bool) → List ℕ → Bool
free p [] = true
free p (b ∷ more) = not (p b) && free p more

-- a text that begins with a byte that passes, or is empty
abbrev pub StartsWith : (ℕ → Bool) → List ℕ → Type 0
StartsWith p [] = Unit {0}
StartsWith p (b ∷ more) = p b ≡ true

pub place_behind : (p : ℕ → Bool) (part rest : List ℕ) → free p part ≡ true → StartsWith p rest → position_or_len p (part ++ rest) ≡ length part
place_behind p [] [] none starts = refl
place_behind p [] (b ∷ more) none starts = ap (λ (c : Bool). cond (not c) (1 + position_or_len p more) 0) starts
place_behind p (b ∷ more) rest none starts =
    let parts = and_parts (not (p b)) (free p more) none in
    let further = place_behind p more rest parts.1 starts in
    let one : 1 + position_or_len p (more ++ rest) ≡ suc (length more) = omega (arith, further) in
    ap (λ (c : Bool). cond c (1 + position_or_len p (more ++ rest)) 0) parts.0 ∙ one

pub operand_split : (part rest : List ℕ) → free is_separator part ≡ true → StartsWith is_separator rest → operand_at (part ++ rest) ≡ (part, rest)
unfolding operand_at
operand_split part rest none starts = split_at_place part rest (position_or_len is_separator (part ++ rest)) (place_behind is_separator part rest none starts)

pub word_split : (part rest : List ℕ) → free is_blank part ≡ true → StartsWith is_blank rest → word_at (part ++ rest) ≡ (part, rest)
unfolding word_at
word_split part rest none starts = split_at_place part rest (position_or_len is_blank (part ++ rest)) (place_behind is_blank part rest none starts)

blanks_free : (blanks : List ℕ) → IsBlanks blanks → free is_other blanks ≡ true
blanks_free [] are = refl
blanks_free (b ∷ more) are =
    let here : not (is_other b) ≡ true = ap (λ (c : Bool). not (not c)) (blank_passes b (All-head IsBlank b more are)) in
    and_from (not (is_other b)) (free is_other more) here (blanks_free more (All-tail IsBlank b more are))

pub past_blanks_split : (blanks rest : List ℕ) → IsBlanks blanks → StartsWith is_other rest → past_blanks (blanks ++ rest) ≡ rest
unfolding past_blanks
past_blanks_split blanks rest are starts =
    drop_at blanks rest (position_or_len is_other (blanks ++ rest)) (sym (place_behind is_other blanks rest (blanks_free blanks are) starts))

pub starts_blank : (blanks rest : List ℕ) → IsBlanks blanks → 0 < length blanks → StartsWith is_blank (blanks ++ rest)
starts_blank [] rest are some = absurd (omega arith)
starts_blank (b ∷ more) rest are some = blank_passes b (All-head IsBlank b more are)

-- a comma with blanks round it, and the text behind it
pub after_gap : (gap next : List ℕ) → IsGap gap → StartsWith is_other next → after_comma (gap ++ next) ≡ Some next
unfolding after_comma
after_gap gap next is starts =
    let spelled : gap ++ next ≡ is.before ++ (44 ∷ (is.after ++ next)) = ap (λ (t : List ℕ). t ++ next) is.spelled ∙ append_assoc is.before (44 ∷ is.after) next in
    let behind = past_blanks_split is.after next is.blank_after starts in
    ap (λ (t : List ℕ). behind_comma (past_blanks t)) spelled ∙ ap behind_comma (past_blanks_split is.before (44 ∷ (is.after ++ next)) is.blank_before refl) ∙ ap (λ (t : List ℕ). Some t) behind

pub blank_separates : (b : ℕ) → is_blank b ≡ true → is_separator b ≡ true
blank_separates b h = ap (λ (c : Bool). c || eqb b 44) h

starts_comma : (before after : List ℕ) → IsBlanks before → StartsWith is_separator (before ++ 44 ∷ after)
starts_comma [] after are = refl
starts_comma (b ∷ more) after are = blank_separates b (blank_passes b (All-head IsBlank b more are))

pub starts_gap : (gap next : List ℕ) → IsGap gap → StartsWith is_separator (gap ++ next)
starts_gap gap next is =
    let spelled : gap ++ next ≡ is.before ++ (44 ∷ (is.after ++ next)) = ap (λ (t : List ℕ). t ++ next) is.spelled ∙ append_assoc is.before (44 ∷ is.after) next in
    subst (StartsWith is_separator) (sym spelled) (starts_comma is.before (is.after ++ next) is.blank_before)

separates : (b : ℕ) → not (is_separator b) ≡ true → is_other b ≡ true
separates b h = elim (is_blank b) as (λ (c : Bool). not (c || eqb b 44) ≡ true → not c ≡ true) [ true ↦ λ k. cc | false ↦ λ k. refl ] h

pub starts_other : (part rest : List ℕ) → free is_separator part ≡ true → 0 < length part → StartsWith is_other (part ++ rest)
starts_other [] rest none some = absurd (omega arith)
starts_other (b ∷ more) rest none some =
    let parts = and_parts (not (is_separator b)) (free is_separator more) none in
    separates b parts.0

-- numbers

digit_free : (b : ℕ) → IsDigit 8 b → not (is_separator b) ≡ true
digit_free b h = grind (arith, nat_tests, h.0, h.1)

digits_free : (text : List ℕ) → All (IsDigit 8) text → free is_separator text ≡ true
digits_free [] h = refl
digits_free (b ∷ more) h =
    and_from (not (is_separator b)) (free is_separator more) (digit_free b (All-head (IsDigit 8) b more h)) (digits_free more (All-tail (IsDigit 8) b more h))

pub number_free : (text : List ℕ) (n : ℕ) → IsNumber 8 text n → free is_separator text ≡ true
number_free text n is = digits_free text is.digits

pub number_reads : (largest : ℕ) (digits : List ℕ) (field own n : ℕ) → IsNumber 8 digits n → n ≤ largest → largest ≤ 255 → number largest digits field own ≡ Ok n
number_reads largest digits field own n is small bound = number_fits largest digits field own n (is, omega arith) small

-- names in either case

upper_separator : (b : ℕ) → is_separator b ≡ is_separator (to_ascii_uppercase b)
upper_separator b = grind (arith, nat_tests)

upper_blank : (b : ℕ) → is_blank b ≡ is_blank (to_ascii_uppercase b)
upper_blank b = grind (arith, nat_tests)

upper_free : (p : ℕ → Bool) (text : List ℕ) → ((b : ℕ) → p b ≡ p (to_ascii_uppercase b)) → free p text ≡ free p (str_to_ascii_uppercase text)
upper_free p [] same = refl
upper_free p (b ∷ more) same =
    let n = free p more in
    ap (λ (c : Bool). not c && n) (same b) ∙ ap (λ (c : Bool). not (p (to_ascii_uppercase b)) && c) (upper_free p more same)

pub spelled_free : (text capitals : List ℕ) → str_to_ascii_uppercase text ≡ capitals → free is_separator capitals ≡ true → free is_separator text ≡ true
spelled_free text capitals same none = upper_free is_separator text upper_separator ∙ ap (free is_separator) same ∙ none

pub spelled_word : (text capitals : List ℕ) → str_to_ascii_uppercase text ≡ capitals → free is_blank capitals ≡ true → free is_blank text ≡ true
spelled_word text capitals same none = upper_free is_blank text upper_blank ∙ ap (free is_blank) same ∙ none

abbrev pub is_place : Option ℕ → ℕ → Bool
is_place (Some j) k = eqb j k
is_place None k = false

place_is : (o : Option ℕ) (k : ℕ) → is_place o k ≡ true → o ≡ Some k
place_is (Some j) k h = ap (λ (n : ℕ). Some n) (eqb-true j k h)
place_is None k h = cc

-- each name of a table stands there once
abbrev pub are_apart : List (List ℕ) → Bool
are_apart table = every (length table) (λ k. is_place (position (λ name. bytes_eq name (entry table k)) table) k)

abbrev pub are_free : List (List ℕ) → Bool
are_free table = every (length table) (λ k. free is_separator (entry table k))

pub entry_place : (table : List (List ℕ)) (text : List ℕ) (k : ℕ) → IsEntry table text k → are_apart table ≡ true → name_place table text ≡ Some k
entry_place table text k is apart =
    let at : ℕ → Bool = λ k. is_place (position (λ name. bytes_eq name (entry table k)) table) k in
    ap (λ (t : List ℕ). position (λ name. bytes_eq name t) table) is.spelled ∙ place_is (position (λ name. bytes_eq name (entry table k)) table) k (every_at (length table) at k apart is.within)

pub entry_free : (table : List (List ℕ)) (text : List ℕ) (k : ℕ) → IsEntry table text k → are_free table ≡ true → free is_separator text ≡ true
entry_free table text k is none =
    spelled_free text (entry table k) is.spelled (every_at (length table) (λ k. free is_separator (entry table k)) k none is.within)
