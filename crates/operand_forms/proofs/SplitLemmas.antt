-- Texts split at the first byte of a kind.
use Rattle.std.specs.Prelude.{not}
use Rattle.std.proofs.Common.{◌≡◌, ℕ, ◌+◌, ◌<◌, Bool, true, false, ◌==◌, List, [], ◌∷◌, ◌++◌, length, drop, refl, ap, sym, ◌∙◌, arith, append_assoc, length-append, length-drop}
use Rattle.std.specs.List.{list_all, before_first, after_first, position_or_len}
use Rattle.std.proofs.lemmas.Bool.{and_parts, and_right, eqb-true, ltb-true, le-ltb, lt-ltb}
use Rattle.std.proofs.lemmas.List.{take_at, drop_at}
use Rattle.std.proofs.lemmas.List.Sums.{split_at_first, passes_at_first}
use Rattle.operand_forms.specs.Operands.{front, behind, has_mark}
use Rattle.operand_forms.proofs.SpellingLemmas.{lacks}

-- the first byte that passes behind bytes that do not
pub first_place : (p : ℕ → Bool) (text rest : List ℕ) (b : ℕ) → list_all (λ c. not (p c)) text ≡ true → p b ≡ true → position_or_len p (text ++ b ∷ rest) ≡ length text
first_place p [] rest b none passes = rw passes refl
first_place p (c ∷ text) rest b none passes =
    let parts = and_parts (not (p c)) (list_all (λ c. not (p c)) text) none in
    let more = first_place p text rest b parts.1 passes in
    rw (parts.0, more) (omega arith)

pub no_place : (p : ℕ → Bool) (text : List ℕ) → list_all (λ c. not (p c)) text ≡ true → position_or_len p text ≡ length text
no_place p [] none = refl
no_place p (c ∷ text) none =
    let parts = and_parts (not (p c)) (list_all (λ c. not (p c)) text) none in
    let more = no_place p text parts.1 in
    rw (parts.0, more) (omega arith)

same_mark : (mark : ℕ) → (mark == mark) ≡ true
same_mark mark = grind arith

pub front_is : (mark : ℕ) (text rest : List ℕ) → lacks mark text ≡ true → front mark (text ++ mark ∷ rest) ≡ text
front_is mark text rest none =
    take_at text (mark ∷ rest) (position_or_len (λ b. b == mark) (text ++ mark ∷ rest)) (sym (first_place (λ b. b == mark) text rest mark none (same_mark mark)))

pub behind_is : (mark : ℕ) (text rest : List ℕ) → lacks mark text ≡ true → behind mark (text ++ mark ∷ rest) ≡ rest
behind_is mark text rest none =
    ap (λ n. drop (n + 1) (text ++ mark ∷ rest)) (first_place (λ b. b == mark) text rest mark none (same_mark mark))
    ∙ ap (λ l. drop (length text + 1) l) (sym (append_assoc text (mark ∷ []) rest))
    ∙ drop_at (text ++ mark ∷ []) rest (length text + 1) (length-append text (mark ∷ []))

-- a text in which the mark stands
pub split_at : (mark : ℕ) (text : List ℕ) → position_or_len (λ b. b == mark) text < length text → text ≡ front mark text ++ mark ∷ behind mark text
split_at mark text within =
    split_at_first (λ b. b == mark) text 0 within
    ∙ ap (λ b. before_first (λ b. b == mark) text ++ b ∷ after_first (λ b. b == mark) text) (eqb-true _ mark (passes_at_first (λ b. b == mark) text 0 within))

-- where something stands behind the mark, the mark stands in the text
pub split_behind : (mark : ℕ) (text : List ℕ) → 0 < length (behind mark text) → text ≡ front mark text ++ mark ∷ behind mark text
split_behind mark text some =
    split_at mark text (omega (arith, length-drop (position_or_len (λ b. b == mark) text + 1) text, some))

-- a text that holds a mark does not lack it
pub holds_mark : (mark : ℕ) (text rest : List ℕ) → lacks mark (text ++ mark ∷ rest) ≡ false
holds_mark mark [] rest = rw (same_mark mark) refl
holds_mark mark (b ∷ text) rest = and_right (not (b == mark)) (lacks mark (text ++ mark ∷ rest)) (holds_mark mark text rest)

pub no_comma : (text : List ℕ) → lacks 44 text ≡ true → has_mark 44 text ≡ false
no_comma text none = let at = no_place (λ b. b == 44) text none in le-ltb (position_or_len (λ b. b == 44) text) (length text) (omega arith)

pub a_comma : (text rest : List ℕ) → lacks 44 text ≡ true → has_mark 44 (text ++ 44 ∷ rest) ≡ true
a_comma text rest none =
    let at = first_place (λ b. b == 44) text rest 44 none refl in
    lt-ltb (position_or_len (λ b. b == 44) (text ++ 44 ∷ rest)) (length (text ++ 44 ∷ rest)) (omega (arith, at, length-append text (44 ∷ rest)))

pub split_comma : (text : List ℕ) → has_mark 44 text ≡ true → text ≡ front 44 text ++ 44 ∷ behind 44 text
split_comma text h = split_at 44 text (ltb-true (position_or_len (λ b. b == 44) text) (length text) h)
