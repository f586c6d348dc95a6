-- What is printed of a list, a line for each of its entries.
use Rattle.std.proofs.Common.{◌≡◌, ℕ, ◌+◌, subst, List, [], ◌∷◌, ◌++◌, take, drop, slice_get, Some, ap, sym, ◌∙◌, add-one, append_assoc, append-nil}
use Rattle.std.proofs.Math.Seq.{take-suc}
use Rattle.std.proofs.lemmas.List.{take-append-drop}
use Rattle.std.proofs.lemmas.Option.{slice_get_within, get_or_from_slice_get}
use Rattle.file_traits.specs.Streams.{AddsPart}
use Rattle.scp_examine.proofs.ShowLemmas.{part_behind as part-behind}

-- a text is the lines of a list, one behind another
pub record AreLines {A : Type 0} (line : A → List ℕ) (text : List A → List ℕ) : Type 0 where
  pub none : text [] ≡ []
  pub more : (x : A) (xs : List A) → text (x ∷ xs) ≡ line x ++ text xs

lines-append : {A : Type 0} (line : A → List ℕ) (text : List A → List ℕ) → AreLines line text → (xs ys : List A) → text (xs ++ ys) ≡ text xs ++ text ys
lines-append line text are [] ys = ap (λ (t : List ℕ). t ++ text ys) (sym are.none)
lines-append line text are (x ∷ xs) ys =
    are.more x (xs ++ ys) ∙ ap (λ (t : List ℕ). line x ++ t) (lines-append line text are xs ys) ∙ sym (append_assoc (line x) (text xs) (text ys))
    ∙ ap (λ (t : List ℕ). t ++ text ys) (sym (are.more x xs))

-- the text of a list without entries that were printed
pub lines-begin : {A : Type 0} (line : A → List ℕ) (text : List A → List ℕ) → AreLines line text → (before : List ℕ) → before ≡ before ++ text []
lines-begin line text are before = sym (ap (λ (t : List ℕ). before ++ t) are.none ∙ append-nil before)

-- one entry more
pub lines-more : {A : Type 0} (line : A → List ℕ) (text : List A → List ℕ) → AreLines line text → (xs : List A) (k : ℕ) (x : A) → slice_get xs k ≡ Some x
    → text (take (k + 1) xs) ≡ text (take k xs) ++ line x
lines-more line text are xs k x is =
    ap (λ (n : ℕ). text (take n xs)) (add-one k) ∙ ap text (take-suc xs k x (slice_get_within xs k x is)) ∙ ap (λ (y : _). text (take k xs ++ y ∷ [])) (get_or_from_slice_get xs k x x is)
    ∙ lines-append line text are (take k xs) (x ∷ []) ∙ ap (λ (t : List ℕ). text (take k xs) ++ t) (are.more x [] ∙ ap (λ (t : List ℕ). line x ++ t) are.none ∙ append-nil (line x))

pub lines-next : {A : Type 0} (line : A → List ℕ) (text : List A → List ℕ) → AreLines line text → (xs : List A) (k : ℕ) (x : A) (before at after : List ℕ)
    → slice_get xs k ≡ Some x → at ≡ before ++ text (take k xs) → after ≡ at ++ line x → after ≡ before ++ text (take (k + 1) xs)
lines-next line text are xs k x before at after is done next =
    next ∙ ap (λ (t : List ℕ). t ++ line x) done ∙ append_assoc before (text (take k xs)) (line x) ∙ ap (λ (t : List ℕ). before ++ t) (sym (lines-more line text are xs k x is))

-- the lines of all entries, where one of them is at a place
lines-rest : {A : Type 0} (line : A → List ℕ) (text : List A → List ℕ) → AreLines line text → (xs : List A) (k : ℕ) (x : A) → slice_get xs k ≡ Some x
    → text xs ≡ (text (take k xs) ++ line x) ++ text (drop (k + 1) xs)
lines-rest line text are xs k x is =
    ap text (sym (take-append-drop (k + 1) xs)) ∙ lines-append line text are (take (k + 1) xs) (drop (k + 1) xs)
    ∙ ap (λ (t : List ℕ). t ++ text (drop (k + 1) xs)) (lines-more line text are xs k x is)

-- a first part of the line of an entry, behind the lines before it, is a first part of all lines
pub lines-part : {A : Type 0} (line : A → List ℕ) (text : List A → List ℕ) → AreLines line text → (xs : List A) (k : ℕ) (x : A) (before at after : List ℕ)
    → slice_get xs k ≡ Some x → at ≡ before ++ text (take k xs) → AddsPart at (line x) after → AddsPart before (text xs) after
lines-part line text are xs k x before at after is done part =
    subst (λ (t : List ℕ). AddsPart before t after) (sym (lines-rest line text are xs k x is))
    (part-behind before (text (take k xs)) (line x) (text (drop (k + 1) xs)) at after done part)
