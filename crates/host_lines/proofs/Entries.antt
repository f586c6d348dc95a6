-- What an entry gives, by its place.
use Rattle.std.proofs.Common.{◌≡◌, ◌∙◌, ap, sym, refl, arith, ℕ, zero, suc, ◌<◌, ◌≤◌, List, [], ◌∷◌, length, drop, remove, get_or, slice_set, Option, Some, if◌then◌else◌}
use Rattle.std.proofs.lemmas.Bool.{le-leb}
use Rattle.std.proofs.lemmas.Option.{slice_get-get_or}
use Rattle.host_lines.specs.Traffic.{Traffic, Happening, Answer, Script, replied, entries_behind, input_answer, input_left, given_at, taken_input}

pub remove_set : {X : Type 0} (xs : List X) (i : ℕ) (y : X) → remove (slice_set xs i y) i ≡ remove xs i
remove_set [] i y = refl
remove_set (x ∷ xs) zero y = refl
remove_set {X = X} (x ∷ xs) (suc i) y = ap (λ (l : List X). x ∷ l) (remove_set xs i y)

-- what stands at a place does not depend on what stands for nothing
pub same_or : {X : Type 0} (xs : List X) (i : ℕ) (d e : X) → i < length xs → get_or xs i d ≡ get_or xs i e
same_or [] i d e within = absurd (omega (arith, within))
same_or (x ∷ xs) zero d e within = refl
same_or (x ∷ xs) (suc i) d e within = same_or xs i d e (omega (arith, within))

pub all_taken : (size k : ℕ) (e : Happening) (entries : List Happening) → length e.bytes ≤ size → entries_behind size k e entries ≡ remove entries k
all_taken size k e entries few = ap (λ b. if b then remove entries k else slice_set entries k (record e { bytes = drop size e.bytes })) (le-leb (length e.bytes) size few)

pub input_taken : (size k : ℕ) (t : Traffic) (d : Happening) (o : Option ℕ) (answer : Answer) (left : List Happening) → o ≡ Some k → k < length t.entries
    → answer ≡ input_answer size (get_or t.entries k d).does (get_or t.entries k d).bytes
    → left ≡ input_left size k (get_or t.entries k d).does (get_or t.entries k d) t.entries
    → replied answer (Script (record t { entries = left })) ≡ taken_input size o t
input_taken size k t d o answer left at within answers leaves =
    let e = get_or t.entries k d in
    ap (λ (a : Answer). replied a (Script (record t { entries = left }))) answers
    ∙ ap (λ (l : List Happening). replied (input_answer size e.does e.bytes) (Script (record t { entries = l }))) leaves
    ∙ sym (ap (λ (h : Option Happening). given_at size k h t) (slice_get-get_or t.entries k d within))
    ∙ sym (ap (λ (p : Option ℕ). taken_input size p t) at)
