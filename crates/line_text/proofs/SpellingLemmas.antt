-- Laws of names in either case.
use Rattle.std.proofs.Common.{◌≡◌, ℕ, ◌+◌, ◌<◌, Bool, true, false, ◌&&◌, List, [], ◌∷◌, length, drop, get_or, refl, sym, ap, ◌∙◌, arith, eqb}
use Rattle.std.specs.Char.{to_ascii_uppercase}
use Rattle.std.specs.Str.{bytes_eq, str_to_ascii_uppercase}
use Rattle.std.proofs.lemmas.List.{at_drop_more, get_or-map, length-map}
use Rattle.std.proofs.lemmas.Bool.{eqb-true}
use Rattle.std.proofs.lemmas.Bool.Decides.{nat_tests}
use Rattle.std.proofs.lemmas.Slice.Eq.{bytes_eq-Decides}
use Rattle.line_text.specs.Words.{IsSpelled, is_spelled}

-- the test decides whether a word is a name

pub spelled_is : (word name : List ℕ) → is_spelled word name ≡ true → IsSpelled word name
spelled_is word name h = sym ((bytes_eq-Decides name (str_to_ascii_uppercase word)).0 h)

pub is_spelled_so : (word name : List ℕ) → IsSpelled word name → is_spelled word name ≡ true
is_spelled_so word name h = (bytes_eq-Decides name (str_to_ascii_uppercase word)).1 (sym h)

-- a text in capitals stays as it is

upper_twice : (b : ℕ) → to_ascii_uppercase (to_ascii_uppercase b) ≡ to_ascii_uppercase b
upper_twice b = grind (arith, nat_tests)

pub capitals_twice : (text : List ℕ) → str_to_ascii_uppercase (str_to_ascii_uppercase text) ≡ str_to_ascii_uppercase text
capitals_twice [] = refl
capitals_twice (b ∷ more) =
    ap (λ (c : ℕ). c ∷ str_to_ascii_uppercase (str_to_ascii_uppercase more)) (upper_twice b) ∙ ap (λ (t : List ℕ). to_ascii_uppercase b ∷ t) (capitals_twice more)

-- two names of one word are spelled alike
pub spelled_alike : (word one other : List ℕ) → IsSpelled word one → IsSpelled word other → is_spelled one other ≡ true
spelled_alike word one other first second = is_spelled_so one other (ap str_to_ascii_uppercase (sym first) ∙ capitals_twice word ∙ second)

-- names are compared letter by letter
pub same_name-drop : (name word : List ℕ) (i : ℕ) → i < length name → i < length word → bytes_eq (drop i name) (drop i (str_to_ascii_uppercase word)) ≡ (eqb (get_or name i 0) (to_ascii_uppercase (get_or word i 0)) && bytes_eq (drop (i + 1) name) (drop (i + 1) (str_to_ascii_uppercase word)))
same_name-drop name word i h k =
    let capitals = str_to_ascii_uppercase word in
    let within : i < length capitals = omega (arith, length-map word to_ascii_uppercase) in
    at_drop_more (λ (x : List ℕ). bytes_eq x (drop i capitals)) name i 0 h ∙ at_drop_more (λ (y : List ℕ). bytes_eq (get_or name i 0 ∷ drop (i + 1) name) y) capitals i 0 within ∙ ap (λ (c : ℕ). eqb (get_or name i 0) c && bytes_eq (drop (i + 1) name) (drop (i + 1) capitals)) (get_or-map to_ascii_uppercase word i 0 0 k)

-- a letter that differs, and one that agrees
pub letter_differs : (a b : ℕ) (r s t : Bool) → (a ≡ b → ⊥) → r ≡ (eqb a b && s) → r ≡ t → false ≡ t
letter_differs a b r s t apart step whole =
    elim (eqb a b) as (λ (e : Bool). eqb a b ≡ e → false ≡ t) [ true ↦ λ is. absurd (apart (eqb-true a b is)) | false ↦ λ is. cc ] refl

pub letter_agrees : (a b : ℕ) (r s t : Bool) → a ≡ b → r ≡ (eqb a b && s) → r ≡ t → s ≡ t
letter_agrees a b r s t same step whole = grind (arith, nat_tests)
