-- How a text is split into actions.
use Rattle.std.proofs.Common.{◌≡◌, ℕ, ◌+◌, ◌<◌, ◌≤◌, suc, Bool, true, false, cond, List, [], ◌∷◌, ◌++◌, length, get_or, take, drop, insert, refl, sym, ap, ◌∙◌, subst, append_assoc, arith}
use Rattle.std.specs.List.{AllByRecursion}
use Rattle.std.proofs.lemmas.Bool.{eqb-true}
use Rattle.std.proofs.lemmas.List.{append-nil, take_at, drop_at, drop_more, take_more, length-take-le, length-drop}
use Rattle.expect_actions.specs.KeysFile.{with_front}
use Rattle.expect_actions.specs.declared.splits.Place.{Place}
use Rattle.expect_actions.specs.declared.splits.Place.TheVariants.{Outside, Within, Escaped}
use Rattle.expect_actions.specs.Actions.{next_place, ends_action, actions_from, joined, joined_behind}
use Rattle.expect_actions.specs.Actions.{ActionsMakeTheText, ActionsAreWhole}

-- behind the end of an action no quote is open
ends_outside : (place : Place) (b : ℕ) → ends_action place b ≡ true → next_place place b ≡ Outside
ends_outside Outside b ends =
    let is : b ≡ 59 = eqb-true b 59 ends in
    let P : ℕ → Type 0 = λ n. next_place Outside n ≡ Outside in
    subst P (sym is) refl
ends_outside Within b ends = absurd (cc)
ends_outside Escaped b ends = absurd (cc)

-- ---- there is an action
front_some : (b : ℕ) (ps : List (List ℕ)) → 0 < length (with_front b ps)
front_some b [] = omega arith
front_some b (p ∷ ps) = omega arith

some_by : (v : Bool) (xs ys : List (List ℕ)) → 0 < length xs → 0 < length ys → 0 < length (cond v xs ys)
some_by true xs ys x y = x
some_by false xs ys x y = y

pub actions_some : (place : Place) (text : List ℕ) → 0 < length (actions_from place text)
actions_some place [] = omega arith
actions_some place (b ∷ text) =
    some_by (ends_action place b) ([] ∷ actions_from Outside text) (with_front b (actions_from (next_place place b) text))
    (omega arith) (front_some b (actions_from (next_place place b) text))

length_front : (b : ℕ) (ps : List (List ℕ)) → 0 < length ps → length (with_front b ps) ≡ length ps
length_front b [] some = absurd (omega arith)
length_front b (p ∷ ps) some = refl

-- ---- how many there are
count_by : (v : Bool) (place : Place) (b : ℕ) (text : List ℕ) → ends_action place b ≡ v
    → cond v 1 0 + length (actions_from (next_place place b) text)
    ≡ length (cond v ([] ∷ actions_from Outside text) (with_front b (actions_from (next_place place b) text)))
count_by true place b text ends = rw (ends_outside place b ends) (omega arith)
count_by false place b text ends =
    omega (arith, length_front b (actions_from (next_place place b) text) (actions_some (next_place place b) text))

pub count_more : (place : Place) (b : ℕ) (text : List ℕ)
    → cond (ends_action place b) 1 0 + length (actions_from (next_place place b) text) ≡ length (actions_from place (b ∷ text))
count_more place b text = count_by (ends_action place b) place b text refl

-- ---- the first one
-- bytes in front of the first
abbrev pub fronted : List ℕ → List (List ℕ) → List (List ℕ)
fronted p [] = p ∷ []
fronted p (x ∷ xs) = (p ++ x) ∷ xs

none : (ps : List (List ℕ)) → 0 < length ps → fronted [] ps ≡ ps
none [] some = absurd (omega arith)
none (p ∷ ps) some = refl

pub fronted_none : (place : Place) (text : List ℕ) → fronted [] (actions_from place text) ≡ actions_from place text
fronted_none place text = none (actions_from place text) (actions_some place text)

fronted_more : (p : List ℕ) (b : ℕ) (ps : List (List ℕ)) → fronted p (with_front b ps) ≡ fronted (p ++ b ∷ []) ps
fronted_more p b [] = refl
fronted_more p b (x ∷ xs) = ap (λ (y : List ℕ). y ∷ xs) (sym (append_assoc p (b ∷ []) x))

more_by : (v : Bool) (place : Place) (b : ℕ) (text : List ℕ) → v ≡ false
    → cond v ([] ∷ actions_from Outside text) (with_front b (actions_from (next_place place b) text)) ≡ with_front b (actions_from (next_place place b) text)
more_by true place b text is = absurd (cc)
more_by false place b text is = refl

end_by : (v : Bool) (place : Place) (b : ℕ) (text : List ℕ) → v ≡ true
    → cond v ([] ∷ actions_from Outside text) (with_front b (actions_from (next_place place b) text)) ≡ [] ∷ actions_from Outside text
end_by true place b text is = refl
end_by false place b text is = absurd (cc)

-- a byte that ends no action belongs to the first
pub first_more : (p : List ℕ) (place : Place) (b : ℕ) (text : List ℕ) → ends_action place b ≡ false
    → fronted p (actions_from place (b ∷ text)) ≡ fronted (p ++ b ∷ []) (actions_from (next_place place b) text)
first_more p place b text is =
    ap (fronted p) (more_by (ends_action place b) place b text is) ∙ fronted_more p b (actions_from (next_place place b) text)

-- a byte that ends the first
pub first_ends : (p : List ℕ) (place : Place) (b : ℕ) (text : List ℕ) → ends_action place b ≡ true
    → fronted p (actions_from place (b ∷ text)) ≡ p ∷ actions_from Outside text
first_ends p place b text is =
    ap (fronted p) (end_by (ends_action place b) place b text is) ∙ ap (λ (x : List ℕ). x ∷ actions_from Outside text) (append-nil p)

pub first_last : (p : List ℕ) (place : Place) → fronted p (actions_from place []) ≡ p ∷ []
first_last p place = ap (λ (x : List ℕ). x ∷ []) (append-nil p)

-- ---- put in front one by one
pub put_more : (all old : List (List ℕ)) (at : ℕ) (p : List ℕ) → at < length all → take 1 (drop at all) ≡ p ∷ []
    → insert (take at all ++ old) at p ≡ take (at + 1) all ++ old
put_more all old at p there is =
    let long : length (take at all) ≡ at = length-take-le at all (omega arith) in
    let first : get_or all at p ∷ [] ≡ p ∷ [] = ap (take 1) (sym (drop_more all at p there)) ∙ is in
    let same : get_or all at p ≡ p = ap (λ (xs : List (List ℕ)). get_or xs 0 p) first in
    let put : insert (take at all ++ old) at p ≡ take at all ++ p ∷ old = rw (take_at (take at all) old at long, drop_at (take at all) old at long) refl in
    let more : take (at + 1) all ≡ take at all ++ p ∷ [] = take_more all at p there ∙ ap (λ (x : List ℕ). take at all ++ x ∷ []) same in
    put ∙ sym (append_assoc (take at all) (p ∷ []) old) ∙ ap (λ (xs : List (List ℕ)). xs ++ old) (sym more)

-- what is left behind the first
pub left_more : (all : List (List ℕ)) (at : ℕ) (here rest : List (List ℕ)) → at + 1 < length all → here ≡ drop at all
    → (1 < length here → drop 1 here ≡ rest) → rest ≡ drop (at + 1) all
left_more all at here rest there is gives =
    let split_here : here ≡ get_or all at [] ∷ drop (at + 1) all = is ∙ drop_more all at [] (omega arith) in
    let behind : drop 1 here ≡ drop (at + 1) all = ap (drop 1) split_here in
    let long : length here ≡ suc (length (drop (at + 1) all)) = ap length split_here in
    let some : 1 < length here = omega (arith, length-drop (at + 1) all) in
    sym (gives some) ∙ behind

-- ---- the laws
joined_front : (b : ℕ) (ps : List (List ℕ)) → joined (with_front b ps) ≡ b ∷ joined ps
joined_front b [] = refl
joined_front b (p ∷ ps) = refl

joined_none : (ps : List (List ℕ)) → 0 < length ps → joined_behind ps ≡ 59 ∷ joined ps
joined_none [] some = absurd (omega arith)
joined_none (p ∷ ps) some = refl

ends_is : (place : Place) (b : ℕ) → ends_action place b ≡ true → b ≡ 59
ends_is Outside b ends = eqb-true b 59 ends
ends_is Within b ends = absurd (cc)
ends_is Escaped b ends = absurd (cc)

joined_by : (v : Bool) (place : Place) (b : ℕ) (text : List ℕ) → ends_action place b ≡ v
    → joined (actions_from Outside text) ≡ text → joined (actions_from (next_place place b) text) ≡ text
    → joined (cond v ([] ∷ actions_from Outside text) (with_front b (actions_from (next_place place b) text))) ≡ b ∷ text
joined_by true place b text ends outside next =
    joined_none (actions_from Outside text) (actions_some Outside text)
    ∙ ap (λ (xs : List ℕ). 59 ∷ xs) outside ∙ ap (λ (n : ℕ). n ∷ text) (sym (ends_is place b ends))
joined_by false place b text ends outside next =
    joined_front b (actions_from (next_place place b) text) ∙ ap (λ (xs : List ℕ). b ∷ xs) next

joined_from : (text : List ℕ) (place : Place) → joined (actions_from place text) ≡ text
joined_from [] place = refl
joined_from (b ∷ text) place =
    joined_by (ends_action place b) place b text refl (joined_from text Outside) (joined_from text (next_place place b))

pub make_the_text : ActionsMakeTheText
make_the_text [] = refl
make_the_text (b ∷ text) = joined_from (b ∷ text) Outside

-- the first action is whole from its place on, and the others from outside of quotes
abbrev AreWhole : Place → List (List ℕ) → Type 0
AreWhole place [] = Unit {0}
AreWhole place (p ∷ ps) = (actions_from place p ≡ p ∷ []) × AllByRecursion (λ (q : List ℕ). actions_from Outside q ≡ q ∷ []) ps

whole_front : (place : Place) (b : ℕ) (ps : List (List ℕ)) → 0 < length ps → ends_action place b ≡ false → AreWhole (next_place place b) ps → AreWhole place (with_front b ps)
whole_front place b [] some is whole = absurd (omega arith)
whole_front place b (p ∷ ps) some is whole =
    (more_by (ends_action place b) place b p is ∙ ap (with_front b) whole.0, whole.1)

all_whole : (ps : List (List ℕ)) → AreWhole Outside ps → AllByRecursion (λ (q : List ℕ). actions_from Outside q ≡ q ∷ []) ps
all_whole [] whole = tt
all_whole (p ∷ ps) whole = whole

whole_by : (v : Bool) (place : Place) (b : ℕ) (text : List ℕ) → ends_action place b ≡ v
    → AreWhole Outside (actions_from Outside text) → AreWhole (next_place place b) (actions_from (next_place place b) text)
    → AreWhole place (cond v ([] ∷ actions_from Outside text) (with_front b (actions_from (next_place place b) text)))
whole_by true place b text ends outside next = (refl, all_whole (actions_from Outside text) outside)
whole_by false place b text ends outside next =
    whole_front place b (actions_from (next_place place b) text) (actions_some (next_place place b) text) ends next

whole_from : (text : List ℕ) (place : Place) → AreWhole place (actions_from place text)
whole_from [] place = (refl, tt)
whole_from (b ∷ text) place =
    whole_by (ends_action place b) place b text refl (whole_from text Outside) (whole_from text (next_place place b))

pub are_whole : ActionsAreWhole
are_whole [] = tt
are_whole (b ∷ text) = all_whole (actions_from Outside (b ∷ text)) (whole_from (b ∷ text) Outside)

pub one_most : (v : Bool) → cond v 1 0 ≤ 1
one_most true = omega arith
one_most false = omega arith
