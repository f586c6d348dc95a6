-- The items of a list, one after another.
use Rattle.std.proofs.Common.{◌≡◌, ◌+◌, ◌-◌, ◌<◌, ◌≤◌, ◌++◌, ℕ, suc, Bool, true, false, cond, eqb, Option, Some, None, List, [], ◌∷◌, length, refl, ap, sym, arith, ◌∙◌, append_assoc, length-append}
use Rattle.std.specs.Option.{option_map}
use Rattle.std.specs.List.{position_or_len}
use Rattle.std.proofs.lemmas.List.{take_all}
use Rattle.std.proofs.lemmas.Option.{cond_some}
use Rattle.std.proofs.lemmas.Bool.Decides.{nat_tests}
use Rattle.operand_forms.specs.declared.listing.Item.{Item}
use Rattle.operand_forms.specs.declared.listing.Name.{Name}
use Rattle.operand_forms.specs.Operands.{front, behind, both, has_mark, item_of, items_up_to}
use Rattle.operand_forms.specs.Views.{some_behind}

cond_none : {A : Type 0} (b : Bool) (x : A) → cond b (Some x) None ≡ None → b ≡ false
cond_none true x h = absurd (cc h)
cond_none false x h = refl

front_whole : (mark : ℕ) (text : List ℕ) → has_mark mark text ≡ false → front mark text ≡ text
front_whole mark text h =
    let past : length text ≤ position_or_len (λ b. eqb b mark) text = grind (arith, nat_tests) in
    take_all (position_or_len (λ b. eqb b mark) text) text past

up_to_last : (room : ℕ) (device : Name) (text : List ℕ) → has_mark 44 text ≡ false → items_up_to (suc room) device text ≡ option_map (λ item. item ∷ []) (item_of device (front 44 text))
unfolding items_up_to
up_to_last room device text h = rw h (ap (λ (t : List ℕ). option_map (λ item. item ∷ []) (item_of device t)) (sym (front_whole 44 text h)))

up_to_more : (room : ℕ) (device : Name) (text : List ℕ) → has_mark 44 text ≡ true → items_up_to (suc room) device text ≡ both (λ item items. item ∷ items) (item_of device (front 44 text)) (items_up_to room device (behind 44 text))
unfolding items_up_to
up_to_more room device text h = rw h refl

up_to_bad : (room : ℕ) (device : Name) (text : List ℕ) (b : Bool) → has_mark 44 text ≡ b → item_of device (front 44 text) ≡ None → items_up_to (suc room) device text ≡ None
up_to_bad room device text true h bad = up_to_more room device text h ∙ rw bad refl
up_to_bad room device text false h bad = up_to_last room device text h ∙ rw bad refl

one_more : (before : List Item) (item : Item) (items : Option (List Item)) → option_map (λ more. (before ++ item ∷ []) ++ more) items ≡ option_map (λ more. before ++ more) (both (λ i is. i ∷ is) (Some item) items)
one_more before item None = refl
one_more before item (Some items) = ap Some (append_assoc before (item ∷ []) items)

-- the items so far, and those of the rest, where as many are left
abbrev pub with_rest : List Item → ℕ → Name → List ℕ → Option (List Item)
with_rest before room device rest = option_map (λ more. before ++ more) (items_up_to room device rest)

one_left : (i : ℕ) → i < 16 → 16 - i ≡ suc (16 - (i + 1))
one_left i h = omega arith

pub rest_bad : (before : List Item) (i : ℕ) (device : Name) (rest : List ℕ) → i < 16 → item_of device (front 44 rest) ≡ None → with_rest before (16 - i) device rest ≡ None
rest_bad before i device rest h bad =
    rw (one_left i h) (ap (option_map (λ more. before ++ more)) (up_to_bad (16 - (i + 1)) device rest (has_mark 44 rest) refl bad))

pub rest_last : (before : List Item) (item : Item) (i : ℕ) (device : Name) (rest : List ℕ) → i < 16 → item_of device (front 44 rest) ≡ Some item → some_behind 44 rest ≡ None → with_rest before (16 - i) device rest ≡ Some (before ++ item ∷ [])
rest_last before item i device rest h is none =
    let up = up_to_last (16 - (i + 1)) device rest (cond_none _ _ none) in
    let here : items_up_to (suc (16 - (i + 1))) device rest ≡ Some (item ∷ []) = up ∙ rw is refl in
    rw (one_left i h) (ap (option_map (λ more. before ++ more)) here)

pub rest_more : (before : List Item) (item : Item) (i : ℕ) (device : Name) (rest next : List ℕ) → i < 16 → item_of device (front 44 rest) ≡ Some item → some_behind 44 rest ≡ Some next → with_rest before (16 - i) device rest ≡ with_rest (before ++ item ∷ []) (16 - (i + 1)) device next
rest_more before item i device rest next h is some =
    let marked = cond_some _ _ _ some in
    let up = up_to_more (16 - (i + 1)) device rest marked.0 in
    let here : items_up_to (suc (16 - (i + 1))) device rest ≡ both (λ i is. i ∷ is) (Some item) (items_up_to (16 - (i + 1)) device next) = up ∙ rw (is, marked.1) refl in
    rw (one_left i h) (ap (option_map (λ more. before ++ more)) here ∙ sym (one_more before item (items_up_to (16 - (i + 1)) device next)))

pub rest_full : (before : List Item) (device : Name) (rest : List ℕ) → with_rest before 0 device rest ≡ None
unfolding items_up_to
rest_full before device rest = refl

pub one_longer : (after before : List Item) (item : Item) (i : ℕ) → after ≡ before ++ item ∷ [] → length before ≡ i → length after ≡ i + 1
one_longer after before item i e h = rw e (omega (arith, length-append before (item ∷ [])))
