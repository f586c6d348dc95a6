-- What ASSERT tests.
use Rattle.std.specs.Prelude.{not}
use Rattle.std.proofs.Common.{◌≡◌, ◌⊎◌, inl, inr, ℕ, Bool, true, cond, ◌&&◌, Option, Some, None, List, [], ◌∷◌, ◌++◌, length, take, drop, refl, ap, sym, subst, ◌∙◌, arith}
use Rattle.std.specs.Char.{to_ascii_uppercase}
use Rattle.std.specs.Str.{str_to_ascii_uppercase}
use Rattle.std.specs.List.{list_all, position_or_len}
use Rattle.std.proofs.lemmas.Bool.{and_from}
use Rattle.std.proofs.lemmas.Bool.Decides.{nat_tests}
use Rattle.std.proofs.lemmas.List.{take-append-drop, take_at, drop_at}
use Rattle.std.proofs.lemmas.List.Sums.{AllPass-from_list_all, list_all-from_AllPass}
use Rattle.std.proofs.lemmas.Option.{slice_get_within, get_or_from_slice_get}
use Rattle.nova_word.specs.Numbers.{IsDigit}
use Rattle.unit_trait.specs.declared.kind.Kind.{Kind}
use Rattle.unit_trait.specs.Multiplexer.{line_numbers}
use Rattle.unit_trait.proofs.EveryKind.{every-kind}
use Rattle.operand_forms.specs.declared.listing.Name.{Name}
use Rattle.operand_forms.specs.declared.listing.Name.TheVariants.{Cpu, Device}
use Rattle.operand_forms.specs.declared.listing.Item.{Item}
use Rattle.operand_forms.specs.declared.listing.Item.TheVariants.{At, Range, Count, All, Reg, State, Unknown}
use Rattle.operand_forms.specs.declared.listing.Condition.{Condition}
use Rattle.operand_forms.specs.Names.{register_names}
use Rattle.operand_forms.specs.Forms.{rel_text, IsLetter, IsName, IsRegister, IsItem, at, range, count, all_words, state, register, unknown, IsTested}
use Rattle.operand_forms.specs.Operands.{both, Compared, is_rel_byte, comparison_of, condition_with, item_of}
use Rattle.scp_parser.specs.Forms.{IsTest, compared}
use Rattle.scp_parser.specs.Operands.{tested, if_tested, test_of}
use Rattle.operand_forms.proofs.Decides.{Decides}
use Rattle.operand_forms.proofs.ChoiceLemmas.{chosen, same_some, two_answers, put_together}
use Rattle.operand_forms.proofs.ItemLemmas.{item_found, item_reads}
use Rattle.operand_forms.proofs.ConditionLemmas.{comparison_found, comparison_reads, octal_no_rel, rel_place}

-- an item that can be tested holds no byte of a comparison

abbrev no_rel : List ℕ → Bool
no_rel text = list_all (λ b. not (is_rel_byte b)) text

upper_rel : (b : ℕ) → not (is_rel_byte (to_ascii_uppercase b)) ≡ not (is_rel_byte b)
upper_rel b = grind (arith, nat_tests)

upper_no_rel : (text : List ℕ) → no_rel (str_to_ascii_uppercase text) ≡ no_rel text
upper_no_rel [] = refl
upper_no_rel (b ∷ more) =
    ap (λ (c : Bool). c && no_rel (str_to_ascii_uppercase more)) (upper_rel b) ∙ ap (λ (c : Bool). not (is_rel_byte b) && c) (upper_no_rel more)

registers_no_rel : (device : Name) → list_all no_rel (register_names device) ≡ true
unfolding line_numbers
registers_no_rel Cpu = refl
registers_no_rel (Device kind) = every-kind (λ (k : Kind). list_all no_rel (register_names (Device k)) ≡ true) (refl, refl, refl, refl, refl, refl, refl, refl, refl, refl, refl) kind

register_no_rel : (device : Name) (text : List ℕ) (k : ℕ) → IsRegister device text k → no_rel text ≡ true
register_no_rel device text k h =
    let within = slice_get_within (register_names device) k h.name h.is in
    let each = AllPass-from_list_all no_rel (register_names device) (registers_no_rel device) k h.name within in
    sym (upper_no_rel text) ∙ ap no_rel h.spelled ∙ ap no_rel (sym (get_or_from_slice_get (register_names device) k h.name h.name h.is)) ∙ each

letter_no_rel : (b : ℕ) → IsLetter b → not (is_rel_byte b) ≡ true
letter_no_rel b letter = grind (arith, nat_tests)

name_byte_no_rel : (b : ℕ) → IsLetter b ⊎ (IsDigit 10 b ⊎ (b ≡ 95)) → not (is_rel_byte b) ≡ true
name_byte_no_rel b h = grind (arith, nat_tests)

name_no_rel : (text : List ℕ) → IsName text → no_rel text ≡ true
name_no_rel [] h = absurd h
name_no_rel (b ∷ more) h =
    and_from (not (is_rel_byte b)) (no_rel more) (letter_no_rel b h.0)
    (list_all-from_AllPass (λ c. not (is_rel_byte c)) more (λ k d l. name_byte_no_rel _ (h.1 k d l)))

item_no_rel : (device : Name) (text : List ℕ) (item : Item) → IsItem device text item → IsTested item → no_rel text ≡ true
item_no_rel device text item (at _ a is) can = octal_no_rel text a is
item_no_rel device text item (range from to a b first second) can = absurd can
item_no_rel device text item (count from number a n first second) can = absurd can
item_no_rel device text item (all_words _ is) can = absurd can
item_no_rel device text item (state _ is) can = absurd can
item_no_rel device text item (register _ k is) can = register_no_rel device text k is
item_no_rel device text item (unknown _ name no_all no_state no_register) can = name_no_rel text name

-- items that can be tested

tested_is : (item : Item) → tested item ≡ true → IsTested item
tested_is (At a) h = tt
tested_is (Range a b) h = absurd (cc h)
tested_is (Count a n) h = absurd (cc h)
tested_is All h = absurd (cc h)
tested_is (Reg k) h = tt
tested_is State h = absurd (cc h)
tested_is Unknown h = tt

tested_passes : (item : Item) → IsTested item → tested item ≡ true
tested_passes (At a) h = refl
tested_passes (Range a b) h = absurd h
tested_passes (Count a n) h = absurd h
tested_passes All h = absurd h
tested_passes (Reg k) h = refl
tested_passes State h = absurd h
tested_passes Unknown h = refl

some_tested : (o : Option Item) (item : Item) → if_tested o ≡ Some item → (o ≡ Some item) × IsTested item
some_tested None item h = absurd (cc h)
some_tested (Some other) item h =
    elim (chosen (tested other) (Some other) None (Some item) h) [
      | inl so ↦ (so.1, subst IsTested (same_some other item so.1) (tested_is other so.0))
      | inr none ↦ absurd (cc)
    ]

-- tests

pub test_found : (device : Name) (text : List ℕ) (x : Item × Condition) → test_of device text ≡ Some x → IsTest device text x
unfolding test_of
test_found device text x h =
    let n = position_or_len is_rel_byte text in
    let two = two_answers (λ (item : Item) (c : Compared). (item, condition_with None c)) (if_tested (item_of device (take n text))) (comparison_of (drop n text)) x h in
    let named = some_tested (item_of device (take n text)) two.left two.first in
    let behind = comparison_found (drop n text) two.right two.second in
    let split : text ≡ take n text ++ (rel_text two.right.0 ++ behind.digits) = sym (take-append-drop n text) ∙ ap (λ (t : List ℕ). take n text ++ t) behind.spelled in
    subst (λ (t : List ℕ). IsTest device t x) (sym split)
    (subst (λ (y : Item × Condition). IsTest device (take n text ++ (rel_text two.right.0 ++ behind.digits)) y) two.made
    (compared (take n text) behind.digits two.left two.right.0 two.right.1 (item_found device (take n text) two.left named.0) named.1 behind.is))

pub test_reads : (device : Name) (text : List ℕ) (x : Item × Condition) → IsTest device text x → test_of device text ≡ Some x
unfolding test_of
test_reads device text x (compared name digits item rel value is can number) =
    let behind = rel_text rel ++ digits in
    let whole = name ++ behind in
    let n = position_or_len is_rel_byte whole in
    let place : length name ≡ n = sym (rel_place rel name digits (item_no_rel device name item is can)) in
    let read : item_of device (take n whole) ≡ Some item = ap (item_of device) (take_at name behind n place) ∙ item_reads device name item is in
    let left : if_tested (item_of device (take n whole)) ≡ Some item = ap if_tested read ∙ ap (λ (b : Bool). cond b (Some item) None) (tested_passes item can) in
    let right : comparison_of (drop n whole) ≡ Some (rel, value) = ap comparison_of (drop_at name behind n place) ∙ comparison_reads rel digits value number in
    put_together (λ (item : Item) (c : Compared). (item, condition_with None c)) (if_tested (item_of device (take n whole))) (comparison_of (drop n whole)) item (rel, value) left right

none_behind : {A B C : Type 0} (f : A → B → C) (o : Option A) → both f o None ≡ None
none_behind f (Some a) = refl
none_behind f None = refl

pub no_test : (device : Name) → test_of device [] ≡ None
unfolding test_of comparison_of
no_test device = none_behind (λ (item : Item) (c : Compared). (item, condition_with None c)) (if_tested (item_of device []))

pub test_decides : (device : Name) → Decides (IsTest device) (test_of device)
test_decides device text x = (test_found device text x, test_reads device text x)
