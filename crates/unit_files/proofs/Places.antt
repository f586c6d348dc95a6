-- The list of what is attached: a place is filled or emptied.
use Rattle.std.proofs.Common.{inl, inr, ◌≡◌, ◌&&◌, ℕ, ◌<◌, Bool, true, false, not, List, map, length, get_or, set}
use Rattle.std.proofs.Common.{Option, None, option_map, refl, ap, sym, ◌∙◌, arith, IsTrue}
use Rattle.std.proofs.lemmas.Bool.{cases_eq}
use Rattle.std.proofs.lemmas.Bool.Decides.{nat_tests}
use Rattle.std.proofs.lemmas.List.{get_or-set_same, get_or-set_other, map-set}
use Rattle.unit_trait.specs.declared.kind.Kind.{Kind}
use Rattle.unit_trait.specs.declared.kind.UnitName.{UnitName}
use Rattle.unit_trait.proofs.EveryKind.{every-kind}
use Rattle.unit_files.specs.declared.slots.UnitFile.{UnitFile}
use Rattle.unit_files.specs.View.{slot_of}
use Rattle.unit_files.specs.Attachments.{Held, file_place, takes_attachment, only_writes, read_only_of, writers_write}
use Rattle.unit_files.specs.Attachments.{attachments_of, with_held, with_attachment}

-- the view once a place was written
pub view-set : (items : List (Option UnitFile)) (p q : ℕ) (f : Option UnitFile) (slots : List (Option Held)) → p ≡ q
    → map slot_of items ≡ slots
    → map slot_of (set items p f) ≡ set slots q (slot_of f)
view-set items p q f slots place view = map-set slot_of items p f ∙ (λ i. set (view i) (place i) (slot_of f))

pub attachments-set : (slots : List (Option Held)) (unit : UnitName) (h : Option Held)
    → attachments_of (with_held slots unit h)
    ≡ with_attachment (attachments_of slots) unit (option_map (λ (g : Held). g.attachment) h)
attachments-set slots unit h =
    map-set (λ (slot : Option Held). option_map (λ (g : Held). g.attachment) slot) slots (file_place unit) h

-- the place of the printer, and that of the punch, are of units that only write
at-printer : (k : Kind) (n : ℕ) → file_place (record { kind = k; unit = n }) ≡ 9 → only_writes k ≡ true
at-printer k n =
    every-kind (λ (kind : Kind). file_place (record { kind = kind; unit = n }) ≡ 9 → only_writes kind ≡ true)
    ((λ is. grind (arith, nat_tests)), (λ is. grind (arith, nat_tests)), (λ is. refl), (λ is. grind (arith, nat_tests)), (λ is. refl), (λ is. grind (arith, nat_tests)), (λ is. grind (arith, nat_tests)), (λ is. grind (arith, nat_tests)), (λ is. grind (arith, nat_tests)), (λ is. grind (arith, nat_tests)), (λ is. grind (arith, nat_tests))) k

at-punch : (k : Kind) (n : ℕ) → file_place (record { kind = k; unit = n }) ≡ 11 → only_writes k ≡ true
at-punch k n =
    every-kind (λ (kind : Kind). file_place (record { kind = kind; unit = n }) ≡ 11 → only_writes kind ≡ true)
    ((λ is. grind (arith, nat_tests)), (λ is. grind (arith, nat_tests)), (λ is. refl), (λ is. grind (arith, nat_tests)), (λ is. refl), (λ is. grind (arith, nat_tests)), (λ is. grind (arith, nat_tests)), (λ is. grind (arith, nat_tests)), (λ is. grind (arith, nat_tests)), (λ is. grind (arith, nat_tests)), (λ is. grind (arith, nat_tests))) k

-- what stands at a place once one was written is not only read, where it was not and what was written is not
written-at : (slots : List (Option Held)) (p q : ℕ) (h : Option Held) → q < length slots
    → read_only_of (get_or slots q None) ≡ false → (p ≡ q → read_only_of h ≡ false)
    → read_only_of (get_or (set slots p h) q None) ≡ false
written-at slots p q h within was writes = elim (cases_eq p q) [
  | inl same ↦ ap (λ (n : ℕ). read_only_of (get_or (set slots n h) q None)) same
      ∙ ap read_only_of (get_or-set_same slots q h None within) ∙ writes same
  | inr other ↦ ap read_only_of (get_or-set_other slots p q h None (λ same. other (sym same))) ∙ was
]

both-not : (a b : Bool) → (not a && not b) ≡ true → (a ≡ false) × (b ≡ false)
both-not true b both = absurd (cc)
both-not false true both = absurd (cc)
both-not false false both = (refl, refl)

pub writers-set : (slots : List (Option Held)) (unit : UnitName) (h : Option Held) → length slots ≡ 12
    → writers_write slots ≡ true → (only_writes unit.kind ≡ true → read_only_of h ≡ false)
    → writers_write (set slots (file_place unit) h) ≡ true
writers-set slots unit h long all writes =
    let both = both-not (read_only_of (get_or slots 9 None)) (read_only_of (get_or slots 11 None)) all in
    let printer =
    written-at slots (file_place unit) 9 h (omega (arith, long)) both.0 (λ is. writes (at-printer unit.kind
    unit.unit is)) in
    let punch = written-at slots (file_place unit) 11 h (omega (arith, long)) both.1 (λ is. writes (at-punch unit.kind
    unit.unit is)) in
    λ i. not (printer i) && not (punch i)

-- a unit that can have a file has a place
placed : (k : Kind) (n : ℕ) → IsTrue (takes_attachment (record { kind = k; unit = n }))
    → file_place (record { kind = k; unit = n }) < 12
placed k n =
    every-kind (λ (kind : Kind). IsTrue (takes_attachment (record { kind = kind; unit = n })) → file_place (record { kind = kind; unit = n }) < 12)
    ((λ is. grind (arith, nat_tests)), (λ is. grind (arith, nat_tests)), (λ is. grind (arith, nat_tests)), (λ is. grind (arith, nat_tests)), (λ is. grind (arith, nat_tests)), (λ is. grind (arith, nat_tests)), (λ is. grind (arith, nat_tests)), (λ is. grind (arith, nat_tests)), (λ is. grind (arith, nat_tests)), (λ is. grind (arith, nat_tests)), (λ is. grind (arith, nat_tests))) k

pub within : (slots : List (Option Held)) (unit : UnitName) → length slots ≡ 12 → IsTrue (takes_attachment unit)
    → file_place unit < length slots
within slots unit long takes = let less = placed unit.kind unit.unit takes in omega (arith, less, long)
