-- What is printed of places one behind another.
use Rattle.std.proofs.Common.{◌≡◌, ℕ, ◌+◌, ◌<◌, ◌≤◌, zero, suc, Bool, List, [], ◌∷◌, ◌++◌, length, get_or, take, drop, Option, Some, None, ap, sym, ◌∙◌, refl, subst, add-one, append_assoc, length-append, arith}
use Rattle.std.proofs.Math.Seq.{take-suc, take-append-add, take-append-le}
use Rattle.std.proofs.lemmas.List.{take-append-drop, append-nil}
use Rattle.file_traits.specs.Streams.{AddsPart}
use Rattle.nova_machine.specs.Machine.{MachineState}
use Rattle.unit_trait.specs.declared.processor.CpuReg.{CpuReg}
use Rattle.operand_forms.specs.declared.listing.Name.{Name}
use Rattle.operand_forms.specs.declared.listing.Condition.{Condition}
use Rattle.operand_forms.specs.declared.listing.Item.{Item}
use Rattle.scp_examine.specs.declared.fault.ExamineFault.{ExamineFault}
use Rattle.scp_examine.specs.Shape.{Shape}
use Rattle.scp_examine.specs.Places.{Place, Register, numbered, registers_of, places_of}
use Rattle.scp_examine.specs.Checks.{items_fault, or_fault}
use Rattle.scp_examine.specs.Effect.{all_places, listed}

pub listed-append : (m : MachineState) (s : Bool) (c : Option Condition) (xs ys : List Place)
    → listed m s c (xs ++ ys) ≡ listed m s c xs ++ listed m s c ys
unfolding listed
listed-append m s c [] ys = refl
listed-append m s c (p ∷ xs) ys = rw (listed-append m s c xs ys, append_assoc)

pub registers_of-append : (xs ys : List CpuReg) → registers_of (xs ++ ys) ≡ registers_of xs ++ registers_of ys
registers_of-append [] ys = refl
registers_of-append (r ∷ xs) ys = ap (λ ps. Register r ∷ ps) (registers_of-append xs ys)

pub all_places-append : (shape : Shape) (device : Name) (xs ys : List Item)
    → all_places shape device (xs ++ ys) ≡ all_places shape device xs ++ all_places shape device ys
unfolding all_places
all_places-append shape device [] ys = refl
all_places-append shape device (item ∷ xs) ys = rw (all_places-append shape device xs ys, append_assoc)

-- one place more
pub numbered-more : (place : ℕ → Place) (from n at : ℕ) → at ≡ from + n → numbered place from (n + 1) ≡ numbered place from n ++ place at ∷ []
unfolding numbered
numbered-more place from zero at e = let f : from ≡ at = omega (arith, e) in ap (λ a. place a ∷ []) f
numbered-more place from (suc n) at e =
    let f : suc n + 1 ≡ suc (n + 1) = omega arith in
    let g : at ≡ from + 1 + n = omega (arith, e) in
    ap (λ k. numbered place from k) f ∙ ap (λ ps. place from ∷ ps) (numbered-more place (from + 1) n at g)

-- the places behind one of them
pub numbered_rest : (place : ℕ → Place) (from count i at : ℕ) → i < count → at ≡ from + i
    → (rest : List Place) × (numbered place from count ≡ (numbered place from i ++ place at ∷ []) ++ rest)
unfolding numbered
numbered_rest place from zero i at h e = absurd (omega arith)
numbered_rest place from (suc n) zero at h e =
    let f : from ≡ at = omega (arith, e) in
    (numbered place (from + 1) n, ap (λ a. place a ∷ numbered place (from + 1) n) f)
numbered_rest place from (suc n) (suc i) at h e =
    let r = numbered_rest place (from + 1) n i at (omega arith) (omega (arith, e)) in
    (r.0, ap (λ ps. place from ∷ ps) r.1)

pub registers-more : (xs : List CpuReg) (i : ℕ) (d : CpuReg) → i < length xs
    → registers_of (take (i + 1) xs) ≡ registers_of (take i xs) ++ Register (get_or xs i d) ∷ []
registers-more xs i d h = rw (add-one, take-suc xs i d) (registers_of-append (take i xs) (get_or xs i d ∷ []))

pub registers_rest : (xs : List CpuReg) (i : ℕ) (d : CpuReg) → i < length xs
    → (rest : List Place) × (registers_of xs ≡ (registers_of (take i xs) ++ Register (get_or xs i d) ∷ []) ++ rest)
registers_rest xs i d h = (
  registers_of (drop (i + 1) xs),
  ap registers_of (sym (take-append-drop (i + 1) xs)) ∙ registers_of-append (take (i + 1) xs) (drop (i + 1) xs)
      ∙ ap (λ ps. ps ++ registers_of (drop (i + 1) xs)) (registers-more xs i d h),
)

pub all_places-more : (shape : Shape) (device : Name) (xs : List Item) (i : ℕ) (d : Item) → i < length xs
    → all_places shape device (take (i + 1) xs) ≡ all_places shape device (take i xs) ++ places_of shape device (get_or xs i d)
unfolding all_places
all_places-more shape device xs i d h =
    rw (add-one, take-suc xs i d, all_places-append shape device (take i xs) (get_or xs i d ∷ [])) (simp append-nil)

pub all_places_rest : (shape : Shape) (device : Name) (xs : List Item) (i : ℕ) (d : Item) → i < length xs
    → (rest : List Place) × (all_places shape device xs ≡ (all_places shape device (take i xs) ++ places_of shape device (get_or xs i d)) ++ rest)
all_places_rest shape device xs i d h = (
  all_places shape device (drop (i + 1) xs),
  ap (λ ys. all_places shape device ys) (sym (take-append-drop (i + 1) xs)) ∙ all_places-append shape device (take (i + 1) xs) (drop (i + 1) xs)
      ∙ ap (λ ps. ps ++ all_places shape device (drop (i + 1) xs)) (all_places-more shape device xs i d h),
)

pub first_none : (a b : Option ExamineFault) → or_fault a b ≡ None → a ≡ None
first_none None b e = refl
first_none (Some fault) b e = e

pub second_none : (a b : Option ExamineFault) → or_fault a b ≡ None → b ≡ None
second_none None b e = e
second_none (Some fault) b e = cc

-- each item of a list without a fault has none
pub items_fault-none : (f : Item → Option ExamineFault) (xs : List Item) (i : ℕ) (d : Item) → items_fault f xs ≡ None → i < length xs → f (get_or xs i d) ≡ None
unfolding items_fault
items_fault-none f [] i d none h = absurd (omega arith)
items_fault-none f (x ∷ xs) zero d none h = first_none (f x) (items_fault f xs) none
items_fault-none f (x ∷ xs) (suc i) d none h = items_fault-none f xs i d (second_none (f x) (items_fault f xs) none) (omega arith)

-- nothing is printed before the first place
pub nothing_yet : (before text : List ℕ) → text ≡ [] → before ≡ before ++ text
nothing_yet before text e = sym (ap (λ t. before ++ t) e ∙ append-nil before)

pub listed-none : (m : MachineState) (s : Bool) (c : Option Condition) → listed m s c [] ≡ []
unfolding listed
listed-none m s c = refl

pub numbered-none : (place : ℕ → Place) (from : ℕ) → numbered place from 0 ≡ []
unfolding numbered
numbered-none place from = refl

pub all_places-none : (shape : Shape) (device : Name) → all_places shape device [] ≡ []
unfolding all_places
all_places-none shape device = refl

-- the text of more places was printed behind that of the ones before
pub listed_more : (m : MachineState) (s : Bool) (c : Option Condition) (before at after : List ℕ) (xs ys both : List Place)
    → both ≡ xs ++ ys → at ≡ before ++ listed m s c xs → after ≡ at ++ listed m s c ys → after ≡ before ++ listed m s c both
listed_more m s c before at after xs ys both e first second =
    second ∙ ap (λ t. t ++ listed m s c ys) first ∙ append_assoc before (listed m s c xs) (listed m s c ys)
    ∙ ap (λ t. before ++ t) (sym (listed-append m s c xs ys)) ∙ ap (λ ps. before ++ listed m s c ps) (sym e)

-- a first part of a text behind another one is a first part of the whole
pub part_behind : (before done piece rest at after : List ℕ) → at ≡ before ++ done → AddsPart at piece after → AddsPart before ((done ++ piece) ++ rest) after
part_behind before done piece rest at after e part =
    let n = part.0 in
    let lt : n < length piece = part.1 in
    let l1 : length ((done ++ piece) ++ rest) ≡ length done + length piece + length rest = simp length-append in
    let within : length done + n ≤ length (done ++ piece) = omega (arith, length-append done piece) in
    let taken : take (length done + n) ((done ++ piece) ++ rest) ≡ done ++ take n piece =
    take-append-le (length done + n) (done ++ piece) rest within ∙ take-append-add done piece n in (
      length done + n,
      omega (arith, l1, lt),
      part.2 ∙ ap (λ t. t ++ take n piece) e ∙ append_assoc before done (take n piece) ∙ ap (λ t. before ++ t) (sym taken),
    )

-- the same of the text of places
pub listed_part : (m : MachineState) (s : Bool) (c : Option Condition) (before at after : List ℕ) (xs ys whole : List Place)
    → (rest : List Place) × (whole ≡ (xs ++ ys) ++ rest)
    → at ≡ before ++ listed m s c xs → AddsPart at (listed m s c ys) after → AddsPart before (listed m s c whole) after
listed_part m s c before at after xs ys whole rest e part =
    let P : List ℕ → Type 0 = λ t. AddsPart before t after in
    let eq : (listed m s c xs ++ listed m s c ys) ++ listed m s c rest.0 ≡ listed m s c whole =
    ap (λ t. t ++ listed m s c rest.0) (sym (listed-append m s c xs ys)) ∙ sym (listed-append m s c (xs ++ ys) rest.0) ∙ ap (λ ps. listed m s c ps) (sym rest.1) in
    subst P eq (part_behind before (listed m s c xs) (listed m s c ys) (listed m s c rest.0) at after e part)
