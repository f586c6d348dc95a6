-- The registers of devices: where they are, what they can hold, and what setting one leaves.
use Rattle.std.proofs.Common.{◌≡◌, inl, inr, ℕ, ◌+◌, ◌<◌, ◌≤◌, ◌==◌, ◌||◌, zero, suc, Bool, true, false, List, [], ◌∷◌, length, Contains, slice_get, slice_set, Option, Some, None, is_some, option_map, option_and_then, option_to_list, if◌then◌else◌, refl, sym, ap, subst, ◌∙◌, arith}
use Rattle.std.proofs.lemmas.Option.{same_Some}
use Rattle.std.proofs.lemmas.Bool.{cases_eq, eqb-true, eq-eqb}
use Rattle.unit_trait.specs.declared.kind.Kind.{Kind}
use Rattle.unit_trait.specs.declared.processor.CpuReg.{CpuReg}
use Rattle.unit_trait.specs.Device as table
use Rattle.unit_trait.specs.Kinds.{code_of}
use Rattle.unit_trait.specs.Registers.{registers, register_at}
use Rattle.unit_trait.specs.Processor.{all_registers}
use Rattle.unit_trait.specs.Calls.{UnitState}
use Rattle.unit_trait.specs.Row.{InRange, Fits, takes_value}
use Rattle.unit_trait.proofs.Codes.{same-code}
use Rattle.unit_trait.proofs.LineRegisters.{registers-many}
use Rattle.unit_trait.proofs.EveryKind.{every-kind}
use Rattle.unit_trait.proofs.Ranges.{set-within, taken-within}
use Rattle.unit_list.specs.Bus.{unit_at, register_in, with_register, with_register_in, kinds_of, AllFit}
use Rattle.unit_list.proofs.Calls.{changed-here, changed-elsewhere}
use Rattle.operand_forms.specs.declared.listing.Name.TheVariants as whose
use Rattle.scp_examine.specs.Shape.{has_kind}
use Rattle.scp_examine.specs.Places.{Register, UnitRegister, numbered, registers_of, named_register, largest_or_0}

-- Which registers there are.

registers_of-at : (rs : List CpuReg) (i : ℕ) → slice_get (registers_of rs) i ≡ option_map (λ r. Register r) (slice_get rs i)
registers_of-at [] i = refl
registers_of-at (r ∷ rs) zero = refl
registers_of-at (r ∷ rs) (suc i) = registers_of-at rs i

pub named-processor : (i : ℕ) → named_register whose.Cpu i ≡ option_map (λ r. Register r) (slice_get all_registers i)
unfolding named_register
named-processor i = registers_of-at all_registers i

numbered-at : (kind : Kind) (rs : List table.Register) (from i at : ℕ) → at ≡ from + i
    → slice_get (numbered (UnitRegister kind) from (length rs)) i ≡ option_map (λ r. UnitRegister kind at) (slice_get rs i)
unfolding numbered
numbered-at kind [] from i at e = refl
numbered-at kind (r ∷ rs) from zero at e =
    let f : from ≡ at = omega (arith, e) in
    ap (λ n. Some (UnitRegister kind n)) f
numbered-at kind (r ∷ rs) from (suc i) at e = numbered-at kind rs (from + 1) i at (omega (arith, e))

pub named-unit : (kind : Kind) (i : ℕ) → named_register (whose.Device kind) i ≡ option_map (λ r. UnitRegister kind i) (register_at kind i)
unfolding named_register
named-unit kind i = numbered-at kind (registers kind) 0 i i (omega arith)

listed-once : {A B : Type 0} (y : B) (o : Option A) → is_some o ≡ true → y ∷ [] ≡ option_to_list (option_map (λ x. y) o)
listed-once y None is = cc
listed-once y (Some x) is = refl

listed-never : {A B : Type 0} (y : B) (o : Option A) → is_some o ≡ false → [] ≡ option_to_list (option_map (λ x. y) o)
listed-never y None is = refl
listed-never y (Some x) is = cc

-- a register that is there is the one place of its number, and one that is not is none
pub unit-listed : (kind : Kind) (i : ℕ) → is_some (register_at kind i) ≡ true → UnitRegister kind i ∷ [] ≡ option_to_list (named_register (whose.Device kind) i)
unit-listed kind i there = listed-once (UnitRegister kind i) (register_at kind i) there ∙ ap option_to_list (sym (named-unit kind i))

pub unit-unlisted : (kind : Kind) (i : ℕ) → is_some (register_at kind i) ≡ false → [] ≡ option_to_list (named_register (whose.Device kind) i)
unit-unlisted kind i none = listed-never (UnitRegister kind i) (register_at kind i) none ∙ ap option_to_list (sym (named-unit kind i))

some-map : {A B : Type 0} (f : A → B) (o : Option A) → is_some (option_map f o) ≡ is_some o
some-map f None = refl
some-map f (Some x) = refl

pub is_named-processor : (i : ℕ) → is_some (named_register whose.Cpu i) ≡ is_some (slice_get all_registers i)
is_named-processor i = ap is_some (named-processor i) ∙ some-map (λ r. Register r) (slice_get all_registers i)

pub is_named-unit : (kind : Kind) (i : ℕ) → is_some (named_register (whose.Device kind) i) ≡ is_some (register_at kind i)
is_named-unit kind i = ap is_some (named-unit kind i) ∙ some-map (λ r. UnitRegister kind i) (register_at kind i)

past-none : {A : Type 0} (xs : List A) (i : ℕ) → is_some (slice_get xs i) ≡ false → length xs ≤ i
past-none [] i none = omega arith
past-none (x ∷ xs) zero none = cc
past-none (x ∷ xs) (suc i) none = let h = past-none xs i none in omega (arith, h)

within-some : {A : Type 0} (xs : List A) (i : ℕ) → is_some (slice_get xs i) ≡ true → i < length xs
within-some [] i some = cc
within-some (x ∷ xs) zero some = omega arith
within-some (x ∷ xs) (suc i) some = let h = within-some xs i some in omega (arith, h)

-- a number up to which there are registers, and which is none of them, is how many there are
pub register_count-found : (kind : Kind) (i : ℕ) → i ≤ length (registers kind) → is_some (register_at kind i) ≡ false → i ≡ length (registers kind)
register_count-found kind i h none = let past = past-none (registers kind) i none in omega (arith, h, past)

pub register_count-more : (kind : Kind) (i : ℕ) → is_some (register_at kind i) ≡ true → i + 1 ≤ length (registers kind)
register_count-more kind i some = let within = within-some (registers kind) i some in omega (arith, within)

pub few_registers : (kind : Kind) → length (registers kind) ≤ 131
few_registers = every-kind (λ (k : Kind). length (registers k) ≤ 131)
    (omega arith, omega arith, omega arith, omega arith, omega arith, omega arith, omega arith, omega arith, omega arith, omega arith, omega (arith, registers-many))

-- Which units there are.

pub has_unit-kind : (kind : Kind) (us : List UnitState) → is_some (unit_at (code_of kind) us) ≡ has_kind kind (kinds_of us)
has_unit-kind kind [] = refl
has_unit-kind kind (u ∷ us) = by_code (code_of u.kind == code_of kind) (has_unit-kind kind us)
  where
    by_code : (same : Bool) → is_some (unit_at (code_of kind) us) ≡ has_kind kind (kinds_of us)
        → is_some (if same then Some u else unit_at (code_of kind) us) ≡ (same || has_kind kind (kinds_of us))
    by_code true later = refl
    by_code false later = later

pub or_later : (a b : Bool) → b ≡ true → (a || b) ≡ true
or_later true b h = refl
or_later false b h = h

pub has_kind-listed : (kind : Kind) (kinds : List Kind) → Contains kinds kind → has_kind kind kinds ≡ true
has_kind-listed kind [] h = absurd (omega (arith, h.1))
has_kind-listed kind (k ∷ more) (zero, h, e) = ap (λ b. b || has_kind kind more) (eq-eqb (code_of k) (code_of kind) (ap code_of e))
has_kind-listed kind (k ∷ more) (suc i, h, e) = or_later (code_of k == code_of kind) (has_kind kind more) (has_kind-listed kind more (i, omega arith, e))

pub listed-has_kind : (kind : Kind) (kinds : List Kind) → has_kind kind kinds ≡ true → Contains kinds kind
listed-has_kind kind [] there = cc
listed-has_kind kind (k ∷ more) there = by_code (code_of k == code_of kind) refl (listed-has_kind kind more) there
  where
    by_code : (b : Bool) → (code_of k == code_of kind) ≡ b → (has_kind kind more ≡ true → Contains more kind) → (b || has_kind kind more) ≡ true → Contains (k ∷ more) kind
    by_code true same later rest = (0, omega arith, same-code k kind (eqb-true (code_of k) (code_of kind) same))
    by_code false same later rest = let h = later rest in (suc h.0, omega (arith, h.1), h.2)

same-kind : (u : UnitState) (kind : Kind) → (code_of u.kind == code_of kind) ≡ true → u.kind ≡ kind
same-kind u kind same = same-code u.kind kind (eqb-true (code_of u.kind) (code_of kind) same)

-- the unit of a kind that is there
pub record IsFound (kind : Kind) (us : List UnitState) (u : UnitState) : Type 0 where
  pub stands : unit_at (code_of kind) us ≡ Some u
  pub same : u.kind ≡ kind
  pub fits : Fits u

found : (kind : Kind) (us : List UnitState) → AllFit us → has_kind kind (kinds_of us) ≡ true → (u : UnitState) × IsFound kind us u
found kind [] all there = cc
found kind (u ∷ us) all there = by_code (code_of u.kind == code_of kind) refl (found kind us all.1) there
  where
    by_code : (b : Bool) → (code_of u.kind == code_of kind) ≡ b → (has_kind kind (kinds_of us) ≡ true → (w : UnitState) × IsFound kind us w)
        → (b || has_kind kind (kinds_of us)) ≡ true → (w : UnitState) × IsFound kind (u ∷ us) w
    by_code true same later rest = (u, record { stands = ap (λ c. if c then Some u else unit_at (code_of kind) us) same; same = same-kind u kind same; fits = all.0 })
    by_code false same later rest =
        let w = later rest in
        (w.0, record { stands = ap (λ c. if c then Some u else unit_at (code_of kind) us) same ∙ w.1.stands; same = w.1.same; fits = w.1.fits })

-- What a register holds.

value-at-most : (rs : List table.Register) (vs : List ℕ) (i v : ℕ) → InRange rs vs → Some v ≡ slice_get vs i → v ≤ largest_or_0 (slice_get rs i)
value-at-most [] [] i v range some = absurd (cc)
value-at-most [] (w ∷ ws) i v range some = absurd range
value-at-most (r ∷ rs) [] i v range some = absurd range
value-at-most (r ∷ rs) (w ∷ ws) zero v range some =
    let e : v ≡ w = same_Some v w some in
    omega (arith, range.1, e)
value-at-most (r ∷ rs) (w ∷ ws) (suc i) v range some = value-at-most rs ws i v range.2 some

-- a register of a unit whose registers fit holds at most its largest value
pub unit_value-fits : (kind : Kind) (i v : ℕ) (us : List UnitState) → AllFit us → Some v ≡ register_in kind i us → v ≤ largest_or_0 (register_at kind i)
unit_value-fits kind i v [] all some = absurd (cc)
unit_value-fits kind i v (u ∷ us) all some = by_code (code_of u.kind == code_of kind) refl (unit_value-fits kind i v us all.1) some
  where
    by_code : (b : Bool) → (code_of u.kind == code_of kind) ≡ b → (Some v ≡ register_in kind i us → v ≤ largest_or_0 (register_at kind i))
        → Some v ≡ option_and_then (λ w. slice_get w.registers i) (if b then Some u else unit_at (code_of kind) us)
        → v ≤ largest_or_0 (register_at kind i)
    by_code true same later here =
        subst (λ k. v ≤ largest_or_0 (register_at k i)) (same-kind u kind same) (value-at-most (registers u.kind) u.registers i v all.0 here)
    by_code false same later here = later here

-- What setting a register leaves.

get-set_same : (vs : List ℕ) (i v : ℕ) → i < length vs → slice_get (slice_set vs i v) i ≡ Some v
get-set_same [] i v h = absurd (omega arith)
get-set_same (w ∷ ws) zero v h = refl
get-set_same (w ∷ ws) (suc i) v h = get-set_same ws i v (omega arith)

get-set_other : (vs : List ℕ) (i j v : ℕ) → (j ≡ i → ⊥) → slice_get (slice_set vs i v) j ≡ slice_get vs j
get-set_other [] i j v apart = refl
get-set_other (w ∷ ws) zero zero v apart = absurd (apart refl)
get-set_other (w ∷ ws) zero (suc j) v apart = refl
get-set_other (w ∷ ws) (suc i) zero v apart = refl
get-set_other (w ∷ ws) (suc i) (suc j) v apart = get-set_other ws i j v (λ e. apart (ap suc e))

as-many : (rs : List table.Register) (vs : List ℕ) → InRange rs vs → length vs ≡ length rs
as-many [] [] range = refl
as-many [] (w ∷ ws) range = absurd range
as-many (r ∷ rs) [] range = absurd range
as-many (r ∷ rs) (w ∷ ws) range = ap suc (as-many rs ws range.2)

-- the kinds stay
pub kinds-set : (kind : Kind) (i v : ℕ) (us : List UnitState) → kinds_of (with_register_in kind i v us) ≡ kinds_of us
kinds-set kind i v [] = refl
kinds-set kind i v (u ∷ us) = by_code (code_of u.kind == code_of kind) (kinds-set kind i v us)
  where
    by_code : (same : Bool) → kinds_of (with_register_in kind i v us) ≡ kinds_of us → kinds_of (if same then with_register i v u ∷ us else u ∷ with_register_in kind i v us) ≡ u.kind ∷ kinds_of us
    by_code true later = refl
    by_code false later = ap (λ kinds. u.kind ∷ kinds) later

-- a value that a register takes leaves units whose registers fit
pub all_fit-set : (kind : Kind) (i v : ℕ) (us : List UnitState) → takes_value (register_at kind i) v ≡ true → AllFit us → AllFit (with_register_in kind i v us)
all_fit-set kind i v [] takes all = tt
all_fit-set kind i v (u ∷ us) takes all = by_code (code_of u.kind == code_of kind) refl (all_fit-set kind i v us takes all.1)
  where
    by_code : (b : Bool) → (code_of u.kind == code_of kind) ≡ b → AllFit (with_register_in kind i v us) → AllFit (if b then with_register i v u ∷ us else u ∷ with_register_in kind i v us)
    by_code true same later =
        let takes_here = subst (λ k. takes_value (register_at k i) v ≡ true) (sym (same-kind u kind same)) takes in
        (set-within (registers u.kind) u.registers i v all.0 (taken-within (register_at u.kind i) v takes_here), all.1)
    by_code false same later = (all.0, later)

-- the register holds the value
pub register_in-set : (kind : Kind) (i v : ℕ) (us : List UnitState) → AllFit us → has_kind kind (kinds_of us) ≡ true → i < length (registers kind)
    → register_in kind i (with_register_in kind i v us) ≡ Some v
register_in-set kind i v us all there within =
    let f = found kind us all there in
    let u = f.0 in
    let many : length u.registers ≡ length (registers kind) = as-many (registers u.kind) u.registers f.1.fits ∙ ap (λ k. length (registers k)) f.1.same in
    let h : i < length u.registers = omega (arith, many, within) in
    let held : Option UnitState → Option ℕ = option_and_then (λ w. slice_get w.registers i) in
    ap held (changed-here (code_of kind) (with_register i v) us (λ w. refl)) ∙ ap (λ o. held (option_map (with_register i v) o)) f.1.stands
    ∙ get-set_same u.registers i v h

-- every other register holds what it held
pub register_in-other : (kind other : Kind) (i j v : ℕ) (us : List UnitState) → (UnitRegister other j ≡ UnitRegister kind i → ⊥)
    → register_in other j (with_register_in kind i v us) ≡ register_in other j us
register_in-other kind other i j v us apart = elim (cases_eq (code_of other) (code_of kind)) [
  | inl same ↦
      let e : other ≡ kind = same-code other kind same in
      subst (λ k. register_in k j (with_register_in kind i v us) ≡ register_in k j us) (sym e)
      (here (λ f. apart (ap (λ k. UnitRegister k j) e ∙ ap (λ n. UnitRegister kind n) f)))
  | inr elsewhere ↦ ap held (changed-elsewhere (code_of other) (code_of kind) (with_register i v) us (λ w. refl) elsewhere)
]
  where
    held : Option UnitState → Option ℕ
    held o = option_and_then (λ w. slice_get w.registers j) o

    of_unit : (o : Option UnitState) → (j ≡ i → ⊥) → held (option_map (with_register i v) o) ≡ held o
    of_unit None different = refl
    of_unit (Some u) different = get-set_other u.registers i j v different

    here : (j ≡ i → ⊥) → register_in kind j (with_register_in kind i v us) ≡ register_in kind j us
    here different = ap held (changed-here (code_of kind) (with_register i v) us (λ w. refl)) ∙ of_unit (unit_at (code_of kind) us) different
