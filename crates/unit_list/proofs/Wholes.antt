-- Units of which all registers are read, or set.
use Rattle.std.proofs.Common.{◌≡◌, ℕ, ◌+◌, ◌<◌, ◌≤◌, zero, suc, false, cond, IsTrue, List, [], ◌∷◌, ◌++◌, length, take, drop, map, Some, Result, Ok, Err, IsOk, refl, sym, subst, ap, ◌∙◌, append-nil, add-one, arith}
use Rattle.std.specs.Prelude.{◌↔◌, OnOk, slice_get, slice_index, slice_set}
use Rattle.std.specs.List.{AllByRecursion, IsDistinct}
use Rattle.std.proofs.lemmas.Bool.{eq-eqb}
use Rattle.std.proofs.lemmas.Bool.Decides.{nat_tests}
use Rattle.std.proofs.lemmas.List.{take_all, drop_all}
use Rattle.unit_trait.specs.declared.kind.Kind.{Kind}
use Rattle.unit_trait.specs.Device.{Register}
use Rattle.unit_trait.specs.Kinds.{code_of}
use Rattle.unit_trait.specs.Registers.{registers, register_at}
use Rattle.unit_trait.specs.Calls.{UnitState}
use Rattle.unit_trait.specs.Row.{InRange, Fits, takes_value}
use Rattle.unit_list.specs.Bus.{unit_at, kinds_of}
use Rattle.unit_list.specs.Whole.{registers_or_none, with_registers, with_registers_in, unit_read, units_set, same_kind, UnitsAreWhole}

-- ---- one unit
long : (rs : List Register) (vs : List ℕ) → InRange rs vs → length vs ≡ length rs
long [] [] range = refl
long [] (v ∷ vs) range = absurd range
long (r ∷ rs) [] range = absurd range
long (r ∷ rs) (v ∷ vs) range = ap suc (long rs vs range.2)

pub range-long : (kind : Kind) (vs : List ℕ) → InRange (registers kind) vs → length vs ≡ length (registers kind)
range-long kind vs range = long (registers kind) vs range

pub takes-each : (rs : List Register) (vs : List ℕ) (i : ℕ) → InRange rs vs → i < length vs → IsTrue (takes_value (slice_get rs i) (slice_index vs i))
takes-each [] [] i range within = absurd (omega arith)
takes-each [] (v ∷ vs) i range within = absurd range
takes-each (r ∷ rs) [] i range within = absurd range
takes-each (r ∷ rs) (v ∷ vs) zero range within = grind (arith, nat_tests, range.0, range.1)
takes-each (r ∷ rs) (v ∷ vs) (suc i) range within = takes-each rs vs i range.2 (omega (arith, within))

put-next : (vs ws : List ℕ) (i : ℕ) → length ws ≡ length vs → i < length vs
    → slice_set (take i vs ++ drop i ws) i (slice_index vs i) ≡ take (suc i) vs ++ drop (suc i) ws
put-next [] ws i same within = absurd (omega arith)
put-next (v ∷ vs) [] i same within = absurd (omega arith)
put-next (v ∷ vs) (w ∷ ws) zero same within = refl
put-next (v ∷ vs) (w ∷ ws) (suc i) same within = ap (λ rest. v ∷ rest) (put-next vs ws i (omega (arith, same)) (omega (arith, within)))

-- one register more of a unit was set
pub set-more : (old before after : UnitState) (vs : List ℕ) (i next : ℕ) → length old.registers ≡ length vs → i < length vs → next ≡ i + 1
    → before ≡ with_registers (take i vs ++ drop i old.registers) old → after ≡ with_registers (slice_set before.registers i (slice_index vs i)) before
    → after ≡ with_registers (take next vs ++ drop next old.registers) old
set-more old before after vs i next same within is was becomes =
    becomes
    ∙ ap (λ (u : UnitState). with_registers (slice_set u.registers i (slice_index vs i)) u) was
    ∙ ap (λ rs. with_registers rs old) (put-next vs old.registers i same within)
    ∙ ap (λ n. with_registers (take n vs ++ drop n old.registers) old) (sym (is ∙ add-one i))

-- what a setting that must succeed makes
pub set-so : {T E P Q : Type 0} (r : Result T E) → Q → (IsOk r ↔ Q) → OnOk r P → P
set-so (Ok x) may same gives = gives
set-so (Err e) may same gives = let never = same.1 may in absurd (cc)

-- all were set
pub set-all : (old after : UnitState) (vs : List ℕ) (n : ℕ) → length old.registers ≡ length vs → length vs ≤ n
    → after ≡ with_registers (take n vs ++ drop n old.registers) old → after ≡ with_registers vs old
set-all old after vs n same most is =
    is
    ∙ ap (λ rs. with_registers (rs ++ drop n old.registers) old) (take_all n vs most)
    ∙ ap (λ rs. with_registers (vs ++ rs) old) (drop_all n old.registers (omega (arith, same, most)))
    ∙ ap (λ rs. with_registers rs old) (append-nil vs)

-- each register of a unit takes its value, also when others before it were set
pub may-set : (old before : UnitState) (vs rs : List ℕ) (i : ℕ) → InRange (registers old.kind) vs → i < length vs → before ≡ with_registers rs old
    → IsTrue (takes_value (register_at before.kind i) (slice_index vs i))
may-set old before vs rs i range within was =
    subst (λ kind. IsTrue (takes_value (register_at kind i) (slice_index vs i))) (sym (ap (λ (u : UnitState). u.kind) was))
    (takes-each (registers old.kind) vs i range within)

pub fits-then : (old after : UnitState) (vs : List ℕ) → InRange (registers old.kind) vs → after ≡ with_registers vs old → Fits after
fits-then old after vs range is = subst Fits (sym is) range

-- ---- all units
first-set : (u v : UnitState) (us : List UnitState) → v.kind ≡ u.kind → with_registers_in v.kind v.registers (u ∷ us) ≡ v ∷ us
first-set u v us same =
    ap (λ b. cond b (with_registers v.registers u ∷ us) (u ∷ with_registers_in v.kind v.registers us)) (eq-eqb (code_of u.kind) (code_of v.kind) (sym (ap code_of same)))
    ∙ ap (λ kind. record { kind = kind; registers = v.registers } ∷ us) (sym same)

first-stays : (u : UnitState) (us vs : List UnitState) → AllByRecursion (λ kind. same_kind u.kind kind ≡ false) (kinds_of vs) → units_set (u ∷ us) vs ≡ u ∷ units_set us vs
first-stays u us [] apart = refl
first-stays u us (v ∷ vs) apart =
    ap (λ b. units_set (cond b (with_registers v.registers u ∷ us) (u ∷ with_registers_in v.kind v.registers us)) vs) apart.0
    ∙ first-stays u (with_registers_in v.kind v.registers us) vs apart.1

none-set : (vs : List UnitState) → kinds_of vs ≡ [] → units_set [] vs ≡ vs
none-set [] same = refl
none-set (v ∷ vs) same = absurd (cc)

units-set : (us vs : List UnitState) → IsDistinct same_kind (kinds_of us) → kinds_of vs ≡ kinds_of us → units_set us vs ≡ vs
unfolding IsDistinct
units-set [] vs distinct same = none-set vs same
units-set (u ∷ us) [] distinct same = absurd (cc)
units-set (u ∷ us) (v ∷ vs) distinct same =
    let head : v.kind ≡ u.kind = cc in
    let rest : kinds_of vs ≡ kinds_of us = cc in
    let apart : AllByRecursion (λ kind. same_kind v.kind kind ≡ false) (kinds_of vs) = rw (head, rest) distinct.0 in
    ap (λ all. units_set all vs) (first-set u v us head)
    ∙ first-stays v us vs apart
    ∙ ap (λ all. v ∷ all) (units-set us vs distinct.1 rest)

others-read : (u : UnitState) (us : List UnitState) (kinds : List Kind) → AllByRecursion (λ kind. same_kind u.kind kind ≡ false) kinds
    → map (unit_read (u ∷ us)) kinds ≡ map (unit_read us) kinds
others-read u us [] apart = refl
others-read u us (kind ∷ kinds) apart =
    ap (λ b. record { kind = kind; registers = registers_or_none (cond b (Some u) (unit_at (code_of kind) us)) } ∷ map (unit_read (u ∷ us)) kinds) apart.0
    ∙ ap (λ all. unit_read us kind ∷ all) (others-read u us kinds apart.1)

units-read : (us : List UnitState) → IsDistinct same_kind (kinds_of us) → map (unit_read us) (kinds_of us) ≡ us
unfolding IsDistinct
units-read [] distinct = refl
units-read (u ∷ us) distinct =
    ap (λ b. record { kind = u.kind; registers = registers_or_none (cond b (Some u) (unit_at (code_of u.kind) us)) } ∷ map (unit_read (u ∷ us)) (kinds_of us)) (eq-eqb (code_of u.kind) (code_of u.kind) refl)
    ∙ ap (λ all. u ∷ all) (others-read u us (kinds_of us) distinct.0 ∙ units-read us distinct.1)

pub units-whole : UnitsAreWhole
units-whole = record { read = units-read; set = units-set }
