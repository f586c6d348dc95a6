-- A unit whose registers fit holds a value in each register of its kind, and no more.
use Rattle.std.proofs.Common.{◌≡◌, ℕ, zero, suc, List, [], ◌∷◌, Option, Some, None, refl, subst}
use Rattle.std.specs.Prelude.{slice_get, slice_index, option_map}
use Rattle.unit_trait.specs.declared.kind.Kind.{Kind}
use Rattle.unit_trait.specs.Device.{Register}
use Rattle.unit_trait.specs.Registers.{registers, register_at}
use Rattle.unit_trait.specs.Calls.{UnitState}
use Rattle.unit_trait.specs.Row.{InRange, Fits}

abbrev pub limits_of : Option Register → Option (ℕ × ℕ)
limits_of register = option_map (λ r. (r.least, r.largest)) register

held-at : (rs : List Register) (vs : List ℕ) (i : ℕ) (limits : ℕ × ℕ) → InRange rs vs → Some limits ≡ limits_of (slice_get rs i) → slice_get vs i ≡ Some (slice_index vs i)
held-at [] vs i limits range some = absurd (cc)
held-at (r ∷ rs) [] i limits range some = absurd range
held-at (r ∷ rs) (v ∷ vs) zero limits range some = refl
held-at (r ∷ rs) (v ∷ vs) (suc i) limits range some = held-at rs vs i limits range.2 some

none-at : (rs : List Register) (vs : List ℕ) (i : ℕ) → InRange rs vs → None ≡ limits_of (slice_get rs i) → slice_get vs i ≡ None
none-at [] [] i range none = refl
none-at [] (v ∷ vs) i range none = absurd range
none-at (r ∷ rs) [] i range none = refl
none-at (r ∷ rs) (v ∷ vs) zero range none = absurd (cc)
none-at (r ∷ rs) (v ∷ vs) (suc i) range none = none-at rs vs i range.2 none

pub held : (u : UnitState) (kind : Kind) (i : ℕ) (limits : ℕ × ℕ) → Fits u → kind ≡ u.kind → Some limits ≡ limits_of (register_at kind i) → slice_get u.registers i ≡ Some (slice_index u.registers i)
held u kind i limits fits same some = held-at (registers u.kind) u.registers i limits fits (subst (λ k. Some limits ≡ limits_of (register_at k i)) same some)

pub absent : (u : UnitState) (kind : Kind) (i : ℕ) → Fits u → kind ≡ u.kind → None ≡ limits_of (register_at kind i) → slice_get u.registers i ≡ None
absent u kind i fits same none = none-at (registers u.kind) u.registers i fits (subst (λ k. None ≡ limits_of (register_at k i)) same none)
