-- How much is taken of a machine: its words, the registers of its units, and its events.
use Rattle.std.proofs.Common.{◌≡◌, ℕ, ◌*◌, ◌/◌, ◌≤◌, false, List, [], ◌∷◌, length, refl, ◌∙◌, arith}
use Rattle.std.specs.List.{AllByRecursion, IsDistinct}
use Rattle.std.proofs.lemmas.Bool.{or_from}
use Rattle.unit_trait.specs.declared.kind.UnitName.{UnitName}
use Rattle.unit_trait.specs.Kinds.{same_unit}
use Rattle.unit_trait.specs.Registers.{Register}
use Rattle.unit_trait.specs.Row.{InRange}
use Rattle.event_queue.specs.EventList.{Event, waits, waiting, Sound}
use Rattle.event_queue.proofs.SoundLists.{same-unit-flips}
use Rattle.event_queue.proofs.Numbers.{room}
use Rattle.nova_memory.specs.Memory.{IsSize}
use Rattle.saved_session.specs.Ranges.{most_events}

pub size-back : (size : ℕ) → IsSize size → 1024 * (size / 1024) ≡ size
size-back size is = let step = is.step in omega (arith, step)

pub as-many : (rs : List Register) (vs : List ℕ) → InRange rs vs → length vs ≡ length rs
as-many [] [] range = refl
as-many [] (v ∷ vs) range = absurd range
as-many (r ∷ rs) [] range = absurd range
as-many (r ∷ rs) (v ∷ vs) range = let more = as-many rs vs range.2 in omega (arith, more)

pub sound-behind : (e : Event) (es : List Event) → Sound (e ∷ es) → Sound es
unfolding IsDistinct
sound-behind e es sound = record {
  rising = sound.rising.1;
  distinct = sound.distinct.1;
  units = sound.units.1;
  times = sound.times.1;
}

none-waits : (es : List Event) (u : UnitName) → AllByRecursion (λ (v : UnitName). same_unit u v ≡ false) (waiting es)
    → waits u es ≡ false
none-waits [] u none = refl
none-waits (e ∷ es) u none =
    or_from (same_unit e.unit u) (waits u es) (same-unit-flips e.unit u ∙ none.0) (none-waits es u none.1)

pub few-events : (es : List Event) → Sound es → length es ≤ most_events
unfolding IsDistinct
few-events [] sound = omega arith
few-events (e ∷ es) sound =
    let short = room e.unit es sound.units.0 (none-waits es e.unit sound.distinct.0) (sound-behind e es sound) in
    omega (arith, short)
