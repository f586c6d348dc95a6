-- Looks of both keyboards at one time, where the line of the second teletype may have a port: it is polled between bursts.
use Rattle.std.specs.Prelude.{◌≡◌, ℕ, ◌-◌, ◌<◌, ◌≤◌, Bool, false, List, [], ◌∷◌, slice_get, Option, Some, None}
use Rattle.unit_trait.specs.declared.kind.UnitName.{UnitName}
use Rattle.unit_trait.specs.declared.kind.Kind.TheVariants.{Tti1}
use Rattle.unit_trait.specs.declared.calls.Queue.TheVariants.{After}
use Rattle.unit_trait.specs.Calls.{UnitState}
use Rattle.event_queue.specs.EventList.{dues, served, activated}
use Rattle.file_traits.specs.Lists.{NamedBytes}
use Rattle.host_lines.specs.Traffic.{Answer}
use Rattle.host_lines.specs.Told.{IsFirst, record_in}
use Rattle.host_lines.specs.State.{LineState}
use Rattle.expect_actions.specs.Watch.{WatchState}
use Rattle.expect_actions.specs.Sends.{due_send}
use Rattle.expect_actions.specs.KeysFile.{due_key}
use Rattle.nova_processor.specs.declared.burst.BurstEnd.{BurstEnd}
use Rattle.nova_processor.specs.declared.burst.BurstEnd.TheVariants as burst_end
use Rattle.nova_machine.specs.declared.machine.Stop.{Stop}
use Rattle.nova_machine.specs.declared.machine.Stop.TheVariants.{ChainLimit}
use Rattle.telnet_lines.specs.Line.{unconnected}
use Rattle.nova_machine.specs.Machine.{MachineState, console_place}
use Rattle.nova_machine.specs.Notes.{RunNote}
use Rattle.nova_machine.specs.Seen.{Seen, seen, beside}
use Rattle.nova_machine.specs.Comes.{Output, output, Comes, Does}
use Rattle.nova_machine.specs.Run.{turns}
use Rattle.nova_machine.specs.Looks.{keyboard, keyless_wish}

-- the keyboard of the second teletype
abbrev pub second_keyboard : UnitName
second_keyboard = record { kind = Tti1; unit = 0 }

-- Where no key comes, both keyboards ask for their events again after so many instructions.
pub record LookAgain (period : ℕ) (units : List UnitState) : Type 0 where
  pub some : 1 ≤ period
  pub first : keyless_wish keyboard units ≡ After period
  pub second : keyless_wish second_keyboard units ≡ After period

-- Both keyboards look now, the console's first, and no other event is due.
pub record AreLooking (period : ℕ) (m : MachineState) : Type 0 where
  pub dues : dues m.events ≡ keyboard ∷ second_keyboard ∷ []
  pub again : LookAgain period m.units

-- The console's keyboard has looked, and the event of the other one was taken.
abbrev pub first_looked : ℕ → MachineState → MachineState
first_looked period m = record m { events = served (activated keyboard period (served m.events)) }

-- No key of the console comes: none is due, and its line has no port.
abbrev pub IsKeylessNow : WatchState → List (ℕ × ℕ) → MachineState → Type 0
IsKeylessNow watch keys m =
    (due_send m.time watch.sends ≡ None) × (due_key keys m.taken m.time ≡ None) × (slice_get m.lines console_place ≡ Some (unconnected None))

-- Of so many turns some are done, with polls of the lines among them: what those that are left come to, they all come to,
-- whichever files, failing calls and console there are. A chain without an end has ended them.
abbrev pub GoesOn : WatchState → List (ℕ × ℕ) → ℕ → ℕ → BurstEnd → LineState → MachineState → LineState → MachineState → Type 0
GoesOn watch keys most done burst_end.ChainLimit before old after new =
    (note : Option RunNote) (step : Bool) (files : List NamedBytes) (tells : Bool) (console : List ℕ)
    → Does (turns note step false most) (Some ChainLimit) (beside watch keys files before) old (beside watch keys files after) new tells console console
GoesOn watch keys most done end before old after new =
    (note : Option RunNote) (step : Bool) (files : List NamedBytes) (tells : Bool) (console : List ℕ)
    (r : Option Stop) (last : Seen) (out : Output) (whole : List Answer) → IsFirst (record_in after.told) whole
    → Comes (turns note step false (most - done) (seen (beside watch keys files after) whole new)) r last tells (output console after.sent) out
    → Comes (turns note step false most (seen (beside watch keys files before) whole old)) r last tells (output console before.sent) out

-- What was done ahead of the turns to which it belongs: what they come to behind it, they come to.
abbrev pub IsAhead : WatchState → List (ℕ × ℕ) → LineState → MachineState → LineState → MachineState → Type 0
IsAhead watch keys before old after new = (most : ℕ) → 0 < most → GoesOn watch keys most 0 burst_end.Spent before old after new
