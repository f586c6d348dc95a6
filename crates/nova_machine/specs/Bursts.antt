-- What a burst of the processor is to the machine: turns in which nothing but an instruction can come.
use Rattle.std.specs.Prelude.{◌≡◌, ◌&&◌, ◌==◌, ℕ, ◌+◌, ◌-◌, ◌<◌, Bool, false, List, Option, Some, if◌then◌else◌}
use Rattle.event_queue.specs.EventList.{lowered, IsClear}
use Rattle.nova_interrupts.specs.Interrupts.{released}
use Rattle.nova_interrupts.specs.Requests.{requested}
use Rattle.nova_processor.specs.declared.burst.BurstEnd.{BurstEnd}
use Rattle.nova_processor.specs.declared.burst.BurstEnd.TheVariants as burst_end
use Rattle.expect_actions.specs.Watch.{WatchState}
use Rattle.nova_machine.specs.declared.machine.Stop.TheVariants.{ChainLimit}
use Rattle.nova_machine.specs.Machine.{MachineState}
use Rattle.file_traits.specs.Lists.{NamedBytes}
use Rattle.host_lines.specs.Traffic.{Answer}
use Rattle.host_lines.specs.State.{LineState}
use Rattle.nova_machine.specs.Notes.{RunNote}
use Rattle.nova_machine.specs.Seen.{seen, beside}
use Rattle.nova_machine.specs.Parts.{silent}
use Rattle.nova_machine.specs.Run.{turns}

-- so many instructions have passed
unfoldable pub passed_by : ℕ → MachineState → MachineState
passed_by count m = record m {
  ints = if count == 0 then m.ints else released m.ints;
  time = m.time + count;
  events = lowered count m.events;
}

-- no event is due and no interrupt can come within so many instructions
pub record IsCalm (count : ℕ) (m : MachineState) : Type 0 where
  pub quiet : 0 < count → (m.ints.on && requested m.ints.mask m.units) ≡ false
  pub clear : IsClear count m.events

-- Of so many turns some are done, under these watch tables: those that are left come to what they all come to, with
-- these keys, whichever files and failing calls there are. A chain without an end has ended them.
abbrev pub Bursts : WatchState → List (ℕ × ℕ) → ℕ → ℕ → BurstEnd → MachineState → MachineState → Type 0
Bursts watch keys most done burst_end.ChainLimit old new =
    (note : Option RunNote) (step : Bool) (files : List NamedBytes) (lines : LineState) (whole : List Answer)
    → turns note step false most (seen (beside watch keys files lines) whole old) ≡ silent (Some ChainLimit) (seen (beside watch keys files lines) whole new)
Bursts watch keys most done end old new =
    (note : Option RunNote) (step : Bool) (files : List NamedBytes) (lines : LineState) (whole : List Answer)
    → turns note step false most (seen (beside watch keys files lines) whole old) ≡ turns note step false (most - done) (seen (beside watch keys files lines) whole new)
