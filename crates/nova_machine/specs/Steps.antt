-- What turns and runs make of a machine, whatever its files, its lines and the console answer: the bytes that a file gives,
-- what an operation on a tape leaves in memory, and what a line gives, are free; all else is as it is defined. A file and a
-- line of the system, which tell nothing, leave no more than that open.
use Rattle.std.specs.Prelude.{◌≡◌, ◌⊎◌, ◌≢◌, ◌&&◌, ℕ, suc, ◌-◌, ◌<◌, ◌≤◌, Bool, true, false, List, [], Option, Some, None, option_map}
use Rattle.nova_memory.specs.Memory.{MemoryState}
use Rattle.unit_trait.specs.declared.kind.UnitName.{UnitName}
use Rattle.unit_trait.specs.declared.calls.Want.{Want}
use Rattle.unit_trait.specs.declared.calls.Want.TheVariants as want
use Rattle.unit_trait.specs.declared.calls.TapeOrder.{TapeOrder}
use Rattle.unit_trait.specs.declared.calls.Got.TheVariants as got
use Rattle.unit_files.specs.Attachments.{Attachment, attachment_at}
use Rattle.event_queue.specs.EventList.{due, served}
use Rattle.telnet_lines.specs.Line.{LineOf}
use Rattle.expect_actions.specs.Breaks.{stop_at, after_test}
use Rattle.expect_actions.specs.Expects.{ExpectTable}
use Rattle.expect_actions.specs.Sends.{due_send}
use Rattle.expect_actions.specs.KeysFile.{due_key}
use Rattle.expect_actions.specs.Watch.{WatchState}
use Rattle.nova_processor.specs.declared.burst.BurstEnd.{BurstEnd}
use Rattle.nova_processor.specs.declared.burst.BurstEnd.TheVariants as burst_end
use Rattle.nova_machine.specs.declared.machine.Stop.{Stop}
use Rattle.nova_machine.specs.declared.machine.Stop.TheVariants.{ChainLimit, Break, Expect, Limit, FileFault, BadImage}
use Rattle.nova_machine.specs.declared.machine.Stop.TheVariants as stop
use Rattle.nova_machine.specs.declared.service.Hosted.{Hosted}
use Rattle.nova_machine.specs.declared.service.Hosted.TheVariants.{Gets, Wru, Matched, Stops}
use Rattle.nova_machine.specs.Machine.{MachineState}
use Rattle.nova_machine.specs.Seen.{attached_in}
use Rattle.nova_machine.specs.Turned.{Turned, stops}
use Rattle.nova_machine.specs.Wants.{first_key, typed_key}
use Rattle.nova_machine.specs.declared.on_line.OnLine.{OnLine}
use Rattle.nova_machine.specs.OnLines.{IsOfLine, is_ported}
use Rattle.nova_machine.specs.OnLine.{got_on, stop_on, expects_on, IsDoneOn, IsOffLine}
use Rattle.nova_machine.specs.Hosting.{IsHosted, watch_behind}
use Rattle.memory_transfer.specs.Tapes.{writes_tape}
use Rattle.nova_machine.specs.Service.{want_at, asked, answered, done_for, stopping}
use Rattle.nova_machine.specs.Turn.{interrupt, fetch}
use Rattle.nova_machine.specs.Run.{last_time, expired}
use Rattle.nova_machine.specs.Bursts.{Bursts}

-- ---- one service

-- What a unit wants was done that has this attachment, where this typed key comes: as it is defined, but that the memory
-- behind an operation on a tape is that.
abbrev pub worked : MemoryState → Option ℕ → Option Attachment → Want → MachineState → MachineState
worked memory key a (want.Tape order) m = record m { processor = record m.processor { memory = memory } }
worked memory key a other m = done_for None key a [] other m

-- A file that is read gives a byte, or has ended, or the call has failed; where none is attached there is none.
abbrev pub IsByteAnswer : Option Attachment → Hosted → Type 0
IsByteAnswer None made = made ≡ Gets got.NoFile
IsByteAnswer (Some a) (Gets (got.Byte byte)) = Unit {0}
IsByteAnswer (Some a) (Gets got.End) = Unit {0}
IsByteAnswer (Some a) (Stops (FileFault f)) = Unit {0}
IsByteAnswer (Some a) made = ⊥

-- An operation on a tape ends somewhere, or is done, or a call has failed, or the image is bad; a tape that is only read is not
-- written.
abbrev pub IsTapeDone : Bool → Hosted → Type 0
IsTapeDone true made = made ≡ Gets got.ReadOnly
IsTapeDone false (Gets (got.Tape tape)) = Unit {0}
IsTapeDone false (Gets got.Done) = Unit {0}
IsTapeDone false (Stops (FileFault f)) = Unit {0}
IsTapeDone false (Stops (BadImage unit place)) = Unit {0}
IsTapeDone false made = ⊥

abbrev pub IsTapeAnswer : TapeOrder → Option Attachment → Hosted → Type 0
IsTapeAnswer order None made = made ≡ Gets got.NoFile
IsTapeAnswer order (Some a) made = IsTapeDone (writes_tape order && a.read_only) made

-- what a want comes to, by its definition, but that a file gives what it does
abbrev pub IsAnswer : Want → Option Attachment → Option ℕ → ExpectTable → Hosted → Type 0
IsAnswer (want.ReadByte place) a key expects made = IsByteAnswer a made
IsAnswer (want.Tape order) a key expects made = IsTapeAnswer order a made
IsAnswer w a key expects made = IsHosted w a [] key expects made

-- A want of a unit that was asked comes to that, and so the machine and the watch tables stand behind it. Of what is kept
-- beside the disk's copy nothing is said.
pub record IsMade (keys : List (ℕ × ℕ)) (unit : UnitName) (w : Want) (watch watch' : WatchState) (m done : MachineState) (made : Hosted) : Type 0 where
  pub answer : IsAnswer w (attachment_at (attached_in m) unit) (first_key (due_send m.time watch.sends) (due_key keys m.taken m.time)) watch.expects made
  pub memory : MemoryState
  pub done_is : done
      ≡ record (worked memory (typed_key (due_send m.time watch.sends) (due_key keys m.taken m.time)) (attachment_at (attached_in m) unit) w m) { aside = done.aside }
  pub watched : watch' ≡ watch_behind m.time w made watch

-- the unit is answered, but where a call has failed, an image is bad or the console has refused a byte
abbrev pub left_by : UnitName → Hosted → MachineState → Turned
left_by unit (Gets g) m = answered unit g m
left_by unit Wru m = stopping (Some stop.Wru) (answered unit got.NoKey m)
left_by unit (Matched place) m = stopping (Some (Expect place)) (answered unit got.Done m)
left_by unit (Stops why) m = stops why m

-- A unit is served whose event was taken: it says what it wants, that is done, and it is answered. It wants nothing of the
-- console line.
pub record IsOwnService (keys : List (ℕ × ℕ)) (unit : UnitName) (why : Option Stop) (watch watch' : WatchState) (old new : MachineState) : Type 0 where
  pub off : IsOffLine (want_at unit old) (is_ported old.lines) (first_key (due_send old.time watch.sends) (due_key keys old.taken old.time))
  pub done : MachineState
  pub made : Hosted
  pub work : IsMade keys unit (want_at unit old) watch watch' (asked unit old) done made
  pub left : left_by unit made done ≡ record { machine = new; stop = why }

-- .. which wants something of a line, or of the console line where that has a port: that answers, a byte that was put on the
-- console line may end a text that is waited for, and nothing else has changed
pub record IsLineService (keys : List (ℕ × ℕ)) (unit : UnitName) (why : Option Stop) (watch watch' : WatchState) (old new : MachineState) : Type 0 where
  pub made : OnLine
  pub wants : IsDoneOn (want_at unit old) (is_ported old.lines) (first_key (due_send old.time watch.sends) (due_key keys old.taken old.time)) made
  pub lines : List (LineOf ℕ)
  pub of : IsOfLine (got_on made)
  pub watched : watch' ≡ record watch { expects = expects_on made watch.expects }
  pub left : stopping (stop_on made watch.expects) (answered unit (got_on made) (record (asked unit old) { lines = lines })) ≡ record { machine = new; stop = why }

abbrev pub IsService : List (ℕ × ℕ) → UnitName → Option Stop → WatchState → WatchState → MachineState → MachineState → Type 0
IsService keys unit why watch watch' old new = IsOwnService keys unit why watch watch' old new ⊎ IsLineService keys unit why watch watch' old new

-- ---- services, one behind another

-- the machine without the event that is due first
abbrev pub event_taken : MachineState → MachineState
event_taken m = record m { events = served m.events }

-- units were served, each of them the one whose event was due first, and none has stopped the machine
pub data Services (keys : List (ℕ × ℕ)) (watch : WatchState) (old : MachineState) : WatchState → MachineState → Type 0 where
  no_services : Services keys watch old watch old
  one_more : (unit : UnitName) (between watch' : WatchState) (m new : MachineState) → Services keys watch old between m →
      due m.events ≡ Some unit → IsService keys unit None between watch' (event_taken m) new →
      Services keys watch old watch' new

-- behind such services one stops the machine
pub record StopsServing (keys : List (ℕ × ℕ)) (why : Stop) (watch watch' : WatchState) (old new : MachineState) : Type 0 where
  pub between : WatchState
  pub m : MachineState
  pub services : Services keys watch old between m
  pub unit : UnitName
  pub first : due m.events ≡ Some unit
  pub service : IsService keys unit (Some why) between watch' (event_taken m) new

-- units were served up to a stop, if one has stopped the machine
abbrev pub AreServedTo : List (ℕ × ℕ) → Option Stop → WatchState → WatchState → MachineState → MachineState → Type 0
AreServedTo keys None watch watch' old new = Services keys watch old watch' new
AreServedTo keys (Some why) watch watch' old new = StopsServing keys why watch watch' old new

-- ---- a turn

-- what a part of a turn leaves
pub record Ended : Type 0 where
  pub watch : WatchState
  pub machine : MachineState
  pub stop : Option Stop

abbrev pub ended : WatchState → Turned → Ended
ended watch t = record { watch = watch; machine = t.machine; stop = t.stop }

-- what stopped is the end, and another goes on
abbrev pub ended_or : Option Stop → Ended → Ended → Ended
ended_or (Some why) e next = e
ended_or None e next = next

abbrev pub then_end : Ended → (WatchState → MachineState → Ended) → Ended
then_end e next = ended_or e.stop e (next e.watch e.machine)

-- the interrupt is entered, where one comes
abbrev pub entered : WatchState → MachineState → Ended
entered watch m = ended watch (interrupt m)

-- the breaks are tested at PC, but in a run's first turn
abbrev pub break_tested : Bool → WatchState → MachineState → Ended
break_tested true watch m = record { watch = watch; machine = m; stop = None }
break_tested false watch m = record {
  watch = record watch { breaks = after_test m.processor.cpu.pc watch.breaks };
  machine = m;
  stop = option_map Break (stop_at m.processor.cpu.pc watch.breaks.list);
}

-- what stands before the instruction of a turn, behind its services, and with the instruction
abbrev pub made_ready : Bool → WatchState → MachineState → Ended
made_ready first watch m = then_end (entered watch m) (break_tested first)

abbrev pub fetched_on : WatchState → MachineState → Ended
fetched_on watch m = ended watch (fetch m)

abbrev pub went_on : Bool → WatchState → MachineState → Ended
went_on first watch m = then_end (made_ready first watch m) fetched_on

-- all units were served whose events were due, none has stopped the machine, and such a part of a turn came behind that
pub record IsBehind (part : WatchState → MachineState → Ended) (keys : List (ℕ × ℕ)) (watch : WatchState) (old : MachineState) (e : Ended) : Type 0 where
  pub between : WatchState
  pub m : MachineState
  pub services : Services keys watch old between m
  pub none : due m.events ≡ None
  pub left : part between m ≡ e

-- a service has stopped the machine, or that part came
abbrev pub ComesTo : (WatchState → MachineState → Ended) → List (ℕ × ℕ) → Option Stop → WatchState → WatchState → MachineState → MachineState → Type 0
ComesTo part keys None watch watch' old new = IsBehind part keys watch old (record { watch = watch'; machine = new; stop = None })
ComesTo part keys (Some why) watch watch' old new =
    StopsServing keys why watch watch' old new ⊎ IsBehind part keys watch old (record { watch = watch'; machine = new; stop = Some why })

-- A turn, which may be a run's first: the services; and where none of them stops, the interrupt, the breaks and the
-- instruction.
abbrev pub IsTurn : Bool → List (ℕ × ℕ) → Option Stop → WatchState → WatchState → MachineState → MachineState → Type 0
IsTurn first keys why watch watch' old new = ComesTo (went_on first) keys why watch watch' old new

-- ---- a run

-- Turns of a run that may make so many: whether the next is its first, how many are left, and what they leave. The turns
-- that a burst stands for, which nothing outside the machine takes part in, are those that are defined. Services may come
-- before the turn that they belong to, and so none behind the last.
pub data Turns (keys : List (ℕ × ℕ)) (count : ℕ) (watch : WatchState) (old : MachineState) : Bool → ℕ → WatchState → MachineState → Type 0 where
  no_turns : Turns keys count watch old true count watch old
  one_turn : (first : Bool) (left : ℕ) (between watch' : WatchState) (m new : MachineState) →
      Turns keys count watch old first (suc left) between m → m.time < last_time →
      IsTurn first keys None between watch' m new → Turns keys count watch old false left watch' new
  some_turns : (left done : ℕ) (end : BurstEnd) (between : WatchState) (m new : MachineState) →
      Turns keys count watch old false left between m → end ≢ burst_end.ChainLimit → done ≤ left →
      Bursts between keys left done end m new → Turns keys count watch old false (left - done) between new
  some_services : (left : ℕ) (between watch' : WatchState) (m new : MachineState) → 0 < left →
      Turns keys count watch old false left between m → Services keys between m watch' new → Turns keys count watch old false left watch' new

-- A run of that many instructions at the most: its turns, and the end of the count, of time, of a turn that stops, or of a
-- burst at a chain without an end.
pub data IsRun (keys : List (ℕ × ℕ)) (step : Bool) (count : ℕ) (watch : WatchState) (old : MachineState) : Stop → WatchState → MachineState → Type 0 where
  expires : (first : Bool) (watch' : WatchState) (new : MachineState) → Turns keys count watch old first 0 watch' new →
      IsRun keys step count watch old (expired step) watch' new
  time_ends : (first : Bool) (left : ℕ) (watch' : WatchState) (new : MachineState) →
      Turns keys count watch old first (suc left) watch' new → new.time ≡ last_time →
      IsRun keys step count watch old Limit watch' new
  turn_stops : (first : Bool) (left : ℕ) (why : Stop) (between watch' : WatchState) (m new : MachineState) →
      Turns keys count watch old first (suc left) between m → m.time < last_time →
      IsTurn first keys (Some why) between watch' m new → IsRun keys step count watch old why watch' new
  is_endless : (left done : ℕ) (between : WatchState) (m new : MachineState) → Turns keys count watch old false left between m →
      Bursts between keys left done burst_end.ChainLimit m new → IsRun keys step count watch old ChainLimit between new

-- What bursts, and looks between them, make of a run: of so many turns that are left some are done, or a chain without an
-- end has ended the run.
abbrev pub GoAlong : List (ℕ × ℕ) → WatchState → ℕ → ℕ → BurstEnd → MachineState → MachineState → Type 0
GoAlong keys between most done burst_end.ChainLimit m new =
    (count : ℕ) (watch : WatchState) (old : MachineState) → Turns keys count watch old false most between m →
    (step : Bool) → IsRun keys step count watch old ChainLimit between new
GoAlong keys between most done end m new =
    (count : ℕ) (watch : WatchState) (old : MachineState) → Turns keys count watch old false most between m →
    Turns keys count watch old false (most - done) between new
