-- Serving the units whose events are due (Writing a Simulator for the SIMH System, "Unit Service Routines").
use Rattle.std.specs.Prelude.{ℕ, List, [], ◌∷◌, Option, Some, None, Result, Ok, Err}
use Rattle.unit_trait.specs.declared.kind.UnitName.{UnitName}
use Rattle.unit_trait.specs.declared.calls.Want.{Want}
use Rattle.unit_trait.specs.declared.calls.Got.{Got}
use Rattle.unit_trait.specs.Kinds.{code_of}
use Rattle.unit_trait.specs.Calls.{Due, Answered}
use Rattle.event_queue.specs.EventList.{served, dues, wished}
use Rattle.unit_list.specs.Bus.{row_at, after_at}
use Rattle.unit_files.specs.Attachments.{Attachment, attachment_at}
use Rattle.file_traits.specs.Lists.{NamedBytes}
use Rattle.unit_files.specs.Acts.{Failure}
use Rattle.expect_actions.specs.KeysFile.{due_key}
use Rattle.expect_actions.specs.Sends.{due_send}
use Rattle.nova_machine.specs.declared.machine.Stop.{Stop}
use Rattle.nova_machine.specs.Machine.{MachineState}
use Rattle.nova_machine.specs.Notes.{UnitNote, at_unit}
use Rattle.nova_machine.specs.Sectors.{disk_after}
use Rattle.memory_transfer.specs.Tapes.{NoAnswer}
use Rattle.nova_machine.specs.Wants.{answer_to, memory_behind, files_after, taken_after, watch_after, first_key, typed_key, own_stop, prints, stop_by, unanswered}
use Rattle.nova_machine.specs.OnLines.{Lined, Around, around_at, lined, sends}
use Rattle.nova_machine.specs.Seen.{Seen, with_machine, attached_in}
use Rattle.nova_machine.specs.Parts.{Part, silent, behind_made, then_part}
use Rattle.nova_machine.specs.Turned.{Turned, still}

-- what a unit wants whose event is due
abbrev pub want_at : UnitName → MachineState → Want
want_at unit m = (row_at (code_of unit.kind) (Due unit.unit) m.units).want

-- a unit was asked what it wants
unfoldable pub asked : UnitName → MachineState → MachineState
asked unit m = record m { units = after_at (code_of unit.kind) (Due unit.unit) m.units }

-- a unit gets the machine's answer: its wish goes to the event queue, and it may stop the machine
unfoldable pub answered : UnitName → Got → MachineState → Turned
answered unit answer m =
    let call = Answered unit.unit answer in
    let said = row_at (code_of unit.kind) call m.units in
    record {
      machine = record m { units = after_at (code_of unit.kind) call m.units; events = wished unit said.queue m.events };
      stop = stop_by unit said.stop;
    }

-- a stop that the machine has for itself comes before that of a unit
abbrev pub first_stop : Option Stop → Option Stop → Option Stop
first_stop (Some stop) other = Some stop
first_stop None other = other

abbrev pub stopping : Option Stop → Turned → Turned
stopping stop t = record t { stop = first_stop stop t.stop }

-- the unit gets the answer; a failed call and a bad image stop the run, and the unit gets none
abbrev pub replied : UnitName → Option Stop → Result Got NoAnswer → Seen → Part
replied unit stop (Ok answer) s = still s (stopping stop (answered unit answer s.machine))
replied unit stop (Err why) s = silent (Some (unanswered unit why)) s

-- the key that is due of those that are typed at their times, and the byte that is due of those that were sent
abbrev pub typed_at : Seen → Option ℕ
typed_at s = due_key s.keys s.machine.taken s.machine.time

abbrev pub sent_at : Seen → Option ℕ
sent_at s = due_send s.machine.time s.watch.sends

-- the key that comes
abbrev pub key_at : Seen → Option ℕ
key_at s = first_key (sent_at s) (typed_at s)

-- what stands around a want
abbrev pub around : Seen → Around
around s = around_at s.machine.time (key_at s) s.watch.expects s.lines s.ahead

-- what a unit wants was done that has this attachment, where this key of the typed ones comes: it is taken, a sector is moved, or a block
-- of a tape is read
abbrev pub done_for : Option Failure → Option ℕ → Option Attachment → List NamedBytes → Want → MachineState → MachineState
done_for fault key a files want m = record m {
  taken = taken_after m.taken key want;
  processor = record m.processor { memory = memory_behind fault a files m.disk want m.processor.memory };
  disk = disk_after a m.processor.memory want m.disk;
}

-- a unit was asked, and what it wants was done
unfoldable pub hosted : Option Failure → UnitName → Seen → Seen
hosted fault unit s =
    let want = want_at unit s.machine in
    let a = attachment_at (attached_in s.machine) unit in
    record s {
      machine = done_for fault (typed_key (sent_at s) (typed_at s)) a s.files want (asked unit s.machine);
      watch = watch_after s.machine.time want s.watch;
      files = files_after fault a s.machine.processor.memory s.files want;
    }

-- A unit is served that wants nothing of a line which is there, nor of the console line where that has a port: the machine
-- does what it wants, and the unit gets the answer. A byte for the console is printed before that. A call on its file fails where the outside says so.
unfoldable pub own_service : Option Failure → UnitName → Seen → Part
own_service fault unit s =
    let want = want_at unit s.machine in
    let a = attachment_at (attached_in s.machine) unit in
    behind_made (prints want (with_machine s (asked unit s.machine)))
    (replied unit (own_stop (key_at s) s.watch.expects want) (answer_to fault a s.files (key_at s) want) (hosted fault unit s))

-- A unit is served that wants something of a line which is there, or of the console line where that has a port: bytes that
-- are sent, are sent before the unit gets the answer.
abbrev pub behind_line : UnitName → Lined → Seen → Seen
behind_line unit l s = record s {
  machine = asked unit s.machine;
  watch = record s.watch { expects = l.expects };
  lines = l.lines;
  ahead = l.ahead;
}

unfoldable pub line_service : UnitName → Lined → Seen → Part
line_service unit l s = behind_made (sends l.sent) (replied unit l.stop (Ok l.got) (behind_line unit l s))

abbrev pub service_by : Option Lined → Option Failure → UnitName → Seen → Part
service_by None fault unit s = own_service fault unit s
service_by (Some l) fault unit s = line_service unit l s

-- what a unit's want comes to on a line
abbrev pub lined_at : UnitName → Seen → Option Lined
lined_at unit s = lined (want_at unit s.machine) (around s)

-- A unit whose event was taken is served: it says what it wants, the machine does that, and the unit gets the answer.
unfoldable pub service : Option Failure → UnitName → Seen → Part
service fault unit s = service_by (lined_at unit s) fault unit s

-- the machine without the event that is due first
abbrev pub taken : Seen → Seen
taken s = with_machine s (record s.machine { events = served s.machine.events })

-- those units are served, one behind another: the event of each is taken first
unfoldable pub services : Option UnitNote → List UnitName → Seen → Part
services failing [] s = silent None s
services failing (unit ∷ units) s = then_part (service (at_unit unit failing) unit (taken s)) (λ next. services failing units next)

-- all units are served whose events are due
unfoldable pub serving : Option UnitNote → Seen → Part
serving note s = services note (dues s.machine.events) s
