-- Every state of a run is one that a machine can be in, with its files, keys and watch tables.
use Rattle.std.specs.Prelude.{◌≡◌, ◌≢◌, ◌↔◌, ℕ, ◌≤◌, Bool, false, List, length, map, Option, Some, None, IfSome}
use Rattle.std.specs.List.{AllByRecursion}
use Rattle.observations.specs.Observations.{StandsAt}
use Rattle.host_lines.specs.Traffic.{Answer}
use Rattle.host_lines.specs.Told.{Records, ahead_of}
use Rattle.host_lines.specs.State.{LineState}
use Rattle.telnet_lines.specs.Line.{LineOf, IsSettled}
use Rattle.telnet_lines.specs.Joined.{seen_line}
use Rattle.unit_trait.specs.declared.kind.Kind.TheVariants.{Dsk}
use Rattle.unit_trait.specs.declared.kind.UnitName.{UnitName}
use Rattle.unit_trait.specs.Calls.{UnitState}
use Rattle.unit_list.specs.Bus.{AllFit, kinds_of}
use Rattle.unit_files.specs.Attachments.{Attachment, attachment_at}
use Rattle.unit_files.specs.Buffer.{disk_unit}
use Rattle.expect_actions.specs.Watch.{empty_watch}
use Rattle.nova_machine.specs.declared.machine.Stop.{Stop}
use Rattle.nova_machine.specs.LineChanges.{ports_of}
use Rattle.nova_machine.specs.Machine.{new_machine}
use Rattle.nova_machine.specs.Notes.{UnitNote, RunNote}
use Rattle.nova_machine.specs.Seen.{Seen, attached_in}
use Rattle.nova_machine.specs.Parts.{Part}
use Rattle.nova_machine.specs.Turn.{turn}
use Rattle.nova_machine.specs.Run.{run, last_time}
use Rattle.nova_machine.specs.Comes.{Output, Comes}
use Rattle.nova_machine.specs.Valid.{AreBytes, IsPort, ValidMachine, ValidWatch, ValidLine, ValidAnswer, ValidAhead, Valid, DiskIsItsFile, LeavesDiskFile}

-- the state behind a part is valid, and so is each in which something comes: an early end shows one of these
pub record IsValidPart (p : Part) : Type 0 where
  pub after : Valid p.after
  pub made : (t : Seen) → StandsAt t p.made → Valid t

-- time has not passed its end behind a part, nor where something comes
pub record IsInTime (p : Part) : Type 0 where
  pub after : p.after.machine.time ≤ last_time
  pub made : (t : Seen) → StandsAt t p.made → t.machine.time ≤ last_time

-- no unit of another kind has the disk's file
abbrev pub HasOwnFile : Option Attachment → List (Option Attachment) → Type 0
HasOwnFile None attached = Unit {0}
HasOwnFile (Some a) attached =
    (u : UnitName) → u.kind ≢ Dsk → IfSome (attachment_at attached u) (λ b. b.name ≢ a.name)

abbrev pub DiskHasOwnFile : Seen → Type 0
DiskHasOwnFile s = HasOwnFile (attachment_at (attached_in s.machine) disk_unit) (attached_in s.machine)

-- the disk's copy of its file over a part
pub record KeepsCopy (s : Seen) (p : Part) : Type 0 where
  -- where nothing is to be written back behind it, nothing was written into the copy
  pub written : p.after.machine.disk.written ≡ false → p.after.machine.disk ≡ s.machine.disk
  -- so it is that of its file still, exactly where the file then has the bytes that it had
  pub copy : DiskIsItsFile s
      → (DiskIsItsFile p.after ↔ (p.after.machine.disk.written ≡ false → LeavesDiskFile s p.after))
  -- and the file has them, where no other unit has it
  pub alone : DiskHasOwnFile s → LeavesDiskFile s p.after

-- one state has the shape of another: units of the same kinds, the same attachments, and as many lines with the same ports;
-- beside what is seen of the lines, a machine has none of its own, and nothing is kept beside the disk's copy
pub record StaysAs (s t : Seen) : Type 0 where
  pub kinds : kinds_of t.machine.units ≡ kinds_of s.machine.units
  pub slots : t.machine.slots ≡ s.machine.slots
  pub own : t.machine.lines ≡ s.machine.lines
  pub aside : t.machine.aside ≡ s.machine.aside
  pub count : length t.lines ≡ length s.lines
  pub ports : ports_of t.lines ≡ ports_of s.lines

-- so it is behind a part, and where something comes
pub record KeepsShape (s : Seen) (p : Part) : Type 0 where
  pub after : StaysAs s p.after
  pub made : (t : Seen) → StandsAt t p.made → StaysAs s t

pub record RunsStayValid : Type 0 where
  -- a new machine, with whatever units whose registers are in their ranges, and empty watch tables
  pub begin : (units : List UnitState) → AllFit units → ValidMachine (new_machine units)
  pub nothing_watched : ValidWatch empty_watch
  -- its lines, and settled lines with such ports that hold bytes, whoever is behind their connections
  pub new_lines : (s : LineState) (units : List UnitState)
      → AllByRecursion ValidLine (map (seen_line s) (new_machine units).lines)
  pub settled_line : (s : LineState) (line : LineOf ℕ) → IsSettled line → IfSome line.port IsPort
      → AreBytes line.keys → AreBytes line.output → ValidLine (seen_line s line)
  -- what is still to come behind the answers that were recorded, where all that the record comes to is in its range
  pub record_ahead : (answers whole : List Answer) → AllByRecursion ValidAnswer whole
      → ValidAhead (ahead_of (Records answers) whole)
  pub turn_valid : (note : Option UnitNote) (first : Bool) (s : Seen) → Valid s → IsValidPart (turn note first s)
  pub run_valid : (note : Option RunNote) (step : Bool) (n : ℕ) (s : Seen) → Valid s
      → IsValidPart (run note step n s)
  -- what a call has come to that does such a part is valid then, also where a byte was refused
  pub left_valid : (p : Part) (stop : Option Stop) (t : Seen) (tells : Bool) (before after : Output) → IsValidPart p
      → Comes p stop t tells before after → Valid t
  -- no run goes past the end of time
  pub run_time : (note : Option RunNote) (step : Bool) (n : ℕ) (s : Seen) → s.machine.time ≤ last_time
      → IsInTime (run note step n s)
  pub turn_copy : (note : Option UnitNote) (first : Bool) (s : Seen) → Valid s → KeepsCopy s (turn note first s)
  pub run_copy : (note : Option RunNote) (step : Bool) (n : ℕ) (s : Seen) → Valid s
      → KeepsCopy s (run note step n s)
  pub turn_shape : (note : Option UnitNote) (first : Bool) (s : Seen) → KeepsShape s (turn note first s)
  pub run_shape : (note : Option RunNote) (step : Bool) (n : ℕ) (s : Seen) → KeepsShape s (run note step n s)
