-- What a call has come to that does a part of a run: on a console that had and has these bytes, with callers of lines that
-- had and have heard these.
use Rattle.std.specs.Prelude.{◌≡◌, ◌⊎◌, ℕ, Bool, IsTrue, List, ◌++◌, Option, Some, None}
use Rattle.std.specs.List.{AllByRecursion}
use Rattle.fault_counts.specs.Faults.{raised}
use Rattle.observations.specs.Observations.{text_of, sent_of, StandsAt}
use Rattle.observations.specs.Cut.{BreaksOff}
use Rattle.host_lines.specs.Traffic.{Answer}
use Rattle.host_lines.specs.Told.{Heard, IsFirst, record_in}
use Rattle.file_traits.specs.State.{FileState}
use Rattle.unit_files.specs.Attachments.{Held}
use Rattle.unit_files.specs.Causes.{IsQuiet, IsFaultOf}
use Rattle.nova_machine.specs.declared.machine.Stop.{Stop}
use Rattle.nova_machine.specs.declared.machine.Stop.TheVariants.{ConsoleFault, FileFault}
use Rattle.nova_machine.specs.Machine.{MachineState}
use Rattle.nova_machine.specs.Seen.{Seen, Beside, seen}
use Rattle.nova_machine.specs.Parts.{Part}
use Rattle.nova_machine.specs.LineChanges.{heard_with}

-- a stop without the number of its file
abbrev pub bare : Option Stop → Option Stop
bare (Some (FileFault f)) = Some (FileFault (record f { file = None }))
bare stop = stop

-- a stop that neither the console nor a file has caused
abbrev pub IsOwn : Option Stop → Type 0
IsOwn (Some ConsoleFault) = ⊥
IsOwn (Some (FileFault f)) = ⊥
IsOwn stop = Unit {0}

-- what the console has, and what callers of lines have heard
pub record Output : Type 0 where
  pub console : List ℕ
  pub heard : Heard

abbrev pub output : List ℕ → Heard → Output
output console heard = record { console = console; heard = heard }

-- all of it was printed and sent, and it came to its stop and its state
pub record IsWhole (p : Part) (stop : Option Stop) (s : Seen) (tells : Bool) (before after : Output) : Type 0 where
  pub stop_is : bare stop ≡ p.stop
  pub after_is : s ≡ p.after
  pub written : IsTrue tells → after.console ≡ before.console ++ text_of p.made
  pub heard : after.heard ≡ heard_with before.heard (sent_of p.made)

-- the first bytes of what it prints were printed, and the next one was refused in that state; nothing behind it was sent
pub record BrokenOff (p : Part) (s : Seen) (before after : Output) : Type 0 where
  pub taken : List ℕ
  pub written : after.console ≡ before.console ++ taken
  pub breaks : BreaksOff p.made taken s
  pub heard : after.heard ≡ heard_with before.heard breaks.sent

-- The console refused a byte. The state is that in which the byte was to be printed, and, where bytes are not told, that
-- of one of the texts.
pub record IsBrokenOff (p : Part) (s : Seen) (tells : Bool) (before after : Output) : Type 0 where
  pub stands : StandsAt s p.made
  pub told : IsTrue tells → BrokenOff p s before after

-- it came to its end, or the console refused a byte
abbrev pub Comes : Part → Option Stop → Seen → Bool → Output → Output → Type 0
Comes p (Some ConsoleFault) s tells before after = IsBrokenOff p s tells before after
Comes p stop s tells before after = IsWhole p stop s tells before after

-- A call does this part of a run, from the machine and what stands beside it to those, whatever the record of the answers
-- that the outside gives on lines comes to in the end.
abbrev pub Does : (Seen → Part) → Option Stop → Beside → MachineState → Beside → MachineState → Bool → List ℕ → List ℕ → Type 0
Does act stop old m new m' tells before after =
    (whole : List Answer) → IsFirst (record_in new.lines.told) whole
    → Comes (act (seen old whole m)) stop (seen new whole m') tells (output before old.lines.sent) (output after new.lines.sent)

-- The console's count of faults rises by one where it refused a byte, and stands still with every other stop.
abbrev pub StopCounts : Option Stop → ℕ → ℕ → Type 0
StopCounts (Some ConsoleFault) before now = now ≡ raised before
StopCounts stop before now = now ≡ before

-- A stop for a file names a unit, the file that is attached to it, and a failing call, and the count of that file, and no
-- other, has risen by one. With every other stop no count has changed.
abbrev pub FileCause : Option Stop → List (Option Held) → FileState → FileState → Type 0
FileCause (Some (FileFault f)) slots old new = IsFaultOf f f.unit slots old new
FileCause stop slots old new = IsQuiet old new

-- nothing is attached
abbrev pub AreFree : List (Option Held) → Type 0
AreFree slots = AllByRecursion (λ (slot : Option Held). slot ≡ None) slots

-- what a run does to files is told where their bytes are told, or where none is attached
abbrev pub AreTold : Bool → List (Option Held) → Type 0
AreTold tells slots = IsTrue tells ⊎ AreFree slots
