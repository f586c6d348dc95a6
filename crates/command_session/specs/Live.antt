-- What commands work on: all that they may change and on which the future depends. An early end shows it as it then
-- stands.
use Rattle.std.specs.Prelude.{ℕ, List, map, option_map, Option}
use Rattle.file_traits.specs.Lists.{NamedBytes}
use Rattle.host_lines.specs.Traffic.{Answer}
use Rattle.host_lines.specs.State.{LineState}
use Rattle.unit_files.specs.Attachments.{Attachment, Held}
use Rattle.file_commands.specs.declared.note.FaultNote.{FaultNote}
use Rattle.expect_actions.specs.Watch.{WatchState}
use Rattle.nova_machine.specs.Machine.{MachineState}
use Rattle.nova_machine.specs.Seen.{Seen, seen, beside}

-- the machine, without the numbers of open files; its terminal lines, and what is still to come on them; the breaks,
-- expects and sent bytes; the timed keys; and all files by their names
abbrev pub Live : Type 0
Live = Seen

-- a place within a command: what it works on there, and how many of its notes it has used
pub record Standing : Type 0 where
  pub live : Live
  pub used : ℕ

abbrev pub standing : ℕ → Live → Standing
standing used live = record { live = live; used = used }

abbrev pub with_machine : Live → MachineState → Live
with_machine live m = record live { machine = m }

-- attachments, none of which has a number of its file
abbrev pub numberless : List (Option Attachment) → List (Option Held)
numberless attached = map (λ slot. option_map (λ (a : Attachment). record { file = 0; attachment = a }) slot) attached

-- the same with other attachments
abbrev pub with_attached : MachineState → List (Option Attachment) → MachineState
with_attached m attached = record m { slots = numberless attached }

-- what commands stand in: the machine, the watch tables, the timed keys, how many instructions a run may execute, the
-- notes that were kept, how many units of the budget are spent, and how many further notes have their room already
pub record CommandState : Type 0 where
  pub machine : MachineState
  pub watch : WatchState
  pub keys : List (ℕ × ℕ)
  pub limit : ℕ
  pub notes : List FaultNote
  pub command : ℕ
  pub spare : ℕ

-- what stands around a session: all files by their names; the ports and connections of the outside, and what the record
-- of the answers that it gives on lines comes to in the end
pub record Beyond : Type 0 where
  pub files : List NamedBytes
  pub lines : LineState
  pub whole : List Answer

abbrev pub beyond : List NamedBytes → LineState → List Answer → Beyond
beyond files lines whole = record { files = files; lines = lines; whole = whole }

-- what its commands work on
abbrev pub live_in : CommandState → Beyond → Live
live_in s a = seen (beside s.watch s.keys a.files a.lines) a.whole s.machine
