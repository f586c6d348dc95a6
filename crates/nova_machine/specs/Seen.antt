-- What a run works on, and what an early end of it must show: the machine, its terminal lines and what is still to come on
-- them, the watch tables, the timed keys, and all files by their names.
-- The numbers of open files and of connections, and what the code keeps beside the disk's copy, are no part of it: the
-- future of a run does not depend on them.
use Rattle.std.specs.Prelude.{ℕ, List, [], map, Option, option_map}
use Rattle.file_traits.specs.Lists.{NamedBytes}
use Rattle.host_lines.specs.Traffic.{Peer, Answer, Ahead}
use Rattle.host_lines.specs.Told.{ahead_of}
use Rattle.host_lines.specs.State.{LineState}
use Rattle.telnet_lines.specs.Line.{LineOf}
use Rattle.telnet_lines.specs.Joined.{seen_line}
use Rattle.unit_files.specs.Attachments.{Attachment, Held, attachments_of}
use Rattle.expect_actions.specs.Watch.{WatchState}
use Rattle.nova_machine.specs.Machine.{MachineState}

pub record Seen : Type 0 where
  -- the machine but for its lines
  pub machine : MachineState
  -- breaks, texts that are waited for on the console, and bytes that were sent to its keyboard
  pub watch : WatchState
  -- the keys of the console, each with its time
  pub keys : List (ℕ × ℕ)
  pub files : List NamedBytes
  -- the lines, the console line first, each with who is behind its connection
  pub lines : List (LineOf Peer)
  -- what is still to come on them
  pub ahead : Ahead

-- an attachment without the number of its file
abbrev pub unnumbered : Option Held → Option Held
unnumbered slot = option_map (λ (h : Held). record h { file = 0 }) slot

-- a machine without the numbers of open files, without what the code keeps beside the disk's copy, and without its lines
abbrev pub erased : MachineState → MachineState
erased m = record m { slots = map unnumbered m.slots; aside = []; lines = [] }

-- What stands beside the machine: the watch tables, the timed keys, all files, and the ports and connections of the
-- outside.
pub record Beside : Type 0 where
  -- breaks, texts that are waited for on the console, and bytes that were sent to its keyboard
  pub watch : WatchState
  -- the keys of the console, each with its time
  pub keys : List (ℕ × ℕ)
  pub files : List NamedBytes
  pub lines : LineState

abbrev pub beside : WatchState → List (ℕ × ℕ) → List NamedBytes → LineState → Beside
beside watch keys files lines = record { watch = watch; keys = keys; files = files; lines = lines }

-- what is seen of them, where the record of the answers that the outside gives on lines comes to `whole` in the end
abbrev pub seen : Beside → List Answer → MachineState → Seen
seen b whole m = record {
  machine = erased m;
  watch = b.watch;
  keys = b.keys;
  files = b.files;
  lines = map (seen_line b.lines) m.lines;
  ahead = ahead_of b.lines.told whole;
}

abbrev pub with_machine : Seen → MachineState → Seen
with_machine s m = record s { machine = m }

-- what is attached to the units
abbrev pub attached_in : MachineState → List (Option Attachment)
attached_in m = attachments_of m.slots
