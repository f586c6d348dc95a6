-- What SAVE leaves of a session, and what RESTORE puts in place of the one that was saved.
use Rattle.std.specs.Prelude.{◌≡◌, ℕ, ◌<◌, ◌^◌, Bool, false, IsTrue, List, [], ◌∷◌, length, None, Ok}
use Rattle.std.specs.List.{AllByRecursion}
use Rattle.file_traits.specs.Lists.{NamedBytes, bytes_of, with_file}
use Rattle.host_lines.specs.Traffic.{Peer, Ahead, listening}
use Rattle.telnet_lines.specs.Line.{LineOf}
use Rattle.unit_list.specs.Bus.{kinds_of}
use Rattle.expect_actions.specs.Watch.{forgotten}
use Rattle.file_commands.specs.Notes.{CommandNote}
use Rattle.nova_machine.specs.Seen.{attached_in}
use Rattle.nova_machine.specs.Valid.{DiskIsItsFile}
use Rattle.saved_session.specs.Parts.{State}
use Rattle.state_transfer.specs.PutBack.{CanBeSaved}
use Rattle.state_transfer.specs.Ports.{ports_wanted}
use Rattle.state_transfer.specs.Session.{saved_ports, saved}
use Rattle.state_text.specs.Text.{IsTextOf, text}
use Rattle.saved_session.specs.Valid.{Fits}
use Rattle.state_text.specs.Laws.{HasWidths}
use Rattle.state_transfer.specs.SavedValid.{IsStandard}
use Rattle.scp_parser.specs.Command.{Save, Restore}
use Rattle.command_session.specs.declared.next.Next.TheVariants.{Go}
use Rattle.command_session.specs.Live.{Live, standing}
use Rattle.command_session.specs.DiskFile.{disk_alone}
use Rattle.command_session.specs.Reply.{Reply}
use Rattle.state_commands.specs.StateEffects.{flushed_with}
use Rattle.command_session.specs.Occupied.{is_occupied}
use Rattle.scp_commands.specs.Effect.{effect}
use Rattle.command_laws.specs.Valid.{ValidLive}

-- a command that is done, prints nothing, and has used so many notes
abbrev pub done_with : ℕ → Live → Reply
done_with used live = record { made = []; answer = Ok Go; after = standing used live }

-- ---- SAVE

-- the state file of that name was made, or emptied, and has the text of what is saved
abbrev pub state_made : List ℕ → Live → Live
state_made name live = record live { files = with_file live.files name (text (saved live)) }

-- What SAVE leaves where no call on a file fails: what the disk holds of its file is written back, and then the state file
-- is made.
abbrev pub left_by_save : List ℕ → Live → Live
left_by_save name live = state_made name (flushed_with None live)

-- ---- RESTORE

-- what is still to come on lines, less a listening on each of these ports
abbrev pub ahead_behind : List ℕ → Ahead → Ahead
ahead_behind [] ahead = ahead
ahead_behind (port ∷ more) ahead = ahead_behind more (listening ahead).ahead

-- the ports of a session's lines, in the order in which a RESTORE listens on them
abbrev pub ports_saved : Live → List ℕ
ports_saved s = ports_wanted (saved_ports s.lines) s.lines

-- A saved session goes on in a present one: the machine with what is attached to it, the watch tables and the lines are
-- those that were saved. The keys and the files are the present ones, and so is what is still to come on lines, less the
-- listenings on the ports of those lines.
abbrev pub continued : Live → Live → Live
continued s present = record present {
  machine = s.machine;
  watch = s.watch;
  lines = s.lines;
  ahead = ahead_behind (ports_saved s) present.ahead;
}

-- what was saved of a session at a time when its files were these
abbrev pub saved_among : List NamedBytes → Live → State
saved_among files s = saved (record s { files = files })

-- nobody is connected to a line
abbrev pub HasNobody : LineOf Peer → Type 0
HasNobody line = line.connection ≡ None

-- each file is so short that its length can be told
abbrev pub HaveLengths : List NamedBytes → Type 0
HaveLengths files = AllByRecursion (λ (f : NamedBytes). length f.1 < 2 ^ 64) files

-- A session is at rest: it is a state that commands work on, nobody is connected, what the disk holds of its file is what is
-- in it and nothing is to be written back, and the actions of the stop that came last are forgotten.
pub record IsAtRest (s : Live) : Type 0 where
  pub session : ValidLive s
  pub nobody : AllByRecursion HasNobody s.lines
  pub copy : DiskIsItsFile s
  pub written : s.machine.disk.written ≡ false
  pub watch : s.watch ≡ forgotten s.watch

-- A file has the text of what was saved of the session s, which is at rest, when the files were those, or its text in the
-- first version, where it has one. Since then the state file itself may have changed, as by the SAVE.
pub record HoldsSaved (files then_files : List NamedBytes) (name : List ℕ) (s : Live) : Type 0 where
  pub rest : IsAtRest s
  pub lengths : HaveLengths then_files
  pub bytes : IsTextOf (saved_among then_files s) (bytes_of files name)

-- it can be saved, and each number and each list of what is saved fits its field
pub record IsSavable (files : List NamedBytes) (s : Live) : Type 0 where
  pub can : CanBeSaved s
  pub fits : Fits (saved_among files s)
  pub widths : HasWidths (saved_among files s)

-- the machines of two sessions have units of the same kinds
abbrev pub HaveSameKinds : Live → Live → Type 0
HaveSameKinds present s = kinds_of present.machine.units ≡ kinds_of s.machine.units

-- a session can get another one put back: its files are those of that session, its machine has units of the same kinds, and
-- as many lines
pub record IsLike (present s : Live) : Type 0 where
  pub files : present.files ≡ s.files
  pub kinds : HaveSameKinds present s
  pub many : length present.lines ≡ length s.lines

-- a RESTORE of that file is done, and has used so many notes
pub record IsRestored (limit : ℕ) (notes : List CommandNote) (live : Live) (force : Bool) (name : List ℕ) (used : ℕ) : Type 0 where
  pub done : (effect limit notes live (Restore force name)).answer ≡ Ok Go
  pub uses : (effect limit notes live (Restore force name)).after.used ≡ used

pub record RestorePutsBack : Type 0 where
  -- a session at rest can be saved, and what is saved of it fits
  pub savable : (s : Live) (files : List NamedBytes) → IsAtRest s → HaveLengths files → IsSavable files s
  -- a RESTORE that is done, of the text of any session that was saved, in either version, puts that session in place, where
  -- the present one is like it
  pub restored : (limit : ℕ) (notes : List CommandNote) (live s : Live) (force : Bool) (name : List ℕ) (then_files : List NamedBytes) (used : ℕ)
      → IsRestored limit notes live force name used → HoldsSaved live.files then_files name s → IsLike live s
      → effect limit notes live (Restore force name) ≡ done_with used (continued s live)
  -- and the disk alone has changed the disk's file in it: that has what the disk holds
  pub alone : (limit : ℕ) (notes : List CommandNote) (live s : Live) (force : Bool) (name : List ℕ) (then_files : List NamedBytes) (used : ℕ)
      → IsRestored limit notes live force name used → HoldsSaved live.files then_files name s → IsLike live s
      → IsTrue (disk_alone live (continued s live))
  -- so it is wherever both are such as commands work on, and the files and the number of lines are the same
  pub like : (present s : Live) → ValidLive present → ValidLive s → present.files ≡ s.files → length present.lines ≡ length s.lines → IsLike present s
  -- it is done only where nothing is attached and no line has a port
  pub unoccupied : (limit : ℕ) (notes : List CommandNote) (live : Live) (force : Bool) (name : List ℕ) (used : ℕ) → IsRestored limit notes live force name used
      → is_occupied (attached_in live.machine) live.lines ≡ false
  -- what is saved of any session of a standard machine fits
  pub standard : (s : Live) → IsStandard s → Fits (saved s) × HasWidths (saved s)
  -- a SAVE in which no call on a file fails is done, and its file has the text of what is saved
  pub saved : (limit : ℕ) (live : Live) (name : List ℕ) → effect limit [] live (Save name) ≡ done_with 0 (left_by_save name live)
  pub holds : (live : Live) (name : List ℕ) → bytes_of (left_by_save name live).files name ≡ text (saved_among (flushed_with None live).files (left_by_save name live))
