-- Which sessions leave a valid state where they are saved.
use Rattle.std.specs.Prelude.{◌≡◌, ◌⊎◌, ℕ, suc, ◌≤◌, ◌^◌, ◌<◌, true, false, IsTrue, List, length, take, drop, Option, IfSome}
use Rattle.std.specs.List.{AllByRecursion}
use Rattle.std.specs.Str.{is_utf8}
use Rattle.file_traits.specs.Lists.{NamedBytes, bytes_of}
use Rattle.host_lines.specs.Traffic.{Peer}
use Rattle.telnet_lines.specs.Line.{LineOf}
use Rattle.terminal_ports.specs.Ports.{HavePortsApart, AreNumbered}
use Rattle.unit_trait.specs.declared.kind.UnitName.{UnitName}
use Rattle.unit_trait.specs.Kinds.{all_kinds}
use Rattle.unit_trait.specs.Calls.{UnitState}
use Rattle.unit_list.specs.Bus.{kinds_of}
use Rattle.unit_files.specs.Attachments.{Attachment, attachment_at, IsFileName, longest_file, only_writes}
use Rattle.expect_actions.specs.declared.breaks.Break.{Break}
use Rattle.expect_actions.specs.declared.expects.Expect.{Expect}
use Rattle.expect_actions.specs.Watch.{WatchState}
use Rattle.nova_machine.specs.Machine.{line_count, place_of as line_place}
use Rattle.nova_machine.specs.Run.{last_time}
use Rattle.nova_machine.specs.Seen.{Seen, attached_in}
use Rattle.nova_machine.specs.Valid.{Valid as ValidSeen}
use Rattle.saved_session.specs.Ranges.{standard_kinds, is_text_length}
use Rattle.saved_session.specs.Valid.{AreBytes, AreActions}
use Rattle.saved_files.specs.declared.taking.UnitPlace.{UnitPlace}
use Rattle.saved_files.specs.Taking.{unit_at, file_places}

-- the units are those of a standard machine, in bus order: the ten standard kinds, or these and the multiplexer behind them
abbrev pub AreStandard : List UnitState → Type 0
AreStandard units = (kinds_of units ≡ take standard_kinds all_kinds) ⊎ (kinds_of units ≡ all_kinds)

-- What is attached to a unit is what its kind takes: its name is one of a file, in UTF-8, its file is no longer than
-- one of that kind may be, and where the kind only writes it is not read only.
pub record IsTaken (files : List NamedBytes) (unit : UnitName) (a : Attachment) : Type 0 where
  pub long : IsFileName a.name
  pub bytes : AreBytes a.name
  pub utf8 : IsTrue (is_utf8 a.name)
  pub size : length (bytes_of files a.name) ≤ longest_file unit.kind
  pub writes : only_writes unit.kind ≡ true → a.read_only ≡ false

abbrev pub AreTaken : List NamedBytes → List (Option Attachment) → List UnitPlace → Type 0
AreTaken files attached places =
    AllByRecursion (λ (p : UnitPlace). IfSome (attachment_at attached (unit_at p)) (IsTaken files (unit_at p))) places

-- the counts and actions of a break, and of a text that is waited for, are such as commands give them
pub record IsGivenBreak (b : Break) : Type 0 where
  pub count : b.count < 2 ^ 32
  pub actions : AreActions b.actions

pub record IsGivenExpect (e : Expect) : Type 0 where
  pub some : 1 ≤ e.count
  pub count : e.count < 2 ^ 32
  pub long : IsTrue (is_text_length (length e.text))
  pub text : AreBytes e.text
  pub actions : AreActions e.actions

pub record AreGiven (w : WatchState) : Type 0 where
  pub breaks : AllByRecursion IsGivenBreak w.breaks.list
  pub expects : AllByRecursion IsGivenExpect w.expects.list
  pub tail : AreBytes w.expects.tail

-- a port is a number of 16 bits
abbrev pub HasPort16 : LineOf Peer → Type 0
HasPort16 line = IfSome line.port (λ (port : ℕ). port < 2 ^ 16)

-- All is in range, and time has not passed its end. The units are those of a standard machine, what is attached is what
-- its kind takes, and breaks, texts and ports are as commands give them. There are the lines that belong to the units; no two
-- have one port, none has the port 0, and the ports of the multiplexer's lines rise by one.
pub record IsStandard (s : Seen) : Type 0 where
  pub valid : ValidSeen s
  pub time : s.machine.time ≤ last_time
  pub units : AreStandard s.machine.units
  pub files : AreTaken s.files (attached_in s.machine) file_places
  pub watch : AreGiven s.watch
  pub ports : AllByRecursion HasPort16 s.lines
  pub many : length s.lines ≡ suc (line_count s.machine.units)
  pub apart : HavePortsApart s.lines
  pub numbered : AreNumbered (drop (line_place 1) s.lines)
