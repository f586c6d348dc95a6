-- What a RESTORE leaves that is done, whether files and lines tell what they have or not.
use Rattle.std.specs.Prelude.{◌≡◌, ℕ, Bool, false, IsTrue, List, Ok}
use Rattle.file_traits.specs.Lists.{NamedBytes, bytes_of}
use Rattle.unit_files.specs.Attachments.{attachments_of, no_attachments}
use Rattle.terminal_ports.specs.Rows.{with_ports}
use Rattle.state_transfer.specs.Ports.{assigned}
use Rattle.state_transfer.specs.PutBack.{misses_unit}
use Rattle.saved_session.specs.Parts.{State}
use Rattle.saved_session.specs.SavedWatch.{watch_from}
use Rattle.state_transfer.specs.Putting.{with_machine_of}
use Rattle.state_text.specs.Reading.{reading}
use Rattle.saved_files.specs.Putting.{with_all}
use Rattle.saved_session.specs.Valid.{Valid}
use Rattle.scp_parser.specs.Command.{Request, Restore}
use Rattle.command_session.specs.Live.{CommandState}
use Rattle.command_session.specs.Reply.{Answer}

-- One valid saved session was put back, and all of it: its machine, its watch tables, its files and its ports. No unit of it
-- is missing. It is the one that the state file has, where files tell what they have.
pub record PutsBack (tells : Bool) (files : List NamedBytes) (name : List ℕ) (old new : CommandState) : Type 0 where
  pub saved : State
  pub valid : Valid saved
  pub read : IsTrue tells → reading (bytes_of files name) ≡ Ok saved
  pub found : misses_unit saved.machine old.machine.units ≡ false
  pub machine : new.machine ≡ record (with_machine_of old.machine saved.machine) {
    slots = new.machine.slots;
    disk = new.machine.disk;
    aside = new.machine.aside;
    lines = with_ports (assigned saved.ports old.machine.lines) old.machine.lines;
  }
  pub attached : attachments_of new.machine.slots ≡ with_all no_attachments saved.files
  pub watch : new.watch ≡ watch_from saved.watch

-- Of commands this is said of a RESTORE alone.
abbrev pub PutsSessionBack : Bool → List NamedBytes → Request → Answer → CommandState → CommandState → Type 0
PutsSessionBack tells files (Restore force name) (Ok next) old new = PutsBack tells files name old new
PutsSessionBack tells files request answer old new = Unit {0}
