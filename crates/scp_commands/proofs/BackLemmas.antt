-- What a RESTORE that is done has put back.
use Rattle.std.proofs.Common.{◌≡◌, ◌∙◌, ap, subst, ℕ, Bool, false, List, Ok, Err, OnOk}
use Rattle.file_traits.specs.Lists.{NamedBytes}
use Rattle.terminal_ports.specs.Rows.{with_ports}
use Rattle.nova_machine.specs.Machine.{MachineState}
use Rattle.state_transfer.specs.Ports.{assigned}
use Rattle.state_transfer.specs.PutBack.{misses_unit}
use Rattle.state_transfer.specs.Putting.{with_machine_of}
use Rattle.scp_parser.specs.Command.{Request, Restore}
use Rattle.command_session.specs.Live.{CommandState}
use Rattle.command_session.specs.Nature.{IsUntold}
use Rattle.command_session.specs.Reply.{Answer}
use Rattle.state_commands.specs.StateAnswers.{PutsBack, PutsSessionBack}

-- no other command that tells nothing is a RESTORE
pub untold-back : (tells : Bool) (files : List NamedBytes) (r : Request) (answer : Answer) (old new : CommandState) → IsUntold r → PutsSessionBack tells files r answer old new
untold-back tells files (Restore force name) answer old new untold = absurd (cc untold.0)
untold-back tells files r answer old new untold = tt

pub done-back : (tells : Bool) (files : List NamedBytes) (force : Bool) (name : List ℕ) (answer : Answer) (old new : CommandState) → OnOk answer (PutsBack tells files name old new)
    → PutsSessionBack tells files (Restore force name) answer old new
done-back tells files force name (Ok next) old new back = back
done-back tells files force name (Err fault) old new back = tt

-- the room for notes is no part of it
pub back-in-room : (tells : Bool) (files : List NamedBytes) (r : Request) (answer : Answer) (old room new : CommandState) → room.machine ≡ old.machine
    → PutsSessionBack tells files r answer room new → PutsSessionBack tells files r answer old new
back-in-room tells files (Restore force name) (Ok next) old room new same back = record {
  saved = back.saved;
  valid = back.valid;
  read = back.read;
  found = subst (λ (m : MachineState). misses_unit back.saved.machine m.units ≡ false) same back.found;
  machine = back.machine ∙ ap (λ (m : MachineState). record (with_machine_of m back.saved.machine) {
    slots = new.machine.slots;
    disk = new.machine.disk;
    aside = new.machine.aside;
    lines = with_ports (assigned back.saved.ports m.lines) m.lines;
  }) same;
  attached = back.attached;
  watch = back.watch;
}
back-in-room tells files r answer old room new same back = tt
