-- What was taken of a session is what is saved of it.
use Rattle.std.proofs.Common.{◌≡◌, ℕ, List, map, Option, refl, sym, ap, ◌∙◌}
use Rattle.file_traits.specs.Lists.{NamedBytes}
use Rattle.host_lines.specs.Traffic.{Answer}
use Rattle.host_lines.specs.State.{LineState}
use Rattle.telnet_lines.specs.Joined.{seen_line}
use Rattle.unit_files.specs.Attachments.{Attachment, Held, attachments_of}
use Rattle.unit_files.specs.Buffer.{AttachedFiles}
use Rattle.expect_actions.specs.Watch.{WatchState}
use Rattle.nova_machine.specs.Machine.{MachineState, with_attached_files}
use Rattle.nova_machine.specs.Seen.{erased, seen, beside, attached_in}
use Rattle.nova_machine.proofs.Serving.{erased-attached}
use Rattle.saved_session.specs.Parts.{State}
use Rattle.saved_files.specs.Taking.{file_places, saved_files}
use Rattle.state_transfer.specs.Session.{saved_machine, saved_ports, saved}
use Rattle.saved_session.specs.SavedWatch.{saved_watch}

-- neither what is attached nor the disk's copy is saved with the machine
same-machine : (m : MachineState) (a : AttachedFiles) → saved_machine m ≡ saved_machine (erased (with_attached_files m a))
unfolding saved_machine
same-machine m a = refl

-- what was taken before the files of a machine were written back and read, and then of the files
pub record IsTaken (x : State) (m : MachineState) (slots : List (Option Held)) (w : WatchState) (files : List NamedBytes) : Type 0 where
  pub machine : x.machine ≡ saved_machine m
  pub files_are : x.files ≡ saved_files files (attachments_of slots) file_places
  pub ports : (s : LineState) → x.ports ≡ saved_ports (map (seen_line s) m.lines)
  pub watch : x.watch ≡ saved_watch w

pub taken-is-saved : (x : State) (m : MachineState) (a : AttachedFiles) (w : WatchState) (files : List NamedBytes) (keys : List (ℕ × ℕ)) (lines : LineState) (whole : List Answer)
    → IsTaken x m a.slots w files → x ≡ saved (seen (beside w keys files lines) whole (with_attached_files m a))
taken-is-saved x m a w files keys lines whole is =
    let machine = is.machine ∙ same-machine m a in
    let here : x.files ≡ saved_files files (attached_in (erased (with_attached_files m a))) file_places =
    is.files_are
    ∙ ap (λ (l : List (Option Attachment)). saved_files files l file_places) (sym (erased-attached a.slots)) in
    λ i. record { machine = machine i; files = here i; ports = is.ports lines i; watch = is.watch i }
