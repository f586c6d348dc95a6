-- A machine without the numbers of open files has the same attached to its units.
use Rattle.std.proofs.Common.{◌≡◌, ℕ, List, [], ◌∷◌, map, Option, Some, None, refl, ap, ◌∙◌}
use Rattle.file_traits.specs.Lists.{NamedBytes}
use Rattle.host_lines.specs.Traffic.{Answer}
use Rattle.host_lines.specs.State.{LineState}
use Rattle.host_lines.specs.Told.{ahead_of}
use Rattle.telnet_lines.specs.Joined.{seen_line}
use Rattle.unit_files.specs.Attachments.{Attachment, Held, attachments_of}
use Rattle.unit_files.specs.Buffer.{Buffer, AttachedFiles}
use Rattle.expect_actions.specs.Watch.{WatchState}
use Rattle.nova_machine.specs.Machine.{MachineState, attached_files, with_attached_files}
use Rattle.nova_machine.specs.Seen.{unnumbered, erased, seen, Beside, beside, attached_in, with_machine}
use Rattle.command_session.specs.Live.{numberless, with_attached}
use Rattle.nova_machine.proofs.Serving.{erased-attached as attached-unnumbered}

pub unnumbered-is : (slots : List (Option Held)) → map unnumbered slots ≡ numberless (attachments_of slots)
unnumbered-is [] = refl
unnumbered-is (None ∷ slots) = ap (λ (l : List (Option Held)). None ∷ l) (unnumbered-is slots)
unnumbered-is (Some h ∷ slots) = ap (λ (l : List (Option Held)). Some (record h { file = 0 }) ∷ l) (unnumbered-is slots)

pub attached-numberless : (attached : List (Option Attachment)) → attachments_of (numberless attached) ≡ attached
attached-numberless [] = refl
attached-numberless (None ∷ attached) = ap (λ (l : List (Option Attachment)). None ∷ l) (attached-numberless attached)
attached-numberless (Some a ∷ attached) = ap (λ (l : List (Option Attachment)). Some a ∷ l) (attached-numberless attached)

-- what is attached in an erased machine, and in one with other attachments
pub attached-erased : (m : MachineState) → attached_in (erased m) ≡ attached_in m
attached-erased m = attached-unnumbered m.slots

pub attached-with : (m : MachineState) (attached : List (Option Attachment)) → attached_in (with_attached m attached) ≡ attached
attached-with m attached = attached-numberless attached

-- a machine with other files, erased
pub erased-with : (m : MachineState) (a : AttachedFiles) (attached : List (Option Attachment)) (disk : Buffer) → attachments_of a.slots ≡ attached → a.disk ≡ disk
    → erased (with_attached_files m a) ≡ record (with_attached (erased m) attached) { disk = disk }
erased-with m a attached disk are holds =
    let slots = unnumbered-is a.slots ∙ ap numberless are in
    λ i. record (erased m) { slots = slots i; disk = holds i }

pub seen-with : (watch : WatchState) (keys : List (ℕ × ℕ)) (after : List NamedBytes) (lines : LineState) (whole : List Answer) (m : MachineState) (a : AttachedFiles) (attached : List (Option Attachment)) (disk : Buffer)
    → attachments_of a.slots ≡ attached → a.disk ≡ disk
    → seen (beside watch keys after lines) whole (with_attached_files m a) ≡ record (seen (beside watch keys after lines) whole m) { machine = record (with_attached (erased m) attached) { disk = disk } }
seen-with watch keys after lines whole m a attached disk are holds =
    ap (λ (x : MachineState). record (seen (beside watch keys after lines) whole m) { machine = x }) (erased-with m a attached disk are holds)

-- what is attached to a machine is given back to it
pub same-with : (m : MachineState) (a held : AttachedFiles) → held ≡ attached_files m → a ≡ held → with_attached_files m a ≡ m
same-with m a held was stays = ap (λ (x : AttachedFiles). with_attached_files m x) (stays ∙ was)

-- a machine that has the lines of another one
pub seen-machine : (b : Beside) (whole : List Answer) (m m' : MachineState) → m'.lines ≡ m.lines → seen b whole m' ≡ with_machine (seen b whole m) (erased m')
seen-machine b whole m m' same = λ i. record { machine = erased m'; watch = b.watch; keys = b.keys; files = b.files; lines = map (seen_line b.lines) (same i); ahead = ahead_of b.lines.told whole }
