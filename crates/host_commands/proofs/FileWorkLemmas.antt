-- What DO, LOAD and ATTACH do, whatever files hold.
use Rattle.std.proofs.Common.{◌≡◌, false, ◌<◌, ◌∙◌, ℕ, List, Bool, Result, Ok, Err, IfOk, refl, ap, sym, subst}
use Rattle.std.specs.Global.{Vec}
use Rattle.file_traits.specs.State.{FileState}
use Rattle.binary_load.specs.declared.faults.LoadFault.{LoadFault}
use Rattle.binary_load.specs.declared.faults.LoadFault.TheVariants as tape
use Rattle.binary_load.specs.Tape.{Tape}
use Rattle.file_commands.specs.declared.note.Subject.TheVariants as subject
use Rattle.whole_files.specs.declared.whole.WholeFault.{WholeFault}
use Rattle.whole_files.specs.declared.whole.WholeFault.TheVariants as fault
use Rattle.unit_trait.specs.declared.kind.UnitName.{UnitName}
use Rattle.unit_files.specs.declared.modes.AttachMode.{AttachMode}
use Rattle.unit_files.specs.Attachments.{attachments_of, is_disk}
use Rattle.unit_files.specs.Acts.{Attached, attached_by}
use Rattle.unit_files.specs.Buffer.{AttachedFiles}
use Rattle.nova_machine.specs.Machine.{MachineState, attached_files, with_attached_files}
use Rattle.nova_machine.specs.Seen.{attached_in}
use Rattle.command_session.specs.Reply.{Answer}
use Rattle.command_session.specs.FileEffects.{mode_of, first_place, positioned}
use Rattle.command_session.specs.WholeCalls.{whole_answer}
use Rattle.host_commands.specs.DoEffects.{script_of}
use Rattle.command_session.specs.TapeEffects.{tape_in, tape_answer, tape_machine, read_machine}
use Rattle.command_session.specs.FileWorks.{LoadWorks, DoWorks, IsAttached}

pub do-works : (echo strict : Bool) (bytes : Result (Vec ℕ) WholeFault) (answer : Answer) (old new : FileState) → answer ≡ whole_answer subject.Script (script_of echo strict) bytes
    → IfOk bytes (λ v. old.given < new.given) → DoWorks answer old new
do-works echo strict bytes answer old new is opens = subst (λ (a : Answer). DoWorks a old new) (sym is) (by-bytes bytes opens)
  where
    by-bytes : (bytes : Result (Vec ℕ) WholeFault) → IfOk bytes (λ v. old.given < new.given) → DoWorks (whole_answer subject.Script (script_of echo strict) bytes) old new
    by-bytes (Ok v) opens = opens
    by-bytes (Err why) opens = tt

pub load-works : (bytes : Result (Vec ℕ) WholeFault) (answer : Answer) (m m' : MachineState) (old new : FileState) → answer ≡ whole_answer subject.Load (λ read. tape_answer (tape_in m read)) bytes
    → m' ≡ read_machine bytes m → IfOk bytes (λ v. old.given < new.given) → LoadWorks answer m m' old new
load-works bytes answer m m' old new is left opens = subst (λ (a : Answer). LoadWorks a m m' old new) (sym is) (by-bytes bytes left opens)
  where
    by-tape : (read : List ℕ) (r : Result Tape LoadFault) → tape_in m read ≡ r → m' ≡ tape_machine (tape_in m read) m → old.given < new.given → LoadWorks (tape_answer r) m m' old new
    by-tape read (Ok says) says_is left opens = record { was_opened = opens; bytes = read; answer_is = ap tape_answer (sym says_is); machine_is = left }
    by-tape read (Err (tape.Truncated place)) says_is left opens = record { was_opened = opens; bytes = read; answer_is = ap tape_answer (sym says_is); machine_is = left }
    by-tape read (Err (tape.BadSum place)) says_is left opens = record { was_opened = opens; bytes = read; answer_is = ap tape_answer (sym says_is); machine_is = left }
    by-tape read (Err (tape.PastMemory origin)) says_is left opens = record { was_opened = opens; bytes = read; answer_is = ap tape_answer (sym says_is); machine_is = left }

    by-bytes : (bytes : Result (Vec ℕ) WholeFault) → m' ≡ read_machine bytes m → IfOk bytes (λ v. old.given < new.given)
        → LoadWorks (whole_answer subject.Load (λ read. tape_answer (tape_in m read)) bytes) m m' old new
    by-bytes (Ok v) left opens = by-tape v.items (tape_in m v.items) refl left opens
    by-bytes (Err fault.NoFile) left opens = left
    by-bytes (Err fault.TooLong) left opens = left
    by-bytes (Err fault.Failed) left opens = left
    by-bytes (Err fault.OutOfMemory) left opens = left

pub attached-works : (option : ℕ) (unit : UnitName) (name : List ℕ) (count : ℕ) (mode : AttachMode) (place : ℕ) (m m' : MachineState) (held left : AttachedFiles) → held ≡ attached_files m → mode ≡ mode_of option
    → attachments_of left.slots ≡ attached_by (Attached count) mode unit name (attachments_of held.slots) → (is_disk unit.kind ≡ false → left.disk ≡ held.disk) → place ≡ first_place unit.kind count
    → m' ≡ record (with_attached_files m left) { units = positioned unit place m.units } → IsAttached option unit name m m'
attached-works option unit name count mode place m m' held left was by attached other from is = record {
  length = count;
  attached =
      ap (λ (x : MachineState). attached_in x) is ∙ attached ∙ ap (λ (x : AttachMode). attached_by (Attached count) x unit name (attachments_of held.slots)) by
      ∙ ap (λ (x : AttachedFiles). attached_by (Attached count) (mode_of option) unit name (attachments_of x.slots)) was;
  rest =
      is ∙ ap (λ (p : ℕ). record (with_attached_files m left) { units = positioned unit p m.units }) from
      ∙ ap (λ (x : MachineState). record m { slots = x.slots; disk = x.disk; aside = x.aside; units = positioned unit (first_place unit.kind count) m.units }) (sym is);
  copy = λ none. ap (λ (x : MachineState). x.disk) is ∙ other none ∙ ap (λ (x : AttachedFiles). x.disk) was;
}
