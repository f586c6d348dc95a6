-- The disk's file stays in step with the copy of it where a file is attached.
use Rattle.std.proofs.Common.{◌≡◌, ℕ, true, false, List, Option, None, ap, sym, ◌∙◌, subst, inl, inr}
use Rattle.std.proofs.lemmas.Bool.{cases_Bool}
use Rattle.std.proofs.lemmas.List.{get_or-set_other}
use Rattle.file_traits.specs.Lists.{NamedBytes}
use Rattle.unit_trait.specs.declared.kind.UnitName.{UnitName}
use Rattle.unit_files.specs.declared.modes.AttachMode.{AttachMode}
use Rattle.unit_files.specs.Attachments.{Attachment, file_place, is_disk, attachments_of, attachment_at, with_attachment}
use Rattle.unit_files.specs.Acts.{Attached, attached_by}
use Rattle.unit_files.specs.Buffer.{AttachedFiles, disk_unit}
use Rattle.unit_files.specs.InStep.{InStep}
use Rattle.unit_files.proofs.Copies.{not-first}
use Rattle.nova_machine.specs.Machine.{attached_files}
use Rattle.command_session.specs.Live.{CommandState}
use Rattle.command_session.specs.DiskFile.{StaysWhereAlone}
use Rattle.command_session.proofs.StepLemmas.{step-beside}

abbrev disk-of : AttachedFiles → Option Attachment
disk-of a = attachment_at (attachments_of a.slots) disk_unit

-- another unit's file is none of the disk
other-file : (attached : List (Option Attachment)) (unit : UnitName) (x : Option Attachment) → is_disk unit.kind ≡ false
    → attachment_at (with_attachment attached unit x) disk_unit ≡ attachment_at attached disk_unit
other-file attached unit x other =
    get_or-set_other attached (file_place unit) 0 x None (λ first. not-first unit.kind unit.unit other (sym first))

-- a unit has got a file
pub attached-step : (mode : AttachMode) (unit : UnitName) (name : List ℕ) (count : ℕ) (old new : CommandState) (a held : AttachedFiles) (files files' : List NamedBytes)
    → held ≡ attached_files old.machine → attached_files new.machine ≡ a
    → attachments_of a.slots ≡ attached_by (Attached count) mode unit name (attachments_of held.slots)
    → (is_disk unit.kind ≡ true → InStep a files') → (is_disk unit.kind ≡ false → a.disk ≡ held.disk) → (is_disk unit.kind ≡ false → a.aside ≡ held.aside)
    → StaysWhereAlone old new files files'
attached-step mode unit name count old new a held files files' was now are of_disk copy aside = elim (cases_Bool (is_disk unit.kind)) [
  | inl is ↦ λ step lines lines' whole whole' alone. subst (λ (x : AttachedFiles). InStep x files') (sym now) (of_disk is)
  | inr other ↦
      step-beside old new files files'
      (ap disk-of now ∙ ap (λ (l : List (Option Attachment)). attachment_at l disk_unit) are ∙ other-file (attachments_of held.slots) unit _ other ∙ ap disk-of was)
      (ap (λ (x : AttachedFiles). x.disk) now ∙ copy other ∙ ap (λ (x : AttachedFiles). x.disk) was)
      (ap (λ (x : AttachedFiles). x.aside) now ∙ aside other ∙ ap (λ (x : AttachedFiles). x.aside) was)
]

-- what is attached is as it was, whatever became of files
pub held-step : (old new : CommandState) (files files' : List NamedBytes) → attached_files new.machine ≡ attached_files old.machine
    → StaysWhereAlone old new files files'
held-step old new files files' same =
    step-beside old new files files' (ap disk-of same) (ap (λ (x : AttachedFiles). x.disk) same) (ap (λ (x : AttachedFiles). x.aside) same)
