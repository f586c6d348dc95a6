-- The disk's file stays in step with the copy of it where files are saved and put back.
use Rattle.std.proofs.Common.{◌≡◌, Bool, true, false, List, Option, Some, None, ap, sym, ◌∙◌, subst, inl, inr, if◌then◌else◌}
use Rattle.std.proofs.lemmas.Bool.{cases_Bool}
use Rattle.std.proofs.lemmas.List.{get_or-set_other}
use Rattle.file_traits.specs.Lists.{NamedBytes}
use Rattle.unit_trait.specs.declared.kind.UnitName.{UnitName}
use Rattle.unit_files.specs.Attachments.{Attachment, attachments_of, attachment_at, with_attachment, file_place, is_disk}
use Rattle.unit_files.specs.Aside.{nothing_aside}
use Rattle.unit_files.specs.Buffer.{Buffer, AttachedFiles, nothing_attached, disk_unit}
use Rattle.unit_files.specs.InStep.{StepAt, InStep}
use Rattle.unit_files.proofs.Copies.{not-first}

pub step-same : (old new : AttachedFiles) (files files' : List NamedBytes) → new ≡ old → files' ≡ files → InStep old files → InStep new files'
step-same old new files files' attached left =
    subst (λ (x : AttachedFiles × List NamedBytes). InStep x.0 x.1) (λ i. (sym attached i, sym left i))

pub step-nothing : (a : AttachedFiles) (files : List NamedBytes) → a ≡ nothing_attached → InStep a files
step-nothing a files is = subst (λ (x : AttachedFiles). InStep x files) (sym is) tt

-- another unit than the disk gets a file, and no file changes
pub step-other : (unit : UnitName) (a : Attachment) (old new : AttachedFiles) (files files' : List NamedBytes) → is_disk unit.kind ≡ false
    → attachments_of new.slots ≡ with_attachment (attachments_of old.slots) unit (Some a) → new.disk ≡ old.disk → new.aside ≡ old.aside
    → files' ≡ files → InStep old files → InStep new files'
step-other unit a old new files files' other attached copy aside left =
    let same : attachment_at (attachments_of new.slots) disk_unit ≡ attachment_at (attachments_of old.slots) disk_unit =
    ap (λ (l : List (Option Attachment)). attachment_at l disk_unit) attached
    ∙ get_or-set_other (attachments_of old.slots) (file_place unit) 0 (Some a) None (λ first. not-first unit.kind unit.unit other (sym first)) in
    subst (λ (x : Option Attachment × Buffer × List Bool × List NamedBytes). StepAt x.0 x.1 x.2 x.3)
    (λ i. (sym same i, sym copy i, sym aside i, sym left i))

-- no page is marked behind an attaching
pub unmarked-behind : (unit : UnitName) (old new : List Bool) → (is_disk unit.kind ≡ true → new ≡ nothing_aside) → (is_disk unit.kind ≡ false → new ≡ old)
    → old ≡ nothing_aside → new ≡ nothing_aside
unmarked-behind unit old new disk other none = elim (cases_Bool (is_disk unit.kind)) [ inl is ↦ disk is | inr not ↦ other not ∙ none ]

-- .. and behind a detaching
pub unmarked-if : (b : Bool) (old new : List Bool) → new ≡ (if b then nothing_aside else old) → old ≡ nothing_aside → new ≡ nothing_aside
unmarked-if true old new is none = is
unmarked-if false old new is none = is ∙ none
