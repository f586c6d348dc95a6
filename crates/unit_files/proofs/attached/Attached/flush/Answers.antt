use Rattle.std.proofs.Common.{◌≡◌, ◌≤◌, ℕ, Bool, List, length, map, Option, true, false, Some, None, refl, sym, ap, ◌∙◌, rules, arith, if◌then◌else◌}
use Rattle.file_traits.specs.Lists.{NamedBytes, changed}
use Rattle.file_traits.specs.State.{name_at}
use Rattle.file_traits.specs.declared.files.FileCall.TheVariants.{Write}
use Rattle.unit_files.specs.Pages.{disk_pages, no_marks}
use Rattle.unit_files.specs.InStep.{written_pages, pages_back, marks_flushed}
use Rattle.unit_files.specs.Acts.{Failure, is_due_back, piece_of, failure_at, NotFlushed, Flushed, flushed_as, flush_said, buffer_flushed}
use Rattle.unit_files.specs.Answers.{failure_in}
use Rattle.unit_files.specs.Attachments.{Attachment, held_at, is_disk, attachments_of, attachment_at}
use Rattle.unit_files.specs.Buffer.{AttachedFiles, Buffer, disk_bytes}
use Rattle.unit_files.specs.View.{HoldsFile, HoldsNone, marks_of, slot_of}
use Rattle.unit_files.specs.declared.disk_copy.DiskCopy.{DiskCopy}
use Rattle.unit_files.proofs.Copies.{copy-there, files_of}
use Rattle.unit_files.proofs.FlushLaws.{content}
use Rattle.unit_files.proofs.InStep.{no-files, not-due-files, step-content, step-flushed}
use Rattle.unit_files.proofs.WrittenPages.{claimed}
use Rattle.unit_files.proofs.Marks.{marks-all}
use Rattle.unit_files.proofs.Opened.{file-of, written-back-file}
use Rattle.unit_files.proofs.attached.Attached.flush.Goals as goal

pub write_copy-requires-clause-open : goal.write_copy-requires-clause-open
write_copy-requires-clause-open g c =
    let holds : HoldsFile c.args.self.now.slots c.args.unit c.in-Some.field-0 = c.in-Some.ensures.holds in
    (file-of _ _ _ (g.F.Files.state c.args.files.now).opened c.requires.«open» holds).is_open

pub write_copy-requires-clause-writable : goal.write_copy-requires-clause-writable
write_copy-requires-clause-writable g c =
    let holds : HoldsFile c.args.self.now.slots c.args.unit c.in-Some.field-0 = c.in-Some.ensures.holds in
    (file-of _ _ _ (g.F.Files.state c.args.files.now).opened c.requires.«open» holds).writable
    (c.is_due_back.ensures.writable (search rules))

pub write_copy-requires-clause-copy : goal.write_copy-requires-clause-copy
write_copy-requires-clause-copy g c =
    let holds : HoldsFile c.args.self.now.slots c.args.unit c.in-Some.field-0 = c.in-Some.ensures.holds in
    let is : is_disk c.args.unit.kind ≡ true = search rules in
    let there = ap (λ (a : AttachedFiles). held_at a.slots c.args.unit) c.self.view_is ∙ holds.there in
    copy-there _ c.args.unit holds.held c.self.inside.disk c.self.invariant.2 c.requires.unit is there

-- what is written back of the copy is what is written back of the disk's
same-copy : (d : DiskCopy) (disk : Buffer) (marks : List Bool) (fault : Option Failure) (old : List NamedBytes) (name : List ℕ)
    → length d.marks.items ≡ disk_pages → d.bytes.items ≡ disk.bytes → marks_of d.marks.items ≡ marks
    → changed old name (written_pages d.marks.items 0 (piece_of (failure_at Write fault) d.bytes.items))
    ≡ changed old name (pages_back fault disk marks)
same-copy d disk marks fault old name all bytes marked = λ i.
    changed old name (written_pages ((sym (marks-all d.marks.items all) ∙ marked) i) 0 (piece_of (failure_at Write fault) (bytes i)))

pub returns-in-Ok-clause-pages : goal.returns-in-Ok-clause-pages
returns-in-Ok-clause-pages g c =
    let old = g.F.Files.state c.args.files.now in
    let holds : HoldsFile c.args.self.now.slots c.args.unit c.in-Some.field-0 = c.in-Some.ensures.holds in
    let of = file-of _ _ _ old.opened c.requires.«open» holds in
    let due : is_due_back c.args.unit c.args.self.now.disk ≡ true = search rules in
    let is : is_disk c.args.unit.kind ≡ true = search rules in
    let there = ap (λ (a : AttachedFiles). held_at a.slots c.args.unit) c.self.view_is ∙ holds.there in
    let copy = copy-there _ c.args.unit holds.held c.self.inside.disk c.self.invariant.2 c.requires.unit is there in
    c.in-Ok.ensures.files
    ∙ same-copy c.self.inside.disk c.args.self.now.disk c.args.self.now.aside None old.files (name_at old.opened c.in-Some.field-0.0)
    copy.pages (ap (λ (a : AttachedFiles). a.disk.bytes) c.self.view_is) (ap (λ (a : AttachedFiles). a.aside) c.self.view_is)
    ∙ sym (written-back-file None c.args.unit _ holds.held.attachment c.args.self.now.disk c.args.self.now.aside old.files _ holds.attachment
    of.name due)

pub returns-in-Err-clause-pages : goal.returns-in-Err-clause-pages
returns-in-Err-clause-pages g c =
    let old = g.F.Files.state c.args.files.now in
    let fault = Some (failure_in c.in-Err.fault) in
    let holds : HoldsFile c.args.self.now.slots c.args.unit c.in-Some.field-0 = c.in-Some.ensures.holds in
    let of = file-of _ _ _ old.opened c.requires.«open» holds in
    let due : is_due_back c.args.unit c.args.self.now.disk ≡ true = search rules in
    let is : is_disk c.args.unit.kind ≡ true = search rules in
    let there = ap (λ (a : AttachedFiles). held_at a.slots c.args.unit) c.self.view_is ∙ holds.there in
    let copy = copy-there _ c.args.unit holds.held c.self.inside.disk c.self.invariant.2 c.requires.unit is there in
    c.in-Err.ensures.files
    ∙ same-copy c.self.inside.disk c.args.self.now.disk c.args.self.now.aside fault old.files (name_at old.opened c.in-Some.field-0.0)
    copy.pages (ap (λ (a : AttachedFiles). a.disk.bytes) c.self.view_is) (ap (λ (a : AttachedFiles). a.aside) c.self.view_is)
    ∙ sym (written-back-file fault c.args.unit _ holds.held.attachment c.args.self.now.disk c.args.self.now.aside old.files _ holds.attachment
    of.name due)

pub returns-in-Err-clause-cause : goal.returns-in-Err-clause-cause
returns-in-Err-clause-cause g c =
    let holds : HoldsFile c.args.self.now.slots c.args.unit c.in-Some.field-0 = c.in-Some.ensures.holds in
    let is : is_disk c.args.unit.kind ≡ true = search rules in
    let there = ap (λ (a : AttachedFiles). held_at a.slots c.args.unit) c.self.view_is ∙ holds.there in
    let copy = copy-there _ c.args.unit holds.held c.self.inside.disk c.self.invariant.2 c.requires.unit is there in
    let most = copy.short in
    let part = c.in-Err.ensures.part in
    let short : c.in-Err.fault.done ≤ disk_bytes = omega (arith, most, part) in
    search rules

pub returns-in-Ok-clause-files : goal.returns-in-Ok-clause-files
returns-in-Ok-clause-files g c = λ step.
    let old = g.F.Files.state c.args.files.now in
    returns-in-Ok-clause-pages g c
    ∙ content None c.args.unit _ c.args.self.now.disk c.args.self.now.aside old.files tt
    (step-content None c.args.unit c.args.self.now old.files c.requires.unit step)

pub returns-in-Err-clause-files : goal.returns-in-Err-clause-files
returns-in-Err-clause-files g c = λ step.
    let old = g.F.Files.state c.args.files.now in
    let fault = Some (failure_in c.in-Err.fault) in
    let part : c.in-Err.fault.done ≤ length c.args.self.now.disk.bytes = search rules in
    returns-in-Err-clause-pages g c
    ∙ content fault c.args.unit _ c.args.self.now.disk c.args.self.now.aside old.files part
    (step-content fault c.args.unit c.args.self.now old.files c.requires.unit step)

pub returns-in-None-clause-files : goal.returns-in-None-clause-files
returns-in-None-clause-files g c = λ step.
    let holds : HoldsNone c.args.self.now.slots c.args.unit = c.in-None.ensures.holds in
    sym (no-files None c.args.unit _ c.args.self.now.disk (g.F.Files.state c.args.files.now).files holds.attachment)

pub returns-in-Some-clause-files : goal.returns-in-Some-clause-files
returns-in-Some-clause-files g c = λ step.
    let not_due : is_due_back c.args.unit c.args.self.now.disk ≡ false = search rules in
    sym (not-due-files None c.args.unit _ c.args.self.now.disk (g.F.Files.state c.args.files.now).files not_due)

pub returns-in-Ok-clause-step : goal.returns-in-Ok-clause-step
returns-in-Ok-clause-step g c = λ step.
    let old = g.F.Files.state c.args.files.now in
    let now = g.F.Files.state c.write_copy.new.files in
    let disk = c.args.self.now.disk in
    let at = attachment_at (attachments_of c.args.self.now.slots) c.args.unit in
    let holds : HoldsFile c.args.self.now.slots c.args.unit c.in-Some.field-0 = c.in-Some.ensures.holds in
    let due : is_due_back c.args.unit disk ≡ true = search rules in
    let is : is_disk c.args.unit.kind ≡ true = search rules in
    let new = files_of (map slot_of c.self.inside.slots.items) c.unmark.new.self in
    let says : Flushed ≡ flush_said None c.args.unit at disk =
    sym (ap (λ (o : Option Attachment). flush_said None c.args.unit o disk) holds.attachment
    ∙ ap (λ (b : Bool). flushed_as (if b then failure_at Write None else None)) due) in
    let bytes = c.unmark.ensures.bytes ∙ ap (λ (a : AttachedFiles). a.disk.bytes) c.self.view_is in
    let copy : new.disk ≡ buffer_flushed Flushed c.args.unit disk =
    (λ i. record { bytes = bytes i; written = c.unmark.ensures.copy.unwritten i })
    ∙ sym (ap (λ (b : Bool). if b then record disk { written = false } else disk) is) in
    let marks : new.aside ≡ marks_flushed Flushed c.args.unit c.args.self.now.aside =
    c.unmark.ensures.copy.unmarked ∙ sym (ap (λ (b : Bool). if b then no_marks else c.args.self.now.aside) is) in
    step-flushed None c.args.unit Flushed c.args.self.now new old.files now.files c.requires.unit
    (ap (λ (a : AttachedFiles). a.slots) c.self.view_is) says copy marks (returns-in-Ok-clause-files g c step) tt step

pub returns-in-Err-clause-step : goal.returns-in-Err-clause-step
returns-in-Err-clause-step g c = λ step.
    let old = g.F.Files.state c.args.files.now in
    let now = g.F.Files.state c.write_copy.new.files in
    let disk = c.args.self.now.disk in
    let at = attachment_at (attachments_of c.args.self.now.slots) c.args.unit in
    let fault = Some (failure_in c.in-Err.fault) in
    let holds : HoldsFile c.args.self.now.slots c.args.unit c.in-Some.field-0 = c.in-Some.ensures.holds in
    let due : is_due_back c.args.unit disk ≡ true = search rules in
    let part : c.in-Err.fault.done ≤ length disk.bytes = search rules in
    let says : NotFlushed (failure_in c.in-Err.fault) ≡ flush_said fault c.args.unit at disk =
    sym (ap (λ (o : Option Attachment). flush_said fault c.args.unit o disk) holds.attachment
    ∙ ap (λ (b : Bool). flushed_as (if b then failure_at Write fault else None)) due
    ∙ ap flushed_as (claimed c.in-Err.fault c.in-Err.ensures.cause.0)) in
    step-flushed fault c.args.unit (NotFlushed (failure_in c.in-Err.fault)) c.args.self.now c.args.self.now old.files now.files
    c.requires.unit refl says refl refl (returns-in-Err-clause-files g c step) part step
