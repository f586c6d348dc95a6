use Rattle.std.proofs.Common.{inl, inr, Some, None, Ok, Err, refl, sym, ap, subst, ◌∙◌, rules}
use Rattle.unit_trait.specs.declared.kind.UnitName.{UnitName}
use Rattle.unit_files.specs.Attachments.{attachments_of, is_disk}
use Rattle.unit_files.specs.declared.faults.AttachFault.TheVariants as attach
use Rattle.unit_files.specs.Acts.{NotThere, TooLong, CallFailed}
use Rattle.unit_files.specs.Answers.{failure_in}
use Rattle.saved_session.specs.Parts.{file_in}
use Rattle.saved_files.specs.Putting.{is_only_read}
use Rattle.saved_files.proofs.Attaching.{same-files, said-of, bytes-taken}
use Rattle.saved_files.proofs.PuttingCounts.{refused-opened}
use Rattle.unit_files.specs.Buffer.{AttachedFiles}
use Rattle.saved_files.specs.declared.file_faults.RestoreFault.TheVariants as fault
use Rattle.saved_files.specs.PuttingCauses.{ClosesOthers}
use Rattle.saved_files.proofs.ClosingOnce.{same-closed, none-closed, long-closed, failed-closed}
use Rattle.saved_files.proofs.PuttingOpenings.{opens-one, opens-refused}
use Rattle.std.proofs.lemmas.Bool.{cases_Bool}
use Rattle.unit_files.specs.Acts.{is_read_only}
use Rattle.saved_files.proofs.InStep.{step-other, unmarked-behind}
use Rattle.saved_files.proofs.putting.attach_file.Goals as goal

pub returns-in-Ok-clause-bytes : goal.returns-in-Ok-clause-bytes
returns-in-Ok-clause-bytes g c = λ t disk.
    let same = c.in-Ok.ensures.files t
    ∙ same-files None c.mode_of.result (is_only_read (file_in c.args.file.now)) c.unit_of-unit.result
    c.as_str.result.now (attachments_of c.args.attached.now.slots) (g.F.Files.state c.args.files.now).files
    c.mode_of.ensures in
    bytes-taken c.attach.new.self.disk c.args.attached.now.disk (file_in c.args.file.now) c.in-Ok._length
    c.unit_of-unit.result c.as_str.result.now (g.F.Files.state c.attach.new.files).files
    (g.F.Files.state c.args.files.now).files c.unit_of-unit.ensures (search rules) same (c.in-Ok.ensures.disk t) disk

pub returns-in-Ok-clause-files : goal.returns-in-Ok-clause-files
returns-in-Ok-clause-files g c = λ t.
    c.in-Ok.ensures.files t
    ∙ same-files None c.mode_of.result (is_only_read (file_in c.args.file.now)) c.unit_of-unit.result
    c.as_str.result.now (attachments_of c.args.attached.now.slots) (g.F.Files.state c.args.files.now).files
    c.mode_of.ensures

pub returns-in-Err-NoFile-clause-files : goal.returns-in-Err-NoFile-clause-files
returns-in-Err-NoFile-clause-files g c = λ t.
    (rw c.in-Err-NoFile.field-0-is at c.in-Err-NoFile.ensures.files) t
    ∙ same-files None c.mode_of.result (is_only_read (file_in c.args.file.now)) c.unit_of-unit.result
    c.as_str.result.now (attachments_of c.args.attached.now.slots) (g.F.Files.state c.args.files.now).files
    c.mode_of.ensures

pub returns-in-Err-TooLong-clause-files : goal.returns-in-Err-TooLong-clause-files
returns-in-Err-TooLong-clause-files g c = λ t.
    (rw c.in-Err-TooLong.field-0-is at c.in-Err-TooLong.ensures.files) t
    ∙ same-files None c.mode_of.result (is_only_read (file_in c.args.file.now)) c.unit_of-unit.result
    c.as_str.result.now (attachments_of c.args.attached.now.slots) (g.F.Files.state c.args.files.now).files
    c.mode_of.ensures

pub returns-in-Err-Failed-clause-files : goal.returns-in-Err-Failed-clause-files
returns-in-Err-Failed-clause-files g c = λ t.
    (rw c.in-Err-Failed.field-0-is at c.in-Err-Failed.ensures.files) t
    ∙ same-files (Some (failure_in c.in-Err-Failed.fault)) c.mode_of.result (is_only_read (file_in c.args.file.now)) c.unit_of-unit.result
    c.as_str.result.now (attachments_of c.args.attached.now.slots) (g.F.Files.state c.args.files.now).files
    c.mode_of.ensures

pub returns-in-Err-NoFile-clause-told : goal.returns-in-Err-NoFile-clause-told
returns-in-Err-NoFile-clause-told g c = λ t force.
    said-of NotThere None force (file_in c.args.file.now) c.unit_of-unit.result c.mode_of.result c.as_str.result.now
    (attachments_of c.args.attached.now.slots) (g.F.Files.state c.args.files.now).files c.unit_of-unit.ensures
    c.mode_of.ensures (search rules) ((rw c.in-Err-NoFile.field-0-is at c.in-Err-NoFile.ensures.said) t)

pub returns-in-Err-TooLong-clause-told : goal.returns-in-Err-TooLong-clause-told
returns-in-Err-TooLong-clause-told g c = λ t force.
    said-of TooLong None force (file_in c.args.file.now) c.unit_of-unit.result c.mode_of.result c.as_str.result.now
    (attachments_of c.args.attached.now.slots) (g.F.Files.state c.args.files.now).files c.unit_of-unit.ensures
    c.mode_of.ensures (search rules) ((rw c.in-Err-TooLong.field-0-is at c.in-Err-TooLong.ensures.said) t)

pub returns-in-Err-Failed-clause-told : goal.returns-in-Err-Failed-clause-told
returns-in-Err-Failed-clause-told g c = λ t force.
    said-of (CallFailed (failure_in c.in-Err-Failed.fault)) (Some (failure_in c.in-Err-Failed.fault)) force (file_in c.args.file.now) c.unit_of-unit.result c.mode_of.result c.as_str.result.now
    (attachments_of c.args.attached.now.slots) (g.F.Files.state c.args.files.now).files c.unit_of-unit.ensures
    c.mode_of.ensures (search rules) ((rw c.in-Err-Failed.field-0-is at c.in-Err-Failed.ensures.said) t)

pub returns-in-Ok-clause-unwritten : goal.returns-in-Ok-clause-unwritten
returns-in-Ok-clause-unwritten g c = λ disk.
    let is = ap (λ (u : UnitName). is_disk u.kind) c.unit_of-unit.ensures ∙ disk in
    c.in-Ok.ensures.unwritten is

pub returns-in-Err-TooLong-clause-cause : goal.returns-in-Err-TooLong-clause-cause
returns-in-Err-TooLong-clause-cause g c =
    let cause = rw c.in-Err-TooLong.field-0-is at c.in-Err-TooLong.ensures.cause in
    let state = g.F.Files.state in
    (refused-opened cause.0.0 0 (state c.args.files.now) (state c.attach.new.files) cause.0.1, cause.1)

pub returns-in-Ok-clause-once : goal.returns-in-Ok-clause-once
returns-in-Ok-clause-once g c = λ given.
    same-closed c.attach.new.self.slots (g.F.Files.state c.args.files.now) (g.F.Files.state c.attach.new.files)
    c.in-Ok.ensures.cause.0

pub returns-in-Err-NoFile-clause-once : goal.returns-in-Err-NoFile-clause-once
returns-in-Err-NoFile-clause-once g c = λ given.
    let cause = rw c.in-Err-NoFile.field-0-is at c.in-Err-NoFile.ensures.cause in
    none-closed (Err (fault.NoFile c.unit_of-unit.result)) c.attach.new.self.slots (g.F.Files.state c.args.files.now)
    (g.F.Files.state c.attach.new.files) (λ file count. refl) cause.0

pub returns-in-Err-TooLong-clause-once : goal.returns-in-Err-TooLong-clause-once
returns-in-Err-TooLong-clause-once g c = λ given.
    let cause = rw c.in-Err-TooLong.field-0-is at c.in-Err-TooLong.ensures.cause in
    let state = g.F.Files.state in
    subst (λ (a : AttachedFiles). ClosesOthers (Err (fault.TooLong c.unit_of-unit.result)) a.slots
    (state c.args.files.now) (state c.attach.new.files)) (sym c.in-Err-TooLong.ensures.refused)
    (long-closed c.unit_of-unit.result c.args.attached.now.slots cause.0.0 (state c.args.files.now)
    (state c.attach.new.files) cause.0.1 given)

pub returns-in-Err-Failed-clause-once : goal.returns-in-Err-Failed-clause-once
returns-in-Err-Failed-clause-once g c = λ given.
    let cause = rw c.in-Err-Failed.field-0-is at c.in-Err-Failed.ensures.cause in
    let state = g.F.Files.state in
    subst (λ (a : AttachedFiles). ClosesOthers (Err (fault.Failed c.in-Err-Failed.fault)) a.slots
    (state c.args.files.now) (state c.attach.new.files)) (sym c.in-Err-Failed.ensures.refused)
    (failed-closed c.in-Err-Failed.fault c.unit_of-unit.result c.args.attached.now.slots (state c.args.files.now)
    (state c.attach.new.files) cause given)

pub returns-in-Err-OutOfMemory-clause-once : goal.returns-in-Err-OutOfMemory-clause-once
returns-in-Err-OutOfMemory-clause-once g c = λ given.
    let cause = rw c.in-Err-OutOfMemory.field-0-is at c.in-Err-OutOfMemory.ensures.cause in
    none-closed (Err fault.OutOfMemory) c.attach.new.self.slots (g.F.Files.state c.args.files.now)
    (g.F.Files.state c.attach.new.files) (λ file count. refl) cause

pub returns-in-Ok-clause-exact : goal.returns-in-Ok-clause-exact
returns-in-Ok-clause-exact g c =
    opens-one c.mode_of.result (is_only_read (file_in c.args.file.now)) g.F.Files.tells (Ok c.in-Ok._length)
    (g.F.Files.state c.args.files.now) (g.F.Files.state c.attach.new.files) c.mode_of.ensures c.in-Ok.ensures.exact refl refl

pub returns-in-Err-NoFile-clause-exact : goal.returns-in-Err-NoFile-clause-exact
returns-in-Err-NoFile-clause-exact g c =
    let counts = rw c.in-Err-NoFile.field-0-is at c.in-Err-NoFile.ensures.exact in
    opens-refused c.mode_of.result (is_only_read (file_in c.args.file.now)) g.F.Files.tells (Err attach.NoFile)
    (g.F.Files.state c.args.files.now) (g.F.Files.state c.attach.new.files) c.mode_of.ensures counts (fault.NoFile c.unit_of-unit.result) refl

pub returns-in-Err-TooLong-clause-exact : goal.returns-in-Err-TooLong-clause-exact
returns-in-Err-TooLong-clause-exact g c =
    let counts = rw c.in-Err-TooLong.field-0-is at c.in-Err-TooLong.ensures.exact in
    opens-refused c.mode_of.result (is_only_read (file_in c.args.file.now)) g.F.Files.tells (Err attach.TooLong)
    (g.F.Files.state c.args.files.now) (g.F.Files.state c.attach.new.files) c.mode_of.ensures counts (fault.TooLong c.unit_of-unit.result) refl

pub returns-in-Err-Failed-clause-exact : goal.returns-in-Err-Failed-clause-exact
returns-in-Err-Failed-clause-exact g c =
    let counts = rw c.in-Err-Failed.field-0-is at c.in-Err-Failed.ensures.exact in
    opens-refused c.mode_of.result (is_only_read (file_in c.args.file.now)) g.F.Files.tells (Err (attach.Failed c.in-Err-Failed.fault))
    (g.F.Files.state c.args.files.now) (g.F.Files.state c.attach.new.files) c.mode_of.ensures counts (fault.Failed c.in-Err-Failed.fault) refl

pub returns-in-Err-OutOfMemory-clause-exact : goal.returns-in-Err-OutOfMemory-clause-exact
returns-in-Err-OutOfMemory-clause-exact g c =
    let counts = rw c.in-Err-OutOfMemory.field-0-is at c.in-Err-OutOfMemory.ensures.exact in
    opens-refused c.mode_of.result (is_only_read (file_in c.args.file.now)) g.F.Files.tells (Err attach.OutOfMemory)
    (g.F.Files.state c.args.files.now) (g.F.Files.state c.attach.new.files) c.mode_of.ensures counts fault.OutOfMemory refl

pub returns-in-Ok-clause-unmarked : goal.returns-in-Ok-clause-unmarked
returns-in-Ok-clause-unmarked g c =
    unmarked-behind c.unit_of-unit.result c.args.attached.now.aside c.attach.new.self.aside c.in-Ok.ensures.unmarked c.in-Ok.ensures.other_marks

pub returns-in-Ok-clause-step : goal.returns-in-Ok-clause-step
returns-in-Ok-clause-step g c = λ t step. elim (cases_Bool (is_disk c.unit_of-unit.result.kind)) [
  | inl is ↦ c.in-Ok.ensures.step t is
  | inr other ↦
      step-other c.unit_of-unit.result (record { name = c.as_str.result.now; read_only = is_read_only c.mode_of.result })
      c.args.attached.now c.attach.new.self (g.F.Files.state c.args.files.now).files (g.F.Files.state c.attach.new.files).files
      other c.in-Ok.ensures.attached (c.in-Ok.ensures.other other) (c.in-Ok.ensures.other_marks other)
      (returns-in-Ok-clause-files g c t) step
]
