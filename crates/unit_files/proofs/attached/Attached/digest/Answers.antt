use Rattle.std.proofs.Common.{◌≡◌, List, Option, Err, ap, sym, ◌∙◌}
use Rattle.unit_trait.specs.declared.kind.UnitName.{UnitName}
use Rattle.unit_files.specs.Attachments.{Held, attachments_of, attachment_at}
use Rattle.unit_files.specs.Acts.{Failure, flush_files}
use Rattle.unit_files.specs.InStep.{pages_flushed}
use Rattle.unit_files.specs.Digests.{said_of_digest, failure_of_digest, digest_flushed}
use Rattle.unit_files.proofs.Digests.{read-behind, said-read, same-files, same-pages, marks-behind}
use Rattle.unit_files.proofs.Digests.{read-refused, failure-refused, disk-refused, marks-refused, may-refused, cause-refused}
use Rattle.unit_files.proofs.attached.Attached.digest.Goals as goal

-- what is attached to the unit behind the writing back
same-at : (slots slots' : List (Option Held)) (unit : UnitName) → slots' ≡ slots
    → attachment_at (attachments_of slots') unit ≡ attachment_at (attachments_of slots) unit
same-at slots slots' unit same = ap (λ (l : List (Option Held)). attachment_at (attachments_of l) unit) same

pub returns-in-Err-clause-read : goal.returns-in-Err-clause-read
returns-in-Err-clause-read g c = λ tells. read-refused c.in-Err.fault c.args.unit _ _ _ c.in-Err.ensures.said

pub returns-in-Err-clause-said : goal.returns-in-Err-clause-said
returns-in-Err-clause-said g c = λ tells step.
    let old = g.F.Files.state c.args.files.now in
    let mid = g.F.Files.state c.flush.new.files in
    let claims = failure-refused c.in-Err.fault in
    let at = attachment_at (attachments_of c.args.self.now.slots) c.args.unit in
    said-read (failure_of_digest (Err c.in-Err.fault)) c.args.unit at c.args.self.now.disk (said_of_digest (Err c.in-Err.fault)) old.files mid.files
    (returns-in-Err-clause-read g c tells)
    (c.in-Err.ensures.files step ∙ ap (λ (o : Option Failure). flush_files o c.args.unit at c.args.self.now.disk old.files) (sym claims))

pub returns-in-Err-clause-pages : goal.returns-in-Err-clause-pages
returns-in-Err-clause-pages g c =
    let old = g.F.Files.state c.args.files.now in
    let at = attachment_at (attachments_of c.args.self.now.slots) c.args.unit in
    c.in-Err.ensures.pages
    ∙ ap (λ (o : Option Failure). pages_flushed o c.args.unit at c.args.self.now.disk c.args.self.now.aside old.files) (sym (failure-refused c.in-Err.fault))

pub returns-in-Err-clause-files : goal.returns-in-Err-clause-files
returns-in-Err-clause-files g c = λ step.
    let old = g.F.Files.state c.args.files.now in
    let at = attachment_at (attachments_of c.args.self.now.slots) c.args.unit in
    c.in-Err.ensures.files step
    ∙ ap (λ (o : Option Failure). flush_files o c.args.unit at c.args.self.now.disk old.files) (sym (failure-refused c.in-Err.fault))

pub returns-in-Err-clause-may : goal.returns-in-Err-clause-may
returns-in-Err-clause-may g c = may-refused c.in-Err.fault c.args.unit _ _ c.in-Err.ensures.said

pub returns-in-Err-clause-disk : goal.returns-in-Err-clause-disk
returns-in-Err-clause-disk g c =
    c.in-Err.ensures.disk ∙ disk-refused c.in-Err.fault c.args.unit _ _ c.in-Err.ensures.said

pub returns-in-Err-clause-marks : goal.returns-in-Err-clause-marks
returns-in-Err-clause-marks g c =
    c.in-Err.ensures.marks ∙ marks-refused c.in-Err.fault c.args.unit _ c.args.self.now.disk _ c.in-Err.ensures.said

pub returns-in-Err-clause-cause : goal.returns-in-Err-clause-cause
returns-in-Err-clause-cause g c = cause-refused c.in-Err.fault c.args.unit _ _ _ c.in-Err.ensures.cause

pub returns-in-Ok-clause-read : goal.returns-in-Ok-clause-read
returns-in-Ok-clause-read g c = λ tells.
    let mid = g.F.Files.state c.flush.new.files in
    let new = g.F.Files.state c.digest_unflushed.new.files in
    let fault = failure_of_digest c.digest_unflushed.result in
    let at = attachment_at (attachments_of c.args.self.now.slots) c.args.unit in
    let same = same-at c.args.self.now.slots c.flush.new.self.slots c.args.unit c.in-Ok.ensures.slots in
    read-behind fault c.args.unit at c.args.self.now.disk c.digest_unflushed.ensures.unwritten c.in-Ok.ensures.said
    (said_of_digest c.digest_unflushed.result) new.files
    (c.digest_unflushed.ensures.said tells ∙ (λ i. digest_flushed fault (same i) (sym c.digest_unflushed.ensures.files i)))

pub returns-in-Ok-clause-pages : goal.returns-in-Ok-clause-pages
returns-in-Ok-clause-pages g c =
    c.digest_unflushed.ensures.files
    ∙ c.in-Ok.ensures.pages
    ∙ sym (same-pages (failure_of_digest c.digest_unflushed.result) c.args.unit _ _ _ _ c.digest_unflushed.ensures.unwritten)

pub returns-in-Ok-clause-files : goal.returns-in-Ok-clause-files
returns-in-Ok-clause-files g c = λ step.
    c.digest_unflushed.ensures.files
    ∙ c.in-Ok.ensures.files step
    ∙ sym (same-files (failure_of_digest c.digest_unflushed.result) c.args.unit _ _ _ c.digest_unflushed.ensures.unwritten)

pub returns-in-Ok-clause-said : goal.returns-in-Ok-clause-said
returns-in-Ok-clause-said g c = λ tells step.
    let old = g.F.Files.state c.args.files.now in
    let new = g.F.Files.state c.digest_unflushed.new.files in
    said-read (failure_of_digest c.digest_unflushed.result) c.args.unit _ c.args.self.now.disk
    (said_of_digest c.digest_unflushed.result) old.files new.files
    (returns-in-Ok-clause-read g c tells) (returns-in-Ok-clause-files g c step)

pub returns-in-Ok-clause-marks : goal.returns-in-Ok-clause-marks
returns-in-Ok-clause-marks g c =
    c.in-Ok.ensures.marks
    ∙ marks-behind (failure_of_digest c.digest_unflushed.result) c.args.unit _ c.args.self.now.disk
    c.digest_unflushed.ensures.unwritten c.in-Ok.ensures.said _
