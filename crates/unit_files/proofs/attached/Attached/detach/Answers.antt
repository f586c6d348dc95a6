use Rattle.std.proofs.Common.{◌≡◌, List, Option, Some, None, Ok, option_map, refl, ap, sym, subst, ◌∙◌, rules, if◌then◌else◌}
use Rattle.file_traits.specs.declared.files.FileCall.{FileCall}
use Rattle.file_traits.specs.declared.files.FileCall.TheVariants.{Write}
use Rattle.file_traits.specs.State.{FileState}
use Rattle.unit_trait.specs.declared.kind.UnitName.{UnitName}
use Rattle.unit_files.specs.declared.faults.UnitFault.{UnitFault}
use Rattle.unit_files.specs.Attachments.{Held, attachments_of, attachment_at}
use Rattle.unit_files.specs.Acts.{same_call, failure_at}
use Rattle.unit_files.specs.Answers.{failure_in}
use Rattle.unit_files.specs.Causes.{DetachCause, OnlyKept}
use Rattle.unit_files.proofs.Digests.{same-files}
use Rattle.unit_files.proofs.Copies.{not-detached}
use Rattle.unit_files.proofs.Attaching.{kept-same}
use Rattle.unit_files.proofs.InStep.{step-released}
use Rattle.unit_files.proofs.attached.Attached.detach.Goals as goal

pub returns-in-Err-clause-attached : goal.returns-in-Err-clause-attached
returns-in-Err-clause-attached g c =
    let kept : attachments_of c.flush.new.self.slots ≡ attachments_of c.args.self.now.slots = search rules in
    kept ∙ not-detached c.in-Err.fault _ c.args.unit (attachments_of c.args.self.now.slots) c.args.self.now.disk
    c.in-Err.ensures.said

pub returns-in-Err-clause-kept : goal.returns-in-Err-clause-kept
returns-in-Err-clause-kept g c = kept-same c.args.self.now.slots c.flush.new.self.slots c.flush.ensures.slots

-- a closing is no write
no-write : (closing : Option UnitFault) (unit : UnitName) (slots : List (Option Held)) (old new : FileState)
    → DetachCause (Ok closing) unit slots old new → failure_at Write (option_map failure_in closing) ≡ None
no-write None unit slots old new cause = refl
no-write (Some f) unit slots old new cause =
    ap (λ (c : FileCall). if same_call c Write then Some (failure_in f) else None) cause.0

pub returns-in-Ok-clause-files : goal.returns-in-Ok-clause-files
returns-in-Ok-clause-files g c = λ step.
    let old = g.F.Files.state c.args.files.now in
    let mid = g.F.Files.state c.flush.new.files in
    let new = g.F.Files.state c.release.new.files in
    let at = attachment_at (attachments_of c.args.self.now.slots) c.args.unit in
    c.release.ensures.files
    ∙ c.in-Ok.ensures.files step
    ∙ sym (same-files (option_map failure_in c.release.result) c.args.unit at c.args.self.now.disk old.files
    (no-write c.release.result c.args.unit c.flush.new.self.slots mid new c.release.ensures.cause))

pub returns-in-Ok-clause-step : goal.returns-in-Ok-clause-step
returns-in-Ok-clause-step g c = λ step.
    let mid = g.F.Files.state c.flush.new.files in
    let new = g.F.Files.state c.release.new.files in
    step-released c.args.unit c.flush.new.self c.release.new.self mid.files new.files c.requires.unit c.release.ensures.attached
    c.release.ensures.disk c.release.ensures.marks c.release.ensures.files (c.in-Ok.ensures.step step)

pub returns-in-Ok-clause-kept : goal.returns-in-Ok-clause-kept
returns-in-Ok-clause-kept g c =
    subst (λ (l : List (Option Held)). OnlyKept l c.release.new.self.slots) c.flush.ensures.slots c.release.ensures.kept
