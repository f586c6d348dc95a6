use Rattle.std.proofs.Common.{Option, Some, None, Err, IsTrue, sym, ap, subst, ◌∙◌, true≢false}
use Rattle.std.specs.Prelude.{is_some}
use Rattle.unit_trait.specs.declared.kind.UnitName.{UnitName}
use Rattle.unit_files.specs.declared.faults.DetachFault.{DetachFault}
use Rattle.unit_files.specs.declared.faults.DetachFault.TheVariants as detach
use Rattle.unit_files.specs.Attachments.{Attachment, attachment_at, attachments_of}
use Rattle.unit_files.specs.Buffer.{Buffer}
use Rattle.unit_files.specs.Digests.{digest_flushed, MayDigest}
use Rattle.unit_files.specs.Answers.{failure_in}
use Rattle.saved_files.proofs.unit_digest.digest_unit.Goals as goal

pub returns-in-Ok-clause-told : goal.returns-in-Ok-clause-told
returns-in-Ok-clause-told g c = λ t a is.
    c.in-Ok.ensures.said t
    ∙ ap (λ (x : Option Attachment). digest_flushed None x (g.F.Files.state c.args.files.now).files) is

pub returns-in-Err-Failed-clause-told : goal.returns-in-Err-Failed-clause-told
returns-in-Err-Failed-clause-told g c = λ t a is.
    (rw c.in-Err-Failed.field-0-is at c.in-Err-Failed.ensures.said) t
    ∙ ap (λ (x : Option Attachment). digest_flushed (Some (failure_in c.in-Err-Failed.fault)) x (g.F.Files.state c.args.files.now).files) is

nothing-there : (unit : UnitName) (o : Option Attachment) (disk : Buffer) → IsTrue (is_some o)
    → MayDigest (Err detach.NotAttached) unit o disk → ⊥
nothing-there unit None disk there may = true≢false (sym there)
nothing-there unit (Some a) disk there may = may

pub unreachable-requires : goal.unreachable-requires
unreachable-requires g c =
    let there = attachment_at (attachments_of c.args.attached.now.slots) c.args.unit in
    nothing-there c.args.unit there c.args.attached.now.disk c.requires.there
    (subst (λ (f : DetachFault). MayDigest (Err f) c.args.unit there c.args.attached.now.disk)
    c.in-Err-NotAttached.field-0-is (c.in-Err-NotAttached.ensures.may c.args.attached.now.disk))
