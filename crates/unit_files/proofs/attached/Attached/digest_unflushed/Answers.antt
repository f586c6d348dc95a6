use Rattle.std.proofs.Common.{◌∙◌}
use Rattle.unit_files.specs.Digests.{failure_of_digest}
use Rattle.unit_files.specs.View.{HoldsFile}
use Rattle.unit_files.proofs.Digests.{flushed-file}
use Rattle.unit_files.proofs.Opened.{file-of}
use Rattle.unit_files.proofs.attached.Attached.digest_unflushed.Goals as goal

pub digest_file-requires : goal.digest_file-requires
digest_file-requires g c =
    let holds : HoldsFile c.args.self.now.slots c.args.unit c.in-Some.file = c.in-Some.ensures.holds in
    (file-of _ _ _ (g.F.Files.state c.args.files.now).opened c.requires holds).is_open

pub returns-in-Some-clause-said : goal.returns-in-Some-clause-said
returns-in-Some-clause-said g c = λ tells.
    let old = g.F.Files.state c.args.files.now in
    let holds : HoldsFile c.args.self.now.slots c.args.unit c.in-Some.file = c.in-Some.ensures.holds in
    let of = file-of _ _ _ old.opened c.requires holds in
    c.digest_file.ensures.said tells
    ∙ flushed-file (failure_of_digest c.digest_file.result) _ holds.held.attachment old.files _ holds.attachment of.name
