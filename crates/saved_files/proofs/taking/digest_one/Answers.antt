use Rattle.std.proofs.Common.{sym, ap, ◌∙◌}
use Rattle.file_traits.specs.Lists.{bytes_of}
use Rattle.unit_trait.specs.declared.kind.UnitName.{UnitName}
use Rattle.unit_files.specs.Attachments.{attachments_of, attachment_at}
use Rattle.unit_files.specs.Digests.{DigestSaid}
use Rattle.saved_session.specs.Parts.{file_in}
use Rattle.saved_files.specs.Putting.{attachment_of}
use Rattle.saved_files.specs.Taking.{undigested}
use Rattle.saved_files.proofs.TakingLaws.{digested-so}
use Rattle.saved_files.proofs.taking.digest_one.Goals as goal

pub returns-in-Ok-clause-told : goal.returns-in-Ok-clause-told
returns-in-Ok-clause-told g c = λ t.
    let f = file_in c.args.file.now in
    let there = ap (λ (u : UnitName). attachment_at (attachments_of c.args.attached.now.slots) u) c.unit_of.ensures
    ∙ c.requires.can.there in
    let found = digested-so c.in-Ok.found (bytes_of (g.F.Files.state c.args.files.now).files f.name)
    (c.in-Ok.ensures.told t (attachment_of f) there) in
    λ i. record {
      position = f.position;
      unit = f.unit;
      read_only = f.read_only;
      name = f.name;
      size = found.0 i;
      digest = found.1 i;
    }

pub returns-in-Err-clause-told : goal.returns-in-Err-clause-told
returns-in-Err-clause-told g c = λ t.
    let f = file_in c.args.file.now in
    let there = ap (λ (u : UnitName). attachment_at (attachments_of c.args.attached.now.slots) u) c.unit_of.ensures
    ∙ c.requires.can.there in
    ap (λ (s : DigestSaid). undigested s) (sym (c.in-Err.ensures.told t (attachment_of f) there))
