use Rattle.std.proofs.Common.{◌<◌, ◌∙◌, sym, rules}
use Rattle.unit_files.specs.Acts.{most_bytes}
use Rattle.unit_files.specs.Answers.{failure_of_byte}
use Rattle.unit_files.specs.View.{HoldsFile}
use Rattle.unit_files.proofs.Opened.{file-of, read-at-file}
use Rattle.unit_files.proofs.attached.Attached.read_byte.Goals as goal

pub read_one-requires : goal.read_one-requires
read_one-requires g c =
    let holds : HoldsFile c.args.self.now.slots c.args.unit c.in-Some.field-0 = c.in-Some.ensures.holds in
    (file-of _ _ _ (g.F.Files.state c.args.files.now).opened c.requires.«open» holds).is_open

pub returns-in-Some-2-clause-said : goal.returns-in-Some-2-clause-said
unfolding most_bytes
returns-in-Some-2-clause-said g c = λ tells.
    let holds : HoldsFile c.args.self.now.slots c.args.unit c.in-Some.field-0 = c.in-Some.ensures.holds in
    let of = file-of _ _ _ (g.F.Files.state c.args.files.now).opened c.requires.«open» holds in
    let within : c.args.place < most_bytes = search rules in
    c.read_one.ensures.said tells
    ∙ sym (read-at-file (failure_of_byte c.read_one.result) _ holds.held.attachment c.args.place _ _
    holds.attachment of.name within)
