use Rattle.std.proofs.Common.{◌<◌, ◌∙◌, sym, rules}
use Rattle.unit_files.specs.Acts.{most_bytes}
use Rattle.unit_files.specs.Answers.{failure_of_byte}
use Rattle.unit_files.specs.View.{HoldsFile}
use Rattle.unit_files.proofs.Opened.{file-of, written-at-file}
use Rattle.unit_files.proofs.attached.Attached.write_byte.Goals as goal

pub write_one-requires-clause-open : goal.write_one-requires-clause-open
write_one-requires-clause-open g c =
    let holds : HoldsFile c.args.self.now.slots c.args.unit c.in-Some.field-0 = c.in-Some.ensures.holds in
    (file-of _ _ _ (g.F.Files.state c.args.files.now).opened c.requires.«open» holds).is_open

pub write_one-requires-clause-writable : goal.write_one-requires-clause-writable
write_one-requires-clause-writable g c =
    let holds : HoldsFile c.args.self.now.slots c.args.unit c.in-Some.field-0 = c.in-Some.ensures.holds in
    (file-of _ _ _ (g.F.Files.state c.args.files.now).opened c.requires.«open» holds).writable
    c.in-Some.ensures.writable

pub returns-in-Some-2-clause-files : goal.returns-in-Some-2-clause-files
unfolding most_bytes
returns-in-Some-2-clause-files g c =
    let holds : HoldsFile c.args.self.now.slots c.args.unit c.in-Some.field-0 = c.in-Some.ensures.holds in
    let of = file-of _ _ _ (g.F.Files.state c.args.files.now).opened c.requires.«open» holds in
    let within : c.args.place < most_bytes = search rules in
    c.write_one.ensures.files
    ∙ sym (written-at-file (failure_of_byte c.write_one.result) _ holds.held.attachment c.args.place _ _ _
    holds.attachment of.name within)
