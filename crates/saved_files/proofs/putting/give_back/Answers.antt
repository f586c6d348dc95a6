use Rattle.std.proofs.Common.{◌∙◌, rules}
use Rattle.unit_files.specs.Attachments.{attachment_at, attachments_of}
use Rattle.unit_files.specs.Answers.{failure_of_detach}
use Rattle.saved_files.proofs.Digesting.{none-flushed}
use Rattle.saved_files.proofs.ClosingOnce.{detach-closed, none-there}
use Rattle.saved_files.proofs.putting.give_back.Goals as goal

pub returns-clause-files : goal.returns-clause-files
returns-clause-files g c =
    c.detach-closing.ensures.pages
    ∙ none-flushed (failure_of_detach c.detach-closing.result) c.args.unit
    (attachment_at (attachments_of c.args.attached.now.slots) c.args.unit) c.args.attached.now.disk c.args.attached.now.aside
    (g.F.Files.state c.args.files.now).files c.requires.clean

pub returns-clause-attached : goal.returns-clause-attached
returns-clause-attached g c = search rules

pub returns-clause-once : goal.returns-clause-once
returns-clause-once g c =
    let new = c.detach-closing.new.self.slots in
    detach-closed c.detach-closing.result c.args.unit c.args.attached.now.slots new (g.F.Files.state c.args.files.now)
    (g.F.Files.state c.detach-closing.new.files) c.detach-closing.ensures.cause c.file_of.ensures.own
    c.detach-closing.ensures.kept
    (none-there new (attachments_of c.args.attached.now.slots) c.args.unit (returns-clause-attached g c))
