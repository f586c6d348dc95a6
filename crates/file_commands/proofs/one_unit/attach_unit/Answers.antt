use Rattle.file_commands.proofs.OwnFiles.{unnoted}
use Rattle.file_commands.proofs.one_unit.attach_unit.Goals as goal

pub returns-in_default-clause-whose : goal.returns-in_default-clause-whose
returns-in_default-clause-whose g c =
    unnoted c.args.attached.now.slots c.attach-result.new.self.slots c.args.notes.now.items (g.F.Files.state c.args.files.now)
    (g.F.Files.state c.attach-result.new.files) c.attach-result.ensures.from c.attach-result.ensures.counts.ids
