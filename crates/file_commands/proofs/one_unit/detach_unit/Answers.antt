use Rattle.file_commands.proofs.OwnFiles.{unnoted, kept-from, detach-ids}
use Rattle.file_commands.proofs.one_unit.detach_unit.Goals as goal

pub returns-in_default-clause-whose : goal.returns-in_default-clause-whose
returns-in_default-clause-whose g c =
    let old = g.F.Files.state c.args.files.now in
    let new = g.F.Files.state c.detach.new.files in
    let slots = c.args.attached.now.slots in
    unnoted slots c.detach.new.self.slots c.args.notes.now.items old new (kept-from slots c.detach.new.self.slots old new c.detach.ensures.kept)
    (detach-ids c.detach.result c.args.unit slots old new c.detach.ensures.cause)
