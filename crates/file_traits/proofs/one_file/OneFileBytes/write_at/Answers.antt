use Rattle.std.specs.Prelude.{take, Some}
use Rattle.std.proofs.Common.{ap}
use Rattle.file_traits.specs.Lists.{overwritten}
use Rattle.file_traits.specs.State.{FileState}
use Rattle.file_traits.specs.FileCalls.{written_count}
use Rattle.file_traits.proofs.ThroughOne.{changed_content, masked_same}
use Rattle.file_traits.proofs.one_file.OneFileBytes.write_at.Goals as goal

pub returns-clause-content : goal.returns-clause-content
returns-clause-content g c = λ tells.
    let file = c.args.self.now.file.0 in
    changed_content (g.F.Files.state c.args.self.now.files.now) (g.F.Files.state c.write_at.new.self) file (λ old. overwritten old c.args.place (take (written_count c.write_at.result c.args.bytes.now) c.args.bytes.now))
    (g.met.F.Files.named tells c.args.self.now.files.now file c.args.self.now.is_open) c.write_at.ensures.files c.write_at.ensures.opened

pub returns-clause-behind : goal.returns-clause-behind
returns-clause-behind g c =
    let file = c.args.self.now.file.0 in
    let counted = c.write_at.ensures.counted in
    ap (λ (s : FileState). record { lender = Some c.args.self.now.files.ghost_name; file = file; state = s })
    (masked_same (g.F.Files.state c.args.self.now.files.now) (g.F.Files.state c.write_at.new.self) file (λ old. overwritten old c.args.place (take (written_count c.write_at.result c.args.bytes.now) c.args.bytes.now))
    c.write_at.ensures.files c.write_at.ensures.opened counted.ids counted.openings counted.others)
