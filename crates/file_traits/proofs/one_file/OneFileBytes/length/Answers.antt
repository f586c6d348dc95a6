use Rattle.std.proofs.Common.{arith, length-take}
use Rattle.file_traits.specs.State.{content}
use Rattle.file_traits.specs.OneList.{longest_list, shown}
use Rattle.file_traits.proofs.one_file.OneFileBytes.length.Goals as goal

pub returns-clause-length : goal.returns-clause-length
unfolding shown
returns-clause-length g c = λ tells. omega (arith, c.in_ok-length.ensures.length tells, length-take longest_list (content (g.F.Files.state c.args.self.now.files.now) c.args.self.now.file.0))
