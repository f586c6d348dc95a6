use Rattle.std.proofs.Common.{arith, refl, length-take, drop, ◌-◌}
use Rattle.file_traits.specs.State.{content}
use Rattle.file_traits.specs.OneList.{longest_list, shown}
use Rattle.file_traits.proofs.Shown.{reads_within, reads_up_to}
use Rattle.file_traits.proofs.one_file.OneFileBytes.read_at.Goals as goal

pub returns-then-place-ge-LONGEST-clause-reads : goal.returns-then-place-ge-LONGEST-clause-reads
unfolding shown
returns-then-place-ge-LONGEST-clause-reads g c = λ tells. (omega (arith, length-take longest_list (content (g.F.Files.state c.args.self.now.files.now) c.args.self.now.file.0)), refl)

pub returns-then-buf-most-clause-reads : goal.returns-then-buf-most-clause-reads
unfolding shown
returns-then-buf-most-clause-reads g c = λ tells.
    reads_within (content (g.F.Files.state c.args.self.now.files.now) c.args.self.now.file.0) c.read_at.new.buf c.args.place longest_list c.read_at.result (omega arith) (c.read_at.ensures.reads tells)

pub returns-else-buf-most-clause-reads : goal.returns-else-buf-most-clause-reads
unfolding shown
returns-else-buf-most-clause-reads g c = λ tells.
    reads_up_to (content (g.F.Files.state c.args.self.now.files.now) c.args.self.now.file.0) c.read_at-else-buf-most.new.buf (drop (longest_list - c.args.place) c.args.buf.now) c.args.place longest_list
    c.read_at-else-buf-most.result (omega (arith, length-take (longest_list - c.args.place) c.args.buf.now)) (c.read_at-else-buf-most.ensures.reads tells)
