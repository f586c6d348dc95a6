use Rattle.memory_transfer.proofs.Blocks.{placed-all}
use Rattle.memory_transfer.proofs.tape.put_block.Goals as goal

pub returns : goal.returns
returns c =
    placed-all c.loop-n.n c.args.words c.args.address c.args.bytes.now c.loop-n.memory c.args.memory.now c.loop-n-test.false c.loop-n.auto.n-end c.loop-n.invariant
