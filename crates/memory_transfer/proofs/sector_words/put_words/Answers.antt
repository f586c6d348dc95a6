use Rattle.memory_transfer.proofs.Moving.{put-all}
use Rattle.memory_transfer.proofs.sector_words.put_words.Goals as goal

pub returns : goal.returns
returns c =
    put-all c.loop-n.n c.args.address c.args.bytes.now c.loop-n.memory c.args.memory.now c.loop-n-test.false c.loop-n.auto.n-end c.loop-n.invariant
