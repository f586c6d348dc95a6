use Rattle.std.proofs.Common.{rules}
use Rattle.unit_files.proofs.Sectors.{front-copied}
use Rattle.unit_files.proofs.disk_copy.copy_front.Goals as goal

pub returns : goal.returns
returns c =
    let e = front-copied c.args.bytes.now c.args.into.now c.copy_part-count.result c.copy_part-count.ensures.count in
    search (rules, e)
