use Rattle.std.proofs.Common.{◌<◌, ◌*◌, length, rules}
use Rattle.file_traits.proofs.Writes.{written}
use Rattle.unit_files.specs.Buffer.{sector_bytes, with_sector}
use Rattle.unit_files.proofs.disk_copy.write_into.Goals as goal

pub returns-clause-bytes : goal.returns-clause-bytes
unfolding sector_bytes with_sector
returns-clause-bytes c =
    let some : 0 < length c.args.from.now = search rules in
    let e = written c.args.bytes.now.items c.args.from.now (c.args.sector * 512) some in
    search (rules, e)
