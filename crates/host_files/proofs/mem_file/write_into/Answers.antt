use Rattle.std.proofs.Common.{◌<◌, length, rules}
use Rattle.file_traits.proofs.Writes.{written}
use Rattle.host_files.proofs.mem_file.write_into.Goals as goal

pub returns-then-not-is_empty-clause-bytes : goal.returns-then-not-is_empty-clause-bytes
returns-then-not-is_empty-clause-bytes c =
    let some : 0 < length c.args.piece.now = search rules in
    let e = written c.args.bytes.now.items c.args.piece.now c.args.place some in
    search (rules, e)
