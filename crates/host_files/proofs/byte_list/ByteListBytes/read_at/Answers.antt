use Rattle.std.proofs.Common.{◌≡◌, ◌≤◌, ◌-◌, length, min, take, drop, rules}
use Rattle.file_traits.specs.OneList.{longest_list}
use Rattle.file_traits.proofs.Shown.{shown_all}
use Rattle.host_files.proofs.byte_list.ByteListBytes.read_at.Goals as goal

pub returns-clause-reads : goal.returns-clause-reads
returns-clause-reads c =
    let bytes = c.args.self.now.bytes in
    let fits : length bytes ≤ longest_list = search rules in
    let count : c.read_from.result ≡ min (length c.read_from.new.buf) (length bytes - c.args.place) = search rules in
    let same : take c.read_from.result c.read_from.new.buf ≡ take c.read_from.result (drop c.args.place bytes) = search rules in
    rw (shown_all bytes fits) (count, same)
