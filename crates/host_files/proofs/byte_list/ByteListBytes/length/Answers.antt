use Rattle.std.proofs.Common.{◌≡◌, ◌≤◌, length, rules}
use Rattle.file_traits.specs.OneList.{longest_list}
use Rattle.file_traits.proofs.Shown.{shown_all}
use Rattle.host_files.proofs.byte_list.ByteListBytes.length.Goals as goal

pub returns-clause-length : goal.returns-clause-length
returns-clause-length c =
    let fits : length c.args.self.now.bytes ≤ longest_list = search rules in
    let long : c.len.result ≡ length c.args.self.now.bytes = search rules in
    rw (shown_all c.args.self.now.bytes fits) long
