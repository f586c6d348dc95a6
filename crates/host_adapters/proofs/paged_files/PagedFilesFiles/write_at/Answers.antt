use Rattle.std.proofs.Common.{◌+◌, ◌≤◌, ◌<◌, length, drop, take, arith}
use Rattle.file_traits.specs.FileCalls.{written_count}
use Rattle.host_adapters.proofs.Pages.{read-stays-or-none, written-part}
use Rattle.host_adapters.proofs.paged_files.PagedFilesFiles.write_at.Goals as goal

-- the page has only what stands behind the piece
pub invariant_of-self-clause-read : goal.invariant_of-self-clause-read
invariant_of-self-clause-read g c tells =
    let kept = c.keep_behind.new.self in
    let bytes = c.args.bytes.now in
    let piece = take (written_count c.write_at.result bytes) bytes in
    let part = written-part c.write_at.result bytes in
    let behind : 0 < kept.count → c.args.place + length piece ≤ kept.place =
    λ some. let past = c.keep_behind.ensures.behind some in omega (arith, past, part) in
    read-stays-or-none (g.F.Files.state kept.files) (g.F.Files.state c.write_at.new.self) c.args.file.0 kept.file.0
    c.args.place kept.place kept.count piece (drop kept.start kept.page.items) c.write_at.ensures.files
    c.write_at.ensures.opened behind (kept.read tells)
