use Rattle.std.proofs.Common.{◌≡◌, ◌+◌, ◌-◌, arith, length-drop, drop}
use Rattle.std.proofs.lemmas.List.{drop-drop}
use Rattle.file_traits.proofs.ReadLemmas.{read_takes}
use Rattle.host_files.proofs.byte_source.ByteSourceSource.read.Goals as goal

pub returns-clause-bytes : goal.returns-clause-bytes
returns-clause-bytes c =
    let place = c.self.inside.place in
    let n = c.min-count.result in
    let span : place + n - place ≡ n = omega arith in
    rw (c.copy_from_slice.ensures.after, ← c.self.view_is, c.deref.ensures.value, span, ← drop-drop n place c.self.inside.bytes.items)
    (read_takes (drop place c.self.inside.bytes.items) c.args.buf.now n (omega (arith, length-drop place c.self.inside.bytes.items, c.min-count.ensures, c.self.invariant)))
