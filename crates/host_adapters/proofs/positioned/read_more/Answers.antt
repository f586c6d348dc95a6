use Rattle.std.proofs.Common.{◌≡◌, ◌+◌, rules}
use Rattle.host_adapters.proofs.Pieces.{read-on}
use Rattle.host_adapters.proofs.positioned.read_more.Goals as goal

pub returns-in-Some-clause-reads : goal.returns-in-Some-clause-reads
returns-in-Some-clause-reads g c = λ tells so_far.
    let bytes = g.F.Placed.bytes c.args.file.now in
    let at : c.in-Some.at ≡ c.args.place + c.args.count = search rules in
    let gives = c.read_retrying.ensures.gives tells in
    read-on c.read_retrying.result bytes c.args.buf.now c.read_retrying.new.buf _ c.args.place c.in-Some.at c.args.count
    at (search rules) c.read_retrying.ensures.bound gives so_far
