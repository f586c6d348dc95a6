use Rattle.std.proofs.Common.{arith}
use Rattle.script_text.proofs.StorageLemmas.{held}
use Rattle.script_text.proofs.arguments.Arguments.len.Goals as goal

pub returns-clause-length : goal.returns-clause-length
returns-clause-length c =
    held c.self.inside.bytes.items c.self.inside.places c.self.inside.count c.args.self.now
    (omega (arith, c.self.invariant.room, c.self.invariant.most)) c.self.view_is
