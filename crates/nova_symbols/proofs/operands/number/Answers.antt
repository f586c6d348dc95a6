use Rattle.std.proofs.Common.{sym, arith}
use Rattle.nova_symbols.proofs.OctalLemmas.{number_fits, number_above}
use Rattle.nova_symbols.proofs.operands.number.Goals as goal

pub returns-then-n-from-clause-number : goal.returns-then-n-from-clause-number
returns-then-n-from-clause-number c =
    sym (number_fits c.args.largest c.args.digits.now c.args.field c.args.own c.in-Ok.n c.in-Ok.ensures.number (omega arith))

pub returns-else-n-from-clause-number : goal.returns-else-n-from-clause-number
returns-else-n-from-clause-number c =
    sym (number_above c.args.largest c.args.digits.now c.args.field c.args.own c.in-Ok.n c.in-Ok.ensures.number (omega arith))
