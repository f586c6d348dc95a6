-- How many registers the units of a kind have.
use Rattle.std.proofs.Common.{◌<◌, ◌^◌, arith}
use Rattle.unit_trait.specs.declared.kind.Kind.{Kind}
use Rattle.unit_trait.specs.declared.kind.Kind.TheVariants.{Dsk, Mta, Lpt, Ptr, Ptp, Clk, Tti, Tto, Tti1, Tto1, Qty}
use Rattle.unit_trait.proofs.LineRegisters.{registers-many}
use Rattle.saved_session.specs.Ranges.{register_count}

pub few_registers : (kind : Kind) → register_count kind < 2 ^ 8
unfolding register_count
few_registers Dsk = omega arith
few_registers Mta = omega arith
few_registers Lpt = omega arith
few_registers Ptr = omega arith
few_registers Ptp = omega arith
few_registers Clk = omega arith
few_registers Tti = omega arith
few_registers Tto = omega arith
few_registers Tti1 = omega arith
few_registers Tto1 = omega arith
few_registers Qty = omega (arith, registers-many)
