use Rattle.std.proofs.Common.{ℕ, List, sym, subst}
use Rattle.unit_trait.specs.declared.kind.Kind.TheVariants.{Qty}
use Rattle.unit_trait.specs.Registers.{registers}
use Rattle.unit_trait.specs.Row.{InRange}
use Rattle.state_transfer.proofs.PutBackMachineLemmas.{first_fits}
use Rattle.state_transfer.proofs.putting.put_first.Goals as goal

pub set_unit_regs-requires : goal.set_unit_regs-requires
set_unit_regs-requires g c = subst (λ (vs : List ℕ). InRange (registers Qty) vs) (sym c.first_registers.ensures) first_fits
