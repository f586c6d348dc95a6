-- The kinds of a machine's units stand behind a list that is filled.
use Rattle.std.proofs.Common.{◌≡◌, ◌∙◌, ap, ℕ, Result, Ok, Err}
use Rattle.unit_list.specs.Bus.{kinds_of}
use Rattle.nova_machine.specs.Machine.{MachineState}
use Rattle.operand_forms.specs.declared.listing.Listing.{Listing}
use Rattle.scp_examine.specs.declared.fault.ExamineFault.{ExamineFault}
use Rattle.scp_examine.specs.Shape.{Shape, shape_of}
use Rattle.scp_examine.specs.Effect.{all_places, deposited}
use Rattle.scp_examine.proofs.KeepLemmas.{filled-shape}
use Rattle.plain_commands.proofs.ListLemmas.{Deposits}

-- where a value was put into a list
deposited-kinds : (m : MachineState) (l : Listing) (v : ℕ) → kinds_of (deposited m l v).units ≡ kinds_of m.units
unfolding deposited
deposited-kinds m l v = ap (λ (s : Shape). s.kinds) (filled-shape v m (all_places (shape_of m) l.device l.items))

pub deposit-kinds : {T : Type 0} (m new : MachineState) (l : Listing) (v : ℕ) (r : Result T ExamineFault) → Deposits m l v r new → kinds_of new.units ≡ kinds_of m.units
deposit-kinds m new l v (Ok x) done = ap (λ (x : MachineState). kinds_of x.units) done.1 ∙ deposited-kinds m l v
deposit-kinds m new l v (Err fault) done = ap (λ (x : MachineState). kinds_of x.units) done.1
