use Rattle.std.proofs.Common.{◌≡◌, ◌<◌, ◌∙◌, sym, ℕ, Option, IfSome, Some, option_map, slice_get, ap, subst, rules}
use Rattle.unit_trait.specs.declared.kind.UnitName.{UnitName}
use Rattle.event_queue.specs.EventList.{dues}
use Rattle.nova_machine.specs.Machine.{MachineState}
use Rattle.nova_machine.specs.Looks.{keyboard}
use Rattle.nova_machine.specs.LineLooks.{second_keyboard}
use Rattle.nova_machine.proofs.LineLooks.{timed, due_at, both-due}
use Rattle.nova_machine.proofs.machine.Machine.are_both_due.Goals as goal

pub returns : goal.returns
returns g c = λ is.
    let es = c.self.inside.events in
    let first : option_map timed (slice_get es 0) ≡ Some (due_at keyboard) = sym c.in_order.ensures.entry ∙ c.is_due.ensures (search rules) in
    let second : option_map timed (slice_get es 1) ≡ Some (due_at second_keyboard) = sym c.in_order-2.ensures.entry ∙ c.is_due-2.ensures (search rules) in
    let later : IfSome (option_map timed (slice_get es 2)) (λ (e : UnitName × ℕ). 0 < e.1) =
    subst (λ (o : Option (UnitName × ℕ)). IfSome o (λ (e : UnitName × ℕ). 0 < e.1)) c.in_order-3.ensures.entry (c.is_later.ensures is) in
    ap (λ (m : MachineState). dues m.events) (sym c.self.view_is) ∙ both-due es first second later
