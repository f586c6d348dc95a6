use Rattle.std.proofs.Common.{◌≡◌, ℕ, suc, ◌+◌, List, take, drop, slice_get, option_map, Some, sym, subst, ap, ◌∙◌, arith}
use Rattle.event_queue.specs.EventList.{Event}
use Rattle.event_queue.proofs.Cancels.{front-taken, front-left, behind-taken}
use Rattle.event_queue.proofs.Numbers.{few}
use Rattle.event_queue.proofs.events.Events.cancel_at.Goals as goal

pub overflow_add-result : goal.overflow_add-result
overflow_add-result c = omega (arith, few c.args.self.now c.sound.ensures)

pub returns-then-is_of_kind-clause-front : goal.returns-then-is_of_kind-clause-front
returns-then-is_of_kind-clause-front c =
    let es = c.args.self.now in
    let unit = subst (λ (xs : List Event). option_map (λ e. e.unit) (slice_get xs c.args.at) ≡ Some c.unit_at.result) c.self.view_is c.unit_at.ensures in
    ap (λ (xs : List Event). take c.args.at xs) c.take_out.ensures.rest
    ∙ front-taken c.args.kind c.unit_at.result c.args.at es unit (sym c.is_of_kind.ensures ∙ c.if-is_of_kind.true)

pub returns-then-is_of_kind-clause-behind : goal.returns-then-is_of_kind-clause-behind
returns-then-is_of_kind-clause-behind c =
    let next : suc c.args.at ≡ c.args.at + 1 = omega arith in
    ap (λ (xs : List Event). drop c.args.at xs) c.take_out.ensures.rest ∙ behind-taken c.args.at c.args.self.now
    ∙ ap (λ (n : ℕ). drop n c.args.self.now) next

pub returns-else-is_of_kind-clause-front : goal.returns-else-is_of_kind-clause-front
returns-else-is_of_kind-clause-front c =
    let es = c.args.self.now in
    let next : c.args.at + 1 ≡ suc c.args.at = omega arith in
    let unit = subst (λ (xs : List Event). option_map (λ e. e.unit) (slice_get xs c.args.at) ≡ Some c.unit_at.result) c.self.view_is c.unit_at.ensures in
    ap (λ (n : ℕ). take n es) next
    ∙ front-left c.args.kind c.unit_at.result c.args.at es unit (sym c.is_of_kind.ensures ∙ c.if-is_of_kind.false)
