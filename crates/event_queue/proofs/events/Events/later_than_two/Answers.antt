use Rattle.std.proofs.Common.{◌≡◌, ℕ, List, Some, slice_get, sym, subst, rules}
use Rattle.event_queue.specs.EventList.{Event}
use Rattle.event_queue.specs.Idle.{AreLaterThanTwo}
use Rattle.event_queue.proofs.Looks.{third-some}
use Rattle.event_queue.proofs.events.Events.later_than_two.Goals as goal

pub returns-in-Some : goal.returns-in-Some
returns-in-Some c =
    let items = c.self.inside.deltas in
    let found : slice_get items 2 ≡ Some c.in-Some.entry = search rules in
    let is : c.entry.inside.remaining ≡ c.in-Some.entry.remaining = search rules in
    subst (λ (es : List Event). AreLaterThanTwo c.entry.inside.remaining es) c.self.view_is
    (subst (λ (n : ℕ). AreLaterThanTwo n items) (sym is) (third-some c.in-Some.entry items c.sound.ensures found))
