use Rattle.std.proofs.Common.{◌≡◌, ℕ, List, Some, slice_get, sym, subst, rules}
use Rattle.event_queue.specs.EventList.{Event}
use Rattle.event_queue.specs.Idle.{AreOthersLater}
use Rattle.event_queue.proofs.Looks.{later-some}
use Rattle.event_queue.proofs.events.Events.others_later.Goals as goal

pub returns-in-Some : goal.returns-in-Some
returns-in-Some c =
    let items = c.self.inside.deltas in
    let found : slice_get items 1 ≡ Some c.in-Some.entry = search rules in
    let is : c.entry.inside.remaining ≡ c.in-Some.entry.remaining = search rules in
    subst (λ (es : List Event). AreOthersLater c.entry.inside.remaining es) c.self.view_is
    (subst (λ (n : ℕ). AreOthersLater n items) (sym is) (later-some c.in-Some.entry items c.sound.ensures found))
