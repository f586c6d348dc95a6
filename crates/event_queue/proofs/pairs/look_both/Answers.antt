use Rattle.std.proofs.Common.{◌≡◌, ◌<◌, IfSome, Some, slice_get, ap, ◌∙◌, rules}
use Rattle.event_queue.specs.Deltas.{events_of}
use Rattle.event_queue.proofs.RemainingTimes.{set-both}
use Rattle.event_queue.proofs.pairs.look_both.Goals as goal

pub returns-clause-looked : goal.returns-clause-looked
returns-clause-looked c = λ yes.
    let ds = c.args.deltas.now in
    let period = c.args.period in
    let x = c.in-Some-Some.first in
    let y = c.in-Some-Some.second in
    let first : slice_get ds 0 ≡ Some x = search rules in
    let second : slice_get ds 1 ≡ Some y = search rules in
    let now : x.after ≡ 0 = search rules in
    let too : y.after ≡ 0 = search rules in
    let later : IfSome (slice_get ds 2) (λ d. period < d.after) = search rules in
    ap events_of c.bring_nearer.ensures ∙ set-both period x y ds first second now too later c.requires
