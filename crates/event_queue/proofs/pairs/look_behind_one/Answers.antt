use Rattle.std.proofs.Common.{◌≡◌, ◌<◌, ◌≤◌, ◌-◌, IfSome, Some, slice_get, ap, ◌∙◌, rules}
use Rattle.event_queue.specs.Deltas.{events_of}
use Rattle.event_queue.proofs.RemainingTimes.{set-behind}
use Rattle.event_queue.proofs.pairs.look_behind_one.Goals as goal

pub returns-clause-looked : goal.returns-clause-looked
returns-clause-looked c = λ yes.
    let ds = c.args.deltas.now in
    let period = c.args.period in
    let x = c.in-Some-Some-Some.first in
    let y = c.in-Some-Some-Some.second in
    let z = c.in-Some-Some-Some.third in
    let first : slice_get ds 0 ≡ Some x = search rules in
    let second : slice_get ds 1 ≡ Some y = search rules in
    let third : slice_get ds 2 ≡ Some z = search rules in
    let now : x.after ≡ 0 = search rules in
    let too : y.after ≡ 0 = search rules in
    let some : 0 < z.after = search rules in
    let early : z.after ≤ period = search rules in
    let later : IfSome (slice_get ds 3) (λ d. period - z.after < d.after) = search rules in
    ap events_of c.bring_nearer.ensures ∙ set-behind period x y z ds first second third now too some early later c.requires
