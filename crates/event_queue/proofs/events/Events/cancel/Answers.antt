use Rattle.std.proofs.Common.{◌≡◌, ℕ, suc, ◌+◌, ◌<◌, ◌≤◌, ◌++◌, List, length, take, drop, ap, ◌∙◌, arith}
use Rattle.event_queue.specs.EventList.{Event, cancelled, due}
use Rattle.event_queue.proofs.Cancels.{all-cancelled, cancelled-more, one-behind, some-left}
use Rattle.event_queue.proofs.SoundLists.{due-cancelled}
use Rattle.event_queue.proofs.events.Events.cancel.Goals as goal

pub cancel_at-at-requires : goal.cancel_at-at-requires
cancel_at-at-requires c =
    let before : c.loop-k._k < length c.args.self.now = omega arith in
    some-left c.loop-k.at c.loop-k._k c.loop-k.self c.args.self.now c.loop-k.invariant.1 before

pub loop-k-preserved : goal.loop-k-preserved
loop-k-preserved c =
    let kind = c.args.kind in
    let es = c.args.self.now in
    let left = c.loop-k.self in
    let k = c.loop-k._k in
    let next : suc k ≡ k + 1 = omega arith in (
      c.cancel_at-at.ensures.front
          ∙ ap (λ (xs : List Event). xs ++ cancelled kind (take 1 (drop c.loop-k.at left))) c.loop-k.invariant.0
          ∙ ap (λ (xs : List Event). cancelled kind (take k es) ++ cancelled kind (take 1 xs)) c.loop-k.invariant.1
          ∙ cancelled-more kind k es ∙ ap (λ (n : ℕ). cancelled kind (take n es)) next,
      c.cancel_at-at.ensures.behind ∙ one-behind c.loop-k.at k left es c.loop-k.invariant.1,
    )

pub returns-clause-cancelled : goal.returns-clause-cancelled
returns-clause-cancelled c =
    let past : length c.args.self.now ≤ c.loop-k._k = omega arith in
    all-cancelled c.args.kind c.loop-k.at c.loop-k._k c.args.self.now c.loop-k.self past c.loop-k.invariant.0 c.loop-k.invariant.1

pub returns-clause-later : goal.returns-clause-later
returns-clause-later c = λ none.
    let past : length c.args.self.now ≤ c.loop-k._k = omega arith in
    ap due (all-cancelled c.args.kind c.loop-k.at c.loop-k._k c.args.self.now c.loop-k.self past c.loop-k.invariant.0 c.loop-k.invariant.1)
    ∙ due-cancelled c.args.kind c.args.self.now c.sound.ensures none
