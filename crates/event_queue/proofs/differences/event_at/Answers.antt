use Rattle.std.proofs.Common.{◌≡◌, ℕ, suc, ◌+◌, ◌≤◌, length, Some, slice_get, slice_index_or, sym, ap, ◌∙◌, arith}
use Rattle.unit_trait.specs.declared.kind.Kind.TheVariants.{Dsk}
use Rattle.event_queue.specs.declared.delta.Delta.{Delta}
use Rattle.event_queue.specs.EventList.{event}
use Rattle.event_queue.specs.Deltas.{events_of, delta}
use Rattle.event_queue.proofs.RemainingTimes.{passed, passed-none, passed-more, passed-short, behind-get, behind-length, none-behind, there}
use Rattle.event_queue.proofs.differences.event_at.Goals as goal

no-entry : Delta
no-entry = delta (record { kind = Dsk; unit = 0 }) 0

pub loop-at-init : goal.loop-at-init
loop-at-init c = (omega arith, sym (passed-none 0 c.args.deltas.now))

pub overflow_add-remaining : goal.overflow_add-remaining
unfolding no-entry
overflow_add-remaining c =
    let ds = c.args.deltas.now in
    let short = passed-short 0 c.loop-at.at ds (slice_index_or ds c.loop-at.at no-entry) (there c.loop-at.at ds no-entry c.loop-at-test.true) c.requires in
    let is = c.loop-at.invariant.1 in
    omega (arith, short, is)

pub returns-then-at-k : goal.returns-then-at-k
unfolding no-entry
returns-then-at-k c =
    let ds = c.args.deltas.now in
    let d = slice_index_or ds c.loop-at.at no-entry in
    ap (λ (n : ℕ). Some (event d.unit (n + d.after))) c.loop-at.invariant.1
    ∙ sym (behind-get 0 c.loop-at.at ds d (there c.loop-at.at ds no-entry c.loop-at-test.true))
    ∙ ap (λ (n : ℕ). slice_get (events_of ds) n) c.if-at-k.true

pub loop-at-preserved : goal.loop-at-preserved
unfolding no-entry
loop-at-preserved c =
    let ds = c.args.deltas.now in
    let d = slice_index_or ds c.loop-at.at no-entry in
    let early = c.loop-at.invariant.0 in
    let next : suc c.loop-at.at ≡ c.loop-at.at + 1 = omega arith in (
      omega (arith, early),
      ap (λ (n : ℕ). n + d.after) c.loop-at.invariant.1
          ∙ sym (passed-more 0 c.loop-at.at ds d (there c.loop-at.at ds no-entry c.loop-at-test.true))
          ∙ ap (λ (n : ℕ). passed 0 n ds) next,
    )

pub returns : goal.returns
returns c =
    let ds = c.args.deltas.now in
    let early = c.loop-at.invariant.0 in
    let long = behind-length 0 ds in
    let past : length (events_of ds) ≤ c.args.k = omega (arith, early, long, c.loop-at-test.false) in
    sym (none-behind c.args.k (events_of ds) past)
