use Rattle.std.proofs.Common.{◌≡◌, ℕ, ◌+◌, ◌<◌, ◌++◌, length, take, drop, None, Some, refl, ap, sym, ◌∙◌, subst, append_assoc, append-nil, rules}
use Rattle.std.proofs.lemmas.Result.{err_from_is_err_and}
use Rattle.file_traits.specs.Streams.{AddsPart}
use Rattle.unit_trait.specs.declared.kind.UnitName.{UnitName}
use Rattle.event_queue.specs.EventList.{event}
use Rattle.plain_commands.specs.ShowEffects.{event_line, queue_text}
use Rattle.plain_commands.proofs.QueueLemmas.{queue-none, entry_at, queue-more, queue-rest, no-end}
use Rattle.scp_examine.proofs.ShowLemmas.{part_behind as part-behind}
use Rattle.plain_commands.proofs.show_command.put_queue.Goals as goal

pub loop-k-init : goal.loop-k-init
loop-k-init g c = record {
  written = λ told. let before = g.S.Sink.written c.args.out.now in sym (ap (λ t. before ++ t) queue-none ∙ append-nil before);
  quiet = refl;
}

pub loop-k-preserved : goal.loop-k-preserved
loop-k-preserved g c =
    let before = g.S.Sink.written c.args.out.now in
    let x : UnitName × ℕ = (c.in-Some.unit, c.in-Some.remaining) in
    let is : Some x ≡ entry_at c.args.events.now c.loop-k.k = search rules in
    let low : c.loop-k.k < length c.args.events.now = search rules in
    record {
      written = λ told.
          c.in_ok-put_event-in-Some.ensures.told told ∙ ap (λ t. t ++ event_line (event x.0 x.1)) (c.loop-k.invariant.written told)
          ∙ append_assoc before (queue_text (take c.loop-k.k c.args.events.now)) (event_line (event x.0 x.1))
          ∙ ap (λ t. before ++ t) (sym (queue-more c.args.events.now c.loop-k.k x low is));
      quiet = c.in_ok-put_event-in-Some.ensures.counts ∙ c.loop-k.invariant.quiet;
    }

pub returns-in_err-put_event-in-Some-clause-told : goal.returns-in_err-put_event-in-Some-clause-told
returns-in_err-put_event-in-Some-clause-told g c = λ told.
    let p = err_from_is_err_and c.from_residual.result c.from_residual.ensures.1 in
    let before = g.S.Sink.written c.args.out.now in
    let after = g.S.Sink.written c.put_event.new.out in
    let x : UnitName × ℕ = (c.in-Some.unit, c.in-Some.remaining) in
    let is : Some x ≡ entry_at c.args.events.now c.loop-k.k = search rules in
    let low : c.loop-k.k < length c.args.events.now = search rules in
    rw p.1 (
    subst (λ t. AddsPart before t after) (sym (queue-rest c.args.events.now c.loop-k.k x low is))
    (part-behind before (queue_text (take c.loop-k.k c.args.events.now)) (event_line (event x.0 x.1)) (queue_text (drop (c.loop-k.k + 1) c.args.events.now))
    (g.S.Sink.written c.loop-k.out) after (c.loop-k.invariant.written told) (c.in_err-put_event-in-Some.ensures.told told))
    )

pub returns-in-None-clause-told : goal.returns-in-None-clause-told
returns-in-None-clause-told g c = λ told.
    let none : None ≡ entry_at c.args.events.now c.loop-k.k = search rules in
    let low : c.loop-k.k < length c.args.events.now = search rules in
    absurd (no-end c.args.events.now c.loop-k.k low none)
