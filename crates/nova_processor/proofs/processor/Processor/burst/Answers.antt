use Rattle.std.proofs.Common.{◌≡◌, ◌∙◌, ap, sym, subst, rules}
use Rattle.nova_processor.specs.declared.burst.Step.{Step}
use Rattle.nova_processor.specs.Processor.{ProcessorState, joined}
use Rattle.nova_processor.specs.Burst.{Reaches, step_of}
use Rattle.nova_processor.proofs.Leaves.{step-at, left-there, left-again, reaches-next}
use Rattle.nova_processor.proofs.processor.Processor.burst.Goals as goal

pub returns-in-Transfer : goal.returns-in-Transfer
returns-in-Transfer g c =
    let p = joined c.loop-done.acs c.loop-done.carry c.loop-done.pc c.loop-done.words in
    let q = joined c.if-word-ge32768.acs c.if-word-ge32768.carry c.if-word-ge32768.pc c.if-word-ge32768.words in
    let stepped : step_of c.read-word.result p ≡ record { processor = q; end = c.if-word-ge32768.end } = search rules in
    let is = step-at c.read-word.result p (record { processor = q; end = c.if-word-ge32768.end }) c.read-word.ensures.word stepped in
    let P : ProcessorState → Type 0 = λ x. Reaches (g.S.Stops.stops c.args.stops.now) c.loop-done.done c.args.self.now x in
    (c.loop-done-test.true, subst P (sym (left-there p q c.if-word-ge32768.end is c.in-Transfer.is)) c.loop-done.invariant, left-again p q c.if-word-ge32768.end is c.in-Transfer.is)

pub returns-in-ChainLimit : goal.returns-in-ChainLimit
returns-in-ChainLimit g c =
    let p = joined c.loop-done.acs c.loop-done.carry c.loop-done.pc c.loop-done.words in
    let q = joined c.if-word-ge32768.acs c.if-word-ge32768.carry c.if-word-ge32768.pc c.if-word-ge32768.words in
    let stepped : step_of c.read-word.result p ≡ record { processor = q; end = c.if-word-ge32768.end } = search rules in
    let is = step-at c.read-word.result p (record { processor = q; end = c.if-word-ge32768.end }) c.read-word.ensures.word stepped in
    (p, c.loop-done-test.true, c.loop-done.invariant, sym c.is_at.ensures ∙ c.if-is_at.false, is ∙ ap (λ (e : Step). record { processor = q; end = e }) c.in-ChainLimit.is)

pub loop-done-preserved : goal.loop-done-preserved
loop-done-preserved g c =
    let p = joined c.loop-done.acs c.loop-done.carry c.loop-done.pc c.loop-done.words in
    let q = joined c.if-word-ge32768.acs c.if-word-ge32768.carry c.if-word-ge32768.pc c.if-word-ge32768.words in
    let stepped : step_of c.read-word.result p ≡ record { processor = q; end = c.if-word-ge32768.end } = search rules in
    let is = step-at c.read-word.result p (record { processor = q; end = c.if-word-ge32768.end }) c.read-word.ensures.word stepped in
    reaches-next (g.S.Stops.stops c.args.stops.now) c.loop-done.done c.args.self.now p q c.loop-done.invariant (sym c.is_at.ensures ∙ c.if-is_at.false) (is ∙ ap (λ (e : Step). record { processor = q; end = e }) c.in-Executed.is)
