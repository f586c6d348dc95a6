use Rattle.std.proofs.Common.{None, sym, ◌∙◌, arith}
use Rattle.std.proofs.lemmas.List.{take_all}
use Rattle.state_transfer.proofs.TakingLemmas.{register-of, count-of}
use Rattle.saved_session.proofs.TakenLists.{grows, taken-all}
use Rattle.state_transfer.proofs.taking_machine.taken_registers.Goals as goal

pub loop-i-preserved : goal.loop-i-preserved
loop-i-preserved g c = λ u there.
    rw (c.in_ok-push-in-Some.ensures.items, c.loop-i.invariant u there)
    (sym (grows u.registers c.loop-i.i c.in-Some.value
    (register-of c.args.kind c.loop-i.i c.args.machine.now.units u _ c.in-Some.ensures there)))

pub returns-in-None : goal.returns-in-None
returns-in-None g c = λ u there.
    c.loop-i.invariant u there
    ∙ taken-all u.registers c.loop-i.i
    (register-of c.args.kind c.loop-i.i c.args.machine.now.units u None c.in-None.ensures there)

pub returns : goal.returns
returns g c = λ u there.
    let size = count-of c.args.kind c.args.machine.now.units u c.core.ensures.registers there in
    let count = c.register_count-i-end.ensures.count in
    let past = c.loop-i-test.false in
    c.loop-i.invariant u there ∙ take_all c.loop-i.i u.registers (omega (arith, size, count, past))
