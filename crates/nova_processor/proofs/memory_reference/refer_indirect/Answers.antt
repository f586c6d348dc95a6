use Rattle.std.proofs.Common.{ap, sym, ◌∙◌}
use Rattle.nova_processor.specs.Processor.{ProcessorState, joined}
use Rattle.nova_processor.specs.Burst.{steps}
use Rattle.nova_processor.proofs.References.{refers-endless, refers-through}
use Rattle.nova_processor.proofs.memory_reference.refer_indirect.Goals as goal

pub returns-in-Err : goal.returns-in-Err
returns-in-Err c carry =
    let p = joined c.args.acs.now carry c.args.pc.now c.args.memory.now in
    refers-endless c.args.word c.indexed-at.result p c.chain.new.self c.requires.reference c.requires.indirect c.indexed-at.ensures c.in-Err.ensures.address c.chain.ensures.memory

pub returns-in-Ok : goal.returns-in-Ok
returns-in-Ok c carry =
    let p = joined c.args.acs.now carry c.args.pc.now c.args.memory.now in
    refers-through c.args.word c.indexed-at.result c.in-Ok.address p c.chain.new.self c.requires.reference c.requires.indirect c.indexed-at.ensures c.in-Ok.ensures.address c.chain.ensures.memory
    ∙ ap (λ (q : ProcessorState). steps q) (sym (c.refer_to.ensures carry))
