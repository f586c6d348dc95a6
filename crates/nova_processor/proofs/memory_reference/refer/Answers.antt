use Rattle.std.proofs.Common.{◌≡◌, ◌≢◌, ℕ, ◌+◌, ◌*◌, ◌%◌, ap, sym, ◌∙◌, rules, arith}
use Rattle.nova_word.specs.Bits.{bits}
use Rattle.nova_memory.specs.Address.{indexed}
use Rattle.nova_processor.specs.Processor.{ProcessorState, joined}
use Rattle.nova_processor.specs.Instruction.{memory_reference}
use Rattle.nova_processor.specs.Burst.{steps}
use Rattle.nova_processor.proofs.References.{step-direct, indexed-by}
use Rattle.nova_processor.proofs.memory_reference.refer.Goals as goal

pub returns : goal.returns
returns c carry =
    let p = joined c.args.acs.now carry c.args.pc.now c.args.memory.now in
    let other : bits 5 5 c.args.word ≢ 1 = omega (arith, c.requires.direct) in
    let found : c.indexed-at.result ≡ indexed (c.args.index * 256 + c.args.word % 256) c.args.pc.now c.args.acs.now = search rules in
    let at = indexed-by c.args.word c.args.index c.args.pc.now c.args.acs.now c.requires.index in
    step-direct c.args.word p c.requires.reference other
    ∙ ap (λ (q : ProcessorState). steps q)
    (ap (λ (at : ℕ). memory_reference c.args.word at p) (sym (found ∙ at))
    ∙ sym (c.refer_to.ensures carry))
