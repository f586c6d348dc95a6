use Rattle.std.proofs.Common.{◌∙◌, ap}
use Rattle.nova_memory.specs.Memory.{MemoryState}
use Rattle.nova_processor.specs.Processor.{ProcessorState, joined}
use Rattle.nova_processor.specs.Instruction.{memory_reference}
use Rattle.nova_processor.proofs.processor.Processor.memory_reference.Goals as goal

pub returns : goal.returns
returns c =
    c.refer_to.ensures c.self.inside.cpu.carry
    ∙ ap (λ (m : MemoryState). memory_reference c.args.word c.args.address (joined c.self.inside.cpu.accumulators c.self.inside.cpu.carry c.self.inside.cpu.pc m)) c.words-words.ensures.value
    ∙ ap (λ (q : ProcessorState). memory_reference c.args.word c.args.address q) c.self.view_is
