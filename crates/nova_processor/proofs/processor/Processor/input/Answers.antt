use Rattle.nova_processor.proofs.processor.Processor.input.Goals as goal

pub returns : goal.returns
returns c =
    let is = c.input.ensures c.self.inside.cpu.carry c.self.inside.memory in
    cc (is, c.self.view_is)
