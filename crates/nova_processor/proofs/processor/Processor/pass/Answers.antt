use Rattle.nova_processor.proofs.processor.Processor.pass.Goals as goal

pub returns : goal.returns
returns c =
    let is = c.pass.ensures c.self.inside.cpu.carry c.self.inside.memory in
    cc (is, c.self.view_is)
