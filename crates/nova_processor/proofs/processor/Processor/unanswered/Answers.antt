use Rattle.nova_processor.proofs.processor.Processor.unanswered.Goals as goal

pub returns : goal.returns
returns c =
    let is = c.unanswered.ensures c.self.inside.cpu.carry c.self.inside.memory in
    cc (is, c.self.view_is)
