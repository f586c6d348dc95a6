use Rattle.nova_processor.proofs.processor.Processor.multiply_divide.Goals as goal

pub returns : goal.returns
returns c =
    let is = c.multiply_divide.ensures c.self.inside.memory in
    cc (is, c.self.view_is)
