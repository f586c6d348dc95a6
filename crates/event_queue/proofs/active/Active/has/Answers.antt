use Rattle.std.proofs.Common.{◌^◌, ◌/◌, ℕ, bit_and, eqb, ap, ◌∙◌}
use Rattle.event_queue.proofs.Marked.{bit-tells}
use Rattle.event_queue.proofs.active.Active.has.Goals as goal

pub returns : goal.returns
returns c = ap (λ (n : ℕ). eqb (bit_and (c.args.self.now.bits / 2 ^ n) 1) 1) c.number.ensures.number ∙ bit-tells c.args.self.now.bits c.args.unit
