use Rattle.std.proofs.Common.{◌*◌, ◌%◌, ◌^◌, ℕ, bit_or, ap, ◌∙◌}
use Rattle.event_queue.specs.Active.{is_active}
use Rattle.event_queue.proofs.Marked.{bit-set}
use Rattle.event_queue.proofs.active.Active.set.Goals as goal

pub returns : goal.returns
returns c = λ u low.
    ap (λ (n : ℕ). is_active (bit_or c.args.self.now.bits (1 * 2 ^ n % 2 ^ 128)) u) c.number.ensures.number
    ∙ bit-set c.args.self.now.bits c.args.unit u c.requires low
