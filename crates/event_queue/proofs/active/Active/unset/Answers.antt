use Rattle.std.proofs.Common.{◌-◌, ◌*◌, ◌%◌, ◌^◌, ℕ, bit_and, ap, ◌∙◌}
use Rattle.event_queue.specs.Active.{is_active}
use Rattle.event_queue.proofs.Marked.{bit-cleared}
use Rattle.event_queue.proofs.active.Active.unset.Goals as goal

pub returns : goal.returns
returns c = λ u low.
    ap (λ (n : ℕ). is_active (bit_and c.args.self.now.bits (2 ^ 128 - 1 - 1 * 2 ^ n % 2 ^ 128)) u) c.number.ensures.number
    ∙ bit-cleared c.args.self.now.bits c.args.unit u c.requires low
