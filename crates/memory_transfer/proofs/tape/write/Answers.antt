use Rattle.std.proofs.Common.{◌≡◌, ◌+◌, ◌*◌, ℕ, false, nat_le, None, ap, sym, ◌∙◌}
use Rattle.file_traits.specs.OneList.{longest_list}
use Rattle.memory_transfer.proofs.Blocks.{not-written}
use Rattle.memory_transfer.proofs.tape.write.Goals as goal

pub returns-then-not-fits-clause-image : goal.returns-then-not-fits-clause-image
returns-then-not-fits-clause-image g c = λ told.
    let over : nat_le (c.args.order.place + (2 * c.args.order.count + 8)) longest_list ≡ false =
    ap (λ (k : ℕ). nat_le (c.args.order.place + (2 * k + 8)) longest_list) (sym c.from-length.ensures) ∙ sym c.fits.ensures ∙ c.if-not-fits.true in
    sym (not-written None c.args.order.place c.args.order.count c.args.order.address c.args.memory.now (g.B.Bytes.content c.args.tape.now) over)
