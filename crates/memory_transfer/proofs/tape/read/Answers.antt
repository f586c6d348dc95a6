use Rattle.std.proofs.Common.{Result, Ok, subst, replicate, ◌≡◌, ◌≤◌, ◌+◌, ◌/◌, ℕ, min, take, drop, ap, ◌∙◌, arith}
use Rattle.file_traits.specs.OneList.{shown}
use Rattle.simh_tape.specs.declared.items.Item.{Item}
use Rattle.simh_tape.specs.declared.items.Item.TheVariants.{Block}
use Rattle.simh_tape.specs.declared.items.TapeFault.{TapeFault}
use Rattle.simh_tape.specs.Image.{Met}
use Rattle.simh_tape.specs.Reading.{said, failure, next_act, NextData}
use Rattle.memory_transfer.specs.Tapes.{block_put, memory_read}
use Rattle.memory_transfer.proofs.Blocks.{put-front}
use Rattle.memory_transfer.proofs.tape.read.Goals as goal

pub returns-in-Ok-Block-clause-memory : goal.returns-in-Ok-Block-clause-memory
returns-in-Ok-Block-clause-memory g c = λ told.
    let image = shown (g.B.Bytes.content c.args.tape.now) in
    let bytes = c.in-Ok-Block.length in
    let text = take bytes (drop (c.args.order.place + 4) image) in
    let whole : c.read_next.result ≡ Ok (Block bytes c.in-Ok-Block.flagged c.in-Ok-Block.field-0-2 c.in-Ok-Block.place) =
    c.in-Ok-Block.is ∙ ap (λ (item : Item). Ok item) c.in-Ok-Block.field-0-is in
    let there = subst (λ (r : Result Item TapeFault). NextData image c.args.order.place r (replicate 8192 0) c.read_next.new.into) whole (c.read_next.ensures.«data» told) in
    let met = subst (λ (r : Result Item TapeFault). said r ≡ next_act image c.args.order.place (failure r)) whole (c.read_next.ensures.item told) in
    let words : c.min-words.result ≡ min ((bytes + 1) / 2) c.args.order.count = omega (arith, c.min-words.ensures, c.div_ceil-there.ensures, c.from.ensures) in
    let few : c.min-words.result ≤ 4096 = omega (arith, words, c.requires.most) in
    c.put_block.ensures
    ∙ put-front c.min-words.result c.args.order.address text c.read_next.new.into c.args.memory.now few there.1
    ∙ ap (λ (k : ℕ). block_put k c.args.order.address text c.args.memory.now) words
    ∙ ap (λ (met : Met). memory_read image c.args.order met c.args.memory.now) met
