-- The number so far is a lower bound of the whole number, so one above the largest decides.
use Rattle.std.proofs.Common.{◌≡◌, ◌+◌, ◌-◌, ◌*◌, drop, get_or, arith}
use Rattle.std.proofs.lemmas.List.{at_drop_more}
use Rattle.nova_word.specs.Numbers.{value_after}
use Rattle.nova_word.proofs.NumberLemmas.{value_after-ge}
use Rattle.nova_word.proofs.numbers.value_up_to.Goals as goal

pub returns-then-longer-from : goal.returns-then-longer-from
returns-then-longer-from c =
    let base = c.args.base in
    let text = c.args.text.now in
    let i = c.loop-b.b-index in
    let longer = base * c.loop-b.n + (get_or text i 0 - 48) in
    let step : value_after base c.loop-b.n (drop i text) ≡ value_after base longer (drop (i + 1) text) = at_drop_more (value_after base c.loop-b.n) text i 0 c.loop-b-test.true in
    let more = value_after-ge base longer (drop (i + 1) text) c.requires.base.0 in
    let same : c.from.result * c.from-in-loop-b.result + c.from-in-loop-b-2.result ≡ longer = (cc) in
    omega (arith, step, more, same, c.loop-b.invariant.whole)
