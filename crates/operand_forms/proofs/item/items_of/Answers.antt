use Rattle.std.proofs.Common.{◌≡◌, ◌-◌, Some, None, sym, arith}
use Rattle.operand_forms.specs.Operands.{front, item_of}
use Rattle.operand_forms.specs.Views.{some_behind}
use Rattle.operand_forms.proofs.ItemLoopLemmas.{with_rest, rest_bad, rest_last, rest_more, rest_full, one_longer}
use Rattle.operand_forms.proofs.item.items_of.Goals as goal

pub returns-in_err-item_of : goal.returns-in_err-item_of
returns-in_err-item_of c =
    let rest = c.loop-used.rest.now in
    let is : item_of c.args.device (front 44 rest) ≡ None = cc (c.in_err-item_of.ensures, c.split.ensures.front) in
    let bad = rest_bad c.loop-used.items c.loop-used._used c.args.device rest c.loop-used-test.true is in
    cc (bad, c.loop-used.invariant.whole, c.from_residual.ensures)

pub returns-in-None : goal.returns-in-None
returns-in-None c =
    let rest = c.loop-used.rest.now in
    let is : item_of c.args.device (front 44 rest) ≡ Some c.in_ok-item_of.field-0 = cc (c.in_ok-item_of.ensures, c.split.ensures.front) in
    let none : some_behind 44 rest ≡ None = sym (rw c.in-None.is at c.split.ensures.behind) in
    let last = rest_last c.loop-used.items c.in_ok-item_of.field-0 c.loop-used._used c.args.device rest c.loop-used-test.true is none in
    cc (last, c.loop-used.invariant.whole, c.push.ensures)

pub loop-used-preserved : goal.loop-used-preserved
loop-used-preserved c =
    let rest = c.loop-used.rest.now in
    let is : item_of c.args.device (front 44 rest) ≡ Some c.in_ok-item_of.field-0 = cc (c.in_ok-item_of.ensures, c.split.ensures.front) in
    let some : some_behind 44 rest ≡ Some c.in-Some.text.now = sym (rw c.in-Some.is at c.split.ensures.behind) in
    let more = rest_more c.loop-used.items c.in_ok-item_of.field-0 c.loop-used._used c.args.device rest c.in-Some.text.now c.loop-used-test.true is some in
    record {
      whole = cc (more, c.loop-used.invariant.whole, c.push.ensures);
      count = one_longer c.push.new.self c.loop-used.items c.in_ok-item_of.field-0 c.loop-used._used c.push.ensures c.loop-used.invariant.count;
    }

pub returns : goal.returns
returns c =
    let used : 16 - c.loop-used._used ≡ 0 = omega arith in
    let full : with_rest c.loop-used.items (16 - c.loop-used._used) c.args.device c.loop-used.rest.now ≡ None = rw used (rest_full c.loop-used.items c.args.device c.loop-used.rest.now) in
    cc (full, c.loop-used.invariant.whole)
