use Rattle.std.proofs.Common.{◌≡◌, ◌-◌, length}
use Rattle.operand_forms.specs.Operands.{items_of}
use Rattle.operand_forms.proofs.ItemLoopLemmas.{with_rest}
use Rattle.operand_forms.proofs.item.items_of.Given as goal

-- the items so far and those of the rest are the whole list
abbrev pub invariant-loop-used : goal.invariant-loop-used
invariant-loop-used l = record {
  whole : with_rest l.items (16 - l._used) l.device l.rest ≡ items_of l.device l.word;
  count : length l.items ≡ l._used;
}
