use Rattle.std.proofs.Common.{◌≡◌, ◌≤◌, drop}
use Rattle.nova_word.specs.Numbers.{value_after, value_of}
use Rattle.nova_word.proofs.numbers.value_up_to.Given as goal

abbrev pub invariant-loop-b : goal.invariant-loop-b
invariant-loop-b l = record {
  whole : value_after l.base l.n (drop l.b-index l.text) ≡ value_of l.base l.text;
  within : l.n ≤ l.largest;
}
