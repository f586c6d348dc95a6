use Rattle.std.proofs.Common.{◌≡◌, ℕ, ◌<◌, ◌≤◌, false, [], length, get_or}
use Rattle.line_text.specs.Words.{is_spelled}
use Rattle.operand_forms.specs.Names.{register_names}
use Rattle.operand_forms.proofs.registers.register_named.Given as goal

-- no register before this number has the name
abbrev pub invariant-loop-i : goal.invariant-loop-i
invariant-loop-i l = record {
  within : l.i ≤ length (register_names l.device);
  before : (k : ℕ) → k < l.i → is_spelled l.word (get_or (register_names l.device) k []) ≡ false;
}
