-- What stands for the bytes so far.
use Rattle.std.proofs.Common.{◌≡◌, ◌+◌, ◌*◌, ◌∷◌, ◌≤◌, length, take}
use Rattle.plain_commands.specs.QuotedText.{quoted_bytes}
use Rattle.plain_commands.proofs.quoted_text.quoted_text.Given as goal

abbrev pub invariant-loop-b : goal.invariant-loop-b
invariant-loop-b l = record {
  text : l.quoted ≡ 34 ∷ quoted_bytes (take l.b-index l.text);
  most : length l.quoted ≤ 4 * l.b-index + 1;
}
