use Rattle.std.proofs.Common.{◌≡◌, ◌++◌, take}
use Rattle.line_text.proofs.text.Text.push_all.Given as goal

abbrev pub invariant-loop-b : goal.invariant-loop-b
invariant-loop-b g l = l.self ≡ l.fn.self ++ take l.b-index l.bytes
