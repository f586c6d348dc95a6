use Rattle.std.proofs.Common.{◌≡◌, ◌++◌, map, take}
use Rattle.expect_actions.proofs.keys_lines.add_keys.Given as goal

abbrev pub invariant-loop-b : goal.invariant-loop-b
invariant-loop-b l = l.list.items ≡ l.initial.list.items ++ map (λ b. (l.time, b)) (take l.b-index l.text)
