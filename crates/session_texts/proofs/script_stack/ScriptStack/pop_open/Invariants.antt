use Rattle.std.proofs.Common.{◌≡◌, length}
use Rattle.session_texts.specs.Scripts.{still_open}
use Rattle.session_texts.proofs.script_stack.ScriptStack.pop_open.Given as goal

abbrev pub invariant-loop-script : goal.invariant-loop-script
invariant-loop-script l = still_open l.self ≡ still_open l.fn.self

abbrev pub decreases-loop-script : goal.decreases-loop-script
decreases-loop-script l = length l.self
