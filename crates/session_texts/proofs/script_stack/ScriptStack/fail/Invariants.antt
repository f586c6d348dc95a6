use Rattle.std.proofs.Common.{◌≡◌, length}
use Rattle.session_texts.specs.Scripts.{behind_failure}
use Rattle.session_texts.proofs.script_stack.ScriptStack.fail.Given as goal

abbrev pub invariant-loop-script : goal.invariant-loop-script
invariant-loop-script l = behind_failure l.ends l.self ≡ behind_failure l.fn.ends l.fn.self

abbrev pub decreases-loop-script : goal.decreases-loop-script
decreases-loop-script l = length l.self
