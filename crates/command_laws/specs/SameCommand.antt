-- Commands on the same state do the same.
use Rattle.std.specs.Prelude.{◌≡◌, ℕ, true, List, [], ◌++◌, Err}
use Rattle.nova_machine.specs.Comes.{Output}
use Rattle.nova_machine.specs.LineChanges.{heard_with}
use Rattle.scp_parser.specs.Command.{Request}
use Rattle.command_session.specs.declared.fault.CommandFault.TheVariants.{Console, OutOfMemory}
use Rattle.command_session.specs.Live.{Live, Standing}
use Rattle.command_session.specs.Reply.{Answer, bare_answer}
use Rattle.command_session.specs.Doing.{Does}
use Rattle.scp_commands.specs.Effect.{effect}

-- the console has refused no byte, and memory did not run out
abbrev pub IsAnswered : Answer → Type 0
IsAnswered (Err Console) = ⊥
IsAnswered (Err OutOfMemory) = ⊥
IsAnswered answer = Unit {0}

-- two calls came to the same: the answer, the state, what was printed, and what was sent
pub record SameAnswer (answer other : Answer) (x y : Standing) (before after front behind : Output) : Type 0 where
  pub answers : bare_answer answer ≡ bare_answer other
  pub states : x ≡ y
  pub added : List ℕ
  pub one : after.console ≡ before.console ++ added
  pub two : behind.console ≡ front.console ++ added
  pub sent : List (ℕ × ℕ)
  pub one_heard : after.heard ≡ heard_with before.heard sent
  pub two_heard : behind.heard ≡ heard_with front.heard sent

-- Where no call on a file fails, no byte is refused and memory suffices, calls that do one command on the same state come to
-- the same, whatever was printed and sent before, and whatever number the command has.
abbrev pub SameStateSameCommand : Type 0
SameStateSameCommand =
    (limit : ℕ) (request : Request) (s t : Live) (answer other : Answer) (x y : Standing) (before after front behind : Output) → s ≡ t → IsAnswered answer → IsAnswered other
    → Does (effect limit [] s request) answer x true before after → Does (effect limit [] t request) other y true front behind
    → SameAnswer answer other x y before after front behind
