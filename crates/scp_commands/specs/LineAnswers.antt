-- What the answer to a command says of a machine's terminal lines and of the outside, whether that tells what comes or not.
use Rattle.std.specs.Prelude.{ℕ, Bool, List}
use Rattle.host_lines.specs.State.{LineState}
use Rattle.telnet_lines.specs.Line.{LineOf}
use Rattle.scp_parser.specs.Command.{Request, Run, Go, Cont, Step, Restore}
use Rattle.nova_machine.specs.LineChanges.{HaveNoPort}
use Rattle.command_session.specs.Reply.{Answer}
use Rattle.command_session.specs.PortAnswers.{LinesStay}
use Rattle.host_commands.specs.HostEffect.{HostLines}
use Rattle.state_commands.specs.RestoredLines.{RestoresLines}

-- a run asks nothing of the outside where no line has a port
abbrev pub RunLines : LineState → List (LineOf ℕ) → LineState → List (LineOf ℕ) → Type 0
RunLines old before new after = HaveNoPort before → LinesStay old before new after

-- Any command, memory for which did not run out. What else a run leaves is said of every call that polls.
abbrev pub LinesAnswer : Bool → Request → Answer → LineState → List (LineOf ℕ) → LineState → List (LineOf ℕ) → Type 0
LinesAnswer tells (Restore force name) answer old before new after = RestoresLines tells answer old before new after
LinesAnswer tells (Run address) answer old before new after = RunLines old before new after
LinesAnswer tells (Go address) answer old before new after = RunLines old before new after
LinesAnswer tells Cont answer old before new after = RunLines old before new after
LinesAnswer tells (Step count) answer old before new after = RunLines old before new after
LinesAnswer tells request answer old before new after = HostLines tells request answer old before new after
