-- What the commands do that run.
use Rattle.std.specs.Prelude.{ℕ, List, unwrap_or, true, false}
use Rattle.file_commands.specs.Notes.{CommandNote}
use Rattle.scp_parser.specs.Command.{Request, Run, Go, Cont, Step}
use Rattle.command_session.specs.Live.{Live}
use Rattle.command_session.specs.Reply.{Reply, goes}
use Rattle.command_session.specs.RunEffects.{running, run_from, step_of}

-- such a command; of the others it is not said here
abbrev pub run_effect : ℕ → List CommandNote → Live → Request → Reply
run_effect limit notes live (Run address) = run_from limit notes true address live
run_effect limit notes live (Go address) = run_from limit notes false address live
run_effect limit notes live Cont = running limit notes live
run_effect limit notes live (Step count) = step_of limit notes (unwrap_or count 1) live
run_effect limit notes live request = goes live

-- a command that runs
abbrev pub IsRun : Request → Type 0
IsRun (Run address) = Unit {0}
IsRun (Go address) = Unit {0}
IsRun Cont = Unit {0}
IsRun (Step count) = Unit {0}
IsRun request = ⊥
