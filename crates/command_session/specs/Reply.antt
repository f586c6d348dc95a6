-- What a command comes to: what it makes on the way, each with the place at which it comes; its answer, which is what
-- comes next or why it was refused; and the place that it leaves.
use Rattle.std.specs.Prelude.{ℕ, List, [], ◌∷◌, None, Result, Ok, Err}
use Rattle.observations.specs.Observations.{Observation, Prints}
use Rattle.nova_machine.specs.declared.machine.Stop.TheVariants.{FileFault}
use Rattle.command_session.specs.declared.next.Next.{Next}
use Rattle.command_session.specs.declared.next.Next.TheVariants.{Go, Ran}
use Rattle.command_session.specs.declared.fault.CommandFault.{CommandFault}
use Rattle.command_session.specs.Live.{Live, Standing, standing}

-- what comes next, or the fault
abbrev pub Answer : Type 0
Answer = Result Next CommandFault

-- an answer without the number of a file
abbrev pub bare_answer : Answer → Answer
bare_answer (Ok (Ran (FileFault f))) = Ok (Ran (FileFault (record f { file = None })))
bare_answer answer = answer

-- all that a command comes to
pub record Reply : Type 0 where
  pub made : List (Observation Standing)
  pub answer : Answer
  pub after : Standing

-- nothing is printed
abbrev pub goes : Live → Reply
goes live = record { made = []; answer = Ok Go; after = standing 0 live }

-- a text is printed, where the command leaves off
abbrev pub says : List ℕ → Live → Reply
says text live = record { made = Prints text (standing 0 live) ∷ []; answer = Ok Go; after = standing 0 live }

-- a command that is refused changes nothing. The text of its fault is printed by who asked for the command.
abbrev pub refused : CommandFault → Live → Reply
refused fault live = record { made = []; answer = Err fault; after = standing 0 live }
