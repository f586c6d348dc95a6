-- What the answer to a RESTORE says of a machine's terminal lines and of the outside, whether that tells what comes or not.
use Rattle.std.specs.Prelude.{◌≡◌, ℕ, Bool, List, [], Ok, Err}
use Rattle.host_lines.specs.declared.lines.ListenFault.TheVariants as listen
use Rattle.host_lines.specs.State.{LineState}
use Rattle.telnet_lines.specs.Line.{LineOf}
use Rattle.terminal_ports.specs.Listening.{ListensEach}
use Rattle.terminal_ports.specs.Rows.{with_ports}
use Rattle.saved_session.specs.declared.saved.SavedPorts.{SavedPorts}
use Rattle.saved_session.specs.Valid.{ArePorts}
use Rattle.state_transfer.specs.Listening.{AreClosed}
use Rattle.state_transfer.specs.Ports.{assigned, ports_wanted}
use Rattle.command_session.specs.declared.fault.CommandFault.TheVariants.{PortFailed}
use Rattle.command_session.specs.Reply.{Answer}
use Rattle.command_session.specs.LinesLeft.{SomeRefused}
use Rattle.command_session.specs.PortAnswers.{LinesStay}

-- RESTORE, by its answer: no line had a port, and the lines have those of the saved session, which were listened on one behind
-- another; or a listening failed; or nothing was asked.
pub record RestoresPorts (tells : Bool) (old : LineState) (before : List (LineOf ℕ)) (new : LineState) (after : List (LineOf ℕ)) : Type 0 where
  pub ports : SavedPorts
  pub listed : Bool
  pub valid : ArePorts listed ports
  pub closed : AreClosed before
  pub lines : after ≡ with_ports (assigned ports before) before
  pub listened : ListensEach tells (ports_wanted ports before) (Ok tt) old new
  pub none : ports_wanted ports before ≡ [] → new ≡ old

abbrev pub RestoresLines : Bool → Answer → LineState → List (LineOf ℕ) → LineState → List (LineOf ℕ) → Type 0
RestoresLines tells (Ok next) old before new after = RestoresPorts tells old before new after
RestoresLines tells (Err PortFailed) old before new after = (after ≡ before) × SomeRefused tells listen.Failed old new
RestoresLines tells (Err fault) old before new after = LinesStay old before new after
