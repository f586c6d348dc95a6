-- What is answered to a command is answered to what a line asks for.
use Rattle.std.proofs.Common.{◌≡◌, sym, subst}
use Rattle.nova_machine.specs.Machine.{MachineState}
use Rattle.scp_parser.specs.Command.{Request}
use Rattle.command_session.specs.Reply.{Answer}
use Rattle.command_session.specs.Answers.{AnswersByTables, CanAnswer}

pub by-asks : (m : MachineState) (a : Answer) (r r' : Request) → r ≡ r' → AnswersByTables m r' a → AnswersByTables m r a
by-asks m a r r' is h = subst (λ (x : Request). AnswersByTables m x a) (sym is) h

pub can-by : (a : Answer) (r r' : Request) → r ≡ r' → CanAnswer r' a → CanAnswer r a
can-by a r r' is h = subst (λ (x : Request). CanAnswer x a) (sym is) h
