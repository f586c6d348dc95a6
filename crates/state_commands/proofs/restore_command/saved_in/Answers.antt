use Rattle.std.proofs.Common.{List, ℕ, IfOk, Result, Ok, Err}
use Rattle.saved_session.specs.declared.saved.Saved.{Saved}
use Rattle.state_text.specs.declared.fault.StateFault.{StateFault}
use Rattle.saved_session.specs.Parts.{state_in}
use Rattle.state_text.specs.Text.{IsTextOf}
use Rattle.saved_session.specs.Valid.{Valid}
use Rattle.state_commands.proofs.restore_command.saved_in.Goals as goal

only-valid : (result : Result Saved StateFault) (bytes : List ℕ) → IfOk result (λ s. Valid (state_in s) × IsTextOf (state_in s) bytes) → IfOk result (λ s. Valid (state_in s))
only-valid (Ok s) bytes h = h.0
only-valid (Err fault) bytes h = tt

pub returns-clause-valid : goal.returns-clause-valid
returns-clause-valid c = only-valid c.finish.result c.requires.0 (c.finish.ensures.found c.requires.0 c.requires.1)
