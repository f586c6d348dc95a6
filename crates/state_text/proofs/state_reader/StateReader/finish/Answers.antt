use Rattle.std.proofs.Common.{subst}
use Rattle.saved_session.specs.Parts.{state_in}
use Rattle.state_text.specs.Gives.{Gives}
use Rattle.state_text.proofs.SealLaws.{reading_again, is_found}
use Rattle.state_text.proofs.FitLaws.{has_text}
use Rattle.state_text.proofs.state_reader.StateReader.finish.Goals as goal

pub returns-clause-found : goal.returns-clause-found
returns-clause-found c = λ fed is. is_found fed c.told.result is.reads.0 (c.told.ensures fed is)

pub returns-clause-only : goal.returns-clause-only
returns-clause-only c = λ fed is s valid e.
    subst (λ f. Gives state_in c.told.result f) (reading_again fed s valid e) (c.told.ensures fed is)

pub returns-clause-fits : goal.returns-clause-fits
returns-clause-fits c = λ fed is. has_text fed c.told.result is.reads.0 (c.told.ensures fed is)
