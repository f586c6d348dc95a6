use Rattle.saved_session.specs.Parts.{state_in}
use Rattle.state_text.proofs.FitLaws.{rows_fit}
use Rattle.state_text.proofs.writing.write_state.Goals as goal

pub write_rows-requires : goal.write_rows-requires
write_rows-requires c = rows_fit (state_in c.args.saved.now) c.requires
