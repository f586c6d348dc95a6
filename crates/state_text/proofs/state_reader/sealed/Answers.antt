use Rattle.std.proofs.Common.{subst}
use Rattle.std.proofs.lemmas.Result.{err_from_is_err_and}
use Rattle.sha2.specs.Sha256.{sha256}
use Rattle.saved_session.specs.Parts.{state_in}
use Rattle.byte_layouts.specs.Readers.{At, counted, Fails}
use Rattle.byte_layouts.specs.Held.{at_in}
use Rattle.state_text.specs.Reading.{compared}
use Rattle.state_text.proofs.Results.{fails_then}
use Rattle.state_text.proofs.state_reader.sealed.Goals as goal

pub returns-in_err-bytes : goal.returns-in_err-bytes
returns-in_err-bytes c = λ m holds.
    let p = err_from_is_err_and c.from_residual.result c.from_residual.ensures.1 in
    rw (p.1, p.2) (fails_then c.in_err-bytes.field-0.0 (counted 32 (at_in c.args.pending)) (compared (state_in c.args.saved) (sha256 m))
    (subst (λ (at : At). Fails c.in_err-bytes.field-0.0 (counted 32 at)) c.cursor-cursor.ensures.at c.in_err-bytes.ensures.read))
