use Rattle.std.proofs.lemmas.Result.{err_from_is_err_and}
use Rattle.saved_session.specs.Parts.{state_in}
use Rattle.state_text.proofs.TellLaws.{tells_fault, tells_sealed}
use Rattle.state_text.proofs.state_reader.StateReader.told.Goals as goal

pub returns-in_err-parts : goal.returns-in_err-parts
returns-in_err-parts c = λ fed it.
    let p = err_from_is_err_and c.from_residual.result c.from_residual.ensures.1 in
    rw (p.1, p.2) (tells_fault c.in_err-parts.field-0.0 fed (c.in_err-parts.ensures fed it.reads))

pub returns : goal.returns
returns c = λ fed it.
    tells_sealed _ c.args.self.reading.kept c.in_ok-parts.pending fed (state_in c.joined.result) c.sealed.result it.kept (c.in_ok-parts.ensures fed it.reads) c.joined.ensures c.sealed.ensures
