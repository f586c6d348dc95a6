use Rattle.std.proofs.Common.{sym, ◌∙◌}
use Rattle.std.proofs.lemmas.Result.{err_from_is_err_and}
use Rattle.byte_layouts.specs.Nothing.{nothing}
use Rattle.byte_layouts.proofs.WholeLaws.{fails_whole, told_ended, told_more}
use Rattle.byte_layouts.proofs.reading.Reading.finish_whole.Goals as goal

pub returns-in_err-read : goal.returns-in_err-read
returns-in_err-read g c = λ fed it.
    let p = err_from_is_err_and c.from_residual.result c.from_residual.ensures.1 in
    rw (p.1, p.2) (fails_whole (g.P.Part.layout nothing) c.in_err-read.field-0.0 fed (c.in_err-read.ensures fed it))

pub returns-then-len-ne0 : goal.returns-then-len-ne0
returns-then-len-ne0 g c = λ fed it.
    told_more (g.P.Part.layout nothing) (g.P.Part.view c.in_ok-read.read) c.args.self.kept c.in_ok-read.pending fed c.place.result c.requires (c.in_ok-read.ensures fed it) c.place.ensures (λ e. c.if-len-ne0.true (c.len.ensures ∙ e))

pub returns : goal.returns
returns g c = λ fed it.
    told_ended (g.P.Part.layout nothing) (g.P.Part.view c.in_ok-read.read) c.args.self.kept c.in_ok-read.pending fed c.requires (c.in_ok-read.ensures fed it) (sym c.len.ensures ∙ c.if-len-ne0.false)
