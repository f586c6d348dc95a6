use Rattle.std.specs.Prelude.{map}
use Rattle.std.proofs.lemmas.Result.{err_from_is_err_and}
use Rattle.byte_layouts.proofs.PartLaws.{taken, missed}
use Rattle.byte_layouts.proofs.trying.take_next.Goals as goal

pub returns-in_err-found : goal.returns-in_err-found
returns-in_err-found g c =
    let p = err_from_is_err_and c.from_residual.result c.from_residual.ensures.1 in
    rw (p.1, p.2) (missed g.R.Format.view (g.R.Format.layout c.args.known (map g.R.Format.view c.args.before.now)) c.in_err-found.field-0.0 c.args.pending.now c.in_err-found.ensures.bytes c.in_err-found.ensures.found)

pub returns : goal.returns
returns g c = taken (g.R.Format.layout c.args.known (map g.R.Format.view c.args.before.now)) c.args.pending.now c.pass_to.new.self (g.R.Format.view c.in_ok-found.found) c.in_ok-found.place c.in_ok-found.ensures.bytes c.in_ok-found.ensures.found c.pass_to.ensures
