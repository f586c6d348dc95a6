use Rattle.std.proofs.Common.{◌<◌, ◌∙◌, ℕ, length, map, arith}
use Rattle.std.proofs.lemmas.List.{length-set}
use Rattle.unit_list.specs.Bus.{kinds_of}
use Rattle.unit_list.specs.Places.{place_in}
use Rattle.unit_list.proofs.Table.{filled-more, filled}
use Rattle.unit_list.proofs.places.Places.new.Goals as goal

pub loop-code-preserved : goal.loop-code-preserved
loop-code-preserved g c =
    let place = λ (code : ℕ). place_in code (kinds_of (map g.U.Unit.unit_state c.args.units.now)) in
    let within : c.loop-code.code < length c.loop-code.table = omega (arith, c.loop-code.invariant.whole, c.loop-code-test.true) in
    record {
      whole = length-set c.loop-code.table c.from.result c.first_place.result ∙ c.loop-code.invariant.whole;
      filled = filled-more place c.loop-code.table c.loop-code.code c.from.result c.first_place.result c.loop-code.invariant.filled within c.from.ensures c.first_place.ensures;
    }

pub returns : goal.returns
returns g c =
    filled (kinds_of (map g.U.Unit.unit_state c.args.units.now)) c.loop-code.table c.loop-code.code c.loop-code.invariant.filled c.loop-code.invariant.whole (omega (arith, c.loop-code.auto.code-end, c.loop-code-test.false))
