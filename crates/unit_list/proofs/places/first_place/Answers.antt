use Rattle.std.proofs.Common.{◌≡◌, ◌≢◌, rules}
use Rattle.unit_trait.specs.Kinds.{code_of}
use Rattle.unit_list.proofs.Table.{none-more, first-here}
use Rattle.unit_list.proofs.places.first_place.Goals as goal

pub returns-then-code_of-code : goal.returns-then-code_of-code
returns-then-code_of-code g c =
    let unit_state = g.U.Unit.unit_state in
    let same : code_of (unit_state c.index-units-place.result).kind ≡ c.args.code = search rules in
    first-here unit_state c.args.units.now c.args.code c.loop-place.place c.index-units-place.result c.loop-place.invariant c.loop-place-test.true c.index-units-place.is same

pub loop-place-preserved : goal.loop-place-preserved
loop-place-preserved g c =
    let unit_state = g.U.Unit.unit_state in
    let other : code_of (unit_state c.index-units-place.result).kind ≢ c.args.code = search rules in
    none-more unit_state c.args.units.now c.args.code c.loop-place.place c.index-units-place.result c.loop-place.invariant c.loop-place-test.true c.index-units-place.is other
