use Rattle.std.proofs.Common.{map, subst}
use Rattle.unit_trait.specs.Kinds.{code_of}
use Rattle.unit_trait.specs.Row.{TakesAnswer}
use Rattle.unit_list.proofs.Standing.{found, found-kind}
use Rattle.unit_list.proofs.Room.{room-at}
use Rattle.unit_list.proofs.service.got_at.Goals as goal

pub got-requires-clause-room : goal.got-requires-clause-room
got-requires-clause-room g c =
    let unit_state = g.U.Unit.unit_state in
    let units = c.args.units.now in
    let kind = c.args.unit.kind in
    let place = c.in-Some.place in
    let unit = c.index-units-place.result in
    let is = c.index-units-place.is in
    let stands = c.in-Some.ensures.stands in
    subst (λ u. TakesAnswer (unit_state u) c.args.got) is
    (room-at kind c.args.got (map unit_state units) (unit_state unit) c.requires.room
    (found unit_state units (code_of kind) place unit stands is) (found-kind unit_state units kind place unit stands is))
