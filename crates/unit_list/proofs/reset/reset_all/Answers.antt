use Rattle.std.proofs.Common.{◌≡◌, ◌<◌, length, arith, rules}
use Rattle.unit_trait.specs.Calls.{Reset}
use Rattle.unit_trait.specs.Row.{row, moved}
use Rattle.event_queue.specs.EventList.{wished}
use Rattle.unit_list.specs.Reset.{first_unit}
use Rattle.unit_list.proofs.Resets.{reset-more}
use Rattle.unit_list.proofs.reset.reset_all.Goals as goal

pub loop-unit-preserved : goal.loop-unit-preserved
loop-unit-preserved g c =
    let unit_state = g.U.Unit.unit_state in
    let before = c.unit-item.result in
    let within : c.loop-unit.unit-index < length c.loop-unit.units = omega arith in
    let becomes : unit_state c.reset_unit.new.unit ≡ moved (unit_state before) Reset = search rules in
    let wish : c.reset_unit.new.events ≡ wished (first_unit (unit_state before).kind) (row (unit_state before) Reset).queue c.loop-unit.events = search rules in
    reset-more unit_state c.args.units.now c.loop-unit.units c.loop-unit.unit-index before c.reset_unit.new.unit
    c.args.events.now c.loop-unit.events c.reset_unit.new.events c.loop-unit.invariant within c.unit-item.is
    becomes wish c.reset_unit.ensures.later c.reset_unit.ensures.fits
