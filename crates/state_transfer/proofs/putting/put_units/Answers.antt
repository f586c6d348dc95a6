use Rattle.std.proofs.Common.{◌≡◌, ap, refl, sym, ◌∙◌}
use Rattle.std.proofs.lemmas.List.Elements.{All-from_recursion}
use Rattle.std.specs.Prelude.{List, map}
use Rattle.unit_trait.specs.Registers.{registers}
use Rattle.unit_trait.specs.Calls.{UnitState}
use Rattle.unit_trait.specs.Row.{InRange}
use Rattle.nova_machine.specs.Machine.{MachineState}
use Rattle.saved_session.specs.Parts.{unit_in}
use Rattle.state_transfer.proofs.PutBackMachineLemmas.{units-fit}
use Rattle.saved_session.specs.declared.saved.SavedUnit.{SavedUnit}
use Rattle.saved_session.specs.Ranges.{kind_at}
use Rattle.unit_list.specs.Whole.{units_set}
use Rattle.state_transfer.proofs.PuttingLemmas.{units_said, each-fits, count-of-parts, units-stand, unit-more, units-end, units-alone, first-put, none-put}
use Rattle.state_transfer.proofs.putting.put_units.Goals as goal

pub loop-unit-init : goal.loop-unit-init
loop-unit-init g c = record { rest = refl; others = refl }

pub put_unit-requires : goal.put_unit-requires
put_unit-requires g c =
    rw c.unit-item.is (All-from_recursion (λ (u : SavedUnit). InRange (registers (kind_at u.position)) u.registers.items)
    c.args.units.now (each-fits c.args.units.now (units-fit 0 (map unit_in c.args.units.now) c.requires.valid)) c.loop-unit.unit-index _ c.loop-unit-test.true)

pub loop-unit-preserved : goal.loop-unit-preserved
loop-unit-preserved g c = record {
  rest = unit-more c.args.units.now c.loop-unit.unit-index c.unit-item.result c.loop-unit.machine.units
      c.put_unit.new.machine.units _ c.loop-unit-test.true c.unit-item.is
      (ap (λ (m : MachineState). m.units) c.put_unit.ensures) c.loop-unit.invariant.rest;
  others = units-alone c.args.machine.now c.loop-unit.machine c.put_unit.new.machine _ c.put_unit.ensures
      c.loop-unit.invariant.others;
}

pub returns-then-lacks : goal.returns-then-lacks
returns-then-lacks g c =
    let units = c.args.machine.now.units in
    let us = map unit_in c.args.units.now in
    let end : c.loop-unit.machine.units ≡ units_set units (units_said c.args.units.now) =
    units-end c.args.units.now c.loop-unit.unit-index c.loop-unit.machine.units (units_set units (units_said c.args.units.now))
    c.loop-unit-test.false c.loop-unit.invariant.rest in
    let stand = units-stand units us (count-of-parts c.args.units.now c.requires.all) c.requires.valid c.requires.there c.requires.standard in
    units-alone c.args.machine.now c.loop-unit.machine c.put_first.new.machine _ c.put_first.ensures c.loop-unit.invariant.others
    ∙ ap (λ (us : List UnitState). record c.args.machine.now { units = us })
    (first-put units us c.loop-unit.machine.units c.lacks_first-lacks.result (sym c.lacks_first-lacks.ensures) end stand c.if-lacks.true
    c.put_first.new.machine.units (ap (λ (m : MachineState). m.units) c.put_first.ensures))

pub returns-else-lacks : goal.returns-else-lacks
returns-else-lacks g c =
    let units = c.args.machine.now.units in
    let us = map unit_in c.args.units.now in
    let end : c.loop-unit.machine.units ≡ units_set units (units_said c.args.units.now) =
    units-end c.args.units.now c.loop-unit.unit-index c.loop-unit.machine.units (units_set units (units_said c.args.units.now))
    c.loop-unit-test.false c.loop-unit.invariant.rest in
    let stand = units-stand units us (count-of-parts c.args.units.now c.requires.all) c.requires.valid c.requires.there c.requires.standard in
    c.loop-unit.invariant.others
    ∙ ap (λ (us : List UnitState). record c.args.machine.now { units = us })
    (none-put units us c.loop-unit.machine.units c.lacks_first-lacks.result (sym c.lacks_first-lacks.ensures) end stand c.if-lacks.false)
