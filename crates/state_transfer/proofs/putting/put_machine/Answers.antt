use Rattle.std.proofs.Common.{◌≡◌, ◌≤◌, ap, sym, subst, ◌∙◌, rules, IsTrue, List, [], length, map}
use Rattle.nova_machine.specs.Machine.{MachineState}
use Rattle.saved_session.specs.declared.saved.SavedUnit.{SavedUnit}
use Rattle.saved_session.specs.declared.saved.SavedEvent.{SavedEvent}
use Rattle.saved_session.specs.Parts.{state_in, unit_in}
use Rattle.saved_session.specs.Ranges.{is_unit_count}
use Rattle.saved_session.specs.Valid.{Follow, IsEvent}
use Rattle.saved_session.specs.Order.{with_event}
use Rattle.unit_trait.specs.Calls.{UnitState}
use Rattle.state_transfer.specs.PutBack.{unit_from, lack_multiplexer, units_from}
use Rattle.state_transfer.specs.Putting.{with_machine_of}
use Rattle.state_transfer.specs.SavedValid.{AreStandard}
use Rattle.state_transfer.proofs.PutBackMachineLemmas.{units-standard, as-many-units}
use Rattle.state_transfer.proofs.PuttingLemmas.{parts-long, of-more, seen-as}
use Rattle.state_transfer.proofs.putting.put_machine.Goals as goal

pub put_units-requires-clause-standard : goal.put_units-requires-clause-standard
put_units-requires-clause-standard g c =
    let units : c.put_memory.new.machine.units ≡ c.args.machine.now.units =
    ap (λ (m : MachineState). m.units)
    (c.put_memory.ensures c.args.saved.now.cpu.size_k (ap (λ (l : List _). length l) c.deref.ensures.value ∙ c.requires.valid.size))
    ∙ ap (λ (m : MachineState). m.units) c.put_cpu.ensures in
    subst AreStandard (sym units) c.requires.standard

pub put_units-requires-clause-all : goal.put_units-requires-clause-all
put_units-requires-clause-all g c =
    subst (λ (l : List SavedUnit). IsTrue (is_unit_count (length l))) (sym c.deref-2.ensures.value)
    (ap is_unit_count (sym (parts-long c.args.saved.now.units.items)) ∙ c.requires.valid.all)

pub put_units-requires-clause-there : goal.put_units-requires-clause-there
put_units-requires-clause-there g c =
    let units : c.put_memory.new.machine.units ≡ c.args.machine.now.units =
    ap (λ (m : MachineState). m.units)
    (c.put_memory.ensures c.args.saved.now.cpu.size_k (ap (λ (l : List _). length l) c.deref.ensures.value ∙ c.requires.valid.size))
    ∙ ap (λ (m : MachineState). m.units) c.put_cpu.ensures in
    (λ i. lack_multiplexer (units i) (map unit_from (map unit_in (c.deref-2.ensures.value i)))) ∙ c.requires.there

pub put_agenda-requires-clause-standard : goal.put_agenda-requires-clause-standard
put_agenda-requires-clause-standard g c =
    let units : c.put_units.new.machine.units ≡ units_from (map unit_in c.args.saved.now.units.items) c.put_memory.new.machine.units =
    ap (λ (m : MachineState). m.units) c.put_units.ensures
    ∙ ap (λ (l : List SavedUnit). units_from (map unit_in l) c.put_memory.new.machine.units) c.deref-2.ensures.value in
    subst AreStandard (sym units) (units-standard (state_in c.args.saved.now).machine c.put_memory.new.machine.units c.requires.valid)

pub put_agenda-requires-clause-valid : goal.put_agenda-requires-clause-valid
put_agenda-requires-clause-valid g c =
    let m = (state_in c.args.saved.now).machine in
    let units : c.put_units.new.machine.units ≡ units_from m.units c.put_memory.new.machine.units =
    ap (λ (m : MachineState). m.units) c.put_units.ensures
    ∙ ap (λ (l : List SavedUnit). units_from (map unit_in l) c.put_memory.new.machine.units) c.deref-2.ensures.value in
    let many = as-many-units m.units c.put_memory.new.machine.units in
    let all : length m.units ≤ length c.put_units.new.machine.units =
    subst (λ (us : List UnitState). length m.units ≤ length us) (sym units) many in
    subst (λ (es : List SavedEvent). Follow (IsEvent (length c.put_units.new.machine.units)) with_event [] es) (sym c.deref-3.ensures.value)
    (of-more (length m.units) (length c.put_units.new.machine.units) [] m.agenda all c.requires.valid.agenda)

pub returns-clause-seen : goal.returns-clause-seen
returns-clause-seen g c =
    let machine : c.put_agenda.new.machine ≡ with_machine_of c.args.machine.now (state_in c.args.saved.now).machine =
    search rules in
    seen-as c.args.machine.now c.put_agenda.new.machine (state_in c.args.saved.now).machine machine

pub returns-clause-standard : goal.returns-clause-standard
returns-clause-standard g c =
    let machine : c.put_agenda.new.machine ≡ with_machine_of c.args.machine.now (state_in c.args.saved.now).machine =
    search rules in
    subst AreStandard (sym (ap (λ (m : MachineState). m.units) machine))
    (units-standard (state_in c.args.saved.now).machine c.args.machine.now.units c.requires.valid)
