use Rattle.std.proofs.Common.{◌≡◌, ℕ, ◌<◌, Some, length, map, sym, subst, ◌∙◌, arith}
use Rattle.std.proofs.lemmas.List.{length-map, take_all}
use Rattle.unit_trait.specs.declared.kind.Kind.{Kind}
use Rattle.unit_trait.specs.Kinds.{code_of}
use Rattle.unit_list.specs.Bus.{unit_at}
use Rattle.saved_session.specs.declared.saved.SavedUnit.{SavedUnit}
use Rattle.saved_session.specs.Parts.{unit_in}
use Rattle.state_transfer.specs.Session.{saved_unit}
use Rattle.state_transfer.proofs.TakingLemmas.{unit-stands, unit-place}
use Rattle.saved_session.proofs.TakenLists.{takes}
use Rattle.state_transfer.proofs.taking_machine.taken_units.Goals as goal

pub loop-position-preserved : goal.loop-position-preserved
loop-position-preserved g c =
    let units = c.args.machine.now.units in
    let p = c.loop-position.position in
    let low : p < length units = subst (λ (n : ℕ). p < n) c.unit_count-position-end.ensures c.loop-position-test.true in
    let stands = unit-stands units c.requires p low in
    let place = unit-place units c.requires p stands.unit low stands.got in
    let found : unit_at (code_of c.kind_at.result) units ≡ Some stands.unit =
    subst (λ (k : Kind). unit_at (code_of k) units ≡ Some stands.unit) (sym c.kind_at.ensures) stands.found in
    let registers = c.in_ok-registers.ensures stands.unit found in
    let y : SavedUnit = record { position = p; registers = c.in_ok-registers.registers } in
    takes unit_in saved_unit c.loop-position.units.items y c.push.new.self.items units p stands.unit
    c.loop-position.invariant stands.got (λ i. record { position = sym place i; registers = registers i })
    c.in_ok-push.ensures.items

pub returns : goal.returns
returns g c =
    let units = c.args.machine.now.units in
    let past = c.loop-position-test.false in
    let many = c.unit_count-position-end.ensures in
    let size : length (map saved_unit units) ≡ length units = length-map units saved_unit in
    c.loop-position.invariant ∙ take_all c.loop-position.position (map saved_unit units) (omega (arith, many, size, past))
