use Rattle.std.proofs.Common.{◌≡◌, ℕ, true, false, Option, Some, None, Err, is_some, option_map, option_to_list, refl, sym, ap, ◌∙◌}
use Rattle.unit_trait.specs.declared.kind.Kind.{Kind}
use Rattle.unit_trait.specs.Device as table
use Rattle.unit_trait.specs.Registers.{register_at}
use Rattle.nova_machine.specs.Machine.{MachineState}
use Rattle.operand_forms.specs.declared.listing.Name.TheVariants as whose
use Rattle.operand_forms.specs.declared.listing.Condition.{Condition}
use Rattle.scp_examine.specs.declared.fault.ExamineFault.TheVariants.{NoSuchName}
use Rattle.scp_examine.specs.Places.{UnitRegister, named_register, value_at, largest_at}
use Rattle.scp_examine.specs.Effect.{compared, test_of}
use Rattle.scp_examine.proofs.UnitLemmas.{named-unit}
use Rattle.scp_examine.proofs.assert_command.test_unit_register.Goals as goal

tested_there : (m : MachineState) (c : Condition) (kind : Kind) (i : ℕ) → is_some (register_at kind i) ≡ true
    → test_of m c (option_to_list (named_register (whose.Device kind) i)) ≡ compared (value_at m (UnitRegister kind i)) (largest_at (UnitRegister kind i)) c
tested_there m c kind i there = ap (λ o. test_of m c (option_to_list o)) (named-unit kind i) ∙ of (register_at kind i) there
  where
    of : (r : Option table.Register) → is_some r ≡ true
        → test_of m c (option_to_list (option_map (λ x. UnitRegister kind i) r)) ≡ compared (value_at m (UnitRegister kind i)) (largest_at (UnitRegister kind i)) c
    of None h = cc
    of (Some x) h = refl

tested_nowhere : (m : MachineState) (c : Condition) (kind : Kind) (i : ℕ) → is_some (register_at kind i) ≡ false
    → test_of m c (option_to_list (named_register (whose.Device kind) i)) ≡ Err NoSuchName
tested_nowhere m c kind i none = ap (λ o. test_of m c (option_to_list o)) (named-unit kind i) ∙ of (register_at kind i) none
  where
    of : (r : Option table.Register) → is_some r ≡ false → test_of m c (option_to_list (option_map (λ x. UnitRegister kind i) r)) ≡ Err NoSuchName
    of None h = refl
    of (Some x) h = cc

pub returns-then-has_unit_register : goal.returns-then-has_unit_register
returns-then-has_unit_register g c =
    let there : is_some (register_at c.args.kind c.args.number) ≡ true = sym c.has_unit_register.ensures ∙ c.if-has_unit_register.true in
    c.compare.ensures ∙ ap (λ n. compared n c.largest_value.result c.args.condition) c.unit_value.ensures.value
    ∙ ap (λ n. compared (value_at c.args.machine.now (UnitRegister c.args.kind c.args.number)) n c.args.condition) c.largest_value.ensures
    ∙ sym (tested_there c.args.machine.now c.args.condition c.args.kind c.args.number there)

pub returns-else-has_unit_register : goal.returns-else-has_unit_register
returns-else-has_unit_register g c =
    sym (tested_nowhere c.args.machine.now c.args.condition c.args.kind c.args.number (sym c.has_unit_register.ensures ∙ c.if-has_unit_register.false))
