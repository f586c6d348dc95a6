-- What a value in a place leaves as it is.
use Rattle.std.proofs.Common.{◌≡◌, ℕ, Bool, true, false, cond, nat_lt, List, [], ◌∷◌, length, set, refl, ap, ap₂, ◌∙◌}
use Rattle.std.proofs.lemmas.List.{length-set}
use Rattle.nova_memory.specs.Memory.{MemoryState, put}
use Rattle.unit_trait.specs.declared.kind.Kind.{Kind}
use Rattle.unit_trait.specs.declared.processor.CpuReg.{CpuReg}
use Rattle.unit_trait.specs.declared.processor.CpuReg.TheVariants.{Ac0, Ac1, Ac2, Ac3, C, Pc, Ion, Hold, Mask, Sr, StopDev, Size}
use Rattle.unit_trait.specs.Calls.{UnitState}
use Rattle.unit_list.specs.Bus.{kinds_of}
use Rattle.nova_machine.specs.Machine.{MachineState}
use Rattle.nova_machine.specs.Registers.{register_of, with_register}
use Rattle.scp_examine.specs.Shape.{Shape, shape_of}
use Rattle.scp_examine.specs.Places.{Place, Cell, Register, UnitRegister}
use Rattle.scp_examine.specs.Effect.{filled, with_value}
use Rattle.scp_examine.proofs.UnitLemmas.{kinds-set}

pub size-put : (mem : MemoryState) (a v : ℕ) → (put mem a v).size ≡ mem.size
size-put mem a v = by_place (nat_lt a mem.size)
  where
    by_place : (within : Bool) → (cond within (record mem { words = set mem.words a v }) mem).size ≡ mem.size
    by_place true = refl
    by_place false = refl

-- a register of the processor leaves all that is no register of it
pub record KeepsRest (before after : MachineState) : Type 0 where
  pub memory : after.processor.memory ≡ before.processor.memory
  pub units : after.units ≡ before.units
  pub events : after.events ≡ before.events
  pub time : after.time ≡ before.time
  pub accumulators : length after.processor.cpu.accumulators ≡ length before.processor.cpu.accumulators

pub register_keeps : (m : MachineState) (r : CpuReg) (v : ℕ) → KeepsRest m (with_register m r v)
register_keeps m Ac0 v = record { memory = refl; units = refl; events = refl; time = refl; accumulators = length-set m.processor.cpu.accumulators 0 v }
register_keeps m Ac1 v = record { memory = refl; units = refl; events = refl; time = refl; accumulators = length-set m.processor.cpu.accumulators 1 v }
register_keeps m Ac2 v = record { memory = refl; units = refl; events = refl; time = refl; accumulators = length-set m.processor.cpu.accumulators 2 v }
register_keeps m Ac3 v = record { memory = refl; units = refl; events = refl; time = refl; accumulators = length-set m.processor.cpu.accumulators 3 v }
register_keeps m C v = record { memory = refl; units = refl; events = refl; time = refl; accumulators = refl }
register_keeps m Pc v = record { memory = refl; units = refl; events = refl; time = refl; accumulators = refl }
register_keeps m Ion v = record { memory = refl; units = refl; events = refl; time = refl; accumulators = refl }
register_keeps m Hold v = record { memory = refl; units = refl; events = refl; time = refl; accumulators = refl }
register_keeps m Mask v = record { memory = refl; units = refl; events = refl; time = refl; accumulators = refl }
register_keeps m Sr v = record { memory = refl; units = refl; events = refl; time = refl; accumulators = refl }
register_keeps m StopDev v = record { memory = refl; units = refl; events = refl; time = refl; accumulators = refl }
register_keeps m Size v = record { memory = refl; units = refl; events = refl; time = refl; accumulators = refl }

-- the machine with another memory of the same size holds the same in its registers
pub register_of-memory : (m : MachineState) (memory : MemoryState) (r : CpuReg) → memory.size ≡ m.processor.memory.size
    → register_of (record m { processor = record m.processor { memory = memory } }) r ≡ register_of m r
register_of-memory m memory Ac0 same = refl
register_of-memory m memory Ac1 same = refl
register_of-memory m memory Ac2 same = refl
register_of-memory m memory Ac3 same = refl
register_of-memory m memory C same = refl
register_of-memory m memory Pc same = refl
register_of-memory m memory Ion same = refl
register_of-memory m memory Hold same = refl
register_of-memory m memory Mask same = refl
register_of-memory m memory Sr same = refl
register_of-memory m memory StopDev same = refl
register_of-memory m memory Size same = same

-- .. and so does the machine with other units
pub register_of-units : (m : MachineState) (units : List UnitState) (r : CpuReg) → register_of (record m { units = units }) r ≡ register_of m r
register_of-units m units Ac0 = refl
register_of-units m units Ac1 = refl
register_of-units m units Ac2 = refl
register_of-units m units Ac3 = refl
register_of-units m units C = refl
register_of-units m units Pc = refl
register_of-units m units Ion = refl
register_of-units m units Hold = refl
register_of-units m units Mask = refl
register_of-units m units Sr = refl
register_of-units m units StopDev = refl
register_of-units m units Size = refl

abbrev shape : ℕ → List Kind → Shape
shape size kinds = record { size = size; kinds = kinds }

-- a value in a place keeps what places depend on
pub with_value-shape : (v : ℕ) (m : MachineState) (place : Place) → shape_of (with_value v m place) ≡ shape_of m
with_value-shape v m (Cell a) = ap (λ size. shape size (kinds_of m.units)) (size-put m.processor.memory a v)
with_value-shape v m (Register r) =
    let kept = register_keeps m r v in
    ap₂ shape (ap (λ (mem : MemoryState). mem.size) kept.memory) (ap kinds_of kept.units)
with_value-shape v m (UnitRegister kind i) = ap (λ kinds. shape m.processor.memory.size kinds) (kinds-set kind i v m.units)

pub filled-shape : (v : ℕ) (m : MachineState) (places : List Place) → shape_of (filled v m places) ≡ shape_of m
unfolding filled
filled-shape v m [] = refl
filled-shape v m (p ∷ more) = filled-shape v (with_value v m p) more ∙ with_value-shape v m p
