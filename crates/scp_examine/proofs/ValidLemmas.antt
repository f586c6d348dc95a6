-- A DEPOSIT without a fault leaves a machine in which all is in range, and leaves its time, the keys taken and its files.
use Rattle.std.proofs.Common.{◌≡◌, ℕ, ◌^◌, ◌-◌, ◌<◌, ◌≤◌, nat_le, Bool, true, List, [], ◌∷◌, set, None, refl, sym, subst, ◌∙◌, arith}
use Rattle.std.proofs.lemmas.Bool.{leb-true}
use Rattle.std.proofs.lemmas.List.{length-set}
use Rattle.std.proofs.lemmas.List.Elements.{All-from_recursion, recursion_from_All, All-set}
use Rattle.nova_memory.specs.Memory.{IsSize}
use Rattle.nova_memory.proofs.Keeps.{put-memory}
use Rattle.unit_trait.specs.declared.kind.Kind.{Kind}
use Rattle.unit_trait.specs.declared.processor.CpuReg.{CpuReg}
use Rattle.unit_trait.specs.declared.processor.CpuReg.TheVariants.{Ac0, Ac1, Ac2, Ac3, C, Pc, Ion, Hold, Mask, Sr, StopDev, Size}
use Rattle.unit_trait.specs.Registers.{register_at}
use Rattle.unit_trait.specs.Row.{takes_value}
use Rattle.unit_list.specs.Bus.{kinds_of}
use Rattle.nova_machine.specs.Machine.{MachineState}
use Rattle.nova_machine.specs.Registers.{with_cpu, with_register}
use Rattle.nova_machine.specs.Core.{AreListed}
use Rattle.nova_machine.specs.Valid.{ValidCpu, ValidMachine}
use Rattle.operand_forms.specs.declared.listing.Listing.{Listing}
use Rattle.scp_examine.specs.Shape.{Shape, shape_of}
use Rattle.scp_examine.specs.Places.{Place, Cell, Register, UnitRegister}
use Rattle.scp_examine.specs.Checks.{out_of_range_unless, value_fault}
use Rattle.scp_examine.specs.Effect.{with_value, filled, all_places, fault_of_deposit, deposited}
use Rattle.scp_examine.proofs.UnitLemmas.{all_fit-set, kinds-set}
use Rattle.scp_examine.proofs.KeepLemmas.{size-put, with_value-shape}
use Rattle.scp_examine.proofs.FillLemmas.{fits_from_none}
use Rattle.scp_examine.proofs.DepositLemmas.{Takes, AllTake, word_value, items_take}

-- ---- all is in range

pub cpu-valid : (m : MachineState) (cpu : _) → ValidMachine m → ValidCpu cpu → ValidMachine (with_cpu m cpu)
cpu-valid m cpu is new = record {
  memory = is.memory;
  size = is.size;
  cpu = new;
  mask = is.mask;
  switches = is.switches;
  core = record { registers = is.core.registers; sound = is.core.sound; listed = is.core.listed; times = is.core.times };
  places = is.places;
  names = is.names;
  disk = is.disk;
}

accumulator-valid : (m : MachineState) (i v : ℕ) → ValidMachine m → v < 2 ^ 16
    → ValidMachine (with_cpu m (record m.processor.cpu { accumulators = set m.processor.cpu.accumulators i v }))
accumulator-valid m i v is word =
    let Word : ℕ → Type 0 = λ w. w < 2 ^ 16 in
    let acs = m.processor.cpu.accumulators in
    cpu-valid m _ is (record {
      four = length-set acs i v ∙ is.cpu.four;
      words = recursion_from_All Word (set acs i v) (All-set Word acs i v word (All-from_recursion Word acs is.cpu.words));
      pc = is.cpu.pc;
    })

pub pc-valid : (m : MachineState) (a : ℕ) → ValidMachine m → a < 2 ^ 15 → ValidMachine (with_register m Pc a)
pc-valid m a is low = cpu-valid m _ is (record { four = is.cpu.four; words = is.cpu.words; pc = low })

-- the same but for the flags of interrupts, the switches and STOP_DEV
rest-valid : (m : MachineState) (mask sr : ℕ) (on hold stop_dev : Bool) → ValidMachine m → mask < 2 ^ 16 → sr < 2 ^ 16
    → ValidMachine (record m { ints = record { mask = mask; on = on; hold = hold }; sr = sr; stop_dev = stop_dev })
rest-valid m mask sr on hold stop_dev is low fits = record {
  memory = is.memory;
  size = is.size;
  cpu = is.cpu;
  mask = low;
  switches = fits;
  core = record { registers = is.core.registers; sound = is.core.sound; listed = is.core.listed; times = is.core.times };
  places = is.places;
  names = is.names;
  disk = is.disk;
}

address_value : (v : ℕ) → out_of_range_unless (nat_le v (2 ^ 15 - 1)) ≡ None → v < 2 ^ 15
address_value v none =
    let h : v ≤ 32767 = leb-true v 32767 (fits_from_none (nat_le v 32767) none) in
    omega arith

register-valid : (m : MachineState) (r : CpuReg) (v : ℕ) → ValidMachine m → value_fault v (Register r) ≡ None → ValidMachine (with_register m r v)
register-valid m Ac0 v is none = accumulator-valid m 0 v is (word_value v none)
register-valid m Ac1 v is none = accumulator-valid m 1 v is (word_value v none)
register-valid m Ac2 v is none = accumulator-valid m 2 v is (word_value v none)
register-valid m Ac3 v is none = accumulator-valid m 3 v is (word_value v none)
register-valid m C v is none = cpu-valid m _ is (record { four = is.cpu.four; words = is.cpu.words; pc = is.cpu.pc })
register-valid m Pc v is none = pc-valid m v is (address_value v none)
register-valid m Ion v is none = rest-valid m m.ints.mask m.sr _ m.ints.hold m.stop_dev is is.mask is.switches
register-valid m Hold v is none = rest-valid m m.ints.mask m.sr m.ints.on _ m.stop_dev is is.mask is.switches
register-valid m Mask v is none = rest-valid m v m.sr m.ints.on m.ints.hold m.stop_dev is (word_value v none) is.switches
register-valid m Sr v is none = rest-valid m m.ints.mask v m.ints.on m.ints.hold m.stop_dev is is.mask (word_value v none)
register-valid m StopDev v is none = rest-valid m m.ints.mask m.sr m.ints.on m.ints.hold _ is is.mask is.switches
register-valid m Size v is none = is

-- a register of a unit that takes the value
pub unit-valid : (m : MachineState) (kind : Kind) (i v : ℕ) → ValidMachine m → takes_value (register_at kind i) v ≡ true
    → ValidMachine (with_value v m (UnitRegister kind i))
unit-valid m kind i v is takes = record {
  memory = is.memory;
  size = is.size;
  cpu = is.cpu;
  mask = is.mask;
  switches = is.switches;
  core = record {
    registers = all_fit-set kind i v m.units takes is.core.registers;
    sound = is.core.sound;
    listed = subst (λ (kinds : List Kind). AreListed kinds m.events) (sym (kinds-set kind i v m.units)) is.core.listed;
    times = is.core.times;
  };
  places = is.places;
  names = is.names;
  disk = is.disk;
}

value-valid : (m : MachineState) (place : Place) (v : ℕ) → ValidMachine m → Takes (shape_of m) v place → ValidMachine (with_value v m place)
value-valid m (Cell a) v is takes = record {
  memory = put-memory m.processor.memory a v is.memory (word_value v takes.fits);
  size = subst IsSize (sym (size-put m.processor.memory a v)) is.size;
  cpu = is.cpu;
  mask = is.mask;
  switches = is.switches;
  core = record { registers = is.core.registers; sound = is.core.sound; listed = is.core.listed; times = is.core.times };
  places = is.places;
  names = is.names;
  disk = is.disk;
}
value-valid m (Register r) v is takes = register-valid m r v is takes.fits
value-valid m (UnitRegister kind i) v is takes = unit-valid m kind i v is (fits_from_none (takes_value (register_at kind i) v) takes.fits)

filled-valid : (m : MachineState) (v : ℕ) (places : List Place) → ValidMachine m → AllTake (shape_of m) v places → ValidMachine (filled v m places)
unfolding filled
filled-valid m v [] is take = is
filled-valid m v (p ∷ more) is take =
    filled-valid (with_value v m p) v more (value-valid m p v is take.0)
    (subst (λ (shape : Shape). AllTake shape v more) (sym (with_value-shape v m p)) take.1)

pub deposited-valid : (m : MachineState) (l : Listing) (v : ℕ) → ValidMachine m → fault_of_deposit m l v ≡ None → ValidMachine (deposited m l v)
unfolding fault_of_deposit deposited
deposited-valid m l v is none = filled-valid m v (all_places (shape_of m) l.device l.items) is (items_take (shape_of m) v l.device l.items none)

-- ---- what no DEPOSIT changes

pub record LeavesRest (before after : MachineState) : Type 0 where
  pub time : after.time ≡ before.time
  pub taken : after.taken ≡ before.taken
  pub kinds : kinds_of after.units ≡ kinds_of before.units
  pub slots : after.slots ≡ before.slots
  pub disk : after.disk ≡ before.disk
  pub lines : after.lines ≡ before.lines

value-leaves : (m : MachineState) (place : Place) (v : ℕ) → LeavesRest m (with_value v m place)
value-leaves m (Cell a) v = record { time = refl; taken = refl; kinds = refl; slots = refl; disk = refl; lines = refl }
value-leaves m (Register r) v = by-register r
  where
    by-register : (r : CpuReg) → LeavesRest m (with_register m r v)
    by-register Ac0 = record { time = refl; taken = refl; kinds = refl; slots = refl; disk = refl; lines = refl }
    by-register Ac1 = record { time = refl; taken = refl; kinds = refl; slots = refl; disk = refl; lines = refl }
    by-register Ac2 = record { time = refl; taken = refl; kinds = refl; slots = refl; disk = refl; lines = refl }
    by-register Ac3 = record { time = refl; taken = refl; kinds = refl; slots = refl; disk = refl; lines = refl }
    by-register C = record { time = refl; taken = refl; kinds = refl; slots = refl; disk = refl; lines = refl }
    by-register Pc = record { time = refl; taken = refl; kinds = refl; slots = refl; disk = refl; lines = refl }
    by-register Ion = record { time = refl; taken = refl; kinds = refl; slots = refl; disk = refl; lines = refl }
    by-register Hold = record { time = refl; taken = refl; kinds = refl; slots = refl; disk = refl; lines = refl }
    by-register Mask = record { time = refl; taken = refl; kinds = refl; slots = refl; disk = refl; lines = refl }
    by-register Sr = record { time = refl; taken = refl; kinds = refl; slots = refl; disk = refl; lines = refl }
    by-register StopDev = record { time = refl; taken = refl; kinds = refl; slots = refl; disk = refl; lines = refl }
    by-register Size = record { time = refl; taken = refl; kinds = refl; slots = refl; disk = refl; lines = refl }
value-leaves m (UnitRegister kind i) v = record { time = refl; taken = refl; kinds = kinds-set kind i v m.units; slots = refl; disk = refl; lines = refl }

filled-leaves : (m : MachineState) (v : ℕ) (places : List Place) → LeavesRest m (filled v m places)
unfolding filled
filled-leaves m v [] = record { time = refl; taken = refl; kinds = refl; slots = refl; disk = refl; lines = refl }
filled-leaves m v (p ∷ more) =
    let one = value-leaves m p v in
    let rest = filled-leaves (with_value v m p) v more in
    record {
      time = rest.time ∙ one.time;
      taken = rest.taken ∙ one.taken;
      kinds = rest.kinds ∙ one.kinds;
      slots = rest.slots ∙ one.slots;
      disk = rest.disk ∙ one.disk;
      lines = rest.lines ∙ one.lines;
    }

pub deposited-leaves : (m : MachineState) (l : Listing) (v : ℕ) → LeavesRest m (deposited m l v)
unfolding deposited
deposited-leaves m l v = filled-leaves m v (all_places (shape_of m) l.device l.items)
