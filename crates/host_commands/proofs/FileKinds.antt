-- The kinds of a machine's units stand behind a tape that is read, and behind a file that is attached.
use Rattle.std.proofs.Common.{◌≡◌, refl, ℕ, Bool, true, false, List, Result, Ok, Err, if◌then◌else◌}
use Rattle.std.specs.Global.{Vec}
use Rattle.unit_trait.specs.declared.kind.UnitName.{UnitName}
use Rattle.unit_trait.specs.Calls.{UnitState}
use Rattle.unit_list.specs.Bus.{kinds_of, with_register_in}
use Rattle.nova_machine.specs.Machine.{MachineState}
use Rattle.binary_load.specs.Tape.{Tape}
use Rattle.binary_load.specs.declared.faults.LoadFault.{LoadFault}
use Rattle.whole_files.specs.declared.whole.WholeFault.{WholeFault}
use Rattle.scp_examine.proofs.UnitLemmas.{kinds-set}
use Rattle.command_session.specs.TapeEffects.{tape_in, tape_machine, read_machine}
use Rattle.command_session.specs.FileEffects.{has_position, position_number, positioned}
use Rattle.command_session.proofs.KindLemmas.{starting-kinds}

-- where a tape was read
tape-kinds : (r : Result Tape LoadFault) (m : MachineState) → kinds_of (tape_machine r m).units ≡ kinds_of m.units
tape-kinds (Ok says) m = starting-kinds says.start _
tape-kinds (Err fault) m = refl

pub read-kinds : (bytes : Result (Vec ℕ) WholeFault) (m : MachineState) → kinds_of (read_machine bytes m).units ≡ kinds_of m.units
read-kinds (Ok v) m = tape-kinds (tape_in m v.items) m
read-kinds (Err why) m = refl

-- where a unit's register says the place in its file
pub positioned-kinds : (unit : UnitName) (place : ℕ) (us : List UnitState) → kinds_of (positioned unit place us) ≡ kinds_of us
positioned-kinds unit place us = by-test (has_position unit.kind)
  where
    by-test : (b : Bool) → kinds_of (if b then with_register_in unit.kind (position_number unit) place us else us) ≡ kinds_of us
    by-test true = kinds-set unit.kind (position_number unit) place us
    by-test false = refl
