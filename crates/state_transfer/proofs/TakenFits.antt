-- What was taken of a session has a text.
use Rattle.std.proofs.Common.{◌≡◌, ◌<◌, ◌≤◌, ◌^◌, ℕ, List, [], ◌∷◌, length, map, inl, inr, sym, ◌∙◌, arith}
use Rattle.std.proofs.lemmas.List.{length-map, length-take-le}
use Rattle.unit_trait.specs.Registers.{registers}
use Rattle.unit_trait.specs.Calls.{UnitState}
use Rattle.unit_list.specs.Bus.{AllFit}
use Rattle.nova_memory.specs.Memory.{IsMemory, IsSize}
use Rattle.nova_machine.specs.Core.{IsCore}
use Rattle.nova_machine.specs.Machine.{MachineState}
use Rattle.saved_session.specs.Parts.{FilePart}
use Rattle.saved_session.specs.Ranges.{register_count, most_events}
use Rattle.saved_session.specs.Valid.{UnitsFit, FilesFit, MachineFits}
use Rattle.saved_files.specs.TakingOne.{AreNamed}
use Rattle.state_transfer.specs.Session.{saved_unit, saved_event, saved_machine}
use Rattle.state_transfer.specs.SavedValid.{AreStandard}
use Rattle.saved_session.proofs.RegisterCounts.{few_registers}
use Rattle.state_transfer.proofs.TakenSizes.{size-back, as-many, few-events}
use Rattle.state_transfer.proofs.TakingLemmas.{ten-many, eleven-many}

less-than : (n m most : ℕ) → n ≡ m → m < most → n < most
less-than n m most same less = omega (arith, same, less)

-- each unit has as many registers as its kind
registers-fit : (us : List UnitState) → AllFit us → UnitsFit (map saved_unit us)
unfolding register_count
registers-fit [] fit = tt
registers-fit (u ∷ us) fit = (
  less-than (length u.registers) (length (registers u.kind)) (2 ^ 8) (as-many (registers u.kind) u.registers fit.0)
      (few_registers u.kind),
  registers-fit us fit.1,
)

few : (us : List UnitState) → AreStandard us → length us < 2 ^ 8
few us (inl ten) = let many = ten-many us ten in omega (arith, many)
few us (inr eleven) = let many = eleven-many us eleven in omega (arith, many)

pub machine-fits : (m : MachineState) → IsMemory m.processor.memory → IsSize m.processor.memory.size → IsCore m
    → AreStandard m.units → MachineFits (saved_machine m)
unfolding saved_machine
machine-fits m is size core standard =
    let memory = m.processor.memory in
    let whole = is.whole in
    let within = is.size in
    let few_units : length m.units < 2 ^ 8 = few m.units standard in
    let all : length (map saved_unit m.units) ≡ length m.units = length-map m.units saved_unit in
    let events : length (map saved_event m.events) ≡ length m.events = length-map m.events saved_event in
    let few_waiting : length m.events ≤ most_events = few-events m.events core.sound in
    record {
      size = length-take-le memory.size memory.words (omega (arith, whole, within)) ∙ sym (size-back memory.size size);
      units = omega (arith, few_units, all);
      registers = registers-fit m.units core.registers;
      agenda = omega (arith, events, few_waiting);
    }

-- names of files are short
pub names-fit : (files : List FilePart) → AreNamed files → FilesFit files
names-fit [] named = tt
names-fit (f ∷ files) named = let short = named.0.1 in (omega (arith, short), names-fit files named.1)
