-- One step of the machine: the units whose events are due are served, an interrupt may be entered, the breaks are tested,
-- and the word at PC is fetched and executed.
use Rattle.std.specs.Prelude.{ℕ, ◌&&◌, Bool, false, not, Option, Some, None, option_map, nat_lt, if◌then◌else◌}
use Rattle.nova_memory.specs.Memory.{MemoryState, get, put}
use Rattle.nova_memory.specs.Address.{Reference, address}
use Rattle.nova_interrupts.specs.Requests.{requested}
use Rattle.nova_machine.specs.declared.machine.Stop.TheVariants.{ChainLimit, Break}
use Rattle.expect_actions.specs.Breaks.{stop_at, after_test}
use Rattle.nova_machine.specs.Machine.{MachineState}
use Rattle.nova_machine.specs.Seen.{Seen}
use Rattle.nova_machine.specs.Parts.{Part, silent, then_part}
use Rattle.nova_machine.specs.Turned.{Turned, goes_on, stops, still, executed}
use Rattle.nova_processor.specs.Instruction.{memory_reference, arithmetic}
use Rattle.nova_machine.specs.Transfer.{transfer}
use Rattle.nova_machine.specs.Notes.{UnitNote}
use Rattle.nova_machine.specs.Service.{serving}

-- the machine with that memory
abbrev pub with_memory : MachineState → MemoryState → MachineState
with_memory m memory = record m { processor = record m.processor { memory = memory } }

-- a memory reference at its effective address, if its chain ends. Where it does not, the machine is as it was, but for
-- the words that the chain changed.
abbrev pub refer_to : ℕ → Option ℕ → MachineState → Turned
refer_to word None m = stops ChainLimit m
refer_to word (Some address) m = goes_on (executed (memory_reference word address) m)

-- a memory reference: its effective address is formed first
unfoldable pub refer : ℕ → MachineState → Turned
refer word m =
    let reference = address m.processor.memory word m.processor.cpu.pc m.processor.cpu.accumulators in
    refer_to word reference.address (with_memory m reference.memory)

-- the instruction of a word
unfoldable pub execute : ℕ → MachineState → Turned
execute word m =
    if nat_lt word 0o60000 then refer word m
    else if nat_lt word 0o100000 then transfer word m
    else goes_on (executed (arithmetic word) m)

-- the word at PC is executed
unfoldable pub fetch : MachineState → Turned
fetch m = execute (get m.processor.memory m.processor.cpu.pc) m

-- an interrupt comes where interrupts are on and wait for no instruction, and a unit asks for one
abbrev pub is_interrupted : MachineState → Bool
is_interrupted m = (m.ints.on && not m.ints.hold) && requested m.ints.mask m.units

-- PC becomes the address of a JMP, if its chain ends
abbrev pub jump_to : Option ℕ → MachineState → Turned
jump_to None m = stops ChainLimit m
jump_to (Some address) m = goes_on (record m { processor = record m.processor { cpu = record m.processor.cpu { pc = address } } })

-- the words that an interrupt needs: the reference of JMP @1, with PC in location 0
abbrev pub interrupt_reference : MachineState → Reference
interrupt_reference m = address (put m.processor.memory 0 m.processor.cpu.pc) 0o2001 m.processor.cpu.pc m.processor.cpu.accumulators

-- An interrupt is entered (How to Use the Nova Computers, "Program Interrupt"): interrupts go off, PC goes to location 0,
-- and the program goes on as by JMP @1. Where that chain has no end the machine stops with the PC that it had.
unfoldable pub enter : MachineState → Turned
enter m =
    let reference = interrupt_reference m in
    jump_to reference.address (with_memory (record m { ints = record m.ints { on = false } }) reference.memory)

unfoldable pub interrupt : MachineState → Turned
interrupt m = if is_interrupted m then enter m else goes_on m

-- the services, and the interrupt
unfoldable pub attended : Option UnitNote → Seen → Part
attended note s = then_part (serving note s) (λ served. still served (interrupt served.machine))

-- the breaks are tested at PC
unfoldable pub breaks_tested : Seen → Part
breaks_tested s =
    silent (option_map Break (stop_at s.machine.processor.cpu.pc s.watch.breaks.list))
    (record s { watch = record s.watch { breaks = after_test s.machine.processor.cpu.pc s.watch.breaks } })

-- a run's first turn tests none
abbrev pub breaks_tested_unless : Bool → Seen → Part
breaks_tested_unless first s = if first then silent None s else breaks_tested s

-- what comes before the instruction
unfoldable pub prepared : Option UnitNote → Bool → Seen → Part
prepared note first s = then_part (attended note s) (λ at. breaks_tested_unless first at)

-- A turn, which may be a run's first: what comes before the instruction, and the instruction. Where a service, the interrupt
-- or a break stops, the turn ends there. One call on a unit's file may fail in it.
unfoldable pub turn : Option UnitNote → Bool → Seen → Part
turn note first s = then_part (prepared note first s) (λ ready. still ready (fetch ready.machine))
