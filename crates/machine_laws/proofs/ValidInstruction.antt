-- The instruction and the interrupt keep what every machine is, and take no key.
use Rattle.std.proofs.Common.{◌≡◌, ℕ, ◌+◌, ◌^◌, ◌<◌, ◌≤◌, ◌==◌, Bool, false, nat_lt, List, [], slice_index, Option, Some, None, IfSome, is_some, option_map, cond, refl, sym, subst, ◌∙◌, arith}
use Rattle.std.proofs.lemmas.Bool.{cond_both}
use Rattle.nova_word.specs.Bits.{bits}
use Rattle.unit_trait.specs.declared.kind.Kind.{Kind}
use Rattle.unit_trait.specs.Kinds.{code_of, units_of}
use Rattle.unit_trait.specs.Calls.{UnitState, UnitCall, Io, Row}
use Rattle.unit_trait.proofs.EveryKind.{every-kind}
use Rattle.event_queue.specs.EventList.{Event, Sound, ticked as ticked_events}
use Rattle.event_queue.proofs.SoundLists.{sound-none, sound-lowered}
use Rattle.unit_list.specs.Bus.{unit_at, row_at, kinds_of, AllFit}
use Rattle.unit_list.specs.Reset.{reset_events}
use Rattle.unit_list.specs.Laws.{IsTimely}
use Rattle.unit_list.proofs.Calls.{after-kinds, io-fits, word-at, timely-at, low-at}
use Rattle.unit_list.proofs.Resets.{reset-fits, reset-kinds, sound-wished, sound-resets}
use Rattle.nova_interrupts.specs.declared.interrupts.Ints.{Ints}
use Rattle.nova_interrupts.specs.Interrupts.{no_interrupts, enabled, disabled, released}
use Rattle.nova_interrupts.specs.Requests.{first_asking, code_or_none, acknowledged}
use Rattle.nova_memory.specs.Memory.{MemoryState, IsMemory, IsSize, get, put}
use Rattle.nova_memory.specs.Address.{address}
use Rattle.nova_memory.proofs.Chains.{put-size}
use Rattle.nova_memory.proofs.Keeps.{put-memory, address-memory, address-size, address-low}
use Rattle.nova_processor.specs.Processor.{ProcessorState}
use Rattle.nova_processor.specs.Instruction.{jump, memory_reference, arithmetic}
use Rattle.nova_processor.specs.InputOutput.{input, past, tested, unanswered, multiply_divide}
use Rattle.nova_processor.proofs.Keeps.{IsProcessor, word-held, jump-keeps, reference-keeps, arithmetic-keeps, input-keeps, past-keeps, passed-keeps, tested-keeps, unanswered-keeps, multiply_divide-keeps}
use Rattle.expect_actions.specs.KeysFile.{most_keys}
use Rattle.nova_machine.specs.declared.machine.Stop.TheVariants.{Halt, UnknownDevice}
use Rattle.nova_machine.specs.Core.{AreListed}
use Rattle.nova_machine.specs.Machine.{MachineState, reset_devices, reset_machine, on_processor}
use Rattle.nova_machine.specs.Seen.{Seen, with_machine}
use Rattle.nova_machine.specs.Turned.{Turned, goes_on, stops, begun, ticked, executed}
use Rattle.nova_machine.specs.Transfer.{op_of, pulse_of, wished_by, asked_unit, flags_in, to_unit, to_device, mask_set, central_function, central_pulse, central, to_processor, transfer}
use Rattle.nova_machine.specs.Turn.{with_memory, refer_to, refer, execute, fetch, is_interrupted, jump_to, interrupt_reference, enter, interrupt}
use Rattle.nova_machine.specs.Valid.{ValidMachine, Valid}
use Rattle.nova_machine.proofs.Listed.{listed-ticked, listed-wished, among-found, listed-reset, times_later}

-- ---- the machine behind a piece of a turn: it is one, and no key was taken

pub record Follows (before after : MachineState) : Type 0 where
  pub valid : ValidMachine after
  pub taken : after.taken ≡ before.taken

abbrev KeepsMachine : (MachineState → MachineState) → Type 0
KeepsMachine change = (m : MachineState) → ValidMachine m → Follows m (change m)

stays : KeepsMachine (λ m. m)
stays m valid = record { valid = valid; taken = refl }

-- one change behind another
follows-then : (m : MachineState) (first second : MachineState → MachineState) → Follows m (first m) → KeepsMachine second → Follows m (second (first m))
follows-then m first second one two =
    let next = two (first m) one.valid in
    record { valid = next.valid; taken = next.taken ∙ one.taken }

pub processor-of : (m : MachineState) → ValidMachine m → IsProcessor m.processor
processor-of m valid = record { memory = valid.memory; size = valid.size; cpu = record { four = valid.cpu.four; words = valid.cpu.words; pc = valid.cpu.pc } }

pub with-processor : (m : MachineState) (p : ProcessorState) → IsProcessor p → ValidMachine m → ValidMachine (record m { processor = p })
with-processor m p now valid = record {
  memory = now.memory;
  size = now.size;
  cpu = record { four = now.cpu.four; words = now.cpu.words; pc = now.cpu.pc };
  mask = valid.mask;
  switches = valid.switches;
  core = record { registers = valid.core.registers; sound = valid.core.sound; listed = valid.core.listed; times = valid.core.times };
  places = valid.places;
  names = valid.names;
  disk = valid.disk;
}

on-processor : (f : ProcessorState → ProcessorState) → ((p : ProcessorState) → IsProcessor p → IsProcessor (f p)) → KeepsMachine (on_processor f)
on-processor f keeps m valid = record { valid = with-processor m (f m.processor) (keeps m.processor (processor-of m valid)) valid; taken = refl }

with-ints : (m : MachineState) (ints : Ints) → ints.mask < 2 ^ 16 → ValidMachine m → Follows m (record m { ints = ints })
with-ints m ints low valid = record {
  valid = record {
    memory = valid.memory;
    size = valid.size;
    cpu = valid.cpu;
    mask = low;
    switches = valid.switches;
    core = record { registers = valid.core.registers; sound = valid.core.sound; listed = valid.core.listed; times = valid.core.times };
    places = valid.places;
    names = valid.names;
    disk = valid.disk;
  };
  taken = refl;
}

begun-keeps : KeepsMachine begun
unfolding begun
begun-keeps m valid = with-ints m (released m.ints) valid.mask valid

ticked-keeps : KeepsMachine ticked
unfolding ticked
ticked-keeps m valid = record {
  valid = record {
    memory = valid.memory;
    size = valid.size;
    cpu = valid.cpu;
    mask = valid.mask;
    switches = valid.switches;
    core = record {
      registers = valid.core.registers;
      sound = sound-lowered 1 m.events valid.core.sound;
      listed = listed-ticked (kinds_of m.units) m.events valid.core.listed;
      times = times_later (m.time + 1) (ticked_events m.events);
    };
    places = valid.places;
    names = valid.names;
    disk = valid.disk;
  };
  taken = refl;
}

executed-keeps : (f : ProcessorState → ProcessorState) → ((p : ProcessorState) → IsProcessor p → IsProcessor (f p)) → KeepsMachine (executed f)
executed-keeps f keeps m valid =
    follows-then m (λ n. on_processor f (begun n)) ticked (follows-then m begun (on_processor f) (begun-keeps m valid) (on-processor f keeps)) ticked-keeps

-- ---- memory references

with-memory : (m : MachineState) (memory : MemoryState) → IsMemory memory → memory.size ≡ m.processor.memory.size → ValidMachine m
    → ValidMachine (with_memory m memory)
with-memory m memory is same valid =
    with-processor m (record m.processor { memory = memory }) (record { memory = is; size = subst IsSize (sym same) valid.size; cpu = (processor-of m valid).cpu }) valid

refer_to-keeps : (word : ℕ) (at : Option ℕ) → IfSome at (λ (a : ℕ). a < 2 ^ 15) → KeepsMachine (λ m. (refer_to word at m).machine)
refer_to-keeps word None low m valid = stays m valid
refer_to-keeps word (Some a) low m valid = executed-keeps (memory_reference word a) (λ p now. reference-keeps word a p low now) m valid

refer-keeps : (word : ℕ) → KeepsMachine (λ m. (refer word m).machine)
unfolding refer
refer-keeps word m valid =
    let p = m.processor in
    let reference = address p.memory word p.cpu.pc p.cpu.accumulators in
    let memory = address-memory p.memory word p.cpu.pc p.cpu.accumulators valid.memory in
    let size = address-size p.memory word p.cpu.pc p.cpu.accumulators in
    let next = refer_to-keeps word reference.address (address-low p.memory word p.cpu.pc p.cpu.accumulators) (with_memory m reference.memory) (with-memory m reference.memory memory size valid) in
    record { valid = next.valid; taken = next.taken }

-- ---- words of input and output

sound-by : (code : ℕ) (call : UnitCall) (us : List UnitState) (es : List Event) → AllFit us → Sound es → Sound (wished_by (option_map (λ u. u.kind) (unit_at code us)) (row_at code call us) es)
sound-by code call us es all sound = by-unit (unit_at code us) (row_at code call us) (low-at code call us all) (timely-at code call us all)
  where
    by-unit : (o : Option UnitState) (said : Row) → IfSome o (λ u. said.unit < units_of u.kind) → IsTimely said.queue → Sound (wished_by (option_map (λ u. u.kind) o) said es)
    by-unit None said low timely = sound
    by-unit (Some u) said low timely = sound-wished (record { kind = u.kind; unit = said.unit }) said.queue es low timely sound

listed-by : (code : ℕ) (said : Row) (us : List UnitState) (es : List Event) → AreListed (kinds_of us) es → AreListed (kinds_of us) (wished_by (option_map (λ u. u.kind) (unit_at code us)) said es)
listed-by code said us es all = by-kind (option_map (λ u. u.kind) (unit_at code us)) refl
  where
    by-kind : (o : Option Kind) → o ≡ option_map (λ u. u.kind) (unit_at code us) → AreListed (kinds_of us) (wished_by o said es)
    by-kind None there = all
    by-kind (Some kind) there = listed-wished (kinds_of us) (record { kind = kind; unit = said.unit }) said.queue es (among-found code kind us there) all

asked_unit-keeps : (code word : ℕ) → KeepsMachine (asked_unit code word)
unfolding asked_unit
asked_unit-keeps code word m valid =
    let sent = slice_index m.processor.cpu.accumulators (bits 3 4 word) in
    let call = Io (op_of (bits 5 7 word)) (pulse_of (bits 8 9 word)) sent in
    let said = row_at code call m.units in
    let events = wished_by (option_map (λ u. u.kind) (unit_at code m.units)) said m.events in
    let now = passed-keeps (bits 5 7 word) (bits 3 4 word) said.word m.processor (word-at code call m.units valid.core.registers) (processor-of m valid) in
    record {
      valid = record {
        memory = now.memory;
        size = now.size;
        cpu = record { four = now.cpu.four; words = now.cpu.words; pc = now.cpu.pc };
        mask = valid.mask;
        switches = valid.switches;
        core = record {
          registers = io-fits code (op_of (bits 5 7 word)) (pulse_of (bits 8 9 word)) sent m.units valid.core.registers;
          sound = sound-by code call m.units m.events valid.core.registers valid.core.sound;
          listed = subst (λ (kinds : List Kind). AreListed kinds events) (sym (after-kinds code call m.units)) (listed-by code said m.units m.events valid.core.listed);
          times = times_later m.time events;
        };
        places = valid.places;
        names = valid.names;
        disk = valid.disk;
      };
      taken = refl;
    }

-- one of two machines
either-keeps : (b : Bool) (m x y : MachineState) → Follows m x → Follows m y → Follows m (cond b x y)
either-keeps b m x y first second = cond_both b x y (Follows m) (λ _. first) (λ _. second)

either-turned : (b : Bool) (m : MachineState) (s t : Turned) → Follows m s.machine → Follows m t.machine → Follows m (cond b s t).machine
either-turned b m s t first second = cond_both b s t (λ (u : Turned). Follows m u.machine) (λ _. first) (λ _. second)

to_unit-keeps : (code word : ℕ) → KeepsMachine (to_unit code word)
unfolding to_unit
to_unit-keeps code word m valid =
    let test = tested (bits 8 9 word) (flags_in code m).busy (flags_in code m).done in
    either-keeps (bits 5 7 word == 7) m (on_processor test m) (asked_unit code word m)
    (on-processor test (λ p now. tested-keeps (bits 8 9 word) (flags_in code m).busy (flags_in code m).done p now) m valid) (asked_unit-keeps code word m valid)

to_device-keeps : (code word : ℕ) → KeepsMachine (λ m. (to_device code word m).machine)
unfolding to_device
to_device-keeps code word m valid =
    either-turned (is_some (unit_at code m.units)) m (goes_on (ticked (to_unit code word (begun m)))) _
    (follows-then m (λ n. to_unit code word (begun n)) ticked (follows-then m begun (to_unit code word) (begun-keeps m valid) (to_unit-keeps code word)) ticked-keeps)
    (either-turned m.stop_dev m (stops UnknownDevice m) (goes_on (executed (unanswered word) m)) (stays m valid) (executed-keeps (unanswered word) (unanswered-keeps word) m valid))

-- ---- device 77

reset_devices-keeps : KeepsMachine reset_devices
unfolding reset_devices
reset_devices-keeps m valid =
    let events = reset_events m.units [] in
    record {
      valid = record {
        memory = valid.memory;
        size = valid.size;
        cpu = valid.cpu;
        mask = omega arith;
        switches = valid.switches;
        core = record {
          registers = reset-fits m.units valid.core.registers;
          sound = sound-resets m.units [] valid.core.registers sound-none;
          listed = subst (λ (kinds : List Kind). AreListed kinds events) (sym (reset-kinds m.units)) (listed-reset m.units);
          times = times_later m.time events;
        };
        places = valid.places;
        names = valid.names;
        disk = valid.disk;
      };
      taken = refl;
    }

-- a reset of the machine keeps it
pub reset-keeps : (m : MachineState) → ValidMachine m → Follows m (reset_machine m)
unfolding reset_machine
reset-keeps m valid =
    let devices = reset_devices-keeps m valid in
    let off = with-ints (reset_devices m) no_interrupts (omega arith) devices.valid in
    record { valid = off.valid; taken = off.taken ∙ devices.taken }

code-low : (kind : Kind) → code_of kind < 2 ^ 16
code-low = every-kind (λ (k : Kind). code_of k < 2 ^ 16) (omega arith, omega arith, omega arith, omega arith, omega arith, omega arith, omega arith, omega arith, omega arith, omega arith, omega arith)

acknowledged-low : (mask : ℕ) (us : List UnitState) → acknowledged mask us < 2 ^ 16
acknowledged-low mask us = by-unit (first_asking mask us)
  where
    by-unit : (o : Option UnitState) → code_or_none o < 2 ^ 16
    by-unit None = omega arith
    by-unit (Some u) = code-low u.kind

central_function-keeps : (function i : ℕ) → KeepsMachine (central_function function i)
unfolding central_function
central_function-keeps function i m valid =
    let code = acknowledged m.ints.mask m.units in
    let word = slice_index m.processor.cpu.accumulators i in
    either-keeps (function == 1) m (on_processor (input i m.sr) m) _ (on-processor (input i m.sr) (λ p now. input-keeps i m.sr p valid.switches now) m valid)
    (either-keeps (function == 3) m (on_processor (input i code) m) _ (on-processor (input i code) (λ p now. input-keeps i code p (acknowledged-low m.ints.mask m.units) now) m valid)
    (either-keeps (function == 4) m (on_processor past (mask_set word m)) _
    (follows-then m (mask_set word) (on_processor past) (with-ints m (record m.ints { mask = word }) (word-held m.processor.cpu.accumulators i valid.cpu.words) valid) (on-processor past past-keeps))
    (either-keeps (function == 5) m (on_processor past (reset_devices m)) (on_processor past m)
    (follows-then m reset_devices (on_processor past) (reset_devices-keeps m valid) (on-processor past past-keeps)) (on-processor past past-keeps m valid))))

central_pulse-keeps : (pulse : ℕ) → KeepsMachine (central_pulse pulse)
unfolding central_pulse
central_pulse-keeps pulse m valid =
    either-keeps (pulse == 1) m (record m { ints = enabled m.ints }) _ (with-ints m (enabled m.ints) valid.mask valid)
    (either-keeps (pulse == 2) m (record m { ints = disabled m.ints }) m (with-ints m (disabled m.ints) valid.mask valid) (stays m valid))

central-keeps : (word : ℕ) → KeepsMachine (central word)
unfolding central
central-keeps word m valid =
    follows-then m (central_function (bits 5 7 word) (bits 3 4 word)) (central_pulse (bits 8 9 word))
    (central_function-keeps (bits 5 7 word) (bits 3 4 word) m valid) (central_pulse-keeps (bits 8 9 word))

to_processor-keeps : (word : ℕ) → KeepsMachine (λ m. (to_processor word m).machine)
unfolding to_processor
to_processor-keeps word m valid =
    let test = tested (bits 8 9 word) m.ints.on false in
    let done = follows-then m (λ n. central word (begun n)) ticked (follows-then m begun (central word) (begun-keeps m valid) (central-keeps word)) ticked-keeps in
    either-turned (bits 5 7 word == 7) m (goes_on (executed test m)) _ (executed-keeps test (λ p now. tested-keeps (bits 8 9 word) m.ints.on false p now) m valid)
    (either-turned (bits 5 7 word == 6) m (stops Halt (ticked (central word (begun m)))) (goes_on (ticked (central word (begun m)))) done done)

transfer-keeps : (word : ℕ) → KeepsMachine (λ m. (transfer word m).machine)
unfolding transfer
transfer-keeps word m valid =
    either-turned (bits 10 15 word == 1) m (goes_on (executed (multiply_divide word) m)) _ (executed-keeps (multiply_divide word) (multiply_divide-keeps word) m valid)
    (either-turned (bits 10 15 word == 0o77) m (to_processor word m) (to_device (bits 10 15 word) word m) (to_processor-keeps word m valid) (to_device-keeps (bits 10 15 word) word m valid))

-- ---- the instruction, and the interrupt

execute-keeps : (word : ℕ) → KeepsMachine (λ m. (execute word m).machine)
unfolding execute
execute-keeps word m valid =
    either-turned (nat_lt word 0o60000) m (refer word m) _ (refer-keeps word m valid)
    (either-turned (nat_lt word 0o100000) m (transfer word m) (goes_on (executed (arithmetic word) m)) (transfer-keeps word m valid)
    (executed-keeps (arithmetic word) (arithmetic-keeps word) m valid))

pub fetch-keeps : (m : MachineState) → ValidMachine m → Follows m (fetch m).machine
unfolding fetch
fetch-keeps m valid = execute-keeps (get m.processor.memory m.processor.cpu.pc) m valid

jump_to-keeps : (at : Option ℕ) → IfSome at (λ (a : ℕ). a < 2 ^ 15) → KeepsMachine (λ m. (jump_to at m).machine)
unfolding jump
jump_to-keeps None low m valid = stays m valid
jump_to-keeps (Some a) low m valid = record { valid = with-processor m (jump a m.processor) (jump-keeps a m.processor low (processor-of m valid)) valid; taken = refl }

enter-keeps : KeepsMachine (λ m. (enter m).machine)
unfolding enter
enter-keeps m valid =
    let p = m.processor in
    let first = put p.memory 0 p.cpu.pc in
    let reference = interrupt_reference m in
    let stored : IsMemory first = put-memory p.memory 0 p.cpu.pc valid.memory (omega arith) in
    let memory = address-memory first 0o2001 p.cpu.pc p.cpu.accumulators stored in
    let size = address-size first 0o2001 p.cpu.pc p.cpu.accumulators ∙ put-size p.memory 0 p.cpu.pc in
    let off = with-ints m (record m.ints { on = false }) valid.mask valid in
    let next = jump_to-keeps reference.address (address-low first 0o2001 p.cpu.pc p.cpu.accumulators) (with_memory (record m { ints = record m.ints { on = false } }) reference.memory)
    (with-memory (record m { ints = record m.ints { on = false } }) reference.memory memory size off.valid) in
    record { valid = next.valid; taken = next.taken }

pub interrupt-keeps : (m : MachineState) → ValidMachine m → Follows m (interrupt m).machine
unfolding interrupt
interrupt-keeps m valid = either-turned (is_interrupted m) m (enter m) (goes_on m) (enter-keeps m valid) (stays m valid)

-- ---- with what stands beside the machine

pub follows-seen : (s : Seen) (m : MachineState) → Valid s → Follows s.machine m → Valid (with_machine s m)
follows-seen s m valid follows = record {
  machine = follows.valid;
  watch = valid.watch;
  taken = subst (λ (n : ℕ). n ≤ most_keys) (sym follows.taken) valid.taken;
  known = valid.known;
  keys = valid.keys;
  files = valid.files;
  lines = valid.lines;
  ahead = valid.ahead;
}

pub fetched-valid : (s : Seen) → Valid s → Valid (with_machine s (fetch s.machine).machine)
fetched-valid s valid = follows-seen s (fetch s.machine).machine valid (fetch-keeps s.machine valid.machine)

pub interrupted-valid : (s : Seen) → Valid s → Valid (with_machine s (interrupt s.machine).machine)
interrupted-valid s valid = follows-seen s (interrupt s.machine).machine valid (interrupt-keeps s.machine valid.machine)
