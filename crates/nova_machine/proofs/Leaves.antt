-- What no instruction and no interrupt changes: what is attached, the disk's copy of its file with its marks, the lines, and
-- the kinds of the units.
use Rattle.std.proofs.Common.{◌≡◌, ℕ, ◌==◌, Bool, true, false, Option, Some, None, slice_index, is_some, nat_lt, refl, ◌∙◌, if◌then◌else◌}
use Rattle.nova_word.specs.Bits.{bits}
use Rattle.nova_memory.specs.Memory.{MemoryState, get}
use Rattle.nova_memory.specs.Address.{address}
use Rattle.unit_trait.specs.Calls.{Io}
use Rattle.unit_list.specs.Bus.{unit_at, kinds_of}
use Rattle.unit_list.proofs.Calls.{after-kinds}
use Rattle.unit_list.proofs.Resets.{reset-kinds}
use Rattle.nova_interrupts.specs.Interrupts.{enabled, disabled}
use Rattle.nova_interrupts.specs.Requests.{acknowledged}
use Rattle.nova_machine.specs.declared.machine.Stop.TheVariants.{Halt, UnknownDevice}
use Rattle.nova_processor.specs.Processor.{ProcessorState}
use Rattle.nova_processor.specs.Instruction.{memory_reference, arithmetic}
use Rattle.nova_processor.specs.InputOutput.{input, past, tested, unanswered, multiply_divide}
use Rattle.nova_machine.specs.Machine.{MachineState, on_processor, reset_devices}
use Rattle.nova_machine.specs.Turned.{Turned, begun, ticked, executed, goes_on, stops}
use Rattle.nova_machine.specs.Transfer.{op_of, pulse_of, asked_unit, flags_in, to_unit, to_device, mask_set, central_function, central_pulse, central, to_processor, transfer}
use Rattle.nova_machine.specs.Turn.{with_memory, refer_to, refer, execute, fetch, is_interrupted, jump_to, interrupt_reference, enter, interrupt}

pub record Leaves (before after : MachineState) : Type 0 where
  pub slots : after.slots ≡ before.slots
  pub disk : after.disk ≡ before.disk
  pub aside : after.aside ≡ before.aside
  pub lines : after.lines ≡ before.lines
  pub kinds : kinds_of after.units ≡ kinds_of before.units

leaves-then : (first second third : MachineState) → Leaves first second → Leaves second third → Leaves first third
leaves-then first second third a b = record { slots = b.slots ∙ a.slots; disk = b.disk ∙ a.disk; aside = b.aside ∙ a.aside; lines = b.lines ∙ a.lines; kinds = b.kinds ∙ a.kinds }

leaves-if : (b : Bool) (m x y : MachineState) → Leaves m x → Leaves m y → Leaves m (if b then x else y)
leaves-if true m x y first second = first
leaves-if false m x y first second = second

turned-if : (b : Bool) (m : MachineState) (x y : Turned) → Leaves m x.machine → Leaves m y.machine → Leaves m (if b then x else y).machine
turned-if true m x y first second = first
turned-if false m x y first second = second

leaves-begun : (m : MachineState) → Leaves m (begun m)
unfolding begun
leaves-begun m = record { slots = refl; disk = refl; aside = refl; lines = refl; kinds = refl }

leaves-ticked : (m x : MachineState) → Leaves m x → Leaves m (ticked x)
unfolding ticked
leaves-ticked m x leaves = record { slots = leaves.slots; disk = leaves.disk; aside = leaves.aside; lines = leaves.lines; kinds = leaves.kinds }

leaves-executed : (f : ProcessorState → ProcessorState) (m : MachineState) → Leaves m (executed f m)
leaves-executed f m =
    let now = begun m in
    leaves-ticked m (on_processor f now) (leaves-then m now (on_processor f now) (leaves-begun m) (record { slots = refl; disk = refl; aside = refl; lines = refl; kinds = refl }))

-- ---- words of input and output

leaves-asked_unit : (code w : ℕ) (m : MachineState) → Leaves m (asked_unit code w m)
unfolding asked_unit
leaves-asked_unit code w m =
    let call = Io (op_of (bits 5 7 w)) (pulse_of (bits 8 9 w)) (slice_index m.processor.cpu.accumulators (bits 3 4 w)) in
    record { slots = refl; disk = refl; aside = refl; lines = refl; kinds = after-kinds code call m.units }

leaves-to_unit : (code w : ℕ) (m : MachineState) → Leaves m (to_unit code w m)
unfolding to_unit
leaves-to_unit code w m =
    leaves-if (bits 5 7 w == 7) m (on_processor (tested (bits 8 9 w) (flags_in code m).busy (flags_in code m).done) m) (asked_unit code w m)
    (record { slots = refl; disk = refl; aside = refl; lines = refl; kinds = refl }) (leaves-asked_unit code w m)

leaves-to_device : (code w : ℕ) (m : MachineState) → Leaves m (to_device code w m).machine
unfolding to_device
leaves-to_device code w m =
    turned-if (is_some (unit_at code m.units)) m (goes_on (ticked (to_unit code w (begun m)))) (if m.stop_dev then stops UnknownDevice m else goes_on (executed (unanswered w) m))
    (leaves-ticked m (to_unit code w (begun m)) (leaves-then m (begun m) (to_unit code w (begun m)) (leaves-begun m) (leaves-to_unit code w (begun m))))
    (turned-if m.stop_dev m (stops UnknownDevice m) (goes_on (executed (unanswered w) m)) (record { slots = refl; disk = refl; aside = refl; lines = refl; kinds = refl }) (leaves-executed (unanswered w) m))

leaves-reset_devices : (m : MachineState) → Leaves m (on_processor past (reset_devices m))
unfolding reset_devices
leaves-reset_devices m = record { slots = refl; disk = refl; aside = refl; lines = refl; kinds = reset-kinds m.units }

leaves-central_function : (f k : ℕ) (m : MachineState) → Leaves m (central_function f k m)
unfolding central_function
leaves-central_function f k m =
    let switches = on_processor (input k m.sr) m in
    let asking = on_processor (input k (acknowledged m.ints.mask m.units)) m in
    let masked = on_processor past (mask_set (slice_index m.processor.cpu.accumulators k) m) in
    let other = on_processor past m in
    leaves-if (f == 1) m switches _ (record { slots = refl; disk = refl; aside = refl; lines = refl; kinds = refl })
    (leaves-if (f == 3) m asking _ (record { slots = refl; disk = refl; aside = refl; lines = refl; kinds = refl })
    (leaves-if (f == 4) m masked _ (record { slots = refl; disk = refl; aside = refl; lines = refl; kinds = refl })
    (leaves-if (f == 5) m (on_processor past (reset_devices m)) other (leaves-reset_devices m) (record { slots = refl; disk = refl; aside = refl; lines = refl; kinds = refl }))))

leaves-central_pulse : (b : ℕ) (m : MachineState) → Leaves m (central_pulse b m)
unfolding central_pulse
leaves-central_pulse b m =
    let on = record m { ints = enabled m.ints } in
    let off = record m { ints = disabled m.ints } in
    leaves-if (b == 1) m on (if b == 2 then off else m) (record { slots = refl; disk = refl; aside = refl; lines = refl; kinds = refl })
    (leaves-if (b == 2) m off m (record { slots = refl; disk = refl; aside = refl; lines = refl; kinds = refl }) (record { slots = refl; disk = refl; aside = refl; lines = refl; kinds = refl }))

leaves-central : (w : ℕ) (m : MachineState) → Leaves m (ticked (central w (begun m)))
unfolding central
leaves-central w m =
    let now = begun m in
    let done = central_function (bits 5 7 w) (bits 3 4 w) now in
    leaves-ticked m (central_pulse (bits 8 9 w) done)
    (leaves-then m now (central_pulse (bits 8 9 w) done) (leaves-begun m)
    (leaves-then now done (central_pulse (bits 8 9 w) done) (leaves-central_function (bits 5 7 w) (bits 3 4 w) now) (leaves-central_pulse (bits 8 9 w) done)))

leaves-to_processor : (w : ℕ) (m : MachineState) → Leaves m (to_processor w m).machine
unfolding to_processor
leaves-to_processor w m =
    let skip = goes_on (executed (tested (bits 8 9 w) m.ints.on false) m) in
    let halt = stops Halt (ticked (central w (begun m))) in
    let on = goes_on (ticked (central w (begun m))) in
    turned-if (bits 5 7 w == 7) m skip (if bits 5 7 w == 6 then halt else on) (leaves-executed (tested (bits 8 9 w) m.ints.on false) m)
    (turned-if (bits 5 7 w == 6) m halt on (leaves-central w m) (leaves-central w m))

leaves-transfer : (w : ℕ) (m : MachineState) → Leaves m (transfer w m).machine
unfolding transfer
leaves-transfer w m =
    turned-if (bits 10 15 w == 1) m (goes_on (executed (multiply_divide w) m)) (if bits 10 15 w == 0o77 then to_processor w m else to_device (bits 10 15 w) w m)
    (leaves-executed (multiply_divide w) m)
    (turned-if (bits 10 15 w == 0o77) m (to_processor w m) (to_device (bits 10 15 w) w m) (leaves-to_processor w m) (leaves-to_device (bits 10 15 w) w m))

-- ---- instructions

leaves-refer_to : (w : ℕ) (a : Option ℕ) (m : MachineState) (memory : MemoryState) → Leaves m (refer_to w a (with_memory m memory)).machine
leaves-refer_to w None m memory = record { slots = refl; disk = refl; aside = refl; lines = refl; kinds = refl }
leaves-refer_to w (Some a) m memory =
    leaves-then m (with_memory m memory) (executed (memory_reference w a) (with_memory m memory)) (record { slots = refl; disk = refl; aside = refl; lines = refl; kinds = refl })
    (leaves-executed (memory_reference w a) (with_memory m memory))

leaves-refer : (w : ℕ) (m : MachineState) → Leaves m (refer w m).machine
unfolding refer
leaves-refer w m =
    let reference = address m.processor.memory w m.processor.cpu.pc m.processor.cpu.accumulators in
    leaves-refer_to w reference.address m reference.memory

pub leaves-execute : (w : ℕ) (m : MachineState) → Leaves m (execute w m).machine
unfolding execute
leaves-execute w m =
    turned-if (nat_lt w 0o60000) m (refer w m) (if nat_lt w 0o100000 then transfer w m else goes_on (executed (arithmetic w) m)) (leaves-refer w m)
    (turned-if (nat_lt w 0o100000) m (transfer w m) (goes_on (executed (arithmetic w) m)) (leaves-transfer w m) (leaves-executed (arithmetic w) m))

pub leaves-fetch : (m : MachineState) → Leaves m (fetch m).machine
unfolding fetch
leaves-fetch m = leaves-execute (get m.processor.memory m.processor.cpu.pc) m

-- ---- interrupts

leaves-jump_to : (a : Option ℕ) (m now : MachineState) → Leaves m now → Leaves m (jump_to a now).machine
leaves-jump_to None m now leaves = leaves
leaves-jump_to (Some a) m now leaves = record { slots = leaves.slots; disk = leaves.disk; aside = leaves.aside; lines = leaves.lines; kinds = leaves.kinds }

pub leaves-enter : (m : MachineState) → Leaves m (enter m).machine
unfolding enter
leaves-enter m =
    let reference = interrupt_reference m in
    let off = record m { ints = record m.ints { on = false } } in
    leaves-jump_to reference.address m (with_memory off reference.memory) (record { slots = refl; disk = refl; aside = refl; lines = refl; kinds = refl })

pub leaves-interrupt : (m : MachineState) → Leaves m (interrupt m).machine
unfolding interrupt
leaves-interrupt m = turned-if (is_interrupted m) m (enter m) (goes_on m) (leaves-enter m) (record { slots = refl; disk = refl; aside = refl; lines = refl; kinds = refl })
