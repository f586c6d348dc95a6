-- What the machine does does not depend on the numbers of open files.
use Rattle.std.proofs.Common.{◌≡◌, ℕ, ◌==◌, Bool, true, false, Option, Some, None, is_some, slice_index, nat_lt, refl, ap, ◌∙◌, if◌then◌else◌}
use Rattle.nova_word.specs.Bits.{bits}
use Rattle.nova_memory.specs.Memory.{MemoryState, get}
use Rattle.nova_memory.specs.Address.{address}
use Rattle.unit_list.specs.Bus.{unit_at}
use Rattle.nova_interrupts.specs.Interrupts.{enabled, disabled}
use Rattle.nova_interrupts.specs.Requests.{acknowledged}
use Rattle.nova_machine.specs.declared.machine.Stop.TheVariants.{Halt, UnknownDevice}
use Rattle.nova_processor.specs.Processor.{ProcessorState}
use Rattle.nova_processor.specs.Instruction.{memory_reference, arithmetic}
use Rattle.nova_processor.specs.InputOutput.{input, past, tested, unanswered, multiply_divide}
use Rattle.nova_machine.specs.Machine.{MachineState, on_processor, reset_devices}
use Rattle.nova_machine.specs.Seen.{erased}
use Rattle.nova_machine.specs.Turned.{Turned, begun, ticked, executed, goes_on, stops}
use Rattle.nova_machine.specs.Transfer.{asked_unit, flags_in, to_unit, to_device, mask_set, central_function, central_pulse, central, to_processor, transfer}
use Rattle.nova_machine.specs.Turn.{with_memory, refer_to, refer, execute, fetch, is_interrupted, jump_to, interrupt_reference, enter, interrupt}

abbrev pub erased_turned : Turned → Turned
erased_turned t = record t { machine = erased t.machine }

machine-if : (b : Bool) (x y x' y' : MachineState) → x' ≡ erased x → y' ≡ erased y → (if b then x' else y') ≡ erased (if b then x else y)
machine-if true x y x' y' first second = first
machine-if false x y x' y' first second = second

turned-if : (b : Bool) (x y x' y' : Turned) → x' ≡ erased_turned x → y' ≡ erased_turned y → (if b then x' else y') ≡ erased_turned (if b then x else y)
turned-if true x y x' y' first second = first
turned-if false x y x' y' first second = second

erased-begun : (m : MachineState) → begun (erased m) ≡ erased (begun m)
unfolding begun
erased-begun m = refl

erased-ticked : (m : MachineState) → ticked (erased m) ≡ erased (ticked m)
unfolding ticked
erased-ticked m = refl

erased-executed : (f : ProcessorState → ProcessorState) (m : MachineState) → executed f (erased m) ≡ erased (executed f m)
unfolding begun ticked
erased-executed f m = refl

erased-asked : (code w : ℕ) (m : MachineState) → asked_unit code w (erased m) ≡ erased (asked_unit code w m)
unfolding asked_unit
erased-asked code w m = refl

erased-to_unit : (code w : ℕ) (m : MachineState) → to_unit code w (erased m) ≡ erased (to_unit code w m)
unfolding to_unit
erased-to_unit code w m =
    machine-if (bits 5 7 w == 7) (on_processor (tested (bits 8 9 w) (flags_in code m).busy (flags_in code m).done) m) (asked_unit code w m) _ _ refl (erased-asked code w m)

erased-to_device : (code w : ℕ) (m : MachineState) → to_device code w (erased m) ≡ erased_turned (to_device code w m)
unfolding to_device
erased-to_device code w m =
    turned-if (is_some (unit_at code m.units)) (goes_on (ticked (to_unit code w (begun m)))) _ _ _
    (ap (λ (x : MachineState). goes_on (ticked (to_unit code w x))) (erased-begun m) ∙ ap (λ (x : MachineState). goes_on (ticked x)) (erased-to_unit code w (begun m))
    ∙ ap goes_on (erased-ticked (to_unit code w (begun m))))
    (turned-if m.stop_dev (stops UnknownDevice m) (goes_on (executed (unanswered w) m)) _ _ refl (ap goes_on (erased-executed (unanswered w) m)))

erased-reset : (m : MachineState) → reset_devices (erased m) ≡ erased (reset_devices m)
unfolding reset_devices
erased-reset m = refl

erased-function : (f k : ℕ) (m : MachineState) → central_function f k (erased m) ≡ erased (central_function f k m)
unfolding central_function
erased-function f k m =
    machine-if (f == 1) (on_processor (input k m.sr) m) _ _ _ refl
    (machine-if (f == 3) (on_processor (input k (acknowledged m.ints.mask m.units)) m) _ _ _ refl
    (machine-if (f == 4) (on_processor past (mask_set (slice_index m.processor.cpu.accumulators k) m)) _ _ _ refl
    (machine-if (f == 5) (on_processor past (reset_devices m)) (on_processor past m) _ _ (ap (on_processor past) (erased-reset m)) refl)))

erased-pulse : (b : ℕ) (m : MachineState) → central_pulse b (erased m) ≡ erased (central_pulse b m)
unfolding central_pulse
erased-pulse b m =
    machine-if (b == 1) (record m { ints = enabled m.ints }) _ _ _ refl (machine-if (b == 2) (record m { ints = disabled m.ints }) m _ _ refl refl)

erased-central : (w : ℕ) (m : MachineState) → central w (erased m) ≡ erased (central w m)
unfolding central
erased-central w m =
    ap (central_pulse (bits 8 9 w)) (erased-function (bits 5 7 w) (bits 3 4 w) m) ∙ erased-pulse (bits 8 9 w) (central_function (bits 5 7 w) (bits 3 4 w) m)

behind-central : (w : ℕ) (m : MachineState) → ticked (central w (begun (erased m))) ≡ erased (ticked (central w (begun m)))
behind-central w m =
    ap (λ (x : MachineState). ticked (central w x)) (erased-begun m) ∙ ap ticked (erased-central w (begun m)) ∙ erased-ticked (central w (begun m))

erased-to_processor : (w : ℕ) (m : MachineState) → to_processor w (erased m) ≡ erased_turned (to_processor w m)
unfolding to_processor
erased-to_processor w m =
    turned-if (bits 5 7 w == 7) (goes_on (executed (tested (bits 8 9 w) m.ints.on false) m)) _ _ _ (ap goes_on (erased-executed (tested (bits 8 9 w) m.ints.on false) m))
    (turned-if (bits 5 7 w == 6) (stops Halt (ticked (central w (begun m)))) (goes_on (ticked (central w (begun m)))) _ _
    (ap (stops Halt) (behind-central w m)) (ap goes_on (behind-central w m)))

erased-transfer : (w : ℕ) (m : MachineState) → transfer w (erased m) ≡ erased_turned (transfer w m)
unfolding transfer
erased-transfer w m =
    turned-if (bits 10 15 w == 1) (goes_on (executed (multiply_divide w) m)) _ _ _ (ap goes_on (erased-executed (multiply_divide w) m))
    (turned-if (bits 10 15 w == 0o77) (to_processor w m) (to_device (bits 10 15 w) w m) _ _ (erased-to_processor w m) (erased-to_device (bits 10 15 w) w m))

erased-refer_to : (w : ℕ) (a : Option ℕ) (m : MachineState) (memory : MemoryState) → refer_to w a (with_memory (erased m) memory) ≡ erased_turned (refer_to w a (with_memory m memory))
erased-refer_to w None m memory = refl
erased-refer_to w (Some a) m memory = ap goes_on (erased-executed (memory_reference w a) (with_memory m memory))

erased-refer : (w : ℕ) (m : MachineState) → refer w (erased m) ≡ erased_turned (refer w m)
unfolding refer
erased-refer w m =
    let r = address m.processor.memory w m.processor.cpu.pc m.processor.cpu.accumulators in erased-refer_to w r.address m r.memory

erased-execute : (w : ℕ) (m : MachineState) → execute w (erased m) ≡ erased_turned (execute w m)
unfolding execute
erased-execute w m =
    turned-if (nat_lt w 0o60000) (refer w m) _ _ _ (erased-refer w m)
    (turned-if (nat_lt w 0o100000) (transfer w m) (goes_on (executed (arithmetic w) m)) _ _ (erased-transfer w m) (ap goes_on (erased-executed (arithmetic w) m)))

pub erased-fetch : (m : MachineState) → fetch (erased m) ≡ erased_turned (fetch m)
unfolding fetch
erased-fetch m = erased-execute (get m.processor.memory m.processor.cpu.pc) m

erased-jump : (a : Option ℕ) (m : MachineState) → jump_to a (erased m) ≡ erased_turned (jump_to a m)
erased-jump None m = refl
erased-jump (Some a) m = refl

erased-enter : (m : MachineState) → enter (erased m) ≡ erased_turned (enter m)
unfolding enter
erased-enter m = erased-jump (interrupt_reference m).address (with_memory (record m { ints = record m.ints { on = false } }) (interrupt_reference m).memory)

pub erased-interrupt : (m : MachineState) → interrupt (erased m) ≡ erased_turned (interrupt m)
unfolding interrupt
erased-interrupt m = turned-if (is_interrupted m) (enter m) (goes_on m) _ _ (erased-enter m) refl
