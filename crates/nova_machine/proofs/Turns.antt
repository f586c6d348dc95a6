-- What every instruction keeps, and how time grows over it.
use Rattle.std.proofs.Common.{◌≡◌, ℕ, ◌+◌, ◌≤◌, ◌==◌, Bool, true, false, Option, Some, None, slice_index, refl, ap, ◌∙◌, if◌then◌else◌, arith}
use Rattle.nova_word.specs.Bits.{bits}
use Rattle.nova_memory.specs.Memory.{MemoryState, get}
use Rattle.nova_memory.specs.Address.{address}
use Rattle.nova_memory.proofs.Chains.{put-size}
use Rattle.nova_interrupts.specs.Interrupts.{enabled, disabled}
use Rattle.nova_interrupts.specs.Requests.{acknowledged}
use Rattle.nova_machine.specs.declared.machine.Stop.{Stop}
use Rattle.nova_machine.specs.declared.machine.Stop.TheVariants.{Halt, ChainLimit, UnknownDevice}
use Rattle.nova_processor.specs.Processor.{ProcessorState}
use Rattle.nova_machine.specs.Machine.{MachineState, on_processor, reset_devices}
use Rattle.nova_machine.specs.Turned.{Turned, begun, ticked, executed, goes_on, stops}
use Rattle.nova_processor.specs.Instruction.{jump, jump_to_subroutine, store_and_skip, load, store, without_accumulator, memory_reference, arithmetic}
use Rattle.nova_processor.specs.InputOutput.{multiply, divide, input, is_input, past, passed, tested, unanswered, multiply_divide}
use Rattle.nova_machine.specs.Transfer.{asked_unit, flags_in, to_unit, to_device, mask_set, central_function, central_pulse, central, to_processor, transfer}
use Rattle.nova_machine.specs.Turn.{with_memory, refer_to, refer, execute, fetch}
use Rattle.nova_machine.specs.Laws.{IsLimit, Unchanged}
use Rattle.nova_memory.proofs.Keeps.{address-size}

-- an instruction leaves the size of memory
pub record SameSize (before after : ProcessorState) : Type 0 where
  pub size : after.memory.size ≡ before.memory.size

size-if : (b : Bool) (p x y : ProcessorState) → SameSize p x → SameSize p y → SameSize p (if b then x else y)
size-if true p x y first second = first
size-if false p x y first second = second

size-store_and_skip : (a v : ℕ) (p : ProcessorState) → SameSize p (store_and_skip a v p)
unfolding store_and_skip
size-store_and_skip a v p = record { size = put-size p.memory a v }

size-jump : (a : ℕ) (p : ProcessorState) → SameSize p (jump a p)
unfolding jump
size-jump a p = record { size = refl }

size-jump_to_subroutine : (a : ℕ) (p : ProcessorState) → SameSize p (jump_to_subroutine a p)
unfolding jump_to_subroutine
size-jump_to_subroutine a p = record { size = refl }

size-load : (k a : ℕ) (p : ProcessorState) → SameSize p (load k a p)
unfolding load
size-load k a p = record { size = refl }

size-store : (k a : ℕ) (p : ProcessorState) → SameSize p (store k a p)
unfolding store
size-store k a p = record { size = put-size p.memory a _ }

size-without_accumulator : (f a : ℕ) (p : ProcessorState) → SameSize p (without_accumulator f a p)
unfolding without_accumulator
size-without_accumulator f a p =
    size-if _ p _ _ (size-jump a p) (size-if _ p _ _ (size-jump_to_subroutine a p) (size-if _ p _ _ (size-store_and_skip a _ p) (size-store_and_skip a _ p)))

size-memory_reference : (w a : ℕ) (p : ProcessorState) → SameSize p (memory_reference w a p)
unfolding memory_reference
size-memory_reference w a p = size-if _ p _ _ (size-without_accumulator (bits 3 4 w) a p) (size-if _ p _ _ (size-load (bits 3 4 w) a p) (size-store (bits 3 4 w) a p))

size-arithmetic : (w : ℕ) (p : ProcessorState) → SameSize p (arithmetic w p)
unfolding arithmetic
size-arithmetic w p = record { size = refl }

size-input : (k w : ℕ) (p : ProcessorState) → SameSize p (input k w p)
unfolding input
size-input k w p = record { size = refl }

size-past : (p : ProcessorState) → SameSize p (past p)
unfolding past
size-past p = record { size = refl }

size-passed : (f k w : ℕ) (p : ProcessorState) → SameSize p (passed f k w p)
unfolding passed
size-passed f k w p = size-if (is_input f) p _ _ (size-input k w p) (size-past p)

size-tested : (t : ℕ) (busy done : Bool) (p : ProcessorState) → SameSize p (tested t busy done p)
unfolding tested
size-tested t busy done p = record { size = refl }

size-unanswered : (w : ℕ) (p : ProcessorState) → SameSize p (unanswered w p)
unfolding unanswered
size-unanswered w p = size-if _ p _ _ (size-tested (bits 8 9 w) false false p) (size-passed (bits 5 7 w) (bits 3 4 w) 0 p)

size-multiply : (p : ProcessorState) → SameSize p (multiply p)
unfolding multiply
size-multiply p = record { size = refl }

size-divide : (p : ProcessorState) → SameSize p (divide p)
unfolding divide
size-divide p = record { size = refl }

size-multiply_divide : (w : ℕ) (p : ProcessorState) → SameSize p (multiply_divide w p)
unfolding multiply_divide
size-multiply_divide w p = size-if _ p _ _ (size-multiply p) (size-if _ p _ _ (size-divide p) (size-unanswered w p))

-- what takes no time, and leaves what no run changes
pub record Acts (before after : MachineState) : Type 0 where
  pub time : after.time ≡ before.time
  pub unchanged : Unchanged before after

pub unchanged-same : (m : MachineState) → Unchanged m m
unchanged-same m = record { size = refl; sr = refl; stop_dev = refl; slots = refl }

pub unchanged-then : (first second third : MachineState) → Unchanged first second → Unchanged second third → Unchanged first third
unchanged-then first second third a b = record { size = b.size ∙ a.size; sr = b.sr ∙ a.sr; stop_dev = b.stop_dev ∙ a.stop_dev; slots = b.slots ∙ a.slots }

pub acts-same : (m : MachineState) → Acts m m
acts-same m = record { time = refl; unchanged = unchanged-same m }

pub acts-then : (first second third : MachineState) → Acts first second → Acts second third → Acts first third
acts-then first second third a b = record { time = b.time ∙ a.time; unchanged = unchanged-then first second third a.unchanged b.unchanged }

acts-if : (b : Bool) (m x y : MachineState) → Acts m x → Acts m y → Acts m (if b then x else y)
acts-if true m x y first second = first
acts-if false m x y first second = second

acts-on : (f : ProcessorState → ProcessorState) (m : MachineState) → SameSize m.processor (f m.processor) → Acts m (on_processor f m)
acts-on f m size = record { time = refl; unchanged = record { size = size.size; sr = refl; stop_dev = refl; slots = refl } }

acts-begun : (m : MachineState) → Acts m (begun m)
unfolding begun
acts-begun m = record { time = refl; unchanged = record { size = refl; sr = refl; stop_dev = refl; slots = refl } }

acts-asked_unit : (code w : ℕ) (m : MachineState) → Acts m (asked_unit code w m)
unfolding asked_unit
acts-asked_unit code w m = record { time = refl; unchanged = record { size = (size-passed (bits 5 7 w) (bits 3 4 w) _ m.processor).size; sr = refl; stop_dev = refl; slots = refl } }

acts-to_unit : (code w : ℕ) (m : MachineState) → Acts m (to_unit code w m)
unfolding to_unit
acts-to_unit code w m =
    let test = tested (bits 8 9 w) (flags_in code m).busy (flags_in code m).done in
    acts-if (bits 5 7 w == 7) m (on_processor test m) (asked_unit code w m)
    (acts-on test m (size-tested (bits 8 9 w) (flags_in code m).busy (flags_in code m).done m.processor)) (acts-asked_unit code w m)

acts-reset_devices : (m : MachineState) → Acts m (reset_devices m)
unfolding reset_devices
acts-reset_devices m = record { time = refl; unchanged = record { size = refl; sr = refl; stop_dev = refl; slots = refl } }

acts-mask_set : (w : ℕ) (m : MachineState) → Acts m (mask_set w m)
acts-mask_set w m = record { time = refl; unchanged = record { size = refl; sr = refl; stop_dev = refl; slots = refl } }

acts-past : (m x : MachineState) → Acts m x → Acts m (on_processor past x)
acts-past m x a = acts-then m x (on_processor past x) a (acts-on past x (size-past x.processor))

acts-central_function : (f k : ℕ) (m : MachineState) → Acts m (central_function f k m)
unfolding central_function
acts-central_function f k m =
    let code = acknowledged m.ints.mask m.units in
    let mask = slice_index m.processor.cpu.accumulators k in
    acts-if (f == 1) m _ _ (acts-on (input k m.sr) m (size-input k m.sr m.processor))
    (acts-if (f == 3) m _ _ (acts-on (input k code) m (size-input k code m.processor))
    (acts-if (f == 4) m _ _ (acts-past m (mask_set mask m) (acts-mask_set mask m))
    (acts-if (f == 5) m _ _ (acts-past m (reset_devices m) (acts-reset_devices m)) (acts-past m m (acts-same m)))))

acts-central_pulse : (bits : ℕ) (m : MachineState) → Acts m (central_pulse bits m)
unfolding central_pulse
acts-central_pulse bits m =
    let on = record m { ints = enabled m.ints } in
    let off = record m { ints = disabled m.ints } in
    acts-if (bits == 1) m on (if bits == 2 then off else m) (record { time = refl; unchanged = record { size = refl; sr = refl; stop_dev = refl; slots = refl } })
    (acts-if (bits == 2) m off m (record { time = refl; unchanged = record { size = refl; sr = refl; stop_dev = refl; slots = refl } }) (acts-same m))

acts-central : (w : ℕ) (m : MachineState) → Acts m (central w m)
unfolding central
acts-central w m =
    acts-then m (central_function (bits 5 7 w) (bits 3 4 w) m) (central_pulse (bits 8 9 w) (central_function (bits 5 7 w) (bits 3 4 w) m))
    (acts-central_function (bits 5 7 w) (bits 3 4 w) m) (acts-central_pulse (bits 8 9 w) (central_function (bits 5 7 w) (bits 3 4 w) m))

-- How time grows over an instruction: by one where it goes on, and by one at the most where it stops, and then not for a
-- limit.
pub record Turns (before : MachineState) (t : Turned) : Type 0 where
  pub goes : t.stop ≡ None → t.machine.time ≡ before.time + 1
  pub least : before.time ≤ t.machine.time
  pub most : t.machine.time ≤ before.time + 1
  pub other : ¬ IsLimit t.stop
  pub unchanged : Unchanged before t.machine
  pub held : t.machine.time ≡ before.time → t.machine.ints.hold ≡ before.ints.hold

turns-if : (b : Bool) (m : MachineState) (x y : Turned) → Turns m x → Turns m y → Turns m (if b then x else y)
turns-if true m x y first second = first
turns-if false m x y first second = second

-- an instruction that was executed, and may stop behind itself
turns-ticked : (m x : MachineState) (stop : Option Stop) → ¬ IsLimit stop → Acts m x → Turns m (record { machine = ticked x; stop = stop })
unfolding ticked
turns-ticked m x stop other a = record {
  goes = λ _. ap (λ (n : ℕ). n + 1) a.time;
  least = omega (arith, a.time);
  most = omega (arith, a.time);
  other = other;
  unchanged = record { size = a.unchanged.size; sr = a.unchanged.sr; stop_dev = a.unchanged.stop_dev; slots = a.unchanged.slots };
  held = λ h. absurd (omega (arith, a.time, h));
}

begun-then : (m x : MachineState) → Acts (begun m) x → Acts m x
begun-then m x a = acts-then m (begun m) x (acts-begun m) a

turns-on : (m : MachineState) (f : ProcessorState → ProcessorState) → ((p : ProcessorState) → SameSize p (f p)) → Turns m (goes_on (executed f m))
turns-on m f size = turns-ticked m (on_processor f (begun m)) None (λ limit. limit) (begun-then m _ (acts-on f (begun m) (size (begun m).processor)))

-- a stop that takes no time
turns-stopped : (m after : MachineState) (stop : Stop) → ¬ IsLimit (Some stop) → Acts m after → after.ints.hold ≡ m.ints.hold → Turns m (stops stop after)
turns-stopped m after stop other a hold = record {
  goes = λ h. absurd (cc);
  least = omega (arith, a.time);
  most = omega (arith, a.time);
  other = other;
  unchanged = a.unchanged;
  held = λ _. hold;
}

acts-with_memory : (m : MachineState) (memory : MemoryState) → memory.size ≡ m.processor.memory.size → Acts m (with_memory m memory)
acts-with_memory m memory size = record { time = refl; unchanged = record { size = size; sr = refl; stop_dev = refl; slots = refl } }

-- a memory reference from a machine whose chain has changed memory
turns-refer_to : (w : ℕ) (a : Option ℕ) (m : MachineState) (memory : MemoryState) → memory.size ≡ m.processor.memory.size → Turns m (refer_to w a (with_memory m memory))
turns-refer_to w None m memory size = turns-stopped m (with_memory m memory) ChainLimit (λ limit. limit) (acts-with_memory m memory size) refl
turns-refer_to w (Some a) m memory size =
    let now = with_memory m memory in
    turns-ticked m (on_processor (memory_reference w a) (begun now)) None (λ limit. limit)
    (acts-then m now _ (acts-with_memory m memory size) (begun-then now _ (acts-on (memory_reference w a) (begun now) (size-memory_reference w a (begun now).processor))))

turns-refer : (w : ℕ) (m : MachineState) → Turns m (refer w m)
unfolding refer
turns-refer w m =
    let reference = address m.processor.memory w m.processor.cpu.pc m.processor.cpu.accumulators in
    turns-refer_to w reference.address m reference.memory (address-size m.processor.memory w m.processor.cpu.pc m.processor.cpu.accumulators)

turns-to_device : (code w : ℕ) (m : MachineState) → Turns m (to_device code w m)
unfolding to_device
turns-to_device code w m =
    turns-if _ m _ _ (turns-ticked m (to_unit code w (begun m)) None (λ limit. limit) (begun-then m _ (acts-to_unit code w (begun m))))
    (turns-if _ m _ _ (turns-stopped m m UnknownDevice (λ limit. limit) (acts-same m) refl) (turns-on m (unanswered w) (size-unanswered w)))

turns-to_processor : (w : ℕ) (m : MachineState) → Turns m (to_processor w m)
unfolding to_processor
turns-to_processor w m =
    let behind = begun-then m (central w (begun m)) (acts-central w (begun m)) in
    turns-if _ m _ _ (turns-on m (tested (bits 8 9 w) m.ints.on false) (size-tested (bits 8 9 w) m.ints.on false))
    (turns-if _ m _ _ (turns-ticked m (central w (begun m)) (Some Halt) (λ limit. limit) behind) (turns-ticked m (central w (begun m)) None (λ limit. limit) behind))

turns-transfer : (w : ℕ) (m : MachineState) → Turns m (transfer w m)
unfolding transfer
turns-transfer w m =
    turns-if _ m _ _ (turns-on m (multiply_divide w) (size-multiply_divide w))
    (turns-if _ m _ _ (turns-to_processor w m) (turns-to_device (bits 10 15 w) w m))

pub turns-execute : (w : ℕ) (m : MachineState) → Turns m (execute w m)
unfolding execute
turns-execute w m =
    turns-if _ m _ _ (turns-refer w m) (turns-if _ m _ _ (turns-transfer w m) (turns-on m (arithmetic w) (size-arithmetic w)))

pub turns-fetch : (m : MachineState) → Turns m (fetch m)
unfolding fetch
turns-fetch m = turns-execute (get m.processor.memory m.processor.cpu.pc) m
