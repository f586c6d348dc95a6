-- The words of input and output, by their device in bits 10 to 15 (How to Use the Nova Computers, "Input-Output
-- Instructions" and "Program Interrupt").
use Rattle.std.specs.Prelude.{ℕ, ◌==◌, false, List, Option, Some, None, is_some, option_map, unwrap_or, slice_index, if◌then◌else◌}
use Rattle.nova_word.specs.Bits.{bits}
use Rattle.unit_trait.specs.declared.calls.IoOp.{IoOp}
use Rattle.unit_trait.specs.declared.calls.IoOp.TheVariants.{Nio, Dia, Doa, Dib, Dob, Dic, Doc}
use Rattle.unit_trait.specs.declared.calls.Pulse.{Pulse}
use Rattle.unit_trait.specs.declared.calls.Pulse.TheVariants as pulse
use Rattle.unit_trait.specs.declared.kind.Kind.{Kind}
use Rattle.unit_trait.specs.Calls.{Io, Row}
use Rattle.event_queue.specs.EventList.{Event, wished}
use Rattle.unit_list.specs.declared.bus.Flags.{Flags}
use Rattle.unit_list.specs.Bus.{unit_at, row_at, after_at, flags_of}
use Rattle.nova_interrupts.specs.Interrupts.{enabled, disabled, masked_out}
use Rattle.nova_interrupts.specs.Requests.{acknowledged}
use Rattle.nova_machine.specs.declared.machine.Stop.TheVariants.{Halt, UnknownDevice}
use Rattle.nova_machine.specs.Machine.{MachineState, on_processor, reset_devices}
use Rattle.nova_machine.specs.Turned.{Turned, goes_on, stops, begun, ticked, executed}
use Rattle.nova_processor.specs.InputOutput.{input, past, passed, tested, unanswered, multiply_divide}

-- the functions, by bits 5 to 7; 7 is a skip
abbrev pub op_of : ℕ → IoOp
op_of function =
    if function == 0 then Nio else if function == 1 then Dia else if function == 2 then Doa else if function == 3 then Dib
    else if function == 4 then Dob else if function == 5 then Dic else Doc

-- the pulses, by bits 8 and 9
abbrev pub pulse_of : ℕ → Pulse
pulse_of bits = if bits == 0 then pulse.None else if bits == 1 then pulse.Start else if bits == 2 then pulse.Clear else pulse.Pulse

-- the wish of a device, if it is there, goes to the event queue
abbrev pub wished_by : Option Kind → Row → List Event → List Event
wished_by (Some kind) said events = wished (record { kind = kind; unit = said.unit }) said.queue events
wished_by None said events = events

-- The function and the pulse of a word go to the unit with that code, with the accumulator. Its answer is what an input
-- puts into the accumulator, and its wish goes to the event queue.
unfoldable pub asked_unit : ℕ → ℕ → MachineState → MachineState
asked_unit code word m =
    let call = Io (op_of (bits 5 7 word)) (pulse_of (bits 8 9 word)) (slice_index m.processor.cpu.accumulators (bits 3 4 word)) in
    let said = row_at code call m.units in
    record m {
      units = after_at code call m.units;
      events = wished_by (option_map (λ u. u.kind) (unit_at code m.units)) said m.events;
      processor = passed (bits 5 7 word) (bits 3 4 word) said.word m.processor;
    }

abbrev pub no_flags : Flags
no_flags = record { busy = false; done = false }

-- BUSY and DONE of the unit with that code
abbrev pub flags_in : ℕ → MachineState → Flags
flags_in code m = unwrap_or (option_map flags_of (unit_at code m.units)) no_flags

-- a word to the unit with that code: a skip looks at its flags
unfoldable pub to_unit : ℕ → ℕ → MachineState → MachineState
to_unit code word m =
    if bits 5 7 word == 7 then on_processor (tested (bits 8 9 word) (flags_in code m).busy (flags_in code m).done) m
    else asked_unit code word m

-- a word to a device that may be there. Where it is not, the machine stops with STOP_DEV on, and else nothing answers.
unfoldable pub to_device : ℕ → ℕ → MachineState → Turned
to_device code word m =
    if is_some (unit_at code m.units) then goes_on (ticked (to_unit code word (begun m)))
    else if m.stop_dev then stops UnknownDevice m
    else goes_on (executed (unanswered word) m)

-- the machine with that mask word
abbrev pub mask_set : ℕ → MachineState → MachineState
mask_set word m = record m { ints = masked_out word m.ints }

-- What a function does at device 77, the processor itself: DIA reads the switches, DIB acknowledges an interrupt, DOB
-- sets the mask, and DIC resets all devices and leaves the accumulator. The others do nothing.
unfoldable pub central_function : ℕ → ℕ → MachineState → MachineState
central_function function accumulator m =
    if function == 1 then on_processor (input accumulator m.sr) m
    else if function == 3 then on_processor (input accumulator (acknowledged m.ints.mask m.units)) m
    else if function == 4 then on_processor past (mask_set (slice_index m.processor.cpu.accumulators accumulator) m)
    else if function == 5 then on_processor past (reset_devices m)
    else on_processor past m

-- what a pulse does there: S turns interrupts on, which wait for one more instruction, C turns them off, and P does nothing
unfoldable pub central_pulse : ℕ → MachineState → MachineState
central_pulse bits m =
    if bits == 1 then record m { ints = enabled m.ints } else if bits == 2 then record m { ints = disabled m.ints } else m

-- a word to device 77 that is no skip: its pulse comes behind its function
unfoldable pub central : ℕ → MachineState → MachineState
central word m = central_pulse (bits 8 9 word) (central_function (bits 5 7 word) (bits 3 4 word) m)

-- a word to device 77: a skip looks at whether interrupts are on, as BUSY, and at a DONE that is always clear; and DOC
-- stops behind itself
unfoldable pub to_processor : ℕ → MachineState → Turned
to_processor word m =
    if bits 5 7 word == 7 then goes_on (executed (tested (bits 8 9 word) m.ints.on false) m)
    else if bits 5 7 word == 6 then stops Halt (ticked (central word (begun m)))
    else goes_on (ticked (central word (begun m)))

-- a word of input and output
unfoldable pub transfer : ℕ → MachineState → Turned
transfer word m =
    if bits 10 15 word == 1 then goes_on (executed (multiply_divide word) m)
    else if bits 10 15 word == 0o77 then to_processor word m
    else to_device (bits 10 15 word) word m
