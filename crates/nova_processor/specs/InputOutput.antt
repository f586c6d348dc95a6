-- The words of input and output on the processor (How to Use the Nova Computers, "Input-Output Instructions"), and those
-- to device 1, the multiply and divide unit ("Multiply/Divide").
use Rattle.std.specs.Prelude.{ℕ, ◌==◌, ◌||◌, Bool, false, not, slice_set, if◌then◌else◌}
use Rattle.nova_word.specs.Bits.{bits}
use Rattle.nova_alu.specs.MultiplyDivide.{multiplied, divided, divide_overflows}
use Rattle.nova_processor.specs.Processor.{ProcessorState}
use Rattle.nova_processor.specs.Instruction.{advanced}

-- MUL
unfoldable pub multiply : ProcessorState → ProcessorState
multiply p = record p { cpu = advanced false (record p.cpu { accumulators = multiplied p.cpu.accumulators }) }

-- DIV
unfoldable pub divide : ProcessorState → ProcessorState
divide p = record p { cpu = advanced false (record p.cpu { accumulators = divided p.cpu.accumulators; carry = divide_overflows p.cpu.accumulators }) }

-- DIA, DIB and DIC: that word goes into the accumulator
unfoldable pub input : ℕ → ℕ → ProcessorState → ProcessorState
input accumulator word p = record p { cpu = advanced false (record p.cpu { accumulators = slice_set p.cpu.accumulators accumulator word }) }

-- the functions in bits 5 to 7 that are inputs
abbrev pub is_input : ℕ → Bool
is_input function = (function == 1) || (function == 3) || (function == 5)

-- a word that does nothing to the processor
unfoldable pub past : ProcessorState → ProcessorState
past p = record p { cpu = advanced false p.cpu }

-- the processor behind a word that is no skip, with the word that an input answers
unfoldable pub passed : ℕ → ℕ → ℕ → ProcessorState → ProcessorState
passed function accumulator word p = if is_input function then input accumulator word p else past p

-- whether a skip is taken, by bits 8 and 9: on BUSY, on no BUSY, on DONE, on no DONE
abbrev pub flag_skips : ℕ → Bool → Bool → Bool
flag_skips test busy done = if test == 0 then busy else if test == 1 then not busy else if test == 2 then done else not done

-- the processor behind a skip on those flags
unfoldable pub tested : ℕ → Bool → Bool → ProcessorState → ProcessorState
tested test busy done p = record p { cpu = advanced (flag_skips test busy done) p.cpu }

-- a word that nothing answers: inputs are 0, and BUSY and DONE are clear. No pulse does anything.
unfoldable pub unanswered : ℕ → ProcessorState → ProcessorState
unanswered word p =
    if bits 5 7 word == 7 then tested (bits 8 9 word) false false p else passed (bits 5 7 word) (bits 3 4 word) 0 p

-- a word to device 1: two words are MUL and DIV, and no other is answered
unfoldable pub multiply_divide : ℕ → ProcessorState → ProcessorState
multiply_divide word p = if word == 0o73301 then multiply p else if word == 0o73101 then divide p else unanswered word p
