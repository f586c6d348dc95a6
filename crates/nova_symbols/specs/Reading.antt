-- Which word a text stands for, or its leftmost fault.
use Rattle.std.specs.Prelude.{ℕ, ◌+◌, ◌-◌, ◌*◌, Option, Some, None, Result, Ok, Err, List, length}
use Rattle.line_text.specs.Words.{word_at, past_blanks}
use Rattle.nova_symbols.specs.declared.fault.SymbolFault.{SymbolFault}
use Rattle.nova_symbols.specs.declared.fault.SymbolFault.TheVariants.{UnknownName, BadField, OutOfRange, Extra}
use Rattle.nova_symbols.specs.declared.names.Shape.{Shape}
use Rattle.nova_symbols.specs.declared.names.Shape.TheVariants.{Alone, Processor, Memory, Load, Arithmetic, Transfer, Device}
use Rattle.nova_symbols.specs.declared.names.Naming.{Naming}
use Rattle.nova_symbols.specs.Naming.{named}
use Rattle.nova_symbols.specs.Operands.{◌>>=◌, operand_at, after_comma, comma_at, accumulator_at, device_at, skip_at, target_at, ended}

unfoldable pub memory_operands : ℕ → List ℕ → Result ℕ SymbolFault
memory_operands bits text = do
  target ← target_at text
  ended (bits + target.0) target.1

unfoldable pub load_operands : ℕ → List ℕ → Result ℕ SymbolFault
load_operands bits text = do
  accumulator ← accumulator_at text
  next ← comma_at accumulator.1
  memory_operands (bits + 2048 * accumulator.0) next

-- a skip follows where a comma does
abbrev pub skip_operand : Option (List ℕ) → ℕ → List ℕ → Result ℕ SymbolFault
skip_operand None bits rest = ended bits rest
skip_operand (Some next) bits rest = do
  skip ← skip_at next
  ended (bits + skip.0) skip.1

unfoldable pub arithmetic_operands : ℕ → List ℕ → Result ℕ SymbolFault
arithmetic_operands bits text = do
  source ← accumulator_at text
  next ← comma_at source.1
  destination ← accumulator_at next
  skip_operand (after_comma destination.1) (bits + 8192 * source.0 + 2048 * destination.0) destination.1

unfoldable pub device_operand : ℕ → List ℕ → Result ℕ SymbolFault
device_operand bits text = do
  device ← device_at text
  ended (bits + device.0) device.1

unfoldable pub transfer_operands : ℕ → List ℕ → Result ℕ SymbolFault
transfer_operands bits text = do
  accumulator ← accumulator_at text
  next ← comma_at accumulator.1
  device_operand (bits + 2048 * accumulator.0) next

-- a device alone where no comma follows the first operand
abbrev pub one_or_two : Option (List ℕ) → ℕ → List ℕ → Result ℕ SymbolFault
one_or_two None bits text = device_operand bits text
one_or_two (Some next) bits text = transfer_operands bits text

unfoldable pub device_operands : ℕ → List ℕ → Result ℕ SymbolFault
device_operands bits text = one_or_two (after_comma (operand_at text).1) bits text

unfoldable pub processor_operand : ℕ → List ℕ → Result ℕ SymbolFault
processor_operand bits text = do
  accumulator ← accumulator_at text
  ended (bits + 2048 * accumulator.0) accumulator.1

-- what follows a name, by the shape of its operands
unfoldable pub operands : Shape → ℕ → List ℕ → Result ℕ SymbolFault
operands Alone bits rest = ended bits rest
operands Processor bits rest = processor_operand bits (past_blanks rest)
operands Memory bits rest = memory_operands bits (past_blanks rest)
operands Load bits rest = load_operands bits (past_blanks rest)
operands Arithmetic bits rest = arithmetic_operands bits (past_blanks rest)
operands Transfer bits rest = transfer_operands bits (past_blanks rest)
operands Device bits rest = device_operands bits (past_blanks rest)

abbrev pub named_operands : Option Naming → List ℕ → Result ℕ SymbolFault
named_operands None rest = Err UnknownName
named_operands (Some n) rest = operands n.shape n.bits rest

unfoldable pub read_from_end : List ℕ → Result ℕ SymbolFault
read_from_end text = named_operands (named (word_at text).0) (word_at text).1

-- a fault by its place from the beginning
abbrev pub placed : ℕ → SymbolFault → SymbolFault
placed count UnknownName = UnknownName
placed count (BadField left) = BadField (count - left)
placed count (OutOfRange left) = OutOfRange (count - left)
placed count (Extra left) = Extra (count - left)

abbrev pub with_place : ℕ → Result ℕ SymbolFault → Result ℕ SymbolFault
with_place count (Ok w) = Ok w
with_place count (Err fault) = Err (placed count fault)

unfoldable pub reading : List ℕ → Result ℕ SymbolFault
reading text = with_place (length text) (read_from_end text)
