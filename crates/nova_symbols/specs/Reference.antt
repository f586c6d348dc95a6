-- The front of a memory reference: all but its address, for a reader whose addresses have names.
use Rattle.std.specs.Prelude.{ℕ, ◌+◌, ◌*◌, Option, Some, None, Result, Ok, Err, List}
use Rattle.line_text.specs.Words.{word_at, past_blanks}
use Rattle.nova_symbols.specs.declared.fault.SymbolFault.{SymbolFault}
use Rattle.nova_symbols.specs.declared.names.Shape.{Shape}
use Rattle.nova_symbols.specs.declared.names.Shape.TheVariants.{Alone, Processor, Memory, Load, Arithmetic, Transfer, Device}
use Rattle.nova_symbols.specs.declared.names.Naming.{Naming}
use Rattle.nova_symbols.specs.Naming.{memory_named}
use Rattle.nova_symbols.specs.Operands.{accumulator_at, after_comma}

-- the word with a 0 in the place of the address, and the text from the address on
pub record Front : Type 0 where
  pub word : ℕ
  pub address : List ℕ

-- behind the accumulator of a load or a store stands a comma, and then the address
abbrev pub comma_found : ℕ → Option (List ℕ) → Option Front
comma_found word (Some address) = Some (record { word = word; address = address })
comma_found word None = None

abbrev pub load_front : ℕ → Result (ℕ × List ℕ) SymbolFault → Option Front
load_front bits (Ok accumulator) = comma_found (bits + 2048 * accumulator.0) (after_comma accumulator.1)
load_front bits (Err fault) = None

-- what stands before the address, by the shape of the name's operands
abbrev pub front_of : Shape → ℕ → List ℕ → Option Front
front_of Memory bits rest = Some (record { word = bits; address = past_blanks rest })
front_of Load bits rest = load_front bits (accumulator_at (past_blanks rest))
front_of Alone bits rest = None
front_of Processor bits rest = None
front_of Arithmetic bits rest = None
front_of Transfer bits rest = None
front_of Device bits rest = None

abbrev pub named_front : Option Naming → List ℕ → Option Front
named_front (Some n) rest = front_of n.shape n.bits rest
named_front None rest = None

-- the memory reference that a text begins with
unfoldable pub reference_at : List ℕ → Option Front
reference_at text = named_front (memory_named (word_at text).0) (word_at text).1
