-- What the first word of a text names: how operands follow it, and the word without them.
use Rattle.std.specs.Prelude.{ℕ, ◌+◌, ◌*◌, ◌==◌, Option, Some, None, List, [], ◌∷◌, length, take, drop, slice_index, position, if◌then◌else◌}
use Rattle.line_text.specs.Words.{is_spelled}
use Rattle.nova_symbols.specs.declared.names.Shape.{Shape}
use Rattle.nova_symbols.specs.declared.names.Shape.TheVariants.{Alone, Processor, Memory, Load, Arithmetic, Transfer, Device}
use Rattle.nova_symbols.specs.declared.names.Naming.{Naming}
use Rattle.nova_symbols.specs.Names.{memory_names, load_names, arithmetic_names, carry_letters, shift_letters, no_load_marks, transfer_names, pulse_letters, test_names, lone_words, lone_names, processor_words, processor_names, device_names, device_codes}

-- the place of a name in a table, in either case
abbrev pub name_place : List (List ℕ) → List ℕ → Option ℕ
name_place table word = position (λ name. is_spelled word name) table

abbrev pub otherwise : Option Naming → Option Naming → Option Naming
otherwise (Some n) other = Some n
otherwise None other = other

abbrev pub naming : Shape → ℕ → Naming
naming shape bits = record { shape = shape; bits = bits }

-- a jump or a modification of memory, a load or a store
abbrev pub memory_found : Option ℕ → Option Naming
memory_found (Some k) = Some (naming Memory (2048 * k))
memory_found None = None

abbrev pub load_found : Option ℕ → Option Naming
load_found (Some k) = Some (naming Load (8192 * (k + 1)))
load_found None = None

unfoldable pub memory_named : List ℕ → Option Naming
memory_named word = otherwise (memory_found (name_place memory_names word)) (load_found (name_place load_names word))

-- a letter of a table that may be left out: its place, 0 where it is, and what follows
abbrev pub letter_found : Option ℕ → List ℕ → ℕ × List ℕ
letter_found (Some k) text = (k, drop (length (take 1 text)) text)
letter_found None text = (0, text)

unfoldable pub letter : List (List ℕ) → List ℕ → ℕ × List ℕ
letter table text = letter_found (name_place table (take 1 text)) text

-- the letters behind an arithmetic name, as bits 8 to 12 of the word; nothing follows them
abbrev pub letters_end : ℕ → List ℕ → Option ℕ
letters_end bits [] = Some bits
letters_end bits (b ∷ more) = None

unfoldable pub arithmetic_letters : List ℕ → Option ℕ
arithmetic_letters text =
    let carry = letter carry_letters text in
    let shift = letter shift_letters carry.1 in
    let no_load = letter no_load_marks shift.1 in
    letters_end (16 * carry.0 + 64 * shift.0 + 8 * no_load.0) no_load.1

abbrev pub arithmetic_found : Option ℕ → Option ℕ → Option Naming
arithmetic_found (Some k) (Some letters) = Some (naming Arithmetic (0o100000 + 256 * k + letters))
arithmetic_found (Some k) None = None
arithmetic_found None letters = None

unfoldable pub arithmetic_named : List ℕ → Option Naming
arithmetic_named word = arithmetic_found (name_place arithmetic_names (take 3 word)) (arithmetic_letters (drop 3 word))

-- the words of input and output with a name of their own
abbrev pub lone_found : Option ℕ → Option Naming
lone_found (Some k) = Some (naming Alone (slice_index lone_words k))
lone_found None = None

abbrev pub processor_found : Option ℕ → Option Naming
processor_found (Some k) = Some (naming Processor (slice_index processor_words k))
processor_found None = None

abbrev pub test_found : Option ℕ → Option Naming
test_found (Some k) = Some (naming Device (0o63400 + 64 * k))
test_found None = None

-- the general names with their pulse
abbrev pub transfer_found : Option ℕ → Option ℕ → Option Naming
transfer_found (Some k) (Some pulse) =
    Some (naming (if k == 0 then Device else Transfer) (0o60000 + 256 * k + 64 * pulse))
transfer_found (Some k) None = None
transfer_found None pulse = None

unfoldable pub special_named : List ℕ → Option Naming
special_named word =
    otherwise (lone_found (name_place lone_names word)) (processor_found (name_place processor_names word))

unfoldable pub transfer_named : List ℕ → Option Naming
transfer_named word =
    otherwise (test_found (name_place test_names word)) (transfer_found (name_place transfer_names (take 3 word)) (name_place pulse_letters (drop 3 word)))

-- what a first word names
unfoldable pub named : List ℕ → Option Naming
named word =
    otherwise (memory_named word) (otherwise (arithmetic_named word) (otherwise (special_named word) (transfer_named word)))

-- the code of a device by its name
abbrev pub code_found : Option ℕ → Option ℕ
code_found (Some k) = Some (slice_index device_codes k)
code_found None = None

unfoldable pub device_named : List ℕ → Option ℕ
device_named word = code_found (name_place device_names word)
