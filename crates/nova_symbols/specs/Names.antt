-- The names of the instructions, and the letters that follow them, in capitals
-- (How to Use the Nova Computers, "Instruction Mnemonics").
use Rattle.std.specs.Prelude.{ℕ, List, [], ◌∷◌, codes, slice_index_or}

-- the text at that place of a table
abbrev pub entry : List (List ℕ) → ℕ → List ℕ
entry table k = slice_index_or table k []

-- by bits 3 and 4
abbrev pub memory_names : List (List ℕ)
memory_names = codes "JMP" ∷ codes "JSR" ∷ codes "ISZ" ∷ codes "DSZ" ∷ []

-- by bits 1 and 2, less one
abbrev pub load_names : List (List ℕ)
load_names = codes "LDA" ∷ codes "STA" ∷ []

-- by bit 5
abbrev pub indirect_marks : List (List ℕ)
indirect_marks = [] ∷ codes "@" ∷ []

-- by bits 5 to 7
abbrev pub arithmetic_names : List (List ℕ)
arithmetic_names =
    codes "COM" ∷ codes "NEG" ∷ codes "MOV" ∷ codes "INC" ∷ codes "ADC" ∷ codes "SUB" ∷ codes "ADD" ∷ codes "AND" ∷ []

-- by bits 10 and 11
abbrev pub carry_letters : List (List ℕ)
carry_letters = [] ∷ codes "Z" ∷ codes "O" ∷ codes "C" ∷ []

-- by bits 8 and 9
abbrev pub shift_letters : List (List ℕ)
shift_letters = [] ∷ codes "L" ∷ codes "R" ∷ codes "S" ∷ []

-- by bit 12
abbrev pub no_load_marks : List (List ℕ)
no_load_marks = [] ∷ codes "#" ∷ []

-- by bits 13 to 15, less one
abbrev pub skip_names : List (List ℕ)
skip_names =
    codes "SKP" ∷ codes "SZC" ∷ codes "SNC" ∷ codes "SZR" ∷ codes "SNR" ∷ codes "SEZ" ∷ codes "SBN" ∷ []

-- by bits 5 to 7
abbrev pub transfer_names : List (List ℕ)
transfer_names =
    codes "NIO" ∷ codes "DIA" ∷ codes "DOA" ∷ codes "DIB" ∷ codes "DOB" ∷ codes "DIC" ∷ codes "DOC" ∷ []

-- by bits 8 and 9
abbrev pub pulse_letters : List (List ℕ)
pulse_letters = [] ∷ codes "S" ∷ codes "C" ∷ codes "P" ∷ []

-- the tests of a device, by bits 8 and 9
abbrev pub test_names : List (List ℕ)
test_names = codes "SKPBN" ∷ codes "SKPBZ" ∷ codes "SKPDN" ∷ codes "SKPDZ" ∷ []

-- the devices that have a name, and their codes in the same order
abbrev pub device_names : List (List ℕ)
device_names =
    codes "MDV" ∷ codes "TTI" ∷ codes "TTO" ∷ codes "PTR" ∷ codes "PTP" ∷ codes "RTC" ∷ codes "LPT" ∷ codes "DSK" ∷ codes "MTA" ∷ codes "QTY" ∷ codes "TTI1" ∷ codes "TTO1" ∷ codes "CPU" ∷ []

abbrev pub device_codes : List ℕ
device_codes =
    0o1 ∷ 0o10 ∷ 0o11 ∷ 0o12 ∷ 0o13 ∷ 0o14 ∷ 0o17 ∷ 0o20 ∷ 0o22 ∷ 0o30 ∷ 0o50 ∷ 0o51 ∷ 0o77 ∷ []

-- the words of input and output that have a name of their own, and their names in the same order
abbrev pub lone_words : List ℕ
lone_words = 0o60177 ∷ 0o60277 ∷ 0o62677 ∷ 0o63077 ∷ 0o73301 ∷ 0o73101 ∷ []

abbrev pub lone_names : List (List ℕ)
lone_names = codes "INTEN" ∷ codes "INTDS" ∷ codes "IORST" ∷ codes "HALT" ∷ codes "MUL" ∷ codes "DIV" ∷ []

-- the words with accumulator 0 that have a name followed by an accumulator, and their names
abbrev pub processor_words : List ℕ
processor_words = 0o60477 ∷ 0o61477 ∷ 0o62077 ∷ []

abbrev pub processor_names : List (List ℕ)
processor_names = codes "READS" ∷ codes "INTA" ∷ codes "MSKO" ∷ []
