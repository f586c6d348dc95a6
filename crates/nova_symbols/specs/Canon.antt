-- The one canonical text of each word, by its fields.
use Rattle.std.specs.Prelude.{ℕ, ◌-◌, ◌*◌, ◌==◌, Option, Some, None, List, [], ◌∷◌, ◌++◌, nat_lt, if◌then◌else◌, position}
use Rattle.nova_word.specs.Bits.{bits}
use Rattle.nova_word.specs.Numbers.{octal_digits}
use Rattle.nova_symbols.specs.Names.{entry, memory_names, load_names, indirect_marks, arithmetic_names, carry_letters, shift_letters, no_load_marks, skip_names, transfer_names, pulse_letters, test_names, device_names, device_codes, lone_words, lone_names, processor_words, processor_names}

-- a number below 0o1000, in octal digits without leading zeros
unfoldable pub short_octal : ℕ → List ℕ
short_octal n = if nat_lt n 8 then octal_digits 1 n else (if nat_lt n 64 then octal_digits 2 n else octal_digits 3 n)

-- a displacement of eight bits as a number with a sign: its plus sign is the first argument
unfoldable pub signed_octal : List ℕ → ℕ → List ℕ
signed_octal plus d = if nat_lt d 128 then plus ++ short_octal d else 45 ∷ short_octal (256 - d)

-- The address of a memory reference: a number in page zero, one relative to the instruction, or one
-- relative to an accumulator.
unfoldable pub address_text : ℕ → ℕ → List ℕ
address_text index d =
    if index == 0 then short_octal d else (if index == 1 then 46 ∷ signed_octal (43 ∷ []) d else signed_octal [] d ++ 44 ∷ octal_digits 1 index)

unfoldable pub target_text : ℕ → List ℕ
target_text w = entry indirect_marks (bits 5 5 w) ++ address_text (bits 6 7 w) (bits 8 15 w)

unfoldable pub memory_text : ℕ → List ℕ
memory_text w = entry memory_names (bits 3 4 w) ++ 32 ∷ target_text w

unfoldable pub load_text : ℕ → List ℕ
load_text w = entry load_names (bits 1 2 w - 1) ++ 32 ∷ octal_digits 1 (bits 3 4 w) ++ 44 ∷ target_text w

-- a skip stands only where there is one
unfoldable pub skip_text : ℕ → List ℕ
skip_text k = if k == 0 then [] else 44 ∷ entry skip_names (k - 1)

unfoldable pub arithmetic_text : ℕ → List ℕ
arithmetic_text w =
    entry arithmetic_names (bits 5 7 w) ++ entry carry_letters (bits 10 11 w) ++ entry shift_letters (bits 8 9 w) ++ entry no_load_marks (bits 12 12 w) ++ 32 ∷ octal_digits 1 (bits 1 2 w) ++ 44 ∷ octal_digits 1 (bits 3 4 w) ++ skip_text (bits 13 15 w)

-- what stands at the place of a table, or the other text
abbrev pub entry_or : Option ℕ → List (List ℕ) → List ℕ → List ℕ
entry_or (Some k) table other = entry table k
entry_or None table other = other

-- the name of a device, or two octal digits
unfoldable pub device_text : ℕ → List ℕ
device_text code = entry_or (position (λ c. c == code) device_codes) device_names (octal_digits 2 code)

-- an accumulator and a device; an accumulator 0 is left out behind a name that sets and reads none
unfoldable pub accumulator_device_text : ℕ → List ℕ
accumulator_device_text w = octal_digits 1 (bits 3 4 w) ++ 44 ∷ device_text (bits 10 15 w)

unfoldable pub device_alone_text : ℕ → List ℕ
device_alone_text w = if bits 3 4 w == 0 then device_text (bits 10 15 w) else accumulator_device_text w

-- the general form of input and output
unfoldable pub transfer_text : ℕ → List ℕ
transfer_text w =
    if bits 5 7 w == 7 then entry test_names (bits 8 9 w) ++ 32 ∷ device_alone_text w else (if bits 5 7 w == 0 then entry transfer_names 0 ++ entry pulse_letters (bits 8 9 w) ++ 32 ∷ device_alone_text w else entry transfer_names (bits 5 7 w) ++ entry pulse_letters (bits 8 9 w) ++ 32 ∷ accumulator_device_text w)

-- the word with accumulator 0
abbrev pub with_accumulator_0 : ℕ → ℕ
with_accumulator_0 w = w - 2048 * bits 3 4 w

abbrev pub processor_text : Option ℕ → ℕ → List ℕ
processor_text (Some k) w = entry processor_names k ++ 32 ∷ octal_digits 1 (bits 3 4 w)
processor_text None w = transfer_text w

abbrev pub lone_text : Option ℕ → ℕ → List ℕ
lone_text (Some k) w = entry lone_names k
lone_text None w = processor_text (position (λ x. x == with_accumulator_0 w) processor_words) w

unfoldable pub input_output_text : ℕ → List ℕ
input_output_text w = lone_text (position (λ x. x == w) lone_words) w

-- the canonical text of a word
unfoldable pub canon : ℕ → List ℕ
canon w =
    if nat_lt w 0o20000 then memory_text w else (if nat_lt w 0o60000 then load_text w else (if nat_lt w 0o100000 then input_output_text w else arithmetic_text w))
