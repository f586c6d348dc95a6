-- The texts of each word, form by form: a name with its letters, and operands behind blanks, with a comma
-- between two operands. This says nothing of how a text is read or printed.
use Rattle.std.specs.Prelude.{◌≡◌, ℕ, ◌+◌, ◌-◌, ◌*◌, ◌%◌, ◌<◌, ◌≤◌, ◌⊎◌, List, [], ◌∷◌, ◌++◌, length, slice_index}
use Rattle.line_text.specs.Words.{IsBlanks, IsSpelled}
use Rattle.nova_word.specs.Numbers.{IsNumber}
use Rattle.nova_symbols.specs.declared.names.Shape.{Shape}
use Rattle.nova_symbols.specs.declared.names.Shape.TheVariants.{Alone, Processor, Memory, Load, Arithmetic, Transfer, Device}
use Rattle.nova_symbols.specs.Names.{entry, memory_names, load_names, arithmetic_names, carry_letters, shift_letters, no_load_marks, skip_names, transfer_names, pulse_letters, test_names, device_names, device_codes, lone_words, lone_names, processor_words, processor_names}

-- a text is the name at that place of a table
pub record IsEntry (table : List (List ℕ)) (text : List ℕ) (k : ℕ) : Type 0 where
  pub within : k < length table
  pub spelled : IsSpelled text (entry table k)

-- a comma, and blanks round it
pub record IsGap (text : List ℕ) : Type 0 where
  pub before : List ℕ
  pub after : List ℕ
  pub blank_before : IsBlanks before
  pub blank_after : IsBlanks after
  pub spelled : text ≡ before ++ 44 ∷ after

-- two parts with a comma between, and the sum of what they stand for
pub record IsPair (First Second : List ℕ → ℕ → Type 0) (text : List ℕ) (n : ℕ) : Type 0 where
  pub first : List ℕ
  pub gap : List ℕ
  pub second : List ℕ
  pub spelled : text ≡ first ++ (gap ++ second)
  pub comma : IsGap gap
  pub a : ℕ
  pub b : ℕ
  pub is_first : First first a
  pub is_second : Second second b
  pub sum : n ≡ a + b

-- an accumulator, which counts that much in the word
pub record IsAccumulator (scale : ℕ) (text : List ℕ) (n : ℕ) : Type 0 where
  pub number : ℕ
  pub is : IsNumber 8 text number
  pub within : number ≤ 3
  pub counts : n ≡ scale * number

-- an index is one digit, 1 to 3
pub record IsIndex (text : List ℕ) (n : ℕ) : Type 0 where
  pub index : ℕ
  pub some : 0 < index
  pub within : index ≤ 3
  pub spelled : text ≡ (48 + index) ∷ []
  pub counts : n ≡ 256 * index

-- a displacement below zero, as eight bits
pub record IsNegative (text : List ℕ) (n : ℕ) : Type 0 where
  pub digits : List ℕ
  pub number : ℕ
  pub spelled : text ≡ 45 ∷ digits
  pub is : IsNumber 8 digits number
  pub within : number ≤ 128
  pub counts : n ≡ (256 - number) % 256

-- a displacement with a sign, as eight bits
abbrev pub IsSigned : List ℕ → ℕ → Type 0
IsSigned text n = IsNegative text n ⊎ (IsNumber 8 text n × (n ≤ 127))

-- an address relative to the instruction
pub data IsRelative : List ℕ → ℕ → Type 0 where
  here : IsRelative (46 ∷ []) 0
  ahead : (digits : List ℕ) (n : ℕ) → IsNumber 8 digits n → n ≤ 127 → IsRelative (46 ∷ 43 ∷ digits) n
  behind : (text : List ℕ) (n : ℕ) → IsNegative text n → IsRelative (46 ∷ text) n

-- an address, as bits 6 to 15 of the word
pub data IsAddress : List ℕ → ℕ → Type 0 where
  page_zero : (text : List ℕ) (n : ℕ) → IsNumber 8 text n → n ≤ 255 → IsAddress text n
  relative : (text : List ℕ) (n : ℕ) → IsRelative text n → IsAddress text (256 + n)
  indexed : (text : List ℕ) (n : ℕ) → IsPair IsSigned IsIndex text n → IsAddress text n

-- the operand of a memory reference, as bits 5 to 15 of the word
pub data IsTarget : List ℕ → ℕ → Type 0 where
  direct : (text : List ℕ) (n : ℕ) → IsAddress text n → IsTarget text n
  indirect : (text : List ℕ) (n : ℕ) → IsAddress text n → IsTarget (64 ∷ text) (1024 + n)

-- a skip by its name
pub record IsSkip (text : List ℕ) (n : ℕ) : Type 0 where
  pub place : ℕ
  pub is : IsEntry skip_names text place
  pub counts : n ≡ place + 1

-- a device by its name, or by one or two digits
pub data IsDevice : List ℕ → ℕ → Type 0 where
  by_name : (text : List ℕ) (k : ℕ) → IsEntry device_names text k → IsDevice text (slice_index device_codes k)
  by_code : (text : List ℕ) (n : ℕ) → IsNumber 8 text n → n ≤ 63 → length text ≤ 2 → IsDevice text n

-- the operands of each shape
pub data AreOperands : Shape → List ℕ → ℕ → Type 0 where
  processor : (text : List ℕ) (n : ℕ) → IsAccumulator 2048 text n → AreOperands Processor text n
  memory : (text : List ℕ) (n : ℕ) → IsTarget text n → AreOperands Memory text n
  load : (text : List ℕ) (n : ℕ) → IsPair (IsAccumulator 2048) IsTarget text n → AreOperands Load text n
  no_skip : (text : List ℕ) (n : ℕ) → IsPair (IsAccumulator 8192) (IsAccumulator 2048) text n → AreOperands Arithmetic text n
  skip : (text : List ℕ) (n : ℕ) → IsPair (IsAccumulator 8192) (IsPair (IsAccumulator 2048) IsSkip) text n → AreOperands Arithmetic text n
  transfer : (text : List ℕ) (n : ℕ) → IsPair (IsAccumulator 2048) IsDevice text n → AreOperands Transfer text n
  device : (text : List ℕ) (n : ℕ) → IsDevice text n → AreOperands Device text n
  with_accumulator : (text : List ℕ) (n : ℕ) → IsPair (IsAccumulator 2048) IsDevice text n → AreOperands Device text n

-- the letters behind an arithmetic name
pub record AreLetters (text : List ℕ) (n : ℕ) : Type 0 where
  pub carry : ℕ
  pub shift : ℕ
  pub no_load : ℕ
  pub within : (carry < 4) × (shift < 4) × (no_load < 2)
  pub spelled : IsSpelled text (entry carry_letters carry ++ (entry shift_letters shift ++ entry no_load_marks no_load))
  pub counts : n ≡ 16 * carry + 64 * shift + 8 * no_load

-- the names, with the operands that follow them and the word where these are 0
pub data IsNamed : List ℕ → Shape → ℕ → Type 0 where
  memory_name : (word : List ℕ) (k : ℕ) → IsEntry memory_names word k → IsNamed word Memory (2048 * k)
  load_name : (word : List ℕ) (k : ℕ) → IsEntry load_names word k → IsNamed word Load (8192 * (k + 1))
  arithmetic_name : (word name letters : List ℕ) (k n : ℕ) → word ≡ name ++ letters → IsEntry arithmetic_names name k → AreLetters letters n → IsNamed word Arithmetic (32768 + 256 * k + n)
  lone_name : (word : List ℕ) (k : ℕ) → IsEntry lone_names word k → IsNamed word Alone (slice_index lone_words k)
  processor_name : (word : List ℕ) (k : ℕ) → IsEntry processor_names word k → IsNamed word Processor (slice_index processor_words k)
  test_name : (word : List ℕ) (k : ℕ) → IsEntry test_names word k → IsNamed word Device (0o63400 + 64 * k)
  no_transfer_name : (word name letter : List ℕ) (pulse : ℕ) → word ≡ name ++ letter → IsEntry transfer_names name 0 → IsEntry pulse_letters letter pulse → IsNamed word Device (0o60000 + 64 * pulse)
  transfer_name : (word name letter : List ℕ) (k pulse : ℕ) → word ≡ name ++ letter → 0 < k → IsEntry transfer_names name k → IsEntry pulse_letters letter pulse → IsNamed word Transfer (0o60000 + 256 * k + 64 * pulse)

-- the texts of a word
pub data Reads : List ℕ → ℕ → Type 0 where
  name_alone : (word : List ℕ) (w : ℕ) → IsNamed word Alone w → Reads word w
  name_and_operands : (text word blanks operands : List ℕ) (shape : Shape) (bits n : ℕ) → text ≡ word ++ (blanks ++ operands) → IsNamed word shape bits → 0 < length blanks → IsBlanks blanks → AreOperands shape operands n → Reads text (bits + n)
