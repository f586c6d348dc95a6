-- The faults of texts, form by form: the longest front of a text that is right, and what stands behind it.
-- A fault of an operand is said by how many bytes of the text are left at its place.
use Rattle.std.specs.Prelude.{◌≡◌, ℕ, ◌+◌, ◌<◌, ◌⊎◌, All, List, [], ◌∷◌, ◌++◌, length}
use Rattle.nova_word.specs.Numbers.{IsNumber}
use Rattle.line_text.specs.Words.{IsBlank, IsBlanks, StartsIn}
use Rattle.nova_symbols.specs.declared.fault.SymbolFault.{SymbolFault}
use Rattle.nova_symbols.specs.declared.fault.SymbolFault.TheVariants.{UnknownName, BadField, OutOfRange, Extra}
use Rattle.nova_symbols.specs.declared.names.Shape.{Shape}
use Rattle.nova_symbols.specs.declared.names.Shape.TheVariants.{Alone, Processor, Memory, Load, Arithmetic, Transfer, Device}
use Rattle.nova_symbols.specs.Forms.{IsGap, IsAccumulator, IsIndex, IsSigned, IsAddress, IsSkip, IsDevice, IsNamed}
use Rattle.nova_symbols.specs.Reading.{placed}

-- blanks and commas end an operand
abbrev pub IsSeparator : ℕ → Type 0
IsSeparator b = IsBlank b ⊎ (b ≡ 44)

-- a text that begins with that byte
abbrev pub StartsAs : ℕ → List ℕ → Type 0
StartsAs c [] = ⊥
StartsAs c (b ∷ more) = b ≡ c

-- the operand that stands at the front of a text, and what follows it; it is empty where none stands there
pub record Stands (text operand rest : List ℕ) : Type 0 where
  pub spelled : text ≡ operand ++ rest
  pub whole : All (λ b. IsSeparator b → ⊥) operand
  pub ends : StartsIn IsSeparator rest

-- a comma follows the first operand of a text
pub record IsCommaNext (text : List ℕ) : Type 0 where
  pub operand : List ℕ
  pub gap : List ℕ
  pub next : List ℕ
  pub stands : Stands text operand (gap ++ next)
  pub comma : IsGap gap

-- a number above its largest, with as many bytes left at it
pub record IsAbove (largest : ℕ) (text : List ℕ) (left : ℕ) : Type 0 where
  pub number : ℕ
  pub is : IsNumber 8 text number
  pub above : largest < number
  pub counts : left ≡ length text

-- a field that has no numbers
abbrev pub IsNeverAbove : List ℕ → ℕ → Type 0
IsNeverAbove text left = ⊥

-- a displacement with a sign whose number is too large
pub data IsSignedAbove : List ℕ → ℕ → Type 0 where
  plain_above : (text : List ℕ) (left : ℕ) → IsAbove 127 text left → IsSignedAbove text left
  negative_above : (digits : List ℕ) (left : ℕ) → IsAbove 128 digits left → IsSignedAbove (45 ∷ digits) left

-- an address without an index whose number is too large
pub data IsAddressAbove : List ℕ → ℕ → Type 0 where
  page_zero_above : (text : List ℕ) (left : ℕ) → IsAbove 255 text left → IsAddressAbove text left
  ahead_above : (digits : List ℕ) (left : ℕ) → IsAbove 127 digits left → IsAddressAbove (46 ∷ 43 ∷ digits) left
  behind_above : (digits : List ℕ) (left : ℕ) → IsAbove 128 digits left → IsAddressAbove (46 ∷ 45 ∷ digits) left

-- The faults of a field, by its right texts and those with a number too large: a number too large is
-- out of range, and any other operand that is not right is bad, also a missing one.
pub data FieldFaults (Right Above : List ℕ → ℕ → Type 0) (start : ℕ) (text : List ℕ) : SymbolFault → Type 0 where
  too_large : (operand rest : List ℕ) (left : ℕ) → Stands text operand rest → Above operand left → FieldFaults Right Above start text (OutOfRange (left + length rest))
  bad : (operand rest : List ℕ) → Stands text operand rest → ((n : ℕ) → Right operand n → ⊥) → ((left : ℕ) → Above operand left → ⊥) → FieldFaults Right Above start text (BadField start)

-- the faults of the last field: its own, and text behind it
pub data LastFaults (Right Above : List ℕ → ℕ → Type 0) (start : ℕ) (text : List ℕ) : SymbolFault → Type 0 where
  at_last : (fault : SymbolFault) → FieldFaults Right Above start text fault → LastFaults Right Above start text fault
  behind_last : (operand rest : List ℕ) (n : ℕ) → Stands text operand rest → Right operand n → 0 < length rest → LastFaults Right Above start text (Extra (length rest))

-- a text without a blank and a comma at its front
abbrev pub IsBare : List ℕ → Type 0
IsBare = StartsIn (λ b. IsSeparator b → ⊥)

abbrev pub IsPastBlanks : List ℕ → Type 0
IsPastBlanks = StartsIn (λ b. IsBlank b → ⊥)

-- the faults of a field that others follow: its own, a missing comma, and those behind the comma
pub data FirstFaults (Right Above : List ℕ → ℕ → Type 0) (Next : List ℕ → SymbolFault → Type 0) (start : ℕ) (text : List ℕ) : SymbolFault → Type 0 where
  at_first : (fault : SymbolFault) → FieldFaults Right Above start text fault → FirstFaults Right Above Next start text fault
  no_comma : (operand blanks rest : List ℕ) (n : ℕ) → Stands text operand (blanks ++ rest) → Right operand n → IsBlanks blanks → IsBare rest → FirstFaults Right Above Next start text (BadField (length rest))
  behind_comma : (operand gap next : List ℕ) (n : ℕ) (fault : SymbolFault) → Stands text operand (gap ++ next) → Right operand n → IsGap gap → IsPastBlanks next → Next next fault → FirstFaults Right Above Next start text fault

-- one or the other, by what holds
abbrev pub Either : Type 0 → Type 0 → Type 0 → Type 0
Either P Yes No = (P × Yes) ⊎ ((P → ⊥) × No)

abbrev pub IsLastAccumulator : List ℕ → SymbolFault → Type 0
IsLastAccumulator text = LastFaults (IsAccumulator 1) (IsAbove 3) (length text) text

abbrev pub IsFirstAccumulator : (List ℕ → SymbolFault → Type 0) → List ℕ → SymbolFault → Type 0
IsFirstAccumulator Next text = FirstFaults (IsAccumulator 1) (IsAbove 3) Next (length text) text

abbrev pub IsLastSkip : List ℕ → SymbolFault → Type 0
IsLastSkip text = LastFaults IsSkip IsNeverAbove (length text) text

abbrev pub IsLastDevice : List ℕ → SymbolFault → Type 0
IsLastDevice text = LastFaults IsDevice (IsAbove 63) (length text) text

abbrev pub IsLastIndex : List ℕ → SymbolFault → Type 0
IsLastIndex text = LastFaults IsIndex (IsAbove 3) (length text) text

-- an index belongs to a number below zero, and to each number that a comma follows
abbrev pub CallsForIndex : List ℕ → Type 0
CallsForIndex text = StartsAs 45 text ⊎ ((StartsAs 46 text → ⊥) × IsCommaNext text)

-- the faults of an address
abbrev pub AddressFaults : ℕ → List ℕ → SymbolFault → Type 0
AddressFaults start text fault =
    Either (CallsForIndex text) (FirstFaults IsSigned IsSignedAbove IsLastIndex start text fault) (LastFaults IsAddress IsAddressAbove start text fault)

-- An operand of a memory reference that does not fit is at fault where it begins, at the `@` of one that
-- is indirect.
pub data TargetFaults : List ℕ → SymbolFault → Type 0 where
  direct_fault : (text : List ℕ) (fault : SymbolFault) → (StartsAs 64 text → ⊥) → AddressFaults (length text) text fault → TargetFaults text fault
  indirect_fault : (text : List ℕ) (fault : SymbolFault) → AddressFaults (length (64 ∷ text)) text fault → TargetFaults (64 ∷ text) fault

-- a second accumulator is the last operand, or a comma and a skip follow it
abbrev pub SecondFaults : List ℕ → SymbolFault → Type 0
SecondFaults text fault = Either (IsCommaNext text) (IsFirstAccumulator IsLastSkip text fault) (IsLastAccumulator text fault)

-- where a comma follows the first operand, it is an accumulator
abbrev pub DeviceFaults : List ℕ → SymbolFault → Type 0
DeviceFaults text fault = Either (IsCommaNext text) (IsFirstAccumulator IsLastDevice text fault) (IsLastDevice text fault)

-- the faults of the operands of each shape
abbrev pub OperandFaults : Shape → List ℕ → SymbolFault → Type 0
OperandFaults Alone text fault = ⊥
OperandFaults Processor text fault = IsLastAccumulator text fault
OperandFaults Memory text fault = TargetFaults text fault
OperandFaults Load text fault = IsFirstAccumulator TargetFaults text fault
OperandFaults Arithmetic text fault = IsFirstAccumulator SecondFaults text fault
OperandFaults Transfer text fault = IsFirstAccumulator IsLastDevice text fault
OperandFaults Device text fault = DeviceFaults text fault

-- the faults of a text, by their places from its beginning
pub data Faults : List ℕ → SymbolFault → Type 0 where
  unknown_name : (text word rest : List ℕ) → text ≡ word ++ rest → All (λ b. IsBlank b → ⊥) word → StartsIn IsBlank rest → ((shape : Shape) (bits : ℕ) → IsNamed word shape bits → ⊥) → Faults text UnknownName
  behind_name : (text word rest : List ℕ) (bits : ℕ) → text ≡ word ++ rest → IsNamed word Alone bits → StartsIn IsBlank rest → 0 < length rest → Faults text (Extra (length word))
  at_operands : (text word blanks operands : List ℕ) (shape : Shape) (bits : ℕ) (fault : SymbolFault) → text ≡ word ++ (blanks ++ operands) → IsNamed word shape bits → IsBlanks blanks → IsPastBlanks operands → StartsIn IsBlank (blanks ++ operands) → OperandFaults shape operands fault → Faults text (placed (length text) fault)
