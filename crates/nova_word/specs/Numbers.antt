-- Numbers as texts of digits, in octal and decimal.
use Rattle.std.specs.Prelude.{◌≡◌, ℕ, ◌+◌, ◌-◌, ◌*◌, ◌/◌, ◌%◌, ◌^◌, ◌<◌, ◌≤◌, zero, suc, Bool, ◌&&◌, not, nat_le, nat_lt, if◌then◌else◌, List, [], ◌∷◌, ◌++◌, length, All, take, slice_index, Option, Some, None, Result, Ok, Err}
use Rattle.std.specs.List.{position}
use Rattle.nova_word.specs.declared.numbers.NumberFault.{NumberFault}
use Rattle.nova_word.specs.declared.numbers.NumberFault.TheVariants.{Empty, BadDigit, TooLarge}

-- the last so many octal digits of a number, the most significant first
abbrev pub octal_digits : ℕ → ℕ → List ℕ
octal_digits zero n = []
octal_digits (suc count) n = octal_digits count (n / 8) ++ (48 + n % 8) ∷ []

-- how many octal digits a number has, if not more than so many and one
abbrev pub octal_width_up_to : ℕ → ℕ → ℕ
octal_width_up_to zero n = 1
octal_width_up_to (suc more) n = if nat_lt n 8 then 1 else suc (octal_width_up_to more (n / 8))

-- how many octal digits a number has: 0 has one
abbrev pub octal_width : ℕ → ℕ
octal_width n = octal_width_up_to n n

-- a byte is a digit of the base, which is at most ten
abbrev pub IsDigit : ℕ → ℕ → Type 0
IsDigit base b = (48 ≤ b) × (b < 48 + base)

-- the number that digits after these stand for, where these stand for the first argument
abbrev pub value_after : ℕ → ℕ → List ℕ → ℕ
value_after base before [] = before
value_after base before (b ∷ more) = value_after base (base * before + (b - 48)) more

-- the number that a text of digits stands for
abbrev pub value_of : ℕ → List ℕ → ℕ
value_of base text = value_after base 0 text

-- a text of digits of the base, one at least, and the number that it stands for
pub record IsNumber (base : ℕ) (text : List ℕ) (n : ℕ) : Type 0 where
  pub some : 0 < length text
  pub digits : All (IsDigit base) text
  pub value : value_of base text ≡ n

-- the first byte that is no digit stands at that place
pub record IsFirstBad (base : ℕ) (text : List ℕ) (place : ℕ) : Type 0 where
  pub within : place < length text
  pub digits : All (IsDigit base) (take place text)
  pub bad : IsDigit base (slice_index text place) → ⊥

-- what a reader answers: the number up to its largest, or the one fault
abbrev pub ReadsNumber : ℕ → ℕ → List ℕ → Result ℕ NumberFault → Type 0
ReadsNumber base largest text (Ok n) = IsNumber base text n × (n ≤ largest)
ReadsNumber base largest text (Err Empty) = text ≡ []
ReadsNumber base largest text (Err (BadDigit place)) = IsFirstBad base text place
ReadsNumber base largest text (Err TooLarge) = (n : ℕ) × IsNumber base text n × (largest < n)

-- The same as a function, by the first byte that is no digit.

abbrev pub is_digit : ℕ → ℕ → Bool
is_digit base b = nat_le 48 b && nat_lt b (48 + base)

-- a number, where it is not above the largest
abbrev pub number_up_to : ℕ → ℕ → Result ℕ NumberFault
number_up_to largest n = if nat_le n largest then Ok n else Err TooLarge

-- what is answered of some digits and other bytes, by the place of the first that is no digit
abbrev pub number_unless : ℕ → ℕ → List ℕ → Option ℕ → Result ℕ NumberFault
number_unless base largest text (Some place) = Err (BadDigit place)
number_unless base largest text None = number_up_to largest (value_of base text)

-- what a reader of numbers of that base, up to that largest one, answers of a text
unfoldable pub number_read : ℕ → ℕ → List ℕ → Result ℕ NumberFault
number_read base largest [] = Err Empty
number_read base largest (b ∷ more) = number_unless base largest (b ∷ more) (position (λ c. not (is_digit base c)) (b ∷ more))

-- the digits of a number are as many as were asked for, and where they are enough they stand for it
pub record DigitsReadBack : Type 0 where
  pub as_many : (count n : ℕ) → length (octal_digits count n) ≡ count
  pub number : (count n : ℕ) → 0 < count → n < 8 ^ count → IsNumber 8 (octal_digits count n) n

-- no text has two answers
abbrev pub HasOneAnswer : ℕ → ℕ → Type 0
HasOneAnswer base largest = (text : List ℕ) (a b : Result ℕ NumberFault) → ReadsNumber base largest text a → ReadsNumber base largest text b → a ≡ b

-- what a reader answers of a text is an answer of it
abbrev pub AnswerIsComputed : ℕ → ℕ → Type 0
AnswerIsComputed base largest = (text : List ℕ) → ReadsNumber base largest text (number_read base largest text)
