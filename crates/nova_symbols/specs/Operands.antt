-- The operands of a text, one by one from the left. A fault is said by how many bytes of the text are
-- left at its place.
use Rattle.std.specs.Prelude.{◌≡◌, ℕ, ◌+◌, ◌-◌, ◌*◌, ◌%◌, ◌==◌, Bool, ◌||◌, ◌&&◌, Option, Some, None, Result, Ok, Err, List, [], ◌∷◌, length, take, drop, nat_lt, nat_le, if◌then◌else◌}
use Rattle.std.specs.List.{position_or_len, list_all}
use Rattle.line_text.specs.Words.{is_blank, past_blanks}
use Rattle.nova_word.specs.Numbers.{value_of}
use Rattle.nova_symbols.specs.declared.fault.SymbolFault.{SymbolFault}
use Rattle.nova_symbols.specs.declared.fault.SymbolFault.TheVariants.{BadField, OutOfRange, Extra}
use Rattle.nova_symbols.specs.Names.{skip_names}
use Rattle.nova_symbols.specs.Naming.{name_place, device_named}

infixl 10 ◌>>=◌
abbrev pub ◌>>=◌ : {A B : Type 0} → Result A SymbolFault → (A → Result B SymbolFault) → Result B SymbolFault
(Ok x) >>= f = f x
(Err e) >>= f = Err e

-- what a reader answered, seen by view, is that reading
abbrev pub Gives : {X Y : Type 0} → (X → Y) → Result X SymbolFault → Result Y SymbolFault → Type 0
Gives view (Ok x) reading = reading ≡ Ok (view x)
Gives view (Err e) reading = reading ≡ Err e

-- a comma ends an operand too
abbrev pub is_separator : ℕ → Bool
is_separator b = is_blank b || b == 44

-- the operand with which a text begins and what follows it; it has no byte where none stands there
unfoldable pub operand_at : List ℕ → List ℕ × List ℕ
operand_at text = let n = position_or_len is_separator text in (take n text, drop n text)

-- the text behind a comma, with blanks before and after it
abbrev pub behind_comma : List ℕ → Option (List ℕ)
behind_comma [] = None
behind_comma (b ∷ more) = if b == 44 then Some (past_blanks more) else None

unfoldable pub after_comma : List ℕ → Option (List ℕ)
after_comma text = behind_comma (past_blanks text)

-- a comma must stand here: the next operand is missing otherwise
abbrev pub comma_found : Option (List ℕ) → List ℕ → Result (List ℕ) SymbolFault
comma_found (Some next) text = Ok next
comma_found None text = Err (BadField (length (past_blanks text)))

unfoldable pub comma_at : List ℕ → Result (List ℕ) SymbolFault
comma_at text = comma_found (after_comma text) text

abbrev pub is_octal_digit : ℕ → Bool
is_octal_digit b = nat_le 48 b && nat_lt b 56

-- one octal digit at least, and nothing else
unfoldable pub is_octal : List ℕ → Bool
is_octal digits = nat_lt 0 (length digits) && list_all is_octal_digit digits

-- a number up to its largest; the two places are that of its field and its own
unfoldable pub number : ℕ → List ℕ → ℕ → ℕ → Result ℕ SymbolFault
number largest digits field own =
    if is_octal digits then (if nat_lt largest (value_of 8 digits) then Err (OutOfRange own) else Ok (value_of 8 digits)) else Err (BadField field)

unfoldable pub accumulator_at : List ℕ → Result (ℕ × List ℕ) SymbolFault
accumulator_at text = do
  n ← number 3 (operand_at text).0 (length text) (length text)
  Ok (n, (operand_at text).1)

-- an index is one digit, 1 to 3
unfoldable pub index_at : List ℕ → Result (ℕ × List ℕ) SymbolFault
index_at text = do
  n ← number 3 (operand_at text).0 (length text) (length text)
  if n == 0 || nat_lt 1 (length (operand_at text).0) then Err (BadField (length text)) else Ok (n, (operand_at text).1)

-- a device is a name, or one or two digits
unfoldable pub device_number_at : List ℕ → Result (ℕ × List ℕ) SymbolFault
device_number_at text = do
  n ← number 63 (operand_at text).0 (length text) (length text)
  if nat_lt 2 (length (operand_at text).0) then Err (BadField (length text)) else Ok (n, (operand_at text).1)

abbrev pub device_found : Option ℕ → List ℕ → Result (ℕ × List ℕ) SymbolFault
device_found (Some code) text = Ok (code, (operand_at text).1)
device_found None text = device_number_at text

unfoldable pub device_at : List ℕ → Result (ℕ × List ℕ) SymbolFault
device_at text = device_found (device_named (operand_at text).0) text

abbrev pub skip_found : Option ℕ → List ℕ → Result (ℕ × List ℕ) SymbolFault
skip_found (Some k) text = Ok (k + 1, (operand_at text).1)
skip_found None text = Err (BadField (length text))

unfoldable pub skip_at : List ℕ → Result (ℕ × List ℕ) SymbolFault
skip_at text = skip_found (name_place skip_names (operand_at text).0) text

-- A number below zero as eight bits, from its digits behind the minus sign, the place of its field, and
-- the number of bytes behind it.
unfoldable pub negative : List ℕ → ℕ → ℕ → Result ℕ SymbolFault
negative digits field after = do
  n ← number 128 digits field (length digits + after)
  Ok ((256 - n) % 256)

-- what may stand behind the point of an address relative to the instruction
unfoldable pub relative : List ℕ → ℕ → ℕ → Result ℕ SymbolFault
relative [] field after = Ok 0
relative (sign ∷ digits) field after =
    if sign == 43 then number 127 digits field (length digits + after) else (if sign == 45 then negative digits field after else Err (BadField field))

-- a displacement with an index
unfoldable pub signed : List ℕ → ℕ → ℕ → Result ℕ SymbolFault
signed [] field after = Err (BadField field)
signed (sign ∷ digits) field after =
    if sign == 45 then negative digits field after else number 127 (sign ∷ digits) field (length (sign ∷ digits) + after)

unfoldable pub indexed : List ℕ → List ℕ → List ℕ → ℕ → Result (ℕ × List ℕ) SymbolFault
indexed operand next rest field = do
  d ← signed operand field (length rest)
  index ← index_at next
  Ok (256 * index.0 + d, index.1)

-- with no index, a number in page zero; a number below zero lacks its index
unfoldable pub not_indexed : List ℕ → List ℕ → ℕ → Result (ℕ × List ℕ) SymbolFault
not_indexed [] rest field = Err (BadField field)
not_indexed (sign ∷ digits) rest field =
    if sign == 45 then (negative digits field (length rest) >>= λ n. Err (BadField (length (past_blanks rest)))) else (number 255 (sign ∷ digits) field (length (sign ∷ digits) + length rest) >>= λ n. Ok (n, rest))

abbrev pub index_found : Option (List ℕ) → List ℕ → List ℕ → ℕ → Result (ℕ × List ℕ) SymbolFault
index_found (Some next) operand rest field = indexed operand next rest field
index_found None operand rest field = not_indexed operand rest field

-- an address: bits 6 to 15, and what follows it
unfoldable pub absolute : List ℕ → List ℕ → ℕ → Result (ℕ × List ℕ) SymbolFault
absolute operand rest field = index_found (after_comma rest) operand rest field

unfoldable pub address : List ℕ → List ℕ → ℕ → Result (ℕ × List ℕ) SymbolFault
address [] rest field = absolute [] rest field
address (b ∷ more) rest field =
    if b == 46 then (relative more field (length rest) >>= λ d. Ok (256 + d, rest)) else absolute (b ∷ more) rest field

unfoldable pub indirect : List ℕ → List ℕ → ℕ → Result (ℕ × List ℕ) SymbolFault
indirect [] rest field = address [] rest field
indirect (b ∷ more) rest field =
    if b == 64 then (address more rest field >>= λ a. Ok (1024 + a.0, a.1)) else address (b ∷ more) rest field

-- the operand of a memory reference: bits 5 to 15, and what follows it
unfoldable pub target_at : List ℕ → Result (ℕ × List ℕ) SymbolFault
target_at text = indirect (operand_at text).0 (operand_at text).1 (length text)

-- the end of a text: anything else there is too much
unfoldable pub ended : ℕ → List ℕ → Result ℕ SymbolFault
ended w [] = Ok w
ended w (b ∷ more) = Err (Extra (length (b ∷ more)))
