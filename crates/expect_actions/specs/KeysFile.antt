-- Keys files: which byte is typed when. A line is a count of instructions, a space and a quoted text, whose bytes are
-- keys that are due at that count.
use Rattle.std.specs.Prelude.{◌≡◌, ℕ, ◌+◌, ◌^◌, ◌<◌, ◌≤◌, ◌==◌, ◌&&◌, nat_le, if◌then◌else◌, List, [], ◌∷◌, ◌++◌}
use Rattle.std.specs.Prelude.{length, map, take, drop, slice_get, Option, Some, None, option_and_then, Result, Ok, Err}
use Rattle.std.specs.List.{position}
use Rattle.nova_word.specs.declared.numbers.NumberFault.{NumberFault}
use Rattle.nova_word.specs.Numbers.{IsNumber, number_read}
use Rattle.nova_word.specs.Quoted.{BeginsQuoted, quoted_read}
use Rattle.expect_actions.specs.declared.keys.KeysFault.{KeysFault}
use Rattle.expect_actions.specs.declared.keys.KeysFault.TheVariants.{Bad, OutOfMemory}

-- a key: the time at which it is due, in instructions, and its byte
abbrev pub Key : Type 0
Key = ℕ × ℕ

-- what a line says: its time, and the bytes of its text
abbrev pub KeysLine : Type 0
KeysLine = ℕ × List ℕ

-- how many keys a file has at most
abbrev pub most_keys : ℕ
most_keys = 65536

-- the largest time of a key
abbrev pub latest_time : ℕ
latest_time = 2 ^ 60

-- a line, without its LF: a decimal count, a space and a quoted text, and nothing behind that
pub record IsLine (line : List ℕ) (says : KeysLine) : Type 0 where
  pub digits : List ℕ
  pub quoted : List ℕ
  pub spelled : line ≡ digits ++ 32 ∷ quoted
  pub count : IsNumber 10 digits says.0
  pub within : says.0 ≤ latest_time
  pub text : BeginsQuoted quoted says.1 []

-- lines with an LF behind each
pub data AreLines : List ℕ → List KeysLine → Type 0 where
  none : AreLines [] []
  more : (line rest : List ℕ) (says : KeysLine) (others : List KeysLine) → IsLine line says → AreLines rest others →
      AreLines (line ++ 10 ∷ rest) (says ∷ others)

-- the same, where the last line may lack its LF
pub data MayLackFeed : List ℕ → List KeysLine → Type 0 where
  whole : (bytes : List ℕ) (lines : List KeysLine) → AreLines bytes lines → MayLackFeed bytes lines
  lacking : (bytes last : List ℕ) (lines : List KeysLine) (says : KeysLine) → AreLines bytes lines → IsLine last says →
      MayLackFeed (bytes ++ last) (lines ++ says ∷ [])

-- times do not fall, from that time on
abbrev pub DoNotFall : ℕ → List KeysLine → Type 0
DoNotFall time [] = Unit {0}
DoNotFall time (says ∷ others) = (time ≤ says.0) × DoNotFall says.0 others

-- the keys of a line, and those of lines, in their order
abbrev pub keys_of : KeysLine → List Key
keys_of says = map (λ b. (says.0, b)) says.1

abbrev pub all_keys : List KeysLine → List Key
all_keys [] = []
all_keys (says ∷ others) = keys_of says ++ all_keys others

-- lines that a keys file can have: their times do not fall, and they have few enough keys
pub record IsKept (lines : List KeysLine) : Type 0 where
  pub times : DoNotFall 0 lines
  pub few : length (all_keys lines) ≤ most_keys

-- a keys file and its keys
pub record IsKeysFile (bytes : List ℕ) (keys : List Key) : Type 0 where
  pub lines : List KeysLine
  pub are : MayLackFeed bytes lines
  pub kept : IsKept lines
  pub give : keys ≡ all_keys lines

-- the bytes before the first LF, and those behind it
abbrev pub first_line : List ℕ → List ℕ
first_line [] = []
first_line (b ∷ rest) = if b == 10 then [] else b ∷ first_line rest

abbrev pub behind_line : List ℕ → List ℕ
behind_line [] = []
behind_line (b ∷ rest) = if b == 10 then rest else behind_line rest

-- the first faulty line begins at that place: the bytes before it are lines of a keys file, each with its LF, and the
-- line there, up to the next LF or the end, says nothing that can stand behind them
pub record IsFaultyAt (bytes : List ℕ) (place : ℕ) : Type 0 where
  pub within : place < length bytes
  pub lines : List KeysLine
  pub are : AreLines (take place bytes) lines
  pub kept : IsKept lines
  pub faulty : (says : KeysLine) → IsLine (first_line (drop place bytes)) says → IsKept (lines ++ says ∷ []) → ⊥

-- what is answered of the bytes of a file: its keys, or the place of its first faulty line
abbrev pub IsAnswer : List ℕ → Result (List Key) ℕ → Type 0
IsAnswer bytes (Ok keys) = IsKeysFile bytes keys
IsAnswer bytes (Err place) = IsFaultyAt bytes place

-- the answer, unless memory ran out
abbrev pub WithMemory : Result (List Key) KeysFault → (Result (List Key) ℕ → Type 0) → Type 0
WithMemory (Ok keys) P = P (Ok keys)
WithMemory (Err (Bad place)) P = P (Err place)
WithMemory (Err OutOfMemory) P = Unit {0}

-- The same as a function, line by line.

-- a first byte in front of lines
abbrev pub with_front : ℕ → List (List ℕ) → List (List ℕ)
with_front b [] = (b ∷ []) ∷ []
with_front b (line ∷ others) = (b ∷ line) ∷ others

-- the lines of a file, without the LF that stands behind each, or behind each but the last
abbrev pub lines_of : List ℕ → List (List ℕ)
lines_of [] = []
lines_of (b ∷ rest) = if b == 10 then [] ∷ lines_of rest else with_front b (lines_of rest)

-- a time that was read, up to the latest
abbrev pub time_read : Result ℕ NumberFault → Option ℕ
time_read (Ok time) = if nat_le time latest_time then Some time else None
time_read (Err fault) = None

-- what a line says, by its time, and by its text with what follows that
abbrev pub says_read : Option ℕ → Option (List ℕ × List ℕ) → Option KeysLine
says_read (Some time) (Some (text, [])) = Some (time, text)
says_read time quoted = None

unfoldable pub line_read : List ℕ → Option KeysLine
line_read line =
    option_and_then (λ n. says_read (time_read (number_read 10 (2 ^ 63) (take n line)))
    (quoted_read (drop (n + 1) line)))
    (position (λ b. b == 32) line)

-- the same, where the line can stand behind others, of which the last has that time, and which have so many keys
unfoldable pub next_read : ℕ → ℕ → List ℕ → Option KeysLine
next_read time count line =
    option_and_then (λ says. if nat_le time says.0 && nat_le (count + length says.1) most_keys then Some says else None)
    (line_read line)

-- the answer of lines behind others: the time of the last of those, the keys of all, and the place at which these begin
unfoldable pub keys_from : ℕ → List Key → ℕ → List (List ℕ) → Result (List Key) ℕ
keys_from time keys place [] = Ok keys
keys_from time keys place (line ∷ others) = elim (next_read time (length keys) line) [
  | None ↦ Err place
  | Some says ↦ keys_from says.0 (keys ++ keys_of says) (place + length line + 1) others
]

unfoldable pub keys_read : List ℕ → Result (List Key) ℕ
keys_read bytes = keys_from 0 [] 0 (lines_of bytes)

-- the keys of a line, where there is one
abbrev pub keys_said : Option KeysLine → List Key
keys_said None = []
keys_said (Some says) = keys_of says

-- no bytes have two answers
abbrev pub KeysHaveOneAnswer : Type 0
KeysHaveOneAnswer = (bytes : List ℕ) (a b : Result (List Key) ℕ) → IsAnswer bytes a → IsAnswer bytes b → a ≡ b

-- what is computed of the bytes of a file is an answer of them
abbrev pub KeysAreComputed : Type 0
KeysAreComputed = (bytes : List ℕ) → IsAnswer bytes (keys_read bytes)

-- the byte of a key by its number from 0, where there is one and its time has come
abbrev pub due_key : List Key → ℕ → ℕ → Option ℕ
due_key keys number now = option_and_then (λ key. if nat_le key.0 now then Some key.1 else None) (slice_get keys number)
