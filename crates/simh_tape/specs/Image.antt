-- Tape images as lists of bytes: "SIMH Magtape Representation and Handling", sections on the format and on its items.
use Rattle.std.specs.Prelude.{ℕ, ◌+◌, ◌-◌, ◌/◌, ◌%◌, ◌^◌, ◌==◌, ◌&&◌, nat_le, nat_lt, min, Bool, false, List, ◌++◌, length, take, drop, if◌then◌else◌}
use Rattle.std.specs.Int.{w32, from_le_bytes}
use Rattle.file_traits.specs.declared.files.FileCall.{FileCall}

-- what stands at a place: nothing, less than a word, or a word
pub data WordAt : Type 0 where
  AtEnd : WordAt
  CutShort : WordAt
  WordIs : ℕ → WordAt

-- the word at a place: 4 bytes, the lowest first
abbrev pub word_at : List ℕ → ℕ → WordAt
word_at bytes place =
    if nat_le (length bytes) place then AtEnd
    else if nat_lt (length bytes) (place + 4) then CutShort
    else WordIs (from_le_bytes w32 (take 4 (drop place bytes)))

-- whether this very word stands there
abbrev pub is_word : WordAt → ℕ → Bool
is_word AtEnd word = false
is_word CutShort word = false
is_word (WordIs there) word = there == word

-- what is met at a place, with the place behind it in the direction of reading
pub data Met : Type 0 where
  -- a block: its number of data bytes, its error flag
  BlockTo : ℕ → Bool → ℕ → Met
  MarkTo : ℕ → Met
  MediumEnds : Met
  AtLoadPoint : Met
  -- no item: the place that is said to be bad
  BadAt : ℕ → Met
  -- nothing, since that call failed
  CallFails : FileCall → Met

-- the length of a block is in the low 24 bits of its length word
abbrev pub data_length : ℕ → ℕ
data_length word = word % 2 ^ 24

-- bit 31 of a length word is the error flag
abbrev pub is_flagged : ℕ → Bool
is_flagged word = word / 2 ^ 31 == 1

-- a block has some data, and bits 24 to 30 of its length word are zero
abbrev pub is_length_word : ℕ → Bool
is_length_word word = nat_lt 0 (data_length word) && (word / 2 ^ 24 % 2 ^ 7 == 0)

-- data bytes with their padding: one byte where their number is odd
abbrev pub padded : ℕ → ℕ
padded count = count + count % 2

-- a block of so many data bytes is its length word, its data with their padding, and its length word again
abbrev pub block_size : ℕ → ℕ
block_size count = 4 + padded count + 4

-- the block behind a place at which that word stands
abbrev pub block_after : List ℕ → ℕ → ℕ → Met
block_after bytes place word =
    if is_length_word word && is_word (word_at bytes (place + 4 + padded (data_length word))) word
    then BlockTo (data_length word) (is_flagged word) (place + block_size (data_length word))
    else BadAt place

-- the item behind a place, by the word that stands there
abbrev pub item_after : List ℕ → ℕ → WordAt → Met
item_after bytes place AtEnd = MediumEnds
item_after bytes place CutShort = BadAt place
item_after bytes place (WordIs word) =
    if word == 2 ^ 32 - 1 then MediumEnds
    else if word == 0 then MarkTo (place + 4)
    else block_after bytes place word

-- the item behind a place, read forward
abbrev pub next : List ℕ → ℕ → Met
next bytes place = item_after bytes place (word_at bytes place)

-- the block that ends at a place with that word
abbrev pub block_before : List ℕ → ℕ → ℕ → Met
block_before bytes place word =
    if is_length_word word && nat_le (block_size (data_length word)) place && is_word (word_at bytes (place - block_size (data_length word))) word
    then BlockTo (data_length word) (is_flagged word) (place - block_size (data_length word))
    else BadAt (place - 4)

-- the item that ends at a place, by the last word before it
abbrev pub item_before : List ℕ → ℕ → WordAt → Met
item_before bytes place AtEnd = BadAt (place - 4)
item_before bytes place CutShort = BadAt (place - 4)
item_before bytes place (WordIs word) = if word == 0 then MarkTo (place - 4) else block_before bytes place word

-- the item that ends at a place of the image
abbrev pub ending_at : List ℕ → ℕ → Met
ending_at bytes place =
    if place == 0 then AtLoadPoint
    else if nat_lt place 4 then BadAt 0
    else item_before bytes place (word_at bytes (place - 4))

-- the item before a place, read backwards. A place past the end is first taken as the end.
abbrev pub previous : List ℕ → ℕ → Met
previous bytes place = ending_at bytes (min place (length bytes))

-- the first data of a block, as many as fit, over the front of a buffer
abbrev pub with_front : List ℕ → List ℕ → List ℕ
with_front bytes buffer = take (length buffer) bytes ++ drop (length bytes) buffer
