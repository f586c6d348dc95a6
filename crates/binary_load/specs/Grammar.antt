-- The forms of loader tapes: pieces behind one another, up to the end or a start block; and where a tape that has none of
-- these forms has its first fault.
use Rattle.std.specs.Prelude.{◌≡◌, ◌≢◌, ℕ, ◌+◌, ◌-◌, ◌*◌, ◌%◌, ◌^◌, ◌<◌, ◌≤◌, All, List, [], ◌∷◌, ◌++◌, length, replicate}
use Rattle.std.specs.Prelude.{slice_index, sum, None}
use Rattle.binary_load.specs.declared.faults.LoadFault.{LoadFault}
use Rattle.binary_load.specs.declared.faults.LoadFault.TheVariants.{Truncated, BadSum, PastMemory}
use Rattle.binary_load.specs.Tape.{Store, Tape, stores_from, start_at}
use Rattle.binary_load.specs.Dump.{bytes_of}

-- the words of a block: they add up to 0, and the low byte of the first one is not 0, which would stand before the block
pub record AreBlock (words : List ℕ) : Type 0 where
  pub begin : 0 < slice_index words 0 % 2 ^ 8
  pub add_up : sum words % 2 ^ 16 ≡ 0

-- bytes that a tape has in front of others, and what they store in a memory of that size: a zero byte; a block of 1 to 16
-- words; a block of one word for more addresses; and a block that is ignored. A count of 2 ^ 16 - n stands for -n
pub data IsPiece : ℕ → List ℕ → List Store → Type 0 where
  zero_byte : (size : ℕ) → IsPiece size (0 ∷ []) []
  words_block : (size origin check : ℕ) (words : List ℕ) → 0 < length words → length words ≤ 16 →
      origin + length words ≤ size → AreBlock ((2 ^ 16 - length words) ∷ origin ∷ check ∷ words) →
      IsPiece size (bytes_of ((2 ^ 16 - length words) ∷ origin ∷ check ∷ words)) (stores_from origin words)
  repeated_block : (size origin check word count : ℕ) → 16 < count → count ≤ 2 ^ 15 → origin + count ≤ size →
      AreBlock ((2 ^ 16 - count) ∷ origin ∷ check ∷ word ∷ []) →
      IsPiece size (bytes_of ((2 ^ 16 - count) ∷ origin ∷ check ∷ word ∷ [])) (stores_from origin (replicate count word))
  passed_block : (size count : ℕ) (others : List ℕ) → 1 < count → count < 2 ^ 15 → 0 < count % 2 ^ 8 →
      All (λ b. b ≢ 0xff) others → IsPiece size (bytes_of (count ∷ []) ++ (others ++ 0xff ∷ [])) []

-- tapes, and what they say
pub data IsTape : ℕ → List ℕ → Tape → Type 0 where
  ends : (size : ℕ) → IsTape size [] (record { stores = []; start = None })
  starts : (size origin check : ℕ) (others : List ℕ) → AreBlock (1 ∷ origin ∷ check ∷ []) →
      IsTape size (bytes_of (1 ∷ origin ∷ check ∷ []) ++ others) (record { stores = []; start = start_at origin })
  goes_on : (size : ℕ) (piece rest : List ℕ) (stores : List Store) (says : Tape) → IsPiece size piece stores →
      IsTape size rest says → IsTape size (piece ++ rest) (record { stores = stores ++ says.stores; start = says.start })

-- how many words stand behind the checksum of a block with a count, and for how many addresses they are
pub data CountSays : ℕ → ℕ → ℕ → Type 0 where
  says_words : (count : ℕ) → 0 < count → count ≤ 16 → CountSays (2 ^ 16 - count) count count
  says_one_word : (count : ℕ) → 16 < count → count ≤ 2 ^ 15 → CountSays (2 ^ 16 - count) 1 count
  says_start : CountSays 1 0 0

-- Bytes from a place on, for a memory of that size, and their first fault: a single byte that would begin a count; a block,
-- or an ignored one, that the bytes end within; a block whose words do not add up to 0; one that does, for an address past
-- the memory; or a piece without a fault, and behind it the fault.
pub data IsFaulty : ℕ → ℕ → List ℕ → LoadFault → Type 0 where
  count_ends : (size place byte : ℕ) → 0 < byte → IsFaulty size place (byte ∷ []) (Truncated (place + 1))
  block_ends : (size place count words addresses : ℕ) (others : List ℕ) → 0 < count % 2 ^ 8 →
      CountSays count words addresses → length others < 4 + 2 * words →
      IsFaulty size place (bytes_of (count ∷ []) ++ others) (Truncated (place + 2 + length others))
  passed_ends : (size place count : ℕ) (others : List ℕ) → 1 < count → count < 2 ^ 15 → 0 < count % 2 ^ 8 →
      All (λ b. b ≢ 0xff) others →
      IsFaulty size place (bytes_of (count ∷ []) ++ others) (Truncated (place + 2 + length others))
  adds_up_wrong : (size place count origin check addresses : ℕ) (words others : List ℕ) → 0 < count % 2 ^ 8 →
      CountSays count (length words) addresses → sum (count ∷ origin ∷ check ∷ words) % 2 ^ 16 ≢ 0 →
      IsFaulty size place (bytes_of (count ∷ origin ∷ check ∷ words) ++ others) (BadSum place)
  is_past : (size place count origin check addresses : ℕ) (words others : List ℕ) →
      CountSays count (length words) addresses → AreBlock (count ∷ origin ∷ check ∷ words) → 0 < addresses →
      size < origin + addresses →
      IsFaulty size place (bytes_of (count ∷ origin ∷ check ∷ words) ++ others) (PastMemory origin)
  fails_behind : (size place : ℕ) (piece rest : List ℕ) (stores : List Store) (fault : LoadFault) →
      IsPiece size piece stores → IsFaulty size (place + length piece) rest fault →
      IsFaulty size place (piece ++ rest) fault
