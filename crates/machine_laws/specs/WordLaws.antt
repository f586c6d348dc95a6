-- Words of memory that go out as the bytes of a sector or of a block of a tape, and come back from there.
use Rattle.std.specs.Prelude.{◌≡◌, ◌≢◌, ◌<◌, ◌≤◌, ◌+◌, ◌^◌, ℕ, List, None}
use Rattle.file_traits.specs.OneList.{longest_list, shown}
use Rattle.nova_memory.specs.Memory.{MemoryState, IsMemory, get}
use Rattle.unit_files.specs.Buffer.{sector_of, with_sector}
use Rattle.memory_transfer.specs.Words.{sector_words, address_on, word_in, words_put, bytes_got}
use Rattle.memory_transfer.specs.Tapes.{word_on_tape, block_put, block_got, block_written, memory_operated, image_operated}

-- Where words go out from an address on, their bytes have these words in order. Where words come in from bytes, each
-- stands at its address then, if there is memory, and no other word has changed.
pub record WordsReadBack : Type 0 where
  pub to_disk : (count from n : ℕ) (m : MemoryState) → n < count
      → word_in (bytes_got count from m) n ≡ get m (address_on from n)
  pub to_tape : (count from n : ℕ) (m : MemoryState) → n < count
      → word_on_tape (block_got count from m) n ≡ get m (address_on from n)
  pub from_disk : (count from n : ℕ) (bytes : List ℕ) (m : MemoryState) → IsMemory m → count ≤ 2 ^ 15 → n < count
      → address_on from n < m.size → get (words_put count from bytes m) (address_on from n) ≡ word_in bytes n
  pub from_tape : (count from n : ℕ) (bytes : List ℕ) (m : MemoryState) → IsMemory m → count ≤ 2 ^ 15 → n < count
      → address_on from n < m.size → get (block_put count from bytes m) (address_on from n) ≡ word_on_tape bytes n
  pub others : (count from at : ℕ) (bytes : List ℕ) (m : MemoryState)
      → ((n : ℕ) → n < count → address_on from n ≢ at)
      → (get (words_put count from bytes m) at ≡ get m at) × (get (block_put count from bytes m) at ≡ get m at)
  -- so a sector that was written from one address on, and is read to another, is the words that it was written of
  pub sector : (from to n number : ℕ) (bytes : List ℕ) (old m : MemoryState) → IsMemory m → n < sector_words
      → address_on to n < m.size
      → get (words_put sector_words to (sector_of (with_sector bytes number (bytes_got sector_words from old)) number) m)
      (address_on to n) ≡ get old (address_on from n)
  -- .. and so are the words of a block
  pub block : (count from to n : ℕ) (old m : MemoryState) → IsMemory m → count ≤ 2 ^ 15 → n < count
      → address_on to n < m.size
      → get (block_put count to (block_got count from old) m) (address_on to n) ≡ get old (address_on from n)
  -- Words that a tape operation writes as a block at a place of an image are those that one reads there, as far as it reads.
  pub tape : (place count from most to n : ℕ) (image : List ℕ) (old m : MemoryState) → IsMemory m → 0 < count
      → count ≤ 2 ^ 12 → place + block_written count ≤ longest_list → n < count → n < most → most ≤ 2 ^ 15
      → address_on to n < m.size
      → get (memory_operated
      None
      (shown (image_operated None old (record { command = 5; place = place; address = from; count = count }) image))
      (record { command = 0; place = place; address = to; count = most })
      m) (address_on to n) ≡ get old (address_on from n)
