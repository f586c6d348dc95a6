-- Words that go out as bytes come back as they were.
use Rattle.std.proofs.Common.{◌≡◌, ◌≢◌, ◌<◌, ◌≤◌, ◌+◌, ◌*◌, ◌/◌, ◌%◌, ◌^◌, ℕ, zero, suc, List, [], ◌∷◌, ◌++◌, length, slice_index, min, nat_le, Bool, true, None, if◌then◌else◌, inl, inr, refl, ap, subst, sym, ◌∙◌, arith, length-append}
use Rattle.std.proofs.lemmas.Bool.{cases_lt, le-leb}
use Rattle.std.proofs.lemmas.List.{get_or_append_left, get_or-append-add}
use Rattle.nova_memory.specs.Memory.{MemoryState, IsMemory, get, put}
use Rattle.nova_memory.proofs.Chains.{put-size}
use Rattle.nova_memory.proofs.Keeps.{get-put, get-put-other, put-long}
use Rattle.unit_files.specs.Buffer.{sector_bytes, sector_of, with_sector}
use Rattle.unit_files.proofs.SectorLaws.{sectors-back}
use Rattle.memory_transfer.specs.Words.{sector_words, address_on, word_in, words_put, bytes_got, bytes_of_word}
use Rattle.file_traits.specs.Lists.{resized}
use Rattle.file_traits.specs.OneList.{longest_list, shown}
use Rattle.unit_trait.specs.declared.calls.TapeOrder.{TapeOrder}
use Rattle.simh_tape.specs.Image.{Met}
use Rattle.simh_tape.specs.Laws.{HasBlock}
use Rattle.simh_tape.specs.Writing.{block_bytes}
use Rattle.simh_tape.proofs.BlockLaws.{blocks_are_read_back}
use Rattle.memory_transfer.specs.Tapes.{word_on_tape, block_put, block_got, block_written, words_for, memory_read, memory_operated, image_operated}
use Rattle.memory_transfer.proofs.Blocks.{got-length, block-length}
use Rattle.machine_laws.specs.WordLaws.{WordsReadBack}

-- ---- words as bytes

-- bytes that are put behind so many words
at-last : (xs : List ℕ) (a b n : ℕ) → length xs ≡ 2 * n
    → (slice_index (xs ++ a ∷ b ∷ []) (2 * n) ≡ a) × (slice_index (xs ++ a ∷ b ∷ []) (2 * n + 1) ≡ b)
at-last xs a b n long = (
  ap (λ (i : ℕ). slice_index (xs ++ a ∷ b ∷ []) i) {x = 2 * n} {y = length xs + 0} (omega (arith, long)) ∙ get_or-append-add xs (a ∷ b ∷ []) 0 0,
  ap (λ (i : ℕ). slice_index (xs ++ a ∷ b ∷ []) i) {x = 2 * n + 1} {y = length xs + 1} (omega (arith, long)) ∙ get_or-append-add xs (a ∷ b ∷ []) 1 0,
)

disk-long : (count from : ℕ) (m : MemoryState) → length (bytes_got count from m) ≡ 2 * count
unfolding bytes_got
disk-long zero from m = refl
disk-long (suc n) from m =
    let before = disk-long n from m in
    let more = length-append (bytes_got n from m) (bytes_of_word (get m (address_on from n))) in
    omega (arith, before, more)

to-disk : (count from n : ℕ) (m : MemoryState) → n < count → word_in (bytes_got count from m) n ≡ get m (address_on from n)
unfolding word_in bytes_got
to-disk zero from n m low = absurd (omega (arith, low))
to-disk (suc k) from n m low =
    let front = bytes_got k from m in
    let long : length front ≡ 2 * k = disk-long k from m in
    let w = get m (address_on from k) in
    let low_byte = w % 2 ^ 8 in
    let high_byte = w / 2 ^ 8 in
    let whole : low_byte + 2 ^ 8 * high_byte ≡ w = omega arith in
    elim (cases_lt n k) [
      | inl before ↦
          (λ i. get_or_append_left front (low_byte ∷ high_byte ∷ []) 0 (2 * n) (omega (arith, long, before)) i
          + 2 ^ 8 * get_or_append_left front (low_byte ∷ high_byte ∷ []) 0 (2 * n + 1) (omega (arith, long, before)) i)
          ∙ to-disk k from n m before
      | inr last ↦
          let here : n ≡ k = omega (arith, low, last) in
          let put = at-last front low_byte high_byte k long in
          ap (λ (j : ℕ). slice_index (front ++ low_byte ∷ high_byte ∷ []) (2 * j) + 2 ^ 8 * slice_index (front ++ low_byte ∷ high_byte ∷ []) (2 * j + 1)) here
          ∙ (λ i. put.0 i + 2 ^ 8 * put.1 i) ∙ whole ∙ ap (λ (j : ℕ). get m (address_on from j)) (sym here)
    ]

to-tape : (count from n : ℕ) (m : MemoryState) → n < count → word_on_tape (block_got count from m) n ≡ get m (address_on from n)
unfolding word_on_tape block_got
to-tape zero from n m low = absurd (omega (arith, low))
to-tape (suc k) from n m low =
    let front = block_got k from m in
    let long : length front ≡ 2 * k = got-length k from m in
    let w = get m (address_on from k) in
    let low_byte = w % 2 ^ 8 in
    let high_byte = w / 2 ^ 8 in
    let whole : 2 ^ 8 * high_byte + low_byte ≡ w = omega arith in
    elim (cases_lt n k) [
      | inl before ↦
          (λ i. 2 ^ 8 * get_or_append_left front (high_byte ∷ low_byte ∷ []) 0 (2 * n) (omega (arith, long, before)) i
          + get_or_append_left front (high_byte ∷ low_byte ∷ []) 0 (2 * n + 1) (omega (arith, long, before)) i)
          ∙ to-tape k from n m before
      | inr last ↦
          let here : n ≡ k = omega (arith, low, last) in
          let put = at-last front high_byte low_byte k long in
          ap (λ (j : ℕ). 2 ^ 8 * slice_index (front ++ high_byte ∷ low_byte ∷ []) (2 * j) + slice_index (front ++ high_byte ∷ low_byte ∷ []) (2 * j + 1)) here
          ∙ (λ i. 2 ^ 8 * put.0 i + put.1 i) ∙ whole ∙ ap (λ (j : ℕ). get m (address_on from j)) (sym here)
    ]

-- ---- words that come in

-- two of at most 2 ^ 15 addresses that follow one another are not the same
apart : (from n k : ℕ) → n < k → k < 2 ^ 15 → address_on from n ≢ address_on from k
apart from n k low few same = omega (arith, low, few, same)

-- memory that words come into from an address on, one behind another
module _ (word : ℕ → ℕ) (from : ℕ) (m : MemoryState) where
  abbrev stored : ℕ → MemoryState
  stored zero = m
  stored (suc n) = put (stored n) (address_on from n) (word n)

  stored-size : (count : ℕ) → (stored count).size ≡ m.size
  stored-size zero = refl
  stored-size (suc n) = put-size (stored n) (address_on from n) (word n) ∙ stored-size n

  stored-long : (count : ℕ) → length (stored count).words ≡ length m.words
  stored-long zero = refl
  stored-long (suc n) = put-long (stored n) (address_on from n) (word n) ∙ stored-long n

  stored-other : (count at : ℕ) → ((n : ℕ) → n < count → address_on from n ≢ at) → get (stored count) at ≡ get m at
  stored-other zero at other = refl
  stored-other (suc n) at other =
      get-put-other (stored n) (address_on from n) at (word n) (λ same. other n (omega arith) (sym same))
      ∙ stored-other n at (λ k low. other k (omega (arith, low)))

  stored-at : (count n : ℕ) → m.size ≤ length m.words → count ≤ 2 ^ 15 → n < count → address_on from n < m.size
      → get (stored count) (address_on from n) ≡ word n
  stored-at zero n whole few low there = absurd (omega (arith, low))
  stored-at (suc k) n whole few low there = elim (cases_lt n k) [
    | inl before ↦
        get-put-other (stored k) (address_on from k) (address_on from n) (word k) (apart from n k before (omega (arith, few)))
        ∙ stored-at k n whole (omega (arith, few)) before there
    | inr last ↦
        let here : n ≡ k = omega (arith, low, last) in
        let size = stored-size k in
        let long = stored-long k in
        let room : (stored k).size ≤ length (stored k).words = omega (arith, size, long, whole) in
        let within : address_on from k < (stored k).size = subst (λ (j : ℕ). address_on from j < (stored k).size) here (omega (arith, size, there)) in
        ap (λ (j : ℕ). get (stored (suc k)) (address_on from j)) here
        ∙ get-put (stored k) (address_on from k) (word k) room within ∙ ap word (sym here)
  ]

disk-stored : (count from : ℕ) (bytes : List ℕ) (m : MemoryState) → words_put count from bytes m ≡ stored (word_in bytes) from m count
unfolding words_put
disk-stored zero from bytes m = refl
disk-stored (suc n) from bytes m = ap (λ (x : MemoryState). put x (address_on from n) (word_in bytes n)) (disk-stored n from bytes m)

tape-stored : (count from : ℕ) (bytes : List ℕ) (m : MemoryState) → block_put count from bytes m ≡ stored (word_on_tape bytes) from m count
unfolding block_put
tape-stored zero from bytes m = refl
tape-stored (suc n) from bytes m = ap (λ (x : MemoryState). put x (address_on from n) (word_on_tape bytes n)) (tape-stored n from bytes m)

-- memory has the words of its size
has-words : (m : MemoryState) → IsMemory m → m.size ≤ length m.words
has-words m is = omega (arith, is.whole, is.size)

from-disk : (count from n : ℕ) (bytes : List ℕ) (m : MemoryState) → IsMemory m → count ≤ 2 ^ 15 → n < count
    → address_on from n < m.size → get (words_put count from bytes m) (address_on from n) ≡ word_in bytes n
from-disk count from n bytes m is few low there =
    ap (λ (x : MemoryState). get x (address_on from n)) (disk-stored count from bytes m)
    ∙ stored-at (word_in bytes) from m count n (has-words m is) few low there

from-tape : (count from n : ℕ) (bytes : List ℕ) (m : MemoryState) → IsMemory m → count ≤ 2 ^ 15 → n < count
    → address_on from n < m.size → get (block_put count from bytes m) (address_on from n) ≡ word_on_tape bytes n
from-tape count from n bytes m is few low there =
    ap (λ (x : MemoryState). get x (address_on from n)) (tape-stored count from bytes m)
    ∙ stored-at (word_on_tape bytes) from m count n (has-words m is) few low there

-- a sector of words is as long as a sector of bytes
sector-long : (from : ℕ) (m : MemoryState) → length (bytes_got sector_words from m) ≡ sector_bytes
unfolding sector_words sector_bytes
sector-long from m = disk-long (2 ^ 8) from m

few-words : sector_words ≤ 2 ^ 15
unfolding sector_words
few-words = omega arith

sector : (from to n number : ℕ) (bytes : List ℕ) (old m : MemoryState) → IsMemory m → n < sector_words
    → address_on to n < m.size
    → get (words_put sector_words to (sector_of (with_sector bytes number (bytes_got sector_words from old)) number) m)
    (address_on to n) ≡ get old (address_on from n)
sector from to n number bytes old m is low there =
    let piece = bytes_got sector_words from old in
    ap (λ (xs : List ℕ). get (words_put sector_words to xs m) (address_on to n)) (sectors-back.same bytes piece number (sector-long from old))
    ∙ from-disk sector_words to n piece m is few-words low there
    ∙ to-disk sector_words from n old low

-- ---- a block that an operation writes, and one that reads it

module _ (place count from most to n : ℕ) (image : List ℕ) (old m : MemoryState) (is : IsMemory m) (some : 0 < count)
    (few : count ≤ 2 ^ 12) (fits : place + block_written count ≤ longest_list) (low : n < count) (read : n < most)
    (small : most ≤ 2 ^ 15) (there : address_on to n < m.size) where
  abbrev piece : List ℕ
  piece = block_got count from old

  piece-long : length piece ≡ 2 * count
  piece-long = got-length count from old

  abbrev writing : TapeOrder
  writing = record { command = 5; place = place; address = from; count = count }

  abbrev reading : TapeOrder
  reading = record { command = 0; place = place; address = to; count = most }

  abbrev new : List ℕ
  new = shown (image_operated None old writing image)

  written : image_operated None old writing image ≡ resized image place ++ block_bytes piece
  written =
      let size = block-length count from old in
      let within : nat_le (place + length (block_bytes piece)) longest_list ≡ true = le-leb (place + length (block_bytes piece)) longest_list (omega (arith, size, fits)) in
      ap (λ (b : Bool). if b then resized image place ++ block_bytes piece else image) within

  has : HasBlock new piece place
  has =
      subst (λ (xs : List ℕ). HasBlock (shown xs) piece place) (sym written)
      (blocks_are_read_back image piece place 0 (omega (arith, piece-long, some)) (omega (arith, piece-long, few)) (omega (arith, piece-long, fits)))

  came : memory_operated None new reading m ≡ block_put (min (words_for (length piece)) most) to piece m
  came =
      ap (λ (x : Met). memory_read new reading x m) has.forward
      ∙ ap (λ (xs : List ℕ). block_put (min (words_for (length piece)) most) to xs m) has.there

  tape : get (memory_operated None new reading m) (address_on to n) ≡ get old (address_on from n)
  tape =
      ap (λ (x : MemoryState). get x (address_on to n)) came
      ∙ from-tape (min (words_for (length piece)) most) to n piece m is (omega (arith, small)) (omega (arith, piece-long, low, read)) there
      ∙ to-tape count from n old low

pub words-back : WordsReadBack
words-back = record {
  to_disk = to-disk;
  to_tape = to-tape;
  from_disk = from-disk;
  from_tape = from-tape;
  others = λ count from at bytes m other. (
    ap (λ (x : MemoryState). get x at) (disk-stored count from bytes m) ∙ stored-other (word_in bytes) from m count at other,
    ap (λ (x : MemoryState). get x at) (tape-stored count from bytes m) ∙ stored-other (word_on_tape bytes) from m count at other,
  );
  sector = sector;
  tape = tape;
  block = λ count from to n old m is few low there.
      from-tape count to n (block_got count from old) m is few low there ∙ to-tape count from n old low;
}
