-- Memory stays memory where words are put into it, and what is taken from it is bytes.
use Rattle.std.proofs.Common.{◌≡◌, ◌∙◌, ℕ, zero, suc, ◌+◌, ◌*◌, ◌^◌, ◌<◌, Bool, true, false, List, drop, Option, Some, None, sym, subst, arith, replicate, ◌++◌}
use Rattle.std.proofs.lemmas.Bool.{cond_both}
use Rattle.nova_memory.specs.Memory.{MemoryState, IsMemory, IsSize, get, put}
use Rattle.nova_memory.proofs.Chains.{put-size}
use Rattle.nova_memory.proofs.Keeps.{put-memory, get-word}
use Rattle.unit_trait.specs.declared.calls.Want.{Want}
use Rattle.unit_trait.specs.declared.calls.Want.TheVariants as want
use Rattle.unit_files.specs.Attachments.{Attachment}
use Rattle.unit_files.specs.Buffer.{Buffer, sector_bytes, sector_of, with_sector, sector_written}
use Rattle.nova_machine.specs.Sectors.{memory_with, memory_after, disk_after}
use Rattle.memory_transfer.specs.Words.{sector_words, word_in, address_on, words_put, bytes_of_word, bytes_got}
use Rattle.memory_transfer.specs.Tapes.{word_on_tape, block_put, bytes_on_tape, block_got}
use Rattle.nova_machine.specs.Valid.{AreBytes}
use Rattle.machine_laws.proofs.ValidBytes.{byte-low, bytes-append, bytes-take, bytes-drop, bytes-zeros, bytes-overwritten}

-- a memory of a size that a machine may have
pub record HasSize (m : MemoryState) : Type 0 where
  pub memory : IsMemory m
  pub size : IsSize m.size

-- ---- a word

memory-put : (m : MemoryState) (a v : ℕ) → v < 2 ^ 16 → HasSize m → HasSize (put m a v)
memory-put m a v low is = record {
  memory = put-memory m a v is.memory low;
  size = subst IsSize (sym (put-size m a v)) is.size;
}

-- ---- words of a sector

word-of-bytes : (bytes : List ℕ) (n : ℕ) → AreBytes bytes → word_in bytes n < 2 ^ 16
unfolding word_in
word-of-bytes bytes n all =
    let low = byte-low bytes (2 * n) all in
    let high = byte-low bytes (2 * n + 1) all in
    omega (arith, low, high)

memory-words : (n from : ℕ) (bytes : List ℕ) (m : MemoryState) → AreBytes bytes → HasSize m → HasSize (words_put n from bytes m)
unfolding words_put
memory-words zero from bytes m all is = is
memory-words (suc n) from bytes m all is =
    memory-put (words_put n from bytes m) (address_on from n) (word_in bytes n) (word-of-bytes bytes n all) (memory-words n from bytes m all is)

bytes-sector : (bytes : List ℕ) (sector : ℕ) → AreBytes bytes → AreBytes (sector_of bytes sector)
unfolding sector_of
bytes-sector bytes sector all =
    bytes-take sector_bytes (drop (sector * sector_bytes) bytes ++ replicate sector_bytes 0)
    (bytes-append (drop (sector * sector_bytes) bytes) (replicate sector_bytes 0) (bytes-drop (sector * sector_bytes) bytes all) (bytes-zeros sector_bytes))

memory-with : (write : Bool) (a : Option Attachment) (read m : MemoryState) → HasSize read → HasSize m → HasSize (memory_with write a read m)
memory-with false (Some a) read m new is = new
memory-with false None read m new is = is
memory-with true a read m new is = is

pub memory-sector : (a : Option Attachment) (disk : Buffer) (w : Want) (m : MemoryState) → AreBytes disk.bytes → HasSize m → HasSize (memory_after a disk w m)
memory-sector a disk (want.Sector write n from) m all is =
    memory-with write a (words_put sector_words from (sector_of disk.bytes n) m) m (memory-words sector_words from (sector_of disk.bytes n) m (bytes-sector disk.bytes n all) is) is
memory-sector a disk w m all is = is

two-bytes : (w : ℕ) → w < 2 ^ 16 → AreBytes (bytes_of_word w)
two-bytes w low = (omega arith, (omega arith, tt))

bytes-got : (n from : ℕ) (m : MemoryState) → IsMemory m → AreBytes (bytes_got n from m)
unfolding bytes_got
bytes-got zero from m is = tt
bytes-got (suc n) from m is =
    let w = get m (address_on from n) in
    bytes-append (bytes_got n from m) (bytes_of_word w) (bytes-got n from m is) (two-bytes w (get-word m (address_on from n) is))

bytes-with-sector : (bytes : List ℕ) (sector : ℕ) (piece : List ℕ) → AreBytes bytes → AreBytes piece → AreBytes (with_sector bytes sector piece)
unfolding with_sector
bytes-with-sector bytes sector piece all new = bytes-overwritten bytes (sector * sector_bytes) piece all new

bytes-written : (a : Option Attachment) (disk : Buffer) (sector : ℕ) (piece : List ℕ) → AreBytes disk.bytes → AreBytes piece → AreBytes (sector_written a disk sector piece).bytes
bytes-written None disk sector piece all new = all
bytes-written (Some a) disk sector piece all new =
    cond_both a.read_only disk (record { bytes = with_sector disk.bytes sector piece; written = true }) (λ (d : Buffer). AreBytes d.bytes)
    (λ _. all) (λ _. bytes-with-sector disk.bytes sector piece all new)

pub bytes-disk : (a : Option Attachment) (m : MemoryState) (w : Want) (disk : Buffer) → IsMemory m → AreBytes disk.bytes → AreBytes (disk_after a m w disk).bytes
bytes-disk a m (want.Sector true n from) disk is all = bytes-written a disk n (bytes_got sector_words from m) all (bytes-got sector_words from m is)
bytes-disk a m w disk is all = all

-- ---- words of a block of a tape

word-of-block : (bytes : List ℕ) (n : ℕ) → AreBytes bytes → word_on_tape bytes n < 2 ^ 16
unfolding word_on_tape
word-of-block bytes n all =
    let high = byte-low bytes (2 * n) all in
    let low = byte-low bytes (2 * n + 1) all in
    omega (arith, low, high)

pub memory-block : (n from : ℕ) (bytes : List ℕ) (m : MemoryState) → AreBytes bytes → HasSize m → HasSize (block_put n from bytes m)
unfolding block_put
memory-block zero from bytes m all is = is
memory-block (suc n) from bytes m all is =
    memory-put (block_put n from bytes m) (address_on from n) (word_on_tape bytes n) (word-of-block bytes n all) (memory-block n from bytes m all is)

pub bytes-block : (n from : ℕ) (m : MemoryState) → IsMemory m → AreBytes (block_got n from m)
unfolding block_got
bytes-block zero from m is = tt
bytes-block (suc n) from m is =
    let w = get m (address_on from n) in
    bytes-append (block_got n from m) (bytes_on_tape w) (bytes-block n from m is) (let low = get-word m (address_on from n) is in (omega arith, (omega arith, tt)))
