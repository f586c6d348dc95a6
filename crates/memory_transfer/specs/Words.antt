-- Words of memory, and the bytes of a sector of the disk (How to Use the Nova Computers, "Fixed Head Disk"). In the image
-- of a disk the low byte of each word stands first.
use Rattle.std.specs.Prelude.{ℕ, zero, suc, ◌+◌, ◌*◌, ◌/◌, ◌%◌, ◌^◌, List, [], ◌∷◌, ◌++◌, slice_index}
use Rattle.nova_memory.specs.Memory.{MemoryState, get, put}

-- how many words a sector has
unfoldable pub sector_words : ℕ
sector_words = 2 ^ 8

-- the word with that number among bytes
unfoldable pub word_in : List ℕ → ℕ → ℕ
word_in bytes n = slice_index bytes (2 * n) + 2 ^ 8 * slice_index bytes (2 * n + 1)

-- the address so many words further on; behind 77777 (octal) comes 0
abbrev pub address_on : ℕ → ℕ → ℕ
address_on from n = (from + n) % 2 ^ 15

-- memory once the first so many words of some bytes were put from an address on
unfoldable pub words_put : ℕ → ℕ → List ℕ → MemoryState → MemoryState
words_put zero from bytes memory = memory
words_put (suc n) from bytes memory = put (words_put n from bytes memory) (address_on from n) (word_in bytes n)

abbrev pub bytes_of_word : ℕ → List ℕ
bytes_of_word w = (w % 2 ^ 8) ∷ (w / 2 ^ 8) ∷ []

-- the bytes of so many words of memory from an address on
unfoldable pub bytes_got : ℕ → ℕ → MemoryState → List ℕ
bytes_got zero from memory = []
bytes_got (suc n) from memory = bytes_got n from memory ++ bytes_of_word (get memory (address_on from n))
