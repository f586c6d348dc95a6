-- A tape of bytes says words of 16 bits, and starts at an address; and the dump of a memory is of bytes.
use Rattle.std.proofs.Common.{◌≡◌, ℕ, zero, suc, ◌+◌, ◌-◌, ◌*◌, ◌/◌, ◌^◌, ◌<◌, ◌≤◌, ◌==◌, nat_lt, min, Bool, true, false, List, [], ◌∷◌, ◌++◌, length, take, drop, replicate, slice_index, Option, Some, None, IfSome, Result, Ok, Err, refl, arith, length-take, length-drop, if◌then◌else◌}
use Rattle.std.specs.List.{AllByRecursion, position}
use Rattle.std.proofs.lemmas.Bool.{ltb-true}
use Rattle.std.proofs.lemmas.List.Elements.{All-from_recursion, recursion_from_All, All-append, All-take, All-drop, All-replicate}
use Rattle.nova_memory.specs.Memory.{MemoryState, IsMemory, put}
use Rattle.nova_memory.proofs.Keeps.{get-word, put-memory}
use Rattle.binary_load.specs.declared.faults.LoadFault.{LoadFault}
use Rattle.binary_load.specs.declared.faults.LoadFault.TheVariants.{Truncated}
use Rattle.binary_load.specs.declared.blocks.Kind.{Kind}
use Rattle.binary_load.specs.declared.blocks.Kind.TheVariants.{Words, Repeated, Start, Ignored}
use Rattle.binary_load.specs.Tape.{Store, stores_from, words_of, word_at, kind_of, block_fault, stores_fault, Front, Passes, Ends, Faulty, unless_faulty, start_at, ignored_block, block, front}
use Rattle.binary_load.specs.Tape.{Tape, with_stores, continued, reading, tape, put_all}
use Rattle.binary_load.specs.Dump.{bytes_of, checksum, data_block, start_block, data_blocks, blocks_of, words_from, dumped}
use Rattle.binary_load.specs.Dump as dump
use Rattle.binary_load.proofs.DumpLemmas.{length-words_from}

abbrev IsByte : ℕ → Type 0
IsByte b = b < 2 ^ 8

abbrev IsWord : ℕ → Type 0
IsWord w = w < 2 ^ 16

abbrev StoresWord : Store → Type 0
StoresWord store = store.word < 2 ^ 16

abbrev IsLow : ℕ → Type 0
IsLow start = start < 2 ^ 15

-- ---- what a tape says

words-stored : (origin : ℕ) (words : List ℕ) → AllByRecursion IsWord words → AllByRecursion StoresWord (stores_from origin words)
words-stored origin [] all = tt
words-stored origin (w ∷ words) all = (all.0, words-stored (origin + 1) words all.1)

words-read : (bytes : List ℕ) → AllByRecursion IsByte bytes → AllByRecursion IsWord (words_of bytes)
words-read [] all = tt
words-read (low ∷ []) all = tt
words-read (low ∷ high ∷ rest) all = (omega (arith, all.0, all.1.0), words-read rest all.1.1)

byte-at : (bytes : List ℕ) (place : ℕ) → AllByRecursion IsByte bytes → slice_index bytes place < 2 ^ 8
byte-at [] place all = omega arith
byte-at (b ∷ bytes) zero all = all.0
byte-at (b ∷ bytes) (suc place) all = byte-at bytes place all.1

word-at : (bytes : List ℕ) (place : ℕ) → AllByRecursion IsByte bytes → word_at bytes place < 2 ^ 16
word-at bytes place all =
    let low = byte-at bytes place all in
    let high = byte-at bytes (place + 1) all in
    omega (arith, low, high)

-- words and a start in range
abbrev InRange : Front → Type 0
InRange (Passes stores bytes) = AllByRecursion StoresWord stores
InRange (Ends start) = IfSome start IsLow
InRange (Faulty fault) = Unit {0}

in-if : (b : Bool) (x y : Front) → InRange x → InRange y → InRange (if b then x else y)
in-if true x y first second = first
in-if false x y first second = second

in-unless : (fault : Option LoadFault) (says : Front) → InRange says → InRange (unless_faulty fault says)
in-unless None says h = h
in-unless (Some fault) says h = tt

start-low : (origin : ℕ) → IfSome (start_at origin) IsLow
start-low origin = by-test (nat_lt origin (2 ^ 15)) refl
  where
    by-test : (b : Bool) → nat_lt origin (2 ^ 15) ≡ b → IfSome (if b then Some origin else None) IsLow
    by-test true low = ltb-true origin (2 ^ 15) low
    by-test false low = tt

ignored-in : (place : ℕ) (rest : List ℕ) (others : Option ℕ) → InRange (ignored_block place rest others)
ignored-in place rest (Some others) = tt
ignored-in place rest None = tt

block-in : (size place : ℕ) (rest : List ℕ) (kind : Kind) → AllByRecursion IsByte rest → InRange (block size place rest kind)
unfolding block
block-in size place rest (Words n) all =
    let piece = take (2 * n) (drop 6 rest) in
    let bytes = recursion_from_All IsByte piece (All-take IsByte (2 * n) (drop 6 rest) (All-drop IsByte 6 rest (All-from_recursion IsByte rest all))) in
    in-unless (stores_fault size place rest n n) (Passes (stores_from (word_at rest 2) (words_of piece)) (6 + 2 * n))
    (words-stored (word_at rest 2) (words_of piece) (words-read piece bytes))
block-in size place rest (Repeated n) all =
    let words = replicate n (word_at rest 6) in
    in-unless (stores_fault size place rest 1 n) (Passes (stores_from (word_at rest 2) words) 8)
    (words-stored (word_at rest 2) words (recursion_from_All IsWord words (All-replicate IsWord n (word_at rest 6) (word-at rest 6 all))))
block-in size place rest Start all =
    in-unless (block_fault place rest 0) (Ends (start_at (word_at rest 2))) (start-low (word_at rest 2))
block-in size place rest Ignored all = ignored-in place rest (position (λ b. b == 0xff) (drop 2 rest))

front-in : (size place : ℕ) (rest : List ℕ) → AllByRecursion IsByte rest → InRange (front size place rest)
unfolding front
front-in size place rest all =
    in-if (length rest == 0) (Ends None) _ tt
    (in-if (slice_index rest 0 == 0) (Passes [] 1) _ tt
    (in-if (length rest == 1) (Faulty (Truncated (place + length rest))) _ tt
    (block-in size place rest (kind_of (word_at rest 0)) all)))

-- words of 16 bits are stored, and it starts at an address where it does
abbrev pub IsTapeInRange : Result Tape LoadFault → Type 0
IsTapeInRange (Ok tape) = AllByRecursion StoresWord tape.stores × IfSome tape.start IsLow
IsTapeInRange (Err fault) = Unit {0}

with-in : (stores : List Store) (behind : Result Tape LoadFault) → AllByRecursion StoresWord stores → IsTapeInRange behind → IsTapeInRange (with_stores stores behind)
with-in stores (Ok tape) all more = (
  recursion_from_All StoresWord (stores ++ tape.stores) (All-append StoresWord stores tape.stores (All-from_recursion StoresWord stores all) (All-from_recursion StoresWord tape.stores more.0)),
  more.1,
)
with-in stores (Err fault) all more = tt

continued-in : (f : Front) (behind : ℕ → Result Tape LoadFault) → InRange f → ((bytes : ℕ) → IsTapeInRange (behind bytes)) → IsTapeInRange (continued f behind)
continued-in (Passes stores bytes) behind first more = with-in stores (behind bytes) first (more bytes)
continued-in (Ends start) behind first more = (tt, first)
continued-in (Faulty fault) behind first more = tt

reading-in : (left size place : ℕ) (rest : List ℕ) → AllByRecursion IsByte rest → IsTapeInRange (reading left size place rest)
unfolding reading
reading-in zero size place rest all = (tt, tt)
reading-in (suc left) size place rest all =
    continued-in (front size place rest) (λ bytes. reading left size (place + bytes) (drop bytes rest)) (front-in size place rest all)
    (λ bytes. reading-in left size (place + bytes) (drop bytes rest) (recursion_from_All IsByte (drop bytes rest) (All-drop IsByte bytes rest (All-from_recursion IsByte rest all))))

pub tape-in_range : (size : ℕ) (bytes : List ℕ) → AllByRecursion IsByte bytes → IsTapeInRange (tape size bytes)
tape-in_range size bytes all = reading-in (length bytes) size 0 bytes all

-- words that are stored leave a memory
pub stored-memory : (m : MemoryState) (stores : List Store) → IsMemory m → AllByRecursion StoresWord stores → IsMemory (put_all m stores)
stored-memory m [] is all = is
stored-memory m (store ∷ stores) is all = stored-memory (put m store.at store.word) stores (put-memory m store.at store.word is all.0) all.1

-- ---- a dump is of bytes

bytes-of : (words : List ℕ) → AllByRecursion IsWord words → AllByRecursion IsByte (bytes_of words)
bytes-of [] all = tt
bytes-of (w ∷ words) all = (omega arith, (omega (arith, all.0), bytes-of words all.1))

bytes-both : (xs ys : List ℕ) → AllByRecursion IsByte xs → AllByRecursion IsByte ys → AllByRecursion IsByte (xs ++ ys)
bytes-both xs ys first second = recursion_from_All IsByte (xs ++ ys) (All-append IsByte xs ys (All-from_recursion IsByte xs first) (All-from_recursion IsByte ys second))

words-part : (n : ℕ) (words : List ℕ) → AllByRecursion IsWord words → AllByRecursion IsWord (take n words)
words-part n words all = recursion_from_All IsWord (take n words) (All-take IsWord n words (All-from_recursion IsWord words all))

words-behind : (n : ℕ) (words : List ℕ) → AllByRecursion IsWord words → AllByRecursion IsWord (drop n words)
words-behind n words all = recursion_from_All IsWord (drop n words) (All-drop IsWord n words (All-from_recursion IsWord words all))

block-bytes : (count origin : ℕ) (words : List ℕ) → count < 2 ^ 16 → origin < 2 ^ 16 → AllByRecursion IsWord words → AllByRecursion IsByte (dump.block count origin words)
block-bytes count origin words low at all =
    let check = checksum (count ∷ origin ∷ words) in
    let small : check < 2 ^ 16 = omega arith in
    bytes-of (count ∷ origin ∷ check ∷ words) (low, (at, (small, all)))

-- each block has a word at least, and begins below 2 ^ 16
blocks-bytes : (count origin : ℕ) (words : List ℕ) → origin + 16 * count ≤ 2 ^ 16 → 16 * count < length words + 16 → AllByRecursion IsWord words → AllByRecursion IsByte (data_blocks count origin words)
unfolding data_blocks
blocks-bytes zero origin words within some all = tt
blocks-bytes (suc more) origin words within some all =
    let here = take 16 words in
    let left = drop 16 words in
    let many : length here ≡ min 16 (length words) = length-take 16 words in
    let rest : length left ≡ length words - 16 = length-drop 16 words in
    bytes-both (data_block origin here) (data_blocks more (origin + 16) left)
    (block-bytes (2 ^ 16 - length here) origin here (omega (arith, many, some)) (omega (arith, within)) (words-part 16 words all))
    (blocks-bytes more (origin + 16) left (omega (arith, within)) (omega (arith, rest, some)) (words-behind 16 words all))

words-taken : (m : MemoryState) (at count : ℕ) → IsMemory m → AllByRecursion IsWord (words_from m at count)
unfolding words_from
words-taken m at zero is = tt
words-taken m at (suc more) is = (get-word m at is, words-taken m (at + 1) more is)

pub dump-bytes : (m : MemoryState) (from to start : ℕ) → IsMemory m → from ≤ to → to < 2 ^ 15 → start < 2 ^ 15 → AllByRecursion IsByte (dumped m from to start)
dump-bytes m from to start is order low at =
    let count = to + 1 - from in
    let words = words_from m from count in
    let many : length words ≡ count = length-words_from count from m in
    bytes-both (blocks_of from words) (start_block start)
    (blocks-bytes ((length words + 15) / 16) from words (omega (arith, many)) (omega (arith, many)) (words-taken m from count is))
    (block-bytes 1 start [] (omega arith) (omega (arith, at)) tt)
