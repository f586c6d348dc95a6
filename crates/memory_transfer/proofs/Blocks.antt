-- The words of a block of a tape are moved one behind another.
use Rattle.std.proofs.Common.{◌≡◌, ℕ, zero, suc, ◌+◌, ◌*◌, ◌/◌, ◌%◌, ◌^◌, ◌<◌, ◌≤◌, List, [], ◌∷◌, ◌++◌, length, take, set, Option, refl, ap, sym, ◌∙◌, arith, append_assoc, length-append, replicate, slice_index, nat_le, Bool, true, false, if◌then◌else◌}
use Rattle.std.proofs.lemmas.List.{length-set, take_more_set, length-replicate, get_or-replicate}
use Rattle.nova_memory.specs.Memory.{MemoryState, get, put}
use Rattle.memory_transfer.specs.Words.{address_on}
use Rattle.file_traits.specs.OneList.{longest_list}
use Rattle.file_traits.specs.Failures.{Failure}
use Rattle.simh_tape.specs.Image.{with_front}
use Rattle.simh_tape.specs.Writing.{word_bytes, block_bytes}
use Rattle.memory_transfer.specs.Tapes.{word_on_tape, block_put, bytes_on_tape, block_got, item_written}

-- the bytes of one word more
block-next : (n from : ℕ) (m : MemoryState) → block_got (suc n) from m ≡ block_got n from m ++ bytes_on_tape (get m (address_on from n))
unfolding block_got
block-next n from m = refl

pub block-more : (n p from w : ℕ) (bytes : List ℕ) (m : MemoryState) → p ≡ n → n < 4096 → length bytes ≡ 8192 → w ≡ get m (address_on from n)
    → take (2 * n) bytes ≡ block_got n from m
    → take (2 * (n + 1)) (set (set bytes (2 * p) (w / 256)) (2 * p + 1) (w % 256)) ≡ block_got (n + 1) from m
block-more n p from w bytes m place few long word before =
    let high = w / 256 in
    let low = w % 256 in
    let first = set bytes (2 * p) high in
    let size : length first ≡ length bytes = length-set bytes (2 * p) high in
    let behind : 2 * (n + 1) ≡ (2 * p + 1) + 1 = omega (arith, place) in
    let more : n + 1 ≡ suc n = omega arith in
    ap (λ (k : ℕ). take k (set first (2 * p + 1) low)) behind
    ∙ take_more_set first (2 * p + 1) low (omega (arith, place, few, long, size))
    ∙ ap (λ (xs : List ℕ). xs ++ low ∷ []) (take_more_set bytes (2 * p) high (omega (arith, place, few, long)))
    ∙ append_assoc (take (2 * p) bytes) (high ∷ []) (low ∷ [])
    ∙ (λ i. take (2 * place i) bytes ++ high ∷ low ∷ [])
    ∙ (λ i. before i ++ bytes_on_tape (word i))
    ∙ sym (block-next n from m)
    ∙ ap (λ (k : ℕ). block_got k from m) (sym more)

-- so many of them
pub block-all : (n words from : ℕ) (bytes : List ℕ) (m : MemoryState) → words ≤ n → n ≤ words → take (2 * n) bytes ≡ block_got n from m
    → take (2 * words) bytes ≡ block_got words from m
block-all n words from bytes m least most made =
    let all : words ≡ n = omega (arith, least, most) in
    ap (λ (k : ℕ). take (2 * k) bytes) all ∙ made ∙ ap (λ (k : ℕ). block_got k from m) (sym all)

pub placed-all : (n words from : ℕ) (bytes : List ℕ) (memory m : MemoryState) → words ≤ n → n ≤ words → memory ≡ block_put n from bytes m
    → memory ≡ block_put words from bytes m
placed-all n words from bytes memory m least most put =
    let all : n ≡ words = omega (arith, least, most) in
    put ∙ ap (λ (k : ℕ). block_put k from bytes m) all

-- ---- a block that does not fit is not written

pub got-length : (n from : ℕ) (m : MemoryState) → length (block_got n from m) ≡ 2 * n
unfolding block_got
got-length zero from m = refl
got-length (suc n) from m =
    let before = got-length n from m in
    let more = length-append (block_got n from m) (bytes_on_tape (get m (address_on from n))) in
    omega (arith, before, more)

-- how long the block of so many words is
pub block-length : (n from : ℕ) (m : MemoryState) → length (block_bytes (block_got n from m)) ≡ 2 * n + 8
block-length n from m =
    let bytes = block_got n from m in
    let word = word_bytes (length bytes) in
    let long = got-length n from m in
    let padding = length-replicate {A = ℕ} (length bytes % 2) 0 in
    let pad : List ℕ = replicate (length bytes % 2) 0 in
    let four : length word ≡ 4 = refl in
    let front : length (word ++ bytes) ≡ length word + length bytes = length-append word bytes in
    let middle : length (word ++ bytes ++ pad) ≡ length (word ++ bytes) + length pad = length-append (word ++ bytes) pad in
    let whole : length (block_bytes bytes) ≡ length (word ++ bytes ++ pad) + length word = length-append (word ++ bytes ++ pad) word in
    whole ∙ omega (arith, long, padding, front, middle, four)

pub not-written : (fault : Option Failure) (place n from : ℕ) (m : MemoryState) (old : List ℕ) → nat_le (place + (2 * n + 8)) longest_list ≡ false
    → item_written fault place (block_bytes (block_got n from m)) old ≡ old
not-written fault place n from m old over =
    let same : nat_le (place + length (block_bytes (block_got n from m))) longest_list ≡ false = ap (λ (k : ℕ). nat_le (place + k) longest_list) (block-length n from m) ∙ over in
    if-false _ _ _ same
  where
    if-false : {A : Type 0} (b : Bool) (x y : A) → b ≡ false → (if b then x else y) ≡ y
    if-false false x y is = refl
    if-false true x y is = absurd (cc)

-- ---- the first words of a block, of which a buffer has the first bytes

same-words : (k from : ℕ) (xs ys : List ℕ) (m : MemoryState) → ((i : ℕ) → i < 2 * k → slice_index xs i ≡ slice_index ys i) → block_put k from xs m ≡ block_put k from ys m
unfolding block_put word_on_tape
same-words zero from xs ys m same = refl
same-words (suc k) from xs ys m same =
    let before = same-words k from xs ys m (λ (i : ℕ) (low : i < 2 * k). same i (omega (arith, low))) in
    let high = same (2 * k) (omega arith) in
    let low = same (2 * k + 1) (omega arith) in
    λ i. put (before i) (address_on from k) (2 ^ 8 * high i + low i)

-- the bytes of a buffer of zero bytes, once first bytes of a text stand in its front
front-at : (text buffer : List ℕ) (i : ℕ) → ((j : ℕ) → j < length buffer → slice_index buffer j ≡ 0) → i < length buffer → slice_index (with_front text buffer) i ≡ slice_index text i
front-at [] [] i zeros low = absurd (omega (arith, low))
front-at [] (b ∷ buffer) zero zeros low = zeros zero low
front-at [] (b ∷ buffer) (suc i) zeros low = zeros (suc i) low
front-at (t ∷ text) [] i zeros low = absurd (omega (arith, low))
front-at (t ∷ text) (b ∷ buffer) zero zeros low = refl
front-at (t ∷ text) (b ∷ buffer) (suc i) zeros low = front-at text buffer i (λ (j : ℕ) (within : j < length buffer). zeros (suc j) (omega (arith, within))) (omega (arith, low))

pub put-front : (k from : ℕ) (text buffer : List ℕ) (m : MemoryState) → k ≤ 4096 → buffer ≡ with_front text (replicate 8192 0) → block_put k from buffer m ≡ block_put k from text m
put-front k from text buffer m few is =
    let room : ℕ = 8192 in
    let long : length (replicate {A = ℕ} room 0) ≡ room = length-replicate {A = ℕ} room 0 in
    ap (λ (xs : List ℕ). block_put k from xs m) is
    ∙ same-words k from (with_front text (replicate room 0)) text m
    (λ (i : ℕ) (low : i < 2 * k). front-at text (replicate room 0) i (λ (j : ℕ) (within : j < length (replicate {A = ℕ} room 0)). get_or-replicate room j 0 0 (omega (arith, within, long))) (omega (arith, low, few, long)))
