-- The words of a sector are moved one behind another.
use Rattle.std.proofs.Common.{◌≡◌, ℕ, suc, ◌+◌, ◌*◌, ◌/◌, ◌%◌, ◌<◌, ◌≤◌, List, [], ◌∷◌, ◌++◌, length, take, set, refl, ap, sym, ◌∙◌, arith, append_assoc}
use Rattle.std.proofs.lemmas.List.{length-set, take_more_set}
use Rattle.std.proofs.Math.Seq.{take-length}
use Rattle.nova_memory.specs.Memory.{MemoryState, get}
use Rattle.memory_transfer.specs.Words.{sector_words, address_on, words_put, bytes_of_word, bytes_got}

-- the bytes of one word more
got-next : (n from : ℕ) (m : MemoryState) → bytes_got (suc n) from m ≡ bytes_got n from m ++ bytes_of_word (get m (address_on from n))
unfolding bytes_got
got-next n from m = refl

pub got-more : (n p from w : ℕ) (bytes : List ℕ) (m : MemoryState) → p ≡ n → n < 256 → length bytes ≡ 512 → w ≡ get m (address_on from n)
    → take (2 * n) bytes ≡ bytes_got n from m
    → take (2 * (n + 1)) (set (set bytes (2 * p) (w % 256)) (2 * p + 1) (w / 256)) ≡ bytes_got (n + 1) from m
got-more n p from w bytes m place few long word before =
    let low = w % 256 in
    let high = w / 256 in
    let first = set bytes (2 * p) low in
    let size : length first ≡ length bytes = length-set bytes (2 * p) low in
    let behind : 2 * (n + 1) ≡ (2 * p + 1) + 1 = omega (arith, place) in
    let more : n + 1 ≡ suc n = omega arith in
    ap (λ (k : ℕ). take k (set first (2 * p + 1) high)) behind
    ∙ take_more_set first (2 * p + 1) high (omega (arith, place, few, long, size))
    ∙ ap (λ (xs : List ℕ). xs ++ high ∷ []) (take_more_set bytes (2 * p) low (omega (arith, place, few, long)))
    ∙ append_assoc (take (2 * p) bytes) (low ∷ []) (high ∷ [])
    ∙ (λ i. take (2 * place i) bytes ++ low ∷ high ∷ [])
    ∙ (λ i. before i ++ bytes_of_word (word i))
    ∙ sym (got-next n from m)
    ∙ ap (λ (k : ℕ). bytes_got k from m) (sym more)

-- all of them
pub got-all : (n from : ℕ) (bytes : List ℕ) (m : MemoryState) → 256 ≤ n → n ≤ 256 → length bytes ≡ 512 → take (2 * n) bytes ≡ bytes_got n from m
    → bytes ≡ bytes_got sector_words from m
unfolding sector_words
got-all n from bytes m least most long made =
    let all : n ≡ 256 = omega (arith, least, most) in
    let whole : length bytes ≡ 2 * n = omega (arith, all, long) in
    sym (take-length bytes) ∙ ap (λ (k : ℕ). take k bytes) whole ∙ made ∙ ap (λ (k : ℕ). bytes_got k from m) all

pub put-all : (n from : ℕ) (bytes : List ℕ) (memory m : MemoryState) → 256 ≤ n → n ≤ 256 → memory ≡ words_put n from bytes m
    → memory ≡ words_put sector_words from bytes m
unfolding sector_words
put-all n from bytes memory m least most put =
    let all : n ≡ 256 = omega (arith, least, most) in
    put ∙ ap (λ (k : ℕ). words_put k from bytes m) all
