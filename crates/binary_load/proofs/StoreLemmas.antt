-- Laws of words as bytes, and of stores one behind another.
use Rattle.std.proofs.Common.{◌≡◌, ℕ, zero, suc, ◌+◌, ◌-◌, ◌*◌, ◌%◌, ◌^◌, ◌<◌, ◌≤◌, List, [], ◌∷◌, ◌++◌, length, take}
use Rattle.std.proofs.Common.{drop, replicate, refl, sym, ap, ◌∙◌, arith}
use Rattle.std.proofs.lemmas.List.{length-take, length-drop}
use Rattle.nova_memory.specs.Memory.{MemoryState, put}
use Rattle.binary_load.specs.Tape.{Store, stores_from, words_of, word_at, put_all}
use Rattle.nova_memory.proofs.Chains.{put-size}

-- the words of bytes, the first one first
pub words_first : (bytes : List ℕ) → 2 ≤ length bytes → words_of bytes ≡ word_at bytes 0 ∷ words_of (drop 2 bytes)
words_first [] two = absurd (omega arith)
words_first (low ∷ []) two = absurd (omega arith)
words_first (low ∷ high ∷ rest) two = refl

pub words_none : (bytes : List ℕ) → length bytes < 2 → words_of bytes ≡ []
words_none [] few = refl
words_none (low ∷ []) few = refl
words_none (low ∷ high ∷ rest) few = absurd (omega arith)

pub length-words_of : (bytes : List ℕ) (n : ℕ) → length bytes ≡ 2 * n → length (words_of bytes) ≡ n
length-words_of [] n is = omega arith
length-words_of (low ∷ []) n is = absurd (omega arith)
length-words_of (low ∷ high ∷ rest) zero is = absurd (omega arith)
length-words_of (low ∷ high ∷ rest) (suc n) is = omega (arith, length-words_of rest n (omega arith))

pub put_all-size : (stores : List Store) (m : MemoryState) → (put_all m stores).size ≡ m.size
put_all-size [] m = refl
put_all-size (store ∷ stores) m =
    put_all-size stores (put m store.at store.word) ∙ put-size m store.at store.word

pub put_all-append : (one other : List Store) (m : MemoryState) → put_all m (one ++ other) ≡ put_all (put_all m one) other
put_all-append [] other m = refl
put_all-append (store ∷ one) other m = put_all-append one other (put m store.at store.word)

-- stores of a list of words, up to a place and from it on
pub stores-split : (n origin : ℕ) (words : List ℕ) →
    stores_from origin (take n words) ++ stores_from (origin + n) (drop n words) ≡ stores_from origin words
stores-split zero origin words = ap (λ (x : ℕ). stores_from x words) (omega arith)
stores-split (suc n) origin [] = refl
stores-split (suc n) origin (w ∷ words) =
    let further : origin + suc n ≡ origin + 1 + n = omega arith in
    ap (λ (x : ℕ). record { at = origin; word = w } ∷ (stores_from (origin + 1) (take n words) ++ stores_from x (drop n words)))
    further
    ∙ ap (λ (x : List Store). record { at = origin; word = w } ∷ x) (stores-split n (origin + 1) words)

-- one store of the same word more
pub replicate_more : (n word : ℕ) → 0 < n → replicate n word ≡ word ∷ replicate (n - 1) word
replicate_more zero word some = absurd (omega arith)
replicate_more (suc n) word some =
    let less : n ≡ suc n - 1 = omega arith in
    ap (λ (x : ℕ). word ∷ replicate x word) less

pub replicate_none : (n word : ℕ) → n ≡ 0 → replicate n word ≡ []
replicate_none zero word none = refl
replicate_none (suc n) word none = absurd (omega arith)

-- one store more of the same word
pub repeated_next : (m after wanted : MemoryState) (at place n next word : ℕ) →
    put_all m (stores_from at (replicate n word)) ≡ wanted → after ≡ put m place word → place ≡ at % 2 ^ 15 →
    at < 2 ^ 15 → n ≡ next + 1 → put_all after (stores_from (at + 1) (replicate next word)) ≡ wanted
repeated_next m after wanted at place zero next word stored put_there there low one = absurd (omega arith)
repeated_next m after wanted at place (suc n) next word stored put_there there low one =
    let here : place ≡ at = omega arith in
    let same : next ≡ n = omega arith in
    ap (λ (x : ℕ). put_all after (stores_from (at + 1) (replicate x word))) same
    ∙ ap (λ (x : MemoryState). put_all x (stores_from (at + 1) (replicate n word)))
    (put_there ∙ ap (λ (x : ℕ). put m x word) here)
    ∙ stored

pub repeated_all : (m wanted : MemoryState) (at n word : ℕ) →
    put_all m (stores_from at (replicate n word)) ≡ wanted → n ≡ 0 → m ≡ wanted
repeated_all m wanted at zero word stored none = stored
repeated_all m wanted at (suc n) word stored none = absurd (omega arith)

-- one store more of the words of bytes
pub stored_next : (m after wanted : MemoryState) (at place word : ℕ) (bytes others : List ℕ) →
    put_all m (stores_from at (words_of bytes)) ≡ wanted → 2 ≤ length bytes → others ≡ drop 2 bytes →
    word ≡ word_at bytes 0 → after ≡ put m place word → place ≡ at % 2 ^ 15 → at < 2 ^ 15 →
    put_all after (stores_from (at + 1) (words_of others)) ≡ wanted
stored_next m after wanted at place word bytes others stored two behind is put_there there low =
    let here : place ≡ at = omega arith in
    ap (λ (x : List ℕ). put_all after (stores_from (at + 1) (words_of x))) behind
    ∙ ap (λ (x : MemoryState). put_all x (stores_from (at + 1) (words_of (drop 2 bytes))))
    (put_there ∙ ap (λ (x : ℕ). put m x word) here ∙ ap (λ (x : ℕ). put m at x) is)
    ∙ ap (λ (x : List ℕ). put_all m (stores_from at x)) (sym (words_first bytes two)) ∙ stored

pub stored_all : (m wanted : MemoryState) (at : ℕ) (bytes : List ℕ) →
    put_all m (stores_from at (words_of bytes)) ≡ wanted → length bytes < 2 → m ≡ wanted
stored_all m wanted at bytes stored few =
    ap (λ (x : List ℕ). put_all m (stores_from at x)) (sym (words_none bytes few)) ∙ stored

-- words of a block are at addresses that are in a memory
pub words_within : (size origin count n : ℕ) (rest : List ℕ) → origin + count ≤ size → 6 + 2 * count ≤ length rest →
    size ≤ 2 ^ 15 → n ≡ 2 * count → origin + length (words_of (take n (drop 6 rest))) ≤ 2 ^ 15
words_within size origin count n rest within whole most is =
    let bytes : length (take n (drop 6 rest)) ≡ 2 * count =
    omega (arith, length-take n (drop 6 rest), length-drop 6 rest) in
    omega (arith, length-words_of (take n (drop 6 rest)) count bytes)
