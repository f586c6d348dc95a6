-- Laws of dumps.
use Rattle.std.proofs.Common.{◌≡◌, ℕ, zero, suc, ◌+◌, ◌-◌, ◌*◌, ◌/◌, ◌%◌, ◌^◌, ◌<◌, ◌≤◌, List, [], ◌∷◌, ◌++◌, length}
use Rattle.std.proofs.Common.{take, drop, sum, min, refl, sym, ap, ◌∙◌, arith, Option, Some, None, Ok}
use Rattle.std.proofs.Common.{slice_index, inl, inr}
use Rattle.std.proofs.lemmas.Bool.{cases_lt}
use Rattle.std.proofs.lemmas.Bool.Decides.{nat_tests}
use Rattle.std.proofs.lemmas.List.Sums.{sum_by-cons}
use Rattle.std.proofs.lemmas.List.{append_assoc, append-nil, length-append, length-take, length-drop, take_at, drop_at, take_all}
use Rattle.nova_memory.specs.Memory.{MemoryState, get}
use Rattle.binary_load.specs.declared.faults.LoadFault.{LoadFault}
use Rattle.binary_load.specs.declared.blocks.Kind.TheVariants.{Words, Start}
use Rattle.binary_load.specs.Tape.{Store, front, block, kind_of, words_of, word_at, stores_from, block_fault}
use Rattle.binary_load.specs.Tape.{stores_fault, past_fault, first_fault, unless_faulty, start_at, with_stores, tape_from}
use Rattle.binary_load.specs.Tape.Front.{Passes, Ends}
use Rattle.binary_load.specs.Dump.{bytes_of, checksum, data_block, start_block, data_blocks, blocks_of, words_from, dumped}
use Rattle.binary_load.specs.Dump.{block as block_bytes}
use Rattle.binary_load.specs.Laws.{DumpsReadBack}
use Rattle.binary_load.proofs.StoreLemmas.{stores-split}
use Rattle.binary_load.proofs.ReadingLemmas.{tape_says, tape_behind}

-- words as bytes, and back

pub word_back : (w : ℕ) → w % 2 ^ 8 + 2 ^ 8 * (w / 2 ^ 8) ≡ w
word_back w = omega arith

pub words_back : (words : List ℕ) → words_of (bytes_of words) ≡ words
words_back [] = refl
words_back (w ∷ words) =
    ap (λ (x : ℕ). x ∷ words_of (bytes_of words)) (word_back w) ∙ ap (λ (x : List ℕ). w ∷ x) (words_back words)

pub length-bytes_of : (words : List ℕ) → length (bytes_of words) ≡ 2 * length words
length-bytes_of [] = refl
length-bytes_of (w ∷ words) = omega (arith, length-bytes_of words)

three_more : (a b c s : ℕ) → c ≡ (2 ^ 16 - (a + (b + s)) % 2 ^ 16) % 2 ^ 16 → (a + (b + (c + s))) % 2 ^ 16 ≡ 0
three_more a b c s is = omega arith

sum-cons : (a : ℕ) (words : List ℕ) → sum (a ∷ words) ≡ a + sum words
sum-cons a words = sum_by-cons (λ (w : ℕ). w) a words

sum_two : (a b : ℕ) (words : List ℕ) → sum (a ∷ b ∷ words) ≡ a + (b + sum words)
sum_two a b words = sum-cons a (b ∷ words) ∙ ap (λ (x : ℕ). a + x) (sum-cons b words)

pub sum_zero : (count origin : ℕ) (words : List ℕ) →
    sum (count ∷ origin ∷ checksum (count ∷ origin ∷ words) ∷ words) % 2 ^ 16 ≡ 0
sum_zero count origin words =
    let check = checksum (count ∷ origin ∷ words) in
    ap (λ (x : ℕ). x % 2 ^ 16)
    (sum_two count origin (check ∷ words) ∙ ap (λ (x : ℕ). count + (origin + x)) (sum-cons check words))
    ∙ three_more count origin check (sum words)
    (ap (λ (x : ℕ). (2 ^ 16 - x % 2 ^ 16) % 2 ^ 16) (sum_two count origin words))

-- a block of words, read back

pub front_block : (size place : ℕ) (rest : List ℕ) → 2 ≤ length rest → 0 < slice_index rest 0 →
    front size place rest ≡ block size place rest (kind_of (word_at rest 0))
unfolding front
front_block size place rest two some = grind (arith, nat_tests)

pub block_fine : (place : ℕ) (rest : List ℕ) (words : ℕ) → 6 + 2 * words ≤ length rest →
    sum (words_of (take (6 + 2 * words) rest)) % 2 ^ 16 ≡ 0 → block_fault place rest words ≡ None
unfolding block_fault
block_fine place rest words whole none = grind (arith, nat_tests)

past_fine : (size origin addresses : ℕ) → origin + addresses ≤ size → past_fault size origin addresses ≡ None
past_fine size origin addresses within = grind (arith, nat_tests)

pub stores_fine : (size place : ℕ) (rest : List ℕ) (words addresses : ℕ) → 6 + 2 * words ≤ length rest →
    sum (words_of (take (6 + 2 * words) rest)) % 2 ^ 16 ≡ 0 → word_at rest 2 + addresses ≤ size →
    stores_fault size place rest words addresses ≡ None
unfolding stores_fault
stores_fine size place rest words addresses whole none within =
    ap (λ (x : Option LoadFault). first_fault x (past_fault size (word_at rest 2) addresses))
    (block_fine place rest words whole none)
    ∙ past_fine size (word_at rest 2) addresses within

block_words : (size place : ℕ) (rest : List ℕ) (n : ℕ) → stores_fault size place rest n n ≡ None →
    block size place rest (Words n)
    ≡ Passes (stores_from (word_at rest 2) (words_of (take (2 * n) (drop 6 rest)))) (6 + 2 * n)
unfolding block
block_words size place rest n fine =
    ap (λ (x : Option LoadFault). unless_faulty x
    (Passes (stores_from (word_at rest 2) (words_of (take (2 * n) (drop 6 rest)))) (6 + 2 * n))) fine

pub words_kind : (count n : ℕ) → 0 < n → n ≤ 16 → count ≡ 2 ^ 16 - n → kind_of count ≡ Words n
words_kind count n some few is =
    let back : 2 ^ 16 - count ≡ n = omega arith in
    let high : 2 ^ 16 - 16 ≤ count = omega arith in
    grind (arith, nat_tests)

low_some : (count n : ℕ) → 0 < n → n ≤ 16 → count ≡ 2 ^ 16 - n → 0 < count % 2 ^ 8
low_some count n some few is = omega arith

pub front_words : (size place origin check : ℕ) (words more : List ℕ) → 0 < length words → length words ≤ 16 →
    origin + length words ≤ size →
    sum ((2 ^ 16 - length words) ∷ origin ∷ check ∷ words) % 2 ^ 16 ≡ 0 →
    front size place (bytes_of ((2 ^ 16 - length words) ∷ origin ∷ check ∷ words) ++ more)
    ≡ Passes (stores_from origin words) (6 + 2 * length words)
front_words size place origin check words more some few within add_up =
    let n = length words in
    let count = 2 ^ 16 - n in
    let all = count ∷ origin ∷ check ∷ words in
    let rest = bytes_of all ++ more in
    let bytes : length (bytes_of all) ≡ 6 + 2 * n = omega (arith, length-bytes_of all) in
    let long : 6 + 2 * n ≤ length rest = omega (arith, bytes, length-append (bytes_of all) more) in
    let head : take (6 + 2 * n) rest ≡ bytes_of all = take_at (bytes_of all) more (6 + 2 * n) bytes in
    let words_there : words_of (take (6 + 2 * n) rest) ≡ all = ap words_of head ∙ words_back all in
    let summed : sum (words_of (take (6 + 2 * n) rest)) % 2 ^ 16 ≡ 0 =
    ap (λ (x : List ℕ). sum x % 2 ^ 16) words_there ∙ add_up in
    let first : word_at rest 0 ≡ count = word_back count in
    let second : word_at rest 2 ≡ origin = word_back origin in
    let kind : kind_of (word_at rest 0) ≡ Words n = words_kind (word_at rest 0) n some few first in
    let behind : take (2 * n) (drop 6 rest) ≡ bytes_of words =
    take_at (bytes_of words) more (2 * n) (length-bytes_of words) in
    let fine : stores_fault size place rest n n ≡ None = stores_fine size place rest n n long summed (omega arith) in
    front_block size place rest (omega arith) (low_some count n some few refl)
    ∙ ap (block size place rest) kind ∙ block_words size place rest n fine
    ∙ ap (λ (x : ℕ). Passes (stores_from x (words_of (take (2 * n) (drop 6 rest)))) (6 + 2 * n)) second
    ∙ ap (λ (x : List ℕ). Passes (stores_from origin (words_of x)) (6 + 2 * n)) behind
    ∙ ap (λ (x : List ℕ). Passes (stores_from origin x) (6 + 2 * n)) (words_back words)

pub front_data : (size place origin : ℕ) (words more : List ℕ) → 0 < length words → length words ≤ 16 →
    origin + length words ≤ size →
    front size place (data_block origin words ++ more) ≡ Passes (stores_from origin words) (6 + 2 * length words)
front_data size place origin words more some few within =
    front_words size place origin (checksum ((2 ^ 16 - length words) ∷ origin ∷ words)) words more some few within
    (sum_zero (2 ^ 16 - length words) origin words)

pub start_low : (start : ℕ) → start < 2 ^ 15 → start_at start ≡ Some start
start_low start low = grind (arith, nat_tests)

pub block_start : (size place : ℕ) (rest : List ℕ) → block_fault place rest 0 ≡ None →
    block size place rest Start ≡ Ends (start_at (word_at rest 2))
unfolding block
block_start size place rest fine =
    ap (λ (x : Option LoadFault). unless_faulty x (Ends (start_at (word_at rest 2)))) fine

pub front_start : (size place start : ℕ) → start < 2 ^ 15 → front size place (start_block start) ≡ Ends (Some start)
front_start size place start low =
    let all = 1 ∷ start ∷ checksum (1 ∷ start ∷ []) ∷ [] in
    let rest = start_block start in
    let words_there : words_of rest ≡ all = words_back all in
    let summed : sum (words_of (take (6 + 2 * 0) rest)) % 2 ^ 16 ≡ 0 =
    ap (λ (x : List ℕ). sum x % 2 ^ 16) words_there ∙ sum_zero 1 start [] in
    let second : word_at rest 2 ≡ start = word_back start in
    front_block size place rest (omega arith) (omega arith)
    ∙ block_start size place rest (block_fine place rest 0 (omega arith) summed)
    ∙ ap (λ (x : ℕ). Ends (start_at x)) second ∙ ap Ends (start_low start low)

-- blocks, one behind another

pub blocks_more : (more origin : ℕ) (words : List ℕ) →
    data_blocks (suc more) origin words
    ≡ data_block origin (take 16 words) ++ data_blocks more (origin + 16) (drop 16 words)
unfolding data_blocks
blocks_more more origin words = refl

pub blocks_none : (origin : ℕ) (words : List ℕ) → data_blocks 0 origin words ≡ []
unfolding data_blocks
blocks_none origin words = refl

pub no_words : (words : List ℕ) → length words ≡ 0 → words ≡ []
no_words [] none = refl
no_words (w ∷ words) none = absurd (omega arith)

some_start : (size place start : ℕ) → start < 2 ^ 15 →
    tape_from size place (start_block start) ≡ Ok (record { stores = []; start = Some start })
some_start size place start low =
    tape_says size place (start_block start) (Ends (Some start)) (sym (front_start size place start low))

pub blocks_back : (count size place origin start : ℕ) (words : List ℕ) → (length words + 15) / 16 ≡ count →
    (0 < length words → origin + length words ≤ size) → start < 2 ^ 15 →
    tape_from size place (data_blocks count origin words ++ start_block start)
    ≡ Ok (record { stores = stores_from origin words; start = Some start })
blocks_back zero size place origin start words is within low =
    let none : words ≡ [] = no_words words (omega arith) in
    ap (λ (x : List ℕ). tape_from size place (x ++ start_block start)) (blocks_none origin words)
    ∙ some_start size place start low
    ∙ ap (λ (x : List ℕ). Ok (record { stores = stores_from origin x; start = Some start })) (sym none)
blocks_back (suc count) size place origin start words is within low =
    let first = take 16 words in
    let others = drop 16 words in
    let block_first = data_block origin first in
    let behind = data_blocks count (origin + 16) others ++ start_block start in
    let n = length first in
    let taken : n ≡ min 16 (length words) = length-take 16 words in
    let left : length others ≡ length words - 16 = length-drop 16 words in
    let bytes : length block_first ≡ 6 + 2 * n =
    omega (arith, length-bytes_of ((2 ^ 16 - n) ∷ origin ∷ checksum ((2 ^ 16 - n) ∷ origin ∷ first) ∷ first)) in
    let whole : data_blocks (suc count) origin words ++ start_block start ≡ block_first ++ behind =
    ap (λ (x : List ℕ). x ++ start_block start) (blocks_more count origin words)
    ∙ append_assoc block_first (data_blocks count (origin + 16) others) (start_block start) in
    let later : tape_from size (place + (6 + 2 * n)) behind
    ≡ Ok (record { stores = stores_from (origin + 16) others; start = Some start }) =
    blocks_back count size (place + (6 + 2 * n)) (origin + 16) start others (omega arith)
    (λ some. let fits = within (omega arith) in omega arith) low in
    ap (tape_from size place) whole
    ∙ tape_behind size place (place + (6 + 2 * n)) (6 + 2 * n) (block_first ++ behind) behind (stores_from origin first)
    (sym (front_data size place origin first behind (omega arith) (omega arith)
    (let fits = within (omega arith) in omega arith)))
    (sym (drop_at block_first behind (6 + 2 * n) bytes)) refl
    ∙ ap (with_stores (stores_from origin first)) later
    ∙ ap (λ (x : List Store). Ok (record { stores = x; start = Some start })) (stores-split 16 origin words)

pub length-words_from : (n at : ℕ) (m : MemoryState) → length (words_from m at n) ≡ n
unfolding words_from
length-words_from zero at m = refl
length-words_from (suc n) at m = omega (arith, length-words_from n (at + 1) m)

pub dumps_read_back : DumpsReadBack
dumps_read_back m from to start size ordered within low =
    let words = words_from m from (to + 1 - from) in
    let long : length words ≡ to + 1 - from = length-words_from (to + 1 - from) from m in
    blocks_back ((length words + 15) / 16) size 0 from start words refl (λ some. omega arith) low

-- a dump, as it is made

pub words_next : (m : MemoryState) (at n next word : ℕ) (words more wanted : List ℕ) →
    words ++ words_from m at n ≡ wanted → n ≡ next + 1 → word ≡ get m at → more ≡ words ++ word ∷ [] →
    more ++ words_from m (at + 1) next ≡ wanted
unfolding words_from
words_next m at zero next word words more wanted made one is pushed = absurd (omega arith)
words_next m at (suc n) next word words more wanted made one is pushed =
    let same : next ≡ n = omega arith in
    ap (λ (x : ℕ). more ++ words_from m (at + 1) x) same
    ∙ ap (λ (x : List ℕ). x ++ words_from m (at + 1) n) (pushed ∙ ap (λ (x : ℕ). words ++ x ∷ []) is)
    ∙ append_assoc words (get m at ∷ []) (words_from m (at + 1) n) ∙ made

pub words_all : (m : MemoryState) (at n : ℕ) (words wanted : List ℕ) →
    words ++ words_from m at n ≡ wanted → n ≡ 0 → words ≡ wanted
unfolding words_from
words_all m at zero words wanted made none = sym (append-nil words) ∙ made
words_all m at (suc n) words wanted made none = absurd (omega arith)

blocks_of_none : (origin : ℕ) (words : List ℕ) → length words ≡ 0 → blocks_of origin words ≡ []
blocks_of_none origin words none =
    let count : (length words + 15) / 16 ≡ 0 = omega arith in
    ap (λ (x : ℕ). data_blocks x origin words) count ∙ blocks_none origin words

-- the blocks of words, of which the first 16, or all, are taken
blocks_first : (origin : ℕ) (words : List ℕ) → 0 < length words →
    blocks_of origin words ≡ data_block origin (take 16 words) ++ blocks_of (origin + 16) (drop 16 words)
blocks_first origin words some =
    let left : length (drop 16 words) ≡ length words - 16 = length-drop 16 words in
    let count : (length words + 15) / 16 ≡ suc ((length (drop 16 words) + 15) / 16) = omega arith in
    ap (λ (x : ℕ). data_blocks x origin words) count
    ∙ blocks_more ((length (drop 16 words) + 15) / 16) origin words

same_behind : (origin n : ℕ) (words : List ℕ) → n ≡ min (length words) 16 →
    blocks_of (origin + n) (drop n words) ≡ blocks_of (origin + 16) (drop 16 words)
same_behind origin n words is =
    elim (cases_lt (length words) 16) [
      | inl short ↦
          let one : length (drop n words) ≡ 0 = omega (arith, length-drop n words) in
          let other : length (drop 16 words) ≡ 0 = omega (arith, length-drop 16 words) in
          blocks_of_none (origin + n) (drop n words) one ∙ sym (blocks_of_none (origin + 16) (drop 16 words) other)
      | inr long ↦
          let all : n ≡ 16 = omega arith in
          ap (λ (x : ℕ). blocks_of (origin + x) (drop x words)) all
    ]

same_front : (n : ℕ) (words : List ℕ) → n ≡ min (length words) 16 → take n words ≡ take 16 words
same_front n words is =
    elim (cases_lt (length words) 16) [
      | inl short ↦ take_all n words (omega arith) ∙ sym (take_all 16 words (omega arith))
      | inr long ↦
          let all : n ≡ 16 = omega arith in
          ap (λ (x : ℕ). take x words) all
    ]

pub blocks_next : (at n cut count : ℕ) (tape more rest first others wanted : List ℕ) →
    tape ++ blocks_of at rest ≡ wanted → 0 < length rest → n ≡ cut → cut ≡ min (length rest) 16 →
    first ≡ take cut rest → others ≡ drop cut rest → count ≡ 2 ^ 16 - n → more ≡ tape ++ block_bytes count at first →
    more ++ blocks_of (at + n) others ≡ wanted
blocks_next at n cut count tape more rest first others wanted made some same is front behind counted pushed =
    let counts : count ≡ 2 ^ 16 - length first = omega (arith, ap length front, length-take cut rest) in
    let sixteen : first ≡ take 16 rest = front ∙ same_front cut rest is in
    ap (λ (x : ℕ). more ++ blocks_of (at + x) others) same
    ∙ ap (λ (x : List ℕ). more ++ blocks_of (at + cut) x) behind
    ∙ ap (λ (x : List ℕ). more ++ x) (same_behind at cut rest is)
    ∙ ap (λ (x : List ℕ). x ++ blocks_of (at + 16) (drop 16 rest))
    (pushed ∙ ap (λ (x : ℕ). tape ++ block_bytes x at first) counts
    ∙ ap (λ (x : List ℕ). tape ++ data_block at x) sixteen)
    ∙ append_assoc tape (data_block at (take 16 rest)) (blocks_of (at + 16) (drop 16 rest))
    ∙ ap (λ (x : List ℕ). tape ++ x) (sym (blocks_first at rest some)) ∙ made

pub blocks_all : (at : ℕ) (tape rest wanted : List ℕ) → tape ++ blocks_of at rest ≡ wanted → length rest ≡ 0 →
    tape ≡ wanted
blocks_all at tape rest wanted made none =
    sym (append-nil tape) ∙ ap (λ (x : List ℕ). tape ++ x) (sym (blocks_of_none at rest none)) ∙ made

-- how long a dump is: two bytes for each word, six for each block of 16 words, and six for the start

blocks-length : (more origin : ℕ) (words : List ℕ) → length (data_blocks more origin words) ≤ 6 * more + 2 * length words
unfolding data_blocks
blocks-length zero origin words = omega arith
blocks-length (suc more) origin words =
    let rest = blocks-length more (origin + 16) (drop 16 words) in
    omega (
      arith,
      rest,
      length-append (data_block origin (take 16 words)) (data_blocks more (origin + 16) (drop 16 words)),
      length-bytes_of (take 16 words),
      length-take 16 words,
      length-drop 16 words,
    )

pub dumped-length : (m : MemoryState) (from to start : ℕ) → to < 2 ^ 15 → length (dumped m from to start) ≤ 77830
dumped-length m from to start low =
    let words = words_from m from (to + 1 - from) in
    omega (
      arith,
      low,
      length-append (blocks_of from words) (start_block start),
      blocks-length ((length words + 15) / 16) from words,
      length-words_from (to + 1 - from) from m,
    )
