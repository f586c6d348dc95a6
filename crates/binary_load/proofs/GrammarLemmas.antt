-- Laws of the forms of loader tapes.
use Rattle.std.proofs.Common.{◌≡◌, ◌≢◌, ℕ, ◌+◌, ◌-◌, ◌*◌, ◌%◌, ◌^◌, ◌<◌, ◌≤◌, ◌==◌, List, [], ◌∷◌, ◌++◌, length}
use Rattle.std.proofs.Common.{take, drop, replicate, sum, refl, sym, ap, ◌∙◌, arith, Option, Some, None, Ok}
use Rattle.std.proofs.Common.{get_or, false, All}
use Rattle.std.specs.List.{position, position_or_len}
use Rattle.std.proofs.lemmas.Bool.Decides.{nat_tests}
use Rattle.std.proofs.lemmas.List.{append_assoc, length-append, take_at, drop_at, get_or_append_left, get_or_at}
use Rattle.std.proofs.lemmas.List.Sums.{position_or_len_is}
use Rattle.binary_load.specs.declared.faults.LoadFault.{LoadFault}
use Rattle.binary_load.specs.declared.blocks.Kind.TheVariants.{Repeated, Ignored}
use Rattle.binary_load.specs.Tape.{Store, Tape, front, block, kind_of, words_of, word_at, stores_from}
use Rattle.binary_load.specs.Tape.{stores_fault, unless_faulty, ignored_block, start_at, with_stores, tape_from}
use Rattle.binary_load.specs.Tape.Front.{Passes, Ends}
use Rattle.binary_load.specs.Dump.{bytes_of}
use Rattle.binary_load.specs.Grammar.{AreBlock, IsPiece, zero_byte, words_block, repeated_block, passed_block}
use Rattle.binary_load.specs.Grammar.{IsTape, ends, starts, goes_on}
use Rattle.binary_load.specs.Laws.{TapesAreRead}
use Rattle.binary_load.proofs.DumpLemmas.{word_back, words_back, length-bytes_of, front_block, stores_fine, block_fine}
use Rattle.binary_load.proofs.DumpLemmas.{front_words, block_start}
use Rattle.binary_load.proofs.ReadingLemmas.{tape_says, tape_behind}

-- what each piece is read as

pub front_zero : (size place : ℕ) (more : List ℕ) → front size place (0 ∷ more) ≡ Passes [] 1
unfolding front
front_zero size place more = grind (arith, nat_tests)

pub repeated_kind : (count n : ℕ) → 16 < n → n ≤ 2 ^ 15 → count ≡ 2 ^ 16 - n → kind_of count ≡ Repeated n
repeated_kind count n many most is =
    let back : 2 ^ 16 - count ≡ n = omega arith in
    let low : count < 2 ^ 16 - 16 = omega arith in
    let high : 2 ^ 15 ≤ count = omega arith in
    grind (arith, nat_tests)

pub ignored_kind : (count : ℕ) → 1 < count → count < 2 ^ 15 → kind_of count ≡ Ignored
ignored_kind count some low = grind (arith, nat_tests)

block_repeated : (size place : ℕ) (rest : List ℕ) (n : ℕ) → stores_fault size place rest 1 n ≡ None →
    block size place rest (Repeated n) ≡ Passes (stores_from (word_at rest 2) (replicate n (word_at rest 6))) 8
unfolding block
block_repeated size place rest n fine =
    ap (λ (x : Option LoadFault). unless_faulty x
    (Passes (stores_from (word_at rest 2) (replicate n (word_at rest 6))) 8)) fine

block_ignored : (size place : ℕ) (rest : List ℕ) (others : ℕ) →
    position (λ b. b == 0xff) (drop 2 rest) ≡ Some others → block size place rest Ignored ≡ Passes [] (2 + others + 1)
unfolding block
block_ignored size place rest others is = ap (ignored_block place rest) is

front_repeated : (size place origin check word n : ℕ) (more : List ℕ) → 16 < n → n ≤ 2 ^ 15 → origin + n ≤ size →
    AreBlock ((2 ^ 16 - n) ∷ origin ∷ check ∷ word ∷ []) →
    front size place (bytes_of ((2 ^ 16 - n) ∷ origin ∷ check ∷ word ∷ []) ++ more)
    ≡ Passes (stores_from origin (replicate n word)) 8
front_repeated size place origin check word n more many most within is =
    let count = 2 ^ 16 - n in
    let all = count ∷ origin ∷ check ∷ word ∷ [] in
    let rest = bytes_of all ++ more in
    let long : 6 + 2 * 1 ≤ length rest = omega (arith, length-bytes_of all, length-append (bytes_of all) more) in
    let head : take (6 + 2 * 1) rest ≡ bytes_of all = take_at (bytes_of all) more (6 + 2 * 1) refl in
    let summed : sum (words_of (take (6 + 2 * 1) rest)) % 2 ^ 16 ≡ 0 =
    ap (λ (x : List ℕ). sum x % 2 ^ 16) (ap words_of head ∙ words_back all) ∙ is.add_up in
    let first : word_at rest 0 ≡ count = word_back count in
    let second : word_at rest 2 ≡ origin = word_back origin in
    let fourth : word_at rest 6 ≡ word = word_back word in
    let kind : kind_of (word_at rest 0) ≡ Repeated n = repeated_kind (word_at rest 0) n many most first in
    let fine : stores_fault size place rest 1 n ≡ None = stores_fine size place rest 1 n long summed (omega arith) in
    front_block size place rest (omega arith) is.begin
    ∙ ap (block size place rest) kind ∙ block_repeated size place rest n fine
    ∙ ap (λ (x : ℕ). Passes (stores_from x (replicate n (word_at rest 6))) 8) second
    ∙ ap (λ (x : ℕ). Passes (stores_from origin (replicate n x)) 8) fourth

pub not_ones : (b : ℕ) → b ≢ 0xff → (b == 0xff) ≡ false
not_ones b other = grind (arith, nat_tests)

ones_place : (others more : List ℕ) → All (λ b. b ≢ 0xff) others →
    position (λ b. b == 0xff) (others ++ 0xff ∷ more) ≡ Some (length others)
ones_place others more none =
    let all = others ++ 0xff ∷ more in
    let long : length all ≡ length others + length (0xff ∷ more) = length-append others (0xff ∷ more) in
    let within : length others < length all = omega arith in
    let at : position_or_len (λ b. b == 0xff) all ≡ length others =
    position_or_len_is (λ (b : ℕ). b == 0xff) all (length others) 0 (omega arith)
    (λ k low. ap (λ (x : ℕ). x == 0xff) (get_or_append_left others (0xff ∷ more) 0 k low)
    ∙ not_ones (get_or others k 0) (none k 0 low))
    (λ _. ap (λ (x : ℕ). x == 0xff) (get_or_at others 0xff more 0 (length others) refl)) in
    grind (arith, nat_tests)

front_passed : (size place count : ℕ) (others more : List ℕ) → 1 < count → count < 2 ^ 15 → 0 < count % 2 ^ 8 →
    All (λ b. b ≢ 0xff) others →
    front size place (bytes_of (count ∷ []) ++ (others ++ 0xff ∷ more)) ≡ Passes [] (2 + length others + 1)
front_passed size place count others more some low begin none =
    let rest = bytes_of (count ∷ []) ++ (others ++ 0xff ∷ more) in
    let first : word_at rest 0 ≡ count = word_back count in
    let kind : kind_of (word_at rest 0) ≡ Ignored = ignored_kind (word_at rest 0) (omega arith) (omega arith) in
    front_block size place rest (omega arith) begin ∙ ap (block size place rest) kind
    ∙ block_ignored size place rest (length others) (ones_place others more none)

front_starts : (size place origin check : ℕ) (others : List ℕ) → AreBlock (1 ∷ origin ∷ check ∷ []) →
    front size place (bytes_of (1 ∷ origin ∷ check ∷ []) ++ others) ≡ Ends (start_at origin)
front_starts size place origin check others is =
    let all = 1 ∷ origin ∷ check ∷ [] in
    let rest = bytes_of all ++ others in
    let long : 6 + 2 * 0 ≤ length rest = omega (arith, length-append (bytes_of all) others) in
    let head : take (6 + 2 * 0) rest ≡ bytes_of all = take_at (bytes_of all) others (6 + 2 * 0) refl in
    let summed : sum (words_of (take (6 + 2 * 0) rest)) % 2 ^ 16 ≡ 0 =
    ap (λ (x : List ℕ). sum x % 2 ^ 16) (ap words_of head ∙ words_back all) ∙ is.add_up in
    let second : word_at rest 2 ≡ origin = word_back origin in
    front_block size place rest (omega arith) (omega arith)
    ∙ block_start size place rest (block_fine place rest 0 long summed)
    ∙ ap (λ (x : ℕ). Ends (start_at x)) second

-- a piece in front of more
pub piece_read : (size place : ℕ) (piece more : List ℕ) (stores : List Store) → IsPiece size piece stores →
    front size place (piece ++ more) ≡ Passes stores (length piece)
piece_read _ place _ more _ (zero_byte size) = front_zero size place more
piece_read _ place _ more _ (words_block size origin check words some few within is) =
    front_words size place origin check words more some few within is.add_up
    ∙ ap (λ (x : ℕ). Passes (stores_from origin words) x)
    (sym (omega (arith, length-bytes_of ((2 ^ 16 - length words) ∷ origin ∷ check ∷ words))))
piece_read _ place _ more _ (repeated_block size origin check word count many most within is) =
    front_repeated size place origin check word count more many most within is
piece_read _ place _ more _ (passed_block size count others some low begin none) =
    let bytes : length (bytes_of (count ∷ []) ++ (others ++ 0xff ∷ [])) ≡ 2 + length others + 1 =
    omega (arith, length-append others (0xff ∷ [])) in
    ap (λ (x : List ℕ). front size place (bytes_of (count ∷ []) ++ x)) (append_assoc others (0xff ∷ []) more)
    ∙ front_passed size place count others more some low begin none ∙ ap (λ (x : ℕ). Passes [] x) (sym bytes)

tape_read : (size : ℕ) (bytes : List ℕ) (says : Tape) → IsTape size bytes says → (place : ℕ) →
    tape_from size place bytes ≡ Ok says
unfolding front
tape_read _ _ _ (ends size) place = tape_says size place [] (Ends None) refl
tape_read _ _ _ (starts size origin check others is) place =
    tape_says size place (bytes_of (1 ∷ origin ∷ check ∷ []) ++ others) (Ends (start_at origin))
    (sym (front_starts size place origin check others is))
tape_read _ _ _ (goes_on size piece rest stores says is more) place =
    tape_behind size place (place + length piece) (length piece) (piece ++ rest) rest stores
    (sym (piece_read size place piece rest stores is)) (sym (drop_at piece rest (length piece) refl)) refl
    ∙ ap (with_stores stores) (tape_read size rest says more (place + length piece))

pub tapes_are_read : TapesAreRead
tapes_are_read size bytes says is = tape_read size bytes says is 0
