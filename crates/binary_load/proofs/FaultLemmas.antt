-- A fault that stands where the forms of tapes say is the one that the bytes are read with.
use Rattle.std.proofs.Common.{◌≡◌, ℕ, ◌+◌, ◌-◌, ◌*◌, ◌%◌, ◌^◌, ◌<◌, ◌≤◌, ◌==◌, List, [], ◌∷◌, ◌++◌, length}
use Rattle.std.proofs.Common.{take, drop, replicate, sum, get_or, refl, sym, ap, ◌∙◌, arith, cond, Option, Some, None, Err, Bool}
use Rattle.std.specs.List.{position, position_or_len}
use Rattle.std.proofs.lemmas.Bool.{le-ltb}
use Rattle.std.proofs.lemmas.Bool.Decides.{nat_tests}
use Rattle.std.proofs.lemmas.List.{length-append, take_at, drop_at}
use Rattle.std.proofs.lemmas.List.Sums.{position_or_len_is}
use Rattle.binary_load.specs.declared.faults.LoadFault.{LoadFault}
use Rattle.binary_load.specs.declared.faults.LoadFault.TheVariants.{Truncated, BadSum, PastMemory}
use Rattle.binary_load.specs.Tape.{front, block, kind_of, words_of, word_at, stores_from, start_at}
use Rattle.binary_load.specs.Tape.{block_fault, past_fault, first_fault, unless_faulty, ignored_block, with_stores, tape_from}
use Rattle.binary_load.specs.Tape.Front.{Passes, Ends, Faulty}
use Rattle.binary_load.specs.Dump.{bytes_of}
use Rattle.binary_load.specs.Grammar.{CountSays, says_words, says_one_word, says_start}
use Rattle.binary_load.specs.Grammar.{IsFaulty, count_ends, block_ends, passed_ends, adds_up_wrong, is_past, fails_behind}
use Rattle.binary_load.proofs.DumpLemmas.{word_back, words_back, length-bytes_of, front_block, block_fine, words_kind}
use Rattle.binary_load.proofs.GrammarLemmas.{repeated_kind, ignored_kind, not_ones, piece_read}
use Rattle.binary_load.proofs.ReadingLemmas.{tape_says, tape_behind}
use Rattle.binary_load.proofs.FormLemmas.{block-cut, block-wrong, past-is, stores-are, block-words, block-one-word, block-start, block-passed}

front-one : (size place byte : ℕ) → 0 < byte → front size place (byte ∷ []) ≡ Faulty (Truncated (place + 1))
unfolding front
front-one size place byte some = grind (arith, nat_tests)

-- a block with a count, at the front of bytes
module _ (size place : ℕ) (rest : List ℕ) (fault : LoadFault) where
  by-itself : (count words addresses : ℕ) → CountSays count words addresses → block_fault place rest words ≡ Some fault → block size place rest (kind_of count) ≡ Faulty fault
  by-itself _ _ _ (says_words n some few) is =
      ap (block size place rest) (words_kind (2 ^ 16 - n) n some few refl) ∙ block-words size place rest n
      ∙ ap (λ (f : Option LoadFault). unless_faulty f (Passes (stores_from (word_at rest 2) (words_of (take (2 * n) (drop 6 rest)))) (6 + 2 * n)))
      (stores-are size place rest n n ∙ ap (λ (f : Option LoadFault). first_fault f (past_fault size (word_at rest 2) n)) is)
  by-itself _ _ _ (says_one_word n many most) is =
      ap (block size place rest) (repeated_kind (2 ^ 16 - n) n many most refl) ∙ block-one-word size place rest n
      ∙ ap (λ (f : Option LoadFault). unless_faulty f (Passes (stores_from (word_at rest 2) (replicate n (word_at rest 6))) 8))
      (stores-are size place rest 1 n ∙ ap (λ (f : Option LoadFault). first_fault f (past_fault size (word_at rest 2) n)) is)
  by-itself _ _ _ says_start is =
      block-start size place rest ∙ ap (λ (f : Option LoadFault). unless_faulty f (Ends (start_at (word_at rest 2)))) is

  by-place : (count words addresses : ℕ) → CountSays count words addresses → 0 < addresses → block_fault place rest words ≡ None
      → past_fault size (word_at rest 2) addresses ≡ Some fault → block size place rest (kind_of count) ≡ Faulty fault
  by-place _ _ _ (says_words n some few) any fine is =
      ap (block size place rest) (words_kind (2 ^ 16 - n) n some few refl) ∙ block-words size place rest n
      ∙ ap (λ (f : Option LoadFault). unless_faulty f (Passes (stores_from (word_at rest 2) (words_of (take (2 * n) (drop 6 rest)))) (6 + 2 * n)))
      (stores-are size place rest n n ∙ (λ i. first_fault (fine i) (is i)))
  by-place _ _ _ (says_one_word n many most) any fine is =
      ap (block size place rest) (repeated_kind (2 ^ 16 - n) n many most refl) ∙ block-one-word size place rest n
      ∙ ap (λ (f : Option LoadFault). unless_faulty f (Passes (stores_from (word_at rest 2) (replicate n (word_at rest 6))) 8))
      (stores-are size place rest 1 n ∙ (λ i. first_fault (fine i) (is i)))
  by-place _ _ _ says_start any fine is = absurd (omega (arith, any))

  -- the bytes are read with it
  says-so : front size place rest ≡ Faulty fault → tape_from size place rest ≡ Err fault
  says-so is = tape_says size place rest (Faulty fault) (sym is)

-- a block that is whole in front of others
module _ (size place count origin check : ℕ) (words others : List ℕ) where
  abbrev all : List ℕ
  all = count ∷ origin ∷ check ∷ words

  abbrev rest : List ℕ
  rest = bytes_of all ++ others

  all-long : length (bytes_of all) ≡ 6 + 2 * length words
  all-long = omega (arith, length-bytes_of all)

  rest-long : 6 + 2 * length words ≤ length rest
  rest-long = omega (arith, all-long, length-append (bytes_of all) others)

  summed : sum (words_of (take (6 + 2 * length words) rest)) % 2 ^ 16 ≡ sum all % 2 ^ 16
  summed = ap (λ (xs : List ℕ). sum xs % 2 ^ 16) (ap words_of (take_at (bytes_of all) others (6 + 2 * length words) all-long) ∙ words_back all)

  as-block : 0 < count % 2 ^ 8 → front size place rest ≡ block size place rest (kind_of count)
  as-block begin =
      let two : 2 ≤ length rest = omega (arith, rest-long) in
      front_block size place rest two begin ∙ ap (λ (c : ℕ). block size place rest (kind_of c)) (word_back count)

found : (size place : ℕ) (bytes : List ℕ) (fault : LoadFault) → IsFaulty size place bytes fault → tape_from size place bytes ≡ Err fault
found _ _ _ _ (count_ends size place byte some) = says-so size place (byte ∷ []) (Truncated (place + 1)) (front-one size place byte some)
found _ _ _ _ (block_ends size place count words addresses others begin counts short) =
    let rest = bytes_of (count ∷ []) ++ others in
    let long : place + length rest ≡ place + 2 + length others = omega arith in
    let fault : block_fault place rest words ≡ Some (Truncated (place + 2 + length others)) =
    block-cut place rest words (omega (arith, short)) ∙ ap (λ (n : ℕ). Some (Truncated n)) long in
    says-so size place rest (Truncated (place + 2 + length others))
    (front_block size place rest (omega arith) begin ∙ ap (λ (c : ℕ). block size place rest (kind_of c)) (word_back count)
    ∙ by-itself size place rest (Truncated (place + 2 + length others)) count words addresses counts fault)
found _ _ _ _ (passed_ends size place count others some low begin none) =
    let rest = bytes_of (count ∷ []) ++ others in
    let ones = λ (b : ℕ). b == 0xff in
    let long : place + length rest ≡ place + 2 + length others = omega arith in
    let end : position_or_len ones others ≡ length others =
    position_or_len_is ones others (length others) 0 (omega arith) (λ k below. not_ones (get_or others k 0) (none k 0 below)) (λ over. absurd (omega (arith, over))) in
    let missing : position ones others ≡ None =
    ap (λ (x : Bool). cond x (Some (position_or_len ones others)) None) (le-ltb (position_or_len ones others) (length others) (omega (arith, end))) in
    says-so size place rest (Truncated (place + 2 + length others))
    (front_block size place rest (omega arith) begin ∙ ap (λ (c : ℕ). block size place rest (kind_of c)) (word_back count)
    ∙ ap (block size place rest) (ignored_kind count some low) ∙ block-passed size place rest
    ∙ ap (ignored_block place rest) missing ∙ ap (λ (n : ℕ). Faulty (Truncated n)) long)
found _ _ _ _ (adds_up_wrong size place count origin check addresses words others begin counts wrong) =
    let bytes = bytes_of (count ∷ origin ∷ check ∷ words) ++ others in
    let total = summed size place count origin check words others in
    says-so size place bytes (BadSum place)
    (as-block size place count origin check words others begin
    ∙ by-itself size place bytes (BadSum place) count (length words) addresses counts
    (block-wrong place bytes (length words) (rest-long size place count origin check words others) (λ none. wrong (sym total ∙ none))))
found _ _ _ _ (is_past size place count origin check addresses words others counts is some over) =
    let bytes = bytes_of (count ∷ origin ∷ check ∷ words) ++ others in
    let total = summed size place count origin check words others in
    let origin_is : word_at bytes 2 ≡ origin = word_back origin in
    says-so size place bytes (PastMemory origin)
    (as-block size place count origin check words others is.begin
    ∙ by-place size place bytes (PastMemory origin) count (length words) addresses counts some
    (block_fine place bytes (length words) (rest-long size place count origin check words others) (total ∙ is.add_up))
    (ap (λ (o : ℕ). past_fault size o addresses) origin_is ∙ past-is size origin addresses over))
found _ _ _ _ (fails_behind size place piece rest stores fault is more) =
    tape_behind size place (place + length piece) (length piece) (piece ++ rest) rest stores
    (sym (piece_read size place piece rest stores is)) (sym (drop_at piece rest (length piece) refl)) refl
    ∙ ap (with_stores stores) (found size (place + length piece) rest fault more)

pub faults-found : (size : ℕ) (bytes : List ℕ) (fault : LoadFault) → IsFaulty size 0 bytes fault → tape_from size 0 bytes ≡ Err fault
faults-found size bytes fault is = found size 0 bytes fault is
