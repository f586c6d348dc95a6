-- Bytes that are read as a tape have its form, and those that are read with a fault have it there.
use Rattle.std.proofs.Common.{◌≡◌, ◌≢◌, inl, inr, ℕ, zero, suc, ◌+◌, ◌-◌, ◌*◌, ◌/◌, ◌%◌, ◌^◌, ◌<◌, ◌≤◌, ◌==◌, List, [], ◌∷◌, ◌++◌, length}
use Rattle.std.proofs.Common.{take, drop, replicate, sum, get_or, refl, sym, ap, subst, ◌∙◌, arith, cond, Option, Some, None, Result, Ok, Err, All, Bool, false}
use Rattle.std.specs.List.{position, position_or_len}
use Rattle.std.proofs.lemmas.Bool.{cases_lt, cases_eq, lt-ltb, le-ltb, eqb-true}
use Rattle.std.proofs.lemmas.Bool.Decides.{nat_tests}
use Rattle.std.proofs.lemmas.List.{append_assoc, get_or-take, length-append, length-take-le, take-append-drop, drop_at}
use Rattle.std.proofs.lemmas.List.Sums.{split_at_first, fails_before_first, passes_at_first}
use Rattle.std.proofs.Math.Seq.{take-append-add}
use Rattle.binary_load.specs.declared.faults.LoadFault.{LoadFault}
use Rattle.binary_load.specs.declared.faults.LoadFault.TheVariants.{Truncated, BadSum, PastMemory}
use Rattle.binary_load.specs.declared.blocks.Kind.{Kind}
use Rattle.binary_load.specs.declared.blocks.Kind.TheVariants.{Words, Repeated, Start, Ignored}
use Rattle.binary_load.specs.Tape.{Store, Tape, Front, front, block, kind_of, words_of, word_at, stores_from}
use Rattle.binary_load.specs.Tape.{block_fault, past_fault, first_fault, stores_fault, unless_faulty, ignored_block, start_at, with_stores, tape_from}
use Rattle.binary_load.specs.Tape.Front.{Passes, Ends, Faulty}
use Rattle.binary_load.specs.Dump.{bytes_of}
use Rattle.binary_load.specs.Grammar.{AreBlock, IsPiece, zero_byte, words_block, repeated_block, passed_block}
use Rattle.binary_load.specs.Grammar.{IsTape, ends, starts, goes_on}
use Rattle.binary_load.specs.Grammar.{CountSays, says_words, says_one_word, says_start}
use Rattle.binary_load.specs.Grammar.{IsFaulty, count_ends, block_ends, passed_ends, adds_up_wrong, is_past, fails_behind}
use Rattle.binary_load.proofs.DumpLemmas.{word_back, length-bytes_of, front_block, block_fine, words_kind}
use Rattle.binary_load.proofs.GrammarLemmas.{repeated_kind, ignored_kind, front_zero}
use Rattle.binary_load.proofs.ReadingLemmas.{tape_says, tape_behind, front_none, forward_passes}

-- ---- bytes and the words that they are

-- each is a byte
abbrev AreBytes : List ℕ → Type 0
AreBytes [] = Unit {0}
AreBytes (b ∷ rest) = (b < 2 ^ 8) × AreBytes rest

all-bytes : (bytes : List ℕ) → All (λ b. b < 2 ^ 8) bytes → AreBytes bytes
all-bytes [] all = tt
all-bytes (b ∷ rest) all = (all zero b (omega arith), all-bytes rest (λ k d low. all (suc k) d (omega (arith, low))))

bytes-take : (n : ℕ) (bytes : List ℕ) → AreBytes bytes → AreBytes (take n bytes)
bytes-take zero bytes all = tt
bytes-take (suc n) [] all = tt
bytes-take (suc n) (b ∷ rest) all = (all.0, bytes-take n rest all.1)

bytes-drop : (n : ℕ) (bytes : List ℕ) → AreBytes bytes → AreBytes (drop n bytes)
bytes-drop zero bytes all = all
bytes-drop (suc n) [] all = tt
bytes-drop (suc n) (b ∷ rest) all = bytes-drop n rest all.1

low-back : (a b : ℕ) → a < 2 ^ 8 → (a + 2 ^ 8 * b) % 2 ^ 8 ≡ a
low-back a b byte = omega (arith, byte)

high-back : (a b : ℕ) → a < 2 ^ 8 → (a + 2 ^ 8 * b) / 2 ^ 8 ≡ b
high-back a b byte = omega (arith, byte)

-- the two bytes of a word, in front of others
word-bytes : (a b : ℕ) (rest : List ℕ) → a < 2 ^ 8 → a ∷ b ∷ rest ≡ ((a + 2 ^ 8 * b) % 2 ^ 8) ∷ ((a + 2 ^ 8 * b) / 2 ^ 8) ∷ rest
word-bytes a b rest byte = (λ i. sym (low-back a b byte) i ∷ sym (high-back a b byte) i ∷ rest)

-- an even number of bytes are the bytes of their words
bytes-back : (n : ℕ) (bytes : List ℕ) → length bytes ≡ 2 * n → AreBytes bytes → (bytes_of (words_of bytes) ≡ bytes) × (length (words_of bytes) ≡ n)
bytes-back zero [] long all = (refl, refl)
bytes-back (suc n) [] long all = absurd (omega (arith, long))
bytes-back n (a ∷ []) long all = absurd (omega (arith, long))
bytes-back zero (a ∷ b ∷ rest) long all = absurd (omega (arith, long))
bytes-back (suc n) (a ∷ b ∷ rest) long all =
    let more = bytes-back n rest (omega (arith, long)) all.1.1 in (
      ap (λ (xs : List ℕ). ((a + 2 ^ 8 * b) % 2 ^ 8) ∷ ((a + 2 ^ 8 * b) / 2 ^ 8) ∷ xs) more.0 ∙ sym (word-bytes a b rest all.0),
      ap suc more.1,
    )

-- a block that stands whole at the front of bytes, with so many words behind its checksum
record IsWhole (rest : List ℕ) (n : ℕ) : Type 0 where
  words : List ℕ
  others : List ℕ
  bytes : rest ≡ bytes_of (word_at rest 0 ∷ word_at rest 2 ∷ word_at rest 4 ∷ words) ++ others
  count : length words ≡ n
  there : words_of (take (2 * n) (drop 6 rest)) ≡ words
  summed : words_of (take (6 + 2 * n) rest) ≡ word_at rest 0 ∷ word_at rest 2 ∷ word_at rest 4 ∷ words

whole : (rest : List ℕ) (n : ℕ) → 6 + 2 * n ≤ length rest → AreBytes rest → IsWhole rest n
whole [] n long all = absurd (omega (arith, long))
whole (a ∷ []) n long all = absurd (omega (arith, long))
whole (a ∷ b ∷ []) n long all = absurd (omega (arith, long))
whole (a ∷ b ∷ c ∷ []) n long all = absurd (omega (arith, long))
whole (a ∷ b ∷ c ∷ d ∷ []) n long all = absurd (omega (arith, long))
whole (a ∷ b ∷ c ∷ d ∷ e ∷ []) n long all = absurd (omega (arith, long))
whole (a ∷ b ∷ c ∷ d ∷ e ∷ f ∷ tail) n long all =
    let piece = take (2 * n) tail in
    let low = all.1.1.1.1.1.1 in
    let size : length piece ≡ 2 * n = length-take-le (2 * n) tail (omega (arith, long)) in
    let back = bytes-back n piece size (bytes-take (2 * n) tail low) in
    let ws = words_of piece in
    let front : a ∷ b ∷ c ∷ d ∷ e ∷ f ∷ piece ≡ bytes_of ((a + 2 ^ 8 * b) ∷ (c + 2 ^ 8 * d) ∷ (e + 2 ^ 8 * f) ∷ ws) =
    word-bytes a b (c ∷ d ∷ e ∷ f ∷ piece) all.0
    ∙ ap (λ (xs : List ℕ). ((a + 2 ^ 8 * b) % 2 ^ 8) ∷ ((a + 2 ^ 8 * b) / 2 ^ 8) ∷ xs)
    (word-bytes c d (e ∷ f ∷ piece) all.1.1.0
    ∙ ap (λ (xs : List ℕ). ((c + 2 ^ 8 * d) % 2 ^ 8) ∷ ((c + 2 ^ 8 * d) / 2 ^ 8) ∷ xs)
    (word-bytes e f piece all.1.1.1.1.0
    ∙ ap (λ (xs : List ℕ). ((e + 2 ^ 8 * f) % 2 ^ 8) ∷ ((e + 2 ^ 8 * f) / 2 ^ 8) ∷ xs) (sym back.0))) in
    record {
      words = ws;
      others = drop (2 * n) tail;
      bytes =
          ap (λ (xs : List ℕ). a ∷ b ∷ c ∷ d ∷ e ∷ f ∷ xs) (sym (take-append-drop (2 * n) tail))
          ∙ ap (λ (xs : List ℕ). xs ++ drop (2 * n) tail) front;
      count = back.1;
      there = refl;
      summed = ap words_of (take-append-add (a ∷ b ∷ c ∷ d ∷ e ∷ f ∷ []) tail (2 * n));
    }

-- ---- a block and its fault

pub block-cut : (place : ℕ) (rest : List ℕ) (words : ℕ) → length rest < 6 + 2 * words → block_fault place rest words ≡ Some (Truncated (place + length rest))
unfolding block_fault
block-cut place rest words short = grind (arith, nat_tests)

pub block-wrong : (place : ℕ) (rest : List ℕ) (words : ℕ) → 6 + 2 * words ≤ length rest
    → sum (words_of (take (6 + 2 * words) rest)) % 2 ^ 16 ≢ 0 → block_fault place rest words ≡ Some (BadSum place)
unfolding block_fault
block-wrong place rest words long wrong = grind (arith, nat_tests)

pub past-is : (size origin addresses : ℕ) → size < origin + addresses → past_fault size origin addresses ≡ Some (PastMemory origin)
past-is size origin addresses past = grind (arith, nat_tests)

past-not : (size origin addresses : ℕ) → origin + addresses ≤ size → past_fault size origin addresses ≡ None
past-not size origin addresses within = grind (arith, nat_tests)

pub stores-are : (size place : ℕ) (rest : List ℕ) (words addresses : ℕ)
    → stores_fault size place rest words addresses ≡ first_fault (block_fault place rest words) (past_fault size (word_at rest 2) addresses)
unfolding stores_fault
stores-are size place rest words addresses = refl

pub block-words : (size place : ℕ) (rest : List ℕ) (n : ℕ)
    → block size place rest (Words n) ≡ unless_faulty (stores_fault size place rest n n) (Passes (stores_from (word_at rest 2) (words_of (take (2 * n) (drop 6 rest)))) (6 + 2 * n))
unfolding block
block-words size place rest n = refl

pub block-one-word : (size place : ℕ) (rest : List ℕ) (n : ℕ)
    → block size place rest (Repeated n) ≡ unless_faulty (stores_fault size place rest 1 n) (Passes (stores_from (word_at rest 2) (replicate n (word_at rest 6))) 8)
unfolding block
block-one-word size place rest n = refl

pub block-start : (size place : ℕ) (rest : List ℕ)
    → block size place rest Start ≡ unless_faulty (block_fault place rest 0) (Ends (start_at (word_at rest 2)))
unfolding block
block-start size place rest = refl

pub block-passed : (size place : ℕ) (rest : List ℕ) → block size place rest Ignored ≡ ignored_block place rest (position (λ b. b == 0xff) (drop 2 rest))
unfolding block
block-passed size place rest = refl

first-unless : (one other : Option LoadFault) (says : Front) → unless_faulty (first_fault one other) says ≡ unless_faulty one (unless_faulty other says)
first-unless None other says = refl
first-unless (Some fault) other says = refl

-- ---- what bytes begin with has its form

-- what stands at the front of bytes, by what is said of it
abbrev IsFrontOf : ℕ → ℕ → List ℕ → Front → Type 0
IsFrontOf size place rest (Passes stores n) = (piece : List ℕ) × (more : List ℕ) × (rest ≡ piece ++ more) × (length piece ≡ n) × IsPiece size piece stores
IsFrontOf size place rest (Ends start) = IsTape size rest (record { stores = []; start = start })
IsFrontOf size place rest (Faulty fault) = IsFaulty size place rest fault

-- a block with that count, whose bytes begin with these two
module _ (size place a b : ℕ) (tail : List ℕ) (all : AreBytes (a ∷ b ∷ tail)) (begin : 0 < (a + 2 ^ 8 * b) % 2 ^ 8) where
  abbrev rest : List ℕ
  rest = a ∷ b ∷ tail

  abbrev count : ℕ
  count = a + 2 ^ 8 * b

  module _ (words addresses : ℕ) (counts : CountSays count words addresses) where
    cut : length rest < 6 + 2 * words → IsFaulty size place rest (Truncated (place + length rest))
    cut short =
        let long : place + 2 + length tail ≡ place + length rest = omega arith in
        subst (λ (x : List ℕ × ℕ). IsFaulty size place x.0 (Truncated x.1)) (λ i. (sym (word-bytes a b tail all.0) i, long i))
        (block_ends size place count words addresses tail begin counts (omega (arith, short)))

    -- as many words as the count says
    counts-of : (is : IsWhole rest words) → CountSays count (length is.words) addresses
    counts-of is = subst (λ (n : ℕ). CountSays count n addresses) (sym is.count) counts

    summed-front : (says : Front)
        → ((is : IsWhole rest words) → AreBlock (count ∷ word_at rest 2 ∷ word_at rest 4 ∷ is.words) → IsFrontOf size place rest says)
        → IsFrontOf size place rest (unless_faulty (block_fault place rest words) says)
    summed-front says good = elim (cases_lt (length rest) (6 + 2 * words)) [
      | inl short ↦ subst (λ (f : Option LoadFault). IsFrontOf size place rest (unless_faulty f says)) (sym (block-cut place rest words short)) (cut short)
      | inr long ↦
          let is = whole rest words long all in
          let total = ap (λ (xs : List ℕ). sum xs % 2 ^ 16) is.summed in
          elim (cases_eq (sum (count ∷ word_at rest 2 ∷ word_at rest 4 ∷ is.words) % 2 ^ 16) 0) [
            | inl none ↦
                subst (λ (f : Option LoadFault). IsFrontOf size place rest (unless_faulty f says)) (sym (block_fine place rest words long (total ∙ none)))
                (good is (record { begin = begin; add_up = none }))
            | inr wrong ↦
                subst (λ (f : Option LoadFault). IsFrontOf size place rest (unless_faulty f says)) (sym (block-wrong place rest words long (λ zero_is. wrong (sym total ∙ zero_is))))
                (subst (λ (xs : List ℕ). IsFaulty size place xs (BadSum place)) (sym is.bytes)
                (adds_up_wrong size place count (word_at rest 2) (word_at rest 4) addresses is.words is.others begin (counts-of is) wrong))
          ]
    ]

    stored-front : (says : Front) → 0 < addresses
        → ((is : IsWhole rest words) → AreBlock (count ∷ word_at rest 2 ∷ word_at rest 4 ∷ is.words) → word_at rest 2 + addresses ≤ size → IsFrontOf size place rest says)
        → IsFrontOf size place rest (unless_faulty (stores_fault size place rest words addresses) says)
    stored-front says some good =
        let origin = word_at rest 2 in
        let past = past_fault size origin addresses in
        subst (λ (f : Front). IsFrontOf size place rest f)
        (sym (ap (λ (f : Option LoadFault). unless_faulty f says) (stores-are size place rest words addresses) ∙ first-unless (block_fault place rest words) past says))
        (summed-front (unless_faulty past says) (λ is block. elim (cases_lt size (origin + addresses)) [
          | inl over ↦
              subst (λ (f : Option LoadFault). IsFrontOf size place rest (unless_faulty f says)) (sym (past-is size origin addresses over))
              (subst (λ (xs : List ℕ). IsFaulty size place xs (PastMemory origin)) (sym is.bytes)
              (is_past size place count origin (word_at rest 4) addresses is.words is.others (counts-of is) block some over))
          | inr within ↦
              subst (λ (f : Option LoadFault). IsFrontOf size place rest (unless_faulty f says)) (sym (past-not size origin addresses within))
              (good is block within)
        ]))

  words-front : (n : ℕ) → 0 < n → n ≤ 16 → count ≡ 2 ^ 16 - n → IsFrontOf size place rest (block size place rest (Words n))
  words-front n some few is_count =
      let counts : CountSays count n n = subst (λ (x : ℕ). CountSays x n n) (sym is_count) (says_words n some few) in
      subst (λ (f : Front). IsFrontOf size place rest f) (sym (block-words size place rest n))
      (stored-front n n counts (Passes (stores_from (word_at rest 2) (words_of (take (2 * n) (drop 6 rest)))) (6 + 2 * n)) some (λ is block within.
      let origin = word_at rest 2 in
      let check = word_at rest 4 in
      let same : count ≡ 2 ^ 16 - length is.words = is_count ∙ ap (λ (x : ℕ). 2 ^ 16 - x) (sym is.count) in
      let long = is.count in
      let bytes = length-bytes_of ((2 ^ 16 - length is.words) ∷ origin ∷ check ∷ is.words) in
      subst (λ (ws : List ℕ). IsFrontOf size place rest (Passes (stores_from origin ws) (6 + 2 * n))) (sym is.there) (
        bytes_of ((2 ^ 16 - length is.words) ∷ origin ∷ check ∷ is.words),
        is.others,
        is.bytes ∙ ap (λ (x : ℕ). bytes_of (x ∷ origin ∷ check ∷ is.words) ++ is.others) same,
        bytes ∙ omega (arith, long),
        words_block size origin check is.words (omega (arith, long, some)) (omega (arith, long, few)) (omega (arith, long, within))
            (subst (λ (x : ℕ). AreBlock (x ∷ origin ∷ check ∷ is.words)) same block),
      )))

  one-word : (ws : List ℕ) → length ws ≡ 1 → (w : ℕ) × (ws ≡ w ∷ [])
  one-word [] long = absurd (omega (arith, long))
  one-word (w ∷ []) long = (w, refl)
  one-word (v ∷ w ∷ ws) long = absurd (omega (arith, long))

  repeated-front : (n : ℕ) → 16 < n → n ≤ 2 ^ 15 → count ≡ 2 ^ 16 - n → IsFrontOf size place rest (block size place rest (Repeated n))
  repeated-front n many most is_count =
      let counts : CountSays count 1 n = subst (λ (x : ℕ). CountSays x 1 n) (sym is_count) (says_one_word n many most) in
      subst (λ (f : Front). IsFrontOf size place rest f) (sym (block-one-word size place rest n))
      (stored-front 1 n counts (Passes (stores_from (word_at rest 2) (replicate n (word_at rest 6))) 8) (omega (arith, many)) (λ is block within.
      let origin = word_at rest 2 in
      let check = word_at rest 4 in
      let only = one-word is.words is.count in
      let w = only.0 in
      let bytes : rest ≡ bytes_of ((2 ^ 16 - n) ∷ origin ∷ check ∷ w ∷ []) ++ is.others =
      is.bytes ∙ (λ i. bytes_of (is_count i ∷ origin ∷ check ∷ only.1 i) ++ is.others) in
      let fourth : word_at rest 6 ≡ w = ap (λ (xs : List ℕ). word_at xs 6) bytes ∙ word_back w in
      subst (λ (x : ℕ). IsFrontOf size place rest (Passes (stores_from origin (replicate n x)) 8)) (sym fourth) (
        bytes_of ((2 ^ 16 - n) ∷ origin ∷ check ∷ w ∷ []),
        is.others,
        bytes,
        refl,
        repeated_block size origin check w n many most within
            (subst (λ (xs : List ℕ). AreBlock xs) (λ i. is_count i ∷ origin ∷ check ∷ only.1 i) block),
      )))

  no-word : (ws : List ℕ) → length ws ≡ 0 → ws ≡ []
  no-word [] long = refl
  no-word (w ∷ ws) long = absurd (omega (arith, long))

  start-front : count ≡ 1 → IsFrontOf size place rest (block size place rest Start)
  start-front is_count =
      let counts : CountSays count 0 0 = subst (λ (x : ℕ). CountSays x 0 0) (sym is_count) says_start in
      subst (λ (f : Front). IsFrontOf size place rest f) (sym (block-start size place rest))
      (summed-front 0 0 counts (Ends (start_at (word_at rest 2))) (λ is block.
      let origin = word_at rest 2 in
      let check = word_at rest 4 in
      let none = no-word is.words is.count in
      subst (λ (xs : List ℕ). IsTape size xs (record { stores = []; start = start_at origin }))
      (sym (is.bytes ∙ (λ i. bytes_of (is_count i ∷ origin ∷ check ∷ none i) ++ is.others)))
      (starts size origin check is.others (subst (λ (xs : List ℕ). AreBlock xs) (λ i. is_count i ∷ origin ∷ check ∷ none i) block))))

  is-ones : ℕ → Bool
  is-ones x = x == 0xff

  not-ones : (x : ℕ) → (x == 0xff) ≡ false → x ≢ 0xff
  not-ones x is same = absurd (cc (ap (λ (y : ℕ). y == 0xff) same))

  passed-front : 1 < count → count < 2 ^ 15 → IsFrontOf size place rest (block size place rest Ignored)
  passed-front some low =
      let ones = λ (x : ℕ). x == 0xff in
      let first = position_or_len ones tail in
      subst (λ (f : Front). IsFrontOf size place rest f) (sym (block-passed size place rest)) (elim (cases_lt first (length tail)) [
        | inl within ↦
            let found : position ones tail ≡ Some first = ap (λ (x : Bool). cond x (Some first) None) (lt-ltb first (length tail) within) in
            let others = take first tail in
            let more = drop (first + 1) tail in
            let ones_there : get_or tail first 0 ≡ 0xff = eqb-true (get_or tail first 0) 0xff (passes_at_first ones tail 0 within) in
            let parts : tail ≡ others ++ 0xff ∷ more = split_at_first ones tail 0 within ∙ ap (λ (x : ℕ). others ++ x ∷ more) ones_there in
            let long : length others ≡ first = length-take-le first tail (omega (arith, within)) in
            let piece = bytes_of (count ∷ []) ++ (others ++ 0xff ∷ []) in
            subst (λ (o : Option ℕ). IsFrontOf size place rest (ignored_block place rest o)) (sym found) (
              piece,
              more,
              word-bytes a b tail all.0
                  ∙ ap (λ (xs : List ℕ). (count % 2 ^ 8) ∷ (count / 2 ^ 8) ∷ xs) (parts ∙ sym (append_assoc others (0xff ∷ []) more)),
              omega (arith, length-append others (0xff ∷ []), long),
              passed_block size count others some low begin (λ k d below.
                  let under : k < first = omega (arith, below, long) in
                  subst (λ (x : ℕ). x ≢ 0xff) (sym (get_or-take first tail k d under)) (not-ones (get_or tail k d) (fails_before_first ones tail k d under))),
            )
        | inr none ↦
            let missing : position ones tail ≡ None = ap (λ (x : Bool). cond x (Some first) None) (le-ltb first (length tail) none) in
            let long : place + 2 + length tail ≡ place + length rest = omega arith in
            subst (λ (o : Option ℕ). IsFrontOf size place rest (ignored_block place rest o)) (sym missing)
            (subst (λ (x : List ℕ × ℕ). IsFaulty size place x.0 (Truncated x.1)) (λ i. (sym (word-bytes a b tail all.0) i, long i))
            (passed_ends size place count tail some low begin (λ k d below. not-ones (get_or tail k d) (fails_before_first ones tail k d (omega (arith, below, none))))))
      ])

  by-kind : IsFrontOf size place rest (block size place rest (kind_of count))
  by-kind =
      let byte = all.0 in
      let high_byte = all.1.0 in
      let word : count < 2 ^ 16 = omega (arith, byte, high_byte) in
      let some : 0 < count = omega (arith, begin) in
      elim (cases_lt count (2 ^ 16 - 16)) [
        | inr few ↦
            let n = 2 ^ 16 - count in
            subst (λ (k : Kind). IsFrontOf size place rest (block size place rest k)) (sym (words_kind count n (omega (arith, word)) (omega (arith, few)) (omega (arith, word))))
            (words-front n (omega (arith, word)) (omega (arith, few)) (omega (arith, word)))
        | inl below ↦ elim (cases_lt count (2 ^ 15)) [
          | inr many ↦
              let n = 2 ^ 16 - count in
              subst (λ (k : Kind). IsFrontOf size place rest (block size place rest k)) (sym (repeated_kind count n (omega (arith, below)) (omega (arith, many)) (omega (arith, word))))
              (repeated-front n (omega (arith, below)) (omega (arith, many)) (omega (arith, word)))
          | inl low ↦ elim (cases_eq count 1) [
            | inl one ↦ subst (λ (k : Kind). IsFrontOf size place rest (block size place rest k)) (sym (ap kind_of one)) (start-front one)
            | inr other ↦
                let over : 1 < count = omega (arith, some, other) in
                subst (λ (k : Kind). IsFrontOf size place rest (block size place rest k)) (sym (ignored_kind count over low)) (passed-front over low)
          ]
        ]
      ]

front-cut : (size place a : ℕ) → front size place (suc a ∷ []) ≡ Faulty (Truncated (place + 1))
unfolding front
front-cut size place a = grind (arith, nat_tests)

front-is : (size place : ℕ) (rest : List ℕ) → AreBytes rest → IsFrontOf size place rest (front size place rest)
front-is size place [] all = subst (λ (f : Front). IsFrontOf size place [] f) (sym (front_none size place [] refl)) (ends size)
front-is size place (zero ∷ more) all =
    subst (λ (f : Front). IsFrontOf size place (zero ∷ more) f) (sym (front_zero size place more)) (0 ∷ [], more, refl, refl, zero_byte size)
front-is size place (suc a ∷ []) all =
    subst (λ (f : Front). IsFrontOf size place (suc a ∷ []) f) (sym (front-cut size place a)) (count_ends size place (suc a) (omega arith))
front-is size place (suc a ∷ b ∷ tail) all =
    let low = all.0 in
    let begin : 0 < (suc a + 2 ^ 8 * b) % 2 ^ 8 = omega (arith, low) in
    subst (λ (f : Front). IsFrontOf size place (suc a ∷ b ∷ tail) f) (sym (front_block size place (suc a ∷ b ∷ tail) (omega arith) (omega arith)))
    (by-kind size place (suc a) b tail all begin)

-- ---- a whole tape

abbrev IsAnswer : ℕ → ℕ → List ℕ → Result Tape LoadFault → Type 0
IsAnswer size place rest (Ok says) = IsTape size rest says
IsAnswer size place rest (Err fault) = IsFaulty size place rest fault

behind : (size place : ℕ) (piece more : List ℕ) (stores : List Store) → IsPiece size piece stores → (says : Result Tape LoadFault)
    → IsAnswer size (place + length piece) more says → IsAnswer size place (piece ++ more) (with_stores stores says)
behind size place piece more stores is (Ok says) answer = goes_on size piece more stores says is answer
behind size place piece more stores is (Err fault) answer = fails_behind size place piece more stores fault is answer

-- what the bytes are read as has their form, where that holds of all that are fewer
step : (size place : ℕ) (bytes : List ℕ) → AreBytes bytes
    → ((n : ℕ) (more : List ℕ) → length more < length bytes → AreBytes more → IsAnswer size (place + n) more (tape_from size (place + n) more))
    → IsAnswer size place bytes (tape_from size place bytes)
step size place bytes all later = by-front (front size place bytes) refl (front-is size place bytes all)
  where
    by-front : (f : Front) → f ≡ front size place bytes → IsFrontOf size place bytes f → IsAnswer size place bytes (tape_from size place bytes)
    by-front (Ends start) is form = subst (λ (x : Result Tape LoadFault). IsAnswer size place bytes x) (sym (tape_says size place bytes (Ends start) is)) form
    by-front (Faulty fault) is form = subst (λ (x : Result Tape LoadFault). IsAnswer size place bytes x) (sym (tape_says size place bytes (Faulty fault) is)) form
    by-front (Passes stores n) is form =
        let piece = form.0 in
        let more = form.1 in
        let parts : bytes ≡ piece ++ more = form.2 in
        let long : length piece ≡ n = form.3 in
        let left : drop n bytes ≡ more = ap (λ (xs : List ℕ). drop n xs) parts ∙ drop_at piece more n long in
        let some : 0 < n = forward_passes size place n bytes stores (sym is) in
        let shorter : length more < length bytes = omega (arith, some, long, ap (λ (xs : List ℕ). length xs) parts, length-append piece more) in
        let says = tape_from size (place + n) more in
        let answer = later n more shorter (subst AreBytes left (bytes-drop n bytes all)) in
        subst (λ (x : Result Tape LoadFault). IsAnswer size place bytes x) (sym (tape_behind size place (place + n) n bytes more stores is (sym left) refl))
        (subst (λ (xs : List ℕ). IsAnswer size place xs (with_stores stores says)) (sym parts)
        (behind size place piece more stores form.4 says
        (subst (λ (k : ℕ). IsAnswer size (place + k) more says) (sym long) answer)))

answers : (left size place : ℕ) (bytes : List ℕ) → length bytes ≤ left → AreBytes bytes → IsAnswer size place bytes (tape_from size place bytes)
answers zero size place bytes enough all = step size place bytes all (λ n more shorter bytes_more. absurd (omega (arith, enough, shorter)))
answers (suc left) size place bytes enough all =
    step size place bytes all (λ n more shorter bytes_more. answers left size (place + n) more (omega (arith, enough, shorter)) bytes_more)

pub tapes-formed : (size : ℕ) (bytes : List ℕ) (says : Tape) → All (λ b. b < 2 ^ 8) bytes → tape_from size 0 bytes ≡ Ok says → IsTape size bytes says
tapes-formed size bytes says all is = subst (λ (x : Result Tape LoadFault). IsAnswer size 0 bytes x) is (answers (length bytes) size 0 bytes (omega arith) (all-bytes bytes all))

pub faults-formed : (size : ℕ) (bytes : List ℕ) (fault : LoadFault) → All (λ b. b < 2 ^ 8) bytes → tape_from size 0 bytes ≡ Err fault → IsFaulty size 0 bytes fault
faults-formed size bytes fault all is = subst (λ (x : Result Tape LoadFault). IsAnswer size 0 bytes x) is (answers (length bytes) size 0 bytes (omega arith) (all-bytes bytes all))
