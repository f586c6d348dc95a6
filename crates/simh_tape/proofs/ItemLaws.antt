-- Items are read the same in both directions.
use Rattle.std.proofs.Common.{◌≡◌, ◌≢◌, ℕ, ◌+◌, ◌-◌, ◌/◌, ◌%◌, ◌^◌, ◌==◌, ◌<◌, ◌≤◌, ◌&&◌, Bool, true, false, nat_lt, nat_le, min, List, length, take, drop, refl, sym, ap, ◌∙◌, arith, if◌then◌else◌}
use Rattle.std.proofs.lemmas.Bool.Decides.{nat_tests}
use Rattle.std.specs.Int.{w32, from_le_bytes}
use Rattle.simh_tape.specs.Image.{WordAt, Met, word_at, is_word, data_length, is_flagged, is_length_word, padded, block_size}
use Rattle.simh_tape.specs.Image.{block_after, item_after, next, block_before, item_before, ending_at, previous}
use Rattle.simh_tape.specs.Image.WordAt.{AtEnd, CutShort, WordIs}
use Rattle.simh_tape.specs.Image.Met.{BlockTo, MarkTo, MediumEnds, AtLoadPoint, BadAt}
use Rattle.simh_tape.specs.Laws.{ItemsReadTheSame}
use Rattle.file_traits.proofs.Fronts.{both-and}

-- tests

pub if_true : {A : Type 0} (test : Bool) (x y : A) → test ≡ true → (if test then x else y) ≡ x
if_true true x y is = refl
if_true false x y is = cc

pub if_false : {A : Type 0} (test : Bool) (x y : A) → test ≡ false → (if test then x else y) ≡ y
if_false true x y is = cc
if_false false x y is = refl

pub first_true : (a b : Bool) → (a && b) ≡ true → a ≡ true
first_true true b both = refl
first_true false b both = both

pub second_true : (a b : Bool) → (a && b) ≡ true → b ≡ true
second_true true b both = both
second_true false b both = cc

pub same_number : (n m : ℕ) → n ≡ m → (n == m) ≡ true
same_number n m is = grind (arith, nat_tests)

pub other_number : (n m : ℕ) → n ≢ m → (n == m) ≡ false
other_number n m is = grind (arith, nat_tests)

-- a choice whose first side is not what it comes to
skip_if : {A : Type 0} (test : Bool) (x y z : A) → (x ≡ z → ⊥) → (if test then x else y) ≡ z → (test ≡ false) × (y ≡ z)
skip_if true x y z never is = absurd (never is)
skip_if false x y z never is = (refl, is)

-- words

pub word_is : (there : WordAt) (word : ℕ) → is_word there word ≡ true → there ≡ WordIs word
word_is AtEnd word is = cc
word_is CutShort word is = cc
word_is (WordIs other) word is = ap WordIs (let same : other ≡ word = grind (arith, nat_tests) in same)

is_the_word : (there : WordAt) (word : ℕ) → there ≡ WordIs word → is_word there word ≡ true
is_the_word there word is = ap (λ (w : WordAt). is_word w word) is ∙ same_number word word refl

behind_word : (bytes : List ℕ) (place : ℕ) → nat_lt (length bytes) (place + 4) ≡ false → place + 4 ≤ length bytes
behind_word bytes place is = grind (arith, nat_tests)

-- a word that stands somewhere has 4 bytes there
pub word_within : (bytes : List ℕ) (place word : ℕ) → word_at bytes place ≡ WordIs word → place + 4 ≤ length bytes
word_within bytes place word is =
    let there : WordAt = WordIs (from_le_bytes w32 (take 4 (drop place bytes))) in
    let longer = skip_if (nat_le (length bytes) place) AtEnd (if nat_lt (length bytes) (place + 4) then CutShort else there)
    (WordIs word) (λ e. cc) is in
    behind_word bytes place (skip_if (nat_lt (length bytes) (place + 4)) CutShort there (WordIs word) (λ e. cc) longer.1).0

some_data : (word : ℕ) → is_length_word word ≡ true → 0 < word % 2 ^ 24
some_data word is = let first = first_true (nat_lt 0 (word % 2 ^ 24)) _ is in grind (arith, nat_tests)

no_others : (word : ℕ) → is_length_word word ≡ true → word / 2 ^ 24 % 2 ^ 7 ≡ 0
no_others word is = let second = second_true (nat_lt 0 (word % 2 ^ 24)) _ is in grind (arith, nat_tests)

-- blocks

-- a block with that length word stands between two places
pub record Between (bytes : List ℕ) (from to word : ℕ) : Type 0 where
  pub leading : word_at bytes from ≡ WordIs word
  pub trailing : word_at bytes (to - 4) ≡ WordIs word
  pub counts : is_length_word word ≡ true
  pub apart : to ≡ from + block_size (data_length word)

pub next_block : (bytes : List ℕ) (from to word : ℕ) → Between bytes from to word →
    next bytes from ≡ BlockTo (data_length word) (is_flagged word) to
next_block bytes from to word there =
    let some = some_data word there.counts in
    let none = no_others word there.counts in
    let no_end : word ≢ 2 ^ 32 - 1 = omega arith in
    let no_mark : word ≢ 0 = omega arith in
    let block : Met = BlockTo (data_length word) (is_flagged word) (from + block_size (data_length word)) in
    let place : to - 4 ≡ from + 4 + padded (data_length word) = omega (arith, there.apart) in
    let behind : word_at bytes (from + 4 + padded (data_length word)) ≡ WordIs word =
    ap (word_at bytes) (sym place) ∙ there.trailing in
    ap (item_after bytes from) there.leading
    ∙ if_false (word == 2 ^ 32 - 1) MediumEnds _ (other_number word (2 ^ 32 - 1) no_end)
    ∙ if_false (word == 0) (MarkTo (from + 4)) (block_after bytes from word) (other_number word 0 no_mark)
    ∙ if_true _ block (BadAt from) (both-and _ _ there.counts (is_the_word _ word behind))
    ∙ ap (BlockTo (data_length word) (is_flagged word)) (sym there.apart)

ending_there : (bytes : List ℕ) (to : ℕ) (there : WordAt) → 4 ≤ to → to ≤ length bytes → word_at bytes (to - 4) ≡ there →
    previous bytes to ≡ item_before bytes to there
ending_there bytes to there four within is =
    let here : min to (length bytes) ≡ to = omega arith in
    let some : to ≢ 0 = omega arith in
    let long : nat_lt to 4 ≡ false = grind (arith, nat_tests) in
    ap (ending_at bytes) here
    ∙ if_false (to == 0) AtLoadPoint _ (other_number to 0 some)
    ∙ if_false (nat_lt to 4) (BadAt 0) _ long
    ∙ ap (item_before bytes to) is

pub previous_block : (bytes : List ℕ) (from to word : ℕ) → to ≤ length bytes → Between bytes from to word →
    previous bytes to ≡ BlockTo (data_length word) (is_flagged word) from
previous_block bytes from to word within there =
    let some = some_data word there.counts in
    let no_mark : word ≢ 0 = omega arith in
    let size = block_size (data_length word) in
    let start : to - size ≡ from = omega (arith, there.apart) in
    let before : word_at bytes (to - size) ≡ WordIs word = ap (word_at bytes) start ∙ there.leading in
    let room : nat_le size to ≡ true = let fits : size ≤ to = omega (arith, there.apart) in grind (arith, nat_tests) in
    ending_there bytes to (WordIs word) (omega (arith, there.apart)) within there.trailing
    ∙ if_false (word == 0) (MarkTo (to - 4)) (block_before bytes to word) (other_number word 0 no_mark)
    ∙ if_true _ (BlockTo (data_length word) (is_flagged word) (to - size)) (BadAt (to - 4))
    (both-and _ _ (both-and _ _ there.counts room) (is_the_word _ word before))
    ∙ ap (BlockTo (data_length word) (is_flagged word)) start

-- what is between two places, by the block that is met

abbrev pub Found : List ℕ → ℕ → ℕ → ℕ → Bool → Type 0
Found bytes from to count flagged =
    (word : ℕ) × Between bytes from to word × (data_length word ≡ count) × (is_flagged word ≡ flagged)

block_only : (test : Bool) (count other : ℕ) (flagged flag : Bool) (place there bad : ℕ) →
    (if test then BlockTo count flagged place else BadAt bad) ≡ BlockTo other flag there →
    (test ≡ true) × (count ≡ other) × (flagged ≡ flag) × (place ≡ there)
block_only true count other flagged flag place there bad is = (refl, cc, cc, cc)
block_only false count other flagged flag place there bad is = cc

found_after : (bytes : List ℕ) (from to count : ℕ) (flagged : Bool) (there : WordAt) → word_at bytes from ≡ there →
    item_after bytes from there ≡ BlockTo count flagged to → Found bytes from to count flagged
found_after bytes from to count flagged AtEnd stands is = cc
found_after bytes from to count flagged CutShort stands is = cc
found_after bytes from to count flagged (WordIs word) stands is =
    let no_end = skip_if (word == 2 ^ 32 - 1) MediumEnds (if word == 0 then MarkTo (from + 4) else block_after bytes from word)
    (BlockTo count flagged to) (λ e. cc) is in
    let no_mark = skip_if (word == 0) (MarkTo (from + 4)) (block_after bytes from word) (BlockTo count flagged to)
    (λ e. cc) no_end.1 in
    let behind = is_word (word_at bytes (from + 4 + padded (data_length word))) word in
    let block = block_only (is_length_word word && behind) (data_length word) count (is_flagged word) flagged
    (from + block_size (data_length word)) to from no_mark.1 in
    let trailing = word_is (word_at bytes (from + 4 + padded (data_length word))) word
    (second_true (is_length_word word) behind block.0) in
    let place : to - 4 ≡ from + 4 + padded (data_length word) = omega (arith, block.3) in (
      word,
      record {
        leading = stands;
        trailing = ap (word_at bytes) place ∙ trailing;
        counts = first_true (is_length_word word) behind block.0;
        apart = sym block.3;
      },
      block.1,
      block.2,
    )

pub found_next : (bytes : List ℕ) (from to count : ℕ) (flagged : Bool) → next bytes from ≡ BlockTo count flagged to →
    Found bytes from to count flagged
found_next bytes from to count flagged is = found_after bytes from to count flagged (word_at bytes from) refl is

-- the last word before a place that is no load point and has one
before_end : (bytes : List ℕ) (to : ℕ) (met : Met) → to ≤ length bytes → (AtLoadPoint ≡ met → ⊥) → (BadAt 0 ≡ met → ⊥) →
    previous bytes to ≡ met → (4 ≤ to) × (item_before bytes to (word_at bytes (to - 4)) ≡ met)
before_end bytes to met within no_start no_bad is =
    let here : to ≡ min to (length bytes) = omega arith in
    let there : ending_at bytes to ≡ met = ap (ending_at bytes) here ∙ is in
    let some = skip_if (to == 0) AtLoadPoint
    (if nat_lt to 4 then BadAt 0 else item_before bytes to (word_at bytes (to - 4))) met no_start there in
    let long = skip_if (nat_lt to 4) (BadAt 0) (item_before bytes to (word_at bytes (to - 4))) met no_bad some.1 in
    let short = long.0 in (let four : 4 ≤ to = grind (arith, nat_tests) in four, long.1)

found_before : (bytes : List ℕ) (from to count : ℕ) (flagged : Bool) (there : WordAt) → 4 ≤ to →
    word_at bytes (to - 4) ≡ there → item_before bytes to there ≡ BlockTo count flagged from →
    Found bytes from to count flagged
found_before bytes from to count flagged AtEnd four stands is = cc
found_before bytes from to count flagged CutShort four stands is = cc
found_before bytes from to count flagged (WordIs word) four stands is =
    let no_mark = skip_if (word == 0) (MarkTo (to - 4)) (block_before bytes to word) (BlockTo count flagged from)
    (λ e. cc) is in
    let size = block_size (data_length word) in
    let before = is_word (word_at bytes (to - size)) word in
    let whole = is_length_word word && nat_le size to in
    let block = block_only (whole && before) (data_length word) count (is_flagged word) flagged (to - size) from (to - 4)
    no_mark.1 in
    let front = first_true whole before block.0 in
    let leading = word_is (word_at bytes (to - size)) word (second_true whole before block.0) in
    let fits = second_true (is_length_word word) (nat_le size to) front in
    let room : size ≤ to = grind (arith, nat_tests) in (
      word,
      record {
        leading = ap (word_at bytes) (sym block.3) ∙ leading;
        trailing = stands;
        counts = first_true (is_length_word word) (nat_le size to) front;
        apart = omega (arith, block.3);
      },
      block.1,
      block.2,
    )

found_previous : (bytes : List ℕ) (from to count : ℕ) (flagged : Bool) → to ≤ length bytes →
    previous bytes to ≡ BlockTo count flagged from → Found bytes from to count flagged
found_previous bytes from to count flagged within is =
    let last = before_end bytes to (BlockTo count flagged from) within (λ e. cc) (λ e. cc) is in
    found_before bytes from to count flagged (word_at bytes (to - 4)) last.0 refl last.1

same_block : (count other : ℕ) (flagged flag : Bool) (place : ℕ) (met : Met) → met ≡ BlockTo count flagged place →
    count ≡ other → flagged ≡ flag → met ≡ BlockTo other flag place
same_block count other flagged flag place met is same too = cc

-- marks

block_no_mark : (test : Bool) (count : ℕ) (flagged : Bool) (place bad there : ℕ) →
    (if test then BlockTo count flagged place else BadAt bad) ≡ MarkTo there → ⊥
block_no_mark true count flagged place bad there is = cc
block_no_mark false count flagged place bad there is = cc

chosen_mark : (test : Bool) (place there : ℕ) (other : Met) → (other ≡ MarkTo there → ⊥) →
    (if test then MarkTo place else other) ≡ MarkTo there → (test ≡ true) × (place ≡ there)
chosen_mark true place there other never is = (refl, cc)
chosen_mark false place there other never is = absurd (never is)

zero_word : (word : ℕ) → (word == 0) ≡ true → word ≡ 0
zero_word word is = grind (arith, nat_tests)

-- a mark stands at a place
mark_after : (bytes : List ℕ) (from to : ℕ) (there : WordAt) → item_after bytes from there ≡ MarkTo to →
    (there ≡ WordIs 0) × (to ≡ from + 4)
mark_after bytes from to AtEnd is = cc
mark_after bytes from to CutShort is = cc
mark_after bytes from to (WordIs word) is =
    let no_end = skip_if (word == 2 ^ 32 - 1) MediumEnds (if word == 0 then MarkTo (from + 4) else block_after bytes from word)
    (MarkTo to) (λ e. cc) is in
    let mark = chosen_mark (word == 0) (from + 4) to (block_after bytes from word)
    (block_no_mark _ (data_length word) (is_flagged word) (from + block_size (data_length word)) from to) no_end.1 in
    (ap WordIs (zero_word word mark.0), sym mark.1)

mark_before : (bytes : List ℕ) (from to : ℕ) (there : WordAt) → item_before bytes to there ≡ MarkTo from →
    (there ≡ WordIs 0) × (from ≡ to - 4)
mark_before bytes from to AtEnd is = cc
mark_before bytes from to CutShort is = cc
mark_before bytes from to (WordIs word) is =
    let mark = chosen_mark (word == 0) (to - 4) from (block_before bytes to word)
    (block_no_mark _ (data_length word) (is_flagged word) (to - block_size (data_length word)) (to - 4) from) is in
    (ap WordIs (zero_word word mark.0), sym mark.1)

pub mark_next_previous : (bytes : List ℕ) (from to : ℕ) → next bytes from ≡ MarkTo to → previous bytes to ≡ MarkTo from
mark_next_previous bytes from to is =
    let mark = mark_after bytes from to (word_at bytes from) is in
    let behind = word_within bytes from 0 mark.0 in
    let place : to - 4 ≡ from = omega (arith, mark.1) in
    ending_there bytes to (WordIs 0) (omega (arith, mark.1)) (omega (arith, mark.1, behind))
    (ap (word_at bytes) place ∙ mark.0)
    ∙ ap MarkTo place

mark_previous_next : (bytes : List ℕ) (from to : ℕ) → to ≤ length bytes → previous bytes to ≡ MarkTo from →
    next bytes from ≡ MarkTo to
mark_previous_next bytes from to within is =
    let last = before_end bytes to (MarkTo from) within (λ e. cc) (λ e. cc) is in
    let mark = mark_before bytes from to (word_at bytes (to - 4)) last.1 in
    let place : from + 4 ≡ to = omega (arith, mark.1, last.0) in
    ap (item_after bytes from) (ap (word_at bytes) mark.1 ∙ mark.0) ∙ ap MarkTo place

pub block_next_previous : (bytes : List ℕ) (from to count : ℕ) (flagged : Bool) →
    next bytes from ≡ BlockTo count flagged to → previous bytes to ≡ BlockTo count flagged from
block_next_previous bytes from to count flagged is =
    let found = found_next bytes from to count flagged is in
    let end = word_within bytes (to - 4) found.0 found.1.trailing in
    same_block _ _ _ _ from _ (previous_block bytes from to found.0 (omega (arith, end, found.1.apart)) found.1) found.2 found.3

block_previous_next : (bytes : List ℕ) (from to count : ℕ) (flagged : Bool) → to ≤ length bytes →
    previous bytes to ≡ BlockTo count flagged from → next bytes from ≡ BlockTo count flagged to
block_previous_next bytes from to count flagged within is =
    let found = found_previous bytes from to count flagged within is in
    same_block _ _ _ _ to _ (next_block bytes from to found.0 found.1) found.2 found.3

pub items_read_the_same : ItemsReadTheSame
items_read_the_same bytes from to within = (
  λ count flagged. (block_next_previous bytes from to count flagged, block_previous_next bytes from to count flagged within),
  (mark_next_previous bytes from to, mark_previous_next bytes from to within),
)
