-- Blocks that were written are read back.
use Rattle.std.proofs.Common.{◌≡◌, ℕ, ◌+◌, ◌-◌, ◌/◌, ◌%◌, ◌^◌, ◌==◌, ◌<◌, ◌≤◌, Bool, true, false, nat_lt, nat_le, List, [], ◌++◌, length, take, drop, replicate, refl, sym, subst, ap, ◌∙◌, arith, if◌then◌else◌}
use Rattle.std.proofs.Common.{length-append, length-take, append_assoc, append-nil}
use Rattle.std.proofs.lemmas.Bool.Decides.{nat_tests}
use Rattle.std.proofs.lemmas.List.{take_at, drop_at, length-replicate}
use Rattle.std.proofs.lemmas.Nat.{from_le_bytes-to_le_bytes_4}
use Rattle.std.specs.Int.{w32, from_le_bytes}
use Rattle.file_traits.specs.Lists.{resized}
use Rattle.file_traits.specs.OneList.{longest_list}
use Rattle.simh_tape.specs.Image.{WordAt, word_at, data_length, is_flagged, is_length_word, padded, block_size, next}
use Rattle.simh_tape.specs.Image.WordAt.{AtEnd, CutShort, WordIs}
use Rattle.simh_tape.specs.Image.Met.{BlockTo}
use Rattle.simh_tape.specs.Writing.{word_bytes, block_bytes}
use Rattle.simh_tape.specs.Laws.{HasBlock, BlocksAreReadBack}
use Rattle.simh_tape.proofs.ItemLaws.{Between, if_false, next_block, block_next_previous}
use Rattle.file_traits.proofs.Shown.{shown_all}
use Rattle.file_traits.proofs.Fronts.{both-and}

length-word : (word : ℕ) → length (word_bytes word) ≡ 4
length-word word = refl

-- a word that stands between other bytes
word_there : (before rest : List ℕ) (place word : ℕ) → length before ≡ place → word < 2 ^ 32 →
    word_at (before ++ (word_bytes word ++ rest)) place ≡ WordIs word
word_there before rest place word is fits =
    let bytes = before ++ (word_bytes word ++ rest) in
    let long : place + 4 ≤ length bytes =
    omega (arith, length-append before (word_bytes word ++ rest), length-append (word_bytes word) rest, length-word word) in
    let at : nat_le (length bytes) place ≡ false = grind (arith, nat_tests) in
    let whole : nat_lt (length bytes) (place + 4) ≡ false = grind (arith, nat_tests) in
    let behind : take 4 (drop place bytes) ≡ word_bytes word =
    ap (take 4) (drop_at before (word_bytes word ++ rest) place is) ∙ take_at (word_bytes word) rest 4 (length-word word) in
    let there : WordAt = WordIs (from_le_bytes w32 (take 4 (drop place bytes))) in
    if_false (nat_le (length bytes) place) AtEnd (if nat_lt (length bytes) (place + 4) then CutShort else there) at
    ∙ if_false (nat_lt (length bytes) (place + 4)) CutShort there whole
    ∙ ap (λ (l : List ℕ). WordIs (from_le_bytes w32 l)) behind
    ∙ ap WordIs (from_le_bytes-to_le_bytes_4 word fits)

length-resized : (bytes : List ℕ) (place : ℕ) → length (resized bytes place) ≡ place
length-resized bytes place =
    omega (
      arith,
      length-take place (bytes ++ replicate (place - length bytes) 0),
      length-append bytes (replicate (place - length bytes) 0),
      length-replicate {A = ℕ} (place - length bytes) 0,
    )

length_word : (count : ℕ) → 0 < count → count < 2 ^ 24 → is_length_word count ≡ true
length_word count some few =
    let low : count % 2 ^ 24 ≡ count = omega arith in
    let high : count / 2 ^ 24 % 2 ^ 7 ≡ 0 = omega arith in
    both-and (nat_lt 0 (count % 2 ^ 24)) (count / 2 ^ 24 % 2 ^ 7 == 0) (grind (arith, nat_tests)) (grind (arith, nat_tests))

no_flag : (count : ℕ) → count < 2 ^ 24 → is_flagged count ≡ false
no_flag count few = let none : count / 2 ^ 31 ≡ 0 = omega arith in grind (arith, nat_tests)

-- the bytes of a block, one part behind another
abbrev laid : List ℕ → List ℕ
laid bytes = word_bytes (length bytes) ++ (bytes ++ (replicate (length bytes % 2) 0 ++ word_bytes (length bytes)))

block_laid : (bytes : List ℕ) → block_bytes bytes ≡ laid bytes
block_laid bytes = simp append_assoc

-- the bytes of a block behind others
block_there : (before bytes : List ℕ) (place : ℕ) → length before ≡ place → 0 < length bytes → length bytes < 2 ^ 24 →
    Between (before ++ laid bytes) place (place + block_size (length bytes)) (length bytes)
block_there before bytes place is some few =
    let count = length bytes in
    let word : List ℕ = word_bytes count in
    let pad : List ℕ = replicate (count % 2) 0 in
    let image : List ℕ = before ++ laid bytes in
    let front : List ℕ = before ++ (word ++ (bytes ++ pad)) in
    let size : length front ≡ place + 4 + padded count =
    omega (
      arith,
      length-append before (word ++ (bytes ++ pad)),
      length-append word (bytes ++ pad),
      length-append bytes pad,
      length-replicate {A = ℕ} (count % 2) 0,
      length-word count,
    ) in
    let split : image ≡ front ++ (word ++ []) = simp (append_assoc, append-nil) in
    let low : data_length count ≡ count = omega arith in
    let back : place + block_size count - 4 ≡ place + 4 + padded count = omega arith in
    record {
      leading = word_there before (bytes ++ (pad ++ word)) place count is (omega arith);
      trailing = ap (word_at image) back ∙ ap (λ (l : List ℕ). word_at l (place + 4 + padded count)) split
          ∙ word_there front [] (place + 4 + padded count) count size (omega arith);
      counts = length_word count some few;
      apart = ap (λ (n : ℕ). place + block_size n) (sym low);
    }

length-block : (bytes : List ℕ) → length (laid bytes) ≡ block_size (length bytes)
length-block bytes =
    let word : List ℕ = word_bytes (length bytes) in
    let pad : List ℕ = replicate (length bytes % 2) 0 in
    omega (
      arith,
      length-append word (bytes ++ (pad ++ word)),
      length-append bytes (pad ++ word),
      length-append pad word,
      length-replicate {A = ℕ} (length bytes % 2) 0,
      length-word (length bytes),
    )

has_block : (before bytes : List ℕ) (place : ℕ) → length before ≡ place → 0 < length bytes → length bytes < 2 ^ 24 →
    HasBlock (before ++ laid bytes) bytes place
has_block before bytes place is some few =
    let image : List ℕ = before ++ laid bytes in
    let count = length bytes in
    let word : List ℕ = word_bytes count in
    let pad : List ℕ = replicate (count % 2) 0 in
    let low : data_length count ≡ count = omega arith in
    let forward : next image place ≡ BlockTo count false (place + block_size count) =
    next_block image place (place + block_size count) count (block_there before bytes place is some few)
    ∙ ap (λ (n : ℕ). BlockTo n (is_flagged count) (place + block_size count)) low
    ∙ ap (λ (f : Bool). BlockTo count f (place + block_size count)) (no_flag count few) in
    let front : length (before ++ word) ≡ place + 4 = omega (arith, length-append before word, length-word count) in
    let split : image ≡ (before ++ word) ++ (bytes ++ (pad ++ word)) = simp append_assoc in
    record {
      forward = forward;
      backwards = block_next_previous image place (place + block_size count) count false forward;
      there = ap (λ (l : List ℕ). take count (drop (place + 4) l)) split
          ∙ ap (take count) (drop_at (before ++ word) (bytes ++ (pad ++ word)) (place + 4) front)
          ∙ take_at bytes (pad ++ word) count refl;
    }

pub blocks_are_read_back : BlocksAreReadBack
blocks_are_read_back old bytes place behind some few end =
    let image : List ℕ = resized old place ++ block_bytes bytes in
    let front = length-resized old place in
    let within : length image ≤ longest_list =
    omega (arith, length-append (resized old place) (block_bytes bytes), front, ap length (block_laid bytes), length-block bytes) in
    subst (λ (l : List ℕ). HasBlock l bytes place) (sym (shown_all image within))
    (subst (λ (l : List ℕ). HasBlock (resized old place ++ l) bytes place) (sym (block_laid bytes))
    (has_block (resized old place) bytes place front some few))
