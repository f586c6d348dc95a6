-- Items are met, and spacing ends, at places within the image.
use Rattle.std.proofs.Common.{◌≡◌, ℕ, zero, suc, ◌+◌, ◌-◌, ◌^◌, ◌==◌, ◌≤◌, ◌&&◌, Bool, true, false, nat_lt, nat_le, min, List, length, Result, Ok, Err, refl, sym, arith, length-take, if◌then◌else◌}
use Rattle.std.proofs.lemmas.Bool.{cond_both, le-leb}
use Rattle.file_traits.specs.OneList.{longest_list, shown}
use Rattle.simh_tape.specs.declared.items.TapeFault.{TapeFault}
use Rattle.simh_tape.specs.declared.spacing.Spaced.{Spaced}
use Rattle.simh_tape.specs.Image.{WordAt, Met, word_at, is_word, data_length, is_flagged, is_length_word, padded, block_size}
use Rattle.simh_tape.specs.Image.{block_after, item_after, next, block_before, item_before, ending_at, previous}
use Rattle.simh_tape.specs.Image.WordAt.{AtEnd, CutShort, WordIs}
use Rattle.simh_tape.specs.Image.Met.{BlockTo, MarkTo, MediumEnds, AtLoadPoint, BadAt, CallFails}
use Rattle.simh_tape.specs.Spacing.{item_from, space_over, space_from}
use Rattle.simh_tape.proofs.ItemLaws.{if_true, second_true, word_is, word_within}

-- no more bytes can be read than those of the longest list
pub shown-short : (bytes : List ℕ) → length (shown bytes) ≤ longest_list
unfolding shown
shown-short bytes = omega (arith, length-take longest_list bytes)

-- where no byte can be read, no word stands
pub ends-there : (bytes : List ℕ) (place : ℕ) → longest_list ≤ place → AtEnd ≡ word_at (shown bytes) place
ends-there bytes place far =
    let short = shown-short bytes in
    sym (if_true (nat_le (length (shown bytes)) place) AtEnd _ (le-leb (length (shown bytes)) place (omega arith)))

-- an item leads to no place past that one, and no call fails
abbrev pub MetWithin : ℕ → Met → Type 0
MetWithin most (BlockTo count flagged behind) = behind ≤ most
MetWithin most (MarkTo behind) = behind ≤ most
MetWithin most (CallFails call) = ⊥
MetWithin most met = Unit {0}

within-more : (least most : ℕ) (met : Met) → least ≤ most → MetWithin least met → MetWithin most met
within-more least most (BlockTo count flagged behind) low within = omega arith
within-more least most (MarkTo behind) low within = omega arith
within-more least most MediumEnds low within = tt
within-more least most AtLoadPoint low within = tt
within-more least most (BadAt bad) low within = tt
within-more least most (CallFails call) low within = within

after-within : (bytes : List ℕ) (place : ℕ) (there : WordAt) → word_at bytes place ≡ there → MetWithin (length bytes) (item_after bytes place there)
after-within bytes place AtEnd is = tt
after-within bytes place CutShort is = tt
after-within bytes place (WordIs word) is =
    let P : Met → Type 0 = MetWithin (length bytes) in
    let size = block_size (data_length word) in
    let trailing = place + 4 + padded (data_length word) in
    cond_both (word == 2 ^ 32 - 1) MediumEnds (if word == 0 then MarkTo (place + 4) else block_after bytes place word) P (λ _. tt)
    (λ _. cond_both (word == 0) (MarkTo (place + 4)) (block_after bytes place word) P (λ _. word_within bytes place word is)
    (λ _. cond_both (is_length_word word && is_word (word_at bytes trailing) word) (BlockTo (data_length word) (is_flagged word) (place + size)) (BadAt place) P
    (λ both.
    let behind = word_within bytes trailing word (word_is (word_at bytes trailing) word (second_true (is_length_word word) (is_word (word_at bytes trailing) word) both)) in
    omega (arith, behind)) (λ _. tt)))

pub next-within : (bytes : List ℕ) (place : ℕ) → MetWithin (length bytes) (next bytes place)
next-within bytes place = after-within bytes place (word_at bytes place) refl

before-within : (bytes : List ℕ) (place : ℕ) (there : WordAt) → MetWithin place (item_before bytes place there)
before-within bytes place AtEnd = tt
before-within bytes place CutShort = tt
before-within bytes place (WordIs word) =
    let P : Met → Type 0 = MetWithin place in
    let size = block_size (data_length word) in
    cond_both (word == 0) (MarkTo (place - 4)) (block_before bytes place word) P (λ _. omega arith)
    (λ _. cond_both (is_length_word word && nat_le size place && is_word (word_at bytes (place - size)) word)
    (BlockTo (data_length word) (is_flagged word) (place - size)) (BadAt (place - 4)) P (λ _. omega arith) (λ _. tt))

ending-within : (bytes : List ℕ) (place : ℕ) → MetWithin place (ending_at bytes place)
ending-within bytes place =
    let P : Met → Type 0 = MetWithin place in
    let last = item_before bytes place (word_at bytes (place - 4)) in
    cond_both (place == 0) AtLoadPoint (if nat_lt place 4 then BadAt 0 else last) P (λ _. tt)
    (λ _. cond_both (nat_lt place 4) (BadAt 0) last P (λ _. tt) (λ _. before-within bytes place (word_at bytes (place - 4))))

pub previous-within : (bytes : List ℕ) (place : ℕ) → MetWithin (min place (length bytes)) (previous bytes place)
previous-within bytes place = ending-within bytes (min place (length bytes))

pub item-within : (forward : Bool) (bytes : List ℕ) (place : ℕ) → MetWithin (length bytes) (item_from forward bytes place)
item-within true bytes place = next-within bytes place
item-within false bytes place =
    within-more (min place (length bytes)) (length bytes) (previous bytes place) (omega arith) (previous-within bytes place)

-- spacing ends at no place past that one
abbrev pub EndsWithin : ℕ → Result Spaced TapeFault → Type 0
EndsWithin most (Ok spaced) = spaced.place ≤ most
EndsWithin most (Err fault) = Unit {0}

over-within : (further : ℕ → Result Spaced TapeFault) (place passed long most : ℕ) (met : Met) → MetWithin long met → long ≤ most → place ≤ most
    → ((behind : ℕ) → behind ≤ most → EndsWithin most (further behind)) → EndsWithin most (space_over further place passed met)
over-within further place passed long most (BlockTo count flagged behind) within low here more = more behind (omega arith)
over-within further place passed long most (MarkTo behind) within low here more = omega arith
over-within further place passed long most MediumEnds within low here more = here
over-within further place passed long most AtLoadPoint within low here more = omega arith
over-within further place passed long most (BadAt bad) within low here more = tt
over-within further place passed long most (CallFails call) within low here more = absurd within

pub space-within : (count : ℕ) (forward : Bool) (bytes : List ℕ) (place passed most : ℕ) → length bytes ≤ most → place ≤ most → EndsWithin most (space_from count forward bytes place passed)
unfolding space_from
space-within zero forward bytes place passed most low here = here
space-within (suc count) forward bytes place passed most low here =
    over-within (λ behind. space_from count forward bytes behind (passed + 1)) place passed (length bytes) most (item_from forward bytes place)
    (item-within forward bytes place) low here (λ behind within. space-within count forward bytes behind (passed + 1) most low within)
