-- The calls that fail are calls that are made.
use Rattle.std.proofs.Common.{◌≡◌, ℕ, ◌≤◌, Bool, true, false, min, List, length, Some, refl, sym, subst, arith, if◌then◌else◌}
use Rattle.std.proofs.lemmas.Bool.{lt-ltb, ltb-true, le-leb, leb-true}
use Rattle.file_traits.specs.declared.files.FileCall.{FileCall}
use Rattle.file_traits.specs.declared.files.FileCall.TheVariants.{Opening, Length, Read, Write, SetLength, Closing}
use Rattle.file_traits.specs.OneList.{longest_list}
use Rattle.simh_tape.specs.Image.{Met, next, previous}
use Rattle.simh_tape.specs.Image.Met.{BlockTo, CallFails}
use Rattle.simh_tape.specs.Reading.{next_calls, previous_calls}
use Rattle.simh_tape.specs.Spacing.{item_from, item_calls, item_act}
use Rattle.simh_tape.proofs.ItemLaws.{block_next_previous}
use Rattle.simh_tape.proofs.PlaceLemmas.{MetWithin, previous-within, item-within}

by-test : (made : Bool) (met : Met) (call : FileCall) → (met ≡ CallFails call → ⊥) → CallFails call ≡ (if made then CallFails call else met) → made ≡ true
by-test true met call never is = refl
by-test false met call never is = absurd (never (sym is))

never-fails : (forward : Bool) (bytes : List ℕ) (place : ℕ) (call : FileCall) → item_from forward bytes place ≡ CallFails call → ⊥
never-fails forward bytes place call is = subst (MetWithin (length bytes)) is (item-within forward bytes place)

-- a call that is said to have failed is made
pub call-made : (forward : Bool) (bytes : List ℕ) (place : ℕ) (call : FileCall) → CallFails call ≡ item_act bytes place forward (Some call)
    → item_calls forward bytes place call ≡ true
call-made true bytes place call is = by-test (next_calls place call) (next bytes place) call (never-fails true bytes place call) is
call-made false bytes place call is = by-test (previous_calls bytes place call) (previous bytes place) call (never-fails false bytes place call) is

back-within : (bytes : List ℕ) (place count : ℕ) (flagged : Bool) (behind : ℕ) → previous bytes place ≡ BlockTo count flagged behind → behind ≤ min place (length bytes)
back-within bytes place count flagged behind is = subst (MetWithin (min place (length bytes))) is (previous-within bytes place)

-- a call that is made behind a block is made at the block too
pub made-before : (forward : Bool) (bytes : List ℕ) (place count : ℕ) (flagged : Bool) (behind : ℕ) (call : FileCall)
    → item_from forward bytes place ≡ BlockTo count flagged behind → item_calls forward bytes behind call ≡ true → item_calls forward bytes place call ≡ true
made-before true bytes place count flagged behind Read is made =
    let low = ltb-true behind longest_list made in
    let back = back-within bytes behind count flagged place (block_next_previous bytes place behind count flagged is) in
    lt-ltb place longest_list (omega arith)
made-before false bytes place count flagged behind Read is made =
    let high = leb-true 4 (min behind (length bytes)) made in
    let back = back-within bytes place count flagged behind is in
    le-leb 4 (min place (length bytes)) (omega arith)
made-before true bytes place count flagged behind Opening is made = made
made-before true bytes place count flagged behind Length is made = made
made-before true bytes place count flagged behind Write is made = made
made-before true bytes place count flagged behind SetLength is made = made
made-before true bytes place count flagged behind Closing is made = made
made-before false bytes place count flagged behind Opening is made = made
made-before false bytes place count flagged behind Length is made = made
made-before false bytes place count flagged behind Write is made = made
made-before false bytes place count flagged behind SetLength is made = made
made-before false bytes place count flagged behind Closing is made = made
