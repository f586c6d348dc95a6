-- Spacing forward, and back again.
use Rattle.std.proofs.Common.{◌≡◌, ℕ, zero, suc, ◌+◌, ◌≤◌, Bool, true, false, List, Result, Ok, Err, Option, Some, None, refl, sym, ap, ◌∙◌, arith}
use Rattle.unit_trait.specs.declared.calls.TapeEnd.{TapeEnd}
use Rattle.unit_trait.specs.declared.calls.TapeEnd.TheVariants.{Plain, Mark, Medium, LoadPoint}
use Rattle.simh_tape.specs.declared.items.TapeFault.{TapeFault}
use Rattle.simh_tape.specs.declared.spacing.Spaced.{Spaced}
use Rattle.simh_tape.specs.Image.{Met, next, previous}
use Rattle.simh_tape.specs.Image.Met.{BlockTo, MarkTo, MediumEnds, AtLoadPoint, BadAt, CallFails}
use Rattle.simh_tape.specs.Spacing.{item_from, space_over, space_from}
use Rattle.simh_tape.specs.Laws.{SpacingLeadsBack, MarksLeadBack}
use Rattle.simh_tape.proofs.SpaceLemmas.{space_none, space_more}
use Rattle.simh_tape.proofs.ItemLaws.{block_next_previous, mark_next_previous}

-- parts of an answer

abbrev end_of : Result Spaced TapeFault → Option TapeEnd
end_of (Ok spaced) = Some spaced.end
end_of (Err fault) = None

abbrev place_of : Result Spaced TapeFault → ℕ
place_of (Ok spaced) = spaced.place
place_of (Err fault) = 0

abbrev passed_of : Result Spaced TapeFault → ℕ
passed_of (Ok spaced) = spaced.passed
passed_of (Err fault) = 0

abbrev given : Spaced → Result Spaced TapeFault
given spaced = Ok spaced

same_answer : (place there passed all : ℕ) (end : TapeEnd) → place ≡ there → passed ≡ all →
    given (record { place = place; passed = passed; end = end }) ≡ given (record { place = there; passed = all; end = end })
same_answer place there passed all end one other =
    ap (λ (x : ℕ). given (record { place = x; passed = passed; end = end })) one
    ∙ ap (λ (x : ℕ). given (record { place = there; passed = x; end = end })) other

other_end : {A : Type 0} (spaced one : Spaced) → (Some spaced.end ≡ Some Plain → A) → one.end ≡ Plain →
    given spaced ≡ given one → A
other_end spaced one never plain is = never (ap end_of is ∙ ap Some plain)

-- an answer that ends plainly was not given at an item

over_plain : (further more : ℕ → Result Spaced TapeFault) (place passed : ℕ) (met : Met) (one other : Spaced) →
    ((x : ℕ) → further x ≡ Ok one → more x ≡ Ok other) → one.end ≡ Plain → space_over further place passed met ≡ Ok one →
    space_over more place passed met ≡ Ok other
over_plain further more place passed (BlockTo count flagged behind) one other goes plain is = goes behind is
over_plain further more place passed (MarkTo behind) one other goes plain is =
    other_end (record { place = behind; passed = passed; end = Mark }) one (λ e. cc) plain is
over_plain further more place passed MediumEnds one other goes plain is =
    other_end (record { place = place; passed = passed; end = Medium }) one (λ e. cc) plain is
over_plain further more place passed AtLoadPoint one other goes plain is =
    other_end (record { place = 0; passed = passed; end = LoadPoint }) one (λ e. cc) plain is
over_plain further more place passed (BadAt bad) one other goes plain is = cc
over_plain further more place passed (CallFails call) one other goes plain is = cc

-- one block more, backwards
one_more : (count : ℕ) (bytes : List ℕ) (to passed : ℕ) (there all length : ℕ) (flagged : Bool) (from : ℕ) →
    space_from count false bytes to passed ≡ Ok (record { place = there; passed = all; end = Plain }) →
    previous bytes there ≡ BlockTo length flagged from →
    space_from (suc count) false bytes to passed ≡ Ok (record { place = from; passed = all + 1; end = Plain })
one_more zero bytes to passed there all length flagged from is block =
    let same : given (record { place = to; passed = passed; end = Plain }) ≡ Ok (record { place = there; passed = all; end = Plain }) =
    sym (space_none false bytes to passed) ∙ is in
    let here : to ≡ there = ap place_of same in
    let few : passed ≡ all = ap passed_of same in
    space_more zero false bytes to passed
    ∙ ap (space_over (λ behind. space_from zero false bytes behind (passed + 1)) to passed) (ap (previous bytes) here ∙ block)
    ∙ space_none false bytes from (passed + 1)
    ∙ same_answer from from (passed + 1) (all + 1) Plain refl (ap (λ (n : ℕ). n + 1) few)
one_more (suc count) bytes to passed there all length flagged from is block =
    space_more (suc count) false bytes to passed
    ∙ over_plain (λ behind. space_from count false bytes behind (passed + 1))
    (λ behind. space_from (suc count) false bytes behind (passed + 1)) to passed (previous bytes to)
    (record { place = there; passed = all; end = Plain }) (record { place = from; passed = all + 1; end = Plain })
    (λ x goes. one_more count bytes x (passed + 1) there all length flagged from goes block) refl
    (sym (space_more count false bytes to passed) ∙ is)

-- spacing goes back from where spacing forward ended plainly

back_over : (count : ℕ) (bytes : List ℕ) (from passed to all start : ℕ) (met : Met) →
    ((x : ℕ) → space_from count true bytes x (passed + 1) ≡ Ok (record { place = to; passed = all; end = Plain }) →
    space_from count false bytes to start ≡ Ok (record { place = x; passed = start + count; end = Plain })) →
    next bytes from ≡ met →
    space_over (λ behind. space_from count true bytes behind (passed + 1)) from passed met
    ≡ Ok (record { place = to; passed = all; end = Plain }) →
    space_from (suc count) false bytes to start ≡ Ok (record { place = from; passed = start + suc count; end = Plain })
back_over count bytes from passed to all start (BlockTo length flagged behind) back block is =
    one_more count bytes to start behind (start + count) length flagged from (back behind is)
    (block_next_previous bytes from behind length flagged block)
    ∙ same_answer from from (start + count + 1) (start + suc count) Plain refl (omega arith)
back_over count bytes from passed to all start (MarkTo behind) back block is =
    other_end (record { place = behind; passed = passed; end = Mark }) (record { place = to; passed = all; end = Plain })
    (λ e. cc) refl is
back_over count bytes from passed to all start MediumEnds back block is =
    other_end (record { place = from; passed = passed; end = Medium }) (record { place = to; passed = all; end = Plain })
    (λ e. cc) refl is
back_over count bytes from passed to all start AtLoadPoint back block is =
    other_end (record { place = 0; passed = passed; end = LoadPoint }) (record { place = to; passed = all; end = Plain })
    (λ e. cc) refl is
back_over count bytes from passed to all start (BadAt bad) back block is = cc
back_over count bytes from passed to all start (CallFails call) back block is = cc

back_again : (count : ℕ) (bytes : List ℕ) (from passed to all start : ℕ) →
    space_from count true bytes from passed ≡ Ok (record { place = to; passed = all; end = Plain }) →
    space_from count false bytes to start ≡ Ok (record { place = from; passed = start + count; end = Plain })
back_again zero bytes from passed to all start is =
    let same : given (record { place = from; passed = passed; end = Plain }) ≡ Ok (record { place = to; passed = all; end = Plain }) =
    sym (space_none true bytes from passed) ∙ is in
    space_none false bytes to start
    ∙ same_answer to from start (start + 0) Plain (sym (ap place_of same)) (omega arith)
back_again (suc count) bytes from passed to all start is =
    back_over count bytes from passed to all start (next bytes from)
    (λ x goes. back_again count bytes x (passed + 1) to all start goes) refl
    (sym (space_more count true bytes from passed) ∙ is)

pub spacing_leads_back : SpacingLeadsBack
spacing_leads_back bytes count from to is =
    back_again count bytes from 0 to count 0 is ∙ same_answer from from (0 + count) count Plain refl (omega arith)

-- marks

grows_over : (further : ℕ → Result Spaced TapeFault) (place passed : ℕ) (met : Met) (spaced : Spaced) →
    ((x : ℕ) → further x ≡ Ok spaced → passed + 1 ≤ spaced.passed) → space_over further place passed met ≡ Ok spaced →
    passed ≤ spaced.passed
grows_over further place passed (BlockTo count flagged behind) spaced grows is = omega (arith, grows behind is)
grows_over further place passed (MarkTo behind) spaced grows is =
    let same : passed ≡ spaced.passed = ap passed_of is in omega arith
grows_over further place passed MediumEnds spaced grows is =
    let same : passed ≡ spaced.passed = ap passed_of is in omega arith
grows_over further place passed AtLoadPoint spaced grows is =
    let same : passed ≡ spaced.passed = ap passed_of is in omega arith
grows_over further place passed (BadAt bad) spaced grows is = cc
grows_over further place passed (CallFails call) spaced grows is = cc

-- no fewer blocks are passed than were passed before
grows : (count : ℕ) (forward : Bool) (bytes : List ℕ) (place passed : ℕ) (spaced : Spaced) →
    space_from count forward bytes place passed ≡ Ok spaced → passed ≤ spaced.passed
grows zero forward bytes place passed spaced is =
    let same : passed ≡ spaced.passed = ap passed_of (sym (space_none forward bytes place passed) ∙ is) in omega arith
grows (suc count) forward bytes place passed spaced is =
    grows_over (λ behind. space_from count forward bytes behind (passed + 1)) place passed (item_from forward bytes place)
    spaced (λ x goes. grows count forward bytes x (passed + 1) spaced goes)
    (sym (space_more count forward bytes place passed) ∙ is)

-- spacing that ends at a mark behind no block has met it first
first_mark : (count : ℕ) (bytes : List ℕ) (from to : ℕ) (met : Met) →
    space_over (λ behind. space_from count true bytes behind (0 + 1)) from 0 met
    ≡ Ok (record { place = to; passed = 0; end = Mark }) → met ≡ MarkTo to
first_mark count bytes from to (BlockTo length flagged behind) is =
    let more : 0 + 1 ≤ 0 = grows count true bytes behind (0 + 1) (record { place = to; passed = 0; end = Mark }) is in
    absurd (omega arith)
first_mark count bytes from to (MarkTo behind) is = ap MarkTo (ap place_of is)
first_mark count bytes from to MediumEnds is = let e = ap end_of is in cc
first_mark count bytes from to AtLoadPoint is = let e = ap end_of is in cc
first_mark count bytes from to (BadAt bad) is = cc
first_mark count bytes from to (CallFails call) is = cc

pub marks_lead_back : MarksLeadBack
marks_lead_back bytes count other from to is =
    let mark = first_mark count bytes from to (next bytes from) (sym (space_more count true bytes from 0) ∙ is) in
    space_more other false bytes to 0
    ∙ ap (space_over (λ behind. space_from other false bytes behind (0 + 1)) to 0) (mark_next_previous bytes from to mark)
