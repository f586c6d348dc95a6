-- Spacing, an item at a time.
use Rattle.std.proofs.Common.{◌≡◌, ℕ, suc, ◌+◌, ◌<◌, nat_lt, Bool, true, false, List, Result, Ok, Err, refl, sym, ap, ◌∙◌, arith}
use Rattle.std.proofs.lemmas.Bool.{lt-ltb}
use Rattle.file_traits.specs.declared.files.FileCall.{FileCall}
use Rattle.unit_trait.specs.declared.calls.TapeEnd.TheVariants.{Plain, Mark, Medium, LoadPoint}
use Rattle.simh_tape.specs.declared.items.Item.{Item}
use Rattle.simh_tape.specs.declared.items.Item.TheVariants.{Block, EndOfMedium}
use Rattle.simh_tape.specs.declared.items.Item.TheVariants.{Mark as MarkItem, LoadPoint as LoadPointItem}
use Rattle.simh_tape.specs.declared.items.TapeFault.{TapeFault}
use Rattle.simh_tape.specs.declared.items.TapeFault.TheVariants.{BadImage, Failed}
use Rattle.simh_tape.specs.declared.spacing.Spaced.{Spaced}
use Rattle.simh_tape.specs.Image.{Met}
use Rattle.simh_tape.specs.Image.Met.{BlockTo, MarkTo, MediumEnds, AtLoadPoint, BadAt}
use Rattle.simh_tape.specs.Reading.{item_said, said, failure}
use Rattle.simh_tape.specs.Spacing.{item_from, item_calls, item_act, space_over, space_from, space_calls, space_act}
use Rattle.file_traits.proofs.Fronts.{both-and}
use Rattle.simh_tape.proofs.ItemLaws.{if_true}
use Rattle.simh_tape.proofs.CallLemmas.{call-made, made-before}

pub space_none : (forward : Bool) (bytes : List ℕ) (place passed : ℕ) →
    space_from 0 forward bytes place passed ≡ Ok (record { place = place; passed = passed; end = Plain })
unfolding space_from
space_none forward bytes place passed = refl

pub space_more : (count : ℕ) (forward : Bool) (bytes : List ℕ) (place passed : ℕ) →
    space_from (suc count) forward bytes place passed
    ≡ space_over (λ behind. space_from count forward bytes behind (passed + 1)) place passed (item_from forward bytes place)
unfolding space_from
space_more count forward bytes place passed = refl

-- spacing that has some blocks left to pass, by the item that is met
space_step : (left less : ℕ) (forward : Bool) (bytes : List ℕ) (place passed : ℕ) (met : Met)
    (wanted : Result Spaced TapeFault) → left ≡ less + 1 → met ≡ item_from forward bytes place →
    space_from left forward bytes place passed ≡ wanted →
    space_over (λ behind. space_from less forward bytes behind (passed + 1)) place passed met ≡ wanted
space_step left less forward bytes place passed met wanted more is wants =
    let one : left ≡ suc less = omega arith in
    ap (space_over (λ behind. space_from less forward bytes behind (passed + 1)) place passed) is
    ∙ sym (space_more less forward bytes place passed)
    ∙ ap (λ (n : ℕ). space_from n forward bytes place passed) (sym one) ∙ wants

pub space_block : (left less : ℕ) (forward : Bool) (bytes : List ℕ) (place passed : ℕ) (item : Item)
    (length : ℕ) (flagged : Bool) (taken behind : ℕ) (wanted : Result Spaced TapeFault) → left ≡ less + 1 →
    item ≡ Block length flagged taken behind → item_said item ≡ item_from forward bytes place →
    space_from left forward bytes place passed ≡ wanted →
    space_from less forward bytes behind (passed + 1) ≡ wanted
space_block left less forward bytes place passed item length flagged taken behind wanted more is met wants =
    space_step left less forward bytes place passed (BlockTo length flagged behind) wanted more
    (ap item_said (sym is) ∙ met) wants

pub space_mark : (left less : ℕ) (forward : Bool) (bytes : List ℕ) (place passed : ℕ) (item : Item) (behind : ℕ)
    (wanted : Result Spaced TapeFault) → left ≡ less + 1 →
    item ≡ MarkItem behind → item_said item ≡ item_from forward bytes place →
    space_from left forward bytes place passed ≡ wanted →
    Ok (record { place = behind; passed = passed; end = Mark }) ≡ wanted
space_mark left less forward bytes place passed item behind wanted more is met wants =
    space_step left less forward bytes place passed (MarkTo behind) wanted more (ap item_said (sym is) ∙ met) wants

pub space_medium : (left less : ℕ) (forward : Bool) (bytes : List ℕ) (place passed : ℕ) (item : Item)
    (wanted : Result Spaced TapeFault) → left ≡ less + 1 →
    item ≡ EndOfMedium → item_said item ≡ item_from forward bytes place →
    space_from left forward bytes place passed ≡ wanted →
    Ok (record { place = place; passed = passed; end = Medium }) ≡ wanted
space_medium left less forward bytes place passed item wanted more is met wants =
    space_step left less forward bytes place passed MediumEnds wanted more (ap item_said (sym is) ∙ met) wants

pub space_load_point : (left less : ℕ) (forward : Bool) (bytes : List ℕ) (place passed : ℕ) (item : Item)
    (wanted : Result Spaced TapeFault) → left ≡ less + 1 →
    item ≡ LoadPointItem → item_said item ≡ item_from forward bytes place →
    space_from left forward bytes place passed ≡ wanted →
    Ok (record { place = 0; passed = passed; end = LoadPoint }) ≡ wanted
space_load_point left less forward bytes place passed item wanted more is met wants =
    space_step left less forward bytes place passed AtLoadPoint wanted more (ap item_said (sym is) ∙ met) wants

-- each call that is made at that place is made where spacing began too
abbrev pub MadeAtFirst : Bool → List ℕ → ℕ → ℕ → Type 0
MadeAtFirst forward bytes from place = (call : FileCall) → item_calls forward bytes place call ≡ true → item_calls forward bytes from call ≡ true

pub made_further : (forward : Bool) (bytes : List ℕ) (from place : ℕ) (item : Item) (length : ℕ) (flagged : Bool) (taken behind : ℕ) →
    item ≡ Block length flagged taken behind → item_said item ≡ item_from forward bytes place → MadeAtFirst forward bytes from place →
    MadeAtFirst forward bytes from behind
made_further forward bytes from place item length flagged taken behind is met made call there =
    made call (made-before forward bytes place length flagged behind call (sym (ap item_said (sym is) ∙ met)) there)

pub space_fault : (left less : ℕ) (forward : Bool) (bytes : List ℕ) (place passed : ℕ) (fault : TapeFault) (from count : ℕ) →
    left ≡ less + 1 → 0 < count → MadeAtFirst forward bytes from place → said (Err fault) ≡ item_act bytes place forward (failure {T = Item} (Err fault)) →
    space_from left forward bytes place passed ≡ space_from count forward bytes from 0 →
    Err fault ≡ space_act bytes from count forward (failure {T = Spaced} (Err fault))
space_fault left less true bytes place passed (BadImage bad) from count more some made met wants =
    space_step left less true bytes place passed (BadAt bad) (space_from count true bytes from 0) more met wants
space_fault left less false bytes place passed (BadImage bad) from count more some made met wants =
    space_step left less false bytes place passed (BadAt bad) (space_from count false bytes from 0) more met wants
space_fault left less forward bytes place passed (Failed call) from count more some made met wants =
    sym (if_true (space_calls count forward bytes from call) (Err (Failed call)) (space_from count forward bytes from 0)
    (both-and (nat_lt 0 count) (item_calls forward bytes from call) (lt-ltb 0 count some) (made call (call-made forward bytes place call met))))

pub space_done : (left : ℕ) (forward : Bool) (bytes : List ℕ) (place passed : ℕ) (wanted : Result Spaced TapeFault) →
    left ≡ 0 → space_from left forward bytes place passed ≡ wanted →
    Ok (record { place = place; passed = passed; end = Plain }) ≡ wanted
space_done left forward bytes place passed wanted none wants =
    sym (space_none forward bytes place passed)
    ∙ ap (λ (n : ℕ). space_from n forward bytes place passed) (sym none) ∙ wants
