-- Spacing: passing over blocks.
use Rattle.std.specs.Prelude.{ℕ, zero, suc, ◌+◌, ◌≤◌, ◌&&◌, nat_lt, Bool, List, Option, Some, None, Result, Ok, Err, if◌then◌else◌}
use Rattle.file_traits.specs.declared.files.FileCall.{FileCall}
use Rattle.file_traits.specs.OneList.{longest_list}
use Rattle.unit_trait.specs.declared.calls.TapeEnd.TheVariants.{Plain, Mark, Medium, LoadPoint}
use Rattle.simh_tape.specs.declared.items.TapeFault.{TapeFault}
use Rattle.simh_tape.specs.declared.items.TapeFault.TheVariants.{BadImage, Failed}
use Rattle.simh_tape.specs.declared.spacing.Spaced.{Spaced}
use Rattle.simh_tape.specs.Image.{Met, next, previous}
use Rattle.simh_tape.specs.Image.Met.{BlockTo, MarkTo, MediumEnds, AtLoadPoint, BadAt, CallFails}
use Rattle.simh_tape.specs.Reading.{FaultWithin, next_calls, previous_calls, next_act, previous_act}

-- the item behind a place, or before it
abbrev pub item_from : Bool → List ℕ → ℕ → Met
item_from forward bytes place = if forward then next bytes place else previous bytes place

-- whether the reading of that item makes that call
abbrev pub item_calls : Bool → List ℕ → ℕ → FileCall → Bool
item_calls forward bytes place call = if forward then next_calls place call else previous_calls bytes place call

-- that item, where no call fails or that one does, if it is one that the reading makes
abbrev pub item_act : List ℕ → ℕ → Bool → Option FileCall → Met
item_act bytes place forward fault = if forward then next_act bytes place fault else previous_act bytes place fault

-- what spacing comes to at a place, with so many blocks passed, by the item that is met there: behind a block it goes on
abbrev pub space_over : (ℕ → Result Spaced TapeFault) → ℕ → ℕ → Met → Result Spaced TapeFault
space_over further place passed (BlockTo count flagged behind) = further behind
space_over further place passed (MarkTo behind) = Ok (record { place = behind; passed = passed; end = Mark })
space_over further place passed MediumEnds = Ok (record { place = place; passed = passed; end = Medium })
space_over further place passed AtLoadPoint = Ok (record { place = 0; passed = passed; end = LoadPoint })
space_over further place passed (BadAt bad) = Err (BadImage bad)
space_over further place passed (CallFails call) = Err (Failed call)

-- spacing over at most so many blocks, from a place on, with so many blocks passed before
unfoldable pub space_from : ℕ → Bool → List ℕ → ℕ → ℕ → Result Spaced TapeFault
space_from zero forward bytes place passed = Ok (record { place = place; passed = passed; end = Plain })
space_from (suc count) forward bytes place passed =
    space_over (λ behind. space_from count forward bytes behind (passed + 1)) place passed (item_from forward bytes place)

-- whether spacing over at most so many blocks makes that call: one that a later item takes is made at the first too
abbrev pub space_calls : ℕ → Bool → List ℕ → ℕ → FileCall → Bool
space_calls count forward bytes place call = nat_lt 0 count && item_calls forward bytes place call

-- that spacing, where no call fails or that one does, if it is one that the spacing makes
abbrev pub space_act : List ℕ → ℕ → ℕ → Bool → Option FileCall → Result Spaced TapeFault
space_act bytes place count forward None = space_from count forward bytes place 0
space_act bytes place count forward (Some call) =
    if space_calls count forward bytes place call then Err (Failed call) else space_from count forward bytes place 0

-- places lie within what can be read, and no more blocks are passed than were asked for
abbrev pub SpacedWithin : ℕ → Result Spaced TapeFault → Type 0
SpacedWithin count (Ok spaced) = (spaced.place ≤ longest_list) × (spaced.passed ≤ count)
SpacedWithin count (Err fault) = FaultWithin fault
