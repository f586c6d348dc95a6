-- What a reading of one item says.
use Rattle.std.specs.Prelude.{ℕ, ◌+◌, ◌^◌, ◌≡◌, ◌<◌, ◌≤◌, nat_lt, nat_le, Bool, true, false, not, IsTrue, List, take, drop, min, length, Option, Some, None, Result, Ok, Err, if◌then◌else◌}
use Rattle.fault_counts.specs.Faults.{raised}
use Rattle.file_traits.specs.declared.files.FileCall.{FileCall}
use Rattle.file_traits.specs.declared.files.FileCall.TheVariants.{Opening, Length, Read, Write, SetLength, Closing}
use Rattle.file_traits.specs.OneList.{longest_list}
use Rattle.simh_tape.specs.declared.items.Item.{Item}
use Rattle.simh_tape.specs.declared.items.Item.TheVariants.{Block, Mark, EndOfMedium, LoadPoint}
use Rattle.simh_tape.specs.declared.items.TapeFault.{TapeFault}
use Rattle.simh_tape.specs.declared.items.TapeFault.TheVariants.{BadImage, Failed}
use Rattle.simh_tape.specs.Image.{Met, next, previous, with_front}
use Rattle.simh_tape.specs.Image.Met.{BlockTo, MarkTo, MediumEnds, AtLoadPoint, BadAt, CallFails}

-- an answer, in the words of the definition
abbrev pub item_said : Item → Met
item_said (Block count flagged taken place) = BlockTo count flagged place
item_said (Mark place) = MarkTo place
item_said EndOfMedium = MediumEnds
item_said LoadPoint = AtLoadPoint

abbrev pub said : Result Item TapeFault → Met
said (Ok item) = item_said item
said (Err (BadImage place)) = BadAt place
said (Err (Failed call)) = CallFails call

-- the call that failed, where one did
abbrev pub failure : {T : Type 0} → Result T TapeFault → Option FileCall
failure (Ok t) = None
failure (Err (BadImage place)) = None
failure (Err (Failed call)) = Some call

-- whether a reading forward makes that call: it reads, but not at the largest place, behind which no byte can be read
abbrev pub next_calls : ℕ → FileCall → Bool
next_calls place Opening = false
next_calls place Length = false
next_calls place Read = nat_lt place longest_list
next_calls place Write = false
next_calls place SetLength = false
next_calls place Closing = false

-- whether a reading backwards makes that call: it asks for the length, and reads where a word fits before the place. A
-- place past the end is first taken as the end.
abbrev pub previous_calls : List ℕ → ℕ → FileCall → Bool
previous_calls bytes place Opening = false
previous_calls bytes place Length = true
previous_calls bytes place Read = nat_le 4 (min place (length bytes))
previous_calls bytes place Write = false
previous_calls bytes place SetLength = false
previous_calls bytes place Closing = false

-- what a reading forward meets, where no call fails or that one does, if it is one that the reading makes
abbrev pub next_act : List ℕ → ℕ → Option FileCall → Met
next_act bytes place None = next bytes place
next_act bytes place (Some call) = if next_calls place call then CallFails call else next bytes place

-- what a reading backwards meets, where no call fails or that one does, if it is one that the reading makes
abbrev pub previous_act : List ℕ → ℕ → Option FileCall → Met
previous_act bytes place None = previous bytes place
previous_act bytes place (Some call) = if previous_calls bytes place call then CallFails call else previous bytes place

-- a block's first data bytes, as many as fit, stand in the front of a buffer, and the rest of it is as it was
abbrev pub HasData : List ℕ → ℕ → ℕ → ℕ → List ℕ → List ℕ → Type 0
HasData bytes place count taken old new =
    (taken ≡ min count (length old)) × (new ≡ with_front (take count (drop (place + 4) bytes)) old)

-- the data of the block that was read forward from a place
abbrev pub NextData : List ℕ → ℕ → Result Item TapeFault → List ℕ → List ℕ → Type 0
NextData bytes from (Ok (Block count flagged taken place)) old new = HasData bytes from count taken old new
NextData bytes from (Ok (Mark place)) old new = Unit {0}
NextData bytes from (Ok EndOfMedium) old new = Unit {0}
NextData bytes from (Ok LoadPoint) old new = Unit {0}
NextData bytes from (Err fault) old new = Unit {0}

-- the data of the block that was read backwards: its place is that of its first word
abbrev pub PreviousData : List ℕ → Result Item TapeFault → List ℕ → List ℕ → Type 0
PreviousData bytes (Ok (Block count flagged taken place)) old new = HasData bytes place count taken old new
PreviousData bytes (Ok (Mark place)) old new = Unit {0}
PreviousData bytes (Ok EndOfMedium) old new = Unit {0}
PreviousData bytes (Ok LoadPoint) old new = Unit {0}
PreviousData bytes (Err fault) old new = Unit {0}

-- where the answer is neither a block nor a failed call, a buffer is as it was; behind a failed call it is free
abbrev pub KeepsBuffer : Result Item TapeFault → List ℕ → List ℕ → Type 0
KeepsBuffer (Ok (Block count flagged taken place)) old new = Unit {0}
KeepsBuffer (Ok (Mark place)) old new = new ≡ old
KeepsBuffer (Ok EndOfMedium) old new = new ≡ old
KeepsBuffer (Ok LoadPoint) old new = new ≡ old
KeepsBuffer (Err (BadImage place)) old new = new ≡ old
KeepsBuffer (Err (Failed call)) old new = length new ≡ length old

-- places lie within what can be read, a block has 1 to 16777215 data bytes, and no more of them are taken than a buffer
-- has room for
abbrev pub ItemWithin : ℕ → Item → Type 0
ItemWithin room (Block count flagged taken place) =
    (0 < count) × (count < 2 ^ 24) × (taken ≤ count) × (taken ≤ room) × (place ≤ longest_list)
ItemWithin room (Mark place) = place ≤ longest_list
ItemWithin room EndOfMedium = Unit {0}
ItemWithin room LoadPoint = Unit {0}

abbrev pub FaultWithin : TapeFault → Type 0
FaultWithin (BadImage place) = place ≤ longest_list
FaultWithin (Failed call) = Unit {0}

abbrev pub AnswerWithin : ℕ → Result Item TapeFault → Type 0
AnswerWithin room (Ok item) = ItemWithin room item
AnswerWithin room (Err fault) = FaultWithin fault

-- a reading fails by a read, and backwards by asking for the length too
abbrev pub may_fail : Bool → FileCall → Bool
may_fail forward Opening = false
may_fail forward Length = not forward
may_fail forward Read = true
may_fail forward Write = false
may_fail forward SetLength = false
may_fail forward Closing = false

abbrev pub FailsReading : {T : Type 0} → Bool → Result T TapeFault → Type 0
FailsReading forward (Ok t) = Unit {0}
FailsReading forward (Err (BadImage place)) = Unit {0}
FailsReading forward (Err (Failed call)) = IsTrue (may_fail forward call)

-- what holds where a call failed
abbrev pub WhereFailed : {T : Type 0} → Result T TapeFault → Type 0 → Type 0
WhereFailed (Ok t) P = Unit {0}
WhereFailed (Err (BadImage place)) P = Unit {0}
WhereFailed (Err (Failed call)) P = P

-- the count of faults is one more where a call failed, and else as it was
abbrev pub CountsFailed : {T : Type 0} → ℕ → ℕ → Result T TapeFault → Type 0
CountsFailed old new (Ok t) = new ≡ old
CountsFailed old new (Err (BadImage place)) = new ≡ old
CountsFailed old new (Err (Failed call)) = new ≡ raised old
