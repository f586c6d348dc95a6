-- What the machine's own answers mean that it makes of a tape operation.
use Rattle.std.specs.Prelude.{◌≡◌, ℕ, ◌≤◌, Option, Some, None, Result, Ok, Err}
use Rattle.fault_counts.specs.Faults.{raised}
use Rattle.file_traits.specs.declared.files.FileCall.{FileCall}
use Rattle.file_traits.specs.declared.files.FileCall.TheVariants.{Opening, Write, Closing}
use Rattle.file_traits.specs.OneList.{longest_list}
use Rattle.unit_trait.specs.declared.calls.Got.{Got}
use Rattle.unit_trait.specs.declared.calls.Got.TheVariants.{Tape, Done}
use Rattle.file_traits.specs.Failures.{Failure}
use Rattle.simh_tape.specs.declared.items.TapeFault.{TapeFault}
use Rattle.simh_tape.specs.declared.items.TapeFault.TheVariants.{BadImage, Failed}
use Rattle.memory_transfer.specs.declared.tape.TapeStop.{TapeStop}
use Rattle.memory_transfer.specs.declared.tape.TapeStop.TheVariants.{Image, Call}
use Rattle.memory_transfer.specs.Tapes.{NoAnswer, FileFails, ImageIsBad}

-- a stop in the words of the definition
abbrev pub no_answer : TapeStop → NoAnswer
no_answer (Image place) = ImageIsBad place
no_answer (Call f) = FileFails (record { call = f.call; done = f.done })

abbrev pub operated : Result Got TapeStop → Result Got NoAnswer
operated (Ok answer) = Ok answer
operated (Err stop) = Err (no_answer stop)

-- the failure that an answer claims
abbrev pub failure_in_stop : TapeStop → Option Failure
failure_in_stop (Image place) = None
failure_in_stop (Call f) = Some (record { call = f.call; done = f.done })

abbrev pub failure_of : Result Got TapeStop → Option Failure
failure_of (Ok answer) = None
failure_of (Err stop) = failure_in_stop stop

-- a fault of a reading
abbrev pub stop_of : TapeFault → TapeStop
stop_of (BadImage place) = Image place
stop_of (Failed call) = Call (record { call = call; done = 0 })

-- the place of a tape is one that an image can have
abbrev pub IsOnImage : Result Got TapeStop → Type 0
IsOnImage (Ok (Tape got)) = got.place ≤ longest_list
IsOnImage result = Unit {0}

-- the calls of an operation, and what they may have written
abbrev pub IsImageCall : FileCall → Type 0
IsImageCall Opening = ⊥
IsImageCall Closing = ⊥
IsImageCall call = Unit {0}

-- A write that fails may have written a first part, at most of the longest block that is written; other calls write nothing.
abbrev pub IsRunDone : FileCall → ℕ → Type 0
IsRunDone Write done = done ≤ 8200
IsRunDone other done = done ≡ 0

abbrev pub IsTapeCall : Result Got TapeStop → Type 0
IsTapeCall (Err (Call f)) = IsImageCall f.call × IsRunDone f.call f.done
IsTapeCall result = Unit {0}

-- the count of faults is one more where a call failed, and else as it was
abbrev pub CountsStop : ℕ → ℕ → Result Got TapeStop → Type 0
CountsStop before now (Err (Call f)) = now ≡ raised before
CountsStop before now result = now ≡ before

-- an operation on the file of a drive says where the tape stands, or was none
abbrev pub IsOfTape : Result Got TapeStop → Type 0
IsOfTape (Ok (Tape tape)) = Unit {0}
IsOfTape (Ok Done) = Unit {0}
IsOfTape (Ok other) = ⊥
IsOfTape (Err stop) = Unit {0}
