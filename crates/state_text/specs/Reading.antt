-- What bytes say as a state file, in either version: its rows from left to right, and the digest. The first fault is meant. The digest is
-- compared behind the last row, and a byte behind the end is looked for only where it is right.
use Rattle.std.specs.Prelude.{ℕ, ◌==◌, List, length, take, Result, Ok, Err, if◌then◌else◌}
use Rattle.std.specs.Str.{bytes_eq}
use Rattle.sha2.specs.Sha256.{sha256}
use Rattle.byte_layouts.specs.declared.fault.FieldFault.{FieldFault}
use Rattle.byte_layouts.specs.Readers.{At, counted}
use Rattle.byte_layouts.specs.Layout.{reading as reading_of}
use Rattle.byte_layouts.specs.Fed.{first_place}
use Rattle.saved_session.specs.Parts.{State}
use Rattle.state_text.specs.declared.fault.StateFault.{StateFault}
use Rattle.state_text.specs.declared.fault.StateFault.TheVariants as faults
use Rattle.state_text.specs.Faults.{state_fault}
use Rattle.state_text.specs.Rows.{state_layout}

-- goes on with what was read, unless there was a fault
abbrev pub then_state : {A B : Type 0} → Result (A × At) FieldFault → (A → At → Result B StateFault) → Result B StateFault
then_state (Ok x) f = f x.0 x.1
then_state (Err fault) f = Err (state_fault fault)

-- nothing stands behind the end
abbrev pub ended : State → At → Result State StateFault
ended s at = if length at.rest == 0 then Ok s else Err (faults.BadField at.place)

abbrev pub compared : State → List ℕ → List ℕ → At → Result State StateFault
compared s found kept at = if bytes_eq kept found then ended s at else Err (faults.BadDigest kept found)

-- the digest is that of all bytes before it
abbrev pub sealed : List ℕ → ℕ × State → At → Result State StateFault
sealed bytes v at = then_state (counted 32 at) (compared v.1 (sha256 (take at.place bytes)))

-- what bytes say, or their one fault
unfoldable pub reading : List ℕ → Result State StateFault
reading bytes = then_state (reading_of state_layout (first_place bytes)) (sealed bytes)
