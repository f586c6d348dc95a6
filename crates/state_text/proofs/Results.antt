-- What is known of a reading of a state file behind its answer.
use Rattle.std.proofs.Common.{◌≡◌, Bool, true, false, cond, Result, Ok, Err, refl, ap}
use Rattle.byte_layouts.specs.declared.fault.FieldFault.{FieldFault}
use Rattle.byte_layouts.specs.declared.fault.FieldFault.TheVariants.{NotHead, Version, BadField, Truncated, OutOfMemory}
use Rattle.byte_layouts.specs.Readers.{At, Fails as FieldFails}
use Rattle.state_text.specs.declared.fault.StateFault.{StateFault}
use Rattle.state_text.specs.Faults.{state_fault}
use Rattle.state_text.specs.Gives.{Fails}
use Rattle.state_text.specs.Reading.{then_state}

-- what went on to a value had one to go on with
pub state_parts : {A B : Type 0} (read : Result (A × At) FieldFault) (f : A → At → Result B StateFault) (y : B) → then_state read f ≡ Ok y
    → (x : A) × (mid : At) × (read ≡ Ok (x, mid)) × (f x mid ≡ Ok y)
state_parts (Ok x) f y e = (x.0, x.1, refl, e)
state_parts (Err fault) f y e = absurd cc

-- a choice that has a value, where the other side is a fault
pub state_chosen : {A : Type 0} (b : Bool) (read : Result A StateFault) (d : StateFault) (y : A) → cond b read (Err d) ≡ Ok y → (b ≡ true) × (read ≡ Ok y)
state_chosen true read d y e = (refl, e)
state_chosen false read d y e = absurd cc

-- what goes on from a fault has that fault
pub fails_then : {A B : Type 0} (fault : FieldFault) (read : Result (A × At) FieldFault) (f : A → At → Result B StateFault) → FieldFails fault read → Fails (state_fault fault) (then_state read f)
fails_then OutOfMemory read f e = tt
fails_then {A} {B} NotHead read f e = ap (λ (z : Result (A × At) FieldFault). then_state {B = B} z f) e
fails_then {A} {B} (Version n) read f e = ap (λ (z : Result (A × At) FieldFault). then_state {B = B} z f) e
fails_then {A} {B} (BadField place) read f e = ap (λ (z : Result (A × At) FieldFault). then_state {B = B} z f) e
fails_then {A} {B} Truncated read f e = ap (λ (z : Result (A × At) FieldFault). then_state {B = B} z f) e
