-- Registers within their limits: what is read there, and what may be put there.
use Rattle.std.proofs.Common.{ℕ, ◌≤◌, zero, suc, Bool, true, false, IsTrue, List, [], ◌∷◌, ◌++◌, take, drop, map, Option, Some, None, IfSome, arith, if◌then◌else◌}
use Rattle.std.specs.Prelude.{slice_get, slice_index, slice_set}
use Rattle.std.specs.List.{AllByRecursion}
use Rattle.std.proofs.lemmas.Bool.Decides.{nat_tests}
use Rattle.unit_trait.specs.declared.calls.Pulse.{Pulse}
use Rattle.unit_trait.specs.declared.calls.Pulse.TheVariants.{Start, Clear}
use Rattle.unit_trait.specs.Device.{Register, busy, done}
use Rattle.unit_trait.specs.Tape.{tape_length, tape_positions}
use Rattle.unit_trait.specs.Calls.{Row}
use Rattle.unit_trait.specs.Row.{InRange, takes_value}
use Rattle.unit_trait.specs.Usual.{flagged, pulsed, reset_registers}

-- a value is within the limits of a register, if there is one
abbrev pub IsWithin : Option Register → ℕ → Type 0
IsWithin register value = IfSome register (λ r. (r.least ≤ value) × (value ≤ r.largest))

-- what is read of a register is within its limits
pub held-within : (rs : List Register) (vs : List ℕ) (i : ℕ) → InRange rs vs → IsWithin (slice_get rs i) (slice_index vs i)
held-within [] [] i range = tt
held-within [] (v ∷ vs) i range = absurd range
held-within (r ∷ rs) [] i range = absurd range
held-within (r ∷ rs) (v ∷ vs) zero range = (range.0, range.1)
held-within (r ∷ rs) (v ∷ vs) (suc i) range = held-within rs vs i range.2

-- a value within the limits of a register was put there
pub set-within : (rs : List Register) (vs : List ℕ) (i value : ℕ) → InRange rs vs → IsWithin (slice_get rs i) value → InRange rs (slice_set vs i value)
set-within [] [] i value range within = tt
set-within [] (v ∷ vs) i value range within = absurd range
set-within (r ∷ rs) [] i value range within = absurd range
set-within (r ∷ rs) (v ∷ vs) zero value range within = (within.0, within.1, range.2)
set-within (r ∷ rs) (v ∷ vs) (suc i) value range within = (range.0, range.1, set-within rs vs i value range.2 within)

-- a value that a register takes is within its limits
pub taken-within : (register : Option Register) (value : ℕ) → IsTrue (takes_value register value) → IsWithin register value
taken-within None value takes = tt
taken-within (Some r) value takes = grind (arith, nat_tests)

-- each register takes a value
abbrev pub AllTake : ℕ → List Register → Type 0
AllTake value rs = AllByRecursion (λ (r : Register). (r.least ≤ value) × (value ≤ r.largest)) rs

pub all-within : (rs : List Register) (i value : ℕ) → AllTake value rs → IsWithin (slice_get rs i) value
all-within [] i value take = tt
all-within (r ∷ rs) zero value take = take.0
all-within (r ∷ rs) (suc i) value take = all-within rs i value take.1

-- the tape of a drive was put at one of its places
pub place-within : (vs : List ℕ) (drive place : ℕ) → InRange tape_positions vs → place ≤ tape_length → InRange tape_positions (slice_set vs drive place)
place-within vs drive place range low = set-within tape_positions vs drive place range (all-within tape_positions drive place (omega arith))

-- the registers from a number on, and what stands in front of them
pub rest-within : (n : ℕ) (rs : List Register) (vs : List ℕ) → InRange rs vs → InRange (drop n rs) (drop n vs)
rest-within zero rs vs range = range
rest-within (suc n) [] [] range = tt
rest-within (suc n) [] (v ∷ vs) range = absurd range
rest-within (suc n) (r ∷ rs) [] range = absurd range
rest-within (suc n) (r ∷ rs) (v ∷ vs) range = rest-within n rs vs range.2

pub rejoined-within : (n : ℕ) (rs : List Register) (vs ws : List ℕ) → InRange rs vs → InRange (drop n rs) ws → InRange rs (take n vs ++ ws)
rejoined-within zero rs vs ws range rest = rest
rejoined-within (suc n) [] [] ws range rest = rest
rejoined-within (suc n) [] (v ∷ vs) ws range rest = absurd range
rejoined-within (suc n) (r ∷ rs) [] ws range rest = absurd range
rejoined-within (suc n) (r ∷ rs) (v ∷ vs) ws range rest = (range.0, range.1, rejoined-within n rs vs ws range.2 rest)

-- BUSY and DONE were set, which are the first two
pub flags-within : (rs : List Register) (vs : List ℕ) (b d : ℕ) → b ≤ 1 → d ≤ 1 → InRange (busy ∷ done ∷ rs) vs → InRange (busy ∷ done ∷ rs) (flagged b d vs)
flags-within rs vs b d first second range =
    set-within (busy ∷ done ∷ rs) (slice_set vs 0 b) 1 d (set-within (busy ∷ done ∷ rs) vs 0 b range (omega arith, first)) (omega arith, second)

pub pulse-within : (rs : List Register) (pulse : Pulse) (delay : ℕ) (row : Row) → InRange (busy ∷ done ∷ rs) row.registers → InRange (busy ∷ done ∷ rs) (pulsed pulse delay row).registers
pulse-within rs Start delay row range = flags-within rs row.registers 1 0 (omega arith) (omega arith) range
pulse-within rs Clear delay row range = flags-within rs row.registers 0 0 (omega arith) (omega arith) range
pulse-within rs other delay row range = range

-- each register that a reset clears may hold 0
abbrev pub MayBeCleared : List Register → Type 0
MayBeCleared rs = AllByRecursion (λ (r : Register). (if r.cleared then r.least else 0) ≤ 0) rs

cleared-within : (cleared : Bool) (least largest v : ℕ) → (if cleared then least else 0) ≤ 0 → least ≤ v → v ≤ largest
    → (least ≤ (if cleared then 0 else v)) × ((if cleared then 0 else v) ≤ largest)
cleared-within true least largest v may low high = (may, omega arith)
cleared-within false least largest v may low high = (low, high)

pub reset-within : (rs : List Register) (vs : List ℕ) → MayBeCleared rs → InRange rs vs → InRange rs (reset_registers rs vs)
reset-within [] [] may range = tt
reset-within [] (v ∷ vs) may range = absurd range
reset-within (r ∷ rs) [] may range = absurd range
reset-within (r ∷ rs) (v ∷ vs) may range =
    let here = cleared-within r.cleared r.least r.largest v may.0 range.0 range.1 in
    (here.0, here.1, reset-within rs vs may.1 range.2)

-- each register may hold what it holds at first
abbrev pub MayBegin : List Register → Type 0
MayBegin rs = AllByRecursion (λ (r : Register). (r.least ≤ r.initial) × (r.initial ≤ r.largest)) rs

pub initial-within : (rs : List Register) → MayBegin rs → InRange rs (map (λ r. r.initial) rs)
initial-within [] may = tt
initial-within (r ∷ rs) may = (may.0.0, may.0.1, initial-within rs may.1)
