-- What devices have in common where their tables say nothing else (How to Use the Nova Computers, "Input-Output
-- Instructions").
use Rattle.std.specs.Prelude.{ℕ, ◌==◌, List, [], ◌∷◌, slice_index, slice_set, if◌then◌else◌}
use Rattle.unit_trait.specs.declared.calls.Pulse.{Pulse}
use Rattle.unit_trait.specs.declared.calls.Pulse.TheVariants.{Start, Clear}
use Rattle.unit_trait.specs.declared.calls.Queue.TheVariants.{Cancel, After}
use Rattle.unit_trait.specs.declared.calls.UnitStop.{UnitStop}
use Rattle.unit_trait.specs.declared.calls.UnitStop.TheVariants.{Go}
use Rattle.unit_trait.specs.Device.{Register}
use Rattle.unit_trait.specs.Calls.{Row, holds}

-- the registers with those values of BUSY and DONE, which are the first two
abbrev pub flagged : ℕ → ℕ → List ℕ → List ℕ
flagged busy done registers = slice_set (slice_set registers 0 busy) 1 done

-- the pulse behind a function: S sets BUSY and clears DONE, and an event is to come after that delay; C clears both, and
-- no event is to come; P does nothing
abbrev pub pulsed : Pulse → ℕ → Row → Row
pulsed Start delay row = record row { registers = flagged 1 0 row.registers; queue = After delay }
pulsed Clear delay row = record row { registers = flagged 0 0 row.registers; queue = Cancel }
pulsed other delay row = row

-- an operation is done: BUSY is cleared and DONE set
abbrev pub completed : List ℕ → Row
completed registers = holds (flagged 0 1 registers)

-- nothing has changed, and the unit's event is to come again after that delay
abbrev pub again : ℕ → List ℕ → Row
again delay registers = record (holds registers) { queue = After delay }

-- the machine stops for that reason where STOP_IOE, the third register, is 1
abbrev pub stopping : UnitStop → Row → Row
stopping stop row = record row { stop = if slice_index row.registers 2 == 1 then stop else Go }

-- what the registers hold behind a reset: those that it clears hold 0
abbrev pub reset_registers : List Register → List ℕ → List ℕ
reset_registers (r ∷ rs) (v ∷ vs) = (if r.cleared then 0 else v) ∷ reset_registers rs vs
reset_registers rs vs = []
