-- A run: turns up to a stop or a count.
use Rattle.std.specs.Prelude.{ℕ, zero, suc, ◌^◌, ◌==◌, Bool, true, false, Option, Some, if◌then◌else◌}
use Rattle.nova_machine.specs.declared.machine.Stop.{Stop}
use Rattle.nova_machine.specs.declared.machine.Stop.TheVariants.{Stepped, Limit}
use Rattle.nova_machine.specs.Notes.{RunNote, at_time}
use Rattle.nova_machine.specs.Seen.{Seen}
use Rattle.nova_machine.specs.Parts.{Part, silent, then_part}
use Rattle.nova_machine.specs.Turn.{turn}

-- the stop of a run whose count is reached
abbrev pub expired : Bool → Stop
expired step = if step then Stepped else Limit

-- the end of time
abbrev pub last_time : ℕ
last_time = 2 ^ 60

-- a turn, where time has not ended
unfoldable pub next_turn : Option RunNote → Bool → Seen → Part
next_turn note first s = if s.machine.time == last_time then silent (Some Limit) s else turn (at_time s.machine.time note) first s

-- so many turns at the most, of which the first may be a run's first
unfoldable pub turns : Option RunNote → Bool → Bool → ℕ → Seen → Part
turns failing step first zero s = silent (Some (expired step)) s
turns failing step first (suc count) s = then_part (next_turn failing first s) (λ next. turns failing step false count next)

-- A run of that many instructions at the most: it makes turns until one stops, the count is reached, or time ends. One call
-- on a unit's file may fail in it, which ends it.
abbrev pub run : Option RunNote → Bool → ℕ → Seen → Part
run note step count s = turns note step true count s
