-- What becomes of a break where a run is split: the second run passes it once.
use Rattle.std.specs.Prelude.{◌≡◌, ℕ, suc, ◌+◌, ◌<◌, Bool, true, false, Option, Some, None}
use Rattle.nova_machine.specs.declared.machine.Stop.TheVariants.{Break}
use Rattle.nova_machine.specs.Notes.{UnitNote, RunNote, at_time}
use Rattle.nova_machine.specs.Seen.{Seen}
use Rattle.nova_machine.specs.Parts.{behind_made}
use Rattle.nova_machine.specs.Turned.{still}
use Rattle.nova_machine.specs.Turn.{attended, fetch, turn}
use Rattle.nova_machine.specs.Run.{run, turns, next_turn, last_time}
use Rattle.nova_machine.specs.Laws.{IsLimit}
use Rattle.nova_machine.specs.StopLaws.{IsBroken}

-- the next turn, where it tests the breaks, stops at the one with that number
pub record MeetsBreak (note : Option RunNote) (s : Seen) (number : ℕ) : Type 0 where
  pub early : s.machine.time < last_time
  pub broken : IsBroken (at_time s.machine.time note) false s number

pub record BreaksArePassedOnce : Type 0 where
  -- A run of n + k goes on behind its first n with turns that all test the breaks. So a break there counts, and one that stops
  -- ends it.
  pub whole : (note : Option RunNote) (one step : Bool) (n k : ℕ) (s : Seen) → 0 < n → 0 < k → IsLimit (run note one n s).stop
      → run note step (n + k) s ≡ behind_made (run note one n s).made (turns note step false k (run note one n s).after)
  pub stops : (note : Option RunNote) (one step : Bool) (n k number : ℕ) (s : Seen) → 0 < n → 0 < k → IsLimit (run note one n s).stop
      → MeetsBreak note (run note one n s).after number → (run note step (n + k) s).stop ≡ Some (Break number)
  -- A run of k from there tests none in its first turn: from the services and the interrupt it goes on to the instruction, and
  -- the breaks and their counts are as they were.
  pub passes : (note : Option UnitNote) (s : Seen) → (attended note s).stop ≡ None
      → turn note true s ≡ behind_made (attended note s).made (still (attended note s).after (fetch (attended note s).after.machine))
  -- And it does that once: all its other turns test them.
  pub once : (note : Option RunNote) (step : Bool) (k : ℕ) (s : Seen) → (next_turn note true s).stop ≡ None
      → run note step (suc k) s ≡ behind_made (next_turn note true s).made (turns note step false k (next_turn note true s).after)
