-- What holds of every run, in a reader's words. A law is proved where a public function's contract is that law.
use Rattle.std.specs.Prelude.{◌≡◌, ℕ, ◌+◌, ◌<◌, ◌≤◌, ◌⊎◌, Bool, false, Option, Some, None}
use Rattle.expect_actions.specs.Breaks.{has_break}
use Rattle.nova_machine.specs.declared.machine.Stop.{Stop}
use Rattle.nova_machine.specs.declared.machine.Stop.TheVariants.{Stepped, Limit}
use Rattle.nova_machine.specs.Machine.{MachineState}
use Rattle.nova_machine.specs.Notes.{RunNote, at_time}
use Rattle.nova_machine.specs.Seen.{Seen}
use Rattle.nova_machine.specs.Parts.{behind_made}
use Rattle.nova_machine.specs.Turn.{attended}
use Rattle.nova_machine.specs.Run.{run, expired, last_time}

-- the stops of a run that only its count or the end of time has ended
abbrev pub IsLimit : Option Stop → Type 0
IsLimit (Some Stepped) = Unit {0}
IsLimit (Some Limit) = Unit {0}
IsLimit _ = ⊥

-- no break has the address that the next turn tests, where it comes to that
abbrev pub PassesNoBreak : Option RunNote → Seen → Type 0
PassesNoBreak note s =
    let at = attended (at_time s.machine.time note) s in
    at.stop ≡ None → has_break at.after.machine.processor.cpu.pc at.after.watch.breaks.list ≡ false

-- a run of n + k is a run of n and then a run of k, with what the first made in front
pub record RunSplits : Type 0 where
  -- where the run of n has reached its count
  pub counted : (note : Option RunNote) (step : Bool) (n k : ℕ) (s : Seen) → (run note step n s).stop ≡ Some (expired step) → PassesNoBreak note (run note step n s).after
      → run note step (n + k) s ≡ behind_made (run note step n s).made (run note step k (run note step n s).after)
  -- where the two may be named apart, as a STEP and then a GO, and time may have ended within the first
  pub limited : (note : Option RunNote) (one step : Bool) (n k : ℕ) (s : Seen) → IsLimit (run note one n s).stop → 0 < k → PassesNoBreak note (run note one n s).after
      → run note step (n + k) s ≡ behind_made (run note one n s).made (run note step k (run note one n s).after)
  -- another stop within the first n ends the whole run
  pub stopped : (note : Option RunNote) (one step : Bool) (n k : ℕ) (s : Seen) → ¬ IsLimit (run note one n s).stop → run note step (n + k) s ≡ run note one n s

-- what no run changes: how many words the memory has, the switch register, STOP_DEV, and what is attached
pub record Unchanged (before after : MachineState) : Type 0 where
  pub size : after.processor.memory.size ≡ before.processor.memory.size
  pub sr : after.sr ≡ before.sr
  pub stop_dev : after.stop_dev ≡ before.stop_dev
  pub slots : after.slots ≡ before.slots

-- how time grows over a run, and what no run changes
pub record RunTakesTime : Type 0 where
  pub least : (note : Option RunNote) (step : Bool) (n : ℕ) (s : Seen) → s.machine.time ≤ (run note step n s).after.machine.time
  pub most : (note : Option RunNote) (step : Bool) (n : ℕ) (s : Seen) → (run note step n s).after.machine.time ≤ s.machine.time + n
  -- a run that is over by its count has executed that many instructions, and no fewer but at the end of time
  pub stepped : (note : Option RunNote) (step : Bool) (n : ℕ) (s : Seen) → (run note step n s).stop ≡ Some Stepped → (run note step n s).after.machine.time ≡ s.machine.time + n
  pub limited : (note : Option RunNote) (step : Bool) (n : ℕ) (s : Seen) → IsLimit (run note step n s).stop
      → ((run note step n s).after.machine.time ≡ s.machine.time + n) ⊎ ((run note step n s).after.machine.time ≡ last_time)
  -- where no instruction was executed, interrupts wait as before
  pub held : (note : Option RunNote) (step : Bool) (n : ℕ) (s : Seen) → (run note step n s).after.machine.time ≡ s.machine.time → (run note step n s).after.machine.ints.hold ≡ s.machine.ints.hold
  pub unchanged : (note : Option RunNote) (step : Bool) (n : ℕ) (s : Seen) → Unchanged s.machine (run note step n s).after.machine
