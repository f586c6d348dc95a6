-- Looks of the keyboards for a key, where none comes.
use Rattle.std.specs.Prelude.{◌≡◌, ◌<◌, ◌≤◌, ◌+◌, ◌==◌, ◌&&◌, ℕ, Bool, List, Option, Some, None, true, false, is_some, slice_get, if◌then◌else◌}
use Rattle.unit_trait.specs.declared.kind.UnitName.{UnitName}
use Rattle.unit_trait.specs.declared.kind.Kind.{Kind}
use Rattle.unit_trait.specs.declared.kind.Kind.TheVariants.{Tti, Tti1}
use Rattle.unit_trait.specs.declared.calls.Queue.{Queue}
use Rattle.unit_trait.specs.declared.calls.Queue.TheVariants.{After}
use Rattle.unit_trait.specs.declared.calls.Got.TheVariants.{NoKey}
use Rattle.unit_trait.specs.Kinds.{code_of}
use Rattle.unit_trait.specs.Calls.{UnitState, Answered}
use Rattle.unit_list.specs.Bus.{unit_at, row_at}
use Rattle.event_queue.specs.EventList.{Event, wished}
use Rattle.event_queue.specs.Idle.{AreLooks, AreOthersLater, AreTwins, AreLaterThanTwo, looked, idled}
use Rattle.telnet_lines.specs.Line.{LineOf, unconnected}
use Rattle.nova_interrupts.specs.Interrupts.{released}
use Rattle.nova_interrupts.specs.Requests.{requested}
use Rattle.expect_actions.specs.KeysFile.{due_key}
use Rattle.expect_actions.specs.Sends.{Send, due_send}
use Rattle.unit_files.specs.Acts.{Failure}
use Rattle.nova_processor.specs.declared.burst.BurstEnd.{BurstEnd}
use Rattle.nova_processor.specs.declared.burst.BurstEnd.TheVariants.{ChainLimit}
use Rattle.nova_machine.specs.Machine.{MachineState, console_place, place_of}
use Rattle.nova_machine.specs.Seen.{Seen, with_machine}
use Rattle.nova_machine.specs.Parts.{silent}
use Rattle.nova_machine.specs.Service.{key_at, service}

-- the console's keyboard
abbrev pub keyboard : UnitName
keyboard = record { kind = Tti; unit = 0 }

-- what it wishes for where no key comes
abbrev pub wish_of : MachineState → Queue
wish_of m = (row_at (code_of Tti) (Answered 0 NoKey) m.units).queue

-- the machine behind such a look: its event is asked for again
abbrev pub looked_again : MachineState → MachineState
looked_again m = record m { events = wished keyboard (wish_of m) m.events }

-- A look for which no key comes asks for the keyboard's event again, and changes nothing else, as long as the console line has
-- no port.
abbrev pub LooksChangeNothing : Type 0
LooksChangeNothing =
    (fault : Option Failure) (s : Seen) → is_some (unit_at (code_of Tti) s.machine.units) ≡ true → slice_get s.lines console_place ≡ Some (unconnected None) → key_at s ≡ None
    → service fault keyboard s ≡ silent None (with_machine s (looked_again s.machine))

-- no key comes before that time: none that was sent, and none that is typed
abbrev pub IsKeyless : ℕ → ℕ → List Send → List (ℕ × ℕ) → Type 0
IsKeyless until taken sends keys = (time : ℕ) → time < until → (due_send time sends ≡ None) × (due_key keys taken time ≡ None)

-- a keyboard
abbrev pub IsKeyed : Kind → Type 0
IsKeyed Tti = Unit {0}
IsKeyed Tti1 = Unit {0}
IsKeyed kind = ⊥

-- Where no key is sent or typed, none comes for that keyboard as long as its line has no port: the console line, or that of
-- the second teletype.
abbrev pub IsUnheard : {P : Type 0} → Kind → List (LineOf P) → Type 0
IsUnheard Tti lines = slice_get lines console_place ≡ Some (unconnected None)
IsUnheard Tti1 lines = slice_get lines (place_of 0) ≡ Some (unconnected None)
IsUnheard kind lines = ⊥

-- what a unit wishes for where no key comes
abbrev pub keyless_wish : UnitName → List UnitState → Queue
keyless_wish unit units = (row_at (code_of unit.kind) (Answered unit.unit NoKey) units).queue

-- such a keyboard, which looks for a key each so many instructions
pub record LooksEach (P : Type 0) (period : ℕ) (units : List UnitState) (lines : List (LineOf P)) (unit : UnitName) : Type 0 where
  pub unheard : IsUnheard unit.kind lines
  pub number : unit.unit ≡ 0
  pub wish : keyless_wish unit units ≡ After period

-- each event that is due within so many instructions is such a look, and no interrupt comes
pub record IsLooking (others period : ℕ) (m : MachineState) : Type 0 where
  pub quiet : (m.ints.on && requested m.ints.mask m.units) ≡ false
  pub some : 1 ≤ period
  pub looks : AreLooks (LooksEach ℕ period m.units m.lines) others m.events

-- A unit that looks so, where there is one.
abbrev pub LooksAt : ℕ → MachineState → Option UnitName → Type 0
LooksAt period m None = ⊥
LooksAt period m (Some unit) = LooksEach ℕ period m.units m.lines unit

-- Those looks are the first event, or the first two, which are due at one time: no other is due within so many instructions.
abbrev pub AreNext : Bool → ℕ → List Event → Type 0
AreNext false others events = AreOthersLater others events
AreNext true others events = AreTwins events × AreLaterThanTwo others events

-- so within so many instructions nothing comes but looks for which no key comes
pub record IsIdle (count period : ℕ) (m : MachineState) (sends : List Send) (keys : List (ℕ × ℕ)) : Type 0 where
  pub looking : IsLooking count period m
  pub keyless : (n : ℕ) → n < count → (due_send (m.time + n) sends ≡ None) × (due_key keys m.taken (m.time + n) ≡ None)

-- so many instructions have passed, and the looks before them
unfoldable pub idled_by : ℕ → ℕ → MachineState → MachineState
idled_by period count m = record m {
  ints = if count == 0 then m.ints else released m.ints;
  time = m.time + count;
  events = idled period count m.events;
}

-- the looks that are due have passed, where some are
unfoldable pub looked_at : ℕ → MachineState → MachineState
looked_at period m = record m { events = looked period m.events }

-- where a chain without an end stops the machine, the looks that are due there have passed
abbrev pub idle_end : BurstEnd → ℕ → MachineState → MachineState
idle_end ChainLimit period m = looked_at period m
idle_end end period m = m
