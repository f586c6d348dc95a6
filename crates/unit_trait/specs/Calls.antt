-- What is asked of a unit's device, and what it says (Writing a Simulator for the SIMH System, "Unit Service Routines" and
-- "I/O Instruction Handling").
use Rattle.std.specs.Prelude.{ℕ, List}
use Rattle.unit_trait.specs.declared.kind.Kind.{Kind}
use Rattle.unit_trait.specs.declared.calls.IoOp.{IoOp}
use Rattle.unit_trait.specs.declared.calls.Pulse.{Pulse}
use Rattle.unit_trait.specs.declared.calls.Queue.{Queue}
use Rattle.unit_trait.specs.declared.calls.Queue.TheVariants.{Keep}
use Rattle.unit_trait.specs.declared.calls.Want.{Want}
use Rattle.unit_trait.specs.declared.calls.Want.TheVariants.{Nothing}
use Rattle.unit_trait.specs.declared.calls.Got.{Got}
use Rattle.unit_trait.specs.declared.calls.UnitStop.{UnitStop}
use Rattle.unit_trait.specs.declared.calls.UnitStop.TheVariants.{Go}

-- the meaning of a device: its kind, and what its registers hold, in order
pub record UnitState : Type 0 where
  pub kind : Kind
  pub registers : List ℕ

-- what is asked: a word of input or output, by its function and pulse and the word that is sent; what the unit whose
-- event is due wants of the machine; to take the machine's answer to that; or a reset
pub data UnitCall : Type 0 where
  Io : IoOp → Pulse → ℕ → UnitCall
  Due : ℕ → UnitCall
  Answered : ℕ → Got → UnitCall
  Reset : UnitCall

-- what a device says: what its registers then hold, the word that an input answers, its wish to the event queue and the
-- number of the unit that it is for, what a unit wants of the machine, and whether the machine stops
pub record Row : Type 0 where
  pub registers : List ℕ
  pub word : ℕ
  pub queue : Queue
  pub unit : ℕ
  pub want : Want
  pub stop : UnitStop

-- nothing but its registers
abbrev pub holds : List ℕ → Row
holds registers = record { registers = registers; word = 0; queue = Keep; unit = 0; want = Nothing; stop = Go }
