-- What a call that polls the lines of a machine leaves of them, of the ports and of the connections of the outside.
use Rattle.std.specs.Prelude.{◌≡◌, ◌⊎◌, ℕ, ◌≤◌, Bool, IsTrue, List, [], ◌∷◌, map, Option, Some, None, IfSome, option_map}
use Rattle.std.specs.List.{AllByRecursion}
use Rattle.host_lines.specs.declared.lines.Sent.{Sent}
use Rattle.host_lines.specs.Traffic.{Answer}
use Rattle.host_lines.specs.Told.{Heard, heard_more, IsFirst, record_in, ahead_of}
use Rattle.host_lines.specs.State.{LineState}
use Rattle.unit_trait.specs.declared.calls.Got.{Got}
use Rattle.telnet_lines.specs.Line.{LineOf}
use Rattle.telnet_lines.specs.Joined.{seen_line}
use Rattle.telnet_lines.specs.Many.{AreApart}
use Rattle.expect_actions.specs.Expects.{ExpectTable}
use Rattle.nova_machine.specs.declared.on_line.OnLine.{OnLine}
use Rattle.nova_machine.specs.OnLines.{Lined}
use Rattle.nova_machine.specs.OnLine.{got_on, stop_on, expects_on}

abbrev pub ports_of : {P : Type 0} → List (LineOf P) → List (Option ℕ)
ports_of {P} lines = map (λ (line : LineOf P). line.port) lines

-- no line has a port
abbrev pub HaveNoPort : List (LineOf ℕ) → Type 0
HaveNoPort lines = AllByRecursion (λ (line : LineOf ℕ). line.port ≡ None) lines

-- one of the lines has that connection
abbrev pub HasConnection : ℕ → List (LineOf ℕ) → Type 0
HasConnection conn [] = ⊥
HasConnection conn (line ∷ lines) = (line.connection ≡ Some conn) ⊎ HasConnection conn lines

-- What comes on the lines of a machine is told where the outside tells it and no two lines have one connection, or where
-- no line has a port.
abbrev pub AreLinesTold : Bool → LineState → List (LineOf ℕ) → Type 0
AreLinesTold tells s lines = (IsTrue tells × AreApart s lines) ⊎ HaveNoPort lines

-- callers have heard what they had, and maybe more behind it
abbrev pub HearsOn : Heard → Heard → Type 0
HearsOn before after = (more : List Sent) × (after ≡ heard_more before more)

-- What a call leaves: ports are listened on as before, and each line has its port; each connection that stands is one that
-- a line has, or stood before and was no line's; the count of faults has not fallen. Where no line has a port, nothing was
-- asked of the outside. What is told stays told, a record of answers grows at its end, and what was heard stays so.
pub record LinesGoOn (tells : Bool) (old : LineState) (before : List (LineOf ℕ)) (new : LineState) (after : List (LineOf ℕ)) : Type 0 where
  pub listens : new.listens ≡ old.listens
  pub ports : ports_of after ≡ ports_of before
  pub owned : (conn : ℕ) → IsTrue (new.stands conn) → HasConnection conn after ⊎ (IsTrue (old.stands conn) × (¬ HasConnection conn before))
  pub later : old.faults ≤ new.faults
  pub idle : HaveNoPort before → (new ≡ old) × (after ≡ before)
  pub told : AreLinesTold tells old before → AreLinesTold tells new after × IsFirst (record_in old.told) (record_in new.told)
  pub heard : IsTrue tells → HearsOn old.sent new.sent

-- bytes that were observed, each with its caller, and what callers have heard with these
abbrev pub named : ℕ × ℕ → Sent
named pair = record { caller = pair.0; byte = pair.1 }

abbrev pub heard_with : Heard → List (ℕ × ℕ) → Heard
heard_with before sent = heard_more before (map named sent)

-- A want came to this on a line, or was none for a line which is there: the answer for the unit, what is seen of the lines,
-- what is still to come, and what was sent.
pub record DoneOnLine (l : Option Lined) (answer : Option Got) (whole : List Answer) (old new : LineState) (after : List (LineOf ℕ)) : Type 0 where
  pub answers : answer ≡ option_map (λ (x : Lined). x.got) l
  pub lines : IfSome l (λ x. x.lines ≡ map (seen_line new) after)
  pub ahead : IfSome l (λ x. x.ahead ≡ ahead_of new.told whole)
  pub heard : IfSome l (λ x. new.sent ≡ heard_more old.sent x.sent)

-- the same, with the stop that the machine has for itself and the texts that are waited for
pub record DoneAs (l : Option Lined) (done : Option OnLine) (expects : ExpectTable) (whole : List Answer) (old new : LineState) (after : List (LineOf ℕ)) : Type 0 where
  pub line : DoneOnLine l (option_map got_on done) whole old new after
  pub stop : option_map (λ (x : Lined). x.stop) l ≡ option_map (λ d. stop_on d expects) done
  pub waits : option_map (λ (x : Lined). x.expects) l ≡ option_map (λ d. expects_on d expects) done
