-- What a session leaves of the ports and the connections of the outside, from a machine that begins to the program's end.
use Rattle.std.proofs.Common.{◌≡◌, inl, inr, ◌∙◌, ap, sym, subst, refl, ℕ, zero, suc, true≢false, List, ◌∷◌, replicate, slice_get, Option, Some, None, is_some, Bool, arith}
use Rattle.std.proofs.lemmas.Option.{same_Some}
use Rattle.std.proofs.lemmas.List.{length-replicate}
use Rattle.host_lines.specs.State.{LineState}
use Rattle.telnet_lines.specs.Line.{LineOf, unconnected}
use Rattle.telnet_lines.specs.Many.{AreApart}
use Rattle.terminal_ports.specs.Ports.{HaveNone, HavePortsApart}
use Rattle.nova_machine.specs.Machine.{MachineState, lines_for, line_count}
use Rattle.command_session.specs.LinesLeft.{AreListened, LinesLeft}
use Rattle.command_session.proofs.PortLemmas.{apart-free}
use Rattle.command_laws.proofs.OwnLines.{same-many}
use Rattle.unit_list.specs.Bus.{kinds_of}
use Rattle.unit_trait.specs.Calls.{UnitState}
use Rattle.nova_top.specs.Ends.{PortsAtEnd, LinesAtEnd}

-- ---- lines without a port, to which nobody is connected

nobody : (n i : ℕ) (line : LineOf ℕ) → slice_get (replicate n (unconnected None)) i ≡ Some line → (conn : ℕ) → line.connection ≡ Some conn → ⊥
nobody zero i line at conn own = absurd (cc)
nobody (suc n) zero line at conn own =
    let same : unconnected None ≡ line = same_Some (unconnected None) line at in
    true≢false (ap is_some (sym own ∙ ap (λ (l : LineOf ℕ). l.connection) (sym same)))
nobody (suc n) (suc i) line at conn own = nobody n i line at conn own

begins-apart : (s : LineState) (n : ℕ) → AreApart s (replicate n (unconnected None))
begins-apart s n = record {
  linked = λ i line at conn own. absurd (nobody n i line at conn own);
  apart = λ i j one other differ here there conn own its. absurd (nobody n i one here conn own);
}

pub begins-free : (n : ℕ) → HaveNone {P = ℕ} (replicate n (unconnected None))
begins-free zero = tt
begins-free (suc n) = (refl, begins-free n)

begins-listened : (s : LineState) (n : ℕ) → AreListened s (replicate n (unconnected None))
begins-listened s zero = tt
begins-listened s (suc n) = (tt, begins-listened s n)

-- so they are of a machine that begins
abbrev first_count : List UnitState → ℕ
first_count units = suc (line_count units)

pub apart-at-first : (units : List UnitState) (s : LineState) (lines : List (LineOf ℕ)) → lines ≡ lines_for units → AreApart s lines
apart-at-first units s lines is = subst (λ (ls : List (LineOf ℕ)). AreApart s ls) (sym is) (begins-apart s (first_count units))

-- what a session has left that began so is left at the end
ports-left : (units : List UnitState) (tells : Bool) (old new : LineState) (lines : List (LineOf ℕ)) → LinesLeft tells old (lines_for units) new lines → PortsAtEnd units lines old new
ports-left units tells old new lines left =
    let begins : HavePortsApart (lines_for units) = apart-free (lines_for units) (begins-free (first_count units)) in
    record {
      count = left.many;
      session = left.session begins;
      listened = left.listened begins (begins-listened old (first_count units));
      ports = λ port is. elim (left.ports port is) [ inl has ↦ inl has | inr was ↦ inr was.0 ];
      owned = λ conn is. elim (left.owned conn is) [ inl has ↦ inl has | inr was ↦ inr was.0 ];
      later = left.later;
    }

pub lines-at-end : (units : List UnitState) (tells : Bool) (old new : LineState) (before : List (LineOf ℕ)) (m : MachineState) → before ≡ lines_for units → LinesLeft tells old before new m.lines
    → LinesAtEnd units (Some m) old new
lines-at-end units tells old new before m is left =
    ports-left units tells old new m.lines (subst (λ (ls : List (LineOf ℕ)). LinesLeft tells old ls new m.lines) is left)

-- the same of units of the same kinds
pub lines-by-kinds : (us vs : List UnitState) → kinds_of us ≡ kinds_of vs → lines_for us ≡ lines_for vs
lines-by-kinds us vs same =
    let one = length-replicate {A = LineOf ℕ} (line_count us) (unconnected None) in
    let other = length-replicate {A = LineOf ℕ} (line_count vs) (unconnected None) in
    let many = same-many us vs same in
    let count : line_count us ≡ line_count vs = omega (arith, one, other, many) in
    ap (λ (n : ℕ). unconnected {P = ℕ} None ∷ replicate {A = LineOf ℕ} n (unconnected None)) count

pub lines-of-kinds : (us vs : List UnitState) (machine : Option MachineState) (old new : LineState) → kinds_of us ≡ kinds_of vs → LinesAtEnd us machine old new → LinesAtEnd vs machine old new
lines-of-kinds us vs None old new same none = none
lines-of-kinds us vs (Some m) old new same left = record {
  count = left.count ∙ same-many us vs same;
  session = left.session;
  listened = left.listened;
  ports = left.ports;
  owned = left.owned;
  later = left.later;
}

-- without a machine
pub lines-unasked : (units : List UnitState) (machine : Option MachineState) (s : LineState) → machine ≡ None → LinesAtEnd units machine s s
lines-unasked units machine s none = subst (λ (m : Option MachineState). LinesAtEnd units m s s) (sym none) refl
