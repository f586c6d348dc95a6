-- The lines of a row give up their ports, one behind another.
use Rattle.std.proofs.Common.{◌≡◌, inl, inr, ◌∙◌, ap, sym, refl, subst, ℕ, zero, suc, ◌+◌, ◌-◌, ◌<◌, Bool, List, [], ◌∷◌, map}
use Rattle.host_lines.specs.State.{LineState}
use Rattle.telnet_lines.specs.Line.{LineOf}
use Rattle.telnet_lines.specs.Joined.{seen_line}
use Rattle.terminal_ports.specs.Ports.{changed_at}
use Rattle.terminal_ports.specs.Rows.{changed_row}
use Rattle.terminal_ports.proofs.Rows.{none-changed, some-changed}
use Rattle.nova_machine.specs.LineChanges.{HaveNoPort, AreLinesTold}
use Rattle.command_session.specs.LineEffects.{closed}
use Rattle.command_session.specs.LinesLeft.{LinesLeft, SeenAs}
use Rattle.command_session.proofs.PortLemmas.{closed-free}

-- the first of them, and those behind it
pub closed-then : {P : Type 0} (n place left next : ℕ) (lines : List (LineOf P)) → 0 < n → left ≡ n - 1 → next ≡ place + 1
    → changed_row n place closed lines ≡ changed_row left next closed (changed_at place closed lines)
closed-then n place left next lines some less more =
    some-changed n place closed lines some ∙ (λ i. changed_row (sym less i) (sym more i) closed (changed_at place closed lines))

-- ---- what comes is told on

none-have : (place : ℕ) (lines : List (LineOf ℕ)) → HaveNoPort lines → HaveNoPort (changed_at place closed lines)
none-have place [] none = tt
none-have zero (line ∷ lines) none = (closed-free line.port line refl, none.1)
none-have (suc place) (line ∷ lines) none = (none.0, none-have place lines none.1)

pub told-behind : (tells : Bool) (place : ℕ) (old mid : LineState) (lines between : List (LineOf ℕ)) → LinesLeft tells old lines mid between → between ≡ changed_at place closed lines
    → AreLinesTold tells old lines → AreLinesTold tells mid between
told-behind tells place old mid lines between left is (inl told) = inl (told.0, (left.told told.0 told.1).0)
told-behind tells place old mid lines between left is (inr none) = inr (subst (λ (ls : List (LineOf ℕ)). HaveNoPort ls) (sym is) (none-have place lines none))

-- ---- as they are seen

pub none-seen : (n place : ℕ) (s : LineState) (lines : List (LineOf ℕ)) → n ≡ 0 → SeenAs (changed_row n place closed) s lines s lines
none-seen n place s lines none = record { lines = sym (none-changed n place closed (map (seen_line s) lines) none); told = refl; sent = refl }

pub seen-then : (n place left next : ℕ) (old mid new : LineState) (before between after : List (LineOf ℕ)) → 0 < n → left ≡ n - 1 → next ≡ place + 1
    → SeenAs (changed_at place closed) old before mid between → SeenAs (changed_row left next closed) mid between new after → SeenAs (changed_row n place closed) old before new after
seen-then n place left next old mid new before between after some less more one two = record {
  lines = two.lines ∙ ap (changed_row left next closed) one.lines ∙ sym (closed-then n place left next (map (seen_line old) before) some less more);
  told = two.told ∙ one.told;
  sent = two.sent ∙ one.sent;
}
