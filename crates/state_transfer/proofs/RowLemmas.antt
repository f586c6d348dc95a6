-- The rows of lines that get the ports of a saved session.
use Rattle.std.proofs.Common.{◌≡◌, ℕ, zero, suc, ◌+◌, ◌-◌, ◌<◌, ◌≤◌, true, List, [], ◌∷◌, ◌++◌, map, slice_get, slice_set, Some, refl, ap, sym, ◌∙◌, arith}
use Rattle.telnet_lines.specs.Line.{LineOf, unconnected}
use Rattle.terminal_ports.specs.Listening.{rising}
use Rattle.terminal_ports.specs.Rows.{row_from, with_ports}
use Rattle.terminal_ports.proofs.PortsApart.{changed-set}
use Rattle.terminal_ports.proofs.Rows.{none-from, some-from, row-ports, ports-both}
use Rattle.terminal_ports.proofs.RowPorts.{with-both}
use Rattle.nova_machine.specs.Machine.{MachineState, console_place, place_of as line_place}
use Rattle.saved_session.specs.declared.saved.SavedPorts.{SavedPorts}
use Rattle.state_transfer.specs.Ports.{how_many, is_line, multiplexer_lines, assigned, ports_wanted}

-- the console line has its port
pub console-put : (n port : ℕ) (lines : List (LineOf ℕ)) (line after : LineOf ℕ) → n ≤ 1 → 0 < n
    → slice_get lines console_place ≡ Some line → after ≡ unconnected (Some port)
    → slice_set lines console_place after ≡ with_ports (row_from n console_place port) lines
console-put n port lines line after most some at becomes =
    let one : n - 1 ≡ 0 = omega (arith, most, some) in
    let row : row_from n console_place port ≡ (console_place, port) ∷ [] =
    some-from n console_place port some
    ∙ ap (λ (given : List (ℕ × ℕ)). (console_place, port) ∷ given) (none-from (n - 1) (console_place + 1) (port + 1) one) in
    ap (slice_set lines console_place) becomes
    ∙ changed-set (λ (line : LineOf ℕ). unconnected (Some port)) console_place lines line at
    ∙ sym (ap (λ (given : List (ℕ × ℕ)). with_ports given lines) row)

-- ---- the three rows

row-ends : (n port : ℕ) → rising n port ≡ [] → n ≡ 0
unfolding rising
row-ends zero port none = refl
row-ends (suc n) port none = absurd (cc)

front-empty : (first second : List ℕ) → first ++ second ≡ [] → (first ≡ []) × (second ≡ [])
front-empty [] second none = (refl, none)
front-empty (p ∷ first) second none = absurd (cc)

pub none-wanted : (a p b q c r : ℕ) → rising a p ++ (rising b q ++ rising c r) ≡ [] → (a ≡ 0) × (b ≡ 0) × (c ≡ 0)
none-wanted a p b q c r none =
    let first = front-empty (rising a p) (rising b q ++ rising c r) none in
    let second = front-empty (rising b q) (rising c r) first.1 in
    (row-ends a p first.0, row-ends b q second.0, row-ends c r second.1)

module _ {P : Type 0} (p : SavedPorts) (lines : List (LineOf P)) (a b c : ℕ)
    (first : a ≡ how_many p.tti1 1 (is_line 0 lines))
    (second : b ≡ how_many p.qty multiplexer_lines (is_line multiplexer_lines lines))
    (third : c ≡ how_many p.console 1 true) where
  pub assigned-rows : assigned p lines
      ≡ row_from a (line_place 0) p.tti1 ++ (row_from b (line_place 1) p.qty ++ row_from c console_place p.console)
  unfolding assigned
  assigned-rows = λ i.
      row_from (sym first i) (line_place 0) p.tti1
      ++ (row_from (sym second i) (line_place 1) p.qty ++ row_from (sym third i) console_place p.console)

  pub wanted-rows : ports_wanted p lines ≡ rising a p.tti1 ++ (rising b p.qty ++ rising c p.console)
  wanted-rows =
      ap (map (λ (g : ℕ × ℕ). g.1)) assigned-rows
      ∙ ports-both (row_from a (line_place 0) p.tti1) (row_from b (line_place 1) p.qty ++ row_from c console_place p.console)
      ∙ ap (λ (ports : List ℕ). map (λ (g : ℕ × ℕ). g.1) (row_from a (line_place 0) p.tti1) ++ ports)
      (ports-both (row_from b (line_place 1) p.qty) (row_from c console_place p.console))
      ∙ (λ i. row-ports a (line_place 0) p.tti1 i ++ (row-ports b (line_place 1) p.qty i ++ row-ports c console_place p.console i))

  pub lines-given : (one two three : List (LineOf P)) → one ≡ with_ports (row_from a (line_place 0) p.tti1) lines
      → two ≡ with_ports (row_from b (line_place 1) p.qty) one
      → three ≡ with_ports (row_from c console_place p.console) two → three ≡ with_ports (assigned p lines) lines
  lines-given one two three is_one is_two is_three =
      let low = row_from a (line_place 0) p.tti1 in
      let high = row_from b (line_place 1) p.qty in
      let last = row_from c console_place p.console in
      is_three ∙ ap (with_ports last) (is_two ∙ ap (with_ports high) is_one)
      ∙ sym (with-both high last (with_ports low lines)) ∙ sym (with-both low (high ++ last) lines)
      ∙ ap (λ (given : List (ℕ × ℕ)). with_ports given lines) (sym assigned-rows)

-- the lines of a machine have their ports
pub machine-given : (p : SavedPorts) (old one two three : MachineState) (a b c : ℕ)
    → a ≡ how_many p.tti1 1 (is_line 0 old.lines) → b ≡ how_many p.qty multiplexer_lines (is_line multiplexer_lines old.lines)
    → c ≡ how_many p.console 1 true
    → one ≡ record old { lines = with_ports (row_from a (line_place 0) p.tti1) old.lines }
    → two ≡ record one { lines = with_ports (row_from b (line_place 1) p.qty) one.lines }
    → three ≡ record two { lines = with_ports (row_from c console_place p.console) two.lines }
    → three ≡ record old { lines = with_ports (assigned p old.lines) old.lines }
machine-given p old one two three a b c first second third is_one is_two is_three =
    let low = row_from a (line_place 0) p.tti1 in
    let high = row_from b (line_place 1) p.qty in
    let last = row_from c console_place p.console in
    is_three
    ∙ ap (λ (m : MachineState). record m { lines = with_ports last m.lines })
    (is_two ∙ ap (λ (m : MachineState). record m { lines = with_ports high m.lines }) is_one)
    ∙ ap (λ (lines : List (LineOf ℕ)). record old { lines = lines })
    (lines-given p old.lines a b c first second third (with_ports low old.lines) (with_ports high (with_ports low old.lines))
    (with_ports last (with_ports high (with_ports low old.lines))) refl refl refl)
