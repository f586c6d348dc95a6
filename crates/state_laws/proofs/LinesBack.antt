-- The lines of a session are put back by what is saved of their ports.
use Rattle.std.proofs.Common.{◌≡◌, ◌≢◌, ◌⊎◌, inl, inr, ℕ, zero, suc, ◌<◌, ◌==◌, not, Bool, true, false, List, [], ◌∷◌, ◌++◌, length, map, drop, slice_get, is_some, Option, Some, None, refl, sym, ap, ◌∙◌, arith}
use Rattle.std.specs.Prelude.{if◌then◌else◌}
use Rattle.std.specs.List.{AllByRecursion}
use Rattle.std.proofs.lemmas.Bool.Decides.{nat_tests}
use Rattle.host_lines.specs.Traffic.{Peer}
use Rattle.telnet_lines.specs.Line.{LineOf, unconnected}
use Rattle.terminal_ports.specs.Ports.{changed_at, HavePortsFrom, AreNumbered}
use Rattle.terminal_ports.specs.Rows.{row_from, with_ports}
use Rattle.terminal_ports.proofs.RowPorts.{with-both}
use Rattle.unit_trait.specs.Calls.{UnitState}
use Rattle.nova_machine.specs.Machine.{has_terminal, has_multiplexer, line_count, place_of as line_place}
use Rattle.state_transfer.specs.Session.{port_number, saved_ports}
use Rattle.state_transfer.specs.Ports.{how_many, is_line, multiplexer_lines, assigned}
use Rattle.state_transfer.specs.PutBack.{IsIdleLine, lines_from}

-- ---- how many lines a machine has

-- the console line alone, or with line 0, or with line 0 and those of the multiplexer
pub LineCounts : ℕ → Type 0
LineCounts n = (n ≡ 0) ⊎ ((n ≡ 1) ⊎ (n ≡ 65))

pub line-counts : (units : List UnitState) → LineCounts (line_count units)
unfolding LineCounts
line-counts units = by (has_multiplexer units) (has_terminal units)
  where
    by : (mux terminal : Bool) → LineCounts (if mux then 65 else if terminal then 1 else 0)
    by true terminal = inr (inr refl)
    by false true = inr (inl refl)
    by false false = inl refl

-- ---- ports given one behind another

-- a row that does not begin at the first line leaves that as it is
pub row-behind : {P : Type 0} (count place port : ℕ) (line : LineOf P) (lines : List (LineOf P))
    → with_ports (row_from count (suc place) port) (line ∷ lines) ≡ line ∷ with_ports (row_from count place port) lines
unfolding row_from
row-behind zero place port line lines = refl
row-behind {P} (suc count) place port line lines =
    row-behind count (suc place) (suc port) line (changed_at place (λ (l : LineOf P). unconnected (Some port)) lines)

-- ---- one line

-- a port that is one is not 0
pub not-none : (port : ℕ) → (suc port == 0) ≡ false
not-none port = grind (arith, nat_tests)

-- .. and is given to so many lines
pub how-many : (port count : ℕ) → how_many (suc port) count true ≡ count
how-many port count = ap (λ (b : Bool). if not b then count else 0) (not-none port)

-- as many lines as these, none of which has a port
abbrev pub free_lines : List (LineOf Peer) → List (LineOf Peer)
free_lines lines = map (λ (line : LineOf Peer). unconnected None) lines

one-back : (line : LineOf Peer) (lines : List (LineOf Peer)) → IsIdleLine line
    → with_ports (row_from (how_many (port_number line.port) 1 true) 0 (port_number line.port)) (unconnected None ∷ lines) ≡ line ∷ lines
unfolding row_from
one-back line lines idle = by line.port idle.port ∙ ap (λ (l : LineOf Peer). l ∷ lines) (sym idle.nobody)
  where
    by : (port : Option ℕ) → port ≢ Some 0
        → with_ports (row_from (how_many (port_number port) 1 true) 0 (port_number port)) (unconnected None ∷ lines) ≡ unconnected port ∷ lines
    by None some = refl
    by (Some zero) some = absurd (some refl)
    by (Some (suc n)) some = ap (λ (k : ℕ). with_ports (row_from k 0 (suc n)) (unconnected None ∷ lines)) (how-many n 1)

-- ---- the lines of the multiplexer

none-back : (lines present : List (LineOf Peer)) → HavePortsFrom None lines → AllByRecursion IsIdleLine lines → length present ≡ length lines → free_lines present ≡ lines
none-back [] [] none idle same = refl
none-back [] (p ∷ present) none idle same = absurd (omega (arith, same))
none-back (line ∷ lines) [] none idle same = absurd (omega (arith, same))
none-back (line ∷ lines) (p ∷ present) none idle same =
    ap (λ (x : Option ℕ). unconnected x ∷ free_lines present) (sym none.0)
    ∙ ap (λ (l : LineOf Peer). l ∷ free_lines present) (sym idle.0.nobody)
    ∙ ap (λ (l : List (LineOf Peer)). line ∷ l) (none-back lines present none.1 idle.1 (omega (arith, same)))

rising-back : (port : ℕ) (lines present : List (LineOf Peer)) → HavePortsFrom (Some port) lines → AllByRecursion IsIdleLine lines → length present ≡ length lines
    → with_ports (row_from (length lines) 0 port) (free_lines present) ≡ lines
unfolding row_from
rising-back port [] [] rise idle same = refl
rising-back port [] (p ∷ present) rise idle same = absurd (omega (arith, same))
rising-back port (line ∷ lines) [] rise idle same = absurd (omega (arith, same))
rising-back port (line ∷ lines) (p ∷ present) rise idle same =
    row-behind (length lines) 0 (suc port) (unconnected (Some port)) (free_lines present)
    ∙ ap (λ (x : Option ℕ). unconnected x ∷ with_ports (row_from (length lines) 0 (suc port)) (free_lines present)) (sym rise.0)
    ∙ ap (λ (l : LineOf Peer). l ∷ with_ports (row_from (length lines) 0 (suc port)) (free_lines present)) (sym idle.0.nobody)
    ∙ ap (λ (l : List (LineOf Peer)). line ∷ l) (rising-back (suc port) lines present rise.1 idle.1 (omega (arith, same)))

many-back : (count : ℕ) (line : LineOf Peer) (lines present : List (LineOf Peer)) → count ≡ length (line ∷ lines) → AreNumbered (line ∷ lines)
    → AllByRecursion IsIdleLine (line ∷ lines) → length present ≡ length (line ∷ lines)
    → with_ports (row_from (how_many (port_number line.port) count true) 0 (port_number line.port)) (free_lines present) ≡ line ∷ lines
unfolding row_from
many-back count line lines present all are idle same = by line.port idle.0.port (refl, are)
  where
    by : (port : Option ℕ) → port ≢ Some 0 → HavePortsFrom port (line ∷ lines)
        → with_ports (row_from (how_many (port_number port) count true) 0 (port_number port)) (free_lines present) ≡ line ∷ lines
    by None some none = nothing ∙ none-back (line ∷ lines) present none idle same
      where
        nothing : with_ports (row_from (how_many 0 count true) 0 0) (free_lines present) ≡ free_lines present
        nothing = refl
    by (Some zero) some rise = absurd (some refl)
    by (Some (suc n)) some rise =
        ap (λ (k : ℕ). with_ports (row_from k 0 (suc n)) (free_lines present)) (how-many n count ∙ all) ∙ rising-back (suc n) (line ∷ lines) present rise idle same

-- ---- all lines

there-at : (lines : List (LineOf Peer)) (place : ℕ) → place < length lines → is_some (slice_get lines place) ≡ true
there-at [] place below = absurd (omega (arith, below))
there-at (line ∷ lines) zero below = refl
there-at (line ∷ lines) (suc place) below = there-at lines place (omega (arith, below))

not-at : (lines : List (LineOf Peer)) (place : ℕ) → length lines ≡ place → is_some (slice_get lines place) ≡ false
not-at [] place past = refl
not-at (line ∷ lines) zero past = absurd (omega (arith, past))
not-at (line ∷ lines) (suc place) past = not-at lines place (omega (arith, past))

-- what is given to the lines from line 0 on, and to the console's
module _ (tti1 qty console : ℕ) (present : List (LineOf Peer)) where
  abbrev given : List (ℕ × ℕ)
  given = assigned (record { tti1 = tti1; qty = qty; console = console }) present

  in-rows : (first last : Bool) (lines : List (LineOf Peer)) → is_line 0 present ≡ first → is_line multiplexer_lines present ≡ last
      → with_ports given lines
      ≡ with_ports (row_from (how_many console 1 true) 0 console)
      (with_ports (row_from (how_many qty multiplexer_lines last) 2 qty) (with_ports (row_from (how_many tti1 1 first) 1 tti1) lines))
  unfolding assigned
  in-rows first last lines is_first is_last =
      let terminal = row_from (how_many tti1 1 (is_line 0 present)) 1 tti1 in
      let many = row_from (how_many qty multiplexer_lines (is_line multiplexer_lines present)) 2 qty in
      let one = row_from (how_many console 1 true) 0 console in
      with-both terminal (many ++ one) lines ∙ with-both many one (with_ports terminal lines)
      ∙ (λ i. with_ports one (with_ports (row_from (how_many qty multiplexer_lines (is_last i)) 2 qty)
      (with_ports (row_from (how_many tti1 1 (is_first i)) 1 tti1) lines)))

-- where lines are not there, no port is given
no-row : (port count place : ℕ) (lines : List (LineOf Peer)) → with_ports (row_from (how_many port count false) place port) lines ≡ lines
unfolding row_from
no-row port count place lines = refl

pub lines-back : (units : List UnitState) (lines present : List (LineOf Peer)) → length lines ≡ suc (line_count units) → length present ≡ length lines
    → AreNumbered (drop (line_place 1) lines) → AllByRecursion IsIdleLine lines → lines_from (saved_ports lines) present ≡ lines
unfolding LineCounts saved_ports
lines-back units lines present many same are idle = by (line_count units) (line-counts units) lines present many same are idle
  where
    terminal-back : (c t : LineOf Peer) (lines : List (LineOf Peer)) → IsIdleLine t
        → with_ports (row_from (how_many (port_number t.port) 1 true) 1 (port_number t.port)) (c ∷ unconnected None ∷ lines) ≡ c ∷ t ∷ lines
    terminal-back c t lines idle =
        row-behind (how_many (port_number t.port) 1 true) 0 (port_number t.port) c (unconnected None ∷ lines)
        ∙ ap (λ (l : List (LineOf Peer)). c ∷ l) (one-back t lines idle)

    by : (count : ℕ) → LineCounts count → (lines present : List (LineOf Peer)) → length lines ≡ suc count → length present ≡ length lines
        → AreNumbered (drop (line_place 1) lines) → AllByRecursion IsIdleLine lines → lines_from (saved_ports lines) present ≡ lines
    by count counts [] present many same are idle = absurd (omega (arith, many))
    by count counts (c ∷ lines) [] many same are idle = absurd (omega (arith, same))
    by count counts (c ∷ []) (p ∷ []) many same are idle =
        in-rows 0 0 (port_number c.port) (p ∷ []) false false (unconnected None ∷ []) refl refl
        ∙ ap (λ (l : List (LineOf Peer)). with_ports (row_from (how_many (port_number c.port) 1 true) 0 (port_number c.port)) l)
        (no-row 0 multiplexer_lines 2 _ ∙ no-row 0 1 1 (unconnected None ∷ []))
        ∙ one-back c [] idle.0
    by count counts (c ∷ []) (p ∷ q ∷ present) many same are idle = absurd (omega (arith, same))
    by count counts (c ∷ t ∷ lines) (p ∷ []) many same are idle = absurd (omega (arith, same))
    by count counts (c ∷ t ∷ []) (p ∷ q ∷ []) many same are idle =
        in-rows (port_number t.port) 0 (port_number c.port) (p ∷ q ∷ []) true false (unconnected None ∷ unconnected None ∷ []) refl refl
        ∙ ap (λ (l : List (LineOf Peer)). with_ports (row_from (how_many (port_number c.port) 1 true) 0 (port_number c.port)) l)
        (no-row 0 multiplexer_lines 2 _ ∙ terminal-back (unconnected None) t [] idle.1.0)
        ∙ one-back c (t ∷ []) idle.0
    by count counts (c ∷ t ∷ []) (p ∷ q ∷ r ∷ present) many same are idle = absurd (omega (arith, same))
    by count counts (c ∷ t ∷ line ∷ lines) (p ∷ q ∷ []) many same are idle = absurd (omega (arith, same))
    by count (inl none) (c ∷ t ∷ line ∷ lines) (p ∷ q ∷ r ∷ present) many same are idle = absurd (omega (arith, many, none))
    by count (inr (inl one)) (c ∷ t ∷ line ∷ lines) (p ∷ q ∷ r ∷ present) many same are idle = absurd (omega (arith, many, one))
    by count (inr (inr all)) (c ∷ t ∷ line ∷ lines) (p ∷ q ∷ r ∷ present) many same are idle =
        let last : is_line multiplexer_lines (p ∷ q ∷ r ∷ present) ≡ true = there-at (p ∷ q ∷ r ∷ present) 65 (omega (arith, many, same, all)) in
        let behind : with_ports (row_from (how_many (port_number line.port) multiplexer_lines true) 2 (port_number line.port)) (unconnected None ∷ t ∷ free_lines (r ∷ present))
        ≡ unconnected None ∷ t ∷ line ∷ lines =
        row-behind (how_many (port_number line.port) multiplexer_lines true) 1 (port_number line.port) (unconnected None) (t ∷ free_lines (r ∷ present))
        ∙ ap (λ (l : List (LineOf Peer)). unconnected None ∷ l)
        (row-behind (how_many (port_number line.port) multiplexer_lines true) 0 (port_number line.port) t (free_lines (r ∷ present))
        ∙ ap (λ (l : List (LineOf Peer)). t ∷ l) (many-back multiplexer_lines line lines (r ∷ present) (omega (arith, many, all)) are idle.1.1 (omega (arith, same)))) in
        in-rows (port_number t.port) (port_number line.port) (port_number c.port) (p ∷ q ∷ r ∷ present) true true (free_lines (p ∷ q ∷ r ∷ present)) refl last
        ∙ ap (λ (l : List (LineOf Peer)). with_ports (row_from (how_many (port_number c.port) 1 true) 0 (port_number c.port))
        (with_ports (row_from (how_many (port_number line.port) multiplexer_lines true) 2 (port_number line.port)) l))
        (terminal-back (unconnected None) t (free_lines (r ∷ present)) idle.1.0)
        ∙ ap (λ (l : List (LineOf Peer)). with_ports (row_from (how_many (port_number c.port) 1 true) 0 (port_number c.port)) l) behind
        ∙ one-back c (t ∷ line ∷ lines) idle.0
