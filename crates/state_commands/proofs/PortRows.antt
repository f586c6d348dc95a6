-- Lines without a port that get those of a saved session.
use Rattle.std.proofs.Common.{◌≡◌, ◌≢◌, ◌⊎◌, inl, inr, ℕ, zero, suc, ◌+◌, ◌<◌, ◌≤◌, ◌==◌, ◌&&◌, ◌||◌, not, Bool, true, false, List, [], ◌∷◌, ◌++◌, length, map, slice_get, Option, Some, None, is_some, option_map, refl, sym, ap, subst, ◌∙◌, arith}
use Rattle.std.specs.Prelude.{nat_le, nat_lt, if◌then◌else◌}
use Rattle.std.proofs.lemmas.Bool.{and_parts, not-true, true≢false, both_ways, eq-eqb, eqb-true}
use Rattle.std.proofs.lemmas.Bool.Decides.{nat_tests}
use Rattle.std.proofs.lemmas.Option.{slice_get-map}
use Rattle.host_lines.specs.State.{LineState}
use Rattle.telnet_lines.specs.Line.{LineOf}
use Rattle.telnet_lines.specs.Joined.{seen_line}
use Rattle.terminal_ports.specs.Rows.{row_from}
use Rattle.terminal_ports.proofs.RowPorts.{NoneIs, AreGiven, Beside, both-given, beside-both, row-at, row-past, row-is, row-is-past, row-by, beside-row, is-none, NoneHas}
use Rattle.nova_machine.specs.Machine.{console_place, place_of as line_place}
use Rattle.saved_session.specs.declared.saved.SavedPorts.{SavedPorts}
use Rattle.saved_session.specs.Ranges.{is_among, is_multiplexer_port, is_console_port}
use Rattle.saved_session.specs.Valid.{ArePorts}
use Rattle.state_transfer.specs.Ports.{how_many, is_line, multiplexer_lines, assigned, ports_wanted}
use Rattle.state_transfer.specs.Listening.{AreClosed}

-- how many get one: none, or all of so many lines that are there
how-cases : (port count : ℕ) (there : Bool) → (how_many port count there ≡ 0) ⊎ ((port ≢ 0) × (there ≡ true) × (how_many port count there ≡ count))
how-cases port count false = inl refl
how-cases port count true = by (port == 0) refl
  where
    by : (b : Bool) → (port == 0) ≡ b → ((if not b then count else 0) ≡ 0) ⊎ ((port ≢ 0) × (true ≡ true) × ((if not b then count else 0) ≡ count))
    by true none = inl refl
    by false some = inr (λ is. true≢false (sym (eq-eqb port 0 is) ∙ some), refl, refl)

-- a line at a place that is there
below-length : {P : Type 0} (lines : List (LineOf P)) (place : ℕ) → is_some (slice_get lines place) ≡ true → place < length lines
below-length [] place there = absurd (cc)
below-length (line ∷ lines) zero there = omega arith
below-length (line ∷ lines) (suc place) there = let more = below-length lines place there in omega (arith, more)

-- ---- the three rows

lower : (port other : ℕ) → other ≢ port → (port < other) ⊎ (other < port)
lower port other apart = by (nat_lt port other) refl
  where
    by : (b : Bool) → nat_lt port other ≡ b → (port < other) ⊎ (other < port)
    by true is = inl (grind (arith, nat_tests))
    by false is = inr (grind (arith, nat_tests))

or-other : (b r : Bool) → (b || r) ≡ true → (b ≡ true → ⊥) → r ≡ true
or-other true r is none = absurd (none refl)
or-other false r is none = is

apart-from : (first port : ℕ) → is_among first port ≡ false → (port < first) ⊎ (first + 64 ≤ port)
apart-from first port is = by (nat_le first port) (nat_lt port (first + 64)) refl refl is
  where
    by : (a b : Bool) → nat_le first port ≡ a → nat_lt port (first + 64) ≡ b → (a && b) ≡ false → (port < first) ⊎ (first + 64 ≤ port)
    by true true low high is = absurd (true≢false is)
    by true false low high is = inr (grind (arith, nat_tests))
    by false b low high is = inl (grind (arith, nat_tests))

mux-parts : (listed : Bool) (tti1 first : ℕ) → is_multiplexer_port listed tti1 first ≡ true → first ≢ 0 → is_among first tti1 ≡ false
mux-parts listed tti1 first is some =
    let rest = nat_le first 65472 && not (is_among first tti1) in
    let both = or-other (first == 0) (listed && rest) is (λ none. some (eqb-true first 0 none)) in
    let parts = and_parts listed rest both in
    not-true (is_among first tti1) (and_parts (nat_le first 65472) (not (is_among first tti1)) parts.1).1

console-parts : (tti1 first port : ℕ) → is_console_port tti1 first port ≡ true → port ≢ 0 → (port ≢ tti1) × ((first ≡ 0) ⊎ (is_among first port ≡ false))
console-parts tti1 first port is some =
    let rest = first == 0 || not (is_among first port) in
    let both = or-other (port == 0) (not (port == tti1) && rest) is (λ none. some (eqb-true port 0 none)) in
    let parts = and_parts (not (port == tti1)) rest both in (
      λ same. both_ways (port == tti1) (not-true (port == tti1) parts.0) (eq-eqb port tti1 same),
      by (first == 0) refl parts.1,
    )
  where
    by : (b : Bool) → (first == 0) ≡ b → (b || not (is_among first port)) ≡ true → (first ≡ 0) ⊎ (is_among first port ≡ false)
    by true none is = inl (eqb-true first 0 none)
    by false some is = inr (not-true (is_among first port) is)

module _ (listed : Bool) (p : SavedPorts) (are : ArePorts listed p) (many a b c : ℕ)
    (first : (a ≡ 0) ⊎ ((p.tti1 ≢ 0) × (1 < many) × (a ≡ 1)))
    (second : (b ≡ 0) ⊎ ((p.qty ≢ 0) × (65 < many) × (b ≡ 64)))
    (third : (c ≡ 0) ⊎ ((p.console ≢ 0) × (0 < many) × (c ≡ 1))) where
  few : (n : ℕ) (P : Type 0) (Q : Type 0) (most : ℕ) → (n ≡ 0) ⊎ (P × Q × (n ≡ most)) → n ≤ most
  few n P Q most (inl none) = omega (arith, none)
  few n P Q most (inr all) = let is = all.2 in omega (arith, is)

  one-given : AreGiven many (row_from a 1 p.tti1)
  one-given = elim first [
    | inl none ↦ row-by many a 1 p.tti1 (inl none)
    | inr all ↦ let some = all.0 in let there = all.1 in let is = all.2 in row-by many a 1 p.tti1 (inr (omega (arith, there, is), omega (arith, some)))
  ]

  many-given : AreGiven many (row_from b 2 p.qty)
  many-given = elim second [
    | inl none ↦ row-by many b 2 p.qty (inl none)
    | inr all ↦ let some = all.0 in let there = all.1 in let is = all.2 in row-by many b 2 p.qty (inr (omega (arith, there, is), omega (arith, some)))
  ]

  last-given : AreGiven many (row_from c 0 p.console)
  last-given = elim third [
    | inl none ↦ row-by many c 0 p.console (inl none)
    | inr all ↦ let some = all.0 in let there = all.1 in let is = all.2 in row-by many c 0 p.console (inr (omega (arith, there, is), omega (arith, some)))
  ]

  -- no port of the multiplexer's lines is that one, nor is that of the console's line
  not-many : (port : ℕ) → (p.qty ≢ 0 → is_among p.qty port ≡ false) → NoneIs port (row_from b 2 p.qty)
  not-many port apart = elim second [
    | inl none ↦ subst (λ (n : ℕ). NoneIs port (row_from n 2 p.qty)) (sym none) (is-none 2 p.qty port)
    | inr all ↦ elim (apart-from p.qty port (apart all.0)) [
      | inl below ↦ row-is b 2 p.qty port below
      | inr past ↦ let is = all.2 in row-is-past b 2 p.qty port (omega (arith, past, is))
    ]
  ]

  not-last : (port : ℕ) → (p.console ≢ 0 → p.console ≢ port) → NoneIs port (row_from c 0 p.console)
  not-last port apart = elim third [
    | inl none ↦ subst (λ (n : ℕ). NoneIs port (row_from n 0 p.console)) (sym none) (is-none 0 p.console port)
    | inr all ↦ let other = apart all.0 in let is = all.2 in elim (lower port p.console other) [
      | inl below ↦ row-is c 0 p.console port below
      | inr past ↦ row-is-past c 0 p.console port (omega (arith, past, is))
    ]
  ]

  first-many : Beside (row_from a 1 p.tti1) (row_from b 2 p.qty)
  first-many = beside-row a 1 p.tti1 (row_from b 2 p.qty)
      (λ k below.
      let most = few a (p.tti1 ≢ 0) (1 < many) 1 first in (
        row-at b 2 p.qty (1 + k) (omega (arith, below, most)),
        subst (λ (n : ℕ). NoneIs n (row_from b 2 p.qty)) (omega (arith, below, most)) (not-many p.tti1 (mux-parts listed p.tti1 p.qty are.qty)),
      ))

  first-last : Beside (row_from a 1 p.tti1) (row_from c 0 p.console)
  first-last = beside-row a 1 p.tti1 (row_from c 0 p.console)
      (λ k below.
      let most = few a (p.tti1 ≢ 0) (1 < many) 1 first in
      let one = few c (p.console ≢ 0) (0 < many) 1 third in (
        row-past c 0 p.console (1 + k) (omega (arith, one)),
        subst (λ (n : ℕ). NoneIs n (row_from c 0 p.console)) (omega (arith, below, most))
            (not-last p.tti1 (λ some. (console-parts p.tti1 p.qty p.console are.apart some).0)),
      ))

  many-last : Beside (row_from b 2 p.qty) (row_from c 0 p.console)
  many-last = beside-row b 2 p.qty (row_from c 0 p.console)
      (λ k below.
      let one = few c (p.console ≢ 0) (0 < many) 1 third in (
        row-past c 0 p.console (2 + k) (omega (arith, one)),
        not-last (p.qty + k) (λ some same. apart k below some same),
      ))
    where
      apart : (k : ℕ) → k < b → p.console ≢ 0 → p.console ≡ p.qty + k → ⊥
      apart k below some same = elim second [
        | inl none ↦ omega (arith, none, below)
        | inr all ↦ let is = all.2 in elim (console-parts p.tti1 p.qty p.console are.apart some).1 [
          | inl none ↦ all.0 none
          | inr other ↦ elim (apart-from p.qty p.console other) [
            | inl low ↦ omega (arith, low, same)
            | inr high ↦ omega (arith, high, same, is, below)
          ]
        ]
      ]

  rows-given : AreGiven many (row_from a 1 p.tti1 ++ (row_from b 2 p.qty ++ row_from c 0 p.console))
  rows-given =
      both-given many (row_from a 1 p.tti1) (row_from b 2 p.qty ++ row_from c 0 p.console) one-given
      (both-given many (row_from b 2 p.qty) (row_from c 0 p.console) many-given last-given many-last)
      (beside-both (row_from a 1 p.tti1) (row_from b 2 p.qty) (row_from c 0 p.console) first-many first-last)

-- the ports of a valid saved session are given to lines that are there, each to another one, and no two are one port
pub all-given : {P : Type 0} (listed : Bool) (p : SavedPorts) (lines : List (LineOf P)) → ArePorts listed p → 0 < length lines → AreGiven (length lines) (assigned p lines)
unfolding assigned
all-given listed p lines are some =
    rows-given listed p are (length lines) (how_many p.tti1 1 (is_line 0 lines)) (how_many p.qty multiplexer_lines (is_line multiplexer_lines lines)) (how_many p.console 1 true)
    (elim (how-cases p.tti1 1 (is_line 0 lines)) [ inl none ↦ inl none | inr all ↦ inr (all.0, below-length lines (line_place 0) all.1, all.2) ])
    (elim (how-cases p.qty multiplexer_lines (is_line multiplexer_lines lines)) [
      | inl none ↦ inl none
      | inr all ↦ inr (all.0, below-length lines (line_place multiplexer_lines) all.1, all.2)
    ])
    (elim (how-cases p.console 1 true) [ inl none ↦ inl none | inr all ↦ inr (all.0, some, all.2) ])

-- lines without a port
pub closed-none : (port : ℕ) (lines : List (LineOf ℕ)) → AreClosed lines → NoneHas port lines
closed-none port [] closed = tt
closed-none port (line ∷ lines) closed =
    (λ is. true≢false (ap is_some (sym is ∙ ap (λ (l : LineOf ℕ). l.port) closed.0)), closed-none port lines closed.1)

-- ---- seen as they stand

line-seen : (s : LineState) (lines : List (LineOf ℕ)) (number : ℕ) → is_line number (map (seen_line s) lines) ≡ is_line number lines
line-seen s lines number = ap is_some (slice_get-map (seen_line s) lines (line_place number)) ∙ by (slice_get lines (line_place number))
  where
    by : (o : Option (LineOf ℕ)) → is_some (option_map (seen_line s) o) ≡ is_some o
    by None = refl
    by (Some line) = refl

pub ports-seen : (p : SavedPorts) (s : LineState) (lines : List (LineOf ℕ)) → ports_wanted p (map (seen_line s) lines) ≡ ports_wanted p lines
unfolding assigned
ports-seen p s lines =
    let one = line-seen s lines 0 in
    let last = line-seen s lines multiplexer_lines in
    λ i. map (λ (g : ℕ × ℕ). g.1) (row_from (how_many p.tti1 1 (one i)) (line_place 0) p.tti1
    ++ (row_from (how_many p.qty multiplexer_lines (last i)) (line_place 1) p.qty
    ++ row_from (how_many p.console 1 true) console_place p.console))
