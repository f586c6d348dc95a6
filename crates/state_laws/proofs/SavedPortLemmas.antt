-- The ports of a session are valid as they are saved.
use Rattle.std.proofs.Common.{◌≡◌, ◌≢◌, ◌⊎◌, inl, inr, ℕ, zero, suc, ◌+◌, ◌<◌, ◌≤◌, ◌^◌, ◌==◌, ◌&&◌, ◌||◌, not, Bool, true, false, List, [], ◌∷◌, length, map, take, drop, Option, Some, None, IfSome, refl, sym, ap, subst, ◌∙◌, arith}
use Rattle.std.specs.Prelude.{nat_le, nat_lt}
use Rattle.std.specs.List.{AllByRecursion}
use Rattle.std.proofs.lemmas.Bool.{and_from, and_parts, not_from_false, false_from_ne_true, le-leb, leb-true, ltb-true, eqb-true, eqb-false}
use Rattle.std.proofs.lemmas.Bool.Decides.{nat_tests}
use Rattle.std.proofs.lemmas.List.{length-map}
use Rattle.host_lines.specs.Traffic.{Peer}
use Rattle.telnet_lines.specs.Line.{LineOf}
use Rattle.terminal_ports.specs.Ports.{HasOther, OthersHaveNone, HavePortsApart, HavePortsFrom, AreNumbered}
use Rattle.unit_trait.specs.declared.kind.Kind.{Kind}
use Rattle.unit_trait.specs.Kinds.{all_kinds}
use Rattle.unit_trait.specs.Calls.{UnitState}
use Rattle.unit_list.specs.Bus.{kinds_of}
use Rattle.nova_machine.specs.Machine.{line_count, HasItsLines, terminal_lines_for, place_of as line_place}
use Rattle.nova_machine.proofs.LinesThere.{own_lines}
use Rattle.saved_session.specs.Ranges.{standard_kinds, has_multiplexer, is_among, is_multiplexer_port, is_console_port}
use Rattle.saved_session.specs.Valid.{ArePorts}
use Rattle.state_transfer.specs.Session.{port_number, saved_unit, saved_ports}
use Rattle.state_transfer.specs.SavedValid.{AreStandard, HasPort16}
use Rattle.state_laws.proofs.LinesBack.{not-none}

-- ---- ports that rise by one

-- a port that none of these lines has is not among them
not-in : (first port : ℕ) (lines : List (LineOf Peer)) → HavePortsFrom (Some first) lines → OthersHaveNone (Some port) lines → first ≤ port → port < first + length lines → ⊥
not-in first port [] rise other least most = omega (arith, least, most)
not-in first port (line ∷ lines) rise other least most =
    by (port == first) refl (λ apart. not-in (suc first) port lines rise.1 other.1 (omega (arith, least, apart)) (omega (arith, most)))
  where
    by : (b : Bool) → (port == first) ≡ b → (port ≢ first → ⊥) → ⊥
    by true is later = other.0 (rise.0 ∙ ap Some (sym (eqb-true port first is)))
    by false is later = later (eqb-false port first is)

none-among : (first port : ℕ) (lines : List (LineOf Peer)) → length lines ≡ 64 → HavePortsFrom (Some first) lines → OthersHaveNone (Some port) lines → is_among first port ≡ false
none-among first port lines all rise other =
    false_from_ne_true (is_among first port)
    (λ among.
    let parts = and_parts (nat_le first port) (nat_lt port (first + 64)) among in
    let least = leb-true first port parts.0 in
    let most = ltb-true port (first + 64) parts.1 in
    not-in first port lines rise other least (omega (arith, most, all)))

-- so many ports end below 65536
rising-low : (first : ℕ) (line : LineOf Peer) (lines : List (LineOf Peer)) → HavePortsFrom (Some first) (line ∷ lines) → AllByRecursion HasPort16 (line ∷ lines)
    → first + length (line ∷ lines) ≤ 2 ^ 16
rising-low first line [] rise low =
    let is : first < 2 ^ 16 = subst (λ (o : Option ℕ). IfSome o (λ (p : ℕ). p < 2 ^ 16)) rise.0 low.0 in
    omega (arith, is)
rising-low first line (next ∷ lines) rise low =
    let more = rising-low (suc first) next lines rise.1 low.1 in
    omega (arith, more)

number-low : (port : Option ℕ) → IfSome port (λ (p : ℕ). p < 2 ^ 16) → port_number port < 2 ^ 16
number-low None low = omega arith
number-low (Some port) low = low

-- ---- the lines of a standard machine

-- the kinds alone say how many lines there are
many-by : (units others : List UnitState) → kinds_of units ≡ kinds_of others → line_count units ≡ line_count others
unfolding HasItsLines
many-by units others same =
    sym (own_lines units (terminal_lines_for units) refl units refl) ∙ own_lines units (terminal_lines_for units) refl others (sym same)

-- one unit of each of these kinds
abbrev of_kinds : List Kind → List UnitState
of_kinds kinds = map (λ (kind : Kind). record { kind = kind; registers = [] }) kinds

-- line 0 alone, or that and those of the multiplexer, which is then among the units
StandardLines : Bool → ℕ → Type 0
StandardLines listed count = ((listed ≡ false) × (count ≡ 1)) ⊎ ((listed ≡ true) × (count ≡ 65))

abbrev is_listed : List UnitState → Bool
is_listed units = has_multiplexer (length (map saved_unit units))

as-saved : (units : List UnitState) → length (map saved_unit units) ≡ length (kinds_of units)
as-saved units = length-map units saved_unit ∙ sym (length-map units _)

standard-lines : (units : List UnitState) → AreStandard units → StandardLines (is_listed units) (line_count units)
unfolding StandardLines
standard-lines units (inl ten) = inl (
  ap has_multiplexer (as-saved units ∙ ap (λ (l : List Kind). length l) ten),
  many-by units (of_kinds (take standard_kinds all_kinds)) ten,
)
standard-lines units (inr all) = inr (
  ap has_multiplexer (as-saved units ∙ ap (λ (l : List Kind). length l) all),
  many-by units (of_kinds all_kinds) all,
)

-- ---- the three ports

above-0 : (n : ℕ) → nat_le (suc n) 0 ≡ false
above-0 n = grind (arith, nat_tests)

among-none : (first : ℕ) (port : Option ℕ) (lines : List (LineOf Peer)) → length lines ≡ 64 → HavePortsFrom (Some (suc first)) lines → OthersHaveNone port lines
    → is_among (suc first) (port_number port) ≡ false
among-none first None lines all rise other = ap (λ (b : Bool). b && nat_lt 0 (suc first + 64)) (above-0 first)
among-none first (Some port) lines all rise other = none-among (suc first) port lines all rise other

-- the first port of the multiplexer's lines, beside that of the second teletype
mux-is : (terminal port : Option ℕ) (line : LineOf Peer) (lines : List (LineOf Peer)) → length (line ∷ lines) ≡ 64 → port ≢ Some 0 → HavePortsFrom port (line ∷ lines)
    → AllByRecursion HasPort16 (line ∷ lines) → OthersHaveNone terminal (line ∷ lines) → is_multiplexer_port true (port_number terminal) (port_number port) ≡ true
mux-is terminal None line lines all some rise low other = refl
mux-is terminal (Some zero) line lines all some rise low other = absurd (some refl)
mux-is terminal (Some (suc first)) line lines all some rise low other =
    let top = rising-low (suc first) line lines rise low in
    let rest = nat_le (suc first) 65472 && not (is_among (suc first) (port_number terminal)) in
    ap (λ (b : Bool). b || (true && rest)) (not-none first)
    ∙ and_from (nat_le (suc first) 65472) (not (is_among (suc first) (port_number terminal))) (le-leb (suc first) 65472 (omega (arith, all, top)))
    (not_from_false _ (among-none first terminal (line ∷ lines) all rise other))

or-true : (b : Bool) → (b || true) ≡ true
or-true true = refl
or-true false = refl

-- whether there is no port of the multiplexer's lines, or a port is none of them
IsBeside : ℕ → ℕ → Type 0
IsBeside first port = (first ≡ 0) ⊎ (is_among first port ≡ false)

beside-many : (first port : Option ℕ) (line : LineOf Peer) (lines : List (LineOf Peer)) → length (line ∷ lines) ≡ 64 → first ≢ Some 0 → HavePortsFrom first (line ∷ lines)
    → OthersHaveNone port (line ∷ lines) → IsBeside (port_number first) (port_number port)
unfolding IsBeside
beside-many None port line lines all some rise other = inl refl
beside-many (Some zero) port line lines all some rise other = absurd (some refl)
beside-many (Some (suc first)) port line lines all some rise other = inr (among-none first port (line ∷ lines) all rise other)

-- the port of the console's line, beside those
console-is : (port : Option ℕ) (terminal : LineOf Peer) (first : ℕ) → port ≢ Some 0 → HasOther port terminal → IsBeside first (port_number port)
    → is_console_port (port_number terminal.port) first (port_number port) ≡ true
unfolding IsBeside
console-is None terminal first some other beside = refl
console-is (Some zero) terminal first some other beside = absurd (some refl)
console-is (Some (suc port)) terminal first some other beside =
    ap (λ (b : Bool). b || (not (suc port == port_number terminal.port) && (first == 0 || not (is_among first (suc port))))) (not-none port)
    ∙ and_from (not (suc port == port_number terminal.port)) (first == 0 || not (is_among first (suc port))) (by terminal.port other) (behind beside)
  where
    by : (own : Option ℕ) → own ≢ Some (suc port) → not (suc port == port_number own) ≡ true
    by None other = ap not (not-none port)
    by (Some own) other = not_from_false _ (false_from_ne_true (suc port == own) (λ is. other (ap Some (sym (eqb-true (suc port) own is)))))

    behind : IsBeside first (suc port) → (first == 0 || not (is_among first (suc port))) ≡ true
    behind (inl none) = ap (λ (n : ℕ). n == 0 || not (is_among n (suc port))) none
    behind (inr apart) = ap (λ (b : Bool). first == 0 || not b) apart ∙ or-true (first == 0)

pub ports-valid : (units : List UnitState) (lines : List (LineOf Peer)) → AreStandard units → length lines ≡ suc (line_count units) → AllByRecursion HasPort16 lines
    → HavePortsApart lines → AreNumbered (drop (line_place 1) lines) → ArePorts (is_listed units) (saved_ports lines)
unfolding StandardLines saved_ports IsBeside
ports-valid units lines standard many low apart are = by (is_listed units) (line_count units) lines (standard-lines units standard) many low apart are
  where
    by : (listed : Bool) (count : ℕ) (lines : List (LineOf Peer)) → StandardLines listed count → length lines ≡ suc count → AllByRecursion HasPort16 lines
        → HavePortsApart lines → AreNumbered (drop (line_place 1) lines) → ArePorts listed (saved_ports lines)
    by listed count [] standard many low apart are = absurd (omega (arith, many))
    by listed count (c ∷ []) (inl one) many low apart are = let is = one.1 in absurd (omega (arith, many, is))
    by listed count (c ∷ []) (inr all) many low apart are = let is = all.1 in absurd (omega (arith, many, is))
    by listed count (c ∷ t ∷ []) standard many low apart are = record {
      tti1 = number-low t.port low.1.0;
      qty = refl;
      console = number-low c.port low.0;
      apart = console-is c.port t 0 apart.0 apart.1.0.0 (inl refl);
    }
    by listed count (c ∷ t ∷ line ∷ lines) (inl one) many low apart are = let is = one.1 in absurd (omega (arith, many, is))
    by listed count (c ∷ t ∷ line ∷ lines) (inr all) many low apart are =
        let is = all.1 in
        let own : length (line ∷ lines) ≡ 64 = omega (arith, many, is) in
        let some : line.port ≢ Some 0 = apart.1.1.1.1.0 in
        record {
          tti1 = number-low t.port low.1.0;
          qty = ap (λ (b : Bool). is_multiplexer_port b (port_number t.port) (port_number line.port)) all.0
              ∙ mux-is t.port line.port line lines own some (refl, are) low.1.1 apart.1.1.1.0;
          console = number-low c.port low.0;
          apart = console-is c.port t (port_number line.port) apart.0 apart.1.0.0 (beside-many line.port c.port line lines own some (refl, are) apart.1.0.1);
        }
