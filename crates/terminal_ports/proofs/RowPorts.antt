-- Lines that get the ports of rows: which line gets which, what becomes of the lines, and what is listened on then.
use Rattle.std.proofs.Common.{◌≡◌, ◌≢◌, ◌⊎◌, inl, inr, ℕ, zero, suc, ◌+◌, ◌<◌, ◌≤◌, ◌==◌, Bool, true, false, List, [], ◌∷◌, ◌++◌, length, map, slice_get, Option, Some, None, IsTrue, refl, sym, ap, subst, ◌∙◌, arith}
use Rattle.std.specs.Prelude.{if◌then◌else◌}
use Rattle.std.specs.List.{AllByRecursion}
use Rattle.std.proofs.lemmas.Bool.{true≢false, eq-eqb, or_parts}
use Rattle.std.proofs.lemmas.Bool.Decides.{eqb_tells}
use Rattle.std.proofs.lemmas.Option.{same_Some}
use Rattle.host_lines.specs.State.{with_one}
use Rattle.telnet_lines.specs.Line.{LineOf, unconnected}
use Rattle.terminal_ports.specs.Ports.{changed_at, is_taken, HasOther, OthersHaveNone, HavePortsApart}
use Rattle.terminal_ports.specs.Listening.{listens_each, given_up}
use Rattle.terminal_ports.specs.Rows.{row_from, with_ports, are_taken}
use Rattle.terminal_ports.proofs.PortsApart.{untaken}
use Rattle.terminal_ports.proofs.Rows.{none-from, changed-length}

-- ---- where each line that gets a port stands

-- none of these is given to the line at that place
pub NoneAt : ℕ → List (ℕ × ℕ) → Type 0
NoneAt place given = AllByRecursion (λ (g : ℕ × ℕ). g.0 ≢ place) given

-- none of these is that port
pub NoneIs : ℕ → List (ℕ × ℕ) → Type 0
NoneIs port given = AllByRecursion (λ (g : ℕ × ℕ). g.1 ≢ port) given

-- each is one, is given to a line that is there, and to another one than those before it, and is another one than those
pub AreGiven : ℕ → List (ℕ × ℕ) → Type 0
AreGiven many [] = Unit {0}
AreGiven many (g ∷ more) = (g.0 < many) × (g.1 ≢ 0) × NoneAt g.0 more × NoneIs g.1 more × AreGiven many more

both-all : (P : ℕ × ℕ → Type 0) (first second : List (ℕ × ℕ)) → AllByRecursion P first → AllByRecursion P second → AllByRecursion P (first ++ second)
both-all P [] second one two = two
both-all P (g ∷ first) second one two = (one.0, both-all P first second one.1 two)

-- those of a first list stand apart from those of a second one
pub Beside : List (ℕ × ℕ) → List (ℕ × ℕ) → Type 0
Beside first second = AllByRecursion (λ (g : ℕ × ℕ). NoneAt g.0 second × NoneIs g.1 second) first

pub both-given : (many : ℕ) (first second : List (ℕ × ℕ)) → AreGiven many first → AreGiven many second → Beside first second → AreGiven many (first ++ second)
unfolding AreGiven NoneAt NoneIs Beside
both-given many [] second one two apart = two
both-given many (g ∷ first) second one two apart = (
  one.0,
  one.1,
  both-all (λ (h : ℕ × ℕ). h.0 ≢ g.0) first second one.2 apart.0.0,
  both-all (λ (h : ℕ × ℕ). h.1 ≢ g.1) first second one.3 apart.0.1,
  both-given many first second one.4 two apart.1,
)

pub beside-both : (first second third : List (ℕ × ℕ)) → Beside first second → Beside first third → Beside first (second ++ third)
unfolding NoneAt NoneIs Beside
beside-both [] second third one two = tt
beside-both (g ∷ first) second third one two = (
  (both-all (λ (h : ℕ × ℕ). h.0 ≢ g.0) second third one.0.0 two.0.0, both-all (λ (h : ℕ × ℕ). h.1 ≢ g.1) second third one.0.1 two.0.1),
  beside-both first second third one.1 two.1,
)

-- ---- rows

pub row-at : (count place port other : ℕ) → other < place → NoneAt other (row_from count place port)
unfolding row_from NoneAt
row-at zero place port other below = tt
row-at (suc count) place port other below = (λ same. omega (arith, same, below), row-at count (suc place) (suc port) other (omega (arith, below)))

pub row-past : (count place port other : ℕ) → place + count ≤ other → NoneAt other (row_from count place port)
unfolding row_from NoneAt
row-past zero place port other past = tt
row-past (suc count) place port other past = (λ same. omega (arith, same, past), row-past count (suc place) (suc port) other (omega (arith, past)))

pub row-is : (count place port other : ℕ) → other < port → NoneIs other (row_from count place port)
unfolding row_from NoneIs
row-is zero place port other below = tt
row-is (suc count) place port other below = (λ same. omega (arith, same, below), row-is count (suc place) (suc port) other (omega (arith, below)))

pub row-is-past : (count place port other : ℕ) → port + count ≤ other → NoneIs other (row_from count place port)
unfolding row_from NoneIs
row-is-past zero place port other past = tt
row-is-past (suc count) place port other past = (λ same. omega (arith, same, past), row-is-past count (suc place) (suc port) other (omega (arith, past)))

pub row-given : (many count place port : ℕ) → place + count ≤ many → 1 ≤ port → AreGiven many (row_from count place port)
unfolding row_from AreGiven
row-given many zero place port fits one = tt
row-given many (suc count) place port fits one = (
  omega (arith, fits),
  λ none. omega (arith, none, one),
  row-at count (suc place) (suc port) place (omega arith),
  row-is count (suc place) (suc port) port (omega arith),
  row-given many count (suc place) (suc port) (omega (arith, fits)) (omega arith),
)

nothing-given : (many place port : ℕ) → AreGiven many (row_from 0 place port)
unfolding row_from AreGiven
nothing-given many place port = tt

pub row-by : (many count place port : ℕ) → (count ≡ 0) ⊎ ((place + count ≤ many) × (1 ≤ port)) → AreGiven many (row_from count place port)
row-by many count place port (inl none) = subst (λ (n : ℕ). AreGiven many (row_from n place port)) (sym none) (nothing-given many place port)
row-by many count place port (inr fits) = row-given many count place port fits.0 fits.1

pub beside-row : (count place port : ℕ) (second : List (ℕ × ℕ)) → ((k : ℕ) → k < count → NoneAt (place + k) second × NoneIs (port + k) second)
    → Beside (row_from count place port) second
unfolding row_from Beside
beside-row zero place port second apart = tt
beside-row (suc count) place port second apart =
    let here = apart 0 (omega arith) in (
      (
        subst (λ (n : ℕ). NoneAt n second) (omega arith) here.0,
        subst (λ (n : ℕ). NoneIs n second) (omega arith) here.1,
      ),
      beside-row count (suc place) (suc port) second (λ k below.
          let later = apart (suc k) (omega (arith, below)) in (
            subst (λ (n : ℕ). NoneAt n second) (omega arith) later.0,
            subst (λ (n : ℕ). NoneIs n second) (omega arith) later.1,
          )),
    )

pub is-none : (place port other : ℕ) → NoneIs other (row_from 0 place port)
unfolding row_from NoneIs
is-none place port other = tt

-- ---- lines that get ports

pub with-both : {P : Type 0} (first second : List (ℕ × ℕ)) (lines : List (LineOf P))
    → with_ports (first ++ second) lines ≡ with_ports second (with_ports first lines)
with-both [] second lines = refl
with-both {P} (g ∷ first) second lines =
    with-both first second (changed_at g.0 (λ (line : LineOf P). unconnected (Some g.1)) lines)

pub none-put : {P : Type 0} (n place port : ℕ) (lines : List (LineOf P)) → n ≡ 0 → lines ≡ with_ports (row_from n place port) lines
none-put n place port lines none = sym (ap (λ (given : List (ℕ × ℕ)). with_ports given lines) (none-from n place port none))

pub given-length : {P : Type 0} (given : List (ℕ × ℕ)) (lines : List (LineOf P)) → length (with_ports given lines) ≡ length lines
given-length [] lines = refl
given-length {P} (g ∷ given) lines =
    given-length given (changed_at g.0 (λ (line : LineOf P). unconnected (Some g.1)) lines) ∙ changed-length g.0 (λ (line : LineOf P). unconnected (Some g.1)) lines

-- what all lines are, and each line that gets a port, all are then
pub every-changed : {P : Type 0} (Is : LineOf P → Type 0) (place port : ℕ) (lines : List (LineOf P)) → Is (unconnected (Some port)) → AllByRecursion Is lines
    → AllByRecursion Is (changed_at place (λ (line : LineOf P). unconnected (Some port)) lines)
every-changed Is place port [] one all = tt
every-changed Is zero port (line ∷ lines) one all = (one, all.1)
every-changed Is (suc place) port (line ∷ lines) one all = (all.0, every-changed Is place port lines one all.1)

pub every-given : {P : Type 0} (Is : LineOf P → Type 0) (given : List (ℕ × ℕ)) (lines : List (LineOf P)) → AllByRecursion (λ (g : ℕ × ℕ). Is (unconnected (Some g.1))) given
    → AllByRecursion Is lines → AllByRecursion Is (with_ports given lines)
every-given Is [] lines one all = all
every-given {P} Is (g ∷ given) lines one all =
    every-given Is given (changed_at g.0 (λ (line : LineOf P). unconnected (Some g.1)) lines) one.1 (every-changed Is g.0 g.1 lines one.0 all)

-- a line that got its port keeps it, where no other port is given to it
pub changed-there : {P : Type 0} (place port : ℕ) (lines : List (LineOf P)) → place < length lines
    → slice_get (changed_at place (λ (line : LineOf P). unconnected (Some port)) lines) place ≡ Some (unconnected (Some port))
changed-there place port [] below = absurd (omega (arith, below))
changed-there zero port (line ∷ lines) below = refl
changed-there (suc place) port (line ∷ lines) below = changed-there place port lines (omega (arith, below))

pub changed-other : {P : Type 0} (place other port : ℕ) (lines : List (LineOf P)) → place ≢ other
    → slice_get (changed_at place (λ (line : LineOf P). unconnected (Some port)) lines) other ≡ slice_get lines other
changed-other place other port [] apart = refl
changed-other zero zero port (line ∷ lines) apart = absurd (apart refl)
changed-other zero (suc other) port (line ∷ lines) apart = refl
changed-other (suc place) zero port (line ∷ lines) apart = refl
changed-other (suc place) (suc other) port (line ∷ lines) apart = changed-other place other port lines (λ same. apart (ap suc same))

pub given-other : {P : Type 0} (given : List (ℕ × ℕ)) (place : ℕ) (lines : List (LineOf P)) → NoneAt place given → slice_get (with_ports given lines) place ≡ slice_get lines place
unfolding NoneAt
given-other [] place lines none = refl
given-other {P} (g ∷ given) place lines none =
    given-other given place (changed_at g.0 (λ (line : LineOf P). unconnected (Some g.1)) lines) none.1 ∙ changed-other g.0 place g.1 lines none.0

-- the line at that place has that port
abbrev pub HasAt : {P : Type 0} → List (LineOf P) → ℕ × ℕ → Type 0
HasAt lines g = slice_get lines g.0 ≡ Some (unconnected (Some g.1))

pub given-there : {P : Type 0} (many : ℕ) (given : List (ℕ × ℕ)) (lines : List (LineOf P)) → many ≡ length lines → AreGiven many given
    → AllByRecursion (HasAt (with_ports given lines)) given
unfolding AreGiven
given-there many [] lines same are = tt
given-there {P} many (g ∷ given) lines same are =
    let after : List (LineOf P) = changed_at g.0 (λ (line : LineOf P). unconnected (Some g.1)) lines in
    let below = are.0 in (
      given-other given g.0 after are.2 ∙ changed-there g.0 g.1 lines (omega (arith, below, same)),
      given-there many given after (same ∙ sym (changed-length g.0 (λ (line : LineOf P). unconnected (Some g.1)) lines)) are.4,
    )

-- ---- ports apart

pub other-changed : {P : Type 0} (own : Option ℕ) (place port : ℕ) (lines : List (LineOf P)) → own ≢ Some port → OthersHaveNone own lines
    → OthersHaveNone own (changed_at place (λ (line : LineOf P). unconnected (Some port)) lines)
other-changed {P} None place port lines other none = free (changed_at place (λ (line : LineOf P). unconnected (Some port)) lines)
  where
    free : (ls : List (LineOf P)) → OthersHaveNone {P = P} None ls
    free [] = tt
    free (l ∷ ls) = (tt, free ls)
other-changed {P} (Some own) place port lines other none =
    every-changed (HasOther {P = P} (Some own)) place port lines (λ same. other (sym same)) none

-- no line has that port
abbrev pub NoneHas : {P : Type 0} → ℕ → List (LineOf P) → Type 0
NoneHas {P} port lines = AllByRecursion (λ (line : LineOf P). line.port ≢ Some port) lines

pub apart-changed : {P : Type 0} (place port : ℕ) (lines : List (LineOf P)) → port ≢ 0 → NoneHas port lines → HavePortsApart lines
    → HavePortsApart (changed_at place (λ (line : LineOf P). unconnected (Some port)) lines)
apart-changed place port [] some none apart = tt
apart-changed zero port (line ∷ lines) some none apart = (λ is. some (same_Some port 0 is), (none.1, apart.1.1))
apart-changed (suc place) port (line ∷ lines) some none apart =
    (apart.0, (other-changed line.port place port lines none.0 apart.1.0, apart-changed place port lines some none.1 apart.1.1))

pub apart-given : {P : Type 0} (many : ℕ) (given : List (ℕ × ℕ)) (lines : List (LineOf P)) → AreGiven many given → AllByRecursion (λ (g : ℕ × ℕ). NoneHas g.1 lines) given
    → HavePortsApart lines → HavePortsApart (with_ports given lines)
unfolding AreGiven NoneIs
apart-given many [] lines are none apart = apart
apart-given {P} many (g ∷ given) lines are none apart =
    apart-given many given (changed_at g.0 (λ (line : LineOf P). unconnected (Some g.1)) lines) are.4 (later given are.3 none.1) (apart-changed g.0 g.1 lines are.1 none.0 apart)
  where
    later : (more : List (ℕ × ℕ)) → NoneIs g.1 more → AllByRecursion (λ (h : ℕ × ℕ). NoneHas h.1 lines) more
        → AllByRecursion (λ (h : ℕ × ℕ). NoneHas h.1 (changed_at g.0 (λ (line : LineOf P). unconnected (Some g.1)) lines)) more
    later [] other free = tt
    later (h ∷ more) other free = (
      every-changed (λ (line : LineOf P). line.port ≢ Some h.1) g.0 g.1 lines (λ same. other.0 (sym (same_Some g.1 h.1 same))) free.0,
      later more other.1 free.1,
    )

-- ---- the lines of a row get ports that none has

pub untaken-row : {P : Type 0} (n place port : ℕ) (lines : List (LineOf P)) → are_taken n port lines ≡ false
    → AllByRecursion (λ (g : ℕ × ℕ). NoneHas g.1 lines) (row_from n place port)
unfolding are_taken row_from
untaken-row zero place port lines is = tt
untaken-row (suc n) place port lines is =
    let two = or_parts (is_taken port lines) (are_taken n (suc port) lines) is in
    (untaken port lines two.0, untaken-row n (suc place) (suc port) lines two.1)

module _ {P : Type 0} (count place port : ℕ) (lines : List (LineOf P)) where
  pub apart-row : place + count ≤ length lines → 1 ≤ port → are_taken count port lines ≡ false → HavePortsApart lines → HavePortsApart (with_ports (row_from count place port) lines)
  apart-row fits one free apart =
      apart-given (length lines) (row_from count place port) lines (row-given (length lines) count place port fits one) (untaken-row count place port lines free) apart

  -- those before it and those behind it stay as they were
  pub outside-row : (other : ℕ) → (other < place) ⊎ (place + count ≤ other) → slice_get (with_ports (row_from count place port) lines) other ≡ slice_get lines other
  outside-row other (inl below) = given-other (row_from count place port) other lines (row-at count place port other below)
  outside-row other (inr past) = given-other (row_from count place port) other lines (row-past count place port other past)

-- and each of the row has its own
pub inside-row : {P : Type 0} (count place port k : ℕ) (lines : List (LineOf P)) → k < count → place + count ≤ length lines
    → slice_get (with_ports (row_from count place port) lines) (place + k) ≡ Some (unconnected (Some (port + k)))
unfolding row_from
inside-row zero place port k lines below fits = absurd (omega (arith, below))
inside-row {P} (suc count) place port zero lines below fits =
    let after : List (LineOf P) = changed_at place (λ (line : LineOf P). unconnected (Some port)) lines in
    let here : place + 0 ≡ place = omega arith in
    let own : port ≡ port + 0 = omega arith in
    ap (slice_get (with_ports (row_from count (suc place) (suc port)) after)) here
    ∙ given-other (row_from count (suc place) (suc port)) place after (row-at count (suc place) (suc port) place (omega arith))
    ∙ changed-there place port lines (omega (arith, fits))
    ∙ ap (λ (p : ℕ). Some (unconnected {P = P} (Some p))) own
inside-row {P} (suc count) place port (suc k) lines below fits =
    let after : List (LineOf P) = changed_at place (λ (line : LineOf P). unconnected (Some port)) lines in
    let many : length after ≡ length lines = changed-length place (λ (line : LineOf P). unconnected (Some port)) lines in
    let next : place + suc k ≡ suc place + k = omega arith in
    let own : suc port + k ≡ port + suc k = omega arith in
    ap (slice_get (with_ports (row_from count (suc place) (suc port)) after)) next
    ∙ inside-row count (suc place) (suc port) k after (omega (arith, below)) (omega (arith, fits, many))
    ∙ ap (λ (p : ℕ). Some (unconnected {P = P} (Some p))) own

-- ---- ports that are listened on

more-listened : (ports : List ℕ) (listens : ℕ → Bool) (port : ℕ) → IsTrue (listens port) → IsTrue (listens_each ports listens port)
more-listened [] listens port is = is
more-listened (q ∷ ports) listens port is = more-listened ports (with_one q listens) port (by (port == q))
  where
    by : (b : Bool) → IsTrue (if b then true else listens port)
    by true = refl
    by false = is

all-listened : (ports : List ℕ) (listens : ℕ → Bool) → AllByRecursion (λ (p : ℕ). IsTrue (listens_each ports listens p)) ports
all-listened [] listens = tt
all-listened (q ∷ ports) listens =
    (more-listened ports (with_one q listens) q (ap (λ (b : Bool). if b then true else listens q) (eq-eqb q q refl)), all-listened ports (with_one q listens))

pub given-listened : (given : List (ℕ × ℕ)) (listens : ℕ → Bool)
    → AllByRecursion (λ (g : ℕ × ℕ). IsTrue (listens_each (map (λ (h : ℕ × ℕ). h.1) given) listens g.1)) given
given-listened given listens = by given (map (λ (h : ℕ × ℕ). h.1) given) (all-listened (map (λ (h : ℕ × ℕ). h.1) given) listens)
  where
    by : (more : List (ℕ × ℕ)) (ports : List ℕ) → AllByRecursion (λ (p : ℕ). IsTrue (listens_each ports listens p)) (map (λ (h : ℕ × ℕ). h.1) more)
        → AllByRecursion (λ (g : ℕ × ℕ). IsTrue (listens_each ports listens g.1)) more
    by [] ports all = tt
    by (g ∷ more) ports all = (all.0, by more ports all.1)

-- one that is listened on then was so before, or is one of these
pub listened-before : (given : List (ℕ × ℕ)) (listens : ℕ → Bool) (port : ℕ) → IsTrue (listens_each (map (λ (h : ℕ × ℕ). h.1) given) listens port)
    → IsTrue (listens port) ⊎ ((g : ℕ × ℕ) × (g.1 ≡ port) × ((Is : ℕ × ℕ → Type 0) → AllByRecursion Is given → Is g))
listened-before [] listens port is = inl is
listened-before (g ∷ given) listens port is = elim (listened-before given (with_one g.1 listens) port is) [
  | inr (h, same, among) ↦ inr (h, same, λ Is all. among Is all.1)
  | inl now ↦ by (port == g.1) (eqb_tells port g.1) now
]
  where
    by : (b : Bool) → ((b ≡ true) × (port ≡ g.1)) ⊎ ((b ≡ false) × (port ≢ g.1)) → (if b then true else listens port) ≡ true
        → IsTrue (listens port) ⊎ ((h : ℕ × ℕ) × (h.1 ≡ port) × ((Is : ℕ × ℕ → Type 0) → AllByRecursion Is (g ∷ given) → Is h))
    by true (inl e) now = inr (g, sym e.1, λ Is all. all.0)
    by true (inr e) now = absurd (true≢false e.0)
    by false tells now = inl now

-- nor is one listened on where ports were given up that was not before
pub given-up-before : (ports : List ℕ) (listens : ℕ → Bool) (port : ℕ) → IsTrue (given_up ports listens port) → IsTrue (listens port)
given-up-before [] listens port is = is
given-up-before (q ∷ ports) listens port is = given-up-before ports listens port (by (port == q) is)
  where
    by : (b : Bool) → (if b then false else given_up ports listens port) ≡ true → given_up ports listens port ≡ true
    by true is = absurd (true≢false (sym is))
    by false is = is
