-- What the answers of the commands that work on ports say of lines.
use Rattle.std.proofs.Common.{◌≡◌, sym, refl, ap, subst, arith, ℕ, zero, suc, ◌+◌, ◌-◌, ◌<◌, List, slice_get, slice_set, Option, Some, None, IsSome, Err}
use Rattle.host_lines.specs.State.{LineState}
use Rattle.telnet_lines.specs.Line.{LineOf}
use Rattle.command_session.specs.declared.fault.CommandFault.{CommandFault}
use Rattle.command_session.specs.declared.fault.CommandFault.TheVariants.{NoSuchName}
use Rattle.command_session.specs.Reply.{Answer}
use Rattle.command_session.specs.LineEffects.{terminal_place, closed, hung}
use Rattle.command_session.specs.LinesLeft.{GivesUp, needs_port}
use Rattle.command_session.specs.PortAnswers.{LinesStay, Refused, DropsAt, disconnects_at, closes_at, ClosesEach, Disconnects}

pub stays : (s : LineState) (before after : List (LineOf ℕ)) → after ≡ before → LinesStay s before s after
stays s before after same = record { lines = same; outside = refl }

-- a command that is refused before anything is asked
pub refuses : (fault : CommandFault) (s : LineState) (lines : List (LineOf ℕ)) → Refused fault (Err fault) s lines s lines
refuses fault s lines = record { answer_is = refl; stay = stays s lines lines refl }

-- ---- the line at a place

module _ (place : ℕ) (old new : LineState) (line after : LineOf ℕ) (none : line.port ≡ None → new ≡ old) where
  drops : (changed : LineOf ℕ) (given : Option ℕ) (lines : List (LineOf ℕ)) → after ≡ changed → (IsSome line.port → GivesUp given line.connection old new)
      → DropsAt place changed given old lines line new (slice_set lines place after)
  drops changed given lines is outside = record { lines = ap (slice_set lines place) is; none = none; outside = outside }

  pub line-closes : (lines : List (LineOf ℕ)) → slice_get lines place ≡ Some line → after ≡ closed line → (IsSome line.port → GivesUp line.port line.connection old new)
      → closes_at place (slice_get lines place) old lines new (slice_set lines place after)
  line-closes lines at is outside =
      subst (λ (o : Option (LineOf ℕ)). closes_at place o old lines new (slice_set lines place after)) (sym at) (drops (closed line) line.port lines is outside)

pub none-closes : (place : ℕ) (s : LineState) (lines : List (LineOf ℕ)) → slice_get lines place ≡ None → closes_at place (slice_get lines place) s lines s lines
none-closes place s lines none = subst (λ (o : Option (LineOf ℕ)). closes_at place o s lines s lines) (sym none) (stays s lines lines refl)

-- ---- rows

pub none-close : (n place : ℕ) (s : LineState) (lines : List (LineOf ℕ)) → n ≡ 0 → ClosesEach n place s lines s lines
unfolding ClosesEach
none-close zero place s lines none = stays s lines lines refl
none-close (suc n) place s lines none = absurd (omega (arith, none))

pub some-close : (n place left next : ℕ) (old mid new : LineState) (before between after : List (LineOf ℕ)) → 0 < n → left ≡ n - 1 → next ≡ place + 1
    → closes_at place (slice_get before place) old before mid between → ClosesEach left next mid between new after → ClosesEach n place old before new after
unfolding ClosesEach
some-close zero place left next old mid new before between after some less more first behind = absurd (omega (arith, some))
some-close (suc n) place left next old mid new before between after some less more first behind =
    let same : left ≡ n = omega (arith, less) in
    let one : next ≡ suc place = omega (arith, more) in
    (mid, between, first, subst (λ (k : ℕ). ClosesEach n k mid between new after) one (subst (λ (k : ℕ). ClosesEach k next mid between new after) same behind))

-- ---- SET of the second teletype

pub none-disconnects : (s : LineState) (lines : List (LineOf ℕ)) → slice_get lines terminal_place ≡ None → Disconnects (Err NoSuchName) s lines s lines
none-disconnects s lines none =
    subst (λ (o : Option (LineOf ℕ)). disconnects_at terminal_place o (Err NoSuchName) s lines s lines) (sym none) (refuses NoSuchName s lines)

pub line-disconnects : (old new : LineState) (line after : LineOf ℕ) → (line.port ≡ None → new ≡ old) → (answer : Answer) (lines : List (LineOf ℕ)) → slice_get lines terminal_place ≡ Some line
    → answer ≡ needs_port line.port → after ≡ hung line → (IsSome line.port → GivesUp None line.connection old new) → Disconnects answer old lines new (slice_set lines terminal_place after)
line-disconnects old new line after none answer lines at said is outside =
    subst (λ (o : Option (LineOf ℕ)). disconnects_at terminal_place o answer old lines new (slice_set lines terminal_place after)) (sym at)
    (said, drops terminal_place old new line after none (hung line) None lines is outside)
