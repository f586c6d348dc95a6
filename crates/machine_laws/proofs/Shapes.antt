-- A turn and a run keep of which kinds the units are, what is attached, how many lines there are, and which port each has.
use Rattle.std.proofs.Common.{◌≡◌, inl, inr, ap, ℕ, zero, suc, Bool, true, false, is_some, if◌then◌else◌, List, [], ◌∷◌, length, slice_get, slice_set, Option, Some, None, option_map, Result, Ok, Err, refl, sym, subst, ◌∙◌}
use Rattle.std.proofs.lemmas.List.{length-set}
use Rattle.std.proofs.lemmas.Option.{same_Some}
use Rattle.observations.specs.Observations.{Observation, StandsAt}
use Rattle.observations.proofs.MadeLemmas.{stands-either}
use Rattle.host_lines.specs.Traffic.{Peer}
use Rattle.telnet_lines.specs.Line.{LineOf}
use Rattle.telnet_lines.specs.Poll.{polled}
use Rattle.unit_trait.specs.declared.kind.UnitName.{UnitName}
use Rattle.unit_trait.specs.declared.calls.Want.{Want}
use Rattle.unit_trait.specs.declared.calls.Want.TheVariants as want
use Rattle.unit_trait.specs.declared.calls.Got.{Got}
use Rattle.unit_trait.specs.Kinds.{code_of}
use Rattle.unit_trait.specs.Calls.{Due, Answered}
use Rattle.unit_list.proofs.Calls.{after-kinds}
use Rattle.unit_files.specs.Acts.{Failure}
use Rattle.nova_machine.specs.declared.machine.Stop.{Stop}
use Rattle.nova_machine.specs.Notes.{UnitNote, RunNote}
use Rattle.memory_transfer.specs.Tapes.{NoAnswer}
use Rattle.nova_machine.specs.Seen.{Seen, with_machine}
use Rattle.nova_machine.specs.Parts.{Part, silent, behind_made, followed}
use Rattle.nova_machine.specs.Turned.{Turned, still}
use Rattle.nova_machine.specs.LineChanges.{ports_of}
use Rattle.nova_machine.specs.OnLines.{Lined, Around, lined_by, put_by, put_line, console_in, console_polled, console_key, console_put, lined, sends}
use Rattle.nova_machine.specs.Wants.{prints}
use Rattle.nova_machine.specs.Service.{asked, answered, hosted, replied, own_service, behind_line, line_service, around, service, taken, lined_at, want_at}
use Rattle.nova_machine.specs.Turn.{breaks_tested, turn}
use Rattle.nova_machine.specs.Run.{run}
use Rattle.machine_laws.specs.ValidLaws.{StaysAs, KeepsShape}
use Rattle.machine_laws.proofs.Ports.{polled-port, put-port}
use Rattle.nova_machine.proofs.Walks.{OfTurns, OfRuns, walk-turn, walk-run}
use Rattle.nova_machine.proofs.EachService.{each-service, sends-nowhere}
use Rattle.nova_machine.proofs.Leaves.{Leaves, leaves-fetch, leaves-interrupt}

stays : (s : Seen) → StaysAs s s
stays s = record { kinds = refl; slots = refl; own = refl; aside = refl; count = refl; ports = refl }

stays-then : (s t u : Seen) → StaysAs s t → StaysAs t u → StaysAs s u
stays-then s t u one two = record { kinds = two.kinds ∙ one.kinds; slots = two.slots ∙ one.slots; own = two.own ∙ one.own; aside = two.aside ∙ one.aside; count = two.count ∙ one.count; ports = two.ports ∙ one.ports }

-- nothing is made, or what is made comes where the shape is as it was
keeps-silent : (stop : Option Stop) (s t : Seen) → StaysAs s t → KeepsShape s (silent stop t)
keeps-silent stop s t is = record { after = is; made = λ u h. absurd h }

keeps-behind : (s : Seen) (made : List (Observation Seen)) (p : Part) → ((t : Seen) → StandsAt t made → StaysAs s t) → KeepsShape s p → KeepsShape s (behind_made made p)
keeps-behind s made p first is = record {
  after = is.after;
  made = λ t h. elim (stands-either t made p.made h) [ inl x ↦ first t x | inr x ↦ is.made t x ];
}

-- from a state that has the shape of the first
keeps-from : (s t : Seen) (p : Part) → StaysAs s t → KeepsShape t p → KeepsShape s p
keeps-from s t p is keeps = record { after = stays-then s t p.after is keeps.after; made = λ u h. stays-then s t u is (keeps.made u h) }

keeps-followed : (s : Seen) (made : List (Observation Seen)) (stop : Option Stop) (next : Seen) (goes_on : Seen → Part) → ((t : Seen) → StandsAt t made → StaysAs s t) → StaysAs s next
    → ((t : Seen) → KeepsShape t (goes_on t)) → KeepsShape s (followed made stop next goes_on)
keeps-followed s made (Some stop) next goes_on first is more = record { after = is; made = first }
keeps-followed s made None next goes_on first is more = keeps-behind s made (goes_on next) first (keeps-from s next (goes_on next) is (more next))

keeps-then : (s : Seen) (p : Part) (goes_on : Seen → Part) → KeepsShape s p → ((next : Seen) → KeepsShape next (goes_on next)) → KeepsShape s (followed p.made p.stop p.after goes_on)
keeps-then s p goes_on first more = keeps-followed s p.made p.stop p.after goes_on first.made first.after more

-- ---- a service

-- one line of several in place of another, with the same port
ports-set : (i : ℕ) (lines : List (LineOf Peer)) (line after : LineOf Peer) → slice_get lines i ≡ Some line → after.port ≡ line.port → ports_of (slice_set lines i after) ≡ ports_of lines
ports-set i [] line after at same = refl
ports-set zero (l ∷ lines) line after at same =
    let is : l ≡ line = same_Some l line at in
    ap (λ (p : Option ℕ). p ∷ ports_of lines) (same ∙ ap (λ (x : LineOf Peer). x.port) (sym is))
ports-set (suc i) (l ∷ lines) line after at same = ap (λ (ps : List (Option ℕ)). l.port ∷ ps) (ports-set i lines line after at same)

-- as many lines as before, with the same ports
record SameLines (before after : List (LineOf Peer)) : Type 0 where
  pub count : length after ≡ length before
  pub ports : ports_of after ≡ ports_of before

set-same : (i : ℕ) (lines : List (LineOf Peer)) (line after : LineOf Peer) → slice_get lines i ≡ Some line → after.port ≡ line.port → SameLines lines (slice_set lines i after)
set-same i lines line after at same = record { count = length-set lines i after; ports = ports-set i lines line after at same }

console-at : (lines : List (LineOf Peer)) (line : LineOf Peer) → console_in lines ≡ Some line → slice_get lines 0 ≡ Some line
console-at [] line there = absurd (cc)
console-at (l ∷ lines) line there = by (is_some l.port) there
  where
    by : (b : Bool) → (if b then Some l else None) ≡ Some line → Some l ≡ Some line
    by true is = is
    by false is = absurd (cc)

lined-same : (w : Want) (a : Around) (l : Lined) → lined w a ≡ Some l → SameLines a.lines l.lines
unfolding lined
lined-same (want.LineKey n) a l there = by (slice_get a.lines (suc n)) refl there
  where
    by : (o : Option (LineOf Peer)) → slice_get a.lines (suc n) ≡ o → option_map (λ line. lined_by (suc n) a (polled a.time line a.ahead)) o ≡ Some l → SameLines a.lines l.lines
    by None at there = absurd (cc)
    by (Some line) at there =
        let q = polled a.time line a.ahead in
        let same : lined_by (suc n) a q ≡ l = cc in
        subst (λ (x : Lined). SameLines a.lines x.lines) same (set-same (suc n) a.lines line q.line at (polled-port a.time line a.ahead))
lined-same (want.LinePut n byte) a l there = by (slice_get a.lines (suc n)) refl there
  where
    by : (o : Option (LineOf Peer)) → slice_get a.lines (suc n) ≡ o → option_map (put_by (suc n) byte a) o ≡ Some l → SameLines a.lines l.lines
    by None at there = absurd (cc)
    by (Some line) at there =
        let same : put_by (suc n) byte a line ≡ l = cc in
        subst (λ (x : Lined). SameLines a.lines x.lines) same (set-same (suc n) a.lines line (put_line byte line) at (put-port byte line))
lined-same want.Key a l there = due a.due there
  where
    by : (o : Option (LineOf Peer)) → console_in a.lines ≡ o → option_map (λ line. console_polled a (polled a.time line a.ahead)) o ≡ Some l → SameLines a.lines l.lines
    by None at there = absurd (cc)
    by (Some line) at there =
        let q = polled a.time line a.ahead in
        let same : console_polled a q ≡ l = cc in
        subst (λ (x : Lined). SameLines a.lines x.lines) same (set-same 0 a.lines line q.line (console-at a.lines line at) (polled-port a.time line a.ahead))

    due : (key : Option ℕ) → console_key key a ≡ Some l → SameLines a.lines l.lines
    due None there = by (console_in a.lines) refl there
    due (Some key) there = absurd (cc)
lined-same (want.Console byte) a l there = by (console_in a.lines) refl there
  where
    by : (o : Option (LineOf Peer)) → console_in a.lines ≡ o → option_map (console_put byte a) o ≡ Some l → SameLines a.lines l.lines
    by None at there = absurd (cc)
    by (Some line) at there =
        let same : console_put byte a line ≡ l = cc in
        subst (λ (x : Lined). SameLines a.lines x.lines) same (set-same 0 a.lines line (put_line byte line) (console-at a.lines line at) (put-port byte line))
lined-same w a l there = absurd (cc)

-- the machine was asked, or was answered
stays-asked : (u : UnitName) (s : Seen) → StaysAs s (with_machine s (asked u s.machine))
unfolding asked
stays-asked u s = record { kinds = after-kinds (code_of u.kind) (Due u.unit) s.machine.units; slots = refl; own = refl; aside = refl; count = refl; ports = refl }

keeps-replied : (u : UnitName) (stop : Option Stop) (answer : Result Got NoAnswer) (s : Seen) → KeepsShape s (replied u stop answer s)
unfolding answered
keeps-replied u stop (Ok g) s =
    keeps-silent _ s _ (record { kinds = after-kinds (code_of u.kind) (Answered u.unit g) s.machine.units; slots = refl; own = refl; aside = refl; count = refl; ports = refl })
keeps-replied u stop (Err why) s = keeps-silent _ s s (stays s)

stays-hosted : (fault : Option Failure) (u : UnitName) (s : Seen) → StaysAs s (hosted fault u s)
unfolding hosted asked
stays-hosted fault u s = record { kinds = after-kinds (code_of u.kind) (Due u.unit) s.machine.units; slots = refl; own = refl; aside = refl; count = refl; ports = refl }

stays-printing : (w : Want) (s t u : Seen) → StaysAs s t → StandsAt u (prints w t) → StaysAs s u
stays-printing (want.Console byte) s t u is (inl same) = subst (λ (x : Seen). StaysAs s x) (sym same) is
stays-printing (want.Console byte) s t u is (inr none) = absurd none
stays-printing w s t u is h = absurd h

keeps-own : (fault : Option Failure) (u : UnitName) (s : Seen) → KeepsShape s (own_service fault u s)
unfolding own_service
keeps-own fault u s =
    keeps-behind s (prints (want_at u s.machine) (with_machine s (asked u s.machine))) _
    (λ t h. stays-printing (want_at u s.machine) s (with_machine s (asked u s.machine)) t (stays-asked u s) h)
    (keeps-from s (hosted fault u s) _ (stays-hosted fault u s) (keeps-replied u _ _ (hosted fault u s)))

stays-lined : (u : UnitName) (l : Lined) (s : Seen) → lined_at u s ≡ Some l → StaysAs s (behind_line u l s)
unfolding asked
stays-lined u l s there = record {
  kinds = after-kinds (code_of u.kind) (Due u.unit) s.machine.units;
  slots = refl;
  own = refl;
  aside = refl;
  count = (lined-same (want_at u s.machine) (around s) l there).count;
  ports = (lined-same (want_at u s.machine) (around s) l there).ports;
}

keeps-line : (u : UnitName) (l : Lined) (s : Seen) → lined_at u s ≡ Some l → KeepsShape s (line_service u l s)
unfolding line_service
keeps-line u l s there =
    keeps-behind s (sends l.sent) _ (λ t h. absurd (sends-nowhere l.sent t h))
    (keeps-from s (behind_line u l s) _ (stays-lined u l s there) (keeps-replied u l.stop (Ok l.got) (behind_line u l s)))

keeps-service : (fault : Option Failure) (u : UnitName) (s : Seen) → KeepsShape s (service fault u (taken s))
keeps-service fault u s =
    keeps-from s (taken s) _ (record { kinds = refl; slots = refl; own = refl; aside = refl; count = refl; ports = refl })
    (each-service (KeepsShape (taken s)) fault u (taken s) (keeps-own fault u (taken s)) (λ l there. keeps-line u l (taken s) there))

-- ---- a turn, and a run

keeps-still : (s : Seen) (t : Turned) → Leaves s.machine t.machine → KeepsShape s (still s t)
keeps-still s t leaves = keeps-silent _ s _ (record { kinds = leaves.kinds; slots = leaves.slots; own = leaves.lines; aside = leaves.aside; count = refl; ports = refl })

keeps-tested : (s : Seen) → KeepsShape s (breaks_tested s)
unfolding breaks_tested
keeps-tested s = keeps-silent _ s _ (record { kinds = refl; slots = refl; own = refl; aside = refl; count = refl; ports = refl })

of-turns : OfTurns KeepsShape
of-turns = record {
  pieces = record {
    services = record { none = λ s. keeps-silent None s s (stays s); both = keeps-then; one = keeps-service };
    interrupted = λ s. keeps-still s _ (leaves-interrupt s.machine);
    tested = keeps-tested;
  };
  fetched = λ s. keeps-still s _ (leaves-fetch s.machine);
}

of-runs : OfRuns KeepsShape
of-runs = record { turn = of-turns; over = λ s stop limit. keeps-silent (Some stop) s s (stays s) }

pub turn-shape : (note : Option UnitNote) (first : Bool) (s : Seen) → KeepsShape s (turn note first s)
turn-shape note first s = walk-turn KeepsShape of-turns note first s

pub run-shape : (note : Option RunNote) (step : Bool) (n : ℕ) (s : Seen) → KeepsShape s (run note step n s)
run-shape note step n s = walk-run KeepsShape of-runs note step n s
