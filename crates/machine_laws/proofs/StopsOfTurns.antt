-- The stops of a turn and their causes.
use Rattle.std.proofs.Common.{◌≡◌, ◌≢◌, ◌↔◌, ◌⊎◌, inl, inr, ℕ, ◌==◌, Bool, true, false, List, Option, Some, None, option_map, Result, Ok, Err, refl, ap, sym, subst, ◌∙◌, if◌then◌else◌}
use Rattle.observations.specs.Observations.{Observation}
use Rattle.unit_trait.specs.declared.kind.UnitName.{UnitName}
use Rattle.unit_trait.specs.declared.calls.Want.{Want}
use Rattle.unit_trait.specs.declared.calls.Want.TheVariants as want
use Rattle.unit_trait.specs.declared.calls.Got.{Got}
use Rattle.unit_trait.specs.declared.calls.UnitStop.{UnitStop}
use Rattle.unit_trait.specs.declared.calls.UnitStop.TheVariants as unit_stop
use Rattle.nova_machine.specs.declared.machine.Stop.{Stop}
use Rattle.nova_machine.specs.declared.machine.Stop.TheVariants.{Halt, ChainLimit, UnknownDevice, Break, Expect, UnitEnd, UnitNone, BadImage, FileFault, Wru}
use Rattle.nova_machine.specs.Machine.{MachineState}
use Rattle.unit_files.specs.Attachments.{attachment_at}
use Rattle.unit_files.specs.Acts.{Failure}
use Rattle.nova_machine.specs.Notes.{UnitNote}
use Rattle.nova_machine.specs.Seen.{Seen, with_machine, attached_in}
use Rattle.nova_machine.specs.Parts.{Part, behind_made, followed}
use Rattle.nova_machine.specs.Wants.{stop_by, key_stop, own_stop, wru, answer_to}
use Rattle.expect_actions.specs.Breaks.{stop_at}
use Rattle.expect_actions.specs.Expects.{ExpectTable, match_at}
use Rattle.nova_machine.specs.OnLines.{Lined}
use Rattle.machine_laws.proofs.LineStops.{lined-stops}
use Rattle.nova_machine.specs.Service.{answered, first_stop, replied, hosted, want_at, key_at, own_service, line_service, lined_at, around, asked, service, taken, serving}
use Rattle.nova_machine.specs.Turn.{fetch, interrupt, breaks_tested, breaks_tested_unless, attended, prepared, turn}
use Rattle.nova_machine.specs.StopLaws.{fetched, IsEndless, IsEndlessEntry, IsBroken, IsReached, ready, IsHalted, behind_entry, TurnStops}
use Rattle.memory_transfer.specs.Tapes.{NoAnswer, FileFails, ImageIsBad}
use Rattle.nova_machine.proofs.Walks.{OfServices, walk-serving}
use Rattle.nova_machine.proofs.EachService.{each-service}
use Rattle.nova_machine.proofs.Opened.{stop-cases, attended-stops, attended-goes, prepared-stops, prepared-goes, turn-stops, turn-goes}
use Rattle.nova_machine.proofs.Stops.{stops-fetch, enters-interrupt}

-- ---- what comes before it

-- the stops of services
abbrev IsUnitStop : Option Stop → Type 0
IsUnitStop (Some (UnitEnd u)) = Unit {0}
IsUnitStop (Some (UnitNone u)) = Unit {0}
IsUnitStop (Some (BadImage u place)) = Unit {0}
IsUnitStop (Some (FileFault f)) = Unit {0}
IsUnitStop (Some Wru) = Unit {0}
IsUnitStop (Some (Expect k)) = Unit {0}
IsUnitStop None = Unit {0}
IsUnitStop other = ⊥

unit-stop_by : (u : UnitName) (stop : UnitStop) → IsUnitStop (stop_by u stop)
unit-stop_by u unit_stop.Go = tt
unit-stop_by u unit_stop.End = tt
unit-stop_by u unit_stop.NoFile = tt

unit-followed : (made : List (Observation Seen)) (stop : Option Stop) (s : Seen) (more : Seen → Part) → IsUnitStop stop → ((next : Seen) → IsUnitStop (more next).stop) → IsUnitStop (followed made stop s more).stop
unit-followed made (Some stop) s more first second = first
unit-followed made None s more first second = second s

unit-key : (key : Option ℕ) (stop : Option Stop) → IsUnitStop stop → IsUnitStop (first_stop (key_stop key) stop)
unit-key None stop is = is
unit-key (Some key) stop is = test (key == wru)
  where
    test : (b : Bool) → IsUnitStop (first_stop (if b then Some Wru else None) stop)
    test true = tt
    test false = is

unit-match : (place : Option ℕ) (stop : Option Stop) → IsUnitStop stop → IsUnitStop (first_stop (option_map Expect place) stop)
unit-match None stop is = is
unit-match (Some k) stop is = tt

unit-own : (key : Option ℕ) (expects : ExpectTable) (w : Want) (stop : Option Stop) → IsUnitStop stop → IsUnitStop (first_stop (own_stop key expects w) stop)
unit-own key expects want.Key stop is = unit-key key stop is
unit-own key expects (want.Console byte) stop is = unit-match (match_at byte expects) stop is
unit-own key expects w stop is = is

unit-replied : (u : UnitName) (key : Option ℕ) (expects : ExpectTable) (w : Want) (answer : Result Got NoAnswer) (s : Seen) → IsUnitStop (replied u (own_stop key expects w) answer s).stop
unfolding answered
unit-replied u key expects w (Ok g) s = unit-own key expects w _ (unit-stop_by u _)
unit-replied u key expects w (Err (FileFails f)) s = tt
unit-replied u key expects w (Err (ImageIsBad place)) s = tt

unit-own_service : (fault : Option Failure) (u : UnitName) (s : Seen) → IsUnitStop (own_service fault u s).stop
unfolding own_service
unit-own_service fault u s =
    let w = want_at u s.machine in
    unit-replied u (key_at s) s.watch.expects w (answer_to fault (attachment_at (attached_in s.machine) u) s.files (key_at s) w) (hosted fault u s)

unit-line : (u : UnitName) (l : Lined) (s : Seen) → lined_at u s ≡ Some l → IsUnitStop (line_service u l s).stop
unfolding line_service answered
unit-line u l s there =
    lined-stops (λ (o : Option Stop). IsUnitStop (first_stop o (answered u l.got (asked u s.machine)).stop)) (want_at u s.machine) (around s) l (unit-stop_by u _) tt (λ k. tt) there

unit-service : (fault : Option Failure) (u : UnitName) (s : Seen) → IsUnitStop (service fault u s).stop
unit-service fault u s = each-service (λ p. IsUnitStop p.stop) fault u s (unit-own_service fault u s) (λ l is. unit-line u l s is)

-- the stop of a part is one of a service
abbrev StopsForUnits : Seen → Part → Type 0
StopsForUnits s p = IsUnitStop p.stop

services-stop : OfServices StopsForUnits
services-stop = record {
  none = λ s. tt;
  both = λ s p goes_on first more. unit-followed p.made p.stop p.after goes_on first more;
  one = λ fault u s. unit-service fault u (taken s);
}

pub unit-serving : (note : Option UnitNote) (s : Seen) → IsUnitStop (serving note s).stop
unit-serving note s = walk-serving StopsForUnits services-stop note s

-- ---- the whole turn

-- where the turn stops before its breaks: in a service, or at an entry without an end
early : (note : Option UnitNote) (s : Seen) (x : Stop) → (attended note s).stop ≡ Some x
    → ((serving note s).stop ≡ Some x) ⊎ ((x ≡ ChainLimit) × IsEndlessEntry note s)
early note s x is =
    elim (stop-cases (serving note s).stop) [
      | inl goes ↦
          let now = attended-goes note s goes in
          let m = (serving note s).after.machine in
          let stop : (interrupt m).stop ≡ Some x = sym (ap (λ (p : Part). p.stop) now) ∙ is in
          elim (enters-interrupt m).cases [
            | inl on ↦ absurd (cc)
            | inr w ↦
                let same : Some x ≡ Some ChainLimit = sym stop ∙ w.0 in
                inr (cc, record { goes = goes; comes = w.1; chain = w.2 })
          ]
      | inr w ↦ inl (sym (ap (λ (p : Part). p.stop) (attended-stops note s w.0 w.1)) ∙ is)
    ]

entry-stops : (note : Option UnitNote) (s : Seen) → IsEndlessEntry note s → ((attended note s).stop ≡ Some ChainLimit) × ((attended note s).after.machine ≡ behind_entry (serving note s).after.machine)
entry-stops note s e =
    let m = (serving note s).after.machine in
    let now = attended-goes note s e.goes in
    let at = (enters-interrupt m).endless e.comes e.chain in
    (ap (λ (p : Part). p.stop) now ∙ at.0, ap (λ (p : Part). p.after.machine) now ∙ at.1)

-- the stop of a test of the breaks
tested-stop : (first : Bool) (s : Seen) (x : Stop) → (breaks_tested_unless first s).stop ≡ Some x
    → (k : ℕ) × (x ≡ Break k) × (first ≡ false) × (stop_at s.machine.processor.cpu.pc s.watch.breaks.list ≡ Some k)
unfolding breaks_tested
tested-stop true s x is = absurd (cc)
tested-stop false s x is = by-place (stop_at s.machine.processor.cpu.pc s.watch.breaks.list) refl is
  where
    by-place : (o : Option ℕ) → stop_at s.machine.processor.cpu.pc s.watch.breaks.list ≡ o → option_map Break o ≡ Some x
        → (k : ℕ) × (x ≡ Break k) × (false ≡ false) × (stop_at s.machine.processor.cpu.pc s.watch.breaks.list ≡ Some k)
    by-place None at is = absurd (cc)
    by-place (Some k) at is = (k, cc, refl, at)

tested-broken : (s : Seen) (k : ℕ) → stop_at s.machine.processor.cpu.pc s.watch.breaks.list ≡ Some k → ((breaks_tested s).stop ≡ Some (Break k)) × ((breaks_tested s).after.machine ≡ s.machine)
unfolding breaks_tested
tested-broken s k is = (ap (λ (o : Option ℕ). option_map Break o) is, refl)

-- a break that stops
broken-stops : (note : Option UnitNote) (first : Bool) (s : Seen) (k : ℕ) → IsBroken note first s k
    → ((prepared note first s).stop ≡ Some (Break k)) × ((prepared note first s).after.machine ≡ (attended note s).after.machine)
broken-stops note first s k b =
    let now = prepared-goes note first s b.attends ∙ ap (λ (f : Bool). behind_made (attended note s).made (breaks_tested_unless f (attended note s).after)) b.later in
    let at = tested-broken (attended note s).after k b.stops in
    (ap (λ (p : Part). p.stop) now ∙ at.0, ap (λ (p : Part). p.after.machine) now ∙ at.1)

-- where the preparation stops
prepared-early : (note : Option UnitNote) (first : Bool) (s : Seen) (x : Stop) → (prepared note first s).stop ≡ Some x
    → ((attended note s).stop ≡ Some x) ⊎ ((k : ℕ) × (x ≡ Break k) × IsBroken note first s k)
prepared-early note first s x is =
    elim (stop-cases (attended note s).stop) [
      | inl goes ↦
          let stop : (breaks_tested_unless first (attended note s).after).stop ≡ Some x = sym (ap (λ (p : Part). p.stop) (prepared-goes note first s goes)) ∙ is in
          let (k, same, later, at) = tested-stop first (attended note s).after x stop in
          inr (k, same, record { later = later; attends = goes; stops = at })
      | inr w ↦ inl (sym (ap (λ (p : Part). p.stop) (prepared-stops note first s w.0 w.1)) ∙ is)
    ]

-- the stop of a turn, by where it comes from
record ComesFrom (note : Option UnitNote) (first : Bool) (s : Seen) (x : Stop) : Type 0 where
  from : ((serving note s).stop ≡ Some x) ⊎ (((x ≡ ChainLimit) × IsEndlessEntry note s) ⊎ (((k : ℕ) × (x ≡ Break k) × IsBroken note first s k) ⊎ (IsReached note first s × ((fetch (ready note first s)).stop ≡ Some x))))

comes-from : (note : Option UnitNote) (first : Bool) (s : Seen) (x : Stop) → (turn note first s).stop ≡ Some x → ComesFrom note first s x
comes-from note first s x is =
    elim (stop-cases (prepared note first s).stop) [
      | inl goes ↦ record { from = inr (inr (inr (goes, sym (ap (λ (p : Part). p.stop) (turn-goes note first s goes)) ∙ is))) }
      | inr w ↦
          let at : (prepared note first s).stop ≡ Some x = sym (ap (λ (p : Part). p.stop) (turn-stops note first s w.0 w.1)) ∙ is in
          elim (prepared-early note first s x at) [
            | inl before ↦ elim (early note s x before) [
              | inl served ↦ record { from = inl served }
              | inr entered ↦ record { from = inr (inl entered) }
            ]
            | inr broken ↦ record { from = inr (inr (inl broken)) }
          ]
    ]

reached-stop : (note : Option UnitNote) (first : Bool) (s : Seen) (x : Stop) → IsReached note first s → (fetch (ready note first s)).stop ≡ Some x → (turn note first s).stop ≡ Some x
reached-stop note first s x reached is = ap (λ (p : Part). p.stop) (turn-goes note first s reached) ∙ is

served-turn : (note : Option UnitNote) (first : Bool) (s : Seen) (stop : Stop) → (serving note s).stop ≡ Some stop → turn note first s ≡ serving note s
served-turn note first s stop is =
    let now = attended-stops note s stop is in
    let before = prepared-stops note first s stop (ap (λ (p : Part). p.stop) now ∙ is) ∙ now in
    turn-stops note first s stop (ap (λ (p : Part). p.stop) before ∙ is) ∙ before

-- a stop that is no unit's does not come from a service
not-served : (note : Option UnitNote) (s : Seen) (x : Stop) → (IsUnitStop (Some x) → ⊥) → (serving note s).stop ≢ Some x
not-served note s x other is = other (subst (λ (o : Option Stop). IsUnitStop o) is (unit-serving note s))

-- an instruction's own stop
own : (note : Option UnitNote) (first : Bool) (s : Seen) (x : Stop) → (IsUnitStop (Some x) → ⊥) → x ≢ ChainLimit → ((k : ℕ) → x ≢ Break k) → (turn note first s).stop ≡ Some x → IsReached note first s × ((fetch (ready note first s)).stop ≡ Some x)
own note first s x other different unbroken is =
    elim (comes-from note first s x is).from [
      | inl served ↦ absurd (not-served note s x other served)
      | inr more ↦ elim more [
        | inl entered ↦ absurd (different entered.0)
        | inr last ↦ elim last [ inl broken ↦ absurd (unbroken broken.0 broken.1) | inr reached ↦ reached ]
      ]
    ]

units-own : (note : Option UnitNote) (first : Bool) (s : Seen) (x : Stop) → x ≢ ChainLimit → ((k : ℕ) → x ≢ Break k) → ((fetch (ready note first s)).stop ≢ Some x) → ((turn note first s).stop ≡ Some x) ↔ ((serving note s).stop ≡ Some x)
units-own note first s x different unbroken none = (
  (λ is. elim (comes-from note first s x is).from [
    | inl served ↦ served
    | inr more ↦ elim more [
      | inl entered ↦ absurd (different entered.0)
      | inr last ↦ elim last [ inl broken ↦ absurd (unbroken broken.0 broken.1) | inr reached ↦ absurd (none reached.1) ]
    ]
  ]),
  (λ is. ap (λ (p : Part). p.stop) (served-turn note first s x is) ∙ is),
)

chain-from : (note : Option UnitNote) (first : Bool) (s : Seen) → (turn note first s).stop ≡ Some ChainLimit → IsEndlessEntry note s ⊎ (IsReached note first s × IsEndless (fetched (ready note first s)) (ready note first s))
chain-from note first s is =
    elim (comes-from note first s ChainLimit is).from [
      | inl served ↦ absurd (not-served note s ChainLimit (λ h. h) served)
      | inr more ↦ elim more [
        | inl entered ↦ inl entered.1
        | inr last ↦ elim last [
          | inl broken ↦ let other = broken.1 in absurd (cc)
          | inr reached ↦ inr (reached.0, (stops-fetch (ready note first s)).chain_limit.0 reached.1)
        ]
      ]
    ]

chain-to : (note : Option UnitNote) (first : Bool) (s : Seen) → (IsEndlessEntry note s ⊎ (IsReached note first s × IsEndless (fetched (ready note first s)) (ready note first s))) → (turn note first s).stop ≡ Some ChainLimit
chain-to note first s (inl e) =
    let at = entry-stops note s e in
    let before = prepared-stops note first s ChainLimit at.0 in
    let is : (prepared note first s).stop ≡ Some ChainLimit = ap (λ (p : Part). p.stop) before ∙ at.0 in
    ap (λ (p : Part). p.stop) (turn-stops note first s ChainLimit is) ∙ is
chain-to note first s (inr e) = reached-stop note first s ChainLimit e.0 ((stops-fetch (ready note first s)).chain_limit.1 e.1)

after-reached : (note : Option UnitNote) (first : Bool) (s : Seen) → IsReached note first s → (turn note first s).after.machine ≡ (fetch (ready note first s)).machine
after-reached note first s reached = ap (λ (p : Part). p.after.machine) (turn-goes note first s reached)

after-all : (note : Option UnitNote) (first : Bool) (s : Seen) → IsReached note first s → (fetch (ready note first s)).machine ≡ ready note first s → (turn note first s).after ≡ (prepared note first s).after
after-all note first s reached is = ap (λ (p : Part). p.after) (turn-goes note first s reached) ∙ ap (λ (m : MachineState). with_machine (prepared note first s).after m) is

stop-of-reached : (note : Option UnitNote) (first : Bool) (s : Seen) (x : Stop) → IsReached note first s → (turn note first s).stop ≡ Some x → (fetch (ready note first s)).stop ≡ Some x
stop-of-reached note first s x reached is = sym (ap (λ (p : Part). p.stop) (turn-goes note first s reached)) ∙ is

broken-from : (note : Option UnitNote) (first : Bool) (s : Seen) (k : ℕ) → (turn note first s).stop ≡ Some (Break k) → IsBroken note first s k
broken-from note first s k is =
    elim (comes-from note first s (Break k) is).from [
      | inl served ↦ absurd (not-served note s (Break k) (λ h. h) served)
      | inr more ↦ elim more [
        | inl entered ↦ let other = entered.0 in absurd (cc)
        | inr last ↦ elim last [
          | inl broken ↦ same-break broken.0 broken.1 broken.2
          | inr reached ↦ absurd ((stops-fetch (ready note first s)).not_break k reached.1)
        ]
      ]
    ]
  where
    same-break : (j : ℕ) → Break k ≡ Break j → IsBroken note first s j → IsBroken note first s k
    same-break j same b = subst (λ (n : ℕ). IsBroken note first s n) (ap (λ (x : Stop). place-of x) (sym same)) b
      where
        place-of : Stop → ℕ
        place-of (Break n) = n
        place-of x = 0

broken-to : (note : Option UnitNote) (first : Bool) (s : Seen) (k : ℕ) → IsBroken note first s k → (turn note first s).stop ≡ Some (Break k)
broken-to note first s k b =
    let at = broken-stops note first s k b in ap (λ (p : Part). p.stop) (turn-stops note first s (Break k) at.0) ∙ at.0

pub stops-of-turns : TurnStops
stops-of-turns = record {
  service = served-turn;
  unit_end = λ note first s u. units-own note first s (UnitEnd u) (λ e. absurd (cc)) (λ k e. absurd (cc)) ((stops-fetch (ready note first s)).not_units u).0;
  unit_none = λ note first s u. units-own note first s (UnitNone u) (λ e. absurd (cc)) (λ k e. absurd (cc)) ((stops-fetch (ready note first s)).not_units u).1;
  bad_image = λ note first s u place. units-own note first s (BadImage u place) (λ e. absurd (cc)) (λ k e. absurd (cc)) ((stops-fetch (ready note first s)).not_images u place);
  file_fault = λ note first s f. units-own note first s (FileFault f) (λ e. absurd (cc)) (λ k e. absurd (cc)) ((stops-fetch (ready note first s)).not_files f);
  wru = λ note first s. units-own note first s Wru (λ e. absurd (cc)) (λ k e. absurd (cc)) (stops-fetch (ready note first s)).not_key;
  expect = λ note first s k. units-own note first s (Expect k) (λ e. absurd (cc)) (λ j e. absurd (cc)) ((stops-fetch (ready note first s)).not_expect k);
  break_ = λ note first s k. (broken-from note first s k, broken-to note first s k);
  halt = λ note first s. (
    (λ is. let at = own note first s Halt (λ h. h) (λ e. absurd (cc)) (λ k e. absurd (cc)) is in (at.0, (stops-fetch (ready note first s)).halt.0 at.1)),
    (λ e. reached-stop note first s Halt e.0 ((stops-fetch (ready note first s)).halt.1 e.1)),
  );
  unknown_device = λ note first s. (
    (λ is. let at = own note first s UnknownDevice (λ h. h) (λ e. absurd (cc)) (λ k e. absurd (cc)) is in (at.0, (stops-fetch (ready note first s)).unknown.0 at.1)),
    (λ e. reached-stop note first s UnknownDevice e.0 ((stops-fetch (ready note first s)).unknown.1 e.1)),
  );
  chain_limit = λ note first s. (chain-from note first s, chain-to note first s);
  halted = λ note first s is.
      let at = own note first s Halt (λ h. h) (λ e. absurd (cc)) (λ k e. absurd (cc)) is in
      let P : MachineState → Type 0 = λ m. IsHalted (ready note first s) m in
      subst P (sym (after-reached note first s at.0)) ((stops-fetch (ready note first s)).halted_is at.1);
  unknown = λ note first s is.
      let at = own note first s UnknownDevice (λ h. h) (λ e. absurd (cc)) (λ k e. absurd (cc)) is in
      after-all note first s at.0 ((stops-fetch (ready note first s)).unknown_is at.1);
  unended = λ note first s reached is.
      after-reached note first s reached ∙ (stops-fetch (ready note first s)).unended (stop-of-reached note first s ChainLimit reached is);
  unentered = λ note first s e.
      let at = entry-stops note s e in
      let before = prepared-stops note first s ChainLimit at.0 in
      let is : (prepared note first s).stop ≡ Some ChainLimit = ap (λ (p : Part). p.stop) before ∙ at.0 in
      ap (λ (p : Part). p.after.machine) (turn-stops note first s ChainLimit is ∙ before) ∙ at.1;
  broken = λ note first s k is.
      let b = broken-from note first s k is in
      let at = broken-stops note first s k b in
      ap (λ (p : Part). p.after.machine) (turn-stops note first s (Break k) at.0) ∙ at.1;
}
