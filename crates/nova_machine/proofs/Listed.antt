-- Each event is one of a unit that is there.
use Rattle.std.proofs.Common.{◌≡◌, inl, inr, ℕ, zero, suc, ◌≤◌, ◌==◌, Bool, true, false, not, List, [], ◌∷◌, Option, Some, None, IfSome, option_map, refl, ap, sym, subst, ◌∙◌, arith, nat_le, if◌then◌else◌}
use Rattle.std.specs.List.{AllByRecursion}
use Rattle.unit_trait.specs.declared.kind.Kind.{Kind}
use Rattle.unit_trait.specs.declared.kind.UnitName.{UnitName}
use Rattle.unit_trait.specs.declared.calls.Queue.{Queue}
use Rattle.unit_trait.specs.declared.calls.Queue.TheVariants.{Keep, Cancel, After}
use Rattle.unit_trait.specs.Kinds.{code_of}
use Rattle.unit_trait.specs.Calls.{UnitState, Reset}
use Rattle.unit_trait.specs.Row.{row}
use Rattle.event_queue.specs.EventList.{Event, event, waits, placed, activated, is_of_kind, cancelled, due, dues, served, lowered, ticked, wished}
use Rattle.event_queue.specs.DueTimes.{scheduled}
use Rattle.event_queue.specs.Idle.{asked_again, looked, idled}
use Rattle.unit_list.specs.declared.bus.BusAnswer.{BusAnswer}
use Rattle.unit_list.specs.Bus.{unit_at, kinds_of}
use Rattle.unit_list.specs.Reset.{first_unit, reset_events}
use Rattle.nova_machine.specs.Core.{IsAmong, AreListed}

pub listed-lowered : (ks : List Kind) (n : ℕ) (es : List Event) → AreListed ks es → AreListed ks (lowered n es)
listed-lowered ks n [] all = tt
listed-lowered ks n (e ∷ es) all = (all.0, listed-lowered ks n es all.1)

pub listed-ticked : (ks : List Kind) (es : List Event) → AreListed ks es → AreListed ks (ticked es)
listed-ticked ks es all = listed-lowered ks 1 es all

if-listed : (ks : List Kind) (b : Bool) (x y : List Event) → AreListed ks x → AreListed ks y → AreListed ks (if b then x else y)
if-listed ks true x y first second = first
if-listed ks false x y first second = second

pub listed-served : (ks : List Kind) (es : List Event) → AreListed ks es → AreListed ks (served es)
listed-served ks [] all = tt
listed-served ks (e ∷ es) all = if-listed ks (e.remaining == 0) es (e ∷ es) all.1 all

listed-placed : (ks : List Kind) (u : UnitName) (t : ℕ) (es : List Event) → IsAmong u.kind ks → AreListed ks es → AreListed ks (placed u t es)
listed-placed ks u t [] here all = (here, tt)
listed-placed ks u t (e ∷ es) here all =
    if-listed ks (nat_le e.remaining t) (e ∷ placed u t es) (event u t ∷ e ∷ es) (all.0, listed-placed ks u t es here all.1) (here, all)

listed-cancelled : (ks : List Kind) (kind : Kind) (es : List Event) → AreListed ks es → AreListed ks (cancelled kind es)
listed-cancelled ks kind [] all = tt
listed-cancelled ks kind (e ∷ es) all =
    if-listed ks (not (is_of_kind kind e.unit)) (e ∷ cancelled kind es) (cancelled kind es) (all.0, listed-cancelled ks kind es all.1) (listed-cancelled ks kind es all.1)

pub listed-wished : (ks : List Kind) (u : UnitName) (w : Queue) (es : List Event) → IsAmong u.kind ks → AreListed ks es → AreListed ks (wished u w es)
listed-wished ks u Keep es here all = all
listed-wished ks u Cancel es here all = listed-cancelled ks u.kind es all
listed-wished ks u (After t) es here all = if-listed ks (waits u es) es (placed u t es) all (listed-placed ks u t es here all)

pub listed-due : (ks : List Kind) (u : UnitName) (es : List Event) → AreListed ks es → due es ≡ Some u → IsAmong u.kind ks
listed-due ks u [] all first = absurd (cc)
listed-due ks u (e ∷ es) all first = by-test (e.remaining == 0) first
  where
    by-test : (b : Bool) → (if b then Some e.unit else None) ≡ Some u → IsAmong u.kind ks
    by-test true h = let same : e.unit ≡ u = cc in subst (λ (x : UnitName). IsAmong x.kind ks) same all.0
    by-test false h = absurd (cc)

among-more : (kind k : Kind) (ks : List Kind) → IsAmong kind ks → IsAmong kind (k ∷ ks)
among-more kind k ks h = inr h

-- a unit that has the code is among the kinds
pub among-found : (code : ℕ) (kind : Kind) (us : List UnitState) → Some kind ≡ option_map (λ u. u.kind) (unit_at code us) → IsAmong kind (kinds_of us)
among-found code kind [] h = absurd (cc)
among-found code kind (u ∷ us) h = by-test (code_of u.kind == code) h (λ more. among-found code kind us more)
  where
    by-test : (b : Bool) → Some kind ≡ option_map (λ v. v.kind) (if b then Some u else unit_at code us)
        → (Some kind ≡ option_map (λ v. v.kind) (unit_at code us) → IsAmong kind (kinds_of us)) → IsAmong kind (kinds_of (u ∷ us))
    by-test true h more = inl (cc)
    by-test false h more = inr (more h)

-- the resets of units that are among the kinds
listed-resets : (ks : List Kind) (us : List UnitState) (es : List Event) → AllByRecursion (λ (u : UnitState). IsAmong u.kind ks) us → AreListed ks es → AreListed ks (reset_events us es)
listed-resets ks [] es there all = all
listed-resets ks (u ∷ us) es there all =
    listed-resets ks us (wished (first_unit u.kind) (row u Reset).queue es) there.1 (listed-wished ks (first_unit u.kind) (row u Reset).queue es there.0 all)

among-all : (us : List UnitState) (ks : List Kind) → ((kind : Kind) → IsAmong kind (kinds_of us) → IsAmong kind ks) → AllByRecursion (λ (u : UnitState). IsAmong u.kind ks) us
among-all [] ks within = tt
among-all (u ∷ us) ks within = (within u.kind (inl refl), among-all us ks (λ kind h. within kind (inr h)))

pub listed-reset : (us : List UnitState) → AreListed (kinds_of us) (reset_events us [])
listed-reset us = listed-resets (kinds_of us) us [] (among-all us (kinds_of us) (λ kind h. h)) tt

pub listed-restarted : (old new : List UnitState) (cleared es : List Event) → cleared ≡ [] → es ≡ reset_events old cleared → kinds_of new ≡ kinds_of old → AreListed (kinds_of new) es
listed-restarted old new cleared es none is same =
    let P : List Event → Type 0 = λ x. AreListed (kinds_of old) x in
    let Q : List Kind → Type 0 = λ ks. AreListed ks es in
    subst Q (sym same) (subst P (sym (is ∙ ap (reset_events old) none)) (listed-reset old))

-- the kind of a unit that answered is among them
pub among-said : (code : ℕ) (us : List UnitState) (said : Option BusAnswer) → option_map (λ a. a.kind) said ≡ option_map (λ u. u.kind) (unit_at code us)
    → IfSome said (λ a. IsAmong a.kind (kinds_of us))
among-said code us None found = tt
among-said code us (Some a) found = among-found code a.kind us found

-- no event is due before the present
pub times_later : (now : ℕ) (es : List Event) → AllByRecursion (λ (x : ℕ × UnitName). now ≤ x.0) (scheduled now es)
times_later now [] = tt
times_later now (e ∷ es) = (omega arith, times_later now es)

listed-activated : (ks : List Kind) (u : UnitName) (t : ℕ) (es : List Event) → IsAmong u.kind ks → AreListed ks es → AreListed ks (activated u t es)
listed-activated ks u t es here all = if-listed ks (waits u es) es (placed u t es) all (listed-placed ks u t es here all)

listed-again : (ks : List Kind) (period : ℕ) (us : List UnitName) (es : List Event) → AllByRecursion (λ (u : UnitName). IsAmong u.kind ks) us → AreListed ks es → AreListed ks (asked_again period us es)
listed-again ks period [] es there all = all
listed-again ks period (u ∷ us) es there all =
    listed-again ks period us (activated u period (served es)) there.1 (listed-activated ks u period (served es) there.0 (listed-served ks es all))

if-among : (ks : List Kind) (b : Bool) (u : UnitName) (us : List UnitName) → IsAmong u.kind ks → AllByRecursion (λ (v : UnitName). IsAmong v.kind ks) us
    → AllByRecursion (λ (v : UnitName). IsAmong v.kind ks) (if b then u ∷ us else [])
if-among ks true u us here there = (here, there)
if-among ks false u us here there = tt

listed-dues : (ks : List Kind) (es : List Event) → AreListed ks es → AllByRecursion (λ (u : UnitName). IsAmong u.kind ks) (dues es)
listed-dues ks [] all = tt
listed-dues ks (e ∷ es) all = if-among ks (e.remaining == 0) e.unit (dues es) all.0 (listed-dues ks es all.1)

pub listed-looked : (ks : List Kind) (period : ℕ) (es : List Event) → AreListed ks es → AreListed ks (looked period es)
listed-looked ks period es all = listed-again ks period (dues es) es (listed-dues ks es all) all

pub listed-idled : (ks : List Kind) (period n : ℕ) (es : List Event) → AreListed ks es → AreListed ks (idled period n es)
unfolding idled
listed-idled ks period zero es all = all
listed-idled ks period (suc n) es all =
    listed-ticked ks (looked period (idled period n es)) (listed-looked ks period (idled period n es) (listed-idled ks period n es all))

pub ruleset listings = (listed-looked, listed-idled, listed-lowered, listed-ticked, listed-served, listed-wished, listed-due, among-said)
