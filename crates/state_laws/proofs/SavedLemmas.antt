-- A machine is valid as it is saved.
use Rattle.std.proofs.Common.{◌≡◌, ℕ, suc, ◌+◌, ◌/◌, ◌%◌, ◌<◌, ◌≤◌, ◌^◌, ◌&&◌, eqb, Bool, true, false, List, [], ◌∷◌, ◌++◌, length, map, take, All, Option, Some, inl, inr, refl, sym, ap, subst, ◌∙◌, arith}
use Rattle.std.specs.Prelude.{nat_lt, slice_get, option_map}
use Rattle.std.specs.List.{AllByRecursion, IsDistinct, list_any}
use Rattle.std.proofs.lemmas.Bool.{and_from, and_parts, or_from, not_from_false, false_from_ne_true, both_ways, le-leb, lt-ltb, ltb-true, eq-eqb, eqb-true}
use Rattle.std.proofs.lemmas.Bool.Decides.{nat_tests}
use Rattle.std.proofs.lemmas.List.{length-map, length-take-le}
use Rattle.std.proofs.lemmas.List.Elements.{All-take}
use Rattle.unit_trait.specs.declared.kind.Kind.{Kind}
use Rattle.unit_trait.specs.declared.kind.UnitName.{UnitName}
use Rattle.unit_trait.specs.Kinds.{all_kinds, units_of, code_of, same_unit}
use Rattle.unit_trait.specs.Registers.{Register, registers, register_at}
use Rattle.unit_trait.specs.Calls.{UnitState}
use Rattle.unit_trait.specs.Row.{InRange}
use Rattle.unit_trait.specs.Multiplexer.{line_numbers}
use Rattle.unit_trait.proofs.EveryKind.{every-kind}
use Rattle.unit_list.specs.Bus.{AllFit, kinds_of}
use Rattle.event_queue.specs.EventList.{Event, waiting, Sound}
use Rattle.nova_memory.specs.Memory.{IsSize}
use Rattle.unit_list.specs.BusOrder.{place_of}
use Rattle.nova_machine.specs.Core.{IsAmong, AreListed}
use Rattle.nova_machine.specs.Machine.{MachineState}
use Rattle.nova_machine.specs.Run.{last_time}
use Rattle.nova_machine.specs.Valid.{ValidMachine}
use Rattle.expect_actions.specs.KeysFile.{most_keys}
use Rattle.saved_session.specs.declared.saved.SavedEvent.{SavedEvent}
use Rattle.saved_session.specs.Ranges.{is_flag, is_size, is_address, kind_at, standard_kinds, is_unit_count, is_position, register_count, within_limits, holds_value, most_events, is_event_of, is_later}
use Rattle.saved_session.specs.Valid.{AreWords, Follow, IsCpu, CanHold, IsUnit, IsEvent, IsMachine}
use Rattle.saved_session.specs.Order.{next_number, with_event}
use Rattle.saved_files.specs.Taking.{flag_of}
use Rattle.state_transfer.specs.Session.{saved_unit, saved_event, saved_machine}
use Rattle.state_transfer.specs.Processor.{saved_cpu}
use Rattle.state_transfer.specs.SavedValid.{AreStandard}
use Rattle.state_transfer.proofs.TakenSizes.{size-back, as-many, sound-behind, few-events}
use Rattle.state_laws.proofs.PutBackLemmas.{kind-back, place-low}
use Rattle.state_laws.proofs.SavedWatchLemmas.{few}

-- ---- the processor, and memory

flag-is : (b : Bool) → is_flag (flag_of b) ≡ true
flag-is true = refl
flag-is false = refl

size-is : (size : ℕ) → IsSize size → is_size (size / 1024) ≡ true
size-is size is =
    let step = is.step in
    let least = is.least in
    let most = is.most in
    let four : (size / 1024) % 4 ≡ 0 = omega (arith, step) in
    let low : 4 ≤ size / 1024 = omega (arith, least) in
    let high : size / 1024 ≤ 32 = omega (arith, most) in
    and_from _ _ (le-leb 4 (size / 1024) low)
    (and_from _ _ (le-leb (size / 1024) 32 high) (eq-eqb ((size / 1024) % 4) 0 four))

each-word : (words : List ℕ) → All (λ w. w < 2 ^ 16) words → AreWords words
each-word [] all = tt
each-word (w ∷ words) all = (all 0 0 (omega arith), each-word words (λ k d lt. all (suc k) d (omega (arith, lt))))

low-address : (a : ℕ) → a < 2 ^ 15 → is_address a ≡ true
low-address a below = grind (arith, nat_tests)

cpu-is : (m : MachineState) → ValidMachine m → m.time ≤ last_time → m.taken ≤ most_keys → IsCpu (saved_cpu m)
cpu-is m valid time taken = record {
  size_k = size-is m.processor.memory.size valid.size;
  few = valid.cpu.four;
  acs = valid.cpu.words;
  carry = flag-is m.processor.cpu.carry;
  pc = low-address m.processor.cpu.pc valid.cpu.pc;
  on = flag-is m.ints.on;
  hold = flag-is m.ints.hold;
  mask = valid.mask;
  sr = valid.switches;
  stop_dev = flag-is m.stop_dev;
  autobit = flag-is m.processor.memory.before;
  time = le-leb m.time last_time time;
  keys_taken = le-leb m.taken most_keys taken;
}

-- ---- the units

-- the limits of the register at a place
within : (r : Register) (v : ℕ) → r.least ≤ v → v ≤ r.largest → within_limits v (Some (r.least, r.largest)) ≡ true
within r v low high = and_from _ _ (le-leb r.least v low) (le-leb v r.largest high)

-- the registers from a place on
AreFrom : List Register → ℕ → List Register → Type 0
AreFrom all i rs = (k : ℕ) → slice_get all (k + i) ≡ slice_get rs k

-- each register holds less than 2 ^ 32
are_narrow : List Register → Bool
are_narrow [] = true
are_narrow (r ∷ rs) = nat_lt r.largest (2 ^ 32) && are_narrow rs

registers-narrow : (kind : Kind) → are_narrow (registers kind) ≡ true
unfolding are_narrow line_numbers
registers-narrow kind =
    every-kind (λ (k : Kind). are_narrow (registers k) ≡ true)
    (refl, refl, refl, refl, refl, refl, refl, refl, refl, refl, refl) kind

registers-hold : (kind : Kind) (i : ℕ) (rs : List Register) (vs : List ℕ) → AreFrom (registers kind) i rs
    → are_narrow rs ≡ true → InRange rs vs
    → Follow (CanHold kind) next_number i vs
unfolding AreFrom are_narrow holds_value
registers-hold kind i [] [] from narrow range = tt
registers-hold kind i [] (v ∷ vs) from narrow range = absurd range
registers-hold kind i (r ∷ rs) [] from narrow range = absurd range
registers-hold kind i (r ∷ rs) (v ∷ vs) from narrow range =
    let here : register_at kind i ≡ Some r = ap (slice_get (registers kind)) (omega arith) ∙ from 0 in
    let parts = and_parts (nat_lt r.largest (2 ^ 32)) (are_narrow rs) narrow in
    let low = ltb-true r.largest (2 ^ 32) parts.0 in
    let most = range.1 in (
      (
        omega (arith, low, most),
        ap (λ (x : Option Register). within_limits v (option_map (λ (y : Register). (y.least, y.largest)) x)) here
            ∙ within r v range.0 range.1,
      ),
      registers-hold kind (i + 1) rs vs
          (λ k. ap (slice_get (registers kind)) (omega arith) ∙ from (suc k)) parts.1 range.2,
    )

-- the kinds stand at their positions, from one on
AreAt : ℕ → List Kind → Type 0
AreAt i [] = Unit {0}
AreAt i (k ∷ ks) = (place_of k ≡ i) × AreAt (i + 1) ks

unit-is : (i : ℕ) (u : UnitState) → place_of u.kind ≡ i → InRange (registers u.kind) u.registers
    → IsUnit i (saved_unit u)
unfolding register_count AreFrom
unit-is i u here range = record {
  byte = place-low u.kind;
  position = here;
  all = as-many (registers u.kind) u.registers range ∙ sym (ap register_count (kind-back u.kind));
  registers = subst (λ (k : Kind). Follow (CanHold k) next_number 0 u.registers) (sym (kind-back u.kind))
      (registers-hold u.kind 0 (registers u.kind) u.registers (λ k. ap (slice_get (registers u.kind)) (omega arith))
      (registers-narrow u.kind) range);
}

units-follow : (i : ℕ) (us : List UnitState) → AreAt i (kinds_of us) → AllFit us
    → Follow IsUnit next_number i (map saved_unit us)
unfolding AreAt
units-follow i [] at fit = tt
units-follow i (u ∷ us) at fit = (unit-is i u at.0 fit.0, units-follow (i + 1) us at.1 fit.1)

-- ---- the kinds of a machine

-- the kind is one of the first so many
Low : ℕ → Kind → Type 0
Low count k = is_position count (place_of k) ≡ true

-- as many kinds as a machine has, each at its position
record IsBus (kinds : List Kind) : Type 0 where
  count : is_unit_count (length kinds) ≡ true
  at : AreAt 0 kinds
  low : AllByRecursion (Low (length kinds)) kinds

ten-bus : IsBus (take standard_kinds all_kinds)
unfolding AreAt Low
ten-bus = record {
  count = refl;
  at = (refl, (refl, (refl, (refl, (refl, (refl, (refl, (refl, (refl, (refl, tt))))))))));
  low = (refl, (refl, (refl, (refl, (refl, (refl, (refl, (refl, (refl, (refl, tt))))))))));
}

whole-bus : IsBus all_kinds
unfolding AreAt Low
whole-bus = record {
  count = refl;
  at = (refl, (refl, (refl, (refl, (refl, (refl, (refl, (refl, (refl, (refl, (refl, tt)))))))))));
  low = (refl, (refl, (refl, (refl, (refl, (refl, (refl, (refl, (refl, (refl, (refl, tt)))))))))));
}

bus-is : (units : List UnitState) → AreStandard units → IsBus (kinds_of units)
bus-is units (inl ten) = subst (λ (l : List Kind). IsBus l) (sym ten) ten-bus
bus-is units (inr all) = subst (λ (l : List Kind). IsBus l) (sym all) whole-bus

-- ---- the events

among-low : (count : ℕ) (ks : List Kind) (k : Kind) → AllByRecursion (Low count) ks → IsAmong k ks → Low count k
among-low count [] k all among = absurd among
among-low count (x ∷ ks) k all (inl same) = subst (Low count) same all.0
among-low count (x ∷ ks) k all (inr later) = among-low count ks k all.1 later

none-any : {A : Type 0} (p : A → Bool) (xs : List A) → AllByRecursion (λ (x : A). p x ≡ false) xs
    → list_any p xs ≡ false
none-any p [] none = refl
none-any p (x ∷ xs) none = or_from (p x) (list_any p xs) none.0 (none-any p xs none.1)

all-more : {A : Type 0} (P : A → Type 0) (xs : List A) (y : A) → AllByRecursion P xs → P y
    → AllByRecursion P (xs ++ y ∷ [])
all-more P [] y all here = (here, tt)
all-more P (x ∷ xs) y all here = (all.0, all-more P xs y all.1 here)

-- an event of another unit
other-unit : (a : Event) (b : UnitName) → same_unit a.unit b ≡ false
    → is_event_of (place_of b.kind) b.unit (saved_event a) ≡ false
other-unit a b other =
    false_from_ne_true (is_event_of (place_of b.kind) b.unit (saved_event a))
    (λ both.
    let parts = and_parts (eqb (place_of a.unit.kind) (place_of b.kind)) (eqb a.unit.unit b.unit) both in
    let kinds : a.unit.kind ≡ b.kind =
    sym (kind-back a.unit.kind) ∙ ap kind_at (eqb-true (place_of a.unit.kind) (place_of b.kind) parts.0)
    ∙ kind-back b.kind in
    both_ways (same_unit a.unit b) other
    (and_from _ _ (eq-eqb (code_of a.unit.kind) (code_of b.kind) (ap code_of kinds)) parts.1))

not-later : (t : ℕ) (e : Event) → e.remaining ≤ t → is_later t (saved_event e) ≡ false
not-later t e le = grind (arith, nat_tests)

-- an event can be put behind these
record CanFollow (front : List SavedEvent) (e : Event) : Type 0 where
  units : AllByRecursion (λ (x : SavedEvent). is_event_of (place_of e.unit.kind) e.unit.unit x ≡ false) front
  times : AllByRecursion (λ (x : SavedEvent). is_later e.remaining x ≡ false) front

still : (front : List SavedEvent) (e : Event) (es : List Event) → AllByRecursion (CanFollow front) es
    → AllByRecursion (λ (later : Event). e.remaining ≤ later.remaining) es
    → AllByRecursion (λ (u : UnitName). same_unit e.unit u ≡ false) (waiting es)
    → AllByRecursion (CanFollow (front ++ saved_event e ∷ [])) es
still front e [] can times units = tt
still front e (x ∷ es) can times units = (
  record {
    units = all-more (λ (y : SavedEvent). is_event_of (place_of x.unit.kind) x.unit.unit y ≡ false) front
        (saved_event e) can.0.units
        (other-unit e x.unit units.0);
    times = all-more (λ (y : SavedEvent). is_later x.remaining y ≡ false) front (saved_event e) can.0.times
        (not-later x.remaining e times.0);
  },
  still front e es can.1 times.1 units.1,
)

event-is : (count : ℕ) (front : List SavedEvent) (e : Event) → CanFollow front e → Low count e.unit.kind
    → e.unit.unit < units_of e.unit.kind
    → e.remaining < 2 ^ 32 → IsEvent count front (saved_event e)
unfolding Low
event-is count front e can low unit remaining =
    let here : nat_lt e.unit.unit (units_of (kind_at (place_of e.unit.kind))) ≡ true =
    ap (λ (k : Kind). nat_lt e.unit.unit (units_of k)) (kind-back e.unit.kind) ∙ lt-ltb e.unit.unit
    (units_of e.unit.kind) unit in
    record {
      position = low;
      unit = and_from _ _ here
          (not_from_false _ (none-any (is_event_of (place_of e.unit.kind) e.unit.unit) front can.units));
      remaining = remaining;
      last = not_from_false _ (none-any (is_later e.remaining) front can.times);
    }

agenda-follows : (count : ℕ) (front : List SavedEvent) (es : List Event) → AllByRecursion (CanFollow front) es → Sound es
    → AllByRecursion (λ (e : Event). Low count e.unit.kind) es → Follow (IsEvent count) with_event front (map saved_event es)
unfolding IsDistinct
agenda-follows count front [] can sound low = tt
agenda-follows count front (e ∷ es) can sound low = (
  event-is count front e can.0 low.0 sound.units.0 sound.times.0,
  agenda-follows count (front ++ saved_event e ∷ []) es (still front e es can.1 sound.rising.0 sound.distinct.0)
      (sound-behind e es sound) low.1,
)

none-before : (es : List Event) → AllByRecursion (CanFollow []) es
none-before [] = tt
none-before (e ∷ es) = (record { units = tt; times = tt }, none-before es)

listed-low : (count : ℕ) (ks : List Kind) (es : List Event) → AllByRecursion (Low count) ks → AreListed ks es
    → AllByRecursion (λ (e : Event). Low count e.unit.kind) es
listed-low count ks [] low listed = tt
listed-low count ks (e ∷ es) low listed = (among-low count ks e.unit.kind low listed.0, listed-low count ks es low listed.1)

-- ---- the machine

pub machine-valid : (m : MachineState) → ValidMachine m → m.time ≤ last_time → m.taken ≤ most_keys → AreStandard m.units
    → IsMachine (saved_machine m)
unfolding saved_machine
machine-valid m valid time taken standard =
    let memory = m.processor.memory in
    let whole = valid.memory.whole in
    let size = valid.memory.size in
    let bus = bus-is m.units standard in
    let many : length (kinds_of m.units) ≡ length (map saved_unit m.units) = length-map m.units _ ∙ sym (length-map m.units saved_unit) in
    record {
      cpu = cpu-is m valid time taken;
      size = length-take-le memory.size memory.words (omega (arith, whole, size)) ∙ sym
          (size-back memory.size valid.size);
      words = each-word (take memory.size memory.words)
          (All-take (λ (w : ℕ). w < 2 ^ 16) memory.size memory.words valid.memory.words);
      all = ap is_unit_count (sym many) ∙ bus.count;
      units = units-follow 0 m.units bus.at valid.core.registers;
      few = few saved_event m.events most_events (few-events m.events valid.core.sound);
      agenda = subst (λ (n : ℕ). Follow (IsEvent n) with_event [] (map saved_event m.events)) many
          (agenda-follows (length (kinds_of m.units)) [] m.events (none-before m.events) valid.core.sound
          (listed-low (length (kinds_of m.units)) (kinds_of m.units) m.events bus.low valid.core.listed));
    }
