-- What RESET and RUN leave of a machine.
use Rattle.std.proofs.Common.{◌≡◌, ℕ, ◌==◌, leb, Bool, true, false, ◌||◌, IsTrue, List, [], ◌∷◌, refl, ap, is_some, slice_index, Option, Some, if◌then◌else◌, arith}
use Rattle.std.proofs.lemmas.Bool.{cond_both}
use Rattle.std.proofs.lemmas.Bool.Decides.{nat_tests}
use Rattle.unit_trait.specs.declared.kind.Kind.{Kind}
use Rattle.unit_trait.specs.declared.kind.Kind.TheVariants.{Tti}
use Rattle.unit_trait.specs.declared.kind.UnitName.{UnitName}
use Rattle.unit_trait.specs.declared.calls.Queue.{Queue}
use Rattle.unit_trait.specs.declared.calls.Queue.TheVariants as queue
use Rattle.unit_trait.specs.Kinds.{code_of, same_unit}
use Rattle.unit_trait.specs.Calls.{UnitState, Reset}
use Rattle.unit_trait.specs.Row.{row, row_of}
use Rattle.unit_trait.specs.Reader.{reader_row}
use Rattle.unit_trait.specs.Writer.{writer_row}
use Rattle.unit_trait.specs.Clock.{clock_row}
use Rattle.unit_trait.specs.Keyboard.{keyboard_row}
use Rattle.unit_trait.specs.Teleprinter.{teleprinter_row}
use Rattle.unit_trait.specs.Multiplexer.{lines_row}
use Rattle.unit_trait.proofs.EveryKind.{every-kind}
use Rattle.event_queue.specs.EventList.{Event, waits, placed, activated, wished, is_of_kind}
use Rattle.unit_list.specs.Bus.{unit_at}
use Rattle.unit_list.specs.Reset.{first_unit, reset_events}
use Rattle.unit_list.proofs.KeptEvents.{waits-cancelled}
use Rattle.file_commands.specs.Notes.{CommandNote}
use Rattle.nova_machine.specs.Machine.{MachineState, reset_devices, reset_machine}
use Rattle.scp_parser.specs.Command as request
use Rattle.command_session.specs.Live.{Live, with_machine}
use Rattle.command_session.specs.declared.fault.CommandFault.TheVariants.{OutOfRange}
use Rattle.command_session.specs.Reply.{refused}
use Rattle.command_session.specs.RunEffects.{address_fits, starting_at, running, started, run_from, reset_reply}
use Rattle.scp_commands.specs.Effect.{effect}
use Rattle.command_laws.specs.Laws.{IsReset, ResetsLeaveTheProgram}
use Rattle.scp_examine.proofs.UnitLemmas.{or_later as or-right}

or-left : (a b : Bool) → a ≡ true → (a || b) ≡ true
or-left true b h = refl
or-left false b h = absurd (cc)

or-more : (a b c : Bool) → (b ≡ true → c ≡ true) → (a || b) ≡ true → (a || c) ≡ true
or-more true b c more h = refl
or-more false b c more h = more h

-- a unit that waits goes on waiting where another event is put in
waits-placed : (u v : UnitName) (t : ℕ) (es : List Event) → waits u es ≡ true → waits u (placed v t es) ≡ true
waits-placed u v t [] h = absurd (cc)
waits-placed u v t (e ∷ es) h =
    cond_both (leb e.remaining t) _ _ (λ (xs : List Event). waits u xs ≡ true) (λ _. or-more (same_unit e.unit u) _ _ (waits-placed u v t es) h)
    (λ _. or-right (same_unit v u) _ h)

-- a unit whose event was put in waits
placed-waits : (u : UnitName) (t : ℕ) (es : List Event) → waits u (placed u t es) ≡ true
placed-waits u t [] = or-left (same_unit u u) _ (grind (arith, nat_tests))
placed-waits u t (e ∷ es) =
    cond_both (leb e.remaining t) _ _ (λ (xs : List Event). waits u xs ≡ true) (λ _. or-right (same_unit e.unit u) _ (placed-waits u t es))
    (λ _. or-left (same_unit u u) _ (grind (arith, nat_tests)))

waits-activated : (u v : UnitName) (t : ℕ) (es : List Event) → waits u es ≡ true → waits u (activated v t es) ≡ true
waits-activated u v t es h = cond_both (waits v es) _ _ (λ (xs : List Event). waits u xs ≡ true) (λ _. h) (λ _. waits-placed u v t es h)

activated-waits : (u : UnitName) (t : ℕ) (es : List Event) → waits u (activated u t es) ≡ true
activated-waits u t es = cond_both (waits u es) _ _ (λ (xs : List Event). waits u xs ≡ true) (λ h. h) (λ _. placed-waits u t es)

-- a wish for one unit that leaves the event of another: where it cancels, the other is of another kind
abbrev KeepsEvent : UnitName → UnitName → Queue → Type 0
KeepsEvent u v queue.Cancel = is_of_kind v.kind u ≡ false
KeepsEvent u v wish = Unit {0}

waits-wished : (u v : UnitName) (wish : Queue) (es : List Event) → KeepsEvent u v wish → waits u es ≡ true → waits u (wished v wish es) ≡ true
waits-wished u v queue.Keep es keeps h = h
waits-wished u v queue.Cancel es keeps h = waits-cancelled u v.kind es keeps h
waits-wished u v (queue.After t) es keeps h = waits-activated u v t es h

-- no reset cancels a keyboard's event: only the multiplexer's cancels any, and those are its own
reset-keeps : (kind : Kind) (registers : List ℕ) → KeepsEvent (first_unit Tti) (first_unit kind) (row_of kind registers Reset).queue
unfolding row_of reader_row writer_row clock_row keyboard_row teleprinter_row lines_row
reset-keeps kind registers =
    every-kind (λ (k : Kind). KeepsEvent (first_unit Tti) (first_unit k) (row_of k registers Reset).queue)
    (tt, tt, tt, tt, tt, tt, tt, tt, tt, tt, refl) kind

waits-reset : (us : List UnitState) (es : List Event) → waits (first_unit Tti) es ≡ true → waits (first_unit Tti) (reset_events us es) ≡ true
waits-reset [] es h = h
waits-reset (v ∷ us) es h =
    waits-reset us _ (waits-wished (first_unit Tti) (first_unit v.kind) (row v Reset).queue es (reset-keeps v.kind v.registers) h)

-- a keyboard wishes its event
first-waits : (registers : List ℕ) (us : List UnitState) (es : List Event)
    → waits (first_unit Tti) (reset_events us (wished (first_unit Tti) (row_of Tti registers Reset).queue es)) ≡ true
unfolding row_of keyboard_row
first-waits registers us es = waits-reset us _ (activated-waits (first_unit Tti) (slice_index registers 2) es)

keyboard-waits : (us : List UnitState) (es : List Event) → is_some (unit_at (code_of Tti) us) ≡ true → waits (first_unit Tti) (reset_events us es) ≡ true
keyboard-waits [] es h = absurd (cc)
keyboard-waits (u ∷ us) es h = by-kind u.kind u.registers h (λ later. keyboard-waits us (wished (first_unit u.kind) (row u Reset).queue es) later)
  where
    by-kind : (kind : Kind) (registers : List ℕ) → is_some (if code_of kind == code_of Tti then Some u else unit_at (code_of Tti) us) ≡ true
        → (is_some (unit_at (code_of Tti) us) ≡ true → waits (first_unit Tti) (reset_events us (wished (first_unit kind) (row_of kind registers Reset).queue es)) ≡ true)
        → waits (first_unit Tti) (reset_events us (wished (first_unit kind) (row_of kind registers Reset).queue es)) ≡ true
    by-kind Tti registers h more = first-waits registers us es
    by-kind kind registers h more = more h

machine-reset : (m : MachineState) → IsReset m (reset_machine m)
unfolding reset_machine reset_devices
machine-reset m = record {
  processor = refl;
  sr = refl;
  stop_dev = refl;
  time = refl;
  taken = refl;
  slots = refl;
  ints = refl;
  units = refl;
  events = refl;
  keyboard = keyboard-waits m.units [];
}

reset-leaves : (limit : ℕ) (notes : List CommandNote) (live : Live) → IsReset live.machine (effect limit notes live request.Reset).after.live.machine
unfolding effect reset_reply
reset-leaves limit notes live = machine-reset live.machine

run-leaves : (limit : ℕ) (notes : List CommandNote) (live : Live) (address : Option ℕ) → IsTrue (address_fits address)
    → (m : MachineState) × IsReset live.machine m × (effect limit notes live (request.Run address) ≡ running limit notes (with_machine live (starting_at address m)))
unfolding effect run_from
run-leaves limit notes live address fits = (
  reset_machine live.machine,
  machine-reset live.machine,
  ap (λ (b : Bool). if b then running limit notes (started true address live) else refused OutOfRange live) fits,
)

pub resets-leave-the-program : ResetsLeaveTheProgram
resets-leave-the-program = record { reset = reset-leaves; run = run-leaves }
