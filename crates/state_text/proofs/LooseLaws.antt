-- No text is that of two states that fit. For this a text is read without the tests of its rows: what such a reading takes
-- tells the state, so no text is the front of another one.
use Rattle.std.proofs.Common.{◌≡◌, ℕ, ◌^◌, ◌<◌, [], length, refl, ap, arith}
use Rattle.std.specs.List.{AllByRecursion}
use Rattle.sha2.specs.Sha256.{sha256}
use Rattle.saved_session.specs.declared.saved.SavedPorts.{SavedPorts}
use Rattle.saved_session.specs.declared.saved.SavedSend.{SavedSend}
use Rattle.saved_session.specs.Parts.{FilePart, BreakPart, ExpectPart, WatchPart, State}
use Rattle.saved_session.specs.Valid.{AreBytes, IsMachine, Valid, Fits}
use Rattle.byte_layouts.specs.Layout.{Two, Listed, Has, loose}
use Rattle.byte_layouts.proofs.LayoutLaws.{one_to_one_before, loosened}
use Rattle.state_text.specs.Rows.{this_version, cpu_layout, units_layout, event_layout, few_events, file_layout, ports_layout, break_layout, expect_layout, send_layout, memory_in, memory_rows, state_layout}
use Rattle.state_text.specs.Text.{IsOfFirst, body, text_in}
use Rattle.state_text.specs.Laws.{HasWidths, OneToOne}
use Rattle.state_text.proofs.Lists.{all_from}
use Rattle.state_text.proofs.ValidLaws.{memory_from, units_from, events_from, now_autobit, now_from}

-- what the first version can tell has its widths there too
first_widths : (s : State) → HasWidths s → IsOfFirst s → Has (loose state_layout) (1, s)
unfolding state_layout cpu_layout ports_layout
first_widths s wide first =
    let cpu = wide.1.0.0 in
    let behind = wide.1.1.1 in (
      (tt, (omega arith, refl)),
      (
        ((cpu.0, (cpu.1.0, (first.autobit, cpu.1.1.1))), wide.1.0.1),
        (wide.1.1.0, (behind.0, ((behind.1.0.0, (behind.1.0.1.0, (first.qty, first.console))), behind.1.1))),
      ),
    )

-- texts tell their version and what is saved
both_told : (v w : ℕ) (a b : State) → Has (loose state_layout) (v, a) → Has (loose state_layout) (w, b) → text_in v a ≡ text_in w b → (v ≡ w) × (a ≡ b)
unfolding text_in body
both_told v w a b wide other e =
    let same : (v, a) ≡ (w, b) = (one_to_one_before state_layout (v, a) (w, b) (sha256 (body v a)) (sha256 (body w b)) wide other e).0 in
    (ap (λ (p : ℕ × State). p.0) same, ap (λ (p : ℕ × State). p.1) same)

pub one-to-one : OneToOne
one-to-one = record {
  now = λ a b fits wide other_fits other e. (both_told this_version this_version a b wide other e).1;
  first = λ a b fits wide first other_fits other other_first e. (both_told 1 1 a b (first_widths a wide first) (first_widths b other other_first) e).1;
  apart = λ a b fits wide other_fits other first e. let same : this_version ≡ 1 = (both_told this_version 1 a b wide (first_widths b other first) e).0 in absurd (omega (arith, same));
}

-- ---- what has its widths

pub valid_widths : (s : State) → Valid s → HasWidths s
valid_widths s valid = loosened state_layout (this_version, s) (now_from s valid)

-- with no test it does not matter which elements stand before one
abbrev pub FileHasWidths : FilePart → Type 0
FileHasWidths f = Has (loose (file_layout [])) f

abbrev pub BreakHasWidths : BreakPart → Type 0
BreakHasWidths b = Has (loose (break_layout [])) b

abbrev pub ExpectHasWidths : ExpectPart → Type 0
ExpectHasWidths e = Has (loose expect_layout) e

abbrev pub SendHasWidths : SavedSend → Type 0
SendHasWidths s = Has (loose (send_layout [])) s

pub record PortsHaveWidths (p : SavedPorts) : Type 0 where
  pub tti1 : p.tti1 < 2 ^ 16
  pub qty : p.qty < 2 ^ 16
  pub console : p.console < 2 ^ 16

pub record TablesHaveWidths (w : WatchPart) : Type 0 where
  pub breaks : AllByRecursion BreakHasWidths w.breaks
  pub expects : AllByRecursion ExpectHasWidths w.expects
  pub tail : AreBytes w.tail
  pub sends : AllByRecursion SendHasWidths w.sends

-- so has a session whose machine is valid, whatever else of it is
pub session_widths : (s : State) → IsMachine s.machine → Fits s → AllByRecursion FileHasWidths s.files → PortsHaveWidths s.ports → TablesHaveWidths s.watch → HasWidths s
unfolding state_layout ports_layout
session_widths s machine fits files ports tables =
    let count = length s.machine.units in (
      (tt, (omega arith, refl)),
      (
        loosened (memory_rows this_version) (memory_in s.machine) (memory_from this_version s.machine (now_autobit s.machine.cpu.autobit machine.cpu.autobit) machine),
        (
          loosened (units_layout this_version) s.machine.units (units_from this_version s.machine.units machine.all machine.units),
          (
            loosened (Listed Two few_events (event_layout count)) s.machine.agenda (events_from s.machine machine),
            (
              (
                ((fits.files, refl), all_from (λ front. Has (loose (file_layout front))) FileHasWidths (λ front f h. h) [] s.files files),
                ((ports.tti1, refl), ((ports.qty, refl), (ports.console, refl))),
              ),
              (
                (
                  ((fits.watch.breaks, refl), all_from (λ front. Has (loose (break_layout front))) BreakHasWidths (λ front b h. h) [] s.watch.breaks tables.breaks),
                  ((fits.watch.expects, refl), all_from (λ front. Has (loose expect_layout)) ExpectHasWidths (λ front e h. h) [] s.watch.expects tables.expects),
                ),
                (
                  ((fits.watch.tail, refl), (tables.tail, refl)),
                  ((fits.watch.sends, refl), all_from (λ front. Has (loose (send_layout front))) SendHasWidths (λ front x h. h) [] s.watch.sends tables.sends),
                ),
              ),
            ),
          ),
        ),
      ),
    )
