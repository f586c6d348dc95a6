-- What is valid fits, and what fits can be written row by row.
use Rattle.std.proofs.Common.{ℕ, ◌^◌, ◌<◌, List, [], ◌∷◌, length, Result, Ok, Err}
use Rattle.std.specs.Prelude.{IfOk}
use Rattle.std.specs.List.{AllByRecursion}
use Rattle.saved_session.specs.declared.saved.Saved.{Saved}
use Rattle.saved_session.specs.declared.saved.SavedEvent.{SavedEvent}
use Rattle.saved_session.specs.declared.saved.SavedSend.{SavedSend}
use Rattle.saved_session.specs.Parts.{UnitPart, FilePart, BreakPart, ExpectPart, State, state_in}
use Rattle.saved_session.specs.Ranges.{kind_at, register_count, FilePlace}
use Rattle.saved_session.specs.Order.{next_number, behind_file, behind_break}
use Rattle.saved_session.specs.Valid.{Follow, IsUnit, IsFile, IsBreak, IsExpect, Valid, UnitsFit, FilesFit, BreaksFit, ExpectFits, ExpectsFit, Fits}
use Rattle.saved_session.proofs.RegisterCounts.{few_registers}
use Rattle.byte_layouts.specs.Held.{IsBytes}
use Rattle.byte_layouts.specs.Readers.{with_last}
use Rattle.byte_layouts.specs.Layout.{Follow as RowsFollow, Fits as RowsFit}
use Rattle.byte_layouts.proofs.WriteLaws.{all_fit}
use Rattle.state_text.specs.declared.fault.StateFault.{StateFault}
use Rattle.state_text.specs.Gives.{Gives}
use Rattle.state_text.specs.Rows.{this_version, word_layout, cpu_layout, register_layout, registers_layout, unit_layout, event_layout, file_layout, ports_layout, break_layout, expect_layout, send_layout, state_fields, state_rows}
use Rattle.state_text.specs.Reading.{reading}
use Rattle.state_text.specs.Laws.{TextsAreRead}
use Rattle.state_text.proofs.Lists.{all_from}
use Rattle.state_text.proofs.ValidLaws.{below, small_name, small_actions, small_text, small_tail, small_events, small_breaks, small_expects, small_sends}
use Rattle.state_text.proofs.VersionLaws.{few_units_there}
use Rattle.state_text.proofs.SealLaws.{reading_found, reading_again}
use Rattle.state_text.proofs.EndLaws.{cut_short, bytes_behind_it}

units_fit : (i : ℕ) (units : List UnitPart) → Follow IsUnit next_number i units → UnitsFit units
units_fit i [] h = tt
units_fit i (u ∷ units) h = (below (length u.registers) (register_count (kind_at u.position)) h.0.all (few_registers (kind_at u.position)), units_fit (next_number i u) units h.1)

files_fit : (least : FilePlace) (files : List FilePart) → Follow IsFile behind_file least files → FilesFit files
files_fit least [] h = tt
files_fit least (f ∷ files) h = (small_name (length f.name) h.0.long, files_fit (behind_file least f) files h.1)

breaks_fit : (least : ℕ) (breaks : List BreakPart) → Follow IsBreak behind_break least breaks → BreaksFit breaks
breaks_fit least [] h = tt
breaks_fit least (b ∷ breaks) h = (small_actions (length b.actions) h.0.actions.short, breaks_fit (behind_break least b) breaks h.1)

expects_fit : (expects : List ExpectPart) → AllByRecursion IsExpect expects → ExpectsFit expects
expects_fit [] h = tt
expects_fit (e ∷ expects) h = ((small_text (length e.text) h.0.long, small_actions (length e.actions) h.0.actions.short), expects_fit expects h.1)

valid_fits : (s : State) → Valid s → Fits s
valid_fits s valid = record {
  machine = record {
    size = valid.machine.size;
    units = few_units_there (length s.machine.units) valid.machine.all;
    registers = units_fit 0 s.machine.units valid.machine.units;
    agenda = small_events (length s.machine.agenda) valid.machine.few;
  };
  files = valid.files.few;
  names = files_fit (record { position = 0; unit = 0 }) s.files valid.files.each;
  watch = record {
    breaks = small_breaks (length s.watch.breaks) valid.watch.few_breaks;
    actions = breaks_fit 0 s.watch.breaks valid.watch.breaks;
    expects = small_expects (length s.watch.expects) valid.watch.few_expects;
    texts = expects_fit s.watch.expects valid.watch.expects;
    tail = small_tail (length s.watch.tail) valid.watch.short_tail;
    sends = small_sends (length s.watch.sends) valid.watch.few_sends;
  };
}

pub has_text : (bytes : List ℕ) (result : Result Saved StateFault) → IsBytes bytes → Gives state_in result (reading bytes) → IfOk result (λ s. Fits (state_in s))
has_text bytes (Ok s) fits e = valid_fits (state_in s) (reading_found bytes (state_in s) fits e).0
has_text bytes (Err fault) fits h = tt

pub texts-are-read : TextsAreRead
texts-are-read = record { fits = valid_fits; read = reading_again; only = reading_found; cut = cut_short; behind = bytes_behind_it }

-- ---- the same in the words of the rows

words_fit : (words : List ℕ) → RowsFollow (λ front. RowsFit word_layout) with_last [] words
words_fit words = all_fit (λ front. RowsFit word_layout) (λ front w. tt) [] words

pub rows_fit : (s : State) → Fits s → RowsFit state_rows (state_fields (this_version, s))
unfolding cpu_layout registers_layout ports_layout
rows_fit s fits = (
  (tt, tt),
  (
    (((tt, (words_fit s.machine.cpu.acs, (tt, tt))), ((tt, (tt, (tt, (tt, tt)))), (tt, (tt, tt)))), words_fit s.machine.words),
    (
      (
        fits.machine.units,
        all_from (λ front. RowsFit (unit_layout front)) (λ (u : UnitPart). length u.registers < 2 ^ 8) (λ front u few. (tt, (few, all_fit (λ front. RowsFit (register_layout (kind_at u.position) front)) (λ front r. tt) [] u.registers))) [] s.machine.units fits.machine.registers,
      ),
      (
        (fits.machine.agenda, all_fit (λ front. RowsFit (event_layout (length s.machine.units) front)) (λ front (e : SavedEvent). (tt, (tt, tt))) [] s.machine.agenda),
        (
          ((fits.files, all_from (λ front. RowsFit (file_layout front)) (λ (f : FilePart). length f.name < 2 ^ 16) (λ front f short. (tt, (tt, (tt, (short, (tt, tt)))))) [] s.files fits.names), (tt, (tt, tt))),
          (
            (
              (fits.watch.breaks, all_from (λ front. RowsFit (break_layout front)) (λ (b : BreakPart). length b.actions < 2 ^ 16) (λ front b short. (tt, (tt, short))) [] s.watch.breaks fits.watch.actions),
              (fits.watch.expects, all_from (λ front. RowsFit expect_layout) ExpectFits (λ front e both. (tt, (both.0, both.1))) [] s.watch.expects fits.watch.texts),
            ),
            (
              fits.watch.tail,
              (fits.watch.sends, all_fit (λ front. RowsFit (send_layout front)) (λ front (x : SavedSend). (tt, tt)) [] s.watch.sends),
            ),
          ),
        ),
      ),
    ),
  ),
)
