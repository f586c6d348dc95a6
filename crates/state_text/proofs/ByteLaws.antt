-- The text of a saved session is of bytes where its names, digests and actions and the texts that it waits for are.
use Rattle.std.proofs.Common.{ℕ, zero, suc, List, [], length, arith}
use Rattle.std.specs.Prelude.{◌==◌, slice_index}
use Rattle.std.specs.List.{AllByRecursion}
use Rattle.std.specs.Int.{w32, to_be_bytes}
use Rattle.sha2.specs.Sha256.{sha256, digest_bytes}
use Rattle.saved_session.specs.declared.saved.SavedEvent.{SavedEvent}
use Rattle.saved_session.specs.declared.saved.SavedSend.{SavedSend}
use Rattle.saved_session.specs.Parts.{UnitPart, FilePart, BreakPart, ExpectPart, State}
use Rattle.saved_session.specs.Ranges.{is_flag, kind_at, has_multiplexer, is_multiplexer_port, is_console_port}
use Rattle.saved_session.specs.Valid.{AreBytes}
use Rattle.byte_layouts.specs.Readers.{with_last}
use Rattle.byte_layouts.specs.Layout.{One, Two, Number, Follow}
use Rattle.byte_layouts.proofs.WriteLaws.{all_fit}
use Rattle.byte_layouts.proofs.ByteLaws.{IsOfBytes, joined_bytes, text_bytes as rows_bytes}
use Rattle.state_text.specs.Rows.{word_layout, cpu_layout, register_layout, registers_layout, unit_layout, event_layout, file_layout, ports_layout, break_layout, expect_layout, send_layout, state_layout}
use Rattle.state_text.specs.Text.{body, text_in}
use Rattle.state_text.proofs.VersionLaws.{none_of_bytes}
use Rattle.state_text.proofs.Lists.{all_from}

pub record FileIsOfBytes (f : FilePart) : Type 0 where
  pub name : AreBytes f.name
  pub digest : AreBytes f.digest

pub record ExpectIsOfBytes (e : ExpectPart) : Type 0 where
  pub text : AreBytes e.text
  pub actions : AreBytes e.actions

pub record StateIsOfBytes (s : State) : Type 0 where
  pub files : AllByRecursion FileIsOfBytes s.files
  pub breaks : AllByRecursion (λ (b : BreakPart). AreBytes b.actions) s.watch.breaks
  pub expects : AllByRecursion ExpectIsOfBytes s.watch.expects
  pub tail : AreBytes s.watch.tail

words_are : (words : List ℕ) → Follow (λ front. IsOfBytes word_layout) with_last [] words
words_are words = all_fit (λ front. IsOfBytes word_layout) (λ front w. tt) [] words

rows_are : (version : ℕ) (s : State) → StateIsOfBytes s → IsOfBytes state_layout (version, s)
unfolding state_layout cpu_layout registers_layout ports_layout
rows_are version s is =
    let first = version == 1 in (
      ((omega arith, (omega arith, (omega arith, (omega arith, (omega arith, (omega arith, (omega arith, (omega arith, tt)))))))), tt),
      (
        (
          ((tt, (words_are s.machine.cpu.acs, (tt, tt))), ((tt, (tt, (tt, (tt, tt)))), (none_of_bytes first 0 (Number One is_flag) s.machine.cpu.autobit tt, (tt, tt)))),
          words_are s.machine.words,
        ),
        (
          all_fit (λ front. IsOfBytes (unit_layout front)) (λ front (u : UnitPart). (tt, all_fit (λ front. IsOfBytes (register_layout (kind_at u.position) front)) (λ front r. tt) [] u.registers)) [] s.machine.units,
          (
            all_fit (λ front. IsOfBytes (event_layout (length s.machine.units) front)) (λ front (e : SavedEvent). (tt, (tt, tt))) [] s.machine.agenda,
            (
              (
                all_from (λ front. IsOfBytes (file_layout front)) FileIsOfBytes (λ front f file. (tt, (tt, (tt, (file.name, (tt, file.digest)))))) [] s.files is.files,
                (
                  tt,
                  (
                    none_of_bytes first 0 (Number Two (is_multiplexer_port (has_multiplexer (length s.machine.units)) s.ports.tti1)) s.ports.qty tt,
                    none_of_bytes first 0 (Number Two (is_console_port s.ports.tti1 s.ports.qty)) s.ports.console tt,
                  ),
                ),
              ),
              (
                (
                  all_from (λ front. IsOfBytes (break_layout front)) (λ (b : BreakPart). AreBytes b.actions) (λ front b actions. (tt, (tt, actions))) [] s.watch.breaks is.breaks,
                  all_from (λ front. IsOfBytes expect_layout) ExpectIsOfBytes (λ front e expect. (tt, (expect.text, expect.actions))) [] s.watch.expects is.expects,
                ),
                (
                  is.tail,
                  all_fit (λ front. IsOfBytes (send_layout front)) (λ front (x : SavedSend). (tt, tt)) [] s.watch.sends,
                ),
              ),
            ),
          ),
        ),
      ),
    )

number_bytes : (n : ℕ) → AreBytes (to_be_bytes w32 n)
number_bytes n = (omega arith, (omega arith, (omega arith, (omega arith, tt))))

numbers_bytes : (h : List ℕ) (n : ℕ) → AreBytes (digest_bytes h n)
unfolding digest_bytes
numbers_bytes h zero = tt
numbers_bytes h (suc n) = joined_bytes (digest_bytes h n) (to_be_bytes w32 (slice_index h n)) (numbers_bytes h n) (number_bytes (slice_index h n))

pub sha256_bytes : (m : List ℕ) → AreBytes (sha256 m)
unfolding sha256
sha256_bytes m = numbers_bytes _ 8

pub text_bytes : (version : ℕ) (s : State) → StateIsOfBytes s → AreBytes (text_in version s)
unfolding text_in body
text_bytes version s is = joined_bytes (body version s) (sha256 (body version s)) (rows_bytes state_layout (version, s) (rows_are version s is)) (sha256_bytes (body version s))
