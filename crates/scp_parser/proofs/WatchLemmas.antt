-- What EXPECT and SEND ask for, by the operands behind their names.
use Rattle.std.specs.Prelude.{codes, unwrap_or}
use Rattle.std.proofs.Common.{◌≡◌, inl, inr, ℕ, false, Option, Ok, List, length, ap, sym, subst, ◌∙◌}
use Rattle.scp_parser.specs.declared.command.Verb.{Verb}
use Rattle.scp_parser.specs.declared.command.Verb.TheVariants as verb
use Rattle.scp_parser.specs.declared.fault.ParseFault.{ParseFault}
use Rattle.scp_parser.specs.declared.names.CommandName.TheVariants.{Expect, Send}
use Rattle.scp_parser.specs.Command.{Request, request_of, piece_of, IsQuotedPiece, IsQuoted, Keeps}
use Rattle.scp_parser.specs.Command as request
use Rattle.scp_parser.specs.Forms.{IsCount, IsKeyed, IsTextAt}
use Rattle.scp_parser.specs.Operands.{count_of, keyed_of, text_at}
use Rattle.scp_parser.specs.Grammar.{MayTake, TakesAt, IsTail, Then, Ends, Expects, Sends, Operates}
use Rattle.scp_parser.specs.Faults.{PartFaults, EndFaults, FaultThen, OperandFaults}
use Rattle.scp_parser.specs.Reading.{map_ok, maybe, ended, inside_of, piece_before, tail_piece, needed_part, expect_text, expect, send_text, send_delay, send}
use Rattle.scp_parser.proofs.Settles.{Settles, then_seen, restated, sound_of}
use Rattle.scp_parser.proofs.OperandLemmas.{ended_seen, maybe_begins}
use Rattle.scp_parser.proofs.FileNameLemmas.{piece_is, is_piece}
use Rattle.scp_parser.proofs.AttachLemmas.{IsEnd, behind_maybe}
use Rattle.scp_parser.proofs.TailLemmas.{tail_settled, tail_is, tail_piece_is, tail_is_piece}
use Rattle.scp_parser.proofs.PartLemmas.{part_settles, behind_at, at_end}
use Rattle.scp_parser.proofs.CountLemmas.{count_decides, no_count}
use Rattle.scp_parser.proofs.KeyedLemmas.{keyed_decides, no_keyed}
use Rattle.scp_parser.proofs.QuotedLemmas.{text_decides}
use Rattle.scp_parser.proofs.OptionalLemmas.{optional_settles}
use Rattle.scp_parser.proofs.StepLemmas.{bind_keeps, same_Ok, ended_keeps}

quoted_settles : (text : List ℕ) → Settles (needed_part false text_at text) (TakesAt IsTextAt text) (PartFaults IsTextAt false text)
quoted_settles text = part_settles IsTextAt text_at text_decides false text

behind_quoted : (line text : List ℕ) (x : List ℕ × List ℕ) → IsEnd line text → TakesAt IsTextAt text x → IsEnd line x.1
behind_quoted line text x end is = behind_at line text is.0 x.0 x.1 end is.1 is.2.spelled

module _ (line : List ℕ) where
  abbrev see : Verb → Request
  see v = request_of line v

  abbrev bytes : ℕ
  bytes = length line

  -- the place of a quoted text

  quoted_is : (text : List ℕ) (x : List ℕ × List ℕ) → IsEnd line text → TakesAt IsTextAt text x → piece_of line (piece_before bytes x.0 x.1) ≡ x.0
  quoted_is text x end is =
      let (start, spelled) = at_end line text is.0 x.0 x.1 end is.1 is.2.spelled in
      piece_is line start x.0 x.1 spelled

  quoted_piece : (text : List ℕ) (x : List ℕ × List ℕ) → IsEnd line text → TakesAt IsTextAt text x → IsQuotedPiece line (piece_before bytes x.0 x.1)
  quoted_piece text x end is =
      let (start, spelled) = at_end line text is.0 x.0 x.1 end is.1 is.2.spelled in
      (is_piece line start x.0 x.1 spelled, subst IsQuoted (sym (piece_is line start x.0 x.1 spelled)) is.2.is)

  -- an EXPECT

  abbrev expected : ℕ → List ℕ × List ℕ → Verb
  expected count x = verb.Expect count (piece_before bytes x.0 x.1) (tail_piece bytes x.1)

  expect_seen : (count : ℕ) (text : List ℕ) (x : List ℕ × List ℕ) → IsEnd line text → TakesAt IsTextAt text x → see (expected count x) ≡ request.Expect count x.0 (inside_of x.1).0
  expect_seen count text x end is =
      ap (λ (t : List ℕ). request.Expect count t (piece_of line (tail_piece bytes x.1))) (quoted_is text x end is)
      ∙ ap (λ (t : List ℕ). request.Expect count x.0 t) (tail_piece_is line x.1 (behind_quoted line text x end is))

  abbrev HasTail : ℕ → List ℕ × List ℕ → Request → Type 0
  HasTail count x asked = Then (IsTail x.1) (λ tail a. a ≡ request.Expect count x.0 tail) asked

  expected_settles : (count : ℕ) (text : List ℕ) (x : List ℕ × List ℕ) → IsEnd line text → TakesAt IsTextAt text x → Settles (map_ok see (Ok (expected count x))) (HasTail count x) (λ e. ⊥)
  expected_settles count text x end is =
      let seen = expect_seen count text x end is in
      record {
        reads = λ asked has. ap (λ (a : Request). Ok a) (seen ∙ ap (λ (t : List ℕ). request.Expect count x.0 t) (sym (tail_is x.1 has.0 has.1)) ∙ sym has.2);
        faults = λ e never. absurd never;
        found = ((inside_of x.1).0, tail_settled x.1, seen);
      }

  no_more : (text : List ℕ) (e : ParseFault) → FaultThen (PartFaults IsTextAt false text) (TakesAt IsTextAt text) (λ x e. ⊥) e → PartFaults IsTextAt false text e
  no_more text e (inl faulty) = faulty
  no_more text e (inr (x, is, never)) = absurd never

  counted_settles : (count : Option ℕ) (text : List ℕ) → IsEnd line text → Settles (map_ok see (expect_text bytes (count, text))) (Expects count text) (PartFaults IsTextAt false text)
  counted_settles count text end =
      restated (Expects count text) (Expects count text) (FaultThen (PartFaults IsTextAt false text) (TakesAt IsTextAt text) (λ x e. ⊥)) (PartFaults IsTextAt false text)
      (map_ok see (expect_text bytes (count, text)))
      (then_seen see (TakesAt IsTextAt text) (PartFaults IsTextAt false text) (λ x. Ok (expected (unwrap_or count 1) x)) (HasTail (unwrap_or count 1)) (λ x e. ⊥) (needed_part false text_at text)
      (quoted_settles text) (λ x is. expected_settles (unwrap_or count 1) text x end is))
      (λ a is. is) (λ a is. is) (no_more text) (λ e faulty. inl faulty)

  pub expect_settles : (text : List ℕ) → IsEnd line text → Settles (map_ok see (expect bytes text)) (Operates Expect text) (OperandFaults Expect text)
  unfolding expect
  expect_settles text end =
      optional_settles IsCount count_of count_decides no_count text (λ count. map_ok see (expect_text bytes count)) (λ count. Expects count.0 count.1) (λ count. PartFaults IsTextAt false count.1)
      (λ count is. counted_settles count.0 count.1 (behind_maybe IsCount line text count.1 count.0 end is))

  -- a SEND

  abbrev sent : ℕ → ℕ → List ℕ × List ℕ → Verb
  sent after delay x = verb.Send after delay (piece_before bytes x.0 x.1)

  sent_settles : (after delay : ℕ) (text : List ℕ) (x : List ℕ × List ℕ) → IsEnd line text → TakesAt IsTextAt text x
      → Settles (map_ok see (ended (sent after delay x) x.1)) (Ends (request.Send after delay x.0) x.1) (EndFaults x.1)
  sent_settles after delay text x end is =
      subst (λ (t : List ℕ). Settles (map_ok see (ended (sent after delay x) x.1)) (Ends (request.Send after delay t) x.1) (EndFaults x.1)) (quoted_is text x end is)
      (ended_seen see (sent after delay x) x.1)

  abbrev SendFaults : List ℕ → ParseFault → Type 0
  SendFaults text fault = FaultThen (PartFaults IsTextAt false text) (TakesAt IsTextAt text) (λ x. EndFaults x.1) fault

  delayed_settles : (after delay : Option ℕ) (text : List ℕ) → IsEnd line text → Settles (map_ok see (send_text bytes after (delay, text))) (Sends after delay text) (SendFaults text)
  delayed_settles after delay text end =
      then_seen see (TakesAt IsTextAt text) (PartFaults IsTextAt false text) (λ x. ended (sent (unwrap_or after 0) (unwrap_or delay 1000) x) x.1) (λ x. Ends (request.Send (unwrap_or after 0) (unwrap_or delay 1000) x.0) x.1)
      (λ x. EndFaults x.1) (needed_part false text_at text) (quoted_settles text) (λ x is. sent_settles (unwrap_or after 0) (unwrap_or delay 1000) text x end is)

  abbrev Delays : Option ℕ → List ℕ → Request → Type 0
  Delays after text asked = Then (MayTake (IsKeyed (codes "DELAY=")) text) (λ delay. Sends after delay.0 delay.1) asked

  abbrev DelayFaults : List ℕ → ParseFault → Type 0
  DelayFaults text fault = Then (MayTake (IsKeyed (codes "DELAY=")) text) (λ delay. SendFaults delay.1) fault

  after_settles : (after : Option ℕ) (text : List ℕ) → IsEnd line text → Settles (map_ok see (send_delay bytes (after, text))) (Delays after text) (DelayFaults text)
  after_settles after text end =
      let key = codes "DELAY=" in
      optional_settles (IsKeyed key) (keyed_of key) (keyed_decides key) (no_keyed key) text (λ delay. map_ok see (send_text bytes after delay)) (λ delay. Sends after delay.0 delay.1) (λ delay. SendFaults delay.1)
      (λ delay is. delayed_settles after delay.0 delay.1 (behind_maybe (IsKeyed key) line text delay.1 delay.0 end is))

  pub send_settles : (text : List ℕ) → IsEnd line text → Settles (map_ok see (send bytes text)) (Operates Send text) (OperandFaults Send text)
  unfolding send
  send_settles text end =
      let key = codes "AFTER=" in
      optional_settles (IsKeyed key) (keyed_of key) (keyed_decides key) (no_keyed key) text (λ after. map_ok see (send_delay bytes after)) (λ after. Delays after.0 after.1) (λ after. DelayFaults after.1)
      (λ after is. after_settles after.0 after.1 (behind_maybe (IsKeyed key) line text after.1 after.0 end is))

-- what they keep

quoted_there : (text : List ℕ) (x : List ℕ × List ℕ) → needed_part false text_at text ≡ Ok x → TakesAt IsTextAt text x
quoted_there text x is = sound_of (TakesAt IsTextAt text) (PartFaults IsTextAt false text) (needed_part false text_at text) (Ok x) is (quoted_settles text).found

counted_keeps : (line text : List ℕ) (count : Option ℕ) (v : Verb) → IsEnd line text → expect_text (length line) (count, text) ≡ Ok v → Keeps line v
counted_keeps line text count v end h =
    bind_keeps (Keeps line) (needed_part false text_at text) (λ x. Ok (expected line (unwrap_or count 1) x)) v h (λ x is made.
    let there = quoted_there text x is in
    subst (Keeps line) (same_Ok (expected line (unwrap_or count 1) x) v made) (quoted_piece line text x end there, tail_is_piece line x.1 (behind_quoted line text x end there)))

pub expect_keeps : (line text : List ℕ) (v : Verb) → IsEnd line text → expect (length line) text ≡ Ok v → Keeps line v
unfolding expect
expect_keeps line text v end h =
    let count = maybe count_of text in
    counted_keeps line count.1 count.0 v (behind_maybe IsCount line text count.1 count.0 end (maybe_begins IsCount count_of count_decides no_count text)) h

delayed_keeps : (line text : List ℕ) (after delay : Option ℕ) (v : Verb) → IsEnd line text → send_text (length line) after (delay, text) ≡ Ok v → Keeps line v
delayed_keeps line text after delay v end h =
    bind_keeps (Keeps line) (needed_part false text_at text) (λ x. ended (sent line (unwrap_or after 0) (unwrap_or delay 1000) x) x.1) v h (λ x is last.
    ended_keeps (Keeps line) (sent line (unwrap_or after 0) (unwrap_or delay 1000) x) x.1 v last (quoted_piece line text x end (quoted_there text x is)))

behind_keyed : (key line text : List ℕ) → IsEnd line text → IsEnd line (maybe (keyed_of key) text).1
behind_keyed key line text end =
    let n = maybe (keyed_of key) text in
    behind_maybe (IsKeyed key) line text n.1 n.0 end (maybe_begins (IsKeyed key) (keyed_of key) (keyed_decides key) (no_keyed key) text)

pub send_keeps : (line text : List ℕ) (v : Verb) → IsEnd line text → send (length line) text ≡ Ok v → Keeps line v
unfolding send
send_keeps line text v end h =
    let after = maybe (keyed_of (codes "AFTER=")) text in
    let delay = maybe (keyed_of (codes "DELAY=")) after.1 in
    delayed_keeps line delay.1 after.0 delay.0 v (behind_keyed (codes "DELAY=") line after.1 (behind_keyed (codes "AFTER=") line text end)) h
