-- What BREAK asks for, by the operands behind its name.
use Rattle.std.proofs.Common.{◌≡◌, inl, inr, ℕ, ◌<◌, Bool, true, cond, ◌==◌, Result, Ok, Err, List, [], ◌∷◌, length, refl, ap, sym, subst, ◌∙◌, arith}
use Rattle.std.proofs.lemmas.Bool.{cases_Bool, eqb-true, eq-eqb, ne_eqb, false≢true}
use Rattle.line_text.specs.Words.{IsBlanks, StartsIn, past_blanks}
use Rattle.scp_parser.specs.declared.command.Piece.{Piece}
use Rattle.scp_parser.specs.declared.command.Verb.{Verb}
use Rattle.scp_parser.specs.declared.command.Verb.TheVariants as verb
use Rattle.scp_parser.specs.declared.fault.ParseFault.{ParseFault}
use Rattle.scp_parser.specs.declared.fault.ParseFault.TheVariants.{Extra}
use Rattle.scp_parser.specs.declared.names.CommandName.TheVariants.{Break}
use Rattle.scp_parser.specs.Command.{Request, request_of, piece_of, IsPiece, Keeps}
use Rattle.scp_parser.specs.Command as request
use Rattle.scp_parser.specs.Forms.{IsPoint}
use Rattle.scp_parser.specs.Operands.{point_of}
use Rattle.scp_parser.specs.Grammar.{BeginsAt, TakesAt, HasActions, no_actions, actions as behind_mark, Then, Operates}
use Rattle.scp_parser.specs.Faults.{PartFaults, ActionFaults, no_mark, OperandFaults}
use Rattle.scp_parser.specs.Reading.{◌>>=◌, map_ok, inside_of, piece_before, tail_piece, needed_part, actions_in, actions, break_at}
use Rattle.scp_parser.proofs.WordLemmas.{past_of_blanks}
use Rattle.scp_parser.proofs.Settles.{Sound, Settles, then_seen, sound_of}
use Rattle.scp_parser.proofs.AttachLemmas.{IsEnd}
use Rattle.scp_parser.proofs.TailLemmas.{tail_settled, tail_is, tail_piece_is, tail_is_piece, nothing_is, nothing_is_piece}
use Rattle.scp_parser.proofs.PartLemmas.{begins_at_past, blanks_or_past, part_settles, behind_at}
use Rattle.scp_parser.proofs.CountLemmas.{point_decides}
use Rattle.scp_parser.proofs.StepLemmas.{bind_keeps, same_Ok}

-- the actions behind the mark

behind_point : (line text : List ℕ) (x : (ℕ × ℕ) × List ℕ) → IsEnd line text → TakesAt IsPoint text x → IsEnd line x.1
behind_point line text x end is = behind_at line text is.0 is.2.word x.1 end is.1 is.2.spelled

behind_the_mark : (line text rest : List ℕ) → IsEnd line text → BeginsAt text (59 ∷ rest) → IsEnd line rest
behind_the_mark line text rest end begins = behind_at line text (59 ∷ rest) (59 ∷ []) rest end begins refl

module _ (line : List ℕ) where
  abbrev bytes : ℕ
  bytes = length line

  -- the actions, as the place of a text
  abbrev Acts : List ℕ → Piece → Type 0
  Acts text piece = HasActions text (piece_of line piece) × IsPiece line piece

  -- the place of these actions is read
  record Acted (text tail : List ℕ) : Type 0 where
    piece : Piece
    read : actions bytes text ≡ Ok piece
    is : piece_of line piece ≡ tail

  none_read : (text : List ℕ) → IsBlanks text → actions bytes text ≡ Ok (piece_before bytes [] [])
  unfolding actions
  none_read text are = ap (actions_in bytes) (past_of_blanks text are)

  mark_read : (text rest : List ℕ) → BeginsAt text (59 ∷ rest) → actions bytes text ≡ Ok (tail_piece bytes rest)
  unfolding actions
  mark_read text rest begins = ap (actions_in bytes) (begins_at_past text (59 ∷ rest) begins)

  acted : (text tail : List ℕ) → IsEnd line text → HasActions text tail → Acted text tail
  acted text _ end (no_actions are) = record { piece = piece_before bytes [] []; read = none_read text are; is = nothing_is line }
  acted text tail end (behind_mark rest _ begins is) = record {
    piece = tail_piece bytes rest;
    read = mark_read text rest begins;
    is = tail_piece_is line rest (behind_the_mark line text rest end begins) ∙ sym (tail_is rest tail is);
  }

  other_past : (past : List ℕ) → 0 < length past → StartsIn (λ b. b ≡ 59 → ⊥) past → actions_in bytes past ≡ Err (Extra (length past))
  other_past [] some starts = absurd (omega (arith, some))
  other_past (b ∷ more) some starts = ap (λ (c : Bool). cond c (Ok (tail_piece bytes more)) (Err (Extra (length (b ∷ more))))) (ne_eqb b 59 starts)

  other_read : (text past : List ℕ) → BeginsAt text past → StartsIn (λ b. b ≡ 59 → ⊥) past → actions bytes text ≡ Err (Extra (length past))
  unfolding actions
  other_read text past begins starts = ap (actions_in bytes) (begins_at_past text past begins) ∙ other_past past begins.some starts

  action_faults : (text : List ℕ) (e : ParseFault) → ActionFaults text e → actions bytes text ≡ Err e
  action_faults text e (no_mark past begins starts) = other_read text past begins starts

  none_found : (text : List ℕ) → IsBlanks text → Acts text (piece_before bytes [] [])
  none_found text are = (subst (HasActions text) (sym (nothing_is line)) (no_actions are), nothing_is_piece line)

  mark_found : (text rest : List ℕ) → IsEnd line text → BeginsAt text (59 ∷ rest) → Acts text (tail_piece bytes rest)
  mark_found text rest end begins =
      let behind = behind_the_mark line text rest end begins in
      let tail = (inside_of rest).0 in
      (subst (HasActions text) (sym (tail_piece_is line rest behind)) (behind_mark rest tail begins (tail_settled rest)), tail_is_piece line rest behind)

  past_found : (text past : List ℕ) → IsEnd line text → BeginsAt text past → Sound (Acts text) (ActionFaults text) (actions bytes text)
  past_found text [] end begins = absurd (omega (arith, begins.some))
  past_found text (b ∷ more) end begins =
      elim (cases_Bool (b == 59)) [
        | inl mark ↦
            let here = subst (λ (c : ℕ). BeginsAt text (c ∷ more)) (eqb-true b 59 mark) begins in
            subst (Sound (Acts text) (ActionFaults text)) (sym (mark_read text more here)) (mark_found text more end here)
        | inr other ↦
            let never : b ≡ 59 → ⊥ = λ is. false≢true (sym other ∙ eq-eqb b 59 is) in
            subst (Sound (Acts text) (ActionFaults text)) (sym (other_read text (b ∷ more) begins never)) (no_mark (b ∷ more) begins never)
      ]

  pub actions_found : (text : List ℕ) → IsEnd line text → Sound (Acts text) (ActionFaults text) (actions bytes text)
  actions_found text end =
      elim (blanks_or_past text) [
        | inl are ↦ subst (Sound (Acts text) (ActionFaults text)) (sym (none_read text are)) (none_found text are)
        | inr begins ↦ past_found text (past_blanks text) end begins
      ]

  -- a BREAK

  abbrev see : Verb → Request
  see v = request_of line v

  abbrev breaks : ℕ → ℕ → Piece → Result Verb ParseFault
  breaks at count piece = Ok (verb.Break at count piece)

  abbrev HasBreak : ℕ → ℕ → List ℕ → Request → Type 0
  HasBreak at count text asked = Then (HasActions text) (λ actions a. a ≡ request.Break at count actions) asked

  acting_found : (at count : ℕ) (text : List ℕ) (r : Result Piece ParseFault) → Sound (Acts text) (ActionFaults text) r → Sound (HasBreak at count text) (ActionFaults text) (map_ok see (r >>= breaks at count))
  acting_found at count text (Ok piece) h = (piece_of line piece, h.0, refl)
  acting_found at count text (Err e) h = h

  acting_reads : (at count : ℕ) (text : List ℕ) (asked : Request) → IsEnd line text → HasBreak at count text asked → map_ok see (actions bytes text >>= breaks at count) ≡ Ok asked
  acting_reads at count text asked end is =
      let read = acted text is.0 end is.1 in
      ap (λ (r : Result Piece ParseFault). map_ok see (r >>= breaks at count)) read.read
      ∙ ap (λ (t : List ℕ). Ok (request.Break at count t)) read.is ∙ ap (λ (a : Request). Ok a) (sym is.2)

  acting_settles : (at count : ℕ) (text : List ℕ) → IsEnd line text → Settles (map_ok see (actions bytes text >>= breaks at count)) (HasBreak at count text) (ActionFaults text)
  acting_settles at count text end = record {
    reads = λ asked is. acting_reads at count text asked end is;
    faults = λ e is. ap (λ (r : Result Piece ParseFault). map_ok see (r >>= breaks at count)) (action_faults text e is);
    found = acting_found at count text (actions bytes text) (actions_found text end);
  }

  pub break_settles : (text : List ℕ) → IsEnd line text → Settles (map_ok see (break_at bytes text)) (Operates Break text) (OperandFaults Break text)
  unfolding break_at
  break_settles text end =
      then_seen see (TakesAt IsPoint text) (PartFaults IsPoint true text) (λ point. actions bytes point.1 >>= breaks point.0.0 point.0.1) (λ point. HasBreak point.0.0 point.0.1 point.1) (λ point. ActionFaults point.1)
      (needed_part true point_of text) (part_settles IsPoint point_of point_decides true text)
      (λ point is. acting_settles point.0.0 point.0.1 point.1 (behind_point line text point end is))

pub break_keeps : (line text : List ℕ) (v : Verb) → IsEnd line text → break_at (length line) text ≡ Ok v → Keeps line v
unfolding break_at
break_keeps line text v end h =
    bind_keeps (Keeps line) (needed_part true point_of text) (λ point. actions (length line) point.1 >>= breaks line point.0.0 point.0.1) v h (λ point is last.
    let there : TakesAt IsPoint text point = sound_of (TakesAt IsPoint text) (PartFaults IsPoint true text) (needed_part true point_of text) (Ok point) is (part_settles IsPoint point_of point_decides true text).found in
    bind_keeps (Keeps line) (actions (length line) point.1) (breaks line point.0.0 point.0.1) v last (λ piece acts made.
    let found : Acts line point.1 piece = sound_of (Acts line point.1) (ActionFaults point.1) (actions (length line) point.1) (Ok piece) acts (actions_found line point.1 (behind_point line text point end there)) in
    subst (Keeps line) (same_Ok (verb.Break point.0.0 point.0.1 piece) v made) found.1))
