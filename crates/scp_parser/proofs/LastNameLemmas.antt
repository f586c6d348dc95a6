-- A command with the name of a file up to the end of the line.
use Rattle.std.proofs.Common.{◌≡◌, ℕ, Ok, List, ◌++◌, length, ap, sym, subst, ◌∙◌, inl, inr}
use Rattle.scp_parser.specs.declared.command.Piece.{Piece}
use Rattle.scp_parser.specs.declared.command.Verb.{Verb}
use Rattle.scp_parser.specs.declared.fault.ParseFault.{ParseFault}
use Rattle.scp_parser.specs.Command.{Request, request_of, piece_of, IsNamePiece, Keeps}
use Rattle.scp_parser.specs.Grammar.{Then, IsLastName}
use Rattle.scp_parser.specs.Faults.{FaultThen, NameFaults}
use Rattle.scp_parser.specs.Reading.{map_ok, last_name, piece_before, with_name}
use Rattle.scp_parser.proofs.Settles.{Settles, then_seen, restated, sound_of}
use Rattle.scp_parser.proofs.StepLemmas.{bind_keeps, same_Ok}
use Rattle.scp_parser.proofs.FileNameLemmas.{name_settles, piece_is, name_piece}
use Rattle.scp_parser.proofs.EndLemmas.{IsEnd, behind_part}

module _ (line : List ℕ) where
  abbrev see : Verb → Request
  see v = request_of line v

  abbrev bytes : ℕ
  bytes = length line

  abbrev pub Names : (List ℕ → Request) → List ℕ → Request → Type 0
  Names ask text asked = Then (IsLastName text) (λ name a. a ≡ ask name.0) asked

  -- a verb asks for what it says of the bytes of a piece
  abbrev pub AsksBy : (Piece → Verb) → (List ℕ → Request) → Type 0
  AsksBy make ask = (p : Piece) → see (make p) ≡ ask (piece_of line p)

  no_more : (text : List ℕ) (e : ParseFault) → FaultThen (NameFaults text) (IsLastName text) (λ name e. ⊥) e → NameFaults text e
  no_more text e (inl faulty) = faulty
  no_more text e (inr (name, is, never)) = absurd never

  piece_settles : (make : Piece → Verb) (ask : List ℕ → Request) (text : List ℕ) (name : List ℕ × List ℕ) → AsksBy make ask → IsEnd line text → IsLastName text name
      → Settles (map_ok see (Ok (make (piece_before bytes name.0 name.1)))) (λ a. a ≡ ask name.0) (λ e. ⊥)
  piece_settles make ask text name asks end is =
      let (start, spelled) = behind_part line text is.0.before (name.0 ++ name.1) end is.0.spelled in
      let seen = asks (piece_before bytes name.0 name.1) ∙ ap ask (piece_is line start name.0 name.1 spelled) in
      record { reads = λ a is. ap (λ (r : Request). Ok r) (seen ∙ sym is); faults = λ e never. absurd never; found = seen }

  pub with_name_settles : (make : Piece → Verb) (ask : List ℕ → Request) (text : List ℕ) → AsksBy make ask → IsEnd line text
      → Settles (map_ok see (with_name bytes make text)) (Names ask text) (NameFaults text)
  with_name_settles make ask text asks end =
      restated (Names ask text) (Names ask text) (FaultThen (NameFaults text) (IsLastName text) (λ name e. ⊥)) (NameFaults text) (map_ok see (with_name bytes make text))
      (then_seen see (IsLastName text) (NameFaults text) (λ name. Ok (make (piece_before bytes name.0 name.1))) (λ name a. a ≡ ask name.0) (λ name e. ⊥) (last_name text)
      (name_settles text) (λ name is. piece_settles make ask text name asks end is))
      (λ a is. is) (λ a is. is) (no_more text) (λ e faulty. inl faulty)

  pub with_name_keeps : (make : Piece → Verb) (text : List ℕ) (v : Verb) → ((p : Piece) → IsNamePiece line p → Keeps line (make p)) → IsEnd line text → with_name bytes make text ≡ Ok v → Keeps line v
  with_name_keeps make text v keeps end h =
      bind_keeps (Keeps line) (last_name text) (λ name. Ok (make (piece_before bytes name.0 name.1))) v h (λ name is last.
      let there : IsLastName text name = sound_of (IsLastName text) (NameFaults text) (last_name text) (Ok name) is (name_settles text).found in
      let (start, spelled) = behind_part line text there.0.before (name.0 ++ name.1) end there.0.spelled in
      subst (Keeps line) (same_Ok (make (piece_before bytes name.0 name.1)) v last) (keeps (piece_before bytes name.0 name.1) (name_piece line start name.0 name.1 spelled there.1)))
