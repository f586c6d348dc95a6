-- What DO, GOTO and ECHO ask for, by the operands behind their names.
use Rattle.std.specs.Prelude.{codes}
use Rattle.std.specs.Option.{is_some}
use Rattle.std.proofs.Common.{◌≡◌, ℕ, Bool, false, Option, None, Result, Ok, List, [], ◌++◌, length, take, drop, ap, sym, subst, ◌∙◌, inl, inr, arith, append-nil}
use Rattle.std.proofs.lemmas.List.{take-append-drop}
use Rattle.line_text.specs.Words.{Begins}
use Rattle.scp_parser.specs.declared.command.Verb.{Verb}
use Rattle.scp_parser.specs.declared.command.Verb.TheVariants as verb
use Rattle.scp_parser.specs.declared.fault.ParseFault.{ParseFault}
use Rattle.scp_parser.specs.declared.names.CommandName.TheVariants.{Do, Goto, Echo}
use Rattle.scp_parser.specs.Command.{Request, request_of, piece_of, IsPiece, IsFileName, Keeps}
use Rattle.scp_parser.specs.Command as request
use Rattle.scp_parser.specs.Forms.{IsFlag, IsScriptName, IsAnyWord}
use Rattle.scp_parser.specs.Operands.{flag_of, as_file_name, any_word}
use Rattle.scp_parser.specs.Grammar.{Then, Takes, MayTake, Ends, IsTail, Scripts, Operates}
use Rattle.scp_parser.specs.Faults.{WordFaults, EndFaults, FaultThen, OperandFaults}
use Rattle.scp_parser.specs.Reading.{map_ok, maybe, needed, ended, inside_of, piece_before, tail_piece, do_script, do_strict, do_file, goto, echo}
use Rattle.scp_parser.proofs.FormsDecided.{Forms_decided}
use Rattle.scp_parser.proofs.Settles.{Settles, then_seen, restated}
use Rattle.scp_parser.proofs.FlagLemmas.{no_flag}
use Rattle.scp_parser.proofs.LabelLemmas.{no_script, no_word}
use Rattle.scp_parser.proofs.OperandLemmas.{ended_seen, needed_settles, maybe_begins}
use Rattle.scp_parser.proofs.OptionalLemmas.{optional_settles}
use Rattle.scp_parser.proofs.StepLemmas.{bind_keeps, same_Ok, ended_keeps, needed_takes}
use Rattle.scp_parser.proofs.FileNameLemmas.{piece_is, is_piece}
use Rattle.scp_parser.proofs.EndLemmas.{IsEnd, behind_part, behind_word, behind_maybe}
use Rattle.scp_parser.proofs.TailLemmas.{tail_settled, tail_is, tail_piece_is, tail_is_piece}

module _ (d : Forms_decided) (line : List ℕ) where
  abbrev see : Verb → Request
  see v = request_of line v

  abbrev bytes : ℕ
  bytes = length line

  -- the place of a word of the line

  word_at_end : (text word rest : List ℕ) → IsEnd line text → Begins text word rest → IsEnd line (word ++ rest)
  word_at_end text word rest end begins = behind_part line text begins.blanks (word ++ rest) end begins.spelled

  word_is : (word rest : List ℕ) → IsEnd line (word ++ rest) → piece_of line (piece_before bytes word rest) ≡ word
  word_is word rest (start, spelled) = piece_is line start word rest spelled

  word_is_piece : (word rest : List ℕ) → IsEnd line (word ++ rest) → IsPiece line (piece_before bytes word rest)
  word_is_piece word rest (start, spelled) = is_piece line start word rest spelled

  -- a word that was read, which is all of the word that stands there
  read_at_end : (text word read rest : List ℕ) → IsEnd line text → Begins text word rest → read ≡ word → IsEnd line (read ++ rest)
  read_at_end text word read rest end begins same = subst (λ (t : List ℕ). IsEnd line (t ++ rest)) (sym same) (word_at_end text word rest end begins)

  -- DO

  abbrev echo_flag : List ℕ
  echo_flag = codes "-V"

  abbrev strict_flag : List ℕ
  strict_flag = codes "-E"

  no_echo : flag_of echo_flag [] ≡ None
  no_echo = no_flag echo_flag (omega arith)

  no_strict : flag_of strict_flag [] ≡ None
  no_strict = no_flag strict_flag (omega arith)

  abbrev Name : Type 0
  Name = List ℕ × List ℕ

  abbrev script_verb : Option Bool → Option Bool → Name → Verb
  script_verb echo strict name = verb.Do (is_some echo) (is_some strict) (piece_before bytes name.0 name.1) (tail_piece bytes name.1)

  -- the arguments behind the name
  abbrev Arguments : Option Bool → Option Bool → Name → Request → Type 0
  Arguments echo strict name asked = Then (IsTail name.1) (λ arguments b. b ≡ request.Do (is_some echo) (is_some strict) name.0 arguments) asked

  arguments_settle : (echo strict : Option Bool) (text : List ℕ) (name : Name) → IsEnd line text → Takes IsScriptName text name
      → Settles (map_ok see (Ok (script_verb echo strict name))) (Arguments echo strict name) (λ e. ⊥)
  arguments_settle echo strict text name end (word, begins, is) =
      let ask : List ℕ → List ℕ → Request = λ one other. request.Do (is_some echo) (is_some strict) one other in
      let behind = (inside_of name.1).0 in
      let here = read_at_end text word name.0 name.1 end begins is.1 in
      let seen : see (script_verb echo strict name) ≡ ask name.0 behind =
      ap (λ (t : List ℕ). ask t (piece_of line (tail_piece bytes name.1))) (word_is name.0 name.1 here)
      ∙ ap (λ (t : List ℕ). ask name.0 t) (tail_piece_is line name.1 (behind_word line text word name.1 end begins)) in
      record {
        reads = λ a is. ap (λ (r : Request). Ok r) (seen ∙ ap (λ (t : List ℕ). ask name.0 t) (sym (tail_is name.1 is.0 is.1)) ∙ sym is.2);
        faults = λ e never. absurd never;
        found = (behind, tail_settled name.1, seen);
      }

  no_more : (text : List ℕ) (e : ParseFault) → FaultThen (WordFaults IsScriptName false text) (Takes IsScriptName text) (λ name e. ⊥) e → WordFaults IsScriptName false text e
  no_more text e (inl faulty) = faulty
  no_more text e (inr (name, is, never)) = absurd never

  script_settles : (echo strict : Option Bool) (text : List ℕ) → IsEnd line text
      → Settles (map_ok see (do_script bytes echo (strict, text))) (Scripts echo strict text) (WordFaults IsScriptName false text)
  script_settles echo strict text end =
      restated (Scripts echo strict text) (Scripts echo strict text) (FaultThen (WordFaults IsScriptName false text) (Takes IsScriptName text) (λ name e. ⊥)) (WordFaults IsScriptName false text)
      (map_ok see (do_script bytes echo (strict, text)))
      (then_seen see (Takes IsScriptName text) (WordFaults IsScriptName false text) (λ name. Ok (script_verb echo strict name)) (λ name. Arguments echo strict name) (λ name e. ⊥)
      (needed false as_file_name text) (needed_settles IsScriptName as_file_name d.script no_script false text) (λ name is. arguments_settle echo strict text name end is))
      (λ a is. is) (λ a is. is) (no_more text) (λ e faulty. inl faulty)

  abbrev Strict : Option Bool → List ℕ → Request → Type 0
  Strict echo text asked = Then (MayTake (IsFlag strict_flag) text) (λ strict. Scripts echo strict.0 strict.1) asked

  abbrev StrictFaults : List ℕ → ParseFault → Type 0
  StrictFaults text fault = Then (MayTake (IsFlag strict_flag) text) (λ strict. WordFaults IsScriptName false strict.1) fault

  strict_settles : (echo : Option Bool) (text : List ℕ) → IsEnd line text → Settles (map_ok see (do_strict bytes (echo, text))) (Strict echo text) (StrictFaults text)
  strict_settles echo text end =
      optional_settles (IsFlag strict_flag) (flag_of strict_flag) (d.flag strict_flag) no_strict text (λ strict. map_ok see (do_script bytes echo strict))
      (λ strict. Scripts echo strict.0 strict.1) (λ strict. WordFaults IsScriptName false strict.1)
      (λ strict is. script_settles echo strict.0 strict.1 (behind_maybe (IsFlag strict_flag) line text strict.1 strict.0 end is))

  pub do_settles : (text : List ℕ) → IsEnd line text → Settles (map_ok see (do_file bytes text)) (Operates Do text) (OperandFaults Do text)
  unfolding do_file
  do_settles text end =
      optional_settles (IsFlag echo_flag) (flag_of echo_flag) (d.flag echo_flag) no_echo text (λ echo. map_ok see (do_strict bytes echo))
      (λ echo. Strict echo.0 echo.1) (λ echo. StrictFaults echo.1)
      (λ echo is. strict_settles echo.0 echo.1 (behind_maybe (IsFlag echo_flag) line text echo.1 echo.0 end is))

  script_keeps : (echo strict : Option Bool) (text : List ℕ) (v : Verb) → IsEnd line text → do_script bytes echo (strict, text) ≡ Ok v → Keeps line v
  script_keeps echo strict text v end h =
      bind_keeps (Keeps line) (needed false as_file_name text) (λ name. Ok (script_verb echo strict name)) v h (λ (name : Name) is last.
      let (word, begins, there) = needed_takes IsScriptName as_file_name d.script no_script false text name is in
      let here = read_at_end text word name.0 name.1 end begins there.1 in
      let named : IsFileName (piece_of line (piece_before bytes name.0 name.1)) = subst IsFileName (sym (word_is name.0 name.1 here ∙ there.1)) there.0 in
      let arguments = tail_is_piece line name.1 (behind_word line text word name.1 end begins) in
      subst (Keeps line) (same_Ok (script_verb echo strict name) v last) ((word_is_piece name.0 name.1 here, named), arguments))

  pub do_keeps : (text : List ℕ) (v : Verb) → IsEnd line text → do_file bytes text ≡ Ok v → Keeps line v
  unfolding do_file
  do_keeps text v end h =
      let echo = maybe (flag_of echo_flag) text in
      let echoes : MayTake (IsFlag echo_flag) text echo = maybe_begins (IsFlag echo_flag) (flag_of echo_flag) (d.flag echo_flag) no_echo text in
      let behind_echo = behind_maybe (IsFlag echo_flag) line text echo.1 echo.0 end echoes in
      let strict = maybe (flag_of strict_flag) echo.1 in
      let stops : MayTake (IsFlag strict_flag) echo.1 strict = maybe_begins (IsFlag strict_flag) (flag_of strict_flag) (d.flag strict_flag) no_strict echo.1 in
      script_keeps echo.0 strict.0 strict.1 v (behind_maybe (IsFlag strict_flag) line echo.1 strict.1 strict.0 behind_echo stops) h

  -- GOTO

  label_settles : (text : List ℕ) (label : List ℕ × List ℕ) → IsEnd line text → Takes IsAnyWord text label
      → Settles (map_ok see (ended (verb.Goto (piece_before bytes label.0 label.1)) label.1)) (Ends (request.Goto label.0) label.1) (EndFaults label.1)
  label_settles text label end (word, begins, is) =
      let what = verb.Goto (piece_before bytes label.0 label.1) in
      let here = read_at_end text word label.0 label.1 end begins is.1 in
      subst (λ (t : List ℕ). Settles (map_ok see (ended what label.1)) (Ends (request.Goto t) label.1) (EndFaults label.1)) (word_is label.0 label.1 here) (ended_seen see what label.1)

  pub goto_settles : (text : List ℕ) → IsEnd line text → Settles (map_ok see (goto bytes text)) (Operates Goto text) (OperandFaults Goto text)
  unfolding goto
  goto_settles text end =
      then_seen see (Takes IsAnyWord text) (WordFaults IsAnyWord false text) (λ label. ended (verb.Goto (piece_before bytes label.0 label.1)) label.1)
      (λ label. Ends (request.Goto label.0) label.1) (λ label. EndFaults label.1) (needed false any_word text)
      (needed_settles IsAnyWord any_word d.word no_word false text) (λ label is. label_settles text label end is)

  pub goto_keeps : (text : List ℕ) (v : Verb) → IsEnd line text → goto bytes text ≡ Ok v → Keeps line v
  unfolding goto
  goto_keeps text v end h =
      bind_keeps (Keeps line) (needed false any_word text) (λ label. ended (verb.Goto (piece_before bytes label.0 label.1)) label.1) v h (λ label is last.
      let (word, begins, there) = needed_takes IsAnyWord any_word d.word no_word false text label is in
      let here = read_at_end text word label.0 label.1 end begins there.1 in
      ended_keeps (Keeps line) (verb.Goto (piece_before bytes label.0 label.1)) label.1 v last (word_is_piece label.0 label.1 here))

  -- ECHO

  behind_blank : (text : List ℕ) → IsEnd line text → IsEnd line (drop 1 text ++ [])
  behind_blank text end =
      subst (IsEnd line) (sym (append-nil (drop 1 text))) (behind_part line text (take 1 text) (drop 1 text) end (sym (take-append-drop 1 text)))

  pub echo_settles : (text : List ℕ) → IsEnd line text → Settles (map_ok see (Ok (echo bytes text))) (Operates Echo text) (OperandFaults Echo text)
  unfolding echo
  echo_settles text end =
      let seen : see (verb.Echo (piece_before bytes (drop 1 text) [])) ≡ request.Echo (drop 1 text) = ap (λ (t : List ℕ). request.Echo t) (word_is (drop 1 text) [] (behind_blank text end)) in
      record { reads = λ a is. ap (λ (r : Request). Ok r) (seen ∙ sym is); faults = λ e never. absurd never; found = seen }

  pub echo_keeps : (text : List ℕ) (v : Verb) → IsEnd line text → ◌≡◌ {A = Result Verb ParseFault} (Ok (echo bytes text)) (Ok v) → Keeps line v
  unfolding echo
  echo_keeps text v end h = subst (Keeps line) (same_Ok (verb.Echo (piece_before bytes (drop 1 text) [])) v h) (word_is_piece (drop 1 text) [] (behind_blank text end))
