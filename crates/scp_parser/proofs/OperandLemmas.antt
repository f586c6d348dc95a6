-- One operand: one that may be left out, one that must be there, and the end of a line.
use Rattle.std.proofs.Common.{◌≡◌, ℕ, ◌<◌, Bool, true, false, cond, eqb, Option, Some, None, Ok, Err, List, [], ◌∷◌, ◌++◌, length, refl, ap, sym, subst, ◌∙◌, inl, inr, arith, length-append}
use Rattle.std.proofs.lemmas.Bool.{eq-eqb, ne_eqb, cond-true, cond-false}
use Rattle.line_text.specs.Words.{IsBlanks, Begins, past_blanks}
use Rattle.scp_parser.specs.declared.fault.ParseFault.{ParseFault}
use Rattle.scp_parser.specs.declared.fault.ParseFault.TheVariants.{Missing, Extra}
use Rattle.scp_parser.specs.Command.{Request}
use Rattle.scp_parser.specs.Grammar.{MayBegin, there, not_there, Takes, Ends}
use Rattle.scp_parser.specs.Faults.{bad_word, WordFaults, missing, bad, EndFaults, extra}
use Rattle.scp_parser.specs.Reading.{next_word, maybe_found, maybe, needed_found, needed, ended, map_ok}
use Rattle.operand_forms.proofs.Decides.{Decides}
use Rattle.scp_parser.proofs.WordLemmas.{first_word, begins_next, begins_past, blanks_next, past_of_blanks}
use Rattle.scp_parser.proofs.Settles.{Sound, Settles, same_settles}

-- the end of a line

ended_blank : (what : Request) (text : List ℕ) → IsBlanks text → ended what text ≡ Ok what
unfolding ended
ended_blank what text are =
    let none : length (past_blanks text) ≡ 0 = ap length (past_of_blanks text are) in
    cond-true (eqb (length (past_blanks text)) 0) (Ok what) (Err (Extra (length (past_blanks text)))) (eq-eqb (length (past_blanks text)) 0 none)

ended_extra : (what : Request) (text word rest : List ℕ) → Begins text word rest → ended what text ≡ Err (Extra (length (word ++ rest)))
unfolding ended
ended_extra what text word rest begins =
    let past = begins_past text word rest begins in
    let some : length (word ++ rest) ≡ 0 → ⊥ = λ none. omega (arith, begins.is.some, length-append word rest, none) in
    ap (λ (t : List ℕ). cond (eqb (length t) 0) (Ok what) (Err (Extra (length t)))) past
    ∙ cond-false (eqb (length (word ++ rest)) 0) (Ok what) (Err (Extra (length (word ++ rest)))) (ne_eqb (length (word ++ rest)) 0 some)

ended_faults : (what : Request) (text : List ℕ) (e : ParseFault) → EndFaults text e → ended what text ≡ Err e
ended_faults what text e (extra word rest begins) = ended_extra what text word rest begins

ended_found : (what : Request) (text : List ℕ) → Sound (Ends what text) (EndFaults text) (ended what text)
ended_found what text =
    elim (first_word text) [
      | inl are ↦ subst (Sound (Ends what text) (EndFaults text)) (sym (ended_blank what text are)) (are, refl)
      | inr begins ↦
          let word = (next_word text).0 in
          let rest = (next_word text).1 in
          subst (Sound (Ends what text) (EndFaults text)) (sym (ended_extra what text word rest begins)) (extra word rest begins)
    ]

pub ended_settles : (what : Request) (text : List ℕ) → Settles (ended what text) (Ends what text) (EndFaults text)
ended_settles what text = record {
  reads = λ asked is. ended_blank what text is.0 ∙ ap (λ (a : Request). Ok a) (sym is.1);
  faults = ended_faults what text;
  found = ended_found what text;
}

-- the end of a line, where what it asks for is seen otherwise

map_cond : {A B : Type 0} (see : A → B) (b : Bool) (what : A) (fault : ParseFault) → map_ok see (cond b (Ok what) (Err fault)) ≡ cond b (Ok (see what)) (Err fault)
map_cond see true what fault = refl
map_cond see false what fault = refl

pub map_ended : {A B : Type 0} (see : A → B) (what : A) (text : List ℕ) → map_ok see (ended what text) ≡ ended (see what) text
unfolding ended
map_ended see what text = map_cond see (eqb (length (past_blanks text)) 0) what (Extra (length (past_blanks text)))

pub ended_seen : {A : Type 0} (see : A → Request) (what : A) (text : List ℕ) → Settles (map_ok see (ended what text)) (Ends (see what) text) (EndFaults text)
ended_seen see what text = same_settles (Ends (see what) text) (EndFaults text) (map_ok see (ended what text)) (ended (see what) text) (map_ended see what text) (ended_settles (see what) text)

-- what a function of a form says of a word

none_of : {V : Type 0} (Form : List ℕ → V → Type 0) (form : List ℕ → Option V) (word : List ℕ) (o : Option V) → Decides Form form → form word ≡ o → ((v : V) → Form word v → ⊥) → o ≡ None
none_of Form form word (Some v) decides is none = absurd (none v ((decides word v).0 is))
none_of Form form word None decides is none = refl

module _ {V : Type 0} (Form : List ℕ → V → Type 0) (form : List ℕ → Option V) (decides : Decides Form form) (none : form [] ≡ None) where
  some_given : (word : List ℕ) (v : V) → Form word v → form word ≡ Some v
  some_given word v is = (decides word v).1 is

  none_given : (word : List ℕ) → ((v : V) → Form word v → ⊥) → form word ≡ None
  none_given word never = none_of Form form word (form word) decides refl never

  none_found : (word : List ℕ) → form word ≡ None → (v : V) → Form word v → ⊥
  none_found word never v is = let yes = some_given word v is in cc

  -- an operand that may be left out

  maybe_none : (text : List ℕ) → form (next_word text).0 ≡ None → maybe form text ≡ (None, text)
  maybe_none text never = ap (λ (o : Option V). maybe_found o text (next_word text).1) never

  not_there_given : (text : List ℕ) → ((word rest : List ℕ) (v : V) → Begins text word rest → Form word v → ⊥) → form (next_word text).0 ≡ None
  not_there_given text never =
      elim (first_word text) [
        | inl are ↦ ap (λ (n : List ℕ × List ℕ). form n.0) (blanks_next text are) ∙ none
        | inr begins ↦ none_given (next_word text).0 (λ v is. never (next_word text).0 (next_word text).1 v begins is)
      ]

  pub maybe_given : (text rest : List ℕ) (o : Option V) → MayBegin Form text o rest → maybe form text ≡ (o, rest)
  maybe_given text rest o (there word _ v begins is) =
      ap (λ (n : List ℕ × List ℕ). maybe_found (form n.0) text n.1) (begins_next text word rest begins)
      ∙ ap (λ (o : Option V). maybe_found o text rest) (some_given word v is)
  maybe_given text rest o (not_there never) = maybe_none text (not_there_given text never)

  maybe_cases : (text : List ℕ) (o : Option V) → form (next_word text).0 ≡ o → MayBegin Form text (maybe_found o text (next_word text).1).0 (maybe_found o text (next_word text).1).1
  maybe_cases text (Some v) is =
      elim (first_word text) [
        | inl are ↦ let never : form (next_word text).0 ≡ None = ap (λ (n : List ℕ × List ℕ). form n.0) (blanks_next text are) ∙ none in absurd (cc)
        | inr begins ↦ there (next_word text).0 (next_word text).1 v begins ((decides (next_word text).0 v).0 is)
      ]
  maybe_cases text None is =
      not_there (λ word rest v begins here. none_found word (ap (λ (n : List ℕ × List ℕ). form n.0) (sym (begins_next text word rest begins)) ∙ is) v here)

  pub maybe_begins : (text : List ℕ) → MayBegin Form text (maybe form text).0 (maybe form text).1
  maybe_begins text = maybe_cases text (form (next_word text).0) refl

  -- an operand that must be there

  needed_reads : (only_number : Bool) (text word rest : List ℕ) (v : V) → Begins text word rest → Form word v → needed only_number form text ≡ Ok (v, rest)
  needed_reads only_number text word rest v begins is =
      ap (λ (n : List ℕ × List ℕ). needed_found only_number (form n.0) n.0 n.1) (begins_next text word rest begins)
      ∙ ap (λ (o : Option V). needed_found only_number o word rest) (some_given word v is)

  needed_missing : (only_number : Bool) (text : List ℕ) → IsBlanks text → needed only_number form text ≡ Err Missing
  needed_missing only_number text are =
      ap (λ (n : List ℕ × List ℕ). needed_found only_number (form n.0) n.0 n.1) (blanks_next text are)
      ∙ ap (λ (o : Option V). needed_found only_number o [] []) none

  needed_word : (only_number : Bool) (word rest : List ℕ) → 0 < length word → needed_found {V = V} only_number None word rest ≡ Err (bad_word only_number word (length (word ++ rest)))
  needed_word only_number [] rest some = absurd (omega arith)
  needed_word only_number (b ∷ more) rest some = refl

  needed_bad : (only_number : Bool) (text word rest : List ℕ) → Begins text word rest → ((v : V) → Form word v → ⊥) → needed only_number form text ≡ Err (bad_word only_number word (length (word ++ rest)))
  needed_bad only_number text word rest begins never =
      ap (λ (n : List ℕ × List ℕ). needed_found only_number (form n.0) n.0 n.1) (begins_next text word rest begins)
      ∙ ap (λ (o : Option V). needed_found only_number o word rest) (none_given word never)
      ∙ needed_word only_number word rest begins.is.some

  needed_faults : (only_number : Bool) (text : List ℕ) (e : ParseFault) → WordFaults Form only_number text e → needed only_number form text ≡ Err e
  needed_faults only_number text e (missing are) = needed_missing only_number text are
  needed_faults only_number text e (bad word rest begins never) = needed_bad only_number text word rest begins never

  needed_cases : (only_number : Bool) (text word rest : List ℕ) (o : Option V) → Begins text word rest → form word ≡ o → Sound (Takes Form text) (WordFaults Form only_number text) (needed only_number form text)
  needed_cases only_number text word rest (Some v) begins is =
      let here = (decides word v).0 is in
      subst (Sound (Takes Form text) (WordFaults Form only_number text)) (sym (needed_reads only_number text word rest v begins here)) (word, begins, here)
  needed_cases only_number text word rest None begins is =
      let never = none_found word is in
      subst (Sound (Takes Form text) (WordFaults Form only_number text)) (sym (needed_bad only_number text word rest begins never)) (bad word rest begins never)

  needed_sound : (only_number : Bool) (text : List ℕ) → Sound (Takes Form text) (WordFaults Form only_number text) (needed only_number form text)
  needed_sound only_number text =
      elim (first_word text) [
        | inl are ↦ subst (Sound (Takes Form text) (WordFaults Form only_number text)) (sym (needed_missing only_number text are)) (missing are)
        | inr begins ↦ needed_cases only_number text (next_word text).0 (next_word text).1 (form (next_word text).0) begins refl
      ]

  pub needed_settles : (only_number : Bool) (text : List ℕ) → Settles (needed only_number form text) (Takes Form text) (WordFaults Form only_number text)
  needed_settles only_number text = record {
    reads = λ x is. needed_reads only_number text is.0 x.1 x.0 is.1 is.2;
    faults = needed_faults only_number text;
    found = needed_sound only_number text;
  }
