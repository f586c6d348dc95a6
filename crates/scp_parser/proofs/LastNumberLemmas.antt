-- A number that may be left out at the end of a line.
use Rattle.std.proofs.Common.{◌≡◌, ℕ, true, eqb, Option, Some, None, Result, Ok, Err, List, [], length, refl, ap, sym, subst, ◌∙◌, inl, inr, arith, length-append}
use Rattle.std.proofs.lemmas.Bool.{eq-eqb, ne_eqb, cond-true, cond-false}
use Rattle.line_text.specs.Words.{IsBlanks, Begins, past_blanks}
use Rattle.scp_parser.specs.declared.fault.ParseFault.{ParseFault}
use Rattle.scp_parser.specs.Command.{Request}
use Rattle.scp_parser.specs.Grammar.{Takes, Ends, HasNumber, IsLastNumber, left_out, given as given_form}
use Rattle.scp_parser.specs.Faults.{WordFaults, missing, bad, EndFaults, LastNumberFaults, bad_number, behind_number}
use Rattle.scp_parser.specs.Reading.{◌>>=◌, next_word, needed, ended, some_number, last_number, numbered, map_ok}
use Rattle.operand_forms.proofs.Decides.{Decides}
use Rattle.scp_parser.proofs.WordLemmas.{first_word, begins_past, begins_not_blank, past_of_blanks}
use Rattle.scp_parser.proofs.Settles.{Sound, Settles, sound_weaker, same_settles}
use Rattle.scp_parser.proofs.OperandLemmas.{ended_settles, map_ended, needed_settles}

module _ (Form : List ℕ → ℕ → Type 0) (form : List ℕ → Option ℕ) (decides : Decides Form form) (none : form [] ≡ None) (make : Option ℕ → Request) where
  -- the number that is there, and then the end
  behind : Result (ℕ × List ℕ) ParseFault → Result Request ParseFault
  behind r = numbered make (r >>= some_number)

  left_out_given : (text : List ℕ) → IsBlanks text → numbered make (last_number form text) ≡ ended (make None) text
  unfolding last_number
  left_out_given text are =
      let is : length (past_blanks text) ≡ 0 = ap length (past_of_blanks text are) in
      ap (numbered make) (cond-true (eqb (length (past_blanks text)) 0) (Ok (None, text)) (needed true form text >>= some_number) (eq-eqb (length (past_blanks text)) 0 is))

  one_given : (text word rest : List ℕ) → Begins text word rest → numbered make (last_number form text) ≡ behind (needed true form text)
  unfolding last_number behind
  one_given text word rest begins =
      let past = begins_past text word rest begins in
      let some : length (past_blanks text) ≡ 0 → ⊥ = λ is. omega (arith, begins.is.some, length-append word rest, ap length past, is) in
      ap (numbered make) (cond-false (eqb (length (past_blanks text)) 0) (Ok (None, text)) (needed true form text >>= some_number) (ne_eqb (length (past_blanks text)) 0 some))

  there_given : (text word rest : List ℕ) (n : ℕ) → Begins text word rest → Form word n → numbered make (last_number form text) ≡ ended (make (Some n)) rest
  unfolding behind
  there_given text word rest n begins is =
      one_given text word rest begins ∙ ap behind ((needed_settles Form form decides none true text).reads (n, rest) (word, begins, is))

  number_reads : (text : List ℕ) (asked : Request) (number : Option ℕ) → IsLastNumber Form text number → asked ≡ make number → numbered make (last_number form text) ≡ Ok asked
  number_reads text asked number (left_out are) is = left_out_given text are ∙ (ended_settles (make None) text).reads asked (are, is)
  number_reads text asked number (given_form word rest n begins here are) is = there_given text word rest n begins here ∙ (ended_settles (make (Some n)) rest).reads asked (are, is)

  number_faults : (text : List ℕ) (e : ParseFault) → LastNumberFaults Form text e → numbered make (last_number form text) ≡ Err e
  unfolding behind
  number_faults text e (bad_number word rest begins never) =
      one_given text word rest begins ∙ ap behind ((needed_settles Form form decides none true text).faults e (bad word rest begins never))
  number_faults text e (behind_number word rest n _ begins here ends) = there_given text word rest n begins here ∙ (ended_settles (make (Some n)) rest).faults e ends

  word_fault : (text word rest : List ℕ) (e : ParseFault) → Begins text word rest → WordFaults Form true text e → LastNumberFaults Form text e
  word_fault text word rest e begins (missing are) = absurd (begins_not_blank text word rest begins are)
  word_fault text word rest e begins (bad word' rest' begins' never) = bad_number word' rest' begins' never

  behind_found : (text word rest : List ℕ) → Begins text word rest → (r : Result (ℕ × List ℕ) ParseFault) → Sound (Takes Form text) (WordFaults Form true text) r
      → Sound (HasNumber Form text make) (LastNumberFaults Form text) (behind r)
  unfolding behind
  behind_found text word rest begins (Ok x) is =
      sound_weaker (Ends (make (Some x.0)) x.1) (HasNumber Form text make) (EndFaults x.1) (LastNumberFaults Form text) (ended (make (Some x.0)) x.1)
      (λ asked ends. (Some x.0, given_form is.0 x.1 x.0 is.1 is.2 ends.0, ends.1))
      (λ e ends. behind_number is.0 x.1 x.0 e is.1 is.2 ends)
      (ended_settles (make (Some x.0)) x.1).found
  behind_found text word rest begins (Err e) is = word_fault text word rest e begins is

  left_out_found : (text : List ℕ) → IsBlanks text → Sound (HasNumber Form text make) (LastNumberFaults Form text) (ended (make None) text)
  left_out_found text are =
      subst (Sound (HasNumber Form text make) (LastNumberFaults Form text)) (sym ((ended_settles (make None) text).reads (make None) (are, refl))) (None, left_out are, refl)

  number_found : (text : List ℕ) → Sound (HasNumber Form text make) (LastNumberFaults Form text) (numbered make (last_number form text))
  number_found text =
      elim (first_word text) [
        | inl are ↦ subst (Sound (HasNumber Form text make) (LastNumberFaults Form text)) (sym (left_out_given text are)) (left_out_found text are)
        | inr begins ↦
            let word = (next_word text).0 in
            let rest = (next_word text).1 in
            subst (Sound (HasNumber Form text make) (LastNumberFaults Form text)) (sym (one_given text word rest begins))
            (behind_found text word rest begins (needed true form text) (needed_settles Form form decides none true text).found)
      ]

  pub number_settles : (text : List ℕ) → Settles (numbered make (last_number form text)) (HasNumber Form text make) (LastNumberFaults Form text)
  number_settles text = record {
    reads = λ asked is. number_reads text asked is.0 is.1 is.2;
    faults = number_faults text;
    found = number_found text;
  }

-- the same, where what the line asks for is seen otherwise

map_numbered : {A B : Type 0} (see : A → B) (make : Option ℕ → A) (number : Result (Option ℕ × List ℕ) ParseFault) → map_ok see (numbered make number) ≡ numbered (λ n. see (make n)) number
map_numbered see make (Ok n) = map_ended see (make n.0) n.1
map_numbered see make (Err e) = refl

pub number_seen : {A : Type 0} (see : A → Request) (Form : List ℕ → ℕ → Type 0) (form : List ℕ → Option ℕ) → Decides Form form → form [] ≡ None → (make : Option ℕ → A) (text : List ℕ)
    → Settles (map_ok see (numbered make (last_number form text))) (HasNumber Form text (λ n. see (make n))) (LastNumberFaults Form text)
number_seen see Form form decides none make text =
    same_settles (HasNumber Form text (λ n. see (make n))) (LastNumberFaults Form text) (map_ok see (numbered make (last_number form text))) (numbered (λ n. see (make n)) (last_number form text))
    (map_numbered see make (last_number form text)) (number_settles Form form decides none (λ n. see (make n)) text)
