-- An operand that is more, or less, than a word.
use Rattle.std.proofs.Common.{◌≡◌, ◌⊎◌, ℕ, ◌<◌, Bool, Option, Some, None, Result, Ok, Err, List, [], ◌∷◌, ◌++◌, length, refl, ap, sym, subst, ◌∙◌, inl, inr, arith}
use Rattle.line_text.specs.Words.{IsBlanks, past_blanks}
use Rattle.scp_parser.specs.declared.fault.ParseFault.{ParseFault}
use Rattle.scp_parser.specs.declared.fault.ParseFault.TheVariants.{Missing}
use Rattle.scp_parser.specs.Grammar.{BeginsAt, TakesAt}
use Rattle.scp_parser.specs.Faults.{bad_word, PartFaults, part_missing, part_bad}
use Rattle.scp_parser.specs.Reading.{part_found, needed_part}
use Rattle.operand_forms.proofs.Decides.{Decides}
use Rattle.operand_forms.proofs.ChoiceLemmas.{none_from}
use Rattle.scp_parser.proofs.WordLemmas.{past_blanks_split, past_is_bare, past_of_blanks, blanks_from_past}
use Rattle.scp_parser.proofs.Settles.{Sound, Settles}
use Rattle.scp_parser.proofs.AttachLemmas.{IsEnd, behind_part}
use Rattle.line_text.proofs.BlankLemmas.{blanked}

-- where a text begins behind its blanks

pub begins_at_past : (text past : List ℕ) → BeginsAt text past → past_blanks text ≡ past
begins_at_past text past begins = ap past_blanks begins.spelled ∙ past_blanks_split begins.blanks past begins.blank begins.starts

at_cases : (text past : List ℕ) → past_blanks text ≡ past → IsBlanks text ⊎ BeginsAt text (past_blanks text)
at_cases text [] none = inl (blanks_from_past text none)
at_cases text (b ∷ more) is =
    let front = blanked text in
    inr (record {
      blanks = front.blanks;
      spelled = front.spelled;
      blank = front.are;
      some = subst (λ (t : List ℕ). 0 < length t) (sym is) (omega arith);
      starts = past_is_bare text;
    })

-- a text is of blanks alone, or begins behind them
pub blanks_or_past : (text : List ℕ) → IsBlanks text ⊎ BeginsAt text (past_blanks text)
blanks_or_past text = at_cases text (past_blanks text) refl

-- a part and what follows it stand at the end of the line
pub at_end : (line text past part rest : List ℕ) → IsEnd line text → BeginsAt text past → past ≡ part ++ rest → IsEnd line (part ++ rest)
at_end line text past part rest end begins spelled =
    behind_part line text begins.blanks (part ++ rest) end (begins.spelled ∙ ap (λ (t : List ℕ). begins.blanks ++ t) spelled)

pub behind_at : (line text past part rest : List ℕ) → IsEnd line text → BeginsAt text past → past ≡ part ++ rest → IsEnd line rest
behind_at line text past part rest end begins spelled =
    behind_part line (part ++ rest) part rest (at_end line text past part rest end begins spelled) refl

-- a part that must be there

module _ {V : Type 0} (Form : List ℕ → V × List ℕ → Type 0) (form : List ℕ → Option (V × List ℕ)) (decides : Decides Form form) (only_number : Bool) where
  abbrev at_past : List ℕ → Result (V × List ℕ) ParseFault
  at_past past = part_found only_number past (form past)

  some_found : (past : List ℕ) (x : V × List ℕ) → 0 < length past → part_found only_number past (Some x) ≡ Ok x
  some_found [] x some = absurd (omega (arith, some))
  some_found (b ∷ more) x some = refl

  none_found : (past : List ℕ) → 0 < length past → part_found {V = V} only_number past None ≡ Err (bad_word only_number past (length past))
  none_found [] some = absurd (omega (arith, some))
  none_found (b ∷ more) some = refl

  part_reads : (text past : List ℕ) (x : V × List ℕ) → BeginsAt text past → Form past x → needed_part only_number form text ≡ Ok x
  part_reads text past x begins is =
      ap at_past (begins_at_past text past begins) ∙ ap (part_found only_number past) ((decides past x).1 is) ∙ some_found past x begins.some

  part_none : (text : List ℕ) → IsBlanks text → needed_part only_number form text ≡ Err Missing
  part_none text are = ap at_past (past_of_blanks text are)

  none_given : (past : List ℕ) → ((x : V × List ℕ) → Form past x → ⊥) → form past ≡ None
  none_given past never = none_from (form past) (λ x is. never x ((decides past x).0 is))

  part_refuses : (text past : List ℕ) → BeginsAt text past → ((x : V × List ℕ) → Form past x → ⊥)
      → needed_part only_number form text ≡ Err (bad_word only_number past (length past))
  part_refuses text past begins never =
      ap at_past (begins_at_past text past begins) ∙ ap (part_found only_number past) (none_given past never) ∙ none_found past begins.some

  part_faults : (text : List ℕ) (e : ParseFault) → PartFaults Form only_number text e → needed_part only_number form text ≡ Err e
  part_faults text e (part_missing are) = part_none text are
  part_faults text e (part_bad past begins never) = part_refuses text past begins never

  part_cases : (text past : List ℕ) (o : Option (V × List ℕ)) → BeginsAt text past → form past ≡ o
      → Sound (TakesAt Form text) (PartFaults Form only_number text) (needed_part only_number form text)
  part_cases text past (Some x) begins is =
      let here = (decides past x).0 is in
      subst (Sound (TakesAt Form text) (PartFaults Form only_number text)) (sym (part_reads text past x begins here)) (past, begins, here)
  part_cases text past None begins is =
      let never : (x : V × List ℕ) → Form past x → ⊥ = λ x here. (let yes = (decides past x).1 here in cc) in
      subst (Sound (TakesAt Form text) (PartFaults Form only_number text)) (sym (part_refuses text past begins never)) (part_bad past begins never)

  part_sound : (text : List ℕ) → Sound (TakesAt Form text) (PartFaults Form only_number text) (needed_part only_number form text)
  part_sound text =
      elim (blanks_or_past text) [
        | inl are ↦ subst (Sound (TakesAt Form text) (PartFaults Form only_number text)) (sym (part_none text are)) (part_missing are)
        | inr begins ↦ part_cases text (past_blanks text) (form (past_blanks text)) begins refl
      ]

  pub part_settles : (text : List ℕ) → Settles (needed_part only_number form text) (TakesAt Form text) (PartFaults Form only_number text)
  part_settles text = record {
    reads = λ x is. part_reads text is.0 x is.1 is.2;
    faults = part_faults text;
    found = part_sound text;
  }

-- a form that no empty text has, read of what stands behind the blanks
some_part : {V : Type 0} (only_number : Bool) (form : List ℕ → Option (V × List ℕ)) (past : List ℕ) (x : V × List ℕ) → form [] ≡ None → form past ≡ Some x
    → part_found only_number past (form past) ≡ Ok x
some_part only_number form [] x none is = absurd (cc (none, is))
some_part only_number form (b ∷ more) x none is = ap (part_found only_number (b ∷ more)) is

pub part_there : {V : Type 0} (only_number : Bool) (form : List ℕ → Option (V × List ℕ)) (text : List ℕ) (x : V × List ℕ) → form [] ≡ None → form (past_blanks text) ≡ Some x
    → needed_part only_number form text ≡ Ok x
part_there only_number form text x none is = some_part only_number form (past_blanks text) x none is
