-- A quoted text up to a blank or the end, and its place in a line.
use Rattle.std.proofs.Common.{◌≡◌, inl, inr, ℕ, ◌-◌, Bool, true, false, cond, Option, Some, None, Ok, List, [], ◌∷◌, ◌++◌, length, take, refl, ap, sym, subst, ◌∙◌, arith, length-append}
use Rattle.std.specs.Option.{option_and_then}
use Rattle.std.proofs.lemmas.List.{append_assoc, take_at}
use Rattle.line_text.specs.Words.{IsBlank, StartsIn, past_blanks}
use Rattle.nova_word.specs.Quoted.{BeginsQuoted, quoted_read}
use Rattle.nova_word.proofs.QuotedReadLemmas.{quoted_is_computed}
use Rattle.scp_parser.specs.Forms.{IsTextAt}
use Rattle.scp_parser.specs.Operands.{starts_in_blank, quoted_before, text_at}
use Rattle.scp_parser.specs.Reading.{needed_part}
use Rattle.operand_forms.proofs.Decides.{Decides}
use Rattle.operand_forms.proofs.ChoiceLemmas.{chosen, same_some}
use Rattle.scp_parser.proofs.PartLemmas.{part_there}
use Rattle.line_text.proofs.BlankLemmas.{blank_is, blank_passes}

blank_or_end : (text : List ℕ) → starts_in_blank text ≡ true → StartsIn IsBlank text
blank_or_end [] h = tt
blank_or_end (b ∷ more) h = blank_is b h

ends_here : (text : List ℕ) → StartsIn IsBlank text → starts_in_blank text ≡ true
ends_here [] h = refl
ends_here (b ∷ more) h = blank_passes b h

-- a quoted text with its quotes, and what follows it
quoted_bytes : (inside rest : List ℕ) → 34 ∷ (inside ++ 34 ∷ rest) ≡ (34 ∷ inside ++ 34 ∷ []) ++ rest
quoted_bytes inside rest = ap (λ (t : List ℕ). 34 ∷ t) (sym (append_assoc inside (34 ∷ []) rest))

-- what stands before the rest of a text
front_left : (text part rest : List ℕ) → text ≡ part ++ rest → take (length text - length rest) text ≡ part
front_left text part rest spelled =
    ap (λ (t : List ℕ). take (length t - length rest) t) spelled
    ∙ take_at part rest (length (part ++ rest) - length rest) (omega (arith, length-append part rest))

text_there : (text bytes rest : List ℕ) → BeginsQuoted text bytes rest → StartsIn IsBlank rest → IsTextAt text (take (length text - length rest) text, rest)
text_there text bytes rest begins ends =
    let part = 34 ∷ begins.inside ++ 34 ∷ [] in
    let spelled : text ≡ part ++ rest = begins.spelled ∙ quoted_bytes begins.inside rest in
    subst (λ (t : List ℕ). IsTextAt text (t, rest)) (sym (front_left text part rest spelled)) (record {
      spelled = spelled;
      is = record { inside = begins.inside; text = bytes; spelled = refl; stands = begins.stands };
      ends = ends;
    })

text_found_by : (text : List ℕ) (o : Option (List ℕ × List ℕ)) (x : List ℕ × List ℕ) → quoted_read text ≡ o
    → option_and_then (λ (quoted : List ℕ × List ℕ). quoted_before text quoted.1) o ≡ Some x → IsTextAt text x
text_found_by text None x is h = absurd (cc h)
text_found_by text (Some quoted) x is h =
    elim (chosen (starts_in_blank quoted.1) (Some (take (length text - length quoted.1) text, quoted.1)) None (Some x) h) [
      | inl so ↦
          subst (λ (y : List ℕ × List ℕ). IsTextAt text y) (same_some (take (length text - length quoted.1) text, quoted.1) x so.1)
          (text_there text quoted.0 quoted.1 (quoted_is_computed.read text quoted.0 quoted.1 is) (blank_or_end quoted.1 so.0))
      | inr other ↦ absurd (cc)
    ]

pub text_found : (text : List ℕ) (x : List ℕ × List ℕ) → text_at text ≡ Some x → IsTextAt text x
unfolding text_at
text_found text x h = text_found_by text (quoted_read text) x refl h

begins_quoted : (text : List ℕ) (x : List ℕ × List ℕ) (is : IsTextAt text x) → BeginsQuoted text is.is.text x.1
begins_quoted text x is = record {
  inside = is.is.inside;
  spelled = is.spelled ∙ ap (λ (t : List ℕ). t ++ x.1) is.is.spelled ∙ sym (quoted_bytes is.is.inside x.1);
  stands = is.is.stands;
}

pub text_reads : (text : List ℕ) (x : List ℕ × List ℕ) → IsTextAt text x → text_at text ≡ Some x
unfolding text_at
text_reads text x is =
    let read = quoted_is_computed.found text is.is.text x.1 (begins_quoted text x is) in
    let front = take (length text - length x.1) text in
    ap (option_and_then (λ (quoted : List ℕ × List ℕ). quoted_before text quoted.1)) read
    ∙ ap (λ (b : Bool). cond b (Some (front, x.1)) None) (ends_here x.1 is.ends)
    ∙ ap (λ (t : List ℕ). Some (t, x.1)) (front_left text x.0 x.1 is.spelled)

pub text_decides : Decides IsTextAt text_at
text_decides text x = (text_found text x, text_reads text x)

pub no_text : text_at [] ≡ None
unfolding text_at quoted_read
no_text = refl

-- what is read behind the blanks
pub text_there_is : (text past : List ℕ) (x : List ℕ × List ℕ) → past ≡ past_blanks text → Some x ≡ text_at past → needed_part false text_at text ≡ Ok x
text_there_is text past x is read = part_there false text_at text x no_text (ap text_at (sym is) ∙ sym read)
