-- The address and the count of a BREAK.
use Rattle.std.specs.Prelude.{not}
use Rattle.std.proofs.Common.{◌≡◌, ◌⊎◌, inl, inr, ℕ, ◌-◌, ◌<◌, ◌≤◌, suc, Bool, true, false, cond, ◌==◌, get_or, Option, Some, None, Ok, List, [], ◌∷◌, ◌++◌, length, take, drop, refl, ap, sym, subst, ◌∙◌, arith, length-append, append-nil}
use Rattle.std.specs.List.{list_all, position_or_len}
use Rattle.std.specs.Option.{option_map}
use Rattle.std.proofs.lemmas.Bool.{cases_Bool, and_from, or_cases, eqb-true, eq-eqb, ne_eqb, cond-true, cond-false}
use Rattle.std.proofs.lemmas.Bool.Decides.{nat_tests}
use Rattle.std.proofs.lemmas.List.{take-append-drop, take_at, drop_at}
use Rattle.std.proofs.lemmas.List.Sums.{list_all-from_AllPass}
use Rattle.std.proofs.lemmas.List.Folds.{list_all-append}
use Rattle.nova_word.specs.Numbers.{IsDigit}
use Rattle.line_text.specs.Words.{IsBlank, StartsIn, is_blank, past_blanks}
use Rattle.operand_forms.specs.Forms.{IsOctal, IsDecimal}
use Rattle.operand_forms.specs.Operands.{both, octal, decimal}
use Rattle.scp_parser.specs.Forms.{IsCount, bracketed, IsBreak, once, counted, IsPoint}
use Rattle.scp_parser.specs.Operands.{ends_with, all_but_last, closed, count_of, break_of, ends_point, point_of}
use Rattle.scp_parser.specs.Reading.{needed_part}
use Rattle.operand_forms.proofs.Decides.{Decides}
use Rattle.operand_forms.proofs.ChoiceLemmas.{chosen, mapped, two_answers, put_together}
use Rattle.operand_forms.proofs.NumberLemmas.{octal_found, octal_reads, decimal_found, decimal_reads, number_lacks}
use Rattle.operand_forms.proofs.NothingLemmas.{no_octal}
use Rattle.operand_forms.proofs.SpellingLemmas.{lacks}
use Rattle.operand_forms.proofs.SplitLemmas.{first_place, no_place}
use Rattle.scp_parser.proofs.SizeLemmas.{last_of, ends_in, before_last, last_byte, ends_last}
use Rattle.scp_parser.proofs.WordLemmas.{starts_at_place}
use Rattle.scp_parser.proofs.PartLemmas.{part_there}
use Rattle.line_text.proofs.BlankLemmas.{blank_is}

-- a count

abbrev is_closing : ℕ → Bool
is_closing b = b == 93

closed_found : (text : List ℕ) (n : ℕ) → closed text ≡ Some n → IsCount (91 ∷ text) n
closed_found text n h =
    elim (chosen (ends_with is_closing text) (decimal (all_but_last text)) None (Some n) h) [
      | inl so ↦
          let last = last_of is_closing text so.0 in
          let whole : text ≡ all_but_last text ++ 93 ∷ [] = last.spelled ∙ ap (λ (c : ℕ). all_but_last text ++ c ∷ []) (eqb-true last.byte 93 last.passes) in
          subst (λ (t : List ℕ). IsCount (91 ∷ t) n) (sym whole) (bracketed (all_but_last text) n (decimal_found (all_but_last text) n so.1))
      | inr other ↦ absurd (cc)
    ]

pub count_found : (text : List ℕ) (n : ℕ) → count_of text ≡ Some n → IsCount text n
unfolding count_of
count_found [] n h = absurd (cc h)
count_found (b ∷ more) n h =
    elim (chosen (b == 91) (closed more) None (Some n) h) [
      | inl so ↦ subst (λ (c : ℕ). IsCount (c ∷ more) n) (sym (eqb-true b 91 so.0)) (closed_found more n so.1)
      | inr other ↦ absurd (cc)
    ]

closed_reads : (digits : List ℕ) (n : ℕ) → IsDecimal digits n → closed (digits ++ 93 ∷ []) ≡ Some n
closed_reads digits n is =
    ap (λ (b : Bool). cond b (decimal (all_but_last (digits ++ 93 ∷ []))) None) (ends_in is_closing digits 93)
    ∙ ap decimal (before_last digits 93) ∙ decimal_reads digits n is

pub count_reads : (text : List ℕ) (n : ℕ) → IsCount text n → count_of text ≡ Some n
unfolding count_of
count_reads text _ (bracketed digits n is) = closed_reads digits n is

-- the same by the first byte and the last one

count_byte : (b c : ℕ) (more : List ℕ) → last_byte (b ∷ c ∷ more) ≡ last_byte (c ∷ more)
count_byte b c more =
    let one : length (b ∷ c ∷ more) - 1 ≡ suc (length (c ∷ more) - 1) = omega arith in
    ap (λ (n : ℕ). get_or (b ∷ c ∷ more) n 0) one

closed_at : (text : List ℕ) → 1 ≤ length text → last_byte text ≡ 93 → closed text ≡ decimal (all_but_last text)
closed_at text some is = rw (ends_last is_closing text some ∙ eq-eqb (last_byte text) 93 is) refl

closed_not : (text : List ℕ) → 1 ≤ length text → (last_byte text ≡ 93 → ⊥) → closed text ≡ None
closed_not text some never = rw (ends_last is_closing text some ∙ ne_eqb (last_byte text) 93 never) refl

pub count_at : (text : List ℕ) → 2 ≤ length text → get_or text 0 0 ≡ 91 → last_byte text ≡ 93 → count_of text ≡ decimal (take (length text - 1 - 1) (drop 1 text))
unfolding count_of
count_at [] long first last = absurd (omega (arith, long))
count_at (b ∷ []) long first last = absurd (omega (arith, long))
count_at (b ∷ c ∷ more) long first last =
    let digits : length (c ∷ more) - 1 ≡ length (b ∷ c ∷ more) - 1 - 1 = omega arith in
    cond-true (b == 91) (closed (c ∷ more)) None (eq-eqb b 91 first)
    ∙ closed_at (c ∷ more) (omega arith) (sym (count_byte b c more) ∙ last) ∙ ap (λ (n : ℕ). decimal (take n (c ∷ more))) digits

pub count_not : (text : List ℕ) → 2 ≤ length text → (get_or text 0 0 ≡ 91 → last_byte text ≡ 93 → ⊥) → count_of text ≡ None
unfolding count_of
count_not [] long never = refl
count_not (b ∷ []) long never = absurd (omega (arith, long))
count_not (b ∷ c ∷ more) long never =
    elim (cases_Bool (b == 91)) [
      | inl mark ↦
          cond-true (b == 91) (closed (c ∷ more)) None mark
          ∙ closed_not (c ∷ more) (omega arith) (λ is. never (eqb-true b 91 mark) (count_byte b c more ∙ is))
      | inr other ↦ cond-false (b == 91) (closed (c ∷ more)) None other
    ]

pub ruleset counts = (count_at, count_not)

pub no_count : count_of [] ≡ None
unfolding count_of
no_count = refl

pub count_decides : Decides IsCount count_of
count_decides text n = (count_found text n, count_reads text n)

-- an address and a count

abbrev is_bracket : ℕ → Bool
is_bracket b = b == 91

pub break_found : (text : List ℕ) (x : ℕ × ℕ) → break_of text ≡ Some x → IsBreak text x
unfolding break_of
break_found text x h =
    let n = position_or_len is_bracket text in
    elim (chosen (n == length text) (option_map (λ a. (a, 1)) (octal text)) (both (λ a n. (a, n)) (octal (take n text)) (count_of (drop n text))) (Some x) h) [
      | inl one ↦
          let (a, read, same) = mapped (λ (a : ℕ). (a, 1)) (octal text) x one.1 in
          subst (λ (y : ℕ × ℕ). IsBreak text y) same (once text a (octal_found text a read))
      | inr several ↦
          let two = two_answers (λ (a n : ℕ). (a, n)) (octal (take n text)) (count_of (drop n text)) x several.1 in
          subst (λ (t : List ℕ). IsBreak t x) (take-append-drop n text)
          (subst (λ (y : ℕ × ℕ). IsBreak (take n text ++ drop n text) y) two.made
          (counted (take n text) (drop n text) two.left two.right (octal_found (take n text) two.left two.first) (count_found (drop n text) two.right two.second)))
    ]

octal_no_bracket : (text : List ℕ) (a : ℕ) → IsOctal text a → lacks 91 text ≡ true
octal_no_bracket text a is = number_lacks 8 _ 91 text a is (λ digit. omega (arith, digit.1))

abbrev break_with : ℕ → List ℕ → Option (ℕ × ℕ)
break_with n text = cond (n == length text) (option_map (λ a. (a, 1)) (octal text)) (both (λ a n. (a, n)) (octal (take n text)) (count_of (drop n text)))

once_reads : (text : List ℕ) (a : ℕ) → IsOctal text a → break_of text ≡ Some (a, 1)
unfolding break_of
once_reads text a is =
    let at_end : position_or_len is_bracket text ≡ length text = no_place is_bracket text (octal_no_bracket text a is) in
    ap (λ (n : ℕ). break_with n text) at_end
    ∙ cond-true (length text == length text) _ _ (eq-eqb (length text) (length text) refl)
    ∙ ap (option_map (λ (a : ℕ). (a, 1))) (octal_reads text a is)

counted_reads : (digits count : List ℕ) (a n place : ℕ) → IsOctal digits a → count_of count ≡ Some n → place ≡ length digits → 0 < length count
    → break_with place (digits ++ count) ≡ Some (a, n)
counted_reads digits count a n place first second at some =
    let text = digits ++ count in
    let inside : place == length text ≡ false = ne_eqb place (length text) (λ same. omega (arith, same, at, some, length-append digits count)) in
    cond-false (place == length text) _ _ inside
    ∙ put_together (λ (a n : ℕ). (a, n)) (octal (take place text)) (count_of (drop place text)) a n
    (ap octal (take_at digits count place (sym at)) ∙ octal_reads digits a first) (ap count_of (drop_at digits count place (sym at)) ∙ second)

pub break_reads : (text : List ℕ) (x : ℕ × ℕ) → IsBreak text x → break_of text ≡ Some x
unfolding break_of
break_reads text x (once _ a is) = once_reads text a is
break_reads text x (counted digits _ a n is (bracketed count _ number)) =
    let place = first_place is_bracket digits (count ++ 93 ∷ []) 91 (octal_no_bracket digits a is) refl in
    counted_reads digits (91 ∷ count ++ 93 ∷ []) a n (position_or_len is_bracket (digits ++ (91 ∷ count ++ 93 ∷ []))) is
    (count_reads (91 ∷ count ++ 93 ∷ []) n (bracketed count n number)) place (omega arith)

pub no_break : break_of [] ≡ None
unfolding break_of
no_break = ap (option_map (λ (a : ℕ). (a, 1))) no_octal

-- the same at the front of a text

digit_goes_on : (b : ℕ) → IsDigit 10 b → not (ends_point b) ≡ true
digit_goes_on b digit = grind (arith, nat_tests)

abbrev goes_on : List ℕ → Bool
goes_on text = list_all (λ b. not (ends_point b)) text

octal_goes_on : (text : List ℕ) (n : ℕ) → IsOctal text n → goes_on text ≡ true
octal_goes_on text n h =
    list_all-from_AllPass (λ b. not (ends_point b)) text (λ k d l. let digit = h.is.digits k d l in digit_goes_on _ (digit.0, omega (arith, digit.1)))

decimal_goes_on : (text : List ℕ) (n : ℕ) → IsDecimal text n → goes_on text ≡ true
decimal_goes_on text n h = list_all-from_AllPass (λ b. not (ends_point b)) text (λ k d l. digit_goes_on _ (h.is.digits k d l))

both_go_on : (one other : List ℕ) → goes_on one ≡ true → goes_on other ≡ true → goes_on (one ++ other) ≡ true
both_go_on one other first second =
    list_all-append (λ b. not (ends_point b)) one other ∙ and_from (goes_on one) (goes_on other) first second

break_goes_on : (text : List ℕ) (x : ℕ × ℕ) → IsBreak text x → goes_on text ≡ true
break_goes_on text x (once _ a is) = octal_goes_on text a is
break_goes_on text x (counted digits _ a n is (bracketed count _ number)) =
    both_go_on digits (91 ∷ count ++ 93 ∷ []) (octal_goes_on digits a is) (both_go_on count (93 ∷ []) (decimal_goes_on count n number) refl)

ends_is : (b : ℕ) → ends_point b ≡ true → IsBlank b ⊎ (b ≡ 59)
ends_is b h = elim (or_cases (is_blank b) (b == 59) h) [ inl blank ↦ inl (blank_is b blank) | inr mark ↦ inr (eqb-true b 59 mark) ]

ends_passes : (b : ℕ) → IsBlank b ⊎ (b ≡ 59) → ends_point b ≡ true
ends_passes b h = grind (arith, nat_tests)

starts_in_end : (text : List ℕ) → StartsIn (λ b. ends_point b ≡ true) text → StartsIn (λ b. IsBlank b ⊎ (b ≡ 59)) text
starts_in_end [] starts = tt
starts_in_end (b ∷ more) starts = ends_is b starts

point_place : (word rest : List ℕ) → goes_on word ≡ true → StartsIn (λ b. IsBlank b ⊎ (b ≡ 59)) rest → position_or_len ends_point (word ++ rest) ≡ length word
point_place word [] whole ends = ap (position_or_len ends_point) (append-nil word) ∙ no_place ends_point word whole
point_place word (b ∷ more) whole ends = first_place ends_point word more b whole (ends_passes b ends)

abbrev point_with : ℕ → List ℕ → Option ((ℕ × ℕ) × List ℕ)
point_with n text = option_map (λ point. (point, drop n text)) (break_of (take n text))

point_split : (word rest : List ℕ) (n : ℕ) → n ≡ length word → point_with n (word ++ rest) ≡ option_map (λ point. (point, rest)) (break_of word)
point_split word rest n at =
    ap (λ (t : List ℕ). option_map (λ (point : ℕ × ℕ). (point, drop n (word ++ rest))) (break_of t)) (take_at word rest n (sym at))
    ∙ ap (λ (t : List ℕ). option_map (λ (point : ℕ × ℕ). (point, t)) (break_of word)) (drop_at word rest n (sym at))

pub point_reads : (text : List ℕ) (x : (ℕ × ℕ) × List ℕ) → IsPoint text x → point_of text ≡ Some x
unfolding point_of
point_reads text x h =
    let place = point_place h.word x.1 (break_goes_on h.word x.0 h.is) h.ends in
    ap (λ (t : List ℕ). point_with (position_or_len ends_point t) t) h.spelled
    ∙ point_split h.word x.1 (position_or_len ends_point (h.word ++ x.1)) place
    ∙ ap (option_map (λ (point : ℕ × ℕ). (point, x.1))) (break_reads h.word x.0 h.is)

pub point_found : (text : List ℕ) (x : (ℕ × ℕ) × List ℕ) → point_of text ≡ Some x → IsPoint text x
unfolding point_of
point_found text x h =
    let n = position_or_len ends_point text in
    let (point, read, same) = mapped (λ (point : ℕ × ℕ). (point, drop n text)) (break_of (take n text)) x h in
    subst (λ (y : (ℕ × ℕ) × List ℕ). IsPoint text y) same (record {
      word = take n text;
      spelled = sym (take-append-drop n text);
      is = break_found (take n text) point read;
      ends = starts_in_end (drop n text) (starts_at_place ends_point text);
    })

pub point_decides : Decides IsPoint point_of
point_decides text x = (point_found text x, point_reads text x)

pub no_point : point_of [] ≡ None
unfolding point_of
no_point = ap (option_map (λ (point : ℕ × ℕ). (point, []))) no_break

-- what is read where the address and the count end
pub point_there : (text past : List ℕ) (point : ℕ × ℕ) → past ≡ past_blanks text → break_of (take (position_or_len ends_point past) past) ≡ Some point
    → needed_part true point_of text ≡ Ok (point, drop (position_or_len ends_point past) past)
unfolding point_of
point_there text past point is read =
    let n = position_or_len ends_point past in
    let here : point_of past ≡ Some (point, drop n past) = ap (option_map (λ (p : ℕ × ℕ). (p, drop n past))) read in
    part_there true point_of text (point, drop n past) no_point (ap point_of (sym is) ∙ here)
