-- The faults of fields: what stands at the front of a text, and the faults of one field and of those behind it.
use Rattle.std.specs.Prelude.{not}
use Rattle.std.proofs.Common.{◌≡◌, ℕ, ◌+◌, ◌<◌, suc, Bool, true, false, ◌||◌, cond, eqb, Option, Some, None, Result, Ok, Err, List, [], ◌∷◌, ◌++◌, length, take, drop, All, refl, ap, sym, subst, ◌∙◌, ◌⊎◌, inl, inr, arith, append_assoc}
use Rattle.std.specs.List.{position_or_len}
use Rattle.std.proofs.lemmas.Bool.{and_parts, not-true, eqb-true, eq-eqb, ne_eqb, or_cases, or_right, and_from, not_from_false, false_from_ne_true, false≢true}
use Rattle.std.proofs.lemmas.List.Elements.{All-cons, All-nil, All-head, All-tail}
use Rattle.line_text.specs.Words.{is_blank, past_blanks, IsBlank, IsBlanks, StartsIn}
use Rattle.nova_symbols.specs.declared.fault.SymbolFault.{SymbolFault}
use Rattle.nova_symbols.specs.declared.fault.SymbolFault.TheVariants.{BadField, OutOfRange, Extra}
use Rattle.nova_symbols.specs.Operands.{◌>>=◌, is_separator, operand_at, behind_comma, after_comma, comma_found, comma_at, ended}
use Rattle.nova_symbols.specs.Forms.{IsGap}
use Rattle.nova_symbols.specs.Faults.{IsSeparator, Stands, IsCommaNext, FieldFaults, too_large, bad, LastFaults, at_last, behind_last, IsBare, IsPastBlanks, FirstFaults, at_first, no_comma, behind_comma as behind_comma_form}
use Rattle.nova_symbols.proofs.FoundLemmas.{operand_parts, behind_found, after_comma_found, same_rest}
use Rattle.nova_symbols.proofs.SplitLemmas.{free, StartsWith, operand_split, past_blanks_split}
use Rattle.nova_symbols.proofs.GivenLemmas.{comma_given}
use Rattle.line_text.proofs.BlankLemmas.{blank_is, blanked, is_other, blank_passes}

-- tests and what they say

pub separator_is : (b : ℕ) → is_separator b ≡ true → IsSeparator b
separator_is b h = elim (or_cases (is_blank b) (eqb b 44) h) [ inl blank ↦ inl (blank_is b blank) | inr comma ↦ inr (eqb-true b 44 comma) ]

pub separator_passes : (b : ℕ) → IsSeparator b → is_separator b ≡ true
separator_passes b h = elim h [ inl blank ↦ ap (λ (c : Bool). c || eqb b 44) (blank_passes b blank) | inr comma ↦ or_right (is_blank b) (eqb b 44) (eq-eqb b 44 comma) ]

module _ (p : ℕ → Bool) (P : ℕ → Type 0) (is : (b : ℕ) → p b ≡ true → P b) (passes : (b : ℕ) → P b → p b ≡ true) where
  pub none_passes : (b : ℕ) → (P b → ⊥) → not (p b) ≡ true
  none_passes b h = not_from_false (p b) (false_from_ne_true (p b) (λ e. h (is b e)))

  pub none_is : (b : ℕ) → not (p b) ≡ true → P b → ⊥
  none_is b h here = let no = not-true (p b) h in let yes = passes b here in false≢true (sym no ∙ yes)

  pub free_from : (text : List ℕ) → All (λ b. P b → ⊥) text → free p text ≡ true
  free_from [] h = refl
  free_from (b ∷ more) h =
      and_from (not (p b)) (free p more) (none_passes b (All-head (λ b. P b → ⊥) b more h)) (free_from more (All-tail (λ b. P b → ⊥) b more h))

  pub all_from : (text : List ℕ) → free p text ≡ true → All (λ b. P b → ⊥) text
  all_from [] h = All-nil (λ b. P b → ⊥)
  all_from (b ∷ more) h =
      let parts = and_parts (not (p b)) (free p more) h in
      All-cons (λ b. P b → ⊥) b more (none_is b parts.0) (all_from more parts.1)

  pub starts_with : (text : List ℕ) → StartsIn P text → StartsWith p text
  starts_with [] h = tt
  starts_with (b ∷ more) h = passes b h

  pub starts_in : (text : List ℕ) → StartsWith p text → StartsIn P text
  starts_in [] h = tt
  starts_in (b ∷ more) h = is b h

  pub starts_without : (text : List ℕ) → StartsIn (λ b. P b → ⊥) text → StartsWith (λ b. not (p b)) text
  starts_without [] h = tt
  starts_without (b ∷ more) h = none_passes b h

  pub starts_outside : (text : List ℕ) → StartsWith (λ b. not (p b)) text → StartsIn (λ b. P b → ⊥) text
  starts_outside [] h = tt
  starts_outside (b ∷ more) h = none_is b h

pub front_free : (p : ℕ → Bool) (text : List ℕ) → free p (take (position_or_len p text) text) ≡ true
front_free p [] = refl
front_free p (b ∷ more) =
    let n = position_or_len p more in
    let one : suc n ≡ 1 + n = omega arith in
    elim (p b) as (λ (e : Bool). p b ≡ e → free p (take (cond (not e) (1 + n) 0) (b ∷ more)) ≡ true) [
      | true ↦ λ is. refl
      | false ↦ λ is. subst (λ (k : ℕ). free p (take k (b ∷ more)) ≡ true) one (and_from (not (p b)) (free p (take n more)) (not_from_false (p b) is) (front_free p more))
    ] refl

pub rest_starts : (p : ℕ → Bool) (text : List ℕ) → StartsWith p (drop (position_or_len p text) text)
rest_starts p [] = tt
rest_starts p (b ∷ more) =
    let n = position_or_len p more in
    let one : suc n ≡ 1 + n = omega arith in
    elim (p b) as (λ (e : Bool). p b ≡ e → StartsWith p (drop (cond (not e) (1 + n) 0) (b ∷ more))) [
      | true ↦ λ is. is
      | false ↦ λ is. subst (λ (k : ℕ). StartsWith p (drop k (b ∷ more))) one (rest_starts p more)
    ] refl

pub operand_free : (text : List ℕ) → free is_separator (operand_at text).0 ≡ true
unfolding operand_at
operand_free text = front_free is_separator text

pub operand_ends : (text : List ℕ) → StartsWith is_separator (operand_at text).1
unfolding operand_at
operand_ends text = rest_starts is_separator text

pub past_other : (text : List ℕ) → StartsWith is_other (past_blanks text)
unfolding past_blanks
past_other text = rest_starts is_other text

pub stands : (text : List ℕ) → Stands text (operand_at text).0 (operand_at text).1
stands text = record {
  spelled = operand_parts text;
  whole = all_from is_separator IsSeparator separator_is separator_passes (operand_at text).0 (operand_free text);
  ends = starts_in is_separator IsSeparator separator_is separator_passes (operand_at text).1 (operand_ends text);
}

pub stands_split : (text operand rest : List ℕ) → Stands text operand rest → operand_at text ≡ (operand, rest)
stands_split text operand rest is =
    ap operand_at is.spelled ∙ operand_split operand rest (free_from is_separator IsSeparator separator_is separator_passes operand is.whole) (starts_with is_separator IsSeparator separator_is separator_passes rest is.ends)

-- a comma behind the first operand

gap_comma : (gap next : List ℕ) → IsGap gap → (s : List ℕ) × (after_comma (gap ++ next) ≡ Some s)
unfolding after_comma
gap_comma gap next is =
    let spelled : gap ++ next ≡ is.before ++ (44 ∷ (is.after ++ next)) = ap (λ (t : List ℕ). t ++ next) is.spelled ∙ append_assoc is.before (44 ∷ is.after) next in
    (past_blanks (is.after ++ next), ap (λ (t : List ℕ). behind_comma (past_blanks t)) spelled ∙ ap behind_comma (past_blanks_split is.before (44 ∷ (is.after ++ next)) is.blank_before refl))

unblank : (rest : List ℕ) → IsBare rest → IsPastBlanks rest
unblank [] bare = tt
unblank (b ∷ more) bare = λ blank. bare (inl blank)

pub comma_next : (text s : List ℕ) → after_comma (operand_at text).1 ≡ Some s → IsCommaNext text
comma_next text s h =
    let parted = after_comma_found (operand_at text).1 s h in
    record {
      operand = (operand_at text).0;
      gap = parted.gap;
      next = s;
      stands = subst (λ (t : List ℕ). Stands text (operand_at text).0 t) parted.spelled (stands text);
      comma = parted.comma;
    }

pub no_comma_next : (text : List ℕ) → after_comma (operand_at text).1 ≡ None → IsCommaNext text → ⊥
no_comma_next text h is =
    let split = stands_split text is.operand (is.gap ++ is.next) is.stands in
    let some = gap_comma is.gap is.next is.comma in
    let same : after_comma (is.gap ++ is.next) ≡ None = subst (λ (p : List ℕ × List ℕ). after_comma p.1 ≡ None) split h in
    cc

same_fault : (e fault : SymbolFault) → ◌≡◌ {A = Result ℕ SymbolFault} (Err e) (Err fault) → ◌≡◌ {A = Result (ℕ × List ℕ) SymbolFault} (Err e) (Err fault)
same_fault e fault h = let same : e ≡ fault = cc in ap (λ (f : SymbolFault). Err f) same

-- what a reader of a field answers

pub record Field (Right Above : List ℕ → ℕ → Type 0) (start : ℕ) (text : List ℕ) (r : Result (ℕ × List ℕ) SymbolFault) : Type 0 where
  pub reads : (n : ℕ) → Right (operand_at text).0 n → (v : ℕ) × (r ≡ Ok (v, (operand_at text).1))
  pub above : (left : ℕ) → Above (operand_at text).0 left → r ≡ Err (OutOfRange (left + length (operand_at text).1))
  pub outcome : ((n : ℕ) × Right (operand_at text).0 n) ⊎ (((left : ℕ) × Above (operand_at text).0 left) ⊎ (r ≡ Err (BadField start)))

module _ (Right Above : List ℕ → ℕ → Type 0) (start : ℕ) (text : List ℕ) (r : Result (ℕ × List ℕ) SymbolFault) (field : Field Right Above start text r) where
  reads_at : (p : List ℕ × List ℕ) → operand_at text ≡ p → (n : ℕ) → Right p.0 n → (v : ℕ) × (r ≡ Ok (v, p.1))
  reads_at p split = subst (λ (p : List ℕ × List ℕ). (n : ℕ) → Right p.0 n → (v : ℕ) × (r ≡ Ok (v, p.1))) split field.reads

  above_at : (p : List ℕ × List ℕ) → operand_at text ≡ p → (left : ℕ) → Above p.0 left → r ≡ Err (OutOfRange (left + length p.1))
  above_at p split = subst (λ (p : List ℕ × List ℕ). (left : ℕ) → Above p.0 left → r ≡ Err (OutOfRange (left + length p.1))) split field.above

  outcome_at : (p : List ℕ × List ℕ) → operand_at text ≡ p → ((n : ℕ) × Right p.0 n) ⊎ (((left : ℕ) × Above p.0 left) ⊎ (r ≡ Err (BadField start)))
  outcome_at p split = subst (λ (p : List ℕ × List ℕ). ((n : ℕ) × Right p.0 n) ⊎ (((left : ℕ) × Above p.0 left) ⊎ (r ≡ Err (BadField start)))) split field.outcome

  pub field_given : (fault : SymbolFault) → FieldFaults Right Above start text fault → r ≡ Err fault
  field_given fault (too_large operand rest left is over) = above_at (operand, rest) (stands_split text operand rest is) left over
  field_given fault (bad operand rest is not_right not_above) =
      elim (outcome_at (operand, rest) (stands_split text operand rest is)) [
        | inl right ↦ absurd (not_right right.0 right.1)
        | inr other ↦ elim other [ inl over ↦ absurd (not_above over.0 over.1) | inr says ↦ says ]
      ]

  pub field_found : (fault : SymbolFault) → r ≡ Err fault → FieldFaults Right Above start text fault
  field_found fault h =
      elim field.outcome [
        | inl right ↦ let no = field.reads right.0 right.1 in cc
        | inr other ↦ elim other [
          | inl over ↦
              let says = field.above over.0 over.1 in
              let same : OutOfRange (over.0 + length (operand_at text).1) ≡ fault = cc in
              subst (FieldFaults Right Above start text) same (too_large (operand_at text).0 (operand_at text).1 over.0 (stands text) over.1)
          | inr says ↦
              let same : BadField start ≡ fault = cc in
              subst (FieldFaults Right Above start text) same (bad (operand_at text).0 (operand_at text).1 (stands text) (λ n right. let no = field.reads n right in cc) (λ left over. let no = field.above left over in cc))
        ]
      ]

  pub right_found : (v : ℕ) (rest : List ℕ) → r ≡ Ok (v, rest) → ((n : ℕ) × Right (operand_at text).0 n) × ((operand_at text).1 ≡ rest)
  right_found v rest h =
      elim field.outcome [
        | inl right ↦ let same = field.reads right.0 right.1 in (right, same_rest same.0 v (operand_at text).1 rest (sym same.1 ∙ h))
        | inr other ↦ elim other [ inl over ↦ let no = field.above over.0 over.1 in cc | inr says ↦ cc ]
      ]

  -- the last field
  module _ (k : ℕ → ℕ) where
    ended_behind : (w : ℕ) (rest : List ℕ) → 0 < length rest → ended w rest ≡ Err (Extra (length rest))
    unfolding ended
    ended_behind w [] some = absurd (omega arith)
    ended_behind w (b ∷ more) some = refl

    ended_found : (w : ℕ) (rest : List ℕ) (fault : SymbolFault) → ended w rest ≡ Err fault → (0 < length rest) × (Extra (length rest) ≡ fault)
    unfolding ended
    ended_found w [] fault h = cc
    ended_found w (b ∷ more) fault h = (omega arith, cc)

    pub last_given : (fault : SymbolFault) → LastFaults Right Above start text fault → (r >>= λ x. ended (k x.0) x.1) ≡ Err fault
    last_given fault (at_last _ is) = ap (λ (r : Result (ℕ × List ℕ) SymbolFault). r >>= λ x. ended (k x.0) x.1) (field_given fault is)
    last_given fault (behind_last operand rest n is right some) =
        let reads = reads_at (operand, rest) (stands_split text operand rest is) n right in
        ap (λ (r : Result (ℕ × List ℕ) SymbolFault). r >>= λ x. ended (k x.0) x.1) reads.1 ∙ ended_behind (k reads.0) rest some

    last_cases : (s : Result (ℕ × List ℕ) SymbolFault) (fault : SymbolFault) → r ≡ s → (s >>= λ x. ended (k x.0) x.1) ≡ Err fault → LastFaults Right Above start text fault
    last_cases (Err e) fault was h = at_last fault (field_found fault (was ∙ same_fault e fault h))
    last_cases (Ok x) fault was h =
        let end = ended_found (k x.0) x.1 fault h in
        let right = right_found x.0 x.1 was in
        subst (LastFaults Right Above start text) end.1 (behind_last (operand_at text).0 x.1 right.0.0 (subst (λ (t : List ℕ). Stands text (operand_at text).0 t) right.1 (stands text)) right.0.1 end.0)

    pub last_found : (fault : SymbolFault) → (r >>= λ x. ended (k x.0) x.1) ≡ Err fault → LastFaults Right Above start text fault
    last_found fault h = last_cases r fault refl h

  -- a field before others
  module _ (next : ℕ → List ℕ → Result ℕ SymbolFault) (Next : List ℕ → SymbolFault → Type 0) where
    bare_no_comma : (rest : List ℕ) → IsBare rest → behind_comma rest ≡ None
    bare_no_comma [] bare = refl
    bare_no_comma (b ∷ more) bare = ap (λ (c : Bool). cond c (Some (past_blanks more)) None) (ne_eqb b 44 (λ e. bare (inr e)))

    bare_other : (rest : List ℕ) → IsBare rest → StartsWith is_other rest
    bare_other rest bare = starts_without is_blank IsBlank blank_is blank_passes rest (unblank rest bare)

    comma_lacks : (blanks rest : List ℕ) → IsBlanks blanks → IsBare rest → comma_at (blanks ++ rest) ≡ Err (BadField (length rest))
    unfolding comma_at after_comma
    comma_lacks blanks rest are bare =
        ap (λ (t : List ℕ). comma_found (behind_comma t) (blanks ++ rest)) (past_blanks_split blanks rest are (bare_other rest bare)) ∙ ap (λ (o : Option (List ℕ)). comma_found o (blanks ++ rest)) (bare_no_comma rest bare) ∙ ap (λ (t : List ℕ). Err (BadField (length t))) (past_blanks_split blanks rest are (bare_other rest bare))

    pub first_given : ((v : ℕ) (s : List ℕ) (fault : SymbolFault) → Next s fault → next v s ≡ Err fault) → (fault : SymbolFault) → FirstFaults Right Above Next start text fault → (r >>= λ x. comma_at x.1 >>= λ s. next x.0 s) ≡ Err fault
    first_given given fault (at_first _ is) = ap (λ (r : Result (ℕ × List ℕ) SymbolFault). r >>= λ x. comma_at x.1 >>= λ s. next x.0 s) (field_given fault is)
    first_given given fault (no_comma operand blanks rest n is right are bare) =
        let reads = reads_at (operand, blanks ++ rest) (stands_split text operand (blanks ++ rest) is) n right in
        ap (λ (r : Result (ℕ × List ℕ) SymbolFault). r >>= λ x. comma_at x.1 >>= λ s. next x.0 s) reads.1 ∙ ap (λ (c : Result (List ℕ) SymbolFault). c >>= λ s. next reads.0 s) (comma_lacks blanks rest are bare)
    first_given given fault (behind_comma_form operand gap s n _ is right comma past faulty) =
        let reads = reads_at (operand, gap ++ s) (stands_split text operand (gap ++ s) is) n right in
        ap (λ (r : Result (ℕ × List ℕ) SymbolFault). r >>= λ x. comma_at x.1 >>= λ s. next x.0 s) reads.1 ∙ ap (λ (c : Result (List ℕ) SymbolFault). c >>= λ s. next reads.0 s) (comma_given gap s comma (starts_without is_blank IsBlank blank_is blank_passes s past)) ∙ given reads.0 s fault faulty

    past_comma : (rest s : List ℕ) → after_comma rest ≡ Some s → IsPastBlanks s
    unfolding after_comma
    past_comma rest s h =
        let found = behind_found (past_blanks rest) s h in
        subst IsPastBlanks found.2 (starts_outside is_blank IsBlank blank_is blank_passes (past_blanks found.0) (past_other found.0))

    bare_from : (t : List ℕ) → StartsWith is_other t → behind_comma t ≡ None → IsBare t
    bare_from [] other h = tt
    bare_from (b ∷ more) other h = λ is. elim is [
      | inl blank ↦ none_is is_blank IsBlank blank_is blank_passes b other blank
      | inr comma ↦ let yes : cond true (Some (past_blanks more)) None ≡ None = subst (λ (c : Bool). cond c (Some (past_blanks more)) None ≡ None) (eq-eqb b 44 comma) h in cc
    ]

    bare_past : (rest : List ℕ) → after_comma rest ≡ None → IsBare (past_blanks rest)
    unfolding after_comma
    bare_past rest h = bare_from (past_blanks rest) (past_other rest) h

    comma_cases : ((v : ℕ) (s : List ℕ) (fault : SymbolFault) → next v s ≡ Err fault → Next s fault) → (o : Option (List ℕ)) (v : ℕ) (rest : List ℕ) (fault : SymbolFault) → r ≡ Ok (v, rest) → after_comma rest ≡ o → (comma_found o rest >>= λ s. next v s) ≡ Err fault → FirstFaults Right Above Next start text fault
    comma_cases found None v rest fault was comma h =
        let right = right_found v rest was in
        let before = blanked rest in
        let same : BadField (length (past_blanks rest)) ≡ fault = cc in
        subst (FirstFaults Right Above Next start text) same (no_comma (operand_at text).0 before.blanks (past_blanks rest) right.0.0 (subst (λ (t : List ℕ). Stands text (operand_at text).0 t) (right.1 ∙ before.spelled) (stands text)) right.0.1 before.are (bare_past rest comma))
    comma_cases found (Some s) v rest fault was comma h =
        let right = right_found v rest was in
        let parted = after_comma_found rest s comma in
        behind_comma_form (operand_at text).0 parted.gap s right.0.0 fault (subst (λ (t : List ℕ). Stands text (operand_at text).0 t) (right.1 ∙ parted.spelled) (stands text)) right.0.1 parted.comma (past_comma rest s comma) (found v s fault h)

    first_cases : ((v : ℕ) (s : List ℕ) (fault : SymbolFault) → next v s ≡ Err fault → Next s fault) → (q : Result (ℕ × List ℕ) SymbolFault) (fault : SymbolFault) → r ≡ q → (q >>= λ x. comma_at x.1 >>= λ s. next x.0 s) ≡ Err fault → FirstFaults Right Above Next start text fault
    unfolding comma_at
    first_cases found (Err e) fault was h = at_first fault (field_found fault (was ∙ same_fault e fault h))
    first_cases found (Ok x) fault was h = comma_cases found (after_comma x.1) x.0 x.1 fault was refl h

    pub first_found : ((v : ℕ) (s : List ℕ) (fault : SymbolFault) → next v s ≡ Err fault → Next s fault) → (fault : SymbolFault) → (r >>= λ x. comma_at x.1 >>= λ s. next x.0 s) ≡ Err fault → FirstFaults Right Above Next start text fault
    first_found found fault h = first_cases found r fault refl h
