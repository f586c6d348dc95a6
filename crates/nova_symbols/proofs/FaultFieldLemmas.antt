-- The faults of fields: what each reader of a field answers.
use Rattle.std.specs.Prelude.{not}
use Rattle.std.proofs.Common.{◌≡◌, ℕ, ◌+◌, ◌-◌, ◌*◌, ◌%◌, ◌<◌, ◌≤◌, zero, suc, Bool, true, false, ◌&&◌, ◌||◌, cond, eqb, ltb, Option, Some, None, Result, Ok, Err, List, [], ◌∷◌, ◌++◌, length, refl, ap, sym, subst, ◌∙◌, ◌⊎◌, inl, inr, arith, length-append}
use Rattle.std.proofs.lemmas.Bool.{and_parts, not-true, eqb-true, eqb-false, ltb-false, cases_Bool, cases_lt, or_parts, false_from_ne_true, false≢true}
use Rattle.std.proofs.lemmas.Bool.Decides.{nat_tests}
use Rattle.nova_word.specs.Numbers.{IsNumber, value_of}
use Rattle.line_text.specs.Words.{past_blanks}
use Rattle.nova_symbols.specs.declared.fault.SymbolFault.{SymbolFault}
use Rattle.nova_symbols.specs.declared.fault.SymbolFault.TheVariants.{BadField, OutOfRange}
use Rattle.nova_symbols.specs.Names.{skip_names}
use Rattle.nova_symbols.specs.Naming.{name_place, device_named}
use Rattle.nova_symbols.specs.Operands.{◌>>=◌, is_separator, operand_at, after_comma, is_octal, number, accumulator_at, index_at, device_number_at, device_found, device_at, skip_found, skip_at, negative, relative, signed, not_indexed, address}
use Rattle.nova_symbols.specs.Forms.{IsPair, IsAccumulator, IsIndex, IsSigned, IsRelative, here as here_form, ahead as ahead_form, behind as behind_form, IsAddress, page_zero, indexed as indexed_form, relative as relative_form, IsSkip, IsDevice, by_code}
use Rattle.nova_symbols.specs.Faults.{IsAbove, IsNeverAbove, IsSignedAbove, plain_above, negative_above, IsAddressAbove, page_zero_above, ahead_above, behind_above}
use Rattle.nova_symbols.proofs.OctalLemmas.{is_octal-number}
use Rattle.nova_symbols.proofs.FoundLemmas.{positive, operand_parts, octal_is, one_digit, device_name_found, entry_found}
use Rattle.nova_symbols.proofs.SplitLemmas.{free, number_reads}
use Rattle.nova_symbols.proofs.FieldLemmas.{skip_reads_at, number_no_device, device_reads_at}
use Rattle.nova_symbols.proofs.AddressLemmas.{head_is, number_head, address_plain, signed_reads, not_indexed_number, absolute_none, relative_reads, relative_ahead, relative_here, relative_behind}
use Rattle.nova_symbols.proofs.StandsLemmas.{Field}

-- numbers

pub number_large : (largest : ℕ) (digits : List ℕ) (field own n : ℕ) → IsNumber 8 digits n → largest < n → number largest digits field own ≡ Err (OutOfRange own)
unfolding number
number_large largest digits field own n is above =
    let octal = is_octal-number digits n is in
    let value = is.value in
    grind (arith, nat_tests)

pub number_not : (largest : ℕ) (digits : List ℕ) (field own : ℕ) → ((n : ℕ) → IsNumber 8 digits n → ⊥) → number largest digits field own ≡ Err (BadField field)
unfolding number
number_not largest digits field own h =
    let none : is_octal digits ≡ false = false_from_ne_true (is_octal digits) (λ e. h (value_of 8 digits) (octal_is digits e)) in
    ap (λ (c : Bool). cond c (cond (ltb largest (value_of 8 digits)) (Err (OutOfRange own)) (Ok (value_of 8 digits))) (Err (BadField field))) none

abbrev NumberCases : ℕ → List ℕ → Type 0
NumberCases largest digits =
    ((n : ℕ) × IsNumber 8 digits n × (n ≤ largest)) ⊎ (((n : ℕ) × IsNumber 8 digits n × (largest < n)) ⊎ ((n : ℕ) → IsNumber 8 digits n → ⊥))

number_cases : (largest : ℕ) (digits : List ℕ) → NumberCases largest digits
number_cases largest digits =
    elim (cases_Bool (is_octal digits)) [
      | inl holds ↦ elim (cases_lt largest (value_of 8 digits)) [
        | inl above ↦ inr (inl (value_of 8 digits, octal_is digits holds, above))
        | inr small ↦ inl (value_of 8 digits, octal_is digits holds, small)
      ]
      | inr fails ↦ inr (inr (λ n is. false≢true (sym fails ∙ is_octal-number digits n is)))
    ]

operand_length : (text : List ℕ) → length text ≡ length (operand_at text).0 + length (operand_at text).1
operand_length text = ap length (operand_parts text) ∙ length-append (operand_at text).0 (operand_at text).1

-- the whole operand is the number
left_of : (largest left : ℕ) (text : List ℕ) → IsAbove largest (operand_at text).0 left → length text ≡ left + length (operand_at text).1
left_of largest left text over = omega (arith, operand_length text, over.counts)

abbrev range_at : ℕ → Result (ℕ × List ℕ) SymbolFault
range_at k = Err (OutOfRange k)

pub accumulator_field : (text : List ℕ) → Field (IsAccumulator 1) (IsAbove 3) (length text) text (accumulator_at text)
unfolding accumulator_at
accumulator_field text =
    let operand = (operand_at text).0 in
    let rest = (operand_at text).1 in
    let long = length text in
    let step : Result ℕ SymbolFault → Result (ℕ × List ℕ) SymbolFault = λ r. r >>= λ n. Ok (n, rest) in
    record {
      reads = λ n right. (right.number, ap step (number_reads 3 operand long long right.number right.is right.within (omega arith)));
      above = λ left over. ap step (number_large 3 operand long long over.number over.is over.above) ∙ ap range_at (left_of 3 left text over);
      outcome = elim (number_cases 3 operand) [
        | inl fits ↦ inl (1 * fits.0, record { number = fits.0; is = fits.1; within = fits.2; counts = refl })
        | inr other ↦ elim other [
          | inl large ↦ inr (inl (length operand, record { number = large.0; is = large.1; above = large.2; counts = refl }))
          | inr not_number ↦ inr (inr (ap step (number_not 3 operand long long not_number)))
        ]
      ];
    }

abbrev index_test : List ℕ → List ℕ → ℕ → ℕ → Result (ℕ × List ℕ) SymbolFault
index_test operand rest long n = cond (eqb n 0 || ltb 1 (length operand)) (Err (BadField long)) (Ok (n, rest))

digit_step : (d : ℕ) (rest : List ℕ) (long : ℕ) → 0 < d → d ≤ 3 → (number 3 ((48 + d) ∷ []) long long >>= index_test ((48 + d) ∷ []) rest long) ≡ Ok (d, rest)
unfolding number is_octal
digit_step zero rest long some within = absurd (omega arith)
digit_step (suc zero) rest long some within = refl
digit_step (suc (suc zero)) rest long some within = refl
digit_step (suc (suc (suc zero))) rest long some within = refl
digit_step (suc (suc (suc (suc d)))) rest long some within = absurd (omega arith)

pub index_field : (text : List ℕ) → Field IsIndex (IsAbove 3) (length text) text (index_at text)
unfolding index_at
index_field text =
    let operand = (operand_at text).0 in
    let rest = (operand_at text).1 in
    let long = length text in
    let step : Result ℕ SymbolFault → Result (ℕ × List ℕ) SymbolFault = λ r. r >>= index_test operand rest long in
    record {
      reads = λ n right. (right.index, ap (λ (t : List ℕ). number 3 t long long >>= index_test t rest long) right.spelled ∙ digit_step right.index rest long right.some right.within);
      above = λ left over. ap step (number_large 3 operand long long over.number over.is over.above) ∙ ap range_at (left_of 3 left text over);
      outcome = elim (number_cases 3 operand) [
        | inl fits ↦ elim (cases_Bool (eqb fits.0 0 || ltb 1 (length operand))) [
          | inl holds ↦ inr (inr (ap step (number_reads 3 operand long long fits.0 fits.1 fits.2 (omega arith)) ∙ ap (λ (c : Bool). cond c (Err (BadField long)) (Ok (fits.0, rest))) holds))
          | inr fails ↦
              let parts = or_parts (eqb fits.0 0) (ltb 1 (length operand)) fails in
              inl (256 * fits.0, record { index = fits.0; some = positive fits.0 (eqb-false fits.0 0 parts.0); within = fits.2; spelled = one_digit operand fits.0 fits.1 (ltb-false 1 (length operand) parts.1); counts = refl })
        ]
        | inr other ↦ elim other [
          | inl large ↦ inr (inl (length operand, record { number = large.0; is = large.1; above = large.2; counts = refl }))
          | inr not_number ↦ inr (inr (ap step (number_not 3 operand long long not_number)))
        ]
      ];
    }

-- devices and skips

no_device_name : (text : List ℕ) → device_named (operand_at text).0 ≡ None → device_at text ≡ device_number_at text
unfolding device_at
no_device_name text none = ap (λ (o : Option ℕ). device_found o text) none

abbrev device_test : List ℕ → List ℕ → ℕ → ℕ → Result (ℕ × List ℕ) SymbolFault
device_test operand rest long n = cond (ltb 2 (length operand)) (Err (BadField long)) (Ok (n, rest))

device_above : (text : List ℕ) (left : ℕ) → IsAbove 63 (operand_at text).0 left → device_at text ≡ Err (OutOfRange (left + length (operand_at text).1))
unfolding device_number_at
device_above text left over =
    let operand = (operand_at text).0 in
    let rest = (operand_at text).1 in
    let long = length text in
    no_device_name text (number_no_device operand over.number over.is) ∙ ap (λ (r : Result ℕ SymbolFault). r >>= device_test operand rest long) (number_large 63 operand long long over.number over.is over.above) ∙ ap range_at (left_of 63 left text over)

abbrev DeviceOutcome : List ℕ → Type 0
DeviceOutcome text =
    ((n : ℕ) × IsDevice (operand_at text).0 n) ⊎ (((left : ℕ) × IsAbove 63 (operand_at text).0 left) ⊎ (device_at text ≡ Err (BadField (length text))))

device_outcome : (text : List ℕ) (o : Option ℕ) → device_named (operand_at text).0 ≡ o → DeviceOutcome text
unfolding device_number_at
device_outcome text (Some code) named = inl (code, device_name_found (operand_at text).0 code named)
device_outcome text None named =
    let operand = (operand_at text).0 in
    let rest = (operand_at text).1 in
    let long = length text in
    let step : Result ℕ SymbolFault → Result (ℕ × List ℕ) SymbolFault = λ r. r >>= device_test operand rest long in
    elim (number_cases 63 operand) [
      | inl fits ↦ elim (cases_Bool (ltb 2 (length operand))) [
        | inl holds ↦ inr (inr (no_device_name text named ∙ ap step (number_reads 63 operand long long fits.0 fits.1 fits.2 (omega arith)) ∙ ap (λ (c : Bool). cond c (Err (BadField long)) (Ok (fits.0, rest))) holds))
        | inr fails ↦ inl (fits.0, by_code operand fits.0 fits.1 fits.2 (ltb-false 2 (length operand) fails))
      ]
      | inr other ↦ elim other [
        | inl large ↦ inr (inl (length operand, record { number = large.0; is = large.1; above = large.2; counts = refl }))
        | inr not_number ↦ inr (inr (no_device_name text named ∙ ap step (number_not 63 operand long long not_number)))
      ]
    ]

pub device_field : (text : List ℕ) → Field IsDevice (IsAbove 63) (length text) text (device_at text)
device_field text = record {
  reads = λ n right. (n, device_reads_at text (operand_at text).0 (operand_at text).1 n refl right);
  above = device_above text;
  outcome = device_outcome text (device_named (operand_at text).0) refl;
}

abbrev SkipOutcome : List ℕ → Type 0
SkipOutcome text =
    ((n : ℕ) × IsSkip (operand_at text).0 n) ⊎ (((left : ℕ) × IsNeverAbove (operand_at text).0 left) ⊎ (skip_at text ≡ Err (BadField (length text))))

skip_outcome : (text : List ℕ) (o : Option ℕ) → name_place skip_names (operand_at text).0 ≡ o → SkipOutcome text
unfolding skip_at
skip_outcome text (Some k) named = inl (k + 1, record { place = k; is = entry_found skip_names (operand_at text).0 k named; counts = refl })
skip_outcome text None named = inr (inr (ap (λ (o : Option ℕ). skip_found o text) named))

pub skip_field : (text : List ℕ) → Field IsSkip IsNeverAbove (length text) text (skip_at text)
skip_field text = record {
  reads = λ n right. (n, skip_reads_at text (operand_at text).0 (operand_at text).1 n refl right);
  above = λ left never. absurd never;
  outcome = skip_outcome text (name_place skip_names (operand_at text).0) refl;
}

-- a displacement with a sign

negative_large : (digits : List ℕ) (field after n : ℕ) → IsNumber 8 digits n → 128 < n → negative digits field after ≡ Err (OutOfRange (length digits + after))
unfolding negative
negative_large digits field after n is above =
    ap (λ (r : Result ℕ SymbolFault). r >>= λ n. Ok ((256 - n) % 256)) (number_large 128 digits field (length digits + after) n is above)

negative_not : (digits : List ℕ) (field after : ℕ) → ((n : ℕ) → IsNumber 8 digits n → ⊥) → negative digits field after ≡ Err (BadField field)
unfolding negative
negative_not digits field after h =
    ap (λ (r : Result ℕ SymbolFault). r >>= λ n. Ok ((256 - n) % 256)) (number_not 128 digits field (length digits + after) h)

abbrev value_at : ℕ → Result ℕ SymbolFault
value_at k = Err (OutOfRange k)

signed_large : (operand : List ℕ) (field after n : ℕ) → IsNumber 8 operand n → 127 < n → signed operand field after ≡ Err (OutOfRange (length operand + after))
unfolding signed
signed_large [] field after n is above = absurd (omega (arith, is.some))
signed_large (b ∷ more) field after n is above =
    let long = length (b ∷ more) + after in
    ap (λ (c : Bool). cond c (negative more field after) (number 127 (b ∷ more) field long)) (number_head 45 (b ∷ more) n is (λ d. omega (arith, d.0))) ∙ number_large 127 (b ∷ more) field long n is above

signed_minus : (digits : List ℕ) (field after : ℕ) → signed (45 ∷ digits) field after ≡ negative digits field after
unfolding signed
signed_minus digits field after = refl

signed_above : (operand : List ℕ) (field after left : ℕ) → IsSignedAbove operand left → signed operand field after ≡ Err (OutOfRange (left + after))
signed_above operand field after left (plain_above _ _ over) =
    signed_large operand field after over.number over.is over.above ∙ ap (λ (k : ℕ). value_at (k + after)) (sym over.counts)
signed_above operand field after left (negative_above digits _ over) =
    signed_minus digits field after ∙ negative_large digits field after over.number over.is over.above ∙ ap (λ (k : ℕ). value_at (k + after)) (sym over.counts)

abbrev SignedOutcome : List ℕ → ℕ → ℕ → Type 0
SignedOutcome operand field after =
    ((n : ℕ) × IsSigned operand n) ⊎ (((left : ℕ) × IsSignedAbove operand left) ⊎ (signed operand field after ≡ Err (BadField field)))

minus_outcome : (digits : List ℕ) (field after : ℕ) → SignedOutcome (45 ∷ digits) field after
minus_outcome digits field after =
    elim (number_cases 128 digits) [
      | inl fits ↦ inl ((256 - fits.0) % 256, inl (record { digits = digits; number = fits.0; spelled = refl; is = fits.1; within = fits.2; counts = refl }))
      | inr other ↦ elim other [
        | inl large ↦ inr (inl (length digits, negative_above digits (length digits) (record { number = large.0; is = large.1; above = large.2; counts = refl })))
        | inr not_number ↦ inr (inr (signed_minus digits field after ∙ negative_not digits field after not_number))
      ]
    ]

signed_plain : (b : ℕ) (more : List ℕ) (field after : ℕ) → eqb b 45 ≡ false → signed (b ∷ more) field after ≡ number 127 (b ∷ more) field (length (b ∷ more) + after)
unfolding signed
signed_plain b more field after plain = ap (λ (c : Bool). cond c (negative more field after) (number 127 (b ∷ more) field (length (b ∷ more) + after))) plain

signed_none : (field after : ℕ) → signed [] field after ≡ Err (BadField field)
unfolding signed
signed_none field after = refl

signed_outcome : (operand : List ℕ) (field after : ℕ) → SignedOutcome operand field after
signed_outcome [] field after = inr (inr (signed_none field after))
signed_outcome (b ∷ more) field after =
    elim (cases_Bool (eqb b 45)) [
      | inl minus ↦ subst (λ (c : ℕ). SignedOutcome (c ∷ more) field after) (sym (eqb-true b 45 minus)) (minus_outcome more field after)
      | inr plain ↦ elim (number_cases 127 (b ∷ more)) [
        | inl fits ↦ inl (fits.0, inr (fits.1, fits.2))
        | inr other ↦ elim other [
          | inl large ↦ inr (inl (length (b ∷ more), plain_above (b ∷ more) (length (b ∷ more)) (record { number = large.0; is = large.1; above = large.2; counts = refl })))
          | inr not_number ↦ inr (inr (signed_plain b more field after plain ∙ number_not 127 (b ∷ more) field (length (b ∷ more) + after) not_number))
        ]
      ]
    ]

-- a displacement before an index, and what follows it
abbrev pub signed_at : ℕ → List ℕ → Result (ℕ × List ℕ) SymbolFault
signed_at start text = signed (operand_at text).0 start (length (operand_at text).1) >>= λ d. Ok (d, (operand_at text).1)

pub signed_field : (start : ℕ) (text : List ℕ) → Field IsSigned IsSignedAbove start text (signed_at start text)
signed_field start text =
    let operand = (operand_at text).0 in
    let rest = (operand_at text).1 in
    let after = length rest in
    let step : Result ℕ SymbolFault → Result (ℕ × List ℕ) SymbolFault = λ r. r >>= λ d. Ok (d, rest) in
    record {
      reads = λ n right. (n, ap step (signed_reads operand start after n right));
      above = λ left over. ap step (signed_above operand start after left over);
      outcome = elim (signed_outcome operand start after) [
        | inl right ↦ inl right
        | inr other ↦ elim other [ inl over ↦ inr (inl over) | inr says ↦ inr (inr (ap step says)) ]
      ];
    }

-- an address without an index

-- a number is read in page zero where no comma follows it
abbrev pub NoIndex : List ℕ → List ℕ → Type 0
NoIndex operand rest = (head_is 46 operand ≡ true) ⊎ (((head_is 46 operand ≡ false) × (head_is 45 operand ≡ false)) × (after_comma rest ≡ None))

holds_none : (p : ℕ → Bool) (front : List ℕ) (b : ℕ) (back : List ℕ) → free p (front ++ b ∷ back) ≡ true → p b ≡ true → ⊥
holds_none p [] b back none passes =
    let parts = and_parts (not (p b)) (free p back) none in
    false≢true (sym (not-true (p b) parts.0) ∙ passes)
holds_none p (a ∷ more) b back none passes =
    let parts = and_parts (not (p a)) (free p (more ++ b ∷ back)) none in
    holds_none p more b back parts.1 passes

free_parts : (p : ℕ → Bool) (a b : List ℕ) → free p (a ++ b) ≡ true → free p b ≡ true
free_parts p [] b none = none
free_parts p (x ∷ more) b none =
    let parts = and_parts (not (p x)) (free p (more ++ b)) none in
    free_parts p more b parts.1

front_part : (p : ℕ → Bool) (a b : List ℕ) → free p (a ++ b) ≡ true → free p a ≡ true
front_part p [] b none = refl
front_part p (x ∷ more) b none =
    let parts = and_parts (not (p x)) (free p (more ++ b)) none in
    ap (λ (c : Bool). c && free p more) parts.0 ∙ front_part p more b parts.1

no_gap : (operand : List ℕ) (n : ℕ) → free is_separator operand ≡ true → IsPair IsSigned IsIndex operand n → ⊥
no_gap operand n none is =
    let all : free is_separator (is.first ++ (is.gap ++ is.second)) ≡ true = ap (free is_separator) (sym is.spelled) ∙ none in
    let gap : free is_separator is.gap ≡ true = front_part is_separator is.gap is.second (free_parts is_separator is.first (is.gap ++ is.second) all) in
    holds_none is_separator is.comma.before 44 is.comma.after (ap (free is_separator) (sym is.comma.spelled) ∙ gap) refl

number_no_point : (operand : List ℕ) (n : ℕ) → IsNumber 8 operand n → head_is 46 operand ≡ true → ⊥
number_no_point operand n is point = false≢true (sym (number_head 46 operand n is (λ d. omega (arith, d.0))) ∙ point)

page_reads : (operand rest : List ℕ) (field n : ℕ) → NoIndex operand rest → IsNumber 8 operand n → n ≤ 255 → address operand rest field ≡ Ok (n, rest)
page_reads operand rest field n alone is small =
    elim alone [
      | inl point ↦ absurd (number_no_point operand n is point)
      | inr plain ↦ address_plain operand rest field plain.0.0 ∙ absolute_none operand rest field plain.1 ∙ not_indexed_number operand rest field n is small
    ]

point_reads : (operand rest : List ℕ) (field n : ℕ) → IsRelative operand n → address operand rest field ≡ Ok (256 + n, rest)
point_reads operand rest field n here_form = relative_reads [] rest 0 field (relative_here field (length rest))
point_reads operand rest field n (ahead_form digits _ is small) = relative_reads (43 ∷ digits) rest n field (relative_ahead digits n field (length rest) is small)
point_reads operand rest field n (behind_form more _ is) = relative_reads more rest n field (relative_behind more n field (length rest) is)

address_alone_reads : (operand rest : List ℕ) (field n : ℕ) → NoIndex operand rest → free is_separator operand ≡ true → IsAddress operand n → address operand rest field ≡ Ok (n, rest)
address_alone_reads operand rest field n alone none (page_zero _ _ is small) = page_reads operand rest field n alone is small
address_alone_reads operand rest field n alone none (relative_form _ m is) = point_reads operand rest field m is
address_alone_reads operand rest field n alone none (indexed_form _ _ is) = absurd (no_gap operand n none is)

not_indexed_plain : (b : ℕ) (more rest : List ℕ) (field : ℕ) → eqb b 45 ≡ false → not_indexed (b ∷ more) rest field ≡ (number 255 (b ∷ more) field (length (b ∷ more) + length rest) >>= λ n. Ok (n, rest))
unfolding not_indexed
not_indexed_plain b more rest field plain =
    ap (λ (c : Bool). cond c (negative more field (length rest) >>= λ n. Err (BadField (length (past_blanks rest)))) (number 255 (b ∷ more) field (length (b ∷ more) + length rest) >>= λ n. Ok (n, rest))) plain

not_indexed_none : (rest : List ℕ) (field : ℕ) → not_indexed [] rest field ≡ Err (BadField field)
unfolding not_indexed
not_indexed_none rest field = refl

not_indexed_large : (operand rest : List ℕ) (field n : ℕ) → IsNumber 8 operand n → 255 < n → not_indexed operand rest field ≡ Err (OutOfRange (length operand + length rest))
not_indexed_large [] rest field n is above = absurd (omega (arith, is.some))
not_indexed_large (b ∷ more) rest field n is above =
    not_indexed_plain b more rest field (number_head 45 (b ∷ more) n is (λ d. omega (arith, d.0))) ∙ ap (λ (r : Result ℕ SymbolFault). r >>= λ n. Ok (n, rest)) (number_large 255 (b ∷ more) field (length (b ∷ more) + length rest) n is above)

page_above : (operand rest : List ℕ) (field n : ℕ) → NoIndex operand rest → IsNumber 8 operand n → 255 < n → address operand rest field ≡ Err (OutOfRange (length operand + length rest))
page_above operand rest field n alone is above =
    elim alone [
      | inl point ↦ absurd (number_no_point operand n is point)
      | inr plain ↦ address_plain operand rest field plain.0.0 ∙ absolute_none operand rest field plain.1 ∙ not_indexed_large operand rest field n is above
    ]

relative_at : (more rest : List ℕ) (field : ℕ) → address (46 ∷ more) rest field ≡ (relative more field (length rest) >>= λ d. Ok (256 + d, rest))
unfolding address
relative_at more rest field = refl

relative_plus : (digits : List ℕ) (field after : ℕ) → relative (43 ∷ digits) field after ≡ number 127 digits field (length digits + after)
unfolding relative
relative_plus digits field after = refl

relative_minus : (digits : List ℕ) (field after : ℕ) → relative (45 ∷ digits) field after ≡ negative digits field after
unfolding relative
relative_minus digits field after = refl

relative_bad : (b : ℕ) (digits : List ℕ) (field after : ℕ) → eqb b 43 ≡ false → eqb b 45 ≡ false → relative (b ∷ digits) field after ≡ Err (BadField field)
unfolding relative
relative_bad b digits field after plus minus =
    ap (λ (c : Bool). cond c (number 127 digits field (length digits + after)) (cond (eqb b 45) (negative digits field after) (Err (BadField field)))) plus ∙ ap (λ (c : Bool). cond c (negative digits field after) (Err (BadField field))) minus

address_above : (operand rest : List ℕ) (field left : ℕ) → NoIndex operand rest → IsAddressAbove operand left → address operand rest field ≡ Err (OutOfRange (left + length rest))
address_above operand rest field left alone (page_zero_above _ _ over) =
    page_above operand rest field over.number alone over.is over.above ∙ ap (λ (k : ℕ). range_at (k + length rest)) (sym over.counts)
address_above operand rest field left alone (ahead_above digits _ over) =
    relative_at (43 ∷ digits) rest field ∙ ap (λ (r : Result ℕ SymbolFault). r >>= λ d. Ok (256 + d, rest)) (relative_plus digits field (length rest) ∙ number_large 127 digits field (length digits + length rest) over.number over.is over.above) ∙ ap (λ (k : ℕ). range_at (k + length rest)) (sym over.counts)
address_above operand rest field left alone (behind_above digits _ over) =
    relative_at (45 ∷ digits) rest field ∙ ap (λ (r : Result ℕ SymbolFault). r >>= λ d. Ok (256 + d, rest)) (relative_minus digits field (length rest) ∙ negative_large digits field (length rest) over.number over.is over.above) ∙ ap (λ (k : ℕ). range_at (k + length rest)) (sym over.counts)

abbrev AddressOutcome : List ℕ → List ℕ → ℕ → Type 0
AddressOutcome operand rest field =
    ((n : ℕ) × IsAddress operand n) ⊎ (((left : ℕ) × IsAddressAbove operand left) ⊎ (address operand rest field ≡ Err (BadField field)))

-- what a reader of a part answers, behind the point
behind_point : (more rest : List ℕ) (field : ℕ) → relative more field (length rest) ≡ Err (BadField field) → address (46 ∷ more) rest field ≡ Err (BadField field)
behind_point more rest field h = relative_at more rest field ∙ ap (λ (r : Result ℕ SymbolFault). r >>= λ d. Ok (256 + d, rest)) h

plus_outcome : (digits rest : List ℕ) (field : ℕ) → AddressOutcome (46 ∷ 43 ∷ digits) rest field
plus_outcome digits rest field =
    elim (number_cases 127 digits) [
      | inl fits ↦ inl (256 + fits.0, relative_form (46 ∷ 43 ∷ digits) fits.0 (ahead_form digits fits.0 fits.1 fits.2))
      | inr other ↦ elim other [
        | inl large ↦ inr (inl (length digits, ahead_above digits (length digits) (record { number = large.0; is = large.1; above = large.2; counts = refl })))
        | inr not_number ↦ inr (inr (behind_point (43 ∷ digits) rest field (relative_plus digits field (length rest) ∙ number_not 127 digits field (length digits + length rest) not_number)))
      ]
    ]

back_outcome : (digits rest : List ℕ) (field : ℕ) → AddressOutcome (46 ∷ 45 ∷ digits) rest field
back_outcome digits rest field =
    elim (number_cases 128 digits) [
      | inl fits ↦
          let n = (256 - fits.0) % 256 in
          inl (256 + n, relative_form (46 ∷ 45 ∷ digits) n (behind_form (45 ∷ digits) n (record { digits = digits; number = fits.0; spelled = refl; is = fits.1; within = fits.2; counts = refl })))
      | inr other ↦ elim other [
        | inl large ↦ inr (inl (length digits, behind_above digits (length digits) (record { number = large.0; is = large.1; above = large.2; counts = refl })))
        | inr not_number ↦ inr (inr (behind_point (45 ∷ digits) rest field (relative_minus digits field (length rest) ∙ negative_not digits field (length rest) not_number)))
      ]
    ]

point_outcome : (more rest : List ℕ) (field : ℕ) → AddressOutcome (46 ∷ more) rest field
point_outcome [] rest field = inl (256 + 0, relative_form (46 ∷ []) 0 here_form)
point_outcome (b ∷ digits) rest field =
    elim (cases_Bool (eqb b 43)) [
      | inl plus ↦ subst (λ (c : ℕ). AddressOutcome (46 ∷ c ∷ digits) rest field) (sym (eqb-true b 43 plus)) (plus_outcome digits rest field)
      | inr no_plus ↦ elim (cases_Bool (eqb b 45)) [
        | inl minus ↦ subst (λ (c : ℕ). AddressOutcome (46 ∷ c ∷ digits) rest field) (sym (eqb-true b 45 minus)) (back_outcome digits rest field)
        | inr no_minus ↦ inr (inr (behind_point (b ∷ digits) rest field (relative_bad b digits field (length rest) no_plus no_minus)))
      ]
    ]

page_outcome : (operand rest : List ℕ) (field : ℕ) → (head_is 46 operand ≡ false) × (head_is 45 operand ≡ false) → after_comma rest ≡ None → AddressOutcome operand rest field
page_outcome [] rest field heads none = inr (inr (address_plain [] rest field heads.0 ∙ absolute_none [] rest field none ∙ not_indexed_none rest field))
page_outcome (b ∷ more) rest field heads none =
    elim (number_cases 255 (b ∷ more)) [
      | inl fits ↦ inl (fits.0, page_zero (b ∷ more) fits.0 fits.1 fits.2)
      | inr other ↦ elim other [
        | inl large ↦ inr (inl (length (b ∷ more), page_zero_above (b ∷ more) (length (b ∷ more)) (record { number = large.0; is = large.1; above = large.2; counts = refl })))
        | inr not_number ↦ inr (inr (address_plain (b ∷ more) rest field heads.0 ∙ absolute_none (b ∷ more) rest field none ∙ not_indexed_plain b more rest field heads.1 ∙ ap (λ (r : Result ℕ SymbolFault). r >>= λ n. Ok (n, rest)) (number_not 255 (b ∷ more) field (length (b ∷ more) + length rest) not_number)))
      ]
    ]

head_outcome : (operand rest : List ℕ) (field : ℕ) → head_is 46 operand ≡ true → AddressOutcome operand rest field
head_outcome [] rest field point = cc
head_outcome (b ∷ more) rest field point = subst (λ (c : ℕ). AddressOutcome (c ∷ more) rest field) (sym (eqb-true b 46 point)) (point_outcome more rest field)

address_outcome : (operand rest : List ℕ) (field : ℕ) → NoIndex operand rest → AddressOutcome operand rest field
address_outcome operand rest field alone =
    elim alone [ inl point ↦ head_outcome operand rest field point | inr plain ↦ page_outcome operand rest field plain.0 plain.1 ]

pub address_field : (start : ℕ) (text : List ℕ) → NoIndex (operand_at text).0 (operand_at text).1 → free is_separator (operand_at text).0 ≡ true → Field IsAddress IsAddressAbove start text (address (operand_at text).0 (operand_at text).1 start)
address_field start text alone none = record {
  reads = λ n right. (n, address_alone_reads (operand_at text).0 (operand_at text).1 start n alone none right);
  above = λ left over. address_above (operand_at text).0 (operand_at text).1 start left alone over;
  outcome = address_outcome (operand_at text).0 (operand_at text).1 start alone;
}
