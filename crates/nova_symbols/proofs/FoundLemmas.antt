-- What is read is a text of its word: each reader's answer is of its form.
use Rattle.std.specs.Prelude.{not, slice_index}
use Rattle.std.proofs.Common.{◌≡◌, ℕ, ◌+◌, ◌-◌, ◌*◌, ◌%◌, ◌<◌, ◌≤◌, Bool, true, false, ◌||◌, cond, eqb, ltb, leb, Option, Some, None, Result, Ok, Err, List, [], ◌∷◌, ◌++◌, length, take, get_or, All, refl, ap, sym, subst, ◌∙◌, ◌⊎◌, inl, inr, arith, append_assoc}
use Rattle.std.specs.List.{position_or_len, list_all}
use Rattle.std.specs.Str.{bytes_eq, str_to_ascii_uppercase}
use Rattle.std.proofs.lemmas.Bool.{and_parts, or_cases, or_parts, not-true, not-false, eqb-true, eqb-false, ltb-true, ltb-false, leb-true}
use Rattle.std.proofs.lemmas.List.{take-append-drop, append-nil, get_or-take, length-take-le}
use Rattle.std.proofs.lemmas.List.Elements.{All-cons, All-nil, All-head}
use Rattle.std.proofs.lemmas.List.Quantifiers.{position-Some}
use Rattle.std.proofs.lemmas.List.Sums.{prefix_len-le-length, prefix_len_passes}
use Rattle.std.proofs.lemmas.Slice.Eq.{bytes_eq-Decides}
use Rattle.nova_word.specs.Numbers.{IsNumber, IsDigit, value_of}
use Rattle.line_text.specs.Words.{is_blank, past_blanks, IsBlank, IsBlanks}
use Rattle.nova_symbols.specs.declared.fault.SymbolFault.{SymbolFault}
use Rattle.nova_symbols.specs.declared.fault.SymbolFault.TheVariants.{BadField, OutOfRange}
use Rattle.nova_symbols.specs.Names.{entry, skip_names, device_names, device_codes}
use Rattle.nova_symbols.specs.Naming.{name_place, code_found, device_named}
use Rattle.nova_symbols.specs.Operands.{◌>>=◌, is_separator, is_octal_digit, operand_at, behind_comma, after_comma, comma_found, comma_at, is_octal, number, accumulator_at, index_at, device_number_at, device_found, device_at, skip_found, skip_at, negative, relative, signed, indexed, not_indexed, index_found, absolute, address, indirect, target_at}
use Rattle.nova_symbols.specs.Forms.{IsEntry, IsGap, IsPair, IsAccumulator, IsIndex, IsNegative, IsSigned, IsRelative, here as here_form, ahead as ahead_form, behind as behind_form, IsAddress, page_zero, indexed as indexed_form, relative as relative_form, IsTarget, direct, indirect as indirect_form, IsSkip, IsDevice, by_name, by_code}
use Rattle.line_text.proofs.BlankLemmas.{Blanked, blank_is, blanked}

-- a step of a reader that answered
pub record Answered {A B : Type 0} (r : Result A SymbolFault) (f : A → Result B SymbolFault) (y : B) : Type 0 where
  pub value : A
  pub was : r ≡ Ok value
  pub then_ok : f value ≡ Ok y

pub bind_ok : {A B : Type 0} (r : Result A SymbolFault) (f : A → Result B SymbolFault) (y : B) → (r >>= f) ≡ Ok y → Answered r f y
bind_ok (Ok x) f y h = record { value = x; was = refl; then_ok = h }
bind_ok (Err e) f y h = cc

-- which way a test went
pub chosen : {A : Type 0} (b : Bool) (x y z : A) → cond b x y ≡ z → ((b ≡ true) × (x ≡ z)) ⊎ ((b ≡ false) × (y ≡ z))
chosen true x y z h = inl (refl, h)
chosen false x y z h = inr (refl, h)

pub positive : (n : ℕ) → (n ≡ 0 → ⊥) → 0 < n
positive n h = omega arith

-- octal digits

digit_is : (b : ℕ) → is_octal_digit b ≡ true → IsDigit 8 b
digit_is b h =
    let parts = and_parts (leb 48 b) (ltb b 56) h in
    (leb-true 48 b parts.0, ltb-true b 56 parts.1)

digits_are : (text : List ℕ) → list_all is_octal_digit text ≡ true → All (IsDigit 8) text
digits_are [] h = All-nil (IsDigit 8)
digits_are (b ∷ more) h =
    let parts = and_parts (is_octal_digit b) (list_all is_octal_digit more) h in
    All-cons (IsDigit 8) b more (digit_is b parts.0) (digits_are more parts.1)

pub octal_is : (text : List ℕ) → is_octal text ≡ true → IsNumber 8 text (value_of 8 text)
unfolding is_octal
octal_is text h =
    let parts = and_parts (ltb 0 (length text)) (list_all is_octal_digit text) h in
    record { some = ltb-true 0 (length text) parts.0; digits = digits_are text parts.1; value = refl }

pub number_found : (largest : ℕ) (digits : List ℕ) (field own n : ℕ) → number largest digits field own ≡ Ok n → IsNumber 8 digits n × (n ≤ largest)
unfolding number
number_found largest digits field own n h =
    let value = value_of 8 digits in
    elim (chosen (is_octal digits) (cond (ltb largest value) (Err (OutOfRange own)) (Ok value)) (Err (BadField field)) (Ok n) h) [
      | inl octal ↦ elim (chosen (ltb largest value) (Err (OutOfRange own)) (Ok value) (Ok n) octal.1) [
        | inl above ↦ cc
        | inr fits ↦ let same : value ≡ n = cc (fits.1) in (subst (λ (v : ℕ). IsNumber 8 digits v) same (octal_is digits octal.0), omega (arith, ltb-false largest value fits.0, same))
      ]
      | inr other ↦ cc
    ]

-- places in the text

pub operand_parts : (text : List ℕ) → text ≡ (operand_at text).0 ++ (operand_at text).1
unfolding operand_at
operand_parts text = sym (take-append-drop (position_or_len is_separator text) text)

-- a comma with blanks round it, and the text behind it
pub record Parted (text next : List ℕ) : Type 0 where
  pub gap : List ℕ
  pub comma : IsGap gap
  pub spelled : text ≡ gap ++ next

pub behind_found : (text next : List ℕ) → behind_comma text ≡ Some next → (more : List ℕ) × (text ≡ 44 ∷ more) × (past_blanks more ≡ next)
behind_found [] next h = cc
behind_found (b ∷ more) next h =
    elim (chosen (eqb b 44) (Some (past_blanks more)) None (Some next) h) [
      | inl comma ↦ (more, ap (λ (x : ℕ). x ∷ more) (eqb-true b 44 comma.0), cc (comma.1))
      | inr other ↦ cc
    ]

pub after_comma_found : (text next : List ℕ) → after_comma text ≡ Some next → Parted text next
unfolding after_comma
after_comma_found text next h =
    let before = blanked text in
    let found = behind_found (past_blanks text) next h in
    let after = blanked found.0 in
    let behind : found.0 ≡ after.blanks ++ next = after.spelled ∙ ap (λ (t : List ℕ). after.blanks ++ t) found.2 in
    record {
      gap = before.blanks ++ 44 ∷ after.blanks;
      comma = record { before = before.blanks; after = after.blanks; blank_before = before.are; blank_after = after.are; spelled = refl };
      spelled = before.spelled ∙ ap (λ (t : List ℕ). before.blanks ++ t) (found.1 ∙ ap (λ (t : List ℕ). 44 ∷ t) behind) ∙ sym (append_assoc before.blanks (44 ∷ after.blanks) next);
    }

comma_is : (o : Option (List ℕ)) (text next : List ℕ) → comma_found o text ≡ Ok next → o ≡ Some next
comma_is (Some x) text next h = cc
comma_is None text next h = cc

pub comma_found_at : (text next : List ℕ) → comma_at text ≡ Ok next → Parted text next
unfolding comma_at
comma_found_at text next h = after_comma_found text next (comma_is (after_comma text) text next h)

-- a text begins with a part of that form
pub record Begins (Form : List ℕ → ℕ → Type 0) (text rest : List ℕ) (n : ℕ) : Type 0 where
  pub part : List ℕ
  pub is : Form part n
  pub spelled : text ≡ part ++ rest

-- a part that nothing follows is the whole text
pub whole_part : (Form : List ℕ → ℕ → Type 0) (text rest : List ℕ) (n : ℕ) → Begins Form text rest n → rest ≡ [] → Form text n
whole_part Form text rest n begins none =
    subst (λ (t : List ℕ). Form t n) (sym (begins.spelled ∙ ap (λ (r : List ℕ). begins.part ++ r) none ∙ append-nil begins.part)) begins.is

-- two parts with a comma between
pub pair_found : (First Second : List ℕ → ℕ → Type 0) (text middle next rest : List ℕ) (a b : ℕ) → Begins First text middle a → Parted middle next → Begins Second next rest b → Begins (IsPair First Second) text rest (a + b)
pair_found First Second text middle next rest a b first gap second = record {
  part = first.part ++ (gap.gap ++ second.part);
  is = record { first = first.part; gap = gap.gap; second = second.part; spelled = refl; comma = gap.comma; a = a; b = b; is_first = first.is; is_second = second.is; sum = refl };
  spelled = first.spelled ∙ ap (λ (t : List ℕ). first.part ++ t) (gap.spelled ∙ ap (λ (t : List ℕ). gap.gap ++ t) second.spelled ∙ sym (append_assoc gap.gap second.part rest)) ∙ sym (append_assoc first.part (gap.gap ++ second.part) rest);
}

-- the fields

abbrev answer : ℕ → List ℕ → Result (ℕ × List ℕ) SymbolFault
answer n rest = Ok (n, rest)

value_in : Result (ℕ × List ℕ) SymbolFault → ℕ
value_in (Ok x) = x.0
value_in (Err e) = 0

rest_in : Result (ℕ × List ℕ) SymbolFault → List ℕ
rest_in (Ok x) = x.1
rest_in (Err e) = []

pub same_value : (a b : ℕ) (s t : List ℕ) → answer a s ≡ answer b t → a ≡ b
unfolding value_in
same_value a b s t h = ap value_in h

pub same_rest : (a b : ℕ) (s t : List ℕ) → answer a s ≡ answer b t → s ≡ t
unfolding rest_in
same_rest a b s t h = ap rest_in h

number_in : Result ℕ SymbolFault → ℕ
number_in (Ok x) = x
number_in (Err e) = 0

abbrev number_answer : ℕ → Result ℕ SymbolFault
number_answer n = Ok n

same_number : (a b : ℕ) → number_answer a ≡ number_answer b → a ≡ b
unfolding number_in
same_number a b h = ap number_in h

pub accumulator_found : (scale : ℕ) (text rest : List ℕ) (n : ℕ) → accumulator_at text ≡ Ok (n, rest) → Begins (IsAccumulator scale) text rest (scale * n)
unfolding accumulator_at
accumulator_found scale text rest n h =
    let step = bind_ok (number 3 (operand_at text).0 (length text) (length text)) (λ n. Ok (n, (operand_at text).1)) (n, rest) h in
    let found = number_found 3 (operand_at text).0 (length text) (length text) step.value step.was in
    let same = same_value step.value n (operand_at text).1 rest step.then_ok in
    let behind = same_rest step.value n (operand_at text).1 rest step.then_ok in
    record {
      part = (operand_at text).0;
      is = record { number = n; is = subst (λ (v : ℕ). IsNumber 8 (operand_at text).0 v) same found.0; within = omega (arith, found.1, same); counts = refl };
      spelled = operand_parts text ∙ ap (λ (t : List ℕ). (operand_at text).0 ++ t) behind;
    }

-- the operand of a text as a part of a form
operand_begins : (Form : List ℕ → ℕ → Type 0) (text rest : List ℕ) (n : ℕ) → Form (operand_at text).0 n → (operand_at text).1 ≡ rest → Begins Form text rest n
operand_begins Form text rest n is behind = record {
  part = (operand_at text).0;
  is = is;
  spelled = operand_parts text ∙ ap (λ (t : List ℕ). (operand_at text).0 ++ t) behind;
}

-- one digit is the number that it stands for
pub one_digit : (text : List ℕ) (n : ℕ) → IsNumber 8 text n → length text ≤ 1 → text ≡ (48 + n) ∷ []
one_digit [] n is short = absurd (omega (arith, is.some))
one_digit (b ∷ []) n is short =
    let digit = All-head (IsDigit 8) b [] is.digits in
    let same : b ≡ 48 + n = omega (arith, digit.0, is.value) in
    ap (λ (x : ℕ). x ∷ []) same
one_digit (b ∷ c ∷ more) n is short = absurd (omega arith)

pub index_found_at : (text rest : List ℕ) (n : ℕ) → index_at text ≡ Ok (n, rest) → Begins IsIndex text rest (256 * n)
unfolding index_at
index_found_at text rest n h =
    let operand = (operand_at text).0 in
    let step = bind_ok (number 3 operand (length text) (length text)) (λ n. cond (eqb n 0 || ltb 1 (length operand)) (Err (BadField (length text))) (Ok (n, (operand_at text).1))) (n, rest) h in
    let found = number_found 3 operand (length text) (length text) step.value step.was in
    elim (chosen (eqb step.value 0 || ltb 1 (length operand)) (Err (BadField (length text))) (Ok (step.value, (operand_at text).1)) (Ok (n, rest)) step.then_ok) [
      | inl bad ↦ cc
      | inr fits ↦
          let parts = or_parts (eqb step.value 0) (ltb 1 (length operand)) fits.0 in
          let same = same_value step.value n (operand_at text).1 rest fits.1 in
          let some : 0 < step.value = positive step.value (eqb-false step.value 0 parts.0) in
          operand_begins IsIndex text rest (256 * n) (record { index = n; some = omega (arith, some, same); within = omega (arith, found.1, same); spelled = subst (λ (v : ℕ). operand ≡ (48 + v) ∷ []) same (one_digit operand step.value found.0 (ltb-false 1 (length operand) parts.1)); counts = refl }) (same_rest step.value n (operand_at text).1 rest fits.1)
    ]

device_number_found : (text rest : List ℕ) (n : ℕ) → device_number_at text ≡ Ok (n, rest) → Begins IsDevice text rest n
unfolding device_number_at
device_number_found text rest n h =
    let operand = (operand_at text).0 in
    let step = bind_ok (number 63 operand (length text) (length text)) (λ n. cond (ltb 2 (length operand)) (Err (BadField (length text))) (Ok (n, (operand_at text).1))) (n, rest) h in
    let found = number_found 63 operand (length text) (length text) step.value step.was in
    elim (chosen (ltb 2 (length operand)) (Err (BadField (length text))) (Ok (step.value, (operand_at text).1)) (Ok (n, rest)) step.then_ok) [
      | inl bad ↦ cc
      | inr fits ↦
          let same = same_value step.value n (operand_at text).1 rest fits.1 in
          operand_begins IsDevice text rest n (subst (λ (v : ℕ). IsDevice operand v) same (by_code operand step.value found.0 found.1 (ltb-false 2 (length operand) fits.0))) (same_rest step.value n (operand_at text).1 rest fits.1)
    ]

-- a name that was found in a table
pub entry_found : (table : List (List ℕ)) (text : List ℕ) (k : ℕ) → name_place table text ≡ Some k → IsEntry table text k
entry_found table text k h =
    let found = position-Some (λ name. bytes_eq name (str_to_ascii_uppercase text)) table k [] h in
    record { within = found.0; spelled = sym ((bytes_eq-Decides (entry table k) (str_to_ascii_uppercase text)).0 found.1) }

code_is : (o : Option ℕ) (code : ℕ) → code_found o ≡ Some code → (k : ℕ) × (o ≡ Some k) × (slice_index device_codes k ≡ code)
code_is (Some k) code h = (k, refl, cc)
code_is None code h = cc

pub device_name_found : (text : List ℕ) (code : ℕ) → device_named text ≡ Some code → IsDevice text code
unfolding device_named
device_name_found text code h =
    let found = code_is (name_place device_names text) code h in
    subst (λ (c : ℕ). IsDevice text c) found.2 (by_name text found.0 (entry_found device_names text found.0 found.1))

device_cases : (o : Option ℕ) (text rest : List ℕ) (n : ℕ) → device_named (operand_at text).0 ≡ o → device_found o text ≡ Ok (n, rest) → Begins IsDevice text rest n
device_cases (Some code) text rest n named h =
    operand_begins IsDevice text rest n (subst (λ (c : ℕ). IsDevice (operand_at text).0 c) (same_value code n (operand_at text).1 rest h) (device_name_found (operand_at text).0 code named)) (same_rest code n (operand_at text).1 rest h)
device_cases None text rest n named h = device_number_found text rest n h

pub device_found_at : (text rest : List ℕ) (n : ℕ) → device_at text ≡ Ok (n, rest) → Begins IsDevice text rest n
unfolding device_at
device_found_at text rest n h = device_cases (device_named (operand_at text).0) text rest n refl h

skip_cases : (o : Option ℕ) (text rest : List ℕ) (n : ℕ) → name_place skip_names (operand_at text).0 ≡ o → skip_found o text ≡ Ok (n, rest) → Begins IsSkip text rest n
skip_cases (Some k) text rest n named h =
    operand_begins IsSkip text rest n (record { place = k; is = entry_found skip_names (operand_at text).0 k named; counts = sym (same_value (k + 1) n (operand_at text).1 rest h) }) (same_rest (k + 1) n (operand_at text).1 rest h)
skip_cases None text rest n named h = cc

pub skip_found_at : (text rest : List ℕ) (n : ℕ) → skip_at text ≡ Ok (n, rest) → Begins IsSkip text rest n
unfolding skip_at
skip_found_at text rest n h = skip_cases (name_place skip_names (operand_at text).0) text rest n refl h

-- the addresses

negative_found : (digits : List ℕ) (field after n : ℕ) → negative digits field after ≡ Ok n → IsNegative (45 ∷ digits) n
unfolding negative
negative_found digits field after n h =
    let step = bind_ok (number 128 digits field (length digits + after)) (λ n. Ok ((256 - n) % 256)) n h in
    let found = number_found 128 digits field (length digits + after) step.value step.was in
    record { digits = digits; number = step.value; spelled = refl; is = found.0; within = found.1; counts = sym (same_number ((256 - step.value) % 256) n step.then_ok) }

signed_found : (operand : List ℕ) (field after n : ℕ) → signed operand field after ≡ Ok n → IsSigned operand n
unfolding signed
signed_found [] field after n h = cc
signed_found (sign ∷ digits) field after n h =
    elim (chosen (eqb sign 45) (negative digits field after) (number 127 (sign ∷ digits) field (length (sign ∷ digits) + after)) (Ok n) h) [
      | inl minus ↦ let is : sign ≡ 45 = eqb-true sign 45 minus.0 in inl (subst (λ (b : ℕ). IsNegative (b ∷ digits) n) (sym is) (negative_found digits field after n minus.1))
      | inr plain ↦ inr (number_found 127 (sign ∷ digits) field (length (sign ∷ digits) + after) n plain.1)
    ]

relative_found : (text : List ℕ) (field after n : ℕ) → relative text field after ≡ Ok n → IsRelative (46 ∷ text) n
unfolding relative
relative_found [] field after n h = subst (λ (v : ℕ). IsRelative (46 ∷ []) v) (same_number 0 n h) here_form
relative_found (sign ∷ digits) field after n h =
    elim (chosen (eqb sign 43) (number 127 digits field (length digits + after)) (cond (eqb sign 45) (negative digits field after) (Err (BadField field))) (Ok n) h) [
      | inl plus ↦
          let found = number_found 127 digits field (length digits + after) n plus.1 in
          subst (λ (b : ℕ). IsRelative (46 ∷ b ∷ digits) n) (sym (eqb-true sign 43 plus.0)) (ahead_form digits n found.0 found.1)
      | inr other ↦ elim (chosen (eqb sign 45) (negative digits field after) (Err (BadField field)) (Ok n) other.1) [
        | inl minus ↦ subst (λ (b : ℕ). IsRelative (46 ∷ b ∷ digits) n) (sym (eqb-true sign 45 minus.0)) (behind_form (45 ∷ digits) n (negative_found digits field after n minus.1))
        | inr bad ↦ cc
      ]
    ]

-- an operand and what follows it are a part of a form and the rest of the text
pub record Runs (Form : List ℕ → ℕ → Type 0) (operand rest left : List ℕ) (n : ℕ) : Type 0 where
  pub part : List ℕ
  pub is : Form part n
  pub spelled : operand ++ rest ≡ part ++ left

indexed_runs : (operand next rest left : List ℕ) (field n : ℕ) → Parted rest next → indexed operand next rest field ≡ Ok (n, left) → Runs IsAddress operand rest left n
unfolding indexed
indexed_runs operand next rest left field n gap h =
    let step = bind_ok (signed operand field (length rest)) (λ d. index_at next >>= λ index. Ok (256 * index.0 + d, index.1)) (n, left) h in
    let after = bind_ok (index_at next) (λ index. Ok (256 * index.0 + step.value, index.1)) (n, left) step.then_ok in
    let found = signed_found operand field (length rest) step.value step.was in
    let index = index_found_at next after.value.1 after.value.0 after.was in
    let first : Begins IsSigned (operand ++ rest) rest step.value = record { part = operand; is = found; spelled = refl } in
    let pair = pair_found IsSigned IsIndex (operand ++ rest) rest next after.value.1 step.value (256 * after.value.0) first gap index in
    let sum = same_value (256 * after.value.0 + step.value) n after.value.1 left after.then_ok in
    let behind = same_rest (256 * after.value.0 + step.value) n after.value.1 left after.then_ok in
    let same : step.value + 256 * after.value.0 ≡ n = omega (arith, sum) in
    record {
      part = pair.part;
      is = subst (λ (v : ℕ). IsAddress pair.part v) same (indexed_form pair.part (step.value + 256 * after.value.0) pair.is);
      spelled = pair.spelled ∙ ap (λ (t : List ℕ). pair.part ++ t) behind;
    }

not_indexed_runs : (operand rest left : List ℕ) (field n : ℕ) → not_indexed operand rest field ≡ Ok (n, left) → Runs IsAddress operand rest left n
unfolding not_indexed
not_indexed_runs [] rest left field n h = cc
not_indexed_runs (sign ∷ digits) rest left field n h =
    elim (chosen (eqb sign 45) (negative digits field (length rest) >>= λ n. Err (BadField (length (past_blanks rest)))) (number 255 (sign ∷ digits) field (length (sign ∷ digits) + length rest) >>= λ n. Ok (n, rest)) (Ok (n, left)) h) [
      | inl minus ↦ let step = bind_ok (negative digits field (length rest)) (λ n. Err (BadField (length (past_blanks rest)))) (n, left) minus.1 in let no = step.then_ok in cc
      | inr plain ↦
          let step = bind_ok (number 255 (sign ∷ digits) field (length (sign ∷ digits) + length rest)) (λ n. Ok (n, rest)) (n, left) plain.1 in
          let found = number_found 255 (sign ∷ digits) field (length (sign ∷ digits) + length rest) step.value step.was in
          let same = same_value step.value n rest left step.then_ok in
          record {
            part = sign ∷ digits;
            is = subst (λ (v : ℕ). IsAddress (sign ∷ digits) v) same (page_zero (sign ∷ digits) step.value found.0 found.1);
            spelled = ap (λ (t : List ℕ). sign ∷ digits ++ t) (same_rest step.value n rest left step.then_ok);
          }
    ]

index_cases : (o : Option (List ℕ)) (operand rest left : List ℕ) (field n : ℕ) → after_comma rest ≡ o → index_found o operand rest field ≡ Ok (n, left) → Runs IsAddress operand rest left n
index_cases (Some next) operand rest left field n comma h = indexed_runs operand next rest left field n (after_comma_found rest next comma) h
index_cases None operand rest left field n comma h = not_indexed_runs operand rest left field n h

absolute_runs : (operand rest left : List ℕ) (field n : ℕ) → absolute operand rest field ≡ Ok (n, left) → Runs IsAddress operand rest left n
unfolding absolute
absolute_runs operand rest left field n h = index_cases (after_comma rest) operand rest left field n refl h

address_runs : (operand rest left : List ℕ) (field n : ℕ) → address operand rest field ≡ Ok (n, left) → Runs IsAddress operand rest left n
unfolding address
address_runs [] rest left field n h = absolute_runs [] rest left field n h
address_runs (b ∷ more) rest left field n h =
    elim (chosen (eqb b 46) (relative more field (length rest) >>= λ d. Ok (256 + d, rest)) (absolute (b ∷ more) rest field) (Ok (n, left)) h) [
      | inl point ↦
          let step = bind_ok (relative more field (length rest)) (λ d. Ok (256 + d, rest)) (n, left) point.1 in
          let found = relative_found more field (length rest) step.value step.was in
          let is = subst (λ (c : ℕ). IsRelative (c ∷ more) step.value) (sym (eqb-true b 46 point.0)) found in
          let same = same_value (256 + step.value) n rest left step.then_ok in
          record {
            part = b ∷ more;
            is = subst (λ (v : ℕ). IsAddress (b ∷ more) v) same (relative_form (b ∷ more) step.value is);
            spelled = ap (λ (t : List ℕ). b ∷ more ++ t) (same_rest (256 + step.value) n rest left step.then_ok);
          }
      | inr other ↦ absolute_runs (b ∷ more) rest left field n other.1
    ]

target_of_address : (operand rest left : List ℕ) (n : ℕ) → Runs IsAddress operand rest left n → Runs IsTarget operand rest left n
target_of_address operand rest left n runs = record { part = runs.part; is = direct runs.part n runs.is; spelled = runs.spelled }

indirect_runs : (operand rest left : List ℕ) (field n : ℕ) → indirect operand rest field ≡ Ok (n, left) → Runs IsTarget operand rest left n
unfolding indirect
indirect_runs [] rest left field n h = target_of_address [] rest left n (address_runs [] rest left field n h)
indirect_runs (b ∷ more) rest left field n h =
    elim (chosen (eqb b 64) (address more rest field >>= λ a. Ok (1024 + a.0, a.1)) (address (b ∷ more) rest field) (Ok (n, left)) h) [
      | inl at ↦
          let step = bind_ok (address more rest field) (λ a. Ok (1024 + a.0, a.1)) (n, left) at.1 in
          let runs = address_runs more rest step.value.1 field step.value.0 step.was in
          let same = same_value (1024 + step.value.0) n step.value.1 left step.then_ok in
          let behind = same_rest (1024 + step.value.0) n step.value.1 left step.then_ok in
          let sign = eqb-true b 64 at.0 in
          record {
            part = 64 ∷ runs.part;
            is = subst (λ (v : ℕ). IsTarget (64 ∷ runs.part) v) same (indirect_form runs.part step.value.0 runs.is);
            spelled = ap (λ (c : ℕ). c ∷ (more ++ rest)) sign ∙ ap (λ (t : List ℕ). 64 ∷ t) (runs.spelled ∙ ap (λ (t : List ℕ). runs.part ++ t) behind);
          }
      | inr other ↦ target_of_address (b ∷ more) rest left n (address_runs (b ∷ more) rest left field n other.1)
    ]

pub target_found_at : (text rest : List ℕ) (n : ℕ) → target_at text ≡ Ok (n, rest) → Begins IsTarget text rest n
unfolding target_at
target_found_at text rest n h =
    let runs = indirect_runs (operand_at text).0 (operand_at text).1 rest (length text) n h in
    record { part = runs.part; is = runs.is; spelled = operand_parts text ∙ runs.spelled }
