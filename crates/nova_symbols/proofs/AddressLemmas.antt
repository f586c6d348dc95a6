-- Texts of each form are read: addresses.
use Rattle.std.proofs.Common.{◌≡◌, ℕ, ◌+◌, ◌-◌, ◌*◌, ◌%◌, ◌<◌, ◌≤◌, zero, suc, Bool, true, false, cond, eqb, Option, None, Result, Ok, Err, List, [], ◌∷◌, ◌++◌, length, refl, ap, sym, subst, ◌∙◌, inl, inr, arith}
use Rattle.std.proofs.lemmas.Bool.{ne_eqb}
use Rattle.std.proofs.lemmas.List.{append-nil}
use Rattle.std.proofs.lemmas.List.Elements.{All-head}
use Rattle.nova_word.specs.Numbers.{IsNumber, IsDigit}
use Rattle.line_text.specs.Words.{past_blanks}
use Rattle.nova_symbols.specs.declared.fault.SymbolFault.{SymbolFault}
use Rattle.nova_symbols.specs.declared.fault.SymbolFault.TheVariants.{BadField}
use Rattle.nova_symbols.specs.Operands.{◌>>=◌, is_separator, operand_at, after_comma, index_found, is_octal, number, index_at, negative, relative, signed, indexed, not_indexed, absolute, address, indirect, target_at}
use Rattle.nova_symbols.specs.Forms.{IsGap, IsPair, IsIndex, IsNegative, IsSigned, IsRelative, here as here_form, ahead as ahead_form, behind as behind_form, IsAddress, page_zero, indexed as indexed_form, relative as relative_form, IsTarget, direct, indirect as indirect_form}
use Rattle.nova_symbols.proofs.SplitLemmas.{free, StartsWith, operand_split, after_gap, starts_gap, starts_other, number_free, number_reads}
use Rattle.line_text.proofs.BlankLemmas.{is_other}

-- a text begins with that byte
abbrev pub head_is : ℕ → List ℕ → Bool
head_is c [] = false
head_is c (b ∷ more) = eqb b c

pub number_head : (c : ℕ) (text : List ℕ) (n : ℕ) → IsNumber 8 text n → (IsDigit 8 c → ⊥) → head_is c text ≡ false
number_head c [] n is other = refl
number_head c (b ∷ more) n is other =
    let digit = All-head (IsDigit 8) b more is.digits in
    ne_eqb b c (λ same. other (subst (IsDigit 8) same digit))

-- what a first byte says of an operand

pub address_plain : (operand rest : List ℕ) (field : ℕ) → head_is 46 operand ≡ false → address operand rest field ≡ absolute operand rest field
unfolding address
address_plain [] rest field h = refl
address_plain (b ∷ more) rest field h =
    ap (λ (c : Bool). cond c (relative more field (length rest) >>= λ d. Ok (256 + d, rest)) (absolute (b ∷ more) rest field)) h

pub indirect_plain : (operand rest : List ℕ) (field : ℕ) → head_is 64 operand ≡ false → indirect operand rest field ≡ address operand rest field
unfolding indirect
indirect_plain [] rest field h = refl
indirect_plain (b ∷ more) rest field h =
    ap (λ (c : Bool). cond c (address more rest field >>= λ a. Ok (1024 + a.0, a.1)) (address (b ∷ more) rest field)) h

pub negative_reads : (digits : List ℕ) (field after n : ℕ) → IsNumber 8 digits n → n ≤ 128 → negative digits field after ≡ Ok ((256 - n) % 256)
unfolding negative
negative_reads digits field after n is small =
    ap (λ (r : Result ℕ SymbolFault). r >>= λ n. Ok ((256 - n) % 256)) (number_reads 128 digits field (length digits + after) n is small (omega arith))

pub signed_number : (operand : List ℕ) (field after n : ℕ) → IsNumber 8 operand n → n ≤ 127 → signed operand field after ≡ Ok n
unfolding signed
signed_number [] field after n is small = absurd (omega (arith, is.some))
signed_number (b ∷ more) field after n is small =
    let plain = number_head 45 (b ∷ more) n is (λ d. omega (arith, d.0)) in
    let long = length (b ∷ more) + after in
    ap (λ (c : Bool). cond c (negative more field after) (number 127 (b ∷ more) field long)) plain ∙ number_reads 127 (b ∷ more) field long n is small (omega arith)

pub signed_negative : (operand : List ℕ) (field after n : ℕ) → IsNegative operand n → signed operand field after ≡ Ok n
unfolding signed
signed_negative operand field after n is =
    ap (λ (t : List ℕ). signed t field after) is.spelled ∙ negative_reads is.digits field after is.number is.is is.within ∙ ap (λ (m : ℕ). Ok m) (sym is.counts)

pub signed_reads : (operand : List ℕ) (field after n : ℕ) → IsSigned operand n → signed operand field after ≡ Ok n
signed_reads operand field after n is =
    elim is [ inl negative_one ↦ signed_negative operand field after n negative_one | inr plain ↦ signed_number operand field after n plain.0 plain.1 ]

negative_free : (operand : List ℕ) (n : ℕ) → IsNegative operand n → free is_separator operand ≡ true
negative_free operand n is = ap (free is_separator) is.spelled ∙ number_free is.digits is.number is.is

pub signed_free : (operand : List ℕ) (n : ℕ) → IsSigned operand n → free is_separator operand ≡ true
signed_free operand n is = elim is [ inl negative_one ↦ negative_free operand n negative_one | inr plain ↦ number_free operand n plain.0 ]

negative_head : (c : ℕ) (operand : List ℕ) (n : ℕ) → IsNegative operand n → (45 ≡ c → ⊥) → head_is c operand ≡ false
negative_head c operand n is other = ap (head_is c) is.spelled ∙ ne_eqb 45 c other

pub signed_head : (c : ℕ) (operand : List ℕ) (n : ℕ) → IsSigned operand n → (45 ≡ c → ⊥) → (IsDigit 8 c → ⊥) → head_is c operand ≡ false
signed_head c operand n is minus digit =
    elim is [ inl negative_one ↦ negative_head c operand n negative_one minus | inr plain ↦ number_head c operand n plain.0 digit ]

negative_some : (operand : List ℕ) (n : ℕ) → IsNegative operand n → 0 < length operand
negative_some operand n is = subst (λ (t : List ℕ). 0 < length t) (sym is.spelled) (omega arith)

pub signed_some : (operand : List ℕ) (n : ℕ) → IsSigned operand n → 0 < length operand
signed_some operand n is = elim is [ inl negative_one ↦ negative_some operand n negative_one | inr plain ↦ plain.0.some ]

-- an index

digit_index : (d : ℕ) → 0 < d → d ≤ 3 → index_at ((48 + d) ∷ []) ≡ Ok (d, [])
unfolding index_at operand_at number is_octal
digit_index zero some within = absurd (omega arith)
digit_index (suc zero) some within = refl
digit_index (suc (suc zero)) some within = refl
digit_index (suc (suc (suc zero))) some within = refl
digit_index (suc (suc (suc (suc d)))) some within = absurd (omega arith)

pub index_reads : (text : List ℕ) (n : ℕ) (is : IsIndex text n) → index_at text ≡ Ok (is.index, [])
index_reads text n is = ap index_at is.spelled ∙ digit_index is.index is.some is.within

digit_other : (d : ℕ) → 0 < d → d ≤ 3 → StartsWith is_other ((48 + d) ∷ [])
digit_other zero some within = absurd (omega arith)
digit_other (suc zero) some within = refl
digit_other (suc (suc zero)) some within = refl
digit_other (suc (suc (suc zero))) some within = refl
digit_other (suc (suc (suc (suc d)))) some within = absurd (omega arith)

pub index_other : (text : List ℕ) (n : ℕ) → IsIndex text n → StartsWith is_other text
index_other text n is = subst (StartsWith is_other) (sym is.spelled) (digit_other is.index is.some is.within)

-- an address: its first operand, what follows it, and how both are read
pub record Addressed (text : List ℕ) (n : ℕ) : Type 0 where
  pub operand : List ℕ
  pub rest : List ℕ
  pub spelled : text ≡ operand ++ rest
  pub whole : free is_separator operand ≡ true
  pub starts : StartsWith is_separator rest
  pub some : 0 < length operand
  pub plain : head_is 64 operand ≡ false
  pub reads : (field : ℕ) → address operand rest field ≡ Ok (n, [])

pub not_indexed_number : (text rest : List ℕ) (field n : ℕ) → IsNumber 8 text n → n ≤ 255 → not_indexed text rest field ≡ Ok (n, rest)
unfolding not_indexed
not_indexed_number [] rest field n is small = absurd (omega (arith, is.some))
not_indexed_number (b ∷ more) rest field n is small =
    let plain = number_head 45 (b ∷ more) n is (λ d. omega (arith, d.0)) in
    let after = length rest in
    let long = length (b ∷ more) + after in
    ap (λ (c : Bool). cond c (negative more field after >>= λ n. Err (BadField (length (past_blanks rest)))) (number 255 (b ∷ more) field long >>= λ n. Ok (n, rest))) plain ∙ ap (λ (r : Result ℕ SymbolFault). r >>= λ n. Ok (n, rest)) (number_reads 255 (b ∷ more) field long n is small (omega arith))

pub no_comma : after_comma [] ≡ None
unfolding after_comma past_blanks
no_comma = refl

pub absolute_none : (text rest : List ℕ) (field : ℕ) → after_comma rest ≡ None → absolute text rest field ≡ not_indexed text rest field
unfolding absolute
absolute_none text rest field none = ap (λ (o : Option (List ℕ)). index_found o text rest field) none

number_addressed : (text : List ℕ) (n : ℕ) → IsNumber 8 text n → n ≤ 255 → Addressed text n
number_addressed text n is small = record {
  operand = text;
  rest = [];
  spelled = sym (append-nil text);
  whole = number_free text n is;
  starts = tt;
  some = is.some;
  plain = number_head 64 text n is (λ d. omega (arith, d.1));
  reads = λ field. address_plain text [] field (number_head 46 text n is (λ d. omega (arith, d.0))) ∙ absolute_none text [] field no_comma ∙ not_indexed_number text [] field n is small;
}

pub relative_reads : (more rest : List ℕ) (n field : ℕ) → relative more field (length rest) ≡ Ok n → address (46 ∷ more) rest field ≡ Ok (256 + n, rest)
unfolding address
relative_reads more rest n field h = ap (λ (r : Result ℕ SymbolFault). r >>= λ d. Ok (256 + d, rest)) h

pub relative_ahead : (digits : List ℕ) (n field after : ℕ) → IsNumber 8 digits n → n ≤ 127 → relative (43 ∷ digits) field after ≡ Ok n
unfolding relative
relative_ahead digits n field after is small = number_reads 127 digits field (length digits + after) n is small (omega arith)

pub relative_here : (field after : ℕ) → relative [] field after ≡ Ok 0
unfolding relative
relative_here field after = refl

pub relative_behind : (text : List ℕ) (n field after : ℕ) → IsNegative text n → relative text field after ≡ Ok n
unfolding relative
relative_behind text n field after is =
    ap (λ (t : List ℕ). relative t field after) is.spelled ∙ negative_reads is.digits field after is.number is.is is.within ∙ ap (λ (m : ℕ). Ok m) (sym is.counts)

point_addressed : (more : List ℕ) (n : ℕ) → free is_separator more ≡ true → ((field : ℕ) → relative more field 0 ≡ Ok n) → Addressed (46 ∷ more) (256 + n)
point_addressed more n whole reads = record {
  operand = 46 ∷ more;
  rest = [];
  spelled = sym (append-nil (46 ∷ more));
  whole = whole;
  starts = tt;
  some = omega arith;
  plain = refl;
  reads = λ field. relative_reads more [] n field (reads field);
}

relative_addressed : (text : List ℕ) (n : ℕ) → IsRelative text n → Addressed text (256 + n)
relative_addressed text n here_form = point_addressed [] 0 refl (λ field. relative_here field 0)
relative_addressed text n (ahead_form digits _ is small) = point_addressed (43 ∷ digits) n (number_free digits n is) (λ field. relative_ahead digits n field 0 is small)
relative_addressed text n (behind_form more _ is) = point_addressed more n (negative_free more n is) (λ field. relative_behind more n field 0 is)

indexed_reads : (first second rest : List ℕ) (a b field : ℕ) → IsSigned first a → IsIndex second b → indexed first second rest field ≡ Ok (b + a, [])
unfolding indexed
indexed_reads first second rest a b field signed_one index_one =
    let index = index_one.index in
    ap (λ (r : Result ℕ SymbolFault). r >>= λ d. index_at second >>= λ i. Ok (256 * i.0 + d, i.1)) (signed_reads first field (length rest) a signed_one) ∙ ap (λ (r : Result (ℕ × List ℕ) SymbolFault). r >>= λ i. Ok (256 * i.0 + a, i.1)) (index_reads second b index_one) ∙ ap (λ (m : ℕ). Ok (m + a, [])) (sym index_one.counts)

absolute_indexed : (first gap second : List ℕ) (a b field : ℕ) → IsGap gap → IsSigned first a → IsIndex second b → absolute first (gap ++ second) field ≡ Ok (b + a, [])
unfolding absolute
absolute_indexed first gap second a b field comma signed_one index_one =
    ap (λ (o : Option (List ℕ)). index_found o first (gap ++ second) field) (after_gap gap second comma (index_other second b index_one)) ∙ indexed_reads first second (gap ++ second) a b field signed_one index_one

indexed_addressed : (text : List ℕ) (n : ℕ) → IsPair IsSigned IsIndex text n → Addressed text n
indexed_addressed text n is =
    let same : is.b + is.a ≡ n = omega (arith, is.sum) in
    record {
      operand = is.first;
      rest = is.gap ++ is.second;
      spelled = is.spelled;
      whole = signed_free is.first is.a is.is_first;
      starts = starts_gap is.gap is.second is.comma;
      some = signed_some is.first is.a is.is_first;
      plain = signed_head 64 is.first is.a is.is_first (λ e. omega arith) (λ d. omega (arith, d.1));
      reads = λ field. address_plain is.first (is.gap ++ is.second) field (signed_head 46 is.first is.a is.is_first (λ e. omega arith) (λ d. omega (arith, d.0))) ∙ absolute_indexed is.first is.gap is.second is.a is.b field is.comma is.is_first is.is_second ∙ ap (λ (m : ℕ). Ok (m, [])) same;
    }

pub addressed : (text : List ℕ) (n : ℕ) → IsAddress text n → Addressed text n
addressed text n (page_zero _ _ is small) = number_addressed text n is small
addressed text n (relative_form _ m is) = relative_addressed text m is
addressed text n (indexed_form _ _ is) = indexed_addressed text n is

target_from : (text operand rest : List ℕ) (n : ℕ) → operand_at text ≡ (operand, rest) → indirect operand rest (length text) ≡ Ok (n, []) → target_at text ≡ Ok (n, [])
unfolding target_at
target_from text operand rest n split reads = ap (λ (p : List ℕ × List ℕ). indirect p.0 p.1 (length text)) split ∙ reads

direct_reads : (text : List ℕ) (n : ℕ) → IsAddress text n → target_at text ≡ Ok (n, [])
direct_reads text n is =
    let all = addressed text n is in
    target_from text all.operand all.rest n (ap operand_at all.spelled ∙ operand_split all.operand all.rest all.whole all.starts) (indirect_plain all.operand all.rest (length text) all.plain ∙ all.reads (length text))

indirect_at : (operand rest : List ℕ) (field n : ℕ) → address operand rest field ≡ Ok (n, []) → indirect (64 ∷ operand) rest field ≡ Ok (1024 + n, [])
unfolding indirect
indirect_at operand rest field n h = ap (λ (r : Result (ℕ × List ℕ) SymbolFault). r >>= λ a. Ok (1024 + a.0, a.1)) h

indirect_reads : (text : List ℕ) (n : ℕ) → IsAddress text n → target_at (64 ∷ text) ≡ Ok (1024 + n, [])
indirect_reads text n is =
    let all = addressed text n is in
    target_from (64 ∷ text) (64 ∷ all.operand) all.rest (1024 + n) (ap (λ (t : List ℕ). operand_at (64 ∷ t)) all.spelled ∙ operand_split (64 ∷ all.operand) all.rest all.whole all.starts) (indirect_at all.operand all.rest (length (64 ∷ text)) n (all.reads (length (64 ∷ text))))

-- the operand of a memory reference
pub target_reads : (text : List ℕ) (n : ℕ) → IsTarget text n → target_at text ≡ Ok (n, [])
target_reads text n (direct _ _ is) = direct_reads text n is
target_reads text n (indirect_form more m is) = indirect_reads more m is

address_other : (text : List ℕ) (n : ℕ) → IsAddress text n → StartsWith is_other text
address_other text n is =
    let all = addressed text n is in
    subst (StartsWith is_other) (sym all.spelled) (starts_other all.operand all.rest all.whole all.some)

pub target_other : (text : List ℕ) (n : ℕ) → IsTarget text n → StartsWith is_other text
target_other text n (direct _ _ is) = address_other text n is
target_other text n (indirect_form more m is) = refl
