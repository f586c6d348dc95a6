-- Texts of each form are read: the fields of the operands.
use Rattle.std.specs.Prelude.{slice_index}
use Rattle.std.proofs.Common.{◌≡◌, ℕ, ◌+◌, ◌-◌, ◌<◌, ◌≤◌, zero, suc, Bool, true, cond, ltb, Option, None, Result, Ok, Err, List, [], ◌∷◌, ◌++◌, length, refl, ap, sym, subst, ◌∙◌, arith}
use Rattle.std.proofs.lemmas.Bool.{le-ltb}
use Rattle.std.proofs.lemmas.List.{append-nil}
use Rattle.std.proofs.lemmas.List.Elements.{All-head}
use Rattle.nova_word.specs.Numbers.{IsNumber, IsDigit}
use Rattle.nova_symbols.specs.declared.fault.SymbolFault.{SymbolFault}
use Rattle.nova_symbols.specs.declared.fault.SymbolFault.TheVariants.{BadField}
use Rattle.nova_symbols.specs.Names.{skip_names, device_names, device_codes}
use Rattle.nova_symbols.specs.Naming.{name_place, code_found, device_named}
use Rattle.nova_symbols.specs.Operands.{◌>>=◌, is_separator, operand_at, skip_found, device_found, number, accumulator_at, device_number_at, device_at, skip_at}
use Rattle.nova_symbols.specs.Forms.{IsEntry, IsAccumulator, IsSkip, IsDevice, by_name, by_code}
use Rattle.nova_symbols.proofs.SplitLemmas.{free, StartsWith, operand_split, number_free, number_reads, are_apart, are_free, entry_place, entry_free}

-- a text that begins an operand, whatever follows it
pub whole_split : (part : List ℕ) → free is_separator part ≡ true → operand_at part ≡ (part, [])
whole_split part none = ap operand_at (sym (append-nil part)) ∙ operand_split part [] none tt

-- accumulators

accumulator_of : (part rest : List ℕ) (n : ℕ) (text : List ℕ) → operand_at text ≡ (part, rest) → IsNumber 8 part n → n ≤ 3 → accumulator_at text ≡ Ok (n, rest)
unfolding accumulator_at
accumulator_of part rest n text split is small =
    let long = length text in
    ap (λ (p : List ℕ × List ℕ). number 3 p.0 long long >>= λ n. Ok (n, p.1)) split ∙ ap (λ (r : Result ℕ SymbolFault). r >>= λ n. Ok (n, rest)) (number_reads 3 part long long n is small (omega arith))

pub accumulator_free : (scale : ℕ) (part : List ℕ) (n : ℕ) → IsAccumulator scale part n → free is_separator part ≡ true
accumulator_free scale part n is = number_free part is.number is.is

pub accumulator_some : (scale : ℕ) (part : List ℕ) (n : ℕ) → IsAccumulator scale part n → 0 < length part
accumulator_some scale part n is = is.is.some

pub accumulator_reads : (scale : ℕ) (part rest : List ℕ) (n : ℕ) (is : IsAccumulator scale part n) → StartsWith is_separator rest → accumulator_at (part ++ rest) ≡ Ok (is.number, rest)
accumulator_reads scale part rest n is starts =
    accumulator_of part rest is.number (part ++ rest) (operand_split part rest (number_free part is.number is.is) starts) is.is is.within

-- skips

skips_apart : are_apart skip_names ≡ true
skips_apart = refl

skips_free : are_free skip_names ≡ true
skips_free = refl

pub skip_is_free : (part : List ℕ) (n : ℕ) → IsSkip part n → free is_separator part ≡ true
skip_is_free part n is = entry_free skip_names part is.place is.is skips_free

skip_names_some : (text : List ℕ) (k : ℕ) → IsEntry skip_names text k → 0 < length text
skip_names_some [] k is = let at = entry_place skip_names [] k is skips_apart in cc
skip_names_some (b ∷ more) k is = omega arith

pub skip_some : (part : List ℕ) (n : ℕ) → IsSkip part n → 0 < length part
skip_some part n is = skip_names_some part is.place is.is

pub skip_reads_at : (text part rest : List ℕ) (n : ℕ) → operand_at text ≡ (part, rest) → IsSkip part n → skip_at text ≡ Ok (n, rest)
unfolding skip_at
skip_reads_at text part rest n split is =
    let place = entry_place skip_names part is.place is.is skips_apart in
    ap (λ (p : List ℕ × List ℕ). skip_found (name_place skip_names p.0) text) split ∙ ap (λ (o : Option ℕ). skip_found o text) place ∙ ap (λ (p : List ℕ × List ℕ). Ok (is.place + 1, p.1)) split ∙ ap (λ (m : ℕ). Ok (m, rest)) (sym is.counts)

pub skip_reads : (part : List ℕ) (n : ℕ) → IsSkip part n → skip_at part ≡ Ok (n, [])
skip_reads part n is = skip_reads_at part part [] n (whole_split part (skip_is_free part n is)) is

-- devices

devices_apart : are_apart device_names ≡ true
devices_apart = refl

devices_free : are_free device_names ≡ true
devices_free = refl

pub device_is_free : (part : List ℕ) (n : ℕ) → IsDevice part n → free is_separator part ≡ true
device_is_free part n (by_name _ k is) = entry_free device_names part k is devices_free
device_is_free part n (by_code _ _ is small short) = number_free part n is

device_names_some : (text : List ℕ) (k : ℕ) → IsEntry device_names text k → 0 < length text
device_names_some [] k is = let at = entry_place device_names [] k is devices_apart in cc
device_names_some (b ∷ more) k is = omega arith

pub device_some : (part : List ℕ) (n : ℕ) → IsDevice part n → 0 < length part
device_some part n (by_name _ k is) = device_names_some part k is
device_some part n (by_code _ _ is small short) = is.some

-- a text of digits is the name of no device
digit_no_device : (d : ℕ) (more : List ℕ) → d < 8 → device_named ((48 + d) ∷ more) ≡ None
unfolding device_named
digit_no_device zero more h = refl
digit_no_device (suc zero) more h = refl
digit_no_device (suc (suc zero)) more h = refl
digit_no_device (suc (suc (suc zero))) more h = refl
digit_no_device (suc (suc (suc (suc zero)))) more h = refl
digit_no_device (suc (suc (suc (suc (suc zero))))) more h = refl
digit_no_device (suc (suc (suc (suc (suc (suc zero)))))) more h = refl
digit_no_device (suc (suc (suc (suc (suc (suc (suc zero))))))) more h = refl
digit_no_device (suc (suc (suc (suc (suc (suc (suc (suc d)))))))) more h = absurd (omega arith)

pub number_no_device : (text : List ℕ) (n : ℕ) → IsNumber 8 text n → device_named text ≡ None
number_no_device [] n is = absurd (omega (arith, is.some))
number_no_device (b ∷ more) n is =
    let digit = All-head (IsDigit 8) b more is.digits in
    let d = b - 48 in
    let same : 48 + d ≡ b = omega (arith, digit.0) in
    subst (λ (c : ℕ). device_named (c ∷ more) ≡ None) same (digit_no_device d more (omega (arith, digit.0, digit.1)))

device_code_reads : (text part rest : List ℕ) (n : ℕ) → operand_at text ≡ (part, rest) → IsNumber 8 part n → n ≤ 63 → length part ≤ 2 → device_number_at text ≡ Ok (n, rest)
unfolding device_number_at
device_code_reads text part rest n split is small short =
    let long = length text in
    let test : List ℕ × List ℕ → ℕ → Result (ℕ × List ℕ) SymbolFault = λ p n. cond (ltb 2 (length p.0)) (Err (BadField long)) (Ok (n, p.1)) in
    ap (λ (p : List ℕ × List ℕ). number 63 p.0 long long >>= test p) split ∙ ap (λ (r : Result ℕ SymbolFault). r >>= test (part, rest)) (number_reads 63 part long long n is small (omega arith)) ∙ ap (λ (c : Bool). cond c (Err (BadField long)) (Ok (n, rest))) (le-ltb 2 (length part) short)

pub device_reads_at : (text part rest : List ℕ) (n : ℕ) → operand_at text ≡ (part, rest) → IsDevice part n → device_at text ≡ Ok (n, rest)
unfolding device_at device_named
device_reads_at text part rest n split (by_name _ k is) =
    let place = entry_place device_names part k is devices_apart in
    ap (λ (p : List ℕ × List ℕ). device_found (code_found (name_place device_names p.0)) text) split ∙ ap (λ (o : Option ℕ). device_found (code_found o) text) place ∙ ap (λ (p : List ℕ × List ℕ). Ok (slice_index device_codes k, p.1)) split
device_reads_at text part rest n split (by_code _ _ is small short) =
    ap (λ (p : List ℕ × List ℕ). device_found (device_named p.0) text) split ∙ ap (λ (o : Option ℕ). device_found o text) (number_no_device part n is) ∙ device_code_reads text part rest n split is small short

pub device_reads : (part : List ℕ) (n : ℕ) → IsDevice part n → device_at part ≡ Ok (n, [])
device_reads part n is = device_reads_at part part [] n (whole_split part (device_is_free part n is)) is
