-- Kinds and units by their names.
use Rattle.std.specs.Prelude.{nat_le, nat_lt, codes}
use Rattle.std.proofs.Common.{◌≡◌, inl, inr, ℕ, ◌+◌, ◌-◌, ◌<◌, Bool, true, false, ◌&&◌, Some, None, List, [], ◌∷◌, ◌++◌, take, drop, refl, ap, sym, ◌∙◌, subst, arith}
use Rattle.std.specs.Char.{to_ascii_uppercase}
use Rattle.std.specs.Str.{str_to_ascii_uppercase}
use Rattle.std.specs.Option.{option_map}
use Rattle.std.proofs.lemmas.Bool.{both_ways, and_parts, leb-true, le-leb, ltb-true, lt-ltb}
use Rattle.std.proofs.lemmas.Bool.Decides.{nat_tests}
use Rattle.std.proofs.lemmas.List.{take-append-drop, take-map, drop-map, map-append}
use Rattle.unit_trait.specs.declared.kind.Kind.{Kind}
use Rattle.unit_trait.specs.declared.kind.Kind.TheVariants.{Mta}
use Rattle.unit_trait.specs.declared.kind.UnitName.{UnitName}
use Rattle.unit_trait.specs.Kinds.{kind_name}
use Rattle.unit_trait.proofs.EveryKind.{every-kind}
use Rattle.line_text.specs.Words.{IsSpelled, is_spelled}
use Rattle.operand_forms.specs.Names.{device_kinds, unit_kinds}
use Rattle.operand_forms.specs.Forms.{IsKind, IsDevice, IsUnit, alone, drive}
use Rattle.operand_forms.specs.Operands.{kind_named, device_of, unit_alone, drive_at, drive_of, unit_of}
use Rattle.operand_forms.proofs.ChoiceLemmas.{chosen, same_some, none_from, either_answer, first_answer, second_answer, mapped}
use Rattle.line_text.proofs.SpellingLemmas.{spelled_is, is_spelled_so, spelled_alike}
use Rattle.operand_forms.proofs.ListLemmas.{are_apart, first_found, first_is}

-- kinds

abbrev same_name : Kind → Kind → Bool
same_name a b = is_spelled (kind_name a) (kind_name b)

kind_found : (kinds : List Kind) (text : List ℕ) (kind : Kind) → kind_named kinds text ≡ Some kind → IsKind kinds text kind
unfolding kind_named
kind_found kinds text kind h =
    let found = first_found (λ k. is_spelled text (kind_name k)) kinds kind h in
    record { listed = found.0; spelled = spelled_is text (kind_name kind) found.1 }

kind_reads : (kinds : List Kind) (text : List ℕ) (kind : Kind) → are_apart same_name kinds ≡ true → IsKind kinds text kind → kind_named kinds text ≡ Some kind
unfolding kind_named
kind_reads kinds text kind apart h =
    first_is (λ k. is_spelled text (kind_name k)) same_name kinds kind
    (λ a b first second. spelled_alike text (kind_name a) (kind_name b) (spelled_is text (kind_name a) first) (spelled_is text (kind_name b) second))
    apart h.listed (is_spelled_so text (kind_name kind) h.spelled)

pub device_found : (text : List ℕ) (kind : Kind) → device_of text ≡ Some kind → IsDevice text kind
unfolding device_of
device_found text kind h = kind_found device_kinds text kind h

pub device_reads : (text : List ℕ) (kind : Kind) → IsDevice text kind → device_of text ≡ Some kind
unfolding device_of
device_reads text kind h = kind_reads device_kinds text kind refl h

-- units

abbrev pub drive_name : ℕ → List ℕ
drive_name n = codes "MTA" ++ (48 + n) ∷ []

abbrev drive_unit : ℕ → UnitName
drive_unit n = record { kind = Mta; unit = n }

drive_at_found : (rest : List ℕ) (u : UnitName) → drive_at rest ≡ Some u → (n : ℕ) × (n < 8) × (rest ≡ (48 + n) ∷ []) × (drive_unit n ≡ u)
drive_at_found [] u h = absurd (cc)
drive_at_found (b ∷ []) u h =
    elim (chosen (nat_le 48 b && nat_lt b 56) (Some (drive_unit (b - 48))) None (Some u) h) [
      | inl digit ↦
          let parts = and_parts (nat_le 48 b) (nat_lt b 56) digit.0 in
          let low = leb-true 48 b parts.0 in
          let high = ltb-true b 56 parts.1 in
          let same : b ≡ 48 + (b - 48) = omega arith in
          (b - 48, omega arith, ap (λ (c : ℕ). c ∷ []) same, same_some (drive_unit (b - 48)) u digit.1)
      | inr other ↦ absurd (cc)
    ]
drive_at_found (b ∷ c ∷ more) u h = absurd (cc)

digit_stays : (n : ℕ) → n < 8 → to_ascii_uppercase (48 + n) ≡ 48 + n
digit_stays n below = grind (arith, nat_tests)

drive_spelled : (text : List ℕ) (n : ℕ) → n < 8 → IsSpelled (take 3 text) (codes "MTA") → drop 3 text ≡ (48 + n) ∷ [] → IsSpelled text (drive_name n)
drive_spelled text n below tape digit =
    ap str_to_ascii_uppercase (sym (take-append-drop 3 text)) ∙ map-append to_ascii_uppercase (take 3 text) (drop 3 text)
    ∙ ap (λ (t : List ℕ). t ++ str_to_ascii_uppercase (drop 3 text)) tape
    ∙ ap (λ (t : List ℕ). codes "MTA" ++ str_to_ascii_uppercase t) digit
    ∙ ap (λ (c : ℕ). codes "MTA" ++ c ∷ []) (digit_stays n below)

drive_found : (text : List ℕ) (u : UnitName) → drive_of text ≡ Some u → IsUnit text u
unfolding drive_of
drive_found text u h =
    elim (chosen (is_spelled (take 3 text) (codes "MTA")) (drive_at (drop 3 text)) None (Some u) h) [
      | inl tape ↦
          let (n, below, digit, same) = drive_at_found (drop 3 text) u tape.1 in
          let spelled = drive_spelled text n below (spelled_is (take 3 text) (codes "MTA") tape.0) digit in
          subst (λ (v : UnitName). IsUnit text v) same (drive text n below spelled)
      | inr other ↦ absurd (cc)
    ]

digit_alike : (b n : ℕ) → n < 8 → to_ascii_uppercase b ≡ 48 + n → b ≡ 48 + n
digit_alike b n below h = grind (arith, nat_tests)

drive_at_is : (rest : List ℕ) (n : ℕ) → n < 8 → str_to_ascii_uppercase rest ≡ (48 + n) ∷ [] → drive_at rest ≡ Some (drive_unit n)
drive_at_is [] n below h = absurd (cc)
drive_at_is (b ∷ []) n below h =
    let upper : to_ascii_uppercase b ≡ 48 + n = cc in
    let same = digit_alike b n below upper in
    let value : b - 48 ≡ n = omega arith in
    rw (le-leb 48 b (omega arith), lt-ltb b 56 (omega arith)) (ap (λ (m : ℕ). Some (drive_unit m)) value)
drive_at_is (b ∷ c ∷ more) n below h = absurd (cc)

drive_reads : (text : List ℕ) (n : ℕ) → n < 8 → IsSpelled text (drive_name n) → drive_of text ≡ Some (drive_unit n)
unfolding drive_of
drive_reads text n below h =
    let tape : IsSpelled (take 3 text) (codes "MTA") = sym (take-map to_ascii_uppercase 3 text) ∙ ap (take 3) h in
    let digit : str_to_ascii_uppercase (drop 3 text) ≡ (48 + n) ∷ [] = sym (drop-map to_ascii_uppercase 3 text) ∙ ap (drop 3) h in
    rw (is_spelled_so (take 3 text) (codes "MTA") tape) (drive_at_is (drop 3 text) n below digit)

-- no kind is named as a drive
drive_apart : (kind : Kind) (n : ℕ) → is_spelled (kind_name kind) (drive_name n) ≡ false
drive_apart kind n = every-kind (λ (k : Kind). is_spelled (kind_name k) (drive_name n) ≡ false) (refl, refl, refl, refl, refl, refl, refl, refl, refl, refl, refl) kind

kind_is_no_drive : (text : List ℕ) (kind : Kind) (n : ℕ) → IsSpelled text (kind_name kind) → IsSpelled text (drive_name n) → ⊥
kind_is_no_drive text kind n one other =
    both_ways (is_spelled (kind_name kind) (drive_name n)) (drive_apart kind n) (spelled_alike text (kind_name kind) (drive_name n) one other)

pub unit_found : (text : List ℕ) (u : UnitName) → unit_of text ≡ Some u → IsUnit text u
unfolding unit_of
unit_found text u h =
    elim (either_answer (option_map unit_alone (kind_named unit_kinds text)) (drive_of text) u h) [
      | inl kind ↦
          let (k, named, same) = mapped unit_alone (kind_named unit_kinds text) u kind in
          subst (λ (v : UnitName). IsUnit text v) same (alone text k (kind_found unit_kinds text k named))
      | inr other ↦ drive_found text u other.1
    ]

pub unit_reads : (text : List ℕ) (u : UnitName) → IsUnit text u → unit_of text ≡ Some u
unfolding unit_of
unit_reads text u (alone _ kind is) =
    first_answer (option_map unit_alone (kind_named unit_kinds text)) (drive_of text) (unit_alone kind)
    (ap (option_map unit_alone) (kind_reads unit_kinds text kind refl is))
unit_reads text u (drive _ n below is) =
    let no_kind = none_from (kind_named unit_kinds text) (λ kind named. kind_is_no_drive text kind n (kind_found unit_kinds text kind named).spelled is) in
    second_answer (option_map unit_alone (kind_named unit_kinds text)) (drive_of text) (Some (drive_unit n)) (ap (option_map unit_alone) no_kind) (drive_reads text n below is)
