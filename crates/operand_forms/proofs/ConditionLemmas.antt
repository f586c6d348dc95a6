-- Conditions: a comparison with a value, and before it a mask or none.
use Rattle.std.specs.Prelude.{not}
use Rattle.std.proofs.Common.{◌≡◌, inl, inr, ℕ, Bool, true, false, cond, ◌==◌, Option, Some, None, List, [], ◌∷◌, ◌++◌, length, take, drop, refl, ap, sym, ◌∙◌, subst, arith}
use Rattle.std.specs.List.{list_all, position_or_len}
use Rattle.std.specs.Option.{option_map}
use Rattle.std.proofs.lemmas.Bool.{eqb-true, ne_eqb}
use Rattle.std.proofs.lemmas.List.{take-append-drop, take_at, drop_at}
use Rattle.std.proofs.lemmas.List.Sums.{list_all-from_AllPass}
use Rattle.nova_word.specs.Numbers.{IsDigit}
use Rattle.operand_forms.specs.declared.listing.Rel.{Rel}
use Rattle.operand_forms.specs.declared.listing.Rel.TheVariants.{Eq, Ne, Lt, Le, Gt, Ge}
use Rattle.operand_forms.specs.declared.listing.Condition.{Condition}
use Rattle.operand_forms.specs.Forms.{IsOctal, rel_text, IsCondition, plain, masked}
use Rattle.operand_forms.specs.Operands.{octal, two_byte_rel, one_byte_rel, Compared, with_value, comparison_of, is_rel_byte, condition_with, masked_condition, condition_of}
use Rattle.operand_forms.proofs.ChoiceLemmas.{chosen, same_some, either_answer, mapped, two_answers, put_together}
use Rattle.operand_forms.proofs.NumberLemmas.{octal_found, octal_reads}
use Rattle.operand_forms.proofs.SplitLemmas.{first_place}

-- comparisons by their bytes

rel_choice : (P : Type 0) (rel one : Rel) (b : Bool) (rest : Option Rel) → (b ≡ true → one ≡ rel → P) → (rest ≡ Some rel → P) → cond b (Some one) rest ≡ Some rel → P
rel_choice P rel one b rest here there h =
    elim (chosen b (Some one) rest (Some rel) h) [ inl first ↦ here first.0 (same_some one rel first.1) | inr second ↦ there second.1 ]

-- a first byte and a comparison that is written with it
begins : (a byte : ℕ) (more : List ℕ) (one rel : Rel) → rel_text one ≡ byte ∷ more → a == byte ≡ true → one ≡ rel → a ∷ more ≡ rel_text rel
begins a byte more one rel is first same = ap (λ (c : ℕ). c ∷ more) (eqb-true a byte first) ∙ sym is ∙ ap rel_text same

two_found : (a b : ℕ) (rel : Rel) → two_byte_rel a b ≡ Some rel → a ∷ b ∷ [] ≡ rel_text rel
two_found a b rel h =
    elim (chosen (b == 61) (cond (a == 33) (Some Ne) (cond (a == 60) (Some Le) (cond (a == 62) (Some Ge) None))) None (Some rel) h) [
      | inl equals ↦
          ap (λ (c : ℕ). a ∷ c ∷ []) (eqb-true b 61 equals.0)
          ∙ rel_choice (a ∷ 61 ∷ [] ≡ rel_text rel) rel Ne (a == 33) _ (begins a 33 (61 ∷ []) Ne rel refl)
          (rel_choice (a ∷ 61 ∷ [] ≡ rel_text rel) rel Le (a == 60) _ (begins a 60 (61 ∷ []) Le rel refl)
          (rel_choice (a ∷ 61 ∷ [] ≡ rel_text rel) rel Ge (a == 62) _ (begins a 62 (61 ∷ []) Ge rel refl) (λ none. absurd (cc)))) equals.1
      | inr other ↦ absurd (cc)
    ]

one_found : (a : ℕ) (rel : Rel) → one_byte_rel a ≡ Some rel → a ∷ [] ≡ rel_text rel
one_found a rel =
    rel_choice (a ∷ [] ≡ rel_text rel) rel Eq (a == 61) _ (begins a 61 [] Eq rel refl)
    (rel_choice (a ∷ [] ≡ rel_text rel) rel Lt (a == 60) _ (begins a 60 [] Lt rel refl)
    (rel_choice (a ∷ [] ≡ rel_text rel) rel Gt (a == 62) _ (begins a 62 [] Gt rel refl) (λ none. absurd (cc))))

-- a comparison and its value
pub record IsCompared (text : List ℕ) (c : Compared) : Type 0 where
  pub digits : List ℕ
  pub is : IsOctal digits c.1
  pub spelled : text ≡ rel_text c.0 ++ digits

value_found : (rel : Option Rel) (bytes digits : List ℕ) (c : Compared) → ((r : Rel) → rel ≡ Some r → bytes ≡ rel_text r) → with_value rel digits ≡ Some c → IsCompared (bytes ++ digits) c
value_found rel bytes digits c is h =
    let two = two_answers (λ r n. (r, n)) rel (octal digits) c h in
    subst (λ (d : Compared). IsCompared (bytes ++ digits) d) two.made
    (record { digits = digits; is = octal_found digits two.right two.second; spelled = ap (λ (t : List ℕ). t ++ digits) (is two.left two.first) })

pub comparison_found : (text : List ℕ) (c : Compared) → comparison_of text ≡ Some c → IsCompared text c
unfolding comparison_of
comparison_found [] c h = absurd (cc)
comparison_found (a ∷ []) c h = absurd (cc)
comparison_found (a ∷ b ∷ more) c h =
    elim (either_answer (with_value (two_byte_rel a b) more) (with_value (one_byte_rel a) (b ∷ more)) c h) [
      | inl two ↦ value_found (two_byte_rel a b) (a ∷ b ∷ []) more c (two_found a b) two
      | inr one ↦ value_found (one_byte_rel a) (a ∷ []) (b ∷ more) c (one_found a) one.1
    ]

-- the first digit of a value is no second byte of a comparison
no_second : (a b : ℕ) (more : List ℕ) (n : ℕ) → IsOctal (b ∷ more) n → two_byte_rel a b ≡ None
no_second a b more n h =
    let digit = h.is.digits 0 0 (omega arith) in
    let other : b == 61 ≡ false = ne_eqb b 61 (λ e. omega (arith, e, digit.1)) in
    rw other refl

one_byte_reads : (a b : ℕ) (more : List ℕ) (rel : Rel) (n : ℕ) → one_byte_rel a ≡ Some rel → IsOctal (b ∷ more) n → comparison_of (a ∷ b ∷ more) ≡ Some (rel, n)
unfolding comparison_of
one_byte_reads a b more rel n is h = rw (no_second a b more n h, is, octal_reads (b ∷ more) n h) refl

two_bytes_read : (a b : ℕ) (digits : List ℕ) (rel : Rel) (n : ℕ) → two_byte_rel a b ≡ Some rel → IsOctal digits n → comparison_of (a ∷ b ∷ digits) ≡ Some (rel, n)
unfolding comparison_of
two_bytes_read a b digits rel n is h = rw (is, octal_reads digits n h) refl

pub comparison_reads : (rel : Rel) (digits : List ℕ) (n : ℕ) → IsOctal digits n → comparison_of (rel_text rel ++ digits) ≡ Some (rel, n)
comparison_reads rel [] n h = absurd (omega (arith, h.is.some))
comparison_reads Eq (d ∷ more) n h = one_byte_reads 61 d more Eq n refl h
comparison_reads Lt (d ∷ more) n h = one_byte_reads 60 d more Lt n refl h
comparison_reads Gt (d ∷ more) n h = one_byte_reads 62 d more Gt n refl h
comparison_reads Ne (d ∷ more) n h = two_bytes_read 33 61 (d ∷ more) Ne n refl h
comparison_reads Le (d ∷ more) n h = two_bytes_read 60 61 (d ∷ more) Le n refl h
comparison_reads Ge (d ∷ more) n h = two_bytes_read 62 61 (d ∷ more) Ge n refl h

-- masks

digit_no_rel : (b : ℕ) → IsDigit 8 b → not (is_rel_byte b) ≡ true
digit_no_rel b digit =
    let equals : b == 61 ≡ false = ne_eqb b 61 (λ e. omega (arith, e, digit.1)) in
    let not_mark : b == 33 ≡ false = ne_eqb b 33 (λ e. omega (arith, e, digit.0)) in
    let less : b == 60 ≡ false = ne_eqb b 60 (λ e. omega (arith, e, digit.1)) in
    let greater : b == 62 ≡ false = ne_eqb b 62 (λ e. omega (arith, e, digit.1)) in
    rw (equals, not_mark, less, greater) refl

pub octal_no_rel : (text : List ℕ) (n : ℕ) → IsOctal text n → list_all (λ b. not (is_rel_byte b)) text ≡ true
octal_no_rel text n h = list_all-from_AllPass (λ b. not (is_rel_byte b)) text (λ k d l. digit_no_rel _ (h.is.digits k d l))

-- the comparison begins at the first byte of a comparison
pub rel_place : (rel : Rel) (mask digits : List ℕ) → list_all (λ b. not (is_rel_byte b)) mask ≡ true → position_or_len is_rel_byte (mask ++ (rel_text rel ++ digits)) ≡ length mask
rel_place Eq mask digits none = first_place is_rel_byte mask digits 61 none refl
rel_place Ne mask digits none = first_place is_rel_byte mask (61 ∷ digits) 33 none refl
rel_place Lt mask digits none = first_place is_rel_byte mask digits 60 none refl
rel_place Le mask digits none = first_place is_rel_byte mask (61 ∷ digits) 60 none refl
rel_place Gt mask digits none = first_place is_rel_byte mask digits 62 none refl
rel_place Ge mask digits none = first_place is_rel_byte mask (61 ∷ digits) 62 none refl

masked_reads : (mask digits : List ℕ) (rel : Rel) (m value : ℕ) → IsOctal mask m → IsOctal digits value
    → masked_condition (mask ++ (rel_text rel ++ digits)) ≡ Some (condition_with (Some m) (rel, value))
unfolding masked_condition
masked_reads mask digits rel m value first second =
    let place = sym (rel_place rel mask digits (octal_no_rel mask m first)) in
    let behind = rel_text rel ++ digits in
    let text = mask ++ behind in
    let left : octal (take (position_or_len is_rel_byte text) text) ≡ Some m = ap octal (take_at mask behind (position_or_len is_rel_byte text) place) ∙ octal_reads mask m first in
    let right : comparison_of (drop (position_or_len is_rel_byte text) text) ≡ Some (rel, value) = ap comparison_of (drop_at mask behind (position_or_len is_rel_byte text) place) ∙ comparison_reads rel digits value second in
    put_together (λ m c. condition_with (Some m) c) _ _ m (rel, value) left right

masked_found : (text : List ℕ) (c : Condition) → masked_condition text ≡ Some c → IsCondition (38 ∷ text) c
unfolding masked_condition
masked_found text c h =
    let n = position_or_len is_rel_byte text in
    let two = two_answers (λ m c. condition_with (Some m) c) (octal (take n text)) (comparison_of (drop n text)) c h in
    let compared = comparison_found (drop n text) two.right two.second in
    let split : text ≡ take n text ++ (rel_text two.right.0 ++ compared.digits) = sym (take-append-drop n text) ∙ ap (λ (t : List ℕ). take n text ++ t) compared.spelled in
    subst (λ (t : List ℕ). IsCondition (38 ∷ t) c) (sym split)
    (subst (λ (d : Condition). IsCondition (38 ∷ take n text ++ (rel_text two.right.0 ++ compared.digits)) d) two.made
    (masked (take n text) compared.digits two.right.0 two.left two.right.1 (octal_found (take n text) two.left two.first) compared.is))

plain_found : (text : List ℕ) (c : Condition) → option_map (λ c. condition_with None c) (comparison_of text) ≡ Some c → IsCondition text c
plain_found text c h =
    let (compare, read, made) = mapped (λ c. condition_with None c) (comparison_of text) c h in
    let compared = comparison_found text compare read in
    subst (λ (t : List ℕ). IsCondition t c) (sym compared.spelled)
    (subst (λ (d : Condition). IsCondition (rel_text compare.0 ++ compared.digits) d) made (plain compared.digits compare.0 compare.1 compared.is))

pub condition_found : (text : List ℕ) (c : Condition) → condition_of text ≡ Some c → IsCondition text c
unfolding condition_of
condition_found [] c h = absurd (cc)
condition_found (b ∷ more) c h =
    elim (chosen (b == 38) (masked_condition more) (option_map (λ c. condition_with None c) (comparison_of (b ∷ more))) (Some c) h) [
      | inl mark ↦ subst (λ (a : ℕ). IsCondition (a ∷ more) c) (sym (eqb-true b 38 mark.0)) (masked_found more c mark.1)
      | inr other ↦ plain_found (b ∷ more) c other.1
    ]

-- no comparison begins as a mask does
plain_first : (rel : Rel) (digits : List ℕ) → condition_of (rel_text rel ++ digits) ≡ option_map (λ c. condition_with None c) (comparison_of (rel_text rel ++ digits))
unfolding condition_of
plain_first Eq digits = refl
plain_first Ne digits = refl
plain_first Lt digits = refl
plain_first Le digits = refl
plain_first Gt digits = refl
plain_first Ge digits = refl

pub condition_reads : (text : List ℕ) (c : Condition) → IsCondition text c → condition_of text ≡ Some c
unfolding condition_of
condition_reads text c (plain digits rel value is) =
    plain_first rel digits ∙ ap (option_map (λ c. condition_with None c)) (comparison_reads rel digits value is)
condition_reads text c (masked mask digits rel m value first second) = masked_reads mask digits rel m value first second
