-- Numbers with a mark: the addresses of a DUMP, and a size of memory in K words.
use Rattle.std.proofs.Common.{◌≡◌, ◌⊎◌, inl, inr, ℕ, ◌-◌, ◌≤◌, suc, Bool, true, false, ◌||◌, ◌==◌, Option, Some, None, List, [], ◌∷◌, ◌++◌, length, take, get_or, refl, ap, sym, ◌∙◌, subst, arith, length-append}
use Rattle.std.proofs.lemmas.Bool.{or_cases, or_left, or_right, eqb-true, eq-eqb, false_from_ne_true}
use Rattle.std.proofs.lemmas.List.{take_at}
use Rattle.nova_word.specs.Numbers.{IsDigit}
use Rattle.operand_forms.specs.declared.listing.Item.TheVariants.{Range}
use Rattle.operand_forms.specs.Views.{some_behind}
use Rattle.operand_forms.specs.Operands.{both, octal, decimal, front, behind}
use Rattle.operand_forms.proofs.ChoiceLemmas.{chosen, two_answers, put_together}
use Rattle.operand_forms.proofs.MarkLemmas.{range_none}
use Rattle.operand_forms.proofs.NothingLemmas.{no_octal}
use Rattle.operand_forms.proofs.NumberLemmas.{octal_found, octal_reads, decimal_found, decimal_reads, number_lacks}
use Rattle.operand_forms.proofs.SpellingLemmas.{lacks}
use Rattle.operand_forms.proofs.SplitLemmas.{front_is, behind_is, split_behind}
use Rattle.scp_parser.specs.Forms.{AreAddresses, between, IsSize, kilo}
use Rattle.scp_parser.specs.Operands.{addresses_of, ends_with, all_but_last, size_of}

-- two addresses

pub addresses_found : (text : List ℕ) (x : ℕ × ℕ) → addresses_of text ≡ Some x → AreAddresses text x
unfolding addresses_of
addresses_found text x h =
    let two = two_answers (λ (a b : ℕ). (a, b)) (octal (front 45 text)) (octal (behind 45 text)) x h in
    let from = octal_found (front 45 text) two.left two.first in
    let to = octal_found (behind 45 text) two.right two.second in
    subst (λ (t : List ℕ). AreAddresses t x) (sym (split_behind 45 text to.is.some))
    (subst (λ (y : ℕ × ℕ). AreAddresses (front 45 text ++ 45 ∷ behind 45 text) y) two.made (between (front 45 text) (behind 45 text) two.left two.right from to))

pub addresses_read : (text : List ℕ) (x : ℕ × ℕ) → AreAddresses text x → addresses_of text ≡ Some x
unfolding addresses_of
addresses_read text x (between from to a b first second) =
    let no_digit : IsDigit 8 45 → ⊥ = λ digit. omega (arith, digit.0) in
    let none : lacks 45 from ≡ true = number_lacks 8 _ 45 from a first no_digit in
    let left : octal (front 45 (from ++ 45 ∷ to)) ≡ Some a = ap octal (front_is 45 from to none) ∙ octal_reads from a first in
    let right : octal (behind 45 (from ++ 45 ∷ to)) ≡ Some b = ap octal (behind_is 45 from to none) ∙ octal_reads to b second in
    put_together (λ (a b : ℕ). (a, b)) _ _ a b left right

pub no_addresses : addresses_of [] ≡ None
unfolding addresses_of
no_addresses = rw no_octal refl

both_missing : {A B C D : Type 0} (f : A → B → C) (g : A → B → D) (a : Option A) (b : Option B) → both f a b ≡ None → both g a b ≡ None
both_missing f g (Some x) (Some y) h = absurd (cc h)
both_missing f g (Some x) None h = refl
both_missing f g None b h = refl

-- a text without the mark is no two addresses
pub addresses_none : (text : List ℕ) → some_behind 45 text ≡ None → addresses_of text ≡ None
unfolding addresses_of
addresses_none text h = both_missing (λ a b. Range a b) (λ (a b : ℕ). (a, b)) (octal (front 45 text)) (octal (behind 45 text)) (range_none text h)

-- the byte at the end of a text

-- a text has a byte at its end that passes
pub record Last (test : ℕ → Bool) (text : List ℕ) : Type 0 where
  pub byte : ℕ
  pub spelled : text ≡ all_but_last text ++ byte ∷ []
  pub passes : test byte ≡ true

but_last : (b c : ℕ) (more : List ℕ) → all_but_last (b ∷ c ∷ more) ≡ b ∷ all_but_last (c ∷ more)
but_last b c more =
    let one : length (b ∷ c ∷ more) - 1 ≡ suc (length (c ∷ more) - 1) = omega arith in
    ap (λ (n : ℕ). take n (b ∷ c ∷ more)) one

pub last_of : (test : ℕ → Bool) (text : List ℕ) → ends_with test text ≡ true → Last test text
last_of test [] h = absurd (cc)
last_of test (b ∷ []) h = record { byte = b; spelled = refl; passes = h }
last_of test (b ∷ c ∷ more) h =
    let behind = last_of test (c ∷ more) h in
    record {
      byte = behind.byte;
      spelled = ap (λ (t : List ℕ). b ∷ t) behind.spelled ∙ ap (λ (t : List ℕ). t ++ behind.byte ∷ []) (sym (but_last b c more));
      passes = behind.passes;
    }

pub ends_in : (test : ℕ → Bool) (text : List ℕ) (byte : ℕ) → ends_with test (text ++ byte ∷ []) ≡ test byte
ends_in test [] byte = refl
ends_in test (b ∷ []) byte = refl
ends_in test (b ∷ c ∷ more) byte = ends_in test (c ∷ more) byte

pub before_last : (text : List ℕ) (byte : ℕ) → all_but_last (text ++ byte ∷ []) ≡ text
before_last text byte = take_at text (byte ∷ []) (length (text ++ byte ∷ []) - 1) (omega (arith, length-append text (byte ∷ [])))

-- sizes

k_is : (b : ℕ) → (b == 75 || b == 107) ≡ true → (b ≡ 75) ⊎ (b ≡ 107)
k_is b h = elim (or_cases (b == 75) (b == 107) h) [ inl capital ↦ inl (eqb-true b 75 capital) | inr small ↦ inr (eqb-true b 107 small) ]

k_passes : (b : ℕ) → (b ≡ 75) ⊎ (b ≡ 107) → (b == 75 || b == 107) ≡ true
k_passes b (inl capital) = or_left (b == 75) (b == 107) (eq-eqb b 75 capital)
k_passes b (inr small) = or_right (b == 75) (b == 107) (eq-eqb b 107 small)

pub size_found : (text : List ℕ) (n : ℕ) → size_of text ≡ Some n → IsSize text n
unfolding size_of
size_found text n h =
    elim (chosen (ends_with (λ b. b == 75 || b == 107) text) (decimal (all_but_last text)) None (Some n) h) [
      | inl here ↦
          let last = last_of (λ b. b == 75 || b == 107) text here.0 in
          subst (λ (t : List ℕ). IsSize t n) (sym last.spelled)
          (kilo (all_but_last text) last.byte n (decimal_found (all_but_last text) n here.1) (k_is last.byte last.passes))
      | inr other ↦ absurd (cc)
    ]

pub size_reads : (text : List ℕ) (n : ℕ) → IsSize text n → size_of text ≡ Some n
unfolding size_of
size_reads text n (kilo digits k _ number is) =
    rw (ends_in (λ b. b == 75 || b == 107) digits k ∙ k_passes k is, before_last digits k) (decimal_reads digits n number)

-- the same by the last byte itself

abbrev pub last_byte : List ℕ → ℕ
last_byte text = get_or text (length text - 1) 0

byte_behind : (b c : ℕ) (more : List ℕ) → last_byte (b ∷ c ∷ more) ≡ last_byte (c ∷ more)
byte_behind b c more =
    let one : length (b ∷ c ∷ more) - 1 ≡ suc (length (c ∷ more) - 1) = omega arith in
    ap (λ (n : ℕ). get_or (b ∷ c ∷ more) n 0) one

pub ends_last : (test : ℕ → Bool) (text : List ℕ) → 1 ≤ length text → ends_with test text ≡ test (last_byte text)
ends_last test [] some = absurd (omega arith)
ends_last test (b ∷ []) some = refl
ends_last test (b ∷ c ∷ more) some = ends_last test (c ∷ more) (omega arith) ∙ ap test (sym (byte_behind b c more))

pub size_at : (text : List ℕ) → 1 ≤ length text → (last_byte text ≡ 75) ⊎ (last_byte text ≡ 107) → size_of text ≡ decimal (all_but_last text)
unfolding size_of
size_at text some is = rw (ends_last (λ b. b == 75 || b == 107) text some ∙ k_passes (last_byte text) is) refl

pub size_not : (text : List ℕ) → 1 ≤ length text → ((last_byte text ≡ 75) ⊎ (last_byte text ≡ 107) → ⊥) → size_of text ≡ None
unfolding size_of
size_not text some never =
    let no : (last_byte text == 75 || last_byte text == 107) ≡ false = false_from_ne_true (last_byte text == 75 || last_byte text == 107) (λ h. never (k_is (last_byte text) h)) in
    rw (ends_last (λ b. b == 75 || b == 107) text some ∙ no) refl

pub ruleset sizes = (size_at, size_not)

pub no_size : size_of [] ≡ None
unfolding size_of
no_size = refl
