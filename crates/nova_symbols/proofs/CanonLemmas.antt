-- Canonical texts read back: the tables by trying each entry, and the rest by the fields of the word.
use Rattle.std.specs.Prelude.{not}
use Rattle.std.specs.List.{prefix_len, position_or_len}
use Rattle.std.proofs.lemmas.List.{take_at, drop_at}
use Rattle.nova_word.specs.Bits.{bits}
use Rattle.nova_word.specs.Numbers.{octal_digits}
use Rattle.std.proofs.Common.{drop, take, ◌≡◌, ℕ, ◌+◌, ◌-◌, ◌*◌, ◌/◌, ◌%◌, ◌<◌, ◌≤◌, zero, suc, Bool, true, false, ◌&&◌, cond, eqb, ltb, Option, Some, None, Result, Ok, Err, List, [], ◌∷◌, ◌++◌, length, refl, ap, ◌∙◌, subst, arith, append_assoc}
use Rattle.std.proofs.lemmas.Bool.{eqb-true, eqb-false, ltb-true, ltb-false}
use Rattle.std.proofs.lemmas.Slice.Eq.{bytes_eq-Decides}
use Rattle.std.specs.Str.{bytes_eq}
use Rattle.line_text.specs.Words.{is_blank, word_at, past_blanks}
use Rattle.nova_symbols.specs.declared.fault.SymbolFault.{SymbolFault}
use Rattle.nova_symbols.specs.declared.names.Shape.{Shape}
use Rattle.nova_symbols.specs.declared.names.Shape.TheVariants.{Alone, Processor, Memory, Load, Arithmetic, Transfer, Device}
use Rattle.nova_symbols.specs.declared.names.Naming.{Naming}
use Rattle.nova_symbols.specs.Names.{entry, memory_names, load_names, indirect_marks, arithmetic_names, carry_letters, shift_letters, no_load_marks}
use Rattle.nova_symbols.specs.Naming.{naming, memory_named, letter, arithmetic_letters, arithmetic_named, special_named, transfer_named, named, device_named}
use Rattle.nova_symbols.specs.Operands.{◌>>=◌, operand_at, after_comma, comma_at, is_octal, number, accumulator_at, index_at, device_number_at, device_at, skip_at, negative, relative, signed, indexed, not_indexed, absolute, address, indirect, target_at, ended}
use Rattle.nova_symbols.specs.Canon.{short_octal, signed_octal, address_text, target_text, memory_text, load_text, skip_text, arithmetic_text, canon, input_output_text, transfer_text, device_alone_text, accumulator_device_text, device_text}
use Rattle.nova_symbols.specs.Reading.{reading, read_from_end, with_place, named_operands, operands, memory_operands, load_operands, arithmetic_operands, skip_operand, processor_operand, transfer_operands, device_operand, device_operands}

-- a test of each number below a bound
abbrev pub every : ℕ → (ℕ → Bool) → Bool
every zero test = true
every (suc n) test = test n && every n test

both : (a b : Bool) → (a && b) ≡ true → (a ≡ true) × (b ≡ true)
both true true h = (refl, refl)
both true false h = cc
both false b h = cc

pub every_at : (n : ℕ) (test : ℕ → Bool) (k : ℕ) → every n test ≡ true → k < n → test k ≡ true
every_at zero test k h below = absurd (omega arith)
every_at (suc n) test k h below =
    let parts = both (test n) (every n test) h in
    elim (eqb k n) as (λ (e : Bool). eqb k n ≡ e → test k ≡ true) [
      | true ↦ λ is. ap test (eqb-true k n is) ∙ parts.0
      | false ↦ λ is. every_at n test k parts.1 (omega (arith, eqb-false k n is))
    ] refl

-- a reader answered a number and what follows it
abbrev pub is_reading : Result (ℕ × List ℕ) SymbolFault → ℕ → List ℕ → Bool
is_reading (Ok x) n rest = eqb x.0 n && bytes_eq x.1 rest
is_reading (Err e) n rest = false

pub reading_is : (r : Result (ℕ × List ℕ) SymbolFault) (n : ℕ) (rest : List ℕ) → is_reading r n rest ≡ true → r ≡ Ok (n, rest)
reading_is (Ok x) n rest h =
    let parts = both (eqb x.0 n) (bytes_eq x.1 rest) h in
    let first = eqb-true x.0 n parts.0 in
    let second = (bytes_eq-Decides x.1 rest).0 parts.1 in
    ap (λ (m : ℕ). Ok (m, x.1)) first ∙ ap (λ (l : List ℕ). Ok (n, l)) second
reading_is (Err e) n rest h = cc

-- the operand of a memory reference by its fields
abbrev pub target_of : ℕ → ℕ → ℕ → List ℕ
target_of i x d = entry indirect_marks i ++ address_text x d

abbrev target_reads : ℕ → ℕ → ℕ → Bool
target_reads i x d = is_reading (target_at (past_blanks (target_of i x d))) (1024 * i + 256 * x + d) []

targets : every 2 (λ i. every 4 (λ x. every 256 (target_reads i x))) ≡ true
unfolding past_blanks operand_at after_comma is_octal number negative relative signed indexed not_indexed absolute address indirect target_at index_at short_octal signed_octal address_text
targets = refl

-- a blank before a text
past_blank : (text : List ℕ) → past_blanks (32 ∷ text) ≡ past_blanks text
unfolding past_blanks
past_blank text =
    let n = prefix_len (λ b. not (not (is_blank b))) text in
    let one : 1 + n ≡ suc n = omega arith in
    ap (λ (k : ℕ). drop k (32 ∷ text)) one

-- the first word of a text, where a blank follows it
abbrev no_blank : List ℕ → Bool
no_blank [] = true
no_blank (b ∷ more) = not (is_blank b) && no_blank more

memory_word : (k : ℕ) (text : List ℕ) → k < 4 → read_from_end (entry memory_names k ++ 32 ∷ text) ≡ memory_operands (2048 * k) (past_blanks (32 ∷ text))
unfolding read_from_end word_at named memory_named operands
memory_word zero text h = refl
memory_word (suc zero) text h = refl
memory_word (suc (suc zero)) text h = refl
memory_word (suc (suc (suc zero))) text h = refl
memory_word (suc (suc (suc (suc k)))) text h = absurd (omega arith)

load_word : (k : ℕ) (text : List ℕ) → k < 2 → read_from_end (entry load_names k ++ 32 ∷ text) ≡ load_operands (8192 * (k + 1)) (past_blanks (32 ∷ text))
unfolding read_from_end word_at named memory_named operands
load_word zero text h = refl
load_word (suc zero) text h = refl
load_word (suc (suc k)) text h = absurd (omega arith)

target_back : (i x d b : ℕ) → i < 2 → x < 4 → d < 256 → memory_operands b (past_blanks (target_of i x d)) ≡ Ok (b + (1024 * i + 256 * x + d))
unfolding memory_operands ended
target_back i x d b hi hx hd =
    let reads = every_at 256 (target_reads i x) d (every_at 4 (λ x. every 256 (target_reads i x)) x (every_at 2 (λ i. every 4 (λ x. every 256 (target_reads i x))) i targets hi) hx) hd in
    let is = reading_is (target_at (past_blanks (target_of i x d))) (1024 * i + 256 * x + d) [] reads in
    ap (λ (r : Result (ℕ × List ℕ) SymbolFault). r >>= (λ t. ended (b + t.0) t.1)) is

load_accumulator : (a b : ℕ) (text : List ℕ) → a < 4 → load_operands b (past_blanks (octal_digits 1 a ++ 44 ∷ text)) ≡ memory_operands (b + 2048 * a) (past_blanks text)
unfolding load_operands accumulator_at operand_at number is_octal comma_at after_comma past_blanks
load_accumulator zero b text h = refl
load_accumulator (suc zero) b text h = refl
load_accumulator (suc (suc zero)) b text h = refl
load_accumulator (suc (suc (suc zero))) b text h = refl
load_accumulator (suc (suc (suc (suc a)))) b text h = absurd (omega arith)

memory_back : (w : ℕ) → w < 8192 → read_from_end (memory_text w) ≡ Ok w
unfolding memory_text target_text
memory_back w h =
    let k = bits 3 4 w in
    let i = bits 5 5 w in
    let x = bits 6 7 w in
    let d = bits 8 15 w in
    let parts : 2048 * k + (1024 * i + 256 * x + d) ≡ w = omega arith in
    memory_word k (target_of i x d) (omega arith) ∙ ap (memory_operands (2048 * k)) (past_blank (target_of i x d)) ∙ target_back i x d (2048 * k) (omega arith) (omega arith) (omega arith) ∙ ap (λ (n : ℕ). Ok n) parts

load_back : (w : ℕ) → 8192 ≤ w → w < 24576 → read_from_end (load_text w) ≡ Ok w
unfolding load_text target_text
load_back w low h =
    let k = bits 1 2 w - 1 in
    let a = bits 3 4 w in
    let i = bits 5 5 w in
    let x = bits 6 7 w in
    let d = bits 8 15 w in
    let text = octal_digits 1 a ++ 44 ∷ target_of i x d in
    let parts : 8192 * (k + 1) + 2048 * a + (1024 * i + 256 * x + d) ≡ w = omega arith in
    ap read_from_end (append_assoc (entry load_names k) (32 ∷ octal_digits 1 a) (44 ∷ target_of i x d)) ∙ load_word k text (omega arith) ∙ ap (load_operands (8192 * (k + 1))) (past_blank text) ∙ load_accumulator a (8192 * (k + 1)) (target_of i x d) (omega arith) ∙ target_back i x d (8192 * (k + 1) + 2048 * a) (omega arith) (omega arith) (omega arith) ∙ ap (λ (n : ℕ). Ok n) parts

place_of_blank : (name text : List ℕ) → no_blank name ≡ true → position_or_len is_blank (name ++ 32 ∷ text) ≡ length name
place_of_blank [] text h = refl
place_of_blank (b ∷ more) text h =
    let parts = both (not (is_blank b)) (no_blank more) h in
    let rest = place_of_blank more text parts.1 in
    let n = position_or_len is_blank (more ++ 32 ∷ text) in
    let one : 1 + n ≡ suc (length more) = omega (arith, rest) in
    ap (λ (c : Bool). cond c (1 + n) 0) parts.0 ∙ one

-- the first word, and a blank behind it
word_split : (name text : List ℕ) → no_blank name ≡ true → word_at (name ++ 32 ∷ text) ≡ (name, 32 ∷ text)
unfolding word_at
word_split name text none =
    let place = place_of_blank name text none in
    ap (λ (n : ℕ). (take n (name ++ 32 ∷ text), drop n (name ++ 32 ∷ text))) place ∙ ap (λ (t : List ℕ). (t, drop (length name) (name ++ 32 ∷ text))) (take_at name (32 ∷ text) (length name) refl) ∙ ap (λ (t : List ℕ). (name, t)) (drop_at name (32 ∷ text) (length name) refl)

-- an arithmetic name with its letters
abbrev pub arithmetic_word : ℕ → ℕ → ℕ → ℕ → List ℕ
arithmetic_word f c s m = entry arithmetic_names f ++ entry carry_letters c ++ entry shift_letters s ++ entry no_load_marks m

abbrev arithmetic_bits : ℕ → ℕ → ℕ → ℕ → ℕ
arithmetic_bits f c s m = 32768 + 256 * f + (16 * c + 64 * s + 8 * m)

abbrev is_arithmetic_shape : Shape → Bool
is_arithmetic_shape Arithmetic = true
is_arithmetic_shape _ = false

abbrev is_arithmetic : Option Naming → ℕ → Bool
is_arithmetic None n = false
is_arithmetic (Some x) n = is_arithmetic_shape x.shape && eqb x.bits n

shape_is : (s : Shape) → is_arithmetic_shape s ≡ true → s ≡ Arithmetic
shape_is Arithmetic h = refl
shape_is Alone h = cc
shape_is Processor h = cc
shape_is Memory h = cc
shape_is Load h = cc
shape_is Transfer h = cc
shape_is Device h = cc

naming_is : (r : Option Naming) (n : ℕ) → is_arithmetic r n ≡ true → r ≡ Some (naming Arithmetic n)
naming_is None n h = cc
naming_is (Some x) n h =
    let parts = both (is_arithmetic_shape x.shape) (eqb x.bits n) h in
    ap (λ (s : Shape). Some (naming s x.bits)) (shape_is x.shape parts.0) ∙ ap (λ (b : ℕ). Some (naming Arithmetic b)) (eqb-true x.bits n parts.1)

abbrev arithmetic_word_reads : ℕ → ℕ → ℕ → ℕ → Bool
arithmetic_word_reads f c s m =
    no_blank (arithmetic_word f c s m) && is_arithmetic (named (arithmetic_word f c s m)) (arithmetic_bits f c s m)

arithmetic_words : every 8 (λ f. every 4 (λ c. every 4 (λ s. every 2 (λ m. arithmetic_word_reads f c s m)))) ≡ true
unfolding named memory_named arithmetic_named arithmetic_letters letter
arithmetic_words = refl

arithmetic_named_back : (f c s m : ℕ) (text : List ℕ) → f < 8 → c < 4 → s < 4 → m < 2 → read_from_end (arithmetic_word f c s m ++ 32 ∷ text) ≡ arithmetic_operands (arithmetic_bits f c s m) (past_blanks (32 ∷ text))
unfolding read_from_end operands
arithmetic_named_back f c s m text hf hc hs hm =
    let word = arithmetic_word f c s m in
    let reads = every_at 2 (λ m. arithmetic_word_reads f c s m) m (every_at 4 (λ s. every 2 (λ m. arithmetic_word_reads f c s m)) s (every_at 4 (λ c. every 4 (λ s. every 2 (λ m. arithmetic_word_reads f c s m))) c (every_at 8 (λ f. every 4 (λ c. every 4 (λ s. every 2 (λ m. arithmetic_word_reads f c s m)))) f arithmetic_words hf) hc) hs) hm in
    let parts = both (no_blank word) (is_arithmetic (named word) (arithmetic_bits f c s m)) reads in
    let split = word_split word text parts.0 in
    let is = naming_is (named word) (arithmetic_bits f c s m) parts.1 in
    ap (λ (p : List ℕ × List ℕ). named_operands (named p.0) p.1) split ∙ ap (λ (n : Option Naming). named_operands n (32 ∷ text)) is

-- the second accumulator and the skip
arithmetic_second : ℕ → List ℕ → Result ℕ SymbolFault
arithmetic_second b text = accumulator_at text >>= λ d. skip_operand (after_comma d.1) (b + 2048 * d.0) d.1

first_accumulator : (a b : ℕ) (text : List ℕ) → a < 4 → arithmetic_operands b (past_blanks (octal_digits 1 a ++ 44 ∷ text)) ≡ arithmetic_second (b + 8192 * a) (past_blanks text)
unfolding arithmetic_operands arithmetic_second accumulator_at operand_at number is_octal comma_at after_comma past_blanks
first_accumulator zero b text h = refl
first_accumulator (suc zero) b text h = refl
first_accumulator (suc (suc zero)) b text h = refl
first_accumulator (suc (suc (suc zero))) b text h = refl
first_accumulator (suc (suc (suc (suc a)))) b text h = absurd (omega arith)

abbrev second_reads : ℕ → ℕ → Bool
second_reads d k = is_reading (accumulator_at (past_blanks (octal_digits 1 d ++ skip_text k))) d (skip_text k)

seconds : every 4 (λ d. every 8 (λ k. second_reads d k)) ≡ true
unfolding accumulator_at operand_at number is_octal past_blanks skip_text
seconds = refl

skip_back : (k b : ℕ) → k < 8 → skip_operand (after_comma (skip_text k)) b (skip_text k) ≡ Ok (b + k)
unfolding skip_text after_comma past_blanks skip_at operand_at ended
skip_back zero b h = let same : b ≡ b + 0 = omega arith in ap (λ (n : ℕ). Ok n) same
skip_back (suc zero) b h = refl
skip_back (suc (suc zero)) b h = refl
skip_back (suc (suc (suc zero))) b h = refl
skip_back (suc (suc (suc (suc zero)))) b h = refl
skip_back (suc (suc (suc (suc (suc zero))))) b h = refl
skip_back (suc (suc (suc (suc (suc (suc zero)))))) b h = refl
skip_back (suc (suc (suc (suc (suc (suc (suc zero))))))) b h = refl
skip_back (suc (suc (suc (suc (suc (suc (suc (suc k)))))))) b h = absurd (omega arith)

second_back : (d k b : ℕ) → d < 4 → k < 8 → arithmetic_second b (past_blanks (octal_digits 1 d ++ skip_text k)) ≡ Ok (b + 2048 * d + k)
unfolding arithmetic_second
second_back d k b hd hk =
    let reads = every_at 8 (λ k. second_reads d k) k (every_at 4 (λ d. every 8 (λ k. second_reads d k)) d seconds hd) hk in
    let is = reading_is (accumulator_at (past_blanks (octal_digits 1 d ++ skip_text k))) d (skip_text k) reads in
    ap (λ (r : Result (ℕ × List ℕ) SymbolFault). r >>= (λ x. skip_operand (after_comma x.1) (b + 2048 * x.0) x.1)) is ∙ skip_back k (b + 2048 * d) hk

arithmetic_back : (w : ℕ) → 32768 ≤ w → w < 65536 → read_from_end (arithmetic_text w) ≡ Ok w
unfolding arithmetic_text
arithmetic_back w low h =
    let f = bits 5 7 w in
    let c = bits 10 11 w in
    let s = bits 8 9 w in
    let m = bits 12 12 w in
    let a = bits 1 2 w in
    let d = bits 3 4 w in
    let k = bits 13 15 w in
    let word = arithmetic_word f c s m in
    let last = octal_digits 1 d ++ skip_text k in
    let text = octal_digits 1 a ++ 44 ∷ last in
    let n = arithmetic_bits f c s m in
    let parts : n + 8192 * a + 2048 * d + k ≡ w = omega arith in
    let grouped : word ++ 32 ∷ octal_digits 1 a ++ 44 ∷ octal_digits 1 d ++ skip_text k ≡ word ++ 32 ∷ text = append_assoc (word ++ 32 ∷ octal_digits 1 a) (44 ∷ octal_digits 1 d) (skip_text k) ∙ append_assoc word (32 ∷ octal_digits 1 a) (44 ∷ last) in
    ap read_from_end grouped ∙ arithmetic_named_back f c s m text (omega arith) (omega arith) (omega arith) (omega arith) ∙ ap (arithmetic_operands n) (past_blank text) ∙ first_accumulator a n last (omega arith) ∙ second_back d k (n + 8192 * a) (omega arith) (omega arith) ∙ ap (λ (v : ℕ). Ok v) parts

abbrev is_word : Result ℕ SymbolFault → ℕ → Bool
is_word (Ok v) w = eqb v w
is_word (Err e) w = false

input_outputs : every 32 (λ a. every 256 (λ b. is_word (reading (input_output_text (0o60000 + 256 * a + b))) (0o60000 + 256 * a + b))) ≡ true
unfolding past_blanks operand_at after_comma is_octal number accumulator_at comma_at device_number_at device_at device_named skip_at ended word_at named memory_named arithmetic_named letter arithmetic_letters special_named transfer_named reading read_from_end operands processor_operand transfer_operands device_operand device_operands input_output_text transfer_text device_alone_text accumulator_device_text device_text
input_outputs = refl

word_is : (r : Result ℕ SymbolFault) (w : ℕ) → is_word r w ≡ true → r ≡ Ok w
word_is (Ok v) w h = ap (λ (n : ℕ). Ok n) (eqb-true v w h)
word_is (Err e) w h = cc

input_output_back : (w : ℕ) → 24576 ≤ w → w < 32768 → reading (input_output_text w) ≡ Ok w
input_output_back w low h =
    let a = (w - 24576) / 256 in
    let b = w % 256 in
    let parts : 0o60000 + 256 * a + b ≡ w = omega arith in
    let test : ℕ → ℕ → Bool = λ a b. is_word (reading (input_output_text (0o60000 + 256 * a + b))) (0o60000 + 256 * a + b) in
    let reads = every_at 256 (test a) b (every_at 32 (λ a. every 256 (test a)) a input_outputs (omega arith)) (omega arith) in
    subst (λ (v : ℕ). reading (input_output_text v) ≡ Ok v) parts (word_is (reading (input_output_text (0o60000 + 256 * a + b))) (0o60000 + 256 * a + b) reads)

whole : (text : List ℕ) (w : ℕ) → read_from_end text ≡ Ok w → reading text ≡ Ok w
unfolding reading
whole text w h = ap (with_place (length text)) h

by_range : (P : List ℕ → Type 0) (below above : List ℕ) (w n : ℕ) → (w < n → P below) → (n ≤ w → P above) → P (cond (ltb w n) below above)
by_range P below above w n low high =
    elim (ltb w n) as (λ (e : Bool). ltb w n ≡ e → P (cond e below above)) [
      | true ↦ λ is. low (ltb-true w n is)
      | false ↦ λ is. high (ltb-false w n is)
    ] refl

-- each canonical text reads back
pub canon_back : (w : ℕ) → w < 65536 → reading (canon w) ≡ Ok w
unfolding canon
canon_back w h =
    let P : List ℕ → Type 0 = λ text. reading text ≡ Ok w in
    by_range P (memory_text w) _ w 8192 (λ low. whole (memory_text w) w (memory_back w low)) (λ from_load. by_range P (load_text w) _ w 24576 (λ low. whole (load_text w) w (load_back w from_load low)) (λ from_io. by_range P (input_output_text w) (arithmetic_text w) w 32768 (λ low. input_output_back w from_io low) (λ from_arithmetic. whole (arithmetic_text w) w (arithmetic_back w from_arithmetic h))))
