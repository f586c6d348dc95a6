-- Texts of each form are read: the names, by trying each one in capitals.
use Rattle.std.specs.Prelude.{slice_index}
use Rattle.std.proofs.Common.{◌≡◌, ℕ, ◌+◌, ◌*◌, ◌<◌, zero, suc, Bool, true, false, ◌&&◌, eqb, Option, Some, None, List, [], ◌∷◌, ◌++◌, take, drop, refl, ap, sym, subst, ◌∙◌, arith}
use Rattle.std.specs.Char.{to_ascii_uppercase}
use Rattle.std.specs.List.{position}
use Rattle.std.specs.Str.{bytes_eq, str_to_ascii_uppercase}
use Rattle.std.proofs.lemmas.Bool.{eqb-true, and_parts}
use Rattle.std.proofs.lemmas.List.{take-map, drop-map, map-append}
use Rattle.line_text.specs.Words.{is_blank}
use Rattle.line_text.proofs.SpellingLemmas.{capitals_twice}
use Rattle.nova_symbols.specs.declared.names.Shape.{Shape}
use Rattle.nova_symbols.specs.declared.names.Shape.TheVariants.{Alone, Processor, Memory, Load, Arithmetic, Transfer, Device}
use Rattle.nova_symbols.specs.declared.names.Naming.{Naming}
use Rattle.nova_symbols.specs.Names.{entry, memory_names, load_names, arithmetic_names, carry_letters, shift_letters, no_load_marks, transfer_names, pulse_letters, test_names, lone_words, lone_names, processor_words, processor_names}
use Rattle.nova_symbols.specs.Naming.{name_place, otherwise, naming, memory_found, load_found, memory_named, letter_found, letter, letters_end, arithmetic_letters, arithmetic_found, arithmetic_named, lone_found, processor_found, test_found, transfer_found, special_named, transfer_named, named}
use Rattle.nova_symbols.specs.Forms.{IsEntry, AreLetters, IsNamed, memory_name, load_name, arithmetic_name, lone_name, processor_name, test_name, no_transfer_name, transfer_name}
use Rattle.nova_symbols.proofs.CanonLemmas.{every, every_at}
use Rattle.nova_symbols.proofs.SplitLemmas.{free, spelled_word}

-- a word names what its capitals name

place_capitals : (table : List (List ℕ)) (text : List ℕ) → name_place table (str_to_ascii_uppercase text) ≡ name_place table text
place_capitals table text = ap (λ (t : List ℕ). position (λ name. bytes_eq name t) table) (capitals_twice text)

place_front : (table : List (List ℕ)) (n : ℕ) (text : List ℕ) → name_place table (take n (str_to_ascii_uppercase text)) ≡ name_place table (take n text)
place_front table n text = ap (name_place table) (take-map to_ascii_uppercase n text) ∙ place_capitals table (take n text)

place_behind : (table : List (List ℕ)) (n : ℕ) (text : List ℕ) → name_place table (drop n (str_to_ascii_uppercase text)) ≡ name_place table (drop n text)
place_behind table n text = ap (name_place table) (drop-map to_ascii_uppercase n text) ∙ place_capitals table (drop n text)

rest_capitals : ℕ × List ℕ → ℕ × List ℕ
rest_capitals p = (p.0, str_to_ascii_uppercase p.1)

found_capitals : (o : Option ℕ) (text : List ℕ) → letter_found o (str_to_ascii_uppercase text) ≡ rest_capitals (letter_found o text)
unfolding rest_capitals
found_capitals None text = refl
found_capitals (Some k) [] = refl
found_capitals (Some k) (b ∷ more) = refl

letter_capitals : (table : List (List ℕ)) (text : List ℕ) → letter table (str_to_ascii_uppercase text) ≡ rest_capitals (letter table text)
unfolding letter
letter_capitals table text =
    ap (λ (o : Option ℕ). letter_found o (str_to_ascii_uppercase text)) (place_front table 1 text) ∙ found_capitals (name_place table (take 1 text)) text

end_capitals : (bits : ℕ) (text : List ℕ) → letters_end bits (str_to_ascii_uppercase text) ≡ letters_end bits text
end_capitals bits [] = refl
end_capitals bits (b ∷ more) = refl

letters_capitals : (text : List ℕ) → arithmetic_letters (str_to_ascii_uppercase text) ≡ arithmetic_letters text
unfolding arithmetic_letters rest_capitals
letters_capitals text =
    let carry = letter carry_letters text in
    let shift = letter shift_letters carry.1 in
    let no_load = letter no_load_marks shift.1 in
    let last : ℕ → ℕ → ℕ × List ℕ → Option ℕ = λ c s p. letters_end (16 * c + 64 * s + 8 * p.0) p.1 in
    ap (λ (p : ℕ × List ℕ). let s = letter shift_letters p.1 in last p.0 s.0 (letter no_load_marks s.1)) (letter_capitals carry_letters text) ∙ ap (λ (s : ℕ × List ℕ). last carry.0 s.0 (letter no_load_marks s.1)) (letter_capitals shift_letters carry.1) ∙ ap (last carry.0 shift.0) (letter_capitals no_load_marks shift.1) ∙ end_capitals (16 * carry.0 + 64 * shift.0 + 8 * no_load.0) no_load.1

memory_capitals : (word : List ℕ) → memory_named (str_to_ascii_uppercase word) ≡ memory_named word
unfolding memory_named
memory_capitals word =
    ap (λ (o : Option ℕ). otherwise (memory_found o) (load_found (name_place load_names (str_to_ascii_uppercase word)))) (place_capitals memory_names word) ∙ ap (λ (o : Option ℕ). otherwise (memory_found (name_place memory_names word)) (load_found o)) (place_capitals load_names word)

arithmetic_capitals : (word : List ℕ) → arithmetic_named (str_to_ascii_uppercase word) ≡ arithmetic_named word
unfolding arithmetic_named
arithmetic_capitals word =
    let letters : arithmetic_letters (drop 3 (str_to_ascii_uppercase word)) ≡ arithmetic_letters (drop 3 word) = ap arithmetic_letters (drop-map to_ascii_uppercase 3 word) ∙ letters_capitals (drop 3 word) in
    ap (λ (o : Option ℕ). arithmetic_found o (arithmetic_letters (drop 3 (str_to_ascii_uppercase word)))) (place_front arithmetic_names 3 word) ∙ ap (arithmetic_found (name_place arithmetic_names (take 3 word))) letters

special_capitals : (word : List ℕ) → special_named (str_to_ascii_uppercase word) ≡ special_named word
unfolding special_named
special_capitals word =
    ap (λ (o : Option ℕ). otherwise (lone_found o) (processor_found (name_place processor_names (str_to_ascii_uppercase word)))) (place_capitals lone_names word) ∙ ap (λ (o : Option ℕ). otherwise (lone_found (name_place lone_names word)) (processor_found o)) (place_capitals processor_names word)

transfer_capitals : (word : List ℕ) → transfer_named (str_to_ascii_uppercase word) ≡ transfer_named word
unfolding transfer_named
transfer_capitals word =
    let general : transfer_found (name_place transfer_names (take 3 (str_to_ascii_uppercase word))) (name_place pulse_letters (drop 3 (str_to_ascii_uppercase word))) ≡ transfer_found (name_place transfer_names (take 3 word)) (name_place pulse_letters (drop 3 word)) = ap (λ (o : Option ℕ). transfer_found o (name_place pulse_letters (drop 3 (str_to_ascii_uppercase word)))) (place_front transfer_names 3 word) ∙ ap (transfer_found (name_place transfer_names (take 3 word))) (place_behind pulse_letters 3 word) in
    ap (λ (o : Option ℕ). otherwise (test_found o) (transfer_found (name_place transfer_names (take 3 (str_to_ascii_uppercase word))) (name_place pulse_letters (drop 3 (str_to_ascii_uppercase word))))) (place_capitals test_names word) ∙ ap (otherwise (test_found (name_place test_names word))) general

named_capitals : (word : List ℕ) → named (str_to_ascii_uppercase word) ≡ named word
unfolding named
named_capitals word =
    let capitals = str_to_ascii_uppercase word in
    ap (λ (o : Option Naming). otherwise o (otherwise (arithmetic_named capitals) (otherwise (special_named capitals) (transfer_named capitals)))) (memory_capitals word) ∙ ap (λ (o : Option Naming). otherwise (memory_named word) (otherwise o (otherwise (special_named capitals) (transfer_named capitals)))) (arithmetic_capitals word) ∙ ap (λ (o : Option Naming). otherwise (memory_named word) (otherwise (arithmetic_named word) (otherwise o (transfer_named capitals)))) (special_capitals word) ∙ ap (λ (o : Option Naming). otherwise (memory_named word) (otherwise (arithmetic_named word) (otherwise (special_named word) o))) (transfer_capitals word)

-- a test of one name

abbrev number_of : Shape → ℕ
number_of Alone = 0
number_of Processor = 1
number_of Memory = 2
number_of Load = 3
number_of Arithmetic = 4
number_of Transfer = 5
number_of Device = 6

shape_of : ℕ → Shape
shape_of zero = Alone
shape_of (suc zero) = Processor
shape_of (suc (suc zero)) = Memory
shape_of (suc (suc (suc zero))) = Load
shape_of (suc (suc (suc (suc zero)))) = Arithmetic
shape_of (suc (suc (suc (suc (suc zero))))) = Transfer
shape_of (suc (suc (suc (suc (suc (suc n)))))) = Device

shape_back : (s : Shape) → shape_of (number_of s) ≡ s
unfolding shape_of
shape_back Alone = refl
shape_back Processor = refl
shape_back Memory = refl
shape_back Load = refl
shape_back Arithmetic = refl
shape_back Transfer = refl
shape_back Device = refl

same_shape : (s t : Shape) → eqb (number_of s) (number_of t) ≡ true → s ≡ t
same_shape s t h = sym (shape_back s) ∙ ap shape_of (eqb-true (number_of s) (number_of t) h) ∙ shape_back t

abbrev is_naming : Option Naming → Shape → ℕ → Bool
is_naming None shape bits = false
is_naming (Some x) shape bits = eqb (number_of x.shape) (number_of shape) && eqb x.bits bits

naming_is : (o : Option Naming) (shape : Shape) (bits : ℕ) → is_naming o shape bits ≡ true → o ≡ Some (naming shape bits)
naming_is None shape bits h = cc
naming_is (Some x) shape bits h =
    let parts = and_parts (eqb (number_of x.shape) (number_of shape)) (eqb x.bits bits) h in
    ap (λ (s : Shape). Some (naming s x.bits)) (same_shape x.shape shape parts.0) ∙ ap (λ (b : ℕ). Some (naming shape b)) (eqb-true x.bits bits parts.1)

-- a name in capitals that is read as that naming
abbrev is_read : List ℕ → Shape → ℕ → Bool
is_read capitals shape bits = free is_blank capitals && is_naming (named capitals) shape bits

-- a first word that is read as that naming
pub record NameRead (word : List ℕ) (shape : Shape) (bits : ℕ) : Type 0 where
  pub whole : free is_blank word ≡ true
  pub names : named word ≡ Some (naming shape bits)

spelled_read : (word capitals : List ℕ) (shape : Shape) (bits : ℕ) → str_to_ascii_uppercase word ≡ capitals → is_read capitals shape bits ≡ true → NameRead word shape bits
spelled_read word capitals shape bits same h =
    let parts = and_parts (free is_blank capitals) (is_naming (named capitals) shape bits) h in
    record {
      whole = spelled_word word capitals same parts.0;
      names = sym (named_capitals word) ∙ ap named same ∙ naming_is (named capitals) shape bits parts.1;
    }

memory_reads : every 4 (λ k. is_read (entry memory_names k) Memory (2048 * k)) ≡ true
unfolding named memory_named
memory_reads = refl

load_reads : every 2 (λ k. is_read (entry load_names k) Load (8192 * (k + 1))) ≡ true
unfolding named memory_named
load_reads = refl

abbrev arithmetic_word : ℕ → ℕ → ℕ → ℕ → List ℕ
arithmetic_word k c s m = entry arithmetic_names k ++ (entry carry_letters c ++ (entry shift_letters s ++ entry no_load_marks m))

arithmetic_reads : every 8 (λ k. every 4 (λ c. every 4 (λ s. every 2 (λ m. is_read (arithmetic_word k c s m) Arithmetic (32768 + 256 * k + (16 * c + 64 * s + 8 * m)))))) ≡ true
unfolding named memory_named arithmetic_named arithmetic_letters letter
arithmetic_reads = refl

lone_reads : every 6 (λ k. is_read (entry lone_names k) Alone (slice_index lone_words k)) ≡ true
unfolding named memory_named arithmetic_named arithmetic_letters letter special_named
lone_reads = refl

processor_reads : every 3 (λ k. is_read (entry processor_names k) Processor (slice_index processor_words k)) ≡ true
unfolding named memory_named arithmetic_named arithmetic_letters letter special_named
processor_reads = refl

test_reads : every 4 (λ k. is_read (entry test_names k) Device (0o63400 + 64 * k)) ≡ true
unfolding named memory_named arithmetic_named arithmetic_letters letter special_named transfer_named
test_reads = refl

no_transfer_reads : every 4 (λ p. is_read (entry transfer_names 0 ++ entry pulse_letters p) Device (0o60000 + 64 * p)) ≡ true
unfolding named memory_named arithmetic_named arithmetic_letters letter special_named transfer_named
no_transfer_reads = refl

transfer_reads : every 6 (λ k. every 4 (λ p. is_read (entry transfer_names (k + 1) ++ entry pulse_letters p) Transfer (0o60000 + 256 * (k + 1) + 64 * p))) ≡ true
unfolding named memory_named arithmetic_named arithmetic_letters letter special_named transfer_named
transfer_reads = refl

two_spelled : (word front back : List ℕ) (a b : List ℕ) → word ≡ front ++ back → str_to_ascii_uppercase front ≡ a → str_to_ascii_uppercase back ≡ b → str_to_ascii_uppercase word ≡ a ++ b
two_spelled word front back a b parts first second =
    ap str_to_ascii_uppercase parts ∙ map-append to_ascii_uppercase front back ∙ ap (λ (t : List ℕ). t ++ str_to_ascii_uppercase back) first ∙ ap (λ (t : List ℕ). a ++ t) second

arithmetic_given : (word name letters : List ℕ) (k n : ℕ) → word ≡ name ++ letters → IsEntry arithmetic_names name k → AreLetters letters n → NameRead word Arithmetic (32768 + 256 * k + n)
arithmetic_given word name letters k n parts is are =
    let c = are.carry in
    let s = are.shift in
    let m = are.no_load in
    let test : ℕ → ℕ → ℕ → ℕ → Bool = λ k c s m. is_read (arithmetic_word k c s m) Arithmetic (32768 + 256 * k + (16 * c + 64 * s + 8 * m)) in
    let reads = every_at 2 (test k c s) m (every_at 4 (λ s. every 2 (test k c s)) s (every_at 4 (λ c. every 4 (λ s. every 2 (test k c s))) c (every_at 8 (λ k. every 4 (λ c. every 4 (λ s. every 2 (test k c s)))) k arithmetic_reads is.within) are.within.0) are.within.1) are.within.2 in
    let all = spelled_read word (arithmetic_word k c s m) Arithmetic (32768 + 256 * k + (16 * c + 64 * s + 8 * m)) (two_spelled word name letters (entry arithmetic_names k) (entry carry_letters c ++ (entry shift_letters s ++ entry no_load_marks m)) parts is.spelled are.spelled) reads in
    subst (λ (v : ℕ). NameRead word Arithmetic (32768 + 256 * k + v)) (sym are.counts) all

transfer_given : (word name letter_text : List ℕ) (k p : ℕ) → word ≡ name ++ letter_text → 0 < k → IsEntry transfer_names name k → IsEntry pulse_letters letter_text p → NameRead word Transfer (0o60000 + 256 * k + 64 * p)
transfer_given word name letter_text zero p parts some is pulse = absurd (omega arith)
transfer_given word name letter_text (suc k) p parts some is pulse =
    let below : k < 6 = omega (arith, is.within) in
    let test : ℕ → ℕ → Bool = λ k p. is_read (entry transfer_names (k + 1) ++ entry pulse_letters p) Transfer (0o60000 + 256 * (k + 1) + 64 * p) in
    let reads = every_at 4 (test k) p (every_at 6 (λ k. every 4 (test k)) k transfer_reads below) pulse.within in
    let next : k + 1 ≡ suc k = omega arith in
    let all : is_read (entry transfer_names (suc k) ++ entry pulse_letters p) Transfer (0o60000 + 256 * suc k + 64 * p) ≡ true = subst (λ (v : ℕ). is_read (entry transfer_names v ++ entry pulse_letters p) Transfer (0o60000 + 256 * v + 64 * p) ≡ true) next reads in
    spelled_read word (entry transfer_names (suc k) ++ entry pulse_letters p) Transfer (0o60000 + 256 * suc k + 64 * p) (two_spelled word name letter_text (entry transfer_names (suc k)) (entry pulse_letters p) parts is.spelled pulse.spelled) all

pub name_given : (word : List ℕ) (shape : Shape) (bits : ℕ) → IsNamed word shape bits → NameRead word shape bits
name_given word shape bits (memory_name _ k is) =
    spelled_read word (entry memory_names k) Memory (2048 * k) is.spelled (every_at 4 (λ k. is_read (entry memory_names k) Memory (2048 * k)) k memory_reads is.within)
name_given word shape bits (load_name _ k is) =
    spelled_read word (entry load_names k) Load (8192 * (k + 1)) is.spelled (every_at 2 (λ k. is_read (entry load_names k) Load (8192 * (k + 1))) k load_reads is.within)
name_given word shape bits (arithmetic_name _ name letters k n parts is are) = arithmetic_given word name letters k n parts is are
name_given word shape bits (lone_name _ k is) =
    spelled_read word (entry lone_names k) Alone (slice_index lone_words k) is.spelled (every_at 6 (λ k. is_read (entry lone_names k) Alone (slice_index lone_words k)) k lone_reads is.within)
name_given word shape bits (processor_name _ k is) =
    spelled_read word (entry processor_names k) Processor (slice_index processor_words k) is.spelled (every_at 3 (λ k. is_read (entry processor_names k) Processor (slice_index processor_words k)) k processor_reads is.within)
name_given word shape bits (test_name _ k is) =
    spelled_read word (entry test_names k) Device (0o63400 + 64 * k) is.spelled (every_at 4 (λ k. is_read (entry test_names k) Device (0o63400 + 64 * k)) k test_reads is.within)
name_given word shape bits (no_transfer_name _ name letter_text p parts is pulse) =
    spelled_read word (entry transfer_names 0 ++ entry pulse_letters p) Device (0o60000 + 64 * p) (two_spelled word name letter_text (entry transfer_names 0) (entry pulse_letters p) parts is.spelled pulse.spelled) (every_at 4 (λ p. is_read (entry transfer_names 0 ++ entry pulse_letters p) Device (0o60000 + 64 * p)) p no_transfer_reads pulse.within)
name_given word shape bits (transfer_name _ name letter_text k p parts some is pulse) = transfer_given word name letter_text k p parts some is pulse
