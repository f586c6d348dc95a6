-- What is read is a text of its word: names, operands and the whole.
use Rattle.std.specs.Prelude.{not, slice_index}
use Rattle.std.proofs.Common.{◌≡◌, ℕ, ◌+◌, ◌*◌, ◌<◌, suc, Bool, true, false, cond, eqb, Option, Some, None, Result, Ok, Err, List, [], ◌∷◌, ◌++◌, length, take, drop, refl, ap, sym, subst, ◌∙◌, ◌⊎◌, inl, inr, arith}
use Rattle.std.specs.List.{position_or_len, prefix_len}
use Rattle.std.specs.Str.{str_to_ascii_uppercase}
use Rattle.std.proofs.lemmas.Bool.{eqb-true, eqb-false}
use Rattle.std.proofs.lemmas.List.{take-append-drop, append-nil}
use Rattle.std.proofs.lemmas.List.Elements.{All-cons}
use Rattle.line_text.specs.Words.{is_blank, word_at, past_blanks, IsBlank}
use Rattle.nova_symbols.specs.declared.fault.SymbolFault.{SymbolFault}
use Rattle.nova_symbols.specs.declared.names.Shape.{Shape}
use Rattle.nova_symbols.specs.declared.names.Shape.TheVariants.{Alone, Processor, Memory, Load, Arithmetic, Transfer, Device}
use Rattle.nova_symbols.specs.declared.names.Naming.{Naming}
use Rattle.nova_symbols.specs.Names.{entry, memory_names, load_names, arithmetic_names, carry_letters, shift_letters, no_load_marks, transfer_names, pulse_letters, test_names, lone_words, lone_names, processor_words, processor_names}
use Rattle.nova_symbols.specs.Naming.{name_place, otherwise, naming, memory_found, load_found, memory_named, letter_found, letter, letters_end, arithmetic_letters, arithmetic_found, arithmetic_named, lone_found, processor_found, test_found, transfer_found, special_named, transfer_named, named, device_named}
use Rattle.nova_symbols.specs.Operands.{◌>>=◌, operand_at, after_comma, comma_at, accumulator_at, device_at, device_number_at, skip_at, target_at, is_octal, number, indirect, address, absolute, not_indexed, ended}
use Rattle.nova_symbols.specs.Reading.{memory_operands, load_operands, skip_operand, arithmetic_operands, device_operand, transfer_operands, one_or_two, device_operands, processor_operand, operands, named_operands, read_from_end, with_place, reading}
use Rattle.nova_symbols.specs.Forms.{IsEntry, IsPair, IsAccumulator, IsTarget, IsSkip, IsDevice, AreOperands, processor, memory, load, no_skip, skip, transfer, device, with_accumulator, AreLetters, IsNamed, memory_name, load_name, arithmetic_name, lone_name, processor_name, test_name, no_transfer_name, transfer_name, Reads, name_alone, name_and_operands}
use Rattle.nova_symbols.proofs.FoundLemmas.{bind_ok, positive, entry_found, Parted, after_comma_found, comma_found_at, Begins, whole_part, pair_found, accumulator_found, target_found_at, device_found_at, skip_found_at}
use Rattle.line_text.proofs.BlankLemmas.{word_parts, blanked, blank_is}

-- the names

first_or_second : (a b : Option Naming) (n : Naming) → otherwise a b ≡ Some n → (a ≡ Some n) ⊎ (b ≡ Some n)
first_or_second (Some x) b n h = inl h
first_or_second None b n h = inr h

abbrev IsNaming : List ℕ → Naming → Type 0
IsNaming word n = IsNamed word n.shape n.bits

naming_in : Option Naming → Naming → Naming
naming_in (Some x) other = x
naming_in None other = other

same_naming : (a b : Naming) (o : Option Naming) → o ≡ Some b → o ≡ Some a → a ≡ b
unfolding naming_in
same_naming a b o h k = ap (λ (x : Option Naming). naming_in x a) (sym k ∙ h)

from_memory : (o : Option ℕ) (word : List ℕ) (n : Naming) → name_place memory_names word ≡ o → memory_found o ≡ Some n → IsNaming word n
from_memory (Some k) word n found h =
    subst (IsNaming word) (same_naming (naming Memory (2048 * k)) n (Some (naming Memory (2048 * k))) h refl) (memory_name word k (entry_found memory_names word k found))
from_memory None word n found h = cc

from_load : (o : Option ℕ) (word : List ℕ) (n : Naming) → name_place load_names word ≡ o → load_found o ≡ Some n → IsNaming word n
from_load (Some k) word n found h =
    let is = naming Load (8192 * (k + 1)) in
    subst (IsNaming word) (same_naming is n (Some is) h refl) (load_name word k (entry_found load_names word k found))
from_load None word n found h = cc

from_lone : (o : Option ℕ) (word : List ℕ) (n : Naming) → name_place lone_names word ≡ o → lone_found o ≡ Some n → IsNaming word n
from_lone (Some k) word n found h =
    let is = naming Alone (slice_index lone_words k) in
    subst (IsNaming word) (same_naming is n (Some is) h refl) (lone_name word k (entry_found lone_names word k found))
from_lone None word n found h = cc

from_processor : (o : Option ℕ) (word : List ℕ) (n : Naming) → name_place processor_names word ≡ o → processor_found o ≡ Some n → IsNaming word n
from_processor (Some k) word n found h =
    let is = naming Processor (slice_index processor_words k) in
    subst (IsNaming word) (same_naming is n (Some is) h refl) (processor_name word k (entry_found processor_names word k found))
from_processor None word n found h = cc

from_test : (o : Option ℕ) (word : List ℕ) (n : Naming) → name_place test_names word ≡ o → test_found o ≡ Some n → IsNaming word n
from_test (Some k) word n found h =
    let is = naming Device (0o63400 + 64 * k) in
    subst (IsNaming word) (same_naming is n (Some is) h refl) (test_name word k (entry_found test_names word k found))
from_test None word n found h = cc

name_parts : (word : List ℕ) → word ≡ take 3 word ++ drop 3 word
name_parts word = sym (take-append-drop 3 word)

no_transfer : (word : List ℕ) (n : Naming) (k pulse : ℕ) → k ≡ 0 → IsEntry transfer_names (take 3 word) k → IsEntry pulse_letters (drop 3 word) pulse → Some (naming Device (0o60000 + 256 * k + 64 * pulse)) ≡ Some n → IsNaming word n
no_transfer word n k pulse none name letter h =
    let is = naming Device (0o60000 + 256 * k + 64 * pulse) in
    let same : 0o60000 + 64 * pulse ≡ 0o60000 + 256 * k + 64 * pulse = omega (arith, none) in
    subst (IsNaming word) (same_naming is n (Some is) h refl) (subst (λ (v : ℕ). IsNamed word Device v) same (no_transfer_name word (take 3 word) (drop 3 word) pulse (name_parts word) (subst (λ (v : ℕ). IsEntry transfer_names (take 3 word) v) none name) letter))

some_transfer : (word : List ℕ) (n : Naming) (k pulse : ℕ) → (k ≡ 0 → ⊥) → IsEntry transfer_names (take 3 word) k → IsEntry pulse_letters (drop 3 word) pulse → Some (naming Transfer (0o60000 + 256 * k + 64 * pulse)) ≡ Some n → IsNaming word n
some_transfer word n k pulse some name letter h =
    let is = naming Transfer (0o60000 + 256 * k + 64 * pulse) in
    let above : 0 < k = positive k some in
    subst (IsNaming word) (same_naming is n (Some is) h refl) (transfer_name word (take 3 word) (drop 3 word) k pulse (name_parts word) above name letter)

from_transfer : (o p : Option ℕ) (word : List ℕ) (n : Naming) → name_place transfer_names (take 3 word) ≡ o → name_place pulse_letters (drop 3 word) ≡ p → transfer_found o p ≡ Some n → IsNaming word n
from_transfer (Some k) (Some pulse) word n found letter h =
    elim (eqb k 0) as (λ (e : Bool). eqb k 0 ≡ e → Some (naming (cond e Device Transfer) (0o60000 + 256 * k + 64 * pulse)) ≡ Some n → IsNaming word n) [
      | true ↦ λ is says. no_transfer word n k pulse (eqb-true k 0 is) (entry_found transfer_names (take 3 word) k found) (entry_found pulse_letters (drop 3 word) pulse letter) says
      | false ↦ λ is says. some_transfer word n k pulse (eqb-false k 0 is) (entry_found transfer_names (take 3 word) k found) (entry_found pulse_letters (drop 3 word) pulse letter) says
    ] refl h
from_transfer (Some k) None word n found letter h = cc
from_transfer None p word n found letter h = cc

-- the letters behind an arithmetic name

record Lettered (table : List (List ℕ)) (text rest : List ℕ) (k : ℕ) : Type 0 where
  within : k < length table
  spelled : str_to_ascii_uppercase text ≡ entry table k ++ str_to_ascii_uppercase rest

letter_cases : (table : List (List ℕ)) (text : List ℕ) (o : Option ℕ) → name_place table (take 1 text) ≡ o → 0 < length table → entry table 0 ≡ [] → Lettered table text (letter_found o text).1 (letter_found o text).0
letter_cases table [] (Some k) found some none =
    let is = entry_found table [] k found in
    record { within = is.within; spelled = is.spelled ∙ sym (append-nil (entry table k)) }
letter_cases table (b ∷ more) (Some k) found some none =
    let is = entry_found table (b ∷ []) k found in
    record { within = is.within; spelled = ap (λ (t : List ℕ). t ++ str_to_ascii_uppercase more) is.spelled }
letter_cases table text None found some none =
    record { within = some; spelled = ap (λ (t : List ℕ). t ++ str_to_ascii_uppercase text) (sym none) }

lettered : (table : List (List ℕ)) (text : List ℕ) → 0 < length table → entry table 0 ≡ [] → Lettered table text (letter table text).1 (letter table text).0
unfolding letter
lettered table text some none = letter_cases table text (name_place table (take 1 text)) refl some none

letters_ended : (bits n : ℕ) (rest : List ℕ) → letters_end bits rest ≡ Some n → (rest ≡ []) × (bits ≡ n)
letters_ended bits n [] h = (refl, cc)
letters_ended bits n (b ∷ more) h = cc

letters_found : (text : List ℕ) (n : ℕ) → arithmetic_letters text ≡ Some n → AreLetters text n
unfolding arithmetic_letters
letters_found text n h =
    let carry = letter carry_letters text in
    let shift = letter shift_letters carry.1 in
    let no_load = letter no_load_marks shift.1 in
    let ended = letters_ended (16 * carry.0 + 64 * shift.0 + 8 * no_load.0) n no_load.1 h in
    let first = lettered carry_letters text (omega arith) refl in
    let second = lettered shift_letters carry.1 (omega arith) refl in
    let third = lettered no_load_marks shift.1 (omega arith) refl in
    let last : str_to_ascii_uppercase shift.1 ≡ entry no_load_marks no_load.0 = third.spelled ∙ ap (λ (t : List ℕ). entry no_load_marks no_load.0 ++ str_to_ascii_uppercase t) ended.0 ∙ append-nil (entry no_load_marks no_load.0) in
    record {
      carry = carry.0;
      shift = shift.0;
      no_load = no_load.0;
      within = (first.within, second.within, third.within);
      spelled = first.spelled ∙ ap (λ (t : List ℕ). entry carry_letters carry.0 ++ t) (second.spelled ∙ ap (λ (t : List ℕ). entry shift_letters shift.0 ++ t) last);
      counts = sym ended.1;
    }

from_arithmetic : (o p : Option ℕ) (word : List ℕ) (n : Naming) → name_place arithmetic_names (take 3 word) ≡ o → arithmetic_letters (drop 3 word) ≡ p → arithmetic_found o p ≡ Some n → IsNaming word n
from_arithmetic (Some k) (Some letters) word n found read h =
    let is = naming Arithmetic (0o100000 + 256 * k + letters) in
    subst (IsNaming word) (same_naming is n (Some is) h refl) (arithmetic_name word (take 3 word) (drop 3 word) k letters (name_parts word) (entry_found arithmetic_names (take 3 word) k found) (letters_found (drop 3 word) letters read))
from_arithmetic (Some k) None word n found read h = cc
from_arithmetic None p word n found read h = cc

memory_is : (word : List ℕ) (n : Naming) → memory_named word ≡ Some n → IsNaming word n
unfolding memory_named
memory_is word n h =
    elim (first_or_second (memory_found (name_place memory_names word)) (load_found (name_place load_names word)) n h) [
      | inl a ↦ from_memory (name_place memory_names word) word n refl a
      | inr b ↦ from_load (name_place load_names word) word n refl b
    ]

arithmetic_is : (word : List ℕ) (n : Naming) → arithmetic_named word ≡ Some n → IsNaming word n
unfolding arithmetic_named
arithmetic_is word n h = from_arithmetic (name_place arithmetic_names (take 3 word)) (arithmetic_letters (drop 3 word)) word n refl refl h

special_is : (word : List ℕ) (n : Naming) → special_named word ≡ Some n → IsNaming word n
unfolding special_named
special_is word n h =
    elim (first_or_second (lone_found (name_place lone_names word)) (processor_found (name_place processor_names word)) n h) [
      | inl a ↦ from_lone (name_place lone_names word) word n refl a
      | inr b ↦ from_processor (name_place processor_names word) word n refl b
    ]

transfer_is : (word : List ℕ) (n : Naming) → transfer_named word ≡ Some n → IsNaming word n
unfolding transfer_named
transfer_is word n h =
    elim (first_or_second (test_found (name_place test_names word)) (transfer_found (name_place transfer_names (take 3 word)) (name_place pulse_letters (drop 3 word))) n h) [
      | inl a ↦ from_test (name_place test_names word) word n refl a
      | inr b ↦ from_transfer (name_place transfer_names (take 3 word)) (name_place pulse_letters (drop 3 word)) word n refl refl b
    ]

pub named_is : (word : List ℕ) (n : Naming) → named word ≡ Some n → IsNaming word n
unfolding named
named_is word n h =
    elim (first_or_second (memory_named word) (otherwise (arithmetic_named word) (otherwise (special_named word) (transfer_named word))) n h) [
      | inl a ↦ memory_is word n a
      | inr b ↦ elim (first_or_second (arithmetic_named word) (otherwise (special_named word) (transfer_named word)) n b) [
        | inl c ↦ arithmetic_is word n c
        | inr d ↦ elim (first_or_second (special_named word) (transfer_named word) n d) [ inl e ↦ special_is word n e | inr f ↦ transfer_is word n f ]
      ]
    ]

-- the operands

ended_ok : (w v : ℕ) (rest : List ℕ) → ended w rest ≡ Ok v → (rest ≡ []) × (w ≡ v)
unfolding ended
ended_ok w v [] h = (refl, cc)
ended_ok w v (b ∷ more) h = cc

-- operands of that form, and the word that they make
pub record Makes (Form : List ℕ → ℕ → Type 0) (text : List ℕ) (bits w : ℕ) : Type 0 where
  pub n : ℕ
  pub are : Form text n
  pub sum : bits + n ≡ w

-- the last operand
makes_last : (Form : List ℕ → ℕ → Type 0) (text rest : List ℕ) (bits n w : ℕ) → Begins Form text rest n → ended (bits + n) rest ≡ Ok w → Makes Form text bits w
makes_last Form text rest bits n w begins h =
    let last = ended_ok (bits + n) w rest h in
    record { n = n; are = whole_part Form text rest n begins last.0; sum = last.1 }

-- an operand before the others
makes_pair : (First Second : List ℕ → ℕ → Type 0) (text middle next : List ℕ) (bits a w : ℕ) → Begins First text middle a → Parted middle next → Makes Second next (bits + a) w → Makes (IsPair First Second) text bits w
makes_pair First Second text middle next bits a w first gap second =
    let all : Begins Second next [] second.n = record { part = next; is = second.are; spelled = sym (append-nil next) } in
    record {
      n = a + second.n;
      are = whole_part (IsPair First Second) text [] (a + second.n) (pair_found First Second text middle next [] a second.n first gap all) refl;
      sum = omega (arith, second.sum);
    }

memory_makes : (bits w : ℕ) (text : List ℕ) → memory_operands bits text ≡ Ok w → Makes IsTarget text bits w
unfolding memory_operands
memory_makes bits w text h =
    let step = bind_ok (target_at text) (λ t. ended (bits + t.0) t.1) w h in
    makes_last IsTarget text step.value.1 bits step.value.0 w (target_found_at text step.value.1 step.value.0 step.was) step.then_ok

device_makes : (bits w : ℕ) (text : List ℕ) → device_operand bits text ≡ Ok w → Makes IsDevice text bits w
unfolding device_operand
device_makes bits w text h =
    let step = bind_ok (device_at text) (λ t. ended (bits + t.0) t.1) w h in
    makes_last IsDevice text step.value.1 bits step.value.0 w (device_found_at text step.value.1 step.value.0 step.was) step.then_ok

processor_makes : (bits w : ℕ) (text : List ℕ) → processor_operand bits text ≡ Ok w → Makes (IsAccumulator 2048) text bits w
unfolding processor_operand
processor_makes bits w text h =
    let step = bind_ok (accumulator_at text) (λ t. ended (bits + 2048 * t.0) t.1) w h in
    makes_last (IsAccumulator 2048) text step.value.1 bits (2048 * step.value.0) w (accumulator_found 2048 text step.value.1 step.value.0 step.was) step.then_ok

load_makes : (bits w : ℕ) (text : List ℕ) → load_operands bits text ≡ Ok w → Makes (IsPair (IsAccumulator 2048) IsTarget) text bits w
unfolding load_operands
load_makes bits w text h =
    let step = bind_ok (accumulator_at text) (λ a. comma_at a.1 >>= λ next. memory_operands (bits + 2048 * a.0) next) w h in
    let gap = bind_ok (comma_at step.value.1) (λ next. memory_operands (bits + 2048 * step.value.0) next) w step.then_ok in
    makes_pair (IsAccumulator 2048) IsTarget text step.value.1 gap.value bits (2048 * step.value.0) w (accumulator_found 2048 text step.value.1 step.value.0 step.was) (comma_found_at step.value.1 gap.value gap.was) (memory_makes (bits + 2048 * step.value.0) w gap.value gap.then_ok)

transfer_makes : (bits w : ℕ) (text : List ℕ) → transfer_operands bits text ≡ Ok w → Makes (IsPair (IsAccumulator 2048) IsDevice) text bits w
unfolding transfer_operands
transfer_makes bits w text h =
    let step = bind_ok (accumulator_at text) (λ a. comma_at a.1 >>= λ next. device_operand (bits + 2048 * a.0) next) w h in
    let gap = bind_ok (comma_at step.value.1) (λ next. device_operand (bits + 2048 * step.value.0) next) w step.then_ok in
    makes_pair (IsAccumulator 2048) IsDevice text step.value.1 gap.value bits (2048 * step.value.0) w (accumulator_found 2048 text step.value.1 step.value.0 step.was) (comma_found_at step.value.1 gap.value gap.was) (device_makes (bits + 2048 * step.value.0) w gap.value gap.then_ok)

device_cases : (o : Option (List ℕ)) (bits w : ℕ) (text : List ℕ) → one_or_two o bits text ≡ Ok w → Makes (AreOperands Device) text bits w
device_cases None bits w text h = let one = device_makes bits w text h in record { n = one.n; are = device text one.n one.are; sum = one.sum }
device_cases (Some next) bits w text h = let two = transfer_makes bits w text h in record { n = two.n; are = with_accumulator text two.n two.are; sum = two.sum }

devices_make : (bits w : ℕ) (text : List ℕ) → device_operands bits text ≡ Ok w → Makes (AreOperands Device) text bits w
unfolding device_operands
devices_make bits w text h = device_cases (after_comma (operand_at text).1) bits w text h

skip_cases : (o : Option (List ℕ)) (bits w d : ℕ) (text rest : List ℕ) → Begins (IsAccumulator 2048) text rest d → after_comma rest ≡ o → skip_operand o (bits + d) rest ≡ Ok w → Makes (IsAccumulator 2048) text bits w ⊎ Makes (IsPair (IsAccumulator 2048) IsSkip) text bits w
skip_cases None bits w d text rest second comma h = inl (makes_last (IsAccumulator 2048) text rest bits d w second h)
skip_cases (Some next) bits w d text rest second comma h =
    let step = bind_ok (skip_at next) (λ s. ended (bits + d + s.0) s.1) w h in
    let third = makes_last IsSkip next step.value.1 (bits + d) step.value.0 w (skip_found_at next step.value.1 step.value.0 step.was) step.then_ok in
    inr (makes_pair (IsAccumulator 2048) IsSkip text rest next bits d w second (after_comma_found rest next comma) third)

arithmetic_makes : (bits w : ℕ) (text : List ℕ) → arithmetic_operands bits text ≡ Ok w → Makes (AreOperands Arithmetic) text bits w
unfolding arithmetic_operands
arithmetic_makes bits w text h =
    let step = bind_ok (accumulator_at text) (λ s. comma_at s.1 >>= λ next. accumulator_at next >>= λ d. skip_operand (after_comma d.1) (bits + 8192 * s.0 + 2048 * d.0) d.1) w h in
    let s = step.value.0 in
    let gap = bind_ok (comma_at step.value.1) (λ next. accumulator_at next >>= λ d. skip_operand (after_comma d.1) (bits + 8192 * s + 2048 * d.0) d.1) w step.then_ok in
    let second = bind_ok (accumulator_at gap.value) (λ d. skip_operand (after_comma d.1) (bits + 8192 * s + 2048 * d.0) d.1) w gap.then_ok in
    let d = second.value.0 in
    let first_is = accumulator_found 8192 text step.value.1 s step.was in
    let comma = comma_found_at step.value.1 gap.value gap.was in
    let second_is = accumulator_found 2048 gap.value second.value.1 d second.was in
    elim (skip_cases (after_comma second.value.1) (bits + 8192 * s) w (2048 * d) gap.value second.value.1 second_is refl second.then_ok) [
      | inl two ↦ let all = makes_pair (IsAccumulator 8192) (IsAccumulator 2048) text step.value.1 gap.value bits (8192 * s) w first_is comma two in record { n = all.n; are = no_skip text all.n all.are; sum = all.sum }
      | inr three ↦ let all = makes_pair (IsAccumulator 8192) (IsPair (IsAccumulator 2048) IsSkip) text step.value.1 gap.value bits (8192 * s) w first_is comma three in record { n = all.n; are = skip text all.n all.are; sum = all.sum }
    ]

operands_make : (shape : Shape) (bits w : ℕ) (rest : List ℕ) → (shape ≡ Alone → ⊥) → operands shape bits rest ≡ Ok w → Makes (AreOperands shape) (past_blanks rest) bits w
unfolding operands
operands_make Alone bits w rest some h = absurd (some refl)
operands_make Processor bits w rest some h = let all = processor_makes bits w (past_blanks rest) h in record { n = all.n; are = processor (past_blanks rest) all.n all.are; sum = all.sum }
operands_make Memory bits w rest some h = let all = memory_makes bits w (past_blanks rest) h in record { n = all.n; are = memory (past_blanks rest) all.n all.are; sum = all.sum }
operands_make Load bits w rest some h = let all = load_makes bits w (past_blanks rest) h in record { n = all.n; are = load (past_blanks rest) all.n all.are; sum = all.sum }
operands_make Arithmetic bits w rest some h = arithmetic_makes bits w (past_blanks rest) h
operands_make Transfer bits w rest some h = let all = transfer_makes bits w (past_blanks rest) h in record { n = all.n; are = transfer (past_blanks rest) all.n all.are; sum = all.sum }
operands_make Device bits w rest some h = devices_make bits w (past_blanks rest) h

-- what follows a first word begins with a blank
abbrev StartsBlank : List ℕ → Type 0
StartsBlank [] = Unit {0}
StartsBlank (b ∷ more) = is_blank b ≡ true

starts_blank : (text : List ℕ) → StartsBlank (drop (position_or_len is_blank text) text)
starts_blank [] = tt
starts_blank (b ∷ more) =
    let n = position_or_len is_blank more in
    let one : suc n ≡ 1 + n = omega arith in
    elim (is_blank b) as (λ (e : Bool). is_blank b ≡ e → StartsBlank (drop (cond (not e) (1 + n) 0) (b ∷ more))) [
      | true ↦ λ is. is
      | false ↦ λ is. subst (λ (k : ℕ). StartsBlank (drop k (b ∷ more))) one (starts_blank more)
    ] refl

rest_starts_blank : (text : List ℕ) → StartsBlank (word_at text).1
unfolding word_at
rest_starts_blank text = starts_blank text

past_blank_head : (b : ℕ) (more : List ℕ) → is_blank b ≡ true → past_blanks (b ∷ more) ≡ past_blanks more
unfolding past_blanks
past_blank_head b more is =
    let n = prefix_len (λ b. not (not (is_blank b))) more in
    let one : 1 + n ≡ suc n = omega arith in
    ap (λ (e : Bool). drop (cond (not (not e)) (1 + n) 0) (b ∷ more)) is ∙ ap (λ (k : ℕ). drop k (b ∷ more)) one

no_operands : (shape : Shape) (bits w : ℕ) → (shape ≡ Alone → ⊥) → operands shape bits [] ≡ Ok w → ⊥
unfolding operands processor_operand memory_operands load_operands arithmetic_operands transfer_operands device_operand device_operands past_blanks accumulator_at operand_at number is_octal target_at indirect address absolute after_comma not_indexed device_at device_named device_number_at
no_operands Alone bits w some h = some refl
no_operands Processor bits w some h = cc
no_operands Memory bits w some h = cc
no_operands Load bits w some h = cc
no_operands Arithmetic bits w some h = cc
no_operands Transfer bits w some h = cc
no_operands Device bits w some h = cc

with_operands : (shape : Shape) (bits w : ℕ) (text word rest : List ℕ) → text ≡ word ++ rest → StartsBlank rest → IsNamed word shape bits → (shape ≡ Alone → ⊥) → operands shape bits rest ≡ Ok w → Reads text w
with_operands shape bits w text word [] spelled starts name some h = absurd (no_operands shape bits w some h)
with_operands shape bits w text word (b ∷ more) spelled starts name some h =
    let all = operands_make shape bits w (b ∷ more) some h in
    let begins = blanked more in
    let blanks = b ∷ begins.blanks in
    let left : b ∷ more ≡ blanks ++ past_blanks (b ∷ more) = ap (λ (t : List ℕ). b ∷ t) (begins.spelled ∙ ap (λ (t : List ℕ). begins.blanks ++ t) (sym (past_blank_head b more starts))) in
    subst (λ (v : ℕ). Reads text v) all.sum (name_and_operands text word blanks (past_blanks (b ∷ more)) shape bits all.n (spelled ∙ ap (λ (t : List ℕ). word ++ t) left) name (omega arith) (All-cons IsBlank b begins.blanks (blank_is b starts) begins.are) all.are)

shape_reads : (shape : Shape) (bits w : ℕ) (text word rest : List ℕ) → text ≡ word ++ rest → StartsBlank rest → IsNamed word shape bits → operands shape bits rest ≡ Ok w → Reads text w
unfolding operands
shape_reads Alone bits w text word rest spelled starts name h =
    let last = ended_ok bits w rest h in
    let is : text ≡ word = spelled ∙ ap (λ (r : List ℕ). word ++ r) last.0 ∙ append-nil word in
    subst (λ (t : List ℕ). Reads t w) (sym is) (name_alone word w (subst (λ (v : ℕ). IsNamed word Alone v) last.1 name))
shape_reads Processor bits w text word rest spelled starts name h = with_operands Processor bits w text word rest spelled starts name (λ e. cc) h
shape_reads Memory bits w text word rest spelled starts name h = with_operands Memory bits w text word rest spelled starts name (λ e. cc) h
shape_reads Load bits w text word rest spelled starts name h = with_operands Load bits w text word rest spelled starts name (λ e. cc) h
shape_reads Arithmetic bits w text word rest spelled starts name h = with_operands Arithmetic bits w text word rest spelled starts name (λ e. cc) h
shape_reads Transfer bits w text word rest spelled starts name h = with_operands Transfer bits w text word rest spelled starts name (λ e. cc) h
shape_reads Device bits w text word rest spelled starts name h = with_operands Device bits w text word rest spelled starts name (λ e. cc) h

named_cases : (o : Option Naming) (text : List ℕ) (w : ℕ) → named (word_at text).0 ≡ o → named_operands o (word_at text).1 ≡ Ok w → Reads text w
named_cases None text w name h = cc
named_cases (Some n) text w name h =
    shape_reads n.shape n.bits w text (word_at text).0 (word_at text).1 (word_parts text) (rest_starts_blank text) (named_is (word_at text).0 n name) h

from_end_found : (text : List ℕ) (w : ℕ) → read_from_end text ≡ Ok w → Reads text w
unfolding read_from_end
from_end_found text w h = named_cases (named (word_at text).0) text w refl h

placed_ok : (count w : ℕ) (r : Result ℕ SymbolFault) → with_place count r ≡ Ok w → r ≡ Ok w
placed_ok count w (Ok v) h = h
placed_ok count w (Err e) h = cc

-- what is read is a text of its word
pub reads_found : (text : List ℕ) (w : ℕ) → reading text ≡ Ok w → Reads text w
unfolding reading
reads_found text w h = from_end_found text w (placed_ok (length text) w (read_from_end text) h)

pub whole_found : (text : List ℕ) (w : ℕ) → read_from_end text ≡ Ok w → Reads text w
whole_found text w h = from_end_found text w h
