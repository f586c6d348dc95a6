-- Each fault is answered where it stands.
use Rattle.std.proofs.Common.{◌≡◌, ◌↔◌, ℕ, ◌+◌, ◌-◌, ◌*◌, ◌<◌, Option, Some, None, Result, Ok, Err, List, [], ◌∷◌, ◌++◌, length, take, drop, All, refl, ap, sym, subst, ◌∙◌, inl, inr, arith, length-append}
use Rattle.std.specs.List.{position_or_len}
use Rattle.std.proofs.lemmas.List.{take-append-drop}
use Rattle.line_text.specs.Words.{is_blank, word_at, past_blanks, IsBlank, StartsIn}
use Rattle.nova_symbols.specs.declared.fault.SymbolFault.{SymbolFault}
use Rattle.nova_symbols.specs.declared.fault.SymbolFault.TheVariants.{UnknownName, Extra}
use Rattle.nova_symbols.specs.declared.names.Shape.{Shape}
use Rattle.nova_symbols.specs.declared.names.Shape.TheVariants.{Alone, Processor, Memory, Load, Arithmetic, Transfer, Device}
use Rattle.nova_symbols.specs.declared.names.Naming.{Naming}
use Rattle.nova_symbols.specs.Naming.{named}
use Rattle.nova_symbols.specs.Operands.{◌>>=◌, operand_at, after_comma, comma_found, comma_at, accumulator_at, device_at, skip_at, number, ended}
use Rattle.nova_symbols.specs.Reading.{memory_operands, load_operands, skip_operand, arithmetic_operands, device_operand, transfer_operands, one_or_two, device_operands, processor_operand, operands, named_operands, read_from_end, placed, with_place, reading}
use Rattle.nova_symbols.specs.Forms.{IsAccumulator, IsSkip, IsDevice, IsNamed}
use Rattle.nova_symbols.specs.Faults.{IsAbove, IsNeverAbove, IsLastAccumulator, IsFirstAccumulator, IsLastSkip, IsLastDevice, TargetFaults, SecondFaults, DeviceFaults, OperandFaults, Faults, unknown_name, behind_name, at_operands}
use Rattle.nova_symbols.proofs.ReadsLemmas.{named_is}
use Rattle.nova_symbols.proofs.SplitLemmas.{word_split, past_blanks_split}
use Rattle.nova_symbols.proofs.NameLemmas.{name_given}
use Rattle.nova_symbols.proofs.GivenLemmas.{word_reads}
use Rattle.nova_symbols.proofs.StandsLemmas.{free_from, all_from, starts_with, starts_in, starts_without, starts_outside, front_free, rest_starts, past_other, comma_next, no_comma_next, last_given, last_found, first_given, first_found}
use Rattle.nova_symbols.proofs.FaultFieldLemmas.{accumulator_field, device_field, skip_field}
use Rattle.nova_symbols.proofs.FaultAddressLemmas.{pair_ok, target_given, target_faulty}
use Rattle.line_text.proofs.BlankLemmas.{blank_is, blanked, blank_passes}

-- the last operands

accumulator_given : (k : ℕ → ℕ) (text : List ℕ) (fault : SymbolFault) → IsLastAccumulator text fault → (accumulator_at text >>= λ x. ended (k x.0) x.1) ≡ Err fault
accumulator_given k text fault is = last_given (IsAccumulator 1) (IsAbove 3) (length text) text (accumulator_at text) (accumulator_field text) k fault is

accumulator_faulty : (k : ℕ → ℕ) (text : List ℕ) (fault : SymbolFault) → (accumulator_at text >>= λ x. ended (k x.0) x.1) ≡ Err fault → IsLastAccumulator text fault
accumulator_faulty k text fault h = last_found (IsAccumulator 1) (IsAbove 3) (length text) text (accumulator_at text) (accumulator_field text) k fault h

device_given : (bits : ℕ) (text : List ℕ) (fault : SymbolFault) → IsLastDevice text fault → device_operand bits text ≡ Err fault
unfolding device_operand
device_given bits text fault is = last_given IsDevice (IsAbove 63) (length text) text (device_at text) (device_field text) (λ v. bits + v) fault is

device_faulty : (bits : ℕ) (text : List ℕ) (fault : SymbolFault) → device_operand bits text ≡ Err fault → IsLastDevice text fault
unfolding device_operand
device_faulty bits text fault h = last_found IsDevice (IsAbove 63) (length text) text (device_at text) (device_field text) (λ v. bits + v) fault h

skip_given : (bits : ℕ) (text : List ℕ) (fault : SymbolFault) → IsLastSkip text fault → (skip_at text >>= λ x. ended (bits + x.0) x.1) ≡ Err fault
skip_given bits text fault is = last_given IsSkip IsNeverAbove (length text) text (skip_at text) (skip_field text) (λ v. bits + v) fault is

skip_faulty : (bits : ℕ) (text : List ℕ) (fault : SymbolFault) → (skip_at text >>= λ x. ended (bits + x.0) x.1) ≡ Err fault → IsLastSkip text fault
skip_faulty bits text fault h = last_found IsSkip IsNeverAbove (length text) text (skip_at text) (skip_field text) (λ v. bits + v) fault h

-- an accumulator before other operands

module _ (next : ℕ → List ℕ → Result ℕ SymbolFault) (Next : List ℕ → SymbolFault → Type 0) (text : List ℕ) where
  before_given : ((v : ℕ) (s : List ℕ) (fault : SymbolFault) → Next s fault → next v s ≡ Err fault) → (fault : SymbolFault) → IsFirstAccumulator Next text fault → (accumulator_at text >>= λ x. comma_at x.1 >>= λ s. next x.0 s) ≡ Err fault
  before_given given fault is = first_given (IsAccumulator 1) (IsAbove 3) (length text) text (accumulator_at text) (accumulator_field text) next Next given fault is

  before_faulty : ((v : ℕ) (s : List ℕ) (fault : SymbolFault) → next v s ≡ Err fault → Next s fault) → (fault : SymbolFault) → (accumulator_at text >>= λ x. comma_at x.1 >>= λ s. next x.0 s) ≡ Err fault → IsFirstAccumulator Next text fault
  before_faulty found fault h = first_found (IsAccumulator 1) (IsAbove 3) (length text) text (accumulator_at text) (accumulator_field text) next Next found fault h

processor_given : (bits : ℕ) (text : List ℕ) (fault : SymbolFault) → IsLastAccumulator text fault → processor_operand bits text ≡ Err fault
unfolding processor_operand
processor_given bits text fault is = accumulator_given (λ v. bits + 2048 * v) text fault is

processor_faulty : (bits : ℕ) (text : List ℕ) (fault : SymbolFault) → processor_operand bits text ≡ Err fault → IsLastAccumulator text fault
unfolding processor_operand
processor_faulty bits text fault h = accumulator_faulty (λ v. bits + 2048 * v) text fault h

load_given : (bits : ℕ) (text : List ℕ) (fault : SymbolFault) → IsFirstAccumulator TargetFaults text fault → load_operands bits text ≡ Err fault
unfolding load_operands
load_given bits text fault is = before_given (λ v s. memory_operands (bits + 2048 * v) s) TargetFaults text (λ v s fault is. target_given (bits + 2048 * v) s fault is) fault is

load_faulty : (bits : ℕ) (text : List ℕ) (fault : SymbolFault) → load_operands bits text ≡ Err fault → IsFirstAccumulator TargetFaults text fault
unfolding load_operands
load_faulty bits text fault h = before_faulty (λ v s. memory_operands (bits + 2048 * v) s) TargetFaults text (λ v s fault h. target_faulty (bits + 2048 * v) s fault h) fault h

transfer_given : (bits : ℕ) (text : List ℕ) (fault : SymbolFault) → IsFirstAccumulator IsLastDevice text fault → transfer_operands bits text ≡ Err fault
unfolding transfer_operands
transfer_given bits text fault is = before_given (λ v s. device_operand (bits + 2048 * v) s) IsLastDevice text (λ v s fault is. device_given (bits + 2048 * v) s fault is) fault is

transfer_faulty : (bits : ℕ) (text : List ℕ) (fault : SymbolFault) → transfer_operands bits text ≡ Err fault → IsFirstAccumulator IsLastDevice text fault
unfolding transfer_operands
transfer_faulty bits text fault h = before_faulty (λ v s. device_operand (bits + 2048 * v) s) IsLastDevice text (λ v s fault h. device_faulty (bits + 2048 * v) s fault h) fault h

-- a second accumulator, and a skip where a comma follows

abbrev second_word : ℕ → Result (ℕ × List ℕ) SymbolFault → Result ℕ SymbolFault
second_word bits r = r >>= λ d. skip_operand (after_comma d.1) (bits + 2048 * d.0) d.1

abbrev skip_word : ℕ → ℕ → List ℕ → Result ℕ SymbolFault
skip_word bits v s = skip_at s >>= λ k. ended (bits + 2048 * v + k.0) k.1

some_skip : (bits : ℕ) (q : Result ℕ SymbolFault) (rest s : List ℕ) → after_comma rest ≡ Some s → second_word bits (q >>= λ n. pair_ok n rest) ≡ ((q >>= λ n. pair_ok n rest) >>= λ x. comma_at x.1 >>= λ s. skip_word bits x.0 s)
unfolding comma_at
some_skip bits (Err e) rest s h = refl
some_skip bits (Ok n) rest s h =
    ap (λ (o : Option (List ℕ)). skip_operand o (bits + 2048 * n) rest) h ∙ sym (ap (λ (o : Option (List ℕ)). comma_found o rest >>= λ s. skip_word bits n s) h)

no_skip : (bits : ℕ) (q : Result ℕ SymbolFault) (rest : List ℕ) → after_comma rest ≡ None → second_word bits (q >>= λ n. pair_ok n rest) ≡ ((q >>= λ n. pair_ok n rest) >>= λ x. ended (bits + 2048 * x.0) x.1)
no_skip bits (Err e) rest h = refl
no_skip bits (Ok n) rest h = ap (λ (o : Option (List ℕ)). skip_operand o (bits + 2048 * n) rest) h

second_some : (bits : ℕ) (text s : List ℕ) → after_comma (operand_at text).1 ≡ Some s → second_word bits (accumulator_at text) ≡ (accumulator_at text >>= λ x. comma_at x.1 >>= λ s. skip_word bits x.0 s)
unfolding accumulator_at
second_some bits text s h = some_skip bits (number 3 (operand_at text).0 (length text) (length text)) (operand_at text).1 s h

second_none : (bits : ℕ) (text : List ℕ) → after_comma (operand_at text).1 ≡ None → second_word bits (accumulator_at text) ≡ (accumulator_at text >>= λ x. ended (bits + 2048 * x.0) x.1)
unfolding accumulator_at
second_none bits text h = no_skip bits (number 3 (operand_at text).0 (length text) (length text)) (operand_at text).1 h

second_cases : (bits : ℕ) (text : List ℕ) (fault : SymbolFault) (o : Option (List ℕ)) → after_comma (operand_at text).1 ≡ o → SecondFaults text fault → second_word bits (accumulator_at text) ≡ Err fault
second_cases bits text fault (Some s) comma (inl is) =
    second_some bits text s comma ∙ before_given (λ v s. skip_word bits v s) IsLastSkip text (λ v s fault is. skip_given (bits + 2048 * v) s fault is) fault is.1
second_cases bits text fault (Some s) comma (inr is) = absurd (is.0 (comma_next text s comma))
second_cases bits text fault None comma (inl is) = absurd (no_comma_next text comma is.0)
second_cases bits text fault None comma (inr is) = second_none bits text comma ∙ accumulator_given (λ v. bits + 2048 * v) text fault is.1

second_given : (bits : ℕ) (text : List ℕ) (fault : SymbolFault) → SecondFaults text fault → second_word bits (accumulator_at text) ≡ Err fault
second_given bits text fault is = second_cases bits text fault (after_comma (operand_at text).1) refl is

second_faulty_cases : (bits : ℕ) (text : List ℕ) (fault : SymbolFault) (o : Option (List ℕ)) → after_comma (operand_at text).1 ≡ o → second_word bits (accumulator_at text) ≡ Err fault → SecondFaults text fault
second_faulty_cases bits text fault (Some s) comma h =
    inl (comma_next text s comma, before_faulty (λ v s. skip_word bits v s) IsLastSkip text (λ v s fault h. skip_faulty (bits + 2048 * v) s fault h) fault (sym (second_some bits text s comma) ∙ h))
second_faulty_cases bits text fault None comma h =
    inr (no_comma_next text comma, accumulator_faulty (λ v. bits + 2048 * v) text fault (sym (second_none bits text comma) ∙ h))

second_faulty : (bits : ℕ) (text : List ℕ) (fault : SymbolFault) → second_word bits (accumulator_at text) ≡ Err fault → SecondFaults text fault
second_faulty bits text fault h = second_faulty_cases bits text fault (after_comma (operand_at text).1) refl h

arithmetic_given : (bits : ℕ) (text : List ℕ) (fault : SymbolFault) → IsFirstAccumulator SecondFaults text fault → arithmetic_operands bits text ≡ Err fault
unfolding arithmetic_operands
arithmetic_given bits text fault is = before_given (λ v s. second_word (bits + 8192 * v) (accumulator_at s)) SecondFaults text (λ v s fault is. second_given (bits + 8192 * v) s fault is) fault is

arithmetic_faulty : (bits : ℕ) (text : List ℕ) (fault : SymbolFault) → arithmetic_operands bits text ≡ Err fault → IsFirstAccumulator SecondFaults text fault
unfolding arithmetic_operands
arithmetic_faulty bits text fault h = before_faulty (λ v s. second_word (bits + 8192 * v) (accumulator_at s)) SecondFaults text (λ v s fault h. second_faulty (bits + 8192 * v) s fault h) fault h

-- a device, and an accumulator before it where a comma follows

devices_cases : (bits : ℕ) (text : List ℕ) (fault : SymbolFault) (o : Option (List ℕ)) → after_comma (operand_at text).1 ≡ o → DeviceFaults text fault → one_or_two o bits text ≡ Err fault
devices_cases bits text fault (Some s) comma (inl is) = transfer_given bits text fault is.1
devices_cases bits text fault (Some s) comma (inr is) = absurd (is.0 (comma_next text s comma))
devices_cases bits text fault None comma (inl is) = absurd (no_comma_next text comma is.0)
devices_cases bits text fault None comma (inr is) = device_given bits text fault is.1

devices_given : (bits : ℕ) (text : List ℕ) (fault : SymbolFault) → DeviceFaults text fault → device_operands bits text ≡ Err fault
unfolding device_operands
devices_given bits text fault is = devices_cases bits text fault (after_comma (operand_at text).1) refl is

devices_faulty_cases : (bits : ℕ) (text : List ℕ) (fault : SymbolFault) (o : Option (List ℕ)) → after_comma (operand_at text).1 ≡ o → one_or_two o bits text ≡ Err fault → DeviceFaults text fault
devices_faulty_cases bits text fault (Some s) comma h = inl (comma_next text s comma, transfer_faulty bits text fault h)
devices_faulty_cases bits text fault None comma h = inr (no_comma_next text comma, device_faulty bits text fault h)

devices_faulty : (bits : ℕ) (text : List ℕ) (fault : SymbolFault) → device_operands bits text ≡ Err fault → DeviceFaults text fault
unfolding device_operands
devices_faulty bits text fault h = devices_faulty_cases bits text fault (after_comma (operand_at text).1) refl h

-- the operands of each shape

operands_given : (shape : Shape) (bits : ℕ) (rest text : List ℕ) (fault : SymbolFault) → past_blanks rest ≡ text → OperandFaults shape text fault → operands shape bits rest ≡ Err fault
unfolding operands
operands_given Alone bits rest text fault past is = absurd is
operands_given Processor bits rest text fault past is = ap (processor_operand bits) past ∙ processor_given bits text fault is
operands_given Memory bits rest text fault past is = ap (memory_operands bits) past ∙ target_given bits text fault is
operands_given Load bits rest text fault past is = ap (load_operands bits) past ∙ load_given bits text fault is
operands_given Arithmetic bits rest text fault past is = ap (arithmetic_operands bits) past ∙ arithmetic_given bits text fault is
operands_given Transfer bits rest text fault past is = ap (transfer_operands bits) past ∙ transfer_given bits text fault is
operands_given Device bits rest text fault past is = ap (device_operands bits) past ∙ devices_given bits text fault is

operands_faulty : (shape : Shape) (bits : ℕ) (rest : List ℕ) (fault : SymbolFault) → (shape ≡ Alone → ⊥) → operands shape bits rest ≡ Err fault → OperandFaults shape (past_blanks rest) fault
unfolding operands
operands_faulty Alone bits rest fault some h = some refl
operands_faulty Processor bits rest fault some h = processor_faulty bits (past_blanks rest) fault h
operands_faulty Memory bits rest fault some h = target_faulty bits (past_blanks rest) fault h
operands_faulty Load bits rest fault some h = load_faulty bits (past_blanks rest) fault h
operands_faulty Arithmetic bits rest fault some h = arithmetic_faulty bits (past_blanks rest) fault h
operands_faulty Transfer bits rest fault some h = transfer_faulty bits (past_blanks rest) fault h
operands_faulty Device bits rest fault some h = devices_faulty bits (past_blanks rest) fault h

-- the whole text

placed_given : (text : List ℕ) (fault : SymbolFault) → read_from_end text ≡ Err fault → reading text ≡ Err (placed (length text) fault)
unfolding reading
placed_given text fault h = ap (with_place (length text)) h

unnamed : (word : List ℕ) (o : Option Naming) → named word ≡ o → ((shape : Shape) (bits : ℕ) → IsNamed word shape bits → ⊥) → o ≡ None
unnamed word None is none = refl
unnamed word (Some n) is none = absurd (none n.shape n.bits (named_is word n is))

unknown_given : (text word rest : List ℕ) → word_at text ≡ (word, rest) → named word ≡ None → read_from_end text ≡ Err UnknownName
unfolding read_from_end
unknown_given text word rest split none =
    ap (λ (p : List ℕ × List ℕ). named_operands (named p.0) p.1) split ∙ ap (λ (o : Option Naming). named_operands o rest) none

alone_given : (bits : ℕ) (rest : List ℕ) → 0 < length rest → operands Alone bits rest ≡ Err (Extra (length rest))
unfolding operands ended
alone_given bits [] some = absurd (omega arith)
alone_given bits (b ∷ more) some = refl

place_behind : (text word rest : List ℕ) → text ≡ word ++ rest → length text - length rest ≡ length word
place_behind text word rest spelled = omega (arith, ap length spelled ∙ length-append word rest)

abbrev extra_at : ℕ → Result ℕ SymbolFault
extra_at place = Err (Extra place)

pub fault_given : (text : List ℕ) (fault : SymbolFault) → Faults text fault → reading text ≡ Err fault
fault_given text fault (unknown_name _ word rest spelled whole ends none) =
    let split = ap word_at spelled ∙ word_split word rest (free_from is_blank IsBlank blank_is blank_passes word whole) (starts_with is_blank IsBlank blank_is blank_passes rest ends) in
    placed_given text UnknownName (unknown_given text word rest split (unnamed word (named word) refl none))
fault_given text fault (behind_name _ word rest bits spelled is ends some) =
    placed_given text (Extra (length rest)) (word_reads text word rest Alone bits spelled (starts_with is_blank IsBlank blank_is blank_passes rest ends) (name_given word Alone bits is) ∙ alone_given bits rest some) ∙ ap extra_at (place_behind text word rest spelled)
fault_given text fault (at_operands _ word blanks rest shape bits e spelled is are past ends faulty) =
    placed_given text e (word_reads text word (blanks ++ rest) shape bits spelled (starts_with is_blank IsBlank blank_is blank_passes (blanks ++ rest) ends) (name_given word shape bits is) ∙ operands_given shape bits (blanks ++ rest) rest e (past_blanks_split blanks rest are (starts_without is_blank IsBlank blank_is blank_passes rest past)) faulty)

-- a fault from the end

record FromEnd (text : List ℕ) (fault : SymbolFault) : Type 0 where
  left : SymbolFault
  was : read_from_end text ≡ Err left
  place : placed (length text) left ≡ fault

from_end_cases : (text : List ℕ) (fault : SymbolFault) (r : Result ℕ SymbolFault) → read_from_end text ≡ r → with_place (length text) r ≡ Err fault → FromEnd text fault
from_end_cases text fault (Ok w) was h = cc
from_end_cases text fault (Err e) was h = record { left = e; was = was; place = cc }

from_end : (text : List ℕ) (fault : SymbolFault) → reading text ≡ Err fault → FromEnd text fault
unfolding reading
from_end text fault h = from_end_cases text fault (read_from_end text) refl h

-- the first word, and what follows it
record Worded (text word rest : List ℕ) : Type 0 where
  spelled : text ≡ word ++ rest
  whole : All (λ b. IsBlank b → ⊥) word
  ends : StartsIn IsBlank rest

worded : (text : List ℕ) → Worded text (word_at text).0 (word_at text).1
unfolding word_at
worded text =
    let n = position_or_len is_blank text in
    record {
      spelled = sym (take-append-drop n text);
      whole = all_from is_blank IsBlank blank_is blank_passes (take n text) (front_free is_blank text);
      ends = starts_in is_blank IsBlank blank_is blank_passes (drop n text) (rest_starts is_blank text);
    }

alone_faulty : (bits : ℕ) (rest : List ℕ) (fault : SymbolFault) → operands Alone bits rest ≡ Err fault → (0 < length rest) × (Extra (length rest) ≡ fault)
unfolding operands ended
alone_faulty bits [] fault h = cc
alone_faulty bits (b ∷ more) fault h = (omega arith, cc)

behind_faulty : (text word rest : List ℕ) (bits : ℕ) (e : SymbolFault) → Worded text word rest → IsNamed word Alone bits → operands Alone bits rest ≡ Err e → Faults text (placed (length text) e)
behind_faulty text word rest bits e is name h =
    let found = alone_faulty bits rest e h in
    let place = place_behind text word rest is.spelled in
    subst (λ (f : SymbolFault). Faults text (placed (length text) f)) found.1 (subst (λ (n : ℕ). Faults text (Extra n)) (sym place) (behind_name text word rest bits is.spelled name is.ends found.0))

operands_fault : (text word rest : List ℕ) (shape : Shape) (bits : ℕ) (e : SymbolFault) → Worded text word rest → IsNamed word shape bits → (shape ≡ Alone → ⊥) → operands shape bits rest ≡ Err e → Faults text (placed (length text) e)
operands_fault text word rest shape bits e is name some h =
    let before = blanked rest in
    let past = past_blanks rest in
    at_operands text word before.blanks past shape bits e (is.spelled ∙ ap (λ (t : List ℕ). word ++ t) before.spelled) name before.are (starts_outside is_blank IsBlank blank_is blank_passes past (past_other rest)) (subst (StartsIn IsBlank) before.spelled is.ends) (operands_faulty shape bits rest e some h)

shape_faulty : (shape : Shape) (text word rest : List ℕ) (bits : ℕ) (e : SymbolFault) → Worded text word rest → IsNamed word shape bits → operands shape bits rest ≡ Err e → Faults text (placed (length text) e)
shape_faulty Alone text word rest bits e is name h = behind_faulty text word rest bits e is name h
shape_faulty Processor text word rest bits e is name h = operands_fault text word rest Processor bits e is name (λ no. cc) h
shape_faulty Memory text word rest bits e is name h = operands_fault text word rest Memory bits e is name (λ no. cc) h
shape_faulty Load text word rest bits e is name h = operands_fault text word rest Load bits e is name (λ no. cc) h
shape_faulty Arithmetic text word rest bits e is name h = operands_fault text word rest Arithmetic bits e is name (λ no. cc) h
shape_faulty Transfer text word rest bits e is name h = operands_fault text word rest Transfer bits e is name (λ no. cc) h
shape_faulty Device text word rest bits e is name h = operands_fault text word rest Device bits e is name (λ no. cc) h

named_faulty : (text : List ℕ) (o : Option Naming) (e : SymbolFault) → named (word_at text).0 ≡ o → named_operands o (word_at text).1 ≡ Err e → Faults text (placed (length text) e)
named_faulty text None e is h =
    let all = worded text in
    let same : UnknownName ≡ e = cc in
    subst (λ (f : SymbolFault). Faults text (placed (length text) f)) same (unknown_name text (word_at text).0 (word_at text).1 all.spelled all.whole all.ends (λ shape bits name. let names = (name_given (word_at text).0 shape bits name).names in cc))
named_faulty text (Some n) e is h =
    shape_faulty n.shape text (word_at text).0 (word_at text).1 n.bits e (worded text) (named_is (word_at text).0 n is) h

from_end_faulty : (text : List ℕ) (e : SymbolFault) → read_from_end text ≡ Err e → Faults text (placed (length text) e)
unfolding read_from_end
from_end_faulty text e h = named_faulty text (named (word_at text).0) e refl h

pub fault_found : (text : List ℕ) (fault : SymbolFault) → reading text ≡ Err fault → Faults text fault
fault_found text fault h =
    let end = from_end text fault h in
    subst (Faults text) end.place (from_end_faulty text end.left end.was)

pub exactly_faulty : (text : List ℕ) (fault : SymbolFault) → Faults text fault ↔ (reading text ≡ Err fault)
exactly_faulty text fault = (fault_given text fault, fault_found text fault)
