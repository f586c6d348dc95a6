-- Texts of each form are read: the whole text, and no text is two words.
use Rattle.std.proofs.Common.{◌≡◌, ◌↔◌, ℕ, ◌+◌, ◌*◌, ◌<◌, true, Option, Result, Ok, Err, List, [], ◌++◌, length, ap, sym, subst, ◌∙◌, arith}
use Rattle.std.proofs.lemmas.List.{append-nil}
use Rattle.line_text.specs.Words.{is_blank, word_at, past_blanks}
use Rattle.nova_symbols.specs.declared.fault.SymbolFault.{SymbolFault}
use Rattle.nova_symbols.specs.declared.names.Shape.{Shape}
use Rattle.nova_symbols.specs.declared.names.Shape.TheVariants.{Alone}
use Rattle.nova_symbols.specs.declared.names.Naming.{Naming}
use Rattle.nova_symbols.specs.Naming.{named}
use Rattle.nova_symbols.specs.Operands.{◌>>=◌, is_separator, operand_at, after_comma, comma_found, comma_at, accumulator_at, ended}
use Rattle.nova_symbols.specs.Reading.{memory_operands, load_operands, skip_operand, arithmetic_operands, device_operand, transfer_operands, one_or_two, device_operands, processor_operand, operands, named_operands, read_from_end, with_place, reading}
use Rattle.nova_symbols.specs.Forms.{IsGap, IsPair, IsAccumulator, IsTarget, IsSkip, IsDevice, AreOperands, processor, memory, load, no_skip, skip, transfer, device, with_accumulator, Reads, name_alone, name_and_operands}
use Rattle.nova_symbols.proofs.ReadsLemmas.{reads_found}
use Rattle.nova_symbols.proofs.SplitLemmas.{free, StartsWith, operand_split, word_split, past_blanks_split, starts_blank, after_gap, starts_gap, starts_other}
use Rattle.nova_symbols.proofs.FieldLemmas.{whole_split, accumulator_free, accumulator_some, accumulator_reads, skip_is_free, skip_some, skip_reads, device_is_free, device_some, device_reads}
use Rattle.nova_symbols.proofs.AddressLemmas.{no_comma, target_reads, target_other}
use Rattle.nova_symbols.proofs.NameLemmas.{NameRead, name_given}
use Rattle.line_text.proofs.BlankLemmas.{is_other}

-- an operand that is a whole text begins with no blank
whole_other : (part : List ℕ) → free is_separator part ≡ true → 0 < length part → StartsWith is_other part
whole_other part none some = subst (StartsWith is_other) (append-nil part) (starts_other part [] none some)

accumulator_other : (scale : ℕ) (part : List ℕ) (n : ℕ) → IsAccumulator scale part n → StartsWith is_other part
accumulator_other scale part n is = whole_other part (accumulator_free scale part n is) (accumulator_some scale part n is)

device_other : (part : List ℕ) (n : ℕ) → IsDevice part n → StartsWith is_other part
device_other part n is = whole_other part (device_is_free part n is) (device_some part n is)

skip_other : (part : List ℕ) (n : ℕ) → IsSkip part n → StartsWith is_other part
skip_other part n is = whole_other part (skip_is_free part n is) (skip_some part n is)

pair_other : (scale : ℕ) (Second : List ℕ → ℕ → Type 0) (text : List ℕ) (n : ℕ) → IsPair (IsAccumulator scale) Second text n → StartsWith is_other text
pair_other scale Second text n is =
    subst (StartsWith is_other) (sym is.spelled) (starts_other is.first (is.gap ++ is.second) (accumulator_free scale is.first is.a is.is_first) (accumulator_some scale is.first is.a is.is_first))

-- an accumulator that is the last operand
last_accumulator : (scale : ℕ) (text : List ℕ) (n : ℕ) (is : IsAccumulator scale text n) → accumulator_at text ≡ Ok (is.number, [])
last_accumulator scale text n is = ap accumulator_at (sym (append-nil text)) ∙ accumulator_reads scale text [] n is tt

-- an accumulator that is no last operand
first_accumulator : (scale : ℕ) (Second : List ℕ → ℕ → Type 0) (text : List ℕ) (n : ℕ) (is : IsPair (IsAccumulator scale) Second text n) → accumulator_at text ≡ Ok (is.is_first.number, is.gap ++ is.second)
first_accumulator scale Second text n is =
    ap accumulator_at is.spelled ∙ accumulator_reads scale is.first (is.gap ++ is.second) is.a is.is_first (starts_gap is.gap is.second is.comma)

pub comma_given : (gap next : List ℕ) → IsGap gap → StartsWith is_other next → comma_at (gap ++ next) ≡ Ok next
unfolding comma_at
comma_given gap next is starts = ap (λ (o : Option (List ℕ)). comma_found o (gap ++ next)) (after_gap gap next is starts)

-- an accumulator, a comma and what follows it
pair_given : (scale : ℕ) (Second : List ℕ → ℕ → Type 0) (text : List ℕ) (n : ℕ) (f : ℕ → List ℕ → Result ℕ SymbolFault) (is : IsPair (IsAccumulator scale) Second text n) → StartsWith is_other is.second → (accumulator_at text >>= λ a. comma_at a.1 >>= λ next. f a.0 next) ≡ f is.is_first.number is.second
pair_given scale Second text n f is starts =
    ap (λ (r : Result (ℕ × List ℕ) SymbolFault). r >>= λ a. comma_at a.1 >>= λ next. f a.0 next) (first_accumulator scale Second text n is) ∙ ap (λ (r : Result (List ℕ) SymbolFault). r >>= λ next. f is.is_first.number next) (comma_given is.gap is.second is.comma starts)

summed : (bits a b c n : ℕ) → c ≡ a → n ≡ a + b → bits + c + b ≡ bits + n
summed bits a b c n same sum = omega arith

ok_at : (v w : ℕ) → v ≡ w → ◌≡◌ {A = Result ℕ SymbolFault} (Ok v) (Ok w)
ok_at v w same = ap (λ (m : ℕ). Ok m) same

pair_sum : (scale : ℕ) (Second : List ℕ → ℕ → Type 0) (text : List ℕ) (bits n : ℕ) (is : IsPair (IsAccumulator scale) Second text n) → bits + scale * is.is_first.number + is.b ≡ bits + n
pair_sum scale Second text bits n is = summed bits is.a is.b (scale * is.is_first.number) n (sym is.is_first.counts) is.sum

memory_given : (bits : ℕ) (text : List ℕ) (n : ℕ) → IsTarget text n → memory_operands bits text ≡ Ok (bits + n)
unfolding memory_operands ended
memory_given bits text n is = ap (λ (r : Result (ℕ × List ℕ) SymbolFault). r >>= λ t. ended (bits + t.0) t.1) (target_reads text n is)

device_given : (bits : ℕ) (text : List ℕ) (n : ℕ) → IsDevice text n → device_operand bits text ≡ Ok (bits + n)
unfolding device_operand ended
device_given bits text n is = ap (λ (r : Result (ℕ × List ℕ) SymbolFault). r >>= λ t. ended (bits + t.0) t.1) (device_reads text n is)

processor_given : (bits : ℕ) (text : List ℕ) (n : ℕ) → IsAccumulator 2048 text n → processor_operand bits text ≡ Ok (bits + n)
unfolding processor_operand ended
processor_given bits text n is =
    ap (λ (r : Result (ℕ × List ℕ) SymbolFault). r >>= λ t. ended (bits + 2048 * t.0) t.1) (last_accumulator 2048 text n is) ∙ ap (λ (m : ℕ). Ok (bits + m)) (sym is.counts)

load_given : (bits : ℕ) (text : List ℕ) (n : ℕ) → IsPair (IsAccumulator 2048) IsTarget text n → load_operands bits text ≡ Ok (bits + n)
unfolding load_operands
load_given bits text n is =
    pair_given 2048 IsTarget text n (λ a next. memory_operands (bits + 2048 * a) next) is (target_other is.second is.b is.is_second) ∙ memory_given (bits + 2048 * is.is_first.number) is.second is.b is.is_second ∙ ok_at _ _ (pair_sum 2048 IsTarget text bits n is)

transfer_given : (bits : ℕ) (text : List ℕ) (n : ℕ) → IsPair (IsAccumulator 2048) IsDevice text n → transfer_operands bits text ≡ Ok (bits + n)
unfolding transfer_operands
transfer_given bits text n is =
    pair_given 2048 IsDevice text n (λ a next. device_operand (bits + 2048 * a) next) is (device_other is.second is.b is.is_second) ∙ device_given (bits + 2048 * is.is_first.number) is.second is.b is.is_second ∙ ok_at _ _ (pair_sum 2048 IsDevice text bits n is)

-- the second accumulator, and the skip
pub second_operand : ℕ → List ℕ → Result ℕ SymbolFault
second_operand bits text = accumulator_at text >>= λ d. skip_operand (after_comma d.1) (bits + 2048 * d.0) d.1

second_given : (bits : ℕ) (text : List ℕ) (n : ℕ) → IsAccumulator 2048 text n → second_operand bits text ≡ Ok (bits + n)
unfolding second_operand ended
second_given bits text n is =
    ap (λ (r : Result (ℕ × List ℕ) SymbolFault). r >>= λ d. skip_operand (after_comma d.1) (bits + 2048 * d.0) d.1) (last_accumulator 2048 text n is) ∙ ap (λ (o : Option (List ℕ)). skip_operand o (bits + 2048 * is.number) []) no_comma ∙ ap (λ (m : ℕ). Ok (bits + m)) (sym is.counts)

skip_given : (bits : ℕ) (text : List ℕ) (n : ℕ) → IsPair (IsAccumulator 2048) IsSkip text n → second_operand bits text ≡ Ok (bits + n)
unfolding second_operand ended
skip_given bits text n is =
    let before = bits + 2048 * is.is_first.number in
    let rest = is.gap ++ is.second in
    ap (λ (r : Result (ℕ × List ℕ) SymbolFault). r >>= λ d. skip_operand (after_comma d.1) (bits + 2048 * d.0) d.1) (first_accumulator 2048 IsSkip text n is) ∙ ap (λ (o : Option (List ℕ)). skip_operand o before rest) (after_gap is.gap is.second is.comma (skip_other is.second is.b is.is_second)) ∙ ap (λ (r : Result (ℕ × List ℕ) SymbolFault). r >>= λ s. ended (before + s.0) s.1) (skip_reads is.second is.b is.is_second) ∙ ok_at _ _ (pair_sum 2048 IsSkip text bits n is)

pub both_accumulators : (bits : ℕ) (Second : List ℕ → ℕ → Type 0) (text : List ℕ) (n : ℕ) (is : IsPair (IsAccumulator 8192) Second text n) → StartsWith is_other is.second → arithmetic_operands bits text ≡ second_operand (bits + 8192 * is.is_first.number) is.second
unfolding arithmetic_operands second_operand
both_accumulators bits Second text n is starts =
    pair_given 8192 Second text n (λ s next. accumulator_at next >>= λ d. skip_operand (after_comma d.1) (bits + 8192 * s + 2048 * d.0) d.1) is starts

-- a device alone, or one behind an accumulator

alone_given : (bits : ℕ) (text : List ℕ) (n : ℕ) → IsDevice text n → device_operands bits text ≡ Ok (bits + n)
unfolding device_operands
alone_given bits text n is =
    ap (λ (p : List ℕ × List ℕ). one_or_two (after_comma p.1) bits text) (whole_split text (device_is_free text n is)) ∙ ap (λ (o : Option (List ℕ)). one_or_two o bits text) no_comma ∙ device_given bits text n is

behind_given : (bits : ℕ) (text : List ℕ) (n : ℕ) → IsPair (IsAccumulator 2048) IsDevice text n → device_operands bits text ≡ Ok (bits + n)
unfolding device_operands
behind_given bits text n is =
    let split = ap operand_at is.spelled ∙ operand_split is.first (is.gap ++ is.second) (accumulator_free 2048 is.first is.a is.is_first) (starts_gap is.gap is.second is.comma) in
    ap (λ (p : List ℕ × List ℕ). one_or_two (after_comma p.1) bits text) split ∙ ap (λ (o : Option (List ℕ)). one_or_two o bits text) (after_gap is.gap is.second is.comma (device_other is.second is.b is.is_second)) ∙ transfer_given bits text n is

-- the operands of each shape

operands_other : (shape : Shape) (text : List ℕ) (n : ℕ) → AreOperands shape text n → StartsWith is_other text
operands_other shape text n (processor _ _ is) = accumulator_other 2048 text n is
operands_other shape text n (memory _ _ is) = target_other text n is
operands_other shape text n (load _ _ is) = pair_other 2048 IsTarget text n is
operands_other shape text n (no_skip _ _ is) = pair_other 8192 (IsAccumulator 2048) text n is
operands_other shape text n (skip _ _ is) = pair_other 8192 (IsPair (IsAccumulator 2048) IsSkip) text n is
operands_other shape text n (transfer _ _ is) = pair_other 2048 IsDevice text n is
operands_other shape text n (device _ _ is) = device_other text n is
operands_other shape text n (with_accumulator _ _ is) = pair_other 2048 IsDevice text n is

operands_given : (shape : Shape) (bits : ℕ) (rest text : List ℕ) (n : ℕ) → past_blanks rest ≡ text → AreOperands shape text n → operands shape bits rest ≡ Ok (bits + n)
unfolding operands
operands_given shape bits rest text n past (processor _ _ is) = ap (processor_operand bits) past ∙ processor_given bits text n is
operands_given shape bits rest text n past (memory _ _ is) = ap (memory_operands bits) past ∙ memory_given bits text n is
operands_given shape bits rest text n past (load _ _ is) = ap (load_operands bits) past ∙ load_given bits text n is
operands_given shape bits rest text n past (no_skip _ _ is) =
    ap (arithmetic_operands bits) past ∙ both_accumulators bits (IsAccumulator 2048) text n is (accumulator_other 2048 is.second is.b is.is_second) ∙ second_given (bits + 8192 * is.is_first.number) is.second is.b is.is_second ∙ ok_at _ _ (pair_sum 8192 (IsAccumulator 2048) text bits n is)
operands_given shape bits rest text n past (skip _ _ is) =
    ap (arithmetic_operands bits) past ∙ both_accumulators bits (IsPair (IsAccumulator 2048) IsSkip) text n is (pair_other 2048 IsSkip is.second is.b is.is_second) ∙ skip_given (bits + 8192 * is.is_first.number) is.second is.b is.is_second ∙ ok_at _ _ (pair_sum 8192 (IsPair (IsAccumulator 2048) IsSkip) text bits n is)
operands_given shape bits rest text n past (transfer _ _ is) = ap (transfer_operands bits) past ∙ transfer_given bits text n is
operands_given shape bits rest text n past (device _ _ is) = ap (device_operands bits) past ∙ alone_given bits text n is
operands_given shape bits rest text n past (with_accumulator _ _ is) = ap (device_operands bits) past ∙ behind_given bits text n is

-- the whole

pub word_reads : (text word rest : List ℕ) (shape : Shape) (bits : ℕ) → text ≡ word ++ rest → StartsWith is_blank rest → NameRead word shape bits → read_from_end text ≡ operands shape bits rest
unfolding read_from_end
word_reads text word rest shape bits spelled starts name =
    ap (λ (t : List ℕ). named_operands (named (word_at t).0) (word_at t).1) spelled ∙ ap (λ (p : List ℕ × List ℕ). named_operands (named p.0) p.1) (word_split word rest name.whole starts) ∙ ap (λ (o : Option Naming). named_operands o rest) name.names

alone_reads : (word : List ℕ) (w : ℕ) → NameRead word Alone w → read_from_end word ≡ Ok w
unfolding operands ended
alone_reads word w name = word_reads word word [] Alone w (sym (append-nil word)) tt name

from_end_given : (text : List ℕ) (w : ℕ) → Reads text w → read_from_end text ≡ Ok w
from_end_given text w (name_alone _ _ is) = alone_reads text w (name_given text Alone w is)
from_end_given text w (name_and_operands _ word blanks rest shape bits n spelled is some are operands_are) =
    word_reads text word (blanks ++ rest) shape bits spelled (starts_blank blanks rest are some) (name_given word shape bits is) ∙ operands_given shape bits (blanks ++ rest) rest n (past_blanks_split blanks rest are (operands_other shape rest n operands_are)) operands_are

pub reads_given : (text : List ℕ) (w : ℕ) → Reads text w → reading text ≡ Ok w
unfolding reading
reads_given text w h = ap (with_place (length text)) (from_end_given text w h)

number_in : Result ℕ SymbolFault → ℕ
number_in (Ok w) = w
number_in (Err e) = 0

pub exactly_read : (text : List ℕ) (w : ℕ) → Reads text w ↔ (reading text ≡ Ok w)
exactly_read text w = (reads_given text w, reads_found text w)

pub one_word : (text : List ℕ) (v w : ℕ) → Reads text v → Reads text w → v ≡ w
unfolding number_in
one_word text v w h k = ap number_in (sym (reads_given text v h) ∙ reads_given text w k)
