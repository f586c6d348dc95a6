-- What every processor is, it stays behind each instruction.
use Rattle.std.proofs.Common.{◌≡◌, ℕ, ◌+◌, ◌-◌, ◌%◌, ◌^◌, ◌<◌, ◌==◌, Bool, false, length, slice_index, sym, subst, ◌∙◌, arith}
use Rattle.std.specs.Prelude.{slice_set, List}
use Rattle.std.proofs.lemmas.Bool.{cond_both}
use Rattle.nova_word.specs.Bits.{bits}
use Rattle.nova_memory.specs.Memory.{IsMemory, IsSize, get, put}
use Rattle.nova_memory.proofs.Chains.{put-size}
use Rattle.nova_memory.proofs.Keeps.{get-word, put-memory}
use Rattle.nova_alu.specs.Arithmetic.{loaded_accumulators, loaded_carry, skips_next}
use Rattle.nova_alu.specs.MultiplyDivide.{multiplied, divided, divide_overflows}
use Rattle.nova_alu.proofs.Words.{AreWords, Keeps, keeps-set, loaded-keeps, multiplied-keeps, divided-keeps}
pub use Rattle.nova_alu.proofs.Words.{word-held}
use Rattle.nova_processor.specs.declared.cpu.Cpu.{Cpu}
use Rattle.nova_processor.specs.Processor.{ProcessorState}
use Rattle.nova_processor.specs.Instruction.{following, advanced, jump, jump_to_subroutine, store_and_skip, load, store, without_accumulator, memory_reference, arithmetic}
use Rattle.nova_processor.specs.InputOutput.{multiply, divide, input, is_input, past, passed, tested, flag_skips, unanswered, multiply_divide}

-- ---- the registers: four accumulators of 16 bits, and a PC of 15

pub record IsCpu (cpu : Cpu) : Type 0 where
  pub four : length cpu.accumulators ≡ 4
  pub words : AreWords cpu.accumulators
  pub pc : cpu.pc < 2 ^ 15

cpu-advanced : (skips : Bool) (cpu : Cpu) → IsCpu cpu → IsCpu (advanced skips cpu)
unfolding advanced
cpu-advanced skips cpu valid = record {
  four = valid.four;
  words = valid.words;
  pc = cond_both skips (following (following cpu.pc)) (following cpu.pc) (λ (pc : ℕ). pc < 2 ^ 15) (λ _. omega arith) (λ _. omega arith);
}

cpu-at : (cpu : Cpu) (pc : ℕ) → pc < 2 ^ 15 → IsCpu cpu → IsCpu (record cpu { pc = pc })
cpu-at cpu pc low valid = record { four = valid.four; words = valid.words; pc = low }

cpu-keeps : (cpu : Cpu) (acs : List ℕ) (carry : Bool) → Keeps cpu.accumulators acs → IsCpu cpu → IsCpu (record cpu { accumulators = acs; carry = carry })
cpu-keeps cpu acs carry keeps valid = record { four = keeps.many ∙ valid.four; words = keeps.words; pc = valid.pc }

cpu-set : (cpu : Cpu) (i w : ℕ) → w < 2 ^ 16 → IsCpu cpu → IsCpu (record cpu { accumulators = slice_set cpu.accumulators i w })
cpu-set cpu i w word valid = cpu-keeps cpu (slice_set cpu.accumulators i w) cpu.carry (keeps-set cpu.accumulators i w word valid.words) valid

-- ---- the processor

-- with a memory, of a size that one may have
pub record IsProcessor (p : ProcessorState) : Type 0 where
  pub memory : IsMemory p.memory
  pub size : IsSize p.memory.size
  pub cpu : IsCpu p.cpu

with-cpu : (p : ProcessorState) (cpu : Cpu) → IsCpu cpu → IsProcessor p → IsProcessor (record p { cpu = cpu })
with-cpu p cpu now valid = record { memory = valid.memory; size = valid.size; cpu = now }

put-both : (p : ProcessorState) (cpu : Cpu) (a w : ℕ) → w < 2 ^ 16 → IsCpu cpu → IsProcessor p → IsProcessor (record p { cpu = cpu; memory = put p.memory a w })
put-both p cpu a w word now valid = record {
  memory = put-memory p.memory a w valid.memory word;
  size = subst IsSize (sym (put-size p.memory a w)) valid.size;
  cpu = now;
}

pub jump-keeps : (a : ℕ) (p : ProcessorState) → a < 2 ^ 15 → IsProcessor p → IsProcessor (jump a p)
unfolding jump
jump-keeps a p low valid = with-cpu p _ (cpu-at p.cpu a low valid.cpu) valid

subroutine-keeps : (a : ℕ) (p : ProcessorState) → a < 2 ^ 15 → IsProcessor p → IsProcessor (jump_to_subroutine a p)
unfolding jump_to_subroutine
subroutine-keeps a p low valid =
    with-cpu p _ (cpu-set (record p.cpu { pc = a }) 3 (following p.cpu.pc) (omega arith) (cpu-at p.cpu a low valid.cpu)) valid

skip-keeps : (a w : ℕ) (p : ProcessorState) → w < 2 ^ 16 → IsProcessor p → IsProcessor (store_and_skip a w p)
unfolding store_and_skip
skip-keeps a w p word valid = put-both p _ a w word (cpu-advanced (w == 0) p.cpu valid.cpu) valid

load-keeps : (i a : ℕ) (p : ProcessorState) → IsProcessor p → IsProcessor (load i a p)
unfolding load
load-keeps i a p valid =
    let w = get p.memory a in
    with-cpu p _ (cpu-advanced false (record p.cpu { accumulators = slice_set p.cpu.accumulators i w }) (cpu-set p.cpu i w (get-word p.memory a valid.memory) valid.cpu)) valid

store-keeps : (i a : ℕ) (p : ProcessorState) → IsProcessor p → IsProcessor (store i a p)
unfolding store
store-keeps i a p valid =
    put-both p _ a (slice_index p.cpu.accumulators i) (word-held p.cpu.accumulators i valid.cpu.words) (cpu-advanced false p.cpu valid.cpu) valid

without-keeps : (function a : ℕ) (p : ProcessorState) → a < 2 ^ 15 → IsProcessor p → IsProcessor (without_accumulator function a p)
unfolding without_accumulator
without-keeps function a p low valid =
    let more = (get p.memory a + 1) % 2 ^ 16 in
    let less = (get p.memory a + (2 ^ 16 - 1)) % 2 ^ 16 in
    cond_both (function == 0) (jump a p) _ IsProcessor (λ _. jump-keeps a p low valid)
    (λ _. cond_both (function == 1) (jump_to_subroutine a p) _ IsProcessor (λ _. subroutine-keeps a p low valid)
    (λ _. cond_both (function == 2) (store_and_skip a more p) (store_and_skip a less p) IsProcessor (λ _. skip-keeps a more p (omega arith) valid)
    (λ _. skip-keeps a less p (omega arith) valid)))

pub reference-keeps : (word a : ℕ) (p : ProcessorState) → a < 2 ^ 15 → IsProcessor p → IsProcessor (memory_reference word a p)
unfolding memory_reference
reference-keeps word a p low valid =
    cond_both (bits 0 2 word == 0) (without_accumulator (bits 3 4 word) a p) _ IsProcessor (λ _. without-keeps (bits 3 4 word) a p low valid)
    (λ _. cond_both (bits 0 2 word == 1) (load (bits 3 4 word) a p) (store (bits 3 4 word) a p) IsProcessor (λ _. load-keeps (bits 3 4 word) a p valid)
    (λ _. store-keeps (bits 3 4 word) a p valid))

pub arithmetic-keeps : (word : ℕ) (p : ProcessorState) → IsProcessor p → IsProcessor (arithmetic word p)
unfolding arithmetic
arithmetic-keeps word p valid =
    let acs = p.cpu.accumulators in
    let carry = p.cpu.carry in
    let cpu = record p.cpu { accumulators = loaded_accumulators word acs carry; carry = loaded_carry word acs carry } in
    let now = cpu-keeps p.cpu (loaded_accumulators word acs carry) (loaded_carry word acs carry) (loaded-keeps word acs carry valid.cpu.words) valid.cpu in
    with-cpu p _ (cpu-advanced (skips_next word acs carry) _ now) valid

multiply-keeps : (p : ProcessorState) → IsProcessor p → IsProcessor (multiply p)
unfolding multiply
multiply-keeps p valid =
    let acs = p.cpu.accumulators in
    with-cpu p _ (cpu-advanced false _ (cpu-keeps p.cpu (multiplied acs) p.cpu.carry (multiplied-keeps acs valid.cpu.words) valid.cpu)) valid

divide-keeps : (p : ProcessorState) → IsProcessor p → IsProcessor (divide p)
unfolding divide
divide-keeps p valid =
    let acs = p.cpu.accumulators in
    with-cpu p _ (cpu-advanced false _ (cpu-keeps p.cpu (divided acs) (divide_overflows acs) (divided-keeps acs valid.cpu.words) valid.cpu)) valid

pub input-keeps : (i w : ℕ) (p : ProcessorState) → w < 2 ^ 16 → IsProcessor p → IsProcessor (input i w p)
unfolding input
input-keeps i w p word valid = with-cpu p _ (cpu-advanced false _ (cpu-set p.cpu i w word valid.cpu)) valid

pub past-keeps : (p : ProcessorState) → IsProcessor p → IsProcessor (past p)
unfolding past
past-keeps p valid = with-cpu p _ (cpu-advanced false p.cpu valid.cpu) valid

pub passed-keeps : (function i w : ℕ) (p : ProcessorState) → w < 2 ^ 16 → IsProcessor p → IsProcessor (passed function i w p)
unfolding passed
passed-keeps function i w p word valid = cond_both (is_input function) (input i w p) (past p) IsProcessor (λ _. input-keeps i w p word valid) (λ _. past-keeps p valid)

pub tested-keeps : (test : ℕ) (busy done : Bool) (p : ProcessorState) → IsProcessor p → IsProcessor (tested test busy done p)
unfolding tested
tested-keeps test busy done p valid = with-cpu p _ (cpu-advanced (flag_skips test busy done) p.cpu valid.cpu) valid

pub unanswered-keeps : (word : ℕ) (p : ProcessorState) → IsProcessor p → IsProcessor (unanswered word p)
unfolding unanswered
unanswered-keeps word p valid =
    cond_both (bits 5 7 word == 7) (tested (bits 8 9 word) false false p) (passed (bits 5 7 word) (bits 3 4 word) 0 p) IsProcessor
    (λ _. tested-keeps (bits 8 9 word) false false p valid) (λ _. passed-keeps (bits 5 7 word) (bits 3 4 word) 0 p (omega arith) valid)

pub multiply_divide-keeps : (word : ℕ) (p : ProcessorState) → IsProcessor p → IsProcessor (multiply_divide word p)
unfolding multiply_divide
multiply_divide-keeps word p valid =
    cond_both (word == 0o73301) (multiply p) _ IsProcessor (λ _. multiply-keeps p valid)
    (λ _. cond_both (word == 0o73101) (divide p) (unanswered word p) IsProcessor (λ _. divide-keeps p valid) (λ _. unanswered-keeps word p valid))
