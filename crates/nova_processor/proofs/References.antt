-- A memory reference, by whether its word is indirect.
use Rattle.std.proofs.Common.{◌≡◌, ◌≢◌, ℕ, ◌+◌, ◌*◌, ◌%◌, ◌<◌, ◌==◌, Bool, true, false, List, slice_index, Option, Some, None, nat_lt, refl, ap, sym, ◌∙◌, arith, if◌then◌else◌}
use Rattle.std.proofs.lemmas.Bool.Decides.{nat_tests}
use Rattle.nova_word.specs.Bits.{bits}
use Rattle.nova_memory.specs.Memory.{MemoryState}
use Rattle.nova_memory.specs.Address.{Reference, displaced, indexed, chain, address}
use Rattle.nova_processor.specs.declared.burst.Step.TheVariants.{ChainLimit}
use Rattle.nova_processor.specs.Processor.{ProcessorState}
use Rattle.nova_processor.specs.Instruction.{without_accumulator, load, store, memory_reference, arithmetic}
use Rattle.nova_processor.specs.Burst.{Stepped, steps, refers_to, refers, passes, step_of}

-- the reference of a word, with what its chain comes to
reached : ℕ → ProcessorState → Reference → Stepped
reached w p r = refers_to w r.address (record p { memory = r.memory })

-- the address that is not followed
at-once : ℕ → ProcessorState → Reference
at-once w p = record { memory = p.memory; address = Some (indexed w p.cpu.pc p.cpu.accumulators) }

refers-if : (w : ℕ) (p : ProcessorState) → refers w p ≡ reached w p (if bits 5 5 w == 1 then chain 16 p.memory (indexed w p.cpu.pc p.cpu.accumulators) else at-once w p)
unfolding refers address reached at-once
refers-if w p = refl

step-refers : (w : ℕ) (p : ProcessorState) → w < 0o60000 → step_of w p ≡ refers w p
unfolding step_of
step-refers w p low =
    let is : nat_lt w 0o60000 ≡ true = grind (arith, nat_tests) in
    ap (λ (b : Bool). if b then refers w p else (if nat_lt w 0o100000 then passes w p else steps (arithmetic w p))) is

is-one : (n : ℕ) → n ≡ 1 → (n == 1) ≡ true
is-one n one = grind (arith, nat_tests)

no-one : (n : ℕ) → n ≢ 1 → (n == 1) ≡ false
no-one n other = grind (arith, nat_tests)

pub step-chained : (w : ℕ) (p : ProcessorState) → w < 0o60000 → bits 5 5 w ≡ 1 →
    step_of w p ≡ (let r = chain 16 p.memory (indexed w p.cpu.pc p.cpu.accumulators) in refers_to w r.address (record p { memory = r.memory }))
unfolding reached
step-chained w p low one =
    step-refers w p low ∙ refers-if w p
    ∙ ap (λ (b : Bool). reached w p (if b then chain 16 p.memory (indexed w p.cpu.pc p.cpu.accumulators) else at-once w p)) (is-one (bits 5 5 w) one)

pub step-direct : (w : ℕ) (p : ProcessorState) → w < 0o60000 → bits 5 5 w ≢ 1 → step_of w p ≡ steps (memory_reference w (indexed w p.cpu.pc p.cpu.accumulators) p)
unfolding reached at-once
step-direct w p low other =
    step-refers w p low ∙ refers-if w p
    ∙ ap (λ (b : Bool). reached w p (if b then chain 16 p.memory (indexed w p.cpu.pc p.cpu.accumulators) else at-once w p)) (no-one (bits 5 5 w) other)

-- a memory reference of that kind and function at its effective address
abbrev pub references : ℕ → ℕ → ℕ → ProcessorState → ProcessorState
references kind function address p =
    if kind == 0 then without_accumulator function address p
    else if kind == 1 then load function address p
    else store function address p

references-are : (w a : ℕ) (p : ProcessorState) → references (bits 0 2 w) (bits 3 4 w) a p ≡ memory_reference w a p
unfolding memory_reference
references-are w a p = refl

pub references-is : (w kind function a : ℕ) (p : ProcessorState) → kind ≡ bits 0 2 w → function ≡ bits 3 4 w → references kind function a p ≡ memory_reference w a p
references-is w kind function a p k f =
    ap (λ (n : ℕ). references n function a p) k ∙ ap (λ (n : ℕ). references (bits 0 2 w) n a p) f ∙ references-are w a p

pub refers-endless : (w at : ℕ) (p : ProcessorState) (after : MemoryState) → w < 0o60000 → bits 5 5 w ≡ 1 → at ≡ indexed w p.cpu.pc p.cpu.accumulators →
    None ≡ (chain 16 p.memory at).address → after ≡ (chain 16 p.memory at).memory → step_of w p ≡ record { processor = record p { memory = after }; end = ChainLimit }
refers-endless w at p after low one is endless stored =
    let place : chain 16 p.memory (indexed w p.cpu.pc p.cpu.accumulators) ≡ chain 16 p.memory at = ap (λ (a : ℕ). chain 16 p.memory a) (sym is) in
    step-chained w p low one
    ∙ ap (λ (r : Reference). refers_to w r.address (record p { memory = r.memory })) place
    ∙ ap (λ (a : Option ℕ). refers_to w a (record p { memory = (chain 16 p.memory at).memory })) (sym endless)
    ∙ ap (λ (m : MemoryState). refers_to w None (record p { memory = m })) (sym stored)

pub refers-through : (w at a : ℕ) (p : ProcessorState) (after : MemoryState) → w < 0o60000 → bits 5 5 w ≡ 1 → at ≡ indexed w p.cpu.pc p.cpu.accumulators →
    Some a ≡ (chain 16 p.memory at).address → after ≡ (chain 16 p.memory at).memory → step_of w p ≡ steps (memory_reference w a (record p { memory = after }))
refers-through w at a p after low one is ends stored =
    let place : chain 16 p.memory (indexed w p.cpu.pc p.cpu.accumulators) ≡ chain 16 p.memory at = ap (λ (a : ℕ). chain 16 p.memory a) (sym is) in
    step-chained w p low one
    ∙ ap (λ (r : Reference). refers_to w r.address (record p { memory = r.memory })) place
    ∙ ap (λ (o : Option ℕ). refers_to w o (record p { memory = (chain 16 p.memory at).memory })) (sym ends)
    ∙ ap (λ (m : MemoryState). refers_to w (Some a) (record p { memory = m })) (sym stored)

-- the address by that index and that displacement
by-fields : ℕ → ℕ → ℕ → List ℕ → ℕ
by-fields index d pc acs = if index == 0 then d else if index == 1 then displaced pc d else displaced (slice_index acs index) d

-- the address of a word is that of its index and its displacement alone
pub indexed-by : (w index pc : ℕ) (acs : List ℕ) → index ≡ bits 6 7 w → indexed (index * 256 + w % 256) pc acs ≡ indexed w pc acs
unfolding indexed by-fields
indexed-by w index pc acs is =
    let place : bits 6 7 (index * 256 + w % 256) ≡ bits 6 7 w = omega (arith, is) in
    let displacement : bits 8 15 (index * 256 + w % 256) ≡ bits 8 15 w = omega arith in
    ap (λ (i : ℕ). by-fields i (bits 8 15 (index * 256 + w % 256)) pc acs) place ∙ ap (λ (d : ℕ). by-fields (bits 6 7 w) d pc acs) displacement
