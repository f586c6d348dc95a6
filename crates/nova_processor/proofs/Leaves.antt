-- Steps: one more of them, and one that leaves its word as it stands, where nothing has changed.
use Rattle.std.proofs.Common.{◌≡◌, ℕ, suc, ◌+◌, ◌==◌, Bool, true, false, nat_lt, Option, Some, None, refl, ap, sym, ◌∙◌, subst, arith, if◌then◌else◌}
use Rattle.nova_word.specs.Bits.{bits}
use Rattle.nova_memory.specs.Memory.{get}
use Rattle.nova_processor.specs.declared.burst.Step.{Step}
use Rattle.nova_processor.specs.declared.burst.Step.TheVariants.{Transfer}
use Rattle.nova_processor.specs.Processor.{ProcessorState}
use Rattle.nova_processor.specs.Burst.{Stepped, steps, refers_to, refers, passes, step_of, step, Reaches}

-- where it is left, nothing has changed
abbrev Leaves : ProcessorState → Stepped → Type 0
Leaves p s = s.end ≡ Transfer → s.processor ≡ p

leaves-if : (b : Bool) (p : ProcessorState) (s t : Stepped) → Leaves p s → Leaves p t → Leaves p (if b then s else t)
leaves-if true p s t first second = first
leaves-if false p s t first second = second

leaves-refers_to : (w : ℕ) (a : Option ℕ) (p q : ProcessorState) → Leaves p (refers_to w a q)
leaves-refers_to w None p q = λ is. absurd (cc)
leaves-refers_to w (Some a) p q = λ is. absurd (cc)

leaves-refers : (w : ℕ) (p : ProcessorState) → Leaves p (refers w p)
unfolding refers
leaves-refers w p = leaves-refers_to w _ p _

leaves-passes : (w : ℕ) (p : ProcessorState) → Leaves p (passes w p)
unfolding passes
leaves-passes w p = leaves-if (bits 10 15 w == 1) p _ _ (λ is. absurd (cc)) (λ is. refl)

leaves-step_of : (w : ℕ) (p : ProcessorState) → Leaves p (step_of w p)
unfolding step_of
leaves-step_of w p = leaves-if (nat_lt w 0o60000) p _ _ (leaves-refers w p) (leaves-if (nat_lt w 0o100000) p _ _ (leaves-passes w p) (λ is. absurd (cc)))

pub step-leaves : (p : ProcessorState) → Leaves p (step p)
unfolding step
step-leaves p = leaves-step_of (get p.memory p.cpu.pc) p

-- the step of the word at PC
pub step-at : (word : ℕ) (p : ProcessorState) (s : Stepped) → word ≡ get p.memory p.cpu.pc → step_of word p ≡ s → step p ≡ s
unfolding step
step-at word p s at is = ap (λ (n : ℕ). step_of n p) (sym at) ∙ is

-- a step that has left its word: it leads nowhere, and the next one leaves that word again
pub left-there : (p q : ProcessorState) (end : Step) → step p ≡ record { processor = q; end = end } → end ≡ Transfer → q ≡ p
left-there p q end is left =
    let ended : (step p).end ≡ Transfer = ap (λ (s : Stepped). s.end) is ∙ left in
    sym (ap (λ (s : Stepped). s.processor) is) ∙ step-leaves p ended

pub left-again : (p q : ProcessorState) (end : Step) → step p ≡ record { processor = q; end = end } → end ≡ Transfer → step q ≡ record { processor = q; end = Transfer }
left-again p q end is left =
    ap step (left-there p q end is left) ∙ is ∙ ap (λ (e : Step). record { processor = q; end = e }) left

pub reaches-next : (stops : ℕ → Bool) (count : ℕ) (start p q : ProcessorState) → Reaches stops count start p → stops p.cpu.pc ≡ false → step p ≡ steps q
    → Reaches stops (count + 1) start q
reaches-next stops count start p q before passes is =
    let P : ℕ → Type 0 = λ n. Reaches stops n start q in
    let both : suc count ≡ count + 1 = omega arith in
    subst P both (p, before, passes, is)
