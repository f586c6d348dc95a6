-- The registers of the processor as a list of values, in order: to set one changes no other.
use Rattle.std.proofs.Common.{◌≡◌, ◌⊎◌, inl, inr, ℕ, ◌<◌, zero, suc, List, [], ◌∷◌, ◌++◌, map, length, get_or, set, None, refl, sym, ap, ◌∙◌, arith, slice_index, slice_set}
use Rattle.std.proofs.lemmas.List.{get_or-set_other}
use Rattle.std.proofs.lemmas.Bool.{cases_eq}
use Rattle.unit_trait.specs.declared.processor.CpuReg.{CpuReg}
use Rattle.unit_trait.specs.declared.processor.CpuReg.TheVariants.{Ac0, Ac1, Ac2, Ac3, C, Pc, Ion, Hold, Mask, Sr, StopDev, Size}
use Rattle.unit_trait.specs.Processor.{all_registers}
use Rattle.nova_machine.specs.Machine.{MachineState}
use Rattle.nova_machine.specs.Registers.{register_of, with_register}
use Rattle.scp_examine.specs.Places.{Register}
use Rattle.scp_examine.specs.Checks.{value_fault}
use Rattle.scp_examine.proofs.LawLemmas.{flag_fits}

-- the place of a register in the list
abbrev number_of : CpuReg → ℕ
number_of Ac0 = 0
number_of Ac1 = 1
number_of Ac2 = 2
number_of Ac3 = 3
number_of C = 4
number_of Pc = 5
number_of Ion = 6
number_of Hold = 7
number_of Mask = 8
number_of Sr = 9
number_of StopDev = 10
number_of Size = 11

abbrev values : MachineState → List ℕ
values m = map (register_of m) all_registers

number_back : (r : CpuReg) → get_or all_registers (number_of r) Ac0 ≡ r
number_back Ac0 = refl
number_back Ac1 = refl
number_back Ac2 = refl
number_back Ac3 = refl
number_back C = refl
number_back Pc = refl
number_back Ion = refl
number_back Hold = refl
number_back Mask = refl
number_back Sr = refl
number_back StopDev = refl
number_back Size = refl

same_number : (r q : CpuReg) → number_of r ≡ number_of q → r ≡ q
same_number r q h = sym (number_back r) ∙ ap (λ (n : ℕ). get_or all_registers n Ac0) h ∙ number_back q

pub same_register : (r q : CpuReg) → (r ≡ q) ⊎ (r ≡ q → ⊥)
same_register r q = elim (cases_eq (number_of r) (number_of q)) [
  | inl same ↦ inl (same_number r q same)
  | inr apart ↦ inr (λ e. apart (ap number_of e))
]

value_of_register : (m : MachineState) (r : CpuReg) → get_or (values m) (number_of r) 0 ≡ register_of m r
value_of_register m Ac0 = refl
value_of_register m Ac1 = refl
value_of_register m Ac2 = refl
value_of_register m Ac3 = refl
value_of_register m C = refl
value_of_register m Pc = refl
value_of_register m Ion = refl
value_of_register m Hold = refl
value_of_register m Mask = refl
value_of_register m Sr = refl
value_of_register m StopDev = refl
value_of_register m Size = refl

-- four accumulators, one of which is set
abbrev four : List ℕ → List ℕ
four xs = slice_index xs 0 ∷ slice_index xs 1 ∷ slice_index xs 2 ∷ slice_index xs 3 ∷ []

four-set : (xs : List ℕ) (i v : ℕ) → length xs ≡ 4 → i < 4 → four (slice_set xs i v) ≡ slice_set (four xs) i v
four-set [] i v h k = absurd (omega (arith, h))
four-set (a ∷ []) i v h k = absurd (omega (arith, h))
four-set (a ∷ (b ∷ [])) i v h k = absurd (omega (arith, h))
four-set (a ∷ (b ∷ (c ∷ []))) i v h k = absurd (omega (arith, h))
four-set (a ∷ (b ∷ (c ∷ (d ∷ (e ∷ more))))) i v h k = absurd (omega (arith, h))
four-set (a ∷ (b ∷ (c ∷ (d ∷ [])))) zero v h k = refl
four-set (a ∷ (b ∷ (c ∷ (d ∷ [])))) (suc zero) v h k = refl
four-set (a ∷ (b ∷ (c ∷ (d ∷ [])))) (suc (suc zero)) v h k = refl
four-set (a ∷ (b ∷ (c ∷ (d ∷ [])))) (suc (suc (suc zero))) v h k = refl
four-set (a ∷ (b ∷ (c ∷ (d ∷ [])))) (suc (suc (suc (suc i)))) v h k = absurd (omega arith)

-- the registers behind the accumulators
abbrev others : MachineState → List ℕ
others m = map (register_of m) (C ∷ Pc ∷ Ion ∷ Hold ∷ Mask ∷ Sr ∷ StopDev ∷ Size ∷ [])

values-set : (m : MachineState) (r : CpuReg) (v : ℕ) → length m.processor.cpu.accumulators ≡ 4 → value_fault v (Register r) ≡ None
    → values (with_register m r v) ≡ set (values m) (number_of r) v
values-set m Ac0 v is none = ap (λ (xs : List ℕ). xs ++ others m) (four-set m.processor.cpu.accumulators 0 v is (omega arith))
values-set m Ac1 v is none = ap (λ (xs : List ℕ). xs ++ others m) (four-set m.processor.cpu.accumulators 1 v is (omega arith))
values-set m Ac2 v is none = ap (λ (xs : List ℕ). xs ++ others m) (four-set m.processor.cpu.accumulators 2 v is (omega arith))
values-set m Ac3 v is none = ap (λ (xs : List ℕ). xs ++ others m) (four-set m.processor.cpu.accumulators 3 v is (omega arith))
values-set m C v is none = ap (λ (x : ℕ). set (values m) 4 x) (flag_fits v none)
values-set m Pc v is none = refl
values-set m Ion v is none = ap (λ (x : ℕ). set (values m) 6 x) (flag_fits v none)
values-set m Hold v is none = ap (λ (x : ℕ). set (values m) 7 x) (flag_fits v none)
values-set m Mask v is none = refl
values-set m Sr v is none = refl
values-set m StopDev v is none = ap (λ (x : ℕ). set (values m) 10 x) (flag_fits v none)
values-set m Size v is none = absurd (cc)

-- to set a register changes no other
pub register_of-other : (m : MachineState) (r q : CpuReg) (v : ℕ) → length m.processor.cpu.accumulators ≡ 4 → value_fault v (Register r) ≡ None → (q ≡ r → ⊥)
    → register_of (with_register m r v) q ≡ register_of m q
register_of-other m r q v is none apart =
    sym (value_of_register (with_register m r v) q) ∙ ap (λ (xs : List ℕ). get_or xs (number_of q) 0) (values-set m r v is none)
    ∙ get_or-set_other (values m) (number_of r) (number_of q) v 0 (λ e. apart (same_number q r e)) ∙ value_of_register m q
