-- Which units a machine of this program has, and how many lines.
use Rattle.std.proofs.Common.{◌≡◌, ◌∙◌, inl, inr, ap, sym, refl, suc, List, [], length, map, take, arith}
use Rattle.unit_trait.specs.declared.kind.Kind.{Kind}
use Rattle.unit_trait.specs.Kinds.{all_kinds}
use Rattle.unit_trait.specs.Calls.{UnitState}
use Rattle.unit_list.specs.Bus.{kinds_of}
use Rattle.nova_machine.specs.Machine.{lines_for, terminal_lines_for, HasItsLines}
use Rattle.nova_machine.proofs.LinesThere.{own_lines}
use Rattle.saved_session.specs.Parts.{MachinePart}
use Rattle.saved_session.specs.Ranges.{standard_kinds}
use Rattle.saved_session.specs.Valid.{IsMachine}
use Rattle.state_transfer.specs.PutBack.{unit_from}
use Rattle.state_transfer.specs.SavedValid.{AreStandard}
use Rattle.state_transfer.proofs.PutBackMachineLemmas.{are-ten, are-eleven, ten-or-eleven}

-- the kinds alone say it
pub same-many : (us vs : List UnitState) → kinds_of us ≡ kinds_of vs → length (lines_for us) ≡ length (lines_for vs)
unfolding HasItsLines
same-many us vs same =
    ap suc (own_lines us (terminal_lines_for us) refl vs (sym same) ∙ sym (own_lines vs (terminal_lines_for vs) refl vs refl))

-- one unit of each of these kinds
abbrev of_kinds : List Kind → List UnitState
of_kinds kinds = map (λ (kind : Kind). record { kind = kind; registers = [] }) kinds

-- the console line and line 0, and those of the multiplexer where that is there
two-lines : (us : List UnitState) → kinds_of us ≡ take standard_kinds all_kinds → length (lines_for us) ≡ 2
two-lines us ten = same-many us (of_kinds (take standard_kinds all_kinds)) ten

all-lines : (us : List UnitState) → kinds_of us ≡ all_kinds → length (lines_for us) ≡ 66
all-lines us all = same-many us (of_kinds all_kinds) all

-- so machines with as many lines have units of the same kinds
pub kinds-by-lines : (us vs : List UnitState) → AreStandard us → AreStandard vs → length (lines_for us) ≡ length (lines_for vs) → kinds_of us ≡ kinds_of vs
kinds-by-lines us vs (inl one) (inl two) same = one ∙ sym two
kinds-by-lines us vs (inr one) (inr two) same = one ∙ sym two
kinds-by-lines us vs (inl one) (inr two) same =
    let few = two-lines us one in let many = all-lines vs two in absurd (omega (arith, few, many, same))
kinds-by-lines us vs (inr one) (inl two) same =
    let many = all-lines us one in let few = two-lines vs two in absurd (omega (arith, few, many, same))

pub standard-by : (us vs : List UnitState) → kinds_of vs ≡ kinds_of us → AreStandard us → AreStandard vs
standard-by us vs same (inl ten) = inl (same ∙ ten)
standard-by us vs same (inr all) = inr (same ∙ all)

-- the units of a valid saved machine
pub standard-saved : (m : MachinePart) → IsMachine m → AreStandard (map unit_from m.units)
standard-saved m is = elim (ten-or-eleven (length m.units) is.all) [
  | inl ten ↦ inl (are-ten m.units ten is.units)
  | inr all ↦ inr (are-eleven m.units all is.units)
]
