-- What was put into a place is what it holds.
use Rattle.std.proofs.Common.{◌≡◌, ℕ, ◌==◌, ◌<◌, ◌≤◌, zero, suc, length, None, refl, arith, nat_le, if◌then◌else◌, ap, unwrap_or}
use Rattle.std.proofs.lemmas.List.{get_or-set_same}
use Rattle.std.proofs.lemmas.Bool.{leb-true}
use Rattle.nova_memory.proofs.Keeps.{get-put}
use Rattle.unit_trait.specs.declared.processor.CpuReg.TheVariants.{Ac0, Ac1, Ac2, Ac3, C, Pc, Ion, Hold, Mask, Sr, StopDev, Size}
use Rattle.unit_list.specs.Bus.{kinds_of}
use Rattle.scp_examine.specs.Places.{Cell, Register, UnitRegister}
use Rattle.scp_examine.specs.Checks.{out_of_range_unless}
use Rattle.scp_examine.specs.Laws.{DepositReadsBack}
use Rattle.scp_examine.proofs.UnitLemmas.{has_kind-listed, register_in-set}
use Rattle.scp_examine.proofs.FillLemmas.{fits_from_none}

pub flag : (v : ℕ) → v ≤ 1 → (if v == 1 then 1 else 0) ≡ v
flag zero h = refl
flag (suc zero) h = refl
flag (suc (suc n)) h = absurd (omega arith)

pub flag_fits : (v : ℕ) → out_of_range_unless (nat_le v 1) ≡ None → (if v == 1 then 1 else 0) ≡ v
flag_fits v none = flag v (leb-true v 1 (fits_from_none (nat_le v 1) none))

pub reads_back : DepositReadsBack
reads_back m (Cell a) v is h none = let n : m.processor.memory.size ≤ length m.processor.memory.words = omega (arith, is.memory.whole, is.memory.size) in get-put m.processor.memory a v n h
reads_back m (Register Ac0) v is h none = let n : 0 < length m.processor.cpu.accumulators = omega (arith, is.accumulators) in get_or-set_same m.processor.cpu.accumulators 0 v 0 n
reads_back m (Register Ac1) v is h none = let n : 1 < length m.processor.cpu.accumulators = omega (arith, is.accumulators) in get_or-set_same m.processor.cpu.accumulators 1 v 0 n
reads_back m (Register Ac2) v is h none = let n : 2 < length m.processor.cpu.accumulators = omega (arith, is.accumulators) in get_or-set_same m.processor.cpu.accumulators 2 v 0 n
reads_back m (Register Ac3) v is h none = let n : 3 < length m.processor.cpu.accumulators = omega (arith, is.accumulators) in get_or-set_same m.processor.cpu.accumulators 3 v 0 n
reads_back m (Register C) v is h none = flag_fits v none
reads_back m (Register Pc) v is h none = refl
reads_back m (Register Ion) v is h none = flag_fits v none
reads_back m (Register Hold) v is h none = flag_fits v none
reads_back m (Register Mask) v is h none = refl
reads_back m (Register Sr) v is h none = refl
reads_back m (Register StopDev) v is h none = flag_fits v none
reads_back m (Register Size) v is h none = cc
reads_back m (UnitRegister kind i) v is h none =
    ap (λ o. unwrap_or o 0) (register_in-set kind i v m.units is.units (has_kind-listed kind (kinds_of m.units) h.0) h.1)
