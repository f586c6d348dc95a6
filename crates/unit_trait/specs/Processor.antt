-- The registers of the processor, as commands name them: their order, names and largest values, and which can be set
-- (SIMH Users' Guide, "Examining and Changing State").
use Rattle.std.specs.Prelude.{ℕ, ◌≤◌, ◌^◌, ◌-◌, List, [], ◌∷◌, codes}
use Rattle.nova_word.specs.Numbers.{octal_width}
use Rattle.unit_trait.specs.declared.processor.CpuReg.{CpuReg}
use Rattle.unit_trait.specs.declared.processor.CpuReg.TheVariants.{Ac0, Ac1, Ac2, Ac3, C, Pc, Ion, Hold, Mask, Sr, StopDev, Size}

-- the registers, in order
abbrev pub all_registers : List CpuReg
all_registers = Ac0 ∷ Ac1 ∷ Ac2 ∷ Ac3 ∷ C ∷ Pc ∷ Ion ∷ Hold ∷ Mask ∷ Sr ∷ StopDev ∷ Size ∷ []

-- the name of a register
abbrev pub register_name : CpuReg → List ℕ
register_name Ac0 = codes "AC0"
register_name Ac1 = codes "AC1"
register_name Ac2 = codes "AC2"
register_name Ac3 = codes "AC3"
register_name C = codes "C"
register_name Pc = codes "PC"
register_name Ion = codes "ION"
register_name Hold = codes "HOLD"
register_name Mask = codes "MASK"
register_name Sr = codes "SR"
register_name StopDev = codes "STOP_DEV"
register_name Size = codes "SIZE"

-- the largest value of a register; the least is 0
abbrev pub largest_of : CpuReg → ℕ
largest_of Ac0 = 2 ^ 16 - 1
largest_of Ac1 = 2 ^ 16 - 1
largest_of Ac2 = 2 ^ 16 - 1
largest_of Ac3 = 2 ^ 16 - 1
largest_of C = 1
largest_of Pc = 2 ^ 15 - 1
largest_of Ion = 1
largest_of Hold = 1
largest_of Mask = 2 ^ 16 - 1
largest_of Sr = 2 ^ 16 - 1
largest_of StopDev = 1
largest_of Size = 2 ^ 15

-- how many octal digits a register is printed with: as many as its largest value has
abbrev pub digits_of : CpuReg → ℕ
digits_of register = octal_width (largest_of register)

-- the registers that can be set: all but SIZE, which is read only
abbrev pub IsWritable : CpuReg → Type 0
IsWritable Size = ⊥
IsWritable _ = Unit {0}

-- whether a register can be set to a value
abbrev pub CanHold : CpuReg → ℕ → Type 0
CanHold register value = IsWritable register × (value ≤ largest_of register)
