-- The numbers of the fields of an instruction word that the code's choices stand for.
use Rattle.std.specs.Prelude.{ℕ, ◌+◌, if◌then◌else◌}
use Rattle.nova_alu.specs.declared.functions.Function.{Function}
use Rattle.nova_alu.specs.declared.functions.Function.TheVariants.{Com, Neg, Mov, Inc, Adc, Sub, Add, And}
use Rattle.nova_alu.specs.declared.carries.CarryBase.{CarryBase}
use Rattle.nova_alu.specs.declared.carries.CarryBase.TheVariants.{Carry, Zero, One, Complement}
use Rattle.nova_alu.specs.declared.shifts.Shift.{Shift}
use Rattle.nova_alu.specs.declared.shifts.Shift.TheVariants.{Stay, Left, Right, Swap}
use Rattle.nova_alu.specs.declared.skips.Skip.{Skip}

-- bits 5-7
abbrev pub function_code : Function → ℕ
function_code Com = 0
function_code Neg = 1
function_code Mov = 2
function_code Inc = 3
function_code Adc = 4
function_code Sub = 5
function_code Add = 6
function_code And = 7

-- bits 10-11
abbrev pub carry_code : CarryBase → ℕ
carry_code Carry = 0
carry_code Zero = 1
carry_code One = 2
carry_code Complement = 3

-- bits 8-9
abbrev pub shift_code : Shift → ℕ
shift_code Stay = 0
shift_code Left = 1
shift_code Right = 2
shift_code Swap = 3

-- bits 13-15: bit 13 tests the result, bit 14 the carry, and bit 15 inverts
abbrev pub skip_code : Skip → ℕ
skip_code skip = (if skip.tests_result then 4 else 0) + (if skip.tests_carry then 2 else 0) + (if skip.inverted then 1 else 0)
