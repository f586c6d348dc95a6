-- Unsigned multiplication and division (How to Use the Nova Computers, "Multiply/Divide"). AC0 and AC1 together hold a
-- number of 32 bits, the high word in AC0.
use Rattle.std.specs.Prelude.{ℕ, ◌+◌, ◌*◌, ◌/◌, ◌%◌, ◌^◌, Bool, nat_le, if◌then◌else◌, List, slice_index, slice_set}

-- the number of 32 bits in AC0 and AC1
abbrev pub double_word : List ℕ → ℕ
double_word acs = 2 ^ 16 * slice_index acs 0 + slice_index acs 1

-- what MUL puts into AC0 and AC1: AC1 times AC2, plus AC0
abbrev pub product : List ℕ → ℕ
product acs = slice_index acs 1 * slice_index acs 2 + slice_index acs 0

-- the accumulators after MUL
unfoldable pub multiplied : List ℕ → List ℕ
multiplied acs = slice_set (slice_set acs 0 (product acs / 2 ^ 16)) 1 (product acs % 2 ^ 16)

-- the quotient would not fit a word: Carry after DIV
abbrev pub divide_overflows : List ℕ → Bool
divide_overflows acs = nat_le (slice_index acs 2) (slice_index acs 0)

-- the accumulators after DIV: the quotient by AC2 in AC1 and the remainder in AC0; unchanged where the quotient would
-- not fit
unfoldable pub divided : List ℕ → List ℕ
divided acs =
    let dividend = double_word acs in
    let divisor = slice_index acs 2 in
    if divide_overflows acs then acs else slice_set (slice_set acs 0 (dividend % divisor)) 1 (dividend / divisor)
