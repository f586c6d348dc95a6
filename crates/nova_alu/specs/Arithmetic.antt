-- The arithmetic and logical instructions (How to Use the Nova Computers, "Arithmetic and Logical Instructions"). All is
-- over numbers: the instruction word, the four accumulators, and numbers of 17 bits, in which the carry is worth 2^16 and
-- stands above the 16 bits of the result.
use Rattle.std.specs.Prelude.{ℕ, ◌+◌, ◌-◌, ◌*◌, ◌/◌, ◌%◌, ◌^◌, Bool, true, false, not, ◌&&◌, ◌||◌, ◌==◌, nat_lt, nat_le, if◌then◌else◌, bit_and, List, slice_index, slice_set}
use Rattle.nova_word.specs.Bits.{bits}

-- the base carry by bits 10-11: Carry, zero (Z), one (O), or the complement of Carry (C)
unfoldable pub base_carry : ℕ → Bool → Bool
base_carry choice carry =
    if choice == 0 then carry else
    if choice == 1 then false else
    if choice == 2 then true else
    not carry

-- the result by the function in bits 5-7, of the words s of the source and d of the destination
unfoldable pub function_result : ℕ → ℕ → ℕ → ℕ
function_result function s d =
    if function == 0 then 2 ^ 16 - 1 - s else  -- COM
    if function == 1 then (2 ^ 16 - s) % 2 ^ 16 else  -- NEG
    if function == 2 then s else  -- MOV
    if function == 3 then (s + 1) % 2 ^ 16 else  -- INC
    if function == 4 then (d + (2 ^ 16 - 1 - s)) % 2 ^ 16 else  -- ADC
    if function == 5 then (d + (2 ^ 16 - s)) % 2 ^ 16 else  -- SUB
    if function == 6 then (d + s) % 2 ^ 16 else  -- ADD
    bit_and s d  -- AND

-- whether the function complements the base carry
unfoldable pub complements : ℕ → ℕ → ℕ → Bool
complements function s d =
    if function == 1 then s == 0 else  -- NEG
    if function == 3 then s == 2 ^ 16 - 1 else  -- INC
    if function == 4 then nat_lt s d else  -- ADC
    if function == 5 then nat_le s d else  -- SUB
    if function == 6 then nat_le (2 ^ 16) (d + s) else  -- ADD
    false  -- COM, MOV, AND

-- the number of 17 bits of a carry and a result
abbrev pub with_carry : Bool → ℕ → ℕ
with_carry carry r = (if carry then 2 ^ 16 else 0) + r

-- the carry and the result in a number of 17 bits
abbrev pub carry_of : ℕ → Bool
carry_of x = nat_le (2 ^ 16) x

abbrev pub result_of : ℕ → ℕ
result_of x = x % 2 ^ 16

-- the number after the shift in bits 8-9: as it is, rotated by one place to the left (L) or to the right (R), or with
-- the two bytes of the result swapped (S)
unfoldable pub shifted : ℕ → ℕ → ℕ
shifted shift x =
    if shift == 0 then x else
    if shift == 1 then 2 * x % 2 ^ 17 + x / 2 ^ 16 else
    if shift == 2 then x / 2 + 2 ^ 16 * (x % 2) else
    with_carry (carry_of x) (2 ^ 8 * (x % 2 ^ 8) + result_of x / 2 ^ 8)

-- whether the skip in bits 13-15 skips, at the shifted number
unfoldable pub skips : ℕ → ℕ → Bool
skips skip x =
    if skip == 0 then false else
    if skip == 1 then true else  -- SKP
    if skip == 2 then not (carry_of x) else  -- SZC
    if skip == 3 then carry_of x else  -- SNC
    if skip == 4 then result_of x == 0 else  -- SZR
    if skip == 5 then not (result_of x == 0) else  -- SNR
    if skip == 6 then not (carry_of x) || (result_of x == 0) else  -- SEZ
    carry_of x && not (result_of x == 0)  -- SBN

-- the base carry, complemented where the function says so, above the function's result
unfoldable pub function_number : ℕ → List ℕ → Bool → ℕ
function_number word acs carry =
    let s = slice_index acs (bits 1 2 word) in
    let d = slice_index acs (bits 3 4 word) in
    let base = base_carry (bits 10 11 word) carry in
    let c = if complements (bits 5 7 word) s d then not base else base in
    with_carry c (function_result (bits 5 7 word) s d)

-- the shifted number of an instruction, on which the skip is decided, and which is loaded
unfoldable pub shifted_number : ℕ → List ℕ → Bool → ℕ
shifted_number word acs carry = shifted (bits 8 9 word) (function_number word acs carry)

-- whether the shifted number is loaded: bit 12, no-load, is 0
abbrev pub loads : ℕ → Bool
loads word = bits 12 12 word == 0

-- the accumulators after an instruction: the one in bits 3-4 takes the result
unfoldable pub loaded_accumulators : ℕ → List ℕ → Bool → List ℕ
loaded_accumulators word acs carry =
    if loads word
    then slice_set acs (bits 3 4 word) (result_of (shifted_number word acs carry))
    else acs

-- Carry after an instruction
unfoldable pub loaded_carry : ℕ → List ℕ → Bool → Bool
loaded_carry word acs carry =
    if loads word then carry_of (shifted_number word acs carry) else carry

-- whether an instruction skips the next one
unfoldable pub skips_next : ℕ → List ℕ → Bool → Bool
skips_next word acs carry = skips (bits 13 15 word) (shifted_number word acs carry)
