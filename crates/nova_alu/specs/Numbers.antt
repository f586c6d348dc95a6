-- The shifted number of an instruction, of the words of its source and destination.
use Rattle.std.specs.Prelude.{ℕ, Bool, not, if◌then◌else◌}
use Rattle.nova_word.specs.Bits.{bits}
use Rattle.nova_alu.specs.Arithmetic.{base_carry, function_result, complements, with_carry, shifted}

abbrev pub number_of : ℕ → ℕ → ℕ → Bool → ℕ
number_of word s d carry =
    let base = base_carry (bits 10 11 word) carry in
    let c = if complements (bits 5 7 word) s d then not base else base in
    shifted (bits 8 9 word) (with_carry c (function_result (bits 5 7 word) s d))
