-- Counts of instructions as texts.
use Rattle.std.specs.Prelude.{ℕ, ◌^◌, ◌&&◌, nat_le, List, Option, Some, None, Result, Ok, Err, if◌then◌else◌}
use Rattle.nova_word.specs.declared.numbers.NumberFault.{NumberFault}
use Rattle.nova_word.specs.Numbers.{number_read}

-- a count of instructions is from 1 to 2 ^ 48
abbrev pub count_in : Result ℕ NumberFault → Option ℕ
count_in (Ok n) = if nat_le 1 n && nat_le n (2 ^ 48) then Some n else None
count_in (Err fault) = None

-- the count of a text of decimal digits, if it is one
abbrev pub count_of : List ℕ → Option ℕ
count_of text = count_in (number_read 10 (2 ^ 63) text)
