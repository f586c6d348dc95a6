-- Bit 0 of a word is the most significant of its 16 (How to Use the Nova Computers, "Information Formats").
use Rattle.std.specs.Prelude.{ℕ, ◌+◌, ◌-◌, ◌/◌, ◌%◌, ◌^◌}

-- bits a to b of a word, as a number
abbrev pub bits : ℕ → ℕ → ℕ → ℕ
bits a b w = w / 2 ^ (15 - b) % 2 ^ (b - a + 1)
