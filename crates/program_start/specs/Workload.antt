-- The workload of `-g`: words that are made of numbers fill a part of memory, and run as instructions. It is the same on
-- every machine.
use Rattle.std.specs.Prelude.{ℕ, zero, suc, ◌+◌, ◌*◌, ◌%◌, ◌^◌, List, [], ◌∷◌, ◌++◌, codes, Option, Some, None}
use Rattle.nova_memory.specs.Memory.{MemoryState, put}
use Rattle.nova_machine.specs.Machine.{MachineState}
use Rattle.nova_machine.specs.Turn.{with_memory}

-- the number behind one
abbrev pub next_number : ℕ → ℕ
next_number x = (25173 * x + 13849) % 2 ^ 16

-- the word of a number: its bit 0 is 1, so that it is an instruction of the arithmetic unit
abbrev pub word_of_number : ℕ → ℕ
word_of_number x = 2 ^ 15 + x % 2 ^ 15

-- the words of so many numbers, one behind the other, the first of which is behind x
unfoldable pub words_behind : ℕ → ℕ → List ℕ
words_behind x zero = []
words_behind x (suc count) = word_of_number (next_number x) ∷ words_behind (next_number x) count

-- a memory with words from an address on
abbrev pub with_words : MemoryState → ℕ → List ℕ → MemoryState
with_words m at [] = m
with_words m at (w ∷ words) = with_words (put m at w) (at + 1) words

-- what stands behind the words: MOV 0,0, DSZ 77, JMP @76 and HALT
abbrev pub loop_words : List ℕ
loop_words = 0o101000 ∷ 0o14077 ∷ 0o2076 ∷ 0o63077 ∷ []

-- what that counts by: the address of the first word at 76, and at 77 how often the words are run, which is 1000 times
abbrev pub count_words : List ℕ
count_words = 0o1000 ∷ 0o1750 ∷ []

-- a memory with the workload of a number: 4096 words from address 1000 (octal) on, and what runs them
unfoldable pub filled : ℕ → MemoryState → MemoryState
filled number m = with_words (with_words (with_words m 0o1000 (words_behind number 4096)) 0o11000 loop_words) 0o76 count_words

-- a machine with the workload of a number, where one is given
abbrev pub with_workload : Option ℕ → MachineState → MachineState
with_workload None m = m
with_workload (Some number) m = with_memory m (filled number m.processor.memory)

-- the commands of a workload: it is run, and what it leaves is printed
abbrev pub workload_text : List ℕ
workload_text = codes "GO 1000" ++ 10 ∷ codes "EXAMINE AC0,AC1,AC2,AC3,C" ++ 10 ∷ codes "SHOW TIME" ++ 10 ∷ []

-- the script with which a session begins: these commands, where there is a workload, and else the script of the words
abbrev pub first_text : Option ℕ → Option (List ℕ) → Option (List ℕ)
first_text None script = script
first_text (Some number) script = Some workload_text
