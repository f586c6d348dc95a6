-- The lines of the input, on the whole list of its bytes (SIMH Users' Guide, "Command Processing"), and what they cost. What
-- a line is, and what it costs, is as in a script.
use Rattle.std.specs.Prelude.{ℕ, ◌+◌, ◌*◌, ◌==◌, ◌||◌, Bool, not, List, length, nat_le, nat_eq, if◌then◌else◌}
use Rattle.script_text.specs.Lines.{first_line, command_line, line_cost}

-- what comes next of an input: its end, a line for which no unit is left, or this line
pub data Arrival : Type 0 where
  InputEnds : Arrival
  Unpaid : Arrival
  LineComes : List ℕ → Arrival

-- the next line under a budget, where the input is open as long as its end has not been read
abbrev pub arrival : ℕ → Bool → List ℕ → Arrival
arrival budget open_ input =
    if not open_ || nat_eq (length input) 0 then InputEnds
    else if nat_le (line_cost (length (first_line input))) budget then LineComes (command_line input)
    else Unpaid

-- after how many reads a unit is wanted that is not there: a line's first unit with its first byte, and further ones as
-- bytes 1024, 1536 and so on come in
abbrev pub unpaid_reads : ℕ → ℕ
unpaid_reads budget = if budget == 0 then 1 else 512 * (budget + 1)

-- how many reads the next line takes: its bytes, and its LF or the end
abbrev pub line_reads : ℕ → Bool → List ℕ → ℕ
line_reads budget open_ input =
    if not open_ then 0
    else if nat_le (line_cost (length (first_line input))) budget || nat_eq (length input) 0 then length (first_line input) + 1
    else unpaid_reads budget

-- how many reads there can be: all bytes, and the end
abbrev pub reads_left : Bool → List ℕ → ℕ
reads_left open_ input = if open_ then length input + 1 else 0
