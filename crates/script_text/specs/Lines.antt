-- The lines of a script, on the whole list of its bytes (SIMH Users' Guide, "Executing Command Files"), and what they
-- cost.
use Rattle.std.specs.Prelude.{ℕ, ◌+◌, ◌-◌, ◌/◌, ◌==◌, ◌&&◌, max, Bool, not, List, [], ◌∷◌, length, take, drop}
use Rattle.std.specs.Prelude.{take_while}
use Rattle.std.specs.Prelude.{slice_index, nat_eq, if◌then◌else◌}

-- the bytes before the first LF
abbrev pub first_line : List ℕ → List ℕ
first_line script = take_while (λ b. not (b == 10)) script

-- an LF stands behind the first line
abbrev pub has_lf : List ℕ → Bool
has_lf script = not (nat_eq (length (first_line script)) (length script))

-- a line without a CR at its end
abbrev pub without_cr : List ℕ → List ℕ
without_cr line =
    if not (nat_eq (length line) 0) && slice_index line (length line - 1) == 13 then take (length line - 1) line
    else line

-- the first line, without its LF and a CR before that
abbrev pub command_line : List ℕ → List ℕ
command_line script = if has_lf script then without_cr (first_line script) else first_line script

-- what follows the first line and its LF
abbrev pub behind_line : List ℕ → List ℕ
behind_line script = drop (length (first_line script) + 1) script

-- a line costs one unit of the budget, and one more for each whole 512 bytes past its first 512
abbrev pub line_cost : ℕ → ℕ
line_cost bytes = max 1 (bytes / 512)

-- lines with a byte in front of the first
abbrev pub with_front : ℕ → List (List ℕ) → List (List ℕ)
with_front b [] = (b ∷ []) ∷ []
with_front b (line ∷ lines) = (b ∷ line) ∷ lines

-- all lines of a script as they stand there, each with its LF, which the last may lack
unfoldable pub lines_of : List ℕ → List (List ℕ)
lines_of [] = []
lines_of (b ∷ rest) = if b == 10 then (b ∷ []) ∷ lines_of rest else with_front b (lines_of rest)
