-- What stands for the arguments of a script in its lines (SIMH Users' Guide, "Executing Command Files").
use Rattle.std.specs.Prelude.{ℕ, ◌-◌, ◌==◌, ◌&&◌, ◌||◌, Bool, if◌then◌else◌, List, [], ◌∷◌, ◌++◌, slice_index_or}
use Rattle.std.specs.Prelude.{slice_index, length, nat_le}

-- a byte that stands for something behind a `%`: a digit, or another `%`
abbrev pub is_name : ℕ → Bool
is_name b = b == 37 || nat_le 48 b && nat_le b 57

-- what it stands for: one `%`, or the argument with that digit. The arguments begin with the name of the script, and
-- those that are missing are empty
abbrev pub named_text : List (List ℕ) → ℕ → List ℕ
named_text arguments b = if b == 37 then 37 ∷ [] else slice_index_or arguments (b - 48) []

-- a line with its arguments filled in. Any other `%` stands for itself
unfoldable pub filled : List (List ℕ) → List ℕ → List ℕ
filled arguments [] = []
filled arguments (a ∷ []) = a ∷ []
filled arguments (a ∷ b ∷ rest) =
    if a == 37 && is_name b then named_text arguments b ++ filled arguments rest else a ∷ filled arguments (b ∷ rest)

-- a text begins with a `%` and a byte that stands for something behind it
abbrev pub begins_named : List ℕ → Bool
begins_named text = nat_le 2 (length text) && slice_index text 0 == 37 && is_name (slice_index text 1)
