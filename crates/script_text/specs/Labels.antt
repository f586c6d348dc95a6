-- The labels of a script (SIMH Users' Guide, "Executing Command Files").
use Rattle.std.specs.Prelude.{ℕ, ◌+◌, ◌==◌, Bool, if◌then◌else◌, List, [], ◌∷◌, length, slice_index}
use Rattle.std.specs.Prelude.{Option, Some, None, option_map}
use Rattle.std.specs.Str.{bytes_eq}
use Rattle.script_text.specs.Lines.{command_line}

-- a line, without its end, that is some label: it begins with a `:`
abbrev pub is_label_line : List ℕ → Bool
is_label_line line = slice_index line 0 == 58

-- a line as it stands in a script is that label: a `:` with the label behind it, and nothing more
abbrev pub is_label : List ℕ → List ℕ → Bool
is_label label line = bytes_eq (command_line line) (58 ∷ label)

-- the place of the first of those lines that is the label, where the first line stands at 0
unfoldable pub label_place : List ℕ → List (List ℕ) → Option ℕ
label_place label [] = None
label_place label (line ∷ lines) =
    if is_label label line then Some 0 else option_map (λ place. length line + place) (label_place label lines)
