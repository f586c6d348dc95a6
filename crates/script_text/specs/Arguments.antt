-- The arguments of a script as the words of a text.
use Rattle.std.specs.Prelude.{ℕ, Bool, true, if◌then◌else◌, List, [], ◌∷◌}
use Rattle.line_text.specs.Words.{is_blank}
use Rattle.script_text.specs.Lines.{with_front}

-- a text that is empty or begins with a blank
abbrev pub ends_word : List ℕ → Bool
ends_word [] = true
ends_word (b ∷ rest) = is_blank b

-- the words of a text, with spaces and tabs between them
unfoldable pub words_of : List ℕ → List (List ℕ)
words_of [] = []
words_of (b ∷ rest) =
    if is_blank b then words_of rest
    else if ends_word rest then (b ∷ []) ∷ words_of rest
    else with_front b (words_of rest)
