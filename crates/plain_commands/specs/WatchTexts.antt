-- What SHOW prints of breaks, of texts that are waited for, and of bytes that wait for the keyboard.
use Rattle.std.specs.Prelude.{ℕ, List, [], ◌∷◌, ◌++◌, length, codes, decimal}
use Rattle.nova_word.specs.Numbers.{octal_digits}
use Rattle.expect_actions.specs.declared.breaks.Break.{Break}
use Rattle.expect_actions.specs.declared.expects.Expect.{Expect}
use Rattle.expect_actions.specs.Sends.{Send}
use Rattle.plain_commands.specs.QuotedText.{quoted_text}

-- how many tests or matches are left to a stop
abbrev pub count_text : ℕ → List ℕ
count_text count = codes "[" ++ decimal count ++ codes "]"

-- actions behind a mark, where there are any
abbrev pub actions_text : List ℕ → List ℕ → List ℕ
actions_text mark [] = []
actions_text mark (b ∷ actions) = mark ++ b ∷ actions

-- the line of a break
abbrev pub break_line : Break → List ℕ
break_line b = octal_digits 5 b.address ++ codes ":" ++ 9 ∷ [] ++ count_text b.count ++ actions_text (codes "; ") b.actions ++ 10 ∷ []

-- what SHOW BREAK prints: a line for each break, in rising address
unfoldable pub breaks_text : List Break → List ℕ
breaks_text [] = []
breaks_text (b ∷ breaks) = break_line b ++ breaks_text breaks

-- the line of an expect
abbrev pub expect_line : Expect → List ℕ
expect_line e = count_text e.count ++ 32 ∷ [] ++ quoted_text e.text ++ actions_text (codes " ") e.actions ++ 10 ∷ []

-- what SHOW EXPECT prints: a line for each, in the order in which they were added
unfoldable pub expects_text : List Expect → List ℕ
expects_text [] = []
expects_text (e ∷ expects) = expect_line e ++ expects_text expects

-- what SHOW SEND prints: how many bytes wait
abbrev pub sends_text : List Send → List ℕ
sends_text sends = codes "Send: " ++ decimal (length sends) ++ codes " bytes" ++ 10 ∷ []
