-- Laws of scripts: what was proved about the definitions.
use Rattle.std.specs.Prelude.{◌≡◌, ℕ, ◌+◌, ◌<◌, ◌≢◌, All, List, [], ◌∷◌, ◌++◌, false, IsTrue, length, take}
use Rattle.std.specs.Prelude.{slice_index_or, Some, None}
use Rattle.std.specs.List.{concat}
use Rattle.script_text.specs.Lines.{first_line, behind_line, lines_of}
use Rattle.script_text.specs.Labels.{is_label, label_place}
use Rattle.script_text.specs.Filling.{filled}

-- the lines of a script as they stand in it, put behind one another, are the script
abbrev pub LinesMakeTheScript : Type 0
LinesMakeTheScript = (script : List ℕ) → concat (lines_of script) ≡ script

-- the first of the lines of a script is its first line with the LF, and the others are the lines of what follows
abbrev pub LinesFollow : Type 0
LinesFollow = (script : List ℕ) → script ≢ [] →
    lines_of script ≡ take (length (first_line script) + 1) script ∷ lines_of (behind_line script)

-- a line that is the label, with no such line before it
pub record IsFirstLabel (label : List ℕ) (lines : List (List ℕ)) (place : ℕ) : Type 0 where
  pub before : List (List ℕ)
  pub line : List ℕ
  pub after : List (List ℕ)
  pub stands : lines ≡ before ++ line ∷ after
  pub at : place ≡ length (concat before)
  pub is : IsTrue (is_label label line)
  pub others : All (λ other. is_label label other ≡ false) before

-- a label's place is that of the first line with it, and there is none only where no line has it
pub record LabelIsFirst : Type 0 where
  pub found : (label : List ℕ) (lines : List (List ℕ)) (place : ℕ) → label_place label lines ≡ Some place →
      IsFirstLabel label lines place
  pub missing : (label : List ℕ) (lines : List (List ℕ)) → label_place label lines ≡ None →
      All (λ line. is_label label line ≡ false) lines

-- a line without a `%` is filled to itself
abbrev pub PlainLinesStay : Type 0
PlainLinesStay = (arguments : List (List ℕ)) (line : List ℕ) → All (λ b. b ≢ 37) line → filled arguments line ≡ line

-- a `%` stands in a line with that digit behind it
pub record Names (line : List ℕ) (digit : ℕ) : Type 0 where
  pub front : List ℕ
  pub rest : List ℕ
  pub spelled : line ≡ front ++ 37 ∷ (48 + digit) ∷ rest

-- a line is filled to the same text with arguments that agree on all that it names
abbrev pub OthersDoNotMatter : Type 0
OthersDoNotMatter = (line : List ℕ) (one other : List (List ℕ)) →
    ((digit : ℕ) → digit < 10 → Names line digit → slice_index_or one digit [] ≡ slice_index_or other digit []) →
    filled one line ≡ filled other line
