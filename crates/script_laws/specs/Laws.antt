-- Laws above the definition of a session, in a reader's words.
use Rattle.std.specs.Prelude.{◌≡◌, ℕ, zero, suc, ◌+◌, ◌-◌, ◌<◌, ◌≤◌, List, [], length, drop}
use Rattle.observations.specs.Observations.{Observation, reads_of}
use Rattle.script_text.specs.Lines.{first_line, line_cost}
use Rattle.session_texts.specs.Scripts.{still_open}
use Rattle.session_texts.specs.Actions.{texts_of}
use Rattle.expect_actions.specs.Watch.{forgotten}
use Rattle.scp_script.specs.Session.{State, Session, spent_more, Going, step, after_step, course, ComesTo}

-- a session does its next text, and then what the session behind that text does: the bound in the definition of a
-- course is never what ends it
abbrev pub LineByLine : Type 0
LineByLine = (s : Session) → course s ≡ after_step (step s).made (step s).next course

-- how many bytes the first lines of an input have, with an LF or the end behind each
abbrev pub lines_size : ℕ → List ℕ → ℕ
lines_size zero input = 0
lines_size (suc count) input = let size = length (first_line input) + 1 in size + lines_size count (drop size input)

-- what the first lines of an input cost
abbrev pub lines_cost : ℕ → List ℕ → ℕ
lines_cost zero input = 0
lines_cost (suc count) input = line_cost (length (first_line input)) + lines_cost count (drop (length (first_line input) + 1) input)

-- A session behind that many texts, of which so many were lines of the input and all others actions or lines of scripts:
-- those lines were read, and nothing else; by what the budget has fallen is spent more, up to where the number stands
-- still, which is a unit for each text at least; and the limit of a run and the prompt are as they were, and so is
-- whether the input is read.
pub record AreBehind (count : ℕ) (s : Session) (made : List (Observation State)) (t : Session) : Type 0 where
  pub lines : ℕ
  pub few : lines ≤ count
  pub rest : t.input ≡ drop (lines_size lines s.input) s.input
  pub reads : reads_of made ≡ lines_size lines s.input
  pub spent : t.spent ≡ spent_more s.spent (s.budget - t.budget)
  pub paid : t.budget + count ≤ s.budget
  pub limit : t.limit ≡ s.limit
  pub prompt : t.prompt ≡ s.prompt
  pub reading : t.reads ≡ s.reads

-- the same where no action waited and no script was open: each text is a line of the input
pub record IsBehindLines (count : ℕ) (s : Session) (made : List (Observation State)) (t : Session) : Type 0 where
  pub rest : t.input ≡ drop (lines_size count s.input) s.input
  pub reads : reads_of made ≡ lines_size count s.input
  pub budget : s.budget ≡ t.budget + lines_cost count s.input
  pub spent : t.spent ≡ spent_more s.spent (lines_cost count s.input)

-- no action waits and no script is open before any of so many texts
abbrev pub OnlyInput : ℕ → Session → List (Observation State) → Session → Type 0
OnlyInput count s made t = (before : ℕ) (more : List (Observation State)) (mid : Session) → before < count → ComesTo before s more mid → mid.texts ≡ texts_of [] []

-- after so many texts that only go on, what was consumed is those lines
pub record LinesAreConsumed : Type 0 where
  pub texts : (count : ℕ) (s t : Session) (made : List (Observation State)) → ComesTo count s made t → AreBehind count s made t
  pub lines : (count : ℕ) (s t : Session) (made : List (Observation State)) → ComesTo count s made t → OnlyInput count s made t → IsBehindLines count s made t

-- no actions of a stop are kept
abbrev pub AreForgotten : Session → Type 0
AreForgotten s = s.live.watch ≡ forgotten s.live.watch

-- Between two texts none are, wherever none were before the first; and after one text none are at all.
pub record ActionsAreForgotten : Type 0 where
  pub next : (s t : Session) → (step s).next ≡ Going t → AreForgotten t
  pub all : (count : ℕ) (s t : Session) (made : List (Observation State)) → AreForgotten s → ComesTo count s made t → AreForgotten t

-- a session without the scripts, from the innermost on, whose last line was done
abbrev pub without_ended : Session → Session
without_ended s = record s { texts = texts_of s.texts.actions (still_open s.texts.scripts) }

-- Where no action waits, nothing depends on such scripts: the next text is the same, and so are all.
pub record EndedScriptsDoNotMatter : Type 0 where
  pub next : (s : Session) → s.texts.actions ≡ [] → step (without_ended s) ≡ step s
  pub all : (s : Session) → s.texts.actions ≡ [] → course (without_ended s) ≡ course s
