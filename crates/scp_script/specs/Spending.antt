-- Why a session is over, and what it has spent of its budget then, told or not.
use Rattle.std.specs.Prelude.{◌≡◌, ◌⊎◌, ℕ, ◌+◌, ◌-◌, ◌<◌, ◌≤◌, Bool, true, false, List, [], ◌∷◌, Option, unwrap_or, Ok}
use Rattle.scp_parser.specs.Command.{Exit as ExitRequest}
use Rattle.command_session.specs.declared.next.Next.{Next}
use Rattle.command_session.specs.declared.next.Next.TheVariants as next
use Rattle.command_session.specs.Asked.{Asked, asked}
use Rattle.session_texts.specs.Scripts.{Script, cost_of_line, text_of_line, still_open, StackOf}
use Rattle.session_texts.specs.Actions.{Texts}
use Rattle.scp_script.specs.declared.progress.Finish.{Finish}
use Rattle.scp_script.specs.declared.progress.Finish.TheVariants.{Exit, EndOfInput, FlushFailed, Commands, Console, Input, OutOfMemory}
use Rattle.scp_script.specs.declared.progress.Progress.{Progress}
use Rattle.scp_script.specs.declared.progress.Progress.TheVariants.{GoesOn, IsOver}
use Rattle.scp_script.specs.Session.{spent_more}

-- ---- one text

-- that is the command EXIT with this status
abbrev pub AsksExit : Asked → ℕ → Type 0
AsksExit what status = (option : Option ℕ) × (what ≡ Ok (ExitRequest option)) × (status ≡ unwrap_or option 0)

-- a command has an exit next only where it is EXIT with that status
abbrev pub NextOf : Asked → Next → Type 0
NextOf what (next.Exit status) = AsksExit what status
NextOf what other = Unit {0}

-- the same of the end of a session
abbrev pub EndOf : Asked → Progress → Type 0
EndOf what (IsOver (Exit status)) = AsksExit what status
EndOf what progress = Unit {0}

-- a text by which no session ends so
abbrev pub IsNoExit : Progress → Type 0
IsNoExit (IsOver (Exit status)) = ⊥
IsNoExit progress = Unit {0}

-- The scripts that are open behind a text after which the session goes on: it has opened one at the most.
abbrev pub OpensOne : List Script → Progress → List Script → Type 0
OpensOne old GoesOn new = (first : List Script) (most : ℕ) → StackOf first most old → StackOf first (most + 1) new
OpensOne old (IsOver finish) new = Unit {0}

-- ---- the text that comes next, by the actions that wait and the scripts that have another line

-- of a line of the input it is said that it is one
abbrev pub ComesNext : Bool → List (List ℕ) → List Script → List ℕ → Type 0
ComesNext reads (action ∷ others) scripts text = text ≡ action
ComesNext reads [] (script ∷ outer) text = text ≡ text_of_line script
ComesNext reads [] [] text = reads ≡ true

-- that text can't be paid, where so many units are left
abbrev pub IsUnpaid : Bool → List (List ℕ) → List Script → ℕ → Type 0
IsUnpaid reads (action ∷ others) scripts left = left ≡ 0
IsUnpaid reads [] (script ∷ outer) left = left < cost_of_line script
IsUnpaid reads [] [] left = (reads ≡ true) × (left ≡ 0)

-- there is none
abbrev pub AllIsDone : Bool → List (List ℕ) → List Script → Type 0
AllIsDone reads actions scripts = (reads ≡ false) × (actions ≡ []) × (scripts ≡ [])

-- Why a session is over at its next text, before which these units were left, and behind which those: by its budget where
-- that text could not be paid; and by EXIT where it was paid and is that command, or with 0 where there is none.
abbrev pub FinishAt : Bool → List (List ℕ) → List Script → ℕ → Finish → ℕ → Type 0
FinishAt reads actions scripts budget Commands left = IsUnpaid reads actions scripts left
FinishAt reads actions scripts budget (Exit status) left =
    ((left < budget) × (text : List ℕ) × ComesNext reads actions scripts text × AsksExit (asked text) status)
    ⊎ (AllIsDone reads actions scripts × (status ≡ 0))
FinishAt reads actions scripts budget EndOfInput left = Unit {0}
FinishAt reads actions scripts budget FlushFailed left = Unit {0}
FinishAt reads actions scripts budget Console left = Unit {0}
FinishAt reads actions scripts budget Input left = Unit {0}
FinishAt reads actions scripts budget OutOfMemory left = Unit {0}

abbrev pub TextCause : Bool → List (List ℕ) → List Script → ℕ → Progress → ℕ → Type 0
TextCause reads actions scripts budget GoesOn left = Unit {0}
TextCause reads actions scripts budget (IsOver finish) left = FinishAt reads actions scripts budget finish left

-- ---- a session

-- The texts that can be still to come where a session has paid so many units that began with those scripts: each script
-- that a DO has read has cost one at least, and before the first unit all is as it began.
pub record CanCome (first : List Script) (paid : ℕ) (actions : List (List ℕ)) (scripts : List Script) : Type 0 where
  pub stack : StackOf first paid scripts
  pub begins : paid ≡ 0 → (actions ≡ []) × (scripts ≡ first)

-- At its last text, where so many units of the budget were left, such texts were still to come, and it is over at that
-- one.
pub record StopsAt (reads : Bool) (first : List Script) (budget : ℕ) (finish : Finish) (left : ℕ) : Type 0 where
  pub before : ℕ
  pub within : before ≤ budget
  pub fell : left ≤ before
  pub texts : Texts
  pub come : CanCome first (budget - before) texts.actions texts.scripts
  pub at : FinishAt reads texts.actions (still_open texts.scripts) before finish left

-- Why a session is over that began with those scripts and a budget of which so many units are left. For want of memory it
-- may be before its first text.
abbrev pub EndCause : Bool → List Script → ℕ → Finish → ℕ → Type 0
EndCause reads first budget OutOfMemory left = Unit {0}
EndCause reads first budget finish left = StopsAt reads first budget finish left

-- So many units of the budget were spent, and the number of the last command rose by them, up to where it stands still.
pub record Spends (reads : Bool) (first : List Script) (finish : Finish) (budget spent now : ℕ) : Type 0 where
  pub paid : ℕ
  pub within : paid ≤ budget
  pub number : now ≡ spent_more spent paid
  pub cause : EndCause reads first budget finish (budget - paid)
