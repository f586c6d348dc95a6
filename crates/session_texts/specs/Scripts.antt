-- The scripts that are open, the innermost first (SIMH Users' Guide, "Executing Command Files").
use Rattle.std.specs.Prelude.{◌≡◌, ℕ, ◌-◌, ◌^◌, ◌≤◌, ◌||◌, Bool, true, false, nat_lt, List, [], ◌∷◌, ◌++◌, length, drop, take, map, codes, string_bytes, Option, Some, None, Result, Ok, Err, if◌then◌else◌}
use Rattle.std.specs.List.{AllByRecursion}
use Rattle.std.specs.declared.string.String.{String}
use Rattle.std.specs.declared.alloc.Global.{Global}
use Rattle.script_text.specs.Lines.{first_line, command_line, behind_line, line_cost, lines_of}
use Rattle.script_text.specs.Filling.{filled}
use Rattle.script_text.specs.Labels.{label_place}
use Rattle.script_text.specs.Arguments.{words_of}
use Rattle.scp_parser.specs.Command.{Do, Goto}
use Rattle.command_session.specs.declared.do_file.DoFile.{DoFile}
use Rattle.command_session.specs.declared.fault.CommandFault.{CommandFault}
use Rattle.command_session.specs.declared.fault.CommandFault.TheVariants.{TooDeep, NoLabel, NotInDo, AssertFailed}
use Rattle.command_session.specs.declared.next.Next.TheVariants as next
use Rattle.command_session.specs.Reply.{Answer, Reply}
use Rattle.command_session.specs.Asked.{Asked}

-- a script that is open: its text, and the place in it of its next line; its name and its arguments; whether its lines are
-- printed, and whether its first failed command ends it
pub record Script : Type 0 where
  pub text : List ℕ
  pub place : ℕ
  pub arguments : List (List ℕ)
  pub echo : Bool
  pub strict : Bool

-- how many scripts can be open
abbrev pub most_scripts : ℕ
most_scripts = 10

-- ---- its lines

-- what is left of it
abbrev pub rest_of : Script → List ℕ
rest_of s = drop s.place s.text

-- a script whose last line was done is closed when the next text is wanted
unfoldable pub still_open : List Script → List Script
still_open [] = []
still_open (s ∷ outer) = if nat_lt s.place (length s.text) then s ∷ outer else still_open outer

-- what its next line costs, as it stands there
abbrev pub cost_of_line : Script → ℕ
cost_of_line s = line_cost (length (first_line (rest_of s)))

-- its next line, with the arguments put in
abbrev pub text_of_line : Script → List ℕ
text_of_line s = filled s.arguments (command_line (rest_of s))

-- what is printed of it before it is done
abbrev pub echo_text : Script → List ℕ
echo_text s = if s.echo then codes "do> " ++ text_of_line s ++ 10 ∷ [] else []

-- the script behind that line
abbrev pub past_line : Script → Script
past_line s = record s { place = length s.text - length (behind_line (rest_of s)) }

-- ---- DO

-- a script at its first line
abbrev pub begun : List (List ℕ) → DoFile → Script
begun arguments file = record { text = file.text; place = 0; arguments = arguments; echo = file.echo; strict = file.strict }

-- the name of the script of a DO, and its first nine arguments, which are words
abbrev pub arguments_of : Asked → List (List ℕ)
arguments_of (Ok (Do echo strict name arguments)) = take 10 (name ∷ words_of arguments)
arguments_of what = []

-- a DO is refused where as many scripts are open as can be
abbrev pub checked : List Script → Asked → Asked
checked scripts (Ok (Do echo strict name arguments)) = if nat_lt (length scripts) most_scripts then Ok (Do echo strict name arguments) else Err TooDeep
checked scripts what = what

-- ---- GOTO

abbrev pub label_of : Asked → List ℕ
label_of (Ok (Goto label)) = label
label_of what = []

abbrev pub or_no_label : Option ℕ → Result ℕ CommandFault
or_no_label (Some place) = Ok place
or_no_label None = Err NoLabel

-- the place of the first line of the innermost script that is that label
abbrev pub label_in : List ℕ → List Script → Result ℕ CommandFault
label_in label [] = Err NotInDo
label_in label (s ∷ outer) = or_no_label (label_place label (lines_of s.text))

-- a script goes on at that place, if there is one
abbrev pub placed_at : Option ℕ → Script → Script
placed_at (Some place) s = record s { place = place }
placed_at None s = s

-- the innermost script goes on there
abbrev pub jumped_to : Result ℕ CommandFault → List Script → List Script
jumped_to (Ok place) (s ∷ outer) = record s { place = place } ∷ outer
jumped_to found scripts = scripts

abbrev pub found_answer : Result ℕ CommandFault → Answer
found_answer (Ok place) = Ok next.Goto
found_answer (Err fault) = Err fault

-- a GOTO is refused where no script is open, or where the innermost has no such label
abbrev pub settled_answer : List Script → Asked → Answer → Answer
settled_answer scripts what (Ok next.Goto) = found_answer (label_in (label_of what) scripts)
settled_answer scripts what answer = answer

abbrev pub settled : List Script → Asked → Reply → Reply
settled scripts what reply = record reply { answer = settled_answer scripts what reply.answer }

-- ---- failed commands

-- A failed ASSERT ends its script, and every failed command ends one that is strict. The DO of a script that ends so is a
-- failed command of the next one.
unfoldable pub behind_failure : Bool → List Script → List Script
behind_failure ends [] = []
behind_failure ends (s ∷ outer) = if ends || s.strict then behind_failure false outer else s ∷ outer

abbrev pub is_assertion : CommandFault → Bool
is_assertion AssertFailed = true
is_assertion fault = false

-- ---- the scripts behind a text that was answered so

abbrev pub scripts_behind : List Script → Asked → Answer → List Script
scripts_behind scripts what (Ok (next.Do file)) = begun (arguments_of what) file ∷ scripts
scripts_behind scripts what (Ok next.Goto) = jumped_to (label_in (label_of what) scripts) scripts
scripts_behind scripts what (Ok other) = scripts
scripts_behind scripts what (Err fault) = behind_failure (is_assertion fault) scripts

-- ---- the script that a session begins with

-- with words for its name and its arguments
abbrev pub first_script : Option DoFile → List (String Global) → List Script
first_script None words = []
first_script (Some file) words = begun (take 10 (map (λ word. string_bytes word) words)) file ∷ []

-- ---- the scripts that can be open in a session

-- each is as long at the most as a file that is read whole
abbrev pub AreFiles : List Script → Type 0
AreFiles scripts = AllByRecursion (λ (s : Script). length s.text ≤ 2 ^ 20) scripts

-- what is left of the script that a session began with: it stands at some place, or was closed
abbrev pub IsLeftOf : List Script → List Script → Type 0
IsLeftOf first [] = Unit {0}
IsLeftOf (one ∷ []) (s ∷ []) = s ≡ record one { place = s.place }
IsLeftOf first scripts = ⊥

-- The scripts that are open, of a session that began with the first: it is the outermost, if it still is open, and within
-- it are such as DO's have read, so many at the most.
pub record StackOf (first : List Script) (most : ℕ) (scripts : List Script) : Type 0 where
  pub read : List Script
  pub own : List Script
  pub are : scripts ≡ read ++ own
  pub left : IsLeftOf first own
  pub few : length read ≤ most
  pub files : AreFiles scripts
