-- The names of commands (SIMH Users' Guide, "Commands"; the abbreviations are this
-- project's own). Names are read in either case.
use Rattle.std.specs.Prelude.{◌≡◌, ℕ, ◌≤◌, Bool, ◌&&◌, List, [], ◌∷◌, length, take, codes, nat_le, Option, option_map, Contains}
use Rattle.line_text.specs.Words.{IsSpelled, is_spelled}
use Rattle.operand_forms.specs.Names.{first_of}
use Rattle.scp_parser.specs.Command.{Request}
use Rattle.scp_parser.specs.Command as request
use Rattle.scp_parser.specs.declared.command.Verb.{Verb}
use Rattle.scp_parser.specs.declared.command.Verb.TheVariants as verb
use Rattle.scp_parser.specs.declared.names.AloneName.{AloneName}
use Rattle.scp_parser.specs.declared.names.AloneName.TheVariants.{Cont, Reset, NoExpect, NoSend}
use Rattle.scp_parser.specs.declared.names.CommandName.{CommandName}
use Rattle.scp_parser.specs.declared.names.CommandName.TheVariants.{Alone, Examine, Deposit, Run, Go, Step, Break, NoBreak, Expect, Send, Attach, Detach, Load, Save, Dump, Restore, Set, Show, Do, Goto, Assert, Echo, Exit}

-- a name of a command, and how many letters an abbreviation of it has at least
pub record CommandRow : Type 0 where
  pub name : List ℕ
  pub letters : ℕ
  pub command : CommandName

abbrev pub row : List ℕ → ℕ → CommandName → CommandRow
row name letters command = record { name = name; letters = letters; command = command }

-- the names of the commands
abbrev pub command_rows : List CommandRow
command_rows =
    row (codes "EXAMINE") 1 Examine
    ∷ row (codes "DEPOSIT") 1 Deposit
    ∷ row (codes "RUN") 2 Run
    ∷ row (codes "GO") 1 Go
    ∷ row (codes "CONT") 1 (Alone Cont)
    ∷ row (codes "RESET") 4 (Alone Reset)
    ∷ row (codes "NOEXPECT") 3 (Alone NoExpect)
    ∷ row (codes "NOSEND") 3 (Alone NoSend)
    ∷ row (codes "STEP") 1 Step
    ∷ row (codes "BREAK") 1 Break
    ∷ row (codes "NOBREAK") 3 NoBreak
    ∷ row (codes "EXPECT") 3 Expect
    ∷ row (codes "SEND") 3 Send
    ∷ row (codes "ATTACH") 2 Attach
    ∷ row (codes "DETACH") 3 Detach
    ∷ row (codes "LOAD") 1 Load
    ∷ row (codes "SAVE") 2 Save
    ∷ row (codes "DUMP") 2 Dump
    ∷ row (codes "RESTORE") 4 Restore
    ∷ row (codes "SET") 3 Set
    ∷ row (codes "SHOW") 2 Show
    ∷ row (codes "DO") 2 Do
    ∷ row (codes "GOTO") 3 Goto
    ∷ row (codes "ASSERT") 2 Assert
    ∷ row (codes "ECHO") 2 Echo
    ∷ row (codes "EXIT") 3 Exit
    ∷ row (codes "QUIT") 1 Exit
    ∷ row (codes "BYE") 2 Exit
    ∷ []

-- what a command that stands alone asks for: nothing follows its name
abbrev pub alone_request : AloneName → Request
alone_request Cont = request.Cont
alone_request Reset = request.Reset
alone_request NoExpect = request.NoExpect
alone_request NoSend = request.NoSend

-- the name of a row, or a first part of it that is long enough
pub record IsRowName (word : List ℕ) (of : CommandRow) : Type 0 where
  pub enough : of.letters ≤ length word
  pub spelled : IsSpelled word (take (length word) of.name)

-- a name of a command, or an abbreviation of one
pub record IsCommandName (word : List ℕ) (command : CommandName) : Type 0 where
  pub of : CommandRow
  pub listed : Contains command_rows of
  pub means : of.command ≡ command
  pub names : IsRowName word of

-- The same as functions.

-- a word is a name, or a first part of it with so many letters at least
abbrev pub abbreviates : List ℕ → List ℕ → ℕ → Bool
abbreviates word name letters = nat_le letters (length word) && is_spelled word (take (length word) name)

abbrev pub is_row_name : List ℕ → CommandRow → Bool
is_row_name word of = abbreviates word of.name of.letters

-- the command of the first row whose name a word is
abbrev pub command_in : List CommandRow → List ℕ → Option CommandName
command_in rows word = option_map (λ (of : CommandRow). of.command) (first_of (is_row_name word) rows)

-- the command that a word names
unfoldable pub command_named : List ℕ → Option CommandName
command_named word = command_in command_rows word

-- what a command that stands alone asks for
abbrev pub alone_verb : AloneName → Verb
alone_verb Cont = verb.Cont
alone_verb Reset = verb.Reset
alone_verb NoExpect = verb.NoExpect
alone_verb NoSend = verb.NoSend
