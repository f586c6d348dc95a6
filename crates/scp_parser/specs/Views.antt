-- The forms in which the functions of the reader answer: a result that holds the rest of a line behind a reference is
-- seen by a view.
use Rattle.std.specs.Prelude.{◌≡◌, ℕ, ◌++◌, Bool, List, [], ◌∷◌, length, is_some, Result, Ok, Err}
use Rattle.scp_parser.specs.declared.command.Piece.{Piece}
use Rattle.scp_parser.specs.declared.command.Verb.{Verb}
use Rattle.scp_parser.specs.declared.command.Verb.TheVariants as verb
use Rattle.scp_parser.specs.declared.fault.ParseFault.{ParseFault}
use Rattle.scp_parser.specs.declared.fault.ParseFault.TheVariants.{Missing}
use Rattle.scp_parser.specs.Faults.{bad_word}
use Rattle.operand_forms.specs.Operands.{octal, decimal}
use Rattle.scp_parser.specs.Operands.{symbolic_of, flag_of}
use Rattle.scp_parser.specs.Reading.{◌>>=◌, maybe, last_number, numbered, last_name, piece_before}

-- what a reader answered, seen by view, is that reading
abbrev pub Gives : {X Y : Type 0} → (X → Y) → Result X ParseFault → Result Y ParseFault → Type 0
Gives view (Ok x) reading = reading ≡ Ok (view x)
Gives view (Err fault) reading = reading ≡ Err fault

-- the fault of a word that is not in the form of its operand, or of none
abbrev pub bad_operand : Bool → List ℕ → List ℕ → ParseFault
bad_operand only_number [] rest = Missing
bad_operand only_number (b ∷ more) rest = bad_word only_number (b ∷ more) (length (b ∷ more ++ rest))

-- the option for symbolic text, and what follows it
abbrev pub maybe_symbolic : List ℕ → Bool × List ℕ
maybe_symbolic text = let option = maybe symbolic_of text in (is_some option.0, option.1)

-- an option that is there or not, and what follows it
abbrev pub maybe_flag : List ℕ → List ℕ → Bool × List ℕ
maybe_flag flag text = let option = maybe (flag_of flag) text in (is_some option.0, option.1)

-- the place of the name of a file that goes up to the end of a line of so many bytes
abbrev pub name_piece : ℕ → List ℕ → Result Piece ParseFault
name_piece bytes text = last_name text >>= (λ name. Ok (piece_before bytes name.0 name.1))

-- the commands with a number that may be left out
abbrev pub run : List ℕ → Result Verb ParseFault
run text = numbered (λ n. verb.Run n) (last_number octal text)

abbrev pub go : List ℕ → Result Verb ParseFault
go text = numbered (λ n. verb.Go n) (last_number octal text)

abbrev pub step : List ℕ → Result Verb ParseFault
step text = numbered (λ n. verb.Step n) (last_number decimal text)

abbrev pub exit : List ℕ → Result Verb ParseFault
exit text = numbered (λ n. verb.Exit n) (last_number decimal text)
