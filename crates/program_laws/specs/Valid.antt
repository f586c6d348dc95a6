-- What the program leaves, where the words, the input, the files and what comes on lines are of bytes.
use Rattle.std.specs.Prelude.{◌≡◌, ℕ, List, Option, IfSome}
use Rattle.std.specs.List.{AllByRecursion}
use Rattle.file_traits.specs.Lists.{NamedBytes}
use Rattle.file_commands.specs.Notes.{Note}
use Rattle.expect_actions.specs.KeysFile.{Key}
use Rattle.host_lines.specs.Traffic.{Ahead}
use Rattle.unit_trait.specs.Calls.{UnitState}
use Rattle.nova_machine.specs.Valid.{AreBytes, ValidMachine, ValidLine, ValidAhead}
use Rattle.command_words.specs.declared.options.Options.{Options}
use Rattle.command_words.specs.Standard.{IsStandard}
use Rattle.command_words.specs.Words.{options_of}
use Rattle.nova_top.specs.Outside.{Outside, Left, outcome}
use Rattle.program_start.specs.Start.{Begins, start_of}
use Rattle.nova_top.specs.Valid.{AreHandedBytes, IsGoodOpening}

-- a machine in which all is in range, where there is one, its lines, what is still to come on them, and files of bytes
pub record ValidLeft (l : Left) : Type 0 where
  pub machine : IfSome l.machine ValidMachine
  pub lines : AllByRecursion ValidLine l.lines
  pub ahead : ValidAhead l.ahead
  pub files : AllByRecursion (λ (f : NamedBytes). AreBytes f.1) l.files

-- The session that the program begins is what every session is, and what the program leaves is in range, wherever it
-- ends: the console may refuse any byte, any read may fail, and so may any call on a file.
pub record ProgramStaysValid : Type 0 where
  pub begin : (units : List UnitState) (words : List (List ℕ)) (input : List ℕ) (files : List NamedBytes) (ahead : Ahead) (notes more : List Note)
      (options : Options) (keys : List Key) (script : Option (List ℕ)) → IsStandard units → AreHandedBytes words input files ahead
      → (start_of (options_of words) words files notes).0 ≡ Begins options keys script
      → IsGoodOpening units words options keys script files ahead input more
  pub left : (o : Outside) → IsStandard o.units → AreHandedBytes o.words o.input o.files o.ahead → ValidLeft (outcome o).state
