-- What is handed in, where it is of bytes, and the session that begins with it.
use Rattle.std.specs.Prelude.{ℕ, List, Option}
use Rattle.std.specs.List.{AllByRecursion}
use Rattle.file_traits.specs.Lists.{NamedBytes}
use Rattle.file_commands.specs.Notes.{Note}
use Rattle.expect_actions.specs.KeysFile.{Key}
use Rattle.host_lines.specs.Traffic.{Ahead}
use Rattle.unit_trait.specs.Calls.{UnitState}
use Rattle.nova_machine.specs.Valid.{AreBytes, ValidAhead, DiskIsItsFile}
use Rattle.script_laws.specs.Valid.{ValidSession}
use Rattle.command_words.specs.declared.options.Options.{Options}
use Rattle.nova_top.specs.Outside.{opening}

-- what is handed in is of bytes
pub record AreHandedBytes (words : List (List ℕ)) (input : List ℕ) (files : List NamedBytes) (ahead : Ahead) : Type 0 where
  pub each_word : AllByRecursion AreBytes words
  pub read : AreBytes input
  pub each_file : AllByRecursion (λ (f : NamedBytes). AreBytes f.1) files
  pub comes : ValidAhead ahead

-- a session at its beginning, with no copy of a file
pub record IsGoodOpening (units : List UnitState) (words : List (List ℕ)) (options : Options) (keys : List Key) (script : Option (List ℕ))
    (files : List NamedBytes) (ahead : Ahead) (input : List ℕ) (notes : List Note) : Type 0 where
  pub valid : ValidSession (opening units words options keys script files ahead input notes)
  pub disk : DiskIsItsFile (opening units words options keys script files ahead input notes).live
