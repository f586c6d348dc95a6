-- What the program uses of files and lines where it runs the workload in place of a session.
use Rattle.std.specs.Prelude.{ℕ, Bool, IsTrue, List}
use Rattle.file_traits.specs.Lists.{NamedBytes}
use Rattle.host_lines.specs.State.{LineState}
use Rattle.nova_top.specs.Ends.{HasKeysFile, HasWorkload}
use Rattle.nova_top.specs.Used.{ProgramTold}
use Rattle.unit_trait.specs.Calls.{UnitState}

-- Its commands use no file and no line, whatever these tell: only the keys file has to be told, where the words name one.
abbrev pub WorkloadUsesNothing : Type 0
WorkloadUsesNothing =
    (files lines : Bool) (units : List UnitState) (words : List (List ℕ)) (input : List ℕ) (named : List NamedBytes) (outside : LineState) → HasWorkload words → (HasKeysFile words → IsTrue files)
    → ProgramTold files lines units words input named outside
