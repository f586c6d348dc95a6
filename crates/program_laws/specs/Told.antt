-- Which files and lines tell all that the program uses of them.
use Rattle.std.specs.Prelude.{ℕ, Bool, IsTrue, List}
use Rattle.file_traits.specs.Lists.{NamedBytes}
use Rattle.host_lines.specs.State.{LineState}
use Rattle.nova_top.specs.Used.{ProgramTold}
use Rattle.unit_trait.specs.Calls.{UnitState}

-- files and lines that tell theirs tell all that is used
abbrev pub ToldIsEnough : Type 0
ToldIsEnough =
    (files lines : Bool) (units : List UnitState) (words : List (List ℕ)) (input : List ℕ) (named : List NamedBytes) (outside : LineState) → IsTrue files → IsTrue lines → ProgramTold files lines units words input named outside
