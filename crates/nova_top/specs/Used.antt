-- What the program uses of files and lines: contents are claimed where these tell theirs.
use Rattle.std.specs.Prelude.{◌⊎◌, ℕ, Bool, IsTrue, List}
use Rattle.observations.specs.Observations.{Observation}
use Rattle.file_traits.specs.Lists.{NamedBytes}
use Rattle.host_lines.specs.Traffic.{Answer as LineAnswer}
use Rattle.host_lines.specs.State.{LineState}
use Rattle.file_commands.specs.Notes.{Note}
use Rattle.command_session.specs.Live.{beyond}
use Rattle.scp_script.specs.Session.{State, Session}
use Rattle.scp_script.specs.Used.{NextTold}
use Rattle.nova_top.specs.Ends.{HasKeysFile, HasScript}
use Rattle.nova_top.specs.Resumption.{Reaches}
use Rattle.unit_trait.specs.Calls.{UnitState}

-- Files tell where the words name one, and so does all that the next text uses, wherever the program may come, whatever its
-- lines record and whichever calls on files fail. It is known before the program is called: with words that name no file,
-- it uses no file where no command attaches or names one, and no line where none listens on a port.
pub record ProgramTold (files lines : Bool) (units : List UnitState) (words : List (List ℕ)) (input : List ℕ) (named : List NamedBytes) (outside : LineState) : Type 0 where
  pub names : HasKeysFile words ⊎ HasScript words → IsTrue files
  pub texts : (whole : List LineAnswer) (notes : List Note) (front : List (Observation State)) (at : Session) → Reaches units words input (beyond named outside whole) notes front at
      → NextTold files lines at
