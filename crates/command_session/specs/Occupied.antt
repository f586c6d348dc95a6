-- Whether a session has something attached.
use Rattle.std.specs.Prelude.{◌||◌, Bool, false, is_some, List, [], ◌∷◌, Option}
use Rattle.telnet_lines.specs.Line.{LineOf}
use Rattle.unit_files.specs.Attachments.{Attachment, is_any_attached}

-- whether one of these lines has a port
abbrev pub has_port : {P : Type 0} → List (LineOf P) → Bool
has_port [] = false
has_port (line ∷ lines) = is_some line.port || has_port lines

-- whether a session has something attached: a unit has a file, or a line a port, that of the console too
abbrev pub is_occupied : {P : Type 0} → List (Option Attachment) → List (LineOf P) → Bool
is_occupied attached lines = is_any_attached attached || has_port lines
