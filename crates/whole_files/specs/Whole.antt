-- A file is read whole, by its name. A call on it fails exactly where the outside says so; the numbers of open files
-- are no part of this.
use Rattle.std.specs.Prelude.{ℕ, ◌+◌, List, ◌∷◌, length, nat_lt, Option, Some, None, if◌then◌else◌}
use Rattle.file_traits.specs.declared.files.FileCall.{FileCall}
use Rattle.file_traits.specs.declared.files.FileCall.TheVariants.{Opening, Length, Read, Closing}
use Rattle.file_traits.specs.Lists.{NamedBytes, find_file}

-- how many bytes a file that is read whole may have: 2 ^ 20
unfoldable pub longest_file : ℕ
longest_file = 1048576

-- what is said of a file: its bytes, or why they are not read
pub data WholeSaid : Type 0 where
  WholeIs : List ℕ → WholeSaid
  NotThere : WholeSaid
  TooLong : WholeSaid
  CallFailed : WholeSaid

-- Each act is handed the calls that are still to fail, in order: a call fails exactly where it is the first of them. It
-- gives what is said, and how many failing calls it met.

-- the file is closed behind all that, also where its closing fails
abbrev pub closed : WholeSaid → List FileCall → ℕ → WholeSaid × ℕ
closed said (Closing ∷ failing) met = (said, met + 1)
closed said failing met = (said, met)

-- its bytes are read, where it has any
abbrev pub bytes_act : List FileCall → List ℕ → WholeSaid × ℕ
bytes_act (Read ∷ failing) (b ∷ bytes) = closed CallFailed failing 1
bytes_act failing bytes = closed (WholeIs bytes) failing 0

-- its length is asked for, and its bytes are read where they are not too many
abbrev pub open_act : List FileCall → List ℕ → WholeSaid × ℕ
open_act (Length ∷ failing) bytes = closed CallFailed failing 1
open_act failing bytes =
    if nat_lt longest_file (length bytes) then closed TooLong failing 0 else bytes_act failing bytes

-- the same of a file that may be missing
abbrev pub found_act : List FileCall → Option (List ℕ) → WholeSaid × ℕ
found_act failing None = (NotThere, 0)
found_act failing (Some bytes) = open_act failing bytes

-- the file of a name is opened to be read, and closed again whatever is said of it
unfoldable pub whole_act : List FileCall → List ℕ → List NamedBytes → WholeSaid × ℕ
whole_act (Opening ∷ failing) name files = (CallFailed, 1)
whole_act failing name files = found_act failing (find_file files name)
