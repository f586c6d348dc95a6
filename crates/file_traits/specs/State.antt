-- What contracts see of files: their names and bytes, where these are told, which ids are open, and how often calls have
-- failed.
use Rattle.std.specs.Prelude.{◌≢◌, ℕ, ◌==◌, Bool, true, false, List, [], ◌∷◌, Option, Some, None, IsSome, option_map, unwrap_or, if◌then◌else◌}
use Rattle.file_traits.specs.declared.files.OpenMode.{OpenMode}
use Rattle.file_traits.specs.declared.files.OpenMode.TheVariants.{Read, Update, Create}
use Rattle.file_traits.specs.Lists.{NamedBytes, find_file, bytes_of}

-- an open file: its id, its name, and the mode it was opened with
pub record Opened : Type 0 where
  pub file : ℕ
  pub name : List ℕ
  pub mode : OpenMode

pub record FileState : Type 0 where
  -- all files, where contracts can name them: those in memory, and not real ones, of which there are none here
  pub files : List NamedBytes
  -- those that are open, the newest first
  pub opened : List Opened
  -- how many ids were given
  pub given : ℕ
  -- how often a call on an id has failed, and how often an opening
  pub faults : ℕ → ℕ
  pub open_faults : ℕ

-- the opening that an id stands for
abbrev pub opened_at : List Opened → ℕ → Option Opened
opened_at [] file = None
opened_at (o ∷ rest) file = if o.file == file then Some o else opened_at rest file

-- those that are open once an id is closed
abbrev pub without : List Opened → ℕ → List Opened
without [] file = []
without (o ∷ rest) file = if o.file == file then rest else o ∷ without rest file

-- the name behind an open id
abbrev pub name_at : List Opened → ℕ → List ℕ
name_at opened file = unwrap_or (option_map (λ o. o.name) (opened_at opened file)) []

-- the mode of an open id
abbrev pub mode_at : List Opened → ℕ → Option OpenMode
mode_at opened file = option_map (λ o. o.mode) (opened_at opened file)

-- whether a mode lets the file be changed
abbrev pub allows_writes : Option OpenMode → Bool
allows_writes None = true
allows_writes (Some Read) = false
allows_writes (Some Update) = true
allows_writes (Some Create) = true

abbrev pub IsOpen : FileState → ℕ → Type 0
IsOpen s file = IsSome (opened_at s.opened file)

-- an id through which the file may be changed
abbrev pub IsWritable : FileState → ℕ → Type 0
IsWritable s file = mode_at s.opened file ≢ Some Read

-- the same as a test
abbrev pub is_writable : FileState → ℕ → Bool
is_writable s file = allows_writes (mode_at s.opened file)

-- the bytes behind an open id
abbrev pub content : FileState → ℕ → List ℕ
content s file = bytes_of s.files (name_at s.opened file)

-- the name of an open id is that of a file
abbrev pub IsNamed : FileState → ℕ → Type 0
IsNamed s file = IsSome (find_file s.files (name_at s.opened file))
