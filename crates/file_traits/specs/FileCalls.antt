-- What the calls on files do.
use Rattle.std.specs.Prelude.{if◌then◌else◌, ◌≡◌, ◌≢◌, ℕ, ◌+◌, ◌-◌, ◌^◌, ◌≤◌, Bool, true, false, List, [], ◌∷◌, length, take, drop, min, None, is_some, IsTrue, Result, Ok, Err, IfOk}
use Rattle.fault_counts.specs.Faults.{raised, CountsFault}
use Rattle.file_traits.specs.declared.files.FileId.{FileId}
use Rattle.file_traits.specs.declared.files.WriteFault.{WriteFault}
use Rattle.file_traits.specs.declared.files.OpenMode.{OpenMode}
use Rattle.file_traits.specs.declared.files.OpenMode.TheVariants.{Read, Update, Create}
use Rattle.file_traits.specs.declared.files.OpenFault.{OpenFault}
use Rattle.file_traits.specs.declared.files.OpenFault.TheVariants.{NoFile, Failed, OutOfMemory}
use Rattle.file_traits.specs.Lists.{NamedBytes, find_file, with_file}
use Rattle.file_traits.specs.State.{FileState, opened_at}

-- a call on one id: its count is one more exactly where the call fails, no other count changes, and no id is given
pub record Counted {T E : Type 0} (file : ℕ) (old new : FileState) (result : Result T E) : Type 0 where
  pub counts : CountsFault (old.faults file) (new.faults file) result
  pub others : (other : ℕ) → other ≢ file → new.faults other ≡ old.faults other
  pub openings : new.open_faults ≡ old.open_faults
  pub ids : new.given ≡ old.given

-- how many bytes of a piece a write wrote
abbrev pub written_count : Result (Unit {0}) WriteFault → List ℕ → ℕ
written_count (Ok u) piece = length piece
written_count (Err f) piece = f.done

-- whether a name can be opened with a mode
abbrev pub can_open : List NamedBytes → List ℕ → OpenMode → Bool
can_open files name Read = is_some (find_file files name)
can_open files name Update = is_some (find_file files name)
can_open files name Create = true

-- the files after an opening: Create makes the file, or empties it
abbrev pub after_opening : List NamedBytes → List ℕ → OpenMode → List NamedBytes
after_opening files name Read = files
after_opening files name Update = files
after_opening files name Create = with_file files name []

-- an opening that succeeded: its id is open now, and is the next one: each opening that succeeds gives one id
pub record HasOpened (tells : Bool) (old new : FileState) (name : List ℕ) (mode : OpenMode) (file : ℕ) : Type 0 where
  pub opened : new.opened ≡ record { file = file; name = name; mode = mode } ∷ old.opened
  pub next : file ≡ old.given
  pub given : new.given ≡ file + 1
  pub fresh : opened_at old.opened file ≡ None
  pub files : IsTrue tells → new.files ≡ after_opening old.files name mode
  pub allowed : IsTrue tells → can_open old.files name mode ≡ true

-- an opening that came to nothing
pub record HasNotOpened (old new : FileState) : Type 0 where
  pub opened : new.opened ≡ old.opened
  pub given : new.given ≡ old.given
  pub files : new.files ≡ old.files

-- what an opening does, by its answer. Where names are told, `NoFile` comes only where the name is missing.
abbrev pub Opens : Bool → FileState → FileState → List ℕ → OpenMode → Result FileId OpenFault → Type 0
Opens tells old new name mode (Ok id) = HasOpened tells old new name mode id.0
Opens tells old new name mode (Err NoFile) = HasNotOpened old new × (IsTrue tells → can_open old.files name mode ≡ false)
Opens tells old new name mode (Err Failed) = HasNotOpened old new
Opens tells old new name mode (Err OutOfMemory) = HasNotOpened old new

-- the count of openings behind one: one more where it failed, and where it answered `NoFile` of names that are not told
abbrev pub opening_count : Bool → FileState → Result FileId OpenFault → ℕ
opening_count tells old (Ok id) = old.open_faults
opening_count tells old (Err NoFile) = if tells then old.open_faults else raised old.open_faults
opening_count tells old (Err Failed) = raised old.open_faults
opening_count tells old (Err OutOfMemory) = old.open_faults

-- how many ids there are
abbrev pub id_count : ℕ
id_count = 2 ^ 32

-- where every id was given, an opening fails
abbrev pub FailsBehindLast : FileState → Result FileId OpenFault → Type 0
FailsBehindLast old result = id_count ≤ old.given → result ≡ Err Failed

-- the count of an id that was never given is 0
abbrev pub UnusedIdsAreUncounted : FileState → Type 0
UnusedIdsAreUncounted s = (file : ℕ) → s.given ≤ file → s.faults file ≡ 0

-- a read gave the bytes from a place on, as many as fit
abbrev pub Reads : {E : Type 0} → List ℕ → ℕ → Result ℕ E → List ℕ → Type 0
Reads bytes place result buf = IfOk result (λ n. (n ≡ min (length buf) (length bytes - place)) × (take n buf ≡ take n (drop place bytes)))
