-- Files in memory: what they hold, and which calls on them are to fail.
use Rattle.std.specs.Prelude.{◌≡◌, ℕ, ◌<◌, ◌≤◌, ◌==◌, ◌||◌, ◌&&◌, ◌-◌, nat_le, min, Result, Ok, Err, Bool, true, false, List, [], ◌∷◌, ◌++◌, length, slice_get, slice_set, nat_lt, vec_len, vec_capacity, Option, Some, None, is_some, slice_index, string_bytes, if◌then◌else◌}
use Rattle.fault_counts.specs.Faults.{raised}
use Rattle.host_files.specs.declared.mem_file.MemFile.{MemFile}
use Rattle.file_traits.specs.declared.files.FileId.{FileId}
use Rattle.file_traits.specs.declared.files.OpenFault.{OpenFault}
use Rattle.file_traits.specs.declared.files.OpenFault.TheVariants.{NoFile, Failed, OutOfMemory}
use Rattle.file_traits.specs.declared.files.WriteFault.{WriteFault}
use Rattle.file_traits.specs.Lists.{NamedBytes, find_file, with_file, changed}
use Rattle.file_traits.specs.State.{Opened, FileState}
use Rattle.host_files.specs.OpenTable.{TableState}

-- how many calls were made, and the numbers of those that are to fail, each with how many bytes its write writes
pub record FailingState : Type 0 where
  pub made : ℕ
  pub failing : List (ℕ × ℕ)

abbrev pub no_failing : FailingState
no_failing = record { made = 0; failing = [] }

-- how many bytes the call with that number writes, where it is to fail
abbrev pub failing_at : List (ℕ × ℕ) → ℕ → Option ℕ
failing_at [] number = None
failing_at (f ∷ rest) number = if f.0 == number then Some f.1 else failing_at rest number

-- the same of the next call
abbrev pub next_fails : FailingState → Option ℕ
next_fails s = failing_at s.failing s.made

-- once one more number was named: one that was named before, or whose call has passed, changes nothing
abbrev pub with_failing : FailingState → ℕ → ℕ → FailingState
with_failing s number done =
    if nat_lt number s.made || is_some (failing_at s.failing number) then s else record s { failing = s.failing ++ (number, done) ∷ [] }

-- after a call. The number of calls stands still at its type's end.
abbrev pub begun : FailingState → FailingState
begun s = record s { made = raised s.made }

-- all that the files are
pub record MemState : Type 0 where
  pub files : List NamedBytes
  -- the room of each file, in bytes
  pub room : ℕ
  pub table : TableState
  pub calls : FailingState
  pub open_faults : ℕ

-- what a file is by its name
abbrev pub named_of : MemFile → NamedBytes
named_of f = (string_bytes f.name, f.bytes.items)

-- what contracts of `Files` see
abbrev pub told_state : MemState → FileState
told_state m = record {
  files = m.files;
  opened = m.table.opened;
  given = length m.table.counts;
  faults = λ k. slice_index m.table.counts k;
  open_faults = m.open_faults;
}

-- each open name is that of a file
abbrev pub are_there : List NamedBytes → List Opened → Bool
are_there files [] = true
are_there files (o ∷ rest) = is_some (find_file files o.name) && are_there files rest

-- a file stands at a place among them
pub record HasPlace (files : List NamedBytes) (name : List ℕ) (place : ℕ) : Type 0 where
  pub file : NamedBytes
  pub within : place < length files
  pub there : slice_get files place ≡ Some file
  pub found : find_file files name ≡ Some file.1
  pub steps : (step : List ℕ → List ℕ) → changed files name step ≡ slice_set files place (file.0, step file.1)
  pub replaced : (bytes : List ℕ) → with_file files name bytes ≡ slice_set files place (file.0, bytes)

-- a file that has its room, of so many bytes
abbrev pub HasRoom : ℕ → MemFile → Type 0
HasRoom room f = (vec_len f.bytes ≤ room) × (room ≤ vec_capacity f.bytes)

-- whether an opening failed
abbrev pub opening_failed : Result FileId OpenFault → Bool
opening_failed (Ok file) = false
opening_failed (Err NoFile) = false
opening_failed (Err Failed) = true
opening_failed (Err OutOfMemory) = false

-- an opening fails where its number was named, and where every id was given
abbrev pub opening_fails : MemState → Bool
opening_fails m = is_some (next_fails m.calls) || nat_le 4294967296 (length m.table.counts)

-- so many bytes have room at a place
abbrev pub has_room : ℕ → ℕ → ℕ → Bool
has_room room place count = nat_le place room && nat_le count (room - place)

-- what a write of so many bytes answers, where there is so much room: one whose number was named writes its first bytes,
-- and one past the room none
abbrev pub piece_result : FailingState → ℕ → ℕ → ℕ → Result (Unit {0}) WriteFault
piece_result calls room place count = written_by (next_fails calls)
  where
    written_by : Option ℕ → Result (Unit {0}) WriteFault
    written_by None = if has_room room place count then Ok tt else Err (record { done = 0 })
    written_by (Some done) = Err (record { done = if has_room room place (min done count) then min done count else 0 })

abbrev pub write_result : MemState → ℕ → ℕ → Result (Unit {0}) WriteFault
write_result m place count = piece_result m.calls m.room place count
