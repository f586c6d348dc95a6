-- A table of open files: those that are open, and a count of faults for each id that was given.
use Rattle.std.specs.Prelude.{◌≡◌, ℕ, ◌<◌, length, slice_get, Bool, true, ◌&&◌, List, [], ◌∷◌, nat_lt, string_bytes}
use Rattle.host_files.specs.declared.open_table.Entry.{Entry}
use Rattle.std.specs.List.{remove}
use Rattle.file_traits.specs.State.{Opened, opened_at, without}

pub record TableState : Type 0 where
  pub opened : List Opened
  pub counts : List ℕ

-- what is open by an entry
abbrev pub opened_of : {T : Type 0} → Entry T → Opened
opened_of e = record { file = e.file; name = string_bytes e.name; mode = e.mode }

-- each open id is one of the first so many
abbrev pub all_given : List Opened → ℕ → Bool
all_given [] given = true
all_given (o ∷ rest) given = nat_lt o.file given && all_given rest given

-- an id stands at a place among those that are open
pub record StandsAt (opened : List Opened) (file place : ℕ) : Type 0 where
  pub within : place < length opened
  pub found : opened_at opened file ≡ slice_get opened place
  pub rest : without opened file ≡ remove opened place
