-- One list of bytes: what calls on it see, and what they leave as it is behind it.
use Rattle.std.specs.Prelude.{◌≡◌, ◌≢◌, ℕ, ◌^◌, ◌*◌, ◌==◌, List, [], take, Option, if◌then◌else◌}
use Rattle.std.specs.Borrow.{GName}
use Rattle.file_traits.specs.Lists.{changed}
use Rattle.file_traits.specs.State.{FileState, name_at, content}

-- a list of bytes may be read up to this place, and no further: 64 MiB
abbrev pub longest_list : ℕ
longest_list = 64 * 2 ^ 20

-- the bytes that may be read
unfoldable pub shown : List ℕ → List ℕ
shown bytes = take longest_list bytes

-- a state without the bytes and the count of one file
abbrev pub masked : FileState → ℕ → FileState
masked s file = record {
  files = changed s.files (name_at s.opened file) (λ bytes. []);
  opened = s.opened;
  given = s.given;
  faults = λ other. if other == file then 0 else s.faults other;
  open_faults = s.open_faults;
}

-- what a call on one list leaves as it is: which object stands behind it, where one does, the file's number there, and
-- all else of that object
pub record Behind : Type 0 where
  pub lender : Option GName
  pub file : ℕ
  pub state : FileState

-- calls on one open file changed its bytes and its count at most
pub record ChangesOnly (file : ℕ) (old new : FileState) : Type 0 where
  pub files : new.files ≡ changed old.files (name_at old.opened file) (λ bytes. content new file)
  pub opened : new.opened ≡ old.opened
  pub given : new.given ≡ old.given
  pub openings : new.open_faults ≡ old.open_faults
  pub others : (other : ℕ) → other ≢ file → new.faults other ≡ old.faults other
