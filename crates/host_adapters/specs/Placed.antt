-- An open file that is read and written at places, where it tells its bytes.
use Rattle.std.specs.Prelude.{◌≡◌, ℕ, ◌-◌, ◌≤◌, ◌<◌, List, length, take, drop, Result, Ok, Err}

-- the first bytes of a buffer are those of a file from a place on
pub record IsRead (bytes : List ℕ) (place count : ℕ) (buf : List ℕ) : Type 0 where
  pub within : count ≤ length bytes - place
  pub given : take count buf ≡ take count (drop place bytes)

-- a call gave so many of the bytes from a place on, and none only at the end of the file or where the buffer is empty
pub record Gives (bytes : List ℕ) (place count : ℕ) (buf : List ℕ) : Type 0 where
  pub read : IsRead bytes place count buf
  pub none : count ≡ 0 → 0 < length buf → length bytes ≤ place

-- how many bytes of a piece a call took
abbrev pub taken_count : {E : Type 0} → Result ℕ E → ℕ
taken_count (Ok n) = n
taken_count (Err e) = 0
