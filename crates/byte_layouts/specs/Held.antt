-- The bytes of a text that came and are not read yet.
use Rattle.std.specs.Prelude.{◌≡◌, ◌≤◌, ◌-◌, ◌+◌, ℕ, List, ◌++◌, length, get_or, take, drop, ◌<◌}
use Rattle.sha2.specs.declared.Sha256.{Sha256}
use Rattle.sha2.specs.Hashers.{Holds256}
use Rattle.byte_layouts.specs.Readers.{At, at_of}

-- these bytes, how many were read before them, and what hashed those
pub record Held : Type 0 where
  pub hasher : Sha256
  pub place : ℕ
  pub rest : List ℕ

-- where the reading stands
abbrev pub at_in : Held → At
at_in h = at_of h.place h.rest

abbrev pub IsBytes : List ℕ → Type 0
IsBytes bytes = (i : ℕ) → get_or bytes i 0 < 256

-- the reading went on to a place
pub record IsPassed (old new : Held) (place : ℕ) : Type 0 where
  pub at : at_in new ≡ at_of place (drop (place - old.place) old.rest)
  pub hashed : (m : List ℕ) → Holds256 old.hasher m
      → Holds256 new.hasher (m ++ take (place - old.place) old.rest)

-- a place behind bytes that are there
pub record IsThere (h : Held) (place : ℕ) : Type 0 where
  pub forward : h.place ≤ place
  pub within : place - h.place ≤ length h.rest

-- some of the bytes that were there were read since
pub record Passed (old new : Held) : Type 0 where
  pub read : List ℕ
  pub parts : old.rest ≡ read ++ new.rest
  pub place : new.place ≡ old.place + length read
  pub hashed : (m : List ℕ) → Holds256 old.hasher m → Holds256 new.hasher (m ++ read)
