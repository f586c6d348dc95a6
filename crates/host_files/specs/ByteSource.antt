-- A source of bytes in memory: what it has left, and what a read takes of that.
use Rattle.std.specs.Prelude.{◌≡◌, ℕ, true, false, List, ◌++◌, length, take, drop, min, Result, MatchResult}
use Rattle.host_files.specs.Calls.{CallState, next_fails, after_success, after_fault}

pub record SourceState : Type 0 where
  pub left : List ℕ
  pub calls : CallState

-- a read that gives n bytes: as many of those left as fit the buffer
pub record ReadGives (old : SourceState) (buffer : List ℕ) (n : ℕ) (filled : List ℕ) (new : SourceState) : Type 0 where
  pub unnamed : next_fails old.calls ≡ false
  pub count : n ≡ min (length buffer) (length old.left)
  pub bytes : filled ≡ take n old.left ++ drop n buffer
  pub after : new ≡ record { left = drop n old.left; calls = after_success old.calls }

-- a read that fails: it takes nothing
pub record ReadFails (old : SourceState) (buffer : List ℕ) (filled : List ℕ) (new : SourceState) : Type 0 where
  pub named : next_fails old.calls ≡ true
  pub bytes : filled ≡ buffer
  pub after : new ≡ record old { calls = after_fault old.calls }

-- what a read does: it fails exactly where its number was named
abbrev pub SourceReads : {E : Type 0} → SourceState → List ℕ → Result ℕ E → List ℕ → SourceState → Type 0
SourceReads old buffer result filled new =
    MatchResult result (λ n. ReadGives old buffer n filled new) (λ _. ReadFails old buffer filled new)
