-- A sink of bytes in memory: what was written to it, how much room it has left, and what a write takes of a piece.
use Rattle.std.specs.Prelude.{◌≡◌, ℕ, ◌-◌, Bool, true, false, ◌||◌, ◌&&◌, List, ◌++◌, length, take, min, nat_lt, ◌==◌, Result, MatchResult}
use Rattle.host_files.specs.Calls.{CallState, next_fails, after_success, after_fault}

pub record SinkState : Type 0 where
  pub written : List ℕ
  pub room_left : ℕ
  pub calls : CallState

-- a write fails where its number was named, and where no room is left for any byte of a piece that is not empty
abbrev pub write_fails : SinkState → List ℕ → Bool
write_fails sink piece = next_fails sink.calls || (sink.room_left == 0 && nat_lt 0 (length piece))

-- a write that takes n bytes: the first ones of the piece, as many as there is room for
pub record WriteFits (old : SinkState) (piece : List ℕ) (n : ℕ) (new : SinkState) : Type 0 where
  pub unfailing : write_fails old piece ≡ false
  pub count : n ≡ min (length piece) old.room_left
  pub after : new ≡ record { written = old.written ++ take n piece; room_left = old.room_left - n; calls = after_success old.calls }

-- a write that fails: it takes nothing
pub record WriteFails (old : SinkState) (piece : List ℕ) (new : SinkState) : Type 0 where
  pub failing : write_fails old piece ≡ true
  pub after : new ≡ record old { calls = after_fault old.calls }

-- what a write does
abbrev pub SinkWrites : {E : Type 0} → SinkState → List ℕ → Result ℕ E → SinkState → Type 0
SinkWrites old piece result new = MatchResult result (λ n. WriteFits old piece n new) (λ _. WriteFails old piece new)
