-- What contracts see of an adapter: the bytes of the stream beneath it, where that stream names them, and the count of
-- its own faults.
use Rattle.std.specs.Prelude.{ℕ, List, Option}

-- a source over a reader: `left` is what was read ahead and then what the reader has
pub record InputState : Type 0 where
  pub left : Option (List ℕ)
  pub faults : ℕ

-- a sink over a writer: `written` is what the writer holds
pub record OutputState : Type 0 where
  pub written : Option (List ℕ)
  pub faults : ℕ
