-- A list of bytes in memory: its bytes, how many it has room for, and which calls on it are to fail.
use Rattle.std.specs.Prelude.{ℕ, List, [], None}
use Rattle.host_files.specs.MemFiles.{FailingState}
use Rattle.file_traits.specs.OneList.{Behind}

pub record ListState : Type 0 where
  pub bytes : List ℕ
  pub room : ℕ
  pub calls : FailingState
  pub faults : ℕ

-- what stands behind bytes in memory: nothing
abbrev pub nothing_behind : Behind
nothing_behind = record { lender = None; file = 0; state = record { files = []; opened = []; given = 0; faults = λ other. 0; open_faults = 0 } }
