-- The calls on an object in memory are numbered from 0, and some of them are named beforehand to fail.
use Rattle.std.specs.Prelude.{ℕ, ◌==◌, ◌||◌, Bool, List, [], ◌∷◌, ◌++◌, nat_lt, if◌then◌else◌}
use Rattle.std.specs.List.{list_any}
use Rattle.fault_counts.specs.Faults.{raised}

-- how many calls were made, the numbers of those that are to fail, and how often a call has failed
pub record CallState : Type 0 where
  pub made : ℕ
  pub failing : List ℕ
  pub faults : ℕ

-- nothing was called and nothing named
abbrev pub no_calls : CallState
no_calls = record { made = 0; failing = []; faults = 0 }

-- this number was named
abbrev pub is_named : CallState → ℕ → Bool
is_named calls number = list_any (λ n. n == number) calls.failing

-- the next call is one of those that are to fail
abbrev pub next_fails : CallState → Bool
next_fails calls = is_named calls calls.made

-- once one more number was named: one that was named before, or whose call has passed, changes nothing
abbrev pub with_named : CallState → ℕ → CallState
with_named calls number =
    if nat_lt number calls.made || is_named calls number then calls else record calls { failing = calls.failing ++ number ∷ [] }

-- after a call that didn't fail. The number of calls stands still at its type's end, as the count of faults does.
abbrev pub after_success : CallState → CallState
after_success calls = record calls { made = raised calls.made }

-- after a call that failed
abbrev pub after_fault : CallState → CallState
after_fault calls = record calls { made = raised calls.made; faults = raised calls.faults }
