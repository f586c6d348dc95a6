-- What a run watches besides the machine: the addresses at which it stops, the texts at which it stops, and the bytes
-- that wait for the keyboard.
use Rattle.std.specs.Prelude.{List, []}
use Rattle.expect_actions.specs.Breaks.{BreakTable}
use Rattle.expect_actions.specs.Expects.{ExpectTable}
use Rattle.expect_actions.specs.Sends.{Send}

pub record WatchState : Type 0 where
  pub breaks : BreakTable
  pub expects : ExpectTable
  pub sends : List Send

-- all tables are empty
abbrev pub empty_watch : WatchState
empty_watch = record {
  breaks = record { list = []; actions = [] };
  expects = record { list = []; tail = []; actions = [] };
  sends = [];
}

-- the tables without the actions of the stop that came last
abbrev pub forgotten : WatchState → WatchState
forgotten w = record w { breaks = record w.breaks { actions = [] }; expects = record w.expects { actions = [] } }
