-- The law of valid states.
use Rattle.std.proofs.Common.{List, map}
use Rattle.unit_trait.specs.declared.kind.Kind.{Kind}
use Rattle.unit_trait.specs.Row.{initial_unit}
use Rattle.unit_list.proofs.Resets.{begun-fits}
use Rattle.nova_machine.specs.Machine.{new_machine}
use Rattle.nova_machine.specs.Valid.{ValidMachine}
use Rattle.machine_laws.specs.ValidLaws.{RunsStayValid}
use Rattle.machine_laws.proofs.ValidRuns.{turn-valid, run-valid, left-valid, new-valid, empty-valid}
use Rattle.machine_laws.proofs.ValidLines.{new-lines, settled-valid, record-ahead}
use Rattle.machine_laws.proofs.InTime.{run-in-time}
use Rattle.machine_laws.proofs.Copies.{turn-copies, run-copies}
use Rattle.machine_laws.proofs.Shapes.{turn-shape, run-shape}

pub runs-stay-valid : RunsStayValid
runs-stay-valid = record {
  begin = new-valid;
  nothing_watched = empty-valid;
  new_lines = new-lines;
  settled_line = settled-valid;
  record_ahead = record-ahead;
  turn_valid = turn-valid;
  run_valid = run-valid;
  left_valid = left-valid;
  run_time = run-in-time;
  turn_copy = turn-copies;
  run_copy = run-copies;
  turn_shape = turn-shape;
  run_shape = run-shape;
}

-- a new machine with a unit of each of these kinds, before anything was asked of it
pub kinds-begin : (kinds : List Kind) → ValidMachine (new_machine (map initial_unit kinds))
kinds-begin kinds = new-valid (map initial_unit kinds) (begun-fits kinds)
