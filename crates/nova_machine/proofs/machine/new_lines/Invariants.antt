use Rattle.std.proofs.Common.{◌≡◌, ◌≤◌, ◌-◌, length, replicate, None}
use Rattle.telnet_lines.specs.Line.{unconnected}
use Rattle.nova_machine.proofs.machine.new_lines.Given as goal

abbrev pub invariant-loop-alloc : goal.invariant-loop-alloc
invariant-loop-alloc l = record {
  few : length l.lines.items ≤ l.count;
  are : l.lines.items ≡ replicate (length l.lines.items) (unconnected None);
}

abbrev pub decreases-loop-alloc : goal.decreases-loop-alloc
decreases-loop-alloc l = l.count - length l.lines.items
