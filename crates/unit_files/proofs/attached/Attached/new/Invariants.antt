use Rattle.std.proofs.Common.{◌≡◌, replicate, None}
use Rattle.unit_files.proofs.attached.Attached.new.Given as goal

abbrev pub invariant-loop-place : goal.invariant-loop-place
invariant-loop-place l = l.slots.items ≡ replicate l._place None
