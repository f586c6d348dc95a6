use Rattle.std.proofs.Common.{◌≡◌, ◌-◌, ◌≤◌, ◌++◌, length, drop}
use Rattle.script_text.specs.Filling.{filled}
use Rattle.script_text.proofs.filling.filled.Given as goal

abbrev pub invariant-loop-place : goal.invariant-loop-place
invariant-loop-place l = record {
  within : l.place ≤ length l.line;
  short : length l.text ≤ 512;
  whole : l.text ++ filled l.arguments (drop l.place l.line) ≡ filled l.arguments l.line;
}

abbrev pub decreases-loop-place : goal.decreases-loop-place
decreases-loop-place l = length l.line - l.place
