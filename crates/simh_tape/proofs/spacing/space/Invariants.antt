use Rattle.std.proofs.Common.{◌-◌, ◌≡◌, ◌≤◌, IsTrue}
use Rattle.file_traits.specs.OneList.{longest_list, shown}
use Rattle.simh_tape.specs.Spacing.{space_from}
use Rattle.simh_tape.proofs.SpaceLemmas.{MadeAtFirst}
use Rattle.simh_tape.proofs.spacing.space.Given as goal

abbrev pub invariant-loop-passed : goal.invariant-loop-passed
invariant-loop-passed g l = record {
  within : l.at ≤ longest_list;
  few : l.passed ≤ l.count;
  spaced : IsTrue g.B.Bytes.tells → space_from (l.count - l.passed) l.forward (shown (g.B.Bytes.content l.fn.tape)) l.at l.passed
      ≡ space_from l.count l.forward (shown (g.B.Bytes.content l.fn.tape)) l.fn.place 0;
  made : IsTrue g.B.Bytes.tells → MadeAtFirst l.forward (shown (g.B.Bytes.content l.fn.tape)) l.fn.place l.at;
  same : g.B.Bytes.content l.tape ≡ g.B.Bytes.content l.fn.tape;
  writable : g.B.Bytes.writable l.tape ≡ g.B.Bytes.writable l.fn.tape;
  behind : g.B.Bytes.behind l.tape ≡ g.B.Bytes.behind l.fn.tape;
  quiet : g.B.Bytes.fault_count l.tape ≡ g.B.Bytes.fault_count l.fn.tape;
}

abbrev pub decreases-loop-passed : goal.decreases-loop-passed
decreases-loop-passed g l = l.count - l.passed
