use Rattle.std.proofs.Common.{◌≡◌, ◌+◌, ◌-◌, ◌*◌, ◌≤◌, length, true, IsTrue}
use Rattle.session_texts.proofs.ReadingLemmas.{SoFar, spent}
use Rattle.session_texts.proofs.line_reader.LineReader.read_open_line.Given as goal

abbrev pub invariant-loop-next : goal.invariant-loop-next
invariant-loop-next g l = record {
  paid : l.budget + spent l.count ≡ l.fn.budget;
  on : l.self.open_ ≡ true;
  kept : length l.self.line ≤ l.count;
  told : IsTrue g.C.Source.tells → SoFar (g.C.Source.left l.fn.input) (g.C.Source.left l.input) l.self.line l.count;
  quiet : g.C.Source.fault_count l.input ≡ g.C.Source.fault_count l.fn.input;
}

abbrev pub decreases-loop-next : goal.decreases-loop-next
decreases-loop-next g l = 512 * (l.fn.budget + 1) + 1 - l.count
