use Rattle.std.proofs.Common.{length, ◌-◌, ◌≡◌, ◌≤◌, IsTrue, take, drop}
use Rattle.file_traits.specs.OneList.{longest_list, shown}
use Rattle.simh_tape.proofs.words.read_all.Given as goal

abbrev pub invariant-loop-have : goal.invariant-loop-have
invariant-loop-have g l = record {
  within : l.have ≤ length l.buf;
  end : l.have ≤ longest_list - l.place;
  room : IsTrue g.B.Bytes.tells → l.have ≤ length (shown (g.B.Bytes.content l.fn.source)) - l.place;
  read : IsTrue g.B.Bytes.tells → take l.have l.buf ≡ take l.have (drop l.place (shown (g.B.Bytes.content l.fn.source)));
  same : g.B.Bytes.content l.source ≡ g.B.Bytes.content l.fn.source;
  writable : g.B.Bytes.writable l.source ≡ g.B.Bytes.writable l.fn.source;
  behind : g.B.Bytes.behind l.source ≡ g.B.Bytes.behind l.fn.source;
  quiet : g.B.Bytes.fault_count l.source ≡ g.B.Bytes.fault_count l.fn.source;
}

abbrev pub decreases-loop-have : goal.decreases-loop-have
decreases-loop-have g l = length l.buf - l.have
