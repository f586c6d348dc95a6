use Rattle.std.proofs.Common.{◌≡◌, ◌≤◌, ◌++◌, IsTrue, length, take, drop}
use Rattle.file_traits.specs.Streams.{joined}
use Rattle.simh_tape.proofs.writing.write_pieces.Given as goal

abbrev pub invariant-loop-piece : goal.invariant-loop-piece
invariant-loop-piece g l = record {
  left : joined (drop l.piece-index l.pieces) ≡ drop l.done (joined l.pieces);
  within : l.done ≤ length (joined l.pieces);
  written : IsTrue g.B.Bytes.tells → g.B.Bytes.content l.tape ≡ g.B.Bytes.content l.fn.tape ++ take l.done (joined l.pieces);
  writable : g.B.Bytes.writable l.tape ≡ g.B.Bytes.writable l.fn.tape;
  behind : g.B.Bytes.behind l.tape ≡ g.B.Bytes.behind l.fn.tape;
  quiet : g.B.Bytes.fault_count l.tape ≡ g.B.Bytes.fault_count l.fn.tape;
}
