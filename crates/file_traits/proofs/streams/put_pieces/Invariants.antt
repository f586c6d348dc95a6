use Rattle.std.proofs.Common.{◌≡◌, ℕ, List, IsTrue, drop, Result}
use Rattle.file_traits.specs.declared.streams.Failed.{Failed}
use Rattle.file_traits.specs.Streams.{Puts, joined}
use Rattle.file_traits.proofs.streams.put_pieces.Given as goal

-- what the pieces that are left come to, the whole comes to
abbrev pub invariant-loop-piece : goal.invariant-loop-piece
invariant-loop-piece g l = record {
  told : IsTrue g.S.Sink.tells → (r : Result (Unit {0}) Failed) (after : List ℕ) → Puts (g.S.Sink.written l.sink) (joined (drop l.piece-index l.pieces)) r after
      → Puts (g.S.Sink.written l.fn.sink) (joined l.pieces) r after;
  quiet : g.S.Sink.fault_count l.sink ≡ g.S.Sink.fault_count l.fn.sink;
}
