use Rattle.std.proofs.Common.{◌≡◌, ◌≤◌, ◌-◌, ℕ, List, IsTrue, length, drop, Result}
use Rattle.file_traits.specs.declared.streams.Failed.{Failed}
use Rattle.file_traits.specs.Streams.{Puts}
use Rattle.script_text.specs.Filling.{filled}
use Rattle.session_texts.proofs.open_script.put_filled.Given as goal

-- what the rest of the line comes to, the whole comes to
abbrev pub invariant-loop-place : goal.invariant-loop-place
invariant-loop-place g l = record {
  within : l.place ≤ length l.line;
  told : IsTrue g.S.Sink.tells → (r : Result (Unit {0}) Failed) (after : List ℕ) → Puts (g.S.Sink.written l.out) (filled l.arguments (drop l.place l.line)) r after
      → Puts (g.S.Sink.written l.fn.out) (filled l.arguments l.line) r after;
  quiet : g.S.Sink.fault_count l.out ≡ g.S.Sink.fault_count l.fn.out;
}

abbrev pub decreases-loop-place : goal.decreases-loop-place
decreases-loop-place g l = length l.line - l.place
