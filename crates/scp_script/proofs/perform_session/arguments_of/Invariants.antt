use Rattle.std.proofs.Common.{◌≡◌, take, map}
use Rattle.std.specs.Prelude.{string_bytes}
use Rattle.scp_script.proofs.perform_session.arguments_of.Given as goal

abbrev pub invariant-loop-word : goal.invariant-loop-word
invariant-loop-word l = l.arguments ≡ take 10 (map (λ word. string_bytes word) (take l.word-index l.words))
