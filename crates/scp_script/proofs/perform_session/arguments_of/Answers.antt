use Rattle.std.proofs.Common.{[], ◌∷◌, ◌++◌, ap, ◌∙◌}
use Rattle.std.specs.Prelude.{string_bytes}
use Rattle.scp_script.proofs.WordLemmas.{word-kept, word-left}
use Rattle.scp_script.proofs.perform_session.arguments_of.Goals as goal
use Rattle.scp_script.proofs.perform_session.arguments_of.Goals.{then-not-is_full+in_ok-push, else-not-is_full}

pub loop-word-preserved : goal.loop-word-preserved
loop-word-preserved c =
    elim c.if-not-is_full.branch [
      | then-not-is_full+in_ok-push w ↦ word-kept _ (λ word. string_bytes word) c.args.words.now c.loop-word.word-index c.word-item.result c.loop-word.arguments c.if-not-is_full.arguments
          c.loop-word-test.true c.word-item.is c.loop-word.invariant (λ h. absurd (cc (c.is_full.ensures.1 h, w.if-not-is_full.true))) (w.arguments-is ∙ w.in_ok-push.ensures.ok ∙ ap (λ t. c.loop-word.arguments ++ t ∷ []) w.as_bytes.ensures.value)
      | else-not-is_full w ↦ word-left _ (λ word. string_bytes word) c.args.words.now c.loop-word.word-index c.word-item.result c.loop-word.arguments c.if-not-is_full.arguments
          c.loop-word-test.true c.word-item.is c.loop-word.invariant (c.is_full.ensures.0 w.if-not-is_full.false) w.arguments-is
    ]
