use Rattle.std.proofs.Common.{List, ℕ, ◌∷◌, ◌++◌, get_or, ap, sym, ◌∙◌, arith}
use Rattle.plain_commands.specs.QuotedText.{quoted_byte}
use Rattle.plain_commands.proofs.QuotedLemmas.{quoted-more}
use Rattle.plain_commands.proofs.quoted_text.quoted_text.Goals as goal

pub loop-b-preserved : goal.loop-b-preserved
loop-b-preserved c =
    let text = c.args.text.now in
    record {
      text = c.push_quoted.ensures.text ∙ ap (λ (t : List ℕ). t ++ quoted_byte (get_or text c.loop-b.b-index 0)) c.loop-b.invariant.text
          ∙ ap (λ (t : List ℕ). 34 ∷ t) (sym (quoted-more text c.loop-b.b-index 0 c.loop-b-test.true));
      most = omega arith;
    }
