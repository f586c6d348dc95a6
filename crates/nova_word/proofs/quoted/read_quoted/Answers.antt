use Rattle.std.proofs.Common.{◌≡◌, List, ℕ, Bool, true, false, Option, is_some, ap, ◌∙◌}
use Rattle.nova_word.proofs.QuotedReadLemmas.{quoted_found}
use Rattle.nova_word.proofs.quoted.read_quoted.Goals as goal

not-both : (b : Bool) → b ≡ true → b ≡ false → ⊥
not-both b is not = absurd (cc)

pub returns-else-begins_quoted-clause-quoted : goal.returns-else-begins_quoted-clause-quoted
returns-else-begins_quoted-clause-quoted c = λ text rest begins.
    let found = quoted_found c.args.text.now text rest begins in
    not-both c.begins_quoted.result (c.begins_quoted.ensures ∙ ap (λ (o : Option (List ℕ × List ℕ)). is_some o) found) c.if-begins_quoted.false
