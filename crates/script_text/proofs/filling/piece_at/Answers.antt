use Rattle.std.proofs.Common.{◌∙◌, sym}
use Rattle.script_text.proofs.FillingLemmas.{named_first, plain_first}
use Rattle.script_text.proofs.filling.piece_at.Goals as goal

pub returns-then-begins_named-clause-piece : goal.returns-then-begins_named-clause-piece
returns-then-begins_named-clause-piece c =
    let first = named_first c.args.arguments.now c.args.text.now
    (sym c.begins_named.ensures ∙ c.if-begins_named.true) in
    cc (first, c.named_text.ensures)

pub returns-else-begins_named-clause-piece : goal.returns-else-begins_named-clause-piece
returns-else-begins_named-clause-piece c =
    plain_first c.args.arguments.now c.args.text.now c.requires (sym c.begins_named.ensures ∙ c.if-begins_named.false)
