use Rattle.std.proofs.Common.{List, ℕ, subst}
use Rattle.file_traits.specs.Streams.{Puts}
use Rattle.plain_commands.proofs.ShowLemmas.{read_only-line}
use Rattle.plain_commands.proofs.show_command.put_attachment.Goals as goal

pub returns-then-read_only-clause-told : goal.returns-then-read_only-clause-told
returns-then-read_only-clause-told g c =
    rw (c.if-read_only.true) (λ told.
    subst (λ (text : List ℕ). Puts (g.S.Sink.written c.args.out.now) text c.put_pieces.result (g.S.Sink.written c.put_pieces.new.sink)) (read_only-line c.args.name.now c.args.file.now)
    (c.put_pieces.ensures.told told))
