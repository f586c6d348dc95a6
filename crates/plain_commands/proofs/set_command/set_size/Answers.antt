use Rattle.std.proofs.Common.{◌∙◌, sym}
use Rattle.command_session.specs.Live.{live_in}
use Rattle.plain_commands.proofs.SizeLemmas.{size-does, size-refused}
use Rattle.plain_commands.proofs.set_command.set_size.Goals as goal

pub returns-then-not-is_size-clause-told : goal.returns-then-not-is_size-clause-told
returns-then-not-is_size-clause-told g c = λ files tells text.
    size-refused (live_in c.args.session.now files) c.args.k tells text (sym c.is_size.ensures.test ∙ c.if-not-is_size.true)

pub returns-clause-told : goal.returns-clause-told
returns-clause-told g c =
    rw (← c.session.view_is) (λ files tells text.
    size-does c.session.inside.watch c.session.inside.keys files c.session.inside.machine c.resize.new.machine c.args.k tells text (sym c.is_size.ensures.test ∙ c.if-not-is_size.false) c.resize.ensures)
