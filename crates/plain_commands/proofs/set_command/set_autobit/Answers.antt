use Rattle.plain_commands.proofs.SizeLemmas.{rule-does}
use Rattle.plain_commands.proofs.set_command.set_autobit.Goals as goal

pub returns-clause-told : goal.returns-clause-told
returns-clause-told g c =
    rw (← c.session.view_is) (λ files tells text.
    rule-does c.session.inside.watch c.session.inside.keys files c.session.inside.machine c.choose_rule.new.machine c.args.before tells text c.choose_rule.ensures)
