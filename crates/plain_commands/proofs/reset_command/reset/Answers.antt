use Rattle.command_session.proofs.ResetKeeps.{reset-does}
use Rattle.plain_commands.proofs.reset_command.reset.Goals as goal

pub returns-clause-told : goal.returns-clause-told
returns-clause-told g c =
    rw (← c.session.view_is) (λ files tells text. reset-does c.session.inside.watch c.session.inside.keys files c.session.inside.machine c.reset.new.self tells text c.reset.ensures.machine)
