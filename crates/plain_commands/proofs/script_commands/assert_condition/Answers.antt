use Rattle.std.proofs.Common.{sym, subst}
use Rattle.command_session.specs.Reply.{Answer}
use Rattle.command_session.specs.Doing.{IsPlain}
use Rattle.plain_commands.proofs.ScriptLemmas.{assert-does, assert-own}
use Rattle.plain_commands.proofs.script_commands.assert_condition.Goals as goal

pub returns-clause-told : goal.returns-clause-told
returns-clause-told g c =
    rw (← c.session.view_is) (λ files tells text.
    assert-does c.session.inside.machine c.session.inside.watch c.session.inside.keys files c.args.what.now c.tested_answer.result tells text c.tested_answer.ensures)

pub returns-clause-own : goal.returns-clause-own
returns-clause-own g c = subst (λ (a : Answer). IsPlain a) (sym c.tested_answer.ensures) (assert-own c.session.inside.machine c.args.what.now)
