use Rattle.std.proofs.Common.{sym, subst}
use Rattle.command_session.specs.Live.{live_in, standing}
use Rattle.command_session.specs.Reply.{Answer}
use Rattle.command_session.specs.Doing.{IsPlain}
use Rattle.plain_commands.specs.ListEffects.{deposit_reply}
use Rattle.command_session.proofs.ReplyLemmas.{silent-does}
use Rattle.plain_commands.proofs.OwnLemmas.{deposit-own, no_outside}
use Rattle.plain_commands.proofs.list_commands.deposit_list.Goals as goal

pub returns-clause-told : goal.returns-clause-told
returns-clause-told g c = λ files tells text.
    silent-does (deposit_reply (live_in c.args.session.now files) c.args.listing.now c.args.value) c.fill_list.result (standing 0 (live_in c.fill_list.new.session files)) tells text
    (deposit-own (live_in c.args.session.now files) c.args.listing.now c.args.value) (c.fill_list.ensures.answer files) (c.fill_list.ensures.after files) (c.fill_list.ensures.silent files)

pub returns-clause-own : goal.returns-clause-own
returns-clause-own g c =
    subst (λ (a : Answer). IsPlain a) (sym (c.fill_list.ensures.answer no_outside)) (deposit-own (live_in c.args.session.now no_outside) c.args.listing.now c.args.value)
