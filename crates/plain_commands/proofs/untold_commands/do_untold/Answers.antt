use Rattle.std.proofs.Common.{refl, ap, sym, true, ◌∙◌, subst, Ok, ◌≡◌}
use Rattle.unit_list.specs.Bus.{kinds_of}
use Rattle.scp_parser.specs.Command.{Request, Examine, Deposit, request_of, Nothing, Reset, SetSize, SetAutobit, Show, Assert, Echo, given_text, Break, NoBreak, Expect, NoExpect, Send, NoSend}
use Rattle.nova_machine.specs.Comes.{output}
use Rattle.nova_machine.specs.Machine.{attached_files, reset_machine}
use Rattle.command_session.specs.declared.next.Next.TheVariants.{Go}
use Rattle.command_session.specs.declared.next.Next.TheVariants as next
use Rattle.command_session.specs.Live.{CommandState, live_in, standing}
use Rattle.command_session.specs.Nature.{nature}
use Rattle.command_session.specs.Refusals.{IsUnrefused}
use Rattle.command_session.proofs.ResetKeeps.{reset-lines}
use Rattle.command_session.proofs.KindLemmas.{where-kinds}
use Rattle.plain_commands.proofs.UntoldLemmas.{does-by, goes-does, goto-does, reset-attached, break-given, expect-given, send-given, machine-rest, watch-rest}
use Rattle.plain_commands.proofs.untold_commands.do_untold.Goals as goal

pub returns-in-Examine-clause-told : goal.returns-in-Examine-clause-told
returns-in-Examine-clause-told g c = λ files heard.
    let s = c.args.session.now in
    let what = c.in-Examine in
    let text = output (g.S.Sink.written c.args.out.now) heard in
    does-by (live_in s files) c.args.command.now (Examine what.listing) c.examine_list.result (standing 0 (live_in s files)) g.S.Sink.tells text (output (g.S.Sink.written c.examine_list.new.out) heard)
    (sym c.command.view_is ∙ ap (request_of _) c.in-Examine.is) (c.examine_list.ensures.told files heard)

pub returns-in-Show-clause-told : goal.returns-in-Show-clause-told
returns-in-Show-clause-told g c = λ files heard.
    let s = c.args.session.now in
    let what = c.in-Show in
    let text = output (g.S.Sink.written c.args.out.now) heard in
    does-by (live_in s files) c.args.command.now (Show what.subject) c.show.result (standing 0 (live_in s files)) g.S.Sink.tells text (output (g.S.Sink.written c.show.new.out) heard)
    (sym c.command.view_is ∙ ap (request_of _) c.in-Show.is) (c.show.ensures.told files heard)

pub returns-in-Deposit-clause-told : goal.returns-in-Deposit-clause-told
returns-in-Deposit-clause-told g c = λ files heard.
    let s = c.args.session.now in
    let what = c.in-Deposit in
    let text = output (g.S.Sink.written c.args.out.now) heard in
    does-by (live_in s files) c.args.command.now (Deposit what.listing what.value) c.deposit_list.result (standing 0 (live_in c.deposit_list.new.session files)) g.S.Sink.tells text text
    (sym c.command.view_is ∙ ap (request_of _) c.in-Deposit.is) (c.deposit_list.ensures.told files g.S.Sink.tells text)

pub returns-in-Reset-clause-told : goal.returns-in-Reset-clause-told
returns-in-Reset-clause-told g c = λ files heard.
    let s = c.args.session.now in
    let text = output (g.S.Sink.written c.args.out.now) heard in
    does-by (live_in s files) c.args.command.now (Reset) c.reset.result (standing 0 (live_in c.reset.new.session files)) g.S.Sink.tells text text
    (sym c.command.view_is ∙ ap (request_of _) c.in-Reset.is) (c.reset.ensures.told files g.S.Sink.tells text)

pub returns-in-NoBreak-clause-told : goal.returns-in-NoBreak-clause-told
returns-in-NoBreak-clause-told g c = λ files heard.
    let s = c.args.session.now in
    let what = c.in-NoBreak in
    let text = output (g.S.Sink.written c.args.out.now) heard in
    does-by (live_in s files) c.args.command.now (NoBreak what.at) c.remove_breaks.result (standing 0 (live_in c.remove_breaks.new.session files)) g.S.Sink.tells text text
    (sym c.command.view_is ∙ ap (request_of _) c.in-NoBreak.is) (c.remove_breaks.ensures.told files g.S.Sink.tells text)

pub returns-in-NoExpect-clause-told : goal.returns-in-NoExpect-clause-told
returns-in-NoExpect-clause-told g c = λ files heard.
    let s = c.args.session.now in
    let text = output (g.S.Sink.written c.args.out.now) heard in
    does-by (live_in s files) c.args.command.now (NoExpect) c.remove_expects.result (standing 0 (live_in c.remove_expects.new.session files)) g.S.Sink.tells text text
    (sym c.command.view_is ∙ ap (request_of _) c.in-NoExpect.is) (c.remove_expects.ensures.told files g.S.Sink.tells text)

pub returns-in-NoSend-clause-told : goal.returns-in-NoSend-clause-told
returns-in-NoSend-clause-told g c = λ files heard.
    let s = c.args.session.now in
    let text = output (g.S.Sink.written c.args.out.now) heard in
    does-by (live_in s files) c.args.command.now (NoSend) c.remove_sends.result (standing 0 (live_in c.remove_sends.new.session files)) g.S.Sink.tells text text
    (sym c.command.view_is ∙ ap (request_of _) c.in-NoSend.is) (c.remove_sends.ensures.told files g.S.Sink.tells text)

pub returns-in-SetSize-clause-told : goal.returns-in-SetSize-clause-told
returns-in-SetSize-clause-told g c = λ files heard.
    let s = c.args.session.now in
    let what = c.in-SetSize in
    let text = output (g.S.Sink.written c.args.out.now) heard in
    does-by (live_in s files) c.args.command.now (SetSize what.k) c.set_size.result (standing 0 (live_in c.set_size.new.session files)) g.S.Sink.tells text text
    (sym c.command.view_is ∙ ap (request_of _) c.in-SetSize.is) (c.set_size.ensures.told files g.S.Sink.tells text)

pub returns-in-SetAutobit-clause-told : goal.returns-in-SetAutobit-clause-told
returns-in-SetAutobit-clause-told g c = λ files heard.
    let s = c.args.session.now in
    let what = c.in-SetAutobit in
    let text = output (g.S.Sink.written c.args.out.now) heard in
    does-by (live_in s files) c.args.command.now (SetAutobit what.before) c.set_autobit.result (standing 0 (live_in c.set_autobit.new.session files)) g.S.Sink.tells text text
    (sym c.command.view_is ∙ ap (request_of _) c.in-SetAutobit.is) (c.set_autobit.ensures.told files g.S.Sink.tells text)

pub returns-in-Break-clause-told : goal.returns-in-Break-clause-told
returns-in-Break-clause-told g c = λ files heard.
    let s = c.args.session.now in
    let what = c.in-Break in
    let actions = c.text.result.now in
    let text = output (g.S.Sink.written c.args.out.now) heard in
    does-by (live_in s files) c.args.command.now (Break what.at what.count actions) c.add_break.result (standing 0 (live_in c.add_break.new.session files)) g.S.Sink.tells text text
    (break-given _ c.command.inside.verb what.at what.count _ c.args.command.now actions (sym c.command.view_is) what.is c.text.ensures.text) (c.add_break.ensures.told files g.S.Sink.tells text)

pub returns-in-Expect-clause-told : goal.returns-in-Expect-clause-told
returns-in-Expect-clause-told g c = λ files heard.
    let s = c.args.session.now in
    let what = c.in-Expect in
    let quoted = c.quoted.result.now in
    let actions = c.text-in-Expect.result.now in
    let text = output (g.S.Sink.written c.args.out.now) heard in
    does-by (live_in s files) c.args.command.now (Expect what.count quoted actions) c.add_expect.result (standing 0 (live_in c.add_expect.new.session files)) g.S.Sink.tells text text
    (expect-given _ c.command.inside.verb what.count _ _ c.args.command.now quoted actions (sym c.command.view_is) what.is c.quoted.ensures.text c.text-in-Expect.ensures.text) (c.add_expect.ensures.told files g.S.Sink.tells text)

pub returns-in-Send-clause-told : goal.returns-in-Send-clause-told
returns-in-Send-clause-told g c = λ files heard.
    let s = c.args.session.now in
    let what = c.in-Send in
    let quoted = c.quoted-in-Send.result.now in
    let text = output (g.S.Sink.written c.args.out.now) heard in
    does-by (live_in s files) c.args.command.now (Send what.after what.delay quoted) c.send.result (standing 0 (live_in c.send.new.session files)) g.S.Sink.tells text text
    (send-given _ c.command.inside.verb what.after what.delay _ c.args.command.now quoted (sym c.command.view_is) what.is c.quoted-in-Send.ensures.text) (c.send.ensures.told files g.S.Sink.tells text)

pub returns-in-Assert-clause-told : goal.returns-in-Assert-clause-told
returns-in-Assert-clause-told g c = λ files heard.
    let s = c.args.session.now in
    let what = c.in-Assert in
    let text = output (g.S.Sink.written c.args.out.now) heard in
    does-by (live_in s files) c.args.command.now (Assert what.what) c.assert_condition.result (standing 0 (live_in s files)) g.S.Sink.tells text text
    (sym c.command.view_is ∙ ap (request_of _) c.in-Assert.is) (c.assert_condition.ensures.told files g.S.Sink.tells text)

pub returns-in-Nothing-clause-told : goal.returns-in-Nothing-clause-told
returns-in-Nothing-clause-told g c = λ files heard.
    let s = c.args.session.now in
    let text = output (g.S.Sink.written c.args.out.now) heard in
    does-by (live_in s files) c.args.command.now (Nothing) (Ok Go) (standing 0 (live_in s files)) g.S.Sink.tells text text
    (sym c.command.view_is ∙ ap (request_of _) c.in-Nothing.is) (goes-does (live_in s files) g.S.Sink.tells text)

pub returns-in-Goto-clause-told : goal.returns-in-Goto-clause-told
returns-in-Goto-clause-told g c = λ files heard.
    let s = c.args.session.now in
    let text = output (g.S.Sink.written c.args.out.now) heard in
    does-by (live_in s files) c.args.command.now (_) (Ok next.Goto) (standing 0 (live_in s files)) g.S.Sink.tells text text
    (sym c.command.view_is ∙ ap (request_of _) c.in-Goto.is) (goto-does (live_in s files) g.S.Sink.tells text)

pub returns-in-Echo-clause-told : goal.returns-in-Echo-clause-told
returns-in-Echo-clause-told g c = λ files heard.
    let s = c.args.session.now in
    let line = c.text-in-Echo.result.now in
    let read = sym c.command.view_is ∙ ap (request_of _) c.in-Echo.is in
    let is : c.args.command.now ≡ Echo line = read ∙ ap Echo (sym (c.text-in-Echo.ensures.text ∙ ap given_text read)) in
    does-by (live_in s files) c.args.command.now (Echo line) c.echo.result (standing 0 (live_in s files)) g.S.Sink.tells (output (g.S.Sink.written c.args.out.now) heard) (output (g.S.Sink.written c.echo.new.out) heard)
    is (c.echo.ensures.told (live_in s files) heard)

pub returns-in-Deposit-clause-rest : goal.returns-in-Deposit-clause-rest
returns-in-Deposit-clause-rest g c = machine-rest c.args.session.now c.deposit_list.new.session c.deposit_list.new.session.machine c.deposit_list.ensures.rest

pub returns-in-SetSize-clause-rest : goal.returns-in-SetSize-clause-rest
returns-in-SetSize-clause-rest g c = machine-rest c.args.session.now c.set_size.new.session c.set_size.new.session.machine c.set_size.ensures.rest

pub returns-in-SetAutobit-clause-rest : goal.returns-in-SetAutobit-clause-rest
returns-in-SetAutobit-clause-rest g c = machine-rest c.args.session.now c.set_autobit.new.session c.set_autobit.new.session.machine c.set_autobit.ensures.rest

pub returns-in-Reset-clause-rest : goal.returns-in-Reset-clause-rest
returns-in-Reset-clause-rest g c = machine-rest c.args.session.now c.reset.new.session (reset_machine c.args.session.now.machine) c.reset.ensures.rest

pub returns-in-Reset-clause-attached : goal.returns-in-Reset-clause-attached
returns-in-Reset-clause-attached g c = ap (λ (x : CommandState). attached_files x.machine) c.reset.ensures.rest ∙ reset-attached c.args.session.now.machine

pub returns-in-Reset-clause-terminals : goal.returns-in-Reset-clause-terminals
returns-in-Reset-clause-terminals g c = ap (λ (x : CommandState). x.machine.lines) c.reset.ensures.rest ∙ reset-lines true c.args.session.now.machine

pub returns-in-Reset-clause-kinds : goal.returns-in-Reset-clause-kinds
returns-in-Reset-clause-kinds g c = ap (λ (x : CommandState). kinds_of x.machine.units) c.reset.ensures.rest ∙ where-kinds true c.args.session.now.machine

pub returns-in-Break-clause-rest : goal.returns-in-Break-clause-rest
returns-in-Break-clause-rest g c = watch-rest c.args.session.now c.add_break.new.session c.add_break.new.session.watch c.add_break.ensures.rest

pub returns-in-NoBreak-clause-rest : goal.returns-in-NoBreak-clause-rest
returns-in-NoBreak-clause-rest g c = watch-rest c.args.session.now c.remove_breaks.new.session c.remove_breaks.new.session.watch c.remove_breaks.ensures.rest

pub returns-in-Expect-clause-rest : goal.returns-in-Expect-clause-rest
returns-in-Expect-clause-rest g c = watch-rest c.args.session.now c.add_expect.new.session c.add_expect.new.session.watch c.add_expect.ensures.rest

pub returns-in-NoExpect-clause-rest : goal.returns-in-NoExpect-clause-rest
returns-in-NoExpect-clause-rest g c = watch-rest c.args.session.now c.remove_expects.new.session c.remove_expects.new.session.watch c.remove_expects.ensures.rest

pub returns-in-Send-clause-rest : goal.returns-in-Send-clause-rest
returns-in-Send-clause-rest g c = watch-rest c.args.session.now c.send.new.session c.send.new.session.watch c.send.ensures.rest

pub returns-in-NoSend-clause-rest : goal.returns-in-NoSend-clause-rest
returns-in-NoSend-clause-rest g c = watch-rest c.args.session.now c.remove_sends.new.session c.remove_sends.new.session.watch c.remove_sends.ensures.rest

pub returns-in-Break-clause-wanted : goal.returns-in-Break-clause-wanted
returns-in-Break-clause-wanted g c = λ wants.
    let s = c.args.session.now in
    let what = c.in-Break in
    let actions = c.text.result.now in
    let is : c.args.command.now ≡ Break what.at what.count actions = break-given _ c.command.inside.verb what.at what.count _ c.args.command.now actions (sym c.command.view_is) what.is c.text.ensures.text in
    record {
      takes = ap (λ (r : Request). (nature r).takes_memory) is;
      undone = c.add_break.ensures.undone wants;
      written = refl;
      unrefused = subst (λ (r : Request). IsUnrefused r s.machine s.watch) (sym is) (c.add_break.ensures.unrefused wants);
    }

pub returns-in-Expect-clause-wanted : goal.returns-in-Expect-clause-wanted
returns-in-Expect-clause-wanted g c = λ wants.
    let s = c.args.session.now in
    let what = c.in-Expect in
    let quoted = c.quoted.result.now in
    let actions = c.text-in-Expect.result.now in
    let is : c.args.command.now ≡ Expect what.count quoted actions = expect-given _ c.command.inside.verb what.count _ _ c.args.command.now quoted actions (sym c.command.view_is) what.is c.quoted.ensures.text c.text-in-Expect.ensures.text in
    record {
      takes = ap (λ (r : Request). (nature r).takes_memory) is;
      undone = c.add_expect.ensures.undone wants;
      written = refl;
      unrefused = subst (λ (r : Request). IsUnrefused r s.machine s.watch) (sym is) (c.add_expect.ensures.unrefused wants);
    }

pub returns-in-Break-clause-attached : goal.returns-in-Break-clause-attached
returns-in-Break-clause-attached g c = ap (λ (x : CommandState). attached_files x.machine) c.add_break.ensures.rest

pub returns-in-NoBreak-clause-attached : goal.returns-in-NoBreak-clause-attached
returns-in-NoBreak-clause-attached g c = ap (λ (x : CommandState). attached_files x.machine) c.remove_breaks.ensures.rest

pub returns-in-Expect-clause-attached : goal.returns-in-Expect-clause-attached
returns-in-Expect-clause-attached g c = ap (λ (x : CommandState). attached_files x.machine) c.add_expect.ensures.rest

pub returns-in-NoExpect-clause-attached : goal.returns-in-NoExpect-clause-attached
returns-in-NoExpect-clause-attached g c = ap (λ (x : CommandState). attached_files x.machine) c.remove_expects.ensures.rest

pub returns-in-Send-clause-attached : goal.returns-in-Send-clause-attached
returns-in-Send-clause-attached g c = ap (λ (x : CommandState). attached_files x.machine) c.send.ensures.rest

pub returns-in-NoSend-clause-attached : goal.returns-in-NoSend-clause-attached
returns-in-NoSend-clause-attached g c = ap (λ (x : CommandState). attached_files x.machine) c.remove_sends.ensures.rest
