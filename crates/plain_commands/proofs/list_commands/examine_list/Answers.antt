use Rattle.std.proofs.Common.{refl, ◌∙◌, sym, subst, Ok, Err}
use Rattle.nova_machine.specs.Seen.{seen, beside}
use Rattle.nova_machine.specs.Comes.{output}
use Rattle.command_session.specs.declared.fault.CommandFault.{CommandFault}
use Rattle.command_session.specs.Live.{CommandState, live_in, standing}
use Rattle.plain_commands.specs.ListEffects.{examine_reply}
use Rattle.command_session.specs.Doing.{Does}
use Rattle.plain_commands.proofs.ListLemmas.{examine-does}
use Rattle.plain_commands.proofs.list_commands.examine_list.Goals as goal

pub returns-in-Ok-clause-told : goal.returns-in-Ok-clause-told
returns-in-Ok-clause-told g c =
    let before = g.S.Sink.written c.args.out.now in
    let after = g.S.Sink.written c.examine.new.out in
    let there = sym c.lacks_device.ensures ∙ c.if-lacks_device.false in
    rw (← c.session.view_is) (λ files heard.
    examine-does c.session.inside.machine c.session.inside.watch c.session.inside.keys files c.args.listing.now (Ok c.in-Ok.field-0) g.S.Sink.tells (output before heard) (output after heard) there c.in-Ok.ensures.faults c.in-Ok.ensures.told refl)

pub returns-in-Err-clause-told : goal.returns-in-Err-clause-told
returns-in-Err-clause-told g c =
    let before = g.S.Sink.written c.args.out.now in
    let after = g.S.Sink.written c.examine.new.out in
    let there = sym c.lacks_device.ensures ∙ c.if-lacks_device.false in
    let watch = c.session.inside.watch in
    let keys = c.session.inside.keys in
    let m = c.session.inside.machine in
    let l = c.args.listing.now in
    λ files heard.
    subst (λ (s : CommandState). Does (examine_reply (live_in s files) l) (Err c.fault_of_list.result) (standing 0 (live_in s files)) g.S.Sink.tells (output before heard) (output after heard)) c.session.view_is
    (subst (λ (fault : CommandFault). Does (examine_reply (seen (beside watch keys files.files files.lines) files.whole m) l) (Err fault) (standing 0 (seen (beside watch keys files.files files.lines) files.whole m)) g.S.Sink.tells (output before heard) (output after heard)) (sym c.fault_of_list.ensures)
    (examine-does {T = Unit {0}} m watch keys files l (Err c.in-Err.fault) g.S.Sink.tells (output before heard) (output after heard) there c.in-Err.ensures.faults c.in-Err.ensures.told refl))
