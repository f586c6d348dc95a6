use Rattle.std.proofs.Common.{refl, ◌∙◌, sym, subst}
use Rattle.file_traits.specs.Streams.{Puts}
use Rattle.unit_files.specs.Attachments.{attachments_of, attachment_at}
use Rattle.unit_files.specs.Buffer.{AttachedFiles}
use Rattle.nova_machine.specs.Comes.{output}
use Rattle.command_session.specs.FileEffects.{unit_line}
use Rattle.plain_commands.proofs.ShowLemmas.{unit-refused, unit-does, terminal-does}
use Rattle.plain_commands.proofs.show_command.show_unit.Goals as goal

pub returns-then-is_terminal-clause-told : goal.returns-then-is_terminal-clause-told
returns-then-is_terminal-clause-told g c = λ watch keys files heard.
    terminal-does c.args.machine.now watch keys files c.args.unit c.show_ports.result g.S.Sink.tells (output (g.S.Sink.written c.args.out.now) heard) (output (g.S.Sink.written c.show_ports.new.out) heard)
    (sym c.is_terminal.ensures ∙ c.if-is_terminal.true) (c.show_ports.ensures.told watch keys files heard)

pub returns-then-lacks_unit-clause-told : goal.returns-then-lacks_unit-clause-told
returns-then-lacks_unit-clause-told g c = λ watch keys files heard.
    unit-refused c.args.machine.now watch keys files c.args.unit g.S.Sink.tells (output (g.S.Sink.written c.args.out.now) heard) (sym c.is_terminal.ensures ∙ c.if-is_terminal.false) (sym c.lacks_unit.ensures ∙ c.if-lacks_unit.true)

pub returns-clause-told : goal.returns-clause-told
returns-clause-told g c = λ watch keys files heard.
    let before = g.S.Sink.written c.args.out.now in
    let after = g.S.Sink.written c.put_unit-printed.new.out in
    unit-does c.args.machine.now watch keys files c.args.unit c.put_unit-printed.result c.told_or_console.result g.S.Sink.tells (output before heard) (output after heard) (sym c.is_terminal.ensures ∙ c.if-is_terminal.false) (sym c.lacks_unit.ensures ∙ c.if-lacks_unit.false)
    c.told_or_console.ensures
    (λ t. subst (λ (a : AttachedFiles). Puts before (unit_line c.args.unit (attachment_at (attachments_of a.slots) c.args.unit)) c.put_unit-printed.result after) c.attached.ensures
    (c.put_unit-printed.ensures.told t)) refl
