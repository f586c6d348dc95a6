use Rattle.std.proofs.Common.{◌≡◌, ◌∙◌, ap, sym, subst, ℕ, List, Some, None, Ok, Err}
use Rattle.telnet_lines.specs.Line.{LineOf}
use Rattle.nova_machine.specs.Machine.{MachineState}
use Rattle.nova_machine.specs.Seen.{seen, beside}
use Rattle.command_session.specs.declared.terminal.LineRow.{LineRow}
use Rattle.command_session.specs.declared.next.Next.TheVariants.{Go}
use Rattle.command_session.specs.declared.fault.CommandFault.TheVariants.{NoSuchName}
use Rattle.command_session.specs.Live.{CommandState, standing}
use Rattle.command_session.specs.LineEffects.{row_for, unported, detach_fault, detach_port_reply}
use Rattle.command_session.specs.LinesLeft.{SeenAs}
use Rattle.command_session.specs.Doing.{Does}
use Rattle.command_session.proofs.PortLemmas.{left-same}
use Rattle.host_commands.proofs.PortCommands.{detach-refused-does, detach-does}
use Rattle.host_commands.proofs.PortFaults.{missing-of, detach-named}
use Rattle.host_commands.proofs.line_commands.detach_port.Goals as goal

pub returns-in-Some-clause-left : goal.returns-in-Some-clause-left
returns-in-Some-clause-left g c = left-same g.L.Lines.tells (g.L.Lines.state c.args.lines.now) c.args.session.now.machine.lines

pub returns-in-Some-clause-told : goal.returns-in-Some-clause-told
returns-in-Some-clause-told g c =
    let s = c.args.session.now in
    let is : Some c.in-Some.fault ≡ detach_fault (row_for c.args.kind) s.machine.lines =
    sym c.in-Some.is ∙ c.detach_refusal.ensures.fault ∙ ap (λ (r : LineRow). detach_fault r c.session.inside.machine.lines) c.row_for-row.ensures.row
    ∙ ap (λ (x : CommandState). detach_fault (row_for c.args.kind) x.machine.lines) c.session.view_is in
    λ told whole files tells text. detach-refused-does s.watch s.keys files whole s.machine tells text (g.L.Lines.state c.args.lines.now) c.args.kind c.in-Some.fault is

pub returns-in-None-clause-told : goal.returns-in-None-clause-told
returns-in-None-clause-told g c =
    let m = c.session.inside.machine in
    let old = g.L.Lines.state c.args.lines.now in
    let new = g.L.Lines.state c.close_row.new.lines in
    let after = c.close_row.new.machine.lines in
    let none : None ≡ detach_fault (row_for c.args.kind) m.lines =
    sym c.in-None.is ∙ c.detach_refusal.ensures.fault ∙ ap (λ (r : LineRow). detach_fault r m.lines) c.row_for-row.ensures.row in
    let is : c.close_row.new.machine ≡ record m { lines = after } =
    c.close_row.ensures.machine ∙ ap (λ (ls : List (LineOf ℕ)). record m { lines = ls }) (sym (ap (λ (x : MachineState). x.lines) c.close_row.ensures.machine)) in
    rw (← c.session.view_is) (λ told whole files tells text.
    subst (λ (x : MachineState). Does (detach_port_reply (seen (beside c.session.inside.watch c.session.inside.keys files old) whole m) c.args.kind) (Ok Go)
    (standing 0 (seen (beside c.session.inside.watch c.session.inside.keys files new) whole x)) tells text text) (sym is)
    (detach-does c.session.inside.watch c.session.inside.keys files whole m tells text old new c.args.kind after none
    (subst (λ (r : LineRow). SeenAs (unported r) old m.lines new after) c.row_for-row.ensures.row (c.close_row.ensures.seen told))))

pub returns-in-Some-clause-missing : goal.returns-in-Some-clause-missing
returns-in-Some-clause-missing g c =
    let m = c.session.inside.machine in
    let is : Some c.in-Some.fault ≡ detach_fault c.row_for-row.result m.lines = sym c.in-Some.is ∙ c.detach_refusal.ensures.fault in
    rw (← c.session.view_is) (missing-of c.args.kind (Err c.in-Some.fault) m.units (λ kind.
    let gone = detach-named c.row_for-row.result c.args.kind m.units m.lines c.row_for-row.ensures.row c.detach_refusal.ensures.there kind in (
      λ same. let own : c.in-Some.fault ≡ NoSuchName = cc in gone.0 (sym is ∙ ap Some own),
      λ none. let both = is ∙ gone.1 none in let own : c.in-Some.fault ≡ NoSuchName = cc in ap Err own,
    )))

pub returns-in-None-clause-missing : goal.returns-in-None-clause-missing
returns-in-None-clause-missing g c =
    let m = c.session.inside.machine in
    let is : None ≡ detach_fault c.row_for-row.result m.lines = sym c.in-None.is ∙ c.detach_refusal.ensures.fault in
    rw (← c.session.view_is) (missing-of c.args.kind (Ok Go) m.units (λ kind.
    let gone = detach-named c.row_for-row.result c.args.kind m.units m.lines c.row_for-row.ensures.row c.detach_refusal.ensures.there kind in (
      λ same. absurd (cc),
      λ none. absurd (let both = is ∙ gone.1 none in cc),
    )))
