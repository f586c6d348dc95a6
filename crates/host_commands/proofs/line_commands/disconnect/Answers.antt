use Rattle.std.proofs.Common.{◌≡◌, ap, sym, refl, slice_get, Some}
use Rattle.command_session.specs.LineEffects.{terminal_place}
use Rattle.command_session.proofs.PortLemmas.{left-same, hang-left, hang-seen}
use Rattle.host_commands.proofs.PortCommands.{hang-refused, disconnect-unbuilt, disconnect-does}
use Rattle.command_session.proofs.PortAnswerLemmas.{none-disconnects, line-disconnects}
use Rattle.host_commands.proofs.line_commands.disconnect.Goals as goal

pub returns-in_default-clause-told : goal.returns-in_default-clause-told
returns-in_default-clause-told g c =
    rw (← c.session.view_is) (λ told whole files tells text.
    disconnect-unbuilt c.session.inside.watch c.session.inside.keys files whole c.session.inside.machine tells text (g.L.Lines.state c.args.lines.now) (sym c.in_default.ensures.value))

pub returns-in_default-clause-left : goal.returns-in_default-clause-left
returns-in_default-clause-left g c = rw (← c.session.view_is) (left-same g.L.Lines.tells (g.L.Lines.state c.args.lines.now) c.session.inside.machine.lines)

pub returns-clause-told : goal.returns-clause-told
returns-clause-told g c =
    let at : slice_get c.session.inside.machine.lines terminal_place ≡ Some c.in-Some.line.now = sym c.in-Some.ensures.value in
    let old = g.L.Lines.state c.args.lines.now in
    let new = g.L.Lines.state c.disconnect_line.new.lines in
    rw (← c.session.view_is) (λ told whole files tells text.
    disconnect-does c.session.inside.watch c.session.inside.keys files whole c.session.inside.machine tells text old new c.in-Some.line.now c.disconnect_line.new.line c.disconnect_line.result at c.disconnect_line.ensures.answer
    (hang-seen terminal_place g.L.Lines.tells old new c.session.inside.machine.lines c.in-Some.line.now c.disconnect_line.new.line at
    (λ none. ap g.L.Lines.state (c.disconnect_line.ensures.none none)) c.disconnect_line.ensures.parties c.disconnect_line.ensures.line c.disconnect_line.ensures.outside told))

pub returns-clause-left : goal.returns-clause-left
returns-clause-left g c =
    let at : slice_get c.session.inside.machine.lines terminal_place ≡ Some c.in-Some.line.now = sym c.in-Some.ensures.value in
    rw (← c.session.view_is)
    (hang-left terminal_place g.L.Lines.tells (g.L.Lines.state c.args.lines.now) (g.L.Lines.state c.disconnect_line.new.lines) c.session.inside.machine.lines c.in-Some.line.now c.disconnect_line.new.line at
    (λ none. ap g.L.Lines.state (c.disconnect_line.ensures.none none)) c.disconnect_line.ensures.parties c.disconnect_line.ensures.line c.disconnect_line.ensures.outside)

pub returns-clause-refused : goal.returns-clause-refused
returns-clause-refused g c =
    let at : slice_get c.session.inside.machine.lines terminal_place ≡ Some c.in-Some.line.now = sym c.in-Some.ensures.value in
    rw (← c.session.view_is) (λ refused. (
      hang-refused c.session.inside.machine c.in-Some.line.now c.disconnect_line.new.line c.disconnect_line.result at c.disconnect_line.ensures.answer c.disconnect_line.ensures.line refused,
      refl,
    ))

pub returns-in_default-clause-line : goal.returns-in_default-clause-line
returns-in_default-clause-line g c = rw (← c.session.view_is) (none-disconnects (g.L.Lines.state c.args.lines.now) c.session.inside.machine.lines (sym c.in_default.ensures.value))

pub returns-clause-line : goal.returns-clause-line
returns-clause-line g c =
    let at : slice_get c.session.inside.machine.lines terminal_place ≡ Some c.in-Some.line.now = sym c.in-Some.ensures.value in
    rw (← c.session.view_is)
    (line-disconnects (g.L.Lines.state c.args.lines.now) (g.L.Lines.state c.disconnect_line.new.lines) c.in-Some.line.now c.disconnect_line.new.line (λ none. ap g.L.Lines.state (c.disconnect_line.ensures.none none))
    c.disconnect_line.result c.session.inside.machine.lines at c.disconnect_line.ensures.answer c.disconnect_line.ensures.line c.disconnect_line.ensures.outside)
