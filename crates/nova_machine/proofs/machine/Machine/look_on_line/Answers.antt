use Rattle.std.proofs.Common.{◌≡◌, true, refl, subst, sym, rules}
use Rattle.nova_machine.specs.Machine.{MachineState}
use Rattle.nova_machine.specs.LineChanges.{AreLinesTold, LinesGoOn}
use Rattle.nova_machine.specs.LineLooks.{IsKeylessNow, IsAhead}
use Rattle.nova_machine.proofs.LineLooks.{nothing-ahead}
use Rattle.nova_machine.proofs.LineSteps.{lines-stay}
use Rattle.nova_machine.specs.Steps.{Services, no_services}
use Rattle.nova_machine.proofs.machine.Machine.look_on_line.Goals as goal

pub returns-then-not-may_look-clause-told : goal.returns-then-not-may_look-clause-told
returns-then-not-may_look-clause-told g c = λ told. nothing-ahead c.args.watch.now c.args.keys.now (g.L.Lines.state c.args.lines.now) c.args.self.now c.args.self.now refl

pub returns-then-not-may_look-clause-lines : goal.returns-then-not-may_look-clause-lines
returns-then-not-may_look-clause-lines g c = lines-stay g.L.Lines.tells (g.L.Lines.state c.args.lines.now) c.args.self.now.lines

pub returns-in-None-clause-told : goal.returns-in-None-clause-told
returns-in-None-clause-told g c = λ told. nothing-ahead c.args.watch.now c.args.keys.now (g.L.Lines.state c.args.lines.now) c.args.self.now c.both_look.new.self c.both_look.ensures.same

pub returns-in-None-clause-lines : goal.returns-in-None-clause-lines
returns-in-None-clause-lines g c =
    let state = g.L.Lines.state c.args.lines.now in
    let lines = c.args.self.now.lines in
    subst (λ (m : MachineState). LinesGoOn g.L.Lines.tells state lines state m.lines) (sym c.both_look.ensures.same) (lines-stay g.L.Lines.tells state lines)

pub returns-in-Some-clause-told : goal.returns-in-Some-clause-told
returns-in-Some-clause-told g c = λ told.
    let before = g.L.Lines.state c.args.lines.now in
    let after = g.L.Lines.state c.poll_both.new.lines in
    let watch = c.args.watch.now in
    let keys = c.args.keys.now in
    let P : MachineState → Type 0 = λ x. AreLinesTold g.L.Lines.tells before x.lines → IsKeylessNow watch keys x → IsAhead watch keys before x after c.poll_both.new.self in
    let ahead : P c.args.self.now = subst P c.both_look.ensures.same (λ t k. c.poll_both.ensures.told t watch keys k) in
    let may : c.may_look.result ≡ true = search rules in
    ahead told (c.may_look.ensures.keyless may)

pub returns-then-not-may_look-clause-steps : goal.returns-then-not-may_look-clause-steps
returns-then-not-may_look-clause-steps g c = no_services

pub returns-in-None-clause-steps : goal.returns-in-None-clause-steps
returns-in-None-clause-steps g c =
    subst (λ (x : MachineState). Services c.args.keys.now c.args.watch.now c.args.self.now c.args.watch.now x) (sym c.both_look.ensures.same) no_services

pub returns-in-Some-clause-steps : goal.returns-in-Some-clause-steps
returns-in-Some-clause-steps g c =
    let watch = c.args.watch.now in
    let keys = c.args.keys.now in
    let P : MachineState → Type 0 = λ x. IsKeylessNow watch keys x → Services keys watch x watch c.poll_both.new.self in
    let looks : P c.args.self.now = subst P c.both_look.ensures.same (λ k. c.poll_both.ensures.steps watch keys k) in
    let may : c.may_look.result ≡ true = search rules in
    looks (c.may_look.ensures.keyless may)
