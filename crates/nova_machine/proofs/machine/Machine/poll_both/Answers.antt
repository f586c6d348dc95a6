use Rattle.std.proofs.Common.{◌∙◌, ℕ, List, ap, refl, sym, subst}
use Rattle.telnet_lines.specs.Line.{LineOf}
use Rattle.host_lines.specs.State.{LineState}
use Rattle.unit_trait.specs.declared.calls.Got.TheVariants.{Key}
use Rattle.nova_machine.specs.Machine.{MachineState, attached_files}
use Rattle.nova_machine.specs.LineChanges.{LinesGoOn}
use Rattle.nova_machine.specs.LineLooks.{second_keyboard, first_looked, IsAhead}
use Rattle.nova_machine.proofs.Idling.{looked-slots, looked-lines, looked-time}
use Rattle.nova_machine.proofs.LineLooks.{silent-ahead, key-ahead, nothing-ahead, looked-again, looked-kinds, looked-taken}
use Rattle.nova_machine.proofs.Serving.{due_of}
use Rattle.nova_machine.proofs.ServiceCauses.{answered-taken}
use Rattle.nova_machine.specs.Steps.{Services, no_services}
use Rattle.nova_machine.proofs.Steps.{silent-looks, key-looks}
use Rattle.nova_machine.proofs.Copies.{answered-attached, looked-attached}
use Rattle.nova_machine.proofs.machine.Machine.poll_both.Goals as goal

pub returns-in-None-clause-told : goal.returns-in-None-clause-told
returns-in-None-clause-told g c = λ told watch keys keyless.
    let still = c.in-None.ensures.none refl in
    let before = g.L.Lines.state c.args.lines.now in
    subst (λ (s : LineState). IsAhead watch keys before c.args.self.now s c.key_of_line.new.self) (sym (ap g.L.Lines.state still.1))
    (nothing-ahead watch keys before c.args.self.now c.key_of_line.new.self still.0)

pub returns-in-None-key_in-clause-told : goal.returns-in-None-key_in-clause-told
returns-in-None-key_in-clause-told g c = λ told watch keys keyless.
    silent-ahead c.args.period watch keys (g.L.Lines.state c.args.lines.now) (g.L.Lines.state c.key_of_line.new.lines) c.args.self.now c.key_of_line.new.self c.look.new.self c.in-Some.got
    c.requires.looking keyless c.requires.early c.in-Some.ensures.machine c.look.ensures (c.in-None-key_in.ensures c.in-Some.ensures.poll) (λ whole first. c.in-Some.ensures.told told whole first (due_of watch keys c.args.self.now) watch.expects)

pub returns-in-None-key_in-clause-again : goal.returns-in-None-key_in-clause-again
returns-in-None-key_in-clause-again g c =
    looked-again c.args.period c.args.self.now c.key_of_line.new.self c.look.new.self c.requires.looking c.in-Some.ensures.machine c.look.ensures

pub returns-in-None-key_in-clause-slots : goal.returns-in-None-key_in-clause-slots
returns-in-None-key_in-clause-slots g c =
    ap (λ (m : MachineState). m.slots) c.look.ensures ∙ looked-slots c.args.period c.key_of_line.new.self ∙ ap (λ (m : MachineState). m.slots) c.in-Some.ensures.machine

pub returns-in-None-key_in-clause-attached : goal.returns-in-None-key_in-clause-attached
returns-in-None-key_in-clause-attached g c =
    ap attached_files c.look.ensures ∙ looked-attached c.args.period c.key_of_line.new.self ∙ ap attached_files c.in-Some.ensures.machine

pub returns-in-Some-key_in-clause-attached : goal.returns-in-Some-key_in-clause-attached
returns-in-Some-key_in-clause-attached g c =
    ap attached_files c.take_key_of_line.ensures.machine
    ∙ answered-attached second_keyboard (Key c.in-Some-key_in.key) (first_looked c.args.period c.key_of_line.new.self)
    ∙ ap attached_files c.in-Some.ensures.machine

pub returns-in-None-key_in-clause-lines : goal.returns-in-None-key_in-clause-lines
returns-in-None-key_in-clause-lines g c =
    let same = ap (λ (m : MachineState). m.lines) c.look.ensures ∙ looked-lines c.args.period c.key_of_line.new.self in
    subst (λ (ls : List (LineOf ℕ)). LinesGoOn g.L.Lines.tells (g.L.Lines.state c.args.lines.now) c.args.self.now.lines (g.L.Lines.state c.key_of_line.new.lines) ls) (sym same) c.in-Some.ensures.lines

pub returns-in-None-key_in-clause-time : goal.returns-in-None-key_in-clause-time
returns-in-None-key_in-clause-time g c =
    ap (λ (m : MachineState). m.time) c.look.ensures ∙ looked-time c.args.period c.key_of_line.new.self ∙ ap (λ (m : MachineState). m.time) c.in-Some.ensures.machine

pub returns-in-None-key_in-clause-taken : goal.returns-in-None-key_in-clause-taken
returns-in-None-key_in-clause-taken g c =
    ap (λ (m : MachineState). m.taken) c.look.ensures ∙ looked-taken c.args.period c.key_of_line.new.self ∙ ap (λ (m : MachineState). m.taken) c.in-Some.ensures.machine

pub returns-in-Some-key_in-clause-told : goal.returns-in-Some-key_in-clause-told
returns-in-Some-key_in-clause-told g c = λ told watch keys keyless.
    key-ahead c.args.period watch keys (g.L.Lines.state c.args.lines.now) (g.L.Lines.state c.key_of_line.new.lines) c.args.self.now c.key_of_line.new.self c.take_key_of_line.new.self c.in-Some.got
    c.in-Some-key_in.key c.requires.looking keyless c.requires.early c.in-Some.ensures.machine c.take_key_of_line.ensures.machine c.take_key_of_line.ensures.time c.take_key_of_line.ensures.dues
    (c.in-Some-key_in.ensures c.in-Some.ensures.poll) (λ whole first. c.in-Some.ensures.told told whole first (due_of watch keys c.args.self.now) watch.expects)

pub returns-in-Some-key_in-clause-taken : goal.returns-in-Some-key_in-clause-taken
returns-in-Some-key_in-clause-taken g c =
    ap (λ (m : MachineState). m.taken) c.take_key_of_line.ensures.machine
    ∙ answered-taken second_keyboard (Key c.in-Some-key_in.key) (first_looked c.args.period c.key_of_line.new.self)
    ∙ ap (λ (m : MachineState). m.taken) c.in-Some.ensures.machine

pub returns-in-None-key_in-clause-kinds : goal.returns-in-None-key_in-clause-kinds
returns-in-None-key_in-clause-kinds g c = looked-kinds c.args.period c.args.self.now c.key_of_line.new.self c.look.new.self c.in-Some.ensures.machine c.look.ensures

pub returns-in-None-clause-steps : goal.returns-in-None-clause-steps
returns-in-None-clause-steps g c = λ watch keys keyless.
    subst (λ (x : MachineState). Services keys watch c.args.self.now watch x) (sym (c.in-None.ensures.none refl).0) no_services

pub returns-in-None-key_in-clause-steps : goal.returns-in-None-key_in-clause-steps
returns-in-None-key_in-clause-steps g c = λ watch keys keyless.
    silent-looks keys watch c.args.period c.args.self.now c.key_of_line.new.self c.look.new.self c.requires.looking keyless c.in-Some.ensures.machine c.look.ensures

pub returns-in-Some-key_in-clause-steps : goal.returns-in-Some-key_in-clause-steps
returns-in-Some-key_in-clause-steps g c = λ watch keys keyless.
    key-looks keys watch c.args.period c.in-Some-key_in.key c.args.self.now c.key_of_line.new.self c.take_key_of_line.new.self c.requires.looking keyless c.in-Some.ensures.machine
    c.take_key_of_line.ensures.machine
