use Rattle.std.proofs.Common.{◌≡◌, ◌∙◌, ap, sym, refl, subst, rules, ℕ, true, false, List, ◌∷◌, map, Some, is_some}
use Rattle.host_lines.specs.Told.{ahead_of}
use Rattle.telnet_lines.specs.Line.{LineOf}
use Rattle.telnet_lines.specs.Joined.{seen_line}
use Rattle.unit_trait.specs.declared.calls.Want.TheVariants as want
use Rattle.nova_machine.specs.Machine.{MachineState}
use Rattle.nova_machine.specs.OnLines.{lined, around_at, put_line, is_ported}
use Rattle.nova_machine.specs.LineChanges.{LinesGoOn, DoneAs}
use Rattle.nova_machine.proofs.LineSteps.{lines-stay, one-goes-on, put-steps}
use Rattle.nova_machine.proofs.ConsoleSteps.{ported_is, done-off-byte, done-console-put}
use Rattle.nova_machine.proofs.machine.Machine.put_on_console.Goals as goal

pub returns-then-not-is_console_ported-clause-lines : goal.returns-then-not-is_console_ported-clause-lines
returns-then-not-is_console_ported-clause-lines g c = λ tells s. lines-stay tells s c.args.self.now.lines

pub returns-then-not-is_console_ported-clause-told : goal.returns-then-not-is_console_ported-clause-told
returns-then-not-is_console_ported-clause-told g c = λ s whole due expects.
    let m = c.args.self.now in
    let off : is_ported m.lines ≡ false = search rules in
    done-off-byte m.time c.args.byte due expects s m.lines whole off

pub returns-then-not-is_console_ported-clause-off : goal.returns-then-not-is_console_ported-clause-off
returns-then-not-is_console_ported-clause-off g c = λ none due. search rules

pub returns-clause-lines : goal.returns-clause-lines
returns-clause-lines g c = λ tells s.
    let line = c.self.inside.console in
    let others = c.self.inside.lines.items in
    let ls = line ∷ others in
    let is : ls ≡ c.args.self.now.lines = ap (λ (m : MachineState). m.lines) c.self.view_is in
    let goes = one-goes-on tells 0 s ls line s (put_line c.args.byte line) (put-steps tells 0 c.args.byte s ls line refl c.put_of_console.ensures.settled) in
    subst (λ (x : List (LineOf ℕ)). LinesGoOn tells s x s (c.put_of_console.new.line ∷ others)) is
    (subst (λ (l : LineOf ℕ). LinesGoOn tells s ls s (l ∷ others)) (sym c.put_of_console.ensures.line) goes)

pub returns-clause-told : goal.returns-clause-told
returns-clause-told g c = λ s whole due expects.
    let m = c.args.self.now in
    let line = c.self.inside.console in
    let others = c.self.inside.lines.items in
    let made = c.put_of_console.result in
    let after = c.put_of_console.new.line in
    let is : line ∷ others ≡ m.lines = ap (λ (x : MachineState). x.lines) c.self.view_is in
    let on : is_ported m.lines ≡ true = search rules in
    let some : is_some line.port ≡ true = sym (ported_is line others) ∙ ap (λ (x : List (LineOf ℕ)). is_ported x) is ∙ on in
    let e = c.put_of_console.ensures in
    let P : List (LineOf ℕ) → Type 0 = λ x. DoneAs (lined (want.Console c.args.byte) (around_at m.time due expects (map (seen_line s) x) (ahead_of s.told whole))) (Some made) expects whole s s (after ∷ others) in
    subst P is (done-console-put m.time c.args.byte due expects s line others after made whole some e.line e.got (e.stop expects) (e.expects expects))

pub returns-clause-wants : goal.returns-clause-wants
returns-clause-wants g c = λ due.
    let on : is_ported c.args.self.now.lines ≡ true = search rules in
    (on, c.put_of_console.ensures.made)
