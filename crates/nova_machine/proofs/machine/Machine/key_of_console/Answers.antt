use Rattle.std.proofs.Common.{◌≡◌, ◌∙◌, ap, sym, refl, subst, rules, ℕ, true, false, List, ◌∷◌, map, Option, Some, is_some}
use Rattle.host_lines.specs.Told.{ahead_of}
use Rattle.telnet_lines.specs.Line.{LineOf}
use Rattle.telnet_lines.specs.Joined.{seen_line}
use Rattle.unit_trait.specs.declared.calls.Want.TheVariants as want
use Rattle.nova_machine.specs.Machine.{MachineState}
use Rattle.nova_machine.specs.OnLines.{lined, around_at, is_ported}
use Rattle.nova_machine.specs.LineChanges.{AreLinesTold, LinesGoOn, DoneAs}
use Rattle.nova_machine.proofs.Serving.{due_of}
use Rattle.nova_machine.proofs.LineSteps.{StepsAt, lines-stay, one-goes-on, hears-poll}
use Rattle.nova_machine.proofs.ConsoleSteps.{ported_is, none-of, done-off-key, done-due-key, done-console-key}
use Rattle.nova_machine.proofs.machine.Machine.key_of_console.Goals as goal

pub returns-then-not-is_console_ported-clause-lines : goal.returns-then-not-is_console_ported-clause-lines
returns-then-not-is_console_ported-clause-lines g c = lines-stay g.L.Lines.tells (g.L.Lines.state c.args.lines.now) c.args.self.now.lines

pub returns-then-not-is_console_ported-clause-told : goal.returns-then-not-is_console_ported-clause-told
returns-then-not-is_console_ported-clause-told g c = λ told whole first expects.
    let m = c.args.self.now in
    let off : is_ported m.lines ≡ false = search rules in
    done-off-key m.time (due_of c.args.watch.now c.args.keys.now m) expects (g.L.Lines.state c.args.lines.now) m.lines whole off

pub returns-then-not-is_console_ported-clause-off : goal.returns-then-not-is_console_ported-clause-off
returns-then-not-is_console_ported-clause-off g c = λ none on.
    let off : is_ported c.args.self.now.lines ≡ false = search rules in absurd (cc)

pub returns-then-has_key-clause-lines : goal.returns-then-has_key-clause-lines
returns-then-has_key-clause-lines g c = lines-stay g.L.Lines.tells (g.L.Lines.state c.args.lines.now) c.args.self.now.lines

pub returns-then-has_key-clause-told : goal.returns-then-has_key-clause-told
returns-then-has_key-clause-told g c = λ told whole first expects.
    let m = c.args.self.now in
    let due = due_of c.args.watch.now c.args.keys.now m in
    let some : is_some due ≡ true = search rules in
    done-due-key m.time due expects (g.L.Lines.state c.args.lines.now) m.lines whole some

pub returns-then-has_key-clause-off : goal.returns-then-has_key-clause-off
returns-then-has_key-clause-off g c = λ none on empty.
    let due = due_of c.args.watch.now c.args.keys.now c.args.self.now in
    let some : is_some due ≡ true = search rules in
    let no : is_some due ≡ false = ap (λ (o : Option ℕ). is_some o) empty in absurd (cc)

pub returns-clause-lines : goal.returns-clause-lines
returns-clause-lines g c =
    let old = g.L.Lines.state c.args.lines.now in
    let new = g.L.Lines.state c.poll-key.new.lines in
    let line = c.self.inside.console in
    let others = c.self.inside.lines.items in
    let ls = line ∷ others in
    let after = c.poll-key.new.self in
    let is : ls ≡ c.args.self.now.lines = ap (λ (m : MachineState). m.lines) c.self.view_is in
    let poll = c.poll-key.ensures in
    let step : StepsAt g.L.Lines.tells 0 old ls line new after = record {
      here = refl;
      port = poll.port;
      others = poll.others;
      parties = poll.parties;
      idle = λ none. let still = poll.idle none in (ap g.L.Lines.state still.3, still.2);
      grows = λ tells. (poll.told tells).grows;
      heard = λ tells. hears-poll _ _ old new line after (poll.told tells);
    } in
    subst (λ (x : List (LineOf ℕ)). LinesGoOn g.L.Lines.tells old x new (after ∷ others)) is (one-goes-on g.L.Lines.tells 0 old ls line new after step)

pub returns-clause-told : goal.returns-clause-told
returns-clause-told g c = λ told whole first expects.
    let old = g.L.Lines.state c.args.lines.now in
    let new = g.L.Lines.state c.poll-key.new.lines in
    let m = c.args.self.now in
    let line = c.self.inside.console in
    let others = c.self.inside.lines.items in
    let ls = line ∷ others in
    let after = c.poll-key.new.self in
    let made = c.of_console.result in
    let due = due_of c.args.watch.now c.args.keys.now m in
    let is : ls ≡ m.lines = ap (λ (x : MachineState). x.lines) c.self.view_is in
    let now : c.self.inside.time ≡ m.time = ap (λ (x : MachineState). x.time) c.self.view_is in
    let poll = c.poll-key.ensures in
    let step : StepsAt g.L.Lines.tells 0 old ls line new after = record {
      here = refl;
      port = poll.port;
      others = poll.others;
      parties = poll.parties;
      idle = λ none. let still = poll.idle none in (ap g.L.Lines.state still.3, still.2);
      grows = λ tells. (poll.told tells).grows;
      heard = λ tells. hears-poll _ _ old new line after (poll.told tells);
    } in
    let on : is_ported m.lines ≡ true = search rules in
    let some : is_some line.port ≡ true = sym (ported_is line others) ∙ ap (λ (x : List (LineOf ℕ)). is_ported x) is ∙ on in
    let no : is_some due ≡ false = search rules in
    let told-of : AreLinesTold g.L.Lines.tells old ls = subst (λ (x : List (LineOf ℕ)). AreLinesTold g.L.Lines.tells old x) (sym is) told in
    let done = done-console-key g.L.Lines.tells c.self.inside.time due expects old new line others after c.poll-key.result made whole step some (none-of due no) poll.told told-of first
    c.of_console.ensures.got (c.of_console.ensures.stop expects) (c.of_console.ensures.expects expects) in
    let T : ℕ → Type 0 = λ t. DoneAs (lined want.Key (around_at t due expects (map (seen_line old) ls) (ahead_of old.told whole))) (Some made) expects whole old new (after ∷ others) in
    let P : List (LineOf ℕ) → Type 0 = λ x. DoneAs (lined want.Key (around_at m.time due expects (map (seen_line old) x) (ahead_of old.told whole))) (Some made) expects whole old new (after ∷ others) in
    subst P is (subst T now done)

pub returns-clause-wants : goal.returns-clause-wants
returns-clause-wants g c =
    let due = due_of c.args.watch.now c.args.keys.now c.args.self.now in
    let on : is_ported c.args.self.now.lines ≡ true = search rules in
    let no : is_some due ≡ false = search rules in
    (on, none-of due no, c.of_console.ensures.made)
