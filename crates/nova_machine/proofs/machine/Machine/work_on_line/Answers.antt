use Rattle.std.proofs.Common.{◌≡◌, refl, subst, sym, inl, inr, ℕ, Bool, List, Option, Some, None}
use Rattle.std.specs.Prelude.{IfSome}
use Rattle.host_lines.specs.Traffic.{Answer}
use Rattle.host_lines.specs.State.{LineState}
use Rattle.telnet_lines.specs.Line.{LineOf}
use Rattle.expect_actions.specs.Expects.{ExpectTable}
use Rattle.unit_trait.specs.declared.calls.Want.{Want}
use Rattle.unit_trait.specs.declared.calls.Want.TheVariants as want
use Rattle.nova_machine.specs.declared.on_line.OnLine.{OnLine}
use Rattle.nova_machine.specs.declared.on_line.OnLine.TheVariants.{Gets}
use Rattle.nova_machine.specs.OnLines.{Around, lined, is_ported}
use Rattle.nova_machine.specs.OnLine.{IsDoneOn, IsOffLine}
use Rattle.nova_machine.specs.LineChanges.{DoneAs}
use Rattle.nova_machine.proofs.LineSteps.{IsOnLine, lines-stay}
use Rattle.nova_machine.proofs.Serving.{due_of, around_of}
use Rattle.nova_machine.proofs.ConsoleSteps.{key-as, put-as, plain-as, plain-off}
use Rattle.nova_machine.proofs.machine.Machine.work_on_line.Goals as goal

-- what was wanted is known in an arm
for-want : (w v : Want) (a : Around) (done : Option OnLine) (expects : ExpectTable) (whole : List Answer) (old new : LineState) (after : List (LineOf ℕ)) → w ≡ v → DoneAs (lined v a) done expects whole old new after
    → DoneAs (lined w a) done expects whole old new after
for-want w v a done expects whole old new after is did = subst (λ (x : Want). DoneAs (lined x a) done expects whole old new after) (sym is) did

pub returns-in-Some-clause-told : goal.returns-in-Some-clause-told
returns-in-Some-clause-told g c = λ told whole first.
    let m = c.args.self.now in
    let w = c.args.watch.now in
    let k = c.args.keys.now in
    let old = g.L.Lines.state c.args.lines.now in
    let new = g.L.Lines.state c.key_of_line.new.lines in
    let a = around_of w k old whole m in
    for-want c.args.want (want.LineKey c.in-LineKey.number) a (Some (Gets c.in-Some.got)) w.expects whole old new c.key_of_line.new.self.lines c.in-LineKey.is
    (key-as c.in-LineKey.number a c.in-Some.got whole old new c.key_of_line.new.self.lines (c.in-Some.ensures.told told whole first (due_of w k m) w.expects))

pub returns-in-Some-put_on_line-clause-lines : goal.returns-in-Some-put_on_line-clause-lines
returns-in-Some-put_on_line-clause-lines g c = c.in-Some-put_on_line.ensures.lines g.L.Lines.tells (g.L.Lines.state c.args.lines.now)

pub returns-in-None-put_on_line-clause-lines : goal.returns-in-None-put_on_line-clause-lines
returns-in-None-put_on_line-clause-lines g c = c.in-None-put_on_line.ensures.lines g.L.Lines.tells (g.L.Lines.state c.args.lines.now)

pub returns-in-Some-put_on_line-clause-told : goal.returns-in-Some-put_on_line-clause-told
returns-in-Some-put_on_line-clause-told g c = λ told whole first.
    let m = c.args.self.now in
    let w = c.args.watch.now in
    let k = c.args.keys.now in
    let old = g.L.Lines.state c.args.lines.now in
    let a = around_of w k old whole m in
    let got = c.in-Some-put_on_line.got in
    for-want c.args.want (want.LinePut c.in-LinePut.line c.in-LinePut.byte) a (Some (Gets got)) w.expects whole old old c.put_on_line.new.self.lines c.in-LinePut.is
    (put-as c.in-LinePut.line c.in-LinePut.byte a got whole old old c.put_on_line.new.self.lines (c.in-Some-put_on_line.ensures.told old whole (due_of w k m) w.expects))

pub returns-in-Key-clause-told : goal.returns-in-Key-clause-told
returns-in-Key-clause-told g c = λ told whole first.
    let w = c.args.watch.now in
    let old = g.L.Lines.state c.args.lines.now in
    for-want c.args.want want.Key (around_of w c.args.keys.now old whole c.args.self.now) c.key_of_console.result w.expects whole old (g.L.Lines.state c.key_of_console.new.lines)
    c.key_of_console.new.self.lines c.in-Key.is (c.key_of_console.ensures.told told whole first w.expects)

pub returns-in-Console-clause-lines : goal.returns-in-Console-clause-lines
returns-in-Console-clause-lines g c = c.put_on_console.ensures.lines g.L.Lines.tells (g.L.Lines.state c.args.lines.now)

pub returns-in-Console-clause-told : goal.returns-in-Console-clause-told
returns-in-Console-clause-told g c = λ told whole first.
    let m = c.args.self.now in
    let w = c.args.watch.now in
    let k = c.args.keys.now in
    let old = g.L.Lines.state c.args.lines.now in
    for-want c.args.want (want.Console c.in-Console.byte) (around_of w k old whole m) c.put_on_console.result w.expects whole old old c.put_on_console.new.self.lines c.in-Console.is
    (c.put_on_console.ensures.told old whole (due_of w k m) w.expects)

console-wants : (w : Want) (byte : ℕ) (ported : Bool) (due : Option ℕ) (o : Option OnLine) → w ≡ want.Console byte → IfSome o (λ made. (d : Option ℕ) → IsDoneOn (want.Console byte) ported d made)
    → IfSome o (λ made. IsDoneOn w ported due made)
console-wants w byte ported due None is done = tt
console-wants w byte ported due (Some made) is done = subst (λ (x : Want). IsDoneOn x ported due made) (sym is) (done due)

pub returns-in-Console-clause-wants : goal.returns-in-Console-clause-wants
returns-in-Console-clause-wants g c =
    let m = c.args.self.now in
    console-wants c.args.want c.in-Console.byte (is_ported m.lines) (due_of c.args.watch.now c.args.keys.now m) c.put_on_console.result c.in-Console.is c.put_on_console.ensures.wants

pub returns-in-Console-clause-off : goal.returns-in-Console-clause-off
returns-in-Console-clause-off g c = λ none.
    let m = c.args.self.now in
    let due = due_of c.args.watch.now c.args.keys.now m in
    subst (λ (x : Want). IsOffLine x (is_ported m.lines) due) (sym c.in-Console.is) (c.put_on_console.ensures.off none due)

pub returns-in-Nothing : goal.returns-in-Nothing
returns-in-Nothing g c =
    let m = c.args.self.now in
    let w = c.args.watch.now in
    let k = c.args.keys.now in
    let other : (v : Want) → c.args.want ≡ v → (¬ IsOnLine v) → ¬ IsOnLine c.args.want = λ v is no on. no (subst IsOnLine is on) in
    let plain : ¬ IsOnLine c.args.want = elim c.in-Nothing.is [
      | inl e ↦ other _ e (λ on. on)
      | inr (inl (x, e)) ↦ other _ e (λ on. on)
      | inr (inr (inl (x, y, e))) ↦ other _ e (λ on. on)
      | inr (inr (inr (inl (x, y, z, e)))) ↦ other _ e (λ on. on)
      | inr (inr (inr (inr (x, e)))) ↦ other _ e (λ on. on)
    ] in
    record {
      machine = refl;
      lines = lines-stay g.L.Lines.tells (g.L.Lines.state c.args.lines.now) m.lines;
      told = λ told whole first. plain-as m.time (due_of w k m) w.expects c.args.want (g.L.Lines.state c.args.lines.now) m.lines whole plain;
      none = λ none. (refl, refl);
      below = tt;
      of = tt;
      wants = tt;
      off = λ none. plain-off c.args.want _ _ plain;
    }
