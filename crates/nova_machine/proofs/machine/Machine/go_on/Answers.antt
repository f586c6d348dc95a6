use Rattle.std.proofs.Common.{◌≡◌, ◌∙◌, ◌<◌, ◌+◌, ◌-◌, ℕ, false, List, ap, sym, subst, refl, arith, rules}
use Rattle.host_lines.specs.Told.{record_in}
use Rattle.telnet_lines.specs.Line.{LineOf}
use Rattle.unit_trait.specs.Calls.{UnitState}
use Rattle.unit_list.specs.Bus.{kinds_of}
use Rattle.nova_machine.specs.LineChanges.{AreLinesTold, LinesGoOn}
use Rattle.nova_machine.specs.LineLooks.{GoesOn}
use Rattle.nova_machine.proofs.LineSteps.{first-same, lines-stay, lines-then}
use Rattle.nova_machine.proofs.LineLooks.{burst-on, none-on, on-then, spent-any, ahead-then}
use Rattle.nova_machine.specs.Steps.{Turns, some_services}
use Rattle.nova_machine.proofs.Steps.{burst-along, along-on, on-along, along-then}
use Rattle.nova_machine.proofs.machine.Machine.go_on.Goals as goal

pub bursts-init : goal.bursts-init
bursts-init g c = record {
  told = λ told. none-on c.args.watch.now c.args.keys.now c.args.most (g.L.Lines.state c.args.lines.now) c.args.self.now;
  lines = lines-stay g.L.Lines.tells (g.L.Lines.state c.args.lines.now) c.args.self.now.lines;
  kinds = refl;
  slots = refl;
  attached = refl;
  taken = refl;
  known = tt;
  few = omega arith;
  time = omega arith;
  steps = λ count start first before.
      let all : c.args.most ≡ c.args.most - 0 = omega arith in
      subst (λ (n : ℕ). Turns c.args.keys.now count start first false n c.args.watch.now c.args.self.now) all before;
}

pub returns-then-not-may_be_due-clause-told : goal.returns-then-not-may_be_due-clause-told
returns-then-not-may_be_due-clause-told g c = λ told.
    let mid = g.L.Lines.state c.bursts.lines in
    let done = c.bursts.done in
    let more = c.burst-burst.result.done in
    let end = c.burst-burst.result.end in
    on-then c.args.watch.now c.args.keys.now c.args.most done more end (g.L.Lines.state c.args.lines.now) c.args.self.now mid c.bursts.self mid c.burst-burst.new.self
    (first-same (record_in mid.told)) (c.bursts.invariant.told told)
    (burst-on c.args.watch.now c.args.keys.now (c.args.most - done) more end mid c.bursts.self c.burst-burst.new.self c.burst-burst.ensures.told)

pub returns-then-is_none-clause-told : goal.returns-then-is_none-clause-told
returns-then-is_none-clause-told g c = λ told.
    let before = g.L.Lines.state c.args.lines.now in
    let mid = g.L.Lines.state c.bursts.lines in
    let after = g.L.Lines.state c.look_on_line-period.new.lines in
    let old = c.args.self.now in
    let at = c.bursts.self in
    let worked = c.burst-burst.new.self in
    let new = c.look_on_line-period.new.self in
    let done = c.bursts.done in
    let more = c.burst-burst.result.done in
    let end = c.burst-burst.result.end in
    let watch = c.args.watch.now in
    let keys = c.args.keys.now in
    let most = c.args.most in
    let goes : c.is_last.result ≡ false = search rules in
    let other = (c.is_last.ensures goes).1 in
    let some : done + more < most = search rules in
    let here : AreLinesTold g.L.Lines.tells mid worked.lines = subst (λ (ls : List (LineOf ℕ)). AreLinesTold g.L.Lines.tells mid ls) (sym c.burst-burst.ensures.lines) (c.bursts.invariant.lines.told told).0 in
    let on : GoesOn watch keys most (done + more) end before old mid worked =
    on-then watch keys most done more end before old mid at mid worked (first-same (record_in mid.told)) (c.bursts.invariant.told told)
    (burst-on watch keys (most - done) more end mid at worked c.burst-burst.ensures.told) in
    spent-any watch keys most (done + more) end before old after new other
    (ahead-then watch keys most (done + more) end before old mid worked after new (c.look_on_line-period.ensures.lines.told here).1 other some on (c.look_on_line-period.ensures.told here))

pub returns-then-is_none-clause-lines : goal.returns-then-is_none-clause-lines
returns-then-is_none-clause-lines g c =
    let before = g.L.Lines.state c.args.lines.now in
    let mid = g.L.Lines.state c.bursts.lines in
    let after = g.L.Lines.state c.look_on_line-period.new.lines in
    let new = c.look_on_line-period.new.self in
    lines-then g.L.Lines.tells before mid after c.args.self.now.lines c.bursts.self.lines new.lines c.bursts.invariant.lines
    (subst (λ (ls : List (LineOf ℕ)). LinesGoOn g.L.Lines.tells mid ls after new.lines) c.burst-burst.ensures.lines c.look_on_line-period.ensures.lines)

pub bursts-preserved : goal.bursts-preserved
bursts-preserved g c =
    let before = g.L.Lines.state c.args.lines.now in
    let mid = g.L.Lines.state c.bursts.lines in
    let after = g.L.Lines.state c.look_on_line-period.new.lines in
    let old = c.args.self.now in
    let at = c.bursts.self in
    let worked = c.burst-burst.new.self in
    let new = c.look_on_line-period.new.self in
    let done = c.bursts.done in
    let more = c.burst-burst.result.done in
    let end = c.burst-burst.result.end in
    let watch = c.args.watch.now in
    let keys = c.args.keys.now in
    let most = c.args.most in
    let tells = g.L.Lines.tells in
    let goes : c.is_last.result ≡ false = search rules in
    let other = (c.is_last.ensures goes).1 in
    let some : done + more < most = search rules in
    let few = c.bursts.invariant.few in
    let begun = c.bursts.invariant.time in
    let grown = c.burst-burst.ensures.time in
    let still = c.look_on_line-period.ensures.time in
    let within = c.burst-burst.ensures.few in
    record {
      told = λ told.
          let here : AreLinesTold tells mid worked.lines = subst (λ (ls : List (LineOf ℕ)). AreLinesTold tells mid ls) (sym c.burst-burst.ensures.lines) (c.bursts.invariant.lines.told told).0 in
          let on : GoesOn watch keys most (done + more) end before old mid worked =
          on-then watch keys most done more end before old mid at mid worked (first-same (record_in mid.told)) (c.bursts.invariant.told told)
          (burst-on watch keys (most - done) more end mid at worked c.burst-burst.ensures.told) in
          ahead-then watch keys most (done + more) end before old mid worked after new (c.look_on_line-period.ensures.lines.told here).1 other some on (c.look_on_line-period.ensures.told here);
      lines =
          lines-then tells before mid after old.lines at.lines new.lines c.bursts.invariant.lines
          (subst (λ (ls : List (LineOf ℕ)). LinesGoOn tells mid ls after new.lines) c.burst-burst.ensures.lines c.look_on_line-period.ensures.lines);
      kinds = c.look_on_line-period.ensures.kinds ∙ ap (λ (us : List UnitState). kinds_of us) c.burst-burst.ensures.units ∙ c.bursts.invariant.kinds;
      slots = c.look_on_line-period.ensures.slots ∙ c.burst-burst.ensures.slots ∙ c.bursts.invariant.slots;
      attached = c.look_on_line-period.ensures.attached ∙ c.burst-burst.ensures.attached ∙ c.bursts.invariant.attached;
      taken = c.look_on_line-period.ensures.taken ∙ c.burst-burst.ensures.taken ∙ c.bursts.invariant.taken;
      known = c.look_on_line-period.ensures.again;
      few = omega (arith, few, within);
      time = omega (arith, begun, grown, still);
      steps = λ count start first before.
          some_services (most - (done + more)) watch watch worked new (omega (arith, some))
          (along-on keys watch most (done + more) end old worked other
          (along-then keys watch most done more end old at worked c.bursts.invariant.steps (burst-along keys watch (most - done) more end at worked within c.burst-burst.ensures.told)) count start first before)
          c.look_on_line-period.ensures.steps;
    }

pub returns-then-not-may_be_due-clause-steps : goal.returns-then-not-may_be_due-clause-steps
returns-then-not-may_be_due-clause-steps g c =
    let keys = c.args.keys.now in
    let watch = c.args.watch.now in
    let done = c.bursts.done in
    let more = c.burst-burst.result.done in
    let end = c.burst-burst.result.end in
    along-then keys watch c.args.most done more end c.args.self.now c.bursts.self c.burst-burst.new.self c.bursts.invariant.steps
    (burst-along keys watch (c.args.most - done) more end c.bursts.self c.burst-burst.new.self c.burst-burst.ensures.few c.burst-burst.ensures.told)

pub returns-then-is_none-clause-steps : goal.returns-then-is_none-clause-steps
returns-then-is_none-clause-steps g c =
    let old = c.args.self.now in
    let at = c.bursts.self in
    let worked = c.burst-burst.new.self in
    let new = c.look_on_line-period.new.self in
    let done = c.bursts.done in
    let more = c.burst-burst.result.done in
    let end = c.burst-burst.result.end in
    let watch = c.args.watch.now in
    let keys = c.args.keys.now in
    let most = c.args.most in
    let goes : c.is_last.result ≡ false = search rules in
    let other = (c.is_last.ensures goes).1 in
    let some : done + more < most = search rules in
    on-along keys watch most (done + more) end old new other (λ count start first before.
    some_services (most - (done + more)) watch watch worked new (omega (arith, some))
    (along-on keys watch most (done + more) end old worked other
    (along-then keys watch most done more end old at worked c.bursts.invariant.steps
    (burst-along keys watch (most - done) more end at worked c.burst-burst.ensures.few c.burst-burst.ensures.told)) count start first before)
    c.look_on_line-period.ensures.steps)
