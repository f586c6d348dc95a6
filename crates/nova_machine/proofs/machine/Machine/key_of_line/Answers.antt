use Rattle.std.proofs.Common.{◌≡◌, ◌∙◌, ap, sym, refl, subst, rules, ℕ, suc, ◌<◌, ◌≤◌, List, ◌∷◌, length, map, slice_get, slice_set, Some, None}
use Rattle.std.proofs.lemmas.Option.{slice_get_past, slice_get_read}
use Rattle.host_lines.specs.Told.{ahead_of}
use Rattle.telnet_lines.specs.Line.{LineOf}
use Rattle.telnet_lines.specs.Joined.{seen_line}
use Rattle.unit_trait.specs.declared.calls.Got.{Got}
use Rattle.unit_trait.specs.declared.calls.Want.TheVariants as want
use Rattle.unit_list.specs.Bus.{kinds_of}
use Rattle.nova_machine.specs.Machine.{MachineState}
use Rattle.nova_machine.specs.OnLines.{lined, around_at}
use Rattle.nova_machine.specs.LineChanges.{AreLinesTold, LinesGoOn, DoneOnLine}
use Rattle.nova_machine.proofs.LineSteps.{StepsAt, lines-stay, one-goes-on, done-no-key, done-poll, hears-poll}
use Rattle.nova_machine.proofs.LinesThere.{set-has}
use Rattle.nova_machine.proofs.machine.Machine.key_of_line.Goals as goal

pub returns-then-number-len-clause-lines : goal.returns-then-number-len-clause-lines
returns-then-number-len-clause-lines g c = lines-stay g.L.Lines.tells (g.L.Lines.state c.args.lines.now) c.args.self.now.lines

pub returns-then-number-len-clause-told : goal.returns-then-number-len-clause-told
returns-then-number-len-clause-told g c = λ told whole first due expects.
    let items = c.self.inside.lines.items in
    let past : length items ≤ c.args.number = search rules in
    let none : slice_get c.args.self.now.lines (suc c.args.number) ≡ None =
    ap (λ (m : MachineState). slice_get m.lines (suc c.args.number)) (sym c.self.view_is) ∙ slice_get_past items c.args.number past in
    done-no-key c.args.self.now.time c.args.number due expects (g.L.Lines.state c.args.lines.now) c.args.self.now.lines whole none

pub returns-clause-lines : goal.returns-clause-lines
returns-clause-lines g c =
    let old = g.L.Lines.state c.args.lines.now in
    let new = g.L.Lines.state c.poll-key.new.lines in
    let items = c.self.inside.lines.items in
    let ls = c.self.inside.console ∷ items in
    let n = c.args.number in
    let line = c.index_mut.result.now in
    let within : n < length items = search rules in
    let there : slice_get ls (suc n) ≡ Some line = slice_get_read items (length items) n line refl within c.index_mut.ensures.value in
    let is : ls ≡ c.args.self.now.lines = ap (λ (m : MachineState). m.lines) c.self.view_is in
    let poll = c.poll-key.ensures in
    let step : StepsAt g.L.Lines.tells (suc n) old ls line new c.poll-key.new.self = record {
      here = there;
      port = poll.port;
      others = poll.others;
      parties = poll.parties;
      idle = λ none. let still = poll.idle none in (ap g.L.Lines.state still.3, still.2);
      grows = λ tells. (poll.told tells).grows;
      heard = λ tells. hears-poll _ _ old new line c.poll-key.new.self (poll.told tells);
    } in
    subst (λ (x : List (LineOf ℕ)). LinesGoOn g.L.Lines.tells old x new (slice_set ls (suc n) c.poll-key.new.self)) is
    (one-goes-on g.L.Lines.tells (suc n) old ls line new c.poll-key.new.self step)

pub returns-clause-told : goal.returns-clause-told
returns-clause-told g c = λ told whole first due expects.
    let old = g.L.Lines.state c.args.lines.now in
    let new = g.L.Lines.state c.poll-key.new.lines in
    let items = c.self.inside.lines.items in
    let ls = c.self.inside.console ∷ items in
    let n = c.args.number in
    let time = c.args.self.now.time in
    let line = c.index_mut.result.now in
    let after = c.poll-key.new.self in
    let within : n < length items = search rules in
    let there : slice_get ls (suc n) ≡ Some line = slice_get_read items (length items) n line refl within c.index_mut.ensures.value in
    let is : ls ≡ c.args.self.now.lines = ap (λ (m : MachineState). m.lines) c.self.view_is in
    let now : c.self.inside.time ≡ time = ap (λ (m : MachineState). m.time) c.self.view_is in
    let poll = c.poll-key.ensures in
    let step : StepsAt g.L.Lines.tells (suc n) old ls line new after = record {
      here = there;
      port = poll.port;
      others = poll.others;
      parties = poll.parties;
      idle = λ none. let still = poll.idle none in (ap g.L.Lines.state still.3, still.2);
      grows = λ tells. (poll.told tells).grows;
      heard = λ tells. hears-poll _ _ old new line after (poll.told tells);
    } in
    let told-of : AreLinesTold g.L.Lines.tells old ls = subst (λ (x : List (LineOf ℕ)). AreLinesTold g.L.Lines.tells old x) (sym is) told in
    let done = done-poll g.L.Lines.tells c.self.inside.time n due expects old new ls line after c.poll-key.result whole step poll.told (λ none. let still = poll.idle none in (still.0, still.1)) told-of first in
    let R : Got → Type 0 = λ r. DoneOnLine (lined (want.LineKey n) (around_at c.self.inside.time due expects (map (seen_line old) ls) (ahead_of old.told whole))) (Some r) whole old new (slice_set ls (suc n) after) in
    let T : ℕ → Type 0 = λ t. DoneOnLine (lined (want.LineKey n) (around_at t due expects (map (seen_line old) ls) (ahead_of old.told whole))) (Some c.got_of.result) whole old new (slice_set ls (suc n) after) in
    let P : List (LineOf ℕ) → Type 0 = λ x. DoneOnLine (lined (want.LineKey n) (around_at time due expects (map (seen_line old) x) (ahead_of old.told whole))) (Some c.got_of.result) whole old new (slice_set ls (suc n) after) in
    subst P is (subst T now (subst R (sym c.got_of.ensures.got) done))

pub invariant_of-self : goal.invariant_of-self
invariant_of-self g c =
    let was = c.self.invariant in
    (was.0, was.1, was.2, was.3, was.4, set-has (kinds_of (map g.U.Unit.unit_state c.self.inside.units.items)) c.self.inside.lines.items c.args.number c.poll-key.new.self was.5)
