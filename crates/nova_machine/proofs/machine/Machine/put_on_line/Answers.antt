use Rattle.std.proofs.Common.{◌≡◌, ◌∙◌, ap, sym, refl, subst, rules, ℕ, suc, ◌<◌, ◌≤◌, List, ◌∷◌, length, map, slice_get, slice_set, Some, None}
use Rattle.std.proofs.lemmas.Option.{slice_get_past, slice_get_read}
use Rattle.host_lines.specs.Told.{ahead_of}
use Rattle.telnet_lines.specs.Line.{LineOf}
use Rattle.telnet_lines.specs.Joined.{seen_line}
use Rattle.unit_trait.specs.declared.calls.Got.{Got}
use Rattle.unit_trait.specs.declared.calls.Want.TheVariants as want
use Rattle.unit_list.specs.Bus.{kinds_of}
use Rattle.nova_machine.specs.Machine.{MachineState}
use Rattle.nova_machine.specs.OnLines.{lined, around_at, put_line, put_got}
use Rattle.nova_machine.specs.LineChanges.{LinesGoOn, DoneOnLine}
use Rattle.nova_machine.proofs.LineSteps.{lines-stay, one-goes-on, put-steps, done-no-put, done-put}
use Rattle.nova_machine.proofs.LinesThere.{set-has}
use Rattle.nova_machine.proofs.machine.Machine.put_on_line.Goals as goal

pub returns-then-number-len-clause-lines : goal.returns-then-number-len-clause-lines
returns-then-number-len-clause-lines g c = λ tells s. lines-stay tells s c.args.self.now.lines

pub returns-then-number-len-clause-told : goal.returns-then-number-len-clause-told
returns-then-number-len-clause-told g c = λ s whole due expects.
    let items = c.self.inside.lines.items in
    let past : length items ≤ c.args.number = search rules in
    let none : slice_get c.args.self.now.lines (suc c.args.number) ≡ None =
    ap (λ (m : MachineState). slice_get m.lines (suc c.args.number)) (sym c.self.view_is) ∙ slice_get_past items c.args.number past in
    done-no-put c.args.self.now.time c.args.number c.args.byte due expects s c.args.self.now.lines whole none

pub returns-clause-lines : goal.returns-clause-lines
returns-clause-lines g c = λ tells s.
    let items = c.self.inside.lines.items in
    let ls = c.self.inside.console ∷ items in
    let n = c.args.number in
    let line = c.index_mut.result.now in
    let within : n < length items = search rules in
    let there : slice_get ls (suc n) ≡ Some line = slice_get_read items (length items) n line refl within c.index_mut.ensures.value in
    let is : ls ≡ c.args.self.now.lines = ap (λ (m : MachineState). m.lines) c.self.view_is in
    let goes = one-goes-on tells (suc n) s ls line s (put_line c.args.byte line) (put-steps tells (suc n) c.args.byte s ls line there c.put_on.ensures.settled) in
    subst (λ (x : List (LineOf ℕ)). LinesGoOn tells s x s (slice_set ls (suc n) c.put_on.new.line)) is
    (subst (λ (l : LineOf ℕ). LinesGoOn tells s ls s (slice_set ls (suc n) l)) (sym c.put_on.ensures.line) goes)

pub returns-clause-told : goal.returns-clause-told
returns-clause-told g c = λ s whole due expects.
    let items = c.self.inside.lines.items in
    let ls = c.self.inside.console ∷ items in
    let n = c.args.number in
    let byte = c.args.byte in
    let time = c.args.self.now.time in
    let line = c.index_mut.result.now in
    let within : n < length items = search rules in
    let there : slice_get ls (suc n) ≡ Some line = slice_get_read items (length items) n line refl within c.index_mut.ensures.value in
    let is : ls ≡ c.args.self.now.lines = ap (λ (m : MachineState). m.lines) c.self.view_is in
    let L : LineOf ℕ → Type 0 = λ l. DoneOnLine (lined (want.LinePut n byte) (around_at time due expects (map (seen_line s) ls) (ahead_of s.told whole))) (Some (put_got line)) whole s s (slice_set ls (suc n) l) in
    let R : Got → Type 0 = λ r. DoneOnLine (lined (want.LinePut n byte) (around_at time due expects (map (seen_line s) ls) (ahead_of s.told whole))) (Some r) whole s s (slice_set ls (suc n) c.put_on.new.line) in
    let P : List (LineOf ℕ) → Type 0 = λ x. DoneOnLine (lined (want.LinePut n byte) (around_at time due expects (map (seen_line s) x) (ahead_of s.told whole))) (Some c.put_on.result) whole s s (slice_set ls (suc n) c.put_on.new.line) in
    subst P is (subst R (sym c.put_on.ensures.got) (subst L (sym c.put_on.ensures.line) (done-put time n byte due expects s ls line whole there)))

pub invariant_of-self : goal.invariant_of-self
invariant_of-self g c =
    let was = c.self.invariant in
    (was.0, was.1, was.2, was.3, was.4, set-has (kinds_of (map g.U.Unit.unit_state c.self.inside.units.items)) c.self.inside.lines.items c.args.number c.put_on.new.line was.5)
