use Rattle.std.proofs.Common.{suc, map, rules, length, ◌≡◌, ◌∙◌, ap, subst, slice_get, option_map}
use Rattle.unit_list.specs.Bus.{kinds_of}
use Rattle.nova_machine.specs.Machine.{MachineState, HasItsLines}
use Rattle.nova_machine.proofs.LinesThere.{set-has, lent-there, lent-value}
use Rattle.nova_machine.proofs.machine.Machine.line.Goals as goal

pub invariant_of-self-lent : goal.invariant_of-self-lent
invariant_of-self-lent g c = λ o.
    let was = c.self.invariant in
    let kinds = kinds_of (map g.U.Unit.unit_state c.self.inside.units.items) in
    ((λ w. (was.0, was.1, was.2, was.3, was.4, set-has kinds c.self.inside.lines.items c.args.number w was.5)), was)

pub returns : goal.returns
returns g c =
    let m = c.args.self.now in
    let items = c.self.inside.lines.items in
    let n = c.args.number in
    let has : HasItsLines (kinds_of m.units) items = subst (λ (x : MachineState). HasItsLines (kinds_of x.units) items) c.self.view_is c.self.invariant.5 in
    let long : c.self.inside.lines.len ≡ length items = search rules in
    let here : option_map (λ l. l.now) c.get_mut.result ≡ slice_get items n =
    lent-value (λ l. l.now) c.get_mut.result items c.self.inside.lines.len n long c.get_mut.ensures.variant c.get_mut.ensures.value in
    let value : option_map (λ l. l.now) c.get_mut.result ≡ slice_get m.lines (suc n) = here ∙ ap (λ (x : MachineState). slice_get x.lines (suc n)) c.self.view_is in
    (search rules, record { writes_back = tt; value = value; there = lent-there (λ l. l.now) c.get_mut.result m.units items n has here })
