use Rattle.std.proofs.Common.{◌∙◌, ap, subst, ℕ, nat_lt, List, length}
use Rattle.telnet_lines.specs.Line.{LineOf}
use Rattle.unit_list.specs.Bus.{kinds_of}
use Rattle.nova_machine.specs.Machine.{MachineState, HasItsLines}
use Rattle.nova_machine.proofs.LinesThere.{counted}
use Rattle.nova_machine.proofs.machine.Machine.line_at.Goals as goal

pub returns-clause-there : goal.returns-clause-there
returns-clause-there g c =
    let m = c.args.self.now in
    let items = c.self.inside.lines.items in
    let has : HasItsLines (kinds_of m.units) items = subst (λ (x : MachineState). HasItsLines (kinds_of x.units) items) c.self.view_is c.self.invariant.5 in
    c.get.ensures.lookup.0 ∙ ap (λ (ls : List (LineOf ℕ)). nat_lt c.args.number (length ls)) c.deref.ensures.value
    ∙ ap (λ (k : ℕ). nat_lt c.args.number k) (counted m.units items has)
