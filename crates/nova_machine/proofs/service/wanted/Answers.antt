use Rattle.std.proofs.Common.{map, sym, subst, List}
use Rattle.unit_trait.specs.declared.calls.Want.{Want}
use Rattle.unit_trait.specs.Calls.{UnitState}
use Rattle.unit_list.specs.Bus.{IsBelowEnd, TakesAnswerIn}
use Rattle.unit_list.proofs.Room.{room-in}
use Rattle.nova_machine.specs.Hosting.{CanBeHosted}
use Rattle.nova_machine.proofs.Hosting.{wants-in}
use Rattle.nova_machine.proofs.service.wanted.Goals as goal

pub returns-clause-hosted : goal.returns-clause-hosted
returns-clause-hosted g c =
    subst (λ (w : Want). CanBeHosted w c.args.unit.kind) (sym c.due_at.ensures.want)
    (wants-in c.args.unit.kind c.args.unit.unit (map g.U.Unit.unit_state c.args.units.now) c.requires.fits)

pub returns-clause-room : goal.returns-clause-room
returns-clause-room g c = λ got below.
    subst (λ (us : List UnitState). TakesAnswerIn c.args.unit.kind got us) (sym c.due_at.ensures.units)
    (room-in c.args.unit.kind c.args.unit.unit got (map g.U.Unit.unit_state c.args.units.now)
    (subst (λ (w : Want). IsBelowEnd w got) c.due_at.ensures.want below))
