use Rattle.unit_list.proofs.Resets.{ResetSoFar}
use Rattle.unit_list.proofs.reset.reset_all.Given as goal

abbrev pub invariant-loop-unit : goal.invariant-loop-unit
invariant-loop-unit g l = ResetSoFar g.U.Unit.unit_state l.initial.units l.units l.unit-index l.initial.events l.events
