use Rattle.std.proofs.Common.{◌≡◌, map, drop}
use Rattle.nova_interrupts.specs.Requests.{first_asking}
use Rattle.nova_interrupts.proofs.interrupts.first_asking.Given as goal

-- the first that asks of those that are left is the first of all
abbrev pub invariant-loop-unit : goal.invariant-loop-unit
invariant-loop-unit g l =
    first_asking l.mask (map g.U.Unit.unit_state (drop l.unit-index l.units)) ≡ first_asking l.mask (map g.U.Unit.unit_state l.units)
