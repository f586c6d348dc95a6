use Rattle.nova_processor.specs.Processor.{joined}
use Rattle.nova_processor.specs.Burst.{Reaches}
use Rattle.nova_processor.proofs.processor.Processor.burst.Given as goal

-- the steps that are done lead from the start to here
abbrev pub invariant-loop-done : goal.invariant-loop-done
invariant-loop-done g l = Reaches (g.S.Stops.stops l.fn.stops) l.done l.fn.self (joined l.acs l.carry l.pc l.words)
