use Rattle.std.proofs.Common.{◌≡◌, take, map}
use Rattle.unit_trait.specs.Registers.{registers}
use Rattle.command_words.proofs.standard.holds_initial.Given as goal

-- the registers so far hold what they hold at first
abbrev pub invariant-loop-i : goal.invariant-loop-i
invariant-loop-i g l = take l.i (g.U.Unit.unit_state l.unit).registers ≡ take l.i (map (λ r. r.initial) (registers l.kind))
