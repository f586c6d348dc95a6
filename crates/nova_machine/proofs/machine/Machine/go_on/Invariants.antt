use Rattle.std.proofs.Common.{◌≡◌, ◌≤◌, ◌+◌, ◌-◌, IfSome}
use Rattle.nova_processor.specs.declared.burst.BurstEnd.TheVariants as burst_end
use Rattle.unit_list.specs.Bus.{kinds_of}
use Rattle.nova_machine.specs.Machine.{attached_files}
use Rattle.nova_machine.specs.LineChanges.{AreLinesTold, LinesGoOn}
use Rattle.nova_machine.specs.LineLooks.{LookAgain, GoesOn}
use Rattle.nova_machine.proofs.Steps.{WentOn}
use Rattle.nova_machine.proofs.machine.Machine.go_on.Given as goal

-- what the turns that are left come to, they all come to
abbrev pub invariant-bursts : goal.invariant-bursts
invariant-bursts g l = record {
  told : AreLinesTold g.L.Lines.tells (g.L.Lines.state l.fn.lines) l.fn.self.lines
      → GoesOn l.watch l.keys l.most l.done burst_end.Spent (g.L.Lines.state l.fn.lines) l.fn.self (g.L.Lines.state l.lines) l.self;
  lines : LinesGoOn g.L.Lines.tells (g.L.Lines.state l.fn.lines) l.fn.self.lines (g.L.Lines.state l.lines) l.self.lines;
  kinds : kinds_of l.self.units ≡ kinds_of l.fn.self.units;
  slots : l.self.slots ≡ l.fn.self.slots;
  attached : attached_files l.self ≡ attached_files l.fn.self;
  taken : l.self.taken ≡ l.fn.self.taken;
  known : IfSome l.period (λ period. LookAgain period l.self.units);
  few : l.done ≤ l.most;
  time : l.self.time ≡ l.fn.self.time + l.done;
  steps : WentOn l.keys l.watch l.most l.done l.fn.self l.self;
}

abbrev pub decreases-bursts : goal.decreases-bursts
decreases-bursts g l = l.most - l.done
