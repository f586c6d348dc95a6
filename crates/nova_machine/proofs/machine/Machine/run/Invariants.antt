use Rattle.std.proofs.Common.{◌≡◌, ◌≤◌, List, Option, None, IfSome}
use Rattle.unit_files.specs.Open.{AllOpen}
use Rattle.unit_files.specs.Causes.{IsQuiet}
use Rattle.unit_list.specs.Bus.{kinds_of}
use Rattle.nova_machine.specs.declared.machine.Stop.{Stop}
use Rattle.unit_files.specs.InStep.{MarksCover}
use Rattle.nova_machine.specs.Machine.{attached_files}
use Rattle.nova_machine.specs.Notes.{RunNote}
use Rattle.nova_machine.specs.Seen.{Seen, seen, beside}
use Rattle.nova_machine.specs.Run.{run, turns}
use Rattle.nova_machine.specs.Comes.{Output, output, Comes, AreTold}
use Rattle.host_lines.specs.Traffic.{Answer}
use Rattle.host_lines.specs.Told.{IsFirst, record_in}
use Rattle.nova_machine.specs.LineChanges.{AreLinesTold, LinesGoOn}
use Rattle.nova_machine.specs.StopCauses.{moment_of, Watches}
use Rattle.nova_machine.specs.Steps.{Turns}
use Rattle.nova_machine.proofs.RunCauses.{IsWithin}
use Rattle.nova_machine.proofs.machine.Machine.run.Given as goal

-- what is left of the run comes to, with a call that may still fail, the whole run comes to
abbrev pub invariant-turns : goal.invariant-turns
invariant-turns g l = record {
  told : AreTold g.F.Files.tells l.fn.self.slots → AreLinesTold g.L.Lines.tells (g.L.Lines.state l.fn.lines) l.fn.self.lines
      → (note : Option RunNote) (r : Option Stop) (s : Seen) (after : Output) (whole : List Answer)
      → IsFirst (record_in (g.L.Lines.state l.lines).told) whole → IfSome note (λ n. l.self.time ≤ n.time)
      → Comes (turns note l.limit.step l.first l.left (seen (beside l.watch l.keys (g.F.Files.state l.files).files (g.L.Lines.state l.lines)) whole l.self)) r s g.S.Sink.tells
      (output (g.S.Sink.written l.out) (g.L.Lines.state l.lines).sent) after
      → Comes (run note l.limit.step l.limit.count (seen (beside l.fn.watch l.keys (g.F.Files.state l.fn.files).files (g.L.Lines.state l.fn.lines)) whole l.fn.self)) r s g.S.Sink.tells
      (output (g.S.Sink.written l.fn.out) (g.L.Lines.state l.fn.lines).sent) after;
  lines : LinesGoOn g.L.Lines.tells (g.L.Lines.state l.fn.lines) l.fn.self.lines (g.L.Lines.state l.lines) l.self.lines;
  slots : l.self.slots ≡ l.fn.self.slots;
  covers : MarksCover (attached_files l.fn.self) (attached_files l.self);
  kinds : kinds_of l.self.units ≡ kinds_of l.fn.self.units;
  opened : (g.F.Files.state l.files).opened ≡ (g.F.Files.state l.fn.files).opened;
  is_open : AllOpen l.self.slots (g.F.Files.state l.files).opened;
  counts : g.S.Sink.fault_count l.out ≡ g.S.Sink.fault_count l.fn.out;
  quiet : IsQuiet (g.F.Files.state l.fn.files) (g.F.Files.state l.files);
  watches : Watches None (moment_of l.fn.watch l.fn.self) (moment_of l.watch l.self) g.S.Sink.tells (g.S.Sink.written l.fn.out) (g.S.Sink.written l.out);
  within : IsWithin l.first l.limit.count l.left l.fn.self.time l.self.time;
  steps : Turns l.keys l.limit.count l.fn.watch l.fn.self l.first l.left l.watch l.self;
}

abbrev pub decreases-turns : goal.decreases-turns
decreases-turns g l = l.left
