use Rattle.std.proofs.Common.{◌≡◌, List, length, Option, None}
use Rattle.unit_files.specs.Open.{AllOpen}
use Rattle.unit_files.specs.Causes.{IsQuiet}
use Rattle.event_queue.specs.EventList.{dues}
use Rattle.unit_list.specs.Bus.{kinds_of}
use Rattle.nova_machine.specs.declared.machine.Stop.{Stop}
use Rattle.unit_files.specs.InStep.{MarksCover}
use Rattle.nova_machine.specs.Machine.{attached_files}
use Rattle.nova_machine.specs.Notes.{UnitNote}
use Rattle.nova_machine.specs.Seen.{Seen, seen, beside}
use Rattle.nova_machine.specs.Comes.{Output, output, Comes, AreTold}
use Rattle.host_lines.specs.Traffic.{Answer}
use Rattle.host_lines.specs.Told.{IsFirst, record_in}
use Rattle.nova_machine.specs.LineChanges.{AreLinesTold, LinesGoOn}
use Rattle.nova_machine.specs.Service.{serving}
use Rattle.nova_machine.specs.StopCauses.{moment_of, Watches}
use Rattle.nova_machine.specs.Steps.{Services}
use Rattle.nova_machine.proofs.Serving.{IsStillDue}
use Rattle.nova_machine.proofs.machine.Machine.serve.Given as goal

-- what the services that are left come to, with a call of one of their units that may fail, all of them come to
abbrev pub invariant-events : goal.invariant-events
invariant-events g l = record {
  told : AreTold g.F.Files.tells l.fn.self.slots → AreLinesTold g.L.Lines.tells (g.L.Lines.state l.fn.lines) l.fn.self.lines
      → (note : Option UnitNote) (r : Option Stop) (s : Seen) (after : Output) (whole : List Answer)
      → IsFirst (record_in (g.L.Lines.state l.lines).told) whole → IsStillDue note (dues l.self.events)
      → Comes (serving note (seen (beside l.watch l.keys (g.F.Files.state l.files).files (g.L.Lines.state l.lines)) whole l.self)) r s g.S.Sink.tells
      (output (g.S.Sink.written l.out) (g.L.Lines.state l.lines).sent) after
      → Comes (serving note (seen (beside l.fn.watch l.keys (g.F.Files.state l.fn.files).files (g.L.Lines.state l.fn.lines)) whole l.fn.self)) r s g.S.Sink.tells
      (output (g.S.Sink.written l.fn.out) (g.L.Lines.state l.fn.lines).sent) after;
  lines : LinesGoOn g.L.Lines.tells (g.L.Lines.state l.fn.lines) l.fn.self.lines (g.L.Lines.state l.lines) l.self.lines;
  time : l.self.time ≡ l.fn.self.time;
  slots : l.self.slots ≡ l.fn.self.slots;
  covers : MarksCover (attached_files l.fn.self) (attached_files l.self);
  kinds : kinds_of l.self.units ≡ kinds_of l.fn.self.units;
  opened : (g.F.Files.state l.files).opened ≡ (g.F.Files.state l.fn.files).opened;
  is_open : AllOpen l.self.slots (g.F.Files.state l.files).opened;
  counts : g.S.Sink.fault_count l.out ≡ g.S.Sink.fault_count l.fn.out;
  quiet : IsQuiet (g.F.Files.state l.fn.files) (g.F.Files.state l.files);
  watches : Watches None (moment_of l.fn.watch l.fn.self) (moment_of l.watch l.self) g.S.Sink.tells (g.S.Sink.written l.fn.out) (g.S.Sink.written l.out);
  breaks : l.watch.breaks ≡ l.fn.watch.breaks;
  steps : Services l.keys l.fn.watch l.fn.self l.watch l.self;
}

abbrev pub decreases-events : goal.decreases-events
decreases-events g l = length (dues l.self.events)
