use Rattle.std.proofs.Common.{◌≡◌, ◌⊎◌, ◌≤◌, ◌-◌, List, IsTrue, true, false}
use Rattle.file_traits.specs.State.{Opened}
use Rattle.unit_files.specs.InStep.{InStep}
use Rattle.unit_files.specs.Open.{AllOpen, Around}
use Rattle.file_commands.specs.OwnFiles.{AreOwn}
use Rattle.file_commands.specs.Notes.{notes_said}
use Rattle.unit_list.specs.Bus.{kinds_of}
use Rattle.host_lines.specs.Traffic.{Answer}
use Rattle.host_lines.specs.Told.{IsFirst, record_in}
use Rattle.telnet_lines.specs.Many.{AreApart}
use Rattle.nova_machine.specs.Machine.{attached_files}
use Rattle.nova_machine.specs.Comes.{output}
use Rattle.state_transfer.specs.SavedValid.{AreStandard}
use Rattle.command_session.specs.Live.{beyond}
use Rattle.command_session.specs.LinesLeft.{LinesLeft}
use Rattle.scp_script.specs.Session.{spent_more}
use Rattle.scp_script.specs.Perform.{beginning}
use Rattle.scp_script.specs.Loop.{AreKeptFor, NumbersSuffice, session_of}
use Rattle.scp_script.specs.Used.{CourseTold}
use Rattle.session_texts.specs.Scripts.{first_script}
use Rattle.scp_script.specs.Spending.{CanCome}
use Rattle.scp_script.proofs.WholeLemmas.{ComesSoFar}
use Rattle.scp_script.proofs.UnsaidLemmas.{SaidUpTo}
use Rattle.scp_script.proofs.perform_session.perform.Given as goal

abbrev pub invariant-lines : goal.invariant-lines
invariant-lines g l = record {
  paid : l.texts.budget ≤ l.fn.opening.budget;
  command : l.session.command ≡ spent_more l.fn.session.command (l.fn.opening.budget - l.texts.budget);
  limit : l.session.limit ≡ l.fn.session.limit;
  keys : l.session.keys ≡ l.fn.session.keys;
  reads : l.texts.reads ≡ l.fn.opening.reads;
  come : CanCome (first_script l.fn.opening.script l.fn.opening.arguments.items) (l.fn.opening.budget - l.texts.budget) l.texts.texts.actions l.texts.texts.scripts;
  unread : l.fn.opening.reads ≡ false → l.input ≡ l.fn.input;
  told : NumbersSuffice l.fn.session.command l.fn.opening.budget → (l.fn.opening.reads ≡ true → IsTrue g.C.Source.tells)
      → CourseTold g.F.Files.tells g.L.Lines.tells
      (λ whole notes. beginning l.fn.session (beyond (g.F.Files.state l.fn.files).files (g.L.Lines.state l.fn.lines) whole) l.fn.opening (g.C.Source.left l.fn.input) notes)
      → (IsTrue g.L.Lines.tells → AreApart (g.L.Lines.state l.fn.lines) l.fn.session.machine.lines) → IsTrue g.S.Sink.tells
      → InStep (attached_files l.fn.session.machine) (g.F.Files.state l.fn.files).files
      → SaidUpTo
      (λ w notes. beginning l.fn.session (beyond (g.F.Files.state l.fn.files).files (g.L.Lines.state l.fn.lines) w) l.fn.opening (g.C.Source.left l.fn.input) notes)
      g.L.Lines.tells (g.L.Lines.state l.lines) (g.C.Source.left l.input)
      (output (g.S.Sink.written l.fn.out) (g.L.Lines.state l.fn.lines).sent) (output (g.S.Sink.written l.out) (g.L.Lines.state l.lines).sent)
      (notes_said l.fn.session.notes) (notes_said l.session.notes) ⊎ (InStep (attached_files l.session.machine) (g.F.Files.state l.files).files
      × ((whole : List Answer) → IsFirst (record_in (g.L.Lines.state l.lines).told) whole → ComesSoFar
      (λ notes. beginning l.fn.session (beyond (g.F.Files.state l.fn.files).files (g.L.Lines.state l.fn.lines) whole) l.fn.opening (g.C.Source.left l.fn.input) notes)
      (session_of l.session (beyond (g.F.Files.state l.files).files (g.L.Lines.state l.lines) whole) l.texts (g.C.Source.left l.input))
      (output (g.S.Sink.written l.fn.out) (g.L.Lines.state l.fn.lines).sent) (output (g.S.Sink.written l.out) (g.L.Lines.state l.lines).sent)
      (notes_said l.fn.session.notes) (notes_said l.session.notes)));
  lines : LinesLeft g.L.Lines.tells (g.L.Lines.state l.fn.lines) l.fn.session.machine.lines (g.L.Lines.state l.lines) l.session.machine.lines;
  source : g.C.Source.fault_count l.input ≡ g.C.Source.fault_count l.fn.input;
  sink : g.S.Sink.fault_count l.out ≡ g.S.Sink.fault_count l.fn.out;
  keeps : AreKeptFor g.F.Files.tells (l.fn.opening.budget - l.texts.budget) l.fn.session.notes l.session.notes (g.F.Files.state l.fn.files) (g.F.Files.state l.files);
  whose : AreOwn l.fn.session.machine.slots l.session.machine.slots l.fn.session.notes l.session.notes (g.F.Files.state l.fn.files) (g.F.Files.state l.files);
  standard : AreStandard l.session.machine.units;
  kinds : kinds_of l.session.machine.units ≡ kinds_of l.fn.session.machine.units;
  is_open : AllOpen l.session.machine.slots (g.F.Files.state l.files).opened;
  around : (base : List Opened) → Around l.fn.session.machine.slots base (g.F.Files.state l.fn.files).opened → Around l.session.machine.slots base (g.F.Files.state l.files).opened;
}

abbrev pub decreases-lines : goal.decreases-lines
decreases-lines g l = l.texts.budget
