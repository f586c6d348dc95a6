use Rattle.std.proofs.Common.{refl, arith, ap, sym, ◌∙◌, subst, List, Option}
use Rattle.file_commands.specs.declared.note.FaultNote.{FaultNote}
use Rattle.file_commands.specs.Notes.{Note, notes_said}
use Rattle.file_commands.specs.OwnFiles.{AreOwn}
use Rattle.host_lines.specs.Traffic.{Answer as LineAnswer}
use Rattle.scp_script.specs.Perform.{beginning, SaysNoMore}
use Rattle.scp_script.specs.Loop.{KeptCause, AreKeptFor}
use Rattle.scp_script.proofs.KeptLemmas.{kept-within}
use Rattle.unit_files.specs.Open.{AllOpen, Around}
use Rattle.unit_files.specs.Attachments.{Held}
use Rattle.nova_machine.specs.Comes.{output}
use Rattle.command_session.specs.Live.{CommandState, beyond}
use Rattle.command_session.specs.LinesLeft.{LinesLeft}
use Rattle.nova_top.proofs.PortLemmas.{apart-at-first, lines-at-end}
use Rattle.nova_top.proofs.ProgramLemmas.{lines-told, unwritten-finish}
use Rattle.nova_top.proofs.UnsaidLemmas.{bare-step, either-said}
use Rattle.nova_top.proofs.program.run_session.Goals as goal

pub returns-clause-ended : goal.returns-clause-ended
returns-clause-ended g c = (
  c.perform-finish.result,
  c.session.inside.watch,
  c.session.inside.machine,
  c.status.ensures,
  refl,
  (λ source used sink whole first.
      let old = beyond (g.F.Files.state c.args.files.now).files (g.L.Lines.state c.args.lines.now) whole in
      let before = output (g.S.Sink.written c.args.output.now) (g.L.Lines.state c.args.lines.now).sent in
      let after = output (g.S.Sink.written c.perform-finish.new.out) (g.L.Lines.state c.perform-finish.new.lines).sent in
      either-said
      (subst (λ (l : List FaultNote). SaysNoMore (λ (w : List LineAnswer) (n : List Note). beginning c.args.session (beyond (g.F.Files.state c.args.files.now).files (g.L.Lines.state c.args.lines.now) w) c.args.opening.now (g.C.Source.left c.args.input.now) n)
      g.L.Lines.tells whole (g.C.Source.left c.perform-finish.new.input) before after (notes_said c.args.session.notes) (notes_said l)) (sym (ap (λ (s : CommandState). s.notes) c.session.view_is)))
      (lines-told c.args.session c.perform-finish.new.session _ c.args.opening.now old (beyond (g.F.Files.state c.perform-finish.new.files).files (g.L.Lines.state c.perform-finish.new.lines) whole)
      (g.C.Source.left c.args.input.now) (g.C.Source.left c.perform-finish.new.input) before after c.perform-finish.result c.session.view_is c.perform-finish.ensures.keys)
      (c.perform-finish.ensures.told (omega (arith, c.requires.command, c.requires.budget)) source used
      (λ tells. apart-at-first c.args.session.machine.units (g.L.Lines.state c.args.lines.now) c.args.session.machine.lines c.requires.lines) sink
      (bare-step c.args.session.machine (g.F.Files.state c.args.files.now).files c.requires.bare) whole first)),
  c.perform-finish.ensures.cause,
)

pub returns-clause-ports : goal.returns-clause-ports
returns-clause-ports g c =
    let old = g.L.Lines.state c.args.lines.now in
    let new = g.L.Lines.state c.perform-finish.new.lines in
    lines-at-end c.args.session.machine.units g.L.Lines.tells old new c.args.session.machine.lines c.session.inside.machine c.requires.lines
    (subst (λ (s : CommandState). LinesLeft g.L.Lines.tells old c.args.session.machine.lines new s.machine.lines) (sym c.session.view_is) c.perform-finish.ensures.lines)

pub returns-clause-unwritten : goal.returns-clause-unwritten
returns-clause-unwritten g c = λ is.
    let same = sym (ap (λ (s : CommandState). s.machine.slots) c.session.view_is) in
    let notes = sym (ap (λ (s : CommandState). s.notes) c.session.view_is) in
    let P : List (Option Held) → List FaultNote → Type 0 = λ slots kept. KeptCause c.perform-finish.result slots kept (g.F.Files.state c.args.files.now) (g.F.Files.state c.perform-finish.new.files) in
    let kept = subst (λ (slots : List (Option Held)). P slots c.session.inside.notes.items) same (subst (λ (l : List FaultNote). P c.perform-finish.new.session.machine.slots l) notes c.perform-finish.ensures.kept) in
    unwritten-finish c.perform-finish.result c.session.inside.machine c.session.inside.notes.items (g.F.Files.state c.args.files.now) (g.F.Files.state c.perform-finish.new.files)
    c.perform-finish.ensures.cause.exit (sym c.status.ensures ∙ is) kept

pub returns-clause-files : goal.returns-clause-files
returns-clause-files g c = λ base around.
    let same = sym (ap (λ (s : CommandState). s.machine.slots) c.session.view_is) in (
      subst (λ (slots : List (Option Held)). AllOpen slots (g.F.Files.state c.perform-finish.new.files).opened) same c.perform-finish.ensures.open,
      subst (λ (slots : List (Option Held)). Around slots base (g.F.Files.state c.perform-finish.new.files).opened) same (c.perform-finish.ensures.around base around),
    )

pub returns-clause-unread : goal.returns-clause-unread
returns-clause-unread g c = λ off. c.perform-finish.ensures.unread off

pub returns-clause-whose : goal.returns-clause-whose
returns-clause-whose g c =
    let new = c.perform-finish.new.session in
    let notes = sym (ap (λ (s : CommandState). s.notes) c.session.view_is) in (
      new.machine.slots,
      subst (λ (l : List FaultNote). AreOwn c.args.session.machine.slots new.machine.slots c.args.session.notes l (g.F.Files.state c.args.files.now) (g.F.Files.state c.perform-finish.new.files))
          notes c.perform-finish.ensures.whose,
    )

pub returns-clause-keeps : goal.returns-clause-keeps
returns-clause-keeps g c =
    let notes = sym (ap (λ (s : CommandState). s.notes) c.session.view_is) in
    let kept = c.perform-finish.ensures.keeps in
    let old = g.F.Files.state c.args.files.now in
    let new = g.F.Files.state c.perform-finish.new.files in
    let budget = c.args.opening.now.budget in
    subst (λ (l : List FaultNote). AreKeptFor g.F.Files.tells budget c.args.session.notes l old new) notes
    (kept-within g.F.Files.tells kept.spent budget c.args.session.notes c.perform-finish.new.session.notes old new kept.within kept.kept)
