use Rattle.std.proofs.Common.{◌≡◌, ◌∙◌, refl, ap, sym, subst, List, Bool, true, false, Option, if◌then◌else◌}
use Rattle.std.proofs.lemmas.Option.{same_Some}
use Rattle.unit_trait.specs.declared.kind.UnitName.{UnitName}
use Rattle.file_commands.specs.Notes.{CommandNote, notes_said}
use Rattle.scp_parser.specs.Command.{Detach}
use Rattle.command_session.specs.Live.{CommandState, live_in, beyond}
use Rattle.command_session.specs.LineEffects.{is_terminal, detach_port_reply}
use Rattle.command_session.specs.FileEffects.{detach_reply, detach_all_reply, detach_one_or_all}
use Rattle.command_session.specs.Nature.Telling.{Nothing, Ported}
use Rattle.command_session.specs.Answers.{AnswersByTables, detach_tables, OfDetach, of_unit}
use Rattle.command_session.specs.Doing.{told_by, IsTold}
use Rattle.command_session.proofs.DidLemmas.{did-as, did-of}
use Rattle.command_session.proofs.KeptLemmas.{lines-kept, keeps-none, port-no-file}
use Rattle.command_session.specs.PortAnswers.{DetachesUnit, detaches_by}
use Rattle.command_session.proofs.PortAnswerLemmas.{stays}
use Rattle.command_session.proofs.StepLemmas.{step-unchanged}
use Rattle.host_commands.specs.HostEffect.{MissesUnit}
use Rattle.host_commands.proofs.PortFaults.{not-missing}
use Rattle.host_commands.proofs.unit_commands.detach_one_or_every.Goals as goal

pub returns-in-None-clause-told : goal.returns-in-None-clause-told
returns-in-None-clause-told g c = λ told step whole tells text.
    let s = c.args.session.now in
    let new = c.detach_every.new.session in
    let old = g.L.Lines.state c.args.lines.now in
    let live = live_in s (beyond (g.F.Files.state c.args.files.now).files old whole) in
    let lined = subst (λ (u : Option UnitName). IsTold g.F.Files.tells s.machine.slots g.L.Lines.tells old s.machine.lines (Detach u)) c.in-None.is told in
    did-as (λ own. detach_one_or_all own live c.args.unit) (λ own. detach_all_reply own live) s.command c.detach_every.result
    (live_in new (beyond (g.F.Files.state c.detach_every.new.files).files (g.L.Lines.state c.detach_every.new.lines) whole)) tells text text (notes_said s.notes) (notes_said new.notes)
    (λ own. ap (λ u. detach_one_or_all own live u) c.in-None.is) (c.detach_every.ensures.told lined step whole tells text)

pub returns-in-Some-clause-told : goal.returns-in-Some-clause-told
returns-in-Some-clause-told g c = λ told step whole tells text.
    let s = c.args.session.now in
    let new = c.detach_port.new.session in
    let old = g.L.Lines.state c.args.lines.now in
    let files = (g.F.Files.state c.args.files.now).files in
    let live = live_in s (beyond files old whole) in
    let unit = c.in-Some.unit in
    let is : is_terminal unit ≡ true = sym c.is_terminal.ensures ∙ c.if-is_terminal.true in
    let named = subst (λ (u : Option UnitName). IsTold g.F.Files.tells s.machine.slots g.L.Lines.tells old s.machine.lines (Detach u)) c.in-Some.is told in
    let lined = subst (λ (b : Bool). told_by (if b then Ported else Nothing) g.F.Files.tells s.machine.slots g.L.Lines.tells old s.machine.lines) is named in
    did-of (λ (own : List CommandNote). detach_one_or_all own live c.args.unit) (detach_port_reply live unit.kind) s.command c.detach_port.result
    (live_in new (beyond files (g.L.Lines.state c.detach_port.new.lines) whole)) tells text text (notes_said s.notes) (notes_said new.notes)
    (λ own. ap (λ u. detach_one_or_all own live u) c.in-Some.is ∙ ap (λ (b : Bool). if b then detach_port_reply live unit.kind else detach_reply own live unit) is)
    (ap (λ (x : CommandState). notes_said x.notes) c.detach_port.ensures.rest) (c.detach_port.ensures.told lined whole files tells text)

pub returns-in-Some-clause-keeps : goal.returns-in-Some-clause-keeps
returns-in-Some-clause-keeps g c =
    keeps-none c.args.session.now.command c.detach_port.new.session.machine.time g.F.Files.tells c.detach_port.result c.args.session.now.notes c.detach_port.new.session.notes (g.F.Files.state c.args.files.now)
    (ap (λ (x : CommandState). x.notes) c.detach_port.ensures.rest) (port-no-file c.detach_port.result c.detach_port.ensures.port)

pub returns-in-Some-2-clause-told : goal.returns-in-Some-2-clause-told
returns-in-Some-2-clause-told g c = λ told step whole tells text.
    let s = c.args.session.now in
    let new = c.detach.new.session in
    let old = g.L.Lines.state c.args.lines.now in
    let live = live_in s (beyond (g.F.Files.state c.args.files.now).files old whole) in
    let unit = c.in-Some-2.unit in
    let same : c.in-Some.unit ≡ unit = same_Some c.in-Some.unit unit (sym c.in-Some.is ∙ c.in-Some-2.is) in
    let other : is_terminal unit ≡ false = ap is_terminal (sym same) ∙ sym c.is_terminal.ensures ∙ c.if-is_terminal.false in
    did-as (λ own. detach_one_or_all own live c.args.unit) (λ own. detach_reply own live unit) s.command c.detach.result
    (live_in new (beyond (g.F.Files.state c.detach.new.files).files old whole)) tells text text (notes_said s.notes) (notes_said new.notes)
    (λ own. ap (λ u. detach_one_or_all own live u) c.in-Some-2.is ∙ ap (λ (b : Bool). if b then detach_port_reply live unit.kind else detach_reply own live unit) other) (c.detach.ensures.told step old whole tells text)

pub returns-in-Some-2-clause-left : goal.returns-in-Some-2-clause-left
returns-in-Some-2-clause-left g c =
    lines-kept g.L.Lines.tells (g.L.Lines.state c.args.lines.now) c.args.session.now.machine.lines c.detach.new.session.machine.lines c.detach.ensures.terminals

pub returns-in-None-clause-line : goal.returns-in-None-clause-line
returns-in-None-clause-line g c =
    subst (λ (u : Option UnitName). DetachesUnit u c.detach_every.result (g.L.Lines.state c.args.lines.now) c.args.session.now.machine.lines (g.L.Lines.state c.detach_every.new.lines) c.detach_every.new.session.machine.lines)
    (sym c.in-None.is) c.detach_every.ensures.line

pub returns-in-Some-clause-line : goal.returns-in-Some-clause-line
returns-in-Some-clause-line g c =
    let old = g.L.Lines.state c.args.lines.now in
    let new = g.L.Lines.state c.detach_port.new.lines in
    let lines = c.args.session.now.machine.lines in
    let lines' = c.detach_port.new.session.machine.lines in
    let is : is_terminal c.in-Some.unit ≡ true = sym c.is_terminal.ensures ∙ c.if-is_terminal.true in
    subst (λ (u : Option UnitName). DetachesUnit u c.detach_port.result old lines new lines') (sym c.in-Some.is)
    (subst (λ (b : Bool). detaches_by b c.in-Some.unit.kind c.detach_port.result old lines new lines') (sym is) c.detach_port.ensures.line)

pub returns-in-Some-2-clause-line : goal.returns-in-Some-2-clause-line
returns-in-Some-2-clause-line g c =
    let old = g.L.Lines.state c.args.lines.now in
    let lines = c.args.session.now.machine.lines in
    let lines' = c.detach.new.session.machine.lines in
    let same : c.in-Some.unit ≡ c.in-Some-2.unit = same_Some c.in-Some.unit c.in-Some-2.unit (sym c.in-Some.is ∙ c.in-Some-2.is) in
    let other : is_terminal c.in-Some-2.unit ≡ false = ap is_terminal (sym same) ∙ sym c.is_terminal.ensures ∙ c.if-is_terminal.false in
    subst (λ (u : Option UnitName). DetachesUnit u c.detach.result old lines old lines') (sym c.in-Some-2.is)
    (subst (λ (b : Bool). detaches_by b c.in-Some-2.unit.kind c.detach.result old lines old lines') (sym other) (stays old lines lines' c.detach.ensures.terminals))

pub returns-in-Some-clause-step : goal.returns-in-Some-clause-step
returns-in-Some-clause-step g c =
    let files = (g.F.Files.state c.args.files.now).files in
    step-unchanged c.args.session.now c.detach_port.new.session files files c.detach_port.ensures.attached refl

-- ---- the answer, whatever files tell

pub returns-in-Some-clause-tables : goal.returns-in-Some-clause-tables
returns-in-Some-clause-tables g c =
    let m = c.args.session.now.machine in
    let is : is_terminal c.in-Some.unit ≡ true = sym c.is_terminal.ensures ∙ c.if-is_terminal.true in
    subst (λ (u : Option UnitName). AnswersByTables m (Detach u) c.detach_port.result) (sym c.in-Some.is)
    (subst (λ (b : Bool). detach_tables b m c.in-Some.unit c.detach_port.result) (sym is) tt)

pub returns-in-Some-clause-answers : goal.returns-in-Some-clause-answers
returns-in-Some-clause-answers g c =
    let is : is_terminal c.in-Some.unit ≡ true = sym c.is_terminal.ensures ∙ c.if-is_terminal.true in
    subst (λ (u : Option UnitName). OfDetach u c.detach_port.result) (sym c.in-Some.is)
    (subst (λ (b : Bool). of_unit b c.in-Some.unit c.detach_port.result) (sym is) c.detach_port.ensures.answers)

pub returns-in-Some-2-clause-tables : goal.returns-in-Some-2-clause-tables
returns-in-Some-2-clause-tables g c =
    let m = c.args.session.now.machine in
    let same : c.in-Some.unit ≡ c.in-Some-2.unit = same_Some c.in-Some.unit c.in-Some-2.unit (sym c.in-Some.is ∙ c.in-Some-2.is) in
    let other : is_terminal c.in-Some-2.unit ≡ false = ap is_terminal (sym same) ∙ sym c.is_terminal.ensures ∙ c.if-is_terminal.false in
    subst (λ (u : Option UnitName). AnswersByTables m (Detach u) c.detach.result) (sym c.in-Some-2.is)
    (subst (λ (b : Bool). detach_tables b m c.in-Some-2.unit c.detach.result) (sym other) c.detach.ensures.tables)

pub returns-in-Some-2-clause-answers : goal.returns-in-Some-2-clause-answers
returns-in-Some-2-clause-answers g c =
    let same : c.in-Some.unit ≡ c.in-Some-2.unit = same_Some c.in-Some.unit c.in-Some-2.unit (sym c.in-Some.is ∙ c.in-Some-2.is) in
    let other : is_terminal c.in-Some-2.unit ≡ false = ap is_terminal (sym same) ∙ sym c.is_terminal.ensures ∙ c.if-is_terminal.false in
    subst (λ (u : Option UnitName). OfDetach u c.detach.result) (sym c.in-Some-2.is)
    (subst (λ (b : Bool). of_unit b c.in-Some-2.unit c.detach.result) (sym other) c.detach.ensures.answers)

-- ---- a machine without a multiplexer

pub returns-in-None-clause-missing : goal.returns-in-None-clause-missing
returns-in-None-clause-missing g c =
    subst (λ (u : Option UnitName). MissesUnit (Detach u) c.detach_every.result c.args.session.now.machine.units) (sym c.in-None.is) tt

pub returns-in-Some-clause-missing : goal.returns-in-Some-clause-missing
returns-in-Some-clause-missing g c =
    subst (λ (u : Option UnitName). MissesUnit (Detach u) c.detach_port.result c.args.session.now.machine.units) (sym c.in-Some.is) c.detach_port.ensures.missing

pub returns-in-Some-2-clause-missing : goal.returns-in-Some-2-clause-missing
returns-in-Some-2-clause-missing g c =
    let same : c.in-Some.unit ≡ c.in-Some-2.unit = same_Some c.in-Some.unit c.in-Some-2.unit (sym c.in-Some.is ∙ c.in-Some-2.is) in
    let other : is_terminal c.in-Some-2.unit ≡ false = ap is_terminal (sym same) ∙ sym c.is_terminal.ensures ∙ c.if-is_terminal.false in
    subst (λ (u : Option UnitName). MissesUnit (Detach u) c.detach.result c.args.session.now.machine.units) (sym c.in-Some-2.is)
    (not-missing c.in-Some-2.unit c.detach.result c.args.session.now.machine.units other)
