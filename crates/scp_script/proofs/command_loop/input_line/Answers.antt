use Rattle.std.proofs.Common.{Some, None, ◌≡◌, ◌<◌, ◌-◌, [], Ok, Err, refl, ap, sym, ◌∙◌, subst, arith, ◌++◌, List}
use Rattle.unit_files.specs.Open.{Around}
use Rattle.file_commands.specs.Notes.{Note, notes_said}
use Rattle.scp_parser.specs.declared.fault.ParseFault.TheVariants.{TooLong}
use Rattle.command_session.specs.declared.fault.CommandFault.TheVariants.{Parse}
use Rattle.command_session.specs.declared.next.Next.TheVariants.{Go}
use Rattle.unit_files.specs.InStep.{InStep}
use Rattle.nova_machine.specs.Machine.{attached_files}
use Rattle.nova_machine.specs.Comes.{output}
use Rattle.telnet_lines.specs.Many.{AreApart}
use Rattle.state_transfer.specs.SavedValid.{AreStandard}
use Rattle.command_session.specs.Live.{CommandState, live_in, beyond}
use Rattle.command_session.specs.LinesLeft.{LinesLeft}
use Rattle.command_session.proofs.PortLemmas.{left-same}
use Rattle.command_session.specs.Doing.{Closes}
use Rattle.command_session.specs.Asked.{asked}
use Rattle.command_session.specs.DiskFile.{StaysWhereAlone}
use Rattle.command_session.proofs.StepLemmas.{stays-alone}
use Rattle.command_session.proofs.GrowLemmas.{grows-both}
use Rattle.command_session.proofs.AskedLemmas.{long-asked}
use Rattle.scp_commands.proofs.KindLemmas.{standard-by}
use Rattle.scp_script.specs.declared.progress.Progress.TheVariants.{IsOver}
use Rattle.scp_script.specs.declared.progress.Finish.TheVariants.{Commands, Console, Input}
use Rattle.session_texts.specs.Scripts.{checked}
use Rattle.session_texts.specs.Actions.{Texts, texts_of, coming}
use Rattle.file_commands.specs.AllUnits.{keeper}
use Rattle.unit_list.specs.Bus.{kinds_of}
use Rattle.command_session.specs.declared.next.Next.TheVariants.{Go}
use Rattle.scp_script.proofs.KeptLemmas.{kept-last, kept-none, kept-paid}
use Rattle.scp_script.specs.Loop.{IsShort, Answers, opens_asked, AreKeptFor, session_of}
use Rattle.scp_script.proofs.TextLemmas.{answers-none}
use Rattle.scp_script.proofs.LineLemmas.{none-read, prompt-refused, budget-spent, input-failed}
use Rattle.scp_script.proofs.NoteLemmas.{line-stepped, over-alone, input-closed, left-at, never-short, spent-line, answer-kept}
use Rattle.scp_script.specs.Session.{prompt_text}
use Rattle.scp_script.proofs.PortLemmas.{left-kept}
use Rattle.scp_script.proofs.GrowLemmas.{grows-by, grows-part, stays-same, stays-kept}
use Rattle.scp_script.proofs.UsedLemmas.{line-used, end-used, lines-told, still-ended}
use Rattle.session_texts.specs.declared.texts.Texts.{Texts as HeldTexts}
use Rattle.session_texts.proofs.OpenLemmas.{stack-as}
use Rattle.scp_script.proofs.SpendingLemmas.{opens-failed, opens-since, paid-text, denied-text}
use Rattle.scp_script.proofs.command_loop.input_line.Goals as goal

pub returns-in-Err-clause-told : goal.returns-in-Err-clause-told
returns-in-Err-clause-told g c = λ enough source apart sink step whole begins next.
    let session = c.args.session.now in
    let input = g.C.Source.left c.args.input.now in
    let ports = g.L.Lines.state c.args.ports.now in
    let before = output (g.S.Sink.written c.args.out.now) ports.sent in
    let after = output (g.S.Sink.written c.ask.new.out) ports.sent in
    let old = session_of session (beyond (g.F.Files.state c.args.files.now).files ports whole) c.args.lines.now input [] in
    over-alone old old Console before after (notes_said session.notes) (notes_said session.notes) refl
    (prompt-refused old old before after (λ i. texts_of (c.requires.actions i) (c.requires.scripts i)) c.requires.reads refl (none-read c.args.lines.now.reader.open_ input) (c.in-Err.ensures.told sink) refl)

pub returns-in-Line-clause-told : goal.returns-in-Line-clause-told
returns-in-Line-clause-told g c = λ enough source apart sink step whole begins next.
    let session = c.args.session.now in
    let paid = c.read_paid.new.session in
    let ports = g.L.Lines.state c.args.ports.now in
    let ports' = g.L.Lines.state c.answer.new.lines in
    let named = beyond (g.F.Files.state c.args.files.now).files ports whole in
    let lines = c.args.lines.now in
    let now = c.read_paid.new.lines in
    let input = g.C.Source.left c.args.input.now in
    let left = g.C.Source.left c.read_paid.new.input in
    let before = output (g.S.Sink.written c.args.out.now) ports.sent in
    let mid = output (g.S.Sink.written c.ask.new.out) ports.sent in
    let after = output (g.S.Sink.written c.answer.new.out) ports'.sent in
    let done = c.answer.new.session in
    let last = record now { texts = c.answer.new.texts } in
    let tells = g.S.Sink.tells in
    let result = c.answer.result in
    let what = asked c.line.result.now in
    let live = live_in done (beyond (g.F.Files.state c.answer.new.files).files ports' whole) in
    let is = c.read_paid.ensures.rest in
    let none = (λ i. coming (c.read_paid.ensures.texts i)) ∙ (λ i. texts_of (c.requires.actions i) (c.requires.scripts i)) in
    let reads = c.in-Line.ensures.reads source in
    let used = line-used g.F.Files.tells g.L.Lines.tells session paid named lines now input now.reader.line c.line.result.now (ap (λ (x : CommandState). x.machine) is) (λ i. texts_of (c.requires.actions i) (c.requires.scripts i))
    c.requires.reads reads.0 (ap (λ (t : Texts). t.scripts) none) c.line.ensures next in
    let spent = spent-line session.command paid.command lines.budget now.budget lines.reader.open_ input now.reader.line reads.0 reads.1 c.read_paid.ensures.command in
    let less : session.command < done.command = omega (arith, c.read_paid.ensures.command, c.in-Line.ensures.pays, c.answer.ensures.command, enough) in
    let stepped = subst (λ (x : CommandState). InStep (attached_files x.machine) (g.F.Files.state c.args.files.now).files) (sym is) step in
    let told = subst (λ (x : CommandState). Answers x.limit (live_in x named) (texts_of [] []) what done.command result live (coming c.answer.new.texts) tells mid after (notes_said x.notes) (notes_said done.notes)) is
    (subst (λ (t : Texts). Answers paid.limit (live_in paid named) t what done.command result live (coming c.answer.new.texts) tells mid after (notes_said paid.notes) (notes_said done.notes)) none
    (subst (λ n. Answers paid.limit (live_in paid named) (coming now.texts) what n result live (coming c.answer.new.texts) tells mid after (notes_said paid.notes) (notes_said done.notes)) (sym c.answer.ensures.command)
    (c.answer.ensures.told used (λ tells. subst (λ (x : CommandState). AreApart ports x.machine.lines) (sym is) (apart tells)) stepped whole begins))) in
    let short = λ (own : List Note) (e : notes_said done.notes ≡ notes_said session.notes ++ own).
    subst (λ (x : CommandState). IsShort what done.command result (live_in x named) live own mid after) is
    (subst (λ n. IsShort what n result (live_in paid named) live own mid after) (sym c.answer.ensures.command)
    (c.answer.ensures.short used stepped whole (λ restore. begins) own (e ∙ ap (λ (x : CommandState). notes_said x.notes ++ own) (sym is)))) in
    let limit = c.answer.ensures.limit ∙ ap (λ (x : CommandState). x.limit) is in
    line-stepped (session_of session named lines input []) (session_of done (beyond (g.F.Files.state c.answer.new.files).files ports' whole) last left []) now.reader.line what result tells before mid after
    (notes_said session.notes) (notes_said done.notes) sink (λ i. texts_of (c.requires.actions i) (c.requires.scripts i)) c.requires.reads reads.0 (ap asked (sym c.line.ensures))
    (record { spent = c.answer.ensures.command ∙ spent; limit = limit; budget = reads.1; open_ = reads.2; reading = c.read_paid.ensures.reading; prompt = c.read_paid.ensures.prompt; reads = reads.3 }) less
    (c.in-Ok.ensures.told sink) refl told short

pub returns-in-Line-clause-around : goal.returns-in-Line-clause-around
returns-in-Line-clause-around g c = λ base around.
    c.answer.ensures.around base (subst (λ (x : CommandState). Around x.machine.slots base (g.F.Files.state c.args.files.now).opened) (sym c.read_paid.ensures.rest) around)

pub returns-in-TooLong-clause-told : goal.returns-in-TooLong-clause-told
returns-in-TooLong-clause-told g c = λ enough source apart sink step whole begins next.
    let session = c.args.session.now in
    let paid = c.read_paid.new.session in
    let ports = g.L.Lines.state c.args.ports.now in
    let named = beyond (g.F.Files.state c.args.files.now).files ports whole in
    let lines = c.args.lines.now in
    let now = c.read_paid.new.lines in
    let input = g.C.Source.left c.args.input.now in
    let left = g.C.Source.left c.read_paid.new.input in
    let before = output (g.S.Sink.written c.args.out.now) ports.sent in
    let mid = output (g.S.Sink.written c.ask.new.out) ports.sent in
    let after = output (g.S.Sink.written c.deny_line.new.out) ports.sent in
    let last = record now { texts = c.deny_line.new.texts } in
    let tells = g.S.Sink.tells in
    let result = c.deny_line.result in
    let live = live_in session named in
    let is = c.read_paid.ensures.rest in
    let now_state = record session { command = paid.command } in
    let none = (λ i. coming (c.read_paid.ensures.texts i)) ∙ (λ i. texts_of (c.requires.actions i) (c.requires.scripts i)) in
    let reads = c.in-TooLong.ensures.reads source in
    let what = asked reads.0 in
    let long : what ≡ Err (Parse TooLong) = long-asked reads.0 reads.2 in
    let spent = spent-line session.command paid.command lines.budget now.budget lines.reader.open_ input reads.0 reads.1 reads.3 c.read_paid.ensures.command in
    let less : session.command < paid.command = omega (arith, c.read_paid.ensures.command, c.in-TooLong.ensures.pays, enough) in
    let said = answers-none paid.limit (live_in paid named) (coming now.texts) what paid.command result (coming c.deny_line.new.texts) tells mid after (notes_said paid.notes)
    (λ notes. c.deny_line.ensures.told named ports.sent notes what (ap (checked now.texts.scripts) long)) in
    let told = subst (λ (x : CommandState). Answers x.limit (live_in x named) (texts_of [] []) what paid.command result (live_in x named) (coming c.deny_line.new.texts) tells mid after (notes_said x.notes) (notes_said x.notes)) is
    (subst (λ (t : Texts). Answers paid.limit (live_in paid named) t what paid.command result (live_in paid named) (coming c.deny_line.new.texts) tells mid after (notes_said paid.notes) (notes_said paid.notes)) none said) in
    let short = λ (own : List Note) (e : notes_said session.notes ≡ notes_said session.notes ++ own). never-short what paid.command result live live own mid after c.deny_line.ensures.memory in
    left-at session paid now_state named lines last input left result before after is
    (line-stepped (session_of session named lines input []) (session_of now_state named last left []) reads.0 what result tells before mid after
    (notes_said session.notes) (notes_said session.notes) sink (λ i. texts_of (c.requires.actions i) (c.requires.scripts i)) c.requires.reads reads.1 refl
    (record { spent = spent; limit = refl; budget = reads.3; open_ = reads.4; reading = c.read_paid.ensures.reading; prompt = c.read_paid.ensures.prompt; reads = reads.5 }) less
    (c.in-Ok.ensures.told sink) refl told short)

pub returns-in-Ok-detach_all-clause-told : goal.returns-in-Ok-detach_all-clause-told
returns-in-Ok-detach_all-clause-told g c = λ enough source apart sink step whole begins next.
    let session = c.args.session.now in
    let paid = c.read_paid.new.session in
    let ports = g.L.Lines.state c.args.ports.now in
    let ports' = g.L.Lines.state c.detach_all.new.lines in
    let named = beyond (g.F.Files.state c.args.files.now).files ports whole in
    let lines = c.args.lines.now in
    let now = c.read_paid.new.lines in
    let input = g.C.Source.left c.args.input.now in
    let left = g.C.Source.left c.read_paid.new.input in
    let before = output (g.S.Sink.written c.args.out.now) ports.sent in
    let after = output (g.S.Sink.written c.ask.new.out) ports'.sent in
    let done = c.detach_all.new.self in
    let is = c.read_paid.ensures.rest in
    let reads = c.in-End.ensures.reads source in
    let same : paid.command ≡ session.command = omega (arith, c.read_paid.ensures.command, reads.1) in
    let used = end-used g.F.Files.tells g.L.Lines.tells session paid named lines input (ap (λ (x : CommandState). x.machine) is) (λ i. texts_of (c.requires.actions i) (c.requires.scripts i)) c.requires.reads reads.0 next in
    let now_live = live_in done (beyond (g.F.Files.state c.detach_all.new.files).files ports' whole) in
    let kept_step = InStep (attached_files session.machine) (g.F.Files.state c.args.files.now).files in
    let closes = subst (λ n. Closes kept_step n (live_in session named) now_live None (notes_said session.notes) (notes_said done.notes)) same
    (subst (λ (x : CommandState). Closes (InStep (attached_files x.machine) (g.F.Files.state c.args.files.now).files) x.command (live_in x named) now_live None (notes_said x.notes) (notes_said done.notes)) is (c.in-Ok-detach_all.ensures.closes (lines-told g.L.Lines.tells ports paid.machine.lines used (λ tells. subst (λ (x : CommandState). AreApart ports x.machine.lines) (sym is) (apart tells))) whole)) in
    input-closed (session_of session named lines input []) (session_of done (beyond (g.F.Files.state c.detach_all.new.files).files ports' whole) now left []) None before after
    (notes_said session.notes) (notes_said done.notes) (λ i. texts_of (c.requires.actions i) (c.requires.scripts i)) c.requires.reads reads.0 kept_step step closes reads.2 (c.in-Ok.ensures.told sink) c.detach_all.ensures.sent

pub returns-in-Err-detach_all-clause-told : goal.returns-in-Err-detach_all-clause-told
returns-in-Err-detach_all-clause-told g c = λ enough source apart sink step whole begins next.
    let session = c.args.session.now in
    let paid = c.read_paid.new.session in
    let ports = g.L.Lines.state c.args.ports.now in
    let ports' = g.L.Lines.state c.detach_all.new.lines in
    let named = beyond (g.F.Files.state c.args.files.now).files ports whole in
    let lines = c.args.lines.now in
    let now = c.read_paid.new.lines in
    let input = g.C.Source.left c.args.input.now in
    let left = g.C.Source.left c.read_paid.new.input in
    let before = output (g.S.Sink.written c.args.out.now) ports.sent in
    let after = output (g.S.Sink.written c.ask.new.out) ports'.sent in
    let done = c.detach_all.new.self in
    let is = c.read_paid.ensures.rest in
    let reads = c.in-End.ensures.reads source in
    let same : paid.command ≡ session.command = omega (arith, c.read_paid.ensures.command, reads.1) in
    let used = end-used g.F.Files.tells g.L.Lines.tells session paid named lines input (ap (λ (x : CommandState). x.machine) is) (λ i. texts_of (c.requires.actions i) (c.requires.scripts i)) c.requires.reads reads.0 next in
    let now_live = live_in done (beyond (g.F.Files.state c.detach_all.new.files).files ports' whole) in
    let kept_step = InStep (attached_files session.machine) (g.F.Files.state c.args.files.now).files in
    let closes = subst (λ n. Closes kept_step n (live_in session named) now_live (Some c.in-Err-detach_all._fault.unit) (notes_said session.notes) (notes_said done.notes)) same
    (subst (λ (x : CommandState). Closes (InStep (attached_files x.machine) (g.F.Files.state c.args.files.now).files) x.command (live_in x named) now_live (Some c.in-Err-detach_all._fault.unit) (notes_said x.notes) (notes_said done.notes)) is (c.in-Err-detach_all.ensures.closes (lines-told g.L.Lines.tells ports paid.machine.lines used (λ tells. subst (λ (x : CommandState). AreApart ports x.machine.lines) (sym is) (apart tells))) whole)) in
    input-closed (session_of session named lines input []) (session_of done (beyond (g.F.Files.state c.detach_all.new.files).files ports' whole) now left []) (Some c.in-Err-detach_all._fault.unit) before after
    (notes_said session.notes) (notes_said done.notes) (λ i. texts_of (c.requires.actions i) (c.requires.scripts i)) c.requires.reads reads.0 kept_step step closes reads.2 (c.in-Ok.ensures.told sink) c.detach_all.ensures.sent

pub returns-in-Unpaid-clause-told : goal.returns-in-Unpaid-clause-told
returns-in-Unpaid-clause-told g c = λ enough source apart sink step whole begins next.
    let session = c.args.session.now in
    let paid = c.read_paid.new.session in
    let ports = g.L.Lines.state c.args.ports.now in
    let named = beyond (g.F.Files.state c.args.files.now).files ports whole in
    let lines = c.args.lines.now in
    let now = c.read_paid.new.lines in
    let input = g.C.Source.left c.args.input.now in
    let left = g.C.Source.left c.read_paid.new.input in
    let before = output (g.S.Sink.written c.args.out.now) ports.sent in
    let after = output (g.S.Sink.written c.ask.new.out) ports.sent in
    let is = c.read_paid.ensures.rest in
    let reads = c.in-Unpaid.ensures.reads source in
    let now_state = record session { command = paid.command } in
    let old = session_of session named lines input [] in
    let new = session_of now_state named now left [] in
    left-at session paid now_state named lines now input left (IsOver Commands) before after is
    (over-alone old new Commands before after (notes_said session.notes) (notes_said session.notes) refl
    (budget-spent old new before after (λ i. texts_of (c.requires.actions i) (c.requires.scripts i)) c.requires.reads reads.0 refl reads.1 (c.in-Ok.ensures.told sink) refl))

pub returns-in-Failed-clause-told : goal.returns-in-Failed-clause-told
returns-in-Failed-clause-told g c = λ enough source apart sink step whole begins next.
    let session = c.args.session.now in
    let paid = c.read_paid.new.session in
    let ports = g.L.Lines.state c.args.ports.now in
    let named = beyond (g.F.Files.state c.args.files.now).files ports whole in
    let lines = c.args.lines.now in
    let now = c.read_paid.new.lines in
    let input = g.C.Source.left c.args.input.now in
    let left = g.C.Source.left c.read_paid.new.input in
    let before = output (g.S.Sink.written c.args.out.now) ports.sent in
    let after = output (g.S.Sink.written c.ask.new.out) ports.sent in
    let is = c.read_paid.ensures.rest in
    let reads = c.in-Failed.ensures.reads source in
    let now_state = record session { command = paid.command } in
    let old = session_of session named lines input [] in
    let new = session_of now_state named now left [] in
    left-at session paid now_state named lines now input left (IsOver Input) before after is
    (over-alone old new Input before after (notes_said session.notes) (notes_said session.notes) refl
    (input-failed old new before after reads.0 (λ i. texts_of (c.requires.actions i) (c.requires.scripts i)) c.requires.reads reads.1 refl reads.2 (c.in-Ok.ensures.told sink) refl))

pub returns-in-Line-clause-kept : goal.returns-in-Line-clause-kept
returns-in-Line-clause-kept g c =
    answer-kept c.answer.result _ _ c.answer.new.session.machine.slots c.answer.new.session.notes (g.F.Files.state c.args.files.now) (g.F.Files.state c.answer.new.files) c.answer.ensures.counts

pub returns-in-TooLong-clause-kept : goal.returns-in-TooLong-clause-kept
returns-in-TooLong-clause-kept g c =
    answer-kept c.deny_line.result _ _ _ _ (g.F.Files.state c.args.files.now) (g.F.Files.state c.args.files.now) c.deny_line.ensures.counts

pub returns-in-Err-detach_all-clause-kept : goal.returns-in-Err-detach_all-clause-kept
returns-in-Err-detach_all-clause-kept g c = c.in-Err-detach_all.ensures.cause

pub returns-in-Err-detach_all-clause-around : goal.returns-in-Err-detach_all-clause-around
returns-in-Err-detach_all-clause-around g c = λ base around.
    c.in-Err-detach_all.ensures.around base (subst (λ (x : CommandState). Around x.machine.slots base (g.F.Files.state c.args.files.now).opened) (sym c.read_paid.ensures.rest) around)

pub returns-in-Line-clause-ports : goal.returns-in-Line-clause-ports
returns-in-Line-clause-ports g c =
    subst (λ (x : CommandState). LinesLeft g.L.Lines.tells (g.L.Lines.state c.args.ports.now) x.machine.lines (g.L.Lines.state c.answer.new.lines) c.answer.new.session.machine.lines)
    c.read_paid.ensures.rest c.answer.ensures.lines

pub returns-in-TooLong-clause-ports : goal.returns-in-TooLong-clause-ports
returns-in-TooLong-clause-ports g c =
    left-kept g.L.Lines.tells (g.L.Lines.state c.args.ports.now) c.args.session.now.machine.lines c.read_paid.new.session.machine.lines
    (ap (λ (x : CommandState). x.machine.lines) c.read_paid.ensures.rest)

pub returns-in-Unpaid-clause-ports : goal.returns-in-Unpaid-clause-ports
returns-in-Unpaid-clause-ports g c =
    left-kept g.L.Lines.tells (g.L.Lines.state c.args.ports.now) c.args.session.now.machine.lines c.read_paid.new.session.machine.lines
    (ap (λ (x : CommandState). x.machine.lines) c.read_paid.ensures.rest)

pub returns-in-Failed-clause-ports : goal.returns-in-Failed-clause-ports
returns-in-Failed-clause-ports g c =
    left-kept g.L.Lines.tells (g.L.Lines.state c.args.ports.now) c.args.session.now.machine.lines c.read_paid.new.session.machine.lines
    (ap (λ (x : CommandState). x.machine.lines) c.read_paid.ensures.rest)

pub returns-in-Ok-detach_all-clause-ports : goal.returns-in-Ok-detach_all-clause-ports
returns-in-Ok-detach_all-clause-ports g c =
    subst (λ (x : CommandState). LinesLeft g.L.Lines.tells (g.L.Lines.state c.args.ports.now) x.machine.lines (g.L.Lines.state c.detach_all.new.lines) c.detach_all.new.self.machine.lines)
    c.read_paid.ensures.rest c.detach_all.ensures.left

pub returns-in-Err-detach_all-clause-ports : goal.returns-in-Err-detach_all-clause-ports
returns-in-Err-detach_all-clause-ports g c =
    subst (λ (x : CommandState). LinesLeft g.L.Lines.tells (g.L.Lines.state c.args.ports.now) x.machine.lines (g.L.Lines.state c.detach_all.new.lines) c.detach_all.new.self.machine.lines)
    c.read_paid.ensures.rest c.detach_all.ensures.left

pub returns-in-Err-clause-ports : goal.returns-in-Err-clause-ports
returns-in-Err-clause-ports g c = left-same g.L.Lines.tells (g.L.Lines.state c.args.ports.now) c.args.session.now.machine.lines

-- ---- lines that tell nothing

pub returns-in-Line-clause-still : goal.returns-in-Line-clause-still
returns-in-Line-clause-still g c = λ source untold whole next.
    let session = c.args.session.now in
    let paid = c.read_paid.new.session in
    let named = beyond (g.F.Files.state c.args.files.now).files (g.L.Lines.state c.args.ports.now) whole in
    let now = c.read_paid.new.lines in
    let none : coming now.texts ≡ texts_of [] [] = (λ i. coming (c.read_paid.ensures.texts i)) ∙ (λ i. texts_of (c.requires.actions i) (c.requires.scripts i)) in
    let reads = c.in-Line.ensures.reads source in
    c.answer.ensures.still
    (line-used g.F.Files.tells g.L.Lines.tells session paid named c.args.lines.now now (g.C.Source.left c.args.input.now) now.reader.line c.line.result.now (ap (λ (x : CommandState). x.machine) c.read_paid.ensures.rest)
    (λ i. texts_of (c.requires.actions i) (c.requires.scripts i)) c.requires.reads reads.0 (ap (λ (t : Texts). t.scripts) none) c.line.ensures next) untold

pub returns-in-Ok-detach_all-clause-still : goal.returns-in-Ok-detach_all-clause-still
returns-in-Ok-detach_all-clause-still g c = λ source untold whole next.
    let session = c.args.session.now in
    let paid = c.read_paid.new.session in
    let ports = g.L.Lines.state c.args.ports.now in
    let named = beyond (g.F.Files.state c.args.files.now).files ports whole in
    let reads = c.in-End.ensures.reads source in
    still-ended g.L.Lines.tells (Ok Go) ports (g.L.Lines.state c.detach_all.new.lines) paid.machine.lines c.detach_all.new.self.machine.lines untold
    (end-used g.F.Files.tells g.L.Lines.tells session paid named c.args.lines.now (g.C.Source.left c.args.input.now) (ap (λ (x : CommandState). x.machine) c.read_paid.ensures.rest)
    (λ i. texts_of (c.requires.actions i) (c.requires.scripts i)) c.requires.reads reads.0 next) c.in-Ok-detach_all.ensures.line

pub returns-in-Err-detach_all-clause-still : goal.returns-in-Err-detach_all-clause-still
returns-in-Err-detach_all-clause-still g c = λ source untold whole next. ap (λ l. g.L.Lines.state l) c.in-Err-detach_all.ensures.unasked

-- ---- the notes

pub returns-in-Ok-detach_all-clause-keeps : goal.returns-in-Ok-detach_all-clause-keeps
returns-in-Ok-detach_all-clause-keeps g c =
    let units = c.args.lines.now.budget - c.read_paid.new.lines.budget in
    let old = g.F.Files.state c.args.files.now in
    let new = g.F.Files.state c.detach_all.new.files in
    let done = c.detach_all.new.self in
    subst (λ (x : CommandState). AreKeptFor g.F.Files.tells units x.notes done.notes old new) c.read_paid.ensures.rest
    (kept-last c.read_paid.new.session.command done.machine.time g.F.Files.tells (keeper c.detach_all.result) c.read_paid.new.session.notes done.notes old new units c.detach_all.ensures.keeps)

pub returns-in-Err-detach_all-clause-keeps : goal.returns-in-Err-detach_all-clause-keeps
returns-in-Err-detach_all-clause-keeps g c =
    let units = c.args.lines.now.budget - c.read_paid.new.lines.budget in
    let old = g.F.Files.state c.args.files.now in
    let new = g.F.Files.state c.detach_all.new.files in
    let done = c.detach_all.new.self in
    subst (λ (x : CommandState). AreKeptFor g.F.Files.tells units x.notes done.notes old new) c.read_paid.ensures.rest
    (kept-last c.read_paid.new.session.command done.machine.time g.F.Files.tells (keeper c.detach_all.result) c.read_paid.new.session.notes done.notes old new units c.detach_all.ensures.keeps)

pub returns-in-Line-clause-keeps : goal.returns-in-Line-clause-keeps
returns-in-Line-clause-keeps g c =
    let lines = c.args.lines.now in
    let now = c.read_paid.new.lines in
    let old = g.F.Files.state c.args.files.now in
    let new = g.F.Files.state c.answer.new.files in
    let notes = c.answer.new.session.notes in
    subst (λ (x : CommandState). AreKeptFor g.F.Files.tells (lines.budget - now.budget) x.notes notes old new) c.read_paid.ensures.rest
    (kept-paid g.F.Files.tells (opens_asked (asked c.line.result.now)) lines.budget now.budget c.read_paid.new.session.notes notes old new c.in-Line.ensures.pays c.answer.ensures.keeps)

pub returns-in-Err-clause-keeps : goal.returns-in-Err-clause-keeps
returns-in-Err-clause-keeps g c = kept-none _ _ c.args.session.now.notes (g.F.Files.state c.args.files.now)

pub returns-in-TooLong-clause-keeps : goal.returns-in-TooLong-clause-keeps
returns-in-TooLong-clause-keeps g c =
    let notes = c.args.session.now.notes in
    let files = g.F.Files.state c.args.files.now in
    subst (λ (x : CommandState). AreKeptFor g.F.Files.tells (c.args.lines.now.budget - c.read_paid.new.lines.budget) notes x.notes files files) (sym c.read_paid.ensures.rest) (kept-none _ _ notes files)

pub returns-in-Unpaid-clause-keeps : goal.returns-in-Unpaid-clause-keeps
returns-in-Unpaid-clause-keeps g c =
    let notes = c.args.session.now.notes in
    let files = g.F.Files.state c.args.files.now in
    subst (λ (x : CommandState). AreKeptFor g.F.Files.tells (c.args.lines.now.budget - c.read_paid.new.lines.budget) notes x.notes files files) (sym c.read_paid.ensures.rest) (kept-none _ _ notes files)

pub returns-in-Failed-clause-keeps : goal.returns-in-Failed-clause-keeps
returns-in-Failed-clause-keeps g c =
    let notes = c.args.session.now.notes in
    let files = g.F.Files.state c.args.files.now in
    subst (λ (x : CommandState). AreKeptFor g.F.Files.tells (c.args.lines.now.budget - c.read_paid.new.lines.budget) notes x.notes files files) (sym c.read_paid.ensures.rest) (kept-none _ _ notes files)

-- ---- what was spent, and on what

pub returns-in-Line-clause-ends : goal.returns-in-Line-clause-ends
returns-in-Line-clause-ends g c =
    paid-text c.args.lines.now.reads [] [] c.args.lines.now.budget c.read_paid.new.lines.budget _ _ c.line.result.now c.answer.result c.in-Line.ensures.pays c.requires.reads c.answer.ensures.counts
    c.answer.ensures.asked

pub returns-in-TooLong-clause-ends : goal.returns-in-TooLong-clause-ends
returns-in-TooLong-clause-ends g c =
    denied-text c.args.lines.now.reads [] [] c.args.lines.now.budget c.read_paid.new.lines.budget _ _ c.deny_line.result c.deny_line.ensures.counts c.deny_line.ensures.stays

pub returns-in-Unpaid-clause-ends : goal.returns-in-Unpaid-clause-ends
returns-in-Unpaid-clause-ends g c = (c.requires.reads, c.in-Unpaid.ensures.pays)

pub returns-in-Line-clause-scripts : goal.returns-in-Line-clause-scripts
returns-in-Line-clause-scripts g c =
    let old = c.args.lines.now.texts.scripts in
    let mid = c.read_paid.new.lines.texts.scripts in
    opens-since old mid c.answer.new.texts.scripts c.answer.result (λ first most. stack-as first most old mid (ap (λ (t : HeldTexts). t.scripts) c.read_paid.ensures.texts)) c.answer.ensures.scripts

pub returns-in-TooLong-clause-scripts : goal.returns-in-TooLong-clause-scripts
returns-in-TooLong-clause-scripts g c =
    let old = c.args.lines.now.texts.scripts in
    let mid = c.read_paid.new.lines.texts.scripts in
    opens-since old mid c.deny_line.new.texts.scripts c.deny_line.result (λ first most. stack-as first most old mid (ap (λ (t : HeldTexts). t.scripts) c.read_paid.ensures.texts))
    (opens-failed _ mid c.deny_line.new.texts.scripts c.deny_line.result c.deny_line.ensures.scripts)

-- ---- the disk's file

pub returns-in-Err-clause-step : goal.returns-in-Err-clause-step
returns-in-Err-clause-step g c = λ source apart whole next. stays-same c.args.session.now (g.F.Files.state c.args.files.now).files

pub returns-in-TooLong-clause-step : goal.returns-in-TooLong-clause-step
returns-in-TooLong-clause-step g c = λ source apart whole next.
    stays-kept c.args.session.now c.read_paid.new.session (g.F.Files.state c.args.files.now).files (ap (λ (x : CommandState). x.machine) c.read_paid.ensures.rest)

pub returns-in-Unpaid-clause-step : goal.returns-in-Unpaid-clause-step
returns-in-Unpaid-clause-step g c = λ source apart whole next.
    stays-kept c.args.session.now c.read_paid.new.session (g.F.Files.state c.args.files.now).files (ap (λ (x : CommandState). x.machine) c.read_paid.ensures.rest)

pub returns-in-Failed-clause-step : goal.returns-in-Failed-clause-step
returns-in-Failed-clause-step g c = λ source apart whole next.
    stays-kept c.args.session.now c.read_paid.new.session (g.F.Files.state c.args.files.now).files (ap (λ (x : CommandState). x.machine) c.read_paid.ensures.rest)

pub returns-in-Ok-detach_all-clause-step : goal.returns-in-Ok-detach_all-clause-step
returns-in-Ok-detach_all-clause-step g c = λ source apart whole next.
    let old = (g.F.Files.state c.args.files.now).files in
    let new = (g.F.Files.state c.detach_all.new.files).files in
    subst (λ (x : CommandState). StaysWhereAlone x c.detach_all.new.self old new) c.read_paid.ensures.rest
    (stays-alone c.read_paid.new.session c.detach_all.new.self old new c.detach_all.ensures.step)

pub returns-in-Err-detach_all-clause-step : goal.returns-in-Err-detach_all-clause-step
returns-in-Err-detach_all-clause-step g c = λ source apart whole next.
    let old = (g.F.Files.state c.args.files.now).files in
    let new = (g.F.Files.state c.detach_all.new.files).files in
    subst (λ (x : CommandState). StaysWhereAlone x c.detach_all.new.self old new) c.read_paid.ensures.rest
    (stays-alone c.read_paid.new.session c.detach_all.new.self old new c.detach_all.ensures.step)

pub returns-in-Line-clause-step : goal.returns-in-Line-clause-step
returns-in-Line-clause-step g c = λ source apart whole next.
    let session = c.args.session.now in
    let paid = c.read_paid.new.session in
    let ports = g.L.Lines.state c.args.ports.now in
    let named = beyond (g.F.Files.state c.args.files.now).files ports whole in
    let now = c.read_paid.new.lines in
    let is = c.read_paid.ensures.rest in
    let none : coming now.texts ≡ texts_of [] [] = (λ i. coming (c.read_paid.ensures.texts i)) ∙ (λ i. texts_of (c.requires.actions i) (c.requires.scripts i)) in
    let reads = c.in-Line.ensures.reads source in
    subst (λ (x : CommandState). StaysWhereAlone x c.answer.new.session (g.F.Files.state c.args.files.now).files (g.F.Files.state c.answer.new.files).files) is
    (c.answer.ensures.step
    (line-used g.F.Files.tells g.L.Lines.tells session paid named c.args.lines.now now (g.C.Source.left c.args.input.now) now.reader.line c.line.result.now (ap (λ (x : CommandState). x.machine) is)
    (λ i. texts_of (c.requires.actions i) (c.requires.scripts i)) c.requires.reads reads.0 (ap (λ (t : Texts). t.scripts) none) c.line.ensures next)
    (λ tells. subst (λ (x : CommandState). AreApart ports x.machine.lines) (sym is) (apart tells)))

-- ---- the console, and the input

pub returns-in-Err-clause-grows : goal.returns-in-Err-clause-grows
returns-in-Err-clause-grows g c =
    grows-part g.S.Sink.tells (g.S.Sink.written c.args.out.now) (prompt_text c.args.lines.now.prompt) (g.S.Sink.written c.ask.new.out) c.in-Err.ensures.told

pub returns-in-Line-clause-grows : goal.returns-in-Line-clause-grows
returns-in-Line-clause-grows g c =
    let before = g.S.Sink.written c.args.out.now in
    let mid = g.S.Sink.written c.ask.new.out in
    grows-both g.S.Sink.tells before mid (g.S.Sink.written c.answer.new.out) (grows-by g.S.Sink.tells before (prompt_text c.args.lines.now.prompt) mid c.in-Ok.ensures.told) c.answer.ensures.grows

pub returns-in-TooLong-clause-grows : goal.returns-in-TooLong-clause-grows
returns-in-TooLong-clause-grows g c =
    let before = g.S.Sink.written c.args.out.now in
    let mid = g.S.Sink.written c.ask.new.out in
    grows-both g.S.Sink.tells before mid (g.S.Sink.written c.deny_line.new.out) (grows-by g.S.Sink.tells before (prompt_text c.args.lines.now.prompt) mid c.in-Ok.ensures.told) c.deny_line.ensures.grows

pub returns-in-Ok-detach_all-clause-grows : goal.returns-in-Ok-detach_all-clause-grows
returns-in-Ok-detach_all-clause-grows g c =
    grows-by g.S.Sink.tells (g.S.Sink.written c.args.out.now) (prompt_text c.args.lines.now.prompt) (g.S.Sink.written c.ask.new.out) c.in-Ok.ensures.told

pub returns-in-Err-detach_all-clause-grows : goal.returns-in-Err-detach_all-clause-grows
returns-in-Err-detach_all-clause-grows g c =
    grows-by g.S.Sink.tells (g.S.Sink.written c.args.out.now) (prompt_text c.args.lines.now.prompt) (g.S.Sink.written c.ask.new.out) c.in-Ok.ensures.told

pub returns-in-Unpaid-clause-grows : goal.returns-in-Unpaid-clause-grows
returns-in-Unpaid-clause-grows g c =
    grows-by g.S.Sink.tells (g.S.Sink.written c.args.out.now) (prompt_text c.args.lines.now.prompt) (g.S.Sink.written c.ask.new.out) c.in-Ok.ensures.told

pub returns-in-Failed-clause-grows : goal.returns-in-Failed-clause-grows
returns-in-Failed-clause-grows g c =
    grows-by g.S.Sink.tells (g.S.Sink.written c.args.out.now) (prompt_text c.args.lines.now.prompt) (g.S.Sink.written c.ask.new.out) c.in-Ok.ensures.told

pub returns-in-Err-clause-drops : goal.returns-in-Err-clause-drops
returns-in-Err-clause-drops g c = λ source. (0, refl)

pub returns-in-Line-clause-drops : goal.returns-in-Line-clause-drops
returns-in-Line-clause-drops g c = λ source. let reads = c.in-Line.ensures.reads source in (_, reads.3.rest)

pub returns-in-TooLong-clause-drops : goal.returns-in-TooLong-clause-drops
returns-in-TooLong-clause-drops g c = λ source. let reads = c.in-TooLong.ensures.reads source in (_, reads.5.rest)

pub returns-in-Ok-detach_all-clause-drops : goal.returns-in-Ok-detach_all-clause-drops
returns-in-Ok-detach_all-clause-drops g c = λ source. let reads = c.in-End.ensures.reads source in (_, reads.2.rest)

pub returns-in-Err-detach_all-clause-drops : goal.returns-in-Err-detach_all-clause-drops
returns-in-Err-detach_all-clause-drops g c = λ source. let reads = c.in-End.ensures.reads source in (_, reads.2.rest)

pub returns-in-Unpaid-clause-drops : goal.returns-in-Unpaid-clause-drops
returns-in-Unpaid-clause-drops g c = λ source. let reads = c.in-Unpaid.ensures.reads source in (_, reads.1.rest)

pub returns-in-Failed-clause-drops : goal.returns-in-Failed-clause-drops
returns-in-Failed-clause-drops g c = λ source. let reads = c.in-Failed.ensures.reads source in (_, reads.2.rest)

-- ---- the units

pub returns-in-Err-detach_all-clause-standard : goal.returns-in-Err-detach_all-clause-standard
returns-in-Err-detach_all-clause-standard g c =
    standard-by _ _ (subst (λ (x : CommandState). AreStandard x.machine.units) (sym c.read_paid.ensures.rest) c.requires.standard) c.detach_all.ensures.kinds

pub returns-in-Ok-detach_all-clause-standard : goal.returns-in-Ok-detach_all-clause-standard
returns-in-Ok-detach_all-clause-standard g c =
    standard-by _ _ (subst (λ (x : CommandState). AreStandard x.machine.units) (sym c.read_paid.ensures.rest) c.requires.standard) c.detach_all.ensures.kinds

pub returns-in-Err-detach_all-clause-kinds : goal.returns-in-Err-detach_all-clause-kinds
returns-in-Err-detach_all-clause-kinds g c = c.detach_all.ensures.kinds ∙ ap (λ (x : CommandState). kinds_of x.machine.units) c.read_paid.ensures.rest

pub returns-in-Ok-detach_all-clause-kinds : goal.returns-in-Ok-detach_all-clause-kinds
returns-in-Ok-detach_all-clause-kinds g c = c.detach_all.ensures.kinds ∙ ap (λ (x : CommandState). kinds_of x.machine.units) c.read_paid.ensures.rest
