use Rattle.std.proofs.Common.{◌≡◌, ◌<◌, ◌-◌, ℕ, List, [], ◌∷◌, refl, ap, sym, ◌∙◌, subst, arith, drop, take, ◌++◌}
use Rattle.file_commands.specs.Notes.{Note, notes_said}
use Rattle.unit_files.specs.InStep.{InStep}
use Rattle.nova_machine.specs.Machine.{attached_files}
use Rattle.nova_machine.specs.Comes.{output}
use Rattle.telnet_lines.specs.Many.{AreApart}
use Rattle.command_session.specs.Live.{CommandState, live_in, beyond}
use Rattle.command_session.specs.LinesLeft.{LinesLeft}
use Rattle.command_session.specs.Asked.{asked}
use Rattle.command_session.specs.DiskFile.{StaysWhereAlone}
use Rattle.command_session.proofs.GrowLemmas.{grows-same}
use Rattle.scp_script.specs.declared.progress.CommandLoop.{CommandLoop}
use Rattle.scp_script.specs.declared.progress.Progress.TheVariants.{GoesOn, IsOver}
use Rattle.scp_script.specs.declared.progress.Finish.TheVariants.{Commands}
use Rattle.session_texts.specs.Actions.{Texts, texts_of, coming}
use Rattle.scp_script.specs.Session.{spent_more}
use Rattle.scp_script.specs.Loop.{IsShort, Answers, opens_asked, AreKeptFor, session_of}
use Rattle.scp_script.proofs.UsedLemmas.{action-used}
use Rattle.scp_script.proofs.SessionLemmas.{action-unpaid, asking-action}
use Rattle.scp_script.proofs.LineLemmas.{text-unpaid}
use Rattle.scp_script.proofs.NoteLemmas.{has-first, action-text, action-there, action-stepped, over-alone, left-at, same-read, answer-kept}
use Rattle.scp_script.proofs.KeptLemmas.{kept-none, kept-paid}
use Rattle.scp_script.proofs.PortLemmas.{left-kept}
use Rattle.scp_script.proofs.GrowLemmas.{stays-kept}
use Rattle.session_texts.specs.Scripts.{still_open}
use Rattle.session_texts.proofs.OpenLemmas.{stack-as}
use Rattle.scp_script.proofs.SpendingLemmas.{opens-none, opens-since, paid-text, action-next, unpaid-action}
use Rattle.scp_script.proofs.command_loop.action.Goals as goal

pub returns-then-not-pay-clause-told : goal.returns-then-not-pay-clause-told
returns-then-not-pay-clause-told g c = λ enough apart sink step whole begins input next.
    let session = c.args.session.now in
    let paid = c.pay.new.session in
    let now_state = record session { command = paid.command } in
    let ports = g.L.Lines.state c.args.ports.now in
    let named = beyond (g.F.Files.state c.args.files.now).files ports whole in
    let lines = c.args.lines.now in
    let now = c.pay.new.lines in
    let before = output (g.S.Sink.written c.args.out.now) ports.sent in
    let reader = ap (λ (x : CommandLoop). x.reader.open_) c.pay.ensures.lines in
    let unpaid = c.pay.ensures.unpaid c.if-not-pay.true in
    let first = has-first lines.texts.actions c.requires.some in
    let old = session_of session named lines input [] in
    let new = session_of now_state named now input [] in
    left-at session paid now_state named lines now input input (IsOver Commands) before before c.pay.ensures.rest
    (over-alone old new Commands before before (notes_said session.notes) (notes_said session.notes) refl
    (text-unpaid old new before before (action-unpaid old first.action first.others first.is unpaid.0) (asking-action old first.action first.others first.is) refl
    (same-read lines.reader.open_ now.reader.open_ input input reader refl) refl))

pub returns-in-Some-clause-told : goal.returns-in-Some-clause-told
returns-in-Some-clause-told g c = λ enough apart sink step whole begins input next.
    let session = c.args.session.now in
    let paid = c.pay.new.session in
    let ports = g.L.Lines.state c.args.ports.now in
    let ports' = g.L.Lines.state c.answer.new.lines in
    let named = beyond (g.F.Files.state c.args.files.now).files ports whole in
    let lines = c.args.lines.now in
    let now = c.pay.new.lines in
    let before = output (g.S.Sink.written c.args.out.now) ports.sent in
    let after = output (g.S.Sink.written c.answer.new.out) ports'.sent in
    let paid_for = c.pay.ensures.paid c.if-not-pay.false in
    let budget : now.budget ≡ lines.budget - 1 = paid_for.1 in
    let done = c.answer.new.session in
    let last = record now { texts = c.answer.new.texts } in
    let tells = g.S.Sink.tells in
    let result = c.answer.result in
    let live = live_in done (beyond (g.F.Files.state c.answer.new.files).files ports' whole) in
    let is = c.pay.ensures.rest in
    let first = has-first lines.texts.actions c.requires.some in
    let there : now.texts.actions ≡ first.action ∷ first.others = ap (λ (x : CommandLoop). x.texts.actions) c.pay.ensures.lines ∙ first.is in
    let text : take c.in-Some.length c.take.new.out ≡ first.action =
    action-text now.texts.actions first.action first.others _ c.take.new.out c.in-Some.length there (sym c.in-Some.is ∙ c.take.ensures.count) c.take.ensures.text in
    let what = asked (take c.in-Some.length c.take.new.out) in
    let used = action-used g.F.Files.tells g.L.Lines.tells session paid named lines now input first.action (take c.in-Some.length c.take.new.out) first.others (ap (λ (x : CommandState). x.machine) is)
    (ap (λ (x : CommandLoop). x.texts.scripts) c.pay.ensures.lines) first.is paid_for.0 text next in
    let left : texts_of c.take.new.self now.texts.scripts ≡ texts_of first.others lines.texts.scripts =
    ap (λ (a : List (List ℕ)). texts_of a now.texts.scripts) (c.take.ensures.rest ∙ ap (drop 1) there) ∙ ap (λ (x : CommandLoop). texts_of first.others x.texts.scripts) c.pay.ensures.lines in
    let spent : done.command ≡ spent_more session.command 1 = omega (arith, c.pay.ensures.command, c.answer.ensures.command, paid_for.0, budget) in
    let less : session.command < done.command = omega (arith, spent, enough, paid_for.0) in
    let stepped = subst (λ (x : CommandState). InStep (attached_files x.machine) (g.F.Files.state c.args.files.now).files) (sym is) step in
    let told = subst (λ (x : CommandState). Answers x.limit (live_in x named) (texts_of first.others lines.texts.scripts) what done.command result live (coming c.answer.new.texts) tells before after (notes_said x.notes) (notes_said done.notes)) is
    (subst (λ (t : Texts). Answers paid.limit (live_in paid named) t what done.command result live (coming c.answer.new.texts) tells before after (notes_said paid.notes) (notes_said done.notes)) left
    (subst (λ n. Answers paid.limit (live_in paid named) (texts_of c.take.new.self now.texts.scripts) what n result live (coming c.answer.new.texts) tells before after (notes_said paid.notes) (notes_said done.notes)) (sym c.answer.ensures.command)
    (c.answer.ensures.told used (λ tells. subst (λ (x : CommandState). AreApart ports x.machine.lines) (sym is) (apart tells)) stepped whole begins))) in
    let short = λ (own : List Note) (e : notes_said done.notes ≡ notes_said session.notes ++ own).
    subst (λ (x : CommandState). IsShort what done.command result (live_in x named) live own before after) is
    (subst (λ n. IsShort what n result (live_in paid named) live own before after) (sym c.answer.ensures.command)
    (c.answer.ensures.short used stepped whole (λ restore. begins) own (e ∙ ap (λ (x : CommandState). notes_said x.notes ++ own) (sym is)))) in
    let limit = c.answer.ensures.limit ∙ ap (λ (x : CommandState). x.limit) is in
    action-stepped (session_of session named lines input []) (session_of done (beyond (g.F.Files.state c.answer.new.files).files ports' whole) last input []) first.action first.others what result tells before after
    (notes_said session.notes) (notes_said done.notes) sink first.is paid_for.0 (ap asked (sym text))
    (record {
      spent = spent;
      limit = limit;
      budget = budget;
      reading = ap (λ (x : CommandLoop). x.reads) c.pay.ensures.lines;
      prompt = ap (λ (x : CommandLoop). x.prompt) c.pay.ensures.lines;
      input = refl;
      open_ = ap (λ (x : CommandLoop). x.reader.open_) c.pay.ensures.lines;
    }) less told short

pub returns-in-Some-clause-kept : goal.returns-in-Some-clause-kept
returns-in-Some-clause-kept g c =
    answer-kept c.answer.result _ _ c.answer.new.session.machine.slots c.answer.new.session.notes (g.F.Files.state c.args.files.now) (g.F.Files.state c.answer.new.files) c.answer.ensures.counts

-- an action is there
pub returns-in-None-clause-told : goal.returns-in-None-clause-told
returns-in-None-clause-told g c = λ enough apart sink step whole begins input next.
    let first = has-first c.args.lines.now.texts.actions c.requires.some in
    absurd (action-there c.pay.new.lines.texts.actions first.action first.others (ap (λ (x : CommandLoop). x.texts.actions) c.pay.ensures.lines ∙ first.is) (sym c.in-None.is ∙ c.take.ensures.count))

pub returns-then-not-pay-clause-ports : goal.returns-then-not-pay-clause-ports
returns-then-not-pay-clause-ports g c =
    left-kept g.L.Lines.tells (g.L.Lines.state c.args.ports.now) c.args.session.now.machine.lines c.pay.new.session.machine.lines
    (ap (λ (x : CommandState). x.machine.lines) c.pay.ensures.rest)

pub returns-in-Some-clause-ports : goal.returns-in-Some-clause-ports
returns-in-Some-clause-ports g c =
    subst (λ (x : CommandState). LinesLeft g.L.Lines.tells (g.L.Lines.state c.args.ports.now) x.machine.lines (g.L.Lines.state c.answer.new.lines) c.answer.new.session.machine.lines)
    c.pay.ensures.rest c.answer.ensures.lines

pub returns-in-None-clause-ports : goal.returns-in-None-clause-ports
returns-in-None-clause-ports g c =
    left-kept g.L.Lines.tells (g.L.Lines.state c.args.ports.now) c.args.session.now.machine.lines c.pay.new.session.machine.lines
    (ap (λ (x : CommandState). x.machine.lines) c.pay.ensures.rest)

pub returns-in-Some-clause-still : goal.returns-in-Some-clause-still
returns-in-Some-clause-still g c = λ untold whole input next.
    let session = c.args.session.now in
    let paid = c.pay.new.session in
    let named = beyond (g.F.Files.state c.args.files.now).files (g.L.Lines.state c.args.ports.now) whole in
    let lines = c.args.lines.now in
    let now = c.pay.new.lines in
    let paid_for = c.pay.ensures.paid c.if-not-pay.false in
    let is = c.pay.ensures.rest in
    let first = has-first lines.texts.actions c.requires.some in
    let there : now.texts.actions ≡ first.action ∷ first.others = ap (λ (x : CommandLoop). x.texts.actions) c.pay.ensures.lines ∙ first.is in
    let text : take c.in-Some.length c.take.new.out ≡ first.action =
    action-text now.texts.actions first.action first.others _ c.take.new.out c.in-Some.length there (sym c.in-Some.is ∙ c.take.ensures.count) c.take.ensures.text in
    c.answer.ensures.still
    (action-used g.F.Files.tells g.L.Lines.tells session paid named lines now input first.action (take c.in-Some.length c.take.new.out) first.others (ap (λ (x : CommandState). x.machine) is)
    (ap (λ (x : CommandLoop). x.texts.scripts) c.pay.ensures.lines) first.is paid_for.0 text next) untold

-- ---- the notes

pub returns-then-not-pay-clause-keeps : goal.returns-then-not-pay-clause-keeps
returns-then-not-pay-clause-keeps g c =
    let notes = c.args.session.now.notes in
    let files = g.F.Files.state c.args.files.now in
    subst (λ (x : CommandState). AreKeptFor g.F.Files.tells (c.args.lines.now.budget - c.pay.new.lines.budget) notes x.notes files files) (sym c.pay.ensures.rest) (kept-none _ _ notes files)

pub returns-in-Some-clause-keeps : goal.returns-in-Some-clause-keeps
returns-in-Some-clause-keeps g c =
    let lines = c.args.lines.now in
    let now = c.pay.new.lines in
    let paid = c.pay.ensures.paid c.if-not-pay.false in
    let old = g.F.Files.state c.args.files.now in
    let new = g.F.Files.state c.answer.new.files in
    let notes = c.answer.new.session.notes in
    subst (λ (x : CommandState). AreKeptFor g.F.Files.tells (lines.budget - now.budget) x.notes notes old new) c.pay.ensures.rest
    (kept-paid g.F.Files.tells (opens_asked (asked (take c.in-Some.length c.take.new.out))) lines.budget now.budget c.pay.new.session.notes notes old new (omega (arith, paid.0, paid.1)) c.answer.ensures.keeps)

pub returns-in-None-clause-keeps : goal.returns-in-None-clause-keeps
returns-in-None-clause-keeps g c =
    let notes = c.args.session.now.notes in
    let files = g.F.Files.state c.args.files.now in
    subst (λ (x : CommandState). AreKeptFor g.F.Files.tells (c.args.lines.now.budget - c.pay.new.lines.budget) notes x.notes files files) (sym c.pay.ensures.rest) (kept-none _ _ notes files)

-- ---- what was spent, and on what

pub returns-then-not-pay-clause-ends : goal.returns-then-not-pay-clause-ends
returns-then-not-pay-clause-ends g c =
    let texts = c.args.lines.now.texts in
    let unpaid = c.pay.ensures.unpaid c.if-not-pay.true in
    unpaid-action c.args.lines.now.reads texts.actions (still_open texts.scripts) c.pay.new.lines.budget c.requires.some (omega (arith, unpaid.0, unpaid.1))

pub returns-in-Some-clause-ends : goal.returns-in-Some-clause-ends
returns-in-Some-clause-ends g c =
    let lines = c.args.lines.now in
    let now = c.pay.new.lines in
    let paid = c.pay.ensures.paid c.if-not-pay.false in
    let first = has-first lines.texts.actions c.requires.some in
    let there : now.texts.actions ≡ first.action ∷ first.others = ap (λ (x : CommandLoop). x.texts.actions) c.pay.ensures.lines ∙ first.is in
    let text : take c.in-Some.length c.take.new.out ≡ first.action =
    action-text now.texts.actions first.action first.others _ c.take.new.out c.in-Some.length there (sym c.in-Some.is ∙ c.take.ensures.count) c.take.ensures.text in
    paid-text lines.reads lines.texts.actions (still_open lines.texts.scripts) lines.budget now.budget _ _ (take c.in-Some.length c.take.new.out) c.answer.result (omega (arith, paid.0, paid.1))
    (action-next lines.reads lines.texts.actions (still_open lines.texts.scripts) first.action first.others (take c.in-Some.length c.take.new.out) first.is text) c.answer.ensures.counts c.answer.ensures.asked

pub returns-in-Some-clause-scripts : goal.returns-in-Some-clause-scripts
returns-in-Some-clause-scripts g c =
    let old = c.args.lines.now.texts.scripts in
    let mid = c.pay.new.lines.texts.scripts in
    opens-since old mid c.answer.new.texts.scripts c.answer.result (λ first most. stack-as first most old mid (ap (λ (x : CommandLoop). x.texts.scripts) c.pay.ensures.lines)) c.answer.ensures.scripts

pub returns-in-None-clause-scripts : goal.returns-in-None-clause-scripts
returns-in-None-clause-scripts g c =
    opens-none c.args.lines.now.texts.scripts c.pay.new.lines.texts.scripts GoesOn (ap (λ (x : CommandLoop). x.texts.scripts) c.pay.ensures.lines)

-- ---- the disk's file, and the console

pub returns-then-not-pay-clause-step : goal.returns-then-not-pay-clause-step
returns-then-not-pay-clause-step g c = λ apart whole input next.
    stays-kept c.args.session.now c.pay.new.session (g.F.Files.state c.args.files.now).files (ap (λ (x : CommandState). x.machine) c.pay.ensures.rest)

pub returns-in-Some-clause-step : goal.returns-in-Some-clause-step
returns-in-Some-clause-step g c = λ apart whole input next.
    let session = c.args.session.now in
    let paid = c.pay.new.session in
    let ports = g.L.Lines.state c.args.ports.now in
    let named = beyond (g.F.Files.state c.args.files.now).files ports whole in
    let lines = c.args.lines.now in
    let now = c.pay.new.lines in
    let paid_for = c.pay.ensures.paid c.if-not-pay.false in
    let is = c.pay.ensures.rest in
    let first = has-first lines.texts.actions c.requires.some in
    let there : now.texts.actions ≡ first.action ∷ first.others = ap (λ (x : CommandLoop). x.texts.actions) c.pay.ensures.lines ∙ first.is in
    let text : take c.in-Some.length c.take.new.out ≡ first.action =
    action-text now.texts.actions first.action first.others _ c.take.new.out c.in-Some.length there (sym c.in-Some.is ∙ c.take.ensures.count) c.take.ensures.text in
    subst (λ (x : CommandState). StaysWhereAlone x c.answer.new.session (g.F.Files.state c.args.files.now).files (g.F.Files.state c.answer.new.files).files) is
    (c.answer.ensures.step
    (action-used g.F.Files.tells g.L.Lines.tells session paid named lines now input first.action (take c.in-Some.length c.take.new.out) first.others (ap (λ (x : CommandState). x.machine) is)
    (ap (λ (x : CommandLoop). x.texts.scripts) c.pay.ensures.lines) first.is paid_for.0 text next)
    (λ tells. subst (λ (x : CommandState). AreApart ports x.machine.lines) (sym is) (apart tells)))

pub returns-in-None-clause-step : goal.returns-in-None-clause-step
returns-in-None-clause-step g c = λ apart whole input next.
    stays-kept c.args.session.now c.pay.new.session (g.F.Files.state c.args.files.now).files (ap (λ (x : CommandState). x.machine) c.pay.ensures.rest)

pub returns-then-not-pay-clause-grows : goal.returns-then-not-pay-clause-grows
returns-then-not-pay-clause-grows g c = grows-same g.S.Sink.tells (g.S.Sink.written c.args.out.now) (g.S.Sink.written c.args.out.now) refl

pub returns-in-None-clause-grows : goal.returns-in-None-clause-grows
returns-in-None-clause-grows g c = grows-same g.S.Sink.tells (g.S.Sink.written c.args.out.now) (g.S.Sink.written c.args.out.now) refl
