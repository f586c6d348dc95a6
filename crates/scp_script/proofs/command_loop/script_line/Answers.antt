use Rattle.std.proofs.Common.{◌≡◌, ◌<◌, ◌≤◌, ◌-◌, ℕ, List, [], ◌∷◌, Err, refl, ap, sym, ◌∙◌, subst, arith, ◌++◌}
use Rattle.file_commands.specs.Notes.{Note, notes_said}
use Rattle.scp_parser.specs.declared.fault.ParseFault.TheVariants.{TooLong}
use Rattle.command_session.specs.declared.fault.CommandFault.TheVariants.{Parse}
use Rattle.unit_files.specs.InStep.{InStep}
use Rattle.nova_machine.specs.Machine.{attached_files}
use Rattle.nova_machine.specs.Comes.{output}
use Rattle.telnet_lines.specs.Many.{AreApart}
use Rattle.command_session.specs.Live.{CommandState, live_in, beyond}
use Rattle.command_session.specs.LinesLeft.{LinesLeft}
use Rattle.command_session.specs.Asked.{asked}
use Rattle.command_session.specs.DiskFile.{StaysWhereAlone}
use Rattle.command_session.proofs.GrowLemmas.{grows-same, grows-both}
use Rattle.command_session.proofs.AskedLemmas.{long-asked}
use Rattle.scp_script.specs.declared.progress.CommandLoop.{CommandLoop}
use Rattle.scp_script.specs.declared.progress.Progress.TheVariants.{IsOver}
use Rattle.scp_script.specs.declared.progress.Finish.TheVariants.{Commands, Console}
use Rattle.scp_script.specs.Session.{spent_more}
use Rattle.session_texts.specs.Actions.{Texts, texts_of, coming}
use Rattle.session_texts.specs.Scripts.{Script, cost_of_line, text_of_line, echo_text, past_line, checked}
use Rattle.scp_script.specs.Loop.{IsShort, Answers, opens_asked, AreKeptFor, session_of}
use Rattle.scp_script.proofs.SessionLemmas.{upcoming-unpaid, asking-unpaid, asking-script}
use Rattle.scp_script.proofs.TextLemmas.{answers-none}
use Rattle.scp_script.proofs.LineLemmas.{asking-refused, text-unpaid, some-fits, none-fits}
use Rattle.scp_script.proofs.NoteLemmas.{script-stepped, over-alone, left-at, never-short, same-read, answer-kept}
use Rattle.scp_script.proofs.KeptLemmas.{kept-none, kept-paid}
use Rattle.scp_script.proofs.PortLemmas.{left-kept}
use Rattle.scp_script.proofs.GrowLemmas.{grows-by, grows-part, stays-kept}
use Rattle.scp_script.proofs.UsedLemmas.{script-used}
use Rattle.session_texts.proofs.OpenLemmas.{stack-as, stack-past}
use Rattle.scp_script.proofs.SpendingLemmas.{opens-failed, opens-since, paid-text, denied-text}
use Rattle.scp_script.proofs.command_loop.script_line.Goals as goal

pub returns-then-not-pay-clause-told : goal.returns-then-not-pay-clause-told
returns-then-not-pay-clause-told g c = λ enough apart sink step whole begins input next.
    let session = c.args.session.now in
    let paid = c.pay.new.session in
    let now_state = record session { command = paid.command } in
    let ports = g.L.Lines.state c.args.ports.now in
    let named = beyond (g.F.Files.state c.args.files.now).files ports whole in
    let script = c.args.script in
    let outer = c.args.lines.now.texts.scripts in
    let lines = record c.args.lines.now { texts = record c.args.lines.now.texts { scripts = script ∷ outer } } in
    let now = c.pay.new.lines in
    let there : texts_of c.args.lines.now.texts.actions (script ∷ outer) ≡ texts_of [] (script ∷ outer) = ap (λ (a : List (List ℕ)). texts_of a (script ∷ outer)) c.requires.actions in
    let before = output (g.S.Sink.written c.args.out.now) ports.sent in
    let cost = c.line_cost.ensures in
    let reader = ap (λ (x : CommandLoop). x.reader.open_) c.pay.ensures.lines in
    let unpaid = c.pay.ensures.unpaid c.if-not-pay.true in
    let short : lines.budget < cost_of_line script = omega (arith, unpaid.0, cost) in
    let old = session_of session named lines input [] in
    let new = session_of now_state named now input [] in
    left-at session paid now_state named lines now input input (IsOver Commands) before before c.pay.ensures.rest
    (over-alone old new Commands before before (notes_said session.notes) (notes_said session.notes) refl
    (text-unpaid old new before before (upcoming-unpaid old script outer there c.requires.line short) (asking-unpaid old script outer there c.requires.line short) refl
    (same-read lines.reader.open_ now.reader.open_ input input reader refl) refl))

pub returns-in-Err-clause-told : goal.returns-in-Err-clause-told
returns-in-Err-clause-told g c = λ enough apart sink step whole begins input next.
    let session = c.args.session.now in
    let paid = c.pay.new.session in
    let now_state = record session { command = paid.command } in
    let ports = g.L.Lines.state c.args.ports.now in
    let named = beyond (g.F.Files.state c.args.files.now).files ports whole in
    let script = c.args.script in
    let outer = c.args.lines.now.texts.scripts in
    let lines = record c.args.lines.now { texts = record c.args.lines.now.texts { scripts = script ∷ outer } } in
    let now = c.pay.new.lines in
    let there : texts_of c.args.lines.now.texts.actions (script ∷ outer) ≡ texts_of [] (script ∷ outer) = ap (λ (a : List (List ℕ)). texts_of a (script ∷ outer)) c.requires.actions in
    let before = output (g.S.Sink.written c.args.out.now) ports.sent in
    let cost = c.line_cost.ensures in
    let reader = ap (λ (x : CommandLoop). x.reader.open_) c.pay.ensures.lines in
    let after = output (g.S.Sink.written c.put_echo.new.out) ports.sent in
    let paid_for = c.pay.ensures.paid c.if-not-pay.false in
    let fits : cost_of_line script ≤ lines.budget = omega (arith, paid_for.0, cost) in
    let old = session_of session named lines input [] in
    let new = session_of now_state named now input [] in
    left-at session paid now_state named lines now input input (IsOver Console) before after c.pay.ensures.rest
    (over-alone old new Console before after (notes_said session.notes) (notes_said session.notes) refl
    (asking-refused old new (echo_text script) [] before after (asking-script old script outer there c.requires.line fits) refl
    (same-read lines.reader.open_ now.reader.open_ input input reader refl) (c.in-Err.ensures.told sink) refl))

pub returns-in-Some-clause-told : goal.returns-in-Some-clause-told
returns-in-Some-clause-told g c = λ enough apart sink step whole begins input next.
    let session = c.args.session.now in
    let paid = c.pay.new.session in
    let now_state = record session { command = paid.command } in
    let ports = g.L.Lines.state c.args.ports.now in
    let ports' = g.L.Lines.state c.answer.new.lines in
    let named = beyond (g.F.Files.state c.args.files.now).files ports whole in
    let script = c.args.script in
    let outer = c.args.lines.now.texts.scripts in
    let lines = record c.args.lines.now { texts = record c.args.lines.now.texts { scripts = script ∷ outer } } in
    let now = c.pay.new.lines in
    let there : texts_of c.args.lines.now.texts.actions (script ∷ outer) ≡ texts_of [] (script ∷ outer) = ap (λ (a : List (List ℕ)). texts_of a (script ∷ outer)) c.requires.actions in
    let before = output (g.S.Sink.written c.args.out.now) ports.sent in
    let cost = c.line_cost.ensures in
    let reader = ap (λ (x : CommandLoop). x.reader.open_) c.pay.ensures.lines in
    let mid = output (g.S.Sink.written c.put_echo.new.out) ports.sent in
    let after = output (g.S.Sink.written c.answer.new.out) ports'.sent in
    let paid_for = c.pay.ensures.paid c.if-not-pay.false in
    let fits : cost_of_line script ≤ lines.budget = omega (arith, paid_for.0, cost) in
    let budget : now.budget ≡ lines.budget - cost_of_line script = omega (arith, paid_for.1, cost) in
    let done = c.answer.new.session in
    let last = record now { texts = c.answer.new.texts } in
    let tells = g.S.Sink.tells in
    let result = c.answer.result in
    let what = asked c.as_slice.result.now in
    let live = live_in done (beyond (g.F.Files.state c.answer.new.files).files ports' whole) in
    let is = c.pay.ensures.rest in
    let none : now.texts.actions ≡ [] = ap (λ (x : CommandLoop). x.texts.actions) c.pay.ensures.lines ∙ c.requires.actions in
    let pushed : c.push.new.self ≡ past_line script ∷ outer =
    c.push.ensures ∙ ap (λ (x : Script). x ∷ now.texts.scripts) c.take_line-text.ensures.past ∙ ap (λ (x : CommandLoop). past_line script ∷ x.texts.scripts) c.pay.ensures.lines in
    let stack : texts_of now.texts.actions c.push.new.self ≡ texts_of [] (past_line script ∷ outer) = ap (λ (a : List (List ℕ)). texts_of a c.push.new.self) none ∙ ap (texts_of []) pushed in
    let line : c.as_slice.result.now ≡ text_of_line script = c.as_slice.ensures ∙ some-fits c.in-Some.text (text_of_line script) (sym c.in-Some.is ∙ c.take_line-text.ensures.text) in
    let used = script-used g.F.Files.tells g.L.Lines.tells session paid named lines script outer input c.as_slice.result.now c.push.new.self (ap (λ (x : CommandState). x.machine) is) there c.requires.line fits pushed line next in
    let spent : done.command ≡ spent_more session.command (cost_of_line script) = omega (arith, c.pay.ensures.command, c.answer.ensures.command, fits, budget) in
    let less : session.command < done.command = omega (arith, spent, enough, fits) in
    let stepped = subst (λ (x : CommandState). InStep (attached_files x.machine) (g.F.Files.state c.args.files.now).files) (sym is) step in
    let told = subst (λ (x : CommandState). Answers x.limit (live_in x named) (texts_of [] (past_line script ∷ outer)) what done.command result live (coming c.answer.new.texts) tells mid after (notes_said x.notes) (notes_said done.notes)) is
    (subst (λ (t : Texts). Answers paid.limit (live_in paid named) t what done.command result live (coming c.answer.new.texts) tells mid after (notes_said paid.notes) (notes_said done.notes)) stack
    (subst (λ n. Answers paid.limit (live_in paid named) (texts_of now.texts.actions c.push.new.self) what n result live (coming c.answer.new.texts) tells mid after (notes_said paid.notes) (notes_said done.notes)) (sym c.answer.ensures.command)
    (c.answer.ensures.told used (λ tells. subst (λ (x : CommandState). AreApart ports x.machine.lines) (sym is) (apart tells)) stepped whole begins))) in
    let short = λ (own : List Note) (e : notes_said done.notes ≡ notes_said session.notes ++ own).
    subst (λ (x : CommandState). IsShort what done.command result (live_in x named) live own mid after) is
    (subst (λ n. IsShort what n result (live_in paid named) live own mid after) (sym c.answer.ensures.command)
    (c.answer.ensures.short used stepped whole (λ restore. begins) own (e ∙ ap (λ (x : CommandState). notes_said x.notes ++ own) (sym is)))) in
    let limit = c.answer.ensures.limit ∙ ap (λ (x : CommandState). x.limit) is in
    script-stepped (session_of session named lines input []) (session_of done (beyond (g.F.Files.state c.answer.new.files).files ports' whole) last input []) script outer what result tells before mid after
    (notes_said session.notes) (notes_said done.notes) sink there c.requires.line fits (ap asked (sym line))
    (record { spent = spent; limit = limit; budget = budget; reading = ap (λ (x : CommandLoop). x.reads) c.pay.ensures.lines; prompt = ap (λ (x : CommandLoop). x.prompt) c.pay.ensures.lines; input = refl; open_ = reader }) less
    (c.in-Ok.ensures.told sink) refl told short

pub returns-in-None-clause-told : goal.returns-in-None-clause-told
returns-in-None-clause-told g c = λ enough apart sink step whole begins input next.
    let session = c.args.session.now in
    let paid = c.pay.new.session in
    let now_state = record session { command = paid.command } in
    let ports = g.L.Lines.state c.args.ports.now in
    let named = beyond (g.F.Files.state c.args.files.now).files ports whole in
    let script = c.args.script in
    let outer = c.args.lines.now.texts.scripts in
    let lines = record c.args.lines.now { texts = record c.args.lines.now.texts { scripts = script ∷ outer } } in
    let now = c.pay.new.lines in
    let there : texts_of c.args.lines.now.texts.actions (script ∷ outer) ≡ texts_of [] (script ∷ outer) = ap (λ (a : List (List ℕ)). texts_of a (script ∷ outer)) c.requires.actions in
    let before = output (g.S.Sink.written c.args.out.now) ports.sent in
    let cost = c.line_cost.ensures in
    let reader = ap (λ (x : CommandLoop). x.reader.open_) c.pay.ensures.lines in
    let mid = output (g.S.Sink.written c.put_echo.new.out) ports.sent in
    let after = output (g.S.Sink.written c.deny_line.new.out) ports.sent in
    let paid_for = c.pay.ensures.paid c.if-not-pay.false in
    let fits : cost_of_line script ≤ lines.budget = omega (arith, paid_for.0, cost) in
    let budget : now.budget ≡ lines.budget - cost_of_line script = omega (arith, paid_for.1, cost) in
    let last = record now { texts = c.deny_line.new.texts } in
    let tells = g.S.Sink.tells in
    let result = c.deny_line.result in
    let what = asked (text_of_line script) in
    let live = live_in session named in
    let is = c.pay.ensures.rest in
    let none : now.texts.actions ≡ [] = ap (λ (x : CommandLoop). x.texts.actions) c.pay.ensures.lines ∙ c.requires.actions in
    let pushed : c.push.new.self ≡ past_line script ∷ outer =
    c.push.ensures ∙ ap (λ (x : Script). x ∷ now.texts.scripts) c.take_line-text.ensures.past ∙ ap (λ (x : CommandLoop). past_line script ∷ x.texts.scripts) c.pay.ensures.lines in
    let stack : texts_of now.texts.actions c.push.new.self ≡ texts_of [] (past_line script ∷ outer) = ap (λ (a : List (List ℕ)). texts_of a c.push.new.self) none ∙ ap (texts_of []) pushed in
    let long : what ≡ Err (Parse TooLong) = long-asked (text_of_line script) (none-fits (text_of_line script) (sym c.in-None.is ∙ c.take_line-text.ensures.text)) in
    let spent : paid.command ≡ spent_more session.command (cost_of_line script) = omega (arith, c.pay.ensures.command, fits, budget) in
    let less : session.command < paid.command = omega (arith, spent, enough, fits) in
    let said = answers-none paid.limit (live_in paid named) (texts_of now.texts.actions c.push.new.self) what paid.command result (coming c.deny_line.new.texts) tells mid after (notes_said paid.notes)
    (λ notes. c.deny_line.ensures.told named ports.sent notes what (ap (checked c.push.new.self) long)) in
    let told = subst (λ (x : CommandState). Answers x.limit (live_in x named) (texts_of [] (past_line script ∷ outer)) what paid.command result (live_in x named) (coming c.deny_line.new.texts) tells mid after (notes_said x.notes) (notes_said x.notes)) is
    (subst (λ (t : Texts). Answers paid.limit (live_in paid named) t what paid.command result (live_in paid named) (coming c.deny_line.new.texts) tells mid after (notes_said paid.notes) (notes_said paid.notes)) stack said) in
    let never = λ (own : List Note) (e : notes_said session.notes ≡ notes_said session.notes ++ own). never-short what paid.command result live live own mid after c.deny_line.ensures.memory in
    left-at session paid now_state named lines last input input result before after is
    (script-stepped (session_of session named lines input []) (session_of now_state named last input []) script outer what result tells before mid after
    (notes_said session.notes) (notes_said session.notes) sink there c.requires.line fits refl
    (record { spent = spent; limit = refl; budget = budget; reading = ap (λ (x : CommandLoop). x.reads) c.pay.ensures.lines; prompt = ap (λ (x : CommandLoop). x.prompt) c.pay.ensures.lines; input = refl; open_ = reader }) less
    (c.in-Ok.ensures.told sink) refl told never)

pub returns-in-Some-clause-kept : goal.returns-in-Some-clause-kept
returns-in-Some-clause-kept g c =
    answer-kept c.answer.result _ _ c.answer.new.session.machine.slots c.answer.new.session.notes (g.F.Files.state c.args.files.now) (g.F.Files.state c.answer.new.files) c.answer.ensures.counts

pub returns-in-None-clause-kept : goal.returns-in-None-clause-kept
returns-in-None-clause-kept g c =
    answer-kept c.deny_line.result _ _ _ _ (g.F.Files.state c.args.files.now) (g.F.Files.state c.args.files.now) c.deny_line.ensures.counts

-- a line that is too long keeps no note
pub returns-in-None-clause-keeps : goal.returns-in-None-clause-keeps
returns-in-None-clause-keeps g c =
    let files = g.F.Files.state c.args.files.now in
    let notes = c.args.session.now.notes in
    subst (λ (x : CommandState). AreKeptFor g.F.Files.tells (c.args.lines.now.budget - c.pay.new.lines.budget) notes x.notes files files) (sym c.pay.ensures.rest) (kept-none _ _ notes files)

pub returns-then-not-pay-clause-ports : goal.returns-then-not-pay-clause-ports
returns-then-not-pay-clause-ports g c =
    left-kept g.L.Lines.tells (g.L.Lines.state c.args.ports.now) c.args.session.now.machine.lines c.pay.new.session.machine.lines
    (ap (λ (x : CommandState). x.machine.lines) c.pay.ensures.rest)

pub returns-in-Err-clause-ports : goal.returns-in-Err-clause-ports
returns-in-Err-clause-ports g c =
    left-kept g.L.Lines.tells (g.L.Lines.state c.args.ports.now) c.args.session.now.machine.lines c.pay.new.session.machine.lines
    (ap (λ (x : CommandState). x.machine.lines) c.pay.ensures.rest)

pub returns-in-Some-clause-ports : goal.returns-in-Some-clause-ports
returns-in-Some-clause-ports g c =
    subst (λ (x : CommandState). LinesLeft g.L.Lines.tells (g.L.Lines.state c.args.ports.now) x.machine.lines (g.L.Lines.state c.answer.new.lines) c.answer.new.session.machine.lines)
    c.pay.ensures.rest c.answer.ensures.lines

pub returns-in-None-clause-ports : goal.returns-in-None-clause-ports
returns-in-None-clause-ports g c =
    left-kept g.L.Lines.tells (g.L.Lines.state c.args.ports.now) c.args.session.now.machine.lines c.pay.new.session.machine.lines
    (ap (λ (x : CommandState). x.machine.lines) c.pay.ensures.rest)

pub returns-in-Some-clause-keeps : goal.returns-in-Some-clause-keeps
returns-in-Some-clause-keeps g c =
    let lines = c.args.lines.now in
    let now = c.pay.new.lines in
    let paid = c.pay.ensures.paid c.if-not-pay.false in
    let old = g.F.Files.state c.args.files.now in
    let new = g.F.Files.state c.answer.new.files in
    let notes = c.answer.new.session.notes in
    subst (λ (x : CommandState). AreKeptFor g.F.Files.tells (lines.budget - now.budget) x.notes notes old new) c.pay.ensures.rest
    (kept-paid g.F.Files.tells (opens_asked (asked c.as_slice.result.now)) lines.budget now.budget c.pay.new.session.notes notes old new (omega (arith, paid.0, paid.1, c.line_cost.ensures)) c.answer.ensures.keeps)

pub returns-in-Err-clause-keeps : goal.returns-in-Err-clause-keeps
returns-in-Err-clause-keeps g c =
    let files = g.F.Files.state c.args.files.now in
    let notes = c.args.session.now.notes in
    subst (λ (x : CommandState). AreKeptFor g.F.Files.tells (c.args.lines.now.budget - c.pay.new.lines.budget) notes x.notes files files) (sym c.pay.ensures.rest) (kept-none _ _ notes files)

pub returns-in-Some-clause-still : goal.returns-in-Some-clause-still
returns-in-Some-clause-still g c = λ untold whole input next.
    let session = c.args.session.now in
    let paid = c.pay.new.session in
    let named = beyond (g.F.Files.state c.args.files.now).files (g.L.Lines.state c.args.ports.now) whole in
    let script = c.args.script in
    let outer = c.args.lines.now.texts.scripts in
    let lines = record c.args.lines.now { texts = record c.args.lines.now.texts { scripts = script ∷ outer } } in
    let now = c.pay.new.lines in
    let there : texts_of c.args.lines.now.texts.actions (script ∷ outer) ≡ texts_of [] (script ∷ outer) = ap (λ (a : List (List ℕ)). texts_of a (script ∷ outer)) c.requires.actions in
    let paid_for = c.pay.ensures.paid c.if-not-pay.false in
    let fits : cost_of_line script ≤ lines.budget = omega (arith, paid_for.0, c.line_cost.ensures) in
    let pushed : c.push.new.self ≡ past_line script ∷ outer =
    c.push.ensures ∙ ap (λ (x : Script). x ∷ now.texts.scripts) c.take_line-text.ensures.past ∙ ap (λ (x : CommandLoop). past_line script ∷ x.texts.scripts) c.pay.ensures.lines in
    let line : c.as_slice.result.now ≡ text_of_line script = c.as_slice.ensures ∙ some-fits c.in-Some.text (text_of_line script) (sym c.in-Some.is ∙ c.take_line-text.ensures.text) in
    c.answer.ensures.still
    (script-used g.F.Files.tells g.L.Lines.tells session paid named lines script outer input c.as_slice.result.now c.push.new.self (ap (λ (x : CommandState). x.machine) c.pay.ensures.rest) there c.requires.line fits pushed line next)
    untold

pub returns-then-not-pay-clause-keeps : goal.returns-then-not-pay-clause-keeps
returns-then-not-pay-clause-keeps g c =
    let notes = c.args.session.now.notes in
    let files = g.F.Files.state c.args.files.now in
    subst (λ (x : CommandState). AreKeptFor g.F.Files.tells (c.args.lines.now.budget - c.pay.new.lines.budget) notes x.notes files files) (sym c.pay.ensures.rest) (kept-none _ _ notes files)

-- ---- what was spent, and on what

pub returns-then-not-pay-clause-ends : goal.returns-then-not-pay-clause-ends
returns-then-not-pay-clause-ends g c = let unpaid = c.pay.ensures.unpaid c.if-not-pay.true in omega (arith, unpaid.0, unpaid.1, c.line_cost.ensures)

pub returns-in-Some-clause-ends : goal.returns-in-Some-clause-ends
returns-in-Some-clause-ends g c =
    let script = c.args.script in
    let lines = c.args.lines.now in
    let paid = c.pay.ensures.paid c.if-not-pay.false in
    let line : c.as_slice.result.now ≡ text_of_line script = c.as_slice.ensures ∙ some-fits c.in-Some.text (text_of_line script) (sym c.in-Some.is ∙ c.take_line-text.ensures.text) in
    paid-text lines.reads [] (script ∷ lines.texts.scripts) lines.budget c.pay.new.lines.budget _ _ c.as_slice.result.now c.answer.result (omega (arith, paid.0, paid.1, c.line_cost.ensures)) line
    c.answer.ensures.counts c.answer.ensures.asked

pub returns-in-None-clause-ends : goal.returns-in-None-clause-ends
returns-in-None-clause-ends g c =
    let lines = c.args.lines.now in
    denied-text lines.reads [] (c.args.script ∷ lines.texts.scripts) lines.budget c.pay.new.lines.budget _ _ c.deny_line.result c.deny_line.ensures.counts c.deny_line.ensures.stays

pub returns-in-Some-clause-scripts : goal.returns-in-Some-clause-scripts
returns-in-Some-clause-scripts g c =
    let script = c.args.script in
    let outer = c.args.lines.now.texts.scripts in
    let mid = c.push.new.self in
    let pushed : mid ≡ past_line script ∷ outer =
    c.push.ensures ∙ ap (λ (x : Script). x ∷ c.pay.new.lines.texts.scripts) c.take_line-text.ensures.past ∙ ap (λ (x : CommandLoop). past_line script ∷ x.texts.scripts) c.pay.ensures.lines in
    opens-since (script ∷ outer) mid c.answer.new.texts.scripts c.answer.result
    (λ first most stack. stack-as first most (past_line script ∷ outer) mid pushed (stack-past first most script outer stack)) c.answer.ensures.scripts

pub returns-in-None-clause-scripts : goal.returns-in-None-clause-scripts
returns-in-None-clause-scripts g c =
    let script = c.args.script in
    let outer = c.args.lines.now.texts.scripts in
    let mid = c.push.new.self in
    let pushed : mid ≡ past_line script ∷ outer =
    c.push.ensures ∙ ap (λ (x : Script). x ∷ c.pay.new.lines.texts.scripts) c.take_line-text.ensures.past ∙ ap (λ (x : CommandLoop). past_line script ∷ x.texts.scripts) c.pay.ensures.lines in
    opens-since (script ∷ outer) mid c.deny_line.new.texts.scripts c.deny_line.result
    (λ first most stack. stack-as first most (past_line script ∷ outer) mid pushed (stack-past first most script outer stack))
    (opens-failed _ mid c.deny_line.new.texts.scripts c.deny_line.result c.deny_line.ensures.scripts)

-- ---- the disk's file, and the console

pub returns-then-not-pay-clause-step : goal.returns-then-not-pay-clause-step
returns-then-not-pay-clause-step g c = λ apart whole input next.
    stays-kept c.args.session.now c.pay.new.session (g.F.Files.state c.args.files.now).files (ap (λ (x : CommandState). x.machine) c.pay.ensures.rest)

pub returns-in-Err-clause-step : goal.returns-in-Err-clause-step
returns-in-Err-clause-step g c = λ apart whole input next.
    stays-kept c.args.session.now c.pay.new.session (g.F.Files.state c.args.files.now).files (ap (λ (x : CommandState). x.machine) c.pay.ensures.rest)

pub returns-in-None-clause-step : goal.returns-in-None-clause-step
returns-in-None-clause-step g c = λ apart whole input next.
    stays-kept c.args.session.now c.pay.new.session (g.F.Files.state c.args.files.now).files (ap (λ (x : CommandState). x.machine) c.pay.ensures.rest)

pub returns-in-Some-clause-step : goal.returns-in-Some-clause-step
returns-in-Some-clause-step g c = λ apart whole input next.
    let session = c.args.session.now in
    let paid = c.pay.new.session in
    let ports = g.L.Lines.state c.args.ports.now in
    let named = beyond (g.F.Files.state c.args.files.now).files ports whole in
    let script = c.args.script in
    let outer = c.args.lines.now.texts.scripts in
    let lines = record c.args.lines.now { texts = record c.args.lines.now.texts { scripts = script ∷ outer } } in
    let now = c.pay.new.lines in
    let is = c.pay.ensures.rest in
    let there : texts_of c.args.lines.now.texts.actions (script ∷ outer) ≡ texts_of [] (script ∷ outer) = ap (λ (a : List (List ℕ)). texts_of a (script ∷ outer)) c.requires.actions in
    let paid_for = c.pay.ensures.paid c.if-not-pay.false in
    let fits : cost_of_line script ≤ lines.budget = omega (arith, paid_for.0, c.line_cost.ensures) in
    let pushed : c.push.new.self ≡ past_line script ∷ outer =
    c.push.ensures ∙ ap (λ (x : Script). x ∷ now.texts.scripts) c.take_line-text.ensures.past ∙ ap (λ (x : CommandLoop). past_line script ∷ x.texts.scripts) c.pay.ensures.lines in
    let line : c.as_slice.result.now ≡ text_of_line script = c.as_slice.ensures ∙ some-fits c.in-Some.text (text_of_line script) (sym c.in-Some.is ∙ c.take_line-text.ensures.text) in
    subst (λ (x : CommandState). StaysWhereAlone x c.answer.new.session (g.F.Files.state c.args.files.now).files (g.F.Files.state c.answer.new.files).files) is
    (c.answer.ensures.step
    (script-used g.F.Files.tells g.L.Lines.tells session paid named lines script outer input c.as_slice.result.now c.push.new.self (ap (λ (x : CommandState). x.machine) is) there c.requires.line fits pushed line next)
    (λ tells. subst (λ (x : CommandState). AreApart ports x.machine.lines) (sym is) (apart tells)))

pub returns-then-not-pay-clause-grows : goal.returns-then-not-pay-clause-grows
returns-then-not-pay-clause-grows g c = grows-same g.S.Sink.tells (g.S.Sink.written c.args.out.now) (g.S.Sink.written c.args.out.now) refl

pub returns-in-Err-clause-grows : goal.returns-in-Err-clause-grows
returns-in-Err-clause-grows g c = grows-part g.S.Sink.tells (g.S.Sink.written c.args.out.now) (echo_text c.args.script) (g.S.Sink.written c.put_echo.new.out) c.in-Err.ensures.told

pub returns-in-Some-clause-grows : goal.returns-in-Some-clause-grows
returns-in-Some-clause-grows g c =
    let before = g.S.Sink.written c.args.out.now in
    let mid = g.S.Sink.written c.put_echo.new.out in
    grows-both g.S.Sink.tells before mid (g.S.Sink.written c.answer.new.out) (grows-by g.S.Sink.tells before (echo_text c.args.script) mid c.in-Ok.ensures.told) c.answer.ensures.grows

pub returns-in-None-clause-grows : goal.returns-in-None-clause-grows
returns-in-None-clause-grows g c =
    let before = g.S.Sink.written c.args.out.now in
    let mid = g.S.Sink.written c.put_echo.new.out in
    grows-both g.S.Sink.tells before mid (g.S.Sink.written c.deny_line.new.out) (grows-by g.S.Sink.tells before (echo_text c.args.script) mid c.in-Ok.ensures.told) c.deny_line.ensures.grows
