use Rattle.std.proofs.Common.{inr, ◌-◌, [], ◌∷◌, ap, sym, ◌∙◌, refl, subst, arith}
use Rattle.file_commands.specs.Notes.{notes_said}
use Rattle.unit_files.specs.InStep.{InStep}
use Rattle.nova_machine.specs.Machine.{attached_files}
use Rattle.nova_machine.specs.Comes.{output}
use Rattle.telnet_lines.specs.Many.{AreApart}
use Rattle.command_session.specs.Live.{CommandState, beyond}
use Rattle.command_session.specs.DiskFile.{StaysWhereAlone}
use Rattle.command_session.specs.LinesLeft.{LinesLeft}
use Rattle.command_session.proofs.GrowLemmas.{grows-same}
use Rattle.scp_script.specs.declared.progress.Progress.TheVariants.{IsOver}
use Rattle.scp_script.specs.declared.progress.Finish.TheVariants.{Exit, OutOfMemory}
use Rattle.session_texts.specs.Actions.{texts_of}
use Rattle.scp_script.specs.Loop.{session_of, AreKeptFor, Stepped}
use Rattle.scp_script.specs.Used.{NextTold}
use Rattle.scp_script.proofs.UsedLemmas.{told-still}
use Rattle.scp_script.proofs.LineLemmas.{none-read, all-done}
use Rattle.scp_script.proofs.NoteLemmas.{over-alone, room-refused, left-at, closed-before}
use Rattle.scp_script.proofs.KeptLemmas.{kept-none}
use Rattle.scp_script.proofs.PortLemmas.{left-kept}
use Rattle.scp_script.proofs.GrowLemmas.{stays-kept}
use Rattle.session_texts.specs.Scripts.{still_open}
use Rattle.session_texts.proofs.OpenLemmas.{stack-as, stack-still}
use Rattle.scp_script.proofs.SpendingLemmas.{opens-since, cause-as}
use Rattle.scp_script.proofs.command_loop.next_line.Goals as goal

pub returns-then-is_err-clause-told : goal.returns-then-is_err-clause-told
returns-then-is_err-clause-told g c = λ enough source apart sink step whole begins next.
    let session = c.args.session.now in
    let taken = record session { spare = c.take_room.new.self.spare } in
    let ports = g.L.Lines.state c.args.ports.now in
    let named = beyond (g.F.Files.state c.args.files.now).files ports whole in
    let left = g.C.Source.left c.args.input.now in
    let before = output (g.S.Sink.written c.args.out.now) ports.sent in
    let old = session_of session named c.args.lines.now left [] in
    let new = session_of taken named c.args.lines.now left [] in
    left-at session c.take_room.new.self taken named c.args.lines.now c.args.lines.now left left (IsOver OutOfMemory) before before c.take_room.ensures.rest
    (over-alone old new OutOfMemory before before (notes_said session.notes) (notes_said session.notes) refl (room-refused old new before refl refl))

pub returns-in-Some-clause-told : goal.returns-in-Some-clause-told
returns-in-Some-clause-told g c = λ enough source apart sink step whole begins next.
    let session = c.args.session.now in
    let number = ap (λ (x : CommandState). x.command) c.take_room.ensures.rest in
    let ports = g.L.Lines.state c.args.ports.now in
    let ports' = g.L.Lines.state c.script_line.new.ports in
    let named = beyond (g.F.Files.state c.args.files.now).files ports whole in
    let lines = c.args.lines.now in
    let left = g.C.Source.left c.args.input.now in
    let before = output (g.S.Sink.written c.args.out.now) ports.sent in
    let after = output (g.S.Sink.written c.script_line.new.out) ports'.sent in
    let new = session_of c.script_line.new.session (beyond (g.F.Files.state c.script_line.new.files).files ports' whole) c.script_line.new.lines left in
    let scripts = c.in-Some.script ∷ c.pop_open.new.self in
    let stepped = subst (λ (x : CommandState). InStep (attached_files x.machine) (g.F.Files.state c.args.files.now).files) (sym c.take_room.ensures.rest) step in
    let used = subst (λ (x : CommandState). NextTold g.F.Files.tells g.L.Lines.tells (session_of x named (record lines { texts = record lines.texts { scripts = scripts } }) left [])) (sym c.take_room.ensures.rest)
    (told-still g.F.Files.tells g.L.Lines.tells (session_of session named lines left []) scripts (c.is_empty.ensures.0 c.if-not-is_empty.false) c.in-Some.ensures.taken next) in
    closed-before (session_of session named lines left []) scripts c.script_line.result new before after (notes_said session.notes) (notes_said c.script_line.new.session.notes) (c.is_empty.ensures.0 c.if-not-is_empty.false) c.in-Some.ensures.taken
    (subst (λ (x : CommandState). Stepped (session_of x named (record lines { texts = record lines.texts { scripts = scripts } }) left) c.script_line.result new before after (notes_said x.notes) (notes_said c.script_line.new.session.notes))
    c.take_room.ensures.rest (c.script_line.ensures.told (omega (arith, enough, number)) (λ tells. subst (λ (x : CommandState). AreApart ports x.machine.lines) (sym c.take_room.ensures.rest) (apart tells)) sink stepped whole begins left used))

pub returns-in-None-clause-told : goal.returns-in-None-clause-told
returns-in-None-clause-told g c = λ enough source apart sink step whole begins next.
    let session = c.args.session.now in
    let number = ap (λ (x : CommandState). x.command) c.take_room.ensures.rest in
    let ports = g.L.Lines.state c.args.ports.now in
    let ports' = g.L.Lines.state c.input_line.new.ports in
    let named = beyond (g.F.Files.state c.args.files.now).files ports whole in
    let lines = c.args.lines.now in
    let left = g.C.Source.left c.args.input.now in
    let before = output (g.S.Sink.written c.args.out.now) ports.sent in
    let after = output (g.S.Sink.written c.input_line.new.out) ports'.sent in
    let new = session_of c.input_line.new.session (beyond (g.F.Files.state c.input_line.new.files).files ports' whole) c.input_line.new.lines (g.C.Source.left c.input_line.new.input) in
    let scripts = c.pop_open.new.self in
    let stepped = subst (λ (x : CommandState). InStep (attached_files x.machine) (g.F.Files.state c.args.files.now).files) (sym c.take_room.ensures.rest) step in
    let used = subst (λ (x : CommandState). NextTold g.F.Files.tells g.L.Lines.tells (session_of x named (record lines { texts = record lines.texts { scripts = scripts } }) left [])) (sym c.take_room.ensures.rest)
    (told-still g.F.Files.tells g.L.Lines.tells (session_of session named lines left []) scripts (c.is_empty.ensures.0 c.if-not-is_empty.false) (c.in-None.ensures.taken.0 ∙ sym c.in-None.ensures.taken.1) next) in
    closed-before (session_of session named lines left []) scripts c.input_line.result new before after (notes_said session.notes) (notes_said c.input_line.new.session.notes)
    (c.is_empty.ensures.0 c.if-not-is_empty.false) (c.in-None.ensures.taken.0 ∙ sym c.in-None.ensures.taken.1)
    (subst (λ (x : CommandState). Stepped (session_of x named (record lines { texts = record lines.texts { scripts = scripts } }) left) c.input_line.result new before after (notes_said x.notes) (notes_said c.input_line.new.session.notes))
    c.take_room.ensures.rest (c.input_line.ensures.told (omega (arith, enough, number)) (source c.if-lines.true) (λ tells. subst (λ (x : CommandState). AreApart ports x.machine.lines) (sym c.take_room.ensures.rest) (apart tells)) sink stepped whole begins used))

pub returns-then-not-is_empty-clause-told : goal.returns-then-not-is_empty-clause-told
returns-then-not-is_empty-clause-told g c = λ enough source apart sink step whole begins next.
    let number = ap (λ (x : CommandState). x.command) c.take_room.ensures.rest in
    let ports = g.L.Lines.state c.args.ports.now in
    let ports' = g.L.Lines.state c.action.new.ports in
    let named = beyond (g.F.Files.state c.args.files.now).files ports whole in
    let left = g.C.Source.left c.args.input.now in
    let new = session_of c.action.new.session (beyond (g.F.Files.state c.action.new.files).files ports' whole) c.action.new.lines left in
    let stepped = subst (λ (x : CommandState). InStep (attached_files x.machine) (g.F.Files.state c.args.files.now).files) (sym c.take_room.ensures.rest) step in
    let used = subst (λ (x : CommandState). NextTold g.F.Files.tells g.L.Lines.tells (session_of x named c.args.lines.now left [])) (sym c.take_room.ensures.rest) next in
    subst (λ (x : CommandState). Stepped (session_of x named c.args.lines.now left) c.action.result new (output (g.S.Sink.written c.args.out.now) ports.sent) (output (g.S.Sink.written c.action.new.out) ports'.sent) (notes_said x.notes) (notes_said c.action.new.session.notes))
    c.take_room.ensures.rest (c.action.ensures.told (omega (arith, enough, number)) (λ tells. subst (λ (x : CommandState). AreApart ports x.machine.lines) (sym c.take_room.ensures.rest) (apart tells)) sink stepped whole begins left used)

pub returns-in-None-2-clause-told : goal.returns-in-None-2-clause-told
returns-in-None-2-clause-told g c = λ enough source apart sink step whole begins next.
    let session = c.args.session.now in
    let taken = record session { spare = c.take_room.new.self.spare } in
    let ports = g.L.Lines.state c.args.ports.now in
    let named = beyond (g.F.Files.state c.args.files.now).files ports whole in
    let lines = c.args.lines.now in
    let scripts = c.pop_open.new.self in
    let closed = record lines { texts = record lines.texts { scripts = scripts } } in
    let left = g.C.Source.left c.args.input.now in
    let before = output (g.S.Sink.written c.args.out.now) ports.sent in
    let none = c.is_empty.ensures.0 c.if-not-is_empty.false in
    let old = session_of session named closed left [] in
    let new = session_of taken named closed left [] in
    left-at session c.take_room.new.self taken named lines closed left left (IsOver (Exit 0)) before before c.take_room.ensures.rest
    (closed-before (session_of session named lines left []) scripts (IsOver (Exit 0)) (session_of taken named closed left) before before (notes_said session.notes) (notes_said session.notes) none
    (c.in-None.ensures.taken.0 ∙ sym c.in-None.ensures.taken.1)
    (over-alone old new (Exit 0) before before (notes_said session.notes) (notes_said session.notes) refl
    (all-done old new before (λ i. texts_of (none i) (c.in-None.ensures.taken.1 i)) c.if-lines.false refl (none-read lines.reader.open_ left))))

pub returns-then-is_err-clause-ports : goal.returns-then-is_err-clause-ports
returns-then-is_err-clause-ports g c =
    left-kept g.L.Lines.tells (g.L.Lines.state c.args.ports.now) c.args.session.now.machine.lines c.take_room.new.self.machine.lines
    (ap (λ (x : CommandState). x.machine.lines) c.take_room.ensures.rest)

pub returns-then-not-is_empty-clause-ports : goal.returns-then-not-is_empty-clause-ports
returns-then-not-is_empty-clause-ports g c =
    subst (λ (x : CommandState). LinesLeft g.L.Lines.tells (g.L.Lines.state c.args.ports.now) x.machine.lines (g.L.Lines.state c.action.new.ports) c.action.new.session.machine.lines)
    c.take_room.ensures.rest c.action.ensures.ports

pub returns-in-Some-clause-ports : goal.returns-in-Some-clause-ports
returns-in-Some-clause-ports g c =
    subst (λ (x : CommandState). LinesLeft g.L.Lines.tells (g.L.Lines.state c.args.ports.now) x.machine.lines (g.L.Lines.state c.script_line.new.ports) c.script_line.new.session.machine.lines)
    c.take_room.ensures.rest c.script_line.ensures.ports

pub returns-in-None-clause-ports : goal.returns-in-None-clause-ports
returns-in-None-clause-ports g c =
    subst (λ (x : CommandState). LinesLeft g.L.Lines.tells (g.L.Lines.state c.args.ports.now) x.machine.lines (g.L.Lines.state c.input_line.new.ports) c.input_line.new.session.machine.lines)
    c.take_room.ensures.rest c.input_line.ensures.ports

pub returns-in-None-2-clause-ports : goal.returns-in-None-2-clause-ports
returns-in-None-2-clause-ports g c =
    left-kept g.L.Lines.tells (g.L.Lines.state c.args.ports.now) c.args.session.now.machine.lines c.take_room.new.self.machine.lines
    (ap (λ (x : CommandState). x.machine.lines) c.take_room.ensures.rest)

-- ---- lines that tell nothing

pub returns-then-not-is_empty-clause-still : goal.returns-then-not-is_empty-clause-still
returns-then-not-is_empty-clause-still g c = λ source untold whole next.
    let named = beyond (g.F.Files.state c.args.files.now).files (g.L.Lines.state c.args.ports.now) whole in
    let left = g.C.Source.left c.args.input.now in
    c.action.ensures.still untold whole left
    (subst (λ (x : CommandState). NextTold g.F.Files.tells g.L.Lines.tells (session_of x named c.args.lines.now left [])) (sym c.take_room.ensures.rest) next)

pub returns-in-Some-clause-still : goal.returns-in-Some-clause-still
returns-in-Some-clause-still g c = λ source untold whole next.
    let session = c.args.session.now in
    let named = beyond (g.F.Files.state c.args.files.now).files (g.L.Lines.state c.args.ports.now) whole in
    let lines = c.args.lines.now in
    let left = g.C.Source.left c.args.input.now in
    let scripts = c.in-Some.script ∷ c.pop_open.new.self in
    let used = subst (λ (x : CommandState). NextTold g.F.Files.tells g.L.Lines.tells (session_of x named (record lines { texts = record lines.texts { scripts = scripts } }) left [])) (sym c.take_room.ensures.rest)
    (told-still g.F.Files.tells g.L.Lines.tells (session_of session named lines left []) scripts (c.is_empty.ensures.0 c.if-not-is_empty.false) c.in-Some.ensures.taken next) in
    c.script_line.ensures.still untold whole left used

pub returns-in-None-clause-still : goal.returns-in-None-clause-still
returns-in-None-clause-still g c = λ source untold whole next.
    let session = c.args.session.now in
    let named = beyond (g.F.Files.state c.args.files.now).files (g.L.Lines.state c.args.ports.now) whole in
    let lines = c.args.lines.now in
    let left = g.C.Source.left c.args.input.now in
    let scripts = c.pop_open.new.self in
    let used = subst (λ (x : CommandState). NextTold g.F.Files.tells g.L.Lines.tells (session_of x named (record lines { texts = record lines.texts { scripts = scripts } }) left [])) (sym c.take_room.ensures.rest)
    (told-still g.F.Files.tells g.L.Lines.tells (session_of session named lines left []) scripts (c.is_empty.ensures.0 c.if-not-is_empty.false) (c.in-None.ensures.taken.0 ∙ sym c.in-None.ensures.taken.1) next) in
    c.input_line.ensures.still (source c.if-lines.true) untold whole used

-- ---- the notes

pub returns-then-not-is_empty-clause-keeps : goal.returns-then-not-is_empty-clause-keeps
returns-then-not-is_empty-clause-keeps g c =
    let units = c.args.lines.now.budget - c.action.new.lines.budget in
    subst (λ (x : CommandState). AreKeptFor g.F.Files.tells units x.notes c.action.new.session.notes (g.F.Files.state c.args.files.now) (g.F.Files.state c.action.new.files)) c.take_room.ensures.rest c.action.ensures.keeps

pub returns-in-Some-clause-keeps : goal.returns-in-Some-clause-keeps
returns-in-Some-clause-keeps g c =
    let units = c.args.lines.now.budget - c.script_line.new.lines.budget in
    subst (λ (x : CommandState). AreKeptFor g.F.Files.tells units x.notes c.script_line.new.session.notes (g.F.Files.state c.args.files.now) (g.F.Files.state c.script_line.new.files)) c.take_room.ensures.rest c.script_line.ensures.keeps

pub returns-in-None-clause-keeps : goal.returns-in-None-clause-keeps
returns-in-None-clause-keeps g c =
    let units = c.args.lines.now.budget - c.input_line.new.lines.budget in
    subst (λ (x : CommandState). AreKeptFor g.F.Files.tells units x.notes c.input_line.new.session.notes (g.F.Files.state c.args.files.now) (g.F.Files.state c.input_line.new.files)) c.take_room.ensures.rest c.input_line.ensures.keeps

pub returns-then-is_err-clause-keeps : goal.returns-then-is_err-clause-keeps
returns-then-is_err-clause-keeps g c =
    let notes = c.args.session.now.notes in
    let files = g.F.Files.state c.args.files.now in
    let units = c.args.lines.now.budget - c.args.lines.now.budget in
    subst (λ (x : CommandState). AreKeptFor g.F.Files.tells units notes x.notes files files) (sym c.take_room.ensures.rest) (kept-none _ _ notes files)

pub returns-in-None-2-clause-keeps : goal.returns-in-None-2-clause-keeps
returns-in-None-2-clause-keeps g c =
    let notes = c.args.session.now.notes in
    let files = g.F.Files.state c.args.files.now in
    let units = c.args.lines.now.budget - c.args.lines.now.budget in
    subst (λ (x : CommandState). AreKeptFor g.F.Files.tells units notes x.notes files files) (sym c.take_room.ensures.rest) (kept-none _ _ notes files)

-- ---- what was spent, and on what

pub returns-in-Some-clause-ends : goal.returns-in-Some-clause-ends
returns-in-Some-clause-ends g c =
    let lines = c.args.lines.now in
    cause-as lines.reads lines.reads lines.texts.actions [] (still_open lines.texts.scripts) (c.in-Some.script ∷ c.pop_open.new.self) lines.budget c.script_line.new.lines.budget c.script_line.result refl
    (c.is_empty.ensures.0 c.if-not-is_empty.false) c.in-Some.ensures.taken c.script_line.ensures.ends

pub returns-in-None-clause-ends : goal.returns-in-None-clause-ends
returns-in-None-clause-ends g c =
    let lines = c.args.lines.now in
    cause-as lines.reads lines.reads lines.texts.actions [] (still_open lines.texts.scripts) [] lines.budget c.input_line.new.lines.budget c.input_line.result refl
    (c.is_empty.ensures.0 c.if-not-is_empty.false) c.in-None.ensures.taken.0 c.input_line.ensures.ends

pub returns-in-None-2-clause-ends : goal.returns-in-None-2-clause-ends
returns-in-None-2-clause-ends g c = inr ((c.if-lines.false, c.is_empty.ensures.0 c.if-not-is_empty.false, c.in-None-2.ensures.taken.0), refl)

pub returns-in-Some-clause-scripts : goal.returns-in-Some-clause-scripts
returns-in-Some-clause-scripts g c =
    let old = c.args.lines.now.texts.scripts in
    let mid = c.in-Some.script ∷ c.pop_open.new.self in
    opens-since old mid c.script_line.new.lines.texts.scripts c.script_line.result
    (λ first most stack. stack-as first most (still_open old) mid (sym c.in-Some.ensures.taken) (stack-still first most old stack)) c.script_line.ensures.scripts

pub returns-in-None-clause-scripts : goal.returns-in-None-clause-scripts
returns-in-None-clause-scripts g c =
    let old = c.args.lines.now.texts.scripts in
    let mid = c.pop_open.new.self in
    opens-since old mid c.input_line.new.lines.texts.scripts c.input_line.result
    (λ first most stack. stack-as first most (still_open old) mid (c.in-None.ensures.taken.1 ∙ sym c.in-None.ensures.taken.0) (stack-still first most old stack)) c.input_line.ensures.scripts

-- ---- the disk's file

pub returns-then-is_err-clause-step : goal.returns-then-is_err-clause-step
returns-then-is_err-clause-step g c = λ source apart whole next.
    stays-kept c.args.session.now c.take_room.new.self (g.F.Files.state c.args.files.now).files (ap (λ (x : CommandState). x.machine) c.take_room.ensures.rest)

pub returns-in-None-2-clause-step : goal.returns-in-None-2-clause-step
returns-in-None-2-clause-step g c = λ source apart whole next.
    stays-kept c.args.session.now c.take_room.new.self (g.F.Files.state c.args.files.now).files (ap (λ (x : CommandState). x.machine) c.take_room.ensures.rest)

pub returns-then-not-is_empty-clause-step : goal.returns-then-not-is_empty-clause-step
returns-then-not-is_empty-clause-step g c = λ source apart whole next.
    let ports = g.L.Lines.state c.args.ports.now in
    let named = beyond (g.F.Files.state c.args.files.now).files ports whole in
    let left = g.C.Source.left c.args.input.now in
    let used = subst (λ (x : CommandState). NextTold g.F.Files.tells g.L.Lines.tells (session_of x named c.args.lines.now left [])) (sym c.take_room.ensures.rest) next in
    subst (λ (x : CommandState). StaysWhereAlone x c.action.new.session (g.F.Files.state c.args.files.now).files (g.F.Files.state c.action.new.files).files) c.take_room.ensures.rest
    (c.action.ensures.step (λ tells. subst (λ (x : CommandState). AreApart ports x.machine.lines) (sym c.take_room.ensures.rest) (apart tells)) whole left used)

pub returns-in-Some-clause-step : goal.returns-in-Some-clause-step
returns-in-Some-clause-step g c = λ source apart whole next.
    let session = c.args.session.now in
    let ports = g.L.Lines.state c.args.ports.now in
    let named = beyond (g.F.Files.state c.args.files.now).files ports whole in
    let lines = c.args.lines.now in
    let left = g.C.Source.left c.args.input.now in
    let scripts = c.in-Some.script ∷ c.pop_open.new.self in
    let used = subst (λ (x : CommandState). NextTold g.F.Files.tells g.L.Lines.tells (session_of x named (record lines { texts = record lines.texts { scripts = scripts } }) left [])) (sym c.take_room.ensures.rest)
    (told-still g.F.Files.tells g.L.Lines.tells (session_of session named lines left []) scripts (c.is_empty.ensures.0 c.if-not-is_empty.false) c.in-Some.ensures.taken next) in
    subst (λ (x : CommandState). StaysWhereAlone x c.script_line.new.session (g.F.Files.state c.args.files.now).files (g.F.Files.state c.script_line.new.files).files) c.take_room.ensures.rest
    (c.script_line.ensures.step (λ tells. subst (λ (x : CommandState). AreApart ports x.machine.lines) (sym c.take_room.ensures.rest) (apart tells)) whole left used)

pub returns-in-None-clause-step : goal.returns-in-None-clause-step
returns-in-None-clause-step g c = λ source apart whole next.
    let session = c.args.session.now in
    let ports = g.L.Lines.state c.args.ports.now in
    let named = beyond (g.F.Files.state c.args.files.now).files ports whole in
    let lines = c.args.lines.now in
    let left = g.C.Source.left c.args.input.now in
    let scripts = c.pop_open.new.self in
    let used = subst (λ (x : CommandState). NextTold g.F.Files.tells g.L.Lines.tells (session_of x named (record lines { texts = record lines.texts { scripts = scripts } }) left [])) (sym c.take_room.ensures.rest)
    (told-still g.F.Files.tells g.L.Lines.tells (session_of session named lines left []) scripts (c.is_empty.ensures.0 c.if-not-is_empty.false) (c.in-None.ensures.taken.0 ∙ sym c.in-None.ensures.taken.1) next) in
    subst (λ (x : CommandState). StaysWhereAlone x c.input_line.new.session (g.F.Files.state c.args.files.now).files (g.F.Files.state c.input_line.new.files).files) c.take_room.ensures.rest
    (c.input_line.ensures.step (source c.if-lines.true) (λ tells. subst (λ (x : CommandState). AreApart ports x.machine.lines) (sym c.take_room.ensures.rest) (apart tells)) whole used)

-- ---- the console, and the input

pub returns-then-is_err-clause-grows : goal.returns-then-is_err-clause-grows
returns-then-is_err-clause-grows g c = grows-same g.S.Sink.tells (g.S.Sink.written c.args.out.now) (g.S.Sink.written c.args.out.now) refl

pub returns-in-None-2-clause-grows : goal.returns-in-None-2-clause-grows
returns-in-None-2-clause-grows g c = grows-same g.S.Sink.tells (g.S.Sink.written c.args.out.now) (g.S.Sink.written c.args.out.now) refl

pub returns-then-is_err-clause-drops : goal.returns-then-is_err-clause-drops
returns-then-is_err-clause-drops g c = λ source. (0, refl)

pub returns-in-None-2-clause-drops : goal.returns-in-None-2-clause-drops
returns-in-None-2-clause-drops g c = λ source. (0, refl)

pub returns-then-not-is_empty-clause-drops : goal.returns-then-not-is_empty-clause-drops
returns-then-not-is_empty-clause-drops g c = λ source. (0, refl)

pub returns-in-Some-clause-drops : goal.returns-in-Some-clause-drops
returns-in-Some-clause-drops g c = λ source. (0, refl)

pub returns-in-None-clause-drops : goal.returns-in-None-clause-drops
returns-in-None-clause-drops g c = λ source. c.input_line.ensures.drops (source c.if-lines.true)
