use Rattle.std.proofs.Common.{◌≡◌, ◌⊎◌, ℕ, Some, inl, inr, true, IsTrue, Err, List, [], Option, map, refl, ap, sym, ◌∙◌, subst, arith, String, Global}
use Rattle.file_commands.specs.declared.note.FaultNote.{FaultNote}
use Rattle.file_commands.specs.Notes.{notes_said}
use Rattle.file_commands.specs.Counts.{AreCounted}
use Rattle.std.specs.List.{AllByRecursion}
use Rattle.unit_list.specs.Bus.{kinds_of}
use Rattle.unit_files.specs.Attachments.{Held, no_files}
use Rattle.file_commands.specs.OwnFiles.{IsOwnNote, AreOwn}
use Rattle.file_commands.proofs.OwnFiles.{own-both, all-own}
use Rattle.nova_machine.specs.Machine.{MachineState}
use Rattle.file_commands.proofs.Adding.{counted-none}
use Rattle.file_traits.specs.Lists.{NamedBytes}
use Rattle.state_transfer.specs.SavedValid.{AreStandard}
use Rattle.command_session.specs.Live.{CommandState, beyond}
use Rattle.scp_commands.proofs.KindLemmas.{standard-by}
use Rattle.scp_script.specs.Loop.{AreKeptFor}
use Rattle.program_start.specs.declared.word_files.Refusal.{Refusal}
use Rattle.program_start.specs.WordFiles.{AreWordClosings, NamesTold, StartsWith}
use Rattle.nova_top.specs.Ends.{InputTells, HasKeysFile, HasScript}
use Rattle.program_start.specs.Start.{Begins}
use Rattle.nova_top.specs.Program.{OpensAs, script_text}
use Rattle.command_words.proofs.StandardLemmas.{in-bus-order}
use Rattle.nova_top.proofs.OpeningLemmas.{text-begins, opens}
use Rattle.nova_top.proofs.UsedLemmas.{words-named, course-told}
use Rattle.command_words.specs.Words.{options_of, texts_of}
use Rattle.command_words.specs.declared.options.Options.{Options}
use Rattle.program_start.specs.Workload.{with_workload}
use Rattle.nova_top.proofs.ProgramLemmas.{Begun, Made, begun-files, begun-lines, new-kinds, new-slots, new-standard, workload-given, kept-exact, refused-exact, no-exact, usage-answer, files-answer, files-memory, files-status, files-cause, session-answer, memory-answer, session-cause, session-status, refused-status, kept-counted, refused-counted, complete-answer, never-unwritten, denied-unwritten, unwritten-whole}
use Rattle.nova_top.proofs.CountLemmas.{no-openings, refused-openings, session-openings}
use Rattle.nova_top.proofs.PortLemmas.{lines-unasked, lines-of-kinds}
use Rattle.nova_top.proofs.ResumptionLemmas.{resumes-saved}
use Rattle.nova_top.proofs.UnsaidLemmas.{says-no-more, without-notes, either-said, or-said}
use Rattle.nova_top.proofs.UnreadLemmas.{usage-opened, refused-unopened, refused-keys, refused-measured, session-opened, session-keys, session-measured}
use Rattle.nova_top.proofs.program.simulate.Given.{Over}
use Rattle.nova_top.proofs.program.simulate.Goals as goal
use Rattle.nova_top.proofs.program.simulate.Goals.{After-run_session-arg-in-Ok-begin-2-1}

-- a file that the words name is told
named : (g : Over) (words : List (String Global)) (options : Options) → options_of (texts_of words) ≡ Some options → (HasKeysFile (texts_of words) ⊎ HasScript (texts_of words) → IsTrue g.F.Files.tells)
    → NamesTold g.F.Files.tells options
named g words options chosen told = words-named g.F.Files.tells (texts_of words) options chosen told

-- ---- words outside their grammar

pub returns-in_default-clause-outcome : goal.returns-in_default-clause-outcome
returns-in_default-clause-outcome g c = λ source used sink other whole first.
    inr (usage-answer (map g.U.Unit.unit_state c.args.units.items) (texts_of c.args.words.now) (g.C.Source.left c.args.input.now) (g.S.Sink.written c.args.output.now) (g.S.Sink.written c.usage.new.output)
    (beyond (g.F.Files.state c.args.files.now).files (g.L.Lines.state c.args.lines.now) whole) c.usage.result.status c.usage.result.machine c.usage.result.faults.items
    (sym c.options_of.ensures.options ∙ c.in_default.is) c.usage.ensures.machine c.usage.ensures.notes (c.usage.ensures.told sink))

pub returns-in_default-clause-complete : goal.returns-in_default-clause-complete
returns-in_default-clause-complete g c = λ source used sink other quiet fed none whole first.
    let was = g.F.Files.state c.args.files.now in
    let old = beyond was.files (g.L.Lines.state c.args.lines.now) whole in
    let is = refused-status 100 c.usage.result.status (g.S.Sink.fault_count c.args.output.now) (g.S.Sink.fault_count c.usage.new.output) c.usage.ensures.cause quiet in
    let counted = subst (λ (items : List FaultNote). AreCounted items was was) (sym c.usage.ensures.notes) (counted-none was) in
    either-said
    (without-notes g.L.Lines.tells (map g.U.Unit.unit_state c.args.units.items) (texts_of c.args.words.now) (g.C.Source.left c.args.input.now) (g.C.Source.left c.args.input.now) (g.S.Sink.written c.args.output.now) (g.S.Sink.written c.usage.new.output) old old
    c.usage.result.faults.items was was counted none)
    (complete-answer (map g.U.Unit.unit_state c.args.units.items) (texts_of c.args.words.now) (g.C.Source.left c.args.input.now) (g.C.Source.left c.args.input.now) (g.S.Sink.written c.args.output.now) (g.S.Sink.written c.usage.new.output) old old
    c.usage.result.status c.usage.result.machine c.usage.result.faults.items was was ((λ s. omega (arith, is, s)), (λ s. omega (arith, is, s)))
    counted none)
    (returns-in_default-clause-outcome g c source used sink other whole first)

-- ---- a file that is refused

pub returns-in-Err-clause-outcome : goal.returns-in-Err-clause-outcome
returns-in-Err-clause-outcome g c = λ source used sink other whole first.
    let lines = g.L.Lines.state c.args.lines.now in
    inr (files-answer (map g.U.Unit.unit_state c.args.units.items) (texts_of c.args.words.now) c.in-Some.options (g.C.Source.left c.args.input.now) (g.S.Sink.written c.args.output.now) (g.S.Sink.written c.refuse_files.new.output)
    (beyond (g.F.Files.state c.args.files.now).files lines whole) (beyond (g.F.Files.state c.begin.new.files).files lines whole) c.in-Err.refusal c.refuse_files.result.status c.refuse_files.result.machine
    c.begin.new.notes.items c.refuse_files.result.faults.items (sym c.options_of.ensures.options ∙ c.in-Some.is) (c.in-Err.ensures.told (named g c.args.words.now c.in-Some.options (sym c.options_of.ensures.options ∙ c.in-Some.is) used.names)) c.refuse_files.ensures.machine
    (ap (λ (f : List NamedBytes). beyond f lines whole) (c.begin.ensures.files (named g c.args.words.now c.in-Some.options (sym c.options_of.ensures.options ∙ c.in-Some.is) used.names))) other (c.refuse_files.ensures.told sink) (c.refuse_files.ensures.notes ∙ c.notes_of.ensures))

pub returns-in-Err-clause-complete : goal.returns-in-Err-clause-complete
returns-in-Err-clause-complete g c = λ source used sink other quiet fed none whole first.
    let was = g.F.Files.state c.args.files.now in
    let now = g.F.Files.state c.begin.new.files in
    let lines = g.L.Lines.state c.args.lines.now in
    let status = files-status (texts_of c.args.words.now) c.in-Err.refusal c.refuse_files.result.status (g.S.Sink.fault_count c.args.output.now) (g.S.Sink.fault_count c.refuse_files.new.output) c.refuse_files.ensures.cause quiet in
    let counted = refused-counted [] c.begin.new.notes.items c.refuse_files.result.faults.items was now refl (c.refuse_files.ensures.notes ∙ c.notes_of.ensures) c.begin.ensures.keeps in
    either-said
    (without-notes g.L.Lines.tells (map g.U.Unit.unit_state c.args.units.items) (texts_of c.args.words.now) (g.C.Source.left c.args.input.now) (g.C.Source.left c.args.input.now) (g.S.Sink.written c.args.output.now) (g.S.Sink.written c.refuse_files.new.output)
    (beyond was.files lines whole) (beyond now.files lines whole) c.refuse_files.result.faults.items was now counted none)
    (complete-answer (map g.U.Unit.unit_state c.args.units.items) (texts_of c.args.words.now) (g.C.Source.left c.args.input.now) (g.C.Source.left c.args.input.now) (g.S.Sink.written c.args.output.now) (g.S.Sink.written c.refuse_files.new.output)
    (beyond was.files lines whole) (beyond now.files lines whole) c.refuse_files.result.status c.refuse_files.result.machine c.refuse_files.result.faults.items was now status
    counted none)
    (returns-in-Err-clause-outcome g c source used sink other whole first)

pub returns-in-Err-clause-memory : goal.returns-in-Err-clause-memory
returns-in-Err-clause-memory g c = λ source used sink memory whole first.
    let lines = g.L.Lines.state c.args.lines.now in
    inr (files-memory (map g.U.Unit.unit_state c.args.units.items) (texts_of c.args.words.now) c.in-Some.options (g.C.Source.left c.args.input.now) (g.S.Sink.written c.args.output.now) (g.S.Sink.written c.refuse_files.new.output)
    (beyond (g.F.Files.state c.args.files.now).files lines whole) (beyond (g.F.Files.state c.begin.new.files).files lines whole) c.in-Err.refusal c.refuse_files.result.status c.refuse_files.result.machine
    (notes_said c.refuse_files.result.faults.items) (sym c.options_of.ensures.options ∙ c.in-Some.is) c.refuse_files.ensures.machine (ap (λ (f : List NamedBytes). beyond f lines whole) (c.begin.ensures.files (named g c.args.words.now c.in-Some.options (sym c.options_of.ensures.options ∙ c.in-Some.is) used.names))) memory
    (c.refuse_files.ensures.told sink)
    (λ short. subst (λ (l : List FaultNote). AreWordClosings (notes_said l)) (sym (c.refuse_files.ensures.notes ∙ c.notes_of.ensures))
    (c.begin.ensures.closings (c.in-Err.is ∙ ap (λ (r : Refusal). Err r) short))))

pub returns-in-Err-clause-cause : goal.returns-in-Err-clause-cause
returns-in-Err-clause-cause g c =
    files-cause (texts_of c.args.words.now) c.in-Some.options c.in-Err.refusal c.refuse_files.result.status (g.S.Sink.fault_count c.args.output.now) (g.S.Sink.fault_count c.refuse_files.new.output)
    (g.C.Source.fault_count c.args.input.now) (sym c.options_of.ensures.options ∙ c.in-Some.is) c.in-Err.ensures.cause c.refuse_files.ensures.cause

-- ---- a session

-- its units stand in bus order
pub new-requires : goal.new-requires
new-requires g c = in-bus-order (map g.U.Unit.unit_state c.args.units.items) c.requires

made : (g : Over) (c : goal.After-run_session-arg-in-Ok-begin-2-1 g) → Made (map g.U.Unit.unit_state c.args.units.items) c.in-Some.options c.in-Ok.session
made g c = record {
  standard = c.requires;
  machine = c.in-Ok.ensures.machine;
  watch = c.in-Ok.ensures.watch;
  limit = c.in-Ok.ensures.limit;
  notes = c.in-Ok.ensures.notes;
  command = c.in-Ok.ensures.command;
  open_ = c.in-Ok.ensures.open;
  around = c.in-Ok.ensures.around;
}

-- it is opened with what the files of the words say
starts-with : (g : Over) (c : goal.After-run_session-arg-in-Ok-begin-2-1 g) → NamesTold g.F.Files.tells c.in-Some.options
    → StartsWith (texts_of c.args.words.now) c.in-Some.options (g.F.Files.state c.args.files.now).files (notes_said c.begin.new.notes.items)
    (Begins c.in-Some.options c.in-Ok-begin.field-0.keys (script_text c.open_with-opening.result))
starts-with g c told =
    text-begins (texts_of c.args.words.now) c.in-Some.options (g.F.Files.state c.args.files.now).files c.in-Ok-begin.field-0.keys c.in-Ok-begin.field-0.script (notes_said c.begin.new.notes.items)
    c.open_with-opening.result c.open_with-opening.ensures.script (c.in-Ok-begin.ensures.told told)

opens-with : (g : Over) (c : goal.After-run_session-arg-in-Ok-begin-2-1 g) → OpensAs (texts_of c.args.words.now) c.in-Some.options c.open_with-opening.result
opens-with g c =
    let opening = c.open_with-opening.ensures in
    opens (texts_of c.args.words.now) c.in-Some.options c.in-Ok-begin.field-0.script c.in-Ok-begin.field-0.arguments c.open_with-opening.result opening.script opening.arguments opening.reads opening.prompt opening.budget
    c.in-Ok-begin.ensures.arguments

begun : (g : Over) (c : goal.After-run_session-arg-in-Ok-begin-2-1 g)
    → Begun (NamesTold g.F.Files.tells c.in-Some.options) (map g.U.Unit.unit_state c.args.units.items) (texts_of c.args.words.now) c.in-Some.options c.ready.result c.open_with-opening.result (g.F.Files.state c.args.files.now) (g.F.Files.state c.begin.new.files)
begun g c =
    let words = texts_of c.args.words.now in
    let units = map g.U.Unit.unit_state c.args.units.items in
    let old = g.F.Files.state c.args.files.now in
    let new = g.F.Files.state c.begin.new.files in
    let is_begun : CommandState → Type 0 = λ s. Begun (NamesTold g.F.Files.tells c.in-Some.options) units words c.in-Some.options s c.open_with-opening.result old new in
    subst is_begun (sym c.ready.ensures)
    (begun-files (NamesTold g.F.Files.tells c.in-Some.options) units words c.in-Some.options _ c.in-Ok.session (with_workload c.in-Some.options.workload c.session.inside.machine) c.in-Ok-begin.field-0.keys c.open_with-opening.result c.begin.new.notes.items _ old new (made g c) c.session.view_is refl
    (starts-with g c) (opens-with g c) c.begin.ensures.files c.begin.ensures.opened c.begin.ensures.keeps)

-- nothing is attached to its machine
unattached : (g : Over) (c : goal.After-run_session-arg-in-Ok-begin-2-1 g) → c.ready.result.machine.slots ≡ no_files
unattached g c =
    let units = map g.U.Unit.unit_state c.args.units.items in
    let workload = c.in-Some.options.workload in
    ap (λ (s : CommandState). s.machine.slots) c.ready.ensures
    ∙ ap (λ (m : MachineState). (with_workload workload m).slots) (ap (λ (s : CommandState). s.machine) c.session.view_is ∙ (made g c).machine)
    ∙ new-slots workload units

-- its units are of the kinds that were handed in
same-kinds : (g : Over) (c : goal.After-run_session-arg-in-Ok-begin-2-1 g) → kinds_of c.ready.result.machine.units ≡ kinds_of (map g.U.Unit.unit_state c.args.units.items)
same-kinds g c =
    let units = map g.U.Unit.unit_state c.args.units.items in
    let workload = c.in-Some.options.workload in
    ap (λ (s : CommandState). kinds_of s.machine.units) c.ready.ensures
    ∙ ap (λ (m : MachineState). kinds_of (with_workload workload m).units) (ap (λ (s : CommandState). s.machine) c.session.view_is ∙ (made g c).machine)
    ∙ new-kinds workload units

-- and its units are the standard ones
standard-units : (g : Over) (c : goal.After-run_session-arg-in-Ok-begin-2-1 g) → AreStandard c.ready.result.machine.units
standard-units g c =
    let units = map g.U.Unit.unit_state c.args.units.items in
    let workload = c.in-Some.options.workload in
    standard-by _ _ (new-standard workload units c.requires)
    (ap (λ (s : CommandState). kinds_of s.machine.units) c.ready.ensures
    ∙ ap (λ (m : MachineState). kinds_of (with_workload workload m).units) (ap (λ (s : CommandState). s.machine) c.session.view_is ∙ (made g c).machine))

-- where the session reads the input, no workload is among the words
told-input : (g : Over) (c : goal.After-run_session-arg-in-Ok-begin-2-1 g) → InputTells (texts_of c.args.words.now) g.C.Source.tells → c.open_with-opening.result.reads ≡ true → IsTrue g.C.Source.tells
told-input g c tells on =
    tells (λ given.
    let off = c.open_with-opening.ensures.reads ∙ workload-given (texts_of c.args.words.now) c.in-Some.options (sym c.options_of.ensures.options ∙ c.in-Some.is) given in absurd (cc (on, off)))

pub run_session-requires-clause-lines : goal.run_session-requires-clause-lines
run_session-requires-clause-lines g c =
    begun-lines (NamesTold g.F.Files.tells c.in-Some.options) (map g.U.Unit.unit_state c.args.units.items) (texts_of c.args.words.now) c.in-Some.options _ c.open_with-opening.result (g.F.Files.state c.args.files.now) (g.F.Files.state c.begin.new.files)
    (begun g (goal.at.run_session-requires-clause-lines g c).After-run_session-arg-in-Ok-begin-2-1)

pub run_session-requires-clause-bare : goal.run_session-requires-clause-bare
run_session-requires-clause-bare g c = unattached g (goal.at.run_session-requires-clause-bare g c).After-run_session-arg-in-Ok-begin-2-1

pub run_session-requires-clause-standard : goal.run_session-requires-clause-standard
run_session-requires-clause-standard g c = standard-units g (goal.at.run_session-requires-clause-standard g c).After-run_session-arg-in-Ok-begin-2-1

pub run_session-requires-clause-open : goal.run_session-requires-clause-open
run_session-requires-clause-open g c = (begun g (goal.at.run_session-requires-clause-open g c).After-run_session-arg-in-Ok-begin-2-1).open_

pub returns-in-Ok-begin-clause-files : goal.returns-in-Ok-begin-clause-files
returns-in-Ok-begin-clause-files g c =
    c.run_session.ensures.files (g.F.Files.state c.args.files.now).opened (begun g (goal.at.returns-in-Ok-begin-clause-files g c).After-run_session-arg-in-Ok-begin-2-1).around

pub returns-in-Ok-begin-clause-cause : goal.returns-in-Ok-begin-clause-cause
returns-in-Ok-begin-clause-cause g c =
    let (finish, watch, now, status, machine, told, cause) = c.run_session.ensures.ended in
    session-cause (texts_of c.args.words.now) c.in-Some.options finish c.run_session.result.status (g.S.Sink.fault_count c.args.output.now) (g.S.Sink.fault_count c.run_session.new.output)
    (g.C.Source.fault_count c.args.input.now) (g.C.Source.fault_count c.run_session.new.input) (sym c.options_of.ensures.options ∙ c.in-Some.is) status cause

pub returns-in-Ok-begin-clause-outcome : goal.returns-in-Ok-begin-clause-outcome
returns-in-Ok-begin-clause-outcome g c = λ source used sink other whole first.
    let (finish, watch, now, status, machine, told, cause) = c.run_session.ensures.ended in
    let after = (goal.at.returns-in-Ok-begin-clause-outcome g c).After-run_session-arg-in-Ok-begin-2-1 in
    let chosen = sym c.options_of.ensures.options ∙ c.in-Some.is in
    let names = named g c.args.words.now c.in-Some.options chosen used.names in
    let course = λ (b : Begun (NamesTold g.F.Files.tells c.in-Some.options) (map g.U.Unit.unit_state c.args.units.items) (texts_of c.args.words.now) c.in-Some.options c.ready.result c.open_with-opening.result (g.F.Files.state c.args.files.now) (g.F.Files.state c.begin.new.files)).
    course-told g.F.Files.tells g.L.Lines.tells (NamesTold g.F.Files.tells c.in-Some.options) (map g.U.Unit.unit_state c.args.units.items) (texts_of c.args.words.now) c.in-Some.options c.ready.result c.open_with-opening.result
    (g.F.Files.state c.args.files.now) (g.F.Files.state c.begin.new.files) (g.L.Lines.state c.args.lines.now) (g.C.Source.left c.args.input.now) chosen b names used in
    either-said
    (says-no-more g.L.Lines.tells (NamesTold g.F.Files.tells c.in-Some.options) (map g.U.Unit.unit_state c.args.units.items) (texts_of c.args.words.now) c.in-Some.options _ c.open_with-opening.result (g.F.Files.state c.args.files.now) (g.F.Files.state c.begin.new.files) (g.L.Lines.state c.args.lines.now) whole
    (beyond (g.F.Files.state c.run_session.new.files).files (g.L.Lines.state c.run_session.new.lines) whole)
    (g.C.Source.left c.args.input.now) (g.C.Source.left c.run_session.new.input) (g.S.Sink.written c.args.output.now) (g.S.Sink.written c.run_session.new.output)
    (notes_said c.run_session.result.faults.items) chosen (begun g after) names)
    (session-answer (NamesTold g.F.Files.tells c.in-Some.options) (map g.U.Unit.unit_state c.args.units.items) (texts_of c.args.words.now) c.in-Some.options _ c.open_with-opening.result (g.F.Files.state c.args.files.now) (g.F.Files.state c.begin.new.files) (g.L.Lines.state c.args.lines.now) whole
    (beyond (g.F.Files.state c.run_session.new.files).files (g.L.Lines.state c.run_session.new.lines) whole)
    (g.C.Source.left c.args.input.now) (g.C.Source.left c.run_session.new.input) (g.S.Sink.written c.args.output.now) (g.S.Sink.written c.run_session.new.output) finish watch now c.run_session.result.status c.run_session.result.machine
    (notes_said c.run_session.result.faults.items) (sym c.options_of.ensures.options ∙ c.in-Some.is) (begun g after) names cause.exit status machine other)
    (told (told-input g after source) (course (begun g after)) sink whole first)

pub returns-in-Ok-begin-clause-memory : goal.returns-in-Ok-begin-clause-memory
returns-in-Ok-begin-clause-memory g c = λ source used sink memory whole first.
    let (finish, watch, now, status, machine, told, cause) = c.run_session.ensures.ended in
    let after = (goal.at.returns-in-Ok-begin-clause-memory g c).After-run_session-arg-in-Ok-begin-2-1 in
    let chosen = sym c.options_of.ensures.options ∙ c.in-Some.is in
    let names = named g c.args.words.now c.in-Some.options chosen used.names in
    let course = λ (b : Begun (NamesTold g.F.Files.tells c.in-Some.options) (map g.U.Unit.unit_state c.args.units.items) (texts_of c.args.words.now) c.in-Some.options c.ready.result c.open_with-opening.result (g.F.Files.state c.args.files.now) (g.F.Files.state c.begin.new.files)).
    course-told g.F.Files.tells g.L.Lines.tells (NamesTold g.F.Files.tells c.in-Some.options) (map g.U.Unit.unit_state c.args.units.items) (texts_of c.args.words.now) c.in-Some.options c.ready.result c.open_with-opening.result
    (g.F.Files.state c.args.files.now) (g.F.Files.state c.begin.new.files) (g.L.Lines.state c.args.lines.now) (g.C.Source.left c.args.input.now) chosen b names used in
    either-said
    (says-no-more g.L.Lines.tells (NamesTold g.F.Files.tells c.in-Some.options) (map g.U.Unit.unit_state c.args.units.items) (texts_of c.args.words.now) c.in-Some.options _ c.open_with-opening.result (g.F.Files.state c.args.files.now) (g.F.Files.state c.begin.new.files) (g.L.Lines.state c.args.lines.now) whole
    (beyond (g.F.Files.state c.run_session.new.files).files (g.L.Lines.state c.run_session.new.lines) whole)
    (g.C.Source.left c.args.input.now) (g.C.Source.left c.run_session.new.input) (g.S.Sink.written c.args.output.now) (g.S.Sink.written c.run_session.new.output)
    (notes_said c.run_session.result.faults.items) chosen (begun g after) names)
    (memory-answer (NamesTold g.F.Files.tells c.in-Some.options) (map g.U.Unit.unit_state c.args.units.items) (texts_of c.args.words.now) c.in-Some.options _ c.open_with-opening.result (g.F.Files.state c.args.files.now) (g.F.Files.state c.begin.new.files) (g.L.Lines.state c.args.lines.now) whole
    (beyond (g.F.Files.state c.run_session.new.files).files (g.L.Lines.state c.run_session.new.lines) whole)
    (g.C.Source.left c.args.input.now) (g.C.Source.left c.run_session.new.input) (g.S.Sink.written c.args.output.now) (g.S.Sink.written c.run_session.new.output) finish watch now c.run_session.result.status c.run_session.result.machine
    (notes_said c.run_session.result.faults.items) (sym c.options_of.ensures.options ∙ c.in-Some.is) (begun g after) names cause.exit status machine memory)
    (told (told-input g after source) (course (begun g after)) sink whole first)

pub returns-in-Ok-begin-clause-notes : goal.returns-in-Ok-begin-clause-notes
returns-in-Ok-begin-clause-notes g c =
    kept-counted _ _ c.begin.new.notes.items c.run_session.result.faults.items (g.F.Files.state c.args.files.now) (g.F.Files.state c.begin.new.files) (g.F.Files.state c.run_session.new.files) c.begin.ensures.keeps
    (subst (λ (s : CommandState). AreKeptFor g.F.Files.tells c.open_with-opening.result.budget s.notes c.run_session.result.faults.items (g.F.Files.state c.begin.new.files) (g.F.Files.state c.run_session.new.files)) c.ready.ensures c.run_session.ensures.keeps)

pub returns-in-Ok-begin-clause-exact : goal.returns-in-Ok-begin-clause-exact
returns-in-Ok-begin-clause-exact g c =
    kept-exact _ _ c.begin.new.notes.items c.run_session.result.faults.items c.run_session.result.machine (g.F.Files.state c.args.files.now) (g.F.Files.state c.begin.new.files) (g.F.Files.state c.run_session.new.files)
    c.begin.ensures.keeps
    (subst (λ (s : CommandState). AreKeptFor g.F.Files.tells c.open_with-opening.result.budget s.notes c.run_session.result.faults.items (g.F.Files.state c.begin.new.files) (g.F.Files.state c.run_session.new.files)) c.ready.ensures c.run_session.ensures.keeps)
    c.run_session.ensures.there

pub returns-in-Err-clause-exact : goal.returns-in-Err-clause-exact
returns-in-Err-clause-exact g c =
    refused-exact [] c.begin.new.notes.items c.refuse_files.result.faults.items c.refuse_files.result.machine (g.F.Files.state c.args.files.now) (g.F.Files.state c.begin.new.files) refl
    (c.refuse_files.ensures.notes ∙ c.notes_of.ensures) c.begin.ensures.keeps c.refuse_files.ensures.machine

pub returns-in_default-clause-exact : goal.returns-in_default-clause-exact
returns-in_default-clause-exact g c =
    no-exact c.usage.result.faults.items c.usage.result.machine (g.F.Files.state c.args.files.now) c.usage.ensures.notes

-- ---- openings, and the ids that were given

pub returns-in_default-clause-openings : goal.returns-in_default-clause-openings
returns-in_default-clause-openings g c =
    no-openings g.F.Files.tells (texts_of c.args.words.now) c.usage.result.status c.usage.result.machine c.usage.result.faults.items (g.F.Files.state c.args.files.now)
    (sym c.options_of.ensures.options ∙ c.in_default.is) c.usage.ensures.notes

pub returns-in-Err-clause-openings : goal.returns-in-Err-clause-openings
returns-in-Err-clause-openings g c =
    refused-openings g.F.Files.tells (texts_of c.args.words.now) c.in-Some.options c.in-Err.refusal c.refuse_files.result.status (g.S.Sink.fault_count c.args.output.now) (g.S.Sink.fault_count c.refuse_files.new.output)
    c.refuse_files.result.machine c.begin.new.notes.items c.refuse_files.result.faults.items (g.F.Files.state c.args.files.now) (g.F.Files.state c.begin.new.files)
    (sym c.options_of.ensures.options ∙ c.in-Some.is) c.refuse_files.ensures.machine (c.refuse_files.ensures.notes ∙ c.notes_of.ensures) c.in-Err.ensures.cause
    c.refuse_files.ensures.cause c.begin.ensures.keeps c.in-Err.ensures.exact

pub returns-in-Ok-begin-clause-openings : goal.returns-in-Ok-begin-clause-openings
returns-in-Ok-begin-clause-openings g c =
    let mid = g.F.Files.state c.begin.new.files in
    let new = g.F.Files.state c.run_session.new.files in
    let items = c.run_session.result.faults.items in
    session-openings g.F.Files.tells (texts_of c.args.words.now) c.in-Some.options c.in-Ok-begin.field-0 c.run_session.result.status c.run_session.result.machine c.begin.new.notes.items items
    (g.F.Files.state c.args.files.now) mid new (sym c.options_of.ensures.options ∙ c.in-Some.is) c.run_session.ensures.there c.in-Ok-begin.ensures.exact
    (subst (λ (n : ℕ). AreKeptFor g.F.Files.tells n c.begin.new.notes.items items mid new) c.open_with-opening.ensures.budget
    (subst (λ (s : CommandState). AreKeptFor g.F.Files.tells c.open_with-opening.result.budget s.notes items mid new) c.ready.ensures c.run_session.ensures.keeps))

pub returns-in-Ok-begin-clause-complete : goal.returns-in-Ok-begin-clause-complete
returns-in-Ok-begin-clause-complete g c = λ source used sink other quiet fed none whole first.
    let (finish, watch, now, status, machine, told, cause) = c.run_session.ensures.ended in
    let was = g.F.Files.state c.args.files.now in
    let left = g.F.Files.state c.run_session.new.files in
    let named = session-cause (texts_of c.args.words.now) c.in-Some.options finish c.run_session.result.status (g.S.Sink.fault_count c.args.output.now) (g.S.Sink.fault_count c.run_session.new.output)
    (g.C.Source.fault_count c.args.input.now) (g.C.Source.fault_count c.run_session.new.input) (sym c.options_of.ensures.options ∙ c.in-Some.is) status cause in
    let ended = session-status (texts_of c.args.words.now) c.run_session.result.status (g.S.Sink.fault_count c.args.output.now) (g.S.Sink.fault_count c.run_session.new.output)
    (g.C.Source.fault_count c.args.input.now) (g.C.Source.fault_count c.run_session.new.input) named quiet fed in
    either-said
    (without-notes g.L.Lines.tells (map g.U.Unit.unit_state c.args.units.items) (texts_of c.args.words.now) (g.C.Source.left c.args.input.now) (g.C.Source.left c.run_session.new.input) (g.S.Sink.written c.args.output.now) (g.S.Sink.written c.run_session.new.output)
    (beyond was.files (g.L.Lines.state c.args.lines.now) whole) (beyond left.files (g.L.Lines.state c.run_session.new.lines) whole) c.run_session.result.faults.items was left (returns-in-Ok-begin-clause-notes g c) none)
    (complete-answer (map g.U.Unit.unit_state c.args.units.items) (texts_of c.args.words.now) (g.C.Source.left c.args.input.now) (g.C.Source.left c.run_session.new.input) (g.S.Sink.written c.args.output.now) (g.S.Sink.written c.run_session.new.output)
    (beyond was.files (g.L.Lines.state c.args.lines.now) whole) (beyond left.files (g.L.Lines.state c.run_session.new.lines) whole)
    c.run_session.result.status c.run_session.result.machine c.run_session.result.faults.items was left ended (returns-in-Ok-begin-clause-notes g c) none)
    (returns-in-Ok-begin-clause-outcome g c source used sink other whole first)

-- ---- ports

pub returns-in_default-clause-ports : goal.returns-in_default-clause-ports
returns-in_default-clause-ports g c = lines-unasked (map g.U.Unit.unit_state c.args.units.items) c.usage.result.machine (g.L.Lines.state c.args.lines.now) c.usage.ensures.machine

pub returns-in-Err-clause-ports : goal.returns-in-Err-clause-ports
returns-in-Err-clause-ports g c = lines-unasked (map g.U.Unit.unit_state c.args.units.items) c.refuse_files.result.machine (g.L.Lines.state c.args.lines.now) c.refuse_files.ensures.machine

pub returns-in-Ok-begin-clause-ports : goal.returns-in-Ok-begin-clause-ports
returns-in-Ok-begin-clause-ports g c =
    lines-of-kinds c.ready.result.machine.units (map g.U.Unit.unit_state c.args.units.items) c.run_session.result.machine (g.L.Lines.state c.args.lines.now) (g.L.Lines.state c.run_session.new.lines)
    (same-kinds g (goal.at.returns-in-Ok-begin-clause-ports g c).After-run_session-arg-in-Ok-begin-2-1) c.run_session.ensures.ports

-- ---- a disk that kept its file

pub returns-in_default-clause-unwritten : goal.returns-in_default-clause-unwritten
returns-in_default-clause-unwritten g c = λ is.
    never-unwritten 100 c.usage.result.status _ _ c.usage.result.machine c.usage.result.faults.items (g.F.Files.state c.args.files.now) (g.F.Files.state c.args.files.now) c.usage.ensures.cause (omega arith) is

pub returns-in-Err-clause-unwritten : goal.returns-in-Err-clause-unwritten
returns-in-Err-clause-unwritten g c = λ is.
    denied-unwritten (texts_of c.args.words.now) c.in-Err.refusal c.refuse_files.result.status _ _ c.refuse_files.result.machine c.refuse_files.result.faults.items (g.F.Files.state c.args.files.now) (g.F.Files.state c.begin.new.files)
    c.refuse_files.ensures.cause is

pub returns-in-Ok-begin-clause-unwritten : goal.returns-in-Ok-begin-clause-unwritten
returns-in-Ok-begin-clause-unwritten g c = λ is.
    unwritten-whole c.run_session.result.machine c.run_session.result.faults.items _ _ (g.F.Files.state c.args.files.now) (g.F.Files.state c.begin.new.files) (g.F.Files.state c.run_session.new.files) c.begin.ensures.keeps
    (c.run_session.ensures.unwritten is)

-- ---- a workload, which leaves the input unread

pub returns-in_default-clause-workload : goal.returns-in_default-clause-workload
returns-in_default-clause-workload g c = λ given. refl

pub returns-in-Ok-begin-clause-workload : goal.returns-in-Ok-begin-clause-workload
returns-in-Ok-begin-clause-workload g c = λ given.
    c.run_session.ensures.unread (c.open_with-opening.ensures.reads ∙ workload-given (texts_of c.args.words.now) c.in-Some.options (sym c.options_of.ensures.options ∙ c.in-Some.is) given)

-- ---- the files that the notes name

pub returns-in_default-clause-whose : goal.returns-in_default-clause-whose
returns-in_default-clause-whose g c =
    let state = g.F.Files.state c.args.files.now in
    subst (λ (l : List FaultNote). AllByRecursion (IsOwnNote no_files state state) l) (sym c.usage.ensures.notes) tt

pub returns-in-Err-clause-whose : goal.returns-in-Err-clause-whose
returns-in-Err-clause-whose g c =
    let old = g.F.Files.state c.args.files.now in
    let new = g.F.Files.state c.begin.new.files in
    subst (λ (l : List FaultNote). AllByRecursion (IsOwnNote no_files old new) l) (sym (c.refuse_files.ensures.notes ∙ c.notes_of.ensures))
    (all-own no_files no_files c.begin.new.notes.items old new c.begin.ensures.whose)

pub returns-in-Ok-begin-clause-whose : goal.returns-in-Ok-begin-clause-whose
returns-in-Ok-begin-clause-whose g c =
    let old = g.F.Files.state c.args.files.now in
    let mid = g.F.Files.state c.begin.new.files in
    let new = g.F.Files.state c.run_session.new.files in
    let (slots, own) = c.run_session.ensures.whose in
    let empty : c.ready.result.machine.slots ≡ no_files = unattached g (goal.at.returns-in-Ok-begin-clause-whose g c).After-run_session-arg-in-Ok-begin-2-1 in
    let notes = ap (λ (s : CommandState). s.notes) c.ready.ensures in
    let from = subst (λ (l : List (Option Held)). AreOwn l slots c.ready.result.notes c.run_session.result.faults.items mid new) empty own in
    let behind = subst (λ (l : List FaultNote). AreOwn no_files slots l c.run_session.result.faults.items mid new) notes from in
    all-own no_files slots c.run_session.result.faults.items old new
    (own-both no_files no_files slots [] c.begin.new.notes.items c.run_session.result.faults.items old mid new c.begin.ensures.whose behind)

-- ---- a file of the words that was not read

pub returns-in_default-clause-unopened : goal.returns-in_default-clause-unopened
returns-in_default-clause-unopened g c = λ is. absurd (usage-opened c.usage.result.status _ _ 101 c.usage.ensures.cause is (inr refl))

pub returns-in_default-clause-measured : goal.returns-in_default-clause-measured
returns-in_default-clause-measured g c = λ is. absurd (usage-opened c.usage.result.status _ _ 103 c.usage.ensures.cause is (inl (omega arith)))

pub returns-in-Err-clause-unopened : goal.returns-in-Err-clause-unopened
returns-in-Err-clause-unopened g c = λ is.
    refused-unopened g.F.Files.tells (texts_of c.args.words.now) c.in-Some.options c.in-Err.refusal c.refuse_files.result.status (g.S.Sink.fault_count c.args.output.now) (g.S.Sink.fault_count c.refuse_files.new.output)
    c.begin.new.notes.items c.refuse_files.result.faults.items (g.F.Files.state c.args.files.now) (g.F.Files.state c.begin.new.files) (sym c.options_of.ensures.options ∙ c.in-Some.is)
    c.refuse_files.ensures.cause (c.refuse_files.ensures.notes ∙ c.notes_of.ensures) c.in-Err.ensures.unread is

pub returns-in-Err-clause-measured : goal.returns-in-Err-clause-measured
returns-in-Err-clause-measured g c = λ is.
    refused-measured g.F.Files.tells (texts_of c.args.words.now) c.in-Some.options c.in-Err.refusal c.refuse_files.result.status (g.S.Sink.fault_count c.args.output.now) (g.S.Sink.fault_count c.refuse_files.new.output)
    c.refuse_files.result.machine c.begin.new.notes.items (g.F.Files.state c.args.files.now) (g.F.Files.state c.begin.new.files) (sym c.options_of.ensures.options ∙ c.in-Some.is)
    c.refuse_files.ensures.cause c.refuse_files.ensures.machine c.in-Err.ensures.unread is

pub returns-in-Ok-begin-clause-unopened : goal.returns-in-Ok-begin-clause-unopened
returns-in-Ok-begin-clause-unopened g c = λ is.
    let (finish, watch, now, status, machine, told, cause) = c.run_session.ensures.ended in
    absurd (session-opened finish (g.S.Sink.fault_count c.args.output.now) (g.S.Sink.fault_count c.run_session.new.output) (g.C.Source.fault_count c.args.input.now) (g.C.Source.fault_count c.run_session.new.input)
    cause (sym status ∙ is))

pub returns-in-Ok-begin-clause-measured : goal.returns-in-Ok-begin-clause-measured
returns-in-Ok-begin-clause-measured g c = λ is.
    session-measured g.F.Files.tells (texts_of c.args.words.now) c.in-Some.options c.run_session.result.machine (g.F.Files.state c.args.files.now) (g.F.Files.state c.run_session.new.files)
    (sym c.options_of.ensures.options ∙ c.in-Some.is) c.in-Ok-begin.ensures.unread

-- ---- a keys file that is none

pub returns-in_default-clause-no_keys : goal.returns-in_default-clause-no_keys
returns-in_default-clause-no_keys g c = λ is. absurd (usage-opened c.usage.result.status _ _ 105 c.usage.ensures.cause is (inl (omega arith)))

pub returns-in-Err-clause-no_keys : goal.returns-in-Err-clause-no_keys
returns-in-Err-clause-no_keys g c = λ is.
    refused-keys g.F.Files.tells (texts_of c.args.words.now) c.in-Some.options c.in-Err.refusal c.refuse_files.result.status (g.S.Sink.fault_count c.args.output.now) (g.S.Sink.fault_count c.refuse_files.new.output)
    c.begin.new.notes.items (g.F.Files.state c.args.files.now) (g.F.Files.state c.begin.new.files) c.refuse_files.ensures.cause c.in-Err.ensures.unread is

pub returns-in-Ok-begin-clause-no_keys : goal.returns-in-Ok-begin-clause-no_keys
returns-in-Ok-begin-clause-no_keys g c = λ is.
    let (finish, watch, now, status, machine, told, cause) = c.run_session.ensures.ended in
    absurd (session-keys finish (g.S.Sink.fault_count c.args.output.now) (g.S.Sink.fault_count c.run_session.new.output) (g.C.Source.fault_count c.args.input.now) (g.C.Source.fault_count c.run_session.new.input)
    cause (sym status ∙ is))

-- ---- a session that was restored

pub returns-in_default-clause-resumed : goal.returns-in_default-clause-resumed
returns-in_default-clause-resumed g c = λ source used sink no_byte other no_read whole first.
    let lines = g.L.Lines.state c.args.lines.now in
    let old = beyond (g.F.Files.state c.args.files.now).files lines whole in
    or-said (λ out. resumes-saved (map g.U.Unit.unit_state c.args.units.items) (texts_of c.args.words.now) (g.C.Source.left c.args.input.now) (g.C.Source.left c.args.input.now) (g.S.Sink.written c.args.output.now) (g.S.Sink.written c.usage.new.output) old old
    c.usage.result.status c.usage.result.machine (notes_said c.usage.result.faults.items) out c.requires no_byte no_read)
    (returns-in_default-clause-outcome g c source used sink other whole first)

pub returns-in-Err-clause-resumed : goal.returns-in-Err-clause-resumed
returns-in-Err-clause-resumed g c = λ source used sink no_byte other no_read whole first.
    let lines = g.L.Lines.state c.args.lines.now in
    or-said (λ out. resumes-saved (map g.U.Unit.unit_state c.args.units.items) (texts_of c.args.words.now) (g.C.Source.left c.args.input.now) (g.C.Source.left c.args.input.now) (g.S.Sink.written c.args.output.now) (g.S.Sink.written c.refuse_files.new.output)
    (beyond (g.F.Files.state c.args.files.now).files lines whole) (beyond (g.F.Files.state c.begin.new.files).files lines whole) c.refuse_files.result.status c.refuse_files.result.machine
    (notes_said c.refuse_files.result.faults.items) out c.requires no_byte no_read)
    (returns-in-Err-clause-outcome g c source used sink other whole first)

pub returns-in-Ok-begin-clause-resumed : goal.returns-in-Ok-begin-clause-resumed
returns-in-Ok-begin-clause-resumed g c = λ source used sink no_byte other no_read whole first.
    or-said (λ out. resumes-saved (map g.U.Unit.unit_state c.args.units.items) (texts_of c.args.words.now) (g.C.Source.left c.args.input.now) (g.C.Source.left c.run_session.new.input) (g.S.Sink.written c.args.output.now) (g.S.Sink.written c.run_session.new.output)
    (beyond (g.F.Files.state c.args.files.now).files (g.L.Lines.state c.args.lines.now) whole) (beyond (g.F.Files.state c.run_session.new.files).files (g.L.Lines.state c.run_session.new.lines) whole)
    c.run_session.result.status c.run_session.result.machine (notes_said c.run_session.result.faults.items) out c.requires no_byte no_read)
    (returns-in-Ok-begin-clause-outcome g c source used sink other whole first)
