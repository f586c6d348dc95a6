-- A program in which a saved session was restored goes on from there as that session.
use Rattle.std.proofs.Common.{◌≡◌, ◌≢◌, ℕ, suc, ◌+◌, List, ◌++◌, length, drop, refl, ap, sym, ◌∙◌}
use Rattle.std.proofs.lemmas.List.{drop-drop}
use Rattle.std.specs.Prelude.{Option}
use Rattle.observations.specs.Observations.{Observation, Trace, after_made, map_trace, text_of, reads_of, sent_of}
use Rattle.observations.specs.Cut.{Outcome}
use Rattle.observations.proofs.MadeLemmas.{text_of-append, text_of-map, reads_of-append, reads_of-map, sent_of-append, sent_of-map}
use Rattle.file_traits.specs.Lists.{NamedBytes}
use Rattle.host_lines.specs.Traffic.{Ahead}
use Rattle.host_lines.specs.Told.{ahead_of}
use Rattle.file_commands.specs.Notes.{Note}
use Rattle.expect_actions.specs.KeysFile.{Key}
use Rattle.unit_trait.specs.Calls.{UnitState}
use Rattle.nova_machine.specs.Machine.{MachineState}
use Rattle.nova_machine.specs.LineChanges.{heard_with}
use Rattle.nova_machine.specs.Valid.{DiskIsItsFile}
use Rattle.command_session.specs.Live.{Beyond}
use Rattle.scp_script.specs.Session.{State, Session, asking, Course, trace, ComesTo}
use Rattle.script_laws.specs.Resumption.{resumed}
use Rattle.script_laws.proofs.CoreLemmas.{course-behind}
use Rattle.script_laws.specs.Valid.{ValidSession}
use Rattle.script_laws.proofs.LawLemmas.{lines-are-consumed}
use Rattle.script_laws.proofs.ResumptionLemmas.{restored-comes}
use Rattle.command_words.specs.declared.options.Options.{Options}
use Rattle.command_words.specs.Standard.{IsStandard}
use Rattle.command_words.specs.Words.{options_of}
use Rattle.nova_top.specs.Outside.{Outside, Left, left_by, opening, trace_from, trace_of, whole_trace, outcome, session_with, sent_by}
use Rattle.program_start.specs.Start.{Start, Begins, start_of}
use Rattle.nova_top.specs.Ends.{IsOutcome, handed_in}
use Rattle.nova_top.specs.Resumption.{Reaches, EndsAsThat, ResumesSaved}
use Rattle.nova_top.specs.Valid.{AreHandedBytes}
use Rattle.nova_top.proofs.OutsideLemmas.{whole-outcome}
use Rattle.nova_top.proofs.ValidProgram.{program-begins-valid}

-- the trace of a program whose session begins so
whole-is : (units : List UnitState) (words : List (List ℕ)) (input : List ℕ) (files : List NamedBytes) (ahead : Ahead) (notes : List Note) (start : Start × ℕ) → start_of (options_of words) words files notes ≡ start
    → whole_trace units words input files ahead notes ≡ trace_from units words start.0 files ahead input (drop start.1 notes)
unfolding whole_trace
whole-is units words input files ahead notes start is = ap (λ (s : Start × ℕ). trace_from units words s.0 files ahead input (drop s.1 notes)) is

opening-input : (units : List UnitState) (words : List (List ℕ)) (options : Options) (keys : List Key) (script : Option (List ℕ)) (files : List NamedBytes) (ahead : Ahead) (input : List ℕ) (own : List Note)
    → (opening units words options keys script files ahead input own).input ≡ input
unfolding session_with
opening-input units words options keys script files ahead input own = refl

trace-behind : (count : ℕ) (s t : Session) (made : List (Observation State)) → ComesTo count s made t → trace s ≡ after_made made (trace t)
unfolding trace
trace-behind count s t made comes = ap (λ (c : Course). c.trace) (course-behind count s t made comes)

-- what is left of an input behind that many reads of its session
read-behind : (count : ℕ) (s t : Session) (made : List (Observation State)) (more : ℕ) → ComesTo count s made t → drop (reads_of made + more) s.input ≡ drop more t.input
read-behind count s t made more comes =
    let is = lines-are-consumed.texts count s t made comes in
    sym (drop-drop more (reads_of made) s.input) ∙ ap (λ (n : ℕ). drop more (drop n s.input)) is.reads ∙ ap (drop more) (sym is.rest)

-- a program whose session came so far ends as that one does
pub ends-behind : (units : List UnitState) (words : List (List ℕ)) (input left before after : List ℕ) (old new : Beyond) (status : ℕ) (machine : Option MachineState) (notes : List Note) (options : Options) (keys : List Key) (script : Option (List ℕ)) (used count : ℕ)
    (front : List (Observation State)) (t : Session) → IsOutcome units words input left before after old new status machine notes → status ≢ 102 → status ≢ 106
    → start_of (options_of words) words old.files notes ≡ (Begins options keys script, used)
    → ComesTo count (opening units words options keys script old.files (ahead_of old.lines.told old.whole) input (drop used notes)) front t
    → EndsAsThat t front left before after old new status machine
ends-behind units words input left before after old new status machine notes options keys script used count front t out no_byte no_read starts comes =
    let ahead = ahead_of old.lines.told old.whole in
    let start = opening units words options keys script old.files ahead input (drop used notes) in
    let o : Outside = handed_in units words input old notes (length out.taken) out.gives in
    let status_is : (outcome o).status ≡ status = ap (λ (x : Outcome Left). x.status) out.is in
    let w = whole-outcome o (λ e. no_byte (sym status_is ∙ e)) (λ e. no_read (sym status_is ∙ e)) in
    let all : trace_of o ≡ map_trace left_by (after_made front (trace t)) =
    whole-is units words input old.files ahead notes (Begins options keys script, used) starts ∙ ap (map_trace left_by) (trace-behind count start t front comes) in
    let made = front ++ (trace t).made in
    let console : out.taken ≡ text_of front ++ text_of (trace t).made =
    sym (ap (λ (x : Outcome Left). x.console) out.is) ∙ w.console ∙ ap (λ (x : Trace Left). text_of x.made) all ∙ text_of-map left_by made ∙ text_of-append front (trace t).made in
    let reads : out.made ≡ reads_of front + reads_of (trace t).made =
    sym (ap (λ (x : Outcome Left). x.reads) out.is) ∙ w.reads ∙ ap (λ (x : Trace Left). reads_of x.made) all ∙ reads_of-map left_by made ∙ reads_of-append front (trace t).made in
    let sent : sent_by o ≡ sent_of front ++ sent_of (trace t).made =
    w.sent ∙ ap (λ (x : Trace Left). sent_of x.made) all ∙ sent_of-map left_by made ∙ sent_of-append front (trace t).made in
    let opened = opening-input units words options keys script old.files ahead input (drop used notes) in
    record {
      status_is = sym status_is ∙ w.status ∙ ap (λ (x : Trace Left). x.ended.status) all;
      is = ap (λ (x : Outcome Left). x.state) (sym out.is) ∙ w.state ∙ ap (λ (x : Trace Left). x.ended.state) all;
      rest = out.rest ∙ ap (λ (n : ℕ). drop n input) reads ∙ ap (drop (reads_of front + reads_of (trace t).made)) (sym opened) ∙ read-behind count start t front (reads_of (trace t).made) comes;
      printed = out.written ∙ ap (λ (l : List ℕ). before ++ l) console;
      heard = out.heard ∙ ap (heard_with old.lines.sent) sent;
    }

-- the session that it begins
pub begins-valid : (units : List UnitState) (words : List (List ℕ)) (input : List ℕ) (old : Beyond) (notes : List Note) (front : List (Observation State)) (at : Session)
    → IsStandard units → AreHandedBytes words input old.files (ahead_of old.lines.told old.whole) → (reaches : Reaches units words input old notes front at)
    → ValidSession (opening units words reaches.options reaches.keys reaches.script old.files (ahead_of old.lines.told old.whole) input (drop reaches.used notes))
begins-valid units words input old notes front at standard handed reaches =
    (program-begins-valid units words input old.files (ahead_of old.lines.told old.whole) notes (drop reaches.used notes) reaches.options reaches.keys reaches.script standard handed
    (ap (λ (x : Start × ℕ). x.0) reaches.starts)).valid

-- and the disk holds nothing then
pub begins-held : (units : List UnitState) (words : List (List ℕ)) (input : List ℕ) (old : Beyond) (notes : List Note) (front : List (Observation State)) (at : Session)
    → IsStandard units → AreHandedBytes words input old.files (ahead_of old.lines.told old.whole) → (reaches : Reaches units words input old notes front at)
    → DiskIsItsFile (opening units words reaches.options reaches.keys reaches.script old.files (ahead_of old.lines.told old.whole) input (drop reaches.used notes)).live
begins-held units words input old notes front at standard handed reaches =
    (program-begins-valid units words input old.files (ahead_of old.lines.told old.whole) notes (drop reaches.used notes) reaches.options reaches.keys reaches.script standard handed
    (ap (λ (x : Start × ℕ). x.0) reaches.starts)).disk

pub resumes-saved : (units : List UnitState) (words : List (List ℕ)) (input left before after : List ℕ) (old new : Beyond) (status : ℕ) (machine : Option MachineState) (notes : List Note) → IsOutcome units words input left before after old new status machine notes
    → IsStandard units → status ≢ 102 → status ≢ 106 → ResumesSaved units words input left before after old new status machine notes
resumes-saved units words input left before after old new status machine notes out standard no_byte no_read front at behind s used handed reaches back =
    let start = opening units words reaches.options reaches.keys reaches.script old.files (ahead_of old.lines.told old.whole) input (drop reaches.used notes) in
    ends-behind units words input left before after old new status machine notes reaches.options reaches.keys reaches.script reaches.used (suc reaches.count) (front ++ asking at) (resumed s used behind) out no_byte no_read reaches.starts
    (restored-comes reaches.count start at behind s used front (begins-valid units words input old notes front at standard handed reaches) reaches.comes back)
