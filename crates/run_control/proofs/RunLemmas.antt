-- What a run comes to: what it printed with its stop, and the note that is kept of the call that stopped it.
use Rattle.unit_trait.specs.declared.kind.Kind.{Kind}
use Rattle.unit_trait.specs.declared.kind.UnitName.{UnitName}
use Rattle.std.proofs.Common.{not, ◌≡◌, ◌≢◌, ⊎_elim, ℕ, ◌≤◌, Bool, true, false, IsTrue, List, [], ◌∷◌, ◌++◌, length, refl, ap, sym, ◌∙◌, subst, append-nil, Option, Some, None, Result, Ok, Err, if◌then◌else◌, arith}
use Rattle.std.proofs.lemmas.List.{map-append}
use Rattle.std.specs.List.{AllByRecursion}
use Rattle.file_traits.specs.declared.files.FileCall.{FileCall}
use Rattle.file_traits.specs.declared.files.FileCall.TheVariants as call
use Rattle.file_traits.specs.Streams.{Puts}
use Rattle.file_traits.specs.State.{FileState}
use Rattle.observations.specs.Observations.{Observation, Prints, text_of, sent_of, map_made}
use Rattle.observations.proofs.MadeLemmas.{text_of-map, sent_of-map, stands-before, stands-map}
use Rattle.observations.proofs.CutLemmas.{breaks-before, breaks-map, before-sent, map-sent}
use Rattle.unit_files.specs.declared.faults.UnitFault.{UnitFault}
use Rattle.unit_files.specs.Attachments.{Held}
use Rattle.unit_files.specs.Acts.{Failure}
use Rattle.unit_files.specs.Answers.{failure_in}
use Rattle.file_commands.specs.declared.note.Subject.{Subject}
use Rattle.file_commands.specs.declared.note.Subject.TheVariants as subject
use Rattle.file_commands.specs.declared.note.FaultNote.{FaultNote}
use Rattle.file_commands.specs.Notes.{CommandNote, Note, numbered, said_of, notes_said}
use Rattle.file_commands.specs.Possible.{MayHaveWritten}
use Rattle.file_commands.proofs.Possible.{run-done}
use Rattle.file_commands.specs.Counts.{AreCounted, AreExact}
use Rattle.file_commands.proofs.Causes.{counted-quiet}
use Rattle.file_commands.proofs.Exact.{exact-quiet}
use Rattle.file_commands.specs.declared.stamp.Stamp.{Stamp}
use Rattle.file_commands.specs.Kept.{own_note}
use Rattle.nova_machine.specs.declared.machine.Stop.{Stop}
use Rattle.nova_machine.specs.declared.machine.Stop.TheVariants.{ConsoleFault, FileFault}
use Rattle.nova_machine.specs.Notes.{RunNote, run_note}
use Rattle.nova_machine.specs.Machine.{MachineState}
use Rattle.nova_machine.specs.Seen.{erased}
use Rattle.nova_machine.specs.Wants.{IsRunCall, IsRunDone, HasUnit}
use Rattle.nova_machine.specs.Parts.{Part}
use Rattle.nova_machine.specs.Comes.{Output, Comes, bare}
use Rattle.nova_machine.specs.LineChanges.{heard_with}
use Rattle.nova_machine.specs.Comes as coming
use Rattle.nova_machine.specs.Run.{run}
use Rattle.nova_machine.proofs.Parts.{split-comes}
use Rattle.command_session.specs.declared.next.Next.TheVariants.{Ran}
use Rattle.command_session.specs.declared.fault.CommandFault.TheVariants.{Console}
use Rattle.command_session.specs.Live.{Live, Standing, standing}
use Rattle.command_session.specs.Reply.{Answer, Reply, bare_answer}
use Rattle.command_session.specs.RunEffects.{ran, stop_line, stop_text, run_answer, used_by, is_run_call, met_by_run, run_failure}
use Rattle.command_session.specs.Doing.{Does, Did, IsBrokenOff, IsLastCall, IsLate, ComeBehind, IsStamped, Keeps, FileCause, is_missing, stop_notes, told_or_console}
use Rattle.command_session.proofs.ReplyLemmas.{behind-said, behind-refused}
use Rattle.command_session.proofs.CountedLemmas.{counted-fault, exact-fault, openings-none}

-- ---- the note of a run

-- the notes that a run keeps for its stop
abbrev pub own_run : ℕ → Stop → List CommandNote
own_run time (FileFault f) = own_note time f ∷ []
own_run time stop = []

byte-call : (kind : Kind) (call : FileCall) → IsRunCall kind call → is_run_call kind call ≡ true
byte-call kind call.Read byte = ap not byte
byte-call kind call.Write byte = ap not byte
byte-call kind call.Length byte = byte
byte-call kind call.SetLength byte = byte
byte-call kind call byte = absurd byte

met-byte : (time : ℕ) (f : UnitFault) → IsRunCall f.unit.kind f.call → met_by_run time (subject.Unit f.unit) (failure_in f) ≡ run_note time (Some (FileFault f))
met-byte time f byte =
    ap (λ (b : Bool). if b then Some (record { time = time; note = record { unit = f.unit; failure = failure_in f } }) else None) (byte-call f.unit.kind f.call byte)

last-call : (written : Bool) (kind : Kind) (call : FileCall) → IsLastCall written kind call → is_run_call kind call ≡ false
last-call written kind call.Closing last = refl
last-call written kind call.Write last = ap not last.0
last-call written kind call last = absurd last

met-closing : (time : ℕ) (who : Subject) (f : Failure) (live : Live) (unit_is : IsLate live (record { time = time; subject = who; failure = f })) → met_by_run time who f ≡ None
met-closing time who f live late =
    ap (λ (s : Subject). met_by_run time s f) late.subject_is
    ∙ ap (λ (b : Bool). if b then Some (record { time = time; note = record { unit = late.unit; failure = f } }) else None) (last-call live.machine.disk.written late.unit.kind f.call late.call)

-- a closing that comes behind is no failure of the run
closing-unmet : (live : Live) (behind : List CommandNote) → ComeBehind live behind → run_failure behind ≡ None
closing-unmet live [] come = refl
closing-unmet live (n ∷ behind) come = met-closing n.time n.subject n.failure live come.0

-- what a run is handed is the note that is kept for its stop, whatever comes behind
pub handed-run : (time : ℕ) (stop : Stop) (live : Live) (behind : List CommandNote) → HasUnit stop → ComeBehind live behind
    → run_failure (own_run time stop ++ behind) ≡ run_note time (Some stop)
handed-run time (FileFault f) live behind unit come = met-byte time f unit.1
handed-run time stop live behind unit come = closing-unmet live behind come

said-stop : (number time : ℕ) (stop : Stop) → notes_said (stop_notes (record { command = number; time = time }) stop) ≡ numbered number (own_run time stop)
said-stop number time (FileFault f) = refl
said-stop number time stop = refl

pub said-more : (notes : List FaultNote) (number time : ℕ) (stop : Stop)
    → notes_said (notes ++ stop_notes (record { command = number; time = time }) stop) ≡ notes_said notes ++ numbered number (own_run time stop)
said-more notes number time stop =
    map-append said_of notes (stop_notes (record { command = number; time = time }) stop) ∙ ap (λ l. notes_said notes ++ l) (said-stop number time stop)

-- ---- what a run prints

-- a stop's text behind what was made
abbrev stopped_reply : List (Observation Standing) → ℕ → Stop → Live → Reply
stopped_reply made time stop s = record {
  made = made ++ Prints (stop_text stop s.machine) (standing (length (own_run time stop)) s) ∷ [];
  answer = bare_answer (Ok (Ran stop));
  after = standing (length (own_run time stop)) s;
}

stopped-is : (made : List (Observation Standing)) (time : ℕ) (stop : Stop) (s : Live)
    → record {
      made = made ++ Prints (stop_line (bare (Some stop)) s.machine) (standing (used_by (bare (Some stop))) s) ∷ [];
      answer = run_answer (bare (Some stop));
      after = standing (used_by (bare (Some stop))) s;
    } ≡ stopped_reply made time stop s
unfolding stop_text
stopped-is made time (FileFault f) s = refl
stopped-is made time stop s = refl

-- the text of a stop comes behind what a run has printed
ran-is : (p : Part) (time : ℕ) (stop : Stop) (s : Live) → bare (Some stop) ≡ p.stop → s ≡ p.after → ran p ≡ stopped_reply (map_made (standing 0) p.made) time stop s
unfolding ran
ran-is p time stop s stops after =
    ap (λ (o : Option Stop). record { made = map_made (standing 0) p.made ++ Prints (stop_line o p.after.machine) (standing (used_by o) p.after) ∷ []; answer = run_answer o; after = standing (used_by o) p.after }) (sym stops)
    ∙ ap (λ (x : Live). record { made = map_made (standing 0) p.made ++ Prints (stop_line (bare (Some stop)) x.machine) (standing (used_by (bare (Some stop))) x) ∷ []; answer = run_answer (bare (Some stop)); after = standing (used_by (bare (Some stop))) x }) (sym after)
    ∙ stopped-is (map_made (standing 0) p.made) time stop s

-- a byte that a run prints was refused
pub ran-cut : (p : Part) (stop : Stop) (s : Live) (tells : Bool) (before after : Output) → stop ≡ ConsoleFault
    → Comes p (Some stop) s tells before after → IsBrokenOff (ran p) (standing 0 s) tells before after
unfolding ran
ran-cut p stop s tells before after is comes =
    let broken : coming.IsBrokenOff p s tells before after = subst (λ (x : Stop). Comes p (Some x) s tells before after) is comes in
    let made = map_made (standing 0) p.made in
    let last = Prints (stop_line p.stop p.after.machine) (standing (used_by p.stop) p.after) ∷ [] in
    record {
      stands = stands-before (standing 0 s) made last (stands-map (standing 0) s p.made broken.stands);
      told = λ told.
          let o = broken.told told in
          record {
            taken = o.taken;
            written = o.written;
            breaks = breaks-before made last o.taken (standing 0 s) (breaks-map (standing 0) p.made o.taken s o.breaks);
            heard =
                o.heard
                ∙ ap (heard_with before.heard) (sym (before-sent made last o.taken (standing 0 s) (breaks-map (standing 0) p.made o.taken s o.breaks) ∙ map-sent (standing 0) p.made o.taken s o.breaks));
          };
    }

-- a run that ended by itself, whose stop was printed, or a byte of it refused
ran-told : {T E : Type 0} (p : Part) (time : ℕ) (stop : Stop) (s : Live) (printed : Result T E) (tells : Bool) (before mid after : Output) → stop ≢ ConsoleFault
    → Comes p (Some stop) s tells before mid → (IsTrue tells → Puts mid.console (stop_text stop s.machine) printed after.console) → after.heard ≡ mid.heard
    → Does (ran p) (told_or_console printed (Ran stop)) (standing (length (own_run time stop)) s) tells before after
ran-told {T} {E} p time stop s printed tells before mid after other comes puts quiet =
    ⊎_elim (λ cut. absurd (let e = cut.0 in other (cc))) (λ whole. by-printed whole.1 printed puts quiet) (split-comes p (Some stop) s tells before mid comes)
  where
    made : List (Observation Standing)
    made = map_made (standing 0) p.made

    written : coming.IsWhole p (Some stop) s tells before mid → IsTrue tells → mid.console ≡ before.console ++ text_of (map_made (standing 0) p.made)
    written whole told = whole.written told ∙ ap (λ (t : List ℕ). before.console ++ t) (sym (text_of-map (standing 0) p.made))

    sent : coming.IsWhole p (Some stop) s tells before mid → mid.heard ≡ heard_with before.heard (sent_of (map_made (standing 0) p.made))
    sent whole = whole.heard ∙ ap (heard_with before.heard) (sym (sent_of-map (standing 0) p.made))

    by-printed : coming.IsWhole p (Some stop) s tells before mid → (printed : Result T E) → (IsTrue tells → Puts mid.console (stop_text stop s.machine) printed after.console) → after.heard ≡ mid.heard
        → Does (ran p) (told_or_console printed (Ran stop)) (standing (length (own_run time stop)) s) tells before after
    by-printed whole (Ok x) puts quiet =
        subst (λ (r : Reply). Does r (Ok (Ran stop)) (standing (length (own_run time stop)) s) tells before after) (sym (ran-is p time stop s whole.stop_is whole.after_is))
        (refl, behind-said (map_made (standing 0) p.made) (stop_text stop s.machine) (bare_answer (Ok (Ran stop))) (standing (length (own_run time stop)) s) tells before mid after (written whole) (sent whole) puts quiet)
    by-printed whole (Err e) puts quiet =
        subst (λ (r : Reply). Does r (Err Console) (standing (length (own_run time stop)) s) tells before after) (sym (ran-is p time stop s whole.stop_is whole.after_is))
        (behind-refused (map_made (standing 0) p.made) (stop_text stop s.machine) (bare_answer (Ok (Ran stop))) (standing (length (own_run time stop)) s) tells before mid after (written whole) (sent whole) puts quiet)

pub ran-does : {T E : Type 0} (p : Part) (time : ℕ) (stop : Stop) (s : Live) (printed : Result T E) (answer : Answer) (tells : Bool) (before mid after : Output) → stop ≢ ConsoleFault
    → Comes p (Some stop) s tells before mid → (IsTrue tells → Puts mid.console (stop_text stop s.machine) printed after.console) → after.heard ≡ mid.heard → answer ≡ told_or_console printed (Ran stop)
    → Does (ran p) answer (standing (length (own_run time stop)) s) tells before after
ran-does p time stop s printed answer tells before mid after other comes puts quiet is =
    subst (λ (a : Answer). Does (ran p) a (standing (length (own_run time stop)) s) tells before after) (sym is) (ran-told p time stop s printed tells before mid after other comes puts quiet)

-- the text of a stop speaks of no file's number
pub erased-text : (stop : Stop) (m : MachineState) → stop_text stop (erased m) ≡ stop_text stop m
unfolding stop_text
erased-text stop m = refl

-- ---- what a run comes to

-- a run in which the console refused a byte
pub cut-did : (step : Bool) (count : ℕ) (old new : Live) (time : ℕ) (stop : Stop) (number : ℕ) (tells : Bool) (before after : Output) (notes : List Note) → stop ≡ ConsoleFault
    → Comes (run (run_note time (Some stop)) step count old) (Some stop) new tells before after
    → Did (λ given. ran (run (run_failure given) step count old)) number (Err Console) new tells before after notes notes
cut-did step count old new time stop number tells before after notes is comes = record {
  own = [];
  kept = sym (append-nil notes);
  does = λ behind come.
      subst (λ (o : Option RunNote). IsBrokenOff (ran (run o step count old)) (standing 0 new) tells before after)
      (ap (λ (x : Stop). run_note time (Some x)) is ∙ sym (closing-unmet new behind come))
      (ran-cut (run (run_note time (Some stop)) step count old) stop new tells before after is comes);
}

-- a run that ended by itself, whose stop was printed or cut off
pub run-did : {T E : Type 0} (step : Bool) (count : ℕ) (old new : Live) (time : ℕ) (stop : Stop) (printed : Result T E) (answer : Answer) (number : ℕ) (tells : Bool) (before mid after : Output)
    (notes notes' : List Note) → stop ≢ ConsoleFault → HasUnit stop → Comes (run (run_note time (Some stop)) step count old) (Some stop) new tells before mid
    → (IsTrue tells → Puts mid.console (stop_text stop new.machine) printed after.console) → after.heard ≡ mid.heard → answer ≡ told_or_console printed (Ran stop) → notes' ≡ notes ++ numbered number (own_run time stop)
    → Did (λ given. ran (run (run_failure given) step count old)) number answer new tells before after notes notes'
run-did step count old new time stop printed answer number tells before mid after notes notes' other unit comes puts quiet is kept = record {
  own = own_run time stop;
  kept = kept;
  does = λ behind come.
      subst (λ (o : Option RunNote). Does (ran (run o step count old)) answer (standing (length (own_run time stop)) new) tells before after)
      (sym (handed-run time stop new behind unit come))
      (ran-does (run (run_note time (Some stop)) step count old) time stop new printed answer tells before mid after other comes puts quiet is);
}

-- ---- causes

-- what a call of a run can have written
run-written : (unit : UnitName) (call : FileCall) (done : ℕ) → IsRunCall unit.kind call → IsRunDone call done → MayHaveWritten call (subject.Unit unit) done
run-written unit call.Write done runs most = run-done unit done runs most
run-written unit call.Read done runs most = most
run-written unit call.Length done runs most = most
run-written unit call.SetLength done runs most = most
run-written unit call.Opening done runs most = absurd runs
run-written unit call.Closing done runs most = absurd runs

-- the note that is kept for a stop is counted
counted-stop : (stamp : Stamp) (stop : Stop) (slots : List (Option Held)) (old new : FileState) → HasUnit stop → coming.FileCause (Some stop) slots old new → AreCounted (stop_notes stamp stop) old new
counted-stop stamp (FileFault f) slots old new unit cause = counted-fault stamp f slots old new (run-written f.unit f.call f.done unit.1 unit.2) cause
counted-stop stamp stop slots old new unit cause = counted-quiet old new cause

exact-stop : (stamp : Stamp) (stop : Stop) (slots : List (Option Held)) (old new : FileState) → coming.FileCause (Some stop) slots old new → AreExact false (stop_notes stamp stop) old new
exact-stop stamp (FileFault f) slots old new cause = exact-fault false stamp f slots old new cause
exact-stop stamp stop slots old new cause = exact-quiet false old new cause

stop-openings : (stop : Stop) (slots : List (Option Held)) (old new : FileState) → coming.FileCause (Some stop) slots old new → new.open_faults ≡ old.open_faults
stop-openings (FileFault f) slots old new cause = cause.openings
stop-openings stop slots old new cause = cause.openings

-- a run opens no file
stop-ids : (stop : Stop) (slots : List (Option Held)) (old new : FileState) → coming.FileCause (Some stop) slots old new → new.given ≡ old.given
stop-ids (FileFault f) slots old new cause = cause.ids
stop-ids stop slots old new cause = cause.ids

ran-there : {T E : Type 0} (printed : Result T E) (stop : Stop) (answer : Answer) → answer ≡ told_or_console printed (Ran stop) → is_missing answer ≡ false
ran-there (Ok x) stop answer is = ap is_missing is
ran-there (Err e) stop answer is = ap is_missing is

few-stop : (stamp : Stamp) (stop : Stop) → length (stop_notes stamp stop) ≤ 16
few-stop stamp (FileFault f) = omega arith
few-stop stamp stop = omega arith

stamped-stop : (number time : ℕ) (stop : Stop) → AllByRecursion (IsStamped number time) (stop_notes (record { command = number; time = time }) stop)
stamped-stop number time (FileFault f) = ((refl, refl), tt)
stamped-stop number time stop = tt

-- the notes of a run are those of its stop
told-cause : {T E : Type 0} (stamp : Stamp) (tells : Bool) (printed : Result T E) (stop : Stop) (old new : FileState) → FileCause stamp tells (told_or_console printed (Ran stop)) (stop_notes stamp stop) old new
told-cause stamp tells (Ok x) stop old new = refl
told-cause stamp tells (Err e) stop old new = (stop, refl)

pub run-keeps : {T E : Type 0} (number time : ℕ) (tells : Bool) (stop : Stop) (printed : Result T E) (answer : Answer) (slots : List (Option Held)) (notes notes' : List FaultNote) (old new : FileState)
    → answer ≡ told_or_console printed (Ran stop) → notes' ≡ notes ++ stop_notes (record { command = number; time = time }) stop → HasUnit stop → coming.FileCause (Some stop) slots old new
    → Keeps number time tells answer notes notes' old new
run-keeps number time tells stop printed answer slots notes notes' old new is added unit cause =
    let stamp : Stamp = record { command = number; time = time } in
    record {
      kept = stop_notes stamp stop;
      added = added;
      few = few-stop stamp stop;
      stamped = stamped-stop number time stop;
      counted = counted-stop stamp stop slots old new unit cause;
      exact = exact-stop stamp stop slots old new cause;
      openings =
          openings-none tells answer (stop_notes stamp stop) old new (ran-there printed stop answer is) (stop-openings stop slots old new cause)
          (counted-stop stamp stop slots old new unit cause);
      given = let same = stop-ids stop slots old new cause in omega (arith, same);
      cause = subst (λ (a : Answer). FileCause stamp tells a (stop_notes stamp stop) old new) (sym is) (told-cause stamp tells printed stop old new);
    }

-- a run that ended since the console refused a byte keeps no note
pub cut-keeps : (number time : ℕ) (tells : Bool) (stop : Stop) (slots : List (Option Held)) (notes : List FaultNote) (old new : FileState) → stop ≡ ConsoleFault
    → coming.FileCause (Some stop) slots old new → Keeps number time tells (Err Console) notes notes old new
cut-keeps number time tells stop slots notes old new is cause = record {
  kept = [];
  added = sym (append-nil notes);
  few = omega arith;
  stamped = tt;
  counted = counted-quiet old new (subst (λ (x : Stop). coming.FileCause (Some x) slots old new) is cause);
  exact = exact-quiet false old new (subst (λ (x : Stop). coming.FileCause (Some x) slots old new) is cause);
  openings =
      openings-none tells (Err Console) [] old new refl (stop-openings stop slots old new cause)
      (counted-quiet old new (subst (λ (x : Stop). coming.FileCause (Some x) slots old new) is cause));
  given = let same = stop-ids stop slots old new cause in omega (arith, same);
  cause = (ConsoleFault, refl);
}
