-- A file is read or written whole by a command: the notes of its calls that failed, why they were kept, and what the
-- command comes to.
use Rattle.std.proofs.Common.{◌≡◌, inl, inr, ℕ, zero, suc, ◌+◌, ◌-◌, ◌^◌, ◌<◌, ◌≤◌, nat_le, ◌==◌, ◌&&◌, ◌||◌, not, Bool, true, false, IsTrue, List, [], ◌∷◌, ◌++◌, length, map}
use Rattle.std.proofs.Common.{Option, Some, None, IfSome, IsSome, is_some, Result, Ok, Err, refl, ap, sym, ◌∙◌, subst, if◌then◌else◌, append-nil, append_assoc, arith}
use Rattle.std.specs.List.{AllByRecursion, take_while}
use Rattle.std.specs.Global.{Vec}
use Rattle.std.proofs.lemmas.Bool.{eq-eqb}
use Rattle.std.proofs.lemmas.Bool.Decides.{nat_tests}
use Rattle.std.proofs.lemmas.List.Sums.{take_while-cons}
use Rattle.fault_counts.specs.Faults.{raised, Rose}
use Rattle.file_traits.specs.declared.files.FileCall.{FileCall}
use Rattle.file_traits.specs.declared.files.FileCall.TheVariants as call
use Rattle.file_traits.specs.declared.files.FileId.{FileId}
use Rattle.file_traits.specs.Lists.{NamedBytes}
use Rattle.file_traits.specs.State.{FileState}
use Rattle.unit_trait.specs.declared.kind.UnitName.{UnitName}
use Rattle.file_commands.specs.declared.note.Subject.{Subject}
use Rattle.file_commands.specs.declared.note.Subject.TheVariants as subject
use Rattle.file_commands.specs.declared.note.FaultNote.{FaultNote}
use Rattle.file_commands.specs.Notes.{CommandNote, Note, same_subject, numbered, notes_said}
use Rattle.file_commands.specs.Possible.{IsWritten, MayHaveWritten, IsPossible}
use Rattle.file_commands.proofs.Possible.{none-done}
use Rattle.file_commands.specs.Counts.{is_of, is_opening, one_if, noted, openings_noted, RoseBy, AreCounted, AreExact}
use Rattle.file_commands.proofs.Causes.{rose-one}
use Rattle.file_commands.proofs.Exact.{exact-when}
use Rattle.file_commands.specs.declared.stamp.Stamp.{Stamp}
use Rattle.whole_files.specs.declared.whole.FailedCall.{FailedCall}
use Rattle.whole_files.specs.declared.whole.Whole.{Whole}
use Rattle.whole_files.specs.declared.whole.WholeFault.{WholeFault}
use Rattle.whole_files.specs.declared.whole.WholeFault.TheVariants as fault
use Rattle.whole_files.specs.declared.writing.Written.{Written}
use Rattle.whole_files.specs.Whole.{WholeSaid, WholeIs, NotThere, TooLong, CallFailed, whole_act}
use Rattle.whole_files.specs.Claims.{said_of, said_of_bytes, call_of, claimed, is_failed, ComesBefore, HasShape, raised_by, claims_of, is_missing}
use Rattle.whole_files.specs.Claims as claims
use Rattle.whole_files.specs.Claims.{WholeCause}
use Rattle.whole_files.specs.Writing.{FailingCall, WriteSaid, AllWritten, WriteFailed, WriteAct, write_act, said_of_writing, failing_call}
use Rattle.whole_files.specs.Writing.{claimed_in_writing, is_failed_writing, ComesBeforeClosing, WasNotOpened, HasWriteShape, is_unmade}
use Rattle.nova_machine.specs.Comes.{Output}
use Rattle.command_session.specs.declared.fault.CommandFault.TheVariants.{NoFile, OutOfMemory}
use Rattle.command_session.specs.Live.{Live, standing}
use Rattle.command_session.specs.Reply.{Answer, Reply}
use Rattle.command_session.specs.WholeCalls.{is_of_whole, whole_calls, write_calls, said_answer, whole_answer, wrote_answer, written_answer}
use Rattle.command_session.specs.WholeCalls.{call_note, call_notes, both_notes, read_notes, write_notes}
use Rattle.command_session.specs.Refusals.{UnreadCause}
use Rattle.command_session.specs.Doing as doing
use Rattle.command_session.specs.Doing.{Does, Did, ComeBehind, IsStamped, IsClosingOf, AllClosings, FileCause, KeepsOwn, IsShutNote, NotesRemain, IsPlain, IsOwn, IsExitAnswer}
use Rattle.command_session.proofs.CloseLemmas.{said-append, refused-first}
use Rattle.command_session.proofs.CountedLemmas.{all-named}
use Rattle.command_session.proofs.ReplyLemmas.{silent-does}

-- ---- the calls that fail, as the command's own notes

-- a subject that is no unit
pub record IsNoUnit (whose : Subject) : Type 0 where
  pub itself : same_subject whose whose ≡ true
  pub no_unit : (unit : UnitName) → same_subject (subject.Unit unit) whose ≡ false

pub script-is : IsNoUnit subject.Script
script-is = record { itself = refl; no_unit = λ unit. refl }

pub load-is : IsNoUnit subject.Load
load-is = record { itself = refl; no_unit = λ unit. refl }

pub state-is : IsNoUnit subject.State
state-is = record { itself = refl; no_unit = λ unit. refl }

pub dump-is : IsNoUnit subject.Dump
dump-is = record { itself = refl; no_unit = λ unit. refl }

abbrev pub own_note : Subject → ℕ → ℕ → FailedCall → CommandNote
own_note whose time done f = record { time = time; subject = whose; failure = record { call = f.call; done = done } }

abbrev pub own_call : Subject → ℕ → ℕ → Option FailedCall → List CommandNote
own_call whose time done None = []
own_call whose time done (Some f) = own_note whose time done f ∷ []

abbrev pub own_both : Subject → ℕ → ℕ → Option FailedCall → Option FailedCall → List CommandNote
own_both whose time done failed closing = own_call whose time done failed ++ own_call whose time 0 closing

and-false : (b : Bool) → (b && false) ≡ false
and-false true = refl
and-false false = refl

pub not-whole : (whose : Subject) (time : ℕ) (n : CommandNote) (unit : UnitName) → IsNoUnit whose → n.subject ≡ subject.Unit unit
    → is_of_whole whose time n ≡ false
not-whole whose time n unit mine is =
    ap (λ (s : Subject). (n.time == time) && same_subject s whose) is
    ∙ ap (λ (b : Bool). (n.time == time) && b) (mine.no_unit unit)
    ∙ and-false (n.time == time)

is-whole : (whose : Subject) (time done : ℕ) (f : FailedCall) → IsNoUnit whose
    → is_of_whole whose time (own_note whose time done f) ≡ true
is-whole whose time done f mine =
    ap (λ (b : Bool). b && same_subject whose whose) (eq-eqb time time refl) ∙ mine.itself

-- a note of the subject stands before others, and one of a unit ends them
pub first-note : (whose : Subject) (time : ℕ) (n : CommandNote) (more : List CommandNote) (b : Bool) → is_of_whole whose time n ≡ b
    → take_while (is_of_whole whose time) (n ∷ more) ≡ (if b then n ∷ take_while (is_of_whole whose time) more else [])
first-note whose time n more b is =
    take_while-cons (is_of_whole whose time) n more
    ∙ ap (λ (c : Bool). if c then n ∷ take_while (is_of_whole whose time) more else []) is

-- a closing that comes behind is none of the subject's
pub none-behind : (whose : Subject) (time : ℕ) (live : Live) (behind : List CommandNote) → IsNoUnit whose → ComeBehind live behind
    → take_while (is_of_whole whose time) behind ≡ []
none-behind whose time live [] mine come = refl
none-behind whose time live (n ∷ behind) mine come =
    first-note whose time n behind false (not-whole whose time n come.0.unit mine come.0.subject_is)

call-first : (whose : Subject) (time done : ℕ) (f : Option FailedCall) (more : List CommandNote) → IsNoUnit whose
    → take_while (is_of_whole whose time) (own_call whose time done f ++ more)
    ≡ own_call whose time done f ++ take_while (is_of_whole whose time) more
call-first whose time done None more mine = refl
call-first whose time done (Some f) more mine =
    first-note whose time (own_note whose time done f) more true (is-whole whose time done f mine)

-- so the notes of the subject are its own
own-first : (whose : Subject) (time done : ℕ) (failed closing : Option FailedCall) (behind : List CommandNote)
    → IsNoUnit whose → take_while (is_of_whole whose time) behind ≡ []
    → take_while (is_of_whole whose time) (own_both whose time done failed closing ++ behind)
    ≡ own_both whose time done failed closing
own-first whose time done failed closing behind mine none =
    ap (take_while (is_of_whole whose time))
    (append_assoc (own_call whose time done failed) (own_call whose time 0 closing) behind)
    ∙ call-first whose time done failed (own_call whose time 0 closing ++ behind) mine
    ∙ ap (λ (l : List CommandNote). own_call whose time done failed ++ l)
    (call-first whose time 0 closing behind mine
    ∙ ap (λ (l : List CommandNote). own_call whose time 0 closing ++ l) none
    ∙ append-nil (own_call whose time 0 closing))

-- as the calls that a reading claims
pub read-calls : (whose : Subject) (time : ℕ) (w : Whole) (behind : List CommandNote) → IsNoUnit whose
    → take_while (is_of_whole whose time) behind ≡ [] → whole_calls whose time (own_both whose time 0 w.failed w.closing ++ behind) ≡ claimed w
read-calls whose time w behind mine none =
    ap (map (λ (n : CommandNote). n.failure.call)) (own-first whose time 0 w.failed w.closing behind mine none)
    ∙ by-calls w.failed w.closing
  where
    by-calls : (failed closing : Option FailedCall)
        → map (λ (n : CommandNote). n.failure.call) (own_both whose time 0 failed closing) ≡ call_of failed ++ call_of closing
    by-calls None None = refl
    by-calls None (Some c) = refl
    by-calls (Some f) None = refl
    by-calls (Some f) (Some c) = refl

-- as those that a writing claims
write-calls : (whose : Subject) (time : ℕ) (live : Live) (w : Written) (behind : List CommandNote) → IsNoUnit whose
    → ComeBehind live behind
    → write_calls whose time (own_both whose time w.done w.failed w.closing ++ behind) ≡ claimed_in_writing w
write-calls whose time live w behind mine come =
    ap (map said) (own-first whose time w.done w.failed w.closing behind mine (none-behind whose time live behind mine come)) ∙ by-calls w.failed w.closing
  where
    said : CommandNote → FailingCall
    said n = (n.failure.call, n.failure.done)

    by-calls : (failed closing : Option FailedCall)
        → map said (own_both whose time w.done failed closing) ≡ failing_call w.done failed ++ failing_call 0 closing
    by-calls None None = refl
    by-calls None (Some c) = refl
    by-calls (Some f) None = refl
    by-calls (Some f) (Some c) = refl

-- and as many
pub read-many : (whose : Subject) (time : ℕ) (w : Whole) → length (own_both whose time 0 w.failed w.closing) ≡ length (claimed w)
read-many whose time w = by-calls w.failed w.closing
  where
    by-calls : (failed closing : Option FailedCall)
        → length (own_both whose time 0 failed closing) ≡ length (call_of failed ++ call_of closing)
    by-calls None None = refl
    by-calls None (Some c) = refl
    by-calls (Some f) None = refl
    by-calls (Some f) (Some c) = refl

write-many : (whose : Subject) (time : ℕ) (w : Written)
    → length (own_both whose time w.done w.failed w.closing) ≡ length (claimed_in_writing w)
write-many whose time w = by-calls w.failed w.closing
  where
    by-calls : (failed closing : Option FailedCall)
        → length (own_both whose time w.done failed closing) ≡ length (failing_call w.done failed ++ failing_call 0 closing)
    by-calls None None = refl
    by-calls None (Some c) = refl
    by-calls (Some f) None = refl
    by-calls (Some f) (Some c) = refl

-- the notes that are kept say them
pub both-said : (whose : Subject) (number time done : ℕ) (failed closing : Option FailedCall)
    → notes_said (both_notes whose (record { command = number; time = time }) done failed closing)
    ≡ numbered number (own_both whose time done failed closing)
both-said whose number time done None None = refl
both-said whose number time done None (Some c) = refl
both-said whose number time done (Some f) None = refl
both-said whose number time done (Some f) (Some c) = refl

-- ---- what a reading comes to

-- a command that reads a file, by what its bytes come to and what it leaves
abbrev pub read_by : Subject → (List ℕ → Answer) → (WholeSaid → Live) → WholeSaid × ℕ → Reply
read_by whose comes_to after read =
    record { made = []; answer = said_answer whose comes_to read.0; after = standing read.1 (after read.0) }

abbrev pub read_reply : Subject → (List ℕ → Answer) → (WholeSaid → Live) → ℕ → List ℕ → List NamedBytes → List CommandNote → Reply
read_reply whose comes_to after time name files own =
    read_by whose comes_to after (whole_act (whole_calls whose time own) name files)

said-plain : (whose : Subject) (comes_to : List ℕ → Answer) (said : WholeSaid) → ((bytes : List ℕ) → IsPlain (comes_to bytes))
    → IsPlain (said_answer whose comes_to said)
said-plain whose comes_to (WholeIs bytes) plain = plain bytes
said-plain whose comes_to NotThere plain = tt
said-plain whose comes_to TooLong plain = tt
said-plain whose comes_to CallFailed plain = tt

pub read-did : (whose : Subject) (comes_to : List ℕ → Answer) (after : WholeSaid → Live) (number time : ℕ) (new : Live)
    (name : List ℕ) (files : List NamedBytes) (w : Whole) (answer : Answer) (tells : Bool) (text : Output)
    (notes notes' : List FaultNote) → IsNoUnit whose → ((bytes : List ℕ) → IsPlain (comes_to bytes))
    → answer ≡ whole_answer whose comes_to w.bytes → IfSome (said_of w) (λ (said : WholeSaid). new ≡ after said)
    → IfSome (said_of w) (λ (said : WholeSaid). whole_act (claimed w) name files ≡ (said, length (claimed w)))
    → notes' ≡ notes ++ read_notes whose (record { command = number; time = time }) w
    → Did (read_reply whose comes_to after time name files) number answer new tells text text (notes_said notes) (notes_said notes')
read-did whose comes_to after number time new name files w answer tells text notes notes' mine plain answered left told kept =
    subst (λ (a : Answer). Did (read_reply whose comes_to after time name files) number a new tells text text (notes_said notes) (notes_said notes'))
    (sym answered)
    (record {
      own = own;
      kept =
          ap notes_said kept ∙ said-append notes (read_notes whose (record { command = number; time = time }) w)
          ∙ ap (λ (l : List Note). notes_said notes ++ l) (both-said whose number time 0 w.failed w.closing);
      does = λ behind come. by-bytes w.bytes left told behind come;
    })
  where
    own : List CommandNote
    own = own_both whose time 0 w.failed w.closing

    reply-behind : (said : WholeSaid) (behind : List CommandNote) → whole_act (claimed w) name files ≡ (said, length (claimed w))
        → ComeBehind new behind
        → read_reply whose comes_to after time name files (own ++ behind) ≡ read_by whose comes_to after (said, length own)
    reply-behind said behind is come =
        ap (λ (l : List FileCall). read_by whose comes_to after (whole_act l name files)) (read-calls whose time w behind mine (none-behind whose time new behind mine come))
        ∙ ap (read_by whose comes_to after) is
        ∙ ap (λ (n : ℕ). read_by whose comes_to after (said, n)) (sym (read-many whose time w))

    does-said : (said : WholeSaid) (behind : List CommandNote) → new ≡ after said
        → whole_act (claimed w) name files ≡ (said, length (claimed w)) → ComeBehind new behind
        → Does (read_reply whose comes_to after time name files (own ++ behind)) (said_answer whose comes_to said)
        (standing (length own) new) tells text text
    does-said said behind leaves is come =
        subst (λ (r : Reply). Does r (said_answer whose comes_to said) (standing (length own) new) tells text text)
        (sym (reply-behind said behind is come))
        (silent-does (read_by whose comes_to after (said, length own)) (said_answer whose comes_to said) (standing (length own) new)
        tells text (said-plain whose comes_to said plain) refl (ap (standing (length own)) leaves) refl)

    by-bytes : (bytes : Result (Vec ℕ) WholeFault) → IfSome (said_of_bytes bytes) (λ (said : WholeSaid). new ≡ after said)
        → IfSome (said_of_bytes bytes) (λ (said : WholeSaid). whole_act (claimed w) name files ≡ (said, length (claimed w)))
        → (behind : List CommandNote) → ComeBehind new behind
        → Does (read_reply whose comes_to after time name files (own ++ behind)) (whole_answer whose comes_to bytes)
        (standing (length own) new) tells text text
    by-bytes (Ok v) left told behind come = does-said (WholeIs v.items) behind left told come
    by-bytes (Err fault.NoFile) left told behind come = does-said NotThere behind left told come
    by-bytes (Err fault.TooLong) left told behind come = does-said TooLong behind left told come
    by-bytes (Err fault.Failed) left told behind come = does-said CallFailed behind left told come
    by-bytes (Err fault.OutOfMemory) left told behind come = tt

-- ---- what a writing comes to

-- a command that writes a file, by what it leaves
abbrev pub write_by : Subject → (List NamedBytes → Live) → WriteAct → Reply
write_by whose after act = record { made = []; answer = wrote_answer whose act.said; after = standing act.met (after act.files) }

abbrev pub write_reply : Subject → (List NamedBytes → Live) → ℕ → List ℕ → List ℕ → List NamedBytes → List CommandNote → Reply
write_reply whose after time name piece files own =
    write_by whose after (write_act (write_calls whose time own) name piece files)

wrote-plain : (whose : Subject) (said : WriteSaid) → IsPlain (wrote_answer whose said)
wrote-plain whose AllWritten = tt
wrote-plain whose WriteFailed = tt

-- the notes of a writing are kept as its own
pub write-kept : (whose : Subject) (number time : ℕ) (w : Written) (notes notes' : List FaultNote)
    → notes' ≡ notes ++ write_notes whose (record { command = number; time = time }) w
    → notes_said notes' ≡ notes_said notes ++ numbered number (own_both whose time w.done w.failed w.closing)
write-kept whose number time w notes notes' kept =
    ap notes_said kept ∙ said-append notes (write_notes whose (record { command = number; time = time }) w)
    ∙ ap (λ (l : List Note). notes_said notes ++ l) (both-said whose number time w.done w.failed w.closing)

-- and it is done, whatever comes behind them
pub write-does : (whose : Subject) (after : List NamedBytes → Live) (time : ℕ) (new : Live) (name piece : List ℕ)
    (files files' : List NamedBytes) (w : Written) (answer : Answer) (tells : Bool) (text : Output) (behind : List CommandNote)
    → IsNoUnit whose → answer ≡ written_answer whose w.answer → new ≡ after files'
    → (w.answer ≡ Err fault.NoFile → ⊥) → (w.answer ≡ Err fault.TooLong → ⊥)
    → IfSome (said_of_writing w.answer) (λ (said : WriteSaid). write_act (claimed_in_writing w) name piece files
    ≡ record { said = said; met = length (claimed_in_writing w); files = files' })
    → ComeBehind new behind
    → Does (write_reply whose after time name piece files (own_both whose time w.done w.failed w.closing ++ behind)) answer
    (standing (length (own_both whose time w.done w.failed w.closing)) new) tells text text
write-does whose after time new name piece files files' w answer tells text behind mine answered left made fits told come =
    subst (λ (a : Answer). Does (write_reply whose after time name piece files (own ++ behind)) a (standing (length own) new) tells text text)
    (sym answered) (by-answer w.answer made fits told)
  where
    own : List CommandNote
    own = own_both whose time w.done w.failed w.closing

    acted : WriteSaid → ℕ → WriteAct
    acted said met = record { said = said; met = met; files = files' }

    reply-behind : (said : WriteSaid)
        → write_act (claimed_in_writing w) name piece files ≡ acted said (length (claimed_in_writing w))
        → write_reply whose after time name piece files (own ++ behind) ≡ write_by whose after (acted said (length own))
    reply-behind said is =
        ap (λ (l : List FailingCall). write_by whose after (write_act l name piece files)) (write-calls whose time new w behind mine come)
        ∙ ap (write_by whose after) is
        ∙ ap (λ (n : ℕ). write_by whose after (acted said n)) (sym (write-many whose time w))

    does-said : (said : WriteSaid)
        → write_act (claimed_in_writing w) name piece files ≡ acted said (length (claimed_in_writing w))
        → Does (write_reply whose after time name piece files (own ++ behind)) (wrote_answer whose said) (standing (length own) new) tells text text
    does-said said is =
        subst (λ (r : Reply). Does r (wrote_answer whose said) (standing (length own) new) tells text text)
        (sym (reply-behind said is))
        (silent-does (write_by whose after (acted said (length own))) (wrote_answer whose said) (standing (length own) new)
        tells text (wrote-plain whose said) refl (ap (standing (length own)) left) refl)

    by-answer : (a : Result (Unit {0}) WholeFault) → (a ≡ Err fault.NoFile → ⊥) → (a ≡ Err fault.TooLong → ⊥)
        → IfSome (said_of_writing a) (λ (said : WriteSaid). write_act (claimed_in_writing w) name piece files
        ≡ acted said (length (claimed_in_writing w)))
        → Does (write_reply whose after time name piece files (own ++ behind)) (written_answer whose a) (standing (length own) new) tells text text
    by-answer (Ok u) made fits told = does-said AllWritten told
    by-answer (Err fault.Failed) made fits told = does-said WriteFailed told
    by-answer (Err fault.NoFile) made fits told = absurd (made refl)
    by-answer (Err fault.TooLong) made fits told = absurd (fits refl)
    by-answer (Err fault.OutOfMemory) made fits told = tt

pub write-did : (whose : Subject) (after : List NamedBytes → Live) (number time : ℕ) (new : Live) (name piece : List ℕ)
    (files files' : List NamedBytes) (w : Written) (answer : Answer) (tells : Bool) (text : Output) (notes notes' : List FaultNote)
    → IsNoUnit whose → answer ≡ written_answer whose w.answer → new ≡ after files'
    → (w.answer ≡ Err fault.NoFile → ⊥) → (w.answer ≡ Err fault.TooLong → ⊥)
    → IfSome (said_of_writing w.answer) (λ (said : WriteSaid). write_act (claimed_in_writing w) name piece files
    ≡ record { said = said; met = length (claimed_in_writing w); files = files' })
    → notes' ≡ notes ++ write_notes whose (record { command = number; time = time }) w
    → Did (write_reply whose after time name piece files) number answer new tells text text (notes_said notes) (notes_said notes')
write-did whose after number time new name piece files files' w answer tells text notes notes' mine answered left made fits told kept = record {
  own = own_both whose time w.done w.failed w.closing;
  kept = write-kept whose number time w notes notes' kept;
  does = λ behind come. write-does whose after time new name piece files files' w answer tells text behind mine answered left made fits told come;
}

-- ---- the counts

raised-on : (n before now : ℕ) → RoseBy n before now → RoseBy (suc n) before (raised now)
raised-on n before now (later, inl rise) = by-end (nat_le (2 ^ 64 - 1) now) refl
  where
    by-end : (b : Bool) → nat_le (2 ^ 64 - 1) now ≡ b → RoseBy (suc n) before (raised now)
    by-end true h =
        let end : 2 ^ 64 - 1 ≤ now = grind (arith, nat_tests) in
        (omega (arith, later), inr (omega (arith, end)))
    by-end false h =
        let below : now < 2 ^ 64 - 1 = grind (arith, nat_tests) in
        (omega (arith, later), inl (omega (arith, rise, below)))
raised-on n before now (later, inr end) = (omega (arith, later), inr (omega (arith, end)))

pub rose-by : (n before : ℕ) → RoseBy n before (raised_by n before)
rose-by zero before = (omega arith, inl (omega arith))
rose-by (suc n) before = raised-on n before (raised_by n before) (rose-by n before)

-- what is noted of a file is what is claimed of it
call-noted : (whose : Subject) (stamp : Stamp) (done file : ℕ) (f : Option FailedCall) (more : List FaultNote)
    → noted file (call_notes whose stamp done f ++ more) ≡ claims_of f file + noted file more
call-noted whose stamp done file None more = omega arith
call-noted whose stamp done file (Some f) more = by-file f.file
  where
    by-if : (b : Bool) → one_if b + noted file more ≡ (if b then 1 else 0) + noted file more
    by-if true = refl
    by-if false = refl

    by-file : (id : Option FileId) → one_if (is_of file id) + noted file more ≡ (if claims.is_of id file then 1 else 0) + noted file more
    by-file None = refl
    by-file (Some id) = by-if (id.0 == file)

both-noted : (whose : Subject) (stamp : Stamp) (done file : ℕ) (failed closing : Option FailedCall)
    → noted file (both_notes whose stamp done failed closing) ≡ claims_of failed file + claims_of closing file
both-noted whose stamp done file failed closing =
    let last = call-noted whose stamp 0 file closing [] in
    let all = ap (λ (l : List FaultNote). noted file l) (append-nil (call_notes whose stamp 0 closing)) in
    let first = call-noted whose stamp done file failed (call_notes whose stamp 0 closing) in
    omega (arith, first, last, all)

-- a call before the closing is an opening where it is of no file, and no closing
abbrev pub IsEarly : FileCall → Option FileId → Type 0
IsEarly call.Opening None = Unit {0}
IsEarly call.Opening (Some id) = ⊥
IsEarly call.Closing file = ⊥
IsEarly which None = ⊥
IsEarly which (Some id) = Unit {0}

early-read : (which : FileCall) (file : Option FileId) → ComesBefore which file → IsEarly which file
early-read call.Opening None before = tt
early-read call.Length (Some id) before = tt
early-read call.Read (Some id) before = tt
early-read which file before = absurd before

early-write : (which : FileCall) (file : Option FileId) (done : ℕ) → ComesBeforeClosing which file done → IsEarly which file
early-write call.Opening None done before = tt
early-write call.Write (Some id) done before = tt
early-write which file done before = absurd before

abbrev pub IsShut : Option FailedCall → Type 0
IsShut closing = IfSome closing (λ (c : FailedCall). (c.call ≡ call.Closing) × IsSome c.file)

-- what a reading and a writing claim
pub record IsClaimed (failed closing : Option FailedCall) : Type 0 where
  pub early : IfSome failed (λ (f : FailedCall). IsEarly f.call f.file)
  pub shut : IsShut closing

pub read-claims : (w : Whole) → HasShape w → IsClaimed w.failed w.closing
read-claims w shape = record { early = by-failed w.failed shape.before; shut = shape.closing }
  where
    by-failed : (failed : Option FailedCall) → IfSome failed (λ (f : FailedCall). ComesBefore f.call f.file)
        → IfSome failed (λ (f : FailedCall). IsEarly f.call f.file)
    by-failed None before = tt
    by-failed (Some f) before = early-read f.call f.file before

pub write-claims : (piece : List ℕ) (w : Written) → HasWriteShape piece w → IsClaimed w.failed w.closing
write-claims piece w shape = record { early = by-failed w.failed shape.before; shut = shape.closing }
  where
    by-failed : (failed : Option FailedCall) → IfSome failed (λ (f : FailedCall). ComesBeforeClosing f.call f.file w.done)
        → IfSome failed (λ (f : FailedCall). IsEarly f.call f.file)
    by-failed None before = tt
    by-failed (Some f) before = early-write f.call f.file w.done before

-- the closing is none of no file, and what failed before it is an opening where it is of none
closing-noted : (whose : Subject) (stamp : Stamp) (closing : Option FailedCall) → IsShut closing
    → openings_noted (call_notes whose stamp 0 closing) ≡ 0
closing-noted whose stamp None has = refl
closing-noted whose stamp (Some c) has = by-file c.file has.1
  where
    by-file : (file : Option FileId) → IsSome file → one_if (is_opening file) + 0 ≡ 0
    by-file None there = absurd (cc)
    by-file (Some id) there = refl

failed-noted : (whose : Subject) (stamp : Stamp) (done : ℕ) (failed : Option FailedCall) (more : List FaultNote)
    → IfSome failed (λ (f : FailedCall). IsEarly f.call f.file)
    → openings_noted (call_notes whose stamp done failed ++ more) ≡ one_if (claims.is_opening failed) + openings_noted more
failed-noted whose stamp done None more before = omega arith
failed-noted whose stamp done (Some f) more before = by-call f.call f.file before
  where
    by-call : (which : FileCall) (file : Option FileId) → IsEarly which file
        → one_if (is_opening file) + openings_noted more ≡ one_if (claims.is_opening (Some (record { file = file; call = which }))) + openings_noted more
    by-call call.Opening None before = refl
    by-call call.Length (Some id) before = refl
    by-call call.Read (Some id) before = refl
    by-call call.Write (Some id) before = refl
    by-call call.SetLength (Some id) before = refl
    by-call which file before = absurd before

pub openings-are : (whose : Subject) (stamp : Stamp) (done : ℕ) (failed closing : Option FailedCall) → IsClaimed failed closing
    → openings_noted (both_notes whose stamp done failed closing) ≡ one_if (claims.is_opening failed)
openings-are whose stamp done failed closing shape =
    let first = failed-noted whose stamp done failed (call_notes whose stamp 0 closing) shape.early in
    let last = closing-noted whose stamp closing shape.shut in
    omega (arith, first, last)

rose-opening : (failed missing : Bool) (before now : ℕ) → now ≡ (if failed || missing then raised before else before) → RoseBy (one_if failed) before now
rose-opening true missing before now is = rose-one before now (omega (arith, is))
rose-opening false true before now is = (omega (arith, is), inl (omega (arith, is)))
rose-opening false false before now is = (omega (arith, is), inl (omega (arith, is)))

-- what a reading or a writing says of the counts; of no file that is missing, where names are not told, an opening failed too
pub record Rises (missing : Bool) (failed closing : Option FailedCall) (old new : FileState) : Type 0 where
  pub counts : (file : ℕ) → new.faults file ≡ raised_by (claims_of failed file + claims_of closing file) (old.faults file)
  pub openings : new.open_faults ≡ (if claims.is_opening failed || missing then raised old.open_faults else old.open_faults)
  pub ids : old.given ≤ new.given
  pub one : new.given ≤ old.given + 1

-- what a call before the closing can have written, of a reading and of a writing
pub possible-read : (whose : Subject) (failed : Option FailedCall) → IfSome failed (λ (f : FailedCall). MayHaveWritten f.call whose 0)
possible-read whose None = tt
possible-read whose (Some f) = none-done f.call whose 0 refl

possible-write : (whose : Subject) (done : ℕ) (failed : Option FailedCall) → IsWritten whose done
    → IfSome failed (λ (f : FailedCall). ComesBeforeClosing f.call f.file done) → IfSome failed (λ (f : FailedCall). MayHaveWritten f.call whose done)
possible-write whose done None written before = tt
possible-write whose done (Some f) written before = by-call f.call f.file before
  where
    by-call : (which : FileCall) (file : Option FileId) → ComesBeforeClosing which file done → MayHaveWritten which whose done
    by-call call.Opening None before = before
    by-call call.Write (Some id) before = written
    by-call which file before = absurd before

possible-both : (whose : Subject) (stamp : Stamp) (done : ℕ) (failed closing : Option FailedCall)
    → IfSome failed (λ (f : FailedCall). MayHaveWritten f.call whose done) → AllByRecursion IsPossible (both_notes whose stamp done failed closing)
possible-both whose stamp done None None early = tt
possible-both whose stamp done None (Some c) early = (none-done c.call whose 0 refl, tt)
possible-both whose stamp done (Some f) None early = (early, tt)
possible-both whose stamp done (Some f) (Some c) early = (early, (none-done c.call whose 0 refl, tt))

-- the notes are counted, and so are none
pub both-counted : (whose : Subject) (stamp : Stamp) (done : ℕ) (missing : Bool) (failed closing : Option FailedCall) (old new : FileState)
    → IsClaimed failed closing → IfSome failed (λ (f : FailedCall). MayHaveWritten f.call whose done) → Rises missing failed closing old new
    → AreCounted (both_notes whose stamp done failed closing) old new
both-counted whose stamp done missing failed closing old new shape early rises = record {
  files = λ file.
      subst (λ (n : ℕ). RoseBy n (old.faults file) (new.faults file)) (sym (both-noted whose stamp done file failed closing))
      (subst (λ (n : ℕ). RoseBy (claims_of failed file + claims_of closing file) (old.faults file) n) (sym (rises.counts file))
      (rose-by (claims_of failed file + claims_of closing file) (old.faults file)));
  openings =
      subst (λ (n : ℕ). RoseBy n old.open_faults new.open_faults) (sym (openings-are whose stamp done failed closing shape))
      (rose-opening (claims.is_opening failed) missing old.open_faults new.open_faults rises.openings);
  possible = possible-both whose stamp done failed closing early;
}

-- and no call that failed is without a note
pub both-exact : (whose : Subject) (stamp : Stamp) (done : ℕ) (missing : Bool) (failed closing : Option FailedCall) (old new : FileState) → Rises missing failed closing old new
    → AreExact false (both_notes whose stamp done failed closing) old new
both-exact whose stamp done missing failed closing old new rises =
    exact-when false (both_notes whose stamp done failed closing) old new
    (λ file. rises.counts file ∙ ap (λ (n : ℕ). raised_by n (old.faults file)) (sym (both-noted whose stamp done file failed closing))) rises.ids

-- an opening that failed is one, and so is one of a file that is missing; it is never both
opening-by : (failed missing : Bool) (noted before now : ℕ) → (failed ≡ true → missing ≡ false) → noted ≡ one_if failed
    → now ≡ (if failed || missing then raised before else before) → now ≡ raised_by (noted + one_if missing) before
opening-by true true noted before now one many is = absurd (let e : true ≡ false = one refl in cc)
opening-by true false noted before now one many is =
    let all : noted + 0 ≡ 1 = omega (arith, many) in
    is ∙ ap (λ (n : ℕ). raised_by n before) (sym all)
opening-by false true noted before now one many is =
    let all : noted + 1 ≡ 1 = omega (arith, many) in
    is ∙ ap (λ (n : ℕ). raised_by n before) (sym all)
opening-by false false noted before now one many is =
    let all : noted + 0 ≡ 0 = omega (arith, many) in
    is ∙ ap (λ (n : ℕ). raised_by n before) (sym all)

both-openings : (whose : Subject) (stamp : Stamp) (done : ℕ) (missing missing' : Bool) (failed closing : Option FailedCall) (old new : FileState) → IsClaimed failed closing
    → missing' ≡ missing → (claims.is_opening failed ≡ true → missing ≡ false) → Rises missing failed closing old new
    → new.open_faults ≡ raised_by (openings_noted (both_notes whose stamp done failed closing) + one_if missing') old.open_faults
both-openings whose stamp done missing missing' failed closing old new shape same one rises =
    subst (λ (b : Bool). new.open_faults ≡ raised_by (openings_noted (both_notes whose stamp done failed closing) + one_if b) old.open_faults) (sym same)
    (opening-by (claims.is_opening failed) missing (openings_noted (both_notes whose stamp done failed closing)) old.open_faults new.open_faults one
    (openings-are whose stamp done failed closing shape) rises.openings)

-- what is not missing takes a closing's note
abbrev a-closing : List FaultNote
a-closing = record { command = 0; time = 0; subject = subject.Script; file = None; call = call.Closing; done = 0 } ∷ []

not-missing : (stamp : Stamp) (tells : Bool) (answer : Answer) (old new : FileState) → ((kept : List FaultNote) → AllClosings kept → FileCause stamp tells answer kept old new)
    → doing.is_missing answer ≡ false
not-missing stamp tells (Err NoFile) old new takes = absurd (let none = (takes a-closing (refl, tt)).0 in cc)
not-missing stamp tells (Err why) old new takes = refl
not-missing stamp tells (Ok next) old new takes = refl

missing-read : (whose : Subject) (comes_to : List ℕ → Answer) (bytes : Result (Vec ℕ) WholeFault) → ((read : List ℕ) → doing.is_missing (comes_to read) ≡ false)
    → doing.is_missing (whole_answer whose comes_to bytes) ≡ is_missing bytes
missing-read whose comes_to (Ok v) other = other v.items
missing-read whose comes_to (Err fault.NoFile) other = refl
missing-read whose comes_to (Err fault.TooLong) other = refl
missing-read whose comes_to (Err fault.Failed) other = refl
missing-read whose comes_to (Err fault.OutOfMemory) other = refl

missing-written : (whose : Subject) (answer : Result (Unit {0}) WholeFault) → doing.is_missing (written_answer whose answer) ≡ is_unmade answer
missing-written whose (Ok u) = refl
missing-written whose (Err fault.NoFile) = refl
missing-written whose (Err fault.TooLong) = refl
missing-written whose (Err fault.Failed) = refl
missing-written whose (Err fault.OutOfMemory) = refl

one-read : (tells : Bool) (bytes : Result (Vec ℕ) WholeFault) (failed : Option FailedCall) → is_some failed ≡ is_failed bytes → claims.is_opening failed ≡ true
    → (is_missing bytes && not tells) ≡ false
one-read tells bytes None is opening = absurd (cc)
one-read tells (Err fault.NoFile) (Some f) is opening = absurd (cc)
one-read tells (Err why) (Some f) is opening = refl
one-read tells (Ok v) (Some f) is opening = refl

one-write : (tells : Bool) (answer : Result (Unit {0}) WholeFault) (failed : Option FailedCall) → is_some failed ≡ is_failed_writing answer → claims.is_opening failed ≡ true
    → (is_unmade answer && not tells) ≡ false
one-write tells answer None is opening = absurd (cc)
one-write tells (Err fault.NoFile) (Some f) is opening = absurd (cc)
one-write tells (Err why) (Some f) is opening = refl
one-write tells (Ok u) (Some f) is opening = refl

-- ---- the cause

closings : (whose : Subject) (stamp : Stamp) (closing : Option FailedCall) → IsShut closing → AllClosings (call_notes whose stamp 0 closing)
closings whose stamp None has = tt
closings whose stamp (Some c) has = (has.0, tt)

closings-of : (whose : Subject) (stamp : Stamp) (closing : Option FailedCall) → IsShut closing
    → AllByRecursion (IsClosingOf whose) (call_notes whose stamp 0 closing)
closings-of whose stamp None has = tt
closings-of whose stamp (Some c) has = ((refl, has.0), tt)

no-closing : (f : FailedCall) → IsEarly f.call f.file → f.call ≡ call.Closing → ⊥
no-closing f before is = by-file f.file (subst (λ (c : FileCall). IsEarly c f.file) is before)
  where
    by-file : (file : Option FileId) → IsEarly call.Closing file → ⊥
    by-file None before = before
    by-file (Some id) before = before

rose-missing : (tells : Bool) (before now : ℕ) → now ≡ (if not tells then raised before else before) → (IsTrue tells → ⊥) → Rose before now
rose-missing true before now is untold = absurd (untold refl)
rose-missing false before now is untold = omega (arith, is)

-- ---- what is kept

pub few-both : (whose : Subject) (stamp : Stamp) (done : ℕ) (failed closing : Option FailedCall) → length (both_notes whose stamp done failed closing) ≤ 16
few-both whose stamp done None None = omega arith
few-both whose stamp done None (Some c) = omega arith
few-both whose stamp done (Some f) None = omega arith
few-both whose stamp done (Some f) (Some c) = omega arith

pub stamped-both : (whose : Subject) (number time done : ℕ) (failed closing : Option FailedCall)
    → AllByRecursion (IsStamped number time) (both_notes whose (record { command = number; time = time }) done failed closing)
stamped-both whose number time done None None = tt
stamped-both whose number time done None (Some c) = ((refl, refl), tt)
stamped-both whose number time done (Some f) None = ((refl, refl), tt)
stamped-both whose number time done (Some f) (Some c) = ((refl, refl), ((refl, refl), tt))

-- what the bytes come to has only notes of closings
abbrev pub TakesClosings : Stamp → Bool → Answer → FileState → FileState → Type 0
TakesClosings stamp tells answer old new = (kept : List FaultNote) → AllClosings kept → FileCause stamp tells answer kept old new

read-cause : (whose : Subject) (stamp : Stamp) (tells : Bool) (comes_to : List ℕ → Answer) (w : Whole) (old new : FileState)
    → ((bytes : List ℕ) → TakesClosings stamp tells (comes_to bytes) old new) → HasShape w
    → Rises (is_missing w.bytes && not tells) w.failed w.closing old new
    → FileCause stamp tells (whole_answer whose comes_to w.bytes) (read_notes whose stamp w) old new
read-cause whose stamp tells comes_to w old new takes shape rises =
    by-bytes w.bytes w.failed w.closing shape.failed (read-claims w shape) shape.missing rises.openings
  where
    by-bytes : (bytes : Result (Vec ℕ) WholeFault) (failed closing : Option FailedCall) → is_some failed ≡ is_failed bytes
        → IsClaimed failed closing → (bytes ≡ Err fault.NoFile → closing ≡ None)
        → new.open_faults ≡ (if claims.is_opening failed || (is_missing bytes && not tells) then raised old.open_faults else old.open_faults)
        → FileCause stamp tells (whole_answer whose comes_to bytes) (both_notes whose stamp 0 failed closing) old new
    by-bytes (Ok v) None closing is claims missing opens =
        takes v.items (call_notes whose stamp 0 closing) (closings whose stamp closing claims.shut)
    by-bytes (Ok v) (Some f) closing is claims missing opens = absurd (cc)
    by-bytes (Err fault.NoFile) None closing is claims missing opens =
        (ap (call_notes whose stamp 0) (missing refl), λ untold. rose-missing tells old.open_faults new.open_faults opens untold)
    by-bytes (Err fault.NoFile) (Some f) closing is claims missing opens = absurd (cc)
    by-bytes (Err fault.TooLong) None closing is claims missing opens = closings whose stamp closing claims.shut
    by-bytes (Err fault.TooLong) (Some f) closing is claims missing opens = absurd (cc)
    by-bytes (Err fault.Failed) None closing is claims missing opens = absurd (cc)
    by-bytes (Err fault.Failed) (Some f) closing is claims missing opens =
        refused-first whose (call_note whose stamp 0 f) (call_notes whose stamp 0 closing) (refl, no-closing f claims.early) (closings-of whose stamp closing claims.shut)
    by-bytes (Err fault.OutOfMemory) None closing is claims missing opens = closings whose stamp closing claims.shut
    by-bytes (Err fault.OutOfMemory) (Some f) closing is claims missing opens = absurd (cc)

pub read-keeps : (whose : Subject) (number time : ℕ) (tells : Bool) (comes_to : List ℕ → Answer) (w : Whole) (answer : Answer)
    (notes notes' : List FaultNote) (old new : FileState)
    → ((bytes : List ℕ) → TakesClosings (record { command = number; time = time }) tells (comes_to bytes) old new)
    → answer ≡ whole_answer whose comes_to w.bytes → HasShape w → Rises (is_missing w.bytes && not tells) w.failed w.closing old new
    → notes' ≡ notes ++ read_notes whose (record { command = number; time = time }) w
    → KeepsOwn number time tells answer notes notes' old new
read-keeps whose number time tells comes_to w answer notes notes' old new takes answered shape rises noted = record {
  kept = read_notes whose stamp w;
  added = noted;
  few = few-both whose stamp 0 w.failed w.closing;
  stamped = stamped-both whose number time 0 w.failed w.closing;
  counted = both-counted whose stamp 0 _ w.failed w.closing old new (read-claims w shape) (possible-read whose w.failed) rises;
  exact = both-exact whose stamp 0 _ w.failed w.closing old new rises;
  openings =
      all-named 0 tells answer (read_notes whose stamp w) old new
      (both-openings whose stamp 0 (is_missing w.bytes && not tells) (doing.is_missing answer && not tells) w.failed w.closing old new (read-claims w shape)
      (ap (λ (b : Bool). b && not tells) (ap doing.is_missing answered ∙ missing-read whose comes_to w.bytes (λ bytes. not-missing stamp tells (comes_to bytes) old new (takes bytes))))
      (one-read tells w.bytes w.failed shape.failed) rises);
  given = rises.one;
  cause =
      subst (λ (a : Answer). FileCause stamp tells a (read_notes whose stamp w) old new) (sym answered)
      (read-cause whose stamp tells comes_to w old new takes shape rises);
}
  where
    stamp : Stamp
    stamp = record { command = number; time = time }

write-cause : (whose : Subject) (stamp : Stamp) (tells : Bool) (piece : List ℕ) (w : Written) (old new : FileState)
    → HasWriteShape piece w → Rises (is_unmade w.answer && not tells) w.failed w.closing old new
    → FileCause stamp tells (written_answer whose w.answer) (write_notes whose stamp w) old new
write-cause whose stamp tells piece w old new shape rises =
    by-answer w.answer w.failed w.closing shape.failed (write-claims piece w shape) shape.unopened shape.fits rises.openings
  where
    by-answer : (answer : Result (Unit {0}) WholeFault) (failed closing : Option FailedCall) → is_some failed ≡ is_failed_writing answer
        → IsClaimed failed closing → (WasNotOpened answer → closing ≡ None) → (answer ≡ Err fault.TooLong → ⊥)
        → new.open_faults ≡ (if claims.is_opening failed || (is_unmade answer && not tells) then raised old.open_faults else old.open_faults)
        → FileCause stamp tells (written_answer whose answer) (both_notes whose stamp w.done failed closing) old new
    by-answer (Ok u) None closing is claims un fits opens = closings whose stamp closing claims.shut
    by-answer (Ok u) (Some f) closing is claims un fits opens = absurd (cc)
    by-answer (Err fault.NoFile) None closing is claims un fits opens =
        (ap (call_notes whose stamp 0) (un tt), λ untold. rose-missing tells old.open_faults new.open_faults opens untold)
    by-answer (Err fault.NoFile) (Some f) closing is claims un fits opens = absurd (cc)
    by-answer (Err fault.TooLong) failed closing is claims un fits opens = absurd (fits refl)
    by-answer (Err fault.Failed) None closing is claims un fits opens = absurd (cc)
    by-answer (Err fault.Failed) (Some f) closing is claims un fits opens =
        refused-first whose (call_note whose stamp w.done f) (call_notes whose stamp 0 closing) (refl, no-closing f claims.early) (closings-of whose stamp closing claims.shut)
    by-answer (Err fault.OutOfMemory) None closing is claims un fits opens = closings whose stamp closing claims.shut
    by-answer (Err fault.OutOfMemory) (Some f) closing is claims un fits opens = absurd (cc)

pub write-keeps : (whose : Subject) (number time : ℕ) (tells : Bool) (piece : List ℕ) (w : Written) (answer : Answer)
    (notes notes' : List FaultNote) (old new : FileState) → answer ≡ written_answer whose w.answer → HasWriteShape piece w → IsWritten whose w.done
    → Rises (is_unmade w.answer && not tells) w.failed w.closing old new
    → notes' ≡ notes ++ write_notes whose (record { command = number; time = time }) w
    → KeepsOwn number time tells answer notes notes' old new
write-keeps whose number time tells piece w answer notes notes' old new answered shape written rises noted = record {
  kept = write_notes whose stamp w;
  added = noted;
  few = few-both whose stamp w.done w.failed w.closing;
  stamped = stamped-both whose number time w.done w.failed w.closing;
  counted =
      both-counted whose stamp w.done _ w.failed w.closing old new (write-claims piece w shape) (possible-write whose w.done w.failed written shape.before)
      rises;
  exact = both-exact whose stamp w.done _ w.failed w.closing old new rises;
  openings =
      all-named 0 tells answer (write_notes whose stamp w) old new
      (both-openings whose stamp w.done (is_unmade w.answer && not tells) (doing.is_missing answer && not tells) w.failed w.closing old new (write-claims piece w shape)
      (ap (λ (b : Bool). b && not tells) (ap doing.is_missing answered ∙ missing-written whose w.answer)) (one-write tells w.answer w.failed shape.failed) rises);
  given = rises.one;
  cause =
      subst (λ (a : Answer). FileCause stamp tells a (write_notes whose stamp w) old new) (sym answered)
      (write-cause whose stamp tells piece w old new shape rises);
}
  where
    stamp : Stamp
    stamp = record { command = number; time = time }

-- ---- memory ran out, and other answers

-- the notes of a reading for which memory ran out are of its closing
pub short-read : (whose : Subject) (number time : ℕ) (comes_to : List ℕ → Answer) (w : Whole) (notes notes' : List FaultNote)
    → ((bytes : List ℕ) → IsPlain (comes_to bytes)) → whole_answer whose comes_to w.bytes ≡ Err OutOfMemory → HasShape w
    → notes' ≡ notes ++ read_notes whose (record { command = number; time = time }) w → NotesRemain (Some whose) number time notes notes'
short-read whose number time comes_to w notes notes' plain is shape noted =
    (read_notes whose stamp w, noted, by-bytes w.bytes w.failed w.closing is shape.failed (read-claims w shape).shut)
  where
    stamp : Stamp
    stamp = record { command = number; time = time }

    shut : (closing : Option FailedCall) → IsShut closing → AllByRecursion (IsShutNote whose number time) (call_notes whose stamp 0 closing)
    shut None has = tt
    shut (Some c) has = (((refl, refl), (refl, has.0)), tt)

    by-bytes : (bytes : Result (Vec ℕ) WholeFault) (failed closing : Option FailedCall) → whole_answer whose comes_to bytes ≡ Err OutOfMemory
        → is_some failed ≡ is_failed bytes → IsShut closing → AllByRecursion (IsShutNote whose number time) (both_notes whose stamp 0 failed closing)
    by-bytes (Ok v) failed closing is some has = absurd (subst IsPlain is (plain v.items))
    by-bytes (Err fault.NoFile) failed closing is some has = absurd (cc)
    by-bytes (Err fault.TooLong) failed closing is some has = absurd (cc)
    by-bytes (Err fault.Failed) failed closing is some has = absurd (cc)
    by-bytes (Err fault.OutOfMemory) None closing is some has = shut closing has
    by-bytes (Err fault.OutOfMemory) (Some f) closing is some has = absurd (cc)

pub none-written : (whose : Subject) (stamp : Stamp) (piece : List ℕ) (w : Written) → HasWriteShape piece w
    → written_answer whose w.answer ≡ Err OutOfMemory → (write_notes whose stamp w ≡ []) × WasNotOpened w.answer
none-written whose stamp piece w shape is = by-answer w.answer w.failed w.closing shape.failed shape.unopened is
  where
    by-answer : (answer : Result (Unit {0}) WholeFault) (failed closing : Option FailedCall) → is_some failed ≡ is_failed_writing answer
        → (WasNotOpened answer → closing ≡ None) → written_answer whose answer ≡ Err OutOfMemory
        → (both_notes whose stamp w.done failed closing ≡ []) × WasNotOpened answer
    by-answer (Ok u) failed closing some un is = absurd (cc)
    by-answer (Err fault.NoFile) failed closing some un is = absurd (cc)
    by-answer (Err fault.TooLong) failed closing some un is = absurd (cc)
    by-answer (Err fault.Failed) failed closing some un is = absurd (cc)
    by-answer (Err fault.OutOfMemory) None closing some un is = (ap (call_notes whose stamp 0) (un tt), tt)
    by-answer (Err fault.OutOfMemory) (Some f) closing some un is = absurd (cc)

pub read-own : (whose : Subject) (comes_to : List ℕ → Answer) (bytes : Result (Vec ℕ) WholeFault) (answer : Answer)
    → ((read : List ℕ) → IsOwn (comes_to read) × IsExitAnswer (comes_to read)) → answer ≡ whole_answer whose comes_to bytes
    → IsOwn answer × IsExitAnswer answer
read-own whose comes_to bytes answer own is = subst (λ (a : Answer). IsOwn a × IsExitAnswer a) (sym is) (by-bytes bytes)
  where
    by-bytes : (bytes : Result (Vec ℕ) WholeFault) → IsOwn (whole_answer whose comes_to bytes) × IsExitAnswer (whole_answer whose comes_to bytes)
    by-bytes (Ok v) = own v.items
    by-bytes (Err fault.NoFile) = (tt, tt)
    by-bytes (Err fault.TooLong) = (tt, tt)
    by-bytes (Err fault.Failed) = (tt, tt)
    by-bytes (Err fault.OutOfMemory) = (tt, tt)

-- why it was not read is why a reading gave no bytes, where its bytes come to no such answer
pub unread-cause : (whose : Subject) (comes_to : List ℕ → Answer) (tells : Bool) (name : List ℕ) (bytes : Result (Vec ℕ) WholeFault) (answer : Answer) (old new : FileState)
    → ((read : List ℕ) → UnreadCause tells name (comes_to read) old new) → answer ≡ whole_answer whose comes_to bytes
    → WholeCause tells name bytes old new → UnreadCause tells name answer old new
unread-cause whose comes_to tells name bytes answer old new comes is cause =
    subst (λ (a : Answer). UnreadCause tells name a old new) (sym is) (by-bytes bytes cause)
  where
    by-bytes : (bytes : Result (Vec ℕ) WholeFault) → WholeCause tells name bytes old new → UnreadCause tells name (whole_answer whose comes_to bytes) old new
    by-bytes (Ok v) cause = comes v.items
    by-bytes (Err fault.NoFile) cause = cause
    by-bytes (Err fault.TooLong) cause = cause
    by-bytes (Err fault.Failed) cause = tt
    by-bytes (Err fault.OutOfMemory) cause = cause

pub write-own : (whose : Subject) (written : Result (Unit {0}) WholeFault) (answer : Answer) → answer ≡ written_answer whose written
    → IsOwn answer × IsExitAnswer answer
write-own whose written answer is = subst (λ (a : Answer). IsOwn a × IsExitAnswer a) (sym is) (by-answer written)
  where
    by-answer : (written : Result (Unit {0}) WholeFault) → IsOwn (written_answer whose written) × IsExitAnswer (written_answer whose written)
    by-answer (Ok u) = (tt, tt)
    by-answer (Err fault.NoFile) = (tt, tt)
    by-answer (Err fault.TooLong) = (tt, tt)
    by-answer (Err fault.Failed) = (tt, tt)
    by-answer (Err fault.OutOfMemory) = (tt, tt)
