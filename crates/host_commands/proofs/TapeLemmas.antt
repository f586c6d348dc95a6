-- What LOAD and DUMP come to, and why.
use Rattle.std.proofs.Common.{◌≡◌, ℕ, Bool, true, false, List, ◌++◌, length, Option, Some, None, IfSome, Result, Ok, Err, refl, ap, sym, ◌∙◌, subst, if◌then◌else◌}
use Rattle.std.specs.Global.{Vec}
use Rattle.file_traits.specs.Lists.{NamedBytes}
use Rattle.file_traits.specs.State.{FileState}
use Rattle.host_lines.specs.Traffic.{Answer as LineAnswer}
use Rattle.host_lines.specs.State.{LineState}
use Rattle.file_commands.specs.declared.note.Subject.TheVariants as subject
use Rattle.file_commands.specs.declared.note.FaultNote.{FaultNote}
use Rattle.file_commands.specs.Notes.{CommandNote, notes_said}
use Rattle.file_commands.specs.declared.stamp.Stamp.{Stamp}
use Rattle.binary_load.specs.declared.faults.LoadFault.{LoadFault}
use Rattle.binary_load.specs.declared.faults.LoadFault.TheVariants as tape
use Rattle.binary_load.specs.declared.faults.Start.{Start}
use Rattle.binary_load.specs.Tape.{Tape, answer, loaded, put_all}
use Rattle.whole_files.specs.declared.whole.Whole.{Whole}
use Rattle.whole_files.specs.declared.whole.WholeFault.{WholeFault}
use Rattle.whole_files.specs.declared.whole.WholeFault.TheVariants as fault
use Rattle.whole_files.specs.Whole.{WholeSaid, whole_act}
use Rattle.whole_files.specs.Writing.{write_act}
use Rattle.whole_files.specs.Claims.{said_of, said_of_bytes, claimed}
use Rattle.expect_actions.specs.Watch.{WatchState}
use Rattle.nova_machine.specs.Machine.{MachineState, attached_files}
use Rattle.nova_machine.specs.Seen.{erased, seen, beside}
use Rattle.nova_machine.specs.Turn.{with_memory}
use Rattle.nova_machine.specs.Comes.{Output}
use Rattle.command_session.specs.declared.next.Next.TheVariants.{Go}
use Rattle.command_session.specs.declared.fault.CommandFault.TheVariants.{OutOfRange, OutOfMemory}
use Rattle.command_session.specs.Live.{Live, with_machine}
use Rattle.command_session.specs.Reply.{Answer, Reply, refused}
use Rattle.command_session.specs.RunEffects.{starting_at}
use Rattle.command_session.specs.FaultText.{tape_fault}
use Rattle.command_session.specs.TapeEffects.{tape_in, tape_answer, tape_machine, loaded_machine, read_machine, load_reply}
use Rattle.command_session.specs.TapeEffects.{can_dump, dump_of, dump_after, dump_reply}
use Rattle.command_session.specs.WholeCalls.{whole_answer, write_calls, read_notes}
use Rattle.command_session.specs.Refusals.{UnreadCause}
use Rattle.command_session.specs.Doing.{Did, AllClosings, FileCause, IsPlain, IsOwn, IsExitAnswer}
use Rattle.command_session.proofs.SeenLemmas.{seen-machine}
use Rattle.command_session.proofs.WholeLemmas.{load-is, read-did, TakesClosings}

-- ---- what a tape comes to

abbrev pub tape_comes : MachineState → List ℕ → Answer
tape_comes m bytes = tape_answer (tape_in m bytes)

pub tape-plain : (m : MachineState) (bytes : List ℕ) → IsPlain (tape_comes m bytes)
tape-plain m bytes = by-tape (tape_in m bytes)
  where
    by-tape : (r : Result Tape LoadFault) → IsPlain (tape_answer r)
    by-tape (Ok says) = tt
    by-tape (Err (tape.Truncated place)) = tt
    by-tape (Err (tape.BadSum place)) = tt
    by-tape (Err (tape.PastMemory origin)) = tt

pub tape-own : (m : MachineState) (bytes : List ℕ) → IsOwn (tape_comes m bytes) × IsExitAnswer (tape_comes m bytes)
tape-own m bytes = by-tape (tape_in m bytes)
  where
    by-tape : (r : Result Tape LoadFault) → IsOwn (tape_answer r) × IsExitAnswer (tape_answer r)
    by-tape (Ok says) = (tt, tt)
    by-tape (Err (tape.Truncated place)) = (tt, tt)
    by-tape (Err (tape.BadSum place)) = (tt, tt)
    by-tape (Err (tape.PastMemory origin)) = (tt, tt)

pub tape-cause : (tells : Bool) (name : List ℕ) (m : MachineState) (old new : FileState) (bytes : List ℕ) → UnreadCause tells name (tape_comes m bytes) old new
tape-cause tells name m old new bytes = by-tape (tape_in m bytes)
  where
    by-tape : (r : Result Tape LoadFault) → UnreadCause tells name (tape_answer r) old new
    by-tape (Ok says) = tt
    by-tape (Err (tape.Truncated place)) = tt
    by-tape (Err (tape.BadSum place)) = tt
    by-tape (Err (tape.PastMemory origin)) = tt

pub tape-closings : (stamp : Stamp) (tells : Bool) (m : MachineState) (bytes : List ℕ) (old new : FileState)
    → TakesClosings stamp tells (tape_comes m bytes) old new
tape-closings stamp tells m bytes old new = λ kept shut. by-tape (tape_in m bytes) kept shut
  where
    by-tape : (r : Result Tape LoadFault) (kept : List FaultNote) → AllClosings kept → FileCause stamp tells (tape_answer r) kept old new
    by-tape (Ok says) kept shut = shut
    by-tape (Err (tape.Truncated place)) kept shut = shut
    by-tape (Err (tape.BadSum place)) kept shut = shut
    by-tape (Err (tape.PastMemory origin)) kept shut = shut

start_in : Result Start LoadFault → Option ℕ
start_in (Ok start) = start.at
start_in (Err fault) = None

-- a tape that was loaded, and one that was not, by what is answered of it
pub tape-done : (r : Result Tape LoadFault) (start : Start) (m : MachineState) → answer r ≡ Ok start
    → (tape_answer r ≡ Ok Go) × (tape_machine r m ≡ starting_at start.at (with_memory m (loaded m.processor.memory r)))
unfolding start_in
tape-done (Ok says) start m is =
    (refl, ap (λ (s : Option ℕ). starting_at s (with_memory m (put_all m.processor.memory says.stores))) (ap start_in is))
tape-done (Err fault) start m is = absurd (cc)

pub tape-faulty : (r : Result Tape LoadFault) (fault : LoadFault) (m : MachineState) → answer r ≡ Err fault
    → (tape_answer r ≡ Err (tape_fault fault)) × (tape_machine r m ≡ m)
tape-faulty (Ok says) fault m is = absurd (cc)
tape-faulty (Err why) fault m is =
    let same : why ≡ fault = cc in
    (ap (λ (f : LoadFault). Err (tape_fault f)) same, refl)

-- ---- the machine that it leaves

started-erased : (start : Option ℕ) (m : MachineState) → erased (starting_at start m) ≡ starting_at start (erased m)
started-erased None m = refl
started-erased (Some at) m = refl

started-slots : (start : Option ℕ) (m : MachineState) → (starting_at start m).slots ≡ m.slots
started-slots None m = refl
started-slots (Some at) m = refl

started-time : (start : Option ℕ) (m : MachineState) → (starting_at start m).time ≡ m.time
started-time None m = refl
started-time (Some at) m = refl

started-lines : (start : Option ℕ) (m : MachineState) → (starting_at start m).lines ≡ m.lines
started-lines None m = refl
started-lines (Some at) m = refl

tape-erased : (r : Result Tape LoadFault) (m : MachineState) → erased (tape_machine r m) ≡ tape_machine r (erased m)
tape-erased (Ok says) m = started-erased says.start _
tape-erased (Err fault) m = refl

tape-slots : (r : Result Tape LoadFault) (m : MachineState) → (tape_machine r m).slots ≡ m.slots
tape-slots (Ok says) m = started-slots says.start _
tape-slots (Err fault) m = refl

tape-time : (r : Result Tape LoadFault) (m : MachineState) → (tape_machine r m).time ≡ m.time
tape-time (Ok says) m = started-time says.start _
tape-time (Err fault) m = refl

tape-lines : (r : Result Tape LoadFault) (m : MachineState) → (tape_machine r m).lines ≡ m.lines
tape-lines (Ok says) m = started-lines says.start _
tape-lines (Err fault) m = refl

pub read-lines : (bytes : Result (Vec ℕ) WholeFault) (m : MachineState) → (read_machine bytes m).lines ≡ m.lines
read-lines (Ok v) m = tape-lines (tape_in m v.items) m
read-lines (Err why) m = refl

pub read-slots : (bytes : Result (Vec ℕ) WholeFault) (m : MachineState) → (read_machine bytes m).slots ≡ m.slots
read-slots (Ok v) m = tape-slots (tape_in m v.items) m
read-slots (Err why) m = refl

-- what the disk holds of its file stands
started-files : (start : Option ℕ) (m : MachineState) → attached_files (starting_at start m) ≡ attached_files m
started-files None m = refl
started-files (Some at) m = refl

tape-files : (r : Result Tape LoadFault) (m : MachineState) → attached_files (tape_machine r m) ≡ attached_files m
tape-files (Ok says) m = started-files says.start _
tape-files (Err fault) m = refl

pub read-attached : (bytes : Result (Vec ℕ) WholeFault) (m : MachineState) → attached_files (read_machine bytes m) ≡ attached_files m
read-attached (Ok v) m = tape-files (tape_in m v.items) m
read-attached (Err why) m = refl

pub read-time : (bytes : Result (Vec ℕ) WholeFault) (m : MachineState) → (read_machine bytes m).time ≡ m.time
read-time (Ok v) m = tape-time (tape_in m v.items) m
read-time (Err why) m = refl

-- where memory ran out it is as it was
pub read-none : (bytes : Result (Vec ℕ) WholeFault) (m : MachineState) → whole_answer subject.Load (tape_comes m) bytes ≡ Err OutOfMemory
    → read_machine bytes m ≡ m
read-none (Ok v) m is = absurd (subst IsPlain is (tape-plain m v.items))
read-none (Err why) m is = refl

-- ---- LOAD

loaded-live : (watch : WatchState) (keys : List (ℕ × ℕ)) (m : MachineState) (files : List NamedBytes) (lines : LineState) (whole : List LineAnswer) (bytes : Result (Vec ℕ) WholeFault)
    → IfSome (said_of_bytes bytes) (λ (said : WholeSaid).
    seen (beside watch keys files lines) whole (read_machine bytes m) ≡ with_machine (seen (beside watch keys files lines) whole m) (loaded_machine said (erased m)))
loaded-live watch keys m files lines whole (Ok v) =
    seen-machine (beside watch keys files lines) whole m (tape_machine (tape_in m v.items) m) (tape-lines (tape_in m v.items) m)
    ∙ ap (with_machine (seen (beside watch keys files lines) whole m)) (tape-erased (tape_in m v.items) m)
loaded-live watch keys m files lines whole (Err fault.NoFile) = refl
loaded-live watch keys m files lines whole (Err fault.TooLong) = refl
loaded-live watch keys m files lines whole (Err fault.Failed) = refl
loaded-live watch keys m files lines whole (Err fault.OutOfMemory) = tt

pub load-did : (number : ℕ) (watch : WatchState) (keys : List (ℕ × ℕ)) (m new : MachineState) (files files' : List NamedBytes) (lines : LineState) (whole : List LineAnswer) (name : List ℕ) (w : Whole)
    (answer : Answer) (tells : Bool) (text : Output) (notes notes' : List FaultNote)
    → answer ≡ whole_answer subject.Load (tape_comes m) w.bytes → new ≡ read_machine w.bytes m → files' ≡ files
    → IfSome (said_of w) (λ (said : WholeSaid). whole_act (claimed w) name files ≡ (said, length (claimed w)))
    → notes' ≡ notes ++ read_notes subject.Load (record { command = number; time = m.time }) w
    → Did (λ (own : List CommandNote). load_reply own (seen (beside watch keys files lines) whole m) name) number answer (seen (beside watch keys files' lines) whole new) tells text text
    (notes_said notes) (notes_said notes')
unfolding load_reply
load-did number watch keys m new files files' lines whole name w answer tells text notes notes' answered is same told noted =
    read-did subject.Load (tape_comes m) (λ (said : WholeSaid). with_machine (seen (beside watch keys files lines) whole m) (loaded_machine said (erased m)))
    number m.time (seen (beside watch keys files' lines) whole new) name files w answer tells text notes notes' load-is (tape-plain m) answered
    (subst (λ (live : Live). IfSome (said_of w) (λ (said : WholeSaid). live ≡ with_machine (seen (beside watch keys files lines) whole m) (loaded_machine said (erased m))))
    (λ i. seen (beside watch keys (sym same i) lines) whole (sym is i)) (loaded-live watch keys m files lines whole w.bytes)) told noted

-- ---- DUMP

abbrev dump_if : Bool → Reply → Live → Reply
dump_if b wrote live = if b then wrote else refused OutOfRange live

-- of words that can be dumped
pub dump-fits : (own : List CommandNote) (live : Live) (from to : ℕ) (name piece : List ℕ) → can_dump live.machine from to ≡ true
    → piece ≡ dump_of live.machine from to
    → dump_reply own live from to name
    ≡ dump_after (write_act (write_calls subject.Dump live.machine.time own) name piece live.files) live
unfolding dump_reply
dump-fits own live from to name piece fits is =
    ap (λ (b : Bool). dump_if b (dump_after (write_act (write_calls subject.Dump live.machine.time own) name (dump_of live.machine from to) live.files) live) live) fits
    ∙ ap (λ (l : List ℕ). dump_after (write_act (write_calls subject.Dump live.machine.time own) name l live.files) live) (sym is)

-- and of others
pub dump-refused : (own : List CommandNote) (live : Live) (from to : ℕ) (name : List ℕ) → can_dump live.machine from to ≡ false
    → dump_reply own live from to name ≡ refused OutOfRange live
unfolding dump_reply
dump-refused own live from to name fits =
    ap (λ (b : Bool). dump_if b (dump_after (write_act (write_calls subject.Dump live.machine.time own) name (dump_of live.machine from to) live.files) live) live) fits
