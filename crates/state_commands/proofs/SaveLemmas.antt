-- SAVE, as its calls say it.
use Rattle.std.proofs.Common.{◌≡◌, ◌⊎◌, inl, inr, ℕ, ◌+◌, ◌==◌, ◌&&◌, not, append-nil, arith, Bool, true, false, List, [], ◌∷◌, ◌++◌, length, Option, Some, None, IsTrue, IfSome, Ok, Err, refl, ap, sym, ◌∙◌, subst, if◌then◌else◌}
use Rattle.std.specs.Prelude.{bytes_eq}
use Rattle.std.proofs.lemmas.Bool.{eq-eqb}
use Rattle.file_traits.specs.declared.files.FileCall.{FileCall}
use Rattle.file_traits.specs.declared.files.FileCall.TheVariants.{Length, Read, Write, Closing}
use Rattle.file_traits.specs.Lists.{NamedBytes, find_file, bytes_of}
use Rattle.unit_trait.specs.declared.kind.UnitName.{UnitName}
use Rattle.unit_files.specs.declared.faults.UnitFault.{UnitFault}
use Rattle.unit_files.specs.Acts.{Failure, flush_said, flushed_as, FlushSaid, HasNone, NotFlushed, Flushed, is_due_back, buffer_flushed}
use Rattle.unit_files.specs.Answers.{failure_in}
use Rattle.unit_files.specs.InStep.{InStep, marks_flushed}
use Rattle.unit_files.specs.Attachments.{Attachment, attachment_at}
use Rattle.unit_files.specs.Buffer.{Buffer, disk_unit}
use Rattle.file_commands.specs.declared.note.Subject.TheVariants as subject
use Rattle.file_commands.specs.declared.note.FaultNote.{FaultNote}
use Rattle.file_commands.specs.Kept.{fault_note, own_note}
use Rattle.file_commands.specs.Notes.{CommandNote, notes_said}
use Rattle.whole_files.specs.declared.whole.FailedCall.{FailedCall}
use Rattle.whole_files.specs.declared.whole.WholeFault.TheVariants as fault
use Rattle.whole_files.specs.declared.writing.Written.{Written}
use Rattle.whole_files.specs.Writing.{WriteSaid, write_act, said_of_writing, claimed_in_writing}
use Rattle.nova_machine.specs.Comes.{Output}
use Rattle.nova_machine.specs.Machine.{MachineState, attached_files}
use Rattle.nova_machine.specs.Seen.{attached_in}
use Rattle.saved_files.specs.Taking.{first_unsaved, disk_flushed, files_flushed, copy_flushed}
use Rattle.state_transfer.specs.Session.{saved}
use Rattle.state_text.specs.Text.{text}
use Rattle.command_session.specs.declared.fault.CommandFault.TheVariants.{FileFailed}
use Rattle.command_session.specs.Live.{Live, CommandState, standing}
use Rattle.command_session.specs.DiskFile.{is_left_by_disk, is_by_disk_at, disk_alone}
use Rattle.command_session.proofs.StepLemmas.{step-alone}
use Rattle.unit_files.proofs.InStep.{covers-same}
use Rattle.command_session.specs.Reply.{Answer, Reply}
use Rattle.command_session.specs.Remains.{MachineRemains}
use Rattle.command_session.specs.WholeCalls.{written_answer, write_notes}
use Rattle.state_commands.specs.StateEffects.{unit_claim, flushed_with, save_by, save_reply}
use Rattle.command_session.specs.Doing.{Does, Did, ComeBehind}
use Rattle.command_session.proofs.CloseLemmas.{said-append}
use Rattle.fault_counts.specs.Faults.{Rose}
use Rattle.file_traits.specs.State.{FileState}
use Rattle.host_lines.specs.Traffic.{Answer as LineAnswer}
use Rattle.host_lines.specs.State.{LineState}
use Rattle.unit_files.specs.Acts.{flush_files}
use Rattle.unit_files.specs.Attachments.{Held}
use Rattle.unit_files.specs.Buffer.{disk_bytes}
use Rattle.unit_files.specs.Causes.{AtMostOnceMore, IsQuiet}
use Rattle.unit_files.specs.Digests.{IsWritingCall, IsReadingCall}
use Rattle.file_commands.specs.Counts.{noted, one_if, openings_noted, RoseBy}
use Rattle.whole_files.specs.Claims.{raised_by}
use Rattle.file_commands.specs.Possible.{most_written, MayHaveWritten}
use Rattle.file_commands.specs.declared.stamp.Stamp.{Stamp}
use Rattle.file_commands.proofs.Causes.{counted-quiet}
use Rattle.file_commands.proofs.Exact.{exact-quiet}
use Rattle.file_commands.proofs.Possible.{none-done}
use Rattle.expect_actions.specs.Watch.{WatchState}
use Rattle.nova_machine.specs.Seen.{erased, seen, beside}
use Rattle.saved_session.specs.declared.saved.Saved.{Saved}
use Rattle.saved_files.specs.declared.file_faults.SaveFault.{SaveFault}
use Rattle.saved_files.specs.declared.file_faults.SaveFault.TheVariants as save
use Rattle.saved_files.specs.Taking.{save_claim, UnlessNoMemory, IfNoMemory, SaveCause}
use Rattle.command_session.specs.declared.next.Next.TheVariants.{Ran}
use Rattle.command_session.specs.declared.fault.CommandFault.TheVariants.{NoFile, Console}
use Rattle.state_commands.specs.StateFaults.{save_fault}
use Rattle.command_session.specs.FileEffects.{flushed_files}
use Rattle.command_session.specs.Remains.{Remains}
use Rattle.state_commands.specs.StateEffects.{save_notes}
use Rattle.command_session.specs.Doing.{KeepsOwn, FileCause, is_missing}
use Rattle.command_session.proofs.CloseLemmas.{refused-first}
use Rattle.command_session.proofs.DidLemmas.{did-want}
use Rattle.command_session.proofs.CountedLemmas.{counted-fault, exact-fault, openings-none}
use Rattle.command_session.proofs.SeenLemmas.{attached-erased}
use Rattle.state_commands.proofs.LateClaims.{IsUnmet, late-unmet, unmet-none, IsFlushed, files-unmet, copy-unmet, unsaved-unmet, copy-clean}
use Rattle.command_session.proofs.ReplyLemmas.{silent-does}
use Rattle.command_session.proofs.WholeLemmas.{own_both, state-is, write_reply, write-kept, write-does}

-- ---- the session was taken, and its file was written or not

-- a note of the state's own file is no claim of a unit
own-unmet : (call : FileCall) (time done : ℕ) (failed closing : Option FailedCall) (behind : List CommandNote) → IsUnmet call (unit_claim time behind)
    → IsUnmet call (unit_claim time (own_both subject.State time done failed closing ++ behind))
own-unmet call time done None None behind unmet = unmet
own-unmet call time done None (Some c) behind unmet = λ unit. by (time == time) unit
  where
    by : (b : Bool) → IsUnmet call (if b then None else None)
    by true = unmet-none call
    by false = unmet-none call
own-unmet call time done (Some f) closing behind unmet = λ unit. by (time == time) unit
  where
    by : (b : Bool) → IsUnmet call (if b then None else None)
    by true = unmet-none call
    by false = unmet-none call

module _ (live taken : Live) (name : List ℕ) (w : Written) (flushed : flushed_with None live ≡ taken)
    (unfailed : first_unsaved None (attached_in live.machine) live.machine.disk live.files ≡ None) where
  abbrev pub time : ℕ
  time = live.machine.time

  abbrev pub own : List CommandNote
  own = own_both subject.State time w.done w.failed w.closing

  -- what comes behind is no write of the disk
  is-flushed : (new : Live) (behind : List CommandNote) → new.machine.disk ≡ taken.machine.disk → ComeBehind new behind
      → IsFlushed (unit_claim time (own ++ behind)) (attached_in live.machine)
  is-flushed new behind disk come = by (attachment_at (attached_in live.machine) disk_unit) refl
    where
      by : (a : Option Attachment) → attachment_at (attached_in live.machine) disk_unit ≡ a → IsFlushed (unit_claim time (own ++ behind)) (attached_in live.machine)
      by None none = inl none
      by (Some a) there =
          let clean : new.machine.disk.written ≡ false =
          ap (λ (d : Buffer). d.written) (disk ∙ sym (ap (λ (l : Live). l.machine.disk) flushed)) ∙ copy-clean (attached_in live.machine) live.machine.disk a there in
          inr (own-unmet Write time w.done w.failed w.closing behind
          (late-unmet Write new time behind come refl (λ written. absurd (let both : true ≡ false = sym written ∙ clean in cc))) disk_unit)

  reply-is : (new : Live) (behind : List CommandNote) → new.machine.disk ≡ taken.machine.disk → ComeBehind new behind
      → save_reply (own ++ behind) live name
      ≡ write_reply subject.State (λ (l : List NamedBytes). record taken { files = l }) taken.machine.time name (text (saved taken)) taken.files (own ++ behind)
  unfolding save_reply
  reply-is new behind disk come =
      let claim = unit_claim time (own ++ behind) in
      let attached = attached_in live.machine in
      let free = is-flushed new behind disk come in
      let size = own-unmet Length time w.done w.failed w.closing behind (late-unmet Length new time behind come refl (λ written. refl)) in
      let read = own-unmet Read time w.done w.failed w.closing behind (late-unmet Read new time behind come refl (λ written. refl)) in
      let none = unsaved-unmet claim attached live.machine.disk live.files free size read ∙ unfailed in
      let copy = copy-unmet claim attached live.machine.disk free in
      let files = files-unmet claim attached live.machine.disk live.files free in
      let same : flushed_with claim live ≡ taken =
      (λ i. record live { machine = record live.machine { disk = copy i }; files = files i }) ∙ flushed in
      λ i. save_by (none i) (own ++ behind) name (same i)

  pub saved-did : (number : ℕ) (new : Live) (piece : List ℕ) (files' : List NamedBytes) (answer : Answer) (tells : Bool) (out : Output) (notes notes' : List FaultNote)
      → piece ≡ text (saved taken) → answer ≡ written_answer subject.State w.answer → new ≡ record taken { files = files' }
      → (w.answer ≡ Err fault.NoFile → ⊥) → (w.answer ≡ Err fault.TooLong → ⊥)
      → IfSome (said_of_writing w.answer) (λ (said : WriteSaid). write_act (claimed_in_writing w) name piece taken.files
      ≡ record { said = said; met = length (claimed_in_writing w); files = files' })
      → notes' ≡ notes ++ write_notes subject.State (record { command = number; time = time }) w
      → Did (λ (own : List CommandNote). save_reply own live name) number answer new tells out out (notes_said notes) (notes_said notes')
  saved-did number new piece files' answer tells out notes notes' is answered left made fits told noted = record {
    own = own;
    kept = write-kept subject.State number time w notes notes' noted;
    does = λ behind come.
        subst (λ (r : Reply). Does r answer (standing (length own) new) tells out out)
        (sym (reply-is new behind (ap (λ (l : Live). l.machine.disk) left) come ∙ ap (λ (p : List ℕ). write_reply subject.State after taken.machine.time name p taken.files (own ++ behind)) (sym is)
        ∙ ap (λ (t : ℕ). write_reply subject.State after t name piece taken.files (own ++ behind)) (sym (ap (λ (l : Live). l.machine.time) flushed))))
        (write-does subject.State after time new name piece taken.files files' w answer tells out behind state-is answered left made fits told come);
  }
    where
      after : List NamedBytes → Live
      after l = record taken { files = l }

-- ---- a call on a unit's file failed

pub unsaved-did : (number : ℕ) (live new : Live) (name : List ℕ) (f : UnitFault) (tells : Bool) (out : Output) (notes notes' : List FaultNote)
    → first_unsaved (Some (f.unit, failure_in f)) (attached_in live.machine) live.machine.disk live.files ≡ Some (f.unit, failure_in f)
    → new ≡ flushed_with (Some (f.unit, failure_in f)) live
    → notes' ≡ notes ++ fault_note (record { command = number; time = live.machine.time }) f ∷ []
    → Did (λ (own : List CommandNote). save_reply own live name) number (Err (FileFailed (subject.Unit f.unit))) new tells out out (notes_said notes) (notes_said notes')
unfolding save_reply
unsaved-did number live new name f tells out notes notes' failed left noted = record {
  own = own_note live.machine.time f ∷ [];
  kept = ap notes_said noted ∙ said-append notes (fault_note (record { command = number; time = live.machine.time }) f ∷ []);
  does = λ behind come.
      subst (λ (r : Reply). Does r (Err (FileFailed (subject.Unit f.unit))) (standing 1 new) tells out out) (sym (reply-is behind))
      (silent-does (save_by (Some (f.unit, failure_in f)) [] name (flushed_with (Some (f.unit, failure_in f)) live)) (Err (FileFailed (subject.Unit f.unit))) (standing 1 new)
      tells out tt refl (ap (standing 1) left) refl);
}
  where
    claim-is : (behind : List CommandNote) → unit_claim live.machine.time (own_note live.machine.time f ∷ behind) ≡ Some (f.unit, failure_in f)
    claim-is behind = ap (λ (b : Bool). if b then Some (f.unit, failure_in f) else None) (eq-eqb live.machine.time live.machine.time refl)

    reply-is : (behind : List CommandNote) → save_reply (own_note live.machine.time f ∷ behind) live name
        ≡ save_by (Some (f.unit, failure_in f)) [] name (flushed_with (Some (f.unit, failure_in f)) live)
    reply-is behind =
        ap (λ (claim : Option (UnitName × Failure)).
        save_by (first_unsaved claim (attached_in live.machine) live.machine.disk live.files) (own_note live.machine.time f ∷ behind) name (flushed_with claim live)) (claim-is behind)
        ∙ ap (λ (o : Option (UnitName × Failure)). save_by o (own_note live.machine.time f ∷ behind) name (flushed_with (Some (f.unit, failure_in f)) live)) failed

-- by the fault that is answered
pub refused-did : (number : ℕ) (live new : Live) (name : List ℕ) (fault : SaveFault) (answer : Answer) (tells : Bool) (out : Output) (notes notes' : List FaultNote)
    → UnlessNoMemory {T = Saved} (Err fault) (first_unsaved (save_claim {T = Saved} (Err fault)) (attached_in live.machine) live.machine.disk live.files ≡ save_claim {T = Saved} (Err fault))
    → UnlessNoMemory {T = Saved} (Err fault) (new ≡ flushed_with (save_claim {T = Saved} (Err fault)) live)
    → notes' ≡ notes ++ save_notes (record { command = number; time = live.machine.time }) fault → answer ≡ Err (save_fault fault)
    → Did (λ (own : List CommandNote). save_reply own live name) number answer new tells out out (notes_said notes) (notes_said notes')
refused-did number live new name (save.Failed f) answer tells out notes notes' failed left noted answered =
    subst (λ (a : Answer). Did (λ (own : List CommandNote). save_reply own live name) number a new tells out out (notes_said notes) (notes_said notes')) (sym answered)
    (unsaved-did number live new name f tells out notes notes' failed left noted)
refused-did number live new name save.OutOfMemory answer tells out notes notes' failed left noted answered =
    subst (λ (a : Answer). Did (λ (own : List CommandNote). save_reply own live name) number a new tells out out (notes_said notes) (notes_said notes')) (sym answered)
    (did-want (λ (own : List CommandNote). save_reply own live name) number new tells out out (notes_said notes) (notes_said notes') (ap notes_said (noted ∙ append-nil notes)))

-- ---- the notes that are kept

-- behind calls of which none failed
pub quiet-keeps : (number time : ℕ) (tells : Bool) (answer : Answer) (notes notes' : List FaultNote) (old mid new : FileState) → IsQuiet old mid
    → KeepsOwn number time tells answer notes notes' mid new → KeepsOwn number time tells answer notes notes' old new
quiet-keeps number time tells answer notes notes' old mid new quiet k = record {
  kept = k.kept;
  added = k.added;
  few = k.few;
  stamped = k.stamped;
  counted = record {
    files = λ file. subst (λ (f : ℕ → ℕ). RoseBy (noted file k.kept) (f file) (new.faults file)) quiet.counts (k.counted.files file);
    openings = subst (λ (n : ℕ). RoseBy (openings_noted k.kept) n new.open_faults) quiet.openings k.counted.openings;
    possible = k.counted.possible;
  };
  exact = record {
    files = λ file none. subst (λ (f : ℕ → ℕ). new.faults file ≡ raised_by (noted file k.kept) (f file)) quiet.counts (k.exact.files file (λ is. absurd (cc)));
    most = λ file. subst (λ (f : ℕ → ℕ). AtMostOnceMore (raised_by (noted file k.kept) (f file)) (new.faults file)) quiet.counts (k.exact.most file);
    ids = let same = quiet.ids in let later = k.exact.ids in omega (arith, same, later);
  };
  openings = record {
    unnoted = k.openings.unnoted;
    few = k.openings.few;
    count = subst (λ (n : ℕ). new.open_faults ≡ raised_by (k.openings.unnoted + (openings_noted k.kept + one_if (is_missing answer && not tells))) n) quiet.openings k.openings.count;
  };
  given = let same = quiet.ids in let most = k.given in omega (arith, same, most);
  cause = by answer k.cause;
}
  where
    stamp : Stamp
    stamp = record { command = number; time = time }

    by : (a : Answer) → FileCause stamp tells a k.kept mid new → FileCause stamp tells a k.kept old new
    by (Err NoFile) cause = (cause.0, λ untold. subst (λ (n : ℕ). Rose n new.open_faults) quiet.openings (cause.1 untold))
    by (Err (FileFailed who)) cause = cause
    by (Err Console) cause = cause
    by (Err fault) cause = cause
    by (Ok (Ran stop)) cause = cause
    by (Ok next) cause = cause

-- what a call for which a session was not saved can have written, and that it is no closing
digest-possible : (f : UnitFault) → IsWritingCall f f.unit ⊎ IsReadingCall f → MayHaveWritten f.call (subject.Unit f.unit) f.done
digest-possible f (inl (disk, call, few)) =
    let most : most_written f.unit.kind ≡ disk_bytes = ap (λ (b : Bool). if b then disk_bytes else 8200) disk in
    subst (λ (c : FileCall). MayHaveWritten c (subject.Unit f.unit) f.done) (sym call) (omega (arith, most, few))
digest-possible f (inr (calls, none)) = none-done f.call (subject.Unit f.unit) f.done none

digest-open : (f : UnitFault) → IsWritingCall f f.unit ⊎ IsReadingCall f → f.call ≡ Closing → ⊥
digest-open f (inl (disk, call, few)) closing = absurd (let both : Write ≡ Closing = sym call ∙ closing in cc)
digest-open f (inr (inl call, none)) closing = absurd (let both : Length ≡ Closing = sym call ∙ closing in cc)
digest-open f (inr (inr call, none)) closing = absurd (let both : Read ≡ Closing = sym call ∙ closing in cc)

pub refused-keeps : (number time : ℕ) (tells : Bool) (fault : SaveFault) (answer : Answer) (slots : List (Option Held)) (notes notes' : List FaultNote) (old new : FileState)
    → SaveCause {T = Saved} (Err fault) slots old new → notes' ≡ notes ++ save_notes (record { command = number; time = time }) fault → answer ≡ Err (save_fault fault)
    → KeepsOwn number time tells answer notes notes' old new
refused-keeps number time tells (save.Failed f) answer slots notes notes' old new cause noted answered =
    subst (λ (a : Answer). KeepsOwn number time tells a notes notes' old new) (sym answered)
    (record {
      kept = fault_note stamp f ∷ [];
      added = noted;
      few = omega arith;
      stamped = ((refl, refl), tt);
      counted = counted-fault stamp f slots old new (digest-possible f cause.calls) cause.fault;
      exact = exact-fault false stamp f slots old new cause.fault;
      openings =
          openings-none tells (Err (save_fault (save.Failed f))) (fault_note stamp f ∷ []) old new refl cause.fault.openings
          (counted-fault stamp f slots old new (digest-possible f cause.calls) cause.fault);
      given = let same = cause.fault.ids in omega (arith, same);
      cause = refused-first (subject.Unit f.unit) (fault_note stamp f) [] (refl, digest-open f cause.calls) tt;
    })
  where
    stamp : Stamp
    stamp = record { command = number; time = time }
refused-keeps number time tells save.OutOfMemory answer slots notes notes' old new cause noted answered =
    subst (λ (a : Answer). KeepsOwn number time tells a notes notes' old new) (sym answered)
    (record { kept = []; added = noted; few = omega arith; stamped = tt; counted = counted-quiet old new cause; exact = exact-quiet false old new cause; openings = openings-none tells (Err (save_fault save.OutOfMemory)) [] old new refl cause.openings (counted-quiet old new cause); given = (let same = cause.ids in omega (arith, same)); cause = tt })

-- ---- what is left of the machine

-- a machine whose disk's copy was written back, unless that is the call that fails
abbrev pub behind-flush : Option (UnitName × Failure) → MachineState → MachineState
behind-flush claim m = record m {
  disk = copy_flushed claim (attached_in m) m.disk;
  aside = marks_flushed (disk_flushed claim (attached_in m) m.disk) disk_unit m.aside;
}

-- the disk's copy was written back, or is as it was
pub copy-left : (claim : Option (UnitName × Failure)) (m : MachineState) → MachineRemains true m (behind-flush claim m)
copy-left claim m = by-said (disk_flushed claim (attached_in m) m.disk)
  where
    by-said : (said : FlushSaid)
        → MachineRemains true m (record m { disk = buffer_flushed said disk_unit m.disk; aside = marks_flushed said disk_unit m.aside })
    by-said HasNone = inl refl
    by-said (NotFlushed f) = inl refl
    by-said Flushed = inr refl

-- so was all that commands work on
pub flushed-live : (claim : Option (UnitName × Failure)) (watch : WatchState) (keys : List (ℕ × ℕ)) (files files' : List NamedBytes) (lines : LineState) (whole : List LineAnswer) (m m' : MachineState)
    → m' ≡ behind-flush claim m → files' ≡ files_flushed claim (attached_in m) m.disk files
    → flushed_with claim (seen (beside watch keys files lines) whole m) ≡ seen (beside watch keys files' lines) whole m'
flushed-live claim watch keys files files' lines whole m m' is left =
    let same = attached-erased m in
    (λ i. record (seen (beside watch keys files lines) whole m) {
      machine = record (erased m) { disk = copy_flushed claim (same i) m.disk };
      files = files_flushed claim (same i) m.disk files;
    })
    ∙ (λ i. seen (beside watch keys (sym left i) lines) whole (sym is i))

said-flushed : (a : Attachment) (disk : Buffer) → flush_said None disk_unit (Some a) disk ≡ Flushed
said-flushed a disk = by (is_due_back disk_unit disk)
  where
    by : (b : Bool) → flushed_as (if b then None else None) ≡ Flushed
    by true = refl
    by false = refl

pub flushed-remains : (live : Live) → Remains true live (flushed_with None live)
unfolding flush_files
flushed-remains live = by (attachment_at (attached_in live.machine) disk_unit) refl
  where
    disk : Buffer
    disk = live.machine.disk

    by : (a : Option Attachment) → attachment_at (attached_in live.machine) disk_unit ≡ a → Remains true live (flushed_with None live)
    by None is =
        inl ((λ i. record live {
          machine = record live.machine { disk = buffer_flushed (flush_said None disk_unit (is i) disk) disk_unit disk };
          files = flush_files None disk_unit (is i) disk live.files;
        }))
    by (Some a) is =
        let said : disk_flushed None (attached_in live.machine) disk ≡ Flushed = ap (λ (o : Option Attachment). flush_said None disk_unit o disk) is ∙ said-flushed a disk in
        inr (λ i. record live {
          machine = record live.machine { disk = buffer_flushed (said i) disk_unit disk };
          files = flushed_files None disk_unit live;
        })

-- ---- what is said of an answer, by its fault

pub unless : {P Q : Type 0} (fault : SaveFault) → (P → Q) → UnlessNoMemory {T = Saved} (Err fault) P → UnlessNoMemory {T = Saved} (Err fault) Q
unless (save.Failed f) comes is = comes is
unless save.OutOfMemory comes is = tt

pub unless-both : {P Q R : Type 0} (fault : SaveFault) → (P → Q → R) → UnlessNoMemory {T = Saved} (Err fault) P → UnlessNoMemory {T = Saved} (Err fault) Q
    → UnlessNoMemory {T = Saved} (Err fault) R
unless-both (save.Failed f) comes one two = comes one two
unless-both save.OutOfMemory comes one two = tt

-- time stands
pub time-kept : (P : Type 0) (fault : SaveFault) (m m' : MachineState) (claim : Option (UnitName × Failure))
    → UnlessNoMemory {T = Saved} (Err fault) (m' ≡ behind-flush claim m)
    → IfNoMemory {T = Saved} (Err fault) ((m' ≡ m) × P) → m'.time ≡ m.time
time-kept P (save.Failed f) m m' claim is none = ap (λ (x : MachineState). x.time) is
time-kept P save.OutOfMemory m m' claim is none = ap (λ (x : MachineState). x.time) none.0

-- the disk's copy was written back, or the machine is as it was
pub remains-by : (P : Type 0) (fault : SaveFault) (m m' : MachineState) (claim : Option (UnitName × Failure))
    → UnlessNoMemory {T = Saved} (Err fault) (m' ≡ behind-flush claim m) → IfNoMemory {T = Saved} (Err fault) ((m' ≡ m) × P) → MachineRemains true m m'
remains-by P (save.Failed f) m m' claim is none = subst (λ (x : MachineState). MachineRemains true m x) (sym is) (copy-left claim m)
remains-by P save.OutOfMemory m m' claim is none = inl none.0

-- ---- the disk's file stays in step with the copy of it

-- where nothing is to be written back, it does not matter what the file had
clean-same : (o : Option Attachment) (disk : Buffer) (files mid files' : List NamedBytes) → ((a : Attachment) → o ≡ Some a → disk.written ≡ false)
    → is_by_disk_at o o disk mid files' ≡ is_by_disk_at o o disk files files'
clean-same None disk files mid files' clean = refl
clean-same (Some a) disk files mid files' clean = by (find_file files' a.name)
  where
    by-written : (now : List ℕ) (b : Bool) → b ≡ false → (c d : Bool) → (if b then c else bytes_eq now disk.bytes) ≡ (if b then d else bytes_eq now disk.bytes)
    by-written now b is c d =
        ap (λ (w : Bool). if w then c else bytes_eq now disk.bytes) is
        ∙ sym (ap (λ (w : Bool). if w then d else bytes_eq now disk.bytes) is)

    by : (found : Option (List ℕ)) → is_left_by_disk disk (bytes_of mid a.name) found ≡ is_left_by_disk disk (bytes_of files a.name) found
    by None = refl
    by (Some now) = by-written now disk.written (clean a refl) _ _

-- a machine with what stands around it
abbrev with-watch : WatchState → List (ℕ × ℕ) → MachineState → CommandState
with-watch watch keys m = record { machine = m; watch = watch; keys = keys; limit = 0; notes = []; command = 0; spare = 0 }

-- the copy was written back, and then a file was written that may be the disk's
pub saved-step : (watch : WatchState) (keys : List (ℕ × ℕ)) (m m' : MachineState) (files mid files' : List NamedBytes) → m' ≡ behind-flush None m
    → (InStep (attached_files m) files → InStep (attached_files m') mid) → InStep (attached_files m) files
    → (lines lines' : LineState) (whole whole' : List LineAnswer)
    → IsTrue (disk_alone (seen (beside watch keys files lines) whole m) (seen (beside watch keys files' lines') whole' m'))
    → InStep (attached_files m') files'
unfolding disk_alone
saved-step watch keys m m' files mid files' is stays step lines lines' whole whole' alone =
    let new = with-watch watch keys m' in
    let was : Option Attachment = attachment_at (attached_in m) disk_unit in
    let same : attachment_at (attached_in m') disk_unit ≡ was = ap (λ (x : MachineState). attachment_at (attached_in x) disk_unit) is in
    let seen_old : attachment_at (attached_in (erased m)) disk_unit ≡ was =
    ap (λ (l : List (Option Attachment)). attachment_at l disk_unit) (attached-erased m) in
    let seen_new : attachment_at (attached_in (erased m')) disk_unit ≡ was =
    ap (λ (l : List (Option Attachment)). attachment_at l disk_unit) (attached-erased m') ∙ same in
    let clean : (a : Attachment) → attachment_at (attached_in m) disk_unit ≡ Some a → m'.disk.written ≡ false =
    λ a there. ap (λ (x : MachineState). x.disk.written) is ∙ copy-clean (attached_in m) m.disk a there in
    let again : is_by_disk_at (attachment_at (attached_in (erased m')) disk_unit) (attachment_at (attached_in (erased m')) disk_unit) m'.disk mid files' ≡ true =
    (λ i. is_by_disk_at (seen_new i) (seen_new i) m'.disk mid files')
    ∙ clean-same (attachment_at (attached_in m) disk_unit) m'.disk files mid files' clean
    ∙ (λ i. is_by_disk_at (sym seen_old i) (sym seen_new i) m'.disk files files') ∙ alone in
    step-alone new new mid files' refl (covers-same (attached_files m') (attached_files m') refl refl) (stays step) lines lines' whole whole' again
