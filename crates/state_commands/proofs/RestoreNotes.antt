-- The notes that RESTORE keeps: of the reading of its file, and of a call on a unit's file.
use Rattle.std.proofs.Common.{◌≡◌, ◌⊎◌, inl, inr, ℕ, ◌+◌, ◌<◌, ◌≤◌, ◌==◌, nat_lt, Bool, true, false, List, [], ◌∷◌, ◌++◌, length, Option, Some, None, is_some, not, ◌&&◌, ◌||◌, Result, Ok, Err, refl, ap, sym, ◌∙◌, subst, append-nil, append_assoc, arith}
use Rattle.std.specs.Prelude.{if◌then◌else◌}
use Rattle.std.specs.List.{AllByRecursion}
use Rattle.std.specs.Global.{Vec}
use Rattle.std.proofs.lemmas.Bool.{eqb-true}
use Rattle.std.proofs.lemmas.List.{length-append}
use Rattle.fault_counts.specs.Faults.{raised, Rose}
use Rattle.file_traits.specs.declared.files.FileCall.{FileCall}
use Rattle.file_traits.specs.declared.files.FileCall.TheVariants as call
use Rattle.file_traits.specs.declared.files.FileId.{FileId}
use Rattle.file_traits.specs.State.{FileState}
use Rattle.unit_files.specs.declared.faults.UnitFault.{UnitFault}
use Rattle.unit_files.specs.Attachments.{Held, file_units}
use Rattle.unit_files.specs.Causes.{AtMostOnceMore, OnlyNewCounts, AreFrom, IsNewId, openings_in}
use Rattle.file_traits.specs.FileCalls.{UnusedIdsAreUncounted}
use Rattle.file_commands.specs.declared.note.Subject.TheVariants as subject
use Rattle.file_commands.specs.declared.note.FaultNote.{FaultNote}
use Rattle.file_commands.specs.declared.stamp.Stamp.{Stamp}
use Rattle.file_commands.specs.Counts.{is_of, is_opening, one_if, noted, openings_noted, RoseBy, AreCounted, AreExact}
use Rattle.file_commands.specs.Kept.{fault_note}
use Rattle.file_commands.specs.OwnFiles.{OwnFile, IsOwnNote, AreOwn}
use Rattle.file_commands.proofs.Adding.{counted-both, openings-append}
use Rattle.file_commands.proofs.Exact.{exact-both, exact-kept, exact-when}
use Rattle.std.proofs.lemmas.Bool.Decides.{nat_tests}
use Rattle.file_commands.proofs.Causes.{rose-one, counted-only}
use Rattle.file_commands.proofs.Possible.{none-done}
use Rattle.whole_files.specs.declared.whole.FailedCall.{FailedCall}
use Rattle.whole_files.specs.declared.whole.Whole.{Whole}
use Rattle.whole_files.specs.declared.whole.WholeFault.{WholeFault}
use Rattle.whole_files.specs.declared.whole.WholeFault.TheVariants as fault
use Rattle.whole_files.specs.Claims.{HasShape, is_failed, is_missing, raised_by}
use Rattle.whole_files.specs.Claims as claims
use Rattle.saved_files.specs.declared.file_faults.RestoreFault.{RestoreFault}
use Rattle.saved_files.specs.declared.file_faults.RestoreFault.TheVariants as restore
use Rattle.saved_files.specs.PuttingCauses.{is_on, openings_named, ClosesOnce, OpensEach, IsRestoreFault, SessionCause}
use Rattle.command_session.specs.declared.next.Next.TheVariants.{Go}
use Rattle.command_session.specs.declared.fault.CommandFault.TheVariants.{OutOfMemory, NoFile, PortFailed}
use Rattle.command_session.specs.FaultText.{whole_fault}
use Rattle.saved_session.specs.Parts.{FilePart}
use Rattle.state_commands.specs.StateFaults.{restore_fault}
use Rattle.command_session.specs.Reply.{Answer}
use Rattle.state_commands.specs.StateEffects.{restore_notes}
use Rattle.command_session.specs.WholeCalls.{call_notes, both_notes, read_notes, whole_answer}
use Rattle.command_session.specs.Doing.{AllClosings, IsShutNote, IsStamped, FileCause, RestoreFileCause, gives_back, KeepsOwn, OpensSaved, KeepsBy}
use Rattle.command_session.specs.Doing as doing
use Rattle.command_session.proofs.CountedLemmas.{all-named}
use Rattle.command_session.proofs.WholeLemmas.{IsShut, Rises, openings-are, read-claims, both-counted, both-exact, possible-read, few-both, stamped-both}

-- ---- the file was not read, or its bytes are no state

as-restore : (stamp : Stamp) (tells : Bool) (answer : Answer) (kept : List FaultNote) (old new : FileState) → FileCause stamp tells answer kept old new
    → RestoreFileCause stamp tells answer kept old new
as-restore stamp tells (Err NoFile) kept old new cause = (subst AllClosings (sym cause.0) tt, cause.1)
as-restore stamp tells (Err PortFailed) kept old new cause = subst AllClosings (sym cause) tt
as-restore stamp tells answer kept old new cause = cause

pub restore-keeps : (number before now : ℕ) (tells : Bool) (answer : Answer) (notes notes' : List FaultNote) (old new : FileState) → KeepsOwn number before tells answer notes notes' old new
    → KeepsBy true OpensSaved number before now tells answer notes notes' old new
restore-keeps number before now tells answer notes notes' old new keeps = record {
  kept = keeps.kept;
  added = keeps.added;
  few = keeps.few;
  stamped = keeps.stamped;
  counted = keeps.counted;
  exact = exact-kept (gives_back answer) keeps.kept old new keeps.exact;
  openings = keeps.openings;
  given = let one = keeps.given in omega (arith, one);
  cause = as-restore (record { command = number; time = before }) tells answer keeps.kept old new keeps.cause;
}

-- ---- behind a file that was read

-- which was read, so that only its closing can have failed
read-shut : (w : Whole) (v : Vec ℕ) → w.bytes ≡ Ok v → HasShape w → w.failed ≡ None
read-shut w v is shape = by w.failed (shape.failed ∙ ap is_failed is)
  where
    by : (failed : Option FailedCall) → is_some failed ≡ false → failed ≡ None
    by None is = refl
    by (Some f) is = absurd (cc)

shut-closings : (stamp : Stamp) (closing : Option FailedCall) → IsShut closing → AllClosings (call_notes subject.State stamp 0 closing)
shut-closings stamp None has = tt
shut-closings stamp (Some c) has = (has.0, tt)

pub read-closings : (stamp : Stamp) (w : Whole) (v : Vec ℕ) → w.bytes ≡ Ok v → HasShape w → AllClosings (read_notes subject.State stamp w)
read-closings stamp w v is shape =
    subst (λ (failed : Option FailedCall). AllClosings (both_notes subject.State stamp 0 failed w.closing)) (sym (read-shut w v is shape))
    (shut-closings stamp w.closing (read-claims w shape).shut)

pub read-shut-notes : (number time : ℕ) (w : Whole) (v : Vec ℕ) → w.bytes ≡ Ok v → HasShape w
    → AllByRecursion (IsShutNote subject.State number time) (read_notes subject.State (record { command = number; time = time }) w)
read-shut-notes number time w v is shape =
    subst (λ (failed : Option FailedCall). AllByRecursion (IsShutNote subject.State number time) (both_notes subject.State (record { command = number; time = time }) 0 failed w.closing))
    (sym (read-shut w v is shape)) (by w.closing (read-claims w shape).shut)
  where
    by : (closing : Option FailedCall) → IsShut closing → AllByRecursion (IsShutNote subject.State number time) (call_notes subject.State (record { command = number; time = time }) 0 closing)
    by None has = tt
    by (Some c) has = (((refl, refl), (refl, has.0)), tt)

-- ---- a call on a unit's file

not-closing : (f : UnitFault) → (f.call ≡ call.Opening) ⊎ (f.call ≡ call.Length) ⊎ (f.call ≡ call.Read) → f.call ≡ call.Closing → ⊥
not-closing f (inl is) closing = absurd (let both : call.Opening ≡ call.Closing = sym is ∙ closing in cc)
not-closing f (inr (inl is)) closing = absurd (let both : call.Length ≡ call.Closing = sym is ∙ closing in cc)
not-closing f (inr (inr is)) closing = absurd (let both : call.Read ≡ call.Closing = sym is ∙ closing in cc)

-- it is an opening, or of a file that was opened in between
split-fault : (f : UnitFault) (old new : FileState) → IsRestoreFault f old new
    → ((f.file ≡ None) × Rose old.open_faults new.open_faults)
    ⊎ ((id : FileId) × (f.file ≡ Some id) × Rose (old.faults id.0) (new.faults id.0))
split-fault f old new is = by f.call refl
  where
    of-file : (f.call ≡ call.Opening → ⊥) → ((f.file ≡ None) × Rose old.open_faults new.open_faults)
        ⊎ ((id : FileId) × (f.file ≡ Some id) × Rose (old.faults id.0) (new.faults id.0))
    of-file other = let its = is.other other in inr (its.id, its.file_is, its.rose)

    by : (c : FileCall) → f.call ≡ c → ((f.file ≡ None) × Rose old.open_faults new.open_faults)
        ⊎ ((id : FileId) × (f.file ≡ Some id) × Rose (old.faults id.0) (new.faults id.0))
    by call.Opening same = inl (is.opening same)
    by call.Length same = of-file (λ opening. absurd (let both : call.Length ≡ call.Opening = sym same ∙ opening in cc))
    by call.Read same = of-file (λ opening. absurd (let both : call.Read ≡ call.Opening = sym same ∙ opening in cc))
    by call.Write same = of-file (λ opening. absurd (let both : call.Write ≡ call.Opening = sym same ∙ opening in cc))
    by call.SetLength same = of-file (λ opening. absurd (let both : call.SetLength ≡ call.Opening = sym same ∙ opening in cc))
    by call.Closing same = of-file (λ opening. absurd (let both : call.Closing ≡ call.Opening = sym same ∙ opening in cc))

still : (before now : ℕ) → before ≤ now → RoseBy 0 before now
still before now later = (later, inl (omega (arith, later)))

counted-fault : (stamp : Stamp) (f : UnitFault) (old new : FileState) → OnlyNewCounts old new → IsRestoreFault f old new → AreCounted (fault_note stamp f ∷ []) old new
counted-fault stamp f old new only is = elim (split-fault f old new is) [
  | inl opening ↦ record {
    files = λ file. subst (λ (o : Option FileId). RoseBy (one_if (is_of file o) + 0) (old.faults file) (new.faults file)) (sym opening.0) (still _ _ (only.later file));
    openings = subst (λ (o : Option FileId). RoseBy (one_if (is_opening o) + 0) old.open_faults new.open_faults) (sym opening.0) (rose-one _ _ opening.1);
    possible = (none-done f.call (subject.Unit f.unit) f.done is.none_done, tt);
  }
  | inr its ↦ record {
    files = λ file.
        subst (λ (o : Option FileId). RoseBy (one_if (is_of file o) + 0) (old.faults file) (new.faults file)) (sym its.1)
        (by-file file (its.0.0 == file) refl its.0 its.2);
    openings = subst (λ (o : Option FileId). RoseBy (one_if (is_opening o) + 0) old.open_faults new.open_faults) (sym its.1) (still _ _ only.openings);
    possible = (none-done f.call (subject.Unit f.unit) f.done is.none_done, tt);
  }
]
  where
    by-file : (file : ℕ) (b : Bool) → b ≡ b → (id : FileId) → Rose (old.faults id.0) (new.faults id.0)
        → RoseBy (one_if (id.0 == file) + 0) (old.faults file) (new.faults file)
    by-file file b same id rose = at (id.0 == file) refl
      where
        at : (c : Bool) → (id.0 == file) ≡ c → RoseBy (one_if c + 0) (old.faults file) (new.faults file)
        at true is = subst (λ (n : ℕ). RoseBy 1 (old.faults n) (new.faults n)) (eqb-true id.0 file is) (rose-one _ _ rose)
        at false is = still _ _ (only.later file)

restore-counted : (stamp : Stamp) (tells : Bool) (fault : RestoreFault) (old new : FileState) → OnlyNewCounts old new → SessionCause tells (Err fault) old new
    → AreCounted (restore_notes stamp fault) old new
restore-counted stamp tells (restore.Failed f) old new only cause = counted-fault stamp f old new only cause
restore-counted stamp tells restore.MissingUnit old new only cause = counted-only old new only
restore-counted stamp tells (restore.NoFile unit) old new only cause = counted-only old new only
restore-counted stamp tells (restore.TooLong unit) old new only cause = counted-only old new only
restore-counted stamp tells (restore.Changed unit) old new only cause = counted-only old new only
restore-counted stamp tells restore.Port old new only cause = counted-only old new only
restore-counted stamp tells restore.OutOfMemory old new only cause = counted-only old new only

-- but for those of files that were opened in between no count has changed
unchanged-before : (file : ℕ) (old new : FileState) → OnlyNewCounts old new → UnusedIdsAreUncounted old → UnusedIdsAreUncounted new → (IsNewId old new file → ⊥)
    → new.faults file ≡ old.faults file
unchanged-before file old new only unused unused' none = by (nat_lt file old.given) (nat_lt file new.given) refl refl
  where
    by : (b c : Bool) → nat_lt file old.given ≡ b → nat_lt file new.given ≡ c → new.faults file ≡ old.faults file
    by true c first last = only.before file (grind (arith, nat_tests))
    by false true first last =
        let from : old.given ≤ file = grind (arith, nat_tests) in
        let below : file < new.given = grind (arith, nat_tests) in
        absurd (none (from, below))
    by false false first last =
        let from : old.given ≤ file = grind (arith, nat_tests) in
        let behind : new.given ≤ file = grind (arith, nat_tests) in
        unused' file behind ∙ sym (unused file from)

-- nor is a failed call on another without a note
restore-before : (stamp : Stamp) (f : UnitFault) (old new : FileState) → OnlyNewCounts old new → UnusedIdsAreUncounted old → UnusedIdsAreUncounted new → IsRestoreFault f old new
    → (file : ℕ) → (IsNewId old new file → ⊥)
    → new.faults file ≡ raised_by (noted file (fault_note stamp f ∷ [])) (old.faults file)
restore-before stamp f old new only unused unused' is file none = by f.call refl
  where
    of-file : (f.call ≡ call.Opening → ⊥) → new.faults file ≡ raised_by (one_if (is_of file f.file) + 0) (old.faults file)
    of-file other =
        let its = is.other other in
        subst (λ (o : Option FileId). new.faults file ≡ raised_by (one_if (is_of file o) + 0) (old.faults file)) (sym its.file_is)
        (at (its.id.0 == file) refl its.id its.fresh)
      where
        at : (b : Bool) → b ≡ b → (id : FileId) → IsNewId old new id.0 → new.faults file ≡ raised_by (one_if (id.0 == file) + 0) (old.faults file)
        at b same id fresh = here (id.0 == file) refl
          where
            here : (c : Bool) → (id.0 == file) ≡ c → new.faults file ≡ raised_by (one_if c + 0) (old.faults file)
            here true is = absurd (none (subst (λ (n : ℕ). IsNewId old new n) (eqb-true id.0 file is) fresh))
            here false is = unchanged-before file old new only unused unused' none

    by : (c : FileCall) → f.call ≡ c → new.faults file ≡ raised_by (one_if (is_of file f.file) + 0) (old.faults file)
    by call.Opening same =
        subst (λ (o : Option FileId). new.faults file ≡ raised_by (one_if (is_of file o) + 0) (old.faults file)) (sym (is.opening same).0) (unchanged-before file old new only unused unused' none)
    by call.Length same = of-file (λ opening. absurd (let both : call.Length ≡ call.Opening = sym same ∙ opening in cc))
    by call.Read same = of-file (λ opening. absurd (let both : call.Read ≡ call.Opening = sym same ∙ opening in cc))
    by call.Write same = of-file (λ opening. absurd (let both : call.Write ≡ call.Opening = sym same ∙ opening in cc))
    by call.SetLength same = of-file (λ opening. absurd (let both : call.SetLength ≡ call.Opening = sym same ∙ opening in cc))
    by call.Closing same = of-file (λ opening. absurd (let both : call.Closing ≡ call.Opening = sym same ∙ opening in cc))

-- a call that was answered has its note
failed-once : (o : Option FileId) (file before now : ℕ) → AtMostOnceMore (if is_on file o then raised before else before) now
    → AtMostOnceMore (raised_by (one_if (is_of file o) + 0) before) now
failed-once None file before now once = once
failed-once (Some id) file before now once = by (id.0 == file) once
  where
    by : (b : Bool) → AtMostOnceMore (if b then raised before else before) now → AtMostOnceMore (raised_by (one_if b + 0) before) now
    by true once = once
    by false once = once

-- and one call more at most has none
restore-once : (stamp : Stamp) (fault : RestoreFault) (old new : FileState) → ClosesOnce (Err fault) old new
    → (file : ℕ) → AtMostOnceMore (raised_by (noted file (restore_notes stamp fault)) (old.faults file)) (new.faults file)
restore-once stamp (restore.Failed f) old new once file = failed-once f.file file (old.faults file) (new.faults file) (once file)
restore-once stamp restore.MissingUnit old new once file = once file
restore-once stamp (restore.NoFile unit) old new once file = once file
restore-once stamp (restore.TooLong unit) old new once file = once file
restore-once stamp (restore.Changed unit) old new once file = once file
restore-once stamp restore.Port old new once file = once file
restore-once stamp restore.OutOfMemory old new once file = once file

restore-exact : (stamp : Stamp) (tells : Bool) (fault : RestoreFault) (old new : FileState) → OnlyNewCounts old new → UnusedIdsAreUncounted old → UnusedIdsAreUncounted new
    → SessionCause tells (Err fault) old new → ClosesOnce (Err fault) old new → AreExact true (restore_notes stamp fault) old new
restore-exact stamp tells fault old new only unused unused' cause once =
    record { files = λ file none. by fault cause file (none refl); most = restore-once stamp fault old new once; ids = only.ids }
  where
    by : (fault : RestoreFault) → SessionCause tells (Err fault) old new → (file : ℕ) → (IsNewId old new file → ⊥) → new.faults file ≡ raised_by (noted file (restore_notes stamp fault)) (old.faults file)
    by (restore.Failed f) cause file none = restore-before stamp f old new only unused unused' cause file none
    by restore.MissingUnit cause file none = unchanged-before file old new only unused unused' none
    by (restore.NoFile unit) cause file none = unchanged-before file old new only unused unused' none
    by (restore.TooLong unit) cause file none = unchanged-before file old new only unused unused' none
    by (restore.Changed unit) cause file none = unchanged-before file old new only unused unused' none
    by restore.Port cause file none = unchanged-before file old new only unused unused' none
    by restore.OutOfMemory cause file none = unchanged-before file old new only unused unused' none

-- what was read whole was opened
opened-whole : (failed : Option FailedCall) (bytes : Result (Vec ℕ) WholeFault) (v : Vec ℕ) (tells : Bool) (before now : ℕ) → failed ≡ None → bytes ≡ Ok v
    → now ≡ (if claims.is_opening failed || (is_missing bytes && not tells) then raised before else before) → now ≡ before
opened-whole None (Ok u) v tells before now none read is = is
opened-whole None (Err e) v tells before now none read is = absurd (cc)
opened-whole (Some f) bytes v tells before now none read is = absurd (cc)

-- the note and the answer name just those openings that failed which the attaching of the files names
restore-named : (stamp : Stamp) (tells : Bool) (fault : RestoreFault) (old new : FileState) → SessionCause tells (Err fault) old new
    → openings_noted (restore_notes stamp fault) + one_if (doing.is_missing (Err (restore_fault fault)) && not tells) ≡ openings_named tells (Err fault)
restore-named stamp tells (restore.Failed f) old new is = by f.call refl
  where
    of-file : (f.call ≡ call.Opening → ⊥) → (one_if (is_opening f.file) + 0) + 0 ≡ 0
    of-file other = ap (λ (x : Option FileId). (one_if (is_opening x) + 0) + 0) (is.other other).file_is

    by : (c : FileCall) → f.call ≡ c → (one_if (is_opening f.file) + 0) + 0 ≡ openings_in f.call
    by call.Opening same = ap (λ (x : Option FileId). (one_if (is_opening x) + 0) + 0) (is.opening same).0 ∙ ap openings_in (sym same)
    by call.Length same = of-file (λ opening. absurd (let both : call.Length ≡ call.Opening = sym same ∙ opening in cc)) ∙ ap openings_in (sym same)
    by call.Read same = of-file (λ opening. absurd (let both : call.Read ≡ call.Opening = sym same ∙ opening in cc)) ∙ ap openings_in (sym same)
    by call.Write same = of-file (λ opening. absurd (let both : call.Write ≡ call.Opening = sym same ∙ opening in cc)) ∙ ap openings_in (sym same)
    by call.SetLength same = of-file (λ opening. absurd (let both : call.SetLength ≡ call.Opening = sym same ∙ opening in cc)) ∙ ap openings_in (sym same)
    by call.Closing same = of-file (λ opening. absurd (let both : call.Closing ≡ call.Opening = sym same ∙ opening in cc)) ∙ ap openings_in (sym same)
restore-named stamp tells restore.MissingUnit old new is = refl
restore-named stamp true (restore.NoFile unit) old new is = refl
restore-named stamp false (restore.NoFile unit) old new is = refl
restore-named stamp tells (restore.TooLong unit) old new is = refl
restore-named stamp tells (restore.Changed unit) old new is = refl
restore-named stamp tells restore.Port old new is = refl
restore-named stamp tells restore.OutOfMemory old new is = refl

-- each such refusal may have given files back, but that of a missing unit
restore-gives : (P : Bool → Type 0) (fault : RestoreFault) → (fault ≡ restore.MissingUnit → P false) → P true → P (gives_back (Err (restore_fault fault)))
restore-gives P (restore.Failed f) none all = all
restore-gives P restore.MissingUnit none all = none refl
restore-gives P (restore.NoFile unit) none all = all
restore-gives P (restore.TooLong unit) none all = all
restore-gives P (restore.Changed unit) none all = all
restore-gives P restore.Port none all = all
restore-gives P restore.OutOfMemory none all = all

few-more : (stamp : Stamp) (fault : RestoreFault) → length (restore_notes stamp fault) ≤ 1
few-more stamp (restore.Failed f) = omega arith
few-more stamp restore.MissingUnit = omega arith
few-more stamp (restore.NoFile unit) = omega arith
few-more stamp (restore.TooLong unit) = omega arith
few-more stamp (restore.Changed unit) = omega arith
few-more stamp restore.Port = omega arith
few-more stamp restore.OutOfMemory = omega arith

stamped-more : (number time : ℕ) (fault : RestoreFault) → AllByRecursion (IsStamped number time) (restore_notes (record { command = number; time = time }) fault)
stamped-more number time (restore.Failed f) = ((refl, refl), tt)
stamped-more number time restore.MissingUnit = tt
stamped-more number time (restore.NoFile unit) = tt
stamped-more number time (restore.TooLong unit) = tt
stamped-more number time (restore.Changed unit) = tt
stamped-more number time restore.Port = tt
stamped-more number time restore.OutOfMemory = tt

every-both : (P : FaultNote → Type 0) (xs ys : List FaultNote) → AllByRecursion P xs → AllByRecursion P ys → AllByRecursion P (xs ++ ys)
every-both P [] ys first second = second
every-both P (x ∷ xs) ys first second = (first.0, every-both P xs ys first.1 second)

rose-later : (before mid now : ℕ) → before ≤ mid → Rose mid now → Rose before now
rose-later before mid now later rose = omega (arith, later, rose)

more-cause : (stamp : Stamp) (tells : Bool) (fault : RestoreFault) (shut : List FaultNote) (old mid new : FileState) → AllClosings shut → old.open_faults ≤ mid.open_faults
    → SessionCause tells (Err fault) mid new → RestoreFileCause stamp tells (Err (restore_fault fault)) (shut ++ restore_notes stamp fault) old new
more-cause stamp tells (restore.Failed f) shut old mid new closings later cause =
    record { before = shut; own = fault_note stamp f; behind = []; are = refl; refused = (refl, not-closing f cause.calls); earlier = closings; later = tt }
more-cause stamp tells (restore.NoFile unit) shut old mid new closings later cause =
    (subst AllClosings (sym (append-nil shut)) closings, λ untold. rose-later old.open_faults mid.open_faults new.open_faults later (cause.0 untold))
more-cause stamp tells (restore.TooLong unit) shut old mid new closings later cause = subst AllClosings (sym (append-nil shut)) closings
more-cause stamp tells (restore.Changed unit) shut old mid new closings later cause = subst AllClosings (sym (append-nil shut)) closings
more-cause stamp tells restore.MissingUnit shut old mid new closings later cause = subst AllClosings (sym (append-nil shut)) closings
more-cause stamp tells restore.Port shut old mid new closings later cause = subst AllClosings (sym (append-nil shut)) closings
more-cause stamp tells restore.OutOfMemory shut old mid new closings later cause = subst AllClosings (sym (append-nil shut)) closings

module _ (number time now : ℕ) (tells : Bool) (w : Whole) (v : Vec ℕ) (is : w.bytes ≡ Ok v) (shape : HasShape w) (old mid new : FileState)
    (rises : Rises (is_missing w.bytes && not tells) w.failed w.closing old mid) (files : List FilePart) (few_files : length files ≤ file_units) (only : OnlyNewCounts mid new) (unused : UnusedIdsAreUncounted mid) (unused' : UnusedIdsAreUncounted new) where
  abbrev pub stamp_here : Stamp
  stamp_here = record { command = number; time = time }

  first-counted : AreCounted (read_notes subject.State stamp_here w) old mid
  first-counted = both-counted subject.State stamp_here 0 _ w.failed w.closing old mid (read-claims w shape) (possible-read subject.State w.failed) rises

  first-exact : AreExact false (read_notes subject.State stamp_here w) old mid
  first-exact = both-exact subject.State stamp_here 0 _ w.failed w.closing old mid rises

  -- no opening of the file failed, which was read
  first-openings : mid.open_faults ≡ old.open_faults
  first-openings = opened-whole w.failed w.bytes v tells old.open_faults mid.open_faults (read-shut w v is shape) is rises.openings

  first-noted : openings_noted (read_notes subject.State stamp_here w) ≡ 0
  first-noted = openings-are subject.State stamp_here 0 w.failed w.closing (read-claims w shape) ∙ ap (λ (f : Option FailedCall). one_if (claims.is_opening f)) (read-shut w v is shape)

  most-given : new.given ≤ mid.given + length files → new.given ≤ old.given + (1 + file_units)
  most-given most = let one = rises.one in omega (arith, most, one, few_files)

  -- the session was not put back
  pub refused-restore-keeps : (fault : RestoreFault) (answer : Answer) (notes notes' : List FaultNote) → SessionCause tells (Err fault) mid new → ClosesOnce (Err fault) mid new
      → OpensEach tells (length files) (Err fault) mid new → answer ≡ Err (restore_fault fault) → notes' ≡ (notes ++ read_notes subject.State stamp_here w) ++ restore_notes stamp_here fault → KeepsBy true OpensSaved number time now tells answer notes notes' old new
  refused-restore-keeps fault answer notes notes' cause once opens answered noted = record {
    kept = read_notes subject.State stamp_here w ++ restore_notes stamp_here fault;
    added = noted ∙ append_assoc notes (read_notes subject.State stamp_here w) (restore_notes stamp_here fault);
    few = let few = few-two in few;
    stamped = every-both (IsStamped number time) _ _ (stamped-both subject.State number time 0 w.failed w.closing) (stamped-more number time fault);
    counted = counted-both _ _ old mid new first-counted (restore-counted stamp_here tells fault mid new only cause);
    exact =
        subst (λ (a : Answer). AreExact (gives_back a) (read_notes subject.State stamp_here w ++ restore_notes stamp_here fault) old new) (sym answered)
        (restore-gives (λ (b : Bool). AreExact b (read_notes subject.State stamp_here w ++ restore_notes stamp_here fault) old new) fault
        (exact-missing fault cause)
        (exact-both true (read_notes subject.State stamp_here w) (restore_notes stamp_here fault) old mid new (exact-kept true (read_notes subject.State stamp_here w) old mid first-exact)
        (restore-exact stamp_here tells fault mid new only unused unused' cause once)));
    openings =
        all-named 0 tells answer (read_notes subject.State stamp_here w ++ restore_notes stamp_here fault) old new
        (let both = openings-append (read_notes subject.State stamp_here w) (restore_notes stamp_here fault) in
        let named = restore-named stamp_here tells fault mid new cause in
        let all : openings_noted (read_notes subject.State stamp_here w ++ restore_notes stamp_here fault) + one_if (doing.is_missing (Err (restore_fault fault)) && not tells)
        ≡ openings_named tells (Err fault) = omega (arith, both, first-noted, named) in
        opens.openings ∙ ap (raised_by (openings_named tells (Err fault))) first-openings ∙ ap (λ (n : ℕ). raised_by n old.open_faults) (sym all)
        ∙ ap (λ (a : Answer). raised_by (openings_noted (read_notes subject.State stamp_here w ++ restore_notes stamp_here fault) + one_if (doing.is_missing a && not tells)) old.open_faults)
        (sym answered));
    given = most-given opens.most;
    cause =
        subst (λ (a : Answer). RestoreFileCause stamp_here tells a (read_notes subject.State stamp_here w ++ restore_notes stamp_here fault) old new) (sym answered)
        (more-cause stamp_here tells fault (read_notes subject.State stamp_here w) old mid new (read-closings stamp_here w v is shape) first-counted.openings.0 cause);
  }
    where
      -- where a unit is missing, no file was asked for
      exact-missing : (why : RestoreFault) → SessionCause tells (Err why) mid new → why ≡ restore.MissingUnit
          → AreExact false (read_notes subject.State stamp_here w ++ restore_notes stamp_here why) old new
      exact-missing restore.MissingUnit same is =
          exact-both false (read_notes subject.State stamp_here w) [] old mid new first-exact
          (exact-when false [] mid new (λ file. ap (λ (s : FileState). s.faults file) same) only.ids)
      exact-missing (restore.Failed f) same is = absurd (cc)
      exact-missing (restore.NoFile unit) same is = absurd (cc)
      exact-missing (restore.TooLong unit) same is = absurd (cc)
      exact-missing (restore.Changed unit) same is = absurd (cc)
      exact-missing restore.Port same is = absurd (cc)
      exact-missing restore.OutOfMemory same is = absurd (cc)

      few-read : (failed closing : Option FailedCall) → length (both_notes subject.State stamp_here 0 failed closing) ≤ 2
      few-read None None = omega arith
      few-read None (Some c) = omega arith
      few-read (Some f) None = omega arith
      few-read (Some f) (Some c) = omega arith

      few-two : length (read_notes subject.State stamp_here w ++ restore_notes stamp_here fault) ≤ 16
      few-two =
          let both = length-append (read_notes subject.State stamp_here w) (restore_notes stamp_here fault) in
          let one = few-read w.failed w.closing in
          let two = few-more stamp_here fault in
          omega (arith, both, one, two)

  -- it was
  pub done-restore-keeps : (notes notes' : List FaultNote) → new.faults ≡ mid.faults → OpensEach tells (length files) (Ok tt) mid new → notes' ≡ notes ++ read_notes subject.State stamp_here w
      → KeepsBy true OpensSaved number time now tells (Ok Go) notes notes' old new
  done-restore-keeps notes notes' same opens noted = record {
    kept = read_notes subject.State stamp_here w;
    added = noted;
    few = few-both subject.State stamp_here 0 w.failed w.closing;
    stamped = stamped-both subject.State number time 0 w.failed w.closing;
    counted =
        subst (λ (l : List FaultNote). AreCounted l old new) (append-nil (read_notes subject.State stamp_here w))
        (counted-both (read_notes subject.State stamp_here w) [] old mid new first-counted (counted-only mid new only));
    exact =
        subst (λ (l : List FaultNote). AreExact false l old new) (append-nil (read_notes subject.State stamp_here w))
        (exact-both false (read_notes subject.State stamp_here w) [] old mid new first-exact (exact-when false [] mid new (λ file. ap (λ (f : ℕ → ℕ). f file) same) only.ids));
    openings =
        all-named 0 tells (Ok Go) (read_notes subject.State stamp_here w) old new
        (let none : openings_noted (read_notes subject.State stamp_here w) + 0 ≡ 0 = omega (arith, first-noted) in
        opens.openings ∙ first-openings ∙ ap (λ (n : ℕ). raised_by n old.open_faults) (sym none));
    given = most-given opens.most;
    cause = read-closings stamp_here w v is shape;
  }

-- ---- whose files they are of

pub restore-own : (stamp : Stamp) (tells : Bool) (fault : RestoreFault) (slots slots' : List (Option Held)) (notes notes' : List FaultNote) (old new : FileState)
    → SessionCause tells (Err fault) old new → AreFrom slots slots' old new → OnlyNewCounts old new → notes' ≡ notes ++ restore_notes stamp fault
    → AreOwn slots slots' notes notes' old new
restore-own stamp tells fault slots slots' notes notes' old new cause from only noted =
    record { kept = restore_notes stamp fault; added = noted; own = by fault cause; from = from; ids = only.ids }
  where
    own-of : (f : UnitFault) → IsRestoreFault f old new → OwnFile f.file f.call (subject.Unit f.unit) slots old new
    own-of f is = by-call f.call refl
      where
        of-file : (f.call ≡ call.Opening → ⊥) → OwnFile f.file f.call (subject.Unit f.unit) slots old new
        of-file other =
            let its = is.other other in
            subst (λ (o : Option FileId). OwnFile o f.call (subject.Unit f.unit) slots old new) (sym its.file_is) (other, inr its.fresh)

        by-call : (c : FileCall) → f.call ≡ c → OwnFile f.file f.call (subject.Unit f.unit) slots old new
        by-call call.Opening same = subst (λ (o : Option FileId). OwnFile o f.call (subject.Unit f.unit) slots old new) (sym (is.opening same).0) same
        by-call call.Length same = of-file (λ opening. absurd (let both : call.Length ≡ call.Opening = sym same ∙ opening in cc))
        by-call call.Read same = of-file (λ opening. absurd (let both : call.Read ≡ call.Opening = sym same ∙ opening in cc))
        by-call call.Write same = of-file (λ opening. absurd (let both : call.Write ≡ call.Opening = sym same ∙ opening in cc))
        by-call call.SetLength same = of-file (λ opening. absurd (let both : call.SetLength ≡ call.Opening = sym same ∙ opening in cc))
        by-call call.Closing same = of-file (λ opening. absurd (let both : call.Closing ≡ call.Opening = sym same ∙ opening in cc))

    by : (fault : RestoreFault) → SessionCause tells (Err fault) old new → AllByRecursion (IsOwnNote slots old new) (restore_notes stamp fault)
    by (restore.Failed f) cause = (own-of f cause, tt)
    by restore.MissingUnit cause = tt
    by (restore.NoFile unit) cause = tt
    by (restore.TooLong unit) cause = tt
    by (restore.Changed unit) cause = tt
    by restore.Port cause = tt
    by restore.OutOfMemory cause = tt

-- ---- what an answer says of its fault

pub whole-fault : (bytes : Result (Vec ℕ) WholeFault) (why : WholeFault) → bytes ≡ Err why → whole_answer subject.State (λ read. Ok Go) bytes ≡ Err (whole_fault subject.State why)
whole-fault bytes why is = ap (whole_answer subject.State (λ read. Ok Go)) is

pub want-fault : (bytes : Result (Vec ℕ) WholeFault) (why : WholeFault) → bytes ≡ Err why → ◌≡◌ {A = Answer} (Err (whole_fault subject.State why)) (Err OutOfMemory)
    → whole_answer subject.State (λ read. Ok Go) bytes ≡ Err OutOfMemory
want-fault bytes why is want = whole-fault bytes why is ∙ want

-- and the reading wanted it
pub want-why : (why : WholeFault) → ◌≡◌ {A = Answer} (Err (whole_fault subject.State why)) (Err OutOfMemory) → why ≡ fault.OutOfMemory
want-why fault.NoFile is = absurd (cc)
want-why fault.TooLong is = absurd (cc)
want-why fault.Failed is = absurd (cc)
want-why fault.OutOfMemory is = refl

-- where memory ran out there is no note
pub no-notes : (fault : RestoreFault) (stamp : Stamp) → ◌≡◌ {A = Answer} (Err (restore_fault fault)) (Err OutOfMemory) → restore_notes stamp fault ≡ []
no-notes (restore.Failed f) stamp is = absurd (cc)
no-notes restore.MissingUnit stamp is = refl
no-notes (restore.NoFile unit) stamp is = refl
no-notes (restore.TooLong unit) stamp is = refl
no-notes (restore.Changed unit) stamp is = refl
no-notes restore.Port stamp is = refl
no-notes restore.OutOfMemory stamp is = refl
