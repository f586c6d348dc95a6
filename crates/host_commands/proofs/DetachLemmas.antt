-- A unit's file is closed: what DETACH comes to.
use Rattle.std.proofs.Common.{◌≡◌, ℕ, ◌&&◌, Bool, true, false, List, [], ◌++◌, length, Option, Some, None, is_none, IfSome, Result, Ok, Err, OnErr}
use Rattle.std.proofs.Common.{refl, ap, sym, ◌∙◌, subst, if◌then◌else◌, append-nil, arith}
use Rattle.std.proofs.lemmas.Bool.{eq-eqb}
use Rattle.std.proofs.Math.Path.{subst₃}
use Rattle.file_traits.specs.declared.files.FileCall.{FileCall}
use Rattle.file_traits.specs.declared.files.FileCall.TheVariants.{Opening, Length, Read, Write, SetLength, Closing}
use Rattle.file_traits.specs.State.{FileState}
use Rattle.host_lines.specs.Traffic.{Answer as LineAnswer}
use Rattle.host_lines.specs.State.{LineState}
use Rattle.unit_trait.specs.Kinds.{same_unit}
use Rattle.file_commands.specs.Counts.{AreCounted, AreAll, AreExact}
use Rattle.file_commands.proofs.Exact.{exact-all}
use Rattle.command_session.proofs.CountedLemmas.{openings-none}
use Rattle.file_traits.specs.Lists.{NamedBytes}
use Rattle.unit_trait.specs.declared.kind.UnitName.{UnitName}
use Rattle.unit_files.specs.declared.faults.UnitFault.{UnitFault}
use Rattle.unit_files.specs.declared.faults.DetachFault.{DetachFault}
use Rattle.unit_files.specs.declared.faults.DetachFault.TheVariants as detach
use Rattle.unit_files.specs.Attachments.{Attachment, attachments_of, attachment_at}
use Rattle.unit_files.specs.Buffer.{Buffer, AttachedFiles}
use Rattle.unit_files.specs.Acts.{Failure, DetachSaid, HadNone, StillHeld, Detached, same_call, detach_said, detach_said_of, closing_said, flush_failure, flush_files}
use Rattle.unit_files.specs.Acts.{is_due_back, detached, detached_by, buffer_left}
use Rattle.unit_files.specs.Answers.{failure_in, said_of_detach}
use Rattle.file_commands.specs.declared.note.Subject.TheVariants as subject
use Rattle.file_commands.specs.declared.note.FaultNote.{FaultNote}
use Rattle.file_commands.specs.Notes.{CommandNote, Note, numbered, failure_now, notes_said}
use Rattle.file_commands.specs.declared.stamp.Stamp.{Stamp}
use Rattle.file_commands.specs.Kept.{fault_note, fault_of_detach, kept_of, own_of}
use Rattle.expect_actions.specs.Watch.{WatchState}
use Rattle.nova_machine.specs.Machine.{MachineState, attached_files, with_attached_files}
use Rattle.nova_machine.specs.Seen.{erased, seen, beside, attached_in}
use Rattle.nova_machine.specs.Comes.{Output}
use Rattle.nova_machine.proofs.Hearing.{heard-nothing}
use Rattle.command_session.specs.declared.next.Next.TheVariants.{Go}
use Rattle.command_session.specs.declared.fault.CommandFault.TheVariants.{NoSuchName, NotAttached, FileFailed}
use Rattle.command_session.specs.Live.{Live, standing}
use Rattle.command_session.specs.Reply.{Answer, Reply, refused}
use Rattle.command_session.specs.FaultText.{detach_fault}
use Rattle.command_session.specs.Answers.{IsByTables, OfUnit}
use Rattle.command_session.specs.FileEffects.{lacks_unit, detach_answer, detach_used, detached_machine, flushed_files, detach_with, detach_reply}
use Rattle.command_session.specs.Doing.{Does, Did, ComeBehind, FileCause, is_missing, Keeps}
use Rattle.command_session.proofs.SeenLemmas.{attached-erased, attached-with, seen-with, same-with}
use Rattle.command_session.proofs.CloseLemmas.{closing-call, detached-none, refused-first}
use Rattle.command_session.proofs.DidLemmas.{refused-did}
use Rattle.command_session.proofs.BehindLemmas.{kept-said, none-behind, handed-own}
use Rattle.host_commands.proofs.AttachLemmas.{one-note, stamped-note}
use Rattle.unit_trait.proofs.Codes.{same-self}

-- what is answered
abbrev pub detach_result : Result (Option UnitFault) DetachFault → Answer
detach_result (Ok fault) = Ok Go
detach_result (Err fault) = Err (detach_fault fault)

-- ---- what is left behind it

pub detached-live : (watch : WatchState) (keys : List (ℕ × ℕ)) (after : List NamedBytes) (lines : LineState) (whole : List LineAnswer) (m : MachineState) (a held : AttachedFiles) (unit : UnitName) (r : Result (Option UnitFault) DetachFault)
    → held ≡ attached_files m → attachments_of a.slots ≡ detached_by (said_of_detach r) unit (attachments_of held.slots) → a.disk ≡ buffer_left (said_of_detach r) unit held.disk
    → OnErr r (a ≡ held) → seen (beside watch keys after lines) whole (with_attached_files m a) ≡ record (seen (beside watch keys after lines) whole m) { machine = detached_machine (said_of_detach r) unit (erased m) }
detached-live watch keys after lines whole m a held unit (Ok fault) was are holds refused =
    let said = said_of_detach (Ok fault) in
    seen-with watch keys after lines whole m a (detached unit (attached_in (erased m))) (buffer_left said unit m.disk)
    (are ∙ ap (λ (l : List (Option Attachment)). detached unit l) (ap (λ (x : AttachedFiles). attachments_of x.slots) was ∙ sym (attached-erased m)))
    (holds ∙ ap (λ (x : AttachedFiles). buffer_left said unit x.disk) was)
detached-live watch keys after lines whole m a held unit (Err fault) was are holds refused = by-fault fault
  where
    kept : seen (beside watch keys after lines) whole (with_attached_files m a) ≡ seen (beside watch keys after lines) whole m
    kept = ap (λ (x : MachineState). seen (beside watch keys after lines) whole x) (same-with m a held was refused)

    by-fault : (fault : DetachFault)
        → seen (beside watch keys after lines) whole (with_attached_files m a) ≡ record (seen (beside watch keys after lines) whole m) { machine = detached_machine (said_of_detach (Err fault)) unit (erased m) }
    by-fault detach.NotAttached = kept
    by-fault (detach.Failed f) = kept

had-none : (fault : Option Failure) (unit : UnitName) (a : Option Attachment) (disk : Buffer) → HadNone ≡ detach_said_of fault unit a disk → a ≡ None
had-none fault unit None disk is = refl
had-none fault unit (Some a) disk is = by-failure (flush_failure fault unit disk) is
  where
    by-failure : (f : Option Failure) → HadNone ≡ closing_said f fault → Some a ≡ None
    by-failure None is = absurd (cc)
    by-failure (Some f) is = absurd (cc)

-- ---- the answer, whatever files tell

-- a unit that has a file is refused by no table
pub detach-tables : (claim : Option Failure) (unit : UnitName) (attached : List (Option Attachment)) (disk : Buffer) (r : Result (Option UnitFault) DetachFault)
    → said_of_detach r ≡ detach_said claim unit attached disk
    → IsByTables (if is_none (attachment_at attached unit) then Some NotAttached else None) (detach_result r)
detach-tables claim unit attached disk r said = by r (attachment_at attached unit) said
  where
    held : (r : Result (Option UnitFault) DetachFault) (f : Option Failure) → said_of_detach r ≡ closing_said f claim → IsByTables None (detach_result r)
    held (Ok fault) f said = tt
    held (Err (detach.Failed fault)) f said = refl
    held (Err detach.NotAttached) None said = absurd (cc)
    held (Err detach.NotAttached) (Some f) said = absurd (cc)

    by : (r : Result (Option UnitFault) DetachFault) (o : Option Attachment) → said_of_detach r ≡ detach_said_of claim unit o disk
        → IsByTables (if is_none o then Some NotAttached else None) (detach_result r)
    by (Ok fault) None said = absurd (cc)
    by (Err (detach.Failed f)) None said = absurd (cc)
    by (Err detach.NotAttached) None said = refl
    by r (Some a) said = held r (flush_failure claim unit disk) said

-- what fails is a call on its own file
pub detach-can : (unit : UnitName) (r : Result (Option UnitFault) DetachFault) → IfSome (fault_of_detach r) (λ (f : UnitFault). f.unit ≡ unit) → OfUnit unit (detach_result r)
detach-can unit (Ok fault) own = tt
detach-can unit (Err detach.NotAttached) own = refl
detach-can unit (Err (detach.Failed f)) own = ap (λ (u : UnitName). subject.Unit u) own

-- ---- the reply, by what was said

abbrev said_reply : DetachSaid → UnitName → List NamedBytes → Live → Reply
said_reply said unit files live = record {
  made = [];
  answer = detach_answer unit said;
  after = standing (detach_used said) (record live { machine = detached_machine said unit live.machine; files = files });
}

reply-is : (notes : List CommandNote) (live : Live) (unit : UnitName) (fault : Option Failure) (said : DetachSaid) (files : List NamedBytes) → lacks_unit live.machine unit ≡ false
    → failure_now live.machine.time (subject.Unit unit) notes ≡ fault → said ≡ detach_said fault unit (attached_in live.machine) live.machine.disk → files ≡ flushed_files fault unit live
    → detach_reply notes live unit ≡ said_reply said unit files live
unfolding detach_reply
reply-is notes live unit fault said files has handed is left =
    ap (λ (b : Bool). if b then refused NoSuchName live else detach_with (failure_now live.machine.time (subject.Unit unit) notes) unit live) has
    ∙ ap (λ (f : Option Failure). detach_with f unit live) handed
    ∙ (λ i. said_reply (sym is i) unit (sym left i) live)

-- what its call says, with the failure that it was handed
abbrev Says : Live → UnitName → Result (Option UnitFault) DetachFault → Type 0
Says live unit r =
    said_of_detach r ≡ detach_said (failure_now live.machine.time (subject.Unit unit) (own_of live.machine.time (fault_of_detach r))) unit (attached_in live.machine) live.machine.disk

abbrev Leaves : Live → UnitName → Result (Option UnitFault) DetachFault → List NamedBytes → Type 0
Leaves live unit r files = files ≡ flushed_files (failure_now live.machine.time (subject.Unit unit) (own_of live.machine.time (fault_of_detach r))) unit live

abbrev Becomes : Live → Live → UnitName → Result (Option UnitFault) DetachFault → Type 0
Becomes live new unit r = new ≡ record live { machine = detached_machine (said_of_detach r) unit live.machine; files = new.files }

pub detach-did : (number : ℕ) (live new : Live) (unit : UnitName) (r : Result (Option UnitFault) DetachFault) (tells : Bool) (text : Output) (notes notes' : List Note)
    → lacks_unit live.machine unit ≡ false → Says live unit r → Leaves live unit r new.files → Becomes live new unit r → IfSome (fault_of_detach r) (λ (f : UnitFault). f.unit ≡ unit)
    → notes' ≡ notes ++ numbered number (own_of live.machine.time (fault_of_detach r))
    → Did (λ (own : List CommandNote). detach_reply own live unit) number (detach_result r) new tells text text notes notes'
detach-did number live new unit r tells text notes notes' has said left after of_unit noted = record {
  own = own_of live.machine.time (fault_of_detach r);
  kept = noted;
  does = λ behind come. by-answer r said left after of_unit behind come;
}
  where
    time : ℕ
    time = live.machine.time

    -- the notes behind are none of a unit that has no file then
    does-handed : (r : Result (Option UnitFault) DetachFault) (behind : List CommandNote) (answer : Answer)
        → failure_now time (subject.Unit unit) (own_of time (fault_of_detach r) ++ behind) ≡ failure_now time (subject.Unit unit) (own_of time (fault_of_detach r))
        → Says live unit r → Leaves live unit r new.files → Does (said_reply (said_of_detach r) unit new.files live) answer (standing (length (own_of time (fault_of_detach r))) new) tells text text
        → Does (detach_reply (own_of time (fault_of_detach r) ++ behind) live unit) answer (standing (length (own_of time (fault_of_detach r))) new) tells text text
    does-handed r behind answer handed said left does =
        subst (λ (x : Reply). Does x answer (standing (length (own_of time (fault_of_detach r))) new) tells text text)
        (sym (reply-is (own_of time (fault_of_detach r) ++ behind) live unit _ (said_of_detach r) new.files has handed said left)) does

    quiet : (r : Result (Option UnitFault) DetachFault) (behind : List CommandNote) → attachment_at (attached_in (detached_machine (said_of_detach r) unit live.machine)) unit ≡ None
        → Becomes live new unit r → ComeBehind new behind
        → failure_now time (subject.Unit unit) (own_of time (fault_of_detach r) ++ behind) ≡ failure_now time (subject.Unit unit) (own_of time (fault_of_detach r))
    quiet r behind emptied after come =
        handed-own time unit (fault_of_detach r) behind
        (none-behind new unit time behind (ap (λ (l : Live). attachment_at (attached_in l.machine) unit) after ∙ emptied) come)

    emptied : (fault : Option UnitFault) → attachment_at (attached_in (detached_machine (said_of_detach (Ok fault)) unit live.machine)) unit ≡ None
    emptied fault =
        ap (λ (l : List (Option Attachment)). attachment_at l unit) (attached-with live.machine (detached unit (attached_in live.machine))) ∙ detached-none unit (attached_in live.machine)

    by-answer : (r : Result (Option UnitFault) DetachFault) → Says live unit r → Leaves live unit r new.files → Becomes live new unit r → IfSome (fault_of_detach r) (λ (f : UnitFault). f.unit ≡ unit)
        → (behind : List CommandNote) → ComeBehind new behind
        → Does (detach_reply (own_of time (fault_of_detach r) ++ behind) live unit) (detach_result r) (standing (length (own_of time (fault_of_detach r))) new) tells text text
    by-answer (Ok None) said left after of_unit behind come =
        does-handed (Ok None) behind (Ok Go) (quiet (Ok None) behind (emptied None) after come) said left (refl, record { after_is = ap (standing 0) after; written = λ _. sym (append-nil text.console); heard = sym (heard-nothing text.heard) })
    by-answer (Ok (Some f)) said left after of_unit behind come =
        does-handed (Ok (Some f)) behind (Ok Go) (quiet (Ok (Some f)) behind (emptied (Some f)) after come) said left (refl, record { after_is = ap (standing 1) after; written = λ _. sym (append-nil text.console); heard = sym (heard-nothing text.heard) })
    by-answer (Err detach.NotAttached) said left after of_unit behind come =
        does-handed (Err detach.NotAttached) behind (detach_result (Err detach.NotAttached)) (quiet (Err detach.NotAttached) behind (had-none (failure_now time (subject.Unit unit) (own_of time None)) unit (attachment_at (attached_in live.machine) unit) live.machine.disk said) after come) said left
        (refl, record { after_is = ap (standing 0) after; written = λ _. sym (append-nil text.console); heard = sym (heard-nothing text.heard) })
    by-answer (Err (detach.Failed f)) said left after of_unit behind come =
        does-handed (Err (detach.Failed f)) behind (detach_result (Err (detach.Failed f))) refl said left
        (ap (λ (u : UnitName). Err (FileFailed (subject.Unit u))) of_unit, record { after_is = ap (standing 1) after; written = λ _. sym (append-nil text.console); heard = sym (heard-nothing text.heard) })

-- there is no such unit
pub detach-lacking : (number : ℕ) (live : Live) (unit : UnitName) (tells : Bool) (text : Output) (notes : List Note) → lacks_unit live.machine unit ≡ true
    → Did (λ (own : List CommandNote). detach_reply own live unit) number (Err NoSuchName) live tells text text notes notes
unfolding detach_reply
detach-lacking number live unit tells text notes lacks =
    refused-did (λ (own : List CommandNote). detach_reply own live unit) NoSuchName number live tells text notes tt
    (λ own. ap (λ (b : Bool). if b then refused NoSuchName live else detach_with (failure_now live.machine.time (subject.Unit unit) own) unit live) lacks)

-- what its calls say
pub record Calls (stamp : Stamp) (held : List (Option Attachment)) (disk : Buffer) (live new : Live) (unit : UnitName) (r : Result (Option UnitFault) DetachFault) (before after : List FaultNote) : Type 0 where
  pub said : said_of_detach r ≡ detach_said (failure_now stamp.time (subject.Unit unit) (own_of stamp.time (fault_of_detach r))) unit held disk
  pub left : new.files ≡ flush_files (failure_now stamp.time (subject.Unit unit) (own_of stamp.time (fault_of_detach r))) unit (attachment_at held unit) disk live.files
  pub noted : after ≡ before ++ kept_of stamp (fault_of_detach r)

-- the same as its call says it
pub detach-done : (number : ℕ) (stamp : Stamp) (live new : Live) (held : List (Option Attachment)) (disk : Buffer) (unit : UnitName) (r : Result (Option UnitFault) DetachFault) (answer : Answer)
    (tells : Bool) (text : Output) (before after : List FaultNote) → stamp ≡ record { command = number; time = live.machine.time } → held ≡ attached_in live.machine → disk ≡ live.machine.disk
    → answer ≡ detach_result r → lacks_unit live.machine unit ≡ false → Calls stamp held disk live new unit r before after
    → new ≡ record live { machine = detached_machine (said_of_detach r) unit live.machine; files = new.files } → IfSome (fault_of_detach r) (λ (f : UnitFault). f.unit ≡ unit)
    → Did (λ (own : List CommandNote). detach_reply own live unit) number answer new tells text text (notes_said before) (notes_said after)
detach-done number stamp live new held disk unit r answer tells text before after stamped are holds answered has calls becomes of_unit =
    let own : Stamp = record { command = number; time = live.machine.time } in
    let here : Calls own (attached_in live.machine) live.machine.disk live new unit r before after =
    subst₃ (λ (s : Stamp) (l : List (Option Attachment)) (d : Buffer). Calls s l d live new unit r before after) stamped are holds calls in
    subst (λ (a : Answer). Did (λ (own : List CommandNote). detach_reply own live unit) number a new tells text text (notes_said before) (notes_said after)) (sym answered)
    (detach-did number live new unit r tells text (notes_said before) (notes_said after) has here.said here.left becomes of_unit
    (kept-said own (fault_of_detach r) before after here.noted))

-- ---- the notes that are kept

-- the first of the command's notes is that call
handed-first : (time : ℕ) (unit : UnitName) (f : UnitFault) → f.unit ≡ unit → failure_now time (subject.Unit unit) (own_of time (Some f)) ≡ Some (failure_in f)
handed-first time unit f is =
    ap (λ (b : Bool). if b then Some (failure_in f) else None)
    ((λ i. eq-eqb time time refl i && same_unit f.unit (sym is i)) ∙ same-self f.unit)

-- the call that failed was the closing, and where the unit still has its file it was the write
module _ (unit : UnitName) (disk : Buffer) (f g : Failure) where
  failed-closing : (a : Option Attachment) → Detached (Some g) ≡ detach_said_of (Some f) unit a disk → same_call f.call Closing ≡ true
  failed-closing None is = absurd (cc)
  failed-closing (Some a) is = by-flush (flush_failure (Some f) unit disk) is
    where
      by-call : (b : Bool) → Detached (Some g) ≡ Detached (if b then Some f else None) → b ≡ true
      by-call true is = refl
      by-call false is = absurd (cc)

      by-flush : (o : Option Failure) → Detached (Some g) ≡ closing_said o (Some f) → same_call f.call Closing ≡ true
      by-flush None is = by-call (same_call f.call Closing) is
      by-flush (Some h) is = absurd (cc)

  failed-write : (a : Option Attachment) → StillHeld g ≡ detach_said_of (Some f) unit a disk → same_call f.call Write ≡ true
  failed-write None is = absurd (cc)
  failed-write (Some a) is = by-due (is_due_back unit disk) (same_call f.call Write) is
    where
      by-due : (due same : Bool) → StillHeld g ≡ closing_said (if due then (if same then Some f else None) else None) (Some f) → same ≡ true
      by-due true true is = refl
      by-due true false is = absurd (cc)
      by-due false same is = absurd (cc)

not-closing : (c : FileCall) → same_call c Write ≡ true → c ≡ Closing → ⊥
not-closing Opening is closing = absurd (cc)
not-closing Length is closing = absurd (cc)
not-closing Read is closing = absurd (cc)
not-closing Write is closing = absurd (cc)
not-closing SetLength is closing = absurd (cc)
not-closing Closing is closing = absurd (cc)

detach-cause : (stamp : Stamp) (tells : Bool) (unit : UnitName) (attached : List (Option Attachment)) (disk : Buffer) (r : Result (Option UnitFault) DetachFault) (old new : FileState)
    → said_of_detach r ≡ detach_said (failure_now stamp.time (subject.Unit unit) (own_of stamp.time (fault_of_detach r))) unit attached disk
    → IfSome (fault_of_detach r) (λ (f : UnitFault). f.unit ≡ unit) → FileCause stamp tells (detach_result r) (kept_of stamp (fault_of_detach r)) old new
detach-cause stamp tells unit attached disk (Ok None) old new said of_unit = tt
detach-cause stamp tells unit attached disk (Ok (Some f)) old new said of_unit =
    let handed = said ∙ ap (λ (o : Option Failure). detach_said o unit attached disk) (handed-first stamp.time unit f of_unit) in
    (closing-call f.call (failed-closing unit disk (failure_in f) (failure_in f) (attachment_at attached unit) handed), tt)
detach-cause stamp tells unit attached disk (Err detach.NotAttached) old new said of_unit = refl
detach-cause stamp tells unit attached disk (Err (detach.Failed f)) old new said of_unit =
    let handed = said ∙ ap (λ (o : Option Failure). detach_said o unit attached disk) (handed-first stamp.time unit f of_unit) in
    refused-first (subject.Unit f.unit) (fault_note stamp f) []
    (refl, not-closing f.call (failed-write unit disk (failure_in f) (failure_in f) (attachment_at attached unit) handed)) tt

detached-there : (r : Result (Option UnitFault) DetachFault) → is_missing (detach_result r) ≡ false
detached-there (Ok fault) = refl
detached-there (Err detach.NotAttached) = refl
detached-there (Err (detach.Failed f)) = refl

pub detach-keeps : (number time : ℕ) (stamp : Stamp) (tells : Bool) (unit : UnitName) (attached : List (Option Attachment)) (disk : Buffer) (r : Result (Option UnitFault) DetachFault) (answer : Answer)
    (notes notes' : List FaultNote) (old new : FileState) → stamp ≡ record { command = number; time = time } → answer ≡ detach_result r → notes' ≡ notes ++ kept_of stamp (fault_of_detach r)
    → AreCounted (kept_of stamp (fault_of_detach r)) old new → AreAll (kept_of stamp (fault_of_detach r)) old new
    → said_of_detach r ≡ detach_said (failure_now stamp.time (subject.Unit unit) (own_of stamp.time (fault_of_detach r))) unit attached disk
    → IfSome (fault_of_detach r) (λ (f : UnitFault). f.unit ≡ unit) → Keeps number time tells answer notes notes' old new
detach-keeps number time stamp tells unit attached disk r answer notes notes' old new stamped answered added counted all said of_unit =
    let own : Stamp = record { command = number; time = time } in
    let cause = detach-cause stamp tells unit attached disk r old new said of_unit in
    record {
      kept = kept_of own (fault_of_detach r);
      added = added ∙ ap (λ (s : Stamp). notes ++ kept_of s (fault_of_detach r)) stamped;
      few = one-note (fault_of_detach r) own;
      stamped = stamped-note number time (fault_of_detach r);
      counted = subst (λ (s : Stamp). AreCounted (kept_of s (fault_of_detach r)) old new) stamped counted;
      exact = subst (λ (s : Stamp). AreExact false (kept_of s (fault_of_detach r)) old new) stamped (exact-all false (kept_of stamp (fault_of_detach r)) old new all);
      openings =
          openings-none tells answer (kept_of own (fault_of_detach r)) old new (ap is_missing answered ∙ detached-there r) all.openings
          (subst (λ (s : Stamp). AreCounted (kept_of s (fault_of_detach r)) old new) stamped counted);
      given = let same = all.ids in omega (arith, same);
      cause =
          subst (λ (a : Answer). FileCause own tells a (kept_of own (fault_of_detach r)) old new) (sym answered)
          (subst (λ (s : Stamp). FileCause s tells (detach_result r) (kept_of s (fault_of_detach r)) old new) stamped cause);
    }
