-- A file is opened for a unit: what ATTACH comes to.
use Rattle.std.proofs.Common.{◌≡◌, ℕ, ◌+◌, ◌<◌, ◌≤◌, ◌==◌, ◌&&◌, ◌||◌, not, Bool, true, false, IsTrue, List, [], ◌∷◌, ◌++◌, length, Option, Some, None, IfSome, is_none, nat_lt, Result, Ok, Err}
use Rattle.std.proofs.Common.{inl, inr, refl, ap, sym, ◌∙◌, subst, if◌then◌else◌, append-nil, arith}
use Rattle.std.specs.List.{AllByRecursion}
use Rattle.std.proofs.Math.Path.{subst₃}
use Rattle.file_traits.specs.Lists.{NamedBytes, bytes_of}
use Rattle.file_traits.specs.State.{FileState}
use Rattle.file_traits.specs.declared.files.FileId.{FileId}
use Rattle.whole_files.specs.Claims.{raised_by}
use Rattle.unit_files.specs.Causes.{AtMostOnceMore, IsNewId, IsRefusedFile, AttachCause, CountsAttach, openings_in, openings_named}
use Rattle.unit_files.proofs.OpeningCounts.{one-opened}
use Rattle.std.proofs.lemmas.Bool.{eqb-true}
use Rattle.std.proofs.lemmas.Bool.Decides.{nat_tests}
use Rattle.host_lines.specs.Traffic.{Answer as LineAnswer}
use Rattle.host_lines.specs.State.{LineState}
use Rattle.file_traits.specs.declared.files.FileCall.{FileCall}
use Rattle.file_traits.specs.declared.files.FileCall.TheVariants.{Opening, Length, Read, Write, SetLength, Closing}
use Rattle.unit_trait.specs.declared.kind.Kind.{Kind}
use Rattle.unit_trait.specs.declared.kind.Kind.TheVariants.{Dsk, Lpt, Ptr, Ptp, Mta}
use Rattle.unit_trait.specs.declared.kind.UnitName.{UnitName}
use Rattle.unit_trait.specs.Kinds.{code_of}
use Rattle.unit_list.specs.Bus.{unit_at}
use Rattle.unit_files.specs.declared.modes.AttachMode.{AttachMode}
use Rattle.unit_files.specs.declared.faults.UnitFault.{UnitFault}
use Rattle.unit_files.specs.declared.faults.AttachFault.{AttachFault}
use Rattle.unit_files.specs.declared.faults.AttachFault.TheVariants as attach
use Rattle.unit_files.specs.Attachments.{Attachment, attachments_of, attachment_at, is_disk, longest_file}
use Rattle.unit_files.specs.Acts.{Failure, AttachSaid, Attached, UnitHasFile, OnlyWrites, NotThere, TooLong, CallFailed, failure_at, refused_first, opened_files}
use Rattle.unit_files.specs.Buffer.{AttachedFiles}
use Rattle.unit_files.specs.Acts.{measured, measured_as, read_whole, opened_said, opening_said, said_unless, attach_said, files_unless_opening, files_unless, attach_files, attached_by, buffer_by}
use Rattle.unit_files.specs.Answers.{failure_in, said_of_attach}
use Rattle.file_commands.specs.declared.note.Subject.{Subject}
use Rattle.file_commands.specs.declared.note.Subject.TheVariants as subject
use Rattle.file_commands.specs.declared.note.FaultNote.{FaultNote}
use Rattle.file_commands.specs.Notes.{CommandNote, Note, same_subject, numbered, failure_now, notes_said}
use Rattle.file_commands.specs.Counts.{is_of, is_opening, one_if, noted, openings_noted, AreCounted, AreExact}
use Rattle.file_commands.specs.declared.stamp.Stamp.{Stamp}
use Rattle.file_commands.specs.Kept.{fault_note, IsAttachFault, MissingCause, fault_of_attach, kept_of, own_of, own_note}
use Rattle.expect_actions.specs.Watch.{WatchState}
use Rattle.nova_machine.specs.Machine.{MachineState, attached_files, with_attached_files}
use Rattle.nova_machine.specs.Seen.{erased, seen, beside, attached_in}
use Rattle.nova_machine.specs.Comes.{Output}
use Rattle.nova_machine.proofs.Hearing.{heard-nothing}
use Rattle.command_session.specs.declared.next.Next.TheVariants.{Go}
use Rattle.command_session.specs.declared.fault.CommandFault.TheVariants.{AlreadyAttached, ReadOnly, NoFile, FileTooLong, NoSuchName, FileFailed}
use Rattle.command_session.specs.Live.{Live, standing}
use Rattle.command_session.specs.Reply.{Answer, Reply, refused}
use Rattle.command_session.specs.FaultText.{attach_fault}
use Rattle.command_session.specs.FileEffects.{has_files, lacks_unit, mode_of, attach_answer, attach_used, first_place, positioned, attached_machine, attach_with, attach_reply}
use Rattle.command_session.specs.Doing.{Does, Did, IsLastCall, ComeBehind, IsSaid, IsStamped, FileCause, gives_back, is_missing, OpensForUnit, KeepsAs}
use Rattle.command_session.proofs.CloseLemmas.{refused-first}
use Rattle.command_session.proofs.KeptLemmas.{keeps-none}
use Rattle.command_session.proofs.SeenLemmas.{attached-erased, erased-with, same-with}
use Rattle.command_session.proofs.DidLemmas.{refused-did}
use Rattle.command_session.proofs.BehindLemmas.{kept-said}

-- where a unit goes on, of those that have files
begins-low : (kind : Kind) (count : ℕ) → has_files kind ≡ true → count ≤ longest_file kind → first_place kind count ≤ 16777216
unfolding longest_file
begins-low Dsk count is low = omega arith
begins-low Mta count is low = omega arith
begins-low Lpt count is low = low
begins-low Ptr count is low = omega arith
begins-low Ptp count is low = low
begins-low kind count is low = absurd (cc)

not-lacking : (b c : Bool) → (not b || c) ≡ false → b ≡ true
not-lacking true c is = refl
not-lacking false c is = absurd (cc)

pub begins-within : (m : MachineState) (unit : UnitName) (count : ℕ) → lacks_unit m unit ≡ false → count ≤ longest_file unit.kind → first_place unit.kind count ≤ 16777216
begins-within m unit count has low = begins-low unit.kind count (not-lacking (has_files unit.kind) (is_none (unit_at (code_of unit.kind) m.units)) has) low

-- ---- an attaching makes no closing

record IsNoFailure (f : Option Failure) : Type 0 where
  opening : failure_at Opening f ≡ None
  measuring : failure_at Length f ≡ None
  reading : failure_at Read f ≡ None

said-same : (f : Option Failure) (mode : AttachMode) (unit : UnitName) (name : List ℕ) (attached : List (Option Attachment)) (files : List NamedBytes) → IsNoFailure f
    → attach_said f mode unit name attached files ≡ attach_said None mode unit name attached files
unfolding attach_said
said-same f mode unit name attached files clear = unless (refused_first (attachment_at attached unit) unit mode)
  where
    read : (b : Bool) (count : ℕ) → read_whole (if b then failure_at Read f else None) count ≡ read_whole (if b then None else None) count
    read true count = ap (λ (x : Option Failure). read_whole x count) clear.reading
    read false count = refl

    measures : (count : ℕ) → measured f unit count ≡ measured None unit count
    measures count =
        ap (λ (x : Option Failure). measured_as x f unit count) clear.measuring
        ∙ ap (λ (x : AttachSaid). if nat_lt (longest_file unit.kind) count then TooLong else x) (read (is_disk unit.kind && nat_lt 0 count) count)

    opened : (o : Option (List NamedBytes)) → opened_said f unit name o ≡ opened_said None unit name o
    opened None = refl
    opened (Some fs) = measures (length (bytes_of fs name))

    unless : (o : Option AttachSaid) → said_unless o f mode unit name files ≡ said_unless o None mode unit name files
    unless (Some refusal) = refl
    unless None = ap (λ (x : Option Failure). opening_said x f mode unit name files) clear.opening ∙ opened (opened_files mode name files)

files-same : (f : Option Failure) (mode : AttachMode) (unit : UnitName) (name : List ℕ) (attached : List (Option Attachment)) (files : List NamedBytes) → IsNoFailure f
    → attach_files f mode unit name attached files ≡ attach_files None mode unit name attached files
unfolding attach_files
files-same f mode unit name attached files clear = unless (refused_first (attachment_at attached unit) unit mode)
  where
    unless : (o : Option AttachSaid) → files_unless o f mode name files ≡ files_unless o None mode name files
    unless (Some refusal) = refl
    unless None = ap (λ (x : Option Failure). files_unless_opening x mode name files) clear.opening

closing-if : (written : Bool) (kind : Kind) (b : Bool) (f : Failure) → IsLastCall written kind f.call → IsNoFailure (if b then Some f else None)
closing-if written kind false f is = record { opening = refl; measuring = refl; reading = refl }
closing-if written kind true f is = by-call f.call is
  where
    by-call : (c : FileCall) → IsLastCall written kind c → IsNoFailure (Some (record { call = c; done = f.done }))
    by-call Closing last = record { opening = refl; measuring = refl; reading = refl }
    by-call Write last = record { opening = refl; measuring = refl; reading = refl }
    by-call Opening last = absurd last
    by-call Length last = absurd last
    by-call Read last = absurd last
    by-call SetLength last = absurd last

no-failure-behind : (live : Live) (time : ℕ) (s : Subject) (behind : List CommandNote) → ComeBehind live behind → IsNoFailure (failure_now time s behind)
no-failure-behind live time s [] come = record { opening = refl; measuring = refl; reading = refl }
no-failure-behind live time s (n ∷ behind) come = closing-if live.machine.disk.written come.0.unit.kind ((n.time == time) && same_subject n.subject s) n.failure come.0.call

-- ---- the reply, by what was said

abbrev said_reply : AttachSaid → AttachMode → UnitName → List ℕ → List NamedBytes → Live → Reply
said_reply said mode unit name files live = record {
  made = [];
  answer = attach_answer unit said;
  after = standing (attach_used said) (record live { machine = attached_machine said mode unit name (bytes_of files name) live.machine; files = files });
}

reply-is : (notes : List CommandNote) (live : Live) (option : ℕ) (unit : UnitName) (name : List ℕ) (said : AttachSaid) (files : List NamedBytes) → lacks_unit live.machine unit ≡ false
    → said ≡ attach_said (failure_now live.machine.time (subject.Unit unit) notes) (mode_of option) unit name (attached_in live.machine) live.files
    → files ≡ attach_files (failure_now live.machine.time (subject.Unit unit) notes) (mode_of option) unit name (attached_in live.machine) live.files
    → attach_reply notes live option unit name ≡ said_reply said (mode_of option) unit name files live
unfolding attach_reply
reply-is notes live option unit name said files has is left =
    ap (λ (b : Bool). if b then refused NoSuchName live else attach_with (failure_now live.machine.time (subject.Unit unit) notes) (mode_of option) unit name live) has
    ∙ (λ i. said_reply (sym is i) (mode_of option) unit name (sym left i) live)

-- what is answered
abbrev pub attach_result : Result ℕ AttachFault → Answer
attach_result (Ok count) = Ok Go
attach_result (Err fault) = Err (attach_fault fault)

-- what it says, what it leaves of the files, and what of the machine
abbrev Says : Live → AttachMode → UnitName → List ℕ → Option UnitFault → AttachSaid → Type 0
Says live mode unit name fault said =
    said ≡ attach_said (failure_now live.machine.time (subject.Unit unit) (own_of live.machine.time fault)) mode unit name (attached_in live.machine) live.files

abbrev Leaves : Live → AttachMode → UnitName → List ℕ → Option UnitFault → List NamedBytes → Type 0
Leaves live mode unit name fault files =
    files ≡ attach_files (failure_now live.machine.time (subject.Unit unit) (own_of live.machine.time fault)) mode unit name (attached_in live.machine) live.files

abbrev pub Becomes : Live → Live → AttachMode → UnitName → List ℕ → AttachSaid → Type 0
Becomes live new mode unit name said = new ≡ record live { machine = attached_machine said mode unit name (bytes_of new.files name) live.machine; files = new.files }

pub attach-did : (number : ℕ) (live new : Live) (option : ℕ) (unit : UnitName) (name : List ℕ) (r : Result ℕ AttachFault) (tells : Bool) (text : Output) (notes notes' : List Note)
    → lacks_unit live.machine unit ≡ false → IfSome (said_of_attach r) (λ said. Says live (mode_of option) unit name (fault_of_attach r) said)
    → IfSome (said_of_attach r) (λ said. Leaves live (mode_of option) unit name (fault_of_attach r) new.files)
    → IfSome (said_of_attach r) (λ said. Becomes live new (mode_of option) unit name said)
    → IfSome (fault_of_attach r) (IsAttachFault unit) → notes' ≡ notes ++ numbered number (own_of live.machine.time (fault_of_attach r))
    → Did (λ (own : List CommandNote). attach_reply own live option unit name) number (attach_result r) new tells text text notes notes'
attach-did number live new option unit name r tells text notes notes' has said left after of_unit noted = record {
  own = own_of live.machine.time (fault_of_attach r);
  kept = noted;
  does = λ behind come. by-answer r said left after of_unit behind (no-failure-behind new live.machine.time (subject.Unit unit) behind come);
}
  where
    reply-behind : (said : AttachSaid) (behind : List CommandNote) → Says live (mode_of option) unit name None said → Leaves live (mode_of option) unit name None new.files
        → IsNoFailure (failure_now live.machine.time (subject.Unit unit) behind)
        → attach_reply behind live option unit name ≡ said_reply said (mode_of option) unit name new.files live
    reply-behind said behind says leaves clear =
        let f = failure_now live.machine.time (subject.Unit unit) behind in
        let attached = attached_in live.machine in
        reply-is behind live option unit name said new.files has
        (says ∙ sym (said-same f (mode_of option) unit name attached live.files clear))
        (leaves ∙ sym (files-same f (mode_of option) unit name attached live.files clear))

    said-at : (said : AttachSaid) (used : ℕ) → used ≡ attach_used said → Becomes live new (mode_of option) unit name said
        → IsSaid (said_reply said (mode_of option) unit name new.files live) (standing used new) tells text text
    said-at said used uses after = record { after_is = λ i. standing (uses i) (after i); written = λ _. sym (append-nil text.console); heard = sym (heard-nothing text.heard) }

    by-answer : (r : Result ℕ AttachFault) → IfSome (said_of_attach r) (λ said. Says live (mode_of option) unit name (fault_of_attach r) said)
        → IfSome (said_of_attach r) (λ said. Leaves live (mode_of option) unit name (fault_of_attach r) new.files)
        → IfSome (said_of_attach r) (λ said. Becomes live new (mode_of option) unit name said)
        → IfSome (fault_of_attach r) (IsAttachFault unit) → (behind : List CommandNote) → IsNoFailure (failure_now live.machine.time (subject.Unit unit) behind)
        → Does (attach_reply (own_of live.machine.time (fault_of_attach r) ++ behind) live option unit name) (attach_result r)
        (standing (length (own_of live.machine.time (fault_of_attach r))) new) tells text text
    by-answer (Ok count) said left after of_unit behind clear =
        subst (λ (x : Reply). Does x (Ok Go) (standing 0 new) tells text text) (sym (reply-behind (Attached count) behind said left clear))
        (refl, said-at (Attached count) 0 refl after)
    by-answer (Err attach.AlreadyAttached) said left after of_unit behind clear =
        subst (λ (x : Reply). Does x (Err AlreadyAttached) (standing 0 new) tells text text) (sym (reply-behind UnitHasFile behind said left clear))
        (refl, said-at UnitHasFile 0 refl after)
    by-answer (Err attach.ReadOnly) said left after of_unit behind clear =
        subst (λ (x : Reply). Does x (Err ReadOnly) (standing 0 new) tells text text) (sym (reply-behind OnlyWrites behind said left clear))
        (refl, said-at OnlyWrites 0 refl after)
    by-answer (Err attach.NoFile) said left after of_unit behind clear =
        subst (λ (x : Reply). Does x (Err NoFile) (standing 0 new) tells text text) (sym (reply-behind NotThere behind said left clear))
        (refl, said-at NotThere 0 refl after)
    by-answer (Err attach.TooLong) said left after of_unit behind clear =
        subst (λ (x : Reply). Does x (Err FileTooLong) (standing 0 new) tells text text) (sym (reply-behind TooLong behind said left clear))
        (refl, said-at TooLong 0 refl after)
    by-answer (Err (attach.Failed f)) said left after of_unit behind clear =
        subst (λ (x : Reply). Does x (Err (FileFailed (subject.Unit f.unit))) (standing 1 new) tells text text)
        (sym (reply-is (own_note live.machine.time f ∷ behind) live option unit name (CallFailed (failure_in f)) new.files has said left))
        (ap (λ (u : UnitName). Err (FileFailed (subject.Unit u))) of_unit.unit_is, said-at (CallFailed (failure_in f)) 1 refl after)
    by-answer (Err attach.OutOfMemory) said left after of_unit behind clear = tt

-- what its calls say
pub record Calls (stamp : Stamp) (mode : AttachMode) (held : List (Option Attachment)) (live new : Live) (unit : UnitName) (name : List ℕ) (r : Result ℕ AttachFault) (before after : List FaultNote) : Type 0 where
  pub said : IfSome (said_of_attach r) (λ said. said ≡ attach_said (failure_now stamp.time (subject.Unit unit) (own_of stamp.time (fault_of_attach r))) mode unit name held live.files)
  pub left : IfSome (said_of_attach r) (λ said. new.files ≡ attach_files (failure_now stamp.time (subject.Unit unit) (own_of stamp.time (fault_of_attach r))) mode unit name held live.files)
  pub becomes : IfSome (said_of_attach r) (λ said. Becomes live new mode unit name said)
  pub noted : after ≡ before ++ kept_of stamp (fault_of_attach r)

pub attach-done : (number : ℕ) (stamp : Stamp) (mode : AttachMode) (live new : Live) (held : List (Option Attachment)) (option : ℕ) (unit : UnitName) (name : List ℕ) (r : Result ℕ AttachFault)
    (answer : Answer) (tells : Bool) (text : Output) (before after : List FaultNote) → stamp ≡ record { command = number; time = live.machine.time }
    → mode ≡ mode_of option → held ≡ attached_in live.machine → answer ≡ attach_result r → lacks_unit live.machine unit ≡ false
    → IfSome (fault_of_attach r) (IsAttachFault unit) → Calls stamp mode held live new unit name r before after
    → Did (λ (own : List CommandNote). attach_reply own live option unit name) number answer new tells text text (notes_said before) (notes_said after)
attach-done number stamp mode live new held option unit name r answer tells text before after stamped moded are answered has of_unit calls =
    let own : Stamp = record { command = number; time = live.machine.time } in
    let here : Calls own (mode_of option) (attached_in live.machine) live new unit name r before after =
    subst₃ (λ (s : Stamp) (m : AttachMode) (l : List (Option Attachment)). Calls s m l live new unit name r before after) stamped moded are calls in
    subst (λ (a : Answer). Did (λ (own : List CommandNote). attach_reply own live option unit name) number a new tells text text (notes_said before) (notes_said after)) (sym answered)
    (attach-did number live new option unit name r tells text (notes_said before) (notes_said after) has here.said here.left here.becomes of_unit
    (kept-said own (fault_of_attach r) before after here.noted))

-- ---- the machine that is left

pub becomes-attached : (watch : WatchState) (keys : List (ℕ × ℕ)) (files files' : List NamedBytes) (lines : LineState) (whole : List LineAnswer) (m m' : MachineState) (a held : AttachedFiles) (mode : AttachMode) (unit : UnitName) (name : List ℕ) (count place : ℕ)
    → held ≡ attached_files m → attachments_of a.slots ≡ attached_by (Attached count) mode unit name (attachments_of held.slots)
    → a.disk ≡ buffer_by (Attached count) unit (bytes_of files' name) held.disk → place ≡ first_place unit.kind count
    → m' ≡ record (with_attached_files m a) { units = positioned unit place m.units }
    → Becomes (seen (beside watch keys files lines) whole m) (seen (beside watch keys files' lines) whole m') mode unit name (Attached count)
becomes-attached watch keys files files' lines whole m m' a held mode unit name count place was are copied begins is =
    let attached = attached_by (Attached count) mode unit name (attached_in (erased m)) in
    let disk = buffer_by (Attached count) unit (bytes_of files' name) m.disk in
    ap (λ (x : MachineState). seen (beside watch keys files' lines) whole x) is
    ∙ ap (λ (p : ℕ). seen (beside watch keys files' lines) whole (record (with_attached_files m a) { units = positioned unit p m.units })) begins
    ∙ ap (λ (x : MachineState). record (seen (beside watch keys files' lines) whole m) { machine = record x { units = positioned unit (first_place unit.kind count) m.units } })
    (erased-with m a attached disk
    (are ∙ ap (λ (l : List (Option Attachment)). attached_by (Attached count) mode unit name l) (ap (λ (x : AttachedFiles). attachments_of x.slots) was ∙ sym (attached-erased m)))
    (copied ∙ ap (λ (x : AttachedFiles). buffer_by (Attached count) unit (bytes_of files' name) x.disk) was))

pub becomes-refused : (watch : WatchState) (keys : List (ℕ × ℕ)) (files files' : List NamedBytes) (lines : LineState) (whole : List LineAnswer) (m : MachineState) (a held : AttachedFiles) (mode : AttachMode) (unit : UnitName) (name : List ℕ) (fault : AttachFault)
    → held ≡ attached_files m → a ≡ held → IfSome (said_of_attach (Err fault)) (λ said. Becomes (seen (beside watch keys files lines) whole m) (seen (beside watch keys files' lines) whole (with_attached_files m a)) mode unit name said)
becomes-refused watch keys files files' lines whole m a held mode unit name fault was stays = by-fault fault
  where
    same : seen (beside watch keys files' lines) whole (with_attached_files m a) ≡ seen (beside watch keys files' lines) whole m
    same = ap (λ (x : MachineState). seen (beside watch keys files' lines) whole x) (same-with m a held was stays)

    by-fault : (fault : AttachFault) → IfSome (said_of_attach (Err fault)) (λ said. Becomes (seen (beside watch keys files lines) whole m) (seen (beside watch keys files' lines) whole (with_attached_files m a)) mode unit name said)
    by-fault attach.AlreadyAttached = same
    by-fault attach.ReadOnly = same
    by-fault attach.NoFile = same
    by-fault attach.TooLong = same
    by-fault (attach.Failed f) = same
    by-fault attach.OutOfMemory = tt

-- there is no such unit
pub attach-lacking : (number : ℕ) (live : Live) (option : ℕ) (unit : UnitName) (name : List ℕ) (tells : Bool) (text : Output) (notes : List Note) → lacks_unit live.machine unit ≡ true
    → Did (λ (own : List CommandNote). attach_reply own live option unit name) number (Err NoSuchName) live tells text text notes notes
unfolding attach_reply
attach-lacking number live option unit name tells text notes lacks =
    refused-did (λ (own : List CommandNote). attach_reply own live option unit name) NoSuchName number live tells text notes tt
    (λ own. ap (λ (b : Bool). if b then refused NoSuchName live else attach_with (failure_now live.machine.time (subject.Unit unit) own) (mode_of option) unit name live) lacks)

-- ---- the notes that are kept

pub one-note : (fault : Option UnitFault) (stamp : Stamp) → length (kept_of stamp fault) ≤ 16
one-note None stamp = omega arith
one-note (Some f) stamp = omega arith

pub stamped-note : (number time : ℕ) (fault : Option UnitFault) → AllByRecursion (IsStamped number time) (kept_of (record { command = number; time = time }) fault)
stamped-note number time None = tt
stamped-note number time (Some f) = ((refl, refl), tt)

no-closing : (unit : UnitName) (f : UnitFault) → IsAttachFault unit f → f.call ≡ Closing → ⊥
no-closing unit f of_unit is = elim of_unit.call_is [
  | inl opening ↦ absurd (let both = sym is ∙ opening in cc)
  | inr later ↦ elim later [
    | inl measuring ↦ absurd (let both = sym is ∙ measuring in cc)
    | inr reading ↦ absurd (let both = sym is ∙ reading.0 in cc)
  ]
]

attach-cause : (stamp : Stamp) (tells : Bool) (unit : UnitName) (r : Result ℕ AttachFault) (old new : FileState) → IfSome (fault_of_attach r) (IsAttachFault unit) → MissingCause tells r old new
    → FileCause stamp tells (attach_result r) (kept_of stamp (fault_of_attach r)) old new
attach-cause stamp tells unit (Ok count) old new of_unit missing = tt
attach-cause stamp tells unit (Err attach.AlreadyAttached) old new of_unit missing = refl
attach-cause stamp tells unit (Err attach.ReadOnly) old new of_unit missing = refl
attach-cause stamp tells unit (Err attach.NoFile) old new of_unit missing = (refl, missing)
attach-cause stamp tells unit (Err attach.TooLong) old new of_unit missing = tt
attach-cause stamp tells unit (Err (attach.Failed f)) old new of_unit missing =
    refused-first (subject.Unit f.unit) (fault_note stamp f) [] (refl, no-closing unit f of_unit) tt
attach-cause stamp tells unit (Err attach.OutOfMemory) old new of_unit missing = tt

none-but : (file id : ℕ) (old new : FileState) → (IsNewId old new file → ⊥) → old.given ≤ id → id < new.given → file ≡ id → ⊥
none-but file id old new none from to same = none (subst (IsNewId old new) (sym same) (from, to))

other-file : (file id : ℕ) (b : Bool) → (id == file) ≡ b → (file ≡ id → ⊥) → one_if b + 0 ≡ 0
other-file file id true is other = absurd (other (let e = is in grind (arith, nat_tests)))
other-file file id false is other = refl

-- of a file that was given back nothing is said here; else no call that failed is without a note
attach-exact : (stamp : Stamp) (tells : Bool) (unit : UnitName) (r : Result ℕ AttachFault) (old new : FileState) → AttachCause tells r unit old new
    → (file : ℕ) → (IsTrue (gives_back (attach_result r)) → IsNewId old new file → ⊥) → new.faults file ≡ raised_by (noted file (kept_of stamp (fault_of_attach r))) (old.faults file)
attach-exact stamp tells unit (Ok count) old new cause file none = ap (λ (f : ℕ → ℕ). f file) cause.0
attach-exact stamp tells unit (Err attach.AlreadyAttached) old new cause file none = ap (λ (f : ℕ → ℕ). f file) cause.counts
attach-exact stamp tells unit (Err attach.ReadOnly) old new cause file none = ap (λ (f : ℕ → ℕ). f file) cause.counts
attach-exact stamp tells unit (Err attach.NoFile) old new cause file none = ap (λ (f : ℕ → ℕ). f file) cause.0
attach-exact stamp tells unit (Err attach.TooLong) old new cause file none =
    let its = cause.0.1 in
    its.others file (none-but file cause.0.0.0 old new (none refl) its.rising its.given)
attach-exact stamp tells unit (Err (attach.Failed f)) old new cause file none = by f.call refl
  where
    of-file : (f.call ≡ Opening → ⊥) → new.faults file ≡ raised_by (one_if (is_of file f.file) + 0) (old.faults file)
    of-file other =
        let o = cause.other other in
        let its = o.2 in
        let apart = none-but file o.0.0 old new (none refl) its.rising its.given in
        subst (λ (x : Option FileId). new.faults file ≡ raised_by (one_if (is_of file x) + 0) (old.faults file)) (sym o.1)
        (its.others file apart ∙ ap (λ (n : ℕ). raised_by n (old.faults file)) (sym (other-file file o.0.0 (o.0.0 == file) refl apart)))

    by : (c : FileCall) → f.call ≡ c → new.faults file ≡ raised_by (one_if (is_of file f.file) + 0) (old.faults file)
    by Opening is =
        let o = cause.opening is in
        subst (λ (x : Option FileId). new.faults file ≡ raised_by (one_if (is_of file x) + 0) (old.faults file)) (sym o.0) (ap (λ (g : ℕ → ℕ). g file) o.2)
    by Closing is = of-file (λ opening. absurd (let both : Closing ≡ Opening = sym is ∙ opening in cc))
    by Length is = of-file (λ opening. absurd (let both : Length ≡ Opening = sym is ∙ opening in cc))
    by Read is = of-file (λ opening. absurd (let both : Read ≡ Opening = sym is ∙ opening in cc))
    by Write is = of-file (λ opening. absurd (let both : Write ≡ Opening = sym is ∙ opening in cc))
    by SetLength is = of-file (λ opening. absurd (let both : SetLength ≡ Opening = sym is ∙ opening in cc))
attach-exact stamp tells unit (Err attach.OutOfMemory) old new cause file none = ap (λ (f : ℕ → ℕ). f file) cause

-- a file that was opened and is refused has one call without a note at most, its closing
refused-once : (file id failed : ℕ) (old new : FileState) (b : Bool) → (id == file) ≡ b → AtMostOnceMore (raised_by failed (old.faults id)) (new.faults id)
    → ((other : ℕ) → (other ≡ id → ⊥) → new.faults other ≡ old.faults other) → AtMostOnceMore (raised_by (if b then failed else 0) (old.faults file)) (new.faults file)
refused-once file id failed old new true is count others =
    subst (λ (n : ℕ). AtMostOnceMore (raised_by failed (old.faults n)) (new.faults n)) (eqb-true id file is) count
refused-once file id failed old new false is count others = inl (others file (λ same. let e = is in grind (arith, nat_tests)))

attach-once : (stamp : Stamp) (tells : Bool) (unit : UnitName) (r : Result ℕ AttachFault) (old new : FileState) → AttachCause tells r unit old new
    → (file : ℕ) → AtMostOnceMore (raised_by (noted file (kept_of stamp (fault_of_attach r))) (old.faults file)) (new.faults file)
attach-once stamp tells unit (Ok count) old new cause file = inl (ap (λ (f : ℕ → ℕ). f file) cause.0)
attach-once stamp tells unit (Err attach.AlreadyAttached) old new cause file = inl (ap (λ (f : ℕ → ℕ). f file) cause.counts)
attach-once stamp tells unit (Err attach.ReadOnly) old new cause file = inl (ap (λ (f : ℕ → ℕ). f file) cause.counts)
attach-once stamp tells unit (Err attach.NoFile) old new cause file = inl (ap (λ (f : ℕ → ℕ). f file) cause.0)
attach-once stamp tells unit (Err attach.TooLong) old new cause file = by (cause.0.0.0 == file) refl
  where
    by : (b : Bool) → (cause.0.0.0 == file) ≡ b → AtMostOnceMore (old.faults file) (new.faults file)
    by true is = refused-once file cause.0.0.0 0 old new true is cause.0.1.count cause.0.1.others
    by false is = refused-once file cause.0.0.0 0 old new false is cause.0.1.count cause.0.1.others
attach-once stamp tells unit (Err (attach.Failed f)) old new cause file = by f.call refl
  where
    of-file : (f.call ≡ Opening → ⊥) → AtMostOnceMore (raised_by (one_if (is_of file f.file) + 0) (old.faults file)) (new.faults file)
    of-file other =
        let o = cause.other other in
        subst (λ (x : Option FileId). AtMostOnceMore (raised_by (one_if (is_of file x) + 0) (old.faults file)) (new.faults file)) (sym o.1) (at o.0 o.2)
      where
        at : (id : FileId) → IsRefusedFile id 1 old new → AtMostOnceMore (raised_by (one_if (id.0 == file) + 0) (old.faults file)) (new.faults file)
        at id its = here (id.0 == file) refl
          where
            here : (c : Bool) → (id.0 == file) ≡ c → AtMostOnceMore (raised_by (one_if c + 0) (old.faults file)) (new.faults file)
            here true is = refused-once file id.0 1 old new true is its.count its.others
            here false is = refused-once file id.0 1 old new false is its.count its.others

    by : (c : FileCall) → f.call ≡ c → AtMostOnceMore (raised_by (one_if (is_of file f.file) + 0) (old.faults file)) (new.faults file)
    by Opening is =
        let o = cause.opening is in
        subst (λ (x : Option FileId). AtMostOnceMore (raised_by (one_if (is_of file x) + 0) (old.faults file)) (new.faults file)) (sym o.0) (inl (ap (λ (g : ℕ → ℕ). g file) o.2))
    by Closing is = of-file (λ opening. absurd (let both : Closing ≡ Opening = sym is ∙ opening in cc))
    by Length is = of-file (λ opening. absurd (let both : Length ≡ Opening = sym is ∙ opening in cc))
    by Read is = of-file (λ opening. absurd (let both : Read ≡ Opening = sym is ∙ opening in cc))
    by Write is = of-file (λ opening. absurd (let both : Write ≡ Opening = sym is ∙ opening in cc))
    by SetLength is = of-file (λ opening. absurd (let both : SetLength ≡ Opening = sym is ∙ opening in cc))
attach-once stamp tells unit (Err attach.OutOfMemory) old new cause file = inl (ap (λ (f : ℕ → ℕ). f file) cause)

-- the notes and the answer name just those openings that failed which the attaching names
attach-noted : (stamp : Stamp) (tells : Bool) (unit : UnitName) (r : Result ℕ AttachFault) (old new : FileState) → AttachCause tells r unit old new
    → openings_noted (kept_of stamp (fault_of_attach r)) + one_if (is_missing (attach_result r) && not tells) ≡ openings_named tells r
attach-noted stamp tells unit (Ok count) old new cause = refl
attach-noted stamp tells unit (Err attach.AlreadyAttached) old new cause = refl
attach-noted stamp tells unit (Err attach.ReadOnly) old new cause = refl
attach-noted stamp true unit (Err attach.NoFile) old new cause = refl
attach-noted stamp false unit (Err attach.NoFile) old new cause = refl
attach-noted stamp tells unit (Err attach.TooLong) old new cause = refl
attach-noted stamp tells unit (Err (attach.Failed f)) old new cause = by f.call refl
  where
    of-file : (f.call ≡ Opening → ⊥) → (one_if (is_opening f.file) + 0) + 0 ≡ 0
    of-file other = ap (λ (x : Option FileId). (one_if (is_opening x) + 0) + 0) (cause.other other).1

    by : (c : FileCall) → f.call ≡ c → (one_if (is_opening f.file) + 0) + 0 ≡ openings_in f.call
    by Opening is = ap (λ (x : Option FileId). (one_if (is_opening x) + 0) + 0) (cause.opening is).0 ∙ ap openings_in (sym is)
    by Closing is = of-file (λ opening. absurd (let both : Closing ≡ Opening = sym is ∙ opening in cc)) ∙ ap openings_in (sym is)
    by Length is = of-file (λ opening. absurd (let both : Length ≡ Opening = sym is ∙ opening in cc)) ∙ ap openings_in (sym is)
    by Read is = of-file (λ opening. absurd (let both : Read ≡ Opening = sym is ∙ opening in cc)) ∙ ap openings_in (sym is)
    by Write is = of-file (λ opening. absurd (let both : Write ≡ Opening = sym is ∙ opening in cc)) ∙ ap openings_in (sym is)
    by SetLength is = of-file (λ opening. absurd (let both : SetLength ≡ Opening = sym is ∙ opening in cc)) ∙ ap openings_in (sym is)
attach-noted stamp tells unit (Err attach.OutOfMemory) old new cause = refl

-- a command that was refused before it has opened a file has opened none
pub attach-untried : (mode : AttachMode) (number time : ℕ) (tells : Bool) (notes notes' : List FaultNote) (state : FileState) → notes' ≡ notes
    → KeepsAs (OpensForUnit mode) number time tells (Err NoSuchName) notes notes' state state
attach-untried mode number time tells notes notes' state none =
    let k = keeps-none number time tells (Err NoSuchName) notes notes' state none tt in
    record {
      kept = k.kept;
      added = k.added;
      few = k.few;
      stamped = k.stamped;
      counted = k.counted;
      exact = k.exact;
      openings = record { unnoted = k.openings.unnoted; few = let none = k.openings.few in omega (arith, none); count = k.openings.count };
      given = omega arith;
      cause = k.cause;
    }

pub attach-keeps : (mode : AttachMode) (number time : ℕ) (stamp : Stamp) (tells : Bool) (unit : UnitName) (r : Result ℕ AttachFault) (answer : Answer) (notes notes' : List FaultNote) (old new : FileState)
    → stamp ≡ record { command = number; time = time } → answer ≡ attach_result r → notes' ≡ notes ++ kept_of stamp (fault_of_attach r) → AreCounted (kept_of stamp (fault_of_attach r)) old new
    → IfSome (fault_of_attach r) (IsAttachFault unit) → MissingCause tells r old new → AttachCause tells r unit old new → CountsAttach mode tells r old new → old.given ≤ new.given
    → KeepsAs (OpensForUnit mode) number time tells answer notes notes' old new
attach-keeps mode number time stamp tells unit r answer notes notes' old new stamped answered added counted of_unit missing counts opens ids =
    let own : Stamp = record { command = number; time = time } in
    record {
      kept = kept_of own (fault_of_attach r);
      added = added ∙ ap (λ (s : Stamp). notes ++ kept_of s (fault_of_attach r)) stamped;
      few = one-note (fault_of_attach r) own;
      stamped = stamped-note number time (fault_of_attach r);
      counted = subst (λ (s : Stamp). AreCounted (kept_of s (fault_of_attach r)) old new) stamped counted;
      exact =
          subst (λ (a : Answer). AreExact (gives_back a) (kept_of own (fault_of_attach r)) old new) (sym answered)
          (record { files = attach-exact own tells unit r old new counts; most = attach-once own tells unit r old new counts; ids = ids });
      openings = record {
        unnoted = opens.unnamed;
        few = opens.few;
        count = opens.openings ∙ ap (λ (n : ℕ). raised_by (opens.unnamed + n) old.open_faults) (sym (attach-noted own tells unit r old new counts))
            ∙ ap (λ (a : Answer). raised_by (opens.unnamed + (openings_noted (kept_of own (fault_of_attach r)) + one_if (is_missing a && not tells))) old.open_faults) (sym answered);
      };
      given = let given = opens.ids in let one = one-opened r in omega (arith, given, one);
      cause = subst (λ (a : Answer). FileCause own tells a (kept_of own (fault_of_attach r)) old new) (sym answered) (attach-cause own tells unit r old new of_unit missing);
    }
