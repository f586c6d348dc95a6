-- Units lose their files: each note that is kept for it is of one that had a file, and behind it nothing is attached, or a
-- unit has kept its file.
use Rattle.std.proofs.Common.{◌≡◌, ◌==◌, ◌&&◌, ◌||◌, ℕ, ◌≤◌, Bool, true, false, IsTrue, List, [], ◌∷◌, ◌++◌, zero, suc, drop, length, get_or, set, Option, Some, None, is_some}
use Rattle.std.proofs.Common.{Ok, refl, ap, sym, ◌∙◌, subst, arith, if◌then◌else◌, append-nil}
use Rattle.std.specs.List.{AllByRecursion, list_any}
use Rattle.std.proofs.lemmas.Bool.Decides.{nat_tests}
use Rattle.file_traits.specs.declared.files.FileCall.{FileCall}
use Rattle.file_traits.specs.declared.files.FileCall.TheVariants.{Opening, Length, Read, Write, SetLength, Closing}
use Rattle.file_traits.specs.State.{FileState}
use Rattle.host_lines.specs.Traffic.{Answer as LineAnswer}
use Rattle.host_lines.specs.State.{LineState}
use Rattle.unit_trait.specs.declared.kind.Kind.{Kind}
use Rattle.unit_trait.specs.declared.kind.Kind.TheVariants.{Lpt, Ptr, Ptp, Mta}
use Rattle.unit_trait.specs.declared.kind.UnitName.{UnitName}
use Rattle.unit_trait.specs.Kinds.{code_of, same_unit}
use Rattle.unit_trait.proofs.Codes.{same-code, same-self}
use Rattle.unit_files.specs.Attachments.{Attachment, Held, attachments_of, file_place, attachment_at, is_disk}
use Rattle.unit_files.specs.Buffer.{Buffer, AttachedFiles, no_buffer}
use Rattle.unit_files.specs.Acts.{Failure, DetachSaid, HadNone, StillHeld, Detached, same_call, buffer_left, detached, detach_said_of, closing_said, flush_failure, is_due_back}
use Rattle.file_commands.specs.declared.note.Subject.{Subject}
use Rattle.file_commands.specs.declared.note.Subject.TheVariants as subject
use Rattle.file_commands.specs.declared.note.FaultNote.{FaultNote}
use Rattle.file_commands.specs.Notes.{CommandNote, Note, same_subject, numbered, failure_now, notes_said, said_of}
use Rattle.file_commands.specs.AllUnits.{attachable, Filed, Emptied, emptied_as, said_in, written_in, without_file, filed_of, emptied, Empties}
use Rattle.file_commands.proofs.Emptying.{emptied-nothing, emptied-more, front}
use Rattle.expect_actions.specs.Watch.{WatchState}
use Rattle.nova_machine.specs.Machine.{MachineState, attached_files, with_attached_files}
use Rattle.file_traits.specs.Lists.{NamedBytes}
use Rattle.nova_machine.specs.Seen.{attached_in, erased, seen, beside}
use Rattle.nova_machine.specs.Comes.{Output}
use Rattle.nova_machine.proofs.Hearing.{heard-nothing}
use Rattle.command_session.specs.declared.next.Next.{Next}
use Rattle.command_session.specs.declared.next.Next.TheVariants.{Go, Exit}
use Rattle.command_session.specs.Live.{Live, Standing, standing, with_attached, numberless}
use Rattle.command_session.specs.Reply.{Reply, bare_answer}
use Rattle.command_session.specs.FileEffects.{filed_in, emptied_all, left_by, unported_by, filed_live, emptied_live, kept_answer, emptied_reply}
use Rattle.command_session.specs.Doing.{IsLastCall, ComeBehind, IsStamped, IsRefusalOf, IsClosingOf, AreRefusalOf, AllClosings, FileCause, ClosesFiles, Closes, Keeps, is_missing, Does, IsSaid, Did}
use Rattle.file_commands.proofs.Exact.{exact-all}
use Rattle.command_session.proofs.CountedLemmas.{openings-none}
use Rattle.command_session.proofs.SeenLemmas.{attached-erased, attached-numberless, unnumbered-is, seen-with}

-- ---- units with one name are one

both-parts : (b c : Bool) → (b && c) ≡ true → (b ≡ true) × (c ≡ true)
both-parts true c is = (refl, is)
both-parts false c is = absurd (cc)

pub one-unit : (a b : UnitName) → same_unit a b ≡ true → a ≡ b
one-unit a b is =
    let both = both-parts (code_of a.kind == code_of b.kind) (a.unit == b.unit) is in
    let code : code_of a.kind ≡ code_of b.kind = let first = both.0 in grind (arith, nat_tests) in
    let number : a.unit ≡ b.unit = let second = both.1 in grind (arith, nat_tests) in
    λ i. record { kind = same-code a.kind b.kind code i; unit = number i }

pub closing-call : (c : FileCall) → same_call c Closing ≡ true → c ≡ Closing
closing-call Opening is = absurd (cc)
closing-call Length is = absurd (cc)
closing-call Read is = absurd (cc)
closing-call Write is = absurd (cc)
closing-call SetLength is = absurd (cc)
closing-call Closing is = refl

-- ---- what is attached behind detachings

-- a place that is empty stays so, and one that is emptied is
empty-stays : (l : List (Option Attachment)) (p q : ℕ) → get_or l q None ≡ None → get_or (set l p None) q None ≡ None
empty-stays [] p q is = refl
empty-stays (a ∷ l) zero zero is = refl
empty-stays (a ∷ l) zero (suc q) is = is
empty-stays (a ∷ l) (suc p) zero is = is
empty-stays (a ∷ l) (suc p) (suc q) is = empty-stays l p q is

place-emptied : (l : List (Option Attachment)) (p : ℕ) → get_or (set l p None) p None ≡ None
place-emptied [] p = refl
place-emptied (a ∷ l) zero = refl
place-emptied (a ∷ l) (suc p) = place-emptied l p

pub detached-none : (u : UnitName) (attached : List (Option Attachment)) → attachment_at (detached u attached) u ≡ None
detached-none u attached = place-emptied attached (file_place u)

pub some-none : (a : Option Attachment) → a ≡ None → IsTrue (is_some a) → ⊥
some-none None is there = absurd (cc)
some-none (Some x) is there = absurd (cc)

-- ---- subjects

pub is-of-unit : (s : Subject) (u : UnitName) → same_subject s (subject.Unit u) ≡ true → s ≡ subject.Unit u
is-of-unit (subject.Unit w) u is = ap subject.Unit (one-unit w u is)
is-of-unit subject.Script u is = absurd (cc)
is-of-unit subject.Keys u is = absurd (cc)
is-of-unit subject.State u is = absurd (cc)
is-of-unit subject.Load u is = absurd (cc)
is-of-unit subject.Dump u is = absurd (cc)

-- ---- what a unit says that loses its file, with the failure of the first of some notes

abbrev says_of : ℕ → UnitName → Filed → List CommandNote → DetachSaid
says_of time u s own = said_in (failure_now time (subject.Unit u) own) u s

write-call : (c : FileCall) → same_call c Write ≡ true → c ≡ Write
write-call Opening is = absurd (cc)
write-call Length is = absurd (cc)
write-call Read is = absurd (cc)
write-call Write is = refl
write-call SetLength is = absurd (cc)
write-call Closing is = absurd (cc)

-- a call failed only where its note is the first, and of this unit
record IsFirst (time : ℕ) (u : UnitName) (s : Filed) (n : CommandNote) : Type 0 where
  time_is : n.time ≡ time
  subject_is : n.subject ≡ subject.Unit u
  there : IsTrue (is_some (attachment_at s.attached u))

module _ (time : ℕ) (u : UnitName) (s : Filed) where
  no-closing : (a : Option Attachment) (g : Failure) → detach_said_of None u a s.disk ≡ Detached (Some g) → ⊥
  no-closing None g is = absurd (cc)
  no-closing (Some a) g is = by-due (is_due_back u s.disk) is
    where
      by-due : (b : Bool) → closing_said (if b then None else None) None ≡ Detached (Some g) → ⊥
      by-due true is = absurd (cc)
      by-due false is = absurd (cc)

  no-write : (a : Option Attachment) (g : Failure) → detach_said_of None u a s.disk ≡ StillHeld g → ⊥
  no-write None g is = absurd (cc)
  no-write (Some a) g is = by-due (is_due_back u s.disk) is
    where
      by-due : (b : Bool) → closing_said (if b then None else None) None ≡ StillHeld g → ⊥
      by-due true is = absurd (cc)
      by-due false is = absurd (cc)

  some-closing : (f : Failure) (a : Option Attachment) (g : Failure) → detach_said_of (Some f) u a s.disk ≡ Detached (Some g) → (same_call f.call Closing ≡ true) × IsTrue (is_some a)
  some-closing f None g is = absurd (cc)
  some-closing f (Some a) g is = (by-flush (flush_failure (Some f) u s.disk) is, refl)
    where
      by-call : (b : Bool) → Detached (if b then Some f else None) ≡ Detached (Some g) → b ≡ true
      by-call true is = refl
      by-call false is = absurd (cc)

      by-flush : (o : Option Failure) → closing_said o (Some f) ≡ Detached (Some g) → same_call f.call Closing ≡ true
      by-flush None is = by-call (same_call f.call Closing) is
      by-flush (Some h) is = absurd (cc)

  some-write : (f : Failure) (a : Option Attachment) (g : Failure) → detach_said_of (Some f) u a s.disk ≡ StillHeld g
      → (same_call f.call Write ≡ true) × (is_disk u.kind ≡ true) × IsTrue (is_some a) × (s.disk.written ≡ true)
  some-write f None g is = absurd (cc)
  some-write f (Some a) g is =
      let all = by-due (is_disk u.kind) s.disk.written (same_call f.call Write) is in (all.0, all.1, refl, all.2)
    where
      by-due : (d w same : Bool) → closing_said (if d && w then (if same then Some f else None) else None) (Some f) ≡ StillHeld g → (same ≡ true) × (d ≡ true) × (w ≡ true)
      by-due true true true is = (refl, refl, refl)
      by-due true true false is = absurd (cc)
      by-due true false same is = absurd (cc)
      by-due false w same is = absurd (cc)

  -- .. by the note that was first
  module _ (n : CommandNote) (own : List CommandNote) (g : Failure) where
    closing-first : says_of time u s (n ∷ own) ≡ Detached (Some g) → IsFirst time u s n × (n.failure.call ≡ Closing)
    closing-first is = by-tests (n.time == time) (same_subject n.subject (subject.Unit u)) refl refl is
      where
        by-tests : (b c : Bool) → (n.time == time) ≡ b → same_subject n.subject (subject.Unit u) ≡ c
            → said_in (if b && c then Some n.failure else None) u s ≡ Detached (Some g) → IsFirst time u s n × (n.failure.call ≡ Closing)
        by-tests true true at of is =
            let some = some-closing n.failure (attachment_at s.attached u) g is in
            (record { time_is = grind (arith, nat_tests); subject_is = is-of-unit n.subject u of; there = some.1 }, closing-call n.failure.call some.0)
        by-tests true false at of is = absurd (no-closing (attachment_at s.attached u) g is)
        by-tests false c at of is = absurd (no-closing (attachment_at s.attached u) g is)

    write-first : says_of time u s (n ∷ own) ≡ StillHeld g
        → IsFirst time u s n × (n.failure.call ≡ Write) × (is_disk u.kind ≡ true) × (s.disk.written ≡ true)
    write-first is = by-tests (n.time == time) (same_subject n.subject (subject.Unit u)) refl refl is
      where
        by-tests : (b c : Bool) → (n.time == time) ≡ b → same_subject n.subject (subject.Unit u) ≡ c
            → said_in (if b && c then Some n.failure else None) u s ≡ StillHeld g
            → IsFirst time u s n × (n.failure.call ≡ Write) × (is_disk u.kind ≡ true) × (s.disk.written ≡ true)
        by-tests true true at of is =
            let some = some-write n.failure (attachment_at s.attached u) g is in
            (record { time_is = grind (arith, nat_tests); subject_is = is-of-unit n.subject u of; there = some.2 }, write-call n.failure.call some.0, some.1, some.3)
        by-tests true false at of is = absurd (no-write (attachment_at s.attached u) g is)
        by-tests false c at of is = absurd (no-write (attachment_at s.attached u) g is)

-- ---- each note is of a unit that had a file

record IsOneOf (time : ℕ) (us : List UnitName) (written : Bool) (attached : List (Option Attachment)) (n : CommandNote) : Type 0 where
  unit : UnitName
  time_is : n.time ≡ time
  subject_is : n.subject ≡ subject.Unit unit
  among : IsTrue (list_any (λ (u : UnitName). same_unit u unit) us)
  call : IsLastCall written unit.kind n.failure.call
  there : IsTrue (is_some (attachment_at attached unit))

was-there : (attached : List (Option Attachment)) (u v : UnitName) → IsTrue (is_some (attachment_at (detached u attached) v)) → IsTrue (is_some (attachment_at attached v))
was-there attached u v there = by-what (attachment_at attached v) refl
  where
    by-what : (a : Option Attachment) → attachment_at attached v ≡ a → IsTrue (is_some a)
    by-what None is = absurd (some-none (attachment_at (detached u attached) v) (empty-stays attached (file_place u) (file_place v) is) there)
    by-what (Some a) is = refl

or-last : (b c : Bool) → IsTrue c → IsTrue (b || c)
or-last true c is = refl
or-last false c is = is

-- what the disk holds is to be written behind a detaching only where it was before
was-written : (said : DetachSaid) (u : UnitName) (disk : Buffer) → (buffer_left said u disk).written ≡ true → disk.written ≡ true
was-written (Detached fault) u disk is = by-kind (is_disk u.kind) is
  where
    by-kind : (b : Bool) → (if b then no_buffer else disk).written ≡ true → disk.written ≡ true
    by-kind true is = absurd (cc)
    by-kind false is = is
was-written HadNone u disk is = is
was-written (StillHeld f) u disk is = is

last-before : (now before : Bool) (kind : Kind) (call : FileCall) → (now ≡ true → before ≡ true) → IsLastCall now kind call → IsLastCall before kind call
last-before now before kind Closing was last = tt
last-before now before kind Write was last = (last.0, was last.1)
last-before now before kind Opening was last = absurd last
last-before now before kind Length was last = absurd last
last-before now before kind Read was last = absurd last
last-before now before kind SetLength was last = absurd last

wider : (time : ℕ) (u : UnitName) (us : List UnitName) (now before : Bool) (attached : List (Option Attachment)) (own : List CommandNote) → (now ≡ true → before ≡ true)
    → AllByRecursion (IsOneOf time us now (detached u attached)) own → AllByRecursion (IsOneOf time (u ∷ us) before attached) own
wider time u us now before attached [] was all = tt
wider time u us now before attached (n ∷ own) was all =
    let o = all.0 in (
      record {
        unit = o.unit;
        time_is = o.time_is;
        subject_is = o.subject_is;
        among = or-last (same_unit u o.unit) (list_any (λ (v : UnitName). same_unit v o.unit) us) o.among;
        call = last-before now before o.unit.kind n.failure.call was o.call;
        there = was-there attached u o.unit o.there;
      },
      wider time u us now before attached own was all.1,
    )

first-of : (time : ℕ) (u : UnitName) (us : List UnitName) (s : Filed) (n : CommandNote) → IsFirst time u s n → IsLastCall s.disk.written u.kind n.failure.call
    → IsOneOf time (u ∷ us) s.disk.written s.attached n
first-of time u us s n first call =
    record { unit = u; time_is = first.time_is; subject_is = first.subject_is; among = front (same_unit u u) _ (same-self u); call = call; there = first.there }

closing-last : (written : Bool) (kind : Kind) (c : FileCall) → c ≡ Closing → IsLastCall written kind c
closing-last written kind c is = subst (λ (x : FileCall). IsLastCall written kind x) (sym is) tt

write-last : (written : Bool) (kind : Kind) (c : FileCall) → c ≡ Write → is_disk kind ≡ true → written ≡ true → IsLastCall written kind c
write-last written kind c is disk due = subst (λ (x : FileCall). IsLastCall written kind x) (sym is) (disk, due)

one-step : (time : ℕ) (u : UnitName) (us : List UnitName) (s : Filed) (own : List CommandNote)
    → emptied time (u ∷ us) s own ≡ emptied_as (says_of time u s own) u (written_in (failure_now time (subject.Unit u) own) u s)
    (λ more. emptied time us (without_file (failure_now time (subject.Unit u) own) u s) more) own
one-step time u us s own = emptied-more time u us s own _ _ refl refl

are-of : (time : ℕ) (us : List UnitName) (s : Filed) (own : List CommandNote) → (emptied time us s own).used ≡ length own → AllByRecursion (IsOneOf time us s.disk.written s.attached) own
are-of time [] s own used = none own (sym (ap (λ (e : Emptied). e.used) (emptied-nothing time s own)) ∙ used)
  where
    none : (own : List CommandNote) → 0 ≡ length own → AllByRecursion (IsOneOf time [] s.disk.written s.attached) own
    none [] is = tt
    none (n ∷ own) is = absurd (omega (arith, is))
are-of time (u ∷ us) s own used =
    by-said own (says_of time u s own) refl (sym (ap (λ (e : Emptied). e.used) (one-step time u us s own)) ∙ used)
    (was-written (says_of time u s own) u s.disk) (are-of time us (without_file (failure_now time (subject.Unit u) own) u s))
  where
    by-said : (own : List CommandNote) (said : DetachSaid) → says_of time u s own ≡ said
        → (emptied_as said u (written_in (failure_now time (subject.Unit u) own) u s) (λ more. emptied time us (without_file (failure_now time (subject.Unit u) own) u s) more) own).used ≡ length own
        → ((buffer_left (says_of time u s own) u s.disk).written ≡ true → s.disk.written ≡ true)
        → ((rest : List CommandNote) → (emptied time us (without_file (failure_now time (subject.Unit u) own) u s) rest).used ≡ length rest
        → AllByRecursion (IsOneOf time us (buffer_left (says_of time u s own) u s.disk).written (detached u s.attached)) rest)
        → AllByRecursion (IsOneOf time (u ∷ us) s.disk.written s.attached) own
    by-said own HadNone is used was more = wider time u us _ s.disk.written s.attached own was (more own used)
    by-said own (Detached None) is used was more = wider time u us _ s.disk.written s.attached own was (more own used)
    by-said [] (Detached (Some f)) is used was more = absurd (no-closing time u s (attachment_at s.attached u) f is)
    by-said (n ∷ own) (Detached (Some f)) is used was more =
        let first = closing-first time u s n own f is in
        (first-of time u us s n first.0 (closing-last s.disk.written u.kind n.failure.call first.1), wider time u us _ s.disk.written s.attached own was (more own (omega (arith, used))))
    by-said [] (StillHeld f) is used was more = absurd (no-write time u s (attachment_at s.attached u) f is)
    by-said (n ∷ []) (StillHeld f) is used was more =
        let first = write-first time u s n [] f is in
        (first-of time u us s n first.0 (write-last s.disk.written u.kind n.failure.call first.1 first.2 first.3), tt)
    by-said (n ∷ m ∷ own) (StillHeld f) is used was more = absurd (omega (arith, used))

at-most : (time : ℕ) (us : List UnitName) (s : Filed) (own : List CommandNote) → (emptied time us s own).used ≤ length us
at-most time [] s own = subst (λ (e : Emptied). e.used ≤ 0) (sym (emptied-nothing time s own)) (omega arith)
at-most time (u ∷ us) s own =
    subst (λ (e : Emptied). e.used ≤ length (u ∷ us)) (sym (one-step time u us s own))
    (by-said (says_of time u s own) (at-most time us (without_file (failure_now time (subject.Unit u) own) u s)))
  where
    by-said : (said : DetachSaid) → ((rest : List CommandNote) → (emptied time us (without_file (failure_now time (subject.Unit u) own) u s) rest).used ≤ length us)
        → (emptied_as said u (written_in (failure_now time (subject.Unit u) own) u s) (λ more. emptied time us (without_file (failure_now time (subject.Unit u) own) u s) more) own).used ≤ length (u ∷ us)
    by-said HadNone more = let less = more own in omega (arith, less)
    by-said (Detached None) more = let less = more own in omega (arith, less)
    by-said (Detached (Some f)) more = let less = more (drop 1 own) in omega (arith, less)
    by-said (StillHeld f) more = omega arith

-- where no unit has kept its file, all notes are of closings
all-closing : (time : ℕ) (us : List UnitName) (s : Filed) (own : List CommandNote) → (emptied time us s own).used ≡ length own → (emptied time us s own).kept ≡ None
    → AllByRecursion (λ (n : CommandNote). n.failure.call ≡ Closing) own
all-closing time [] s own used kept = none own (sym (ap (λ (e : Emptied). e.used) (emptied-nothing time s own)) ∙ used)
  where
    none : (own : List CommandNote) → 0 ≡ length own → AllByRecursion (λ (n : CommandNote). n.failure.call ≡ Closing) own
    none [] is = tt
    none (n ∷ own) is = absurd (omega (arith, is))
all-closing time (u ∷ us) s own used kept =
    by-said own (says_of time u s own) refl (sym (ap (λ (e : Emptied). e.used) (one-step time u us s own)) ∙ used) (sym (ap (λ (e : Emptied). e.kept) (one-step time u us s own)) ∙ kept)
    (all-closing time us (without_file (failure_now time (subject.Unit u) own) u s))
  where
    by-said : (own : List CommandNote) (said : DetachSaid) → says_of time u s own ≡ said
        → (emptied_as said u (written_in (failure_now time (subject.Unit u) own) u s) (λ more. emptied time us (without_file (failure_now time (subject.Unit u) own) u s) more) own).used ≡ length own
        → (emptied_as said u (written_in (failure_now time (subject.Unit u) own) u s) (λ more. emptied time us (without_file (failure_now time (subject.Unit u) own) u s) more) own).kept ≡ None
        → ((rest : List CommandNote) → (emptied time us (without_file (failure_now time (subject.Unit u) own) u s) rest).used ≡ length rest
        → (emptied time us (without_file (failure_now time (subject.Unit u) own) u s) rest).kept ≡ None → AllByRecursion (λ (n : CommandNote). n.failure.call ≡ Closing) rest)
        → AllByRecursion (λ (n : CommandNote). n.failure.call ≡ Closing) own
    by-said own HadNone is used kept more = more own used kept
    by-said own (Detached None) is used kept more = more own used kept
    by-said [] (Detached (Some f)) is used kept more = tt
    by-said (n ∷ own) (Detached (Some f)) is used kept more = ((closing-first time u s n own f is).1, more own (omega (arith, used)) kept)
    by-said own (StillHeld f) is used kept more = absurd (cc)

-- .. and none has one then
stays-none : (time : ℕ) (us : List UnitName) (s : Filed) (own : List CommandNote) (v : UnitName) → attachment_at s.attached v ≡ None → attachment_at (emptied time us s own).left.attached v ≡ None
stays-none time [] s own v none = ap (λ (e : Emptied). attachment_at e.left.attached v) (emptied-nothing time s own) ∙ none
stays-none time (u ∷ us) s own v none =
    ap (λ (e : Emptied). attachment_at e.left.attached v) (one-step time u us s own)
    ∙ by-said (says_of time u s own) (λ rest. stays-none time us (without_file (failure_now time (subject.Unit u) own) u s) rest v (empty-stays s.attached (file_place u) (file_place v) none))
  where
    by-said : (said : DetachSaid) → ((rest : List CommandNote) → attachment_at (emptied time us (without_file (failure_now time (subject.Unit u) own) u s) rest).left.attached v ≡ None)
        → attachment_at (emptied_as said u (written_in (failure_now time (subject.Unit u) own) u s) (λ more. emptied time us (without_file (failure_now time (subject.Unit u) own) u s) more) own).left.attached v
        ≡ None
    by-said HadNone more = more own
    by-said (Detached None) more = more own
    by-said (Detached (Some f)) more = more (drop 1 own)
    by-said (StillHeld f) more = none

all-emptied : (time : ℕ) (us : List UnitName) (s : Filed) (own : List CommandNote) (v : UnitName) → (emptied time us s own).kept ≡ None
    → IsTrue (list_any (λ (u : UnitName). same_unit u v) us) → attachment_at (emptied time us s own).left.attached v ≡ None
all-emptied time [] s own v kept among = absurd (cc)
all-emptied time (u ∷ us) s own v kept among =
    ap (λ (e : Emptied). attachment_at e.left.attached v) (one-step time u us s own)
    ∙ by-said (says_of time u s own) (sym (ap (λ (e : Emptied). e.kept) (one-step time u us s own)) ∙ kept) (λ rest kept. by-first (same_unit u v) refl among rest kept (λ later. all-emptied time us (without_file (failure_now time (subject.Unit u) own) u s) rest v kept later))
  where
    next : Filed
    next = without_file (failure_now time (subject.Unit u) own) u s

    by-first : (b : Bool) → same_unit u v ≡ b → IsTrue (b || list_any (λ (w : UnitName). same_unit w v) us) → (rest : List CommandNote) → (emptied time us next rest).kept ≡ None
        → (IsTrue (list_any (λ (w : UnitName). same_unit w v) us) → attachment_at (emptied time us next rest).left.attached v ≡ None)
        → attachment_at (emptied time us next rest).left.attached v ≡ None
    by-first true is among rest kept more =
        stays-none time us next rest v (subst (λ (w : UnitName). attachment_at (detached u s.attached) w ≡ None) (one-unit u v is) (detached-none u s.attached))
    by-first false is among rest kept more = more among

    by-said : (said : DetachSaid) → (emptied_as said u (written_in (failure_now time (subject.Unit u) own) u s) (λ more. emptied time us next more) own).kept ≡ None
        → ((rest : List CommandNote) → (emptied time us next rest).kept ≡ None → attachment_at (emptied time us next rest).left.attached v ≡ None)
        → attachment_at (emptied_as said u (written_in (failure_now time (subject.Unit u) own) u s) (λ more. emptied time us next more) own).left.attached v ≡ None
    by-said HadNone kept more = more own kept
    by-said (Detached None) kept more = more own kept
    by-said (Detached (Some f)) kept more = more (drop 1 own) kept
    by-said (StillHeld f) kept more = absurd (cc)

-- ---- a unit has kept its file: the disk, which comes first

abbrev pub AreOthers : List UnitName → Type 0
AreOthers us = AllByRecursion (λ (u : UnitName). is_disk u.kind ≡ false) us

not-held : (u : UnitName) (s : Filed) (fault : Option Failure) (g : Failure) → is_disk u.kind ≡ false → said_in fault u s ≡ StillHeld g → ⊥
not-held u s None g other is = no-write 0 u s (attachment_at s.attached u) g is
not-held u s (Some f) g other is =
    let some = some-write 0 u s f (attachment_at s.attached u) g is in
    let both : true ≡ false = sym some.1 ∙ other in absurd (cc)

none-kept : (time : ℕ) (us : List UnitName) (s : Filed) (own : List CommandNote) → AreOthers us → (emptied time us s own).kept ≡ None
none-kept time [] s own others = ap (λ (e : Emptied). e.kept) (emptied-nothing time s own)
none-kept time (u ∷ us) s own others =
    ap (λ (e : Emptied). e.kept) (one-step time u us s own)
    ∙ by-said (says_of time u s own) refl (λ rest. none-kept time us (without_file (failure_now time (subject.Unit u) own) u s) rest others.1)
  where
    by-said : (said : DetachSaid) → says_of time u s own ≡ said → ((rest : List CommandNote) → (emptied time us (without_file (failure_now time (subject.Unit u) own) u s) rest).kept ≡ None)
        → (emptied_as said u (written_in (failure_now time (subject.Unit u) own) u s) (λ more. emptied time us (without_file (failure_now time (subject.Unit u) own) u s) more) own).kept ≡ None
    by-said HadNone is more = more own
    by-said (Detached None) is more = more own
    by-said (Detached (Some f)) is more = more (drop 1 own)
    by-said (StillHeld f) is more = absurd (not-held u s _ f others.0 is)

-- the one note is that of its write, whatever comes behind
pub record IsKept (time : ℕ) (u : UnitName) (us : List UnitName) (s : Filed) (own : List CommandNote) (k : UnitName) : Type 0 where
  pub unit_is : k ≡ u
  pub note : CommandNote
  pub own_is : own ≡ note ∷ []
  pub subject_is : note.subject ≡ subject.Unit u
  pub call : note.failure.call ≡ Write
  pub always : (behind : List CommandNote) → emptied time (u ∷ us) s (note ∷ behind) ≡ record { left = written_in (failure_now time (subject.Unit u) (note ∷ [])) u s; used = 1; kept = Some u }

some-same : (a b : UnitName) → Some a ≡ Some b → b ≡ a
some-same a b is = cc

kept-is : (time : ℕ) (u : UnitName) (us : List UnitName) (s : Filed) (own : List CommandNote) (k : UnitName) → AreOthers us → (emptied time (u ∷ us) s own).used ≡ length own
    → (emptied time (u ∷ us) s own).kept ≡ Some k → IsKept time u us s own k
kept-is time u us s own k others used kept =
    by-said own (says_of time u s own) refl (sym (ap (λ (e : Emptied). e.used) (one-step time u us s own)) ∙ used) (sym (ap (λ (e : Emptied). e.kept) (one-step time u us s own)) ∙ kept)
  where
    none-some : (x : Option UnitName) → x ≡ None → x ≡ Some k → ⊥
    none-some x none some = absurd (cc)

    by-said : (own : List CommandNote) (said : DetachSaid) → says_of time u s own ≡ said
        → (emptied_as said u (written_in (failure_now time (subject.Unit u) own) u s) (λ more. emptied time us (without_file (failure_now time (subject.Unit u) own) u s) more) own).used ≡ length own
        → (emptied_as said u (written_in (failure_now time (subject.Unit u) own) u s) (λ more. emptied time us (without_file (failure_now time (subject.Unit u) own) u s) more) own).kept ≡ Some k
        → IsKept time u us s own k
    by-said own HadNone is used kept = absurd (none-some _ (none-kept time us _ own others) kept)
    by-said own (Detached None) is used kept = absurd (none-some _ (none-kept time us _ own others) kept)
    by-said own (Detached (Some f)) is used kept = absurd (none-some _ (none-kept time us _ (drop 1 own) others) kept)
    by-said [] (StillHeld f) is used kept = absurd (no-write time u s (attachment_at s.attached u) f is)
    by-said (n ∷ []) (StillHeld f) is used kept =
        let first = write-first time u s n [] f is in
        record {
          unit_is = some-same u k kept;
          note = n;
          own_is = refl;
          subject_is = first.0.subject_is;
          call = first.1;
          always = λ behind. emptied-more time u us s (n ∷ behind) (failure_now time (subject.Unit u) (n ∷ [])) (StillHeld f) refl is;
        }
    by-said (n ∷ m ∷ own) (StillHeld f) is used kept = absurd (omega (arith, used))

-- ---- the files of all units

-- the note of a refusal, with those of closings behind it
pub refused-first : (who : Subject) (own : FaultNote) (behind : List FaultNote) → IsRefusalOf who own → AllByRecursion (IsClosingOf who) behind
    → AreRefusalOf who (own ∷ behind)
refused-first who own behind refused later =
    record { before = []; own = own; behind = behind; are = refl; refused = refused; earlier = tt; later = later }

stamped : (number time : ℕ) (us : List UnitName) (written : Bool) (attached : List (Option Attachment)) (kept : List FaultNote) (own : List CommandNote)
    → notes_said kept ≡ numbered number own → AllByRecursion (IsOneOf time us written attached) own → AllByRecursion (IsStamped number time) kept
stamped number time us written attached [] own said all = tt
stamped number time us written attached (k ∷ kept) [] said all = absurd (cc)
stamped number time us written attached (k ∷ kept) (n ∷ own) said all =
    let first : said_of k ≡ record { command = number; note = n } = cc in
    let rest : notes_said kept ≡ numbered number own = cc in
    ((ap (λ (x : Note). x.command) first, ap (λ (x : Note). x.note.time) first ∙ all.0.time_is), stamped number time us written attached kept own rest all.1)

all-closings : (number : ℕ) (kept : List FaultNote) (own : List CommandNote) → notes_said kept ≡ numbered number own → AllByRecursion (λ (n : CommandNote). n.failure.call ≡ Closing) own → AllClosings kept
all-closings number [] own said all = tt
all-closings number (k ∷ kept) [] said all = absurd (cc)
all-closings number (k ∷ kept) (n ∷ own) said all =
    let first : said_of k ≡ record { command = number; note = n } = cc in
    let rest : notes_said kept ≡ numbered number own = cc in
    (ap (λ (x : Note). x.note.failure.call) first ∙ all.0, all-closings number kept own rest all.1)

come-behind : (live : Live) (own : List CommandNote) → AllByRecursion (IsOneOf live.machine.time attachable live.machine.disk.written (attached_in live.machine)) own → ComeBehind live own
come-behind live [] all = tt
come-behind live (n ∷ own) all =
    let o = all.0 in
    (record { unit = o.unit; subject_is = o.subject_is; among = o.among; call = o.call; there = o.there }, come-behind live own all.1)

pub said-append : (before kept : List FaultNote) → notes_said (before ++ kept) ≡ notes_said before ++ notes_said kept
said-append [] kept = refl
said-append (n ∷ before) kept = ap (λ (l : List Note). said_of n ∷ l) (said-append before kept)

same-length : (number : ℕ) (kept : List FaultNote) (own : List CommandNote) → notes_said kept ≡ numbered number own → length kept ≡ length own
same-length number [] [] said = refl
same-length number [] (n ∷ own) said = absurd (cc)
same-length number (k ∷ kept) [] said = absurd (cc)
same-length number (k ∷ kept) (n ∷ own) said =
    let rest : notes_said kept ≡ numbered number own = cc in
    ap suc (same-length number kept own rest)

-- the emptying that a call has claimed, of what commands work on
module _ (step : Type 0) (number time : ℕ) (live : Live) (from to : Filed) (k : Option UnitName) (before after : List FaultNote) (old now : FileState)
    (at : time ≡ live.machine.time) (are : from ≡ filed_in live) (e : Empties step number time attachable from to k before after old now) where
  abbrev made : Filed
  made = record to { files = e.left live.files }

  all-is : emptied_all e.own live ≡ record { left = made; used = length e.own; kept = k }
  all-is =
      ap (λ (t : ℕ). emptied t attachable (filed_in live) e.own) (sym at)
      ∙ ap (λ (s : Filed). emptied time attachable (record s { files = live.files }) e.own) (sym are)
      ∙ e.is live.files

  -- but for the files
  same-left : (j : Option UnitName) → left_by j to live ≡ record (left_by j made live) { files = to.files }
  same-left None = refl
  same-left (Some u) = refl

  left-files : (j : Option UnitName) → (left_by j to live).files ≡ to.files
  left-files None = refl
  left-files (Some u) = refl

  made-files : (j : Option UnitName) → e.left live.files ≡ (left_by j made live).files
  made-files None = refl
  made-files (Some u) = refl

  pub closes-of : (new : Live) → new ≡ left_by k to live → ClosesFiles step number live new k (notes_said before) (notes_said after)
  closes-of new left =
      let used : (emptied_all e.own live).used ≡ length e.own = ap (λ (x : Emptied). x.used) all-is in
      record {
        own = e.own;
        kept = ap notes_said e.added ∙ said-append before e.kept ∙ ap (λ (l : List Note). notes_said before ++ l) e.said;
        used = used;
        keeps = ap (λ (x : Emptied). x.kept) all-is;
        after =
            let files : new.files ≡ to.files = ap (λ (l : Live). l.files) left ∙ left-files k in
            left ∙ same-left k ∙ ap (λ (fs : List NamedBytes). record (left_by k made live) { files = fs }) (sym files)
            ∙ ap (λ (x : Emptied). record (filed_live x live) { files = new.files }) (sym all-is);
        content = λ s.
            ap (λ (l : Live). l.files) left ∙ left-files k ∙ e.content s ∙ ap e.left (ap (λ (x : Filed). x.files) are) ∙ made-files k
            ∙ ap (λ (x : Emptied). (filed_live x live).files) (sym all-is);
        behind = come-behind live e.own (are-of live.machine.time attachable (filed_in live) e.own used);
      }

pub none-other : AreOthers (record { kind = Mta; unit = 0 } ∷ record { kind = Mta; unit = 1 } ∷ record { kind = Mta; unit = 2 } ∷ record { kind = Mta; unit = 3 } ∷ record { kind = Mta; unit = 4 } ∷ record { kind = Mta; unit = 5 } ∷ record { kind = Mta; unit = 6 } ∷ record { kind = Mta; unit = 7 } ∷ record { kind = Lpt; unit = 0 } ∷ record { kind = Ptr; unit = 0 } ∷ record { kind = Ptp; unit = 0 } ∷ [])
none-other = (refl, (refl, (refl, (refl, (refl, (refl, (refl, (refl, (refl, (refl, (refl, tt)))))))))))

-- a unit that has kept its file is the disk, and then only files have changed
kept-left : (step : Type 0) (number time : ℕ) (from to : Filed) (u : UnitName) (before after : List FaultNote) (old now : FileState) → Empties step number time attachable from to (Some u) before after old now
    → (to.attached ≡ from.attached) × (to.disk ≡ from.disk)
kept-left step number time from to u before after old now e =
    let used : (emptied time attachable from e.own).used ≡ length e.own = ap (λ (x : Emptied). x.used) (e.is from.files) in
    let is = kept-is time _ _ from e.own u none-other used (ap (λ (x : Emptied). x.kept) (e.is from.files)) in
    let left : record to { files = e.left from.files } ≡ written_in _ _ from = sym (ap (λ (x : Emptied). x.left) (e.is from.files)) ∙ ap (λ (l : List CommandNote). (emptied time attachable from l).left) is.own_is ∙ ap (λ (x : Emptied). x.left) (is.always []) in
    (ap (λ (s : Filed). s.attached) left, ap (λ (s : Filed). s.disk) left)

-- a machine with what is attached to it
same-attached : (m : MachineState) → with_attached (erased m) (attached_in (erased m)) ≡ erased m
same-attached m = ap (λ (l : List (Option Held)). record (erased m) { slots = l }) (ap numberless (attached-erased m) ∙ sym (unnumbered-is m.slots))

pub left-is : (step : Type 0) (number time : ℕ) (watch : WatchState) (keys : List (ℕ × ℕ)) (files files' : List NamedBytes) (lines : LineState) (whole : List LineAnswer) (m : MachineState) (a held : AttachedFiles) (k : Option UnitName) (before after : List FaultNote) (old now : FileState)
    → held ≡ attached_files m → Empties step number time attachable (filed_of held files) (filed_of a files') k before after old now
    → seen (beside watch keys files' lines) whole (with_attached_files m a) ≡ left_by k (filed_of a files') (seen (beside watch keys files lines) whole m)
left-is step number time watch keys files files' lines whole m a held None before after old now was e = seen-with watch keys files' lines whole m a (attachments_of a.slots) a.disk refl refl
left-is step number time watch keys files files' lines whole m a held (Some u) before after old now was e =
    let same = kept-left step number time (filed_of held files) (filed_of a files') u before after old now e in
    seen-with watch keys files' lines whole m a (attached_in (erased m)) m.disk (same.0 ∙ ap (λ (x : AttachedFiles). attachments_of x.slots) was ∙ sym (attached-erased m)) (same.1 ∙ ap (λ (x : AttachedFiles). x.disk) was)
    ∙ ap (λ (x : MachineState). record (seen (beside watch keys files' lines) whole m) { machine = x }) (same-attached m)

-- the notes that are kept
pub keeps-of : (step : Type 0) (number time now : ℕ) (tells : Bool) (from to : Filed) (k : Option UnitName) (before after : List FaultNote) (old new : FileState)
    → time ≡ now → Empties step number time attachable from to k before after old new → Keeps number now tells (kept_answer k Go) before after old new
keeps-of step number time now tells from to k before after old new at e =
    let used : (emptied time attachable from e.own).used ≡ length e.own = ap (λ (x : Emptied). x.used) (e.is from.files) in
    record {
      kept = e.kept;
      added = e.added;
      few =
          let same = same-length number e.kept e.own e.said in
          let most = at-most time attachable from e.own in
          omega (arith, same, most, used);
      stamped = subst (λ (t : ℕ). AllByRecursion (IsStamped number t) e.kept) at
          (stamped number time attachable from.disk.written from.attached e.kept e.own e.said (are-of time attachable from e.own used));
      counted = e.counted;
      exact = exact-all false e.kept old new e.all;
      openings = openings-none tells (kept_answer k Go) e.kept old new (there k) e.all.openings e.counted;
      given = let same = e.all.ids in omega (arith, same);
      cause = by-keeper k e;
    }
  where
    there : (k : Option UnitName) → is_missing (kept_answer k Go) ≡ false
    there None = refl
    there (Some u) = refl

    refusal : (kept : List FaultNote) (n : CommandNote) (u : UnitName) → notes_said kept ≡ numbered number (n ∷ []) → n.subject ≡ subject.Unit u → n.failure.call ≡ Write → AreRefusalOf (subject.Unit u) kept
    refusal [] n u said of call = absurd (cc)
    refusal (x ∷ y ∷ kept) n u said of call = absurd (cc)
    refusal (x ∷ []) n u said of call =
        let first : said_of x ≡ record { command = number; note = n } = cc in
        let made : x.call ≡ Write = ap (λ (y : Note). y.note.failure.call) first ∙ call in
        refused-first (subject.Unit u) x [] (ap (λ (y : Note). y.note.subject) first ∙ of, λ closing. absurd (let both : Write ≡ Closing = sym made ∙ closing in cc)) tt

    by-keeper : (k : Option UnitName) (e : Empties step number time attachable from to k before after old new)
        → FileCause (record { command = number; time = now }) tells (kept_answer k Go) e.kept old new
    by-keeper None e =
        let used : (emptied time attachable from e.own).used ≡ length e.own = ap (λ (x : Emptied). x.used) (e.is from.files) in
        all-closings number e.kept e.own e.said (all-closing time attachable from e.own used (ap (λ (x : Emptied). x.kept) (e.is from.files)))
    by-keeper (Some u) e =
        let used : (emptied time attachable from e.own).used ≡ length e.own = ap (λ (x : Emptied). x.used) (e.is from.files) in
        let is = kept-is time _ _ from e.own u none-other used (ap (λ (x : Emptied). x.kept) (e.is from.files)) in
        refusal e.kept is.note u (e.said ∙ ap (numbered number) is.own_is) (is.subject_is ∙ ap subject.Unit (sym is.unit_is)) is.call

-- the same where the session ends then
pub keeps-exit : (number time status : ℕ) (tells : Bool) (k : Option UnitName) (before after : List FaultNote) (old new : FileState) → Keeps number time tells (kept_answer k Go) before after old new
    → Keeps number time tells (kept_answer k (Exit status)) before after old new
keeps-exit number time status tells None before after old new k =
    record {
      kept = k.kept;
      added = k.added;
      few = k.few;
      stamped = k.stamped;
      counted = k.counted;
      exact = k.exact;
      openings = record { unnoted = k.openings.unnoted; few = k.openings.few; count = k.openings.count };
      given = k.given;
      cause = k.cause;
    }
keeps-exit number time status tells (Some u) before after old new k = k

-- ---- where none has kept its file, nothing is attached, so no note comes behind

pub no-behind : (live : Live) (own behind : List CommandNote) → (emptied_all own live).kept ≡ None → ComeBehind (emptied_live (emptied_all own live) live) behind → behind ≡ []
no-behind live own [] kept come = refl
no-behind live own (n ∷ behind) kept come =
    let e = emptied_all own live in
    let at : ComeBehind (unported_by None (left_by None e.left live)) (n ∷ behind) =
    subst (λ (k : Option UnitName). ComeBehind (unported_by k (left_by k e.left live)) (n ∷ behind)) kept come in
    let first = at.0 in
    absurd (some-none (attachment_at (attached_in (left_by None e.left live).machine) first.unit)
    (ap (λ (a : List (Option Attachment)). attachment_at a first.unit) (attached-numberless e.left.attached)
    ∙ all-emptied live.machine.time attachable (filed_in live) own first.unit kept first.among) first.there)

-- whatever comes behind, it is the same
unmoved : (live : Live) (own behind : List CommandNote) (k : Option UnitName) → (emptied_all own live).used ≡ length own → (emptied_all own live).kept ≡ k
    → ComeBehind (emptied_live (emptied_all own live) live) behind → emptied_all (own ++ behind) live ≡ emptied_all own live
unmoved live own behind None used kept come =
    ap (λ (l : List CommandNote). emptied_all (own ++ l) live) (no-behind live own behind kept come) ∙ ap (λ (l : List CommandNote). emptied_all l live) (append-nil own)
unmoved live own behind (Some u) used kept come =
    let is = kept-is live.machine.time _ _ (filed_in live) own u none-other used kept in
    ap (λ (l : List CommandNote). emptied_all (l ++ behind) live) is.own_is ∙ is.always behind ∙ sym (is.always []) ∙ sym (ap (λ (l : List CommandNote). emptied_all l live) is.own_is)

pub all-did : (step : Type 0) (next : Next) (number : ℕ) (live new : Live) (k : Option UnitName) (tells : Bool) (text : Output) (notes notes' : List Note) → bare_answer (Ok next) ≡ Ok next
    → ((at : Standing) (reply : Reply) → (bare_answer (Ok next) ≡ reply.answer) × IsSaid reply at tells text text → Does reply (Ok next) at tells text text)
    → Closes step number live new k notes notes' → step → Did (λ (own : List CommandNote). emptied_reply next (emptied_all own live) live) number (kept_answer k next) new tells text text notes notes'
all-did step next number live new k tells text notes notes' plain does closes steps = record {
  own = closes.own;
  kept = closes.kept;
  does = λ behind come.
      let same = unmoved live closes.own behind k closes.used closes.keeps (subst (λ (l : Live). ComeBehind l behind) after come) in
      let e = emptied_all closes.own live in
      subst (λ (x : Emptied). Does (emptied_reply next x live) (kept_answer k next) (standing (length closes.own) new) tells text text) (sym same)
      (by-keeper k (sym (ap (λ (x : Option UnitName). kept_answer x next) closes.keeps)) (record {
        after_is = λ i. standing (sym closes.used i) (after i);
        written = λ _. sym (append-nil text.console);
        heard = sym (heard-nothing text.heard);
      }));
}
  where
    after : new ≡ emptied_live (emptied_all closes.own live) live
    after =
        closes.after
        ∙ ap (λ (fs : List NamedBytes). record (emptied_live (emptied_all closes.own live) live) { files = fs }) (closes.content steps)

    by-keeper : (k : Option UnitName) → kept_answer k next ≡ (emptied_reply next (emptied_all closes.own live) live).answer
        → IsSaid (emptied_reply next (emptied_all closes.own live) live) (standing (length closes.own) new) tells text text
        → Does (emptied_reply next (emptied_all closes.own live) live) (kept_answer k next) (standing (length closes.own) new) tells text text
    by-keeper None is said = does _ _ (plain ∙ is, said)
    by-keeper (Some u) is said = (is, said)

-- ---- behind the files, the ports of the terminal lines

-- no unit has kept its file: the ports are given up
pub closes-ported : (step : Type 0) (number : ℕ) (live mid new : Live) (notes notes' : List Note) → ClosesFiles step number live mid None notes notes'
    → new ≡ unported_by None mid → Closes step number live new None notes notes'
closes-ported step number live mid new notes notes' closes is = record {
  own = closes.own;
  kept = closes.kept;
  used = closes.used;
  keeps = closes.keeps;
  after =
      let left = filed_live (emptied_all closes.own live) live in
      is ∙ ap (unported_by None) closes.after
      ∙ ap (λ (fs : List NamedBytes). record (unported_by None left) { files = fs }) (sym (ap (λ (l : Live). l.files) is))
      ∙ ap (λ (k : Option UnitName). record (unported_by k left) { files = new.files }) (sym closes.keeps);
  content = λ s.
      ap (λ (l : Live). l.files) is ∙ closes.content s
      ∙ ap (λ (k : Option UnitName). (unported_by k (filed_live (emptied_all closes.own live) live)).files) (sym closes.keeps);
  behind = closes.behind;
}

-- one has kept it, and the lines keep theirs
pub closes-kept : (step : Type 0) (number : ℕ) (live new : Live) (unit : UnitName) (notes notes' : List Note) → ClosesFiles step number live new (Some unit) notes notes'
    → Closes step number live new (Some unit) notes notes'
closes-kept step number live new unit notes notes' closes = record {
  own = closes.own;
  kept = closes.kept;
  used = closes.used;
  keeps = closes.keeps;
  after =
      closes.after
      ∙ ap (λ (k : Option UnitName). record (unported_by k (filed_live (emptied_all closes.own live) live)) { files = new.files }) (sym closes.keeps);
  content = λ s.
      closes.content s
      ∙ ap (λ (k : Option UnitName). (unported_by k (filed_live (emptied_all closes.own live) live)).files) (sym closes.keeps);
  behind = closes.behind;
}
