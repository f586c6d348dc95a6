-- Units lose their files one behind another, and each call that fails is one note.
use Rattle.std.proofs.Common.{◌≡◌, ◌==◌, ◌&&◌, ◌||◌, ℕ, ◌+◌, suc, Bool, true, false, IsTrue, List, [], ◌∷◌, ◌++◌, length, Option, Some, None, IfSome, Result, Ok, Err, OnErr, All, ◌≤◌}
use Rattle.std.proofs.Common.{append_assoc, append-nil, refl, ap, sym, ◌∙◌, subst, arith, if◌then◌else◌}
use Rattle.std.specs.List.{AllByRecursion}
use Rattle.std.proofs.lemmas.Bool.Decides.{nat_tests}
use Rattle.file_traits.specs.Lists.{NamedBytes}
use Rattle.file_traits.specs.State.{FileState}
use Rattle.unit_trait.specs.declared.kind.UnitName.{UnitName}
use Rattle.unit_trait.specs.Kinds.{same_unit}
use Rattle.unit_files.specs.declared.faults.UnitFault.{UnitFault}
use Rattle.unit_files.specs.declared.faults.DetachFault.{DetachFault}
use Rattle.unit_files.specs.declared.faults.DetachFault.TheVariants as detach
use Rattle.unit_files.specs.Attachments.{Held, attachment_at, held_at, is_disk}
use Rattle.unit_files.specs.Causes.{DetachCause}
use Rattle.unit_files.specs.Buffer.{AttachedFiles}
use Rattle.unit_files.specs.Acts.{Failure, DetachSaid, HadNone, StillHeld, Detached, detached_by, buffer_left, flush_files}
use Rattle.unit_files.specs.Answers.{failure_in, said_of_detach}
use Rattle.file_commands.specs.declared.note.Subject.{Subject}
use Rattle.file_commands.specs.declared.note.Subject.TheVariants as subject
use Rattle.file_commands.specs.declared.note.FaultNote.{FaultNote}
use Rattle.file_commands.specs.Notes.{CommandNote, Note, same_subject, failure_now, notes_said, said_of}
use Rattle.file_commands.specs.Counts.{AreCounted, AreAll}
use Rattle.file_commands.proofs.Adding.{counted-both, counted-none, all-both, all-none}
use Rattle.file_commands.specs.declared.stamp.Stamp.{Stamp}
use Rattle.file_commands.specs.Kept.{fault_note, fault_of_detach, kept_of, own_of, own_note}
use Rattle.file_commands.specs.AllUnits.{AreApart, AreNoDisk, IsDiskFirst, Filed, Emptied, more_used, emptied_as, said_in, written_in, without_file, emptied, flush_fault, is_one_of, Empties, IsUnwritten}
use Rattle.unit_trait.proofs.Codes.{same-self}

said-append : (first second : List FaultNote) → notes_said (first ++ second) ≡ notes_said first ++ notes_said second
said-append [] second = refl
said-append (n ∷ first) second = ap (λ (l : List Note). said_of n ∷ l) (said-append first second)

-- ---- a note of a later unit is none of this one

away-subject : (u v : UnitName) (s : Subject) → same_unit u v ≡ false → IsTrue (same_subject s (subject.Unit v)) → same_subject s (subject.Unit u) ≡ false
away-subject u v (subject.Unit w) away is = grind (arith, nat_tests)
away-subject u v s away is = absurd (cc)

away-any : (b : Bool) (u v : UnitName) (us : List UnitName) (n : CommandNote) → same_subject n.subject (subject.Unit v) ≡ b → same_unit u v ≡ false
    → (IsTrue (is_one_of us n) → same_subject n.subject (subject.Unit u) ≡ false) → IsTrue (b || is_one_of us n) → same_subject n.subject (subject.Unit u) ≡ false
away-any true u v us n here away more is = away-subject u v n.subject away here
away-any false u v us n here away more is = more is

away : (u : UnitName) (us : List UnitName) (n : CommandNote) → AllByRecursion (λ (v : UnitName). same_unit u v ≡ false) us → IsTrue (is_one_of us n)
    → same_subject n.subject (subject.Unit u) ≡ false
away u [] n apart is = absurd (cc)
away u (v ∷ us) n apart is = away-any (same_subject n.subject (subject.Unit v)) u v us n refl apart.0 (away u us n apart.1) is

pub none-and : (b c : Bool) (f : Failure) → c ≡ false → (if b && c then Some f else None) ≡ None
none-and true false f is = refl
none-and false false f is = refl
none-and b true f is = absurd (cc)

not-this : (time : ℕ) (u : UnitName) (us : List UnitName) (own : List CommandNote) → AllByRecursion (λ (v : UnitName). same_unit u v ≡ false) us
    → AllByRecursion (λ (n : CommandNote). IsTrue (is_one_of us n)) own → failure_now time (subject.Unit u) own ≡ None
not-this time u us [] apart among = refl
not-this time u us (n ∷ own) apart among = none-and (n.time == time) (same_subject n.subject (subject.Unit u)) n.failure (away u us n apart among.0)

-- the notes of a unit with those of the others behind them
wider : (u : UnitName) (us : List UnitName) (own : List CommandNote) → AllByRecursion (λ (n : CommandNote). IsTrue (is_one_of us n)) own
    → AllByRecursion (λ (n : CommandNote). IsTrue (is_one_of (u ∷ us) n)) own
wider u us [] among = tt
wider u us (n ∷ own) among = (either (same_subject n.subject (subject.Unit u)) (is_one_of us n) among.0, wider u us own among.1)
  where
    either : (b c : Bool) → IsTrue c → IsTrue (b || c)
    either true c is = refl
    either false c is = is

pub front : (b c : Bool) → b ≡ true → IsTrue (b || c)
front true c is = refl
front false c is = absurd (cc)

-- ---- one unit, and the others

pub emptied-nothing : (time : ℕ) (s : Filed) (own : List CommandNote) → emptied time [] s own ≡ record { left = s; used = 0; kept = None }
unfolding emptied
emptied-nothing time s own = refl

pub emptied-more : (time : ℕ) (u : UnitName) (us : List UnitName) (s : Filed) (own : List CommandNote) (fault : Option Failure) (said : DetachSaid)
    → failure_now time (subject.Unit u) own ≡ fault → said_in fault u s ≡ said
    → emptied time (u ∷ us) s own ≡ emptied_as said u (written_in fault u s) (λ more. emptied time us (without_file fault u s) more) own
unfolding emptied
emptied-more time u us s own fault said met is =
    (λ i. emptied_as (said_in (met i) u s) u (written_in (met i) u s) (λ more. emptied time us (without_file (met i) u s) more) own)
    ∙ ap (λ (x : DetachSaid). emptied_as x u (written_in fault u s) (λ more. emptied time us (without_file fault u s) more) own) is

pub empties-none : (step : Type 0) (number time : ℕ) (us : List UnitName) (s : Filed) (before : List FaultNote) (now : FileState) → us ≡ [] → Empties step number time us s s None before before now now
empties-none step number time us s before now none =
    let P : List UnitName → Type 0 = λ x. Empties step number time x s s None before before now now in
    subst P (sym none) (record { own = []; kept = []; added = sym (append-nil before); said = refl; among = tt; left = λ files. files; is = λ files. emptied-nothing time (record s { files = files }) []; content = λ _. refl; counted = counted-none now; all = all-none now })

-- what the calls of one unit say
pub record Calls (step : Type 0) (stamp : Stamp) (u : UnitName) (from mid : Filed) (r : Result (Option UnitFault) DetachFault) (before after : List FaultNote) (old new : FileState) : Type 0 where
  pub said : said_of_detach r ≡ said_in (failure_now stamp.time (subject.Unit u) (own_of stamp.time (fault_of_detach r))) u from
  pub attached : mid.attached ≡ detached_by (said_of_detach r) u from.attached
  pub disk : mid.disk ≡ buffer_left (said_of_detach r) u from.disk
  pub files : step → mid.files ≡ flush_files (failure_now stamp.time (subject.Unit u) (own_of stamp.time (fault_of_detach r))) u (attachment_at from.attached u) from.disk from.files
  pub of_unit : IfSome (fault_of_detach r) (λ (f : UnitFault). f.unit ≡ u)
  pub noted : after ≡ before ++ kept_of stamp (fault_of_detach r)
  pub counted : AreCounted (kept_of stamp (fault_of_detach r)) old new
  pub all : AreAll (kept_of stamp (fault_of_detach r)) old new

by-fault : (r : Result (Option UnitFault) DetachFault) (f : UnitFault) → flush_fault r ≡ Some f → r ≡ Err (detach.Failed f)
by-fault (Ok closing) f is = absurd (cc)
by-fault (Err detach.NotAttached) f is = absurd (cc)
by-fault (Err (detach.Failed g)) f is = cc

-- its copy could not be written back: it keeps its file, and so do the others
pub empties-kept : (step : Type 0) (stamp : Stamp) (u : UnitName) (us all : List UnitName) (from mid : Filed) (r : Result (Option UnitFault) DetachFault) (f : UnitFault) (before after : List FaultNote) (old new : FileState)
    → all ≡ u ∷ us → flush_fault r ≡ Some f → Calls step stamp u from mid r before after old new → Empties step stamp.command stamp.time all from mid (Some f.unit) before after old new
empties-kept step stamp u us all from mid r f before after old new are kept calls =
    let is = by-fault r f kept in
    let P : List UnitName → Type 0 = λ x. Empties step stamp.command stamp.time x from mid (Some f.unit) before after old new in
    subst P (sym are) (of-failed (subst (λ (x : Result (Option UnitFault) DetachFault). Calls step stamp u from mid x before after old new) is calls))
  where
    of-failed : Calls step stamp u from mid (Err (detach.Failed f)) before after old new → Empties step stamp.command stamp.time (u ∷ us) from mid (Some f.unit) before after old new
    of-failed c =
        let own = own_note stamp.time f ∷ [] in
        let here : same_unit f.unit u ≡ true = ap (λ (x : UnitName). same_unit x u) c.of_unit ∙ same-self u in
        let writes : List NamedBytes → List NamedBytes = λ files. flush_files (failure_now stamp.time (subject.Unit u) own) u (attachment_at from.attached u) from.disk files in
        let behind : (files : List NamedBytes) → written_in (failure_now stamp.time (subject.Unit u) own) u (record from { files = files }) ≡ record mid { files = writes files } =
        λ files. λ i. record { attached = sym c.attached i; disk = sym c.disk i; files = writes files } in
        record {
          own = own;
          kept = fault_note stamp f ∷ [];
          added = c.noted;
          said = refl;
          among = (front (same_unit f.unit u) _ here, tt);
          left = writes;
          is = λ files. emptied-more stamp.time u us (record from { files = files }) own _ (StillHeld (failure_in f)) refl (sym c.said) ∙ (λ i. record { left = behind files i; used = 1; kept = Some (sym c.of_unit i) });
          content = c.files;
          counted = c.counted;
          all = c.all;
        }

-- it has none behind that, and the others follow
pub empties-more : (step later : Type 0) (stamp : Stamp) (u : UnitName) (us all : List UnitName) (from mid to : Filed) (r : Result (Option UnitFault) DetachFault) (kept_by : Option UnitName)
    (before between after : List FaultNote) (s1 s2 s3 : FileState) → all ≡ u ∷ us → AllByRecursion (λ (v : UnitName). same_unit u v ≡ false) us
    → flush_fault r ≡ None → (step → later) → Calls step stamp u from mid r before between s1 s2
    → Empties later stamp.command stamp.time us mid to kept_by between after s2 s3 → Empties step stamp.command stamp.time all from to kept_by before after s1 s3
empties-more step later stamp u us all from mid to r kept_by before between after s1 s2 s3 are apart goes next calls rest =
    let P : List UnitName → Type 0 = λ x. Empties step stamp.command stamp.time x from to kept_by before after s1 s3 in
    subst P (sym are) (by-answer r goes calls)
  where
    time : ℕ
    time = stamp.time

    writes : Option Failure → List NamedBytes → List NamedBytes
    writes fault files = flush_files fault u (attachment_at from.attached u) from.disk files

    mid-is : (fault : Option Failure) (said : DetachSaid) → said ≡ said_in fault u from → mid.attached ≡ detached_by said u from.attached → mid.disk ≡ buffer_left said u from.disk
        → ((f : Failure) → said ≡ StillHeld f → ⊥) → (files : List NamedBytes) → without_file fault u (record from { files = files }) ≡ record mid { files = writes fault files }
    mid-is fault (StillHeld f) says attached disk other files = absurd (other f refl)
    mid-is fault HadNone says attached disk other files =
        λ i. record { attached = sym attached i; disk = (sym (disk ∙ ap (λ (x : DetachSaid). buffer_left x u from.disk) says)) i; files = writes fault files }
    mid-is fault (Detached f) says attached disk other files =
        λ i. record { attached = sym attached i; disk = (sym (disk ∙ ap (λ (x : DetachSaid). buffer_left x u from.disk) says)) i; files = writes fault files }

    joined : (r : Result (Option UnitFault) DetachFault) → Calls step stamp u from mid r before between s1 s2 → after ≡ before ++ (kept_of stamp (fault_of_detach r) ++ rest.kept)
    joined r c = rest.added ∙ ap (λ (l : List FaultNote). l ++ rest.kept) c.noted ∙ append_assoc before (kept_of stamp (fault_of_detach r)) rest.kept

    quiet : failure_now time (subject.Unit u) rest.own ≡ None
    quiet = not-this time u us rest.own apart rest.among

    -- a unit without a note of its own
    of-quiet : (r : Result (Option UnitFault) DetachFault) → fault_of_detach r ≡ None → Calls step stamp u from mid r before between s1 s2
        → ((rest_of : List CommandNote → Emptied) (files : List NamedBytes) → emptied_as (said_of_detach r) u (written_in None u (record from { files = files })) rest_of rest.own ≡ rest_of rest.own)
        → ((f : Failure) → said_of_detach r ≡ StillHeld f → ⊥) → Empties step stamp.command time (u ∷ us) from to kept_by before after s1 s3
    of-quiet r none c follows other =
        let says : said_of_detach r ≡ said_in None u from = c.said ∙ ap (λ (o : Option UnitFault). said_in (failure_now time (subject.Unit u) (own_of time o)) u from) none in
        let left : step → mid.files ≡ writes None from.files = λ in_step. c.files in_step ∙ ap (λ (o : Option UnitFault). writes (failure_now time (subject.Unit u) (own_of time o)) from.files) none in
        let same = mid-is None (said_of_detach r) says c.attached c.disk other in
        let kept_is : kept_of stamp (fault_of_detach r) ≡ [] = ap (kept_of stamp) none in
        record {
          own = rest.own;
          kept = rest.kept;
          added = joined r c ∙ ap (λ (l : List FaultNote). before ++ (l ++ rest.kept)) kept_is;
          said = rest.said;
          among = wider u us rest.own rest.among;
          left = λ files. rest.left (writes None files);
          is = λ files. emptied-more time u us (record from { files = files }) rest.own None (said_of_detach r) quiet (sym says)
              ∙ follows (λ more. emptied time us (without_file None u (record from { files = files })) more) files
              ∙ ap (λ (x : Filed). emptied time us x rest.own) (same files) ∙ rest.is (writes None files);
          content = λ in_step. rest.content (next in_step) ∙ ap rest.left (left in_step);
          counted = subst (λ (l : List FaultNote). AreCounted (l ++ rest.kept) s1 s3) kept_is (counted-both (kept_of stamp (fault_of_detach r)) rest.kept s1 s2 s3 c.counted rest.counted);
          all = subst (λ (l : List FaultNote). AreAll (l ++ rest.kept) s1 s3) kept_is (all-both (kept_of stamp (fault_of_detach r)) rest.kept s1 s2 s3 c.all rest.all);
        }

    of-noted : (f : UnitFault) → Calls step stamp u from mid (Ok (Some f)) before between s1 s2 → Empties step stamp.command time (u ∷ us) from to kept_by before after s1 s3
    of-noted f c =
        let own = own_note time f ∷ rest.own in
        let here : same_unit f.unit u ≡ true = ap (λ (x : UnitName). same_unit x u) c.of_unit ∙ same-self u in
        let fault = failure_now time (subject.Unit u) (own_of time (Some f)) in
        let same = mid-is fault (Detached (Some (failure_in f))) c.said c.attached c.disk (λ g is. absurd (cc)) in
        record {
          own = own;
          kept = fault_note stamp f ∷ rest.kept;
          added = joined (Ok (Some f)) c;
          said = ap (λ (l : List Note). said_of (fault_note stamp f) ∷ l) rest.said;
          among = (front (same_unit f.unit u) _ here, wider u us rest.own rest.among);
          left = λ files. rest.left (writes fault files);
          is = λ files. emptied-more time u us (record from { files = files }) own fault (Detached (Some (failure_in f))) refl (sym c.said)
              ∙ ap (λ (x : Filed). more_used 1 (emptied time us x rest.own)) (same files) ∙ ap (more_used 1) (rest.is (writes fault files))
              ∙ (λ i. record { left = record to { files = rest.left (writes fault files) }; used = one-more (length rest.own) i; kept = kept_by });
          content = λ in_step. rest.content (next in_step) ∙ ap rest.left (c.files in_step);
          counted = counted-both (kept_of stamp (Some f)) rest.kept s1 s2 s3 c.counted rest.counted;
          all = all-both (kept_of stamp (Some f)) rest.kept s1 s2 s3 c.all rest.all;
        }
      where
        one-more : (n : ℕ) → 1 + n ≡ suc n
        one-more n = omega arith

    by-answer : (r : Result (Option UnitFault) DetachFault) → flush_fault r ≡ None → Calls step stamp u from mid r before between s1 s2
        → Empties step stamp.command time (u ∷ us) from to kept_by before after s1 s3
    by-answer (Ok None) goes c = of-quiet (Ok None) refl c (λ rest_of files. refl) (λ f is. absurd (cc))
    by-answer (Err detach.NotAttached) goes c = of-quiet (Err detach.NotAttached) refl c (λ rest_of files. refl) (λ f is. absurd (cc))
    by-answer (Err (detach.Failed f)) goes c = absurd (cc)
    by-answer (Ok (Some f)) goes c = of-noted f c

pub nothing-left : {A : Type 0} (xs : List A) → length xs ≡ 0 → xs ≡ []
nothing-left [] none = refl
nothing-left (x ∷ xs) none = absurd (omega (arith, none))

pub all-tail : (P : UnitName → Type 0) (u : UnitName) (us all : List UnitName) → all ≡ u ∷ us → All P all → All P us
all-tail P u us all are each =
    let here : All P (u ∷ us) = subst (λ (l : List UnitName). All P l) are each in
    λ k d low. here (suc k) d (omega (arith, low))

pub apart-tail : (u : UnitName) (us all : List UnitName) → all ≡ u ∷ us → AreApart all → AreApart us
apart-tail u us all are apart = (subst (λ (l : List UnitName). AreApart l) are apart).1

pub later-first : (u : UnitName) (us all : List UnitName) → all ≡ u ∷ us → IsDiskFirst all → AreNoDisk us
later-first u us all are first = subst (λ (l : List UnitName). IsDiskFirst l) are first

pub no-disk-first : (us : List UnitName) → AreNoDisk us → IsDiskFirst us
no-disk-first [] none = tt
no-disk-first (u ∷ us) none = none.1

pub no-disk-tail : (u : UnitName) (us all : List UnitName) → all ≡ u ∷ us → AreNoDisk all → (is_disk u.kind ≡ false) × AreNoDisk us
no-disk-tail u us all are none = subst (λ (l : List UnitName). AreNoDisk l) are none

pub apart-head : (u : UnitName) (us all : List UnitName) → all ≡ u ∷ us → AreApart all → AllByRecursion (λ (v : UnitName). same_unit u v ≡ false) us
apart-head u us all are apart = (subst (λ (l : List UnitName). AreApart l) are apart).0

-- ---- why a unit has kept its file

pub unwritten-here : (stamp : Stamp) (u : UnitName) (r : Result (Option UnitFault) DetachFault) (f : UnitFault) (slots kept : List (Option Held)) (before after : List FaultNote) (old new : FileState)
    → flush_fault r ≡ Some f → DetachCause r u slots old new → kept ≡ slots → after ≡ before ++ kept_of stamp (fault_of_detach r) → IsUnwritten kept after old new
unwritten-here stamp u r f slots kept before after old new failed cause same noted =
    let is = by-fault r f failed in
    let because : DetachCause (Err (detach.Failed f)) u slots old new = subst (λ (x : Result (Option UnitFault) DetachFault). DetachCause x u slots old new) is cause in
    let fault = because.fault in
    record {
      unit = u;
      disk = because.disk;
      held = fault.held;
      there = ap (λ (x : List (Option Held)). held_at x u) same ∙ fault.there;
      earlier = before;
      note = fault_note stamp f;
      last = noted ∙ ap (λ (x : Result (Option UnitFault) DetachFault). before ++ kept_of stamp (fault_of_detach x)) is;
      subject_is = ap subject.Unit fault.unit_is;
      call_is = because.call;
      id = fault.id;
      file_is = fault.file_is;
      id_is = fault.id_is;
      rose = let rose = fault.rose in omega (arith, rose);
    }

pub kept-whole : (r : Result (Option UnitFault) DetachFault) (f : UnitFault) (new old : AttachedFiles) → flush_fault r ≡ Some f → OnErr r (new ≡ old) → new ≡ old
kept-whole r f new old failed refused = subst (λ (x : Result (Option UnitFault) DetachFault). OnErr x (new ≡ old)) (by-fault r f failed) refused

-- the same over a longer span, in which no count has fallen
pub unwritten-since : (slots : List (Option Held)) (notes : List FaultNote) (old mid new : FileState) → ((file : ℕ) → old.faults file ≤ mid.faults file)
    → IsUnwritten slots notes mid new → IsUnwritten slots notes old new
unwritten-since slots notes old mid new later u =
    let was = later u.held.file in
    let rose = u.rose in
    record {
      unit = u.unit;
      disk = u.disk;
      held = u.held;
      there = u.there;
      earlier = u.earlier;
      note = u.note;
      last = u.last;
      subject_is = u.subject_is;
      call_is = u.call_is;
      id = u.id;
      file_is = u.file_is;
      id_is = u.id_is;
      rose = omega (arith, was, rose);
    }

pub still-unwritten : (r : Result (Unit {0}) UnitFault) (slots : List (Option Held)) (notes kept : List FaultNote) (old mid new : FileState) → AreCounted kept old mid
    → OnErr r (IsUnwritten slots notes mid new) → OnErr r (IsUnwritten slots notes old new)
still-unwritten (Ok u) slots notes kept old mid new counted is = tt
still-unwritten (Err f) slots notes kept old mid new counted is = unwritten-since slots notes old mid new (λ file. (counted.files file).0) is
