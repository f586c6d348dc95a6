-- A file that is read piece by piece, and the digest of a unit's file behind a writing back.
use Rattle.std.proofs.Common.{◌≡◌, ℕ, Bool, true, false, List, refl, ap, sym, ◌∙◌, arith, Option, Some, None, Result, Ok, Err, inl, subst, if◌then◌else◌}
use Rattle.std.specs.Prelude.{IfSome}
use Rattle.fault_counts.specs.Faults.{raised}
use Rattle.file_traits.specs.declared.files.FileCall.TheVariants.{Write}
use Rattle.file_traits.specs.Lists.{NamedBytes, bytes_of, changed}
use Rattle.file_traits.specs.State.{FileState}
use Rattle.unit_trait.specs.declared.kind.UnitName.{UnitName}
use Rattle.file_digests.specs.declared.digest.FileDigest.{FileDigest}
use Rattle.unit_files.specs.declared.faults.UnitFault.{UnitFault}
use Rattle.unit_files.specs.declared.faults.DetachFault.{DetachFault}
use Rattle.unit_files.specs.declared.faults.DetachFault.TheVariants as detach
use Rattle.unit_files.specs.Attachments.{Attachment, Held, held_at}
use Rattle.unit_files.specs.InStep.{written_pages, pages_flushed, marks_flushed}
use Rattle.unit_files.specs.Buffer.{Buffer}
use Rattle.unit_files.specs.Acts.{Failure, failure_at, is_due_back, piece_of, written_over, flushed_as, flush_failure, flush_said, flush_files, buffer_flushed, FlushSaid, HasNone, NotFlushed, Flushed}
use Rattle.unit_files.specs.Answers.{failure_in, said_of_flush, failure_of_flush}
use Rattle.unit_files.specs.Causes.{IsQuiet, IsFaultOf, FlushCause}
use Rattle.unit_files.specs.Digests.{DigestSaid, digest_measured, digest_said, digest_flushed, behind_flush, buffer_digested, marks_digested, said_of_digest, failure_of_digest, MayDigest, DigestCause}
use Rattle.unit_files.specs.Shapes.{IsPart}

-- ---- behind a writing back that did not fail

-- what is written back where the failing call is another one is what is written back where none fails
same-said : (fault : Option Failure) (unit : UnitName) (a : Option Attachment) (disk : Buffer)
    → failure_at Write fault ≡ None → flush_said fault unit a disk ≡ flush_said None unit a disk
same-said fault unit None disk is = refl
same-said fault unit (Some a) disk is =
    ap (λ (f : Option Failure). flushed_as (if is_due_back unit disk then f else None)) is

pub same-files : (fault : Option Failure) (unit : UnitName) (a : Option Attachment) (disk : Buffer)
    (files : List NamedBytes) → failure_at Write fault ≡ None
    → flush_files fault unit a disk files ≡ flush_files None unit a disk files
unfolding flush_files
same-files fault unit None disk files is = refl
same-files fault unit (Some a) disk files is =
    ap (λ (f : Option Failure). if is_due_back unit disk then changed files a.name (λ (old : List ℕ). written_over f
    disk.bytes old) else files) is

pub same-pages : (fault : Option Failure) (unit : UnitName) (a : Option Attachment) (disk : Buffer) (marks : List Bool)
    (files : List NamedBytes) → failure_at Write fault ≡ None
    → pages_flushed fault unit a disk marks files ≡ pages_flushed None unit a disk marks files
unfolding pages_flushed
same-pages fault unit None disk marks files is = refl
same-pages fault unit (Some a) disk marks files is =
    ap (λ (f : Option Failure). if is_due_back unit disk then changed files a.name (λ (old : List ℕ). written_pages
    marks 0 (piece_of f disk.bytes) old) else files) is

module _ (fault : Option Failure) (unit : UnitName) (a : Option Attachment) (disk : Buffer)
    (other : failure_at Write fault ≡ None) (flushed : Flushed ≡ flush_said None unit a disk) where
  is-flushed : Flushed ≡ flush_said fault unit a disk
  is-flushed = flushed ∙ sym (same-said fault unit a disk other)

  pub read-behind : (said : DigestSaid) (files : List NamedBytes) → said ≡ digest_flushed fault a files
      → said ≡ behind_flush (flush_said fault unit a disk) (digest_flushed fault a files)
  read-behind said files is = is ∙ (λ i. behind_flush (is-flushed i) (digest_flushed fault a files))

  pub disk-behind : buffer_flushed Flushed unit disk ≡ buffer_digested fault unit a disk
  disk-behind = ap (λ (s : FlushSaid). buffer_flushed s unit disk) is-flushed

  pub marks-behind : (marks : List Bool) → marks_flushed Flushed unit marks ≡ marks_digested fault unit a disk marks
  marks-behind marks = ap (λ (s : FlushSaid). marks_flushed s unit marks) is-flushed

pub may-behind : (result : Result FileDigest DetachFault) (unit : UnitName) (a b : Option Attachment) (disk : Buffer)
    → b ≡ a → MayDigest result unit b disk → MayDigest result unit a disk
may-behind result unit a b disk same = subst (λ (x : Option Attachment). MayDigest result unit x disk) same

-- a call that wrote nothing wrote no more than there is
pub nothing-written : (fault : Option Failure) (disk : Buffer) → IfSome fault (λ f. f.done ≡ 0) → IsPart fault disk
nothing-written None disk is = is
nothing-written (Some f) disk is = omega (arith, is)

quiet-both : (old mid new : FileState) → IsQuiet old mid → IsQuiet mid new → IsQuiet old new
quiet-both old mid new first last = record {
  counts = last.counts ∙ first.counts;
  openings = last.openings ∙ first.openings;
  ids = last.ids ∙ first.ids;
}

quiet-fault : (f : UnitFault) (unit : UnitName) (slots slots' : List (Option Held)) (old mid new : FileState)
    → slots' ≡ slots → IsQuiet old mid → IsFaultOf f unit slots' mid new → IsFaultOf f unit slots old new
quiet-fault f unit slots slots' old mid new same first fault = record {
  unit_is = fault.unit_is;
  held = fault.held;
  there = ap (λ (l : List (Option Held)). held_at l unit) (sym same) ∙ fault.there;
  id = fault.id;
  file_is = fault.file_is;
  id_is = fault.id_is;
  rose = fault.rose ∙ (λ i. raised (first.counts i fault.held.file));
  others = λ other apart. fault.others other apart ∙ (λ i. first.counts i other);
  openings = fault.openings ∙ first.openings;
  ids = fault.ids ∙ first.ids;
}

pub cause-behind : (result : Result FileDigest DetachFault) (unit : UnitName) (slots slots' : List (Option Held))
    (old mid new : FileState) → slots' ≡ slots → IsQuiet old mid → DigestCause result unit slots' mid new
    → DigestCause result unit slots old new
cause-behind (Ok d) unit slots slots' old mid new same first last = quiet-both old mid new first last
cause-behind (Err detach.NotAttached) unit slots slots' old mid new same first last = quiet-both old mid new first last
cause-behind (Err (detach.Failed f)) unit slots slots' old mid new same first last =
    record { calls = last.calls; fault = quiet-fault f unit slots slots' old mid new same first last.fault }

-- ---- a writing back that was refused

pub read-refused : (fault : DetachFault) (unit : UnitName) (a : Option Attachment) (disk : Buffer) (files : List NamedBytes)
    → said_of_flush (Err fault) ≡ flush_said (failure_of_flush (Err fault)) unit a disk
    → said_of_digest (Err fault) ≡ behind_flush (flush_said (failure_of_digest (Err fault)) unit a disk)
    (digest_flushed (failure_of_digest (Err fault)) a files)
read-refused detach.NotAttached unit a disk files is =
    ap (λ (s : FlushSaid). behind_flush s (digest_flushed None a files)) is
read-refused (detach.Failed f) unit a disk files is =
    ap (λ (s : FlushSaid). behind_flush s (digest_flushed (Some (failure_in f)) a files)) is

-- the failing call of a refused writing back is that of the digesting
pub failure-refused : (fault : DetachFault) → failure_of_digest (Err fault) ≡ failure_of_flush (Err fault)
failure-refused detach.NotAttached = refl
failure-refused (detach.Failed f) = refl

-- what is read behind the writing back is what is said of the files in front of it
pub said-read : (fault : Option Failure) (unit : UnitName) (a : Option Attachment) (disk : Buffer) (said : DigestSaid)
    (files files' : List NamedBytes) → said ≡ behind_flush (flush_said fault unit a disk) (digest_flushed fault a files')
    → files' ≡ flush_files fault unit a disk files → said ≡ digest_said fault unit a disk files
said-read fault unit a disk said files files' is written =
    is ∙ ap (λ (l : List NamedBytes). behind_flush (flush_said fault unit a disk) (digest_flushed fault a l)) written

pub disk-refused : (fault : DetachFault) (unit : UnitName) (a : Option Attachment) (disk : Buffer)
    → said_of_flush (Err fault) ≡ flush_said (failure_of_flush (Err fault)) unit a disk
    → buffer_flushed (said_of_flush (Err fault)) unit disk ≡ buffer_digested (failure_of_digest (Err fault)) unit a disk
disk-refused detach.NotAttached unit a disk is = ap (λ (s : FlushSaid). buffer_flushed s unit disk) is
disk-refused (detach.Failed f) unit a disk is = ap (λ (s : FlushSaid). buffer_flushed s unit disk) is

pub marks-refused : (fault : DetachFault) (unit : UnitName) (a : Option Attachment) (disk : Buffer) (marks : List Bool)
    → said_of_flush (Err fault) ≡ flush_said (failure_of_flush (Err fault)) unit a disk
    → marks_flushed (said_of_flush (Err fault)) unit marks ≡ marks_digested (failure_of_digest (Err fault)) unit a disk marks
marks-refused detach.NotAttached unit a disk marks is = ap (λ (s : FlushSaid). marks_flushed s unit marks) is
marks-refused (detach.Failed f) unit a disk marks is = ap (λ (s : FlushSaid). marks_flushed s unit marks) is

none-flushed : (f : Option Failure) → HasNone ≡ flushed_as f → ⊥
none-flushed None is = absurd (cc)
none-flushed (Some f) is = absurd (cc)

due-back : (due : Bool) (f : Failure) (fault : Option Failure) → NotFlushed f ≡ flushed_as (if due then fault else None)
    → due ≡ true
due-back true f fault is = refl
due-back false f fault is = absurd (cc)

pub may-refused : (fault : DetachFault) (unit : UnitName) (a : Option Attachment) (disk : Buffer)
    → said_of_flush (Err fault) ≡ flush_said (failure_of_flush (Err fault)) unit a disk
    → MayDigest (Err fault) unit a disk
may-refused detach.NotAttached unit None disk is = record {}
may-refused detach.NotAttached unit (Some a) disk is = none-flushed (flush_failure None unit disk) is
may-refused (detach.Failed f) unit None disk is = absurd (cc)
may-refused (detach.Failed f) unit (Some a) disk is = λ write.
    due-back (is_due_back unit disk) (failure_in f) (failure_at Write (Some (failure_in f))) is

pub cause-refused : (fault : DetachFault) (unit : UnitName) (slots : List (Option Held)) (old new : FileState)
    → FlushCause (Err fault) unit slots old new → DigestCause (Err fault) unit slots old new
cause-refused detach.NotAttached unit slots old new cause = cause
cause-refused (detach.Failed f) unit slots old new cause =
    record { calls = inl (cause.disk, cause.call, cause.written); fault = cause.fault }

-- ---- a unit's file

pub flushed-file : (fault : Option Failure) (a : Option Attachment) (b : Attachment) (files : List NamedBytes)
    (name : List ℕ) → a ≡ Some b → name ≡ b.name
    → digest_measured fault (bytes_of files name) ≡ digest_flushed fault a files
flushed-file fault a b files name is same =
    ap (λ (n : List ℕ). digest_measured fault (bytes_of files n)) same
    ∙ ap (λ (x : Option Attachment). digest_flushed fault x files) (sym is)
