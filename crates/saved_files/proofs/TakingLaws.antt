-- The files of units are digested one behind another, behind the writing back of the disk's copy.
use Rattle.std.proofs.Common.{◌≡◌, inl, inr, ℕ, ◌+◌, ◌≤◌, Bool, true, false, cond, suc, List, [], ◌∷◌, ◌++◌, length}
use Rattle.std.proofs.Common.{Option, Some, None, Err, take, refl, sym, ap, subst, ◌∙◌, arith, if◌then◌else◌}
use Rattle.std.specs.Prelude.{IsTrue, map, nat_lt, nat_le, ◌&&◌, ◌==◌}
use Rattle.std.specs.List.{AllByRecursion}
use Rattle.std.proofs.lemmas.Bool.{and_parts}
use Rattle.std.proofs.lemmas.Bool.Decides.{nat_tests}
use Rattle.sha2.specs.Sha256.{sha256}
use Rattle.file_traits.specs.declared.files.FileCall.{FileCall}
use Rattle.file_traits.specs.declared.files.FileCall.TheVariants.{Write}
use Rattle.file_traits.specs.Lists.{NamedBytes, bytes_of}
use Rattle.unit_trait.specs.declared.kind.UnitName.{UnitName}
use Rattle.unit_trait.specs.Kinds.{same_unit}
use Rattle.unit_trait.proofs.Codes.{same-self}
use Rattle.file_digests.specs.declared.digest.FileDigest.{FileDigest}
use Rattle.unit_files.specs.declared.faults.UnitFault.{UnitFault}
use Rattle.unit_files.specs.Attachments.{Attachment, attachment_at, attachments_of, takes_attachment, file_place}
use Rattle.unit_files.specs.Attachments.{file_units, IsFileName}
use Rattle.unit_files.specs.Buffer.{AttachedFiles, Buffer, disk_unit}
use Rattle.unit_files.specs.Acts.{Failure, same_call, failure_at, is_due_back, flushed_as, FlushSaid, flush_said}
use Rattle.unit_files.specs.Acts.{flush_files, buffer_flushed}
use Rattle.unit_files.specs.Answers.{failure_in}
use Rattle.unit_files.specs.InStep.{marks_flushed}
use Rattle.unit_files.specs.Digests.{DigestSaid, NothingToDigest, NotDigested, Digested, digest_read, digest_measured}
use Rattle.unit_files.specs.Digests.{digest_flushed}
use Rattle.unit_files.specs.Digests.{IsReadingCall}
use Rattle.unit_files.proofs.Digests.{same-files}
use Rattle.saved_files.specs.declared.taking.UnitPlace.{UnitPlace}
use Rattle.saved_session.specs.Parts.{FilePart}
use Rattle.saved_session.specs.Ranges.{kind_at}
use Rattle.saved_files.specs.Putting.{unit_of, attachment_of, at_unit}
use Rattle.saved_files.specs.PuttingOne.{AreOfTwo, AreApart}
use Rattle.saved_files.specs.Taking.{unit_at, file_places, flag_of, saved_at, saved_files, undigested, failing_first}
use Rattle.saved_files.specs.Taking.{first_undigested, unless_unflushed, disk_flushed, files_flushed, copy_flushed, first_unsaved}
use Rattle.saved_files.specs.TakingOne.{unread_file, unread_at, unread_files, read_file, CanDigest, first_unread}
use Rattle.saved_files.specs.TakingOne.{names_of, AreNamed, fault_claim, FlushSays}

-- ---- one file

none-read : (b : Bool) (bytes : List ℕ) → digest_read (cond b None None) bytes ≡ Digested (length bytes) (sha256 bytes)
none-read true bytes = refl
none-read false bytes = refl

size_in : DigestSaid → ℕ
size_in (Digested size digest) = size
size_in (NotDigested f) = 0
size_in NothingToDigest = 0

digest_in : DigestSaid → List ℕ
digest_in (Digested size digest) = digest
digest_in (NotDigested f) = []
digest_in NothingToDigest = []

pub digested-so : (found : FileDigest) (bytes : List ℕ)
    → Digested found.length found.digest ≡ digest_measured None bytes
    → (found.length ≡ length bytes) × (found.digest ≡ sha256 bytes)
unfolding size_in digest_in
digested-so found bytes said =
    let is : Digested found.length found.digest ≡ Digested (length bytes) (sha256 bytes) =
    said ∙ none-read (nat_lt 0 (length bytes)) bytes in
    (ap size_in is, ap digest_in is)

-- ---- the names that are taken first

flag-back : (b : Bool) → (flag_of b == 1) ≡ b
flag-back true = refl
flag-back false = refl

same-attachment : (p : UnitPlace) (a : Attachment) → attachment_of (unread_file p a) ≡ a
same-attachment p a = λ i. record { name = a.name; read_only = flag-back a.read_only i }

abbrev Takes : UnitPlace → Type 0
Takes p = IsTrue (takes_attachment (unit_at p))

can-each : (a : AttachedFiles) (ps : List UnitPlace)
    → AllByRecursion Takes ps → AllByRecursion (CanDigest a) (unread_files (attachments_of a.slots) ps)
can-each a [] takes = tt
can-each a (p ∷ ps) takes =
    one (attachment_at (attachments_of a.slots) (unit_at p)) refl (unread_files (attachments_of a.slots) ps)
    (can-each a ps takes.1)
  where
    one : (o : Option Attachment) → attachment_at (attachments_of a.slots) (unit_at p) ≡ o → (rest : List FilePart)
        → AllByRecursion (CanDigest a) rest → AllByRecursion (CanDigest a) (unread_at p o ++ rest)
    one None is rest others = others
    one (Some x) is rest others = (
      record {
        unit = takes.0;
        there = is ∙ ap (λ (y : Attachment). Some y) (sym (same-attachment p x));
      },
      others,
    )

all-take : AllByRecursion Takes file_places
unfolding file_places kind_at
all-take = (refl, (refl, (refl, (refl, (refl, (refl, (refl, (refl, (refl, (refl, (refl, (refl, tt))))))))))))

pub can-unread : (a : AttachedFiles) (attached : List (Option Attachment)) → attachments_of a.slots ≡ attached
    → AllByRecursion (CanDigest a) (unread_files attached file_places)
can-unread a attached same =
    subst (λ (l : List (Option Attachment)). AllByRecursion (CanDigest a) (unread_files l file_places)) same
    (can-each a file_places all-take)

-- ---- no unit comes twice

rising : ℕ → List UnitPlace → Bool
rising least [] = true
rising least (p ∷ ps) = nat_le least (file_place (unit_at p)) && rising (file_place (unit_at p) + 1) ps

abbrev IsFrom : ℕ → FilePart → Type 0
IsFrom least f = least ≤ file_place (unit_of f)

all-rise : rising 0 file_places ≡ true
unfolding rising file_places kind_at
all-rise = refl

lower : (low high : ℕ) (fs : List FilePart) → low ≤ high → AllByRecursion (IsFrom high) fs
    → AllByRecursion (IsFrom low) fs
lower low high [] le from = tt
lower low high (f ∷ fs) le from = let here = from.0 in (omega (arith, le, here), lower low high fs le from.1)

each-from : (attached : List (Option Attachment)) (least : ℕ) (ps : List UnitPlace) → rising least ps ≡ true
    → AllByRecursion (IsFrom least) (unread_files attached ps)
unfolding rising
each-from attached least [] is = tt
each-from attached least (p ∷ ps) is =
    let parts = and_parts (nat_le least (file_place (unit_at p))) (rising (file_place (unit_at p) + 1) ps) is in
    let at : least ≤ file_place (unit_at p) = grind (arith, nat_tests) in
    one (attachment_at attached (unit_at p)) at (unread_files attached ps)
    (lower least (file_place (unit_at p) + 1) (unread_files attached ps) (omega (arith, at))
    (each-from attached (file_place (unit_at p) + 1) ps parts.1))
  where
    one : (o : Option Attachment) → least ≤ file_place (unit_at p) → (rest : List FilePart)
        → AllByRecursion (IsFrom least) rest → AllByRecursion (IsFrom least) (unread_at p o ++ rest)
    one None at rest others = others
    one (Some x) at rest others = (at, others)

behind-apart : (f : FilePart) (gs : List FilePart) → AllByRecursion (IsFrom (file_place (unit_of f) + 1)) gs
    → AllByRecursion (AreOfTwo f) gs
behind-apart f [] from = tt
behind-apart f (g ∷ gs) from = let here = from.0 in (λ same. omega (arith, here, same), behind-apart f gs from.1)

each-apart : (attached : List (Option Attachment)) (least : ℕ) (ps : List UnitPlace) → rising least ps ≡ true
    → AreApart (unread_files attached ps)
unfolding rising
each-apart attached least [] is = tt
each-apart attached least (p ∷ ps) is =
    let parts = and_parts (nat_le least (file_place (unit_at p))) (rising (file_place (unit_at p) + 1) ps) is in
    one (attachment_at attached (unit_at p)) (unread_files attached ps)
    (each-from attached (file_place (unit_at p) + 1) ps parts.1)
    (each-apart attached (file_place (unit_at p) + 1) ps parts.1)
  where
    one : (o : Option Attachment) (rest : List FilePart) → AllByRecursion (IsFrom (file_place (unit_at p) + 1)) rest
        → AreApart rest → AreApart (unread_at p o ++ rest)
    one None rest from others = others
    one (Some x) rest from others = (behind-apart (unread_file p x) rest from, others)

pub unread-apart : (attached : List (Option Attachment)) → AreApart (unread_files attached file_places)
unread-apart attached = each-apart attached 0 file_places all-rise

-- ---- what is saved of them

pub read-unread : (files : List NamedBytes) (attached : List (Option Attachment)) (ps : List UnitPlace)
    → map (read_file files) (unread_files attached ps) ≡ saved_files files attached ps
read-unread files attached [] = refl
read-unread files attached (p ∷ ps) =
    one (attachment_at attached (unit_at p)) (unread_files attached ps)
    ∙ ap (λ (l : List FilePart). saved_at files p (attachment_at attached (unit_at p)) ++ l)
    (read-unread files attached ps)
  where
    one : (o : Option Attachment) (rest : List FilePart)
        → map (read_file files) (unread_at p o ++ rest) ≡ saved_at files p o ++ map (read_file files) rest
    one None rest = refl
    one (Some x) rest = refl

unread-first : (fails : Option (UnitName × Failure)) (files : List NamedBytes) (attached : List (Option Attachment))
    (ps : List UnitPlace)
    → first_undigested fails files attached ps ≡ first_unread fails files (unread_files attached ps)
unread-first fails files attached [] = refl
unread-first fails files attached (p ∷ ps) =
    ap (λ (l : Option (UnitName × Failure)). failing_first (undigested (digest_flushed (at_unit (unit_at p) fails)
    (attachment_at attached (unit_at p)) files)) (unit_at p) l) (unread-first fails files attached ps)
    ∙ one (attachment_at attached (unit_at p)) (unread_files attached ps)
  where
    one : (o : Option Attachment) (rest : List FilePart)
        → failing_first (undigested (digest_flushed (at_unit (unit_at p) fails) o files)) (unit_at p)
        (first_unread fails files rest) ≡ first_unread fails files (unread_at p o ++ rest)
    one None rest = refl
    one (Some x) rest = refl

-- ---- the disk's copy

cond-none : (b : Bool) → flushed_as (cond b None None) ≡ flushed_as None
cond-none true = refl
cond-none false = refl

-- a writing back in which no write fails
none-unflushed : (a : Option Attachment) (disk : Buffer) (others : Option (UnitName × Failure))
    → unless_unflushed (flush_said None disk_unit a disk) others ≡ others
none-unflushed None disk others = refl
none-unflushed (Some a) disk others =
    ap (λ (s : FlushSaid). unless_unflushed s others) (cond-none (is_due_back disk_unit disk))

none-undigested : (files : List NamedBytes) (attached : List (Option Attachment)) (ps : List UnitPlace)
    → first_undigested None files attached ps ≡ None
none-undigested files attached [] = refl
none-undigested files attached (p ∷ ps) = one (attachment_at attached (unit_at p)) ∙ none-undigested files attached ps
  where
    one : (o : Option Attachment) → failing_first (undigested (digest_flushed None o files)) (unit_at p)
        (first_undigested None files attached ps) ≡ first_undigested None files attached ps
    one None = refl
    one (Some x) =
        ap (λ (s : DigestSaid). failing_first (undigested s) (unit_at p) (first_undigested None files attached ps))
        (none-read (nat_lt 0 (length (bytes_of files x.name))) (bytes_of files x.name))

pub none-unsaved : (attached : List (Option Attachment)) (disk : Buffer) (files : List NamedBytes)
    → first_unsaved None attached disk files ≡ None
unfolding first_unsaved
none-unsaved attached disk files =
    none-unflushed (attachment_at attached disk_unit) disk
    (first_undigested None (files_flushed None attached disk files) attached file_places)
    ∙ none-undigested (files_flushed None attached disk files) attached file_places

pub unflushed-first : (f : UnitFault) (attached : List (Option Attachment)) (disk : Buffer) (files : List NamedBytes)
    → FlushSays (Err f) (attachment_at attached disk_unit) disk
    → first_unsaved (fault_claim f) attached disk files ≡ fault_claim f
unfolding first_unsaved
unflushed-first f attached disk files h =
    let x = failure_in f in
    let others = first_undigested (fault_claim f) (files_flushed
    (fault_claim f) attached disk files) attached file_places in
    let at : at_unit disk_unit (fault_claim f) ≡ Some x =
    ap (λ (u : UnitName). at_unit disk_unit (Some (u, x))) h.0
    ∙ ap (λ (b : Bool). cond b (Some x) None) (same-self disk_unit) in
    ap (λ (y : Option Failure). unless_unflushed (flush_said y disk_unit
    (attachment_at attached disk_unit) disk) others) at
    ∙ ap (λ (s : FlushSaid). unless_unflushed s others) h.1
    ∙ ap (λ (u : UnitName). Some (u, x)) (sym h.0)

-- ---- a length or a read fails behind it

not-writing : (f : UnitFault) → IsReadingCall f → same_call f.call Write ≡ false
not-writing f (inl is, none) = ap (λ (c : FileCall). same_call c Write) is
not-writing f (inr is, none) = ap (λ (c : FileCall). same_call c Write) is

no-write : (f : UnitFault) → IsReadingCall f → failure_at Write (at_unit disk_unit (fault_claim f)) ≡ None
no-write f reading = by-test (same_unit disk_unit f.unit)
  where
    by-test : (b : Bool) → failure_at Write (cond b (Some (failure_in f)) None) ≡ None
    by-test true = ap (λ (b : Bool). cond b (Some (failure_in f)) None) (not-writing f reading)
    by-test false = refl

same-flush : (fails : Option Failure) (a : Option Attachment) (disk : Buffer) → failure_at Write fails ≡ None
    → flush_said fails disk_unit a disk ≡ flush_said None disk_unit a disk
same-flush fails None disk is = refl
same-flush fails (Some a) disk is =
    ap (λ (x : Option Failure). flushed_as (if is_due_back disk_unit disk then x else None)) is

pub reading-files : (f : UnitFault) (attached : List (Option Attachment)) (disk : Buffer) (files : List NamedBytes)
    → IsReadingCall f
    → flush_files None disk_unit (attachment_at attached disk_unit) disk files
    ≡ files_flushed (fault_claim f) attached disk files
reading-files f attached disk files reading =
    sym (same-files (at_unit disk_unit (fault_claim f)) disk_unit (attachment_at attached disk_unit) disk files
    (no-write f reading))

pub reading-copy : (f : UnitFault) (attached : List (Option Attachment)) (disk : Buffer) → IsReadingCall f
    → buffer_flushed (flush_said None disk_unit (attachment_at attached disk_unit) disk) disk_unit disk
    ≡ copy_flushed (fault_claim f) attached disk
reading-copy f attached disk reading =
    ap (λ (s : FlushSaid). buffer_flushed s disk_unit disk)
    (sym (same-flush (at_unit disk_unit (fault_claim f)) (attachment_at attached disk_unit) disk (no-write f reading)))

pub reading-marks : (f : UnitFault) (attached : List (Option Attachment)) (disk : Buffer) (aside : List Bool) → IsReadingCall f
    → marks_flushed (flush_said None disk_unit (attachment_at attached disk_unit) disk) disk_unit aside
    ≡ marks_flushed (disk_flushed (fault_claim f) attached disk) disk_unit aside
reading-marks f attached disk aside reading =
    ap (λ (s : FlushSaid). marks_flushed s disk_unit aside)
    (sym (same-flush (at_unit disk_unit (fault_claim f)) (attachment_at attached disk_unit) disk (no-write f reading)))

pub unread-unsaved : (f : UnitFault) (attached : List (Option Attachment)) (disk : Buffer) (files now : List NamedBytes)
    → IsReadingCall f → now ≡ flush_files None disk_unit (attachment_at attached disk_unit) disk files
    → first_unread (fault_claim f) now (unread_files attached file_places) ≡ fault_claim f
    → first_unsaved (fault_claim f) attached disk files ≡ fault_claim f
unfolding first_unsaved
unread-unsaved f attached disk files now reading is said =
    let claim = fault_claim f in
    ap (λ (s : FlushSaid). unless_unflushed s
    (first_undigested claim (files_flushed claim attached disk files) attached file_places))
    (same-flush (at_unit disk_unit claim) (attachment_at attached disk_unit) disk (no-write f reading))
    ∙ none-unflushed (attachment_at attached disk_unit) disk
    (first_undigested claim (files_flushed claim attached disk files) attached file_places)
    ∙ ap (λ (l : List NamedBytes). first_undigested claim l attached file_places)
    (sym (is ∙ reading-files f attached disk files reading))
    ∙ unread-first claim now attached file_places ∙ said

-- ---- lists

front-of : {A : Type 0} (xs rest : List A) → take (length xs) (xs ++ rest) ≡ xs
front-of [] rest = refl
front-of (x ∷ xs) rest = ap (λ (l : List _). x ∷ l) (front-of xs rest)

pub whole-of : {A : Type 0} (n : ℕ) (xs rest : List A) → n ≡ length xs → take n (xs ++ rest) ≡ xs
whole-of n xs rest is = ap (λ (m : ℕ). take m (xs ++ rest)) is ∙ front-of xs rest

pub length-map : {A B : Type 0} (f : A → B) (xs : List A) → length (map f xs) ≡ length xs
length-map f [] = refl
length-map f (x ∷ xs) = ap suc (length-map f xs)

-- ---- the names that were taken

named-back : (files : List FilePart) → AllByRecursion IsFileName (names_of files) → AreNamed files
named-back [] all = tt
named-back (f ∷ files) all = (all.0, named-back files all.1)

names-named : (files : List FilePart) → AreNamed files → AllByRecursion IsFileName (names_of files)
names-named [] all = tt
names-named (f ∷ files) all = (all.0, names-named files all.1)

-- files with the same names
pub named-as : (fs gs : List FilePart) → names_of fs ≡ names_of gs → AreNamed gs → AreNamed fs
named-as fs gs same are =
    named-back fs (subst (λ (names : List (List ℕ)). AllByRecursion IsFileName names) (sym same) (names-named gs are))

pub as-many-as : (fs gs : List FilePart) → names_of fs ≡ names_of gs → length fs ≡ length gs
as-many-as fs gs same =
    sym (length-map (λ (f : FilePart). f.name) fs) ∙ ap (λ (names : List (List ℕ)). length names) same
    ∙ length-map (λ (f : FilePart). f.name) gs

-- at most one for each place
few-of : (attached : List (Option Attachment)) (ps : List UnitPlace) → length (unread_files attached ps) ≤ length ps
few-of attached [] = omega arith
few-of attached (p ∷ ps) =
    one (attachment_at attached (unit_at p)) (unread_files attached ps) (length ps) (few-of attached ps)
  where
    one : (o : Option Attachment) (rest : List FilePart) (n : ℕ) → length rest ≤ n
        → length (unread_at p o ++ rest) ≤ suc n
    one None rest n few = omega arith
    one (Some a) rest n few = omega arith

pub few-unread : (attached : List (Option Attachment)) → length (unread_files attached file_places) ≤ file_units
unfolding file_places
few-unread attached = few-of attached file_places
