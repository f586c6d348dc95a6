-- Attaching and comparing as one act.
use Rattle.std.proofs.Common.{◌≡◌, ◌⊎◌, inl, inr, ⊎_elim, ℕ, Bool, true, false, cond, zero, suc, get_or, Result, Ok}
use Rattle.std.proofs.Common.{Err, List, [], ◌∷◌}
use Rattle.std.proofs.Common.{length, Option, Some, None, refl, sym, ap, subst, ◌∙◌}
use Rattle.std.specs.Prelude.{is_some, ◌&&◌, nat_lt, slice_set}
use Rattle.unit_files.specs.Answers.{failure_in}
use Rattle.saved_files.specs.declared.file_faults.RestoreFault.{RestoreFault}
use Rattle.saved_files.specs.declared.file_faults.RestoreFault.TheVariants as fault
use Rattle.file_traits.specs.declared.files.FileCall.{FileCall}
use Rattle.file_traits.specs.declared.files.FileCall.TheVariants.{Opening, Length, Read}
use Rattle.file_traits.specs.Lists.{NamedBytes, bytes_of, find_file}
use Rattle.unit_trait.specs.declared.kind.UnitName.{UnitName}
use Rattle.unit_files.specs.declared.modes.AttachMode.{AttachMode}
use Rattle.unit_files.specs.Attachments.{Attachment, attachment_at, is_disk, longest_file, only_writes}
use Rattle.unit_files.specs.Acts.{Failure, failure_at, AttachSaid, Attached, OnlyWrites, TooLong, CallFailed}
use Rattle.unit_files.specs.Acts.{attach_said}
use Rattle.unit_files.specs.Acts.{attach_files, files_unless, files_unless_opening, files_where, opened_files}
use Rattle.unit_files.specs.Acts.{is_read_only}
use Rattle.unit_files.specs.Buffer.{Buffer}
use Rattle.unit_files.specs.Acts.{buffer_by, said_unless, opened_said, read_whole, refused_first}
use Rattle.unit_files.specs.Digests.{digest_measured}
use Rattle.saved_session.specs.Parts.{FilePart}
use Rattle.saved_session.specs.Ranges.{kind_at}
use Rattle.saved_files.specs.Putting.{unit_of, is_only_read, mode_of, CallFails, behind_attaching, compared}
use Rattle.saved_files.specs.Putting.{refusal_of}
use Rattle.saved_files.specs.PuttingOne.{CompareCalls, Compares, SaysOne, failure_of}

-- ---- no file is made or emptied

where-same : (read_only b : Bool) (name : List ℕ) (files : List NamedBytes) → is_some (find_file files name) ≡ b
    → files_where (opened_files (mode_of read_only) name files) files ≡ files
where-same true true name files test = rw test refl
where-same true false name files test = rw test refl
where-same false true name files test = rw test refl
where-same false false name files test = rw test refl

opening-same : (f : Option Failure) (read_only : Bool) (name : List ℕ) (files : List NamedBytes)
    → files_unless_opening f (mode_of read_only) name files ≡ files
opening-same (Some f) read_only name files = refl
opening-same None read_only name files = where-same read_only (is_some (find_file files name)) name files refl

unless-same : (r : Option AttachSaid) (fails : Option Failure) (read_only : Bool) (name : List ℕ)
    (files : List NamedBytes)
    → files_unless r fails (mode_of read_only) name files ≡ files
unless-same (Some r) fails read_only name files = refl
unless-same None fails read_only name files = opening-same (failure_at Opening fails) read_only name files

pub same-files : (fails : Option Failure) (mode : AttachMode) (read_only : Bool) (unit : UnitName) (name : List ℕ)
    (attached : List (Option Attachment)) (files : List NamedBytes) → mode ≡ mode_of read_only
    → attach_files fails mode unit name attached files ≡ files
unfolding attach_files
same-files fails mode read_only unit name attached files is =
    ap (λ (m : AttachMode). attach_files fails m unit name attached files) is
    ∙ unless-same (refused_first (attachment_at attached unit) unit (mode_of read_only)) fails read_only name files

-- ---- what is said of one file

pub said-of : (said : AttachSaid) (fails : Option Failure) (force : Bool) (f : FilePart) (unit : UnitName)
    (mode : AttachMode) (name : List ℕ) (attached : List (Option Attachment)) (files : List NamedBytes)
    → unit ≡ unit_of f → mode ≡ mode_of (is_only_read f) → name ≡ f.name
    → said ≡ attach_said fails mode unit name attached files
    → refusal_of fails force f attached files ≡ behind_attaching said fails force f (bytes_of files f.name)
unfolding refusal_of
said-of said fails force f unit mode name attached files u m n is =
    λ i. behind_attaching (sym (is ∙ (λ j. attach_said fails (m j) (u j) (n j) attached files)) i) fails force f
    (bytes_of files f.name)

pub attached-so : (f : FilePart) (size : ℕ) (unit : UnitName) (mode : AttachMode) (name : List ℕ)
    (attached : List (Option Attachment)) (files : List NamedBytes)
    → unit ≡ unit_of f → mode ≡ mode_of (is_only_read f) → name ≡ f.name
    → Attached size ≡ attach_said None mode unit name attached files
    → attach_said None (mode_of (is_only_read f)) (unit_of f) f.name attached files ≡ Attached size
attached-so f size unit mode name attached files u m n is =
    sym (is ∙ (λ j. attach_said None (m j) (u j) (n j) attached files))

-- ---- a call that fails behind an attaching that did not

-- a call that failed and wrote nothing, or so many bytes
abbrev failing : FileCall → ℕ → Failure
failing call done = record { call = call; done = done }

-- a failed length ends the attaching, whichever of the two it was
opened-length : (done : ℕ) (unit : UnitName) (name : List ℕ) (o : Option (List NamedBytes)) (n : ℕ)
    → opened_said None unit name o ≡ Attached n
    → opened_said (Some (failing Length done)) unit name o ≡ CallFailed (failing Length done)
opened-length done unit name None n e = absurd cc
opened-length done unit name (Some files) n e = refl

said-length : (done : ℕ) (r : Option AttachSaid) (mode : AttachMode) (unit : UnitName) (name : List ℕ)
    (files : List NamedBytes) (n : ℕ) → r ≡ None → said_unless r None mode unit name files ≡ Attached n
    → said_unless r (Some (failing Length done)) mode unit name files ≡ CallFailed (failing Length done)
said-length done (Some r) mode unit name files n none e = absurd cc
said-length done None mode unit name files n none e =
    opened-length done unit name (opened_files mode name files) n e

length-fails : (done : ℕ) (mode : AttachMode) (unit : UnitName) (name : List ℕ)
    (attached : List (Option Attachment)) (files : List NamedBytes) (n : ℕ)
    → refused_first (attachment_at attached unit) unit mode ≡ None
    → attach_said None mode unit name attached files ≡ Attached n
    → attach_said (Some (failing Length done)) mode unit name attached files ≡ CallFailed (failing Length done)
unfolding attach_said
length-fails done mode unit name attached files n none e =
    said-length done (refused_first (attachment_at attached unit) unit mode) mode unit name files n none e

-- a failed read ends the attaching of the disk, and the comparing of every other
abbrev SaidOfRead : ℕ → AttachSaid → ℕ → Type 0
SaidOfRead done said n = (said ≡ CallFailed (failing Read done)) ⊎ (said ≡ Attached n)

by-reading : (done : ℕ) (reads long : Bool) (count n : ℕ)
    → cond long TooLong (read_whole (cond reads None None) count) ≡ Attached n
    → SaidOfRead done (cond long TooLong (read_whole (cond reads (Some (failing Read done)) None) count)) n
by-reading done reads true count n e = absurd cc
by-reading done true false count n e = inl refl
by-reading done false false count n e = inr e

opened-read : (done : ℕ) (unit : UnitName) (name : List ℕ) (o : Option (List NamedBytes)) (n : ℕ)
    → opened_said None unit name o ≡ Attached n
    → SaidOfRead done (opened_said (Some (failing Read done)) unit name o) n
opened-read done unit name None n e = absurd cc
opened-read done unit name (Some files) n e =
    by-reading done (is_disk unit.kind && nat_lt 0 (length (bytes_of files name)))
    (nat_lt (longest_file unit.kind) (length (bytes_of files name))) (length (bytes_of files name)) n e

said-read : (done : ℕ) (r : Option AttachSaid) (mode : AttachMode) (unit : UnitName) (name : List ℕ)
    (files : List NamedBytes) (n : ℕ) → r ≡ None → said_unless r None mode unit name files ≡ Attached n
    → SaidOfRead done (said_unless r (Some (failing Read done)) mode unit name files) n
said-read done (Some r) mode unit name files n none e = absurd cc
said-read done None mode unit name files n none e = opened-read done unit name (opened_files mode name files) n e

read-fails : (done : ℕ) (mode : AttachMode) (unit : UnitName) (name : List ℕ) (attached : List (Option Attachment))
    (files : List NamedBytes) (n : ℕ) → refused_first (attachment_at attached unit) unit mode ≡ None
    → attach_said None mode unit name attached files ≡ Attached n
    → SaidOfRead done (attach_said (Some (failing Read done)) mode unit name attached files) n
unfolding attach_said
read-fails done mode unit name attached files n none e =
    said-read done (refused_first (attachment_at attached unit) unit mode) mode unit name files n none e

-- ---- one file

-- nothing is refused before the opening
pub free-first : (f : FilePart) (attached : List (Option Attachment)) → attachment_at attached (unit_of f) ≡ None
    → (only_writes (kind_at f.position) ≡ true → is_only_read f ≡ false)
    → refused_first (attachment_at attached (unit_of f)) (unit_of f) (mode_of (is_only_read f)) ≡ None
free-first f attached free writes =
    ap (λ (a : Option Attachment). refused_first a (unit_of f) (mode_of (is_only_read f))) free
    ∙ by-kind (only_writes (kind_at f.position)) (is_only_read f) writes
  where
    by-kind : (only read_only : Bool) → (only ≡ true → read_only ≡ false)
        → cond (is_read_only (mode_of read_only) && only) (Some OnlyWrites) None ≡ None
    by-kind true true h = absurd (cc (h refl))
    by-kind true false h = refl
    by-kind false true h = refl
    by-kind false false h = refl

-- what is said behind an attaching of a file that its unit takes, with the call that fails
behind : (fails : Option Failure) (force : Bool) (f : FilePart) (attached : List (Option Attachment))
    (files : List NamedBytes) (said : AttachSaid)
    → attach_said fails (mode_of (is_only_read f)) (unit_of f) f.name attached files ≡ said
    → refusal_of fails force f attached files ≡ behind_attaching said fails force f (bytes_of files f.name)
unfolding refusal_of
behind fails force f attached files said is =
    ap (λ (s : AttachSaid). behind_attaching s fails force f (bytes_of files f.name)) is

pub forced : (f : FilePart) (attached : List (Option Attachment)) (files : List NamedBytes) (n : ℕ) (force : Bool)
    → force ≡ true → attach_said None (mode_of (is_only_read f)) (unit_of f) f.name attached files ≡ Attached n
    → refusal_of None force f attached files ≡ None
forced f attached files n force is said =
    behind None force f attached files (Attached n) said
    ∙ ap (λ (b : Bool). behind_attaching (Attached n) None b f (bytes_of files f.name)) is

-- ---- what a comparing comes to is that of the whole act

fault-ends : (x : Failure) (f : FilePart) (attached : List (Option Attachment)) (files : List NamedBytes) (n : ℕ)
    → refused_first (attachment_at attached (unit_of f)) (unit_of f) (mode_of (is_only_read f)) ≡ None
    → attach_said None (mode_of (is_only_read f)) (unit_of f) f.name attached files ≡ Attached n
    → (x.call ≡ Length) ⊎ (x.call ≡ Read)
    → compared (digest_measured (Some x) (bytes_of files f.name)) f ≡ Some (CallFails x)
    → refusal_of (Some x) false f attached files ≡ Some (CallFails x)
fault-ends x f attached files n first said (inl is) so =
    let e : x ≡ failing Length x.done = ap (λ (c : FileCall). failing c x.done) is in
    subst (λ (y : Failure). refusal_of (Some y) false f attached files ≡ Some (CallFails y)) (sym e)
    (behind (Some (failing Length x.done)) false f attached files (CallFailed (failing Length x.done))
    (length-fails x.done (mode_of (is_only_read f)) (unit_of f) f.name attached files n first said))
fault-ends x f attached files n first said (inr is) so =
    let e : x ≡ failing Read x.done = ap (λ (c : FileCall). failing c x.done) is in
    let same : compared (digest_measured (Some (failing Read x.done)) (bytes_of files f.name)) f
    ≡ Some (CallFails (failing Read x.done)) =
    subst (λ (y : Failure). compared (digest_measured (Some y) (bytes_of files f.name)) f ≡ Some (CallFails y)) e so in
    subst (λ (y : Failure). refusal_of (Some y) false f attached files ≡ Some (CallFails y)) (sym e)
    (⊎_elim
    (λ failed.
    behind (Some (failing Read x.done)) false f attached files (CallFailed (failing Read x.done)) failed)
    (λ taken. behind (Some (failing Read x.done)) false f attached files (Attached n) taken ∙ same)
    (read-fails x.done (mode_of (is_only_read f)) (unit_of f) f.name attached files n first said))

by-result : (result : Result (Unit {0}) RestoreFault) (f : FilePart) (attached : List (Option Attachment))
    (files : List NamedBytes) (n : ℕ)
    → refused_first (attachment_at attached (unit_of f)) (unit_of f) (mode_of (is_only_read f)) ≡ None
    → attach_said None (mode_of (is_only_read f)) (unit_of f) f.name attached files ≡ Attached n
    → CompareCalls result → Compares f (bytes_of files f.name) result
    → SaysOne result (refusal_of (failure_of result) false f attached files)
by-result (Ok u) f attached files n first said calls h = behind None false f attached files (Attached n) said ∙ h
by-result (Err (fault.Changed unit)) f attached files n first said calls h =
    behind None false f attached files (Attached n) said ∙ h
by-result (Err (fault.Failed x)) f attached files n first said calls h =
    fault-ends (failure_in x) f attached files n first said calls.0 h
by-result (Err (fault.NoFile unit)) f attached files n first said calls h = absurd calls
by-result (Err (fault.TooLong unit)) f attached files n first said calls h = absurd calls
by-result (Err fault.MissingUnit) f attached files n first said calls h = absurd calls
by-result (Err fault.Port) f attached files n first said calls h = absurd calls
by-result (Err fault.OutOfMemory) f attached files n first said calls h = absurd calls

pub one-compared : (result : Result (Unit {0}) RestoreFault) (force : Bool) (f : FilePart)
    (attached : List (Option Attachment)) (files : List NamedBytes) (bytes : List ℕ) (n : ℕ) → force ≡ false
    → bytes ≡ bytes_of files f.name
    → refused_first (attachment_at attached (unit_of f)) (unit_of f) (mode_of (is_only_read f)) ≡ None
    → attach_said None (mode_of (is_only_read f)) (unit_of f) f.name attached files ≡ Attached n
    → CompareCalls result → Compares f bytes result
    → SaysOne result (refusal_of (failure_of result) force f attached files)
one-compared result force f attached files bytes n is same first said calls h =
    subst (λ (b : Bool). SaysOne result (refusal_of (failure_of result) b f attached files)) (sym is)
    (by-result result f attached files n first said calls (subst (λ (l : List ℕ). Compares f l result) same h))

-- ---- a file is given back

pub set-back : (xs : List (Option Attachment)) (place : ℕ) (x : Option Attachment) → get_or xs place None ≡ None
    → slice_set (slice_set xs place x) place None ≡ xs
set-back [] place x free = refl
set-back (y ∷ xs) zero x free = ap (λ (z : Option Attachment). z ∷ xs) (sym free)
set-back (y ∷ xs) (suc place) x free = ap (λ (l : List (Option Attachment)). y ∷ l) (set-back xs place x free)

-- what is there was put there
pub set-there : (xs : List (Option Attachment)) (place : ℕ) (a b : Attachment)
    → get_or (slice_set xs place (Some a)) place None ≡ Some b → a ≡ b
set-there [] place a b e = absurd (cc)
set-there (y ∷ xs) zero a b e = cc
set-there (y ∷ xs) (suc place) a b e = set-there xs place a b e

-- ---- the disk's copy of the file that it is given

pub bytes-taken : (new old : Buffer) (f : FilePart) (size : ℕ) (unit : UnitName) (name : List ℕ)
    (now files : List NamedBytes)
    → unit ≡ unit_of f → name ≡ f.name → now ≡ files → new ≡ buffer_by (Attached size) unit (bytes_of now name) old
    → is_disk (kind_at f.position) ≡ true → new.bytes ≡ bytes_of files f.name
bytes-taken new old f size unit name now files u n s is disk =
    ap (λ (b : Buffer). b.bytes)
    (is ∙ (λ i. buffer_by (Attached size) (u i) (bytes_of (s i) (n i)) old)
    ∙ ap (λ (b : Bool). cond b (record { bytes = bytes_of files f.name; written = false }) old) disk)
