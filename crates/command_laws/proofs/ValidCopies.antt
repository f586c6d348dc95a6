-- What the disk holds of its file, where a unit gets or loses a file.
use Rattle.std.specs.Prelude.{bytes_eq}
use Rattle.std.proofs.Common.{◌≡◌, inl, inr, ℕ, ◌<◌, nat_lt, Bool, true, false, List, [], ◌∷◌, length, set, get_or, drop, Option, Some, None, unwrap_or, if◌then◌else◌, refl, sym, ap, subst, ◌∙◌, arith}
use Rattle.std.proofs.lemmas.Bool.{false≢true}
use Rattle.std.proofs.lemmas.Slice.Eq.{bytes_eq-Decides}
use Rattle.std.proofs.lemmas.List.{get_or-set_same, get_or-set_other}
use Rattle.file_traits.specs.Lists.{NamedBytes, find_file, bytes_of}
use Rattle.unit_trait.specs.declared.kind.Kind.{Kind}
use Rattle.unit_trait.specs.declared.kind.Kind.TheVariants.{Dsk, Mta, Lpt, Ptr, Ptp}
use Rattle.unit_trait.specs.declared.kind.UnitName.{UnitName}
use Rattle.unit_trait.specs.Kinds.{units_of}
use Rattle.unit_files.specs.Attachments.{Attachment, Held, attachments_of, attachment_at, with_attachment, file_units, kind_place, file_place, is_disk}
use Rattle.unit_files.specs.Buffer.{Buffer, no_buffer, disk_unit}
use Rattle.unit_files.specs.Acts.{Failure, closing_said, flush_failure, flushed_as, flush_said, buffer_flushed, Attached, DetachSaid, HadNone, StillHeld, Detached, detach_said_of, detached, buffer_by, buffer_left}
use Rattle.file_commands.specs.Notes.{CommandNote, failure_now}
use Rattle.file_commands.specs.declared.note.Subject.TheVariants as subject
use Rattle.file_commands.specs.AllUnits.{Filed, Emptied, emptied_as, said_in, written_in, without_file, emptied}
use Rattle.nova_machine.specs.Machine.{MachineState}
use Rattle.nova_machine.specs.Seen.{Seen, attached_in}
use Rattle.nova_machine.specs.Valid.{CopyIsFile, DiskIsItsFile, KeepsFile}
use Rattle.scp_parser.specs.Command.{IsDrive}
use Rattle.command_session.specs.Live.{Live, with_machine}
use Rattle.command_session.specs.DiskFile.{is_by_disk, is_left_by_disk, is_by_disk_at, disk_alone}
use Rattle.command_laws.specs.Valid.{CopyFollows, CopyStays}
use Rattle.command_session.proofs.CloseLemmas.{AreOthers}

-- ---- a disk without a file holds nothing

abbrev pub HoldsAt : List (Option Attachment) → Buffer → Type 0
HoldsAt attached disk = attachment_at attached disk_unit ≡ None → disk ≡ no_buffer

abbrev pub HoldsNone : MachineState → Type 0
HoldsNone m = HoldsAt (attached_in m) m.disk

-- the same attachments and the same copy
pub holds-same : (m m' : MachineState) → m'.slots ≡ m.slots → m'.disk ≡ m.disk → HoldsNone m → HoldsNone m'
holds-same m m' slots disk is = λ none.
    disk ∙ is (ap (λ (s : List (Option Held)). attachment_at (attachments_of s) disk_unit) (sym slots) ∙ none)

-- what holds of a copy holds so where the disk has no file
pub holds-copy : (s : Seen) → DiskIsItsFile s → HoldsNone s.machine
holds-copy s is = λ none. subst (λ (o : Option Attachment). CopyIsFile o s.machine.disk s.files) none is

-- what the disk holds was written back, or the write failed
pub holds-flushed : (fault : Option Failure) (attached : List (Option Attachment)) (disk : Buffer) → HoldsAt attached disk
    → HoldsAt attached (buffer_flushed (flush_said fault disk_unit (attachment_at attached disk_unit) disk) disk_unit disk)
holds-flushed fault attached disk is = λ none.
    ap (λ (o : Option Attachment). buffer_flushed (flush_said fault disk_unit o disk) disk_unit disk) none ∙ is none

-- ---- the file is as it was

copy-kept : (a : Option Attachment) (disk : Buffer) (old new : List NamedBytes) → CopyIsFile a disk old → (disk.written ≡ false → KeepsFile a old new) → CopyIsFile a disk new
copy-kept None disk old new is keeps = is
copy-kept (Some a) disk old new is keeps = λ none. is none ∙ sym (keeps none)

-- the same attachments and the same copy
pub copy-same : {flushes : Bool} (live after : Live) → after.machine.slots ≡ live.machine.slots → after.machine.disk ≡ live.machine.disk → CopyStays flushes live after
copy-same live after slots disk is clean follows =
    subst (λ (s : List (Option Held)). CopyIsFile (attachment_at (attachments_of s) disk_unit) after.machine.disk after.files) (sym slots)
    (subst (λ (d : Buffer). CopyIsFile (attachment_at (attached_in live.machine) disk_unit) d after.files) (sym disk)
    (copy-kept (attachment_at (attached_in live.machine) disk_unit) live.machine.disk live.files after.files is (λ none. follows (ap (λ (d : Buffer). d.written) disk ∙ none) none)))

pub copy-from : (live : Live) (m : MachineState) → m.slots ≡ live.machine.slots → m.disk ≡ live.machine.disk → DiskIsItsFile live → DiskIsItsFile (with_machine live m)
copy-from live m slots disk is =
    subst (λ (s : List (Option Held)). CopyIsFile (attachment_at (attachments_of s) disk_unit) m.disk live.files) (sym slots)
    (subst (λ (d : Buffer). CopyIsFile (attachment_at (attached_in live.machine) disk_unit) d live.files) (sym disk) is)

-- what begins with another machine, with the same attachments and the same copy
pub stays-from : {flushes : Bool} (live after : Live) (m : MachineState) → m.slots ≡ live.machine.slots → m.disk ≡ live.machine.disk → CopyStays flushes (with_machine live m) after
    → CopyStays flushes live after
stays-from live after m slots disk stays = λ is clean follows.
    let written : m.disk.written ≡ live.machine.disk.written = ap (λ (d : Buffer). d.written) disk in
    stays (copy-from live m slots disk is) (λ flushes. written ∙ clean flushes)
    (λ none was. subst (λ (s : List (Option Held)). KeepsFile (attachment_at (attachments_of s) disk_unit) live.files after.files) (sym slots)
    (follows none (sym written ∙ was)))

-- there was nothing to write back
pub copy-clean : (fault : Option Failure) (a : Option Attachment) (disk : Buffer) (old new : List NamedBytes) → CopyIsFile a disk old → disk.written ≡ false
    → ((buffer_flushed (flush_said fault disk_unit a disk) disk_unit disk).written ≡ false → KeepsFile a old new)
    → CopyIsFile a (buffer_flushed (flush_said fault disk_unit a disk) disk_unit disk) new
copy-clean fault None disk old new is clean keeps = is
copy-clean fault (Some a) disk old new is clean keeps = λ none. bytes (flush_failure fault disk_unit disk) ∙ is clean ∙ sym (keeps none)
  where
    bytes : (f : Option Failure) → (buffer_flushed (flushed_as f) disk_unit disk).bytes ≡ disk.bytes
    bytes (Some f) = refl
    bytes None = refl

-- ---- the disk alone has changed its file

left-copy : (disk : Buffer) (old : List ℕ) (found : Option (List ℕ)) → is_left_by_disk disk old found ≡ true → disk.written ≡ false → disk.bytes ≡ unwrap_or found []
left-copy disk old None left none = absurd (false≢true left)
left-copy disk old (Some now) left none =
    let same : bytes_eq now disk.bytes ≡ true = ap (λ (w : Bool). if w then is_by_disk (record disk { written = true }) old now else bytes_eq now disk.bytes) (sym none) ∙ left in
    sym ((bytes_eq-Decides now disk.bytes).0 same)

left-at : (before : Option Attachment) (a : Attachment) (disk : Buffer) (old now : List NamedBytes) → is_by_disk_at before (Some a) disk old now ≡ true
    → CopyIsFile (Some a) disk now
left-at None a disk old now alone = left-copy disk (bytes_of now a.name) (find_file now a.name) alone
left-at (Some b) a disk old now alone = left-copy disk (bytes_of old a.name) (find_file now a.name) alone

pub copy-tested : (old new : Live) → (HoldsNone old.machine → HoldsNone new.machine) → CopyFollows old new
unfolding disk_alone
copy-tested old new keeps is alone = by (attachment_at (attached_in new.machine) disk_unit) refl
  where
    by : (o : Option Attachment) → attachment_at (attached_in new.machine) disk_unit ≡ o → CopyIsFile o new.machine.disk new.files
    by None at = keeps (holds-copy old is) at
    by (Some a) at =
        left-at (attachment_at (attached_in old.machine) disk_unit) a new.machine.disk old.files new.files
        (ap (λ (o : Option Attachment). is_by_disk_at (attachment_at (attached_in old.machine) disk_unit) o new.machine.disk old.files new.files) (sym at) ∙ alone)

-- ---- the place of the disk

disk-kind : (kind : Kind) → is_disk kind ≡ true → kind ≡ Dsk
disk-kind Dsk is = refl
disk-kind kind is = absurd (cc)

-- the disk has one unit
one-disk : (kind : Kind) (number : ℕ) → is_disk kind ≡ true → IsDrive (record { kind = kind; unit = number }) → file_place (record { kind = kind; unit = number }) ≡ 0
one-disk kind number is (inl tape) = let same = sym (disk-kind kind is) ∙ tape.0 in absurd (cc)
one-disk kind number is (inr first) = ap file_place (λ i. record { kind = disk-kind kind is i; unit = first i })

other-kind : (kind : Kind) (number : ℕ) → is_disk kind ≡ false → kind_place kind number ≡ 0 → ⊥
other-kind Dsk number other at = absurd (cc)
other-kind Mta number other at = absurd (omega (arith, at))
other-kind Lpt number other at = absurd (omega (arith, at))
other-kind Ptr number other at = absurd (omega (arith, at))
other-kind Ptp number other at = absurd (omega (arith, at))
other-kind kind number other at = absurd (omega (arith, at))

other-place : (unit : UnitName) → is_disk unit.kind ≡ false → file_place unit ≡ 0 → ⊥
other-place unit other at = by-test (nat_lt unit.unit (units_of unit.kind)) at
  where
    by-test : (b : Bool) → (if b then kind_place unit.kind unit.unit else file_units) ≡ 0 → ⊥
    by-test true at = other-kind unit.kind unit.unit other at
    by-test false at = absurd (omega (arith, at))

-- what another unit gets or loses leaves what the disk has
elsewhere : (unit : UnitName) (attached : List (Option Attachment)) (a : Option Attachment) → is_disk unit.kind ≡ false
    → attachment_at (with_attachment attached unit a) disk_unit ≡ attachment_at attached disk_unit
elsewhere unit attached a other = get_or-set_other attached (file_place unit) 0 a None (λ at. other-place unit other (sym at))

here : (unit : UnitName) (attached : List (Option Attachment)) (a : Option Attachment) → IsDrive unit → 0 < length attached → is_disk unit.kind ≡ true
    → attachment_at (with_attachment attached unit a) disk_unit ≡ a
here unit attached a drive some is =
    ap (λ (p : ℕ). get_or (set attached p a) 0 None) (one-disk unit.kind unit.unit is drive) ∙ get_or-set_same attached 0 a None some

-- the disk itself gets a file, or loses it
pub copy-new : (a : Attachment) (attached : List (Option Attachment)) (files : List NamedBytes) → 0 < length attached
    → CopyIsFile (attachment_at (with_attachment attached disk_unit (Some a)) disk_unit) (record { bytes = bytes_of files a.name; written = false }) files
copy-new a attached files some =
    subst (λ (o : Option Attachment). CopyIsFile o (record { bytes = bytes_of files a.name; written = false }) files) (sym (here disk_unit attached (Some a) (inr refl) some refl)) (λ none. refl)

pub copy-gone : (attached : List (Option Attachment)) (files : List NamedBytes) → 0 < length attached → CopyIsFile (attachment_at (detached disk_unit attached) disk_unit) no_buffer files
copy-gone attached files some = subst (λ (o : Option Attachment). CopyIsFile o no_buffer files) (sym (here disk_unit attached None (inr refl) some refl)) refl

-- ---- a unit gets a file, or loses one

pub holds-attached : (unit : UnitName) (count : ℕ) (a : Attachment) (bytes : List ℕ) (attached : List (Option Attachment)) (disk : Buffer) → IsDrive unit → 0 < length attached
    → HoldsAt attached disk → HoldsAt (with_attachment attached unit (Some a)) (buffer_by (Attached count) unit bytes disk)
holds-attached unit count a bytes attached disk drive some is = by-disk (is_disk unit.kind) refl
  where
    by-disk : (b : Bool) → is_disk unit.kind ≡ b → HoldsAt (with_attachment attached unit (Some a)) (if b then record { bytes = bytes; written = false } else disk)
    by-disk true at = λ none. absurd (let both : Some a ≡ None = sym (here unit attached (Some a) drive some at) ∙ none in cc)
    by-disk false at = λ none. is (sym (elsewhere unit attached (Some a) at) ∙ none)

pub holds-detached : (unit : UnitName) (fault : Option Failure) (attached : List (Option Attachment)) (disk : Buffer) → HoldsAt attached disk
    → HoldsAt (detached unit attached) (buffer_left (Detached fault) unit disk)
holds-detached unit fault attached disk is = by-disk (is_disk unit.kind) refl
  where
    by-disk : (b : Bool) → is_disk unit.kind ≡ b → HoldsAt (detached unit attached) (if b then no_buffer else disk)
    by-disk true at = λ none. refl
    by-disk false at = λ none. is (sym (elsewhere unit attached None at) ∙ none)

pub copy-attached : (unit : UnitName) (count : ℕ) (a : Attachment) (attached : List (Option Attachment)) (disk : Buffer) (old files : List NamedBytes) → IsDrive unit → 0 < length attached
    → CopyIsFile (attachment_at attached disk_unit) disk old
    → ((buffer_by (Attached count) unit (bytes_of files a.name) disk).written ≡ false → disk.written ≡ false → KeepsFile (attachment_at attached disk_unit) old files)
    → CopyIsFile (attachment_at (with_attachment attached unit (Some a)) disk_unit) (buffer_by (Attached count) unit (bytes_of files a.name) disk) files
copy-attached unit count a attached disk old files drive some is keeps = by-disk (is_disk unit.kind) refl keeps
  where
    by-disk : (b : Bool) → is_disk unit.kind ≡ b
        → ((if b then record { bytes = bytes_of files a.name; written = false } else disk).written ≡ false → disk.written ≡ false → KeepsFile (attachment_at attached disk_unit) old files)
        → CopyIsFile (attachment_at (with_attachment attached unit (Some a)) disk_unit) (if b then record { bytes = bytes_of files a.name; written = false } else disk) files
    by-disk true at keeps =
        subst (λ (o : Option Attachment). CopyIsFile o (record { bytes = bytes_of files a.name; written = false }) files) (sym (here unit attached (Some a) drive some at)) (λ none. refl)
    by-disk false at keeps =
        subst (λ (o : Option Attachment). CopyIsFile o disk files) (sym (elsewhere unit attached (Some a) at)) (copy-kept (attachment_at attached disk_unit) disk old files is (λ none. keeps none none))

pub copy-detached : (unit : UnitName) (fault : Option Failure) (attached : List (Option Attachment)) (disk : Buffer) (old files : List NamedBytes) → IsDrive unit → 0 < length attached
    → CopyIsFile (attachment_at attached disk_unit) disk old
    → ((buffer_left (Detached fault) unit disk).written ≡ false → disk.written ≡ false → is_disk unit.kind ≡ false → KeepsFile (attachment_at attached disk_unit) old files)
    → CopyIsFile (attachment_at (detached unit attached) disk_unit) (buffer_left (Detached fault) unit disk) files
copy-detached unit fault attached disk old files drive some is keeps = by-disk (is_disk unit.kind) refl keeps
  where
    by-disk : (b : Bool) → is_disk unit.kind ≡ b → ((if b then no_buffer else disk).written ≡ false → disk.written ≡ false → is_disk unit.kind ≡ false → KeepsFile (attachment_at attached disk_unit) old files)
        → CopyIsFile (attachment_at (detached unit attached) disk_unit) (if b then no_buffer else disk) files
    by-disk true at keeps = subst (λ (o : Option Attachment). CopyIsFile o no_buffer files) (sym (here unit attached None drive some at)) refl
    by-disk false at keeps =
        subst (λ (o : Option Attachment). CopyIsFile o disk files) (sym (elsewhere unit attached None at)) (copy-kept (attachment_at attached disk_unit) disk old files is (λ none. keeps none none at))

-- ---- all units lose their files

-- the disk has no file, and holds nothing
record HasNothing (s : Filed) : Type 0 where
  none : attachment_at s.attached disk_unit ≡ None
  disk : s.disk ≡ no_buffer

left-other : (said : DetachSaid) (unit : UnitName) (disk : Buffer) → is_disk unit.kind ≡ false → buffer_left said unit disk ≡ disk
left-other HadNone unit disk other = refl
left-other (StillHeld f) unit disk other = refl
left-other (Detached fault) unit disk other = ap (λ (b : Bool). if b then no_buffer else disk) other

others-nothing : (time : ℕ) (us : List UnitName) (s : Filed) (notes : List CommandNote) → AreOthers us → HasNothing s → HasNothing (emptied time us s notes).left
unfolding emptied
others-nothing time [] s notes others is = is
others-nothing time (u ∷ us) s notes others is =
    let fault = failure_now time (subject.Unit u) notes in
    by-said (said_in fault u s) notes _ _
    (record { none = is.none; disk = is.disk })
    (λ more. others-nothing time us (without_file fault u s) more others.1
    (record { none = elsewhere u s.attached None others.0 ∙ is.none; disk = left-other (said_in fault u s) u s.disk others.0 ∙ is.disk }))
  where
    by-said : (said : DetachSaid) (notes : List CommandNote) (left : Filed) (rest : List CommandNote → Emptied) → HasNothing left → ((more : List CommandNote) → HasNothing (rest more).left)
        → HasNothing (emptied_as said u left rest notes).left
    by-said HadNone notes left rest kept more = more notes
    by-said (StillHeld f) notes left rest kept more = kept
    by-said (Detached None) notes left rest kept more = more notes
    by-said (Detached (Some f)) notes left rest kept more = more (drop 1 notes)

-- the disk comes first, and behind it there is nothing, unless it has kept its file
first-nothing : (time : ℕ) (us : List UnitName) (s : Filed) (notes : List CommandNote) → AreOthers us → 0 < length s.attached → HoldsAt s.attached s.disk
    → (emptied time (disk_unit ∷ us) s notes).kept ≡ None → HasNothing (emptied time (disk_unit ∷ us) s notes).left
unfolding emptied
first-nothing time us s notes others some is kept =
    let fault = failure_now time (subject.Unit disk_unit) notes in
    by-said (said_in fault disk_unit s) notes refl (λ more. others-nothing time us (without_file fault disk_unit s) more others) kept
  where
    fault_is : Option Failure
    fault_is = failure_now time (subject.Unit disk_unit) notes

    gone : attachment_at (detached disk_unit s.attached) disk_unit ≡ None
    gone = here disk_unit s.attached None (inr refl) some refl

    none-held : (a : Option Attachment) → attachment_at s.attached disk_unit ≡ a → detach_said_of fault_is disk_unit a s.disk ≡ HadNone → s.disk ≡ no_buffer
    none-held None at said = is at
    none-held (Some a) at said = by-flush (flush_failure fault_is disk_unit s.disk) said
      where
        by-flush : (f : Option Failure) → closing_said f fault_is ≡ HadNone → s.disk ≡ no_buffer
        by-flush None said = absurd (cc)
        by-flush (Some f) said = absurd (cc)

    by-said : (said : DetachSaid) (more : List CommandNote) → said_in fault_is disk_unit s ≡ said
        → ((rest : List CommandNote) → HasNothing (without_file fault_is disk_unit s) → HasNothing (emptied time us (without_file fault_is disk_unit s) rest).left)
        → (emptied_as said disk_unit (written_in fault_is disk_unit s) (λ rest. emptied time us (without_file fault_is disk_unit s) rest) more).kept ≡ None
        → HasNothing (emptied_as said disk_unit (written_in fault_is disk_unit s) (λ rest. emptied time us (without_file fault_is disk_unit s) rest) more).left
    by-said HadNone more said goes kept =
        goes more (record { none = gone; disk = ap (λ (x : DetachSaid). buffer_left x disk_unit s.disk) said ∙ none-held (attachment_at s.attached disk_unit) refl said })
    by-said (StillHeld f) more said goes kept = absurd (cc)
    by-said (Detached None) more said goes kept = goes more (record { none = gone; disk = ap (λ (x : DetachSaid). buffer_left x disk_unit s.disk) said })
    by-said (Detached (Some f)) more said goes kept = goes (drop 1 more) (record { none = gone; disk = ap (λ (x : DetachSaid). buffer_left x disk_unit s.disk) said })

pub holds-emptied : (time : ℕ) (us : List UnitName) (s : Filed) (notes : List CommandNote) → AreOthers us → 0 < length s.attached → HoldsAt s.attached s.disk
    → (emptied time (disk_unit ∷ us) s notes).kept ≡ None
    → HoldsAt (emptied time (disk_unit ∷ us) s notes).left.attached (emptied time (disk_unit ∷ us) s notes).left.disk
holds-emptied time us s notes others some is kept = λ none. (first-nothing time us s notes others some is kept).disk

pub copy-emptied : (time : ℕ) (us : List UnitName) (s : Filed) (notes : List CommandNote) → AreOthers us → 0 < length s.attached → CopyIsFile (attachment_at s.attached disk_unit) s.disk s.files
    → (emptied time (disk_unit ∷ us) s notes).kept ≡ None
    → CopyIsFile (attachment_at (emptied time (disk_unit ∷ us) s notes).left.attached disk_unit) (emptied time (disk_unit ∷ us) s notes).left.disk (emptied time (disk_unit ∷ us) s notes).left.files
copy-emptied time us s notes others some is kept =
    let holds : HoldsAt s.attached s.disk = λ none. subst (λ (o : Option Attachment). CopyIsFile o s.disk s.files) none is in
    let nothing = first-nothing time us s notes others some holds kept in
    let left = (emptied time (disk_unit ∷ us) s notes).left in
    subst (λ (o : Option Attachment). CopyIsFile o left.disk left.files) (sym nothing.none) nothing.disk
