-- ATTACH, DETACH and the end of a session leave files of bytes, and a machine in which all is in range.
use Rattle.std.proofs.Common.{◌≡◌, inl, inr, ℕ, zero, suc, ◌+◌, ◌<◌, ◌≤◌, ◌&&◌, nat_le, nat_lt, Bool, true, false, is_some, List, [], ◌∷◌, length, take, drop, Option, Some, None, IfSome, option_map, if◌then◌else◌, refl, sym, subst, ◌∙◌, arith}
use Rattle.std.specs.List.{AllByRecursion}
use Rattle.std.proofs.lemmas.Bool.{ltb-false}
use Rattle.std.proofs.lemmas.Bool.Decides.{nat_tests}
use Rattle.std.proofs.lemmas.List.{length-set, length-map}
use Rattle.file_traits.specs.Lists.{NamedBytes, find_file, bytes_of, with_file, changed}
use Rattle.unit_trait.specs.declared.kind.Kind.{Kind}
use Rattle.unit_trait.specs.declared.kind.Kind.TheVariants.{Mta, Lpt, Ptr, Ptp}
use Rattle.unit_trait.specs.declared.kind.UnitName.{UnitName}
use Rattle.unit_trait.specs.Registers.{register_at}
use Rattle.unit_trait.specs.Calls.{UnitState}
use Rattle.unit_trait.specs.Row.{takes_value}
use Rattle.unit_list.specs.Bus.{AllFit, with_register_in}
use Rattle.file_traits.specs.declared.files.FileCall.TheVariants.{Opening, Length, Write}
use Rattle.unit_files.specs.declared.modes.AttachMode.{AttachMode}
use Rattle.unit_files.specs.declared.modes.AttachMode.TheVariants.{Any, MustExist, New, ReadOnly}
use Rattle.unit_files.specs.Attachments.{Attachment, Held, attachments_of, attachment_at, file_place, with_attachment, longest_file, is_disk, only_writes}
use Rattle.unit_files.specs.Buffer.{Buffer, no_buffer}
use Rattle.unit_files.specs.Acts.{Failure, failure_at, AttachSaid, Attached, UnitHasFile, OnlyWrites, NotThere, TooLong, CallFailed, is_read_only, refused_first, opened_files, reading_failure, read_whole, measured_as, opened_said, opening_said, said_unless, attach_said}
use Rattle.unit_files.specs.Acts.{files_where, files_unless_opening, files_unless, attach_files, is_due_back, written_over, written_back, flush_files, DetachSaid, HadNone, StillHeld, Detached, detached, buffer_left}
use Rattle.file_commands.specs.Notes.{CommandNote, failure_now}
use Rattle.file_commands.specs.declared.note.Subject.TheVariants as subject
use Rattle.file_commands.specs.AllUnits.{Filed, Emptied, emptied_as, said_in, without_file, emptied}
use Rattle.nova_machine.specs.Machine.{MachineState}
use Rattle.nova_machine.specs.Core.{AreListed}
use Rattle.nova_machine.specs.Seen.{attached_in}
use Rattle.nova_machine.specs.Valid.{AreBytes, IsByteName, HasByteName, ValidMachine}
use Rattle.machine_laws.proofs.ValidBytes.{AreFiles, files-with, files-changed, bytes-append, bytes-take, bytes-drop}
use Rattle.nova_machine.proofs.Each.{every-set}
use Rattle.scp_parser.specs.Command.{IsDrive}
use Rattle.command_session.specs.Live.{numberless, with_attached}
use Rattle.command_session.specs.FileEffects.{has_position, position_number, positioned, first_place, attached_machine, detached_machine}
use Rattle.scp_examine.proofs.UnitLemmas.{all_fit-set}
use Rattle.host_commands.proofs.FileKinds.{positioned-kinds}

-- ---- files

opened-files : (mode : AttachMode) (name : List ℕ) (files : List NamedBytes) → AreFiles files → AreFiles (files_where (opened_files mode name files) files)
opened-files mode name files all = by-mode mode
  where
    where-there : (b : Bool) → AreFiles (files_where (if b then Some files else None) files)
    where-there true = all
    where-there false = all

    where-made : (b : Bool) → AreFiles (files_where (if b then Some files else Some (with_file files name [])) files)
    where-made true = all
    where-made false = files-with files name [] tt all

    by-mode : (mode : AttachMode) → AreFiles (files_where (opened_files mode name files) files)
    by-mode Any = where-made (is_some (find_file files name))
    by-mode New = files-with files name [] tt all
    by-mode MustExist = where-there (is_some (find_file files name))
    by-mode ReadOnly = where-there (is_some (find_file files name))

pub attached-files : (fault : Option Failure) (mode : AttachMode) (unit : UnitName) (name : List ℕ) (attached : List (Option Attachment)) (files : List NamedBytes)
    → AreFiles files → AreFiles (attach_files fault mode unit name attached files)
unfolding attach_files
attached-files fault mode unit name attached files all = by-refusal (refused_first (attachment_at attached unit) unit mode)
  where
    by-opening : (f : Option Failure) → AreFiles (files_unless_opening f mode name files)
    by-opening (Some f) = all
    by-opening None = opened-files mode name files all

    by-refusal : (o : Option AttachSaid) → AreFiles (files_unless o fault mode name files)
    by-refusal (Some said) = all
    by-refusal None = by-opening (failure_at Opening fault)

over-bytes : (f : Option Failure) (bytes old : List ℕ) → AreBytes bytes → AreBytes old → AreBytes (written_over f bytes old)
over-bytes (Some f) bytes old all is = bytes-append (take f.done bytes) (drop f.done old) (bytes-take f.done bytes all) (bytes-drop f.done old is)
over-bytes None bytes old all is = all

pub flushed-files : (fault : Option Failure) (unit : UnitName) (a : Option Attachment) (disk : Buffer) (files : List NamedBytes)
    → AreBytes disk.bytes → AreFiles files → AreFiles (flush_files fault unit a disk files)
unfolding flush_files
flushed-files fault unit None disk files bytes all = all
flushed-files fault unit (Some a) disk files bytes all = by-due (is_due_back unit disk)
  where
    by-due : (b : Bool) → AreFiles (if b then changed files a.name (written_back fault disk) else files)
    by-due true =
        files-changed files a.name (written_back fault disk)
        (λ old are. over-bytes (failure_at Write fault) disk.bytes old bytes are) all
    by-due false = all

-- ---- how long a file is that becomes a unit's

-- an attaching that was done has a file that is not too long
abbrev pub Fits : UnitName → AttachSaid → Type 0
Fits unit (Attached count) = count ≤ longest_file unit.kind
Fits unit said = Unit {0}

pub attached-fits : (fault : Option Failure) (mode : AttachMode) (unit : UnitName) (name : List ℕ) (attached : List (Option Attachment)) (files : List NamedBytes)
    → Fits unit (attach_said fault mode unit name attached files)
unfolding attach_said
attached-fits fault mode unit name attached files = by-held (attachment_at attached unit)
  where
    read : (f : Option Failure) (count : ℕ) → count ≤ longest_file unit.kind → Fits unit (read_whole f count)
    read (Some f) count low = tt
    read None count low = low

    by-length : (b : Bool) (count : ℕ) → nat_lt (longest_file unit.kind) count ≡ b → Fits unit (if b then TooLong else read_whole (reading_failure fault unit count) count)
    by-length true count is = tt
    by-length false count is = read (reading_failure fault unit count) count (ltb-false (longest_file unit.kind) count is)

    by-measuring : (f : Option Failure) (count : ℕ) → Fits unit (measured_as f fault unit count)
    by-measuring (Some f) count = tt
    by-measuring None count = by-length (nat_lt (longest_file unit.kind) count) count refl

    by-opened : (o : Option (List NamedBytes)) → Fits unit (opened_said fault unit name o)
    by-opened None = tt
    by-opened (Some files) = by-measuring (failure_at Length fault) (length (bytes_of files name))

    by-opening : (f : Option Failure) → Fits unit (opening_said f fault mode unit name files)
    by-opening (Some f) = tt
    by-opening None = by-opened (opened_files mode name files)

    by-mode : (b : Bool) → Fits unit (said_unless (if b then Some OnlyWrites else None) fault mode unit name files)
    by-mode true = tt
    by-mode false = by-opening (failure_at Opening fault)

    by-held : (a : Option Attachment) → Fits unit (said_unless (refused_first a unit mode) fault mode unit name files)
    by-held (Some a) = tt
    by-held None = by-mode (is_read_only mode && only_writes unit.kind)

-- ---- where a unit goes on

-- the place of one that writes is at most 2 ^ 24, and a tape begins
begins : (kind : Kind) (count : ℕ) → count ≤ longest_file kind → has_position kind ≡ true → first_place kind count ≤ 16777216
unfolding longest_file
begins Mta count low has = omega arith
begins Lpt count low has = low
begins Ptr count low has = omega arith
begins Ptp count low has = low
begins kind count low has = absurd (cc)

drive-takes : (drive : ℕ) → drive < 8 → takes_value (register_at Mta (9 + drive)) 0 ≡ true
drive-takes zero low = refl
drive-takes (suc zero) low = refl
drive-takes (suc (suc zero)) low = refl
drive-takes (suc (suc (suc zero))) low = refl
drive-takes (suc (suc (suc (suc zero)))) low = refl
drive-takes (suc (suc (suc (suc (suc zero))))) low = refl
drive-takes (suc (suc (suc (suc (suc (suc zero)))))) low = refl
drive-takes (suc (suc (suc (suc (suc (suc (suc zero))))))) low = refl
drive-takes (suc (suc (suc (suc (suc (suc (suc (suc n)))))))) low = absurd (omega arith)

place-takes : (place : ℕ) → place ≤ 16777216 → (nat_le 0 place && nat_le place 0o100000000) ≡ true
place-takes place low = grind (arith, nat_tests)

low-drive : (drive : UnitName) → IsDrive drive → drive.unit < 8
low-drive drive (inl h) = h.1
low-drive drive (inr h) = omega (arith, h)

place-fits : (unit : UnitName) (count : ℕ) → IsDrive unit → count ≤ longest_file unit.kind → has_position unit.kind ≡ true
    → takes_value (register_at unit.kind (position_number unit)) (first_place unit.kind count) ≡ true
place-fits unit count is low has = by-kind unit.kind unit.unit (low-drive unit is) low has
  where
    by-kind : (kind : Kind) (number : ℕ) → number < 8 → count ≤ longest_file kind → has_position kind ≡ true
        → takes_value (register_at kind (position_number (record { kind = kind; unit = number }))) (first_place kind count) ≡ true
    by-kind Mta number few low has = drive-takes number few
    by-kind Lpt number few low has = place-takes count (begins Lpt count low has)
    by-kind Ptr number few low has = refl
    by-kind Ptp number few low has = place-takes count (begins Ptp count low has)
    by-kind kind number few low has = absurd (cc)

positioned-fit : (unit : UnitName) (place : ℕ) (us : List UnitState) → (has_position unit.kind ≡ true → takes_value (register_at unit.kind (position_number unit)) place ≡ true)
    → AllFit us → AllFit (positioned unit place us)
positioned-fit unit place us takes all = by-test (has_position unit.kind) refl
  where
    by-test : (b : Bool) → has_position unit.kind ≡ b → AllFit (if b then with_register_in unit.kind (position_number unit) place us else us)
    by-test true is = all_fit-set unit.kind (position_number unit) place us (takes is) all
    by-test false is = all

-- ---- the names of files

-- the name of what a unit has is of bytes, and short
abbrev pub HasName : Option Attachment → Type 0
HasName a = IfSome a (λ (b : Attachment). IsByteName b.name)

pub names-seen : (slots : List (Option Held)) → AllByRecursion HasByteName slots → AllByRecursion HasName (attachments_of slots)
names-seen [] all = tt
names-seen (None ∷ slots) all = (tt, names-seen slots all.1)
names-seen (Some h ∷ slots) all = (all.0, names-seen slots all.1)

names-held : (attached : List (Option Attachment)) → AllByRecursion HasName attached → AllByRecursion HasByteName (numberless attached)
names-held [] all = tt
names-held (None ∷ attached) all = (tt, names-held attached all.1)
names-held (Some a ∷ attached) all = (all.0, names-held attached all.1)

names-with : (attached : List (Option Attachment)) (unit : UnitName) (a : Option Attachment) → HasName a → AllByRecursion HasName attached
    → AllByRecursion HasName (with_attachment attached unit a)
names-with attached unit a here all = every-set HasName attached (file_place unit) a here all

-- ---- the machine

pub attached-length : (m : MachineState) (unit : UnitName) (a : Option Attachment) → length (numberless (with_attachment (attached_in m) unit a)) ≡ length m.slots
attached-length m unit a =
    let attached = with_attachment (attached_in m) unit a in
    length-map attached (λ slot. option_map (λ (x : Attachment). record { file = 0; attachment = x }) slot)
    ∙ length-set (attached_in m) _ a ∙ length-map m.slots (λ slot. option_map (λ (h : Held). h.attachment) slot)

buffer-bytes : (b : Bool) (bytes : List ℕ) (disk : Buffer) → AreBytes bytes → AreBytes disk.bytes → AreBytes (if b then record { bytes = bytes; written = false } else disk).bytes
buffer-bytes true bytes disk new old = new
buffer-bytes false bytes disk new old = old

pub attached-valid : (said : AttachSaid) (mode : AttachMode) (unit : UnitName) (name bytes : List ℕ) (m : MachineState) → IsDrive unit → Fits unit said → IsByteName name → AreBytes bytes → ValidMachine m
    → ValidMachine (attached_machine said mode unit name bytes m)
attached-valid (Attached count) mode unit name bytes m drive low named new is = record {
  memory = is.memory;
  size = is.size;
  cpu = is.cpu;
  mask = is.mask;
  switches = is.switches;
  core = record {
    registers = positioned-fit unit (first_place unit.kind count) m.units (place-fits unit count drive low) is.core.registers;
    sound = is.core.sound;
    listed = subst (λ (kinds : List Kind). AreListed kinds m.events) (sym (positioned-kinds unit (first_place unit.kind count) m.units)) is.core.listed;
    times = is.core.times;
  };
  places = attached-length m unit (Some (record { name = name; read_only = is_read_only mode })) ∙ is.places;
  names =
      let a : Attachment = record { name = name; read_only = is_read_only mode } in
      names-held (with_attachment (attached_in m) unit (Some a)) (names-with (attached_in m) unit (Some a) named (names-seen m.slots is.names));
  disk = buffer-bytes (is_disk unit.kind) bytes m.disk new is.disk;
}
attached-valid UnitHasFile mode unit name bytes m drive low named new is = is
attached-valid OnlyWrites mode unit name bytes m drive low named new is = is
attached-valid NotThere mode unit name bytes m drive low named new is = is
attached-valid TooLong mode unit name bytes m drive low named new is = is
attached-valid (CallFailed f) mode unit name bytes m drive low named new is = is

-- other attachments and another copy
pub filed-valid : (m : MachineState) (attached : List (Option Attachment)) (disk : Buffer) → ValidMachine m → length (numberless attached) ≡ 12 → AllByRecursion HasName attached
    → AreBytes disk.bytes → ValidMachine (record (with_attached m attached) { disk = disk })
filed-valid m attached disk is places names bytes = record {
  memory = is.memory;
  size = is.size;
  cpu = is.cpu;
  mask = is.mask;
  switches = is.switches;
  core = record { registers = is.core.registers; sound = is.core.sound; listed = is.core.listed; times = is.core.times };
  places = places;
  names = names-held attached names;
  disk = bytes;
}

left-bytes : (said : DetachSaid) (unit : UnitName) (disk : Buffer) → AreBytes disk.bytes → AreBytes (buffer_left said unit disk).bytes
left-bytes HadNone unit disk bytes = bytes
left-bytes (StillHeld f) unit disk bytes = bytes
left-bytes (Detached fault) unit disk bytes = by-disk (is_disk unit.kind)
  where
    by-disk : (b : Bool) → AreBytes (if b then no_buffer else disk).bytes
    by-disk true = tt
    by-disk false = bytes

pub detached-valid : (said : DetachSaid) (unit : UnitName) (m : MachineState) → ValidMachine m → ValidMachine (detached_machine said unit m)
detached-valid HadNone unit m is = is
detached-valid (StillHeld f) unit m is = is
detached-valid (Detached fault) unit m is =
    filed-valid m (detached unit (attached_in m)) (buffer_left (Detached fault) unit m.disk) is (attached-length m unit None ∙ is.places)
    (names-with (attached_in m) unit None tt (names-seen m.slots is.names)) (left-bytes (Detached fault) unit m.disk is.disk)

-- ---- all units lose their files

-- what stands behind that: as many places, and names and files of bytes
pub record IsFiled (s : Filed) : Type 0 where
  pub places : length (numberless s.attached) ≡ 12
  pub names : AllByRecursion HasName s.attached
  pub disk : AreBytes s.disk.bytes
  pub files : AreFiles s.files

numberless-length : (attached : List (Option Attachment)) → length (numberless attached) ≡ length attached
numberless-length attached = length-map attached (λ slot. option_map (λ (x : Attachment). record { file = 0; attachment = x }) slot)

without-filed : (fault : Option Failure) (u : UnitName) (s : Filed) → IsFiled s → IsFiled (without_file fault u s)
without-filed fault u s is = record {
  places = numberless-length (detached u s.attached) ∙ length-set s.attached _ None ∙ sym (numberless-length s.attached) ∙ is.places;
  names = names-with s.attached u None tt is.names;
  disk = left-bytes (said_in fault u s) u s.disk is.disk;
  files = flushed-files fault u (attachment_at s.attached u) s.disk s.files is.disk is.files;
}

pub emptied-filed : (time : ℕ) (us : List UnitName) (s : Filed) (notes : List CommandNote) → IsFiled s → IsFiled (emptied time us s notes).left
unfolding emptied
emptied-filed time [] s notes is = is
emptied-filed time (u ∷ us) s notes is =
    let fault = failure_now time (subject.Unit u) notes in
    by-said (said_in fault u s) notes _ _
    (record { places = is.places; names = is.names; disk = is.disk; files = flushed-files fault u (attachment_at s.attached u) s.disk s.files is.disk is.files })
    (λ more. emptied-filed time us (without_file fault u s) more (without-filed fault u s is))
  where
    by-said : (said : DetachSaid) (notes : List CommandNote) (left : Filed) (rest : List CommandNote → Emptied) → IsFiled left → ((more : List CommandNote) → IsFiled (rest more).left)
        → IsFiled (emptied_as said u left rest notes).left
    by-said HadNone notes left rest kept more = more notes
    by-said (StillHeld f) notes left rest kept more = kept
    by-said (Detached None) notes left rest kept more = more notes
    by-said (Detached (Some f)) notes left rest kept more = more _
