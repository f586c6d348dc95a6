-- The disk's copy of its file over a turn and a run.
use Rattle.std.proofs.Common.{◌≡◌, ◌≢◌, ◌↔◌, ◌&&◌, ℕ, ◌+◌, ◌%◌, ◌^◌, ◌==◌, inl, inr, Bool, true, false, List, length, slice_index, nat_lt, Option, Some, None, option_map, IfSome, Result, Ok, Err, refl, ap, sym, subst, ◌∙◌, arith, if◌then◌else◌}
use Rattle.std.proofs.lemmas.Bool.{cond_both, cases_lt, le-ltb}
use Rattle.std.proofs.lemmas.List.{length-map, get_or_past}
use Rattle.file_traits.specs.Lists.{NamedBytes, bytes_of, changed}
use Rattle.file_traits.proofs.Changes.{changed_elsewhere}
use Rattle.nova_memory.specs.Memory.{MemoryState}
use Rattle.unit_trait.specs.declared.kind.Kind.{Kind}
use Rattle.unit_trait.specs.declared.kind.Kind.TheVariants.{Dsk, Mta, Qty}
use Rattle.unit_trait.specs.declared.kind.UnitName.{UnitName}
use Rattle.unit_trait.specs.declared.calls.Want.{Want}
use Rattle.unit_trait.specs.declared.calls.Want.TheVariants as want
use Rattle.unit_trait.specs.declared.calls.Got.{Got}
use Rattle.unit_trait.specs.declared.calls.TapeOrder.{TapeOrder}
use Rattle.unit_trait.specs.Kinds.{code_of, units_of}
use Rattle.unit_trait.specs.Tape.{tape_order}
use Rattle.unit_trait.specs.Reader.{reader_row}
use Rattle.unit_trait.specs.Writer.{writer_row}
use Rattle.unit_trait.specs.Clock.{clock_row}
use Rattle.unit_trait.specs.Keyboard.{keyboard_row}
use Rattle.unit_trait.specs.Teleprinter.{teleprinter_row}
use Rattle.unit_trait.specs.Multiplexer.{lines_of, lines_row, can_be_sent}
use Rattle.unit_trait.specs.Calls.{UnitState, Due}
use Rattle.unit_trait.specs.Row.{row_of}
use Rattle.unit_trait.proofs.EveryKind.{every-kind}
use Rattle.unit_list.specs.Bus.{unit_at, row_or_nothing}
use Rattle.unit_list.proofs.Room.{kind-found}
use Rattle.unit_files.specs.Attachments.{Attachment, Held, attachments_of, attachment_at, file_place, kind_place, file_units}
use Rattle.unit_files.specs.Buffer.{Buffer, disk_unit, with_sector, sector_written}
use Rattle.unit_files.specs.Acts.{Failure, byte_written, write_files, most_bytes}
use Rattle.nova_machine.specs.declared.machine.Stop.{Stop}
use Rattle.nova_machine.specs.Machine.{MachineState}
use Rattle.nova_machine.specs.Notes.{UnitNote, RunNote}
use Rattle.nova_machine.specs.Seen.{Seen, attached_in}
use Rattle.nova_machine.specs.Parts.{Part, silent, followed, then_part}
use Rattle.nova_machine.specs.Sectors.{disk_after}
use Rattle.memory_transfer.specs.Words.{sector_words, bytes_got}
use Rattle.memory_transfer.specs.Tapes.{NoAnswer, with_some_done, writes_tape, image_operated}
use Rattle.nova_machine.specs.Drives.{tape_files}
use Rattle.nova_machine.specs.Wants.{answer_to, files_after, own_stop}
use Rattle.nova_machine.specs.OnLines.{Lined}
use Rattle.nova_machine.specs.Service.{want_at, asked, answered, replied, key_at, hosted, own_service, behind_line, line_service, service, taken}
use Rattle.nova_machine.specs.Turn.{breaks_tested, turn}
use Rattle.nova_machine.specs.Run.{run}
use Rattle.nova_machine.specs.Valid.{CopyIsFile, KeepsFile, LeavesDiskFile, Valid}
use Rattle.machine_laws.specs.ValidLaws.{HasOwnFile, DiskHasOwnFile, KeepsCopy}
use Rattle.nova_machine.proofs.Hosting.{disk-is}
use Rattle.nova_machine.proofs.Leaves.{leaves-fetch, leaves-interrupt}
use Rattle.nova_machine.proofs.Walks.{OfServices, OfTurns, OfRuns, walk-turn, walk-run}
use Rattle.nova_machine.proofs.EachService.{each-service}

-- ---- what may be written into the copy

-- sectors are wanted by the disk alone, and it wants nothing else that changes a file
abbrev IsOfKind : Kind → Want → Type 0
IsOfKind kind (want.Sector write n from) = kind ≡ Dsk
IsOfKind kind (want.WriteByte place byte) = kind ≢ Dsk
IsOfKind kind (want.Tape order) = kind ≢ Dsk
IsOfKind kind other = Unit {0}

want-of : (kind : Kind) (values : List ℕ) (n : ℕ) → IsOfKind kind (row_of kind values (Due n)).want
unfolding row_of reader_row writer_row clock_row keyboard_row teleprinter_row lines_row
want-of kind values n =
    every-kind (λ (k : Kind). IsOfKind k (row_of k values (Due n)).want) (
      refl,
      (cond_both (slice_index values 4 == 2) want.Nothing (want.Tape (tape_order n values)) (IsOfKind Mta) (λ _. tt) (λ _ e. absurd (cc))),
      (λ e. absurd (cc)),
      tt,
      (λ e. absurd (cc)),
      tt,
      tt,
      tt,
      tt,
      tt,
      cond_both (can_be_sent (slice_index (lines_of values).tx n)) (want.LinePut (n + 1) (slice_index (lines_of values).tx n % 2 ^ 8)) (want.LineKey (n + 1)) (IsOfKind Qty) (λ _. tt) (λ _. tt),
    ) kind

want-found : (kind : Kind) (n : ℕ) (there : Option UnitState) → IfSome there (λ u. u.kind ≡ kind) → IsOfKind kind (row_or_nothing (Due n) there).want
want-found kind n None same = tt
want-found kind n (Some u) same = subst (λ (k : Kind). IsOfKind k (row_or_nothing (Due n) (Some u)).want) same (want-of u.kind u.registers n)

want-in : (u : UnitName) (m : MachineState) → IsOfKind u.kind (want_at u m)
want-in u m = want-found u.kind u.unit (unit_at (code_of u.kind) m.units) (kind-found u.kind m.units)

-- a unit of the disk's kind has no file where the disk has none
no-file : (slots : List (Option Held)) (u : UnitName) → length slots ≡ 12 → u.kind ≡ Dsk → attachment_at (attachments_of slots) disk_unit ≡ None → attachment_at (attachments_of slots) u ≡ None
no-file slots u twelve is none = elim (cases_lt u.unit (units_of u.kind)) [
  | inl low ↦ subst (λ (x : UnitName). attachment_at (attachments_of slots) x ≡ None) (disk-is u is low) none
  | inr high ↦
      let past : file_place u ≡ file_units = ap (λ (b : Bool). if b then kind_place u.kind u.unit else file_units) (le-ltb u.unit (units_of u.kind) high) in
      let size = length-map slots (λ (slot : Option Held). option_map (λ (h : Held). h.attachment) slot) in
      get_or_past (attachments_of slots) (file_place u) None (omega (arith, past, size, twelve))
]

-- ---- the files

byte-elsewhere : (fault : Option Failure) (a : Option Attachment) (place byte : ℕ) (files : List NamedBytes) (name : List ℕ) → IfSome a (λ b. b.name ≢ name)
    → bytes_of (write_files fault a place byte files) name ≡ bytes_of files name
unfolding write_files
byte-elsewhere fault None place byte files name apart = refl
byte-elsewhere fault (Some a) place byte files name apart =
    cond_both (nat_lt place most_bytes) (changed files a.name (byte_written fault place byte)) files (λ (x : List NamedBytes). bytes_of x name ≡ bytes_of files name)
    (λ _. changed_elsewhere files a.name name (byte_written fault place byte) apart) (λ _. refl)

tape-elsewhere : (fault : Option Failure) (a : Option Attachment) (m : MemoryState) (files : List NamedBytes) (order : TapeOrder) (name : List ℕ) → IfSome a (λ b. b.name ≢ name)
    → bytes_of (tape_files fault a m files order) name ≡ bytes_of files name
tape-elsewhere fault None m files order name apart = refl
tape-elsewhere fault (Some a) m files order name apart =
    cond_both (writes_tape order && a.read_only) files (changed files a.name (image_operated fault m order)) (λ (x : List NamedBytes). bytes_of x name ≡ bytes_of files name)
    (λ _. refl) (λ _. changed_elsewhere files a.name name (image_operated fault m order) apart)

files-elsewhere : (fault : Option Failure) (kind : Kind) (a : Option Attachment) (m : MemoryState) (files : List NamedBytes) (w : Want) (name : List ℕ) → IsOfKind kind w
    → (kind ≢ Dsk → IfSome a (λ b. b.name ≢ name)) → bytes_of (files_after fault a m files w) name ≡ bytes_of files name
files-elsewhere fault kind a m files (want.WriteByte place byte) name is apart = byte-elsewhere (with_some_done 1 fault) a place byte files name (apart is)
files-elsewhere fault kind a m files (want.Tape order) name is apart = tape-elsewhere fault a m files order name (apart is)
files-elsewhere fault kind a m files w name is apart = refl

-- the file of the disk, where it is its own
keeps-own : (d : Option Attachment) (fault : Option Failure) (u : UnitName) (attached : List (Option Attachment)) (m : MemoryState) (files : List NamedBytes) (w : Want) → IsOfKind u.kind w
    → HasOwnFile d attached → KeepsFile d files (files_after fault (attachment_at attached u) m files w)
keeps-own None fault u attached m files w is own = tt
keeps-own (Some d) fault u attached m files w is own = files-elsewhere fault u.kind (attachment_at attached u) m files w d.name is (own u)

keeps-then : (d : Option Attachment) (first second third : List NamedBytes) → KeepsFile d first second → KeepsFile d second third → KeepsFile d first third
keeps-then None first second third one two = tt
keeps-then (Some d) first second third one two = two ∙ one

keeps-same : (d : Option Attachment) (files : List NamedBytes) → KeepsFile d files files
keeps-same None files = tt
keeps-same (Some d) files = refl

-- ---- the copy over a part

-- what is attached stays, and the copy does where it is not marked as written, and where no file is attached to the disk
record Copies (s : Seen) (p : Part) : Type 0 where
  slots : p.after.machine.slots ≡ s.machine.slots
  written : p.after.machine.disk.written ≡ false → p.after.machine.disk ≡ s.machine.disk
  none : length s.machine.slots ≡ 12 → attachment_at (attached_in s.machine) disk_unit ≡ None → p.after.machine.disk ≡ s.machine.disk
  alone : DiskHasOwnFile s → LeavesDiskFile s p.after

copies-same : (s : Seen) (p : Part) → p.after.machine.slots ≡ s.machine.slots → p.after.machine.disk ≡ s.machine.disk → p.after.files ≡ s.files → Copies s p
copies-same s p slots disk files =
    let d = attachment_at (attached_in s.machine) disk_unit in
    record {
      slots = slots;
      written = λ _. disk;
      none = λ _ _. disk;
      alone = λ _. subst (λ (x : List NamedBytes). KeepsFile d s.files x) (sym files) (keeps-same d s.files);
    }

copies-followed : (s : Seen) (made : List _) (stop : Option Stop) (next : Seen) (goes_on : Seen → Part) → Copies s (record { made = made; after = next; stop = stop })
    → ((t : Seen) → Copies t (goes_on t)) → Copies s (followed made stop next goes_on)
copies-followed s made (Some stop) next goes_on first more = record { slots = first.slots; written = first.written; none = first.none; alone = first.alone }
copies-followed s made None next goes_on first more =
    let second = more next in
    let same : next.machine.slots ≡ s.machine.slots = first.slots in
    record {
      slots = second.slots ∙ same;
      written = λ h.
          let there = second.written h in
          there ∙ first.written (sym (ap (λ (d : Buffer). d.written) there) ∙ h);
      none = λ twelve nothing.
          second.none (ap (λ (l : List (Option Held)). length l) same ∙ twelve) (ap (λ (l : List (Option Held)). attachment_at (attachments_of l) disk_unit) same ∙ nothing)
          ∙ first.none twelve nothing;
      alone = λ own.
          let there = ap (λ (l : List (Option Held)). attachments_of l) same in
          let d = attachment_at (attached_in s.machine) disk_unit in
          let still : DiskHasOwnFile next = subst (λ (l : List (Option Attachment)). HasOwnFile (attachment_at l disk_unit) l) (sym there) own in
          let later = subst (λ (l : List (Option Attachment)). KeepsFile (attachment_at l disk_unit) next.files (goes_on next).after.files) there (second.alone still) in
          keeps-then d s.files next.files (goes_on next).after.files (first.alone own) later;
    }

copies-then : (s : Seen) (p : Part) (goes_on : Seen → Part) → Copies s p → ((t : Seen) → Copies t (goes_on t)) → Copies s (then_part p goes_on)
copies-then s p goes_on first more = copies-followed s p.made p.stop p.after goes_on (record { slots = first.slots; written = first.written; none = first.none; alone = first.alone }) more

-- what becomes of the copy of a unit that has this attachment
written-sector : (a : Option Attachment) (disk : Buffer) (n : ℕ) (piece : List ℕ) → (sector_written a disk n piece).written ≡ false → sector_written a disk n piece ≡ disk
written-sector None disk n piece = λ _. refl
written-sector (Some a) disk n piece =
    cond_both a.read_only disk (record { bytes = with_sector disk.bytes n piece; written = true }) (λ (d : Buffer). d.written ≡ false → d ≡ disk) (λ _ _. refl) (λ _ h. absurd (cc))

written-after : (a : Option Attachment) (m : MemoryState) (w : Want) (disk : Buffer) → (disk_after a m w disk).written ≡ false → disk_after a m w disk ≡ disk
written-after a m (want.Sector true n from) disk = written-sector a disk n (bytes_got sector_words from m)
written-after a m w disk = λ _. refl

none-after : (kind : Kind) (a : Option Attachment) (m : MemoryState) (w : Want) (disk : Buffer) → IsOfKind kind w → (kind ≡ Dsk → a ≡ None) → disk_after a m w disk ≡ disk
none-after kind a m (want.Sector true n from) disk is none = ap (λ (x : Option Attachment). sector_written x disk n (bytes_got sector_words from m)) (none is)
none-after kind a m w disk is none = refl

record CopiesSeen (s t : Seen) : Type 0 where
  slots : t.machine.slots ≡ s.machine.slots
  written : t.machine.disk.written ≡ false → t.machine.disk ≡ s.machine.disk
  none : length s.machine.slots ≡ 12 → attachment_at (attached_in s.machine) disk_unit ≡ None → t.machine.disk ≡ s.machine.disk
  alone : DiskHasOwnFile s → LeavesDiskFile s t

copies-hosted : (fault : Option Failure) (u : UnitName) (s : Seen) → CopiesSeen s (hosted fault u s)
unfolding hosted asked
copies-hosted fault u s =
    let w = want_at u s.machine in
    let a = attachment_at (attached_in s.machine) u in
    let m = s.machine in
    record {
      slots = refl;
      written = written-after a m.processor.memory w m.disk;
      none = λ twelve nothing. none-after u.kind a m.processor.memory w m.disk (want-in u m) (λ is. no-file m.slots u twelve is nothing);
      alone = λ own. keeps-own (attachment_at (attached_in m) disk_unit) fault u (attached_in m) m.processor.memory s.files w (want-in u m) own;
    }

copies-replied : (u : UnitName) (stop : Option Stop) (answer : Result Got NoAnswer) (s t : Seen) → CopiesSeen s t → Copies s (replied u stop answer t)
unfolding answered
copies-replied u stop (Ok g) s t same = record { slots = same.slots; written = same.written; none = same.none; alone = same.alone }
copies-replied u stop (Err why) s t same = record { slots = same.slots; written = same.written; none = same.none; alone = same.alone }

copies-own : (fault : Option Failure) (u : UnitName) (s : Seen) → Copies s (own_service fault u (taken s))
unfolding own_service
copies-own fault u s =
    let x = taken s in
    let w = want_at u x.machine in
    let host = copies-hosted fault u x in
    let p = copies-replied u (own_stop (key_at x) x.watch.expects w) (answer_to fault (attachment_at (attached_in x.machine) u) x.files (key_at x) w) s (hosted fault u x)
    (record { slots = host.slots; written = host.written; none = host.none; alone = host.alone }) in
    record { slots = p.slots; written = p.written; none = p.none; alone = p.alone }

-- a line has nothing to do with the copy
seen-lined : (u : UnitName) (l : Lined) (s : Seen) → CopiesSeen s (behind_line u l (taken s))
unfolding asked
seen-lined u l s = record {
  slots = refl;
  written = λ _. refl;
  none = λ _ _. refl;
  alone = λ _. keeps-same (attachment_at (attached_in s.machine) disk_unit) s.files;
}

copies-line : (u : UnitName) (l : Lined) (s : Seen) → Copies s (line_service u l (taken s))
unfolding line_service
copies-line u l s =
    let p = copies-replied u l.stop (Ok l.got) s (behind_line u l (taken s)) (seen-lined u l s) in
    record { slots = p.slots; written = p.written; none = p.none; alone = p.alone }

copies-service : (fault : Option Failure) (u : UnitName) (s : Seen) → Copies s (service fault u (taken s))
copies-service fault u s = each-service (Copies s) fault u (taken s) (copies-own fault u s) (λ l is. copies-line u l s)

copies-services : OfServices Copies
copies-services = record {
  none = λ s. copies-same s (silent None s) refl refl refl;
  both = copies-then;
  one = copies-service;
}

copies-tested : (s : Seen) → Copies s (breaks_tested s)
unfolding breaks_tested
copies-tested s = copies-same s _ refl refl refl

copies-turns : OfTurns Copies
copies-turns = record {
  pieces = record {
    services = copies-services;
    interrupted = λ s. let same = leaves-interrupt s.machine in copies-same s _ same.slots same.disk refl;
    tested = copies-tested;
  };
  fetched = λ s. let same = leaves-fetch s.machine in copies-same s _ same.slots same.disk refl;
}

copies-runs : OfRuns Copies
copies-runs = record { turn = copies-turns; over = λ s stop limit. copies-same s (silent (Some stop) s) refl refl refl }

-- ---- so it is that of the file still

-- both ways, by what is attached to the disk
copy-by : (a : Option Attachment) (disk disk' : Buffer) (files files' : List NamedBytes) → (disk'.written ≡ false → disk' ≡ disk) → (a ≡ None → disk' ≡ disk) → CopyIsFile a disk files
    → CopyIsFile a disk' files' ↔ (disk'.written ≡ false → KeepsFile a files files')
copy-by None disk disk' files files' written none copy = (λ _ _. tt, λ _. none refl ∙ copy)
copy-by (Some a) disk disk' files files' written none copy =
    let same : disk'.written ≡ false → disk'.bytes ≡ bytes_of files a.name =
    λ h. let there = written h in ap (λ (d : Buffer). d.bytes) there ∙ copy (sym (ap (λ (d : Buffer). d.written) there) ∙ h) in
    (λ is h. sym (is h) ∙ same h, λ keeps h. same h ∙ sym (keeps h))

keeps-copy : (s : Seen) (p : Part) → Valid s → Copies s p → KeepsCopy s p
keeps-copy s p is copies = record {
  written = copies.written;
  alone = copies.alone;
  copy = λ file.
      let attached = attachment_at (attached_in s.machine) disk_unit in
      let still : attachment_at (attached_in p.after.machine) disk_unit ≡ attached = ap (λ (l : List (Option Held)). attachment_at (attachments_of l) disk_unit) copies.slots in
      subst (λ (a : Option Attachment). CopyIsFile a p.after.machine.disk p.after.files ↔ (p.after.machine.disk.written ≡ false → KeepsFile attached s.files p.after.files)) (sym still)
      (copy-by attached s.machine.disk p.after.machine.disk s.files p.after.files copies.written (copies.none is.machine.places) file);
}

pub turn-copies : (note : Option UnitNote) (first : Bool) (s : Seen) → Valid s → KeepsCopy s (turn note first s)
turn-copies note first s is = keeps-copy s (turn note first s) is (walk-turn Copies copies-turns note first s)

pub run-copies : (note : Option RunNote) (step : Bool) (n : ℕ) (s : Seen) → Valid s → KeepsCopy s (run note step n s)
run-copies note step n s is = keeps-copy s (run note step n s) is (walk-run Copies copies-runs note step n s)
