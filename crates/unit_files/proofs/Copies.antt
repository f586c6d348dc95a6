-- The disk's copy of its file, where something is attached or detached.
use Rattle.std.proofs.Common.{◌≡◌, ℕ, ◌*◌, ◌<◌, ◌≤◌, Bool, true, false, IsTrue, List, [], ◌∷◌, get_or, length, set, refl, sym, ◌∙◌, arith}
use Rattle.std.proofs.Common.{Option, Some, None, Err, ap, zero, suc, replicate}
use Rattle.std.proofs.lemmas.Bool.Decides.{nat_tests}
use Rattle.std.proofs.lemmas.List.{get_or-set_other, length-replicate}
use Rattle.unit_trait.specs.declared.kind.Kind.{Kind}
use Rattle.unit_trait.specs.declared.kind.UnitName.{UnitName}
use Rattle.unit_trait.proofs.EveryKind.{every-kind}
use Rattle.unit_files.specs.declared.disk_copy.DiskCopy.{DiskCopy}
use Rattle.unit_files.specs.declared.faults.DetachFault.{DetachFault}
use Rattle.unit_files.specs.declared.faults.DetachFault.TheVariants as faults
use Rattle.unit_files.specs.Attachments.{Attachment, Held, held_at, file_place, file_units, no_files, takes_attachment, is_disk, longest_file, is_any_attached, attachments_of}
use Rattle.unit_files.specs.Attachments.{read_only_of, read_only_at, attachment_at}
use Rattle.unit_files.specs.Pages.{disk_pages, no_marks}
use Rattle.unit_files.specs.Buffer.{Buffer, AttachedFiles, nothing_attached, sector_bytes, disk_sectors, disk_bytes, with_sector}
use Rattle.unit_files.specs.Acts.{Failure, HasNone, flush_said, flush_failure, flushed_as, detached_by}
use Rattle.unit_files.specs.Answers.{said_of_flush, said_of_detach}
use Rattle.unit_files.specs.View.{CanWrite, IsCopy, IsNewCopy, buffer_of, marks_of}
use Rattle.unit_files.proofs.Marks.{marks-all, marks-none}
use Rattle.unit_files.proofs.Overwriting.{over-long}

-- the first place is the disk's, and no other unit's
pub first-of : (k : Kind) (n : ℕ) → is_disk k ≡ true → IsTrue (takes_attachment (record { kind = k; unit = n }))
    → file_place (record { kind = k; unit = n }) ≡ 0
first-of k n =
    every-kind (λ (kind : Kind). is_disk kind ≡ true → IsTrue (takes_attachment (record { kind = kind; unit = n })) → file_place (record { kind = kind; unit = n }) ≡ 0)
    ((λ is takes. grind (arith, nat_tests)), (λ is takes. absurd (cc)), (λ is takes. absurd (cc)), (λ is takes. absurd (cc)), (λ is takes. absurd (cc)), (λ is takes. absurd (cc)), (λ is takes. absurd (cc)), (λ is takes. absurd (cc)), (λ is takes. absurd (cc)), (λ is takes. absurd (cc)), (λ is takes. absurd (cc))) k

pub not-first : (k : Kind) (n : ℕ) → is_disk k ≡ false → file_place (record { kind = k; unit = n }) ≡ 0 → ⊥
not-first k n =
    every-kind (λ (kind : Kind). is_disk kind ≡ false → file_place (record { kind = kind; unit = n }) ≡ 0 → ⊥)
    ((λ other is. absurd (cc)), (λ other is. grind (arith, nat_tests)), (λ other is. grind (arith, nat_tests)), (λ other is. grind (arith, nat_tests)), (λ other is. grind (arith, nat_tests)), (λ other is. grind (arith, nat_tests)), (λ other is. grind (arith, nat_tests)), (λ other is. grind (arith, nat_tests)), (λ other is. grind (arith, nat_tests)), (λ other is. grind (arith, nat_tests)), (λ other is. grind (arith, nat_tests))) k

some-none : (h : Held) (x : Option Held) → x ≡ Some h → x ≡ None → ⊥
some-none h x is none = absurd (cc)

-- another unit's file comes or goes
pub can-other : (slots : List (Option Held)) (unit : UnitName) (x : Option Held) (d : DiskCopy) → is_disk unit.kind
    ≡ false → CanWrite slots d → CanWrite (set slots (file_place unit) x) d
can-other slots unit x d other can =
    let same : get_or (set slots (file_place unit) x) 0 None ≡ get_or slots 0 None =
    get_or-set_other slots (file_place unit) 0 x None (λ first. not-first unit.kind unit.unit other (sym first)) in
    record {
      copy = λ h is. can.copy h (sym same ∙ is);
      writable = λ h is written. can.writable h (sym same ∙ is) written;
      none = λ is. can.none (sym same ∙ is);
      unmarked = can.unmarked;
    }

true-false : (b : Bool) → b ≡ true → b ≡ false → ⊥
true-false b is not = absurd (cc)

-- the disk has its file, with a copy of which nothing was written
pub can-new : (slots after : List (Option Held)) (unit : UnitName) (h : Held) (d : DiskCopy) → is_disk unit.kind ≡ true
    → IsTrue (takes_attachment unit) → after ≡ set slots (file_place unit) (Some h) → 0 < length slots
    → IsNewCopy d → CanWrite after d
can-new slots after unit h d is takes set_is some new = record {
  copy = λ other there. new.copy;
  writable = λ other there written. absurd (true-false d.written written new.unwritten);
  none = λ none. absurd (some-none h (get_or after 0 None)
      ((λ i. get_or (set_is i) 0 None) ∙ (λ i. get_or (set slots (first i) (Some h)) 0 None) ∙ filled slots some) none);
  unmarked = λ _. new.unmarked;
}
  where
    first : file_place unit ≡ 0
    first = first-of unit.kind unit.unit is takes

    filled : (l : List (Option Held)) → 0 < length l → get_or (set l 0 (Some h)) 0 None ≡ Some h
    filled [] long = absurd (omega (arith, long))
    filled (x ∷ l) long = refl

emptied : (slots : List (Option Held)) → get_or (set slots 0 None) 0 None ≡ None
emptied [] = refl
emptied (x ∷ slots) = refl

-- where there is no copy, no page is marked
pub no-pages : (d : DiskCopy) → d.marks.items ≡ [] → marks_of d.marks.items ≡ no_marks
no-pages d none = ap marks_of none ∙ marks-none

-- no file is attached to the disk
pub can-none : (slots after : List (Option Held)) (unit : UnitName) (d : DiskCopy) → is_disk unit.kind ≡ true
    → IsTrue (takes_attachment unit) → after ≡ set slots (file_place unit) None → d.bytes.items ≡ [] → d.marks.items ≡ []
    → d.written ≡ false → CanWrite after d
can-none slots after unit d is takes set_is empty unmarked unwritten =
    let first = first-of unit.kind unit.unit is takes in
    let none : get_or after 0 None ≡ None =
    (λ i. get_or (set_is i) 0 None) ∙ (λ i. get_or (set slots (first i) None) 0 None) ∙ emptied slots in
    record {
      copy = λ h there. absurd (some-none h _ there none);
      writable = λ h there written. absurd (some-none h _ there none);
      none = λ _. (empty, unmarked, unwritten);
      unmarked = λ _. no-pages d unmarked;
    }

-- each page has a mark, or none
pub pages-long : (slots : List (Option Held)) (d : DiskCopy) → CanWrite slots d → length (marks_of d.marks.items) ≡ disk_pages
pages-long slots d can = by-held (get_or slots 0 None) refl
  where
    by-held : (x : Option Held) → get_or slots 0 None ≡ x → length (marks_of d.marks.items) ≡ disk_pages
    by-held None is = ap (λ (l : List Bool). length l) (no-pages d (can.none is).1) ∙ length-replicate disk_pages false
    by-held (Some h) is = ap (λ (l : List Bool). length l) (marks-all d.marks.items (can.copy h is).pages) ∙ (can.copy h is).pages

-- there is a copy of the disk's file
pub copy-there : (slots : List (Option Held)) (unit : UnitName) (h : Held) (d : DiskCopy) → CanWrite slots d
    → IsTrue (takes_attachment unit) → is_disk unit.kind ≡ true → held_at slots unit ≡ Some h → IsCopy d
copy-there slots unit h d can takes is held =
    can.copy h (ap (λ (place : ℕ). get_or slots place None) (sym (first-of unit.kind unit.unit is takes)) ∙ held)

not-only-read : (slots : List (Option Held)) (place : ℕ) (d : DiskCopy) → CanWrite slots d → place ≡ 0 → d.written
    ≡ true → read_only_of (get_or slots place None) ≡ false
not-only-read slots place d can first written = by-held (get_or slots 0 None) refl
  where
    by-held : (x : Option Held) → get_or slots 0 None ≡ x → read_only_of (get_or slots place None) ≡ false
    by-held None is = (λ i. read_only_of (get_or slots (first i) None)) ∙ ap read_only_of is
    by-held (Some h) is =
        (λ i. read_only_of (get_or slots (first i) None)) ∙ ap read_only_of is ∙ can.writable h is written

-- the file of the disk may be written, where there is something to write back
pub due-writable : (slots : List (Option Held)) (unit : UnitName) (d : DiskCopy) → CanWrite slots d
    → IsTrue (takes_attachment unit) → is_disk unit.kind ≡ true → d.written ≡ true → read_only_at slots unit ≡ false
due-writable slots unit d can takes is written =
    not-only-read slots (file_place unit) d can (first-of unit.kind unit.unit is takes) written

-- the copy has room for every image that the disk takes
pub copy-fits : (kind : Kind) (count : ℕ) → is_disk kind ≡ true → count ≤ longest_file kind → count ≤ disk_bytes
unfolding longest_file disk_bytes
copy-fits kind count =
    every-kind (λ (k : Kind). is_disk k ≡ true → count ≤ longest_file k → count ≤ disk_bytes)
    ((λ is short. omega (arith, short)), (λ is short. absurd (cc)), (λ is short. absurd (cc)), (λ is short. absurd (cc)), (λ is short. absurd (cc)), (λ is short. absurd (cc)), (λ is short. absurd (cc)), (λ is short. absurd (cc)), (λ is short. absurd (cc)), (λ is short. absurd (cc)), (λ is short. absurd (cc))) kind

-- the copy has no more bytes than the disk once a sector was written
pub sector-short : (bytes piece : List ℕ) (sector : ℕ) → sector < disk_sectors → length piece ≡ sector_bytes
    → length bytes ≤ disk_bytes → length (with_sector bytes sector piece) ≤ disk_bytes
unfolding with_sector sector_bytes disk_sectors disk_bytes
sector-short bytes piece sector below long short =
    let all = over-long bytes (sector * sector_bytes) piece (omega (arith, long)) in
    omega (arith, all, below, long, short)

-- ---- where nothing was attached, nothing is taken away

set-none : (xs : List (Option Attachment)) (p : ℕ) → get_or xs p None ≡ None → xs ≡ set xs p None
set-none [] p none = refl
set-none (x ∷ xs) zero none = ap (λ (y : Option Attachment). y ∷ xs) none
set-none (x ∷ xs) (suc p) none = ap (λ (ys : List (Option Attachment)). x ∷ ys) (set-none xs p none)

none-flushed : (fault : Option Failure) (unit : UnitName) (a : Option Attachment) (disk : Buffer)
    → HasNone ≡ flush_said fault unit a disk → a ≡ None
none-flushed fault unit None disk is = refl
none-flushed fault unit (Some a) disk is = by-failure (flush_failure fault unit disk) is
  where
    by-failure : (f : Option Failure) → HasNone ≡ flushed_as f → Some a ≡ None
    by-failure None is = absurd (cc)
    by-failure (Some f) is = absurd (cc)

pub not-detached : (fault : DetachFault) (failing : Option Failure) (unit : UnitName) (attached : List (Option
    Attachment)) (disk : Buffer) → said_of_flush (Err fault) ≡ flush_said failing unit (attachment_at attached unit) disk
    → attached ≡ detached_by (said_of_detach (Err fault)) unit attached
not-detached faults.NotAttached failing unit attached disk said =
    set-none attached (file_place unit) (none-flushed failing unit (attachment_at attached unit) disk said)
not-detached (faults.Failed f) failing unit attached disk said = refl

-- ---- nothing is attached

free-are : (slots : List (Option Held)) → is_any_attached (attachments_of slots) ≡ false → slots ≡ replicate (length slots) None
free-are [] none = refl
free-are (None ∷ slots) none = ap (λ (l : List (Option Held)). None ∷ l) (free-are slots none)
free-are (Some h ∷ slots) none = absurd (cc)

abbrev pub files_of : List (Option Held) → DiskCopy → AttachedFiles
files_of slots d = record { slots = slots; disk = buffer_of d; aside = marks_of d.marks.items }

-- where no unit has a file, there is no copy of a disk
pub nothing-there : (slots : List (Option Held)) (d : DiskCopy) → is_any_attached (attachments_of slots) ≡ false
    → length slots ≡ file_units → CanWrite slots d
    → files_of slots d ≡ nothing_attached
nothing-there slots d none all can =
    let free : slots ≡ no_files = free-are slots none ∙ ap (λ (n : ℕ). replicate n None) all in
    let copy = can.none (ap (λ (l : List (Option Held)). get_or l 0 None) free) in
    let unmarked = no-pages d copy.1 in
    λ i. record { slots = free i; disk = record { bytes = copy.0 i; written = copy.2 i }; aside = unmarked i }
