-- A machine is in range once a valid state was put back.
use Rattle.std.proofs.Common.{◌≡◌, ℕ, zero, suc, ◌-◌, ◌*◌, ◌%◌, ◌<◌, ◌≤◌, ◌^◌, ◌&&◌, not, eqb, Bool, true, false, List, [], ◌∷◌, ◌++◌, length, map, take, replicate, get_or, append-nil, Option, Some, None, IfSome, inl, inr, refl, sym, ap, ◌∙◌, arith}
use Rattle.std.specs.Prelude.{nat_le, bytes_eq, unwrap_or, slice_index_or, if◌then◌else◌}
use Rattle.std.specs.List.{AllByRecursion}
use Rattle.std.proofs.Math.Seq.{get_or-append_right}
use Rattle.std.proofs.lemmas.Bool.{cond_both, and_parts, false≢true, leb-true, ltb-true, eqb-true}
use Rattle.std.proofs.lemmas.List.{length-map, length-append, length-replicate, length-set}
use Rattle.file_traits.specs.Lists.{NamedBytes, bytes_of, find_file}
use Rattle.unit_trait.specs.declared.kind.Kind.{Kind}
use Rattle.unit_trait.specs.declared.kind.UnitName.{UnitName}
use Rattle.unit_trait.specs.declared.kind.Kind.TheVariants.{Qty}
use Rattle.unit_trait.specs.Kinds.{all_kinds, code_of}
use Rattle.unit_trait.specs.Calls.{UnitState}
use Rattle.unit_list.specs.Bus.{kinds_of}
use Rattle.unit_list.proofs.Calls.{there-kinds}
use Rattle.event_queue.specs.EventList.{Event}
use Rattle.event_queue.specs.DueTimes.{scheduled}
use Rattle.unit_files.specs.Attachments.{Attachment, attachments_of, attachment_at, file_place, file_units}
use Rattle.unit_files.specs.Buffer.{disk_unit}
use Rattle.nova_memory.specs.Memory.{IsMemory, IsSize}
use Rattle.nova_machine.specs.Core.{AreListed}
use Rattle.nova_machine.specs.Machine.{has_multiplexer}
use Rattle.nova_machine.specs.Valid.{AreBytes, IsByteName, HasByteName, ValidMachine, CopyIsFile}
use Rattle.saved_session.specs.declared.saved.SavedEvent.{SavedEvent}
use Rattle.saved_session.specs.Parts.{FilePart, MachinePart}
use Rattle.saved_session.specs.Ranges.{standard_kinds, is_size, FilePlace, is_name_length}
use Rattle.saved_session.specs.Valid.{AreWords, Follow, IsEvent, IsMachine, IsFile}
use Rattle.saved_session.specs.Order.{with_event, behind_file}
use Rattle.saved_files.specs.Putting.{unit_of, attachment_of, with_file, with_all, copy_of}
use Rattle.state_transfer.specs.Processor.{is_set}
use Rattle.state_transfer.specs.PutBack.{memory_from, lack_multiplexer, first_multiplexer, missing_from, units_from, event_from, held_from, machine_from}
use Rattle.state_transfer.specs.SavedValid.{AreStandard}
use Rattle.nova_machine.proofs.Each.{every-set}
use Rattle.state_transfer.proofs.PutBackMachineLemmas.{count-low, ten-more, units-standard, as-many-units, all-units-fit, among-standard, position-low, events-sound}

-- ---- memory

pub size-from : (k : ℕ) → is_size k ≡ true → IsSize (1024 * k)
size-from k is =
    let parts = and_parts (nat_le 4 k) (nat_le k 32 && eqb (k % 4) 0) is in
    let rest = and_parts (nat_le k 32) (eqb (k % 4) 0) parts.1 in
    let low = leb-true 4 k parts.0 in
    let high = leb-true k 32 rest.0 in
    let four = eqb-true (k % 4) 0 rest.1 in
    record { step = omega (arith, four); least = omega (arith, low); most = omega (arith, high) }

words-both : (xs ys : List ℕ) → AreWords xs → AreWords ys → AreWords (xs ++ ys)
words-both [] ys first second = second
words-both (x ∷ xs) ys first second = (first.0, words-both xs ys first.1 second)

zeros : (n : ℕ) → AreWords (replicate n 0)
zeros zero = tt
zeros (suc n) = (omega arith, zeros n)

word-at : (words : List ℕ) → AreWords words → (k d : ℕ) → k < length words → slice_index_or words k d < 2 ^ 16
word-at [] are k d lt = absurd (omega (arith, lt))
word-at (w ∷ words) are zero d lt = are.0
word-at (w ∷ words) are (suc k) d lt = word-at words are.1 k d (omega (arith, lt))

zero-at : (n k : ℕ) → get_or (replicate n zero) k zero ≡ zero
zero-at zero k = refl
zero-at (suc n) zero = refl
zero-at (suc n) (suc k) = zero-at n k

memory-is : (before : Bool) (k : ℕ) (words : List ℕ) → is_size k ≡ true → length words ≡ 1024 * k → AreWords words
    → IsMemory (memory_from before k words)
memory-is before k words is size are =
    let most = (size-from k is).most in
    let rest : List ℕ = replicate (2 ^ 15 - 1024 * k) 0 in
    record {
      whole = length-append words rest
          ∙ (let both = length-replicate {A = ℕ} (2 ^ 15 - 1024 * k) 0 in omega (arith, size, most, both));
      words = λ n d lt. word-at (words ++ rest) (words-both words rest are (zeros (2 ^ 15 - 1024 * k))) n d lt;
      size = most;
      beyond = λ a le. get_or-append_right words rest a 0 (omega (arith, size, le)) ∙ zero-at (2 ^ 15 - 1024 * k)
          (a - length words);
    }

-- ---- the disk

bytes-found : (files : List NamedBytes) (name : List ℕ) → AllByRecursion (λ (f : NamedBytes). AreBytes f.1) files
    → AreBytes (bytes_of files name)
bytes-found [] name are = tt
bytes-found (f ∷ files) name are =
    cond_both (bytes_eq f.0 name) (Some f.1) (find_file files name) (λ (x : Option (List ℕ)). AreBytes (unwrap_or x []))
    (λ _. are.0) (λ _. bytes-found files name are.1)

pub copy-is : (a : Option Attachment) (files : List NamedBytes) → CopyIsFile a (copy_of a files) files
copy-is None files = refl
copy-is (Some a) files = λ written. refl

disk-bytes : (a : Option Attachment) (files : List NamedBytes) → AllByRecursion (λ (f : NamedBytes). AreBytes f.1) files
    → AreBytes (copy_of a files).bytes
disk-bytes None files are = tt
disk-bytes (Some a) files are = bytes-found files a.name are

pub as-many-places : (attached : List (Option Attachment)) (files : List FilePart)
    → length (with_all attached files) ≡ length attached
as-many-places attached [] = refl
as-many-places attached (f ∷ files) =
    as-many-places (with_file attached f) files
    ∙ length-set attached _ _

pub slots-back : (attached : List (Option Attachment)) → attachments_of (map held_from attached) ≡ attached
slots-back [] = refl
slots-back (None ∷ attached) = ap (λ (l : List (Option Attachment)). None ∷ l) (slots-back attached)
slots-back (Some a ∷ attached) = ap (λ (l : List (Option Attachment)). Some a ∷ l) (slots-back attached)

-- ---- the units

-- one unit of each of these kinds
abbrev of_kinds : List Kind → List UnitState
of_kinds kinds = map (λ (kind : Kind). record { kind = kind; registers = [] }) kinds

-- whether the multiplexer is among them
has-none : (units : List UnitState) → kinds_of units ≡ take standard_kinds all_kinds → has_multiplexer units ≡ false
has-none units ten = there-kinds (code_of Qty) units (of_kinds (take standard_kinds all_kinds)) ten

has-one : (units : List UnitState) → kinds_of units ≡ all_kinds → has_multiplexer units ≡ true
has-one units all = there-kinds (code_of Qty) units (of_kinds all_kinds) all

-- what is missing of the multiplexer, where it is there or not, and here or not
abbrev missing_by : Bool → Bool → List UnitState
missing_by there here = if there && not here then first_multiplexer ∷ [] else []

-- where it is here, nothing of it is missing
whole-put : (units : List UnitState) (there : Bool) → kinds_of units ≡ all_kinds → kinds_of (units ++ missing_by there true) ≡ all_kinds
whole-put units true all = ap (λ (l : List UnitState). kinds_of l) (append-nil units) ∙ all
whole-put units false all = ap (λ (l : List UnitState). kinds_of l) (append-nil units) ∙ all

-- the units have the kinds of the present ones, where no unit is missing among these
pub kinds-put : (units present : List UnitState) → AreStandard units → AreStandard present → lack_multiplexer present units ≡ false
    → kinds_of (units ++ missing_from units present) ≡ kinds_of present
kinds-put units present (inl ten) (inl same) found =
    ap (λ (b : Bool). kinds_of (units ++ missing_by b (has_multiplexer units))) (has-none present same)
    ∙ ap (λ (l : List UnitState). kinds_of l) (append-nil units) ∙ ten ∙ sym same
kinds-put units present (inl ten) (inr all) found =
    (λ i. kinds_of (units ++ missing_by (has-one present all i) (has-none units ten i)))
    ∙ ten-more units ten ∙ sym all
kinds-put units present (inr all) (inl ten) found =
    absurd (false≢true (sym found ∙ (λ i. has-one units all i && not (has-none present ten i))))
kinds-put units present (inr all) (inr same) found =
    ap (λ (b : Bool). kinds_of (units ++ missing_by (has_multiplexer present) b)) (has-one units all) ∙ whole-put units (has_multiplexer present) all ∙ sym same

-- ---- the events

events-listed : (m : MachinePart) (present : List UnitState) → IsMachine m → (front es : List SavedEvent) → Follow (IsEvent (length m.units)) with_event front es
    → AreListed (kinds_of (units_from m.units present)) (map event_from es)
events-listed m present is front [] are = tt
events-listed m present is front (e ∷ es) are = (
  among-standard (units_from m.units present) e.position (units-standard m present is)
      (let below = position-low (length m.units) e.position are.0.position in
      let more = as-many-units m.units present in
      omega (arith, below, more)),
  events-listed m present is (front ++ e ∷ []) es are.1,
)

not-before : (now : ℕ) (es : List Event) → AllByRecursion (λ (x : ℕ × UnitName). now ≤ x.0) (scheduled now es)
not-before now [] = tt
not-before now (e ∷ es) = (omega arith, not-before now es)

-- ---- the names of files

-- the name of an attached file is of bytes, and short
abbrev pub HasName : Option Attachment → Type 0
HasName a = IfSome a (λ (b : Attachment). IsByteName b.name)

names-held : (attached : List (Option Attachment)) → AllByRecursion HasName attached
    → AllByRecursion HasByteName (map held_from attached)
names-held [] are = tt
names-held (None ∷ attached) are = (tt, names-held attached are.1)
names-held (Some a ∷ attached) are = (are.0, names-held attached are.1)

name-short : (n : ℕ) → is_name_length n ≡ true → n ≤ 255
name-short n is = leb-true n 255 (and_parts (nat_le 1 n) (nat_le n 255) is).1

pub names-put : (base : List (Option Attachment)) (least : FilePlace) (fs : List FilePart) → AllByRecursion HasName base
    → Follow IsFile behind_file least fs → AllByRecursion HasName (with_all base fs)
names-put base least [] have are = have
names-put base least (f ∷ fs) have are =
    names-put (with_file base f) (behind_file least f) fs
    (every-set HasName base (file_place (unit_of f)) (Some (attachment_of f))
    (record { bytes = are.0.name; short = name-short (length f.name) are.0.long }) have) are.1

-- ---- the machine

pub machine-in-range : (m : MachinePart) (present : List UnitState) (attached : List (Option Attachment)) (files : List NamedBytes) → IsMachine m
    → length attached ≡ file_units → AllByRecursion HasName attached
    → AllByRecursion (λ (f : NamedBytes). AreBytes f.1) files → ValidMachine (machine_from m present attached files)
unfolding machine_from
machine-in-range m present attached files is places names bytes = record {
  memory = memory-is (is_set m.cpu.autobit) m.cpu.size_k m.words is.cpu.size_k is.size is.words;
  size = size-from m.cpu.size_k is.cpu.size_k;
  cpu = record { four = is.cpu.few; words = is.cpu.acs; pc = ltb-true m.cpu.pc 32768 is.cpu.pc };
  mask = is.cpu.mask;
  switches = is.cpu.sr;
  core = record {
    registers = all-units-fit m.units present is.units;
    sound = events-sound (length m.units) [] m.agenda (count-low (length m.units) is.all) is.agenda;
    listed = events-listed m present is [] m.agenda is.agenda;
    times = not-before m.cpu.time (map event_from m.agenda);
  };
  places = length-map attached held_from ∙ places;
  names = names-held attached names;
  disk = disk-bytes (attachment_at attached disk_unit) files bytes;
}
