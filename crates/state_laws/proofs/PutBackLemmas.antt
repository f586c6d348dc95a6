-- What was saved of a session is put back.
use Rattle.std.proofs.Common.{◌≡◌, ◌≢◌, ℕ, zero, suc, ◌+◌, ◌-◌, ◌*◌, ◌/◌, ◌^◌, ◌<◌, ◌&&◌, not, Bool, true, false, List, [], ◌∷◌, ◌++◌, length, take, drop, map, replicate, get_or, append-nil, Option, Some, None, refl, sym, ap, subst, ◌∙◌, arith}
use Rattle.std.specs.Prelude.{slice_set, if◌then◌else◌}
use Rattle.std.proofs.lemmas.List.Concat.{flat_map-cons}
use Rattle.std.proofs.Math.Seq.{get_or-append_seam, set-append_seam}
use Rattle.std.proofs.lemmas.List.{take-append-drop, get_or-drop, length-drop, length-map, length-append, append_assoc}
use Rattle.file_traits.specs.Lists.{NamedBytes, bytes_of}
use Rattle.host_lines.specs.State.{LineState}
use Rattle.telnet_lines.specs.Line.{LineOf, IsSettled}
use Rattle.telnet_lines.specs.Joined.{seen_line}
use Rattle.unit_trait.specs.declared.kind.Kind.{Kind}
use Rattle.unit_trait.specs.declared.kind.Kind.TheVariants.{Dsk, Mta, Lpt, Ptr, Ptp, Clk, Tti, Tto, Tti1, Tto1, Qty}
use Rattle.unit_trait.specs.declared.kind.UnitName.{UnitName}
use Rattle.unit_trait.specs.Kinds.{code_of}
use Rattle.unit_trait.specs.Calls.{UnitState}
use Rattle.event_queue.specs.EventList.{Event}
use Rattle.unit_files.specs.Attachments.{Attachment, Held, attachments_of, no_attachments, attachment_at, with_attachment, file_place, file_units}
use Rattle.unit_files.specs.Buffer.{Buffer, disk_unit}
use Rattle.nova_memory.specs.Memory.{MemoryState, IsMemory, IsSize}
use Rattle.expect_actions.specs.declared.breaks.Break.{Break}
use Rattle.expect_actions.specs.declared.expects.Expect.{Expect}
use Rattle.expect_actions.specs.Sends.{Send}
use Rattle.expect_actions.specs.Watch.{WatchState, forgotten}
use Rattle.unit_list.specs.BusOrder.{place_of}
use Rattle.unit_list.specs.Bus.{kinds_of}
use Rattle.nova_machine.specs.Machine.{MachineState, has_multiplexer}
use Rattle.nova_machine.specs.Seen.{Seen, unnumbered, erased, attached_in}
use Rattle.nova_machine.specs.Valid.{CopyIsFile}
use Rattle.saved_session.specs.Parts.{FilePart}
use Rattle.saved_session.specs.Ranges.{kind_at}
use Rattle.saved_files.specs.declared.taking.UnitPlace.{UnitPlace}
use Rattle.saved_files.specs.Putting.{attachment_of, with_all, copy_of}
use Rattle.saved_files.specs.Taking.{unit_at, file_places, flag_of, saved_file, saved_at, saved_files}
use Rattle.state_transfer.specs.Session.{saved_unit, saved_event, saved_machine, saved}
use Rattle.saved_session.specs.SavedWatch.{saved_break, saved_expect, saved_send, saved_watch}
use Rattle.state_transfer.specs.Processor.{is_set}
use Rattle.state_transfer.specs.PutBack.{memory_from, unit_from, missing_from, first_multiplexer, units_from, unit_named, event_from, held_from, machine_from, put_back, IsIdleLine, CanBeSaved}
use Rattle.state_laws.specs.Laws.{SavingPutsBack}
use Rattle.saved_session.specs.SavedWatch.{break_from, expect_from, send_from, watch_from}
use Rattle.unit_list.proofs.Calls.{there-kinds}
use Rattle.state_transfer.proofs.TakenSizes.{size-back}
use Rattle.state_laws.proofs.LinesBack.{lines-back}

-- ---- numbers and lists

flag-back : (b : Bool) → is_set (flag_of b) ≡ b
flag-back true = refl
flag-back false = refl

pub kind-back : (k : Kind) → kind_at (place_of k) ≡ k
unfolding kind_at
kind-back Dsk = refl
kind-back Mta = refl
kind-back Lpt = refl
kind-back Ptr = refl
kind-back Ptp = refl
kind-back Clk = refl
kind-back Tti = refl
kind-back Tto = refl
kind-back Tti1 = refl
kind-back Tto1 = refl
kind-back Qty = refl

pub place-low : (k : Kind) → place_of k < 2 ^ 8
place-low Dsk = omega arith
place-low Mta = omega arith
place-low Lpt = omega arith
place-low Ptr = omega arith
place-low Ptp = omega arith
place-low Clk = omega arith
place-low Tti = omega arith
place-low Tto = omega arith
place-low Tti1 = omega arith
place-low Tto1 = omega arith
place-low Qty = omega arith

name-back : (u : UnitName) → unit_named (place_of u.kind) u.unit ≡ u
name-back u = λ i. record { kind = kind-back u.kind i; unit = u.unit }

units-back : (us : List UnitState) → map unit_from (map saved_unit us) ≡ us
units-back [] = refl
units-back (u ∷ us) = λ i. record { kind = kind-back u.kind i; registers = u.registers } ∷ units-back us i

-- the multiplexer is missing in no machine of the same kinds
none-missing : (us present : List UnitState) → kinds_of present ≡ kinds_of us → missing_from us present ≡ []
none-missing us present same =
    ap (λ (b : Bool). missing-by b (has_multiplexer us)) (there-kinds (code_of Qty) present us same) ∙ by (has_multiplexer us)
  where
    missing-by : Bool → Bool → List UnitState
    missing-by there here = if there && not here then first_multiplexer ∷ [] else []

    by : (b : Bool) → missing-by b b ≡ []
    by true = refl
    by false = refl

all-units-back : (us present : List UnitState) → kinds_of present ≡ kinds_of us → units_from (map saved_unit us) present ≡ us
all-units-back us present same =
    ap (λ (l : List UnitState). l ++ missing_from l present) (units-back us)
    ∙ ap (λ (l : List UnitState). us ++ l) (none-missing us present same) ∙ append-nil us

events-back : (es : List Event) → map event_from (map saved_event es) ≡ es
events-back [] = refl
events-back (e ∷ es) = λ i. record { unit = name-back e.unit i; remaining = e.remaining } ∷ events-back es i

-- ---- memory

all-zero : (n : ℕ) (l : List ℕ) → length l ≡ n → ((i : ℕ) → get_or l i 0 ≡ 0) → l ≡ replicate n 0
all-zero zero [] size h = refl
all-zero zero (x ∷ l) size h = absurd (omega (arith, size))
all-zero (suc n) [] size h = absurd (omega (arith, size))
all-zero (suc n) (x ∷ l) size h = λ i. h 0 i ∷ all-zero n l (omega (arith, size)) (λ k. h (suc k)) i

memory-back : (m : MemoryState) → IsMemory m → IsSize m.size → memory_from (is_set (flag_of m.before)) (m.size / 1024) (take m.size m.words) ≡ m
memory-back m is size =
    let back = size-back m.size size in
    let whole = is.whole in
    let rest : drop m.size m.words ≡ replicate (2 ^ 15 - m.size) 0 =
    all-zero (2 ^ 15 - m.size) (drop m.size m.words) (omega (arith, length-drop m.size m.words, whole))
    (λ k. rw get_or-drop (is.beyond (m.size + k) (omega arith))) in
    let words : take m.size m.words ++ replicate (2 ^ 15 - 1024 * (m.size / 1024)) 0 ≡ m.words =
    ap (λ (n : ℕ). take m.size m.words ++ replicate (2 ^ 15 - n) 0) back
    ∙ ap (λ (l : List ℕ). take m.size m.words ++ l) (sym rest) ∙ take-append-drop m.size m.words in
    λ i. record { words = words i; size = back i; before = flag-back m.before i }

-- ---- files

-- what is attached once that is attached to a unit, where there is something
placed : List (Option Attachment) → UnitName → Option Attachment → List (Option Attachment)
placed base unit None = base
placed base unit (Some a) = with_attachment base unit (Some a)

placed_all : List (Option Attachment) → List UnitPlace → List (Option Attachment) → List (Option Attachment)
placed_all base [] attached = base
placed_all base (p ∷ places) attached =
    placed_all (placed base (unit_at p) (attachment_at attached (unit_at p))) places attached

from-one : (files : List NamedBytes) (base : List (Option Attachment)) (p : UnitPlace) (a : Option Attachment)
    (rest : List FilePart) → with_all base (saved_at files p a ++ rest) ≡ with_all (placed base (unit_at p) a) rest
unfolding placed
from-one files base p None rest = refl
from-one files base p (Some a) rest =
    let back : attachment_of (saved_file p a (bytes_of files a.name)) ≡ a =
    λ i. record { name = a.name; read_only = flag-back a.read_only i } in
    ap (λ (b : Attachment). with_all (with_attachment base (unit_at p) (Some b)) rest) back

from-all : (files : List NamedBytes) (base attached : List (Option Attachment)) (places : List UnitPlace)
    → with_all base (saved_files files attached places) ≡ placed_all base places attached
unfolding placed_all
from-all files base attached [] = refl
from-all files base attached (p ∷ places) =
    ap (with_all base)
    (flat_map-cons (λ (q : UnitPlace). saved_at files q (attachment_at attached (unit_at q))) p places)
    ∙ from-one files base p (attachment_at attached (unit_at p)) (saved_files files attached places)
    ∙ from-all files (placed base (unit_at p) (attachment_at attached (unit_at p))) attached places

-- where what is attached to a unit stands behind so much, it is put there
placed-here : (front rest : List (Option Attachment)) (unit : UnitName) (x : Option Attachment)
    → file_place unit ≡ length front
    → placed (front ++ None ∷ rest) unit x ≡ front ++ x ∷ rest
unfolding placed
placed-here front rest unit None here = refl
placed-here front rest unit (Some a) here =
    ap (λ (n : ℕ). slice_set (front ++ None ∷ rest) n (Some a)) here ∙ set-append_seam front None rest (Some a)

-- as many units as there are here, and nothing is attached to them
empty : List (Option Attachment) → List (Option Attachment)
empty [] = []
empty (x ∷ rest) = None ∷ empty rest

-- the units have their slots from one on
HavePlaces : ℕ → List UnitPlace → Type 0
HavePlaces n [] = Unit {0}
HavePlaces n (p ∷ places) = (file_place (unit_at p) ≡ n) × HavePlaces (n + 1) places

cells-back : (front rest : List (Option Attachment)) (places : List UnitPlace) → length places ≡ length rest
    → HavePlaces (length front) places
    → placed_all (front ++ empty rest) places (front ++ rest) ≡ front ++ rest
unfolding placed_all empty HavePlaces
cells-back front [] [] same have = refl
cells-back front [] (p ∷ places) same have = absurd (omega (arith, same))
cells-back front (x ∷ rest) [] same have = absurd (omega (arith, same))
cells-back front (x ∷ rest) (p ∷ places) same have =
    let there : attachment_at (front ++ x ∷ rest) (unit_at p) ≡ x =
    ap (λ (n : ℕ). get_or (front ++ x ∷ rest) n None) have.0 ∙ get_or-append_seam front x rest None in
    let one : placed (front ++ None ∷ empty rest) (unit_at p)
    (attachment_at (front ++ x ∷ rest) (unit_at p)) ≡ front ++ x ∷ [] ++ empty rest =
    ap (placed (front ++ None ∷ empty rest) (unit_at p)) there ∙ placed-here front (empty rest) (unit_at p) x have.0
    ∙ sym (append_assoc front (x ∷ []) (empty rest)) in
    let all : front ++ x ∷ [] ++ rest ≡ front ++ x ∷ rest = append_assoc front (x ∷ []) rest in
    let longer : length front + 1 ≡ length (front ++ x ∷ []) = sym (length-append front (x ∷ [])) in
    (λ i. placed_all (one i) places (sym all i))
    ∙ cells-back (front ++ x ∷ []) rest places (omega (arith, same))
    (subst (λ (n : ℕ). HavePlaces n places) longer have.1) ∙ all

none-of : (n : ℕ) (rest : List (Option Attachment)) → length rest ≡ n → empty rest ≡ replicate n None
unfolding empty
none-of zero [] size = refl
none-of zero (x ∷ rest) size = absurd (omega (arith, size))
none-of (suc n) [] size = absurd (omega (arith, size))
none-of (suc n) (x ∷ rest) size = ap (λ (l : List (Option Attachment)). None ∷ l) (none-of n rest (omega (arith, size)))

places-are : HavePlaces 0 file_places
unfolding HavePlaces file_places kind_at
places-are = (refl, (refl, (refl, (refl, (refl, (refl, (refl, (refl, (refl, (refl, (refl, (refl, tt))))))))))))

all-places : length file_places ≡ file_units
unfolding file_places
all-places = refl

attached-back : (attached : List (Option Attachment)) → length attached ≡ file_units
    → placed_all no_attachments file_places attached ≡ attached
attached-back attached size =
    ap (λ (l : List (Option Attachment)). placed_all l file_places attached) (sym (none-of file_units attached size))
    ∙ cells-back [] attached file_places (all-places ∙ sym size) places-are

pub files-back : (files : List NamedBytes) (attached : List (Option Attachment)) → length attached ≡ file_units
    → with_all no_attachments (saved_files files attached file_places) ≡ attached
files-back files attached size = from-all files no_attachments attached file_places ∙ attached-back attached size

numbers-back : (slots : List (Option Held)) → map held_from (attachments_of slots) ≡ map unnumbered slots
numbers-back [] = refl
numbers-back (None ∷ slots) = ap (λ (l : List (Option Held)). None ∷ l) (numbers-back slots)
numbers-back (Some h ∷ slots) = ap
    (λ (l : List (Option Held)). Some (record { file = 0; attachment = h.attachment }) ∷ l) (numbers-back slots)

copy-back : (a : Option Attachment) (disk : Buffer) (files : List NamedBytes) → CopyIsFile a disk files
    → disk.written ≡ false → copy_of a files ≡ disk
copy-back None disk files copy written = sym copy
copy-back (Some a) disk files copy written = λ i. record { bytes = sym (copy written) i; written = sym written i }

-- ---- the machine

machine-back : (s : Seen) (present : List UnitState) → CanBeSaved s → kinds_of present ≡ kinds_of s.machine.units
    → machine_from (saved_machine s.machine) present
    (with_all no_attachments (saved_files s.files (attached_in s.machine) file_places)) s.files ≡ s.machine
unfolding saved_machine machine_from
machine-back s present can same =
    let m = s.machine in
    let memory = memory-back m.processor.memory can.memory can.size in
    let twelve : length (attached_in m) ≡ file_units = length-map m.slots _ ∙ can.places in
    let attached = files-back s.files (attached_in m) twelve in
    let slots = ap (map held_from) attached ∙ numbers-back m.slots ∙ ap (λ (x : MachineState). x.slots) can.seen in
    let disk = ap (λ (l : List (Option Attachment)). copy_of (attachment_at l disk_unit) s.files) attached
    ∙ copy-back (attachment_at (attached_in m) disk_unit) m.disk s.files can.copy can.written in
    let aside = ap (λ (x : MachineState). x.aside) can.seen in
    let lines = ap (λ (x : MachineState). x.lines) can.seen in
    λ i. record {
      processor = record {
        cpu = record {
          accumulators = m.processor.cpu.accumulators;
          carry = flag-back m.processor.cpu.carry i;
          pc = m.processor.cpu.pc;
        };
        memory = memory i;
      };
      ints = record { mask = m.ints.mask; on = flag-back m.ints.on i; hold = flag-back m.ints.hold i };
      sr = m.sr;
      stop_dev = flag-back m.stop_dev i;
      units = all-units-back m.units present same i;
      events = events-back m.events i;
      time = m.time;
      taken = m.taken;
      slots = slots i;
      disk = disk i;
      aside = aside i;
      lines = lines i;
    }

-- ---- what a run watches

breaks-back : (bs : List Break) → map break_from (map saved_break bs) ≡ bs
breaks-back [] = refl
breaks-back (b ∷ bs) = ap (λ (l : List Break). b ∷ l) (breaks-back bs)

expects-back : (es : List Expect) → map expect_from (map saved_expect es) ≡ es
expects-back [] = refl
expects-back (e ∷ es) = ap (λ (l : List Expect). e ∷ l) (expects-back es)

sends-back : (sends : List Send) → map send_from (map saved_send sends) ≡ sends
sends-back [] = refl
sends-back (send ∷ sends) = ap (λ (l : List Send). send ∷ l) (sends-back sends)

watch-back : (w : WatchState) → w ≡ forgotten w → watch_from (saved_watch w) ≡ w
unfolding saved_watch watch_from
watch-back w forgot =
    (λ i. record {
      breaks = record { list = breaks-back w.breaks.list i; actions = [] };
      expects = record { list = expects-back w.expects.list i; tail = w.expects.tail; actions = [] };
      sends = sends-back w.sends i;
    }) ∙ sym forgot

-- ---- the whole

back : (s present : Seen) → CanBeSaved s → present.files ≡ s.files → kinds_of present.machine.units ≡ kinds_of s.machine.units
    → length present.lines ≡ length s.lines → put_back (saved s) present ≡ record s { keys = present.keys; ahead = present.ahead }
back s present can same kinds as_many =
    let attached = with_all no_attachments (saved_files s.files (attached_in s.machine) file_places) in
    let machine = ap (machine_from (saved_machine s.machine) present.machine.units attached) same
    ∙ machine-back s present.machine.units can kinds in
    let watch = watch-back s.watch can.watch in
    let lines = lines-back s.machine.units s.lines present.lines can.many as_many can.numbered can.idle in
    λ i. record {
      machine = machine i;
      watch = watch i;
      keys = present.keys;
      files = same i;
      lines = lines i;
      ahead = present.ahead;
    }

-- ---- what is seen

no-numbers-twice : (slots : List (Option Held)) → map unnumbered (map unnumbered slots) ≡ map unnumbered slots
no-numbers-twice [] = refl
no-numbers-twice (None ∷ slots) = ap (λ (l : List (Option Held)). None ∷ l) (no-numbers-twice slots)
no-numbers-twice (Some h ∷ slots) =
    ap (λ (l : List (Option Held)). Some (record h { file = 0 }) ∷ l) (no-numbers-twice slots)

erased-twice : (m : MachineState) → erased (erased m) ≡ erased m
erased-twice m = λ i. record m { slots = no-numbers-twice m.slots i; aside = []; lines = [] }

settled-idle : (s : LineState) (line : LineOf ℕ) → IsSettled line → line.connection ≡ None → line.port ≢ Some 0
    → IsIdleLine (seen_line s line)
settled-idle s line settled none port = record { nobody = ap (seen_line s) (settled.nothing none); port = port }

pub saving-puts-back : SavingPutsBack
saving-puts-back = record { back = back; seen = λ b whole m. erased-twice m; idle = settled-idle }
