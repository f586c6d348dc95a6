-- What a unit wants of the machine, by its kind.
use Rattle.std.proofs.Common.{◌≡◌, ◌==◌, if◌then◌else◌, inl, inr, ℕ, ◌+◌, ◌%◌, ◌^◌, ◌<◌, ◌≤◌, Bool, true, false, IsTrue, List, [], ◌∷◌, refl, ◌∙◌, ap, sym, subst, arith, Option, Some, None, zero, suc, slice_index, option_map, nat_lt, get_or, drop}
use Rattle.std.specs.Prelude.{IfSome}
use Rattle.std.proofs.lemmas.Bool.{cond_both}
use Rattle.std.proofs.lemmas.Bool.Decides.{nat_tests}
use Rattle.unit_trait.specs.declared.kind.Kind.{Kind}
use Rattle.unit_trait.specs.declared.kind.Kind.TheVariants.{Dsk, Mta, Lpt, Ptr, Ptp, Qty}
use Rattle.unit_trait.specs.declared.calls.Want.TheVariants as want
use Rattle.unit_trait.specs.declared.calls.TapeOrder.{TapeOrder}
use Rattle.unit_trait.specs.Kinds.{code_of, units_of}
use Rattle.unit_trait.specs.Tape.{tape_order}
use Rattle.unit_trait.specs.Reader.{reader_row}
use Rattle.unit_trait.specs.Writer.{writer_row}
use Rattle.unit_trait.specs.Clock.{clock_row}
use Rattle.unit_trait.specs.Keyboard.{keyboard_row}
use Rattle.unit_trait.specs.Teleprinter.{teleprinter_row}
use Rattle.unit_trait.specs.Multiplexer.{lines_of, lines_row, can_be_sent}
use Rattle.unit_trait.specs.Device.{Register, position}
use Rattle.unit_trait.specs.Registers.{registers}
use Rattle.unit_trait.specs.Calls.{UnitState, Due}
use Rattle.unit_trait.specs.Row.{row, row_of, InRange, Fits}
use Rattle.unit_list.specs.Bus.{AllFit, unit_at, row_or_nothing, row_at}
use Rattle.unit_trait.proofs.Ranges.{held-within, rest-within}
use Rattle.unit_list.proofs.Calls.{found-fits}
use Rattle.unit_list.proofs.Room.{kind-found}
use Rattle.file_traits.specs.Lists.{NamedBytes}
use Rattle.file_traits.specs.declared.files.FileCall.TheVariants.{Write}
use Rattle.unit_trait.specs.declared.kind.UnitName.{UnitName}
use Rattle.unit_trait.proofs.EveryKind.{every-kind}
use Rattle.unit_files.specs.declared.faults.ByteAnswer.{ByteAnswer}
use Rattle.unit_files.specs.declared.faults.ByteAnswer.TheVariants as byte
use Rattle.unit_files.specs.declared.faults.SectorAnswer.{SectorAnswer}
use Rattle.unit_files.specs.declared.faults.SectorAnswer.TheVariants as sectors
use Rattle.nova_machine.specs.declared.service.Hosted.TheVariants.{Gets}
use Rattle.nova_machine.specs.Sectors.{got_of_sector}
use Rattle.unit_files.specs.Attachments.{Attachment, Held, attachments_of, attachment_at, file_place}
use Rattle.unit_files.specs.Buffer.{disk_unit, disk_sectors}
use Rattle.unit_files.specs.Acts.{most_bytes, ByteSaid, ByteIs, WasWritten, AtEnd, read_act, write_act, write_said, failure_at}
use Rattle.unit_files.specs.Answers.{said_of_byte, failure_of_byte}
use Rattle.unit_files.specs.Shapes.{MayRead}
use Rattle.nova_machine.specs.Wants.{got_of_byte}
use Rattle.expect_actions.specs.Expects.{ExpectTable}
use Rattle.nova_machine.specs.Comes.{AreTold, AreFree}
use Rattle.nova_machine.specs.Hosting.{IsTapeOrder, CanBeHosted, HasRoom, IsHosted, hosted_of}

abbrev AllLow : ℕ → List Register → Type 0
AllLow most [] = Unit {0}
AllLow most (r ∷ rs) = (r.largest ≤ most) × AllLow most rs

-- none holds more where each one's largest value is no more
low-all : (rs : List Register) (vs : List ℕ) (i most : ℕ) → InRange rs vs → AllLow most rs → slice_index vs i ≤ most
low-all [] [] zero most range low = omega arith
low-all [] [] (suc i) most range low = omega arith
low-all [] (v ∷ vs) i most range low = absurd range
low-all (r ∷ rs) [] i most range low = absurd range
low-all (r ∷ rs) (v ∷ vs) zero most range low = omega (arith, range.1, low.0)
low-all (r ∷ rs) (v ∷ vs) (suc i) most range low = low-all rs vs i most range.2 low.1

-- what the tape's registers say is an operation on it
tape-says : (values : List ℕ) (n : ℕ) → InRange (registers Mta) values → IsTapeOrder (tape_order n values)
tape-says values n fits =
    let place = low-all (drop 9 (registers Mta)) (drop 9 values) n 67108864 (rest-within 9 (registers Mta) values fits)
    (omega arith, (omega arith, (omega arith, (omega arith, (omega arith, (omega arith, (omega arith, (omega arith, tt)))))))) in
    let address = held-within (registers Mta) values 6 fits in
    let words = held-within (registers Mta) values 7 fits in
    record { place = omega (arith, place); address = omega (arith, address); some = omega (arith, words); most = omega arith }

-- a tape command, or none where there is no such command
tape-wants : (unused : Bool) (order : TapeOrder) → IsTapeOrder order → CanBeHosted (if unused then want.Nothing else want.Tape order) Mta
tape-wants true order is = tt
tape-wants false order is = (refl, is)

wants-of : (kind : Kind) (values : List ℕ) (n : ℕ) → InRange (registers kind) values → CanBeHosted (row_of kind values (Due n)).want kind
unfolding row_of reader_row writer_row clock_row keyboard_row teleprinter_row lines_row most_bytes disk_sectors
wants-of kind values n =
    every-kind (λ (k : Kind). InRange (registers k) values → CanBeHosted (row_of k values (Due n)).want k) (
      (λ fits.
          let sector = held-within (registers Dsk) values 4 fits in
          let address = held-within (registers Dsk) values 5 fits in
          (refl, omega (arith, sector), omega (arith, address))),
      (λ fits. tape-wants (slice_index values 4 == 2) (tape_order n values) (tape-says values n fits)),
      (λ fits. (refl, (held-within (registers Lpt) values 5 fits).1)),
      (λ fits. (refl, (held-within (registers Ptr) values 5 fits).1)),
      (λ fits. (refl, (held-within (registers Ptp) values 5 fits).1)),
      (λ fits. tt),
      (λ fits. tt),
      (λ fits. tt),
      (λ fits. tt),
      (λ fits. tt),
      (λ fits. cond_both (can_be_sent (slice_index (lines_of values).tx n)) (want.LinePut (n + 1) (slice_index (lines_of values).tx n % 2 ^ 8)) (want.LineKey (n + 1)) (λ w. CanBeHosted w Qty) (λ _. tt) (λ _. tt)),
    ) kind

unit-wants : (u : UnitState) (n : ℕ) → Fits u → CanBeHosted (row u (Due n)).want u.kind
unit-wants u n fits = wants-of u.kind u.registers n fits

wants-found : (kind : Kind) (n : ℕ) (there : Option UnitState) → IfSome there (λ u. Fits u) → IfSome there (λ u. u.kind ≡ kind)
    → CanBeHosted (row_or_nothing (Due n) there).want kind
wants-found kind n None fits same = tt
wants-found kind n (Some u) fits same = subst (λ (k : Kind). CanBeHosted (row u (Due n)).want k) same (unit-wants u n fits)

-- what a unit of a machine wants, the machine can do for it
pub wants-in : (kind : Kind) (n : ℕ) (us : List UnitState) → AllFit us → CanBeHosted (row_at (code_of kind) (Due n) us).want kind
wants-in kind n us fit = wants-found kind n (unit_at (code_of kind) us) (found-fits (code_of kind) us fit) (kind-found kind us)

-- ---- a sector of the disk

-- the disk is the only unit of its kind
pub disk-is : (u : UnitName) → u.kind ≡ Dsk → u.unit < units_of u.kind → disk_unit ≡ u
disk-is u is low =
    let one : u.unit < units_of Dsk = subst (λ (k : Kind). u.unit < units_of k) is low in
    let zero : 0 ≡ u.unit = omega (arith, one) in
    λ i. record { kind = sym is i; unit = zero i }

-- ---- a byte of a unit's file

pub free-none : (slots : List (Option Held)) (i : ℕ) → AreFree slots → get_or (attachments_of slots) i None ≡ None
free-none [] i free = refl
free-none (slot ∷ slots) zero free = ap (λ (x : Option Held). option_map (λ (h : Held). h.attachment) x) free.0
free-none (slot ∷ slots) (suc i) free = free-none slots i free.1

-- nothing is read where nothing is attached
none-read : (answer : ByteAnswer) (a : Option Attachment) (place : ℕ) (files : List NamedBytes) → a ≡ None → MayRead answer a place
    → said_of_byte answer ≡ read_act (failure_of_byte answer) a place files
unfolding read_act
none-read byte.NoFile None place files none may = refl
none-read answer None place files none may = absurd may
none-read answer (Some a) place files none may = absurd (cc)

said-read : (tells : Bool) (slots : List (Option Held)) (u : UnitName) (answer : ByteAnswer) (place : ℕ) (files : List NamedBytes) → AreTold tells slots
    → (IsTrue tells → said_of_byte answer ≡ read_act (failure_of_byte answer) (attachment_at (attachments_of slots) u) place files)
    → MayRead answer (attachment_at (attachments_of slots) u) place
    → said_of_byte answer ≡ read_act (failure_of_byte answer) (attachment_at (attachments_of slots) u) place files
said-read tells slots u answer place files (inl told) said may = said told
said-read tells slots u answer place files (inr free) said may =
    none-read answer (attachment_at (attachments_of slots) u) place files (free-none slots (file_place u) free) may

read-is : (answer : ByteAnswer) (a : Option Attachment) (place : ℕ) (files : List NamedBytes) (key : Option ℕ) (expects : ExpectTable) → MayRead answer a place
    → said_of_byte answer ≡ read_act (failure_of_byte answer) a place files → IsHosted (want.ReadByte place) a files key expects (hosted_of answer)
read-is (byte.Byte b) a place files key expects may said = (ap got_of_byte (sym said), refl)
read-is byte.End a place files key expects may said = (ap got_of_byte (sym said), refl)
read-is byte.NoFile a place files key expects may said = (ap got_of_byte (sym said), refl)
read-is (byte.Failed f) (Some a) place files key expects may said =
    ap got_of_byte (ap (λ (done : ℕ). read_act (Some (record { call = f.call; done = done })) (Some a) place files) (sym may.2) ∙ sym said)
read-is (byte.Failed f) None place files key expects may said = absurd may
read-is byte.Written a place files key expects may said = absurd may

-- a byte of a unit's file was read for it
pub read-hosted : (tells : Bool) (slots : List (Option Held)) (u : UnitName) (answer : ByteAnswer) (place : ℕ) (files : List NamedBytes) (key : Option ℕ) (expects : ExpectTable) → AreTold tells slots
    → (IsTrue tells → said_of_byte answer ≡ read_act (failure_of_byte answer) (attachment_at (attachments_of slots) u) place files)
    → MayRead answer (attachment_at (attachments_of slots) u) place
    → IsHosted (want.ReadByte place) (attachment_at (attachments_of slots) u) files key expects (hosted_of answer)
read-hosted tells slots u answer place files key expects told said may =
    read-is answer (attachment_at (attachments_of slots) u) place files key expects may (said-read tells slots u answer place files told said may)

pub read-room : (answer : ByteAnswer) (a : Option Attachment) (place : ℕ) → MayRead answer a place → HasRoom (want.ReadByte place) (hosted_of answer)
unfolding most_bytes
read-room (byte.Byte b) (Some a) place may = (λ moves. may, tt)
read-room (byte.Byte b) None place may = absurd may
read-room byte.End a place may = (λ moves. absurd (cc), tt)
read-room byte.NoFile a place may = (λ moves. absurd (cc), tt)
read-room (byte.Failed f) a place may = tt
read-room byte.Written a place may = absurd may

written-before : (b : Bool) (place : ℕ) (said : ByteSaid) → nat_lt place most_bytes ≡ b → WasWritten ≡ (if b then said else AtEnd) → place < most_bytes
written-before true place said low is = grind (arith, nat_tests)
written-before false place said low is = absurd (cc)

written-within : (a : Option Attachment) (place : ℕ) → WasWritten ≡ write_act None a place → place < most_bytes
unfolding write_act
written-within None place is = absurd (cc)
written-within (Some a) place is = written-before (nat_lt place most_bytes) place (write_said (failure_at Write None)) refl is

within-largest : (place : ℕ) → place < most_bytes → place < position.largest
unfolding most_bytes
within-largest place low = low

no-byte-if : (c : Bool) (x : ℕ) (said : ByteSaid) → (ByteIs x ≡ said → ⊥) → ByteIs x ≡ (if c then said else AtEnd) → ⊥
no-byte-if true x said other is = other is
no-byte-if false x said other is = absurd (cc)

no-byte : (a : Option Attachment) (place x : ℕ) → ByteIs x ≡ write_act None a place → ⊥
unfolding write_act
no-byte None place x is = absurd (cc)
no-byte (Some y) place x is = no-byte-if (nat_lt place most_bytes) x (write_said (failure_at Write None)) (λ e. absurd (cc)) is

pub write-room : (answer : ByteAnswer) (a : Option Attachment) (place byte_written : ℕ) → said_of_byte answer ≡ write_act (failure_of_byte answer) a place
    → HasRoom (want.WriteByte place byte_written) (hosted_of answer)
write-room byte.Written a place b said = (λ moves. within-largest place (written-within a place said), tt)
write-room (byte.Byte x) a place b said = (λ moves. absurd (no-byte a place x said), tt)
write-room byte.End a place b said = (λ moves. absurd (cc), tt)
write-room byte.NoFile a place b said = (λ moves. absurd (cc), tt)
write-room (byte.Failed f) a place b said = tt

-- no answer of a sector is one of a tape
pub sector-room : (answer : SectorAnswer) (write : Bool) (sector from : ℕ) → HasRoom (want.Sector write sector from) (Gets (got_of_sector answer))
sector-room sectors.Done write sector from = (tt, tt)
sector-room sectors.NoFile write sector from = (tt, tt)
sector-room sectors.ReadOnly write sector from = (tt, tt)
