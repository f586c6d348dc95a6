-- What the machine makes of a want leaves a valid state behind it, and its answer is one that the unit can be asked to take.
use Rattle.std.proofs.Common.{ℕ, ◌+◌, ◌%◌, ◌^◌, ◌<◌, ◌==◌, Bool, nat_lt, List, [], ◌∷◌, length, get_or, slice_index, Option, Some, None, IfSome, Result, Ok, Err, arith}
use Rattle.std.proofs.lemmas.Bool.{cond_both, ltb-true}
use Rattle.file_traits.specs.declared.files.FileCall.TheVariants.{Read, Write}
use Rattle.file_traits.specs.Lists.{NamedBytes, bytes_of, changed}
use Rattle.nova_memory.specs.Memory.{MemoryState, IsMemory}
use Rattle.unit_trait.specs.declared.kind.Kind.{Kind}
use Rattle.unit_trait.specs.declared.kind.Kind.TheVariants.{Lpt, Ptp, Tto1}
use Rattle.unit_trait.specs.declared.calls.Want.{Want}
use Rattle.unit_trait.specs.declared.calls.Want.TheVariants as want
use Rattle.unit_trait.specs.declared.calls.Got.{Got}
use Rattle.unit_trait.specs.declared.calls.Got.TheVariants as got
use Rattle.unit_trait.specs.declared.calls.TapeOrder.{TapeOrder}
use Rattle.unit_trait.specs.Tape.{tape_order}
use Rattle.unit_trait.specs.Reader.{reader_row}
use Rattle.unit_trait.specs.Writer.{writer_row}
use Rattle.unit_trait.specs.Clock.{clock_row}
use Rattle.unit_trait.specs.Keyboard.{keyboard_row}
use Rattle.unit_trait.specs.Teleprinter.{teleprinter_row}
use Rattle.unit_trait.specs.Multiplexer.{lines_of, lines_row, line_want, can_be_sent}
use Rattle.unit_trait.specs.Registers.{registers}
use Rattle.unit_trait.specs.Calls.{UnitState, Due}
use Rattle.unit_trait.specs.Row.{row_of, InRange, Fits}
use Rattle.unit_trait.proofs.Ranges.{held-within}
use Rattle.unit_trait.proofs.EveryKind.{every-kind}
use Rattle.unit_list.specs.Bus.{AllFit, unit_at, row_or_nothing, row_at, IsBelowEnd}
use Rattle.unit_list.specs.Laws.{BringsByte}
use Rattle.unit_list.proofs.Calls.{found-fits}
use Rattle.unit_files.specs.declared.faults.SectorAnswer.{SectorAnswer}
use Rattle.unit_files.specs.declared.faults.SectorAnswer.TheVariants as sector
use Rattle.unit_files.specs.Attachments.{Attachment}
use Rattle.unit_files.specs.Acts.{Failure, ByteSaid, ByteIs, AtEnd, failure_at, read_act, read_said, byte_at, write_act, write_said, piece_of, byte_written, write_files, most_bytes}
use Rattle.unit_files.specs.Buffer.{Buffer}
use Rattle.nova_machine.specs.Sectors.{got_of_sector, said_of_sector}
use Rattle.memory_transfer.specs.Tapes.{NoAnswer, with_nothing_done, with_some_done}
use Rattle.nova_machine.specs.Drives.{tape_answer}
use Rattle.nova_machine.specs.Wants.{wru, got_of_key, got_of_byte, answer_to, files_after, memory_behind}
use Rattle.nova_machine.specs.Hosting.{CanBeHosted}
use Rattle.nova_machine.specs.Valid.{AreBytes}
use Rattle.std.proofs.Math.Nat.{mod-lt}
use Rattle.machine_laws.proofs.ValidBytes.{AreFiles, IsByte, PrintsByte, byte-low, bytes-take, bytes-overwritten, files-found, files-changed}
use Rattle.machine_laws.proofs.ValidMemory.{HasSize, memory-sector}
use Rattle.machine_laws.proofs.ValidTape.{StandsOnTape, tape-stands, files-tape, memory-tape}

-- ---- the byte that is written, or put on a line

abbrev pub WritesByte : Want → Type 0
WritesByte (want.WriteByte place byte) = byte < 2 ^ 8
WritesByte (want.LinePut line byte) = byte < 2 ^ 8
WritesByte other = Unit {0}

puts-byte : (n value : ℕ) → WritesByte (line_want n value)
puts-byte n value = cond_both (can_be_sent value) (want.LinePut (n + 1) (value % 2 ^ 8)) (want.LineKey (n + 1)) WritesByte (λ _. mod-lt value {m = 2 ^ 8} (omega arith)) (λ _. tt)

prints-none : (n value : ℕ) → PrintsByte (line_want n value)
prints-none n value = cond_both (can_be_sent value) (want.LinePut (n + 1) (value % 2 ^ 8)) (want.LineKey (n + 1)) PrintsByte (λ _. tt) (λ _. tt)

writes-of : (kind : Kind) (values : List ℕ) (n : ℕ) → InRange (registers kind) values → WritesByte (row_of kind values (Due n)).want
unfolding row_of reader_row writer_row clock_row keyboard_row teleprinter_row lines_row
writes-of kind values n =
    every-kind (λ (k : Kind). InRange (registers k) values → WritesByte (row_of k values (Due n)).want)
    ((λ fits. tt), (λ fits. cond_both (slice_index values 4 == 2) want.Nothing (want.Tape (tape_order n values)) WritesByte (λ _. tt) (λ _. tt)), (λ fits. let held = held-within (registers Lpt) values 4 fits in omega (arith, held)), (λ fits. tt), (λ fits. let held = held-within (registers Ptp) values 4 fits in omega (arith, held)), (λ fits. tt), (λ fits. tt), (λ fits. tt), (λ fits. tt), (λ fits. let held = held-within (registers Tto1) values 3 fits in omega (arith, held)), (λ fits. puts-byte n (slice_index (lines_of values).tx n))) kind

writes-found : (n : ℕ) (there : Option UnitState) → IfSome there Fits → WritesByte (row_or_nothing (Due n) there).want
writes-found n None fits = tt
writes-found n (Some u) fits = writes-of u.kind u.registers n fits

-- what a unit writes, or puts on a line, is a byte
pub writes-in : (code n : ℕ) (us : List UnitState) → AllFit us → WritesByte (row_at code (Due n) us).want
writes-in code n us all = writes-found n (unit_at code us) (found-fits code us all)

prints-of : (kind : Kind) (values : List ℕ) (n : ℕ) → PrintsByte (row_of kind values (Due n)).want
unfolding row_of reader_row writer_row clock_row keyboard_row teleprinter_row lines_row
prints-of kind values n =
    every-kind (λ (k : Kind). PrintsByte (row_of k values (Due n)).want)
    (tt, cond_both (slice_index values 4 == 2) want.Nothing (want.Tape (tape_order n values)) PrintsByte (λ _. tt) (λ _. tt), tt, tt, tt, tt, tt, let low = mod-lt (slice_index values 3) {m = 2 ^ 7} (omega arith) in omega (arith, low), tt, tt, prints-none n (slice_index (lines_of values).tx n)) kind

prints-found : (n : ℕ) (there : Option UnitState) → PrintsByte (row_or_nothing (Due n) there).want
prints-found n None = tt
prints-found n (Some u) = prints-of u.kind u.registers n

-- what a unit prints is a byte
pub prints-in : (code n : ℕ) (us : List UnitState) → PrintsByte (row_at code (Due n) us).want
prints-in code n us = prints-found n (unit_at code us)

-- ---- the answer

-- it brings bytes, and is for a place below the largest
abbrev pub IsGiven : Want → Result Got NoAnswer → Type 0
IsGiven w (Ok g) = BringsByte g × IsBelowEnd w g
IsGiven w (Err why) = Unit {0}

pub given-key : (key : Option ℕ) → IfSome key IsByte → IsGiven want.Key (Ok (got_of_key key))
given-key None byte = (tt, (tt, tt))
given-key (Some key) byte =
    cond_both (key == wru) got.NoKey (got.Key key) (λ (g : Got). BringsByte g × IsBelowEnd want.Key g) (λ _. (tt, (tt, tt))) (λ _. (byte, (tt, tt)))

-- a byte is read at a place below the largest
given-at : (bytes : List ℕ) (place : ℕ) → AreBytes bytes → place < most_bytes → IsGiven (want.ReadByte place) (got_of_byte (byte_at bytes place))
unfolding most_bytes
given-at bytes place all low =
    cond_both (nat_lt place (length bytes)) (ByteIs (get_or bytes place 0)) AtEnd (λ (said : ByteSaid). IsGiven (want.ReadByte place) (got_of_byte said))
    (λ _. (byte-low bytes place all, (λ moves. low, tt))) (λ _. (tt, (λ moves. absurd (cc), tt)))

given-said : (fault : Option Failure) (bytes : List ℕ) (place : ℕ) → AreBytes bytes → place < most_bytes → IsGiven (want.ReadByte place) (got_of_byte (read_said fault bytes place))
given-said (Some f) bytes place all low = tt
given-said None bytes place all low = given-at bytes place all low

given-read : (fault : Option Failure) (a : Option Attachment) (place : ℕ) (files : List NamedBytes) → AreFiles files → IsGiven (want.ReadByte place) (got_of_byte (read_act fault a place files))
unfolding read_act
given-read fault None place files all = (tt, (λ moves. absurd (cc), tt))
given-read fault (Some a) place files all =
    cond_both (nat_lt place most_bytes) (read_said (failure_at Read fault) (bytes_of files a.name) place) AtEnd (λ (said : ByteSaid). IsGiven (want.ReadByte place) (got_of_byte said))
    (λ low. given-said (failure_at Read fault) (bytes_of files a.name) place (files-found files a.name all) (ltb-true place most_bytes low)) (λ _. (tt, (λ moves. absurd (cc), tt)))

given-written : (fault : Option Failure) (place byte : ℕ) → place < most_bytes → IsGiven (want.WriteByte place byte) (got_of_byte (write_said fault))
unfolding most_bytes
given-written (Some f) place byte low = tt
given-written None place byte low = (tt, (λ moves. low, tt))

given-write : (fault : Option Failure) (a : Option Attachment) (place byte : ℕ) → IsGiven (want.WriteByte place byte) (got_of_byte (write_act fault a place))
unfolding write_act
given-write fault None place byte = (tt, (λ moves. absurd (cc), tt))
given-write fault (Some a) place byte =
    cond_both (nat_lt place most_bytes) (write_said (failure_at Write fault)) AtEnd (λ (said : ByteSaid). IsGiven (want.WriteByte place byte) (got_of_byte said))
    (λ low. given-written (failure_at Write fault) place byte (ltb-true place most_bytes low)) (λ _. (tt, (λ moves. absurd (cc), tt)))

given-sector : (write : Bool) (n from : ℕ) (said : SectorAnswer) → IsGiven (want.Sector write n from) (Ok (got_of_sector said))
given-sector write n from sector.Done = (tt, (tt, tt))
given-sector write n from sector.NoFile = (tt, (tt, tt))
given-sector write n from sector.ReadOnly = (tt, (tt, tt))

given-tape : (order : TapeOrder) (result : Result Got NoAnswer) → StandsOnTape result → IsGiven (want.Tape order) result
given-tape order (Ok (got.Tape g)) stands = (tt, (tt, stands))
given-tape order (Ok (got.Byte b)) stands = absurd stands
given-tape order (Ok (got.Key b)) stands = absurd stands
given-tape order (Ok g) stands = (tt, (tt, tt))
given-tape order (Err why) stands = tt

pub answer-given : (fault : Option Failure) (a : Option Attachment) (files : List NamedBytes) (key : Option ℕ) (w : Want) (kind : Kind) → AreFiles files → IfSome key IsByte → CanBeHosted w kind
    → IsGiven w (answer_to fault a files key w)
answer-given fault a files key want.Nothing kind all byte can = (tt, (tt, tt))
answer-given fault a files key want.Key kind all byte can = given-key key byte
answer-given fault a files key (want.LineKey line) kind all byte can = (tt, (tt, tt))
answer-given fault a files key (want.Console b) kind all byte can = (tt, (tt, tt))
answer-given fault a files key (want.LinePut line b) kind all byte can = (tt, (tt, tt))
answer-given fault a files key (want.ReadByte place) kind all byte can = given-read (with_nothing_done fault) a place files all
answer-given fault a files key (want.WriteByte place b) kind all byte can = given-write (with_some_done 1 fault) a place b
answer-given fault a files key (want.Sector write n from) kind all byte can = given-sector write n from (said_of_sector write a)
answer-given fault a files key (want.Tape order) kind all byte can = given-tape order (tape_answer fault a files order) (tape-stands fault a files order can.1.place)

-- ---- files and memory

bytes-piece : (fault : Option Failure) (piece : List ℕ) → AreBytes piece → AreBytes (piece_of fault piece)
bytes-piece None piece all = all
bytes-piece (Some f) piece all = bytes-take f.done piece all

files-byte : (fault : Option Failure) (a : Option Attachment) (place byte : ℕ) (files : List NamedBytes) → byte < 2 ^ 8 → AreFiles files → AreFiles (write_files fault a place byte files)
unfolding write_files
files-byte fault None place byte files low all = all
files-byte fault (Some a) place byte files low all =
    cond_both (nat_lt place most_bytes) (changed files a.name (byte_written fault place byte)) files AreFiles
    (λ _. files-changed files a.name (byte_written fault place byte)
    (λ old bytes. bytes-overwritten old place (piece_of (failure_at Write fault) (byte ∷ [])) bytes (bytes-piece (failure_at Write fault) (byte ∷ []) (low, tt))) all) (λ _. all)

pub files-behind : (fault : Option Failure) (a : Option Attachment) (m : MemoryState) (files : List NamedBytes) (w : Want) → WritesByte w → IsMemory m → AreFiles files
    → AreFiles (files_after fault a m files w)
files-behind fault a m files (want.WriteByte place byte) low is all = files-byte (with_some_done 1 fault) a place byte files low all
files-behind fault a m files (want.Tape order) low is all = files-tape fault a m files order is all
files-behind fault a m files w low is all = all

pub memory-hosted : (fault : Option Failure) (a : Option Attachment) (files : List NamedBytes) (disk : Buffer) (w : Want) (m : MemoryState) → AreFiles files → AreBytes disk.bytes → HasSize m
    → HasSize (memory_behind fault a files disk w m)
memory-hosted fault a files disk (want.Tape order) m all bytes is = memory-tape fault a files order m all is
memory-hosted fault a files disk w m all bytes is = memory-sector a disk w m bytes is
