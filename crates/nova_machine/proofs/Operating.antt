-- What an operation on the file of a drive is, by the definition of one on the drive.
use Rattle.std.proofs.Common.{◌≡◌, ℕ, ◌==◌, ◌&&◌, Bool, true, false, IsTrue, inl, inr, List, Option, Some, None, Result, Ok, Err, refl, ap, sym, ◌∙◌, eq-eqb, if◌then◌else◌}
use Rattle.std.proofs.Math.Path.{fun_ext}
use Rattle.std.proofs.lemmas.Bool.{eqb-true}
use Rattle.file_traits.specs.Lists.{NamedBytes, bytes_of, changed}
use Rattle.file_traits.specs.State.{Opened, FileState, name_at}
use Rattle.file_traits.specs.declared.files.FileId.{FileId}
use Rattle.file_traits.specs.OneList.{ChangesOnly, shown}
use Rattle.nova_memory.specs.Memory.{MemoryState}
use Rattle.unit_trait.specs.declared.kind.UnitName.{UnitName}
use Rattle.unit_trait.specs.declared.calls.TapeOrder.{TapeOrder}
use Rattle.unit_trait.specs.declared.calls.Got.{Got}
use Rattle.unit_files.specs.Attachments.{Attachment, Held, attachments_of, attachment_at, file_place, read_only_of, read_only_at}
use Rattle.unit_files.specs.Acts.{Failure}
use Rattle.unit_files.specs.Causes.{IsQuiet}
use Rattle.unit_files.specs.Open.{AllOpen}
use Rattle.unit_files.specs.View.{HoldsFile}
use Rattle.unit_files.proofs.Opened.{file-of}
use Rattle.memory_transfer.specs.declared.tape.TapeStop.{TapeStop}
use Rattle.memory_transfer.specs.declared.tape.TapeStop.TheVariants.{Image, Call}
use Rattle.nova_machine.specs.Comes.{AreTold}
use Rattle.memory_transfer.specs.Tapes.{writes_tape, operation, memory_operated, image_operated}
use Rattle.nova_machine.specs.Drives.{image_of, tape_answer, tape_memory, tape_files}
use Rattle.memory_transfer.specs.Operated.{operated, failure_of, CountsStop}
use Rattle.nova_machine.specs.DriveCauses.{StopCause}
use Rattle.nova_machine.proofs.Hosting.{free-none}

quiet : (file : ℕ) (old new : FileState) → ChangesOnly file old new → new.faults file ≡ old.faults file → IsQuiet old new
quiet file old new one same = record {
  counts = fun_ext (λ (other : ℕ). by_test other (other == file) refl);
  openings = one.openings;
  ids = one.given;
}
  where
    by_test : (other : ℕ) (b : Bool) → (other == file) ≡ b → new.faults other ≡ old.faults other
    by_test other true is =
        let here : other ≡ file = eqb-true other file is in
        ap new.faults here ∙ same ∙ sym (ap old.faults here)
    by_test other false is = one.others other (λ (here : other ≡ file). let e : (other == file) ≡ true = eq-eqb other file here in absurd (cc))

-- the count of the file, and all others
pub stop-cause : (result : Result Got TapeStop) (file : ℕ) (old new : FileState) → ChangesOnly file old new → CountsStop (old.faults file) (new.faults file) result
    → StopCause result file old new
stop-cause (Ok answer) file old new one counts = quiet file old new one counts
stop-cause (Err (Image place)) file old new one counts = quiet file old new one counts
stop-cause (Err (Call f)) file old new one counts = record { rose = counts; others = one.others; openings = one.openings; ids = one.given }

-- ---- on the file of a drive

-- a tape that may be written, where it would be
pub may-write : (order : TapeOrder) (slots : List (Option Held)) (unit : UnitName) → IsTrue (writes_tape order) → (writes_tape order && read_only_at slots unit) ≡ false → read_only_at slots unit ≡ false
may-write order slots unit writes allowed = ap (λ (w : Bool). w && read_only_at slots unit) (sym writes) ∙ allowed

allowed-of : {A : Type 0} (refused : Bool) (x y : A) → refused ≡ false → (if refused then x else y) ≡ y
allowed-of false x y is = refl
allowed-of true x y is = absurd (cc)

answer-of : (fault : Option Failure) (a : Option Attachment) (b : Attachment) (files : List NamedBytes) (order : TapeOrder) → a ≡ Some b → (writes_tape order && b.read_only) ≡ false
    → tape_answer fault a files order ≡ operation fault (image_of b files) order
answer-of fault a b files order is allowed =
    ap (λ (x : Option Attachment). tape_answer fault x files order) is ∙ allowed-of (writes_tape order && b.read_only) _ _ allowed

files-of : (fault : Option Failure) (a : Option Attachment) (b : Attachment) (m : MemoryState) (files : List NamedBytes) (order : TapeOrder) → a ≡ Some b → (writes_tape order && b.read_only) ≡ false
    → tape_files fault a m files order ≡ changed files b.name (image_operated fault m order)
files-of fault a b m files order is allowed =
    ap (λ (x : Option Attachment). tape_files fault x m files order) is ∙ allowed-of (writes_tape order && b.read_only) _ _ allowed

-- where something is attached files are told
told-of : (tells : Bool) (slots : List (Option Held)) (unit : UnitName) (b : Attachment) → AreTold tells slots → attachment_at (attachments_of slots) unit ≡ Some b → IsTrue tells
told-of tells slots unit b (inl told) is = told
told-of tells slots unit b (inr free) is =
    let none : attachment_at (attachments_of slots) unit ≡ None = free-none slots (file_place unit) free in
    let both : None ≡ Some b = sym none ∙ is in
    absurd (cc)

-- what it comes to, where a call fails that the answer claims
pub record Done (result : Result Got TapeStop) (a : Option Attachment) (files files' : List NamedBytes) (order : TapeOrder) (memory memory' : MemoryState) : Type 0 where
  pub said : operated result ≡ tape_answer (failure_of result) a files order
  pub memory_is : memory' ≡ tape_memory (failure_of result) a files order memory
  pub files_are : files' ≡ tape_files (failure_of result) a memory files order

pub on-file : (result : Result Got TapeStop) (tells : Bool) (slots : List (Option Held)) (unit : UnitName) (file : FileId) (opened : List Opened) (order : TapeOrder) (files files' : List NamedBytes) (memory memory' : MemoryState)
    → AllOpen slots opened → HoldsFile slots unit file → (writes_tape order && read_only_at slots unit) ≡ false
    → (IsTrue tells → operated result ≡ operation (failure_of result) (shown (bytes_of files (name_at opened file.0))) order)
    → (IsTrue tells → memory' ≡ memory_operated (failure_of result) (shown (bytes_of files (name_at opened file.0))) order memory)
    → (IsTrue tells → files' ≡ changed files (name_at opened file.0) (image_operated (failure_of result) memory order))
    → AreTold tells slots → Done result (attachment_at (attachments_of slots) unit) files files' order memory memory'
on-file result tells slots unit file opened order files files' memory memory' all holds allowed said memory_is files_are told =
    let b = holds.held.attachment in
    let fault = failure_of result in
    let a = attachment_at (attachments_of slots) unit in
    let name : name_at opened file.0 ≡ b.name = (file-of slots unit file opened all holds).name in
    let same : read_only_at slots unit ≡ b.read_only = ap read_only_of holds.there in
    let free : (writes_tape order && b.read_only) ≡ false = ap (λ (r : Bool). writes_tape order && r) (sym same) ∙ allowed in
    let are_told : IsTrue tells = told-of tells slots unit b told holds.attachment in
    record {
      said = said are_told ∙ ap (λ (n : List ℕ). operation fault (shown (bytes_of files n)) order) name ∙ sym (answer-of fault a b files order holds.attachment free);
      memory_is = memory_is are_told ∙ ap (λ (n : List ℕ). memory_operated fault (shown (bytes_of files n)) order memory) name
          ∙ sym (ap (λ (x : Option Attachment). tape_memory fault x files order memory) holds.attachment);
      files_are = files_are are_told ∙ ap (λ (n : List ℕ). changed files n (image_operated fault memory order)) name ∙ sym (files-of fault a b memory files order holds.attachment free);
    }
