-- What the answer of a reading says of the file, and the failing calls that it claims.
use Rattle.std.specs.Prelude.{◌≡◌, ℕ, zero, suc, ◌+◌, ◌<◌, ◌≤◌, ◌==◌, ◌&&◌, ◌||◌, Bool, true, false, not}
use Rattle.std.specs.Prelude.{IsTrue, List, [], ◌∷◌, ◌++◌, length}
use Rattle.std.specs.Prelude.{Option, Some, None, IfSome, IsSome, is_some, Result, Ok, Err, if◌then◌else◌}
use Rattle.std.specs.Global.{Vec}
use Rattle.fault_counts.specs.Faults.{raised, Rose}
use Rattle.file_traits.specs.declared.files.FileCall.{FileCall}
use Rattle.file_traits.specs.declared.files.FileCall.TheVariants.{Opening, Length, Read, Closing}
use Rattle.file_traits.specs.declared.files.FileId.{FileId}
use Rattle.file_traits.specs.Lists.{find_file, bytes_of}
use Rattle.file_traits.specs.State.{FileState}
use Rattle.whole_files.specs.declared.whole.FailedCall.{FailedCall}
use Rattle.whole_files.specs.declared.whole.Whole.{Whole}
use Rattle.whole_files.specs.declared.whole.WholeFault.{WholeFault}
use Rattle.whole_files.specs.declared.whole.WholeFault.TheVariants as fault
use Rattle.whole_files.specs.Whole.{WholeSaid, WholeIs, NotThere, TooLong, CallFailed, longest_file}

-- what is said of the file; nothing where there was no memory
abbrev pub said_of_bytes : Result (Vec ℕ) WholeFault → Option WholeSaid
said_of_bytes (Ok bytes) = Some (WholeIs bytes.items)
said_of_bytes (Err fault.NoFile) = Some NotThere
said_of_bytes (Err fault.TooLong) = Some TooLong
said_of_bytes (Err fault.Failed) = Some CallFailed
said_of_bytes (Err fault.OutOfMemory) = None

abbrev pub said_of : Whole → Option WholeSaid
said_of w = said_of_bytes w.bytes

-- the failing calls that an answer claims, in order
abbrev pub call_of : Option FailedCall → List FileCall
call_of None = []
call_of (Some f) = f.call ∷ []

abbrev pub claimed : Whole → List FileCall
claimed w = call_of w.failed ++ call_of w.closing

-- ---- which calls may be claimed

abbrev pub is_failed : Result (Vec ℕ) WholeFault → Bool
is_failed (Err fault.Failed) = true
is_failed bytes = false

-- a call that can fail before the closing: the opening has no file yet, and the others have one
abbrev pub ComesBefore : FileCall → Option FileId → Type 0
ComesBefore Opening None = Unit {0}
ComesBefore Length (Some id) = Unit {0}
ComesBefore Read (Some id) = Unit {0}
ComesBefore call file = ⊥

-- which failing calls an answer claims beside what it says
pub record HasShape (w : Whole) : Type 0 where
  -- a call before the closing is claimed exactly where the answer is that one failed
  pub failed : is_some w.failed ≡ is_failed w.bytes
  pub before : IfSome w.failed (λ f. ComesBefore f.call f.file)
  -- a closing that failed is one of a file that was opened, of which the other claim is too
  pub closing : IfSome w.closing (λ c. (c.call ≡ Closing) × IsSome c.file)
  pub one_file : IfSome w.closing (λ c. IfSome w.failed (λ f. f.file ≡ c.file))
  pub missing : w.bytes ≡ Err fault.NoFile → w.closing ≡ None

-- ---- the counts of faults

-- a count after so many more faults
abbrev pub raised_by : ℕ → ℕ → ℕ
raised_by zero count = count
raised_by (suc faults) count = raised (raised_by faults count)

-- how many failing calls of a file are claimed
abbrev pub is_of : Option FileId → ℕ → Bool
is_of None file = false
is_of (Some id) file = id.0 == file

abbrev pub claims_of : Option FailedCall → ℕ → ℕ
claims_of None file = 0
claims_of (Some f) file = if is_of f.file file then 1 else 0

abbrev pub claims_on : Whole → ℕ → ℕ
claims_on w file = claims_of w.failed file + claims_of w.closing file

-- a failing call is claimed of no file but one that was opened in this very call
abbrev pub IsNew : Option FailedCall → FileState → FileState → Type 0
IsNew None old new = Unit {0}
IsNew (Some f) old new = IfSome f.file (λ id. (old.given ≤ id.0) × (id.0 < new.given))

-- whether an opening was a fault: where names are not told, a missing file is one too
abbrev pub is_opening : Option FailedCall → Bool
is_opening (Some f) = is_opening_call f.call
  where
    is_opening_call : FileCall → Bool
    is_opening_call Opening = true
    is_opening_call call = false
is_opening None = false

abbrev pub is_missing : Result (Vec ℕ) WholeFault → Bool
is_missing (Err fault.NoFile) = true
is_missing bytes = false

abbrev pub opening_counted : Bool → Whole → Bool
opening_counted tells w = is_opening w.failed || (is_missing w.bytes && not tells)

-- ---- its length

-- The file of a name, where names are told, is no longer than one that is read whole.
abbrev pub Fits : Bool → List ℕ → FileState → Type 0
Fits tells name s = IsTrue tells → length (bytes_of s.files name) ≤ longest_file

-- Why a reading answers so, also of files that tell nothing. There is no file of that name; or it was opened, which gave an
-- id, and is too long. The length is asked before memory is taken for the bytes: where memory ran out behind the opening,
-- the file is not too long.
abbrev pub WholeCause : Bool → List ℕ → Result (Vec ℕ) WholeFault → FileState → FileState → Type 0
WholeCause tells name (Ok v) old new = Fits tells name old
WholeCause tells name (Err fault.NoFile) old new =
    (IsTrue tells → is_some (find_file old.files name) ≡ false)
    × ((IsTrue tells → ⊥) → Rose old.open_faults new.open_faults)
WholeCause tells name (Err fault.TooLong) old new =
    (old.given < new.given) × (IsTrue tells → longest_file < length (bytes_of old.files name))
WholeCause tells name (Err fault.Failed) old new = Unit {0}
WholeCause tells name (Err fault.OutOfMemory) old new = old.given < new.given → Fits tells name old
