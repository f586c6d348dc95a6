-- A file is written whole, by its name. A call on it fails exactly where the outside says so; the numbers of open files
-- are no part of this.
use Rattle.std.specs.Prelude.{◌≡◌, ◌≢◌, ℕ, ◌+◌, ◌≤◌, ◌&&◌, ◌||◌, Bool, true, false, not, List, [], ◌∷◌, ◌++◌, length, take}
use Rattle.std.specs.Prelude.{Option, Some, None, IfSome, IsSome, is_some, Result, Ok, Err}
use Rattle.file_traits.specs.declared.files.FileCall.{FileCall}
use Rattle.file_traits.specs.declared.files.FileCall.TheVariants.{Opening, Write, Closing}
use Rattle.file_traits.specs.declared.files.FileId.{FileId}
use Rattle.file_traits.specs.declared.files.OpenFault.{OpenFault}
use Rattle.file_traits.specs.declared.files.WriteFault.{WriteFault}
use Rattle.file_traits.specs.Lists.{NamedBytes, with_file}
use Rattle.whole_files.specs.declared.whole.FailedCall.{FailedCall}
use Rattle.whole_files.specs.declared.whole.WholeFault.{WholeFault}
use Rattle.whole_files.specs.declared.whole.WholeFault.TheVariants as fault
use Rattle.whole_files.specs.declared.writing.Written.{Written}
use Rattle.whole_files.specs.Claims.{claims_of, is_opening}
use Rattle.whole_files.specs.Reading.{fault_of_opening, failed_opening}

-- a call that fails, and how many bytes it had written
abbrev pub FailingCall : Type 0
FailingCall = FileCall × ℕ

-- what is said of a file that is written
pub data WriteSaid : Type 0 where
  AllWritten : WriteSaid
  WriteFailed : WriteSaid

-- what is said, how many failing calls were met, and the files behind that
pub record WriteAct : Type 0 where
  pub said : WriteSaid
  pub met : ℕ
  pub files : List NamedBytes

-- Each act is handed the calls that are still to fail, in order: a call fails exactly where it is the first of them.

-- the file is closed behind all that, also where its closing fails
abbrev pub closed_act : WriteSaid → List FailingCall → ℕ → List NamedBytes → WriteAct
closed_act said ((Closing, done) ∷ failing) met files = record { said = said; met = met + 1; files = files }
closed_act said failing met files = record { said = said; met = met; files = files }

-- The file was made or emptied, and the piece is written in one call. Where that fails, the file has the bytes that it had
-- written, the first ones of the piece, and no others.
abbrev pub made_act : List FailingCall → List ℕ → List ℕ → List NamedBytes → WriteAct
made_act ((Write, done) ∷ failing) name piece files =
    closed_act WriteFailed failing 1 (with_file files name (take done piece))
made_act failing name piece files = closed_act AllWritten failing 0 (with_file files name piece)

-- The file of a name is made, or emptied where there is one, and closed again whatever is said of it. Where its opening
-- fails, no file changes.
unfoldable pub write_act : List FailingCall → List ℕ → List ℕ → List NamedBytes → WriteAct
write_act ((Opening, done) ∷ failing) name piece files = record { said = WriteFailed; met = 1; files = files }
write_act failing name piece files = made_act failing name piece files

-- ---- what an answer says of the file, and the failing calls that it claims

-- nothing is said where there was no memory, and where a name can't be made
abbrev pub said_of_writing : Result (Unit {0}) WholeFault → Option WriteSaid
said_of_writing (Ok u) = Some AllWritten
said_of_writing (Err fault.NoFile) = None
said_of_writing (Err fault.TooLong) = None
said_of_writing (Err fault.Failed) = Some WriteFailed
said_of_writing (Err fault.OutOfMemory) = None

abbrev pub failing_call : ℕ → Option FailedCall → List FailingCall
failing_call done None = []
failing_call done (Some f) = (f.call, done) ∷ []

abbrev pub claimed_in_writing : Written → List FailingCall
claimed_in_writing w = failing_call w.done w.failed ++ failing_call 0 w.closing

abbrev pub is_failed_writing : Result (Unit {0}) WholeFault → Bool
is_failed_writing (Err fault.Failed) = true
is_failed_writing answer = false

-- a call that can fail before the closing, and what it had written: the opening has no file yet, and nothing was written;
-- and the write has one
abbrev pub ComesBeforeClosing : FileCall → Option FileId → ℕ → Type 0
ComesBeforeClosing Opening None done = done ≡ 0
ComesBeforeClosing Write (Some id) done = Unit {0}
ComesBeforeClosing call file done = ⊥

-- the answers of a file that was never open
abbrev pub WasNotOpened : Result (Unit {0}) WholeFault → Type 0
WasNotOpened (Err fault.NoFile) = Unit {0}
WasNotOpened (Err fault.TooLong) = Unit {0}
WasNotOpened (Err fault.OutOfMemory) = Unit {0}
WasNotOpened answer = ⊥

-- which failing calls an answer claims beside what it says of a piece
pub record HasWriteShape (piece : List ℕ) (w : Written) : Type 0 where
  -- a call before the closing is claimed exactly where the answer is that one failed
  pub failed : is_some w.failed ≡ is_failed_writing w.answer
  pub before : IfSome w.failed (λ f. ComesBeforeClosing f.call f.file w.done)
  pub done : w.done ≤ length piece
  pub whole : w.failed ≡ None → w.done ≡ 0
  -- a closing that failed is one of a file that was opened, of which the other claim is too
  pub closing : IfSome w.closing (λ c. (c.call ≡ Closing) × IsSome c.file)
  pub one_file : IfSome w.closing (λ c. IfSome w.failed (λ f. f.file ≡ c.file))
  pub unopened : WasNotOpened w.answer → w.closing ≡ None
  -- no piece is too long
  pub fits : w.answer ≢ Err fault.TooLong

-- the failing calls of a file that are claimed
abbrev pub write_claims_on : Written → ℕ → ℕ
write_claims_on w file = claims_of w.failed file + claims_of w.closing file

-- whether an opening was a fault: where names are not told, one of a file that can't be made is one too
abbrev pub is_unmade : Result (Unit {0}) WholeFault → Bool
is_unmade (Err fault.NoFile) = true
is_unmade answer = false

abbrev pub unmade_counted : Bool → Written → Bool
unmade_counted tells w = is_opening w.failed || (is_unmade w.answer && not tells)

-- ---- what the steps come to

-- a file that was made, by its write and its closing
abbrev pub written_of : FileId → Result (Unit {0}) WriteFault → Option FailedCall → Written
written_of file (Ok u) closing = record { answer = Ok u; failed = None; done = 0; closing = closing }
written_of file (Err f) closing = record {
  answer = Err fault.Failed;
  failed = Some (record { file = Some file; call = Write });
  done = f.done;
  closing = closing;
}

-- one that was not made
abbrev pub unmade_of : OpenFault → Written
unmade_of fault = record { answer = Err (fault_of_opening fault); failed = failed_opening fault; done = 0; closing = None }
