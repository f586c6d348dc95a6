-- A state file is read piece by piece.
use Rattle.std.proofs.Common.{◌≡◌, ◌≢◌, ◌⊎◌, inl, inr, arith, ℕ, ◌≤◌, Bool, true, false, List, [], ◌∷◌, ◌++◌, length, Option, Some, None, is_some, Result, Ok, Err, refl, sym, ap, subst, ◌∙◌}
use Rattle.file_traits.specs.State.{FileState, content, name_at}
use Rattle.std.proofs.lemmas.Bool.{eq-eqb, le-ltb, lt-ltb}
use Rattle.file_traits.specs.declared.files.FileId.{FileId}
use Rattle.file_traits.specs.Lists.{NamedBytes, find_file, bytes_of}
use Rattle.whole_files.specs.declared.whole.FailedCall.{FailedCall}
use Rattle.whole_files.specs.declared.whole.WholeFault.{WholeFault}
use Rattle.std.specs.Prelude.{unwrap_or, IfOk, IfSome, nat_lt}
use Rattle.file_traits.specs.declared.files.OpenMode.TheVariants.{Read as to_read}
use Rattle.file_traits.specs.FileCalls.{HasOpened}
use Rattle.file_traits.specs.declared.files.FileCall.{FileCall}
use Rattle.file_traits.specs.declared.files.FileCall.TheVariants as call
use Rattle.whole_files.specs.Claims.{claims_of, call_of, claimed, said_of, said_of_bytes}
use Rattle.whole_files.specs.Reading.{IsClosing}
use Rattle.whole_files.specs.Whole.{WholeIs, longest_file, whole_act}
use Rattle.whole_files.proofs.Counts.{one-here, none-elsewhere}
use Rattle.state_text.specs.declared.state_reader.StateReader.{StateReader}
use Rattle.state_text.specs.Pieces.{IsFed}
use Rattle.state_commands.specs.declared.state_reading.StateRead.{StateRead}
use Rattle.state_commands.specs.declared.state_reading.Unread.{Unread}
use Rattle.state_commands.specs.declared.state_reading.Unread.TheVariants as unread
use Rattle.state_commands.specs.StateReading.{WasFed, IsReadFor, SaysOfFile, IsFedWith, said_for, answer_of, failure_of, read_failures, bytes_for, whole_of}

pub was_fed : (read : Result StateReader Unread) → IfOk read (λ reader. WasFed reader) → IfOk (answer_of read) (λ reader. WasFed reader)
was_fed (Ok reader) was = was
was_fed (Err unread.TooLong) was = tt
was_fed (Err unread.OutOfMemory) was = tt
was_fed (Err unread.LengthFailed) was = tt
was_fed (Err unread.ReadFailed) was = tt

-- what is claimed of the file that was opened is what has failed on it, and nothing is of any other
pub failed_here : (id : FileId) (read : Result StateReader Unread) → claims_of (failure_of id read) id.0 ≡ read_failures read
failed_here id (Ok reader) = refl
failed_here id (Err unread.TooLong) = refl
failed_here id (Err unread.OutOfMemory) = refl
failed_here id (Err unread.LengthFailed) = one-here id
failed_here id (Err unread.ReadFailed) = one-here id

pub none_failed : (id : FileId) (read : Result StateReader Unread) (file : ℕ) → file ≢ id.0 → claims_of (failure_of id read) file ≡ 0
none_failed id (Ok reader) file not = refl
none_failed id (Err unread.TooLong) file not = refl
none_failed id (Err unread.OutOfMemory) file not = refl
none_failed id (Err unread.LengthFailed) file not = none-elsewhere id file not
none_failed id (Err unread.ReadFailed) file not = none-elsewhere id file not

-- ---- what is said of the file

short : (b : List ℕ) → length b ≤ longest_file → nat_lt longest_file (length b) ≡ false
short b within = le-ltb longest_file (length b) within

-- by the calls that failed
act_says : (b : List ℕ) (name : List ℕ) (files : List NamedBytes) (id : FileId) (read : Result StateReader Unread) (closing : List FileCall) → find_file files name ≡ Some b
    → (closing ≡ []) ⊎ (closing ≡ call.Closing ∷ []) → IsReadFor b read
    → IfSome (said_for b (answer_of read)) (λ said. whole_act (call_of (failure_of id read) ++ closing) name files ≡ (said, length (call_of (failure_of id read) ++ closing)))
unfolding whole_act
act_says b name files id (Ok reader) closing found (inl none) is = rw (none, found, short b is.0) refl
act_says b name files id (Ok reader) closing found (inr one) is = rw (one, found, short b is.0) refl
act_says b name files id (Err unread.TooLong) closing found (inl none) is = rw (none, found, lt-ltb longest_file (length b) is) refl
act_says b name files id (Err unread.TooLong) closing found (inr one) is = rw (one, found, lt-ltb longest_file (length b) is) refl
act_says b name files id (Err unread.OutOfMemory) closing found one is = tt
act_says b name files id (Err unread.LengthFailed) closing found (inl none) is = rw (none, found) refl
act_says b name files id (Err unread.LengthFailed) closing found (inr one) is = rw (one, found) refl
act_says [] name files id (Err unread.ReadFailed) closing found one is = absurd (let some = is.1 in omega (arith, some))
act_says (x ∷ b) name files id (Err unread.ReadFailed) closing found (inl none) is = rw (none, found, short (x ∷ b) is.0) refl
act_says (x ∷ b) name files id (Err unread.ReadFailed) closing found (inr one) is = rw (one, found, short (x ∷ b) is.0) refl

closing_calls : (id : FileId) (closing : Option FailedCall) → IsClosing id closing → (call_of closing ≡ []) ⊎ (call_of closing ≡ call.Closing ∷ [])
closing_calls id None is = inl refl
closing_calls id (Some c) is = inr (ap (λ (x : FailedCall). x.call ∷ []) is)

there : (o : Option (List ℕ)) → is_some o ≡ true → o ≡ Some (unwrap_or o [])
there None is = absurd cc
there (Some b) is = refl

with_bytes : (bytes : List ℕ) (read : Result StateReader Unread) → IsReadFor bytes read → IsFedWith bytes (answer_of read)
with_bytes bytes (Ok reader) is = is.1
with_bytes bytes (Err unread.TooLong) is = tt
with_bytes bytes (Err unread.OutOfMemory) is = tt
with_bytes bytes (Err unread.LengthFailed) is = tt
with_bytes bytes (Err unread.ReadFailed) is = tt

-- the name of the file that was opened last
content_opened : (tells : Bool) (old new : FileState) (name : List ℕ) (id : FileId) → HasOpened tells old new name to_read id.0 → tells ≡ true → content new id.0 ≡ bytes_of old.files name
content_opened tells old new name id is told =
    ap (λ (f : List NamedBytes). bytes_of f (name_at new.opened id.0)) (is.files told)
    ∙ ap (λ (n : List ℕ). bytes_of old.files n) (ap (λ o. name_at o id.0) is.opened ∙ rw (eq-eqb id.0 id.0 refl) refl)

pub opened_says : (tells : Bool) (old new : FileState) (name : List ℕ) (id : FileId) (read : Result StateReader Unread) (closing : Option FailedCall) (r : StateRead) → tells ≡ true
    → HasOpened tells old new name to_read id.0 → IsReadFor (content new id.0) read → IsClosing id closing → r.reader ≡ answer_of read → r.failed ≡ failure_of id read → r.closing ≡ closing
    → SaysOfFile name old.files r
opened_says tells old new name id read closing r told is read_is closes a f c =
    let bytes = bytes_of old.files name in
    let whole : IsReadFor bytes read = subst (λ (b : List ℕ). IsReadFor b read) (content_opened tells old new name id is told) read_is in
    let found = there (find_file old.files name) (is.allowed told) in
    let says = act_says bytes name old.files id read (call_of closing) found (closing_calls id closing closes) whole in
    record {
      fed = subst (λ x. IsFedWith bytes x) (sym a) (with_bytes bytes read whole);
      said = rw (a, f, c) says;
    }

-- what is said of it is what is said of a file that is read whole
pub says_unread : (name : List ℕ) (files : List NamedBytes) (r : StateRead) (why : WholeFault) → r.reader ≡ Err why → SaysOfFile name files r
    → IfSome (said_of (whole_of r)) (λ said. whole_act (claimed (whole_of r)) name files ≡ (said, length (claimed (whole_of r))))
says_unread name files r why is says =
    subst (λ x. IfSome (said_for (bytes_of files name) x) (λ said. whole_act (claimed (whole_of r)) name files ≡ (said, length (claimed (whole_of r))))
    → IfSome (said_of_bytes (bytes_for x)) (λ said. whole_act (claimed (whole_of r)) name files ≡ (said, length (claimed (whole_of r))))) (sym is) (λ h. h) says.said

pub says_read : (name : List ℕ) (files : List NamedBytes) (r : StateRead) (reader : StateReader) → r.reader ≡ Ok reader → SaysOfFile name files r
    → whole_act (claimed (whole_of r)) name files ≡ (WholeIs (bytes_of files name), length (claimed (whole_of r)))
says_read name files r reader is says =
    subst (λ x. IfSome (said_for (bytes_of files name) x) (λ said. whole_act (claimed (whole_of r)) name files ≡ (said, length (claimed (whole_of r))))) is says.said

pub fed_with : (name : List ℕ) (files : List NamedBytes) (r : StateRead) (reader : StateReader) → r.reader ≡ Ok reader → SaysOfFile name files r → IsFed reader (bytes_of files name)
fed_with name files r reader is says = subst (IsFedWith (bytes_of files name)) is says.fed
