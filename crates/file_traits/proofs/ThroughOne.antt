-- What calls through one open file leave as it is behind it, and what that tells of all the files.
use Rattle.std.specs.Borrow.{GName}
use Rattle.std.proofs.Common.{◌≡◌, ◌≢◌, ℕ, ◌==◌, Bool, true, false, List, [], Option, Some, None, IsTrue, refl, ap, sym, subst, Result, Ok, Err, OnOk, eq-eqb, ◌∙◌, if◌then◌else◌}
use Rattle.std.proofs.Math.Path.{fun_ext}
use Rattle.std.proofs.lemmas.Bool.{eqb-true}
use Rattle.file_traits.specs.declared.files.OpenMode.{OpenMode}
use Rattle.file_traits.specs.declared.files.OpenMode.TheVariants.{Read, Update, Create}
use Rattle.fault_counts.specs.Faults.{CountsFault}
use Rattle.file_traits.specs.Lists.{NamedBytes, bytes_of, changed}
use Rattle.file_traits.specs.State.{FileState, Opened, mode_at, name_at, content, allows_writes, is_writable, IsWritable, IsNamed}
use Rattle.file_traits.specs.FileCalls.{Counted}
use Rattle.file_traits.specs.OneList.{Behind, ChangesOnly, masked}
use Rattle.file_traits.proofs.Changes.{changed-same}
use Rattle.file_traits.proofs.Changes.{changed_bytes, changed_twice, changed_at, refilled_one}

-- ---- what may be written

-- the test of a mode, and what it stands for
pub may_write : (s : FileState) (file : ℕ) → IsTrue (is_writable s file) → IsWritable s file
may_write s file allowed = by_mode (mode_at s.opened file) allowed
  where
    by_mode : (mode : Option OpenMode) → IsTrue (allows_writes mode) → mode ≢ Some Read
    by_mode None allowed = λ is. absurd (cc)
    by_mode (Some Read) allowed = λ is. absurd (cc)
    by_mode (Some Update) allowed = λ is. absurd (cc)
    by_mode (Some Create) allowed = λ is. absurd (cc)

pub can_write : (s : FileState) (file : ℕ) → IsWritable s file → IsTrue (is_writable s file)
can_write s file allowed = by_mode (mode_at s.opened file) allowed
  where
    by_mode : (mode : Option OpenMode) → mode ≢ Some Read → IsTrue (allows_writes mode)
    by_mode None allowed = refl
    by_mode (Some Read) allowed = absurd (allowed refl)
    by_mode (Some Update) allowed = refl
    by_mode (Some Create) allowed = refl

-- ---- what stands behind it

-- the bytes behind an open id, once they are changed
pub changed_content : (old new : FileState) (file : ℕ) (step : List ℕ → List ℕ) → IsNamed old file → new.files ≡ changed old.files (name_at old.opened file) step → new.opened ≡ old.opened
    → content new file ≡ step (content old file)
changed_content old new file step there files opened =
    ap (λ (os : List Opened). bytes_of new.files (name_at os file)) opened
    ∙ ap (λ (xs : List NamedBytes). bytes_of xs (name_at old.opened file)) files
    ∙ changed_bytes old.files (name_at old.opened file) step there

-- a call that changes the bytes of one file and its count leaves all else
pub masked_same : (old new : FileState) (file : ℕ) (step : List ℕ → List ℕ) → new.files ≡ changed old.files (name_at old.opened file) step → new.opened ≡ old.opened → new.given ≡ old.given
    → new.open_faults ≡ old.open_faults → ((other : ℕ) → other ≢ file → new.faults other ≡ old.faults other) → masked new file ≡ masked old file
masked_same old new file step files opened given openings others =
    let names : name_at new.opened file ≡ name_at old.opened file = ap (λ (os : List Opened). name_at os file) opened in
    let same : changed new.files (name_at new.opened file) (λ bytes. []) ≡ changed old.files (name_at old.opened file) (λ bytes. []) =
    ap (λ (n : List ℕ). changed new.files n (λ bytes. [])) names
    ∙ ap (λ (xs : List NamedBytes). changed xs (name_at old.opened file) (λ bytes. [])) files
    ∙ changed_twice old.files (name_at old.opened file) step [] in
    let counts : (λ (other : ℕ). if other == file then 0 else new.faults other) ≡ (λ (other : ℕ). if other == file then 0 else old.faults other) =
    fun_ext (λ (other : ℕ). by_test other (other == file) refl) in
    cc (same, opened, given, openings, counts)
  where
    by_test : (other : ℕ) (b : Bool) → (other == file) ≡ b → (if b then 0 else new.faults other) ≡ (if b then 0 else old.faults other)
    by_test other true is = refl
    by_test other false is = others other (λ (same : other ≡ file). let e : (other == file) ≡ true = eq-eqb other file same in absurd (cc))

-- ---- what a caller gets back

-- what stands behind one open file
abbrev pub behind_of : GName → FileState → ℕ → Behind
behind_of lender s file = record { lender = Some lender; file = file; state = masked s file }

-- the same file
pub through_file : {lender lender' : GName} (old new : FileState) (file file' : ℕ) → behind_of lender' new file' ≡ behind_of lender old file → file' ≡ file
through_file old new file file' behind = ap (λ (b : Behind). b.file) behind

-- its count and its bytes, at the id that the caller knows
pub through_count : {lender lender' : GName} (old new : FileState) (file file' : ℕ) → behind_of lender' new file' ≡ behind_of lender old file → new.faults file ≡ new.faults file'
through_count old new file file' behind = ap (λ (k : ℕ). new.faults k) (sym (through_file old new file file' behind))

pub through_content : {lender lender' : GName} (old new : FileState) (file file' : ℕ) → behind_of lender' new file' ≡ behind_of lender old file → content new file ≡ content new file'
through_content old new file file' behind = ap (λ (k : ℕ). content new k) (sym (through_file old new file file' behind))

-- calls that left what stands behind as it is changed only that file's bytes and its count
pub through_one : {lender lender' : GName} (old new : FileState) (file file' : ℕ) → behind_of lender' new file' ≡ behind_of lender old file → ChangesOnly file old new
through_one old new file file' behind =
    let same : masked new file ≡ masked old file =
    ap (λ (k : ℕ). masked new k) (sym (through_file old new file file' behind)) ∙ ap (λ (b : Behind). b.state) behind in
    let opened : new.opened ≡ old.opened = ap (λ (s : FileState). s.opened) same in
    let names : name_at new.opened file ≡ name_at old.opened file = ap (λ (os : List Opened). name_at os file) opened in
    let files : changed new.files (name_at old.opened file) (λ bytes. []) ≡ changed old.files (name_at old.opened file) (λ bytes. []) =
    ap (λ (n : List ℕ). changed new.files n (λ bytes. [])) (sym names) ∙ ap (λ (s : FileState). s.files) same in
    record {
      files =
          refilled_one old.files new.files (name_at old.opened file) files
          ∙ ap (λ (n : List ℕ). changed old.files (name_at old.opened file) (λ bytes. bytes_of new.files n)) (sym names);
      opened = opened;
      given = ap (λ (s : FileState). s.given) same;
      openings = ap (λ (s : FileState). s.open_faults) same;
      others = λ other apart. by_test other (other == file) refl apart (ap (λ (s : FileState). s.faults other) same);
    }
  where
    by_test : (other : ℕ) (b : Bool) → (other == file) ≡ b → other ≢ file → (if b then 0 else new.faults other) ≡ (if b then 0 else old.faults other) → new.faults other ≡ old.faults other
    by_test other true is apart same = absurd (apart (eqb-true other file is))
    by_test other false is apart same = same

-- the count of that file, as a call on it keeps it
pub through_counted : {lender lender' : GName} {T E : Type 0} (old new : FileState) (file file' : ℕ) → behind_of lender' new file' ≡ behind_of lender old file → (result : Result T E) → CountsFault (old.faults file) (new.faults file') result
    → Counted file old new result
through_counted old new file file' behind result counts =
    let one = through_one old new file file' behind in
    record {
      counts = subst (λ (k : ℕ). CountsFault (old.faults file) (new.faults k) result) (through_file old new file file' behind) counts;
      others = one.others;
      openings = one.openings;
      ids = one.given;
    }

-- bytes that were changed by a step, as where the content is told
pub through_changed : {lender lender' : GName} (old new : FileState) (file file' : ℕ) (step : List ℕ → List ℕ) → behind_of lender' new file' ≡ behind_of lender old file → content new file' ≡ step (content old file)
    → new.files ≡ changed old.files (name_at old.opened file) step
through_changed old new file file' step behind bytes =
    let one = through_one old new file file' behind in
    let same : content new file ≡ step (content old file) = through_content old new file file' behind ∙ bytes in
    one.files
    ∙ ap (λ (xs : List ℕ). changed old.files (name_at old.opened file) (λ before. xs)) same
    ∙ changed_at old.files (name_at old.opened file) step

-- bytes that stayed the same
pub through_same : {lender lender' : GName} (old new : FileState) (file file' : ℕ) → behind_of lender' new file' ≡ behind_of lender old file → content new file' ≡ content old file → new.files ≡ old.files
through_same old new file file' behind bytes =
    through_changed old new file file' (λ (xs : List ℕ). xs) behind bytes ∙ changed-same old.files (name_at old.opened file) (λ (xs : List ℕ). xs) (λ (xs : List ℕ). refl)

-- what follows from a fact that holds where a call succeeded
pub on_ok : {T E P Q : Type 0} (result : Result T E) → (P → Q) → OnOk result P → OnOk result Q
on_ok (Ok x) step holds = step holds
on_ok (Err e) step holds = tt
