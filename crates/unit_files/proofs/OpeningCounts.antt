-- How many openings failed and how many files were opened, by what came of an attaching.
use Rattle.std.proofs.Common.{◌≡◌, ◌≤◌, inl, inr, ℕ, ◌+◌, Bool, true, false, List, Result, Ok, Err, refl, ap, sym, ◌∙◌, if◌then◌else◌, arith}
use Rattle.file_traits.specs.declared.files.FileId.{FileId}
use Rattle.file_traits.specs.declared.files.FileCall.{FileCall}
use Rattle.file_traits.specs.declared.files.FileCall.TheVariants as call
use Rattle.file_traits.specs.declared.files.OpenFault.{OpenFault}
use Rattle.file_traits.specs.declared.files.OpenFault.TheVariants as opening
use Rattle.file_traits.specs.State.{FileState}
use Rattle.unit_trait.specs.declared.kind.UnitName.{UnitName}
use Rattle.whole_files.specs.Claims.{raised_by}
use Rattle.unit_files.specs.declared.modes.AttachMode.{AttachMode}
use Rattle.unit_files.specs.declared.modes.AttachMode.TheVariants as modes
use Rattle.unit_files.specs.declared.faults.UnitFault.{UnitFault}
use Rattle.unit_files.specs.declared.faults.AttachFault.{AttachFault}
use Rattle.unit_files.specs.declared.faults.AttachFault.TheVariants as attach
use Rattle.unit_files.specs.Causes.{CountsAttach, most_unnamed, openings_in, openings_named, files_before, files_opened}
use Rattle.unit_files.specs.Opening.{CountsOpenings, CountsOneOrTwo, count_behind, OpensFor, IsNewlyOpen, OnlyCountOf, ClosedCause, fault_of_opening}

-- how many openings that failed an opening for a unit names
abbrev pub failed_of : Bool → Result FileId OpenFault → ℕ
failed_of tells (Ok id) = 0
failed_of tells (Err opening.NoFile) = if tells then 0 else 1
failed_of tells (Err opening.Failed) = 1
failed_of tells (Err opening.OutOfMemory) = 0

pub record Tried (mode : AttachMode) (tells : Bool) (result : Result FileId OpenFault) (before now : ℕ) : Type 0 where
  pub unnamed : ℕ
  pub few : unnamed ≤ most_unnamed mode tells
  pub missing : result ≡ Err opening.NoFile → unnamed ≡ most_unnamed mode tells
  pub count : now ≡ raised_by (unnamed + failed_of tells result) before

once : (mode : AttachMode) (tells : Bool) (result : Result FileId OpenFault) (before now : ℕ) → most_unnamed mode tells ≡ 0
    → now ≡ raised_by (failed_of tells result) before → Tried mode tells result before now
once mode tells result before now none is =
    let alone : failed_of tells result ≡ 0 + failed_of tells result = omega arith in
    record { unnamed = 0; few = omega (arith, none); missing = λ missing. sym none; count = is ∙ ap (λ (n : ℕ). raised_by n before) alone }

two : (tells : Bool) (result : Result FileId OpenFault) (before now : ℕ) → CountsOneOrTwo tells before now result → Tried modes.Any tells result before now
two true (Ok id) before now (inl is) = once modes.Any true (Ok id) before now refl is
two true (Ok id) before now (inr is) = once modes.Any true (Ok id) before now refl is
two true (Err opening.Failed) before now (inl is) = once modes.Any true (Err opening.Failed) before now refl is
two true (Err opening.Failed) before now (inr is) = once modes.Any true (Err opening.Failed) before now refl is
two true (Err opening.OutOfMemory) before now (inl is) = once modes.Any true (Err opening.OutOfMemory) before now refl is
two true (Err opening.OutOfMemory) before now (inr is) = once modes.Any true (Err opening.OutOfMemory) before now refl is
two true (Err opening.NoFile) before now is = once modes.Any true (Err opening.NoFile) before now refl is
two false (Err opening.NoFile) before now is = record { unnamed = 1; few = omega arith; missing = λ missing. refl; count = is }
two false (Ok id) before now (inl is) = record { unnamed = 0; few = omega arith; missing = λ missing. absurd (cc); count = is }
two false (Ok id) before now (inr is) = record { unnamed = 1; few = omega arith; missing = λ missing. refl; count = is }
two false (Err opening.Failed) before now (inl is) = record { unnamed = 0; few = omega arith; missing = λ missing. absurd (cc); count = is }
two false (Err opening.Failed) before now (inr is) = record { unnamed = 1; few = omega arith; missing = λ missing. refl; count = is }
two false (Err opening.OutOfMemory) before now (inl is) = record { unnamed = 0; few = omega arith; missing = λ missing. absurd (cc); count = is }
two false (Err opening.OutOfMemory) before now (inr is) = record { unnamed = 1; few = omega arith; missing = λ missing. refl; count = is }

one : (mode : AttachMode) (tells : Bool) (result : Result FileId OpenFault) (before now : ℕ) → most_unnamed mode tells ≡ 0 → now ≡ count_behind tells before result
    → Tried mode tells result before now
one mode tells (Ok id) before now none is = once mode tells (Ok id) before now none is
one mode tells (Err opening.Failed) before now none is = once mode tells (Err opening.Failed) before now none is
one mode tells (Err opening.OutOfMemory) before now none is = once mode tells (Err opening.OutOfMemory) before now none is
one mode true (Err opening.NoFile) before now none is = once mode true (Err opening.NoFile) before now none is
one mode false (Err opening.NoFile) before now none is = once mode false (Err opening.NoFile) before now none is

tried : (mode : AttachMode) (tells : Bool) (result : Result FileId OpenFault) (before now : ℕ) → CountsOpenings tells mode before now result
    → Tried mode tells result before now
tried modes.Any tells result before now is = two tells result before now is
tried modes.MustExist tells result before now is = one modes.MustExist tells result before now refl is
tried modes.New tells result before now is = one modes.New tells result before now refl is
tried modes.ReadOnly tells result before now is = one modes.ReadOnly tells result before now refl is

-- ---- behind an opening

pub counts_unopened : (mode : AttachMode) (tells : Bool) (unit : UnitName) (name : List ℕ) (fault : OpenFault) (old new : FileState)
    → CountsOpenings tells mode old.open_faults new.open_faults (Err fault) → OpensFor tells old new name mode (Err fault)
    → CountsAttach mode tells (Err (fault_of_opening unit fault)) old new
counts_unopened mode tells unit name opening.NoFile old new counts opens =
    let t = tried mode tells (Err opening.NoFile) old.open_faults new.open_faults counts in
    let same = opens.0.given in
    record { unnamed = t.unnamed; few = t.few; missing = λ is. t.missing refl; openings = t.count; ids = omega (arith, same) }
counts_unopened mode tells unit name opening.Failed old new counts opens =
    let t = tried mode tells (Err opening.Failed) old.open_faults new.open_faults counts in
    let same = opens.0.given in
    record { unnamed = t.unnamed; few = t.few; missing = λ is. absurd (cc); openings = t.count; ids = omega (arith, same) }
counts_unopened mode tells unit name opening.OutOfMemory old new counts opens =
    let t = tried mode tells (Err opening.OutOfMemory) old.open_faults new.open_faults counts in
    let same = opens.given in
    record { unnamed = t.unnamed; few = t.few; missing = λ is. absurd (cc); openings = t.count; ids = omega (arith, same) }

-- .. and of one that was opened
module _ (mode : AttachMode) (tells : Bool) (unit : UnitName) (name : List ℕ) (id : FileId) (old mid new : FileState)
    (counts : CountsOpenings tells mode old.open_faults mid.open_faults (Ok id)) (is : IsNewlyOpen old mid name mode id.0)
    (only : OnlyCountOf id.0 mid new) where
  with-answer : (result : Result ℕ AttachFault) → openings_named tells result ≡ 0 → files_opened result ≡ 1 → (result ≡ Err attach.NoFile → ⊥)
      → CountsAttach mode tells result old new
  with-answer result none opened found =
      let t = tried mode tells (Ok id) old.open_faults mid.open_faults counts in
      let next = is.next in
      let given = is.given in
      let ids = only.ids in
      record {
        unnamed = t.unnamed;
        few = t.few;
        missing = λ missing. absurd (found missing);
        openings = only.openings ∙ t.count ∙ ap (λ (n : ℕ). raised_by (t.unnamed + n) old.open_faults) (sym none);
        ids = omega (arith, next, given, ids, opened);
      }

  failed-call : (f : UnitFault) → (c : FileCall) → f.call ≡ c → openings_in c ≡ 0 → files_before c ≡ 1 → CountsAttach mode tells (Err (attach.Failed f)) old new
  failed-call f c is none opened = with-answer (Err (attach.Failed f)) (ap openings_in is ∙ none) (ap files_before is ∙ opened) (λ same. absurd (cc))

  pub counts_opened : (result : Result ℕ AttachFault) → ClosedCause result unit id mid new → CountsAttach mode tells result old new
  counts_opened (Ok count) cause = with-answer (Ok count) refl refl (λ same. absurd (cc))
  counts_opened (Err attach.TooLong) cause = with-answer (Err attach.TooLong) refl refl (λ same. absurd (cc))
  counts_opened (Err (attach.Failed f)) (inl length, count) = failed-call f call.Length (ap (λ (x : UnitFault). x.call) length) refl refl
  counts_opened (Err (attach.Failed f)) (inr read, count) = failed-call f call.Read (ap (λ (x : UnitFault). x.call) read.0) refl refl
  counts_opened (Err attach.NoFile) cause = absurd cause
  counts_opened (Err attach.AlreadyAttached) cause = absurd cause
  counts_opened (Err attach.ReadOnly) cause = absurd cause
  counts_opened (Err attach.OutOfMemory) cause = absurd cause

-- nothing was tried
abbrev pub IsUntried : Result ℕ AttachFault → Type 0
IsUntried (Err attach.AlreadyAttached) = Unit {0}
IsUntried (Err attach.ReadOnly) = Unit {0}
IsUntried (Err attach.OutOfMemory) = Unit {0}
IsUntried result = ⊥

pub counts_untried : (mode : AttachMode) (tells : Bool) (result : Result ℕ AttachFault) (state : FileState) → IsUntried result → CountsAttach mode tells result state state
counts_untried mode tells (Err attach.AlreadyAttached) state untried =
    record { unnamed = 0; few = omega arith; missing = λ is. absurd (cc); openings = refl; ids = omega arith }
counts_untried mode tells (Err attach.ReadOnly) state untried =
    record { unnamed = 0; few = omega arith; missing = λ is. absurd (cc); openings = refl; ids = omega arith }
counts_untried mode tells (Err attach.OutOfMemory) state untried =
    record { unnamed = 0; few = omega arith; missing = λ is. absurd (cc); openings = refl; ids = omega arith }
counts_untried mode tells (Err attach.NoFile) state untried = absurd untried
counts_untried mode tells (Err attach.TooLong) state untried = absurd untried
counts_untried mode tells (Err (attach.Failed f)) state untried = absurd untried
counts_untried mode tells (Ok count) state untried = absurd untried

-- ---- what is opened at most

one-before : (c : FileCall) → files_before c ≤ 1
one-before call.Opening = omega arith
one-before call.Length = omega arith
one-before call.Read = omega arith
one-before call.Write = omega arith
one-before call.SetLength = omega arith
one-before call.Closing = omega arith

pub one-opened : (r : Result ℕ AttachFault) → files_opened r ≤ 1
one-opened (Ok count) = omega arith
one-opened (Err attach.TooLong) = omega arith
one-opened (Err (attach.Failed f)) = one-before f.call
one-opened (Err attach.NoFile) = omega arith
one-opened (Err attach.AlreadyAttached) = omega arith
one-opened (Err attach.ReadOnly) = omega arith
one-opened (Err attach.OutOfMemory) = omega arith
