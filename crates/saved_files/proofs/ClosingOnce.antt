-- What was opened and is refused is closed once, and what is still attached is not.
use Rattle.std.proofs.Common.{◌≡◌, ◌⊎◌, inl, inr, ℕ, zero, suc, ◌==◌, ◌<◌, ◌≤◌, Bool, true, false, List, [], ◌∷◌, set, get_or, Option, Some, None, Result, Ok, Err}
use Rattle.std.proofs.Common.{refl, sym, ap, subst, ◌∙◌, arith}
use Rattle.std.specs.Prelude.{if◌then◌else◌}
use Rattle.std.proofs.lemmas.Bool.{eqb-true}
use Rattle.std.proofs.lemmas.Bool.Decides.{nat_tests}
use Rattle.fault_counts.specs.Faults.{raised}
use Rattle.file_traits.specs.declared.files.FileCall.{FileCall}
use Rattle.file_traits.specs.declared.files.FileCall.TheVariants.{Opening, Length, Read, Write, SetLength, Closing}
use Rattle.file_traits.specs.declared.files.FileId.{FileId}
use Rattle.file_traits.specs.State.{FileState}
use Rattle.unit_trait.specs.declared.kind.UnitName.{UnitName}
use Rattle.unit_files.specs.declared.faults.UnitFault.{UnitFault}
use Rattle.unit_files.specs.declared.faults.DetachFault.{DetachFault}
use Rattle.unit_files.specs.declared.faults.DetachFault.TheVariants as detach
use Rattle.unit_files.specs.Attachments.{Attachment, Held, held_at, attachments_of, attachment_at, file_place, file_units, no_files}
use Rattle.unit_files.specs.Acts.{detached}
use Rattle.unit_files.specs.Causes.{AreFrom, AtMostOnceMore, DetachCause, IsFaultOf, IsNewFault, IsNewId, IsRefusedFile, OnlyKept}
use Rattle.unit_files.specs.Open.{HaveOwnNumbers}
use Rattle.saved_files.specs.declared.file_faults.RestoreFault.{RestoreFault}
use Rattle.saved_files.specs.declared.file_faults.RestoreFault.TheVariants as fault
use Rattle.saved_files.specs.PuttingOne.{CompareCalls, CompareCause, OnlyItsCount}
use Rattle.saved_files.specs.PuttingCauses.{is_on, count_behind, ClosesOnce, ClosesOthers, HaveGivenNumbers}
use Rattle.saved_files.proofs.PuttingCounts.{none-held}
use Rattle.saved_files.proofs.Together.{none-at}

-- ---- counts that have risen by what is answered

pub exact-closed : (answer : Result (Unit {0}) RestoreFault) (slots : List (Option Held)) (old new : FileState)
    → ((file : ℕ) → new.faults file ≡ count_behind answer file (old.faults file)) → ClosesOthers answer slots old new
exact-closed answer slots old new exact = record { files = λ file. inl (exact file); held = λ unit h there. exact h.file }

pub same-closed : (slots : List (Option Held)) (old new : FileState) → new.faults ≡ old.faults
    → ClosesOthers (Ok tt) slots old new
same-closed slots old new same = exact-closed (Ok tt) slots old new (λ file. ap (λ (f : ℕ → ℕ). f file) same)

-- behind a call that left the counts as they were
pub closed-since : (answer : Result (Unit {0}) RestoreFault) (slots : List (Option Held)) (old mid new : FileState)
    → mid.faults ≡ old.faults → ClosesOthers answer slots mid new → ClosesOthers answer slots old new
closed-since answer slots old mid new same closes = record {
  files = λ file.
      subst (λ (n : ℕ). AtMostOnceMore (count_behind answer file n) (new.faults file))
      (ap (λ (f : ℕ → ℕ). f file) same) (closes.files file);
  held = λ unit h there.
      closes.held unit h there ∙ ap (λ (f : ℕ → ℕ). count_behind answer h.file (f h.file)) same;
}

-- ---- a file is given back

set-none : (attached : List (Option Attachment)) (place : ℕ) → get_or (set attached place None) place None ≡ None
set-none [] place = refl
set-none (a ∷ attached) zero = refl
set-none (a ∷ attached) (suc place) = set-none attached place

-- nothing is attached to its unit then
pub none-there : (slots : List (Option Held)) (attached : List (Option Attachment)) (unit : UnitName)
    → attachments_of slots ≡ detached unit attached → attachment_at (attachments_of slots) unit ≡ None
none-there slots attached unit is =
    ap (λ (l : List (Option Attachment)). attachment_at l unit) is ∙ set-none attached (file_place unit)

fault-once : (f : UnitFault) (unit : UnitName) (slots : List (Option Held)) (old new : FileState)
    → IsFaultOf f unit slots old new → (file : ℕ) → AtMostOnceMore (old.faults file) (new.faults file)
fault-once f unit slots old new is file = by (is.held.file == file) refl
  where
    by : (b : Bool) → (is.held.file == file) ≡ b → AtMostOnceMore (old.faults file) (new.faults file)
    by true same =
        inr (subst (λ (n : ℕ). new.faults n ≡ raised (old.faults n)) (eqb-true is.held.file file same) is.rose)
    by false other = inl (is.others file (λ same. grind (arith, nat_tests)))

fault-closed : (f : UnitFault) (unit : UnitName) (slots slots' : List (Option Held)) (old new : FileState)
    → IsFaultOf f unit slots old new → HaveOwnNumbers slots → OnlyKept slots slots'
    → attachment_at (attachments_of slots') unit ≡ None → ClosesOthers (Ok tt) slots' old new
fault-closed f unit slots slots' old new is own kept none = record {
  files = fault-once f unit slots old new is;
  held = λ other h there. is.others h.file (λ same. apart other h there same);
}
  where
    apart : (other : UnitName) (h : Held) → held_at slots' other ≡ Some h → h.file ≡ is.held.file → ⊥
    apart other h there same =
        let one = own.apart (file_place other) (file_place unit) h is.held (kept other h there) is.there same in
        none-held slots' unit h none (subst (λ (place : ℕ). get_or slots' place None ≡ Some h) one there)

pub detach-closed : (r : Result (Option UnitFault) DetachFault) (unit : UnitName) (slots slots' : List (Option Held))
    (old new : FileState) → DetachCause r unit slots old new → HaveOwnNumbers slots → OnlyKept slots slots'
    → attachment_at (attachments_of slots') unit ≡ None → ClosesOthers (Ok tt) slots' old new
detach-closed (Ok (Some f)) unit slots slots' old new cause own kept none =
    fault-closed f unit slots slots' old new cause.2 own kept none
detach-closed (Ok None) unit slots slots' old new cause own kept none = same-closed slots' old new cause.counts
detach-closed (Err detach.NotAttached) unit slots slots' old new cause own kept none =
    same-closed slots' old new cause.counts
detach-closed (Err (detach.Failed f)) unit slots slots' old new cause own kept none =
    fault-closed f unit slots slots' old new cause.fault own kept none

-- and so behind an answer
pub closed-behind : (answer : Result (Unit {0}) RestoreFault) (slots slots' : List (Option Held)) (unit : UnitName)
    (old mid new : FileState) → ClosesOthers answer slots old mid → OnlyItsCount slots unit mid new → OnlyKept slots slots'
    → ClosesOthers (Ok tt) slots' mid new → ClosesOthers answer slots' old new
closed-behind answer slots slots' unit old mid new first its kept last = record {
  files = λ file. by file (held_at slots unit) refl;
  held = λ other h there. last.held other h there ∙ first.held other h (kept other h there);
}
  where
    rest : (file : ℕ) → ((h : Held) → held_at slots unit ≡ Some h → file ≡ h.file → ⊥)
        → AtMostOnceMore (count_behind answer file (old.faults file)) (new.faults file)
    rest file apart =
        subst (λ (n : ℕ). AtMostOnceMore (count_behind answer file (old.faults file)) n) (sym (its.others file apart))
        (first.files file)

    by : (file : ℕ) (o : Option Held) → held_at slots unit ≡ o
        → AtMostOnceMore (count_behind answer file (old.faults file)) (new.faults file)
    by file None is = rest file (λ h there same. let both : None ≡ Some h = sym is ∙ there in absurd cc)
    by file (Some g) is = at (g.file == file) refl
      where
        at : (b : Bool) → (g.file == file) ≡ b
            → AtMostOnceMore (count_behind answer file (old.faults file)) (new.faults file)
        at true same =
            let exact : mid.faults file ≡ count_behind answer file (old.faults file) =
            subst (λ (n : ℕ). mid.faults n ≡ count_behind answer n (old.faults n)) (eqb-true g.file file same)
            (first.held unit g is) in
            subst (λ (n : ℕ). AtMostOnceMore n (new.faults file)) exact (last.files file)
        at false other = rest file (λ h there same.
            let both : Some g ≡ Some h = sym is ∙ there in
            let one : g ≡ h = cc in
            let number : g.file ≡ file = ap (λ (x : Held). x.file) one ∙ sym same in
            grind (arith, nat_tests))

-- ---- a file is attached

pub none-closed : (answer : Result (Unit {0}) RestoreFault) (slots : List (Option Held)) (old new : FileState)
    → ((file count : ℕ) → count_behind answer file count ≡ count) → new.faults ≡ old.faults
    → ClosesOthers answer slots old new
none-closed answer slots old new unanswered same =
    exact-closed answer slots old new
    (λ file. ap (λ (f : ℕ → ℕ). f file) same ∙ sym (unanswered file (old.faults file)))

-- a file that was opened is no attached one
not-new : (slots : List (Option Held)) (s : FileState) (unit : UnitName) (h : Held) (id : ℕ) → HaveGivenNumbers slots s
    → held_at slots unit ≡ Some h → s.given ≤ id → h.file ≡ id → ⊥
not-new slots s unit h id given there from same = let low = given unit h there in omega (arith, low, from, same)

other-than : (file id : ℕ) → (id == file) ≡ false → file ≡ id → ⊥
other-than file id other same = grind (arith, nat_tests)

pub long-closed : (unit : UnitName) (slots : List (Option Held)) (id : FileId) (old new : FileState)
    → IsRefusedFile id 0 old new → HaveGivenNumbers slots old → ClosesOthers (Err (fault.TooLong unit)) slots old new
long-closed unit slots id old new is given = record {
  files = λ file. by file (id.0 == file) refl;
  held = λ other h there. is.others h.file (λ same. not-new slots old other h id.0 given there is.rising same);
}
  where
    by : (file : ℕ) (b : Bool) → (id.0 == file) ≡ b → AtMostOnceMore (old.faults file) (new.faults file)
    by file true same =
        subst (λ (n : ℕ). AtMostOnceMore (old.faults n) (new.faults n)) (eqb-true id.0 file same) is.count
    by file false other = inl (is.others file (other-than file id.0 other))

pub failed-closed : (f : UnitFault) (unit : UnitName) (slots : List (Option Held)) (old new : FileState)
    → IsNewFault f unit old new → HaveGivenNumbers slots old → ClosesOthers (Err (fault.Failed f)) slots old new
failed-closed f unit slots old new is given = by f.call refl
  where
    opening : f.call ≡ Opening → ClosesOthers (Err (fault.Failed f)) slots old new
    opening call =
        let o = is.opening call in
        exact-closed (Err (fault.Failed f)) slots old new (λ file.
        subst (λ (x : Option FileId). new.faults file ≡ (if is_on file x then raised (old.faults file) else old.faults file))
        (sym o.0) (ap (λ (g : ℕ → ℕ). g file) o.2))

    of-file : (f.call ≡ Opening → ⊥) → ClosesOthers (Err (fault.Failed f)) slots old new
    of-file other =
        let o = is.other other in
        record {
          files = λ file.
              subst (λ (x : Option FileId).
              AtMostOnceMore (if is_on file x then raised (old.faults file) else old.faults file) (new.faults file))
              (sym o.1) (at file o.0 o.2 (o.0.0 == file) refl);
          held = λ unit' h there.
              subst (λ (x : Option FileId).
              new.faults h.file ≡ (if is_on h.file x then raised (old.faults h.file) else old.faults h.file))
              (sym o.1) (beside unit' h there o.0 o.2 (o.0.0 == h.file) refl);
        }
      where
        at : (file : ℕ) (id : FileId) → IsRefusedFile id 1 old new → (b : Bool) → (id.0 == file) ≡ b
            → AtMostOnceMore (if b then raised (old.faults file) else old.faults file) (new.faults file)
        at file id its true same =
            subst (λ (n : ℕ). AtMostOnceMore (raised (old.faults n)) (new.faults n)) (eqb-true id.0 file same) its.count
        at file id its false apart = inl (its.others file (other-than file id.0 apart))

        beside : (unit' : UnitName) (h : Held) → held_at slots unit' ≡ Some h → (id : FileId) → IsRefusedFile id 1 old new
            → (b : Bool) → (id.0 == h.file) ≡ b
            → new.faults h.file ≡ (if b then raised (old.faults h.file) else old.faults h.file)
        beside unit' h there id its true same =
            absurd (not-new slots old unit' h id.0 given there its.rising (sym (eqb-true id.0 h.file same)))
        beside unit' h there id its false apart = its.others h.file (other-than h.file id.0 apart)

    by : (c : FileCall) → f.call ≡ c → ClosesOthers (Err (fault.Failed f)) slots old new
    by Opening call = opening call
    by Length call = of-file (λ first. absurd (let both : Length ≡ Opening = sym call ∙ first in cc))
    by Read call = of-file (λ first. absurd (let both : Read ≡ Opening = sym call ∙ first in cc))
    by Write call = of-file (λ first. absurd (let both : Write ≡ Opening = sym call ∙ first in cc))
    by SetLength call = of-file (λ first. absurd (let both : SetLength ≡ Opening = sym call ∙ first in cc))
    by Closing call = of-file (λ first. absurd (let both : Closing ≡ Opening = sym call ∙ first in cc))

-- where nothing is attached there are none
pub nothing-given : (slots : List (Option Held)) (s : FileState) → slots ≡ no_files → HaveGivenNumbers slots s
nothing-given slots s is unit h there =
    absurd (none-held slots unit h (ap (λ (l : List (Option Held)). attachment_at (attachments_of l) unit) is
    ∙ none-at file_units (file_place unit)) there)

-- the numbers of attached files are given behind an attaching
pub given-then : (slots slots' : List (Option Held)) (old new : FileState) → HaveGivenNumbers slots old
    → AreFrom slots slots' old new → old.given ≤ new.given → HaveGivenNumbers slots' new
given-then slots slots' old new given from later unit h there = by (from unit h there)
  where
    by : (held_at slots unit ≡ Some h) ⊎ IsNewId old new h.file → h.file < new.given
    by (inl before) = let low = given unit h before in omega (arith, low, later)
    by (inr fresh) = fresh.1

-- ---- a file is compared

compared-counts : (e : RestoreFault) (unit : UnitName) (slots : List (Option Held)) (old new : FileState)
    → CompareCalls (Err e) → CompareCause (Err e) unit slots old new → (file : ℕ)
    → new.faults file ≡ count_behind (Err e) file (old.faults file)
compared-counts (fault.Failed f) unit slots old new calls cause file =
    let is = cause.fault in
    subst (λ (x : Option FileId). new.faults file ≡ (if is_on file x then raised (old.faults file) else old.faults file))
    (sym is.file_is) (at is (is.id.0 == file) refl)
  where
    at : (is : IsFaultOf f unit slots old new) (b : Bool) → (is.id.0 == file) ≡ b
        → new.faults file ≡ (if b then raised (old.faults file) else old.faults file)
    at is true same =
        subst (λ (n : ℕ). new.faults n ≡ raised (old.faults n)) (sym is.id_is ∙ eqb-true is.id.0 file same) is.rose
    at is false apart = is.others file (λ same. other-than file is.id.0 apart (same ∙ sym is.id_is))
compared-counts (fault.NoFile u) unit slots old new calls cause file = absurd calls
compared-counts (fault.TooLong u) unit slots old new calls cause file = absurd calls
compared-counts (fault.Changed u) unit slots old new calls cause file = ap (λ (f : ℕ → ℕ). f file) cause.counts
compared-counts fault.MissingUnit unit slots old new calls cause file = absurd calls
compared-counts fault.Port unit slots old new calls cause file = absurd calls
compared-counts fault.OutOfMemory unit slots old new calls cause file = absurd calls

pub compared-closed : (e : RestoreFault) (unit : UnitName) (slots : List (Option Held)) (old new : FileState)
    → CompareCalls (Err e) → CompareCause (Err e) unit slots old new → ClosesOthers (Err e) slots old new
compared-closed e unit slots old new calls cause =
    exact-closed (Err e) slots old new (compared-counts e unit slots old new calls cause)

-- ---- all of a session

-- its port is no file
pub port-closed : (e : RestoreFault) (old mid new : FileState) → ((file count : ℕ) → count_behind (Err e) file count ≡ count)
    → mid.faults ≡ old.faults → ClosesOnce (Ok tt) mid new → ClosesOnce (Err e) old new
port-closed e old mid new unanswered same closes file =
    subst (λ (n : ℕ). AtMostOnceMore n (new.faults file))
    (ap (λ (f : ℕ → ℕ). f file) same ∙ sym (unanswered file (old.faults file))) (closes file)
