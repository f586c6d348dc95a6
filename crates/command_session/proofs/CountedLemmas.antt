-- The note of a call that failed is counted.
use Rattle.std.proofs.Common.{◌≡◌, inl, inr, ℕ, zero, suc, ◌+◌, ◌-◌, ◌^◌, ◌≤◌, ◌==◌, ◌&&◌, not, Bool, true, false, List, [], ◌∷◌, refl, ap, sym, ◌∙◌, subst, Option, arith}
use Rattle.std.proofs.lemmas.Bool.Decides.{nat_tests}
use Rattle.file_traits.specs.declared.files.FileId.{FileId}
use Rattle.file_traits.specs.State.{FileState}
use Rattle.fault_counts.specs.Faults.{raised}
use Rattle.unit_files.specs.declared.faults.UnitFault.{UnitFault}
use Rattle.unit_files.specs.Attachments.{Held}
use Rattle.unit_files.specs.Causes.{IsFaultOf}
use Rattle.file_commands.specs.declared.note.Subject.TheVariants as subject
use Rattle.file_commands.specs.declared.note.FaultNote.{FaultNote}
use Rattle.command_session.specs.Reply.{Answer}
use Rattle.command_session.specs.Doing.{is_missing, OpeningsAre}
use Rattle.file_commands.specs.Possible.{MayHaveWritten}
use Rattle.whole_files.specs.Claims.{raised_by}
use Rattle.file_commands.specs.Counts.{is_of, one_if, openings_noted, RoseBy, AreCounted, AreExact}
use Rattle.file_commands.proofs.Causes.{rose-one, same-rose}
use Rattle.file_commands.proofs.Exact.{exact-when}
use Rattle.file_commands.specs.declared.stamp.Stamp.{Stamp}
use Rattle.file_commands.specs.Kept.{fault_note}

raised-rose : (before now : ℕ) → now ≡ raised before → RoseBy 1 before now
raised-rose before now is = rose-one before now (omega (arith, is))

fault-rose : (b : Bool) (file held before now : ℕ) → (held == file) ≡ b → (file ≡ held → now ≡ raised before) → ((file ≡ held → ⊥) → now ≡ before) → RoseBy (one_if b + 0) before now
fault-rose true file held before now is same other = raised-rose before now (same (grind (arith, nat_tests)))
fault-rose false file held before now is same other = same-rose before now (other (λ e. grind (arith, nat_tests)))

pub counted-fault : (stamp : Stamp) (f : UnitFault) (slots : List (Option Held)) (old new : FileState) → MayHaveWritten f.call (subject.Unit f.unit) f.done → IsFaultOf f f.unit slots old new
    → AreCounted (fault_note stamp f ∷ []) old new
counted-fault stamp f slots old new possible cause = record {
  files = λ file.
      subst (λ (o : Option FileId). RoseBy (one_if (is_of file o) + 0) (old.faults file) (new.faults file)) (sym cause.file_is)
      (fault-rose (cause.id.0 == file) file cause.held.file (old.faults file) (new.faults file) (ap (λ (n : ℕ). n == file) (sym cause.id_is))
      (λ e. subst (λ (n : ℕ). new.faults n ≡ raised (old.faults n)) (sym e) cause.rose) (cause.others file));
  openings =
      subst (λ (o : Option FileId). RoseBy (openings_noted (record (fault_note stamp f) { file = o } ∷ [])) old.open_faults new.open_faults) (sym cause.file_is)
      (same-rose old.open_faults new.open_faults cause.openings);
  possible = (possible, tt);
}

-- ---- and counted exactly

of-file : (b : Bool) (file held before now : ℕ) → (held == file) ≡ b → (file ≡ held → now ≡ raised before) → ((file ≡ held → ⊥) → now ≡ before) → now ≡ raised_by (one_if b + 0) before
of-file true file held before now is same other = same (grind (arith, nat_tests))
of-file false file held before now is same other = other (λ e. grind (arith, nat_tests))

pub exact-fault : (gives : Bool) (stamp : Stamp) (f : UnitFault) (slots : List (Option Held)) (old new : FileState) → IsFaultOf f f.unit slots old new
    → AreExact gives (fault_note stamp f ∷ []) old new
exact-fault gives stamp f slots old new cause =
    exact-when gives (fault_note stamp f ∷ []) old new
    (λ file.
    subst (λ (o : Option FileId). new.faults file ≡ raised_by (one_if (is_of file o) + 0) (old.faults file)) (sym cause.file_is)
    (of-file (cause.id.0 == file) file cause.held.file (old.faults file) (new.faults file) (ap (λ (n : ℕ). n == file) (sym cause.id_is))
    (λ e. subst (λ (n : ℕ). new.faults n ≡ raised (old.faults n)) (sym e) cause.rose) (cause.others file)))
    (let same = cause.ids in omega (arith, same))

-- openings of which none failed, so that none is noted, or their count stands at its end
raised-none : (n count : ℕ) → 2 ^ 64 - 1 ≤ count → raised_by n count ≡ count
raised-none zero count end = refl
raised-none (suc n) count end =
    let less = raised-none n count end in
    let same : raised count ≡ count = omega (arith, end) in
    ap raised less ∙ same

none-raised : (n before now : ℕ) → now ≡ before → RoseBy n before now → now ≡ raised_by (n + 0) before
none-raised n before now same (later, inl more) =
    let none : n + 0 ≡ 0 = omega (arith, same, more) in
    same ∙ ap (λ (m : ℕ). raised_by m before) (sym none)
none-raised n before now same (later, inr end) = same ∙ sym (raised-none (n + 0) before (omega (arith, end, same)))

-- the notes and the answer name all openings that failed
pub all-named : (most : ℕ) (tells : Bool) (answer : Answer) (kept : List FaultNote) (old new : FileState)
    → new.open_faults ≡ raised_by (openings_noted kept + one_if (is_missing answer && not tells)) old.open_faults → OpeningsAre most tells answer kept old new
all-named most tells answer kept old new is =
    let named : ℕ = openings_noted kept + one_if (is_missing answer && not tells) in
    let alone : named ≡ 0 + named = omega arith in
    record { unnoted = 0; few = omega arith; count = is ∙ ap (λ (n : ℕ). raised_by n old.open_faults) alone }

pub openings-none : (tells : Bool) (answer : Answer) (kept : List FaultNote) (old new : FileState) → is_missing answer ≡ false → new.open_faults ≡ old.open_faults → AreCounted kept old new
    → OpeningsAre 0 tells answer kept old new
openings-none tells answer kept old new there same counted =
    all-named 0 tells answer kept old new
    (subst (λ (b : Bool). new.open_faults ≡ raised_by (openings_noted kept + one_if (b && not tells)) old.open_faults) (sym there)
    (none-raised (openings_noted kept) old.open_faults new.open_faults same counted.openings))
