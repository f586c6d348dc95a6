-- The files that the notes of a command name.
use Rattle.std.proofs.Common.{◌≡◌, inl, inr, ℕ, ◌<◌, ◌≤◌, List, [], ◌++◌, Option, Some, None, IfSome, IsSome, refl, ap, sym, ◌∙◌, subst, arith, append-nil}
use Rattle.std.specs.List.{AllByRecursion}
use Rattle.file_traits.specs.declared.files.FileCall.{FileCall}
use Rattle.file_traits.specs.declared.files.FileCall.TheVariants as call
use Rattle.file_traits.specs.declared.files.FileId.{FileId}
use Rattle.file_traits.specs.State.{FileState}
use Rattle.unit_trait.specs.declared.kind.Kind.{Kind}
use Rattle.unit_files.specs.Attachments.{Held, held_at}
use Rattle.unit_files.specs.Causes.{AreFrom, IsQuiet}
use Rattle.file_commands.specs.declared.note.Subject.{Subject}
use Rattle.file_commands.specs.declared.note.FaultNote.{FaultNote}
use Rattle.file_commands.specs.declared.stamp.Stamp.{Stamp}
use Rattle.file_commands.specs.OwnFiles.{OwnFile, IsOwnNote, AreOwn}
use Rattle.file_commands.proofs.OwnFiles.{fault-own}
use Rattle.whole_files.specs.declared.whole.FailedCall.{FailedCall}
use Rattle.whole_files.specs.Claims as claims
use Rattle.nova_machine.specs.declared.machine.Stop.{Stop}
use Rattle.nova_machine.specs.declared.machine.Stop.TheVariants.{FileFault}
use Rattle.nova_machine.specs.Comes as coming
use Rattle.nova_machine.specs.Wants.{HasUnit, IsRunCall}
use Rattle.command_session.specs.Doing.{stop_notes}
use Rattle.command_session.specs.WholeCalls.{call_notes, both_notes}
use Rattle.command_session.proofs.WholeLemmas.{IsEarly, IsShut, IsClaimed}

same-from : (slots slots' : List (Option Held)) (old new : FileState) → slots' ≡ slots → AreFrom slots slots' old new
same-from slots slots' old new same = λ unit h is. inl (ap (λ (l : List (Option Held)). held_at l unit) (sym same) ∙ is)

-- ---- runs

run-opening : (kind : Kind) (c : FileCall) → IsRunCall kind c → c ≡ call.Opening → ⊥
run-opening kind c made is = subst (λ (x : FileCall). IsRunCall kind x) is made

pub quiet-own : (slots slots' : List (Option Held)) (notes notes' : List FaultNote) (old new : FileState) → slots' ≡ slots → notes' ≡ notes → IsQuiet old new
    → AreOwn slots slots' notes notes' old new
quiet-own slots slots' notes notes' old new held same quiet = record {
  kept = [];
  added = same ∙ sym (append-nil notes);
  own = tt;
  from = same-from slots slots' old new held;
  ids = let ids = quiet.ids in omega (arith, ids);
}

pub stop-own : (stamp : Stamp) (stop : Stop) (slots slots' : List (Option Held)) (notes notes' : List FaultNote) (old new : FileState) → slots' ≡ slots → HasUnit stop
    → coming.FileCause (Some stop) slots old new → notes' ≡ notes ++ stop_notes stamp stop → AreOwn slots slots' notes notes' old new
stop-own stamp (FileFault f) slots slots' notes notes' old new held unit cause noted = record {
  kept = stop_notes stamp (FileFault f);
  added = noted;
  own = (fault-own stamp f f.unit slots old new cause (run-opening f.unit.kind f.call unit.1), tt);
  from = same-from slots slots' old new held;
  ids = let ids = cause.ids in omega (arith, ids);
}
stop-own stamp stop slots slots' notes notes' old new held unit cause noted =
    quiet-own slots slots' notes notes' old new held (noted ∙ append-nil notes) cause

-- ---- a file that is read or written whole

abbrev IsNewFile : Option FileId → FileState → FileState → Type 0
IsNewFile file old new = IfSome file (λ (id : FileId). (old.given ≤ id.0) × (id.0 < new.given))

early-own : (whose : Subject) (slots : List (Option Held)) (old new : FileState) (c : FileCall) (file : Option FileId) → IsEarly c file → IsNewFile file old new
    → OwnFile file c whose slots old new
early-own whose slots old new call.Opening None early fresh = refl
early-own whose slots old new call.Opening (Some id) early fresh = absurd early
early-own whose slots old new call.Closing file early fresh = absurd early
early-own whose slots old new call.Length (Some id) early fresh = (λ is. absurd (cc), inr fresh)
early-own whose slots old new call.Read (Some id) early fresh = (λ is. absurd (cc), inr fresh)
early-own whose slots old new call.Write (Some id) early fresh = (λ is. absurd (cc), inr fresh)
early-own whose slots old new call.SetLength (Some id) early fresh = (λ is. absurd (cc), inr fresh)
early-own whose slots old new c None early fresh = absurd early

shut-own : (whose : Subject) (slots : List (Option Held)) (old new : FileState) (c : FileCall) (file : Option FileId) → c ≡ call.Closing → IsSome file → IsNewFile file old new
    → OwnFile file c whose slots old new
shut-own whose slots old new c None is there fresh = absurd (cc)
shut-own whose slots old new c (Some id) is there fresh = (λ opening. absurd (let both : call.Closing ≡ call.Opening = sym is ∙ opening in cc), inr fresh)

pub whole-own : (whose : Subject) (stamp : Stamp) (done : ℕ) (failed closing : Option FailedCall) (slots slots' : List (Option Held)) (notes notes' : List FaultNote) (old new : FileState)
    → slots' ≡ slots → IsClaimed failed closing → claims.IsNew failed old new → claims.IsNew closing old new → old.given ≤ new.given
    → notes' ≡ notes ++ both_notes whose stamp done failed closing → AreOwn slots slots' notes notes' old new
whole-own whose stamp done failed closing slots slots' notes notes' old new held claimed first last ids noted = record {
  kept = both_notes whose stamp done failed closing;
  added = noted;
  own = own-of failed closing claimed.early claimed.shut first last;
  from = same-from slots slots' old new held;
  ids = ids;
}
  where
    shut-of : (closing : Option FailedCall) → IsShut closing → claims.IsNew closing old new → AllByRecursion (IsOwnNote slots old new) (call_notes whose stamp 0 closing)
    shut-of None shut fresh = tt
    shut-of (Some c) shut fresh = (shut-own whose slots old new c.call c.file shut.0 shut.1 fresh, tt)

    own-of : (failed closing : Option FailedCall) → IfSome failed (λ (f : FailedCall). IsEarly f.call f.file) → IsShut closing → claims.IsNew failed old new
        → claims.IsNew closing old new → AllByRecursion (IsOwnNote slots old new) (both_notes whose stamp done failed closing)
    own-of None closing early shut first last = shut-of closing shut last
    own-of (Some f) closing early shut first last = (early-own whose slots old new f.call f.file early first, shut-of closing shut last)
