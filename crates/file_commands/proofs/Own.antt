-- A command that keeps a note is handed it.
use Rattle.std.proofs.Common.{◌≡◌, ◌==◌, ◌&&◌, ℕ, Bool, true, false, Some, None, refl, ap, ◌∙◌, arith, if◌then◌else◌}
use Rattle.std.proofs.lemmas.Bool.Decides.{nat_tests}
use Rattle.unit_trait.specs.declared.kind.UnitName.{UnitName}
use Rattle.unit_trait.specs.Kinds.{same_unit}
use Rattle.unit_files.specs.declared.faults.UnitFault.{UnitFault}
use Rattle.unit_files.specs.Acts.{Failure}
use Rattle.unit_files.specs.Answers.{failure_in}
use Rattle.file_commands.specs.declared.note.Subject.TheVariants as subject
use Rattle.file_commands.specs.Notes.{failure_now}
use Rattle.file_commands.specs.Kept.{own_of}
use Rattle.unit_trait.proofs.Codes.{same-self}

here : (b : Bool) (f : Failure) → b ≡ true → (if b then Some f else None) ≡ Some f
here true f is = refl
here false f is = absurd (cc)

both : (b c : Bool) → b ≡ true → c ≡ true → (b && c) ≡ true
both true true x y = refl
both true false x y = absurd (cc)
both false c x y = absurd (cc)

-- the failure of an own note is that which is handed
pub handed-own : (time : ℕ) (u : UnitName) (f : UnitFault) → f.unit ≡ u → failure_now time (subject.Unit u) (own_of time (Some f)) ≡ Some (failure_in f)
handed-own time u f own =
    let same : same_unit f.unit u ≡ true = ap (λ (x : UnitName). same_unit x u) own ∙ same-self u in
    here ((time == time) && same_unit f.unit u) (failure_in f) (both (time == time) (same_unit f.unit u) (grind (arith, nat_tests)) same)
