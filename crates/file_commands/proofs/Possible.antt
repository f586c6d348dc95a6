-- How much the calls of notes can have written.
use Rattle.std.proofs.Common.{◌≡◌, ◌≤◌, ℕ, Bool, false, List, [], ◌∷◌, ◌++◌, ap, arith, if◌then◌else◌}
use Rattle.std.specs.List.{AllByRecursion}
use Rattle.file_traits.specs.declared.files.FileCall.{FileCall}
use Rattle.file_traits.specs.declared.files.FileCall.TheVariants.{Opening, Length, Read, Write, SetLength, Closing}
use Rattle.unit_trait.specs.declared.kind.UnitName.{UnitName}
use Rattle.unit_files.specs.Attachments.{is_disk}
use Rattle.unit_files.specs.Buffer.{disk_bytes}
use Rattle.file_commands.specs.declared.note.Subject.{Subject}
use Rattle.file_commands.specs.declared.note.Subject.TheVariants as subject
use Rattle.file_commands.specs.declared.note.FaultNote.{FaultNote}
use Rattle.file_commands.specs.Possible.{most_written, IsWritten, MayHaveWritten, IsPossible}

pub possible-both : (first second : List FaultNote) → AllByRecursion IsPossible first → AllByRecursion IsPossible second → AllByRecursion IsPossible (first ++ second)
possible-both [] second a b = b
possible-both (n ∷ first) second (here, rest) b = (here, possible-both first second rest b)

nothing-written : (who : Subject) (done : ℕ) → done ≡ 0 → IsWritten who done
nothing-written (subject.Unit unit) done none = omega (arith, none)
nothing-written subject.Dump done none = omega (arith, none)
nothing-written who done none = tt

-- a call that has written nothing
pub none-done : (call : FileCall) (who : Subject) (done : ℕ) → done ≡ 0 → MayHaveWritten call who done
none-done Write who done none = nothing-written who done none
none-done Opening who done none = none
none-done Length who done none = none
none-done Read who done none = none
none-done SetLength who done none = none
none-done Closing who done none = none

-- a write of a run's
pub run-done : (unit : UnitName) (done : ℕ) → is_disk unit.kind ≡ false → done ≤ 8200 → IsWritten (subject.Unit unit) done
run-done unit done other few =
    let most : most_written unit.kind ≡ 8200 = ap (λ (b : Bool). if b then disk_bytes else 8200) other in
    omega (arith, most, few)
