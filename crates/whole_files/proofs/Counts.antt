-- The counts of faults behind calls on one file.
use Rattle.std.proofs.Common.{◌≡◌, ◌≢◌, ℕ, zero, suc, ◌+◌, ◌==◌, Bool, true, false, Option, Some, None, Result, Ok, Err}
use Rattle.std.proofs.Common.{inl, inr, refl, sym, ap, ◌∙◌, arith, if◌then◌else◌}
use Rattle.std.proofs.lemmas.Bool.{eq-eqb, ne_eqb}
use Rattle.std.proofs.lemmas.Bool.Decides.{eqb_tells}
use Rattle.std.specs.Global.{Vec}
use Rattle.fault_counts.specs.Faults.{raised}
use Rattle.file_traits.specs.declared.files.FileId.{FileId}
use Rattle.whole_files.specs.declared.reading.Refusal.{Refusal}
use Rattle.whole_files.specs.declared.reading.Refusal.TheVariants as refusal
use Rattle.whole_files.specs.declared.whole.FailedCall.{FailedCall}
use Rattle.whole_files.specs.Claims.{raised_by, claims_of}
use Rattle.whole_files.specs.Reading.{failures, failure_of, failure_count, IsClosing}

-- a count that is the same at one file and at all others is the same at all
pub all-same : (file : ℕ) (f g : ℕ → ℕ) → f file ≡ g file → ((other : ℕ) → other ≢ file → f other ≡ g other)
    → (other : ℕ) → f other ≡ g other
all-same file f g here others other = elim (eqb_tells other file) [
  | inl same ↦ ap f same.1 ∙ here ∙ sym (ap g same.1)
  | inr not ↦ others other not.1
]

abbrev pub one_if : Bool → ℕ
one_if test = if test then 1 else 0

pub one-here : (id : FileId) → one_if (id.0 == id.0) ≡ one_if true
one-here id = ap one_if (eq-eqb id.0 id.0 refl)

pub none-elsewhere : (id : FileId) (file : ℕ) → file ≢ id.0 → one_if (id.0 == file) ≡ one_if false
none-elsewhere id file not = ap one_if (ne_eqb id.0 file (λ (same : id.0 ≡ file). not (sym same)))

-- what is claimed of the file that was opened is what has failed on it
read-here : (id : FileId) (read : Result (Vec ℕ) Refusal) → claims_of (failure_of id read) id.0 ≡ failures read
read-here id (Ok v) = refl
read-here id (Err refusal.TooLong) = refl
read-here id (Err refusal.OutOfMemory) = refl
read-here id (Err refusal.LengthFailed) = one-here id
read-here id (Err refusal.ReadFailed) = one-here id

closing-here : (id : FileId) (closing : Option FailedCall) → IsClosing id closing
    → claims_of closing id.0 ≡ failure_count closing
closing-here id None is = refl
closing-here id (Some c) is = ap (λ (x : FailedCall). claims_of (Some x) id.0) is ∙ one-here id

-- nothing is claimed of any other
read-elsewhere : (id : FileId) (read : Result (Vec ℕ) Refusal) (file : ℕ) → file ≢ id.0
    → claims_of (failure_of id read) file ≡ 0
read-elsewhere id (Ok v) file not = refl
read-elsewhere id (Err refusal.TooLong) file not = refl
read-elsewhere id (Err refusal.OutOfMemory) file not = refl
read-elsewhere id (Err refusal.LengthFailed) file not = none-elsewhere id file not
read-elsewhere id (Err refusal.ReadFailed) file not = none-elsewhere id file not

closing-elsewhere : (id : FileId) (closing : Option FailedCall) (file : ℕ) → IsClosing id closing → file ≢ id.0
    → claims_of closing file ≡ 0
closing-elsewhere id None file is not = refl
closing-elsewhere id (Some c) file is not =
    ap (λ (x : FailedCall). claims_of (Some x) file) is ∙ none-elsewhere id file not

raised-behind : (more faults count : ℕ) → raised_by (more + faults) count ≡ raised_by more (raised_by faults count)
raised-behind zero faults count =
    let none : zero + faults ≡ faults = omega arith in
    ap (λ (n : ℕ). raised_by n count) none
raised-behind (suc more) faults count =
    let next : suc more + faults ≡ suc (more + faults) = omega arith in
    ap (λ (n : ℕ). raised_by n count) next ∙ ap raised (raised-behind more faults count)

raised-both : (faults more count : ℕ) → raised_by (faults + more) count ≡ raised_by more (raised_by faults count)
raised-both faults more count =
    let turned : faults + more ≡ more + faults = omega arith in
    ap (λ (n : ℕ). raised_by n count) turned ∙ raised-behind more faults count

-- Behind calls on one file, of which so many failed, and a closing, each count has risen by what is claimed of its file.
pub calls-counted : (id : FileId) (failed closing : Option FailedCall) (times : ℕ) (f g h : ℕ → ℕ)
    → claims_of failed id.0 ≡ times → ((file : ℕ) → file ≢ id.0 → claims_of failed file ≡ 0) → IsClosing id closing
    → g id.0 ≡ raised_by times (f id.0) → ((other : ℕ) → other ≢ id.0 → g other ≡ f other)
    → h id.0 ≡ raised_by (failure_count closing) (g id.0) → ((other : ℕ) → other ≢ id.0 → h other ≡ g other)
    → (file : ℕ) → h file ≡ raised_by (claims_of failed file + claims_of closing file) (f file)
calls-counted id failed closing times f g h same none is here others closed behind file =
    let counts : ℕ → ℕ = λ n. raised_by (claims_of failed n + claims_of closing n) (f n) in
    all-same id.0 h counts (
    closed
    ∙ ap (raised_by (failure_count closing)) here
    ∙ sym (raised-both times (failure_count closing) (f id.0))
    ∙ ap (λ (n : ℕ). raised_by (n + failure_count closing) (f id.0)) (sym same)
    ∙ ap (λ (n : ℕ). raised_by (claims_of failed id.0 + n) (f id.0)) (sym (closing-here id closing is))
    ) (λ other not. behind other not
    ∙ others other not
    ∙ ap (λ (n : ℕ). raised_by n (f other)) (sym (λ i. none other not i + closing-elsewhere id closing other is not i))) file

-- the same of a reading
pub claims-counted : (id : FileId) (read : Result (Vec ℕ) Refusal) (closing : Option FailedCall) (f g h : ℕ → ℕ)
    → IsClosing id closing
    → g id.0 ≡ raised_by (failures read) (f id.0) → ((other : ℕ) → other ≢ id.0 → g other ≡ f other)
    → h id.0 ≡ raised_by (failure_count closing) (g id.0) → ((other : ℕ) → other ≢ id.0 → h other ≡ g other)
    → (file : ℕ) → h file ≡ raised_by (claims_of (failure_of id read) file + claims_of closing file) (f file)
claims-counted id read closing f g h =
    calls-counted id (failure_of id read) closing (failures read) f g h (read-here id read) (read-elsewhere id read)
