-- A loop that reads so many elements, one behind the other.
use Rattle.std.proofs.Common.{◌≡◌, ℕ, suc, ◌-◌, ◌+◌, ◌<◌, List, [], ◌∷◌, ◌++◌, Result, Ok, Err, refl, sym, ap, ◌∙◌, append_assoc, arith}
use Rattle.byte_layouts.specs.declared.fault.FieldFault.{FieldFault}
use Rattle.byte_layouts.specs.declared.fault.FieldFault.TheVariants.{NotHead, Version, BadField, Truncated, OutOfMemory}
use Rattle.byte_layouts.specs.Readers.{At, Reader, followed, Fails, chain}

-- what was read before, with what is still read
abbrev pub with_front : {A : Type 0} → List A → Result (List A × At) FieldFault → Result (List A × At) FieldFault
with_front front read = followed read (λ xs at. Ok (front ++ xs, at))

one_further : {A : Type 0} (front : List A) (x : A) (read : Result (List A × At) FieldFault) → with_front front (followed read (λ xs at. Ok (x ∷ xs, at))) ≡ with_front (front ++ x ∷ []) read
one_further {A} front x (Ok y) = ap (λ (xs : List A). Ok (xs, y.1)) (simp append_assoc)
one_further front x (Err fault) = refl

-- a step that read one
pub goes_on : {A S : Type 0} (each : S → Reader A) (next : S → A → S) (front : List A) (count i : ℕ) (s : S) (at : At) (x : A) (after : At) (total : Result (List A × At) FieldFault)
    → i < count → each s at ≡ Ok (x, after) → with_front front (chain each next (count - i) s at) ≡ total
    → with_front (front ++ x ∷ []) (chain each next (count - (i + 1)) (next s x) after) ≡ total
goes_on each next front count i s at x after total within read so_far =
    let left : count - i ≡ suc (count - (i + 1)) = omega arith in
    let one : with_front front (chain each next (count - i) s at) ≡ with_front (front ++ x ∷ []) (chain each next (count - (i + 1)) (next s x) after) = rw (left, read) (one_further front x (chain each next (count - (i + 1)) (next s x) after)) in
    sym one ∙ so_far

-- a step with a fault
refused : {A S : Type 0} (each : S → Reader A) (next : S → A → S) (fault : FieldFault) (front : List A) (count i : ℕ) (s : S) (at : At) (total : Result (List A × At) FieldFault)
    → i < count → each s at ≡ Err fault → with_front front (chain each next (count - i) s at) ≡ total → total ≡ Err fault
refused each next fault front count i s at total within read so_far =
    let left : count - i ≡ suc (count - (i + 1)) = omega arith in
    let one : with_front front (chain each next (count - i) s at) ≡ Err fault = rw (left, read) refl in
    sym so_far ∙ one

pub fails : {A S : Type 0} (each : S → Reader A) (next : S → A → S) (fault : FieldFault) (front : List A) (count i : ℕ) (s : S) (at : At) (total : Result (List A × At) FieldFault)
    → i < count → Fails fault (each s at) → with_front front (chain each next (count - i) s at) ≡ total → Fails fault total
fails each next OutOfMemory front count i s at total within read so_far = tt
fails each next NotHead front count i s at total within read so_far = refused each next NotHead front count i s at total within read so_far
fails each next (Version n) front count i s at total within read so_far = refused each next (Version n) front count i s at total within read so_far
fails each next (BadField place) front count i s at total within read so_far = refused each next (BadField place) front count i s at total within read so_far
fails each next Truncated front count i s at total within read so_far = refused each next Truncated front count i s at total within read so_far
