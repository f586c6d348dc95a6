-- The parts of a text that comes in pieces: each reads on in what has come.
use Rattle.std.specs.Prelude.{◌≡◌, ℕ, Bool, true, false, ◌-◌, List, drop, ◌++◌, Result, Ok, Err, Option, Some, None}
use Rattle.byte_layouts.specs.declared.fault.FieldFault.{FieldFault}
use Rattle.byte_layouts.specs.declared.fault.FieldFault.TheVariants.{Truncated, OutOfMemory}
use Rattle.byte_layouts.specs.Readers.{At, at_of, Reader, longer, followed, chain, Fails, ◌>>=◌, gives, with_last}
use Rattle.byte_layouts.specs.Held.{Held, at_in, Passed, IsThere, IsBytes}

-- ---- one value

-- a reading of what is there: the value, and the place behind it
pub record Found {Y : Type 0} (h : Held) (y : Y) (place : ℕ) (read : Result (Y × At) FieldFault) : Type 0 where
  pub is : read ≡ Ok (y, at_of place (drop (place - h.place) h.rest))
  pub there : IsThere h place

abbrev pub FindsIn : {X Y : Type 0} → (X → Y) → Result (X × ℕ) FieldFault → Held → Result (Y × At) FieldFault → Type 0
FindsIn view (Ok x) h read = Found h (view x.0) x.1 read
FindsIn view (Err fault) h read = Fails fault read

pub record Finds {X Y : Type 0} (view : X → Y) (result : Result (X × ℕ) FieldFault) (h : Held) (reader : Reader Y) : Type 0 where
  pub bytes : IsBytes h.rest
  pub found : FindsIn view result h (reader (at_in h))

-- it was read, whatever comes behind what has come
pub record Taken {Y : Type 0} (reader : Reader Y) (y : Y) (old new : Held) : Type 0 where
  pub passed : Passed old new
  pub found : (tail : List ℕ) → reader (longer (at_in old) tail) ≡ Ok (y, longer (at_in new) tail)

-- it was not, and nothing was read
pub record Missed {Y : Type 0} (reader : Reader Y) (old new : Held) : Type 0 where
  pub same : new ≡ old
  pub short : reader (at_in old) ≡ Err Truncated

-- the next value in what has come: read, or waited for, or it has a fault whatever comes behind
abbrev pub Takes : {X Y : Type 0} → (X → Y) → Reader Y → Result X FieldFault → Held → Held → Type 0
Takes view reader (Ok x) old new = Taken reader (view x) old new
Takes view reader (Err OutOfMemory) old new = Unit {0}
Takes view reader (Err Truncated) old new = Missed reader old new
Takes view reader (Err fault) old new =
    (tail : List ℕ) → reader (longer (at_in old) tail) ≡ Err fault

-- ---- a part

-- what is still read of so many values behind these
abbrev pub still : {A S : Type 0} → List A → (S → Reader A) → (S → A → S) → ℕ → S → Reader (List A)
still front each next left s = λ at. followed (chain each next left s at) (λ xs next. Ok (front ++ xs, next))

-- With any more bytes, what was still to be read comes to what is still to be read.
pub record Further {Y : Type 0} (before after : Reader Y) (old new : Held) : Type 0 where
  pub passed : Passed old new
  pub goes : (tail : List ℕ) → before (longer (at_in old) tail) ≡ after (longer (at_in new) tail)

-- nothing is left to be read
abbrev pub IsRead : {Y : Type 0} → Reader Y → Type 0
IsRead {Y} after = (y : Y) × ((at : At) → after at ≡ Ok (y, at))

-- A part was read on: all of it was read, so that it is over, or bytes are wanting, or it has a fault.
abbrev pub GoesOn : {Y : Type 0} → Type 0 → Result (Unit {0}) FieldFault → Reader Y → Reader Y → Held → Held → Type 0
GoesOn over (Ok u) before after old new = Further before after old new × IsRead after × over
GoesOn over (Err OutOfMemory) before after old new = Unit {0}
GoesOn over (Err Truncated) before after old new =
    Further before after old new × (after (at_in new) ≡ Err Truncated)
GoesOn over (Err fault) before after old new =
    (tail : List ℕ) → before (longer (at_in old) tail) ≡ Err fault

-- ---- one value, many values, one part and another

-- what is still read of one value
abbrev pub rest_of_one : {X Y : Type 0} → (X → Y) → Reader Y → Option X → Reader Y
rest_of_one view reader None = reader
rest_of_one view reader (Some x) = gives (view x)

-- a list: how many elements are left, and those that were read
abbrev pub rest_of_elements : {A : Type 0} → (List A → Reader A) → ℕ → List A → Reader (List A)
rest_of_elements each left front = still front each with_last left front

-- what is still read of a list, whose number may be still to be read
abbrev pub rest_of_list : {A : Type 0} → Reader ℕ → (List A → Reader A) → Bool → ℕ → List A → Reader (List A)
rest_of_list counts each false left front = counts >>= (λ count. rest_of_elements each count front)
rest_of_list counts each true left front = rest_of_elements each left front

abbrev pub both : {A B : Type 0} → Reader A → Reader B → Reader (A × B)
both a b = a >>= (λ x. b >>= (λ y. gives (x, y)))

-- what is still read of a value and the values behind it, as many as it tells
abbrev pub rest_of_measured : {X Y A : Type 0} → (X → Y) → (Y → ℕ) → Reader Y → (List A → Reader A) → Option X → ℕ → List A → Reader (Y × List A)
rest_of_measured view count reader each None left front =
    reader >>= (λ y. rest_of_elements each (count y) front >>= (λ xs. gives (y, xs)))
rest_of_measured view count reader each (Some x) left front =
    rest_of_elements each left front >>= (λ xs. gives (view x, xs))

-- what is still read of a value and of the part behind it, which is told by the value: where nothing was read, where it was
abbrev pub rest_of_telling : {X Y Z : Type 0} → (X → Y) → Reader Y → (Y → Reader Z) → Reader Z → Option X → Reader (Y × Z)
rest_of_telling view reader told rest None = reader >>= (λ y. told y >>= (λ z. gives (y, z)))
rest_of_telling view reader told rest (Some x) = both (gives (view x)) rest
