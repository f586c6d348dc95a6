-- Readers of fields: each reads from the front of the bytes that are left.
use Rattle.std.specs.Prelude.{◌≡◌, ℕ, zero, suc, ◌+◌, Bool, List, [], ◌∷◌, ◌++◌, length, take, drop, Result, Ok, Err, nat_le, nat_lt, ◌&&◌, if◌then◌else◌}
use Rattle.std.specs.Str.{bytes_eq}
use Rattle.std.specs.Int.{Width, w16, byte_len, from_be_bytes}
use Rattle.byte_layouts.specs.declared.fault.FieldFault.{FieldFault}
use Rattle.byte_layouts.specs.declared.fault.FieldFault.TheVariants.{NotHead, Version, BadField, Truncated, OutOfMemory}

-- the bytes that are left, and how many stand before them
pub record At : Type 0 where
  pub place : ℕ
  pub rest : List ℕ

abbrev pub at_of : ℕ → List ℕ → At
at_of place rest = record { place = place; rest = rest }

-- it answers what it read and where it left off, or the first fault
abbrev pub Reader : Type 0 → Type 0
Reader A = At → Result (A × At) FieldFault

-- goes on with what was read, unless there was a fault
abbrev pub followed : {A B : Type 0} → Result (A × At) FieldFault → (A → At → Result B FieldFault)
    → Result B FieldFault
followed (Ok x) f = f x.0 x.1
followed (Err fault) f = Err fault

infixl 10 ◌>>=◌
abbrev pub ◌>>=◌ : {A B : Type 0} → Reader A → (A → Reader B) → Reader B
reader >>= f = λ at. followed (reader at) f

-- reads nothing
abbrev pub gives : {A : Type 0} → A → Reader A
gives x = λ at. Ok (x, at)

-- so many bytes further
abbrev pub behind : ℕ → At → At
behind n at = at_of (at.place + n) (drop n at.rest)

-- so many bytes
unfoldable pub counted : ℕ → Reader (List ℕ)
counted n at = if nat_lt (length at.rest) n then Err Truncated else Ok (take n at.rest, behind n at)

-- a number of a width, its high byte first
unfoldable pub number : Width → Reader ℕ
number w = counted (byte_len w) >>= (λ bytes. gives (from_be_bytes w bytes))

-- what passes, or else a fault
abbrev pub passed_or : {A : Type 0} → FieldFault → Bool → A → At → Result (A × At) FieldFault
passed_or fault ok x next = if ok then Ok (x, next) else Err fault

-- a field that passes a test, or else a fault that may name its place and what it holds
abbrev pub tested_or : {A : Type 0} → (ℕ → A → FieldFault) → (A → Bool) → Reader A → Reader A
tested_or fault ok reader = λ at. followed (reader at) (λ x next. passed_or (fault at.place x) (ok x) x next)

-- a field that can hold what it holds
abbrev pub tested : {A : Type 0} → (A → Bool) → Reader A → Reader A
tested ok reader = tested_or (λ place x. BadField place) ok reader

-- whether the first bytes, or all there are, begin as these
abbrev pub begins : List ℕ → List ℕ → Bool
begins head bytes = bytes_eq (take (length head) bytes) (take (length bytes) head)

abbrev pub head_if : List ℕ → Bool → Reader (List ℕ)
head_if head ok = λ at. if ok then counted (length head) at else Err NotHead

-- what each such text begins with
unfoldable pub head_at : List ℕ → Reader (List ℕ)
head_at head at = head_if head (begins head at.rest) at

-- the version of the format
unfoldable pub version_at : (ℕ → Bool) → Reader ℕ
version_at ok = tested_or (λ place n. Version n) ok (number w16)

-- the versions from the first one to the newest
abbrev pub is_version_to : ℕ → ℕ → Bool
is_version_to newest n = nat_le 1 n && nat_le n newest

-- so many, one behind the other; what each can be may depend on those before it
abbrev pub chain : {A S : Type 0} → (S → Reader A) → (S → A → S) → ℕ → S → Reader (List A)
chain each next zero s = gives []
chain each next (suc n) s = each s >>= (λ x. chain each next n (next s x) >>= (λ xs. gives (x ∷ xs)))

-- with one more at the end
abbrev pub with_last : {A : Type 0} → List A → A → List A
with_last xs x = xs ++ (x ∷ [])

-- with more bytes at the end
abbrev pub longer : At → List ℕ → At
longer at tail = at_of at.place (at.rest ++ tail)

-- ---- what a function returned

-- its fault is that of reading, unless memory ran out
abbrev pub Fails : {B : Type 0} → FieldFault → Result B FieldFault → Type 0
Fails OutOfMemory read = Unit {0}
Fails fault read = read ≡ Err fault

-- what it returned, seen by view, and where it left off are what reading gives
abbrev pub Reads : {X Y : Type 0} → (X → Y) → Result X FieldFault → At → Result (Y × At) FieldFault
    → Type 0
Reads view (Ok x) at read = read ≡ Ok (view x, at)
Reads view (Err fault) at read = Fails fault read

-- the same where nothing is said of where it left off
abbrev pub Gives : {X Y : Type 0} → (X → Y) → Result X FieldFault → Result Y FieldFault → Type 0
Gives view (Ok x) read = read ≡ Ok (view x)
Gives view (Err fault) read = Fails fault read
