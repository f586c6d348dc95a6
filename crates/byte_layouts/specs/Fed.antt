-- A text that comes in pieces: how far a reading is, and what it keeps.
use Rattle.std.specs.Prelude.{◌≡◌, ◌⊎◌, ℕ, ◌+◌, ◌≤◌, Bool, true, List, [], ◌++◌, length, Result, Ok, Err}
use Rattle.sha2.specs.Hashers.{Holds256}
use Rattle.byte_layouts.specs.declared.fault.FieldFault.{FieldFault}
use Rattle.byte_layouts.specs.declared.fault.FieldFault.TheVariants.{Truncated}
use Rattle.byte_layouts.specs.declared.stage.Stage.{Stage}
use Rattle.byte_layouts.specs.declared.stage.Stage.TheVariants.{Open, AtEnd, Faulty}
use Rattle.byte_layouts.specs.Readers.{At, at_of, Reader, longer, Fails}
use Rattle.byte_layouts.specs.Held.{Held, at_in, IsBytes}
use Rattle.byte_layouts.specs.Parts.{IsRead}

abbrev pub first_place : List ℕ → At
first_place bytes = at_of 0 bytes

-- What was fed was read, or is kept, or was let go behind that.
pub record Keeps (h : Held) (fed lost : List ℕ) : Type 0 where
  pub done : List ℕ
  pub parts : fed ≡ done ++ (h.rest ++ lost)
  pub hashed : Holds256 h.hasher done
  pub place : h.place ≡ length done

-- with any more bytes, what all of them say comes to what is still read
abbrev pub Comes : {Y : Type 0} → Reader Y → Reader Y → At → List ℕ → List ℕ → Type 0
Comes whole rest at lost fed = (tail : List ℕ) → whole (first_place (fed ++ tail)) ≡ rest (longer at (lost ++ tail))

-- Behind the end bytes are let go only where so many are kept.
abbrev pub LetsGo : ℕ → List ℕ → List ℕ → Type 0
LetsGo kept rest lost = (lost ≡ []) ⊎ (kept ≤ length rest)

-- all was read
pub record HasEnded {Y : Type 0} (whole rest : Reader Y) (kept : ℕ) (h : Held) (fed : List ℕ) : Type 0 where
  pub lost : List ℕ
  pub keeps : Keeps h fed lost
  pub lets : LetsGo kept h.rest lost
  pub read : IsRead rest
  pub comes : Comes whole rest (at_in h) lost fed

-- These bytes were fed, by how far the reading is.
abbrev pub FedIn : {Y : Type 0} → Stage → Reader Y → Reader Y → ℕ → Held → List ℕ → Type 0
FedIn Open whole rest kept h fed = Keeps h fed [] × Comes whole rest (at_in h) [] fed
FedIn AtEnd whole rest kept h fed = HasEnded whole rest kept h fed
FedIn (Faulty fault) whole rest kept h fed =
    (tail : List ℕ) → whole (first_place (fed ++ tail)) ≡ Err fault

abbrev pub IsFed : {Y : Type 0} → Stage → Reader Y → Reader Y → ℕ → Held → List ℕ → Type 0
IsFed stage whole rest kept h fed = IsBytes fed × FedIn stage whole rest kept h fed

-- where all was read, the part is over
abbrev pub is_over_at : Stage → Bool → Bool
is_over_at Open over = true
is_over_at AtEnd over = over
is_over_at (Faulty fault) over = true

-- nothing more is read before more bytes come
abbrev pub IsSettled : {Y : Type 0} → Stage → Reader Y → Held → Type 0
IsSettled Open rest h = rest (at_in h) ≡ Err Truncated
IsSettled AtEnd rest h = Unit {0}
IsSettled (Faulty fault) rest h = Unit {0}

-- How many of so many bytes are kept: all as long as there is something to read, none behind a fault, and behind the end no
-- more than so many.
abbrev pub IsWanted : Stage → ℕ → List ℕ → ℕ → ℕ → Type 0
IsWanted Open kept rest size count = count ≡ size
IsWanted AtEnd kept rest size count = ((count ≡ size) ⊎ (kept ≤ length rest + count)) × (kept ≤ length rest → count ≡ 0)
IsWanted (Faulty fault) kept rest size count = count ≡ 0

-- what a reading tells at its end, and the bytes that are left
pub record Tells {Y : Type 0} (whole : Reader Y) (y : Y) (kept : ℕ) (h : Held) (fed : List ℕ) : Type 0 where
  pub lost : List ℕ
  pub keeps : Keeps h fed lost
  pub lets : LetsGo kept h.rest lost
  pub says : whole (first_place fed) ≡ Ok (y, longer (at_in h) lost)

abbrev pub Told : {X Y : Type 0} → (X → Y) → Reader Y → Result (X × Held) FieldFault → ℕ → List ℕ → Type 0
Told view whole (Ok x) kept fed = Tells whole (view x.0) kept x.1 fed
Told view whole (Err fault) kept fed = Fails fault (whole (first_place fed))
