-- What a text is made of, field by field from the left, as data. A layout of values of a type says which bytes each of them
-- has, what bytes say, and which values there are: `text`, `reading` and `Has`.
use Rattle.std.specs.Prelude.{◌≡◌, ℕ, ◌^◌, ◌<◌, Bool, true, IsTrue, List, [], ◌∷◌, ◌++◌, length}
use Rattle.std.specs.List.{AllByRecursion}
use Rattle.std.specs.Int.{Width, w8, w16, w32, w64, to_be_bytes}
use Rattle.byte_layouts.specs.Readers.{Reader, ◌>>=◌, gives, number, counted, tested, chain, with_last, head_at, version_at}

-- how many bytes a number has
pub data Size : Type 0 where
  One Two Four Eight : Size

abbrev pub width : Size → Width
width One = w8
width Two = w16
width Four = w32
width Eight = w64

abbrev pub limit : Size → ℕ
limit One = 2 ^ 8
limit Two = 2 ^ 16
limit Four = 2 ^ 32
limit Eight = 2 ^ 64

pub data Layout : Type 0 → Type 1 where
  -- what each text begins with: a fault of its own is that it begins otherwise
  Head : List ℕ → Layout (Unit {0})
  -- the version of the format, in 16 bits, which passes a test: a fault of its own is that it does not
  Version : (ℕ → Bool) → Layout ℕ
  -- no bytes: the value is that one
  Given : {A : Type 0} → A → Layout A
  -- a number that passes a test, its high byte first
  Number : Size → (ℕ → Bool) → Layout ℕ
  -- so many bytes that pass a test
  Bytes : ℕ → (List ℕ → Bool) → Layout (List ℕ)
  -- bytes behind their number, each of which passes a test
  Sized : Size → (ℕ → Bool) → (List ℕ → Bool) → Layout (List ℕ)
  -- so many values, each of which may depend on those before it
  Many : {A : Type 0} → ℕ → (List A → Layout A) → Layout (List A)
  -- such values behind their number, which passes a test
  Listed : {A : Type 0} → Size → (ℕ → Bool) → (List A → Layout A) → Layout (List A)
  -- a value, and behind it another that may depend on it
  Then : {A B : Type 0} → Layout A → (A → Layout B) → Layout (A × B)
  -- the same fields as parts of one value
  Made : {A B : Type 0} → (make : A → B) (part : B → A) → ((x : A) → part (make x) ≡ x) → ((y : B) → make (part y) ≡ y)
      → Layout A → Layout B

-- a field, and those behind it
infixr 20 ◌&◌
abbrev pub ◌&◌ : {A B : Type 0} → Layout A → Layout B → Layout (A × B)
a & b = Then a (λ x. b)

-- a number to which nothing is asked
abbrev pub Any : Size → Layout ℕ
Any size = Number size (λ n. true)

-- ---- the bytes of a value

unfoldable pub number_text : Width → ℕ → List ℕ
number_text w n = to_be_bytes w n

-- the texts of a list's elements, each of which may depend on those before it
abbrev pub texts : {A S : Type 0} → (S → A → List ℕ) → (S → A → S) → S → List A → List ℕ
texts each next s [] = []
texts each next s (x ∷ xs) = each s x ++ texts each next (next s x) xs

abbrev pub text : {A : Type 0} → Layout A → A → List ℕ
text (Head head) u = head
text (Version ok) n = number_text w16 n
text (Given a) x = []
text (Number size ok) n = number_text (width size) n
text (Bytes count ok) bytes = bytes
text (Sized size ok fits) bytes = number_text (width size) (length bytes) ++ bytes
text (Many count each) xs = texts (λ front. text (each front)) with_last [] xs
text (Listed size ok each) xs =
    number_text (width size) (length xs) ++ texts (λ front. text (each front)) with_last [] xs
text (Then a b) x = text a x.0 ++ text (b x.0) x.1
text (Made make part there back a) y = text a (part y)

-- ---- what bytes say

abbrev pub reading : {A : Type 0} → Layout A → Reader A
reading (Head head) = head_at head >>= (λ bytes. gives tt)
reading (Version ok) = version_at ok
reading (Given a) = gives a
reading (Number size ok) = tested ok (number (width size))
reading (Bytes count ok) = tested ok (counted count)
reading (Sized size ok fits) = tested ok (number (width size)) >>= (λ count. tested fits (counted count))
reading (Many count each) = chain (λ front. reading (each front)) with_last count []
reading (Listed size ok each) =
    tested ok (number (width size)) >>= (λ count. chain (λ front. reading (each front)) with_last count [])
reading (Then a b) = reading a >>= (λ x. reading (b x) >>= (λ y. gives (x, y)))
reading (Made make part there back a) = reading a >>= (λ x. gives (make x))

-- ---- the values that there are

abbrev pub AreBytes : List ℕ → Type 0
AreBytes bytes = AllByRecursion (λ b. b < 2 ^ 8) bytes

-- each of a list is as those before it ask
abbrev pub Follow : {A S : Type 0} → (S → A → Type 0) → (S → A → S) → S → List A → Type 0
Follow Each next s [] = Unit {0}
Follow Each next s (x ∷ xs) = Each s x × Follow Each next (next s x) xs

abbrev pub IsNumber : Size → (ℕ → Bool) → ℕ → Type 0
IsNumber size ok n = (n < limit size) × IsTrue (ok n)

abbrev pub Has : {A : Type 0} → Layout A → A → Type 0
Has (Head head) u = Unit {0}
Has (Version ok) n = (n < 2 ^ 16) × IsTrue (ok n)
Has (Given a) x = x ≡ a
Has (Number size ok) n = IsNumber size ok n
Has (Bytes count ok) bytes = ((length bytes ≡ count) × AreBytes bytes) × IsTrue (ok bytes)
Has (Sized size ok fits) bytes = IsNumber size ok (length bytes) × (AreBytes bytes × IsTrue (fits bytes))
Has (Many count each) xs = (length xs ≡ count) × Follow (λ front. Has (each front)) with_last [] xs
Has (Listed size ok each) xs = IsNumber size ok (length xs) × Follow (λ front. Has (each front)) with_last [] xs
Has (Then a b) x = Has a x.0 × Has (b x.0) x.1
Has (Made make part there back a) y = Has a (part y)

-- No list of a value is longer than the number before it can tell.
abbrev pub Fits : {A : Type 0} → Layout A → A → Type 0
Fits (Head head) u = Unit {0}
Fits (Version ok) n = Unit {0}
Fits (Given a) x = Unit {0}
Fits (Number size ok) n = Unit {0}
Fits (Bytes count ok) bytes = Unit {0}
Fits (Sized size ok fits) bytes = length bytes < limit size
Fits (Many count each) xs = Follow (λ front. Fits (each front)) with_last [] xs
Fits (Listed size ok each) xs = (length xs < limit size) × Follow (λ front. Fits (each front)) with_last [] xs
Fits (Then a b) x = Fits a x.0 × Fits (b x.0) x.1
Fits (Made make part there back a) y = Fits a (part y)

-- the same fields with no test
abbrev pub loose : {A : Type 0} → Layout A → Layout A
loose (Head head) = Head head
loose (Version ok) = Version (λ n. true)
loose (Given a) = Given a
loose (Number size ok) = Any size
loose (Bytes count ok) = Bytes count (λ bytes. true)
loose (Sized size ok fits) = Sized size (λ n. true) (λ bytes. true)
loose (Many count each) = Many count (λ front. loose (each front))
loose (Listed size ok each) = Listed size (λ n. true) (λ front. loose (each front))
loose (Then a b) = Then (loose a) (λ x. loose (b x))
loose (Made make part there back a) = Made make part there back (loose a)
