-- Bytes over which a piece was written at a place.
use Rattle.std.proofs.Common.{◌≡◌, ◌<◌, ◌≤◌, ◌+◌, ◌-◌, ℕ, List, [], ◌∷◌, ◌++◌, length, max, get_or, take, drop, replicate, inl, inr, refl, ap, sym, ◌∙◌, arith}
use Rattle.std.proofs.lemmas.Bool.{cases_lt}
use Rattle.std.proofs.lemmas.List.{get_or-drop, get_or-take, get_or_past, get_or_append_left, get_or-append_right, get_or-replicate, length-append, length-drop, length-replicate, length-take-le}
use Rattle.file_traits.specs.Lists.{filled, overwritten}

-- the byte at a place, and 0 past the end
abbrev pub at : List ℕ → ℕ → ℕ
at xs i = get_or xs i 0

zero-read : (n i : ℕ) → at (replicate n 0) i ≡ 0
zero-read n i = elim (cases_lt i n) [
  | inl low ↦ get_or-replicate n i 0 0 low
  | inr high ↦ get_or_past (replicate n 0) i 0 (omega (arith, length-replicate {A = ℕ} n 0, high))
]

-- zero bytes behind bytes change none that is read
pub zeros-behind : (xs : List ℕ) (n i : ℕ) → at (xs ++ replicate n 0) i ≡ at xs i
zeros-behind xs n i = elim (cases_lt i (length xs)) [
  | inl in_front ↦ get_or_append_left xs (replicate n 0) 0 i in_front
  | inr behind ↦
      get_or-append_right xs (replicate n 0) (length xs) i 0 refl behind
      ∙ zero-read n (i - length xs) ∙ sym (get_or_past xs i 0 behind)
]

module _ (bytes : List ℕ) (p : ℕ) (b : ℕ) (rest : List ℕ) where
  abbrev front : List ℕ
  front = take p (filled bytes p)

  abbrev tail : List ℕ
  tail = drop (p + length (b ∷ rest)) bytes

  front-long : length front ≡ p
  front-long = length-take-le p (filled bytes p) (omega (arith, length-append bytes (replicate (p - length bytes) 0), length-replicate {A = ℕ} (p - length bytes) 0))

  both-long : length (front ++ (b ∷ rest)) ≡ p + length (b ∷ rest)
  both-long = length-append front (b ∷ rest) ∙ ap (λ (n : ℕ). n + length (b ∷ rest)) front-long

  some-before : (i : ℕ) → i < p → at (overwritten bytes p (b ∷ rest)) i ≡ at bytes i
  some-before i low =
      get_or_append_left (front ++ (b ∷ rest)) tail 0 i (omega (arith, both-long, low))
      ∙ get_or_append_left front (b ∷ rest) 0 i (omega (arith, front-long, low))
      ∙ get_or-take p (filled bytes p) i 0 low ∙ zeros-behind bytes (p - length bytes) i

  some-within : (i : ℕ) → i < length (b ∷ rest) → at (overwritten bytes p (b ∷ rest)) (p + i) ≡ at (b ∷ rest) i
  some-within i within =
      get_or_append_left (front ++ (b ∷ rest)) tail 0 (p + i) (omega (arith, both-long, within))
      ∙ get_or-append_right front (b ∷ rest) p (p + i) 0 front-long (omega arith)
      ∙ ap (λ (n : ℕ). at (b ∷ rest) n) {x = p + i - p} {y = i} (omega arith)

  some-behind : (i : ℕ) → p + length (b ∷ rest) ≤ i → at (overwritten bytes p (b ∷ rest)) i ≡ at bytes i
  some-behind i behind =
      get_or-append_right (front ++ (b ∷ rest)) tail (p + length (b ∷ rest)) i 0 both-long behind
      ∙ get_or-drop (p + length (b ∷ rest)) bytes (i - (p + length (b ∷ rest))) 0
      ∙ ap (λ (n : ℕ). at bytes n) {x = p + length (b ∷ rest) + (i - (p + length (b ∷ rest)))} {y = i} (omega (arith, behind))

  some-long : length (overwritten bytes p (b ∷ rest)) ≡ p + length (b ∷ rest) + (length bytes - (p + length (b ∷ rest)))
  some-long = length-append (front ++ (b ∷ rest)) tail ∙ (λ i. both-long i + length-drop (p + length (b ∷ rest)) bytes i)

pub over-before : (bytes : List ℕ) (p : ℕ) (piece : List ℕ) (i : ℕ) → i < p → at (overwritten bytes p piece) i ≡ at bytes i
over-before bytes p [] i low = refl
over-before bytes p (b ∷ rest) i low = some-before bytes p b rest i low

pub over-within : (bytes : List ℕ) (p : ℕ) (piece : List ℕ) (i : ℕ) → i < length piece → at (overwritten bytes p piece) (p + i) ≡ at piece i
over-within bytes p [] i within = absurd (omega (arith, within))
over-within bytes p (b ∷ rest) i within = some-within bytes p b rest i within

pub over-behind : (bytes : List ℕ) (p : ℕ) (piece : List ℕ) (i : ℕ) → p + length piece ≤ i → at (overwritten bytes p piece) i ≡ at bytes i
over-behind bytes p [] i behind = refl
over-behind bytes p (b ∷ rest) i behind = some-behind bytes p b rest i behind

-- bytes become no shorter, and no longer than to the end of what is written
pub over-least : (bytes : List ℕ) (p : ℕ) (piece : List ℕ) → length bytes ≤ length (overwritten bytes p piece)
over-least bytes p [] = omega arith
over-least bytes p (b ∷ rest) = omega (arith, some-long bytes p b rest)

pub over-most : (bytes : List ℕ) (p : ℕ) (piece : List ℕ) (most : ℕ) → length bytes ≤ most → p + length piece ≤ most
    → length (overwritten bytes p piece) ≤ most
over-most bytes p [] most short fits = short
over-most bytes p (b ∷ rest) most short fits = omega (arith, some-long bytes p b rest, short, fits)

pub over-reach : (bytes : List ℕ) (p : ℕ) (piece : List ℕ) (i : ℕ) → i < length piece → p + i < length (overwritten bytes p piece)
over-reach bytes p [] i within = absurd (omega (arith, within))
over-reach bytes p (b ∷ rest) i within = omega (arith, some-long bytes p b rest, within)

pub over-long : (bytes : List ℕ) (p : ℕ) (piece : List ℕ) → 0 < length piece → length (overwritten bytes p piece) ≡ max (length bytes) (p + length piece)
over-long bytes p [] some = absurd (omega (arith, some))
over-long bytes p (b ∷ rest) some = omega (arith, some-long bytes p b rest)
