-- Texts that stand behind one another in a list of bytes.
use Rattle.std.specs.Prelude.{◌≡◌, ℕ, ◌+◌, ◌-◌, ◌≤◌, List, [], ◌∷◌, length, take, drop}

-- the texts between places, from each place to the next
abbrev pub texts_between : List ℕ → List ℕ → List (List ℕ)
texts_between bytes [] = []
texts_between bytes (from ∷ []) = []
texts_between bytes (from ∷ to ∷ places) = take (to - from) (drop from bytes) ∷ texts_between bytes (to ∷ places)

-- places that do not fall, up to the last one, which is the end
abbrev pub RiseTo : ℕ → List ℕ → Type 0
RiseTo end [] = ⊥
RiseTo end (from ∷ []) = from ≡ end
RiseTo end (from ∷ to ∷ places) = (from ≤ to) × RiseTo end (to ∷ places)

-- what is kept of up to ten texts: their bytes, and the places between which they stand
pub record IsStored (bytes places : List ℕ) (count : ℕ) : Type 0 where
  pub room : length places ≡ 11
  pub most : count ≤ 10
  pub rise : RiseTo (length bytes) (take (count + 1) places)
