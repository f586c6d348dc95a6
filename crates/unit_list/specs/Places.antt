-- Where a unit stands in the list.
use Rattle.std.specs.Prelude.{◌≡◌, ◌≢◌, ◌==◌, ℕ, zero, suc, List, [], ◌∷◌, map, if◌then◌else◌}
use Rattle.std.specs.List.{range_with_len}
use Rattle.unit_trait.specs.declared.kind.Kind.{Kind}
use Rattle.unit_trait.specs.Kinds.{code_of}
use Rattle.unit_trait.specs.Calls.{UnitState}

-- the unit at a place has that code, and none in front of it has
abbrev pub StandsAt : ℕ → List UnitState → ℕ → Type 0
StandsAt code [] place = ⊥
StandsAt code (u ∷ us) zero = code_of u.kind ≡ code
StandsAt code (u ∷ us) (suc place) = (code_of u.kind ≢ code) × StandsAt code us place

-- the place of the first kind with that code, from 0: their number, where none has it
abbrev pub place_in : ℕ → List Kind → ℕ
place_in code [] = 0
place_in code (kind ∷ kinds) = if code_of kind == code then 0 else suc (place_in code kinds)

-- the place for each of the 64 codes of the bus
unfoldable pub places_in : List Kind → List ℕ
places_in kinds = map (λ code. place_in code kinds) (range_with_len 0 64)
