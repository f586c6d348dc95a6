use Rattle.std.proofs.Common.{◌≡◌, ℕ, ◌<◌, List, [], ◌++◌, length, take, drop, min, arith, sym, length-take, length-drop, length-append}
use Rattle.std.proofs.lemmas.List.{take_at, take-append-drop, nil_from_length}

-- the bytes that a read gives are first bytes of those that were left, and none only at the end or where the buffer is
-- empty
pub read_takes : (left buffer : List ℕ) (n : ℕ) → n ≡ min (length buffer) (length left) → (left ≡ take n (take n left ++ drop n buffer) ++ drop n left) × (n ≡ 0 → 0 < length (take n left ++ drop n buffer) → left ≡ [])
read_takes left buffer n count = (
  let taken : length (take n left) ≡ n = omega (arith, length-take n left) in
      rw (take_at (take n left) (drop n buffer) n taken) (sym (take-append-drop n left)),
  λ none some. nil_from_length left (omega (arith, length-append (take n left) (drop n buffer), length-take n left, length-drop n buffer)),
)
