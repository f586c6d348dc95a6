-- What the calls on a stream of bytes do: how many bytes they take, and what that leaves.
use Rattle.std.specs.Borrow.{Bor}
use Rattle.std.specs.Prelude.{◌≡◌, ℕ, ◌<◌, ◌≤◌, List, [], ◌∷◌, ◌++◌, length, take, Option, Some, None, Result, Ok, Err, IfOk, OnErr, MatchResult}

-- What a buffer holds that was lent to a call which failed is free, but for its length: first bytes of what was to be read
-- may stand in it. A call that was refused, and made no read, leaves it as it was.
abbrev pub LeavesFree : {T E : Type 0} → Result T E → List ℕ → List ℕ → Type 0
LeavesFree result old new = OnErr result (length new ≡ length old)

-- A read puts the first of the bytes that were left into the front of the buffer. It gives none only where none was left
-- or the buffer is empty. A read that failed took nothing.
abbrev pub ReadTakes : {E : Type 0} → List ℕ → Result ℕ E → List ℕ → List ℕ → Type 0
ReadTakes old result buffer new = MatchResult result (λ n. (old ≡ take n buffer ++ new) × (n ≡ 0 → 0 < length buffer → old ≡ [])) (λ _. new ≡ old)

-- the next byte was taken, or none was left, or the read failed and took nothing
abbrev pub NextByte : {E : Type 0} → List ℕ → Result (Option ℕ) E → List ℕ → Type 0
NextByte old (Ok (Some b)) new = old ≡ b ∷ new
NextByte old (Ok None) new = (old ≡ []) × (new ≡ [])
NextByte old (Err _) new = new ≡ old

-- a write takes at least one byte of a piece that is not empty, and no more than there are
abbrev pub WriteTakes : {E : Type 0} → Result ℕ E → List ℕ → Type 0
WriteTakes result piece = IfOk result (λ n. (n ≤ length piece) × (0 < length piece → 0 < n))

-- a write added the bytes that it took, and one that failed added none
abbrev pub WriteAdds : {E : Type 0} → List ℕ → Result ℕ E → List ℕ → List ℕ → Type 0
WriteAdds old result piece new = MatchResult result (λ n. new ≡ old ++ take n piece) (λ _. new ≡ old)

-- first bytes of the piece were added, and not all
abbrev pub AddsPart : List ℕ → List ℕ → List ℕ → Type 0
AddsPart old piece new = (n : ℕ) × (n < length piece) × (new ≡ old ++ take n piece)

-- what came of printing a text: all of it was added, or first bytes of it and not all, where the call failed
abbrev pub Puts : {T E : Type 0} → List ℕ → List ℕ → Result T E → List ℕ → Type 0
Puts old text result new = MatchResult result (λ _. new ≡ old ++ text) (λ _. AddsPart old text new)

-- pieces of a text, one behind another
abbrev pub joined : List (Bor (List ℕ)) → List ℕ
joined [] = []
joined (piece ∷ more) = piece.now ++ joined more
