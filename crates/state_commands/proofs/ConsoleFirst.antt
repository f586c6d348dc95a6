-- The console line is the first of a machine's lines.
use Rattle.std.proofs.Common.{◌≡◌, ℕ, ◌<◌, List, [], ◌∷◌, length, slice_get, Some, ap, arith}
use Rattle.std.specs.Prelude.{drop}
use Rattle.std.proofs.lemmas.Option.{same_Some}
use Rattle.telnet_lines.specs.Line.{LineOf}

pub console_first : (lines : List (LineOf ℕ)) (line : LineOf ℕ) → slice_get lines 0 ≡ Some line → lines ≡ line ∷ drop 1 lines
console_first [] line at = absurd (cc)
console_first (l ∷ lines) line at = ap (λ (x : LineOf ℕ). x ∷ lines) (same_Some l line at)

pub console_there : (lines : List (LineOf ℕ)) (line : LineOf ℕ) → slice_get lines 0 ≡ Some line → 0 < length lines
console_there [] line at = absurd (cc)
console_there (l ∷ lines) line at = omega arith
