-- Laws of places in texts.
use Rattle.std.proofs.Common.{◌≡◌, ℕ, ◌≤◌, Bool, cond, ltb, Some, None, List, length, arith, unwrap_or}
use Rattle.std.specs.List.{position, position_or_len}
use Rattle.std.proofs.lemmas.List.Sums.{prefix_len-le-length}
use Rattle.std.proofs.lemmas.Bool.Decides.{nat_tests}

-- a place that is at most the end
pub some_or_end : (a n : ℕ) → a ≤ n → unwrap_or (cond (ltb a n) (Some a) None) n ≡ a
some_or_end a n h = grind (arith, nat_tests)

pub place_or_length : (p : ℕ → Bool) (text : List ℕ) → unwrap_or (position p text) (length text) ≡ position_or_len p text
place_or_length p text = some_or_end (position_or_len p text) (length text) (prefix_len-le-length _ text)

pub place_le_length : (p : ℕ → Bool) (text : List ℕ) → position_or_len p text ≤ length text
place_le_length p text = prefix_len-le-length _ text
