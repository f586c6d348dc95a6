-- The numbers of connections are some that were given.
use Rattle.std.proofs.Common.{◌≡◌, ◌<◌, ◌+◌, ◌==◌, ◌++◌, ◌∷◌, ℕ, List, [], not, false, arith}
use Rattle.std.proofs.lemmas.Bool.Decides.{nat_tests}
use Rattle.std.proofs.lemmas.List.Elements.{All-append, All-filter, All-cons, All-nil}
use Rattle.std.proofs.lemmas.List.Folds.{list_any_none}
use Rattle.host_adapters.specs.RealLines.{AreGiven, is_in, without_number}

pub given-kept : (given n : ℕ) (numbers : List ℕ) → AreGiven given numbers → AreGiven given (without_number n numbers)
given-kept given n numbers all = All-filter (λ k. not (k == n)) (λ k. k < given) numbers all

-- the next number is given
pub given-more : (given : ℕ) (numbers : List ℕ) → AreGiven given numbers → AreGiven (given + 1) (numbers ++ given ∷ [])
given-more given numbers all =
    All-append (λ k. k < given + 1) numbers (given ∷ []) (λ k d within. omega (arith, all k d within))
    (All-cons (λ k. k < given + 1) given [] (omega arith) (All-nil (λ k. k < given + 1)))

-- and no connection has it yet
pub given-fresh : (given : ℕ) (numbers : List ℕ) → AreGiven given numbers → is_in numbers given ≡ false
given-fresh given numbers all =
    list_any_none (λ k. k == given) numbers (λ k d within. grind (arith, nat_tests, all k d within))
