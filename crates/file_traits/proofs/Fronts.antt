-- Open files, the first of which has an id or has not.
use Rattle.std.proofs.Common.{◌&&◌, ◌≡◌, ◌≢◌, ℕ, ◌==◌, Bool, true, false, List, ◌∷◌, Some, ap, ◌∙◌, arith, if◌then◌else◌}
use Rattle.std.proofs.lemmas.Bool.Decides.{nat_tests}
use Rattle.file_traits.specs.State.{Opened, opened_at, without}

pub test-is : (m n : ℕ) → m ≡ n → (m == n) ≡ true
test-is m n same = grind (arith, nat_tests)

pub test-not : (m n : ℕ) → m ≢ n → (m == n) ≡ false
test-not m n other = grind (arith, nat_tests)

-- an id that stands at the front
pub front-found : (o : Opened) (rest : List Opened) (file : ℕ) → o.file ≡ file → opened_at (o ∷ rest) file ≡ Some o
front-found o rest file is = ap (λ (b : Bool). if b then Some o else opened_at rest file) (test-is o.file file is)

pub front-out : (o : Opened) (rest : List Opened) (file : ℕ) → o.file ≡ file → without (o ∷ rest) file ≡ rest
front-out o rest file is = ap (λ (b : Bool). if b then rest else o ∷ without rest file) (test-is o.file file is)

-- one that does not
pub front-passed : (o : Opened) (rest : List Opened) (file : ℕ) → o.file ≢ file → opened_at (o ∷ rest) file ≡ opened_at rest file
front-passed o rest file other = ap (λ (b : Bool). if b then Some o else opened_at rest file) (test-not o.file file other)

pub front-kept : (o : Opened) (rest : List Opened) (file : ℕ) → o.file ≢ file → without (o ∷ rest) file ≡ o ∷ without rest file
front-kept o rest file other = ap (λ (b : Bool). if b then rest else o ∷ without rest file) (test-not o.file file other)

-- two tests, one behind the other
pub both-and : (a b : Bool) → a ≡ true → b ≡ true → (a && b) ≡ true
both-and a b first second = ap (λ (x : Bool). x && b) first ∙ second
