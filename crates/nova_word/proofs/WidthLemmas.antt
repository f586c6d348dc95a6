-- How many octal digits a number has.
use Rattle.std.proofs.Common.{◌≡◌, ℕ, ◌+◌, ◌/◌, ◌^◌, ◌<◌, ◌≤◌, zero, suc, Bool, true, false, nat_lt, cond, refl, ap, subst, arith}
use Rattle.std.proofs.lemmas.Bool.{ltb-false}
use Rattle.std.proofs.lemmas.Bool.Decides.{nat_tests}
use Rattle.nova_word.specs.Numbers.{octal_width, octal_width_up_to}

-- one digit, or one more than the rest has
wider : (small : Bool) (x y : ℕ) → (small ≡ false → x ≡ y) → cond small 1 (suc x) ≡ cond small 1 (suc y)
wider true x y h = refl
wider false x y h = ap (λ w. suc w) (h refl)

wider_within : (small : Bool) (x k : ℕ) → (small ≡ false → suc x ≤ k) → 1 ≤ k → cond small 1 (suc x) ≤ k
wider_within true x k h some = some
wider_within false x k h some = h refl

-- what is more than enough makes no difference
pub octal_width_up_to-same : (f g n : ℕ) → n ≤ f → n ≤ g → octal_width_up_to f n ≡ octal_width_up_to g n
octal_width_up_to-same zero zero n h k = refl
octal_width_up_to-same zero (suc g) n h k = grind (arith, nat_tests)
octal_width_up_to-same (suc f) zero n h k = grind (arith, nat_tests)
octal_width_up_to-same (suc f) (suc g) n h k =
    wider (nat_lt n 8) (octal_width_up_to f (n / 8)) (octal_width_up_to g (n / 8)) (λ is.
    let large : 8 ≤ n = ltb-false n 8 is in
    octal_width_up_to-same f g (n / 8) (omega arith) (omega arith))

pub octal_width-small : (n : ℕ) → n < 8 → octal_width n ≡ 1
octal_width-small zero h = refl
octal_width-small (suc n) h = grind (arith, nat_tests)

pub octal_width-more : (n : ℕ) → 8 ≤ n → octal_width n ≡ suc (octal_width (n / 8))
octal_width-more zero h = absurd (omega arith)
octal_width-more (suc n) h =
    let same = octal_width_up_to-same n (suc n / 8) (suc n / 8) (omega arith) (omega arith) in
    grind (arith, nat_tests, same)

-- a number that so many digits can write has no more
octal_width_up_to-le : (f n k : ℕ) → n < 8 ^ suc k → octal_width_up_to f n ≤ suc k
octal_width_up_to-le zero n k h = omega arith
octal_width_up_to-le (suc f) n zero h = wider_within (nat_lt n 8) (octal_width_up_to f (n / 8)) 1 (λ is. absurd (omega (arith, ltb-false n 8 is))) (omega arith)
octal_width_up_to-le (suc f) n (suc k) h =
    let rest = octal_width_up_to-le f (n / 8) k (omega arith) in
    wider_within (nat_lt n 8) (octal_width_up_to f (n / 8)) (suc (suc k)) (λ is. omega (arith, rest)) (omega arith)

pub octal_width-le : (n k : ℕ) → 0 < k → n < 8 ^ k → octal_width n ≤ k
octal_width-le n zero some h = absurd (omega arith)
octal_width-le n (suc k) some h = octal_width_up_to-le n n k h

-- one digit more writes eight times as many numbers
fits_suc : (n w : ℕ) → n / 8 < 8 ^ w → n < 8 ^ suc w
fits_suc n w h = omega arith

pub fits_one_more : (n w : ℕ) → n / 8 < 8 ^ w → n < 8 ^ (1 + w)
fits_one_more n w h = subst (λ k. n < 8 ^ k) (omega arith) (fits_suc n w h)
