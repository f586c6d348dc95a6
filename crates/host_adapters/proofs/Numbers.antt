-- Numbers of ports and connections that stand, once one was taken out.
use mathlib.Core.Path.{fun_ext}
use Rattle.std.proofs.Common.{◌≡◌, ◌∙◌, ap, sym, refl, ℕ, ◌==◌, ◌||◌, not, Bool, true, false, List, [], ◌∷◌, map, filter, inl, inr, if◌then◌else◌}
use Rattle.std.proofs.lemmas.Bool.Decides.{eqb_tells}
use Rattle.std.proofs.lemmas.Bool.{ne_eqb, eqb-false, eqb-true}
use Rattle.host_lines.specs.State.{without_one}
use Rattle.host_adapters.specs.RealLines.{is_in, without_number}

out_of_none : (b : Bool) → false ≡ (if b then false else false)
out_of_none true = refl
out_of_none false = refl

out_of_others : (a b x : Bool) → (b ≡ true → a ≡ false) → (a || (if b then false else x)) ≡ (if b then false else a || x)
out_of_others a true x other = ap (λ c. c || false) (other refl)
out_of_others a false x other = refl

out_of_its : (a b x : Bool) → (b ≡ false → a ≡ false) → (if b then false else x) ≡ (if b then false else a || x)
out_of_its a true x other = refl
out_of_its a false x other = ap (λ c. c || x) (sym (other refl))

in_less : (numbers : List ℕ) (n k : ℕ) → is_in (without_number n numbers) k ≡ without_one n (is_in numbers) k
in_less [] n k = out_of_none (k == n)
in_less (q ∷ numbers) n k =
    let kept = without_number n numbers in
    elim (eqb_tells q n) as (λ x. is_in (if not (q == n) then q ∷ kept else kept) k ≡ without_one n (is_in (q ∷ numbers)) k) [
      | inl e ↦ ap (λ b. is_in (if not b then q ∷ kept else kept) k) e.0 ∙ in_less numbers n k
          ∙ out_of_its (q == k) (k == n) (is_in numbers k) (λ other. ne_eqb q k (λ is. eqb-false k n other (sym is ∙ e.1)))
      | inr e ↦ ap (λ b. is_in (if not b then q ∷ kept else kept) k) e.0 ∙ ap (λ x. (q == k) || x) (in_less numbers n k)
          ∙ out_of_others (q == k) (k == n) (is_in numbers k) (λ its. ne_eqb q k (λ is. e.1 (is ∙ eqb-true k n its)))
    ]

pub taken_out : (numbers : List ℕ) (n : ℕ) → is_in (without_number n numbers) ≡ without_one n (is_in numbers)
taken_out numbers n = fun_ext (λ k. in_less numbers n k)

-- the numbers of what is kept are those without that one
pub numbers_kept : {X : Type 0} (number : X → ℕ) (n : ℕ) (xs : List X) → map number (filter (λ x. not (number x == n)) xs) ≡ without_number n (map number xs)
numbers_kept number n [] = refl
numbers_kept number n (x ∷ xs) =
    let rest = filter (λ y. not (number y == n)) xs in
    let numbers = without_number n (map number xs) in
    elim (number x == n) as (λ b. map number (if not b then x ∷ rest else rest) ≡ (if not b then number x ∷ numbers else numbers)) [
      | true ↦ numbers_kept number n xs
      | false ↦ ap (λ (l : List ℕ). number x ∷ l) (numbers_kept number n xs)
    ]
