-- Laws of names and of places in texts.
use Rattle.std.proofs.Common.{◌≡◌, ℕ, ◌+◌, Bool, cond, ltb, Option, Some, None, List, [], ◌∷◌, length, map, refl, ap, ◌∙◌}
use Rattle.std.specs.List.{position, position_or_len, prefix_len}
use Rattle.std.specs.Prelude.{not}
use Rattle.std.proofs.lemmas.List.{length-map}

pub prefix_len-map : {X : Type 0} (p : List ℕ → Bool) (f : X → List ℕ) (xs : List X) → prefix_len p (map f xs) ≡ prefix_len (λ x. p (f x)) xs
prefix_len-map p f [] = refl
prefix_len-map p f (x ∷ xs) = ap (λ (n : ℕ). cond (p (f x)) (1 + n) 0) (prefix_len-map p f xs)

pub position_map : {X : Type 0} (p : List ℕ → Bool) (f : X → List ℕ) (xs : List X) → position p (map f xs) ≡ position (λ x. p (f x)) xs
position_map p f xs =
    let F : ℕ → ℕ → Option ℕ = λ a n. cond (ltb a n) (Some a) None in
    let place = prefix_len-map (λ x. not (p x)) f xs in
    ap (λ (a : ℕ). F a (length (map f xs))) place ∙ ap (λ (n : ℕ). F (position_or_len (λ x. p (f x)) xs) n) (length-map xs f)
