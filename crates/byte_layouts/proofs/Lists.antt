-- Readers of so many values, one behind the other.
use Rattle.std.proofs.Common.{◌≡◌, ℕ, zero, suc, List, [], ◌∷◌, ◌++◌, length, refl, sym, ap, subst, arith}
use Rattle.byte_layouts.specs.Layout.{texts, AreBytes, Follow}
use Rattle.byte_layouts.specs.Readers.{Reader, ◌>>=◌, gives, chain}
use Rattle.byte_layouts.specs.Held.{IsBytes}
use Rattle.byte_layouts.proofs.ReaderLaws.{IsReaderOf, joined_is, made_is, gives_is}

abbrev pub IsChain : {A S : Type 0} → (S → A → Type 0) → (S → A → S) → ℕ → S → List A → Type 0
IsChain Has next count s xs = (length xs ≡ count) × Follow Has next s xs

-- the first, and those behind it
record Heads {A S : Type 0} (Has : S → A → Type 0) (next : S → A → S) (count : ℕ) (s : S) (x : A) (xs : List A) : Type 0 where
  others : List A
  is : xs ≡ x ∷ others
  chain : IsChain Has next count (next s x) others

behind_first : {A : Type 0} → List A → List A
behind_first [] = []
behind_first (x ∷ xs) = xs

headed : {A S : Type 0} (each : S → Reader A) (text : S → A → List ℕ) (Has : S → A → Type 0) (next : S → A → S) (count : ℕ) (s : S) (x : A)
    → IsReaderOf (chain each next count (next s x)) (texts text next (next s x)) (IsChain Has next count (next s x))
    → IsReaderOf (chain each next count (next s x) >>= (λ xs. gives (x ∷ xs))) (λ xs. texts text next (next s x) (behind_first xs)) (Heads Has next count s x)
unfolding behind_first
headed each text Has next count s x law =
    made_is (chain each next count (next s x)) (λ xs. x ∷ xs) behind_first (texts text next (next s x)) (IsChain Has next count (next s x)) (Heads Has next count s x) law
    (λ xs has. (refl, record { others = xs; is = refl; chain = has }))
    (λ ys has. subst (λ l. IsChain Has next count (next s x) (behind_first l) × (x ∷ behind_first l ≡ l)) (sym has.is) (has.chain, refl))

pub chain_is : {A S : Type 0} (each : S → Reader A) (text : S → A → List ℕ) (Has : S → A → Type 0) (next : S → A → S) → ((s : S) → IsReaderOf (each s) (text s) (Has s)) → (count : ℕ) (s : S)
    → IsReaderOf (chain each next count s) (texts text next s) (IsChain Has next count s)
unfolding behind_first
chain_is {A} {S} each text Has next law zero s = gives_is [] (texts text next s) (IsChain Has next 0 s) refl (refl, tt) none
  where
    none : (ys : List A) → IsChain Has next 0 s ys → ys ≡ []
    none [] has = refl
    none (y ∷ ys) has = let size = has.0 in absurd (omega (arith, size))
chain_is {A} {S} each text Has next law (suc n) s =
    joined_is (each s) (λ x. chain each next n (next s x) >>= (λ xs. gives (x ∷ xs))) (text s) (Has s) (λ x xs. texts text next (next s x) (behind_first xs)) (Heads Has next n s)
    (texts text next s) (IsChain Has next (suc n) s) (law s) (λ x has. headed each text Has next n s x (chain_is each text Has next law n (next s x)))
    (λ x ys has heads. subst (λ l. (text s x ++ texts text next (next s x) (behind_first l) ≡ texts text next s l) × IsChain Has next (suc n) s l) (sym heads.is)
    (refl, (ap suc heads.chain.0, (has, heads.chain.1))))
    from
  where
    from : (ys : List A) → IsChain Has next (suc n) s ys → (x : A) × Has s x × Heads Has next n s x ys × (text s x ++ texts text next (next s x) (behind_first ys) ≡ texts text next s ys)
    from [] has = let size = has.0 in absurd (omega (arith, size))
    from (x ∷ xs) has = let size = has.0 in (x, has.1.0, record { others = xs; is = refl; chain = (omega (arith, size), has.1.1) }, refl)

-- ---- bytes, each below 256, in either words

pub bytes_there : (bytes : List ℕ) → IsBytes bytes → AreBytes bytes
bytes_there [] h = tt
bytes_there (b ∷ bytes) h = (h 0, bytes_there bytes (λ i. h (suc i)))

pub bytes_back : (bytes : List ℕ) → AreBytes bytes → IsBytes bytes
bytes_back [] h i = omega arith
bytes_back (b ∷ bytes) h zero = h.0
bytes_back (b ∷ bytes) h (suc i) = bytes_back bytes h.1 i
