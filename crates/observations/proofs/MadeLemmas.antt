-- Lists of observations, one behind another.
use Rattle.std.proofs.Common.{◌≡◌, ◌⊎◌, inl, inr, ℕ, ◌+◌, List, [], ◌∷◌, ◌++◌, refl, ap, sym, ◌∙◌, append_assoc, add_assoc, zero-add}
use Rattle.observations.specs.Observations.{Observation, Prints, Reads, Sends, Trace, after_made, text_of, reads_of, sent_of, map_made, StandsAt}

pub text_of-append : {S : Type 0} (first second : List (Observation S)) → text_of (first ++ second) ≡ text_of first ++ text_of second
text_of-append [] second = refl
text_of-append (Prints text at ∷ more) second = ap (λ t. text ++ t) (text_of-append more second) ∙ sym (append_assoc text (text_of more) (text_of second))
text_of-append (Reads count at ∷ more) second = text_of-append more second
text_of-append (Sends bytes ∷ more) second = text_of-append more second

pub reads_of-append : {S : Type 0} (first second : List (Observation S)) → reads_of (first ++ second) ≡ reads_of first + reads_of second
reads_of-append [] second = sym (zero-add (reads_of second))
reads_of-append (Prints text at ∷ more) second = reads_of-append more second
reads_of-append (Reads count at ∷ more) second = ap (λ n. count + n) (reads_of-append more second) ∙ sym (add_assoc count (reads_of more) (reads_of second))
reads_of-append (Sends bytes ∷ more) second = reads_of-append more second

pub sent_of-append : {S : Type 0} (first second : List (Observation S)) → sent_of (first ++ second) ≡ sent_of first ++ sent_of second
sent_of-append [] second = refl
sent_of-append (Prints text at ∷ more) second = sent_of-append more second
sent_of-append (Reads count at ∷ more) second = sent_of-append more second
sent_of-append (Sends bytes ∷ more) second =
    ap (λ (sent : List (ℕ × ℕ)). bytes ++ sent) (sent_of-append more second) ∙ sym (append_assoc bytes (sent_of more) (sent_of second))

pub after_made-append : {S : Type 0} (first second : List (Observation S)) (t : Trace S) → after_made (first ++ second) t ≡ after_made first (after_made second t)
after_made-append first second t = ap (λ made. record { made = made; ended = t.ended }) (append_assoc first second t.made)

-- another state in each place changes no text, no read and nothing that is sent
pub text_of-map : {S T : Type 0} (f : S → T) (made : List (Observation S)) → text_of (map_made f made) ≡ text_of made
text_of-map f [] = refl
text_of-map f (Prints text at ∷ more) = ap (λ t. text ++ t) (text_of-map f more)
text_of-map f (Reads count at ∷ more) = text_of-map f more
text_of-map f (Sends bytes ∷ more) = text_of-map f more

pub reads_of-map : {S T : Type 0} (f : S → T) (made : List (Observation S)) → reads_of (map_made f made) ≡ reads_of made
reads_of-map f [] = refl
reads_of-map f (Prints text at ∷ more) = reads_of-map f more
reads_of-map f (Reads count at ∷ more) = ap (λ n. count + n) (reads_of-map f more)
reads_of-map f (Sends bytes ∷ more) = reads_of-map f more

pub sent_of-map : {S T : Type 0} (f : S → T) (made : List (Observation S)) → sent_of (map_made f made) ≡ sent_of made
sent_of-map f [] = refl
sent_of-map f (Prints text at ∷ more) = sent_of-map f more
sent_of-map f (Reads count at ∷ more) = sent_of-map f more
sent_of-map f (Sends bytes ∷ more) = ap (λ (sent : List (ℕ × ℕ)). bytes ++ sent) (sent_of-map f more)

-- what is made in front or behind leaves a state among those in which observations come
pub stands-before : {S : Type 0} (state : S) (first second : List (Observation S)) → StandsAt state first → StandsAt state (first ++ second)
stands-before state [] second h = absurd h
stands-before state (Prints text at ∷ more) second (inl h) = inl h
stands-before state (Prints text at ∷ more) second (inr h) = inr (stands-before state more second h)
stands-before state (Reads count at ∷ more) second (inl h) = inl h
stands-before state (Reads count at ∷ more) second (inr h) = inr (stands-before state more second h)
stands-before state (Sends bytes ∷ more) second h = stands-before state more second h

pub stands-behind : {S : Type 0} (state : S) (first second : List (Observation S)) → StandsAt state second → StandsAt state (first ++ second)
stands-behind state [] second h = h
stands-behind state (Prints text at ∷ more) second h = inr (stands-behind state more second h)
stands-behind state (Reads count at ∷ more) second h = inr (stands-behind state more second h)
stands-behind state (Sends bytes ∷ more) second h = stands-behind state more second h

pub stands-map : {S T : Type 0} (f : S → T) (state : S) (made : List (Observation S)) → StandsAt state made → StandsAt (f state) (map_made f made)
stands-map f state [] h = absurd h
stands-map f state (Prints text at ∷ more) (inl h) = inl (ap f h)
stands-map f state (Prints text at ∷ more) (inr h) = inr (stands-map f state more h)
stands-map f state (Reads count at ∷ more) (inl h) = inl (ap f h)
stands-map f state (Reads count at ∷ more) (inr h) = inr (stands-map f state more h)
stands-map f state (Sends bytes ∷ more) h = stands-map f state more h

-- a state in which one of all comes is one in which one of the first comes, or one of the others
pub stands-either : {S : Type 0} (state : S) (first second : List (Observation S)) → StandsAt state (first ++ second) → StandsAt state first ⊎ StandsAt state second
stands-either state [] second h = inr h
stands-either state (Prints text at ∷ more) second (inl h) = inl (inl h)
stands-either state (Prints text at ∷ more) second (inr h) = elim (stands-either state more second h) [ inl x ↦ inl (inr x) | inr x ↦ inr x ]
stands-either state (Reads count at ∷ more) second (inl h) = inl (inl h)
stands-either state (Reads count at ∷ more) second (inr h) = elim (stands-either state more second h) [ inl x ↦ inl (inr x) | inr x ↦ inr x ]
stands-either state (Sends bytes ∷ more) second h = stands-either state more second h

-- where each has another state in its place, it comes from the state that it had
pub stands-mapped : {S T : Type 0} (f : S → T) (state : T) (made : List (Observation S)) → StandsAt state (map_made f made) → (at : S) × StandsAt at made × (state ≡ f at)
stands-mapped f state [] h = absurd h
stands-mapped f state (Prints text at ∷ more) (inl h) = (at, inl refl, h)
stands-mapped f state (Prints text at ∷ more) (inr h) = let x = stands-mapped f state more h in (x.0, inr x.1, x.2)
stands-mapped f state (Reads count at ∷ more) (inl h) = (at, inl refl, h)
stands-mapped f state (Reads count at ∷ more) (inr h) = let x = stands-mapped f state more h in (x.0, inr x.1, x.2)
stands-mapped f state (Sends bytes ∷ more) h = stands-mapped f state more h
