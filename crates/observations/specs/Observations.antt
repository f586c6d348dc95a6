-- What a session does across its edge, in order. Where it can end early, an observation carries the state in which it
-- comes, so that such an end can be read off the list. `S` is the type of that state.
use Rattle.std.specs.Prelude.{◌≡◌, ◌⊎◌, ℕ, ◌+◌, List, [], ◌∷◌, ◌++◌}

-- A text that is printed; reads of that many bytes, where to find the end of the input counts as one; or bytes that are
-- sent to callers of terminal lines, each behind the number of its caller. No session ends at a byte that is sent.
pub data Observation (S : Type 0) : Type 0 where
  Prints : List ℕ → S → Observation S
  Reads : ℕ → S → Observation S
  Sends : List (ℕ × ℕ) → Observation S

-- how a session is over
pub record Ended (S : Type 0) : Type 0 where
  pub status : ℕ
  pub state : S

-- all that a session does where nothing fails
pub record Trace (S : Type 0) : Type 0 where
  pub made : List (Observation S)
  pub ended : Ended S

-- the trace that begins with these observations
abbrev pub after_made : {S : Type 0} → List (Observation S) → Trace S → Trace S
after_made made t = record { made = made ++ t.made; ended = t.ended }

-- all the text that is printed
abbrev pub text_of : {S : Type 0} → List (Observation S) → List ℕ
text_of [] = []
text_of (Prints text at ∷ more) = text ++ text_of more
text_of (Reads count at ∷ more) = text_of more
text_of (Sends bytes ∷ more) = text_of more

-- how many reads are made
abbrev pub reads_of : {S : Type 0} → List (Observation S) → ℕ
reads_of [] = 0
reads_of (Prints text at ∷ more) = reads_of more
reads_of (Reads count at ∷ more) = count + reads_of more
reads_of (Sends bytes ∷ more) = reads_of more

-- all the bytes that are sent, each with its caller
abbrev pub sent_of : {S : Type 0} → List (Observation S) → List (ℕ × ℕ)
sent_of [] = []
sent_of (Prints text at ∷ more) = sent_of more
sent_of (Reads count at ∷ more) = sent_of more
sent_of (Sends bytes ∷ more) = bytes ++ sent_of more

-- the same with another state in each place
abbrev pub map_made : {S T : Type 0} → (S → T) → List (Observation S) → List (Observation T)
map_made f [] = []
map_made f (Prints text at ∷ more) = Prints text (f at) ∷ map_made f more
map_made f (Reads count at ∷ more) = Reads count (f at) ∷ map_made f more
map_made f (Sends bytes ∷ more) = Sends bytes ∷ map_made f more

abbrev pub map_ended : {S T : Type 0} → (S → T) → Ended S → Ended T
map_ended f ended = record { status = ended.status; state = f ended.state }

abbrev pub map_trace : {S T : Type 0} → (S → T) → Trace S → Trace T
map_trace f t = record { made = map_made f t.made; ended = map_ended f t.ended }

-- the state in which one of the texts or reads comes
abbrev pub StandsAt : {S : Type 0} → S → List (Observation S) → Type 0
StandsAt state [] = ⊥
StandsAt state (Prints text at ∷ more) = (state ≡ at) ⊎ StandsAt state more
StandsAt state (Reads count at ∷ more) = (state ≡ at) ⊎ StandsAt state more
StandsAt state (Sends bytes ∷ more) = StandsAt state more
