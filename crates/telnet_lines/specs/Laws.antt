-- Laws of what a connection gives: in the words of RFC 854, sequence by sequence; and under any cutting.
use Rattle.std.specs.Prelude.{◌≡◌, ◌≢◌, ℕ, ◌<◌, ◌≤◌, List, [], ◌∷◌, ◌++◌}
use Rattle.telnet_lines.specs.Telnet.{iac, sb, se, text, keys_of, rest_of, further_keys, further_rest}

abbrev pub data_of : List ℕ → List ℕ
data_of received = (text received).data_bytes

-- the inside of a subnegotiation: bytes that are no IAC, and pairs of an IAC and a byte that is no SE
pub data IsInside : List ℕ → Type 0 where
  Empty : IsInside []
  Byte : (b : ℕ) (more : List ℕ) → b ≢ iac → IsInside more → IsInside (b ∷ more)
  Pair : (c : ℕ) (more : List ℕ) → c ≢ se → IsInside more → IsInside (iac ∷ c ∷ more)

-- a sequence that is not whole
pub data IsUnfinished : List ℕ → Type 0 where
  Nothing : IsUnfinished []
  Iac : IsUnfinished (iac ∷ [])
  Option : (c : ℕ) → 251 ≤ c → c ≤ 254 → IsUnfinished (iac ∷ c ∷ [])
  Subnegotiation : (inside : List ℕ) → IsInside inside → IsUnfinished (iac ∷ sb ∷ inside)
  SubnegotiationIac : (inside : List ℕ) → IsInside inside → IsUnfinished (iac ∷ sb ∷ (inside ++ iac ∷ []))

-- What each sequence gives that stands in front of a text: every text of bytes begins with one of these, or is unfinished.
pub record ReadBySequences : Type 0 where
  pub plain : (b : ℕ) (more : List ℕ) → b ≢ iac → data_of (b ∷ more) ≡ b ∷ data_of more
  pub doubled : (more : List ℕ) → data_of (iac ∷ iac ∷ more) ≡ iac ∷ data_of more
  pub option : (c option : ℕ) (more : List ℕ) → 251 ≤ c → c ≤ 254 → data_of (iac ∷ c ∷ option ∷ more) ≡ data_of more
  pub subnegotiation : (inside more : List ℕ) → IsInside inside → data_of (iac ∷ sb ∷ (inside ++ iac ∷ se ∷ more)) ≡ data_of more
  pub other : (c : ℕ) (more : List ℕ) → c < sb → data_of (iac ∷ c ∷ more) ≡ data_of more
  pub unfinished : (front : List ℕ) → IsUnfinished front → data_of front ≡ []

-- The keys of bytes and of further bytes are those of all of them, wherever they are cut; and which keys further bytes give
-- depends on what was left undecoded alone.
pub record CutAnywhere : Type 0 where
  pub keys : (received more : List ℕ) → keys_of (received ++ more) ≡ keys_of received ++ further_keys (rest_of received) more
  pub rest : (received more : List ℕ) → rest_of (received ++ more) ≡ further_rest (rest_of received) more
