-- A memory stays one behind a word that is put into it, and behind an indirect reference; and its words and the addresses that it
-- gives are in range.
use Rattle.std.proofs.Common.{◌≡◌, ℕ, ◌+◌, ◌-◌, ◌%◌, ◌^◌, ◌<◌, ◌==◌, ◌&&◌, ◌≤◌, ◌≢◌, zero, suc, nat_le, nat_lt, List, length, slice_index, Some, IfSome, refl, ap, cond, set, Bool, true, false, ◌∙◌, inl, inr, arith}
use Rattle.std.specs.Prelude.{slice_set}
use Rattle.std.proofs.lemmas.Bool.{cases_lt, cond_both, lt-ltb, ltb-true}
use Rattle.std.proofs.lemmas.List.{get_or_past, get_or-set_other, get_or-set_same, length-set}
use Rattle.std.proofs.lemmas.List.Elements.{All-set}
use Rattle.nova_word.specs.Bits.{bits}
use Rattle.nova_memory.specs.Memory.{MemoryState, IsMemory, get, put}
use Rattle.nova_memory.specs.Address.{Reference, displaced, indexed, changed, tested, chain, address}
use Rattle.nova_memory.proofs.Chains.{chain-none, chain-end, chain-next, chain-size, chain-rule}

-- what stands at an address is a word
pub get-word : (m : MemoryState) (a : ℕ) → IsMemory m → get m a < 2 ^ 16
get-word m a is = cond_both (nat_lt a m.size) (slice_index m.words a) 0 (λ (w : ℕ). w < 2 ^ 16) (λ _. word-low) (λ _. omega arith)
  where
    word-low : slice_index m.words a < 2 ^ 16
    word-low =
        elim (cases_lt a (length m.words)) [
          | inl within ↦ is.words a 0 within
          | inr past ↦ rw (get_or_past m.words a 0 past) (omega arith)
        ]

-- a word was put there
pub put-memory : (m : MemoryState) (a v : ℕ) → IsMemory m → v < 2 ^ 16 → IsMemory (put m a v)
put-memory m a v is word = cond_both (nat_lt a m.size) (record m { words = slice_set m.words a v }) m IsMemory (λ within. stored (ltb-true a m.size within)) (λ _. is)
  where
    stored : a < m.size → IsMemory (record m { words = slice_set m.words a v })
    stored within = record {
      whole = length-set m.words a v ∙ is.whole;
      words = All-set (λ w. w < 2 ^ 16) m.words a v word is.words;
      size = is.size;
      beyond = λ b past. get_or-set_other m.words a b v 0 (λ same. omega arith) ∙ is.beyond b past;
    }

-- the word that was put at an address is the one there
pub get-put : (m : MemoryState) (a v : ℕ) → m.size ≤ length m.words → a < m.size → get (put m a v) a ≡ v
get-put m a v whole within =
    let test = lt-ltb a m.size within in
    let there : a < length m.words = omega (arith, whole, within) in
    rw (test, test) (get_or-set_same m.words a v 0 there)

-- and no other word changes
pub get-put-other : (m : MemoryState) (a b v : ℕ) → b ≢ a → get (put m a v) b ≡ get m b
get-put-other m a b v apart = by-place (nat_lt a m.size)
  where
    by-place : (within : Bool) → get (cond within (record m { words = set m.words a v }) m) b ≡ get m b
    by-place true = ap (λ (w : ℕ). cond (nat_lt b m.size) w 0) (get_or-set_other m.words a b v 0 apart)
    by-place false = refl

pub put-long : (m : MemoryState) (a v : ℕ) → length (put m a v).words ≡ length m.words
put-long m a v = by-place (nat_lt a m.size)
  where
    by-place : (within : Bool) → length (cond within (record m { words = set m.words a v }) m).words ≡ length m.words
    by-place true = length-set m.words a v
    by-place false = refl

changed-word : (a v : ℕ) → v < 2 ^ 16 → changed a v < 2 ^ 16
changed-word a v word =
    cond_both (nat_le 0o20 a && nat_lt a 0o30) ((v + 1) % 2 ^ 16) _ (λ (w : ℕ). w < 2 ^ 16) (λ _. omega arith)
    (λ _. cond_both (nat_le 0o30 a && nat_lt a 0o40) ((v + 2 ^ 16 - 1) % 2 ^ 16) v (λ (w : ℕ). w < 2 ^ 16) (λ _. omega arith) (λ _. word))

pub chain-memory : (left : ℕ) (m : MemoryState) (a : ℕ) → IsMemory m → IsMemory (chain left m a).memory
chain-memory zero m a is = rw (chain-none 0 m a refl) is
chain-memory (suc left) m a is =
    let v = changed a (get m a) in
    let t = tested m.before (get m a) v in
    let after = put m a v in
    let stands : IsMemory after = put-memory m a v is (changed-word a (get m a) (get-word m a is)) in
    elim (cases_lt t (2 ^ 15)) [
      | inl low ↦ rw (chain-end (suc left) m after a v t (v % 2 ^ 15) (omega arith) refl refl refl low refl) stands
      | inr high ↦ rw (← chain-next (suc left) left m after a v t (v % 2 ^ 15) (omega arith) refl refl refl high refl) (chain-memory left after (v % 2 ^ 15) stands)
    ]

-- .. and its address, if it ends, is one of 15 bits
chain-low : (left : ℕ) (m : MemoryState) (a : ℕ) → IfSome (chain left m a).address (λ (at : ℕ). at < 2 ^ 15)
chain-low zero m a = rw (chain-none 0 m a refl) tt
chain-low (suc left) m a =
    let v = changed a (get m a) in
    let t = tested m.before (get m a) v in
    let after = put m a v in
    elim (cases_lt t (2 ^ 15)) [
      | inl low ↦ rw (chain-end (suc left) m after a v t (v % 2 ^ 15) (omega arith) refl refl refl low refl) (omega arith)
      | inr high ↦ rw (← chain-next (suc left) left m after a v t (v % 2 ^ 15) (omega arith) refl refl refl high refl) (chain-low left after (v % 2 ^ 15))
    ]

displaced-low : (base d : ℕ) → displaced base d < 2 ^ 15
displaced-low base d =
    cond_both (nat_lt d 0o200) ((base + d) % 2 ^ 15) ((base + 2 ^ 15 - (0o400 - d)) % 2 ^ 15) (λ (a : ℕ). a < 2 ^ 15) (λ _. omega arith) (λ _. omega arith)

indexed-low : (w pc : ℕ) (acs : List ℕ) → indexed w pc acs < 2 ^ 15
unfolding indexed
indexed-low w pc acs =
    let index = bits 6 7 w in
    let d = bits 8 15 w in
    cond_both (index == 0) d _ (λ (a : ℕ). a < 2 ^ 15) (λ _. omega arith)
    (λ _. cond_both (index == 1) (displaced pc d) (displaced (slice_index acs index) d) (λ (a : ℕ). a < 2 ^ 15) (λ _. displaced-low pc d) (λ _. displaced-low (slice_index acs index) d))

-- what holds of the chain of a word, and of its address as it stands, holds of its reference
address-either : (P : Reference → Type 0) (m : MemoryState) (w pc : ℕ) (acs : List ℕ) → P (chain 16 m (indexed w pc acs)) → P (record { memory = m; address = Some (indexed w pc acs) })
    → P (address m w pc acs)
unfolding address
address-either P m w pc acs chained once = cond_both (bits 5 5 w == 1) (chain 16 m (indexed w pc acs)) _ P (λ _. chained) (λ _. once)

pub address-memory : (m : MemoryState) (w pc : ℕ) (acs : List ℕ) → IsMemory m → IsMemory (address m w pc acs).memory
address-memory m w pc acs is = address-either (λ r. IsMemory r.memory) m w pc acs (chain-memory 16 m (indexed w pc acs) is) is

pub address-size : (m : MemoryState) (w pc : ℕ) (acs : List ℕ) → (address m w pc acs).memory.size ≡ m.size
address-size m w pc acs = address-either (λ r. r.memory.size ≡ m.size) m w pc acs (chain-size 16 m (indexed w pc acs)) refl

pub address-rule : (m : MemoryState) (w pc : ℕ) (acs : List ℕ) → (address m w pc acs).memory.before ≡ m.before
address-rule m w pc acs = address-either (λ r. r.memory.before ≡ m.before) m w pc acs (chain-rule 16 m (indexed w pc acs)) refl

pub address-low : (m : MemoryState) (w pc : ℕ) (acs : List ℕ) → IfSome (address m w pc acs).address (λ (at : ℕ). at < 2 ^ 15)
address-low m w pc acs = address-either (λ r. IfSome r.address (λ (at : ℕ). at < 2 ^ 15)) m w pc acs (chain-low 16 m (indexed w pc acs)) (indexed-low w pc acs)
