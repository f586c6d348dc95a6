-- One level of an indirect chain.
use Rattle.std.proofs.Common.{◌≡◌, ℕ, ◌+◌, ◌%◌, ◌^◌, ◌<◌, ◌≤◌, zero, suc, nat_lt, Some, None, refl, ◌∙◌, inl, inr, arith}
use Rattle.std.specs.Prelude.{slice_set}
use Rattle.std.proofs.lemmas.Grind.{common_steps}
use Rattle.std.proofs.lemmas.Bool.{cases_lt, cond_both}
use Rattle.std.proofs.lemmas.Bool.Decides.{nat_tests}
use Rattle.nova_memory.specs.Memory.{MemoryState, get, put}
use Rattle.nova_memory.specs.Address.{IsAutoIndex, changed, tested, chain}

pub chain-none : (left : ℕ) (m : MemoryState) (a : ℕ) → left ≡ 0 → chain left m a ≡ record { memory = m; address = None }
unfolding chain
chain-none zero m a none = refl
chain-none (suc left) m a none = absurd (omega arith)

pub chain-end : (left : ℕ) (m after : MemoryState) (a v t next : ℕ) → 0 < left → v ≡ changed a (get m a) → t ≡ tested m.before (get m a) (changed a (get m a)) → after ≡ put m a (changed a (get m a)) → t < 2 ^ 15 → next ≡ v % 2 ^ 15
    → chain left m a ≡ record { memory = after; address = Some next }
unfolding chain
chain-end zero m after a v t next some word test stored low low_bits = absurd (omega arith)
chain-end (suc left) m after a v t next some word test stored low low_bits = grind (arith, nat_tests)

pub chain-next : (left rest : ℕ) (m after : MemoryState) (a v t next : ℕ) → left ≡ rest + 1 → v ≡ changed a (get m a) → t ≡ tested m.before (get m a) (changed a (get m a)) → after ≡ put m a (changed a (get m a)) → 2 ^ 15 ≤ t → next ≡ v % 2 ^ 15
    → chain rest after next ≡ chain left m a
unfolding chain
chain-next zero rest m after a v t next one word test stored high low_bits = absurd (omega arith)
chain-next (suc left) rest m after a v t next one word test stored high low_bits =
    let same : rest ≡ left = omega arith in
    grind (arith, nat_tests)

pub put-size : (m : MemoryState) (a v : ℕ) → (put m a v).size ≡ m.size
put-size m a v = grind (arith, nat_tests)

-- .. and no word changes the rule of the auto-index locations
pub put-rule : (m : MemoryState) (a v : ℕ) → (put m a v).before ≡ m.before
put-rule m a v = cond_both (nat_lt a m.size) (record m { words = slice_set m.words a v }) m (λ (n : MemoryState). n.before ≡ m.before) (λ _. refl) (λ _. refl)

-- the change of one level leaves every place that is not an auto-index location
put-changed-elsewhere : (m : MemoryState) (a b : ℕ) → ¬ IsAutoIndex b → get (put m a (changed a (get m a))) b ≡ get m b
put-changed-elsewhere m a b outside = grind (arith, common_steps, nat_tests)

pub chain-size : (left : ℕ) (m : MemoryState) (a : ℕ) → (chain left m a).memory.size ≡ m.size
chain-size zero m a = rw (chain-none 0 m a refl)
chain-size (suc left) m a =
    let v = changed a (get m a) in
    let t = tested m.before (get m a) v in
    let after = put m a v in
    elim (cases_lt t (2 ^ 15)) [
      | inl low ↦ rw (chain-end (suc left) m after a v t (v % 2 ^ 15) (omega arith) refl refl refl low refl) (put-size m a v)
      | inr high ↦ rw (← chain-next (suc left) left m after a v t (v % 2 ^ 15) (omega arith) refl refl refl high refl) (chain-size left after (v % 2 ^ 15) ∙ put-size m a v)
    ]

pub chain-rule : (left : ℕ) (m : MemoryState) (a : ℕ) → (chain left m a).memory.before ≡ m.before
chain-rule zero m a = rw (chain-none 0 m a refl)
chain-rule (suc left) m a =
    let v = changed a (get m a) in
    let t = tested m.before (get m a) v in
    let after = put m a v in
    elim (cases_lt t (2 ^ 15)) [
      | inl low ↦ rw (chain-end (suc left) m after a v t (v % 2 ^ 15) (omega arith) refl refl refl low refl) (put-rule m a v)
      | inr high ↦ rw (← chain-next (suc left) left m after a v t (v % 2 ^ 15) (omega arith) refl refl refl high refl) (chain-rule left after (v % 2 ^ 15) ∙ put-rule m a v)
    ]

pub chain-elsewhere : (left : ℕ) (m : MemoryState) (a b : ℕ) → ¬ IsAutoIndex b → get (chain left m a).memory b ≡ get m b
chain-elsewhere zero m a b outside = rw (chain-none 0 m a refl)
chain-elsewhere (suc left) m a b outside =
    let v = changed a (get m a) in
    let t = tested m.before (get m a) v in
    let after = put m a v in
    elim (cases_lt t (2 ^ 15)) [
      | inl low ↦ rw (chain-end (suc left) m after a v t (v % 2 ^ 15) (omega arith) refl refl refl low refl) (put-changed-elsewhere m a b outside)
      | inr high ↦ rw (← chain-next (suc left) left m after a v t (v % 2 ^ 15) (omega arith) refl refl refl high refl) (chain-elsewhere left after (v % 2 ^ 15) b outside ∙ put-changed-elsewhere m a b outside)
    ]
