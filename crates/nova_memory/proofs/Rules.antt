-- References that pass no auto-index location come to the same by both rules.
use Rattle.std.proofs.Common.{◌≡◌, ℕ, ◌%◌, ◌^◌, ◌<◌, ◌≤◌, zero, suc, slice_index, Bool, true, false, Some, refl, sym, ap, ◌∙◌, inl, inr, arith, nat_lt, if◌then◌else◌}
use Rattle.std.specs.Prelude.{List}
use Rattle.std.proofs.lemmas.Bool.{cases_lt}
use Rattle.std.proofs.lemmas.Bool.Decides.{nat_tests}
use Rattle.std.proofs.lemmas.List.{set-get_or}
use Rattle.nova_memory.specs.Memory.{MemoryState, get, put, by_rule}
use Rattle.nova_memory.specs.Address.{Reference, IsAutoIndex, changed, tested, chain}
use Rattle.nova_memory.specs.Laws.{PassesNone, RulesAgree}
use Rattle.nova_memory.proofs.Chains.{chain-none, chain-end, chain-next}

-- outside these locations no word changes
changed-same : (a v : ℕ) → ¬ IsAutoIndex a → changed a v ≡ v
changed-same a v outside = grind (arith, nat_tests)

tested-same : (before : Bool) (v : ℕ) → tested before v v ≡ v
tested-same true v = refl
tested-same false v = refl

put-same : (m : MemoryState) (a : ℕ) → put m a (get m a) ≡ m
put-same m a = by (nat_lt a m.size)
  where
    by : (b : Bool) → (if b then record m { words = Rattle.std.specs.Prelude.slice_set m.words a (if b then slice_index m.words a else 0) } else m) ≡ m
    by true = ap (λ (ws : List ℕ). record m { words = ws }) (set-get_or m.words a 0)
    by false = refl

-- one level of such a reference, by both rules
level-end : (left : ℕ) (m : MemoryState) (a : ℕ) → ¬ IsAutoIndex a → get m a < 2 ^ 15 → chain (suc left) m a ≡ record { memory = m; address = Some (get m a % 2 ^ 15) }
level-end left m a outside low =
    let v = get m a in
    let same = changed-same a v outside in
    chain-end (suc left) m m a v v (v % 2 ^ 15) (omega arith) (sym same) (sym (ap (tested m.before v) same ∙ tested-same m.before v)) (sym (ap (put m a) same ∙ put-same m a)) low refl

level-next : (left : ℕ) (m : MemoryState) (a : ℕ) → ¬ IsAutoIndex a → 2 ^ 15 ≤ get m a → chain left m (get m a % 2 ^ 15) ≡ chain (suc left) m a
level-next left m a outside high =
    let v = get m a in
    let same = changed-same a v outside in
    chain-next (suc left) left m m a v v (v % 2 ^ 15) (omega arith) (sym same) (sym (ap (tested m.before v) same ∙ tested-same m.before v)) (sym (ap (put m a) same ∙ put-same m a)) high refl

pub rules-agree : RulesAgree
unfolding PassesNone
rules-agree zero m a before passes =
    chain-none 0 (by_rule before m) a refl ∙ ap (λ (r : Reference). record { memory = by_rule before m; address = r.address }) (sym (chain-none 0 m a refl))
rules-agree (suc left) m a before passes = elim (cases_lt (get m a) (2 ^ 15)) [
  | inl low ↦
      level-end left (by_rule before m) a passes.0 low
      ∙ ap (λ (r : Reference). record { memory = by_rule before m; address = r.address }) (sym (level-end left m a passes.0 low))
  | inr high ↦
      sym (level-next left (by_rule before m) a passes.0 high)
      ∙ rules-agree left m (get m a % 2 ^ 15) before (passes.1 high)
      ∙ ap (λ (r : Reference). record { memory = by_rule before m; address = r.address }) (level-next left m a passes.0 high)
]
