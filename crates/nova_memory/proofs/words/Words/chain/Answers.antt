use Rattle.std.proofs.Common.{◌≡◌, ℕ, ◌+◌, ◌-◌, ◌%◌, ◌^◌, ◌<◌, ◌≤◌, ◌∙◌, refl, sym, ap, arith, rules}
use Rattle.std.proofs.lemmas.Bool.{ltb-true, ltb-false, lt-ltb, le-ltb}
use Rattle.nova_memory.specs.Memory.{MemoryState, get}
use Rattle.nova_memory.specs.Address.{Reference, changed, tested}
use Rattle.nova_memory.proofs.Chains.{chain-none, chain-end, chain-next}
use Rattle.nova_memory.proofs.words.Words.chain.Goals as goal

-- the word whose bit 0 is tested at a level
abbrev tested_at : MemoryState → ℕ → ℕ
tested_at m a = tested m.before (get m a) (changed a (get m a))

pub loop-level-preserved : goal.loop-level-preserved
loop-level-preserved c =
    let l = c.loop-level in
    let f = c.follow-level in
    let t = tested_at l.self l.at in
    let on : 2 ^ 15 ≤ f.result = search rules in
    let high : 2 ^ 15 ≤ t = ltb-false t (2 ^ 15) (sym f.ensures.ends ∙ le-ltb f.result (2 ^ 15) on) in
    let next : c.of_word-at.result ≡ changed l.at (get l.self l.at) % 2 ^ 15 = c.of_word-at.ensures ∙ f.ensures.address in
    chain-next (16 - l._level) (16 - (l._level + 1)) l.self f.new.self l.at _ t _ (omega arith) refl refl f.ensures.memory high next ∙ l.invariant

pub returns-in-Some-clause-memory : goal.returns-in-Some-clause-memory
returns-in-Some-clause-memory c =
    let l = c.loop-level in
    let f = c.follow-level in
    let t = tested_at l.self l.at in
    let ends : f.result < 2 ^ 15 = search rules in
    let low : t < 2 ^ 15 = ltb-true t (2 ^ 15) (sym f.ensures.ends ∙ lt-ltb f.result (2 ^ 15) ends) in
    let is : c.in-Some.end ≡ f.result = search rules in
    let small : f.result ≡ f.result % 2 ^ 15 = omega arith in
    let next : c.in-Some.end ≡ changed l.at (get l.self l.at) % 2 ^ 15 = is ∙ small ∙ f.ensures.address in
    let e = chain-end (16 - l._level) l.self f.new.self l.at _ t _ (omega arith) refl refl f.ensures.memory low next in
    ap (λ (r : Reference). r.memory) (sym e ∙ l.invariant)

pub returns-in-Some-clause-address : goal.returns-in-Some-clause-address
returns-in-Some-clause-address c =
    let l = c.loop-level in
    let f = c.follow-level in
    let t = tested_at l.self l.at in
    let ends : f.result < 2 ^ 15 = search rules in
    let low : t < 2 ^ 15 = ltb-true t (2 ^ 15) (sym f.ensures.ends ∙ lt-ltb f.result (2 ^ 15) ends) in
    let is : c.in-Some.end ≡ f.result = search rules in
    let small : f.result ≡ f.result % 2 ^ 15 = omega arith in
    let next : c.in-Some.end ≡ changed l.at (get l.self l.at) % 2 ^ 15 = is ∙ small ∙ f.ensures.address in
    let e = chain-end (16 - l._level) l.self f.new.self l.at _ t _ (omega arith) refl refl f.ensures.memory low next in
    ap (λ (r : Reference). r.address) (sym e ∙ l.invariant)

pub returns-clause-memory : goal.returns-clause-memory
returns-clause-memory c =
    let l = c.loop-level in
    ap (λ (r : Reference). r.memory) (sym (chain-none (16 - l._level) l.self l.at (omega arith)) ∙ l.invariant)

pub returns-clause-address : goal.returns-clause-address
returns-clause-address c =
    let l = c.loop-level in
    ap (λ (r : Reference). r.address) (sym (chain-none (16 - l._level) l.self l.at (omega arith)) ∙ l.invariant)
