-- The words of a workload, one at a time.
use Rattle.std.proofs.Common.{◌≡◌, ℕ, suc, ◌+◌, ◌-◌, ◌<◌, ◌≤◌, refl, ap, ◌∙◌, arith}
use Rattle.nova_memory.specs.Memory.{MemoryState, put}
use Rattle.program_start.specs.Workload.{next_number, word_of_number, words_behind, with_words}

words-none : (x : ℕ) (m : MemoryState) (at : ℕ) → with_words m at (words_behind x 0) ≡ m
unfolding words_behind
words-none x m at = refl

words-more : (x count : ℕ) (m : MemoryState) (at : ℕ) → with_words m at (words_behind x (suc count)) ≡ with_words (put m at (word_of_number (next_number x))) (at + 1) (words_behind (next_number x) count)
unfolding words_behind
words-more x count m at = refl

-- one of so many words that are left, which end before that address
pub one-word : (x at end : ℕ) (m : MemoryState) → at < end
    → with_words m at (words_behind x (end - at)) ≡ with_words (put m at (word_of_number (next_number x))) (at + 1) (words_behind (next_number x) (end - (at + 1)))
one-word x at end m more =
    let left : end - at ≡ suc (end - (at + 1)) = omega (arith, more) in
    ap (λ (n : ℕ). with_words m at (words_behind x n)) left ∙ words-more x (end - (at + 1)) m at

pub no-word : (x at end : ℕ) (m : MemoryState) → end ≤ at → with_words m at (words_behind x (end - at)) ≡ m
no-word x at end m all =
    let none : end - at ≡ 0 = omega (arith, all) in
    ap (λ (n : ℕ). with_words m at (words_behind x n)) none ∙ words-none x m at
