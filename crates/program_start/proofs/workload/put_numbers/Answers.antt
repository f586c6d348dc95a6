use Rattle.std.proofs.Common.{◌≡◌, ◌-◌, ◌+◌, ℕ, refl, ap, sym, ◌∙◌, rules}
use Rattle.nova_memory.specs.Memory.{put}
use Rattle.program_start.specs.Workload.{words_behind, with_words, word_of_number}
use Rattle.program_start.proofs.WorkloadLemmas.{one-word, no-word}
use Rattle.program_start.proofs.workload.put_numbers.Goals as goal

pub loop-at-init : goal.loop-at-init
loop-at-init c = refl

pub loop-at-preserved : goal.loop-at-preserved
loop-at-preserved c =
    let at = c.loop-at.at in
    let now : c.put.new.memory ≡ put c.loop-at.memory at (word_of_number c.next_number-last.result) = c.put.ensures in
    (λ i. with_words (now i) (at + 1) (words_behind c.next_number-last.result (0o11000 - (at + 1))))
    ∙ ap (λ (x : ℕ). with_words (put c.loop-at.memory at (word_of_number x)) (at + 1) (words_behind x (0o11000 - (at + 1)))) c.next_number-last.ensures
    ∙ sym (one-word c.loop-at.last at 0o11000 c.loop-at.memory c.loop-at-test.true) ∙ c.loop-at.invariant

pub returns : goal.returns
returns c = sym (no-word c.loop-at.last c.loop-at.at 0o11000 c.loop-at.memory (search rules)) ∙ c.loop-at.invariant
