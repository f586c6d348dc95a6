use Rattle.std.proofs.Common.{◌-◌, ◌∙◌, ℕ, length, refl, ap}
use Rattle.binary_load.specs.Tape.{front}
use Rattle.binary_load.proofs.ReadingLemmas.{found_passed, passed_within, found_start, found_end}
use Rattle.binary_load.proofs.ReadingLemmas.{fine_behind, loaded_behind, loaded_end, never_faulty, left_within, left_whole}
use Rattle.binary_load.proofs.ReadingLemmas.{left_place}
use Rattle.binary_load.proofs.loading.store_all.Goals as goal

pub loop-stores-preserved : goal.loop-stores-preserved
loop-stores-preserved c =
    let l = c.loop-stores in
    let rest = l.rest.now in
    let bytes = length c.args.bytes.now in
    let passed = c.in-Ok-Passed.passed in
    let within = l.invariant.within in
    let size = c.args.memory.now.size in
    let here = passed_within c.size.result rest _ _ passed c.in-Ok-Passed.field-0-is c.in-Ok-Passed.ensures.within in
    let item = found_passed rest _ _ passed _ c.in-Ok-Passed.field-0-is c.in-Ok-Passed.ensures.item
    ∙ ap (λ (x : ℕ). front x (bytes - length rest) rest) (c.size.ensures.size ∙ l.invariant.size) in
    record {
      within = left_within bytes _ passed rest within;
      size = c.store.ensures.size ∙ l.invariant.size;
      fine = fine_behind size (bytes - length rest) _ passed rest _ _ item (left_whole _ passed rest refl)
          (left_place bytes _ passed rest refl within here) l.invariant.fine;
      stored = loaded_behind size (bytes - length rest) _ passed rest _ _ l.memory c.store.new.memory _ item
          (left_whole _ passed rest refl)
          (left_place bytes _ passed rest refl within here) l.invariant.fine
          c.store.ensures.memory l.invariant.stored;
    }

pub returns-in-Ok-Start-clause-memory : goal.returns-in-Ok-Start-clause-memory
returns-in-Ok-Start-clause-memory c =
    let l = c.loop-stores in
    let rest = l.rest.now in
    let bytes = length c.args.bytes.now in
    let item = found_start rest _ _ _ c.in-Ok-Start.field-0-is c.in-Ok-Start.ensures.item
    ∙ ap (λ (x : ℕ). front x (bytes - length rest) rest) (c.size.ensures.size ∙ l.invariant.size) in
    loaded_end c.args.memory.now.size (bytes - length rest) rest _ l.memory _ item l.invariant.stored

pub returns-in-Ok-End-clause-memory : goal.returns-in-Ok-End-clause-memory
returns-in-Ok-End-clause-memory c =
    let l = c.loop-stores in
    let rest = l.rest.now in
    let bytes = length c.args.bytes.now in
    let item = found_end rest _ _ c.in-Ok-End.field-0-is c.in-Ok-End.ensures.item
    ∙ ap (λ (x : ℕ). front x (bytes - length rest) rest) (c.size.ensures.size ∙ l.invariant.size) in
    loaded_end c.args.memory.now.size (bytes - length rest) rest _ l.memory _ item l.invariant.stored

pub returns-in-Err-clause-memory : goal.returns-in-Err-clause-memory
returns-in-Err-clause-memory c =
    let l = c.loop-stores in
    let rest = l.rest.now in
    let bytes = length c.args.bytes.now in
    let item = c.in-Err.ensures.item
    ∙ ap (λ (x : ℕ). front x (bytes - length rest) rest) (c.size.ensures.size ∙ l.invariant.size) in
    absurd (never_faulty c.args.memory.now.size (bytes - length rest) rest _ item l.invariant.fine)
