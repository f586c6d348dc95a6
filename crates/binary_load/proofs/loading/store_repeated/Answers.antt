use Rattle.std.proofs.Common.{◌∙◌, ◌+◌, ◌-◌, ap, arith}
use Rattle.nova_memory.specs.Memory.{MemoryState}
use Rattle.nova_memory.proofs.Chains.{put-size}
use Rattle.binary_load.proofs.StoreLemmas.{repeated_next}
use Rattle.binary_load.proofs.loading.store_repeated.Goals as goal

pub loop-at-preserved : goal.loop-at-preserved
loop-at-preserved c =
    let l = c.loop-at in
    record {
      stored = repeated_next l.memory c.write.new.self _ l.at c.of_word.result (c.args.origin + c.args.count - l.at)
          (c.args.origin + c.args.count - (l.at + 1)) c.args.word l.invariant.stored c.write.ensures c.of_word.ensures (omega arith) (omega arith);
      size = ap (λ (m : MemoryState). m.size) c.write.ensures ∙ put-size l.memory c.of_word.result c.args.word
          ∙ l.invariant.size;
    }
