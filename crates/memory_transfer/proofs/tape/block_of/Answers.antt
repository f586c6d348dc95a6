use Rattle.std.proofs.Common.{◌%◌, ◌*◌, ◌/◌, ◌+◌, ◌∙◌, ◌≡◌, ◌<◌, ap, ℕ, List, [], ◌∷◌, set, take, get_or, subst, sym, arith}
use Rattle.std.proofs.lemmas.List.{length-set}
use Rattle.nova_memory.specs.Memory.{get}
use Rattle.memory_transfer.specs.Words.{address_on}
use Rattle.memory_transfer.specs.Tapes.{block_got}
use Rattle.memory_transfer.proofs.Blocks.{block-more, block-all}
use Rattle.memory_transfer.proofs.tape.block_of.Goals as goal

pub loop-n-preserved : goal.loop-n-preserved
loop-n-preserved c =
    let place = c.from-place.result in
    let bytes = c.loop-n.bytes in
    let few : c.loop-n.n < 4096 = omega (arith, c.loop-n-test.true, c.requires.most) in
    let word : c.word.inside.0 ≡ get c.args.memory.now (address_on c.args.address c.loop-n.n) =
    c.word.view_is ∙ c.read-word.ensures.word ∙ ap (λ (a : ℕ). get c.args.memory.now a) c.of_word.ensures in
    let two : c.tape_bytes.result ≡ (c.word.inside.0 / 256) ∷ (c.word.inside.0 % 256) ∷ [] = c.tape_bytes.ensures in
    let put : List ℕ → List ℕ = λ b. set (set bytes (2 * place) (get_or b 0 0)) (2 * place + 1) (get_or b 1 0) in
    record {
      got = subst (λ (b : List ℕ). take (2 * (c.loop-n.n + 1)) (put b) ≡ block_got (c.loop-n.n + 1) c.args.address c.args.memory.now) (sym two)
          (block-more c.loop-n.n place c.args.address c.word.inside.0 bytes c.args.memory.now c.from-place.ensures few c.loop-n.invariant.long word
          c.loop-n.invariant.got);
      long = length-set (set bytes (2 * place) (get_or c.tape_bytes.result 0 0)) (2 * place + 1) (get_or c.tape_bytes.result 1 0)
          ∙ length-set bytes (2 * place) (get_or c.tape_bytes.result 0 0) ∙ c.loop-n.invariant.long;
    }

pub returns : goal.returns
returns c =
    block-all c.loop-n.n c.args.words c.args.address c.loop-n.bytes c.args.memory.now c.loop-n-test.false c.loop-n.auto.n-end c.loop-n.invariant.got
