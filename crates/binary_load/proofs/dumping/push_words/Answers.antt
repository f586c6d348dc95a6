use Rattle.std.proofs.Common.{◌≡◌, ◌<◌, length, arith}
use Rattle.std.proofs.lemmas.Bool.Decides.{nat_tests}
use Rattle.binary_load.proofs.DumpLemmas.{blocks_next, blocks_all}
use Rattle.binary_load.proofs.dumping.push_words.Goals as goal

pub loop-rest-preserved : goal.loop-rest-preserved
loop-rest-preserved c =
    let l = c.loop-rest in
    let cut = c.split_at.ensures in
    let some : 0 < length l.rest.now = grind (arith, nat_tests) in
    record {
      within = omega arith;
      made = blocks_next l.at (length c.split_at.result.0.now) c.min.result _ l.tape.items c.push_block.new.tape.items
          l.rest.now c.split_at.result.0.now c.split_at.result.1.now _ l.invariant.made some cut.front_len c.min.ensures
          cut.front cut.back (omega arith) c.in_ok-push_block.ensures;
    }

pub returns : goal.returns
returns c =
    let l = c.loop-rest in
    let none : length l.rest.now ≡ 0 = grind (arith, nat_tests) in
    blocks_all l.at l.tape.items l.rest.now _ l.invariant.made none
