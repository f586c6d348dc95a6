use Rattle.std.proofs.Common.{◌≡◌, ◌∷◌, [], ◌++◌, length, get_or, ◌∙◌, rules}
use Rattle.expect_actions.proofs.SendLemmas.{queue_more}
use Rattle.expect_actions.proofs.sends.queue.Goals as goal

pub loop-b-preserved : goal.loop-b-preserved
loop-b-preserved c =
    let here = length c.loop-b.list.items in
    let pushed : c.push_back.new.self.items ≡ c.loop-b.list.items ++ (c.loop-b.due, get_or c.args.text.now c.loop-b.b-index 0) ∷ [] = search rules in
    record {
      rest =
          queue_more c.args.text.now c.loop-b.b-index c.args.delay c.loop-b.due c.min-due.result c.loop-b.list.items c.push_back.new.self.items
          c.loop-b-test.true c.loop-b.invariant.within (search rules) pushed
          ∙ c.loop-b.invariant.rest;
      within = search rules;
      long = search rules;
      capacity = search rules;
    }
