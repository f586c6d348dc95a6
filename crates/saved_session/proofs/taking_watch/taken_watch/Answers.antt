use Rattle.std.proofs.Common.{◌≡◌, List, length, map, ap, ◌∙◌, arith}
use Rattle.std.proofs.lemmas.List.{length-map}
use Rattle.saved_session.specs.Parts.{BreakPart, ExpectPart, break_in, expect_in}
use Rattle.saved_session.specs.SavedWatch.{saved_break, saved_expect}
use Rattle.saved_session.proofs.taking_watch.taken_watch.Goals as goal

pub returns-clause-fit : goal.returns-clause-fit
returns-clause-fit c =
    let w = c.watch.inside in
    let breaks : length (map break_in c.in_ok-breaks.breaks.items) ≡ length w.breaks.list =
    ap (λ (l : List BreakPart). length l) c.in_ok-breaks.ensures.breaks ∙ length-map w.breaks.list saved_break in
    let expects : length (map expect_in c.in_ok-expects.expects.items) ≡ length w.expects.list =
    ap (λ (l : List ExpectPart). length l) c.in_ok-expects.ensures.expects ∙ length-map w.expects.list saved_expect in
    let breaks_are = c.len-most_breaks.ensures.length in
    let few_breaks = c.len-most_breaks.ensures.most in
    let expects_are = c.len-most_expects.ensures.length in
    let few_expects = c.len-most_expects.ensures.most in
    let short = c.in_ok-tail.ensures.short in
    let few = c.in_ok-sends.ensures.few in
    record {
      breaks = omega (arith, breaks, breaks_are, few_breaks);
      actions = c.in_ok-breaks.ensures.fit;
      expects = omega (arith, expects, expects_are, few_expects);
      texts = c.in_ok-expects.ensures.fit;
      tail = omega (arith, short);
      sends = omega (arith, few);
    }
