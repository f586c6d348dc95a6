use Rattle.std.proofs.Common.{◌≡◌, ◌+◌, ◌-◌, ◌∙◌, ap, length, arith}
use Rattle.nova_memory.specs.Memory.{get}
use Rattle.binary_load.proofs.DumpLemmas.{words_next, words_all, length-words_from}
use Rattle.binary_load.proofs.dumping.words_from.Goals as goal

pub loop-at-preserved : goal.loop-at-preserved
loop-at-preserved c =
    let l = c.loop-at in
    let m = c.args.memory.now in
    let here : c.of_word.result ≡ l.at = omega arith in
    let word : c.push.inside.0 ≡ get m l.at = c.push.view_is ∙ c.read.ensures.word ∙ ap (get m) here in
    words_next m l.at (c.args.to + 1 - l.at) _ c.push.inside.0 l.words.items c.push-in-loop-at.new.self.items _ l.invariant
    (omega arith) word c.in_ok-push.ensures.items

pub returns-clause-words : goal.returns-clause-words
returns-clause-words c =
    let l = c.loop-at in
    words_all c.args.memory.now l.at (c.args.to + 1 - l.at) l.words.items _ l.invariant (omega arith)

pub returns-clause-length : goal.returns-clause-length
returns-clause-length c =
    let l = c.loop-at in
    let m = c.args.memory.now in
    ap length (words_all m l.at (c.args.to + 1 - l.at) l.words.items _ l.invariant (omega arith))
    ∙ length-words_from (c.args.to + 1 - c.args.from) c.args.from m
