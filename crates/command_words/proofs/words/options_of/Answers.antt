use Rattle.std.proofs.Common.{◌+◌, List, String, Global, ap, sym, ◌∙◌, string_bytes}
use Rattle.command_words.specs.Words.{options_of, texts_of, with_script}
use Rattle.command_words.proofs.WordsLemmas.{rest-same, word-script, word-refused, word-taken, words-all, all-named, all-paid}
use Rattle.command_words.proofs.words.options_of.Goals as goal

pub returns-then-is_script-clause-options : goal.returns-then-is_script-clause-options
returns-then-is_script-clause-options c =
    c.with_script.ensures
    ∙ ap (λ (more : List (String Global)). with_script c.loop-place.place c.loop-place.choices (string_bytes c.index-words-place.result) (texts_of more)) (rest-same c.args.words.now (c.loop-place.place + 1))
    ∙ sym (word-script c.loop-place.choices c.args.words.now c.loop-place.place c.index-words-place.result c.is_script.result (options_of (texts_of c.args.words.now)) c.loop-place-test.true c.index-words-place.is
    c.is_script.ensures c.if-is_script.true c.loop-place.invariant)

pub returns-then-is_script-clause-named : goal.returns-then-is_script-clause-named
returns-then-is_script-clause-named c = all-named c.args.words.now c.with_script.result (returns-then-is_script-clause-options c)

pub returns-then-is_script-clause-budget : goal.returns-then-is_script-clause-budget
returns-then-is_script-clause-budget c = all-paid c.args.words.now c.with_script.result (returns-then-is_script-clause-options c)

pub returns-in-None-clause-options : goal.returns-in-None-clause-options
returns-in-None-clause-options c =
    word-refused c.loop-place.choices c.args.words.now c.loop-place.place c.index-words-place.result c.is_script.result (options_of (texts_of c.args.words.now)) c.loop-place-test.true c.index-words-place.is
    c.is_script.ensures c.if-is_script.false c.loop-place.invariant c.in-None.ensures

pub loop-place-preserved : goal.loop-place-preserved
loop-place-preserved c =
    word-taken c.loop-place.choices c.in-Some.next c.args.words.now c.loop-place.place c.index-words-place.result c.is_script.result (options_of (texts_of c.args.words.now)) c.loop-place-test.true c.index-words-place.is
    c.is_script.ensures c.if-is_script.false c.loop-place.invariant c.in-Some.ensures

pub returns-clause-options : goal.returns-clause-options
returns-clause-options c =
    c.all_chosen.ensures ∙ sym (words-all c.loop-place.choices c.args.words.now c.loop-place.place (options_of (texts_of c.args.words.now)) c.loop-place-test.false c.loop-place.invariant)

pub returns-clause-named : goal.returns-clause-named
returns-clause-named c = all-named c.args.words.now c.all_chosen.result (returns-clause-options c)

pub returns-clause-budget : goal.returns-clause-budget
returns-clause-budget c = all-paid c.args.words.now c.all_chosen.result (returns-clause-options c)
