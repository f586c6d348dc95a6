use Rattle.std.proofs.Common.{ap, ◌∙◌}
use Rattle.command_words.specs.Words.{texts_of}
use Rattle.program_start.proofs.ReadingLemmas.{copied-more}
use Rattle.program_start.proofs.word_files.copy_words.Goals as goal

pub loop-word-preserved : goal.loop-word-preserved
loop-word-preserved c =
    ap texts_of c.in_ok-push.ensures.items
    ∙ copied-more c.loop-word.copies.items c.args.words.now c.loop-word.word-index c.word-item.result c.in_ok-clone.field-0 c.loop-word-test.true c.word-item.is c.in_ok-clone.ensures.cases c.loop-word.invariant
