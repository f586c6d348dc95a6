use Rattle.std.proofs.Common.{sym, ◌∙◌}
use Rattle.command_words.proofs.WordsLemmas.{few-arguments}
use Rattle.command_words.proofs.words.are_arguments.Goals as goal

pub returns-then-words-le-MOST_ARGUMENTS : goal.returns-then-words-le-MOST_ARGUMENTS
returns-then-words-le-MOST_ARGUMENTS c = c.have_bytes.ensures ∙ sym (few-arguments c.args.words.now c.if-words-le-MOST_ARGUMENTS.true)
