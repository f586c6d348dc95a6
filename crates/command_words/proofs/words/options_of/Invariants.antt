use Rattle.std.proofs.Common.{◌≡◌, drop}
use Rattle.command_words.specs.Words.{options_of, options_from, texts_of}
use Rattle.command_words.proofs.words.options_of.Given as goal

-- what is left of the words chooses what all of them choose
abbrev pub invariant-loop-place : goal.invariant-loop-place
invariant-loop-place l = options_of (texts_of l.words) ≡ options_from l.place l.choices (texts_of (drop l.place l.words))
