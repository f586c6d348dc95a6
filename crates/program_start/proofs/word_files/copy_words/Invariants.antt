use Rattle.std.proofs.Common.{◌≡◌, take}
use Rattle.command_words.specs.Words.{texts_of}
use Rattle.program_start.proofs.word_files.copy_words.Given as goal

-- the words so far are copied
abbrev pub invariant-loop-word : goal.invariant-loop-word
invariant-loop-word l = texts_of l.copies.items ≡ take l.word-index (texts_of l.words)
