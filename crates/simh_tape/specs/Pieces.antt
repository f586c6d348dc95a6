-- What the parts of a reading say.
use Rattle.std.specs.Prelude.{ℕ, ◌+◌, ◌≤◌}
use Rattle.file_traits.specs.OneList.{longest_list}
use Rattle.simh_tape.specs.declared.words.Word.{Word}
use Rattle.simh_tape.specs.declared.words.Word.TheVariants.{Nothing, Cut, Is}
use Rattle.simh_tape.specs.Image.{WordAt}
use Rattle.simh_tape.specs.Image.WordAt.{AtEnd, CutShort, WordIs}

-- the word that was read, in the words of the definition
abbrev pub word_said : Word → WordAt
word_said Nothing = AtEnd
word_said Cut = CutShort
word_said (Is word) = WordIs word

-- a word that was read lies within the bytes that can be read
abbrev pub WordEnds : ℕ → Word → Type 0
WordEnds place Nothing = Unit {0}
WordEnds place Cut = Unit {0}
WordEnds place (Is word) = place + 4 ≤ longest_list
