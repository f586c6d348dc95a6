use Rattle.program_start.proofs.ReadingLemmas.{script-copied}
use Rattle.program_start.proofs.word_files.copy_script_words.Goals as goal

pub returns-in-Some : goal.returns-in-Some
returns-in-Some c = script-copied c.args.words.now c.args.options c.in-Some.place c.copy_words.result c.in-Some.is c.copy_words.ensures
