use Rattle.std.proofs.Common.{length, string_bytes}
use Rattle.file_commands.specs.declared.note.Subject.TheVariants as subject
use Rattle.command_words.specs.Words.{texts_of, script_name}
use Rattle.program_start.proofs.UnreadLemmas.{script-cause, none-taken}
use Rattle.program_start.proofs.WordCountLemmas.{word-counted, none-counted}
use Rattle.program_start.proofs.ReadingLemmas.{named-at, script-take}
use Rattle.program_start.proofs.ToldLemmas.{script-told}
use Rattle.program_start.proofs.word_files.take_script.Goals as goal

pub returns-in-Some-clause-told : goal.returns-in-Some-clause-told
returns-in-Some-clause-told g c = λ told.
    let within = named-at c.args.options.script (length (texts_of c.args.words.now)) c.in-Some.place c.requires.named.script c.in-Some.is in
    script-take c.args.words.now c.args.options (g.F.Files.state c.args.files.now).files c.in-Some.place c.index-words-place.result c.args.notes.now.items c.read_word-read.new.notes.items c.read_word-read.result c.script_of.result
    c.in-Some.is within c.index-words-place.is (c.read_word-read.ensures.told (script-told g.F.Files.tells c.args.options c.in-Some.place c.in-Some.is told)) c.script_of.ensures.comes

pub returns-in-Some-clause-cause : goal.returns-in-Some-clause-cause
returns-in-Some-clause-cause g c =
    let within = named-at c.args.options.script (length (texts_of c.args.words.now)) c.in-Some.place c.requires.named.script c.in-Some.is in
    c.script_of.ensures.named (texts_of c.args.words.now) c.args.options within c.in-Some.is

pub returns-in-Some-clause-closings : goal.returns-in-Some-clause-closings
returns-in-Some-clause-closings g c = λ unrefused. c.read_word-read.ensures.closings (c.script_of.ensures.unfailed unrefused)

pub returns-in-Some-clause-unread : goal.returns-in-Some-clause-unread
returns-in-Some-clause-unread g c =
    let within = named-at c.args.options.script (length (texts_of c.args.words.now)) c.in-Some.place c.requires.named.script c.in-Some.is in
    script-cause g.F.Files.tells c.args.words.now c.args.options c.in-Some.place c.index-words-place.result c.read_word-read.result c.script_of.result c.args.notes.now.items c.read_word-read.new.notes.items
    (g.F.Files.state c.args.files.now) (g.F.Files.state c.read_word-read.new.files) c.in-Some.is within c.index-words-place.is c.read_word-read.ensures.taken c.read_word-read.ensures.unread
    c.script_of.ensures.answers

pub returns-in-None-clause-unread : goal.returns-in-None-clause-unread
returns-in-None-clause-unread g c =
    none-taken g.F.Files.tells subject.Script (script_name (texts_of c.args.words.now) c.args.options) _ c.args.notes.now.items (g.F.Files.state c.args.files.now)
    (λ i. script_name (texts_of c.args.words.now) (record c.args.options { script = c.in-None.is i }))

pub returns-in-Some-clause-files : goal.returns-in-Some-clause-files
returns-in-Some-clause-files g c = λ told. c.read_word-read.ensures.files (script-told g.F.Files.tells c.args.options c.in-Some.place c.in-Some.is told)

pub returns-in-Some-clause-exact : goal.returns-in-Some-clause-exact
returns-in-Some-clause-exact g c =
    word-counted g.F.Files.tells subject.Script (string_bytes c.index-words-place.result) c.read_word-read.result c.script_of.result c.args.options.script c.in-Some.place c.args.notes.now.items c.read_word-read.new.notes.items
    (g.F.Files.state c.args.files.now) (g.F.Files.state c.read_word-read.new.files) c.in-Some.is c.read_word-read.ensures.taken c.read_word-read.ensures.one c.read_word-read.ensures.unread
    c.script_of.ensures.answers

pub returns-in-None-clause-exact : goal.returns-in-None-clause-exact
returns-in-None-clause-exact g c = none-counted g.F.Files.tells c.args.options.script _ c.args.notes.now.items (g.F.Files.state c.args.files.now) c.in-None.is
