use Rattle.std.proofs.Common.{ℕ, ◌+◌, ◌≤◌, length, Option, string_bytes, sym, subst}
use Rattle.file_commands.specs.declared.note.Subject.TheVariants as subject
use Rattle.command_words.specs.Words.{texts_of, keys_name}
use Rattle.program_start.specs.Unread.{keys_ids}
use Rattle.program_start.proofs.UnreadLemmas.{keys-cause, keys-given, none-given, none-taken}
use Rattle.program_start.proofs.WordCountLemmas.{word-counted, none-counted}
use Rattle.program_start.proofs.ReadingLemmas.{named-at, keys-take}
use Rattle.program_start.proofs.ToldLemmas.{keys-told}
use Rattle.program_start.proofs.word_files.take_keys.Goals as goal

pub returns-in-Some-clause-told : goal.returns-in-Some-clause-told
returns-in-Some-clause-told g c = λ told.
    let within = named-at c.args.options.keys (length (texts_of c.args.words.now)) c.in-Some.place c.requires.named.keys c.in-Some.is in
    keys-take c.args.words.now c.args.options (g.F.Files.state c.args.files.now).files c.in-Some.place c.index-words-place.result c.args.notes.now.items c.read_word-read.new.notes.items c.read_word-read.result c.keys_of.result
    c.in-Some.is within c.index-words-place.is (c.read_word-read.ensures.told (keys-told g.F.Files.tells c.args.options c.in-Some.place c.in-Some.is told)) c.keys_of.ensures.comes

pub returns-in-Some-clause-cause : goal.returns-in-Some-clause-cause
returns-in-Some-clause-cause g c =
    let within = named-at c.args.options.keys (length (texts_of c.args.words.now)) c.in-Some.place c.requires.named.keys c.in-Some.is in
    c.keys_of.ensures.named (texts_of c.args.words.now) c.args.options within c.in-Some.is

pub returns-in-Some-clause-closings : goal.returns-in-Some-clause-closings
returns-in-Some-clause-closings g c = λ unrefused. c.read_word-read.ensures.closings (c.keys_of.ensures.unfailed unrefused)

pub returns-in-Some-clause-unread : goal.returns-in-Some-clause-unread
returns-in-Some-clause-unread g c =
    let within = named-at c.args.options.keys (length (texts_of c.args.words.now)) c.in-Some.place c.requires.named.keys c.in-Some.is in
    keys-cause g.F.Files.tells c.args.words.now c.args.options c.in-Some.place c.index-words-place.result c.read_word-read.result c.keys_of.result c.args.notes.now.items c.read_word-read.new.notes.items
    (g.F.Files.state c.args.files.now) (g.F.Files.state c.read_word-read.new.files) c.in-Some.is within c.index-words-place.is c.read_word-read.ensures.taken c.read_word-read.ensures.unread
    c.keys_of.ensures.answers

pub returns-in-None-clause-unread : goal.returns-in-None-clause-unread
returns-in-None-clause-unread g c =
    none-taken g.F.Files.tells subject.Keys (keys_name (texts_of c.args.words.now) c.args.options) _ c.args.notes.now.items (g.F.Files.state c.args.files.now)
    (λ i. keys_name (texts_of c.args.words.now) (record c.args.options { keys = c.in-None.is i }))

pub returns-in-Some-clause-ids : goal.returns-in-Some-clause-ids
returns-in-Some-clause-ids g c =
    let old = g.F.Files.state c.args.files.now in
    let new = g.F.Files.state c.read_word-read.new.files in
    subst (λ (k : Option ℕ). new.given ≤ old.given + keys_ids k) (sym c.in-Some.is) c.read_word-read.ensures.one

pub returns-in-Some-clause-taken : goal.returns-in-Some-clause-taken
returns-in-Some-clause-taken g c =
    keys-given c.read_word-read.result c.keys_of.result c.args.options.keys c.in-Some.place (g.F.Files.state c.args.files.now) (g.F.Files.state c.read_word-read.new.files) c.in-Some.is
    c.keys_of.ensures.answers c.read_word-read.ensures.taken c.read_word-read.ensures.one

pub returns-in-None-clause-taken : goal.returns-in-None-clause-taken
returns-in-None-clause-taken g c = none-given c.args.options.keys (g.F.Files.state c.args.files.now) c.in-None.is

pub returns-in-Some-clause-files : goal.returns-in-Some-clause-files
returns-in-Some-clause-files g c = λ told. c.read_word-read.ensures.files (keys-told g.F.Files.tells c.args.options c.in-Some.place c.in-Some.is told)

pub returns-in-Some-clause-exact : goal.returns-in-Some-clause-exact
returns-in-Some-clause-exact g c =
    word-counted g.F.Files.tells subject.Keys (string_bytes c.index-words-place.result) c.read_word-read.result c.keys_of.result c.args.options.keys c.in-Some.place c.args.notes.now.items c.read_word-read.new.notes.items
    (g.F.Files.state c.args.files.now) (g.F.Files.state c.read_word-read.new.files) c.in-Some.is c.read_word-read.ensures.taken c.read_word-read.ensures.one c.read_word-read.ensures.unread
    c.keys_of.ensures.answers

pub returns-in-None-clause-exact : goal.returns-in-None-clause-exact
returns-in-None-clause-exact g c = none-counted g.F.Files.tells c.args.options.keys _ c.args.notes.now.items (g.F.Files.state c.args.files.now) c.in-None.is
