use Rattle.program_start.proofs.ReadingLemmas.{reads-file, reads-kept, reads-own, reads-closings}
use Rattle.std.proofs.Common.{string_bytes}
use Rattle.program_start.proofs.UnreadLemmas.{word-cause}
use Rattle.program_start.proofs.word_files.read_word.Goals as goal

pub returns-clause-told : goal.returns-clause-told
returns-clause-told g c = λ told.
    reads-file c.args.whose (string_bytes c.args.name.now) c.as_str.result.now (g.F.Files.state c.args.files.now).files c.args.notes.now.items c.note_call.new.notes.items c.note_call-2.new.notes.items c.read_file-whole.result
    c.note_call.ensures.notes c.note_call-2.ensures.notes c.as_str.ensures.value (c.read_file-whole.ensures.said told)

pub returns-clause-keeps : goal.returns-clause-keeps
returns-clause-keeps g c =
    reads-kept c.args.whose c.args.notes.now.items c.note_call.new.notes.items c.note_call-2.new.notes.items c.read_file-whole.result g.F.Files.tells (g.F.Files.state c.args.files.now) (g.F.Files.state c.read_file-whole.new.files)
    c.note_call.ensures.notes c.note_call-2.ensures.notes c.read_file-whole.ensures.shape c.read_file-whole.ensures.counts c.read_file-whole.ensures.openings c.read_file-whole.ensures.ids

pub returns-clause-whose : goal.returns-clause-whose
returns-clause-whose g c =
    let read = c.read_file-whole.ensures in
    reads-own c.args.whose c.args.notes.now.items c.note_call.new.notes.items c.note_call-2.new.notes.items c.read_file-whole.result (g.F.Files.state c.args.files.now)
    (g.F.Files.state c.read_file-whole.new.files) c.note_call.ensures.notes c.note_call-2.ensures.notes read.shape read.failed read.closing read.ids

pub returns-clause-closings : goal.returns-clause-closings
returns-clause-closings g c = λ other.
    reads-closings c.args.whose c.args.notes.now.items c.note_call.new.notes.items c.note_call-2.new.notes.items c.read_file-whole.result c.note_call.ensures.notes
    c.note_call-2.ensures.notes c.read_file-whole.ensures.shape other

pub returns-clause-unread : goal.returns-clause-unread
returns-clause-unread g c =
    let read = c.read_file-whole.ensures in
    word-cause g.F.Files.tells c.args.whose (string_bytes c.args.name.now) c.as_str.result.now c.args.notes.now.items c.note_call.new.notes.items c.note_call-2.new.notes.items c.read_file-whole.result
    (g.F.Files.state c.args.files.now) (g.F.Files.state c.read_file-whole.new.files) c.note_call.ensures.notes c.note_call-2.ensures.notes c.as_str.ensures.value read.shape read.counts read.openings read.ids read.one read.cause
