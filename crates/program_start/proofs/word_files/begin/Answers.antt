use Rattle.std.proofs.Common.{Result, List, [], ℕ, Option, is_some, ◌≡◌, ◌∙◌, sym, subst, Ok, Err, rules}
use Rattle.file_traits.specs.Lists.{NamedBytes}
use Rattle.file_commands.specs.Counts.{one_if}
use Rattle.file_commands.specs.Notes.{notes_said}
use Rattle.file_commands.specs.declared.note.Subject.TheVariants as subject
use Rattle.command_words.specs.Words.{texts_of, script_name}
use Rattle.expect_actions.specs.KeysFile.{Key}
use Rattle.program_start.specs.Start.{taken_script, Begins}
use Rattle.program_start.specs.declared.word_files.Refusal.TheVariants.{OutOfMemory}
use Rattle.program_start.specs.declared.word_files.Refusal.{Refusal}
use Rattle.program_start.specs.declared.word_files.Beginning.{Beginning}
use Rattle.program_start.specs.WordFiles.{Takes, StartsWith}
use Rattle.program_start.specs.Unread.{BeginsCause}
use Rattle.program_start.specs.WordCounts.{files_named, CountsWordFiles}
use Rattle.program_start.proofs.UnreadLemmas.{keys-refused, keys-taken, script-refused, both-fit}
use Rattle.program_start.proofs.WordFileLemmas.{script-denied, denied-along, both-begin}
use Rattle.program_start.proofs.ReadingLemmas.{kept-both, own-from-none, closings-none, closings-both, is-want}
use Rattle.program_start.proofs.ToldLemmas.{names-told}
use Rattle.program_start.proofs.WordCountLemmas.{keys-shut, keys-counted, script-counted, taken-counted, wanting-counted}
use Rattle.program_start.proofs.word_files.begin.Goals as goal

pub returns-in_err-script-clause-told : goal.returns-in_err-script-clause-told
returns-in_err-script-clause-told g c = λ told.
    let words = texts_of c.args.words.now in
    let files = (g.F.Files.state c.args.files.now).files in
    let refusal = c.in_err-script.field-0.0 in
    let script = subst (λ (f : List NamedBytes). Takes subject.Script words (taken_script (script_name words c.args.options) f) c.take_keys.new.notes.items c.take_script.new.notes.items (Err refusal)) (c.take_keys.ensures.files told)
    (c.in_err-script.ensures.told told) in
    let is : c.from_residual-in_err-script.result ≡ Err refusal = search rules in
    denied-along words c.args.options files (notes_said c.take_script.new.notes.items) refusal c.from_residual-in_err-script.result is
    (script-denied words c.args.options files c.in_ok-keys.keys c.args.notes.now.items c.take_keys.new.notes.items c.take_script.new.notes.items refusal c.requires.none (c.in_ok-keys.ensures.told told) script)

pub returns-in_err-script-clause-keeps : goal.returns-in_err-script-clause-keeps
returns-in_err-script-clause-keeps g c =
    kept-both c.args.notes.now.items c.take_keys.new.notes.items c.take_script.new.notes.items (g.F.Files.state c.args.files.now) (g.F.Files.state c.take_keys.new.files) (g.F.Files.state c.take_script.new.files)
    c.requires.none c.take_keys.ensures.keeps c.take_script.ensures.keeps

pub returns-in-Ok-clause-told : goal.returns-in-Ok-clause-told
returns-in-Ok-clause-told g c = λ told.
    let words = texts_of c.args.words.now in
    let files = (g.F.Files.state c.args.files.now).files in
    let script = subst (λ (f : List NamedBytes). Takes subject.Script words (taken_script (script_name words c.args.options) f) c.take_keys.new.notes.items c.take_script.new.notes.items (Ok c.in_ok-script.script)) (c.take_keys.ensures.files told)
    (c.in_ok-script.ensures.told told) in
    let kept = notes_said c.take_script.new.notes.items in
    let begins = both-begin words c.args.options files c.in_ok-keys.keys c.in_ok-script.script c.args.notes.now.items c.take_keys.new.notes.items c.take_script.new.notes.items c.requires.none
    (c.in_ok-keys.ensures.told told) script in
    subst (λ (k : List Key). StartsWith words c.args.options files kept (Begins c.args.options k c.in-Ok.beginning.script)) (sym c.in-Ok.ensures.keys)
    (subst (λ (s : Option (List ℕ)). StartsWith words c.args.options files kept (Begins c.args.options c.in_ok-keys.keys s)) (sym c.in-Ok.ensures.script) begins)

pub returns-in-Ok-clause-keeps : goal.returns-in-Ok-clause-keeps
returns-in-Ok-clause-keeps g c =
    kept-both c.args.notes.now.items c.take_keys.new.notes.items c.take_script.new.notes.items (g.F.Files.state c.args.files.now) (g.F.Files.state c.take_keys.new.files) (g.F.Files.state c.take_script.new.files)
    c.requires.none c.take_keys.ensures.keeps c.take_script.ensures.keeps

pub returns-in-Err-clause-keeps : goal.returns-in-Err-clause-keeps
returns-in-Err-clause-keeps g c =
    kept-both c.args.notes.now.items c.take_keys.new.notes.items c.take_script.new.notes.items (g.F.Files.state c.args.files.now) (g.F.Files.state c.take_keys.new.files) (g.F.Files.state c.take_script.new.files)
    c.requires.none c.take_keys.ensures.keeps c.take_script.ensures.keeps

pub returns-in_err-script-clause-whose : goal.returns-in_err-script-clause-whose
returns-in_err-script-clause-whose g c =
    own-from-none c.args.notes.now.items c.take_keys.new.notes.items c.take_script.new.notes.items (g.F.Files.state c.args.files.now) (g.F.Files.state c.take_keys.new.files)
    (g.F.Files.state c.take_script.new.files) c.requires.none c.take_keys.ensures.whose c.take_script.ensures.whose

pub returns-in-Ok-clause-whose : goal.returns-in-Ok-clause-whose
returns-in-Ok-clause-whose g c =
    own-from-none c.args.notes.now.items c.take_keys.new.notes.items c.take_script.new.notes.items (g.F.Files.state c.args.files.now) (g.F.Files.state c.take_keys.new.files)
    (g.F.Files.state c.take_script.new.files) c.requires.none c.take_keys.ensures.whose c.take_script.ensures.whose

pub returns-in-Err-clause-whose : goal.returns-in-Err-clause-whose
returns-in-Err-clause-whose g c =
    own-from-none c.args.notes.now.items c.take_keys.new.notes.items c.take_script.new.notes.items (g.F.Files.state c.args.files.now) (g.F.Files.state c.take_keys.new.files)
    (g.F.Files.state c.take_script.new.files) c.requires.none c.take_keys.ensures.whose c.take_script.ensures.whose

pub returns-in_err-keys-clause-closings : goal.returns-in_err-keys-clause-closings
returns-in_err-keys-clause-closings g c = λ is.
    let refusal = c.in_err-keys.field-0.0 in
    let said : c.from_residual.result ≡ Err refusal = search rules in
    let same : Err OutOfMemory ≡ Err refusal = sym is ∙ said in
    let short : OutOfMemory ≡ refusal = cc in
    closings-none c.args.notes.now.items c.take_keys.new.notes.items c.requires.none
    (c.in_err-keys.ensures.closings (is-want refusal short))

pub returns-in_err-script-clause-closings : goal.returns-in_err-script-clause-closings
returns-in_err-script-clause-closings g c = λ is.
    let refusal = c.in_err-script.field-0.0 in
    let said : c.from_residual-in_err-script.result ≡ Err refusal = search rules in
    let same : Err OutOfMemory ≡ Err refusal = sym is ∙ said in
    let short : OutOfMemory ≡ refusal = cc in
    closings-none c.args.notes.now.items c.take_script.new.notes.items c.requires.none
    (closings-both c.args.notes.now.items c.take_keys.new.notes.items c.take_script.new.notes.items (c.in_ok-keys.ensures.closings tt)
    (c.in_err-script.ensures.closings (is-want refusal short)))

pub returns-in-Err-clause-closings : goal.returns-in-Err-clause-closings
returns-in-Err-clause-closings g c = λ is.
    closings-none c.args.notes.now.items c.take_script.new.notes.items c.requires.none
    (closings-both c.args.notes.now.items c.take_keys.new.notes.items c.take_script.new.notes.items (c.in_ok-keys.ensures.closings tt) (c.in_ok-script.ensures.closings tt))

-- ---- why it does not begin

pub returns-in_err-keys-clause-unread : goal.returns-in_err-keys-clause-unread
returns-in_err-keys-clause-unread g c =
    let words = texts_of c.args.words.now in
    let old = g.F.Files.state c.args.files.now in
    let mid = g.F.Files.state c.take_keys.new.files in
    let refusal = c.in_err-keys.field-0.0 in
    let is : c.from_residual.result ≡ Err refusal = search rules in
    subst (λ (r : Result Beginning Refusal). BeginsCause g.F.Files.tells words c.args.options r c.take_keys.new.notes.items old mid) (sym is)
    (keys-refused _ g.F.Files.tells words c.args.options refusal c.args.notes.now.items c.take_keys.new.notes.items old mid c.requires.none c.take_keys.ensures.ids c.in_err-keys.ensures.unread)

pub returns-in_err-script-clause-unread : goal.returns-in_err-script-clause-unread
returns-in_err-script-clause-unread g c =
    let words = texts_of c.args.words.now in
    let old = g.F.Files.state c.args.files.now in
    let mid = g.F.Files.state c.take_keys.new.files in
    let new = g.F.Files.state c.take_script.new.files in
    let refusal = c.in_err-script.field-0.0 in
    let is : c.from_residual-in_err-script.result ≡ Err refusal = search rules in
    let keys = keys-taken g.F.Files.tells words c.args.options c.in_ok-keys.keys c.args.notes.now.items c.take_keys.new.notes.items old mid c.requires.none
    c.in_ok-keys.ensures.unread (c.in_ok-keys.ensures.closings tt) (λ told. c.take_keys.ensures.files (names-told g.F.Files.tells c.args.options told)) c.take_keys.ensures.keeps c.in_ok-keys.ensures.taken in
    subst (λ (r : Result Beginning Refusal). BeginsCause g.F.Files.tells words c.args.options r c.take_script.new.notes.items old new) (sym is)
    (script-refused _ g.F.Files.tells words c.args.options refusal c.args.notes.now.items c.take_keys.new.notes.items c.take_script.new.notes.items old mid new keys c.in_err-script.ensures.unread)

pub returns-in-Ok-clause-unread : goal.returns-in-Ok-clause-unread
returns-in-Ok-clause-unread g c =
    let words = texts_of c.args.words.now in
    let old = g.F.Files.state c.args.files.now in
    let mid = g.F.Files.state c.take_keys.new.files in
    let new = g.F.Files.state c.take_script.new.files in
    let keys = keys-taken g.F.Files.tells words c.args.options c.in_ok-keys.keys c.args.notes.now.items c.take_keys.new.notes.items old mid c.requires.none
    c.in_ok-keys.ensures.unread (c.in_ok-keys.ensures.closings tt) (λ told. c.take_keys.ensures.files (names-told g.F.Files.tells c.args.options told)) c.take_keys.ensures.keeps c.in_ok-keys.ensures.taken in
    both-fit g.F.Files.tells words c.args.options c.in_ok-script.script c.args.notes.now.items c.take_keys.new.notes.items c.take_script.new.notes.items old mid new keys c.in_ok-script.ensures.unread

pub returns-in-Err-clause-unread : goal.returns-in-Err-clause-unread
returns-in-Err-clause-unread g c =
    let words = texts_of c.args.words.now in
    let old = g.F.Files.state c.args.files.now in
    let mid = g.F.Files.state c.take_keys.new.files in
    let new = g.F.Files.state c.take_script.new.files in
    let keys = keys-taken g.F.Files.tells words c.args.options c.in_ok-keys.keys c.args.notes.now.items c.take_keys.new.notes.items old mid c.requires.none
    c.in_ok-keys.ensures.unread (c.in_ok-keys.ensures.closings tt) (λ told. c.take_keys.ensures.files (names-told g.F.Files.tells c.args.options told)) c.take_keys.ensures.keeps c.in_ok-keys.ensures.taken in
    let fit = both-fit g.F.Files.tells words c.args.options c.in_ok-script.script c.args.notes.now.items c.take_keys.new.notes.items c.take_script.new.notes.items old mid new keys c.in_ok-script.ensures.unread in
    (λ more. fit.0, λ more. fit.1)

-- ---- how many openings failed

pub returns-in_err-keys-clause-exact : goal.returns-in_err-keys-clause-exact
returns-in_err-keys-clause-exact g c =
    let old = g.F.Files.state c.args.files.now in
    let mid = g.F.Files.state c.take_keys.new.files in
    let refusal = c.in_err-keys.field-0.0 in
    let is : c.from_residual.result ≡ Err refusal = search rules in
    subst (λ (r : Result Beginning Refusal). CountsWordFiles g.F.Files.tells (files_named c.args.options) r [] c.take_keys.new.notes.items old mid) (sym is)
    (keys-counted _ _ g.F.Files.tells (one_if (is_some c.args.options.keys)) (one_if (is_some c.args.options.script)) refusal c.args.notes.now.items c.take_keys.new.notes.items old mid c.requires.none
    c.in_err-keys.ensures.exact)

pub returns-in_err-script-clause-exact : goal.returns-in_err-script-clause-exact
returns-in_err-script-clause-exact g c =
    let old = g.F.Files.state c.args.files.now in
    let mid = g.F.Files.state c.take_keys.new.files in
    let new = g.F.Files.state c.take_script.new.files in
    let kept = c.args.notes.now.items in
    let shut = keys-shut kept c.take_keys.new.notes.items c.requires.none (c.in_ok-keys.ensures.closings tt) in
    let refusal = c.in_err-script.field-0.0 in
    let is : c.from_residual-in_err-script.result ≡ Err refusal = search rules in
    subst (λ (r : Result Beginning Refusal). CountsWordFiles g.F.Files.tells (files_named c.args.options) r [] c.take_script.new.notes.items old new) (sym is)
    (script-counted _ _ _ g.F.Files.tells (one_if (is_some c.args.options.keys)) (one_if (is_some c.args.options.script)) c.in_ok-keys.keys refusal kept c.take_keys.new.notes.items c.take_script.new.notes.items old mid new c.requires.none shut
    c.in_ok-keys.ensures.exact c.in_err-script.ensures.exact)

pub returns-in-Ok-clause-exact : goal.returns-in-Ok-clause-exact
returns-in-Ok-clause-exact g c =
    let old = g.F.Files.state c.args.files.now in
    let mid = g.F.Files.state c.take_keys.new.files in
    let new = g.F.Files.state c.take_script.new.files in
    let kept = c.args.notes.now.items in
    let shut = keys-shut kept c.take_keys.new.notes.items c.requires.none (c.in_ok-keys.ensures.closings tt) in
    taken-counted g.F.Files.tells (one_if (is_some c.args.options.keys)) (one_if (is_some c.args.options.script)) c.in_ok-keys.keys c.in_ok-script.script c.in-Ok.beginning kept c.take_keys.new.notes.items c.take_script.new.notes.items old mid new c.requires.none shut
    c.in_ok-keys.ensures.exact c.in_ok-script.ensures.exact

pub returns-in-Err-clause-exact : goal.returns-in-Err-clause-exact
returns-in-Err-clause-exact g c =
    let old = g.F.Files.state c.args.files.now in
    let mid = g.F.Files.state c.take_keys.new.files in
    let new = g.F.Files.state c.take_script.new.files in
    let kept = c.args.notes.now.items in
    let shut = keys-shut kept c.take_keys.new.notes.items c.requires.none (c.in_ok-keys.ensures.closings tt) in
    wanting-counted _ g.F.Files.tells (one_if (is_some c.args.options.keys)) (one_if (is_some c.args.options.script)) c.in_ok-keys.keys c.in_ok-script.script kept c.take_keys.new.notes.items c.take_script.new.notes.items old mid new c.requires.none shut
    c.in_ok-keys.ensures.exact c.in_ok-script.ensures.exact
