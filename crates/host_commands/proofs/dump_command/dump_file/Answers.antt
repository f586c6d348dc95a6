use Rattle.std.proofs.Common.{◌≡◌, Err, refl, ap, sym, ◌∙◌, ℕ, ◌≤◌, List, length, subst, arith}
use Rattle.file_commands.specs.declared.note.Subject.TheVariants as subject
use Rattle.file_commands.specs.Notes.{notes_said}
use Rattle.file_commands.proofs.OwnFiles.{unused}
use Rattle.whole_files.specs.Writing.{write_act}
use Rattle.binary_load.specs.Dump.{dumped}
use Rattle.binary_load.proofs.DumpLemmas.{dumped-length}
use Rattle.command_session.specs.declared.fault.CommandFault.TheVariants.{OutOfRange, OutOfMemory}
use Rattle.command_session.specs.Live.{CommandState, live_in, beyond}
use Rattle.command_session.specs.Reply.{refused}
use Rattle.command_session.specs.TapeEffects.{can_dump, dump_of, dump_after, dump_reply}
use Rattle.command_session.specs.WholeCalls.{write_calls}
use Rattle.command_session.proofs.DidLemmas.{did-of, did-as, did-want, refused-does}
use Rattle.command_session.proofs.KeptLemmas.{keeps-none, keeps-own}
use Rattle.host_commands.proofs.TapeLemmas.{dump-fits, dump-refused}
use Rattle.host_commands.proofs.dump_command.dump_file.Goals as goal

pub returns-then-not-can_dump-clause-told : goal.returns-then-not-can_dump-clause-told
returns-then-not-can_dump-clause-told g c = λ lines whole tells text told.
    let s = c.args.session.now in
    let live = live_in s (beyond (g.F.Files.state c.args.files.now).files lines whole) in
    did-of (λ own. dump_reply own live c.args.from c.args.to c.args.name.now) (refused OutOfRange live) s.command (Err OutOfRange) live tells
    text text (notes_said s.notes) (notes_said s.notes)
    (λ own. dump-refused own live c.args.from c.args.to c.args.name.now
    (ap (λ (x : CommandState). can_dump x.machine c.args.from c.args.to) (sym c.session.view_is) ∙ sym c.can_dump.ensures.test ∙ c.if-not-can_dump.true)) refl
    (refused-does OutOfRange live tells text tt)

pub returns-then-not-can_dump-clause-keeps : goal.returns-then-not-can_dump-clause-keeps
returns-then-not-can_dump-clause-keeps g c =
    let s = c.args.session.now in
    keeps-own s.command s.machine.time g.F.Files.tells (Err OutOfRange) s.notes s.notes (g.F.Files.state c.args.files.now) (g.F.Files.state c.args.files.now)
    (keeps-none s.command s.machine.time g.F.Files.tells (Err OutOfRange) s.notes s.notes (g.F.Files.state c.args.files.now) refl tt)

pub returns-in-Ok-clause-told : goal.returns-in-Ok-clause-told
returns-in-Ok-clause-told g c = λ lines whole tells text told.
    let s = c.args.session.now in
    let new = c.write_tape.new.session in
    let files = (g.F.Files.state c.args.files.now).files in
    let live = live_in s (beyond files lines whole) in
    let name = c.args.name.now in
    let piece = c.as_slice.result.now in
    let same : piece ≡ dump_of live.machine c.args.from c.args.to =
    c.as_slice.ensures.value ∙ c.in-Ok.ensures ∙ (λ i. dumped (c.memory.ensures i) (c.address-first.ensures i) (c.address-last.ensures i) (c.pc-start.ensures i))
    ∙ ap (λ (x : CommandState). dump_of x.machine c.args.from c.args.to) c.session.view_is in
    did-as (λ own. dump_reply own live c.args.from c.args.to name)
    (λ own. dump_after (write_act (write_calls subject.Dump s.machine.time own) name piece files) live) s.command c.write_tape.result
    (live_in new (beyond (g.F.Files.state c.write_tape.new.files).files lines whole)) tells text text (notes_said s.notes) (notes_said new.notes)
    (λ own. dump-fits own live c.args.from c.args.to name piece
    (ap (λ (x : CommandState). can_dump x.machine c.args.from c.args.to) (sym c.session.view_is) ∙ sym c.can_dump.ensures.test ∙ c.if-not-can_dump.false) same)
    (c.write_tape.ensures.told lines whole tells text told)

pub returns-in-Err-clause-told : goal.returns-in-Err-clause-told
returns-in-Err-clause-told g c = λ lines whole tells text told.
    let s = c.args.session.now in
    let live = live_in s (beyond (g.F.Files.state c.args.files.now).files lines whole) in
    did-want (λ own. dump_reply own live c.args.from c.args.to c.args.name.now) s.command live tells text text (notes_said s.notes)
    (notes_said s.notes) refl

pub returns-in-Err-clause-keeps : goal.returns-in-Err-clause-keeps
returns-in-Err-clause-keeps g c =
    let s = c.args.session.now in
    keeps-own s.command s.machine.time g.F.Files.tells (Err OutOfMemory) s.notes s.notes (g.F.Files.state c.args.files.now) (g.F.Files.state c.args.files.now)
    (keeps-none s.command s.machine.time g.F.Files.tells (Err OutOfMemory) s.notes s.notes (g.F.Files.state c.args.files.now) refl tt)

pub returns-then-not-can_dump-clause-whose : goal.returns-then-not-can_dump-clause-whose
returns-then-not-can_dump-clause-whose g c =
    let s = c.args.session.now in
    unused s.machine.slots s.machine.slots s.notes s.notes (g.F.Files.state c.args.files.now) refl refl

pub returns-in-Err-clause-whose : goal.returns-in-Err-clause-whose
returns-in-Err-clause-whose g c =
    let s = c.args.session.now in
    unused s.machine.slots s.machine.slots s.notes s.notes (g.F.Files.state c.args.files.now) refl refl

pub write_tape-requires-clause-size : goal.write_tape-requires-clause-size
write_tape-requires-clause-size g c =
    let long = dumped-length c.memory.result.now c.address-first.result c.address-last.result c.pc-start.result
    (omega (arith, c.address-last.ensures, c.can_dump.ensures.addresses c.if-not-can_dump.false)) in
    subst (λ (l : List ℕ). length l ≤ 77830) (sym (c.as_slice.ensures.value ∙ c.in-Ok.ensures)) long
