use Rattle.std.proofs.Common.{◌≡◌, ◌++◌, ℕ, List, refl, ap, sym, ◌∙◌, subst}
use Rattle.file_traits.specs.State.{Opened}
use Rattle.unit_files.specs.Open.{AllOpen, Around}
use Rattle.file_commands.specs.declared.note.Subject.TheVariants as subject
use Rattle.file_commands.specs.declared.stamp.Stamp.{Stamp}
use Rattle.nova_machine.specs.Machine.{MachineState, attached_files}
use Rattle.nova_machine.specs.Seen.{seen, beside}
use Rattle.command_session.specs.Live.{CommandState}
use Rattle.command_session.specs.WholeCalls.{read_notes}
use Rattle.command_session.specs.Doing.{KeepsOwn}
use Rattle.command_session.proofs.BehindLemmas.{stamp_in}
use Rattle.command_session.proofs.WholeLemmas.{read-claims, read-keeps, short-read, read-own, unread-cause}
use Rattle.host_commands.proofs.TapeLemmas.{tape_comes, tape-plain, tape-own, tape-cause, tape-closings, read-slots, read-attached, read-lines, read-time, read-none, load-did}
use Rattle.command_session.proofs.OwnFileLemmas.{whole-own}
use Rattle.unit_list.specs.Bus.{kinds_of}
use Rattle.host_commands.proofs.FileKinds.{read-kinds}
use Rattle.host_commands.proofs.FileWorkLemmas.{load-works}
use Rattle.host_commands.proofs.load_command.load_file.Goals as goal

pub returns-clause-told : goal.returns-clause-told
returns-clause-told g c = λ lines whole tells text told.
    let s = c.session.inside in
    let before = g.F.Files.state c.args.files.now in
    let after = g.F.Files.state c.read_file-whole.new.files in
    let read = c.read_file-whole.result in
    let stamped = c.stamp_of-stamp.ensures ∙ ap stamp_in (sym c.session.view_is) in
    rw (← c.session.view_is)
    (load-did s.command s.watch s.keys s.machine c.load_bytes.new.machine before.files after.files lines whole c.args.name.now read c.load_bytes.result tells text
    s.notes.items c.note_reading.new.notes.items c.load_bytes.ensures.answer c.load_bytes.ensures.machine (c.read_file-whole.ensures.files told)
    (c.read_file-whole.ensures.said told)
    (c.note_reading.ensures.notes ∙ ap (λ (t : Stamp). s.notes.items ++ read_notes subject.Load t read) stamped))

pub returns-clause-keeps : goal.returns-clause-keeps
returns-clause-keeps g c =
    let s = c.session.inside in
    let before = g.F.Files.state c.args.files.now in
    let after = g.F.Files.state c.read_file-whole.new.files in
    let whole = c.read_file-whole.result in
    let read = c.read_file-whole.ensures in
    let stamp : Stamp = record { command = s.command; time = s.machine.time } in
    let stamped = c.stamp_of-stamp.ensures ∙ ap stamp_in (sym c.session.view_is) in
    let time : c.load_bytes.new.machine.time ≡ s.machine.time =
    ap (λ (m : MachineState). m.time) c.load_bytes.ensures.machine ∙ read-time whole.bytes s.machine in
    rw (← c.session.view_is)
    (subst (λ (t : ℕ). KeepsOwn s.command t g.F.Files.tells c.load_bytes.result s.notes.items c.note_reading.new.notes.items before after) (sym time)
    (read-keeps subject.Load s.command s.machine.time g.F.Files.tells (tape_comes s.machine) whole c.load_bytes.result s.notes.items
    c.note_reading.new.notes.items before after (λ bytes. tape-closings stamp g.F.Files.tells s.machine bytes before after)
    c.load_bytes.ensures.answer read.shape (record { counts = read.counts; openings = read.openings; ids = read.ids; one = read.one })
    (c.note_reading.ensures.notes ∙ ap (λ (t : Stamp). s.notes.items ++ read_notes subject.Load t whole) stamped)))

pub returns-clause-undone : goal.returns-clause-undone
returns-clause-undone g c = λ text is.
    let s = c.session.inside in
    let whole = c.read_file-whole.result in
    let read = c.read_file-whole.ensures in
    let want = sym c.load_bytes.ensures.answer ∙ is in
    let stamped = c.stamp_of-stamp.ensures ∙ ap stamp_in (sym c.session.view_is) in
    let same = c.load_bytes.ensures.machine ∙ read-none whole.bytes s.machine want in
    rw (← c.session.view_is)
    (record {
      left = record { machine = same; watch = refl };
      notes = short-read subject.Load s.command s.machine.time (tape_comes s.machine) whole s.notes.items c.note_reading.new.notes.items (tape-plain s.machine) want read.shape
          (c.note_reading.ensures.notes ∙ ap (λ (t : Stamp). s.notes.items ++ read_notes subject.Load t whole) stamped);
      written = refl;
      lines = ap (λ (m : MachineState). m.lines) same;
      live = λ told steps lines whole. (λ i. seen (beside s.watch s.keys (read.files told i) lines) whole (same i));
    })

pub returns-clause-own : goal.returns-clause-own
returns-clause-own g c =
    (read-own subject.Load (tape_comes c.session.inside.machine) c.read_file-whole.result.bytes c.load_bytes.result (tape-own c.session.inside.machine)
    c.load_bytes.ensures.answer).0

pub returns-clause-exit : goal.returns-clause-exit
returns-clause-exit g c =
    (read-own subject.Load (tape_comes c.session.inside.machine) c.read_file-whole.result.bytes c.load_bytes.result (tape-own c.session.inside.machine)
    c.load_bytes.ensures.answer).1

pub returns-clause-open : goal.returns-clause-open
returns-clause-open g c =
    let s = c.session.inside in
    let before = g.F.Files.state c.args.files.now in
    let after = g.F.Files.state c.read_file-whole.new.files in
    let slots : c.load_bytes.new.machine.slots ≡ s.machine.slots =
    ap (λ (m : MachineState). m.slots) c.load_bytes.ensures.machine ∙ read-slots c.read_file-whole.result.bytes s.machine in
    subst (λ l. AllOpen l after.«opened») (sym slots)
    (subst (λ (o : List Opened). AllOpen s.machine.slots o) (sym c.read_file-whole.ensures.«opened»)
    (subst (λ (x : CommandState). AllOpen x.machine.slots before.«opened») (sym c.session.view_is) c.requires.«open»))

pub returns-clause-around : goal.returns-clause-around
returns-clause-around g c = λ base around.
    let s = c.session.inside in
    let before = g.F.Files.state c.args.files.now in
    let after = g.F.Files.state c.read_file-whole.new.files in
    let slots : c.load_bytes.new.machine.slots ≡ s.machine.slots =
    ap (λ (m : MachineState). m.slots) c.load_bytes.ensures.machine ∙ read-slots c.read_file-whole.result.bytes s.machine in
    subst (λ l. Around l base after.«opened») (sym slots)
    (subst (λ (o : List Opened). Around s.machine.slots base o) (sym c.read_file-whole.ensures.«opened»)
    (subst (λ (x : CommandState). Around x.machine.slots base before.«opened») (sym c.session.view_is) around))

pub returns-clause-whose : goal.returns-clause-whose
returns-clause-whose g c =
    let s = c.session.inside in
    let w = c.read_file-whole.result in
    let read = c.read_file-whole.ensures in
    let slots : c.load_bytes.new.machine.slots ≡ s.machine.slots =
    ap (λ (m : MachineState). m.slots) c.load_bytes.ensures.machine ∙ read-slots c.read_file-whole.result.bytes s.machine in
    rw (← c.session.view_is)
    (whole-own subject.Load c.stamp_of-stamp.result 0 w.failed w.closing s.machine.slots c.load_bytes.new.machine.slots s.notes.items c.note_reading.new.notes.items
    (g.F.Files.state c.args.files.now) (g.F.Files.state c.read_file-whole.new.files) slots (read-claims w read.shape) read.failed read.closing read.ids c.note_reading.ensures.notes)

pub returns-clause-terminals : goal.returns-clause-terminals
returns-clause-terminals g c =
    let s = c.session.inside in
    rw (← c.session.view_is) (ap (λ (m : MachineState). m.lines) c.load_bytes.ensures.machine ∙ read-lines c.read_file-whole.result.bytes s.machine)

pub returns-clause-whole : goal.returns-clause-whole
returns-clause-whole g c =
    let before = g.F.Files.state c.args.files.now in
    let after = g.F.Files.state c.read_file-whole.new.files in
    unread-cause subject.Load (tape_comes c.session.inside.machine) g.F.Files.tells c.args.name.now c.read_file-whole.result.bytes c.load_bytes.result
    before after (tape-cause g.F.Files.tells c.args.name.now c.session.inside.machine before after) c.load_bytes.ensures.answer c.read_file-whole.ensures.cause

pub returns-clause-kinds : goal.returns-clause-kinds
returns-clause-kinds g c =
    rw (← c.session.view_is)
    (ap (λ (m : MachineState). kinds_of m.units) c.load_bytes.ensures.machine ∙ read-kinds c.read_file-whole.result.bytes c.session.inside.machine)

pub returns-clause-works : goal.returns-clause-works
returns-clause-works g c =
    rw (← c.session.view_is)
    (load-works c.read_file-whole.result.bytes c.load_bytes.result c.session.inside.machine c.load_bytes.new.machine (g.F.Files.state c.args.files.now) (g.F.Files.state c.read_file-whole.new.files)
    c.load_bytes.ensures.answer c.load_bytes.ensures.machine c.read_file-whole.ensures.taken)

pub returns-clause-attached : goal.returns-clause-attached
returns-clause-attached g c =
    rw (← c.session.view_is) (ap attached_files c.load_bytes.ensures.machine ∙ read-attached c.read_file-whole.result.bytes c.session.inside.machine)
