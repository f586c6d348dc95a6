use Rattle.std.proofs.Common.{◌≡◌, sym, subst, IsTrue, List, Option, ap}
use Rattle.unit_trait.specs.declared.calls.Want.{Want}
use Rattle.unit_files.specs.Attachments.{Held, attachments_of, attachment_at}
use Rattle.unit_files.specs.Acts.{read_act, write_act}
use Rattle.unit_files.specs.Answers.{said_of_byte, failure_of_byte}
use Rattle.unit_files.specs.Shapes.{MayRead}
use Rattle.nova_machine.specs.declared.service.Hosted.{Hosted}
use Rattle.nova_machine.specs.Machine.{MachineState}
use Rattle.nova_machine.specs.Hosting.{IsHosted, HasRoom, hosted_of}
use Rattle.expect_actions.specs.KeysFile.{due_key}
use Rattle.expect_actions.specs.Sends.{due_send}
use Rattle.nova_machine.specs.Wants.{first_key}
use Rattle.nova_machine.specs.StopCauses.{IsMadeOf, IsPastRoom}
use Rattle.nova_machine.proofs.ServiceCauses.{write-made, write-past}
use Rattle.nova_machine.proofs.Hosting.{read-hosted, read-room, write-room}
use Rattle.nova_machine.specs.Steps.{IsAnswer}
use Rattle.nova_machine.proofs.Steps.{read-answer}
use Rattle.nova_machine.proofs.machine.Machine.host.Goals as goal

pub returns-in-ReadByte-clause-said : goal.returns-in-ReadByte-clause-said
returns-in-ReadByte-clause-said g c = λ told.
    let slots = c.args.self.now.slots in
    let same : c.self.inside.attached.slots ≡ slots = ap (λ (m : MachineState). m.slots) c.self.view_is in
    let a = attachment_at (attachments_of slots) c.args.unit in
    let files = (g.F.Files.state c.args.files.now).files in
    let key = first_key (due_send c.args.self.now.time c.args.watch.now.sends) (due_key c.args.keys.now c.args.self.now.taken c.args.self.now.time) in
    let expects = c.args.watch.now.expects in
    let answer = c.read_byte.result in
    let place = c.in-ReadByte.place in
    let S : List (Option Held) → Type 0 =
    λ x. IsTrue g.F.Files.tells → said_of_byte answer ≡ read_act (failure_of_byte answer) (attachment_at (attachments_of x) c.args.unit) place files in
    let M : List (Option Held) → Type 0 = λ x. MayRead answer (attachment_at (attachments_of x) c.args.unit) place in
    subst (λ (o : Hosted). IsHosted c.args.want a files key expects o) (sym c.made_of.ensures)
    (subst (λ (w : Want). IsHosted w a files key expects (hosted_of answer)) (sym c.in-ReadByte.is)
    (read-hosted g.F.Files.tells slots c.args.unit answer place files key expects told (subst S same c.read_byte.ensures.said) (subst M same c.read_byte.ensures.may)))

pub returns-in-ReadByte-clause-room : goal.returns-in-ReadByte-clause-room
returns-in-ReadByte-clause-room g c =
    subst (λ (o : Hosted). HasRoom c.args.want o) (sym c.made_of.ensures)
    (subst (λ (w : Want). HasRoom w (hosted_of c.read_byte.result)) (sym c.in-ReadByte.is)
    (read-room c.read_byte.result (attachment_at (attachments_of c.self.inside.attached.slots) c.args.unit) c.in-ReadByte.place c.read_byte.ensures.may))

pub returns-in-WriteByte-clause-room : goal.returns-in-WriteByte-clause-room
returns-in-WriteByte-clause-room g c =
    subst (λ (o : Hosted). HasRoom c.args.want o) (sym c.made_of-in-WriteByte.ensures)
    (subst (λ (w : Want). HasRoom w (hosted_of c.write_byte.result)) (sym c.in-WriteByte.is)
    (write-room c.write_byte.result (attachment_at (attachments_of c.self-in-WriteByte.inside.attached.slots) c.args.unit) c.in-WriteByte.place c.in-WriteByte.byte
    c.write_byte.ensures.said))

pub returns-in-Tape-clause-said : goal.returns-in-Tape-clause-said
returns-in-Tape-clause-said g c = λ told.
    let slots = c.args.self.now.slots in
    let files = (g.F.Files.state c.args.files.now).files in
    let key = first_key (due_send c.args.self.now.time c.args.watch.now.sends) (due_key c.args.keys.now c.args.self.now.taken c.args.self.now.time) in
    let expects = c.args.watch.now.expects in
    subst (λ (w : Want). IsHosted w (attachment_at (attachments_of slots) c.args.unit) files key expects c.move_tape.result) (sym c.in-Tape.is) (c.move_tape.ensures.said told key expects)

pub returns-in-Tape-clause-counts : goal.returns-in-Tape-clause-counts
returns-in-Tape-clause-counts g c = c.move_tape.ensures.console (g.S.Sink.fault_count c.args.out.now)

pub returns-in-WriteByte-clause-made : goal.returns-in-WriteByte-clause-made
returns-in-WriteByte-clause-made g c =
    let slots = c.args.self.now.slots in
    let same : c.self-in-WriteByte.inside.attached.slots ≡ slots = ap (λ (m : MachineState). m.slots) c.self-in-WriteByte.view_is in
    let a = attachment_at (attachments_of slots) c.args.unit in
    let key = first_key (due_send c.args.self.now.time c.args.watch.now.sends) (due_key c.args.keys.now c.args.self.now.taken c.args.self.now.time) in
    let expects = c.args.watch.now.expects in
    let answer = c.write_byte.result in
    let place = c.in-WriteByte.place in
    let S : List (Option Held) → Type 0 = λ x. said_of_byte answer ≡ write_act (failure_of_byte answer) (attachment_at (attachments_of x) c.args.unit) place in
    subst (λ (o : Hosted). IsMadeOf c.args.want c.args.unit.kind a key expects o) (sym c.made_of-in-WriteByte.ensures)
    (subst (λ (w : Want). IsMadeOf w c.args.unit.kind a key expects (hosted_of answer)) (sym c.in-WriteByte.is)
    (write-made answer a place c.in-WriteByte.byte c.args.unit.kind key expects (subst S same c.write_byte.ensures.said)))

pub returns-in-Tape-clause-made : goal.returns-in-Tape-clause-made
returns-in-Tape-clause-made g c =
    let a = attachment_at (attachments_of c.args.self.now.slots) c.args.unit in
    let key = first_key (due_send c.args.self.now.time c.args.watch.now.sends) (due_key c.args.keys.now c.args.self.now.taken c.args.self.now.time) in
    let expects = c.args.watch.now.expects in
    subst (λ (w : Want). IsMadeOf w c.args.unit.kind a key expects c.move_tape.result) (sym c.in-Tape.is) (c.move_tape.ensures.made key expects)

pub returns-in-WriteByte-clause-room_left : goal.returns-in-WriteByte-clause-room_left
returns-in-WriteByte-clause-room_left g c =
    subst (λ (o : Hosted). IsPastRoom c.args.want o) (sym c.made_of-in-WriteByte.ensures)
    (subst (λ (w : Want). IsPastRoom w (hosted_of c.write_byte.result)) (sym c.in-WriteByte.is)
    (write-past c.write_byte.result (attachment_at (attachments_of c.self-in-WriteByte.inside.attached.slots) c.args.unit) c.in-WriteByte.place c.in-WriteByte.byte c.write_byte.ensures.said))

-- ---- whatever files answer

pub returns-in-ReadByte-clause-answer : goal.returns-in-ReadByte-clause-answer
returns-in-ReadByte-clause-answer g c =
    let slots = c.args.self.now.slots in
    let same : c.self.inside.attached.slots ≡ slots = ap (λ (m : MachineState). m.slots) c.self.view_is in
    let a = attachment_at (attachments_of slots) c.args.unit in
    let key = first_key (due_send c.args.self.now.time c.args.watch.now.sends) (due_key c.args.keys.now c.args.self.now.taken c.args.self.now.time) in
    let expects = c.args.watch.now.expects in
    let place = c.in-ReadByte.place in
    let M : List (Option Held) → Type 0 = λ x. MayRead c.read_byte.result (attachment_at (attachments_of x) c.args.unit) place in
    subst (λ (o : Hosted). IsAnswer c.args.want a key expects o) (sym c.made_of.ensures)
    (subst (λ (w : Want). IsAnswer w a key expects (hosted_of c.read_byte.result)) (sym c.in-ReadByte.is)
    (read-answer c.read_byte.result a place (subst M same c.read_byte.ensures.may)))

pub returns-in-Tape-clause-answer : goal.returns-in-Tape-clause-answer
returns-in-Tape-clause-answer g c =
    let a = attachment_at (attachments_of c.args.self.now.slots) c.args.unit in
    let key = first_key (due_send c.args.self.now.time c.args.watch.now.sends) (due_key c.args.keys.now c.args.self.now.taken c.args.self.now.time) in
    subst (λ (w : Want). IsAnswer w a key c.args.watch.now.expects c.move_tape.result) (sym c.in-Tape.is) c.move_tape.ensures.answer
