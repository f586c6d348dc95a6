use Rattle.std.proofs.Common.{◌≡◌, ℕ, List, append-nil, Option, Some, ap, refl, rules, subst, sym, ◌∙◌, inl}
use Rattle.unit_trait.specs.declared.calls.Got.TheVariants as gots
use Rattle.unit_trait.specs.Calls.{UnitState}
use Rattle.unit_list.specs.Bus.{TakesAnswerIn}
use Rattle.unit_files.specs.Attachments.{attachment_at}
use Rattle.expect_actions.specs.Sends.{due_send}
use Rattle.expect_actions.specs.KeysFile.{due_key}
use Rattle.nova_machine.specs.Seen.{seen, beside, attached_in}
use Rattle.nova_machine.specs.Wants.{first_key}
use Rattle.nova_machine.specs.declared.service.Hosted.TheVariants.{Gets, Stops}
use Rattle.nova_machine.specs.declared.service.Hosted.TheVariants as hosted
use Rattle.nova_machine.specs.declared.machine.Stop.TheVariants.{Wru, Expect}
use Rattle.nova_machine.specs.Machine.{MachineState, attached_files}
use Rattle.telnet_lines.specs.Line.{LineOf}
use Rattle.unit_trait.specs.declared.calls.Got.{Got}
use Rattle.nova_machine.specs.Notes.{failure_of_stop}
use Rattle.nova_machine.specs.Turned.{Turned}
use Rattle.nova_machine.specs.Service.{asked, answered, first_stop, service}
use Rattle.nova_machine.specs.OnLine.{got_on, stop_on}
use Rattle.nova_machine.specs.declared.machine.Stop.{Stop}
use Rattle.expect_actions.specs.Expects.{ExpectTable}
use Rattle.nova_machine.specs.LineChanges.{AreLinesTold}
use Rattle.nova_machine.specs.Comes.{AreTold, Comes, output}
use Rattle.nova_machine.proofs.Quiet.{told-same}
use Rattle.nova_machine.proofs.Serving.{Hosts, asked-lines, none-lined, some-lined, comes-own, comes-lined, comes-gets, comes-wru, comes-matched, comes-stops}
use Rattle.nova_machine.proofs.ServiceCauses.{Hosts as Facts, answered-taken, answered-no-match, stops-no-match, off-still, hosts-watches, hosts-wru, hosts-gets}
use Rattle.nova_machine.proofs.LineCauses.{DidOnLine, line-watches, line-caused}
use Rattle.nova_machine.specs.Steps.{IsMade}
use Rattle.nova_machine.proofs.Steps.{turned-is, made-of, off-asked, on-a-line}
use Rattle.nova_machine.proofs.Copies.{lined-covers, hosted-covers, served-covers}
use Rattle.nova_machine.proofs.machine.Machine.serve_unit.Goals as goal

pub returns-in-Gets-clause-told : goal.returns-in-Gets-clause-told
returns-in-Gets-clause-told g c = λ told lt whole first.
    let state = g.L.Lines.state in
    let old = state c.args.lines.now in
    let m = c.args.self.now in
    let still = c.in-None.ensures.none refl in
    let asks : c.on_line.new.self ≡ asked c.args.unit m = still.0 ∙ c.ask-want.ensures.machine in
    let before : c.ask-want.new.self.lines ≡ m.lines = ap (λ (x : MachineState). x.lines) c.ask-want.ensures.machine ∙ asked-lines c.args.unit m in
    let lines-told : AreLinesTold g.L.Lines.tells old c.ask-want.new.self.lines = subst (λ (ls : List (LineOf ℕ)). AreLinesTold g.L.Lines.tells old ls) (sym before) lt in
    let quiet = none-lined c.args.unit m c.ask-want.new.self c.ask-want.result c.args.watch.now c.args.keys.now old (state c.on_line.new.lines) whole c.on_line.new.self.lines c.ask-want.ensures.machine c.ask-want.ensures.want
    (c.in-None.ensures.told lines-told whole first) in
    let keys = c.args.keys.now in
    let files = (g.F.Files.state c.args.files.now).files in
    let files' = (g.F.Files.state c.host.new.files).files in
    let s = seen (beside c.args.watch.now keys files old) whole m in
    let n = c.on_line.new.self in
    let b = output (g.S.Sink.written c.args.out.now) old.sent in
    let a = output (g.S.Sink.written c.host.new.out) old.sent in
    let now : AreTold g.F.Files.tells n.slots = told-same g.F.Files.tells _ _ (search rules) told in
    let last = c.answer.new.self in
    let made : Hosts c.args.unit c.args.watch.now c.host.new.watch keys files files' n c.host.new.self c.ask-want.result (Gets c.in-Gets.got) =
    record { machine = c.in-Gets.ensures.machine now; said = c.in-Gets.ensures.said now; watched = c.in-Gets.ensures.watch; changed = c.in-Gets.ensures.files now } in
    let P : g.row.L.Denot → Type 0 = λ l. Comes (service (failure_of_stop (c.answer.result)) c.args.unit s) (c.answer.result) (seen (beside c.host.new.watch keys files' (state l)) whole last) g.S.Sink.tells b
    (output (g.S.Sink.written c.host.new.out) (state l).sent) in
    subst P (sym still.1)
    (comes-own (failure_of_stop (c.answer.result)) c.args.unit s (c.answer.result) (seen (beside c.host.new.watch keys files' old) whole last) g.S.Sink.tells b a quiet
    (comes-gets c.args.unit c.args.watch.now c.host.new.watch keys files files' old whole m n c.host.new.self last c.ask-want.result c.in-Gets.got c.answer.result g.S.Sink.tells b a asks c.ask-want.ensures.want made
    c.in-Gets.ensures.printed refl c.answer.ensures.other c.answer.ensures.stop c.answer.ensures.machine))

pub returns-in-Wru-clause-told : goal.returns-in-Wru-clause-told
returns-in-Wru-clause-told g c = λ told lt whole first.
    let state = g.L.Lines.state in
    let old = state c.args.lines.now in
    let m = c.args.self.now in
    let still = c.in-None.ensures.none refl in
    let asks : c.on_line.new.self ≡ asked c.args.unit m = still.0 ∙ c.ask-want.ensures.machine in
    let before : c.ask-want.new.self.lines ≡ m.lines = ap (λ (x : MachineState). x.lines) c.ask-want.ensures.machine ∙ asked-lines c.args.unit m in
    let lines-told : AreLinesTold g.L.Lines.tells old c.ask-want.new.self.lines = subst (λ (ls : List (LineOf ℕ)). AreLinesTold g.L.Lines.tells old ls) (sym before) lt in
    let quiet = none-lined c.args.unit m c.ask-want.new.self c.ask-want.result c.args.watch.now c.args.keys.now old (state c.on_line.new.lines) whole c.on_line.new.self.lines c.ask-want.ensures.machine c.ask-want.ensures.want
    (c.in-None.ensures.told lines-told whole first) in
    let keys = c.args.keys.now in
    let files = (g.F.Files.state c.args.files.now).files in
    let files' = (g.F.Files.state c.host.new.files).files in
    let s = seen (beside c.args.watch.now keys files old) whole m in
    let n = c.on_line.new.self in
    let b = output (g.S.Sink.written c.args.out.now) old.sent in
    let a = output (g.S.Sink.written c.host.new.out) old.sent in
    let now : AreTold g.F.Files.tells n.slots = told-same g.F.Files.tells _ _ (search rules) told in
    let last = c.answer-in-Wru.new.self in
    let made : Hosts c.args.unit c.args.watch.now c.host.new.watch keys files files' n c.host.new.self c.ask-want.result (hosted.Wru) =
    record { machine = c.in-Wru.ensures.machine now; said = c.in-Wru.ensures.said now; watched = c.in-Wru.ensures.watch; changed = c.in-Wru.ensures.files now } in
    let P : g.row.L.Denot → Type 0 = λ l. Comes (service (failure_of_stop (Some Wru)) c.args.unit s) (Some Wru) (seen (beside c.host.new.watch keys files' (state l)) whole last) g.S.Sink.tells b
    (output (g.S.Sink.written c.host.new.out) (state l).sent) in
    subst P (sym still.1)
    (comes-own (failure_of_stop (Some Wru)) c.args.unit s (Some Wru) (seen (beside c.host.new.watch keys files' old) whole last) g.S.Sink.tells b a quiet
    (comes-wru c.args.unit c.args.watch.now c.host.new.watch keys files files' old whole m n c.host.new.self last c.ask-want.result g.S.Sink.tells b a asks c.ask-want.ensures.want made
    c.in-Wru.ensures.printed refl c.answer-in-Wru.ensures.machine))

pub returns-in-Matched-clause-told : goal.returns-in-Matched-clause-told
returns-in-Matched-clause-told g c = λ told lt whole first.
    let state = g.L.Lines.state in
    let old = state c.args.lines.now in
    let m = c.args.self.now in
    let still = c.in-None.ensures.none refl in
    let asks : c.on_line.new.self ≡ asked c.args.unit m = still.0 ∙ c.ask-want.ensures.machine in
    let before : c.ask-want.new.self.lines ≡ m.lines = ap (λ (x : MachineState). x.lines) c.ask-want.ensures.machine ∙ asked-lines c.args.unit m in
    let lines-told : AreLinesTold g.L.Lines.tells old c.ask-want.new.self.lines = subst (λ (ls : List (LineOf ℕ)). AreLinesTold g.L.Lines.tells old ls) (sym before) lt in
    let quiet = none-lined c.args.unit m c.ask-want.new.self c.ask-want.result c.args.watch.now c.args.keys.now old (state c.on_line.new.lines) whole c.on_line.new.self.lines c.ask-want.ensures.machine c.ask-want.ensures.want
    (c.in-None.ensures.told lines-told whole first) in
    let keys = c.args.keys.now in
    let files = (g.F.Files.state c.args.files.now).files in
    let files' = (g.F.Files.state c.host.new.files).files in
    let s = seen (beside c.args.watch.now keys files old) whole m in
    let n = c.on_line.new.self in
    let b = output (g.S.Sink.written c.args.out.now) old.sent in
    let a = output (g.S.Sink.written c.host.new.out) old.sent in
    let now : AreTold g.F.Files.tells n.slots = told-same g.F.Files.tells _ _ (search rules) told in
    let last = c.answer-in-Matched.new.self in
    let made : Hosts c.args.unit c.args.watch.now c.host.new.watch keys files files' n c.host.new.self c.ask-want.result (hosted.Matched c.in-Matched.place) =
    record { machine = c.in-Matched.ensures.machine now; said = c.in-Matched.ensures.said now; watched = c.in-Matched.ensures.watch; changed = c.in-Matched.ensures.files now } in
    let P : g.row.L.Denot → Type 0 = λ l. Comes (service (failure_of_stop (Some (Expect c.in-Matched.place))) c.args.unit s) (Some (Expect c.in-Matched.place)) (seen (beside c.host.new.watch keys files' (state l)) whole last) g.S.Sink.tells b
    (output (g.S.Sink.written c.host.new.out) (state l).sent) in
    subst P (sym still.1)
    (comes-own (failure_of_stop (Some (Expect c.in-Matched.place))) c.args.unit s (Some (Expect c.in-Matched.place)) (seen (beside c.host.new.watch keys files' old) whole last) g.S.Sink.tells b a quiet
    (comes-matched c.args.unit c.args.watch.now c.host.new.watch keys files files' old whole m n c.host.new.self last c.ask-want.result c.in-Matched.place g.S.Sink.tells b a asks c.ask-want.ensures.want made
    c.in-Matched.ensures.printed refl c.answer-in-Matched.ensures.machine))

pub returns-in-Stops-clause-told : goal.returns-in-Stops-clause-told
returns-in-Stops-clause-told g c = λ told lt whole first.
    let state = g.L.Lines.state in
    let old = state c.args.lines.now in
    let m = c.args.self.now in
    let still = c.in-None.ensures.none refl in
    let asks : c.on_line.new.self ≡ asked c.args.unit m = still.0 ∙ c.ask-want.ensures.machine in
    let before : c.ask-want.new.self.lines ≡ m.lines = ap (λ (x : MachineState). x.lines) c.ask-want.ensures.machine ∙ asked-lines c.args.unit m in
    let lines-told : AreLinesTold g.L.Lines.tells old c.ask-want.new.self.lines = subst (λ (ls : List (LineOf ℕ)). AreLinesTold g.L.Lines.tells old ls) (sym before) lt in
    let quiet = none-lined c.args.unit m c.ask-want.new.self c.ask-want.result c.args.watch.now c.args.keys.now old (state c.on_line.new.lines) whole c.on_line.new.self.lines c.ask-want.ensures.machine c.ask-want.ensures.want
    (c.in-None.ensures.told lines-told whole first) in
    let keys = c.args.keys.now in
    let files = (g.F.Files.state c.args.files.now).files in
    let files' = (g.F.Files.state c.host.new.files).files in
    let s = seen (beside c.args.watch.now keys files old) whole m in
    let n = c.on_line.new.self in
    let b = output (g.S.Sink.written c.args.out.now) old.sent in
    let a = output (g.S.Sink.written c.host.new.out) old.sent in
    let now : AreTold g.F.Files.tells n.slots = told-same g.F.Files.tells _ _ (search rules) told in
    let last = c.host.new.self in
    let made : Hosts c.args.unit c.args.watch.now c.host.new.watch keys files files' n c.host.new.self c.ask-want.result (Stops c.in-Stops.stop) =
    record { machine = c.in-Stops.ensures.machine now; said = c.in-Stops.ensures.said now; watched = c.in-Stops.ensures.watch; changed = c.in-Stops.ensures.files now } in
    let P : g.row.L.Denot → Type 0 = λ l. Comes (service (failure_of_stop (Some c.in-Stops.stop)) c.args.unit s) (Some c.in-Stops.stop) (seen (beside c.host.new.watch keys files' (state l)) whole last) g.S.Sink.tells b
    (output (g.S.Sink.written c.host.new.out) (state l).sent) in
    subst P (sym still.1)
    (comes-own (failure_of_stop (Some c.in-Stops.stop)) c.args.unit s (Some c.in-Stops.stop) (seen (beside c.host.new.watch keys files' old) whole last) g.S.Sink.tells b a quiet
    (comes-stops c.args.unit c.args.watch.now c.host.new.watch keys files files' old whole m n c.host.new.self c.ask-want.result c.in-Stops.stop g.S.Sink.tells b a asks c.ask-want.ensures.want made
    c.in-Stops.ensures.printed refl c.in-Stops.ensures.own c.in-Stops.ensures.image))

pub returns-in-Some-clause-told : goal.returns-in-Some-clause-told
returns-in-Some-clause-told g c = λ told lt whole first.
    let state = g.L.Lines.state in
    let old = state c.args.lines.now in
    let new = state c.on_line.new.lines in
    let m = c.args.self.now in
    let watch = c.args.watch.now in
    let keys = c.args.keys.now in
    let made = c.in-Some.made in
    let before : c.ask-want.new.self.lines ≡ m.lines = ap (λ (x : MachineState). x.lines) c.ask-want.ensures.machine ∙ asked-lines c.args.unit m in
    let lines-told : AreLinesTold g.L.Lines.tells old c.ask-want.new.self.lines = subst (λ (ls : List (LineOf ℕ)). AreLinesTold g.L.Lines.tells old ls) (sym before) lt in
    let h = c.on_line.new.self in
    let done = some-lined c.args.unit m c.ask-want.new.self c.ask-want.result made watch keys old new whole h.lines c.ask-want.ensures.machine c.ask-want.ensures.want
    (c.in-Some.ensures.told lines-told whole first) in
    let is : h ≡ record (asked c.args.unit m) { lines = h.lines } =
    c.in-Some.ensures.machine ∙ ap (λ (x : MachineState). record x { lines = h.lines }) c.ask-want.ensures.machine in
    let console = g.S.Sink.written c.args.out.now in
    let got = ap (λ (x : Got). answered c.args.unit x h) done.got_is in
    let answer = c.answer_on_line.ensures in
    comes-lined (failure_of_stop c.answer_on_line.result) c.args.unit watch c.answer_on_line.new.watch keys (g.F.Files.state c.args.files.now).files old new whole m h c.answer_on_line.new.self done.done
    c.answer_on_line.result g.S.Sink.tells (output console old.sent) (output console new.sent) done.is (answer.watch ∙ ap (λ (t : ExpectTable). record watch { expects = t }) done.waits_is) done.lines done.ahead done.heard
    (λ _. sym (append-nil console)) is answer.other
    (answer.stop ∙ ap (λ (t : Turned). first_stop (stop_on made watch.expects) t.stop) got ∙ ap (λ (o : Option Stop). first_stop o (answered c.args.unit done.done.got h).stop) done.stop_is)
    (answer.machine ∙ ap (λ (t : Turned). t.machine) got)

pub answer-requires-clause-room : goal.answer-requires-clause-room
answer-requires-clause-room g c =
    let still = c.in-None.ensures.none refl in
    subst (λ (us : List UnitState). TakesAnswerIn c.args.unit.kind c.in-Gets.got us) (sym (c.in-Gets.ensures.units ∙ ap (λ (x : MachineState). x.units) still.0))
    (c.ask-want.ensures.room c.in-Gets.got c.in-Gets.ensures.room)

pub answer-requires-in-Matched-clause-room : goal.answer-requires-in-Matched-clause-room
answer-requires-in-Matched-clause-room g c =
    let still = c.in-None.ensures.none refl in
    subst (λ (us : List UnitState). TakesAnswerIn c.args.unit.kind gots.Done us) (sym (c.in-Matched.ensures.units ∙ ap (λ (x : MachineState). x.units) still.0))
    (c.ask-want.ensures.room gots.Done c.in-Matched.ensures.room)

-- ---- the causes

pub returns-in-Some-clause-watches : goal.returns-in-Some-clause-watches
returns-in-Some-clause-watches g c =
    let did : DidOnLine c.args.keys.now c.args.unit c.ask-want.result c.in-Some.made c.args.watch.now c.answer_on_line.new.watch c.args.self.now c.ask-want.new.self c.on_line.new.self c.answer_on_line.new.self
    c.answer_on_line.result = record {
      asks = c.ask-want.ensures.machine;
      only = c.in-Some.ensures.machine;
      ports = c.in-Some.ensures.lines.ports;
      wants = c.in-Some.ensures.wants;
      of = c.in-Some.ensures.of;
      watched = c.answer_on_line.ensures.watch;
      left = c.answer_on_line.ensures.machine;
      stops = c.answer_on_line.ensures.stop;
    } in
    line-watches c.args.keys.now c.args.unit c.ask-want.result c.in-Some.made c.args.watch.now c.answer_on_line.new.watch c.args.self.now c.ask-want.new.self c.on_line.new.self c.answer_on_line.new.self
    c.answer_on_line.result g.S.Sink.tells (g.S.Sink.written c.args.out.now) did

pub returns-in-Some-clause-cause : goal.returns-in-Some-clause-cause
returns-in-Some-clause-cause g c =
    let did : DidOnLine c.args.keys.now c.args.unit c.ask-want.result c.in-Some.made c.args.watch.now c.answer_on_line.new.watch c.args.self.now c.ask-want.new.self c.on_line.new.self c.answer_on_line.new.self
    c.answer_on_line.result = record {
      asks = c.ask-want.ensures.machine;
      only = c.in-Some.ensures.machine;
      ports = c.in-Some.ensures.lines.ports;
      wants = c.in-Some.ensures.wants;
      of = c.in-Some.ensures.of;
      watched = c.answer_on_line.ensures.watch;
      left = c.answer_on_line.ensures.machine;
      stops = c.answer_on_line.ensures.stop;
    } in
    line-caused c.args.keys.now c.args.unit c.ask-want.result c.in-Some.made c.args.watch.now c.answer_on_line.new.watch c.args.self.now c.ask-want.new.self c.on_line.new.self c.answer_on_line.new.self
    c.answer_on_line.result did

pub returns-in-Gets-clause-watches : goal.returns-in-Gets-clause-watches
returns-in-Gets-clause-watches g c =
    let e = c.in-Gets.ensures in
    let w = c.ask-want.result in
    let made = Gets c.in-Gets.got in
    let hosts : Facts c.args.keys.now c.args.unit w made c.args.watch.now c.host.new.watch c.args.self.now c.on_line.new.self c.host.new.self c.answer.new.self = record {
      asked_is = (c.in-None.ensures.none refl).0 ∙ c.ask-want.ensures.machine;
      time = ap (λ (m : MachineState). m.time) (c.in-None.ensures.none refl).0 ∙ c.ask-want.ensures.time;
      after = c.answer.ensures.time ∙ e.time;
      taken = e.taken;
      kept = ap (λ (m : MachineState). m.taken) c.answer.ensures.machine ∙ answered-taken c.args.unit c.in-Gets.got c.host.new.self;
      watched = e.watch;
      made_is = e.made;
    } in
    hosts-watches c.args.keys.now c.args.unit w made c.args.watch.now c.host.new.watch c.args.self.now c.on_line.new.self c.host.new.self c.answer.new.self c.answer.result g.S.Sink.tells
    (g.S.Sink.written c.args.out.now) (g.S.Sink.written c.host.new.out) hosts (answered-no-match c.args.unit c.in-Gets.got c.host.new.self c.answer.result c.answer.ensures.stop) e.printed
    (c.answer.ensures.lines ∙ e.lines) (off-still c.args.keys.now c.args.watch.now w c.ask-want.new.self c.on_line.new.self (c.in-None.ensures.none refl).0 (c.in-None.ensures.off refl))

pub returns-in-Gets-clause-cause : goal.returns-in-Gets-clause-cause
returns-in-Gets-clause-cause g c =
    let e = c.in-Gets.ensures in
    let w = c.ask-want.result in
    let hosts : Facts c.args.keys.now c.args.unit w (Gets c.in-Gets.got) c.args.watch.now c.host.new.watch c.args.self.now c.on_line.new.self c.host.new.self c.answer.new.self = record {
      asked_is = (c.in-None.ensures.none refl).0 ∙ c.ask-want.ensures.machine;
      time = ap (λ (m : MachineState). m.time) (c.in-None.ensures.none refl).0 ∙ c.ask-want.ensures.time;
      after = c.answer.ensures.time ∙ e.time;
      taken = e.taken;
      kept = ap (λ (m : MachineState). m.taken) c.answer.ensures.machine ∙ answered-taken c.args.unit c.in-Gets.got c.host.new.self;
      watched = e.watch;
      made_is = e.made;
    } in
    hosts-gets c.args.keys.now c.args.unit w c.in-Gets.got c.args.watch.now c.host.new.watch c.args.self.now c.on_line.new.self c.host.new.self c.answer.new.self c.answer.result hosts
    (c.answer.ensures.slots ∙ e.slots) c.ask-want.ensures.want e.units c.ask-want.ensures.hosted e.room_left c.answer.ensures.stop c.answer.ensures.machine

pub returns-in-Wru-clause-watches : goal.returns-in-Wru-clause-watches
returns-in-Wru-clause-watches g c =
    let e = c.in-Wru.ensures in
    let w = c.ask-want.result in
    let hosts : Facts c.args.keys.now c.args.unit w hosted.Wru c.args.watch.now c.host.new.watch c.args.self.now c.on_line.new.self c.host.new.self c.answer-in-Wru.new.self = record {
      asked_is = (c.in-None.ensures.none refl).0 ∙ c.ask-want.ensures.machine;
      time = ap (λ (m : MachineState). m.time) (c.in-None.ensures.none refl).0 ∙ c.ask-want.ensures.time;
      after = c.answer-in-Wru.ensures.time ∙ e.time;
      taken = e.taken;
      kept = ap (λ (m : MachineState). m.taken) c.answer-in-Wru.ensures.machine ∙ answered-taken c.args.unit gots.NoKey c.host.new.self;
      watched = e.watch;
      made_is = e.made;
    } in
    hosts-watches c.args.keys.now c.args.unit w hosted.Wru c.args.watch.now c.host.new.watch c.args.self.now c.on_line.new.self c.host.new.self c.answer-in-Wru.new.self (Some Wru) g.S.Sink.tells
    (g.S.Sink.written c.args.out.now) (g.S.Sink.written c.host.new.out) hosts tt e.printed
    (c.answer-in-Wru.ensures.lines ∙ e.lines) (off-still c.args.keys.now c.args.watch.now w c.ask-want.new.self c.on_line.new.self (c.in-None.ensures.none refl).0 (c.in-None.ensures.off refl))

pub returns-in-Wru-clause-cause : goal.returns-in-Wru-clause-cause
returns-in-Wru-clause-cause g c =
    let e = c.in-Wru.ensures in
    let w = c.ask-want.result in
    let hosts : Facts c.args.keys.now c.args.unit w hosted.Wru c.args.watch.now c.host.new.watch c.args.self.now c.on_line.new.self c.host.new.self c.answer-in-Wru.new.self = record {
      asked_is = (c.in-None.ensures.none refl).0 ∙ c.ask-want.ensures.machine;
      time = ap (λ (m : MachineState). m.time) (c.in-None.ensures.none refl).0 ∙ c.ask-want.ensures.time;
      after = c.answer-in-Wru.ensures.time ∙ e.time;
      taken = e.taken;
      kept = ap (λ (m : MachineState). m.taken) c.answer-in-Wru.ensures.machine ∙ answered-taken c.args.unit gots.NoKey c.host.new.self;
      watched = e.watch;
      made_is = e.made;
    } in
    hosts-wru c.args.keys.now c.args.unit w c.args.watch.now c.host.new.watch c.args.self.now c.on_line.new.self c.host.new.self c.answer-in-Wru.new.self hosts

pub returns-in-Matched-clause-watches : goal.returns-in-Matched-clause-watches
returns-in-Matched-clause-watches g c =
    let e = c.in-Matched.ensures in
    let w = c.ask-want.result in
    let made = hosted.Matched c.in-Matched.place in
    let hosts : Facts c.args.keys.now c.args.unit w made c.args.watch.now c.host.new.watch c.args.self.now c.on_line.new.self c.host.new.self c.answer-in-Matched.new.self = record {
      asked_is = (c.in-None.ensures.none refl).0 ∙ c.ask-want.ensures.machine;
      time = ap (λ (m : MachineState). m.time) (c.in-None.ensures.none refl).0 ∙ c.ask-want.ensures.time;
      after = c.answer-in-Matched.ensures.time ∙ e.time;
      taken = e.taken;
      kept = ap (λ (m : MachineState). m.taken) c.answer-in-Matched.ensures.machine ∙ answered-taken c.args.unit gots.Done c.host.new.self;
      watched = e.watch;
      made_is = e.made;
    } in
    hosts-watches c.args.keys.now c.args.unit w made c.args.watch.now c.host.new.watch c.args.self.now c.on_line.new.self c.host.new.self c.answer-in-Matched.new.self
    (Some (Expect c.in-Matched.place)) g.S.Sink.tells (g.S.Sink.written c.args.out.now) (g.S.Sink.written c.host.new.out) hosts refl e.printed
    (c.answer-in-Matched.ensures.lines ∙ e.lines) (off-still c.args.keys.now c.args.watch.now w c.ask-want.new.self c.on_line.new.self (c.in-None.ensures.none refl).0 (c.in-None.ensures.off refl))

pub returns-in-Stops-clause-watches : goal.returns-in-Stops-clause-watches
returns-in-Stops-clause-watches g c =
    let e = c.in-Stops.ensures in
    let w = c.ask-want.result in
    let made = Stops c.in-Stops.stop in
    let hosts : Facts c.args.keys.now c.args.unit w made c.args.watch.now c.host.new.watch c.args.self.now c.on_line.new.self c.host.new.self c.host.new.self = record {
      asked_is = (c.in-None.ensures.none refl).0 ∙ c.ask-want.ensures.machine;
      time = ap (λ (m : MachineState). m.time) (c.in-None.ensures.none refl).0 ∙ c.ask-want.ensures.time;
      after = e.time;
      taken = e.taken;
      kept = refl;
      watched = e.watch;
      made_is = e.made;
    } in
    hosts-watches c.args.keys.now c.args.unit w made c.args.watch.now c.host.new.watch c.args.self.now c.on_line.new.self c.host.new.self c.host.new.self (Some c.in-Stops.stop) g.S.Sink.tells
    (g.S.Sink.written c.args.out.now) (g.S.Sink.written c.host.new.out) hosts (stops-no-match w c.args.unit.kind (attachment_at (attached_in c.on_line.new.self) c.args.unit)
    (first_key (due_send c.on_line.new.self.time c.args.watch.now.sends) (due_key c.args.keys.now c.on_line.new.self.taken c.on_line.new.self.time)) c.args.watch.now.expects c.in-Stops.stop e.made) e.printed
    (e.lines) (off-still c.args.keys.now c.args.watch.now w c.ask-want.new.self c.on_line.new.self (c.in-None.ensures.none refl).0 (c.in-None.ensures.off refl))

-- ---- whatever files and lines answer

pub returns-in-Some-clause-steps : goal.returns-in-Some-clause-steps
returns-in-Some-clause-steps g c =
    let did : DidOnLine c.args.keys.now c.args.unit c.ask-want.result c.in-Some.made c.args.watch.now c.answer_on_line.new.watch c.args.self.now c.ask-want.new.self c.on_line.new.self c.answer_on_line.new.self
    c.answer_on_line.result = record {
      asks = c.ask-want.ensures.machine;
      only = c.in-Some.ensures.machine;
      ports = c.in-Some.ensures.lines.ports;
      wants = c.in-Some.ensures.wants;
      of = c.in-Some.ensures.of;
      watched = c.answer_on_line.ensures.watch;
      left = c.answer_on_line.ensures.machine;
      stops = c.answer_on_line.ensures.stop;
    } in
    on-a-line c.args.keys.now c.args.unit c.ask-want.result c.in-Some.made c.args.watch.now c.answer_on_line.new.watch c.args.self.now c.ask-want.new.self c.on_line.new.self c.answer_on_line.new.self
    c.answer_on_line.result did c.ask-want.ensures.want

pub returns-in-Gets-clause-steps : goal.returns-in-Gets-clause-steps
returns-in-Gets-clause-steps g c =
    let e = c.in-Gets.ensures in
    let w = c.ask-want.result in
    let made = Gets c.in-Gets.got in
    let asks = (c.in-None.ensures.none refl).0 ∙ c.ask-want.ensures.machine in
    let work : IsMade c.args.keys.now c.args.unit w c.args.watch.now c.host.new.watch c.on_line.new.self c.host.new.self made =
    record { answer = e.answer; memory = c.host.new.self.processor.memory; done_is = e.work; watched = e.watch } in
    inl (record {
      off = off-asked c.args.keys.now c.args.unit w c.args.watch.now c.args.self.now c.ask-want.new.self c.ask-want.ensures.machine c.ask-want.ensures.want (c.in-None.ensures.off refl);
      done = c.host.new.self;
      made = made;
      work = made-of c.args.keys.now c.args.unit w c.args.watch.now c.host.new.watch c.args.self.now c.on_line.new.self c.host.new.self made asks c.ask-want.ensures.want work;
      left = turned-is (answered c.args.unit c.in-Gets.got c.host.new.self) c.answer.new.self c.answer.result c.answer.ensures.machine c.answer.ensures.stop;
    })

pub returns-in-Wru-clause-steps : goal.returns-in-Wru-clause-steps
returns-in-Wru-clause-steps g c =
    let e = c.in-Wru.ensures in
    let w = c.ask-want.result in
    let made = hosted.Wru in
    let asks = (c.in-None.ensures.none refl).0 ∙ c.ask-want.ensures.machine in
    let work : IsMade c.args.keys.now c.args.unit w c.args.watch.now c.host.new.watch c.on_line.new.self c.host.new.self made =
    record { answer = e.answer; memory = c.host.new.self.processor.memory; done_is = e.work; watched = e.watch } in
    inl (record {
      off = off-asked c.args.keys.now c.args.unit w c.args.watch.now c.args.self.now c.ask-want.new.self c.ask-want.ensures.machine c.ask-want.ensures.want (c.in-None.ensures.off refl);
      done = c.host.new.self;
      made = made;
      work = made-of c.args.keys.now c.args.unit w c.args.watch.now c.host.new.watch c.args.self.now c.on_line.new.self c.host.new.self made asks c.ask-want.ensures.want work;
      left = ap (λ (x : MachineState). record { machine = x; stop = Some Wru }) (sym c.answer-in-Wru.ensures.machine);
    })

pub returns-in-Matched-clause-steps : goal.returns-in-Matched-clause-steps
returns-in-Matched-clause-steps g c =
    let e = c.in-Matched.ensures in
    let w = c.ask-want.result in
    let made = hosted.Matched c.in-Matched.place in
    let asks = (c.in-None.ensures.none refl).0 ∙ c.ask-want.ensures.machine in
    let work : IsMade c.args.keys.now c.args.unit w c.args.watch.now c.host.new.watch c.on_line.new.self c.host.new.self made =
    record { answer = e.answer; memory = c.host.new.self.processor.memory; done_is = e.work; watched = e.watch } in
    inl (record {
      off = off-asked c.args.keys.now c.args.unit w c.args.watch.now c.args.self.now c.ask-want.new.self c.ask-want.ensures.machine c.ask-want.ensures.want (c.in-None.ensures.off refl);
      done = c.host.new.self;
      made = made;
      work = made-of c.args.keys.now c.args.unit w c.args.watch.now c.host.new.watch c.args.self.now c.on_line.new.self c.host.new.self made asks c.ask-want.ensures.want work;
      left = ap (λ (x : MachineState). record { machine = x; stop = Some (Expect c.in-Matched.place) }) (sym c.answer-in-Matched.ensures.machine);
    })

pub returns-in-Stops-clause-steps : goal.returns-in-Stops-clause-steps
returns-in-Stops-clause-steps g c =
    let e = c.in-Stops.ensures in
    let w = c.ask-want.result in
    let made = Stops c.in-Stops.stop in
    let asks = (c.in-None.ensures.none refl).0 ∙ c.ask-want.ensures.machine in
    let work : IsMade c.args.keys.now c.args.unit w c.args.watch.now c.host.new.watch c.on_line.new.self c.host.new.self made =
    record { answer = e.answer; memory = c.host.new.self.processor.memory; done_is = e.work; watched = e.watch } in
    inl (record {
      off = off-asked c.args.keys.now c.args.unit w c.args.watch.now c.args.self.now c.ask-want.new.self c.ask-want.ensures.machine c.ask-want.ensures.want (c.in-None.ensures.off refl);
      done = c.host.new.self;
      made = made;
      work = made-of c.args.keys.now c.args.unit w c.args.watch.now c.host.new.watch c.args.self.now c.on_line.new.self c.host.new.self made asks c.ask-want.ensures.want work;
      left = refl;
    })

-- ---- the disk's copy

pub returns-in-Some-clause-covers : goal.returns-in-Some-clause-covers
returns-in-Some-clause-covers g c =
    lined-covers c.args.unit c.args.self.now c.ask-want.new.self c.on_line.new.self c.ask-want.ensures.machine (ap attached_files c.on_line.ensures.machine)
    (got_on c.in-Some.made) c.answer_on_line.new.self c.answer_on_line.ensures.machine

pub returns-in-Gets-clause-covers : goal.returns-in-Gets-clause-covers
returns-in-Gets-clause-covers g c =
    served-covers c.args.unit c.args.self.now c.ask-want.new.self c.on_line.new.self c.ask-want.ensures.machine (ap attached_files c.on_line.ensures.machine)
    c.in-Gets.got c.host.new.self c.answer.new.self c.in-Gets.ensures.covers c.answer.ensures.machine

pub returns-in-Wru-clause-covers : goal.returns-in-Wru-clause-covers
returns-in-Wru-clause-covers g c =
    served-covers c.args.unit c.args.self.now c.ask-want.new.self c.on_line.new.self c.ask-want.ensures.machine (ap attached_files c.on_line.ensures.machine)
    gots.NoKey c.host.new.self c.answer-in-Wru.new.self c.in-Wru.ensures.covers c.answer-in-Wru.ensures.machine

pub returns-in-Matched-clause-covers : goal.returns-in-Matched-clause-covers
returns-in-Matched-clause-covers g c =
    served-covers c.args.unit c.args.self.now c.ask-want.new.self c.on_line.new.self c.ask-want.ensures.machine (ap attached_files c.on_line.ensures.machine)
    gots.Done c.host.new.self c.answer-in-Matched.new.self c.in-Matched.ensures.covers c.answer-in-Matched.ensures.machine

pub returns-in-Stops-clause-covers : goal.returns-in-Stops-clause-covers
returns-in-Stops-clause-covers g c =
    hosted-covers c.args.unit c.args.self.now c.ask-want.new.self c.on_line.new.self c.ask-want.ensures.machine (ap attached_files c.on_line.ensures.machine)
    c.host.new.self c.in-Stops.ensures.covers
