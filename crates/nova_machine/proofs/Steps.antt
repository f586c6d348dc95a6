-- What turns and runs make of a machine, whatever files and lines answer, one step behind another.
use Rattle.std.proofs.Common.{◌≡◌, ◌∙◌, ◌≢◌, inl, inr, refl, ap, sym, subst, arith, ℕ, ◌+◌, ◌-◌, ◌≤◌, ◌&&◌, Bool, true, false, List, [], Option, Some, None, Ok}
use Rattle.event_queue.specs.EventList.{due, wished}
use Rattle.expect_actions.specs.Sends.{Send, due_send}
use Rattle.expect_actions.specs.KeysFile.{due_key}
use Rattle.expect_actions.specs.Watch.{WatchState}
use Rattle.nova_processor.specs.declared.burst.BurstEnd.{BurstEnd}
use Rattle.nova_processor.specs.declared.burst.BurstEnd.TheVariants as burst_end
use Rattle.file_traits.specs.declared.files.FileId.{FileId}
use Rattle.unit_files.specs.Attachments.{Attachment, Held, attachments_of, attachment_at, read_only_of, read_only_at}
use Rattle.unit_files.specs.declared.faults.ByteAnswer.{ByteAnswer}
use Rattle.unit_files.specs.declared.faults.ByteAnswer.TheVariants as byte
use Rattle.unit_files.specs.Shapes.{MayRead}
use Rattle.unit_files.specs.View.{HoldsFile}
use Rattle.unit_trait.specs.declared.calls.TapeOrder.{TapeOrder}
use Rattle.unit_trait.specs.declared.kind.UnitName.{UnitName}
use Rattle.unit_trait.specs.declared.kind.Kind.TheVariants.{Tti, Tti1}
use Rattle.unit_trait.specs.declared.calls.Got.{Got}
use Rattle.unit_trait.specs.declared.calls.Got.TheVariants.{NoKey, Key}
use Rattle.unit_trait.specs.declared.calls.Got.TheVariants as got
use Rattle.unit_trait.specs.declared.calls.Queue.{Queue}
use Rattle.unit_trait.specs.declared.calls.Want.{Want}
use Rattle.unit_trait.specs.declared.calls.Want.TheVariants as want
use Rattle.nova_machine.specs.declared.machine.Stop.{Stop}
use Rattle.nova_machine.specs.declared.machine.Stop.TheVariants.{ChainLimit}
use Rattle.nova_machine.specs.declared.service.Hosted.{Hosted}
use Rattle.nova_machine.specs.declared.service.Hosted.TheVariants.{Gets, Stops}
use Rattle.nova_machine.specs.Machine.{MachineState}
use Rattle.nova_machine.specs.Turned.{Turned, goes_on}
use Rattle.nova_machine.specs.Turn.{interrupt}
use Rattle.nova_machine.specs.declared.on_line.OnLine.{OnLine}
use Rattle.nova_machine.specs.declared.on_line.OnLine.TheVariants.{Gets as LineGets}
use Rattle.nova_machine.specs.OnLines.{IsOfLine, is_ported}
use Rattle.nova_machine.specs.OnLine.{got_on, stop_on, IsDoneOn, IsOffLine}
use Rattle.nova_machine.proofs.ConsoleSteps.{closed-off}
use Rattle.nova_machine.proofs.LineCauses.{DidOnLine}
use Rattle.nova_machine.specs.Quiet.{IsPlain}
use Rattle.nova_machine.specs.Service.{want_at, asked, answered, stopping}
use Rattle.nova_machine.specs.Seen.{attached_in}
use Rattle.nova_machine.specs.Wants.{first_key, typed_key, key_stop, answer_to}
use Rattle.nova_machine.specs.Hosting.{hosted_of}
use Rattle.memory_transfer.specs.Tapes.{writes_tape}
use Rattle.memory_transfer.specs.Operated.{IsOfTape}
use Rattle.nova_machine.specs.Looks.{keyboard, looked_at}
use Rattle.nova_machine.specs.LineLooks.{second_keyboard, first_looked, LookAgain, AreLooking, IsKeylessNow}
use Rattle.nova_machine.specs.Bursts.{Bursts}
use Rattle.nova_machine.specs.Steps.{IsByteAnswer, IsTapeDone, IsTapeAnswer}
use Rattle.nova_machine.specs.Steps.{worked, IsMade, IsService, event_taken, Services, no_services, one_more, StopsServing}
use Rattle.nova_machine.specs.Steps.{Ended, ended, then_end, entered, IsBehind, ComesTo, Turns, some_turns, IsRun, is_endless, GoAlong}
use Rattle.nova_machine.proofs.Plain.{interrupt-none}
use Rattle.nova_machine.proofs.Serving.{nothing-taken}
use Rattle.nova_machine.proofs.Looks.{wants-key, wish-there, none-sent, asked-same, answered-same, asked_for}
use Rattle.nova_machine.proofs.LineLooks.{silent-answer, silent-is, key-goes-on, first-due, second-due}

-- a piece of a turn with that machine and that stop
pub turned-is : (t : Turned) (m : MachineState) (why : Option Stop) → m ≡ t.machine → why ≡ t.stop → t ≡ record { machine = m; stop = why }
turned-is t m why left stops =
    ap (λ (x : MachineState). record { machine = x; stop = t.stop }) (sym left) ∙ ap (λ (o : Option Stop). record { machine = m; stop = o }) (sym stops)

-- ---- one service

-- a want was asked for, and what was asked for is what was made
pub made-of : (keys : List (ℕ × ℕ)) (unit : UnitName) (w : Want) (watch watch' : WatchState) (m n done : MachineState) (made : Hosted) → n ≡ asked unit m → w ≡ want_at unit m
    → IsMade keys unit w watch watch' n done made → IsMade keys unit (want_at unit m) watch watch' (asked unit m) done made
made-of keys unit w watch watch' m n done made asks wants is =
    subst (λ (x : MachineState). IsMade keys unit (want_at unit m) watch watch' x done made) asks
    (subst (λ (v : Want). IsMade keys unit v watch watch' n done made) wants is)

-- a want that is for no line, of the machine before its unit was asked
pub off-asked : (keys : List (ℕ × ℕ)) (unit : UnitName) (w : Want) (watch : WatchState) (m n : MachineState) → n ≡ asked unit m → w ≡ want_at unit m
    → IsOffLine w (is_ported n.lines) (first_key (due_send n.time watch.sends) (due_key keys n.taken n.time))
    → IsOffLine (want_at unit m) (is_ported m.lines) (first_key (due_send m.time watch.sends) (due_key keys m.taken m.time))
unfolding asked
off-asked keys unit w watch m n asks wants off =
    let P : MachineState → Want → Type 0 = λ x v. IsOffLine v (is_ported x.lines) (first_key (due_send x.time watch.sends) (due_key keys x.taken x.time)) in
    subst (λ (v : Want). P (asked unit m) v) wants (subst (λ (x : MachineState). P x w) asks off)

-- it was made on a line
pub on-a-line : (keys : List (ℕ × ℕ)) (unit : UnitName) (w : Want) (made : OnLine) (watch watch' : WatchState) (m n h new : MachineState) (why : Option Stop) → DidOnLine keys unit w made watch watch' m n h new why → w ≡ want_at unit m
    → IsService keys unit why watch watch' m new
unfolding asked
on-a-line keys unit w made watch watch' m n h new why did wants =
    let P : MachineState → Want → Type 0 = λ x v. IsDoneOn v (is_ported x.lines) (first_key (due_send x.time watch.sends) (due_key keys x.taken x.time)) made in
    let own = stop_on made watch.expects in
    let g = got_on made in
    inr (record {
      made = made;
      wants = subst (λ (v : Want). P (asked unit m) v) wants (subst (λ (x : MachineState). P x w) did.asks did.wants);
      lines = h.lines;
      of = did.of;
      watched = did.watched;
      left =
          ap (λ (x : MachineState). stopping own (answered unit g (record x { lines = h.lines }))) (sym did.asks) ∙ ap (λ (x : MachineState). stopping own (answered unit g x)) (sym did.only)
          ∙ turned-is (stopping own (answered unit g h)) new why did.left did.stops;
    })

-- ---- what a file gives

pub read-answer : (answer : ByteAnswer) (a : Option Attachment) (place : ℕ) → MayRead answer a place → IsByteAnswer a (hosted_of answer)
read-answer (byte.Byte b) (Some a) place may = tt
read-answer (byte.Byte b) None place may = absurd may
read-answer byte.End (Some a) place may = tt
read-answer byte.End None place may = absurd may
read-answer (byte.Failed f) (Some a) place may = tt
read-answer (byte.Failed f) None place may = absurd may
read-answer byte.NoFile None place may = refl
read-answer byte.NoFile (Some a) place may = absurd may
read-answer byte.Written a place may = absurd may

-- no tape is in the drive, or one that is only read and would be written
pub no-tape : (order : TapeOrder) (a : Option Attachment) → a ≡ None → IsTapeAnswer order a (Gets got.NoFile)
no-tape order a none = subst (λ (x : Option Attachment). IsTapeAnswer order x (Gets got.NoFile)) (sym none) refl

-- the file of a drive: whether it is only read is that of its attachment
on-drive : (order : TapeOrder) (slots : List (Option Held)) (unit : UnitName) (file : FileId) (made : Hosted) (refused : Bool) → HoldsFile slots unit file → (writes_tape order && read_only_at slots unit) ≡ refused
    → IsTapeDone refused made → IsTapeAnswer order (attachment_at (attachments_of slots) unit) made
on-drive order slots unit file made refused holds is of =
    let b = holds.held.attachment in
    let same : read_only_at slots unit ≡ b.read_only = ap read_only_of holds.there in
    let here : refused ≡ (writes_tape order && b.read_only) = sym is ∙ ap (λ (r : Bool). writes_tape order && r) same in
    subst (λ (x : Option Attachment). IsTapeAnswer order x made) (sym holds.attachment) (subst (λ (t : Bool). IsTapeDone t made) here of)

pub refused-tape : (order : TapeOrder) (slots : List (Option Held)) (unit : UnitName) (file : FileId) → HoldsFile slots unit file → (writes_tape order && read_only_at slots unit) ≡ true
    → IsTapeAnswer order (attachment_at (attachments_of slots) unit) (Gets got.ReadOnly)
refused-tape order slots unit file holds is = on-drive order slots unit file (Gets got.ReadOnly) true holds is refl

pub done-tape : (order : TapeOrder) (slots : List (Option Held)) (unit : UnitName) (file : FileId) (g : Got) → HoldsFile slots unit file → (writes_tape order && read_only_at slots unit) ≡ false
    → IsOfTape (Ok g) → IsTapeAnswer order (attachment_at (attachments_of slots) unit) (Gets g)
done-tape order slots unit file g holds is of = on-drive order slots unit file (Gets g) false holds is (by-got g of)
  where
    by-got : (g : Got) → IsOfTape (Ok g) → IsTapeDone false (Gets g)
    by-got (got.Tape tape) of = tt
    by-got got.Done of = tt
    by-got g of = absurd of

pub stopped-tape : (order : TapeOrder) (slots : List (Option Held)) (unit : UnitName) (file : FileId) (why : Stop) → HoldsFile slots unit file → (writes_tape order && read_only_at slots unit) ≡ false
    → IsTapeDone false (Stops why) → IsTapeAnswer order (attachment_at (attachments_of slots) unit) (Stops why)
stopped-tape order slots unit file why holds is of = on-drive order slots unit file (Stops why) false holds is of

-- ---- services, one behind another

pub one-service : (keys : List (ℕ × ℕ)) (watch between watch' : WatchState) (old m at new : MachineState) (unit : UnitName) (why : Option Stop) → Services keys watch old between m → due m.events ≡ Some unit
    → at ≡ event_taken m → why ≡ None → IsService keys unit why between watch' at new → Services keys watch old watch' new
one-service keys watch between watch' old m at new unit why before first is goes service =
    one_more unit between watch' m new before first
    (subst (λ (x : MachineState). IsService keys unit None between watch' x new) is (subst (λ (o : Option Stop). IsService keys unit o between watch' at new) goes service))

pub one-stops : (keys : List (ℕ × ℕ)) (watch between watch' : WatchState) (old m at new : MachineState) (unit : UnitName) (why : Stop) → Services keys watch old between m → due m.events ≡ Some unit
    → at ≡ event_taken m → IsService keys unit (Some why) between watch' at new → StopsServing keys why watch watch' old new
one-stops keys watch between watch' old m at new unit why before first is service = record {
  between = between;
  m = m;
  services = before;
  unit = unit;
  first = first;
  service = subst (λ (x : MachineState). IsService keys unit (Some why) between watch' x new) is service;
}

pub none-more : (keys : List (ℕ × ℕ)) (watch watch' : WatchState) (old m at : MachineState) → due m.events ≡ None → at ≡ event_taken m → Services keys watch old watch' m → Services keys watch old watch' at
none-more keys watch watch' old m at none is before =
    subst (λ (x : MachineState). Services keys watch old watch' x) (sym (is ∙ nothing-taken m none)) before

-- ---- parts of a turn

pub behind-comes : (part : WatchState → MachineState → Ended) (keys : List (ℕ × ℕ)) (why : Option Stop) (watch watch' : WatchState) (old new : MachineState)
    → IsBehind part keys watch old (record { watch = watch'; machine = new; stop = why }) → ComesTo part keys why watch watch' old new
behind-comes part keys None watch watch' old new is = is
behind-comes part keys (Some why) watch watch' old new is = inr is

-- what stopped before a part stops with it
pub stops-before : (part : WatchState → MachineState → Ended) (next : WatchState → MachineState → Ended) (keys : List (ℕ × ℕ)) (why : Stop) (watch watch' : WatchState) (old new : MachineState)
    → ComesTo part keys (Some why) watch watch' old new → ComesTo (λ w m. then_end (part w m) next) keys (Some why) watch watch' old new
stops-before part next keys why watch watch' old new (inl stops) = inl stops
stops-before part next keys why watch watch' old new (inr is) =
    inr (record { between = is.between; m = is.m; services = is.services; none = is.none; left = ap (λ (e : Ended). then_end e next) is.left })

-- a part behind one that went on
pub goes-behind : (part : WatchState → MachineState → Ended) (next : WatchState → MachineState → Ended) (keys : List (ℕ × ℕ)) (watch between : WatchState) (old m : MachineState) (e : Ended)
    → ComesTo part keys None watch between old m → next between m ≡ e → IsBehind (λ w k. then_end (part w k) next) keys watch old e
goes-behind part next keys watch between old m e is goes =
    record { between = is.between; m = is.m; services = is.services; none = is.none; left = ap (λ (x : Ended). then_end x next) is.left ∙ goes }

-- the services go on, and the interrupt is looked for
pub entered-behind : (keys : List (ℕ × ℕ)) (why : Option Stop) (watch between : WatchState) (old m new : MachineState) → Services keys watch old between m → due m.events ≡ None
    → new ≡ (interrupt m).machine → why ≡ (interrupt m).stop → ComesTo entered keys why watch between old new
entered-behind keys why watch between old m new before none left stops =
    behind-comes entered keys why watch between old new
    (record { between = between; m = m; services = before; none = none; left = ap (ended between) (turned-is (interrupt m) new why left stops) })

-- nothing comes before the instruction
pub plain-comes : (keys : List (ℕ × ℕ)) (watch : WatchState) (m : MachineState) → IsPlain m → ComesTo entered keys None watch watch m m
plain-comes keys watch m plain =
    record { between = watch; m = m; services = no_services; none = plain.none; left = ap (ended watch) (interrupt-none m plain.uninterrupted) }

-- ---- looks of both keyboards

-- the console's keyboard, for which no key comes
keyless-made : (keys : List (ℕ × ℕ)) (watch : WatchState) (m : MachineState) → IsKeylessNow watch keys m → IsMade keys keyboard want.Key watch watch m m (Gets NoKey)
keyless-made keys watch m keyless =
    let a = attachment_at (attached_in m) keyboard in
    record {
      answer =
          let key : first_key (due_send m.time watch.sends) (due_key keys m.taken m.time) ≡ None = ap (λ (o : Option ℕ). first_key o (due_key keys m.taken m.time)) keyless.0 ∙ keyless.1 in
          (ap (λ (o : Option ℕ). answer_to None a [] o want.Key) key, ap key_stop key);
      memory = m.processor.memory;
      done_is =
          sym (ap (λ (o : Option ℕ). worked m.processor.memory (typed_key o (due_key keys m.taken m.time)) a want.Key m) keyless.0
          ∙ ap (λ (o : Option ℕ). worked m.processor.memory o a want.Key m) keyless.1);
      watched = sym (ap (λ (l : List Send). record watch { sends = l }) (none-sent m.time watch.sends keyless.0));
    }

keyboard-looks : (keys : List (ℕ × ℕ)) (watch : WatchState) (period : ℕ) (m : MachineState) → IsKeylessNow watch keys m → LookAgain period m.units
    → IsService keys keyboard None watch watch m (asked_for keyboard period m)
keyboard-looks keys watch period m keyless again =
    let there = wish-there Tti m.units period again.first in
    inl (record {
      off =
          subst (λ (w : Want). IsOffLine w (is_ported m.lines) (first_key (due_send m.time watch.sends) (due_key keys m.taken m.time))) (sym (wants-key Tti tt m.units there))
          (closed-off m.lines (first_key (due_send m.time watch.sends) (due_key keys m.taken m.time)) keyless.2);
      done = m;
      made = Gets NoKey;
      work = made-of keys keyboard want.Key watch watch m m m (Gets NoKey) (sym (asked-same Tti tt m)) (sym (wants-key Tti tt m.units there)) (keyless-made keys watch m keyless);
      left =
          answered-same Tti tt m there
          ∙ ap (λ (q : Queue). goes_on (record m { events = wished keyboard q m.events })) again.first;
    })

second-looks : (keys : List (ℕ × ℕ)) (watch : WatchState) (period : ℕ) (m n last : MachineState) (got : Got) → AreLooking period m → IsOfLine got
    → answered second_keyboard got (record (first_looked period m) { lines = n.lines }) ≡ goes_on last → IsService keys second_keyboard None watch watch (first_looked period m) last
second-looks keys watch period m n last got looking of left =
    let at = first_looked period m in
    let there = wish-there Tti1 m.units period looking.again.second in
    inr (record {
      made = LineGets got;
      wants = subst (λ (w : Want). IsDoneOn w (is_ported at.lines) (first_key (due_send at.time watch.sends) (due_key keys at.taken at.time)) (LineGets got)) (sym (wants-key Tti1 tt m.units there)) tt;
      lines = n.lines;
      of = of;
      watched = refl;
      left = ap (λ (x : MachineState). answered second_keyboard got (record x { lines = n.lines })) (asked-same Tti1 tt at) ∙ left;
    })

both-look : (keys : List (ℕ × ℕ)) (watch : WatchState) (period : ℕ) (m n last : MachineState) (got : Got) → AreLooking period m → IsKeylessNow watch keys m → IsOfLine got
    → answered second_keyboard got (record (first_looked period m) { lines = n.lines }) ≡ goes_on last → Services keys watch m watch last
both-look keys watch period m n last got looking keyless of left =
    let at = asked_for keyboard period (event_taken m) in
    one_more second_keyboard watch watch at last
    (one_more keyboard watch watch m at no_services (first-due period m looking) (keyboard-looks keys watch period (event_taken m) keyless looking.again))
    (second-due period m looking) (second-looks keys watch period m n last got looking of left)

-- no key has come
pub silent-looks : (keys : List (ℕ × ℕ)) (watch : WatchState) (period : ℕ) (m n last : MachineState) → AreLooking period m → IsKeylessNow watch keys m → n ≡ record m { lines = n.lines } → last ≡ looked_at period n
    → Services keys watch m watch last
silent-looks keys watch period m n last looking keyless is looks =
    let left = silent-is period m n last is looks in
    both-look keys watch period m last last NoKey looking keyless tt
    (silent-answer period m last.lines looking ∙ ap (λ (x : MachineState). goes_on x) (sym left))

-- a key has come
pub key-looks : (keys : List (ℕ × ℕ)) (watch : WatchState) (period key : ℕ) (m n last : MachineState) → AreLooking period m → IsKeylessNow watch keys m → n ≡ record m { lines = n.lines }
    → last ≡ (answered second_keyboard (Key key) (first_looked period n)).machine → Services keys watch m watch last
key-looks keys watch period key m n last looking keyless is left =
    let h = first_looked period n in
    let here : record (first_looked period m) { lines = n.lines } ≡ h = ap (λ (x : MachineState). first_looked period x) (sym is) in
    both-look keys watch period m n last (Key key) looking keyless tt
    (ap (λ (x : MachineState). answered second_keyboard (Key key) x) here
    ∙ turned-is (answered second_keyboard (Key key) h) last None left (key-goes-on period m h key looking (ap (λ (x : MachineState). x.units) is)))

-- ---- turns that go on

pub burst-along : (keys : List (ℕ × ℕ)) (watch : WatchState) (most done : ℕ) (end : BurstEnd) (m new : MachineState) → done ≤ most → Bursts watch keys most done end m new → GoAlong keys watch most done end m new
burst-along keys watch most done burst_end.ChainLimit m new few is = λ count start old before step. is_endless most done watch m new before is
burst-along keys watch most done burst_end.Spent m new few is = λ count start old before. some_turns most done burst_end.Spent watch m new before (λ e. absurd (cc)) few is
burst-along keys watch most done burst_end.Transfer m new few is = λ count start old before. some_turns most done burst_end.Transfer watch m new before (λ e. absurd (cc)) few is
burst-along keys watch most done burst_end.AtStop m new few is = λ count start old before. some_turns most done burst_end.AtStop watch m new before (λ e. absurd (cc)) few is

-- turns that went on, whatever the end
abbrev pub WentOn : List (ℕ × ℕ) → WatchState → ℕ → ℕ → MachineState → MachineState → Type 0
WentOn keys watch most done m new =
    (count : ℕ) (start : WatchState) (old : MachineState) → Turns keys count start old false most watch m → Turns keys count start old false (most - done) watch new

pub along-on : (keys : List (ℕ × ℕ)) (watch : WatchState) (most done : ℕ) (end : BurstEnd) (m new : MachineState) → end ≢ burst_end.ChainLimit → GoAlong keys watch most done end m new → WentOn keys watch most done m new
along-on keys watch most done burst_end.ChainLimit m new other is = absurd (other refl)
along-on keys watch most done burst_end.Spent m new other is = is
along-on keys watch most done burst_end.Transfer m new other is = is
along-on keys watch most done burst_end.AtStop m new other is = is

pub on-along : (keys : List (ℕ × ℕ)) (watch : WatchState) (most done : ℕ) (end : BurstEnd) (m new : MachineState) → end ≢ burst_end.ChainLimit → WentOn keys watch most done m new → GoAlong keys watch most done end m new
on-along keys watch most done burst_end.ChainLimit m new other is = absurd (other refl)
on-along keys watch most done burst_end.Spent m new other is = is
on-along keys watch most done burst_end.Transfer m new other is = is
on-along keys watch most done burst_end.AtStop m new other is = is

-- a run that a chain without an end has ended
pub along-ends : (keys : List (ℕ × ℕ)) (watch : WatchState) (most done : ℕ) (end : BurstEnd) (m new : MachineState) → end ≡ burst_end.ChainLimit → GoAlong keys watch most done end m new
    → (count : ℕ) (start : WatchState) (old : MachineState) → Turns keys count start old false most watch m → (step : Bool) → IsRun keys step count start old ChainLimit watch new
along-ends keys watch most done burst_end.ChainLimit m new is goes = goes
along-ends keys watch most done burst_end.Spent m new is goes = absurd (cc)
along-ends keys watch most done burst_end.Transfer m new is goes = absurd (cc)
along-ends keys watch most done burst_end.AtStop m new is goes = absurd (cc)

all-done : (most done more : ℕ) → most - done - more ≡ most - (done + more)
all-done most done more = omega arith

-- more turns behind some that went on
pub along-then : (keys : List (ℕ × ℕ)) (watch : WatchState) (most done more : ℕ) (end : BurstEnd) (old m new : MachineState) → WentOn keys watch most done old m → GoAlong keys watch (most - done) more end m new
    → GoAlong keys watch most (done + more) end old new
along-then keys watch most done more burst_end.ChainLimit old m new one two = λ count start first before step. two count start first (one count start first before) step
along-then keys watch most done more burst_end.Spent old m new one two = λ count start first before.
    subst (λ (n : ℕ). Turns keys count start first false n watch new) (all-done most done more) (two count start first (one count start first before))
along-then keys watch most done more burst_end.Transfer old m new one two = λ count start first before.
    subst (λ (n : ℕ). Turns keys count start first false n watch new) (all-done most done more) (two count start first (one count start first before))
along-then keys watch most done more burst_end.AtStop old m new one two = λ count start first before.
    subst (λ (n : ℕ). Turns keys count start first false n watch new) (all-done most done more) (two count start first (one count start first before))
