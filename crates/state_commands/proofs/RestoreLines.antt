-- What RESTORE leaves of the lines.
use Rattle.std.proofs.Common.{◌≡◌, inl, inr, ℕ, zero, suc, ◌+◌, ◌<◌, ◌≤◌, ◌++◌, append-nil, Bool, true, false, true≢false, List, [], ◌∷◌, length, map, slice_get, Option, Some, None, IfSome, IsTrue, is_some, Ok, Err, refl, ap, sym, ◌∙◌, subst, arith}
use Rattle.std.specs.List.{AllByRecursion}
use Rattle.std.proofs.lemmas.Option.{same_Some}
use Rattle.host_lines.specs.declared.lines.ListenFault.{ListenFault}
use Rattle.host_lines.specs.declared.lines.ListenFault.TheVariants as listen
use Rattle.host_lines.specs.Traffic.{Answer as LineAnswer, Quiet, Failed, Replied, replied}
use Rattle.host_lines.specs.LineCalls.{listen_faults}
use Rattle.host_lines.specs.Told.{IsFirst, record_in, ahead_of}
use Rattle.host_lines.specs.State.{LineState, IsListened}
use Rattle.telnet_lines.specs.Line.{LineOf, unconnected}
use Rattle.telnet_lines.specs.Many.{AreApart}
use Rattle.telnet_lines.specs.Joined.{seen_line}
use Rattle.terminal_ports.specs.Listening.{ListensEach, listening_each}
use Rattle.terminal_ports.specs.Rows.{with_ports}
use Rattle.terminal_ports.proofs.RowPorts.{AreGiven, HasAt, NoneHas, given-length, every-given, given-there, apart-given, given-listened, listened-before, given-up-before}
use Rattle.terminal_ports.proofs.RowTold.{tells-grows, listens-grows, each-said, failed-said}
use Rattle.nova_machine.specs.LineChanges.{HasConnection}
use Rattle.nova_machine.proofs.LineSteps.{first-through, hears-equal}
use Rattle.unit_trait.specs.declared.kind.UnitName.{UnitName}
use Rattle.saved_files.specs.declared.file_faults.RestoreFault.{RestoreFault}
use Rattle.saved_files.specs.declared.file_faults.RestoreFault.TheVariants as restore
use Rattle.saved_session.specs.declared.saved.SavedPorts.{SavedPorts}
use Rattle.saved_session.specs.Valid.{ArePorts}
use Rattle.state_transfer.specs.Ports.{assigned, ports_wanted}
use Rattle.state_transfer.specs.Putting.{SaysMissing}
use Rattle.state_transfer.specs.Listening.{LeavesLines, AreClosed}
use Rattle.saved_session.specs.Parts.{State}
use Rattle.state_transfer.specs.PutBack.{misses_unit, put_back}
use Rattle.saved_files.specs.Putting.{FileRefusal, SaysFirst}
use Rattle.command_session.specs.declared.next.Next.TheVariants.{Go}
use Rattle.command_session.specs.declared.fault.CommandFault.TheVariants.{PortFailed}
use Rattle.state_commands.specs.StateFaults.{restore_fault}
use Rattle.command_session.specs.LinesLeft.{HasPort, AreListened, LinesLeft, Unlistened}
use Rattle.command_session.specs.Live.{Live}
use Rattle.state_commands.specs.StateEffects.{refusal_fault, refusal_used, restored_by, listened_back}
use Rattle.command_session.proofs.KeptLemmas.{lines-kept}
use Rattle.fault_counts.specs.Faults.{raised}
use Rattle.command_session.proofs.PortLemmas.{seen-still}
use Rattle.state_commands.proofs.PortRows.{all-given, closed-none, ports-seen}
use Rattle.state_commands.proofs.RestoreLemmas.{ends, missing-did, back-did, failed-did, unread-want}
use Rattle.command_session.proofs.WholeLemmas.{own_both}
use Rattle.file_commands.specs.declared.note.Subject.TheVariants as subject
use Rattle.file_commands.specs.declared.note.FaultNote.{FaultNote}
use Rattle.file_commands.specs.declared.stamp.Stamp.{Stamp}
use Rattle.file_commands.specs.Notes.{CommandNote, notes_said}
use Rattle.whole_files.specs.declared.whole.Whole.{Whole}
use Rattle.whole_files.specs.Claims.{claimed}
use Rattle.whole_files.specs.Whole.{WholeIs, whole_act}
use Rattle.unit_files.specs.Attachments.{no_attachments}
use Rattle.nova_machine.specs.Comes.{Output}
use Rattle.nova_machine.specs.Seen.{attached_in}
use Rattle.state_transfer.specs.Listening.{IsPortFault}
use Rattle.state_text.specs.Reading.{reading}
use Rattle.saved_files.specs.Putting.{IsMissing, IsTooLong, HasChanged, claim_in, first_refused}
use Rattle.command_session.specs.declared.fault.CommandFault.TheVariants.{NoFile, FileTooLong, Changed}
use Rattle.command_session.specs.Reply.{Answer}
use Rattle.command_session.specs.Occupied.{is_occupied}
use Rattle.state_commands.specs.StateEffects.{restore_notes, restore_reply}
use Rattle.command_session.specs.WholeCalls.{read_notes}
use Rattle.command_session.specs.Doing.{Did, IsRestoreAnswer}

-- ---- lines to which nobody is connected

-- nobody is connected to any of these lines
abbrev AreFree : List (LineOf ℕ) → Type 0
AreFree lines = AllByRecursion (λ (line : LineOf ℕ). line.connection ≡ None) lines

closed-free : (lines : List (LineOf ℕ)) → AreClosed lines → AreFree lines
closed-free [] closed = tt
closed-free (line ∷ lines) closed = (ap (λ (l : LineOf ℕ). l.connection) closed.0, closed-free lines closed.1)

free-at : (place : ℕ) (lines : List (LineOf ℕ)) (line : LineOf ℕ) → slice_get lines place ≡ Some line → AreFree lines → line.connection ≡ None
free-at place [] line at free = absurd (cc)
free-at zero (l ∷ lines) line at free = ap (λ (x : LineOf ℕ). x.connection) (sym (same_Some l line at)) ∙ free.0
free-at (suc place) (l ∷ lines) line at free = free-at place lines line at free.1

unlinked : (o : Option ℕ) (conn : ℕ) → o ≡ None → o ≡ Some conn → ⊥
unlinked o conn none own = true≢false (ap is_some (sym own ∙ none))

free-apart : (s : LineState) (lines : List (LineOf ℕ)) → AreFree lines → AreApart s lines
free-apart s lines free = record {
  linked = λ i line at conn own. absurd (unlinked line.connection conn (free-at i lines line at free) own);
  apart = λ i j one other differ here there conn own its. absurd (unlinked one.connection conn (free-at i lines one here free) own);
}

none-connected : (conn : ℕ) (lines : List (LineOf ℕ)) → AreFree lines → ¬ HasConnection conn lines
none-connected conn [] free = λ has. has
none-connected conn (line ∷ lines) free =
    λ has. elim has [ inl own ↦ unlinked line.connection conn free.0 own | inr later ↦ none-connected conn lines free.1 later ]

no-port : (port : ℕ) (lines : List (LineOf ℕ)) → NoneHas port lines → ¬ HasPort port lines
no-port port [] none = λ has. has
no-port port (line ∷ lines) none = λ has. elim has [ inl own ↦ none.0 own | inr later ↦ no-port port lines none.1 later ]

has-at : (port place : ℕ) (lines : List (LineOf ℕ)) → slice_get lines place ≡ Some (unconnected (Some port)) → HasPort port lines
has-at port place [] at = absurd (cc)
has-at port zero (line ∷ lines) at = inl (ap (λ (l : LineOf ℕ). l.port) (same_Some line (unconnected (Some port)) at))
has-at port (suc place) (line ∷ lines) at = inr (has-at port place lines at)

closed-listened : (s : LineState) (lines : List (LineOf ℕ)) → AreClosed lines → AreListened s lines
closed-listened s [] closed = tt
closed-listened s (line ∷ lines) closed =
    (subst (λ (o : Option ℕ). IfSome o (IsListened s)) (sym (ap (λ (l : LineOf ℕ). l.port) closed.0)) tt, closed-listened s lines closed.1)

-- ---- what is left of the lines

-- the session was put back
done-left : (tells : Bool) (listed : Bool) (p : SavedPorts) (before : List (LineOf ℕ)) (old new : LineState) → ArePorts listed p → 0 < length before → AreClosed before
    → ListensEach tells (ports_wanted p before) (Ok tt) old new → LinesLeft tells old before new (with_ports (assigned p before) before)
done-left tells listed p before old new are some closed each = record {
  ports = λ port is. elim (listened-before given old.listens port (ap (λ (f : ℕ → Bool). f port) (sym each.row.listens) ∙ is)) [
    | inl was ↦ inr (was, no-port port before (closed-none port before closed))
    | inr (g, same, among) ↦ inl (has-at port g.0 after (among (HasAt after) there ∙ ap (λ (n : ℕ). Some (unconnected (Some n))) same))
  ];
  owned = λ conn is. inr (ap (λ (f : ℕ → Bool). f conn) (sym each.stands) ∙ is, none-connected conn before (closed-free before closed));
  later = let same = each.counted in omega (arith, same);
  many = given-length given before;
  session = λ apart. apart-given (length before) given before ones (free-each given) apart;
  listened = λ apart all. every-given (λ (line : LineOf ℕ). IfSome line.port (IsListened new)) given before
      (subst (λ (f : ℕ → Bool). AllByRecursion (λ (g : ℕ × ℕ). IsTrue (f g.1)) given) (sym each.row.listens) (given-listened given old.listens))
      (closed-listened new before closed);
  told = λ is apart. (
    free-apart new after (every-given (λ (line : LineOf ℕ). line.connection ≡ None) given before (all-free given) (closed-free before closed)),
    tells-grows (ports_wanted p before) old.told new.told (each.row.told is),
  );
  heard = λ is. hears-equal old.sent new.sent each.sent;
}
  where
    given : List (ℕ × ℕ)
    given = assigned p before

    after : List (LineOf ℕ)
    after = with_ports given before

    ones : AreGiven (length before) given
    ones = all-given listed p before are some

    there : AllByRecursion (HasAt after) given
    there = given-there (length before) given before refl ones

    all-free : (gs : List (ℕ × ℕ)) → AllByRecursion (λ (g : ℕ × ℕ). (unconnected {P = ℕ} (Some g.1)).connection ≡ None) gs
    all-free [] = tt
    all-free (g ∷ gs) = (refl, all-free gs)

    free-each : (gs : List (ℕ × ℕ)) → AllByRecursion (λ (g : ℕ × ℕ). NoneHas g.1 before) gs
    free-each [] = tt
    free-each (g ∷ gs) = (closed-none g.1 before closed, free-each gs)

pub restore-done : (tells : Bool) (listed : Bool) (p : SavedPorts) (before after : List (LineOf ℕ)) (old new : LineState) → ArePorts listed p → 0 < length before → AreClosed before
    → LeavesLines tells (ports_wanted p before) (Ok tt) old new → after ≡ with_ports (assigned p before) before → LinesLeft tells old before new after
restore-done tells listed p before after old new are some closed left is =
    subst (λ (ls : List (LineOf ℕ)). LinesLeft tells old before new ls) (sym is) (done-left tells listed p before old new are some closed left.0)

same-left : (tells : Bool) (before : List (LineOf ℕ)) (old new : LineState) → new ≡ old → LinesLeft tells old before new before
same-left tells before old new same = subst (λ (s : LineState). LinesLeft tells old before s before) (sym same) (lines-kept tells old before before refl)

later-raised : (count : ℕ) → count ≤ raised count
later-raised count = omega arith

-- a wanted port was refused
refused-left : (tells : Bool) (ports : List ℕ) (before : List (LineOf ℕ)) (fault : ListenFault) (old new : LineState) → AreClosed before → ListensEach tells ports (Err fault) old new
    → LinesLeft tells old before new before
refused-left tells ports before fault old new closed each = record {
  ports = λ port is. inr (
    given-up-before each.row.before old.listens port (ap (λ (f : ℕ → Bool). f port) (sym each.row.listens) ∙ is),
    no-port port before (closed-none port before closed),
  );
  owned = λ conn is. inr (ap (λ (f : ℕ → Bool). f conn) (sym each.stands) ∙ is, none-connected conn before (closed-free before closed));
  later = subst (λ (n : ℕ). old.faults ≤ n) (sym each.counted) (counted fault);
  many = refl;
  session = λ apart. apart;
  listened = λ apart all. closed-listened new before closed;
  told = λ is apart. (
    free-apart new before (closed-free before closed),
    (let chain = each.row.told is in
        first-through (record_in old.told) (record_in chain.0) (record_in new.told) (tells-grows each.row.before old.told chain.0 chain.1.0)
        (listens-grows fault chain.0 new.told chain.1.1)),
  );
  heard = λ is. hears-equal old.sent new.sent each.sent;
}
  where
    counted : (fault : ListenFault) → old.faults ≤ listen_faults (Err fault) old.faults
    counted listen.Failed = later-raised old.faults
    counted listen.OutOfMemory = omega arith

pub restore-refused : (tells : Bool) (ports : List ℕ) (before after : List (LineOf ℕ)) (fault : RestoreFault) (old new : LineState) → AreClosed before → LeavesLines tells ports (Err fault) old new
    → after ≡ before → LinesLeft tells old before new after
restore-refused tells ports before after fault old new closed left is = subst (λ (ls : List (LineOf ℕ)). LinesLeft tells old before new ls) (sym is) (by fault left)
  where
    by : (fault : RestoreFault) → LeavesLines tells ports (Err fault) old new → LinesLeft tells old before new before
    by restore.Port left = refused-left tells ports before listen.Failed old new closed left
    by restore.OutOfMemory (inl same) = same-left tells before old new same
    by restore.OutOfMemory (inr refused) = refused-left tells ports before listen.OutOfMemory old new closed refused
    by restore.MissingUnit same = same-left tells before old new same
    by (restore.NoFile unit) same = same-left tells before old new same
    by (restore.TooLong unit) same = same-left tells before old new same
    by (restore.Changed unit) same = same-left tells before old new same
    by (restore.Failed f) same = same-left tells before old new same

-- ---- what it comes to

-- where no file is refused, by what is left of the lines: the session is put back
module _ (used : ℕ) (s : State) (live new : Live) (old after : LineState) (whole : List LineAnswer) (lines : List (LineOf ℕ))
    (seen : live.lines ≡ map (seen_line old) lines) (ahead : live.ahead ≡ ahead_of old.told whole) where
  wanted-seen : ports_wanted s.ports live.lines ≡ ports_wanted s.ports lines
  wanted-seen = ap (ports_wanted s.ports) seen ∙ ports-seen s.ports old lines

  -- by what its listenings say
  heard-ends : (said : Replied) → listening_each (ports_wanted s.ports lines) (ahead_of old.told whole) ≡ said → restored_by None used s live ≡ listened_back said used s live
  heard-ends said is =
      ap (λ (r : Replied). listened_back r used s live)
      ((λ i. listening_each (wanted-seen i) (ahead i)) ∙ is)

  pub back-ends : LeavesLines true (ports_wanted s.ports lines) (Ok tt) old after → IsFirst (record_in after.told) whole
      → new ≡ record (put_back s live) { ahead = ahead_of after.told whole }
      → restored_by None used s live ≡ ends (Ok Go) used new
  back-ends left first is =
      heard-ends (replied Quiet (ahead_of after.told whole)) (each-said (ports_wanted s.ports lines) old.told after.told whole (left.0.row.told refl) first)
      ∙ ap (ends (Ok Go) used) (sym is)

  -- or a port of it is not to be had
  pub port-ends : ListensEach true (ports_wanted s.ports lines) (Err listen.Failed) old after → IsFirst (record_in after.told) whole
      → restored_by None used s live ≡ ends (Err PortFailed) used (record live { ahead = ahead_of after.told whole })
  port-ends each first =
      let cut = each.row in
      let chain = cut.told refl in
      heard-ends (replied Failed (ahead_of after.told whole))
      (ap (λ (ports : List ℕ). listening_each ports (ahead_of old.told whole)) cut.parts
      ∙ failed-said cut.before cut.behind cut.refused old.told chain.0 after.told whole chain.1.0 chain.1.1 first)

-- ---- the answer's other sides

pub restore-unasked : (fault : RestoreFault) (P : Type 0) → ((IsPortFault fault → ⊥) → P) → (Unlistened (Err (restore_fault fault)) → ⊥) → P
restore-unasked (restore.Failed f) P comes never = comes (λ is. is)
restore-unasked (restore.NoFile unit) P comes never = comes (λ is. is)
restore-unasked (restore.TooLong unit) P comes never = comes (λ is. is)
restore-unasked (restore.Changed unit) P comes never = comes (λ is. is)
restore-unasked restore.MissingUnit P comes never = comes (λ is. is)
restore-unasked restore.Port P comes never = absurd (never tt)
restore-unasked restore.OutOfMemory P comes never = absurd (never tt)

nothing-more : (n : ℕ) → n + 0 ≡ n
nothing-more n = omega arith

-- a session that was not put back, by its fault
pub refused-by : (live new : Live) (force : Bool) (name : List ℕ) (w : Whole) (number : ℕ) (tells : Bool) (out : Output) (notes notes' : List FaultNote) (bytes : List ℕ) (s : State)
    (fault : RestoreFault) (answer : Answer) (old after : LineState) (whole : List LineAnswer) (lines : List (LineOf ℕ))
    → is_occupied (attached_in live.machine) live.lines ≡ false → reading bytes ≡ Ok s → whole_act (claimed w) name live.files ≡ (WholeIs bytes, length (claimed w))
    → live.lines ≡ map (seen_line old) lines → live.ahead ≡ ahead_of old.told whole → SaysMissing (Err fault) (misses_unit s.machine live.machine.units)
    → SaysFirst (Err fault) (first_refused (claim_in (Err fault)) force s.files no_attachments live.files) → LeavesLines true (ports_wanted s.ports lines) (Err fault) old after
    → IsFirst (record_in after.told) whole → new ≡ record live { lines = map (seen_line after) lines; ahead = ahead_of after.told whole } → answer ≡ Err (restore_fault fault)
    → notes' ≡ (notes ++ read_notes subject.State (record { command = number; time = live.machine.time }) w) ++ restore_notes (record { command = number; time = live.machine.time }) fault
    → Did (λ (own : List CommandNote). restore_reply own live force name) number answer new tells out out (notes_said notes) (notes_said notes')
refused-by live new force name w number tells out notes notes' bytes s fault answer old after whole lines free is read seen ahead missing says left first leaves answered noted =
    subst (λ (a : Answer). Did (λ (own : List CommandNote). restore_reply own live force name) number a new tells out out (notes_said notes) (notes_said notes')) (sym answered)
    (by fault missing says left noted)
  where
    stamp : Stamp
    stamp = record { command = number; time = live.machine.time }

    -- nothing was asked of the lines
    same : after ≡ old → new ≡ live
    same still =
        leaves ∙ (λ i. record live { lines = map (seen_line (still i)) lines; ahead = ahead_of (still i).told whole })
        ∙ (λ i. record live { lines = sym seen i; ahead = sym ahead i })

    file : (unit : UnitName) (refusal : FileRefusal) (answer : Answer) → IsRestoreAnswer answer → refusal_used refusal ≡ 0 → Err (refusal_fault unit refusal) ≡ answer
        → misses_unit s.machine live.machine.units ≡ false → first_refused None force s.files no_attachments live.files ≡ Some (unit, refusal) → after ≡ old → notes' ≡ notes ++ read_notes subject.State stamp w
        → Did (λ (own : List CommandNote). restore_reply own live force name) number answer new tells out out (notes_said notes) (notes_said notes')
    file unit refusal answer plain none answered found refused still noted =
        back-did live force name w free number tells out notes notes' bytes s is read found answer new live plain
        (ap (λ (o : Option (UnitName × FileRefusal)). restored_by o (length (own_both subject.State live.machine.time 0 w.failed w.closing)) s live) refused
        ∙ (λ i. ends (answered i) ((ap (λ (n : ℕ). length (own_both subject.State live.machine.time 0 w.failed w.closing) + n) none ∙ nothing-more _) i) live)) (same still) noted

    by : (f : RestoreFault) → SaysMissing (Err f) (misses_unit s.machine live.machine.units) → SaysFirst (Err f) (first_refused (claim_in (Err f)) force s.files no_attachments live.files)
        → LeavesLines true (ports_wanted s.ports lines) (Err f) old after
        → notes' ≡ (notes ++ read_notes subject.State stamp w) ++ restore_notes stamp f
        → Did (λ (own : List CommandNote). restore_reply own live force name) number (Err (restore_fault f)) new tells out out (notes_said notes) (notes_said notes')
    by restore.MissingUnit missing says left noted =
        missing-did live force name w free number tells out notes notes' bytes s is read missing new (same left) (noted ∙ append-nil _)
    by (restore.NoFile unit) found says left noted = file unit IsMissing (Err NoFile) tt refl refl found says left (noted ∙ append-nil _)
    by (restore.TooLong unit) found says left noted = file unit IsTooLong (Err FileTooLong) tt refl refl found says left (noted ∙ append-nil _)
    by (restore.Changed unit) found says left noted = file unit HasChanged (Err (Changed unit)) tt refl refl found says left (noted ∙ append-nil _)
    by (restore.Failed f) found says left noted = failed-did live force name w free number tells out notes notes' bytes s is read found f new says (same left) noted
    by restore.Port found says left noted =
        back-did live force name w free number tells out notes notes' bytes s is read found (Err PortFailed) new (record live { ahead = ahead_of after.told whole }) tt
        (ap (λ (o : Option (UnitName × FileRefusal)). restored_by o (length (own_both subject.State live.machine.time 0 w.failed w.closing)) s live) says
        ∙ port-ends (length (own_both subject.State live.machine.time 0 w.failed w.closing)) s live new old after whole lines seen ahead left first)
        (leaves ∙ (λ i. record live { lines = (seen-still old after lines left.behind ∙ sym seen) i; ahead = ahead_of after.told whole })) (noted ∙ append-nil _)
    by restore.OutOfMemory found says left noted = unread-want live force name w free number tells out notes notes' new (noted ∙ append-nil _)
