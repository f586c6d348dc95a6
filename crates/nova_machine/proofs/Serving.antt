-- Services, one behind another: what is left of them comes to what they all come to.
use Rattle.std.specs.List.{list_any}
use Rattle.std.proofs.lemmas.Bool.Decides.{nat_tests}
use Rattle.file_traits.specs.Lists.{NamedBytes}
use Rattle.host_lines.specs.declared.lines.Sent.{Sent}
use Rattle.host_lines.specs.Traffic.{Peer, Answer, Ahead}
use Rattle.host_lines.specs.Told.{ahead_of, heard_more}
use Rattle.host_lines.specs.State.{LineState}
use Rattle.telnet_lines.specs.Line.{LineOf}
use Rattle.telnet_lines.specs.Joined.{seen_line}
use Rattle.unit_trait.specs.Kinds.{same_unit}
use Rattle.event_queue.specs.EventList.{IsApart}
use Rattle.unit_files.specs.Attachments.{Attachment, Held, attachments_of, attachment_at}
use Rattle.unit_files.specs.Acts.{Failure}
use Rattle.expect_actions.specs.KeysFile.{due_key}
use Rattle.expect_actions.specs.Sends.{due_send}
use Rattle.expect_actions.specs.Watch.{WatchState}
use Rattle.nova_machine.specs.Notes.{UnitNote, at_unit, unit_note, failure_of_stop}
use Rattle.std.proofs.Common.{map, ◌||◌, IfSome, Result, Ok, Err, ◌≡◌, ℕ, ◌==◌, Bool, true, false, IsTrue, List, [], ◌∷◌, ◌++◌, refl, ap, sym, ◌∙◌, subst, inl, arith, Option, Some, None, option_map, if◌then◌else◌}
use Rattle.std.proofs.lemmas.Option.{same_Some}
use Rattle.observations.specs.Observations.{Observation, text_of, sent_of}
use Rattle.unit_trait.specs.declared.calls.Got.TheVariants as got
use Rattle.unit_files.specs.declared.faults.UnitFault.{UnitFault}
use Rattle.unit_files.specs.Answers.{failure_in}
use Rattle.nova_machine.specs.declared.service.Hosted.{Hosted}
use Rattle.nova_machine.specs.declared.service.Hosted.TheVariants.{Gets, Stops}
use Rattle.nova_machine.specs.declared.service.Hosted.TheVariants as hosted
use Rattle.nova_machine.specs.Hosting.{IsHosted, stop_in, bytes_printed, watch_behind, IsImageOf}
use Rattle.nova_machine.specs.Comes.{IsOwn}
use Rattle.nova_machine.specs.Wants.{unanswered}
use Rattle.observations.proofs.CutLemmas.{breaks-here, here-sent}
use Rattle.unit_trait.specs.declared.kind.UnitName.{UnitName}
use Rattle.unit_trait.specs.declared.calls.Want.{Want}
use Rattle.unit_trait.specs.declared.calls.Want.TheVariants as want
use Rattle.unit_trait.specs.declared.calls.Got.{Got}
use Rattle.event_queue.specs.EventList.{Event, due, dues, served}
use Rattle.event_queue.proofs.Dues.{dues-some, dues-none}
use Rattle.nova_machine.specs.declared.machine.Stop.{Stop}
use Rattle.nova_machine.specs.declared.machine.Stop.TheVariants.{ConsoleFault, FileFault, Wru, Expect, BadImage}
use Rattle.nova_machine.specs.Machine.{MachineState}
use Rattle.nova_machine.specs.Seen.{Seen, seen, beside, erased, unnumbered, attached_in}
use Rattle.nova_machine.specs.Parts.{Part, silent, behind_made, then_part}
use Rattle.nova_machine.specs.Turned.{Turned, still}
use Rattle.nova_machine.specs.Wants.{answer_to, files_after, watch_after, first_key, typed_key, own_stop, bytes_of, prints, IsConsole}
use Rattle.nova_machine.specs.Service.{want_at, done_for, asked, answered, first_stop, stopping, replied, own_service, behind_line, line_service, service_by, lined_at, service, taken, services, serving}
use Rattle.nova_machine.specs.Comes.{Output, Comes, IsBrokenOff}
use Rattle.nova_machine.specs.LineChanges.{heard_with, DoneAs}
use Rattle.expect_actions.specs.Expects.{ExpectTable}
use Rattle.nova_machine.specs.declared.on_line.OnLine.{OnLine}
use Rattle.nova_machine.specs.OnLines.{Lined, Around, around_at, lined, sends}
use Rattle.nova_machine.specs.OnLine.{got_on, stop_on, expects_on}
use Rattle.nova_machine.proofs.Hearing.{heard-nothing, heard-sends}
use Rattle.nova_machine.proofs.Parts.{silent-comes, comes-behind, comes-then, comes-stopped}
use Rattle.memory_transfer.specs.Tapes.{NoAnswer, FileFails, ImageIsBad}
use Rattle.nova_memory.specs.Memory.{MemoryState}
use Rattle.nova_machine.proofs.Opened.{serving-is, services-none, services-some}
use Rattle.unit_trait.proofs.Codes.{same-self}

pub serving-none : (note : Option UnitNote) (s : Seen) → due s.machine.events ≡ None → serving note s ≡ silent None s
serving-none note s none =
    serving-is note s ∙ ap (λ (us : List UnitName). services note us s) (dues-none s.machine.events none) ∙ services-none note s

pub serving-some : (note : Option UnitNote) (s : Seen) (u : UnitName) → due s.machine.events ≡ Some u
    → serving note s ≡ then_part (service (at_unit u note) u (taken s)) (λ next. services note (dues (served s.machine.events)) next)
serving-some note s u first =
    serving-is note s ∙ ap (λ (us : List UnitName). services note us s) (dues-some u s.machine.events first)
    ∙ services-some note u (dues (served s.machine.events)) s

-- without the event that is due first
abbrev pub without_due : MachineState → MachineState
without_due m = record m { events = served m.events }

-- nothing is taken where nothing is due
pub nothing-taken : (m : MachineState) → due m.events ≡ None → without_due m ≡ m
nothing-taken m none = ap (λ (es : List Event). record m { events = es }) (served-none m.events none)
  where
    served-none : (es : List Event) → due es ≡ None → served es ≡ es
    served-none [] h = refl
    served-none (e ∷ es) h = by-test (e.remaining == 0) h
      where
        by-test : (b : Bool) → (if b then Some e.unit else None) ≡ None → (if b then es else e ∷ es) ≡ e ∷ es
        by-test true h = absurd (cc)
        by-test false h = refl

-- nothing is due
pub none-at : (note : Option UnitNote) (watch : WatchState) (keys : List (ℕ × ℕ)) (files : List NamedBytes) (lines : LineState) (whole : List Answer) (m at : MachineState) (tells : Bool) (b : Output) → due m.events ≡ None
    → at ≡ without_due m → Comes (serving note (seen (beside watch keys files lines) whole m)) None (seen (beside watch keys files lines) whole at) tells b b
none-at note watch keys files lines whole m at tells b none is =
    let s = seen (beside watch keys files lines) whole m in
    let P : Part → Type 0 = λ x. Comes x None (seen (beside watch keys files lines) whole at) tells b b in
    let stays : without_due m ≡ m = nothing-taken m none in
    subst P (sym (serving-none note s none))
    (silent-comes None None s (seen (beside watch keys files lines) whole at) tells b tt refl (ap (λ (x : MachineState). seen (beside watch keys files lines) whole x) (is ∙ stays)))

-- the first service goes on, and so do the others
pub more-at : (note : Option UnitNote) (watch : WatchState) (keys : List (ℕ × ℕ)) (files : List NamedBytes) (lines : LineState) (whole : List Answer) (m at : MachineState) (next : Seen) (u : UnitName) (ended r : Option Stop) (last : Seen)
    (tells : Bool) (b c a : Output) → due m.events ≡ Some u → at ≡ without_due m → at_unit u note ≡ None
    → ended ≡ None → Comes (service None u (seen (beside watch keys files lines) whole at)) ended next tells b c → dues next.machine.events ≡ dues at.events
    → Comes (serving note next) r last tells c a → Comes (serving note (seen (beside watch keys files lines) whole m)) r last tells b a
more-at note watch keys files lines whole m at next u ended r last tells b c a first is apart goes one same rest =
    let s = seen (beside watch keys files lines) whole m in
    let P : Part → Type 0 = λ x. Comes x r last tells b a in
    let O : Option Stop → Type 0 = λ o. Comes (service None u (seen (beside watch keys files lines) whole at)) o next tells b c in
    let Q : MachineState → Type 0 = λ x. Comes (service None u (seen (beside watch keys files lines) whole x)) None next tells b c in
    let F : Option Failure → Type 0 = λ f. Comes (service f u (taken s)) None next tells b c in
    let R : List UnitName → Type 0 = λ us. Comes (services note us next) r last tells c a in
    let T : Part → Type 0 = λ x. Comes x r last tells c a in
    let now : dues next.machine.events ≡ dues (served m.events) = same ∙ ap (λ (x : MachineState). dues x.events) is in
    let begun : Comes (service (at_unit u note) u (taken s)) None next tells b c = subst F (sym apart) (subst Q is (subst O goes one)) in
    subst P (sym (serving-some note s u first))
    (comes-then (service (at_unit u note) u (taken s)) (λ n. services note (dues (served m.events)) n) next r last tells b c a begun
    (subst R now (subst T (serving-is note next) rest)))

-- the first service stops
pub stop-at : (note : Option UnitNote) (watch : WatchState) (keys : List (ℕ × ℕ)) (files : List NamedBytes) (lines : LineState) (whole : List Answer) (m at : MachineState) (u : UnitName) (fault : Option Failure) (stop : Stop) (last : Seen)
    (tells : Bool) (b a : Output) → due m.events ≡ Some u → at ≡ without_due m → at_unit u note ≡ fault
    → Comes (service fault u (seen (beside watch keys files lines) whole at)) (Some stop) last tells b a → Comes (serving note (seen (beside watch keys files lines) whole m)) (Some stop) last tells b a
stop-at note watch keys files lines whole m at u fault stop last tells b a first is meets one =
    let s = seen (beside watch keys files lines) whole m in
    let P : Part → Type 0 = λ x. Comes x (Some stop) last tells b a in
    let Q : MachineState → Type 0 = λ x. Comes (service fault u (seen (beside watch keys files lines) whole x)) (Some stop) last tells b a in
    let F : Option Failure → Type 0 = λ f. Comes (service f u (taken s)) (Some stop) last tells b a in
    subst P (sym (serving-some note s u first))
    (comes-stopped (service (at_unit u note) u (taken s)) (λ n. services note (dues (served m.events)) n) stop last tells b a (subst F (sym meets) (subst Q is one)))

-- ---- whose call may still fail

-- the unit of a note is among those
abbrev pub IsStillDue : Option UnitNote → List UnitName → Type 0
IsStillDue None us = Unit {0}
IsStillDue (Some n) us = IsTrue (list_any (λ (v : UnitName). same_unit v n.unit) us)

-- the note of a stop of the first service is of its unit
pub note-first : (stop : Stop) (u : UnitName) (m : MachineState) → due m.events ≡ Some u → IfSome (unit_note (Some stop)) (λ n. n.unit ≡ u)
    → IsStillDue (unit_note (Some stop)) (dues m.events) × (at_unit u (unit_note (Some stop)) ≡ failure_of_stop (Some stop))
note-first (FileFault f) u m first own =
    let P : List UnitName → Type 0 = λ us. IsTrue (list_any (λ (v : UnitName). same_unit v f.unit) us) in
    let here : same_unit u f.unit ≡ true = ap (same_unit u) own ∙ same-self u in
    (subst P (sym (dues-some u m.events first)) (front (same_unit u f.unit) _ here), test (same_unit u f.unit) _ here)
  where
    front : (b c : Bool) → b ≡ true → IsTrue (b || c)
    front true c is = refl
    front false c is = absurd (cc)

    test : (b : Bool) (x : Failure) → b ≡ true → (if b then Some x else None) ≡ Some x
    test true x is = refl
    test false x is = absurd (cc)
note-first stop u m first own = (tt, refl)

not-here : (b : Bool) (u v w : UnitName) (us : List UnitName) → same_unit v w ≡ b → same_unit u v ≡ false
    → IsTrue (b || list_any (λ (x : UnitName). same_unit x w) us) → (IsTrue (list_any (λ (x : UnitName). same_unit x w) us) → same_unit u w ≡ false) → same_unit u w ≡ false
not-here true u v w us is away still more = grind (arith, nat_tests)
not-here false u v w us is away still more = more still

not-same : (u w : UnitName) (us : List UnitName) → IsApart u us → IsTrue (list_any (λ (v : UnitName). same_unit v w) us) → same_unit u w ≡ false
not-same u w [] apart still = absurd (cc)
not-same u w (v ∷ us) apart still = not-here (same_unit v w) u v w us refl apart.0 still (not-same u w us apart.1)

-- a note of a later service is none of the first, and was among all of them
pub note-later : (note : Option UnitNote) (u : UnitName) (m : MachineState) (us : List UnitName) → due m.events ≡ Some u → us ≡ dues (served m.events)
    → IsApart u us → IsStillDue note us → IsStillDue note (dues m.events) × (at_unit u note ≡ None)
note-later None u m us first same apart still = (tt, refl)
note-later (Some n) u m us first same apart still =
    let P : List UnitName → Type 0 = λ us. IsTrue (list_any (λ (v : UnitName). same_unit v n.unit) us) in
    let none : same_unit u n.unit ≡ false = not-same u n.unit us apart still in
    (subst P (sym (dues-some u m.events first)) (behind (same_unit u n.unit) _ (subst P same still)), test (same_unit u n.unit) n.failure none)
  where
    behind : (b c : Bool) → IsTrue c → IsTrue (b || c)
    behind true c is = refl
    behind false c is = is

    test : (b : Bool) (x : Failure) → b ≡ false → (if b then Some x else None) ≡ None
    test false x is = refl
    test true x is = absurd (cc)

-- ---- one service

prints-sent : (w : Want) (s : Seen) → sent_of (prints w s) ≡ []
prints-sent (want.Console byte) s = refl
prints-sent w s = refl

prints-text : (w : Want) (s : Seen) → text_of (prints w s) ≡ bytes_of w
prints-text (want.Console byte) s = refl
prints-text w s = refl

-- the byte that was sent and the key that is typed which are due, and the key that comes
abbrev pub send_of : WatchState → MachineState → Option ℕ
send_of watch m = due_send m.time watch.sends

abbrev pub typed_of : List (ℕ × ℕ) → MachineState → Option ℕ
typed_of keys m = due_key keys m.taken m.time

abbrev pub asks_of : WatchState → List (ℕ × ℕ) → MachineState → Option ℕ
asks_of watch keys m = first_key (send_of watch m) (typed_of keys m)

abbrev pub attachment_in : MachineState → UnitName → Option Attachment
attachment_in m u = attachment_at (attached_in m) u

-- a unit was asked, and what it wants was done
abbrev pub done_by : Option Failure → Want → UnitName → WatchState → List (ℕ × ℕ) → List NamedBytes → MachineState → MachineState
done_by fault w u watch keys files m = done_for fault (typed_key (send_of watch m) (typed_of keys m)) (attachment_in m u) files w m

-- the files once that was done
abbrev pub files_by : Option Failure → Want → UnitName → List NamedBytes → MachineState → List NamedBytes
files_by fault w u files m = files_after fault (attachment_in m u) m.processor.memory files w

-- the numbers of files are no part of what is attached
pub erased-attached : (slots : List (Option Held)) → attachments_of (map unnumbered slots) ≡ attachments_of slots
erased-attached [] = refl
erased-attached (None ∷ slots) = ap (λ (l : List (Option Attachment)). None ∷ l) (erased-attached slots)
erased-attached (Some h ∷ slots) = ap (λ (l : List (Option Attachment)). Some h.attachment ∷ l) (erased-attached slots)

service-is : (fault : Option Failure) (u : UnitName) (watch : WatchState) (keys : List (ℕ × ℕ)) (files : List NamedBytes) (lines : LineState) (whole : List Answer) (m : MachineState) → own_service fault u (seen (beside watch keys files lines) whole m)
    ≡ behind_made (prints (want_at u m) (seen (beside watch keys files lines) whole (asked u m)))
    (replied u (own_stop (asks_of watch keys m) watch.expects (want_at u m)) (answer_to fault (attachment_in m u) files (asks_of watch keys m) (want_at u m))
    (seen (beside (watch_after m.time (want_at u m) watch) keys (files_by fault (want_at u m) u files m) lines) whole (done_by fault (want_at u m) u watch keys files (asked u m))))
unfolding own_service Rattle.nova_machine.specs.Service.hosted asked
service-is fault u watch keys files lines whole m =
    let same : attachment_at (attached_in (erased m)) u ≡ attachment_in m u = ap (λ (l : List (Option Attachment)). attachment_at l u) (erased-attached m.slots) in
    let w = want_at u m in
    ap (λ (a : Option Attachment). behind_made (prints w (seen (beside watch keys files lines) whole (asked u m)))
    (replied u (own_stop (asks_of watch keys m) watch.expects w) (answer_to fault a files (asks_of watch keys m) w)
    (seen (beside (watch_after m.time w watch) keys (files_after fault a m.processor.memory files w) lines) whole (done_for fault (typed_key (send_of watch m) (typed_of keys m)) a files w (asked u m))))) same

-- a unit was asked, and this was made of what it wants
pub record Hosts (u : UnitName) (watch watch' : WatchState) (keys : List (ℕ × ℕ)) (files files' : List NamedBytes) (n h : MachineState) (w : Want) (o : Hosted) : Type 0 where
  pub machine : h ≡ record (done_by (failure_of_stop (stop_in o)) w u watch keys files n) { aside = h.aside }
  pub said : IsHosted w (attachment_in n u) files (asks_of watch keys n) watch.expects o
  pub watched : watch' ≡ watch_behind n.time w o watch
  pub changed : files' ≡ files_by (failure_of_stop (stop_in o)) w u files n

-- the same of the machine before it was asked
record HostsAt (u : UnitName) (watch watch' : WatchState) (keys : List (ℕ × ℕ)) (files files' : List NamedBytes) (m h : MachineState) (o : Hosted) : Type 0 where
  machine : h ≡ record (done_by (failure_of_stop (stop_in o)) (want_at u m) u watch keys files (asked u m)) { aside = h.aside }
  said : IsHosted (want_at u m) (attachment_in m u) files (asks_of watch keys m) watch.expects o
  watched : watch' ≡ watch_behind m.time (want_at u m) o watch
  changed : files' ≡ files_by (failure_of_stop (stop_in o)) (want_at u m) u files m

at-asked : (u : UnitName) (watch watch' : WatchState) (keys : List (ℕ × ℕ)) (files files' : List NamedBytes) (m h : MachineState) (o : Hosted)
    → Hosts u watch watch' keys files files' (asked u m) h (want_at u m) o → HostsAt u watch watch' keys files files' m h o
unfolding asked
at-asked u watch watch' keys files files' m h o made = record { machine = made.machine; said = made.said; watched = made.watched; changed = made.changed }

hosts-at : (u : UnitName) (watch watch' : WatchState) (keys : List (ℕ × ℕ)) (files files' : List NamedBytes) (m n h : MachineState) (w : Want) (o : Hosted) → n ≡ asked u m → w ≡ want_at u m
    → Hosts u watch watch' keys files files' n h w o → HostsAt u watch watch' keys files files' m h o
hosts-at u watch watch' keys files files' m n h w o asks wants made =
    let P : MachineState → Type 0 = λ x. Hosts u watch watch' keys files files' x h w o in
    let Q : Want → Type 0 = λ x. Hosts u watch watch' keys files files' (asked u m) h x o in
    at-asked u watch watch' keys files files' m h o (subst Q wants (subst P asks made))

-- what is printed before the answer
printed-text : (w : Want) (s : Seen) (tells : Bool) (b a : Output) → (IsTrue tells → a.console ≡ b.console ++ bytes_of w) → IsTrue tells → a.console ≡ b.console ++ text_of (prints w s)
printed-text w s tells b a printed told = printed told ∙ ap (λ (l : List ℕ). b.console ++ l) (sym (prints-text w s))

own-failure : (r : Option Stop) → IsOwn r → failure_of_stop r ≡ None
own-failure (Some (FileFault f)) own = absurd own
own-failure r own = refl

-- a machine's numbers of files are none of the unit's answer
answered-erased : (u : UnitName) (g : Got) (watch : WatchState) (keys : List (ℕ × ℕ)) (files : List NamedBytes) (lines : LineState) (whole : List Answer) (stop : Option Stop) (h : MachineState)
    → still (seen (beside watch keys files lines) whole h) (stopping stop (answered u g (erased h))) ≡ silent (first_stop stop (answered u g h).stop) (seen (beside watch keys files lines) whole (answered u g h).machine)
unfolding answered
answered-erased u g watch keys files lines whole stop h = refl

-- a unit got this answer, and the machine has this stop for itself
comes-answered : (u : UnitName) (watch watch' : WatchState) (keys : List (ℕ × ℕ)) (files files' : List NamedBytes) (lines : LineState) (whole : List Answer) (m h last : MachineState) (g : Got) (stop r : Option Stop) (tells : Bool) (b a : Output)
    → h ≡ record (done_by None (want_at u m) u watch keys files (asked u m)) { aside = h.aside } → answer_to None (attachment_in m u) files (asks_of watch keys m) (want_at u m) ≡ Ok g
    → own_stop (asks_of watch keys m) watch.expects (want_at u m) ≡ stop → watch' ≡ watch_after m.time (want_at u m) watch → files' ≡ files_by None (want_at u m) u files m
    → (IsTrue tells → a.console ≡ b.console ++ bytes_of (want_at u m)) → a.heard ≡ b.heard → IsOwn r → r ≡ first_stop stop (answered u g h).stop → last ≡ (answered u g h).machine
    → Comes (own_service None u (seen (beside watch keys files lines) whole m)) r (seen (beside watch' keys files' lines) whole last) tells b a
comes-answered u watch watch' keys files files' lines whole m h last g stop r tells b a machine said key watched changed printed heard own stops is =
    let w = want_at u m in
    let made = prints w (seen (beside watch keys files lines) whole (asked u m)) in
    let P : Part → Type 0 = λ x. Comes x r (seen (beside watch' keys files' lines) whole last) tells b a in
    let now : replied u (own_stop (asks_of watch keys m) watch.expects w) (answer_to None (attachment_in m u) files (asks_of watch keys m) w)
    (seen (beside (watch_after m.time w watch) keys (files_by None w u files m) lines) whole (done_by None w u watch keys files (asked u m)))
    ≡ silent (first_stop stop (answered u g h).stop) (seen (beside watch' keys files' lines) whole (answered u g h).machine) =
    ap (λ (x : Result Got NoAnswer). replied u (own_stop (asks_of watch keys m) watch.expects w) x (seen (beside (watch_after m.time w watch) keys (files_by None w u files m) lines) whole (done_by None w u watch keys files (asked u m)))) said
    ∙ ap (λ (x : Option Stop). replied u x (Ok g) (seen (beside (watch_after m.time w watch) keys (files_by None w u files m) lines) whole (done_by None w u watch keys files (asked u m)))) key
    ∙ ap (λ (x : WatchState). replied u stop (Ok g) (seen (beside x keys (files_by None w u files m) lines) whole (done_by None w u watch keys files (asked u m)))) (sym watched)
    ∙ ap (λ (x : List NamedBytes). replied u stop (Ok g) (seen (beside watch' keys x lines) whole (done_by None w u watch keys files (asked u m)))) (sym changed)
    ∙ ap (λ (x : MachineState). replied u stop (Ok g) (seen (beside watch' keys files' lines) whole x)) (sym machine)
    ∙ answered-erased u g watch' keys files' lines whole stop h in
    subst P (sym (service-is None u watch keys files lines whole m ∙ ap (behind_made made) now))
    (comes-behind made (silent (first_stop stop (answered u g h).stop) (seen (beside watch' keys files' lines) whole (answered u g h).machine)) r (seen (beside watch' keys files' lines) whole last) tells b a a
    (printed-text w (seen (beside watch keys files lines) whole (asked u m)) tells b a printed)
    (heard ∙ sym (ap (heard_with b.heard) (prints-sent w (seen (beside watch keys files lines) whole (asked u m))) ∙ heard-nothing b.heard))
    (silent-comes (first_stop stop (answered u g h).stop) r (seen (beside watch' keys files' lines) whole (answered u g h).machine) (seen (beside watch' keys files' lines) whole last) tells a own stops
    (ap (λ (x : MachineState). seen (beside watch' keys files' lines) whole x) is)))

want-text : (w w' : Want) (tells : Bool) (b a : Output) → w ≡ w' → (IsTrue tells → a.console ≡ b.console ++ bytes_of w) → IsTrue tells → a.console ≡ b.console ++ bytes_of w'
want-text w w' tells b a same printed told = printed told ∙ ap (λ (x : Want). b.console ++ bytes_of x) same

-- the unit got its answer
pub comes-gets : (u : UnitName) (watch watch' : WatchState) (keys : List (ℕ × ℕ)) (files files' : List NamedBytes) (lines : LineState) (whole : List Answer) (m n h last : MachineState) (w : Want) (g : Got) (r : Option Stop) (tells : Bool) (b a : Output)
    → n ≡ asked u m → w ≡ want_at u m → Hosts u watch watch' keys files files' n h w (Gets g) → (IsTrue tells → a.console ≡ b.console ++ bytes_printed w (Gets g)) → a.heard ≡ b.heard → IsOwn r
    → r ≡ (answered u g h).stop → last ≡ (answered u g h).machine → Comes (own_service (failure_of_stop r) u (seen (beside watch keys files lines) whole m)) r (seen (beside watch' keys files' lines) whole last) tells b a
comes-gets u watch watch' keys files files' lines whole m n h last w g r tells b a asks wants made printed heard own stops is =
    let at = hosts-at u watch watch' keys files files' m n h w (Gets g) asks wants made in
    let F : Option Failure → Type 0 = λ f. Comes (own_service f u (seen (beside watch keys files lines) whole m)) r (seen (beside watch' keys files' lines) whole last) tells b a in
    subst F (sym (own-failure r own))
    (comes-answered u watch watch' keys files files' lines whole m h last g None r tells b a at.machine at.said.0 at.said.1 at.watched at.changed (want-text w (want_at u m) tells b a wants printed) heard own stops is)

-- the key that stops a run was taken
pub comes-wru : (u : UnitName) (watch watch' : WatchState) (keys : List (ℕ × ℕ)) (files files' : List NamedBytes) (lines : LineState) (whole : List Answer) (m n h last : MachineState) (w : Want) (tells : Bool) (b a : Output)
    → n ≡ asked u m → w ≡ want_at u m → Hosts u watch watch' keys files files' n h w hosted.Wru → (IsTrue tells → a.console ≡ b.console ++ bytes_printed w hosted.Wru) → a.heard ≡ b.heard
    → last ≡ (answered u got.NoKey h).machine → Comes (own_service None u (seen (beside watch keys files lines) whole m)) (Some Wru) (seen (beside watch' keys files' lines) whole last) tells b a
comes-wru u watch watch' keys files files' lines whole m n h last w tells b a asks wants made printed heard is =
    let at = hosts-at u watch watch' keys files files' m n h w hosted.Wru asks wants made in
    comes-answered u watch watch' keys files files' lines whole m h last got.NoKey (Some Wru) (Some Wru) tells b a at.machine at.said.0 at.said.1 at.watched at.changed
    (want-text w (want_at u m) tells b a wants printed) heard tt refl is

-- the byte was printed that ends a text which is waited for
pub comes-matched : (u : UnitName) (watch watch' : WatchState) (keys : List (ℕ × ℕ)) (files files' : List NamedBytes) (lines : LineState) (whole : List Answer) (m n h last : MachineState) (w : Want) (k : ℕ) (tells : Bool) (b a : Output)
    → n ≡ asked u m → w ≡ want_at u m → Hosts u watch watch' keys files files' n h w (hosted.Matched k) → (IsTrue tells → a.console ≡ b.console ++ bytes_printed w (hosted.Matched k)) → a.heard ≡ b.heard
    → last ≡ (answered u got.Done h).machine → Comes (own_service None u (seen (beside watch keys files lines) whole m)) (Some (Expect k)) (seen (beside watch' keys files' lines) whole last) tells b a
comes-matched u watch watch' keys files files' lines whole m n h last w k tells b a asks wants made printed heard is =
    let at = hosts-at u watch watch' keys files files' m n h w (hosted.Matched k) asks wants made in
    comes-answered u watch watch' keys files files' lines whole m h last got.Done (Some (Expect k)) (Some (Expect k)) tells b a at.machine at.said.0 at.said.1 at.watched at.changed
    (want-text w (want_at u m) tells b a wants printed) heard tt refl is

-- a want that gets no answer leaves the watch tables
same-watch : (fault : Option Failure) (a : Option Attachment) (files : List NamedBytes) (key : Option ℕ) (w : Want) (why : NoAnswer) (time : ℕ) (watch : WatchState)
    → answer_to fault a files key w ≡ Err why → watch_after time w watch ≡ watch
same-watch fault a files key (want.Console byte) why time watch is = absurd (cc)
same-watch fault a files key want.Key why time watch is = absurd (cc)
same-watch fault a files key w why time watch is = refl

-- a want that gets no answer prints nothing
silent-want : (fault : Option Failure) (a : Option Attachment) (files : List NamedBytes) (key : Option ℕ) (w : Want) (why : NoAnswer) (s : Seen)
    → answer_to fault a files key w ≡ Err why → prints w s ≡ []
silent-want fault a files key (want.Console byte) why s is = absurd (cc)
silent-want fault a files key w why s is = refl

-- a call on the unit's file failed
pub comes-failed : (u : UnitName) (watch watch' : WatchState) (keys : List (ℕ × ℕ)) (files files' : List NamedBytes) (lines : LineState) (whole : List Answer) (m n h : MachineState) (w : Want) (f : UnitFault) (tells : Bool) (b a : Output)
    → n ≡ asked u m → w ≡ want_at u m → Hosts u watch watch' keys files files' n h w (Stops (FileFault f)) → (IsTrue tells → a.console ≡ b.console ++ []) → a.heard ≡ b.heard → f.unit ≡ u
    → Comes (own_service (Some (failure_in f)) u (seen (beside watch keys files lines) whole m)) (Some (FileFault f)) (seen (beside watch' keys files' lines) whole h) tells b a
comes-failed u watch watch' keys files files' lines whole m n h w f tells b a asks wants made printed heard own =
    let at = hosts-at u watch watch' keys files files' m n h w (Stops (FileFault f)) asks wants made in
    let fault = Some (failure_in f) in
    let v = want_at u m in
    let s = seen (beside (watch_after m.time v watch) keys (files_by fault v u files m) lines) whole (done_by fault v u watch keys files (asked u m)) in
    let stays = same-watch fault (attachment_in m u) files (asks_of watch keys m) v (FileFails (failure_in f)) m.time watch at.said in
    let none = silent-want fault (attachment_in m u) files (asks_of watch keys m) v (FileFails (failure_in f)) (seen (beside watch keys files lines) whole (asked u m)) at.said in
    let P : Part → Type 0 = λ x. Comes x (Some (FileFault f)) (seen (beside watch' keys files' lines) whole h) tells b a in
    let now : own_service fault u (seen (beside watch keys files lines) whole m) ≡ silent (Some (unanswered u (FileFails (failure_in f)))) s =
    service-is fault u watch keys files lines whole m
    ∙ ap (λ (x : Result Got NoAnswer). behind_made (prints v (seen (beside watch keys files lines) whole (asked u m))) (replied u (own_stop (asks_of watch keys m) watch.expects v) x s)) at.said
    ∙ ap (λ (l : List (Observation Seen)). behind_made l (silent (Some (unanswered u (FileFails (failure_in f)))) s)) none in
    subst P (sym now)
    (record {
      stop_is = ap (λ (x : UnitName). Some (FileFault (record { unit = x; file = None; call = f.call; done = f.done }))) own;
      after_is =
          ap (λ (x : MachineState). seen (beside watch' keys files' lines) whole x) at.machine
          ∙ ap (λ (x : List NamedBytes). seen (beside watch' keys x lines) whole (done_by fault v u watch keys files (asked u m))) at.changed
          ∙ ap (λ (x : WatchState). seen (beside x keys (files_by fault v u files m) lines) whole (done_by fault v u watch keys files (asked u m))) (at.watched ∙ sym stays);
      written = printed;
      heard = heard ∙ sym (heard-nothing b.heard);
    })

-- the image of the unit's tape is bad
pub comes-bad : (u : UnitName) (watch watch' : WatchState) (keys : List (ℕ × ℕ)) (files files' : List NamedBytes) (lines : LineState) (whole : List Answer) (m n h : MachineState) (w : Want) (x : UnitName) (place : ℕ) (tells : Bool) (b a : Output)
    → n ≡ asked u m → w ≡ want_at u m → Hosts u watch watch' keys files files' n h w (Stops (BadImage x place)) → (IsTrue tells → a.console ≡ b.console ++ []) → a.heard ≡ b.heard → x ≡ u
    → Comes (own_service None u (seen (beside watch keys files lines) whole m)) (Some (BadImage x place)) (seen (beside watch' keys files' lines) whole h) tells b a
comes-bad u watch watch' keys files files' lines whole m n h w x place tells b a asks wants made printed heard own =
    let at = hosts-at u watch watch' keys files files' m n h w (Stops (BadImage x place)) asks wants made in
    let v = want_at u m in
    let s = seen (beside (watch_after m.time v watch) keys (files_by None v u files m) lines) whole (done_by None v u watch keys files (asked u m)) in
    let stays = same-watch None (attachment_in m u) files (asks_of watch keys m) v (ImageIsBad place) m.time watch at.said in
    let none = silent-want None (attachment_in m u) files (asks_of watch keys m) v (ImageIsBad place) (seen (beside watch keys files lines) whole (asked u m)) at.said in
    let P : Part → Type 0 = λ p. Comes p (Some (BadImage x place)) (seen (beside watch' keys files' lines) whole h) tells b a in
    let now : own_service None u (seen (beside watch keys files lines) whole m) ≡ silent (Some (BadImage u place)) s =
    service-is None u watch keys files lines whole m
    ∙ ap (λ (r : Result Got NoAnswer). behind_made (prints v (seen (beside watch keys files lines) whole (asked u m))) (replied u (own_stop (asks_of watch keys m) watch.expects v) r s)) at.said
    ∙ ap (λ (l : List (Observation Seen)). behind_made l (silent (Some (BadImage u place)) s)) none in
    subst P (sym now)
    (record {
      stop_is = ap (λ (y : UnitName). Some (BadImage y place)) own;
      after_is =
          ap (λ (y : MachineState). seen (beside watch' keys files' lines) whole y) at.machine
          ∙ ap (λ (y : List NamedBytes). seen (beside watch' keys y lines) whole (done_by None v u watch keys files (asked u m))) at.changed
          ∙ ap (λ (y : WatchState). seen (beside y keys (files_by None v u files m) lines) whole (done_by None v u watch keys files (asked u m))) (at.watched ∙ sym stays);
      written = printed;
      heard = heard ∙ sym (heard-nothing b.heard);
    })

broken-console : (w : Want) (s : Seen) (p : Part) (tells : Bool) (b a : Output) → IsConsole w → (IsTrue tells → a.console ≡ b.console ++ []) → a.heard ≡ b.heard → IsBrokenOff (behind_made (prints w s) p) s tells b a
broken-console (want.Console byte) s p tells b a console same heard = record {
  stands = inl refl;
  told = λ told. record {
    taken = [];
    written = same told;
    breaks = breaks-here (byte ∷ []) s p.made 0 (omega arith);
    heard = heard ∙ sym (ap (heard_with b.heard) (here-sent (byte ∷ []) s p.made 0 (omega arith)) ∙ heard-nothing b.heard);
  };
}
broken-console w s p tells b a console same heard = absurd console

console-done : (w : Want) (u : UnitName) (watch : WatchState) (keys : List (ℕ × ℕ)) (files : List NamedBytes) (m : MachineState) → IsConsole w → done_by None w u watch keys files m ≡ m
console-done (want.Console byte) u watch keys files m console = by-key (typed_key (send_of watch m) (typed_of keys m))
  where
    by-key : (key : Option ℕ) → done_for None key (attachment_in m u) files (want.Console byte) m ≡ m
    by-key None = refl
    by-key (Some k) = refl
console-done w u watch keys files m console = absurd console

console-files : (w : Want) (a : Option Attachment) (memory : MemoryState) (files : List NamedBytes) → IsConsole w → files_after None a memory files w ≡ files
console-files (want.Console byte) a memory files console = refl
console-files w a memory files console = absurd console

-- the console refused the byte that a unit was to print
pub comes-broken : (u : UnitName) (watch watch' : WatchState) (keys : List (ℕ × ℕ)) (files files' : List NamedBytes) (lines : LineState) (whole : List Answer) (m n h : MachineState) (w : Want) (tells : Bool) (b a : Output)
    → n ≡ asked u m → w ≡ want_at u m → Hosts u watch watch' keys files files' n h w (Stops ConsoleFault) → (IsTrue tells → a.console ≡ b.console ++ []) → a.heard ≡ b.heard
    → Comes (own_service None u (seen (beside watch keys files lines) whole m)) (Some ConsoleFault) (seen (beside watch' keys files' lines) whole h) tells b a
comes-broken u watch watch' keys files files' lines whole m n h w tells b a asks wants made same heard =
    let at = hosts-at u watch watch' keys files files' m n h w (Stops ConsoleFault) asks wants made in
    let v = want_at u m in
    let s = seen (beside watch keys files lines) whole (asked u m) in
    let stands : seen (beside watch' keys files' lines) whole h ≡ s =
    ap (λ (x : WatchState). seen (beside x keys files' lines) whole h) at.watched
    ∙ ap (λ (x : List NamedBytes). seen (beside watch keys x lines) whole h) (at.changed ∙ console-files v (attachment_in m u) m.processor.memory files at.said)
    ∙ ap (λ (x : MachineState). seen (beside watch keys files lines) whole x) (at.machine ∙ ap (λ (x : MachineState). record x { aside = h.aside }) (console-done v u watch keys files (asked u m) at.said)) in
    let P : Part → Type 0 = λ x. IsBrokenOff x (seen (beside watch' keys files' lines) whole h) tells b a in
    let p = replied u (own_stop (asks_of watch keys m) watch.expects v) (answer_to None (attachment_in m u) files (asks_of watch keys m) v)
    (seen (beside (watch_after m.time v watch) keys (files_by None v u files m) lines) whole (done_by None v u watch keys files (asked u m))) in
    let Q : Seen → Type 0 = λ x. IsBrokenOff (behind_made (prints v s) p) x tells b a in
    subst P (sym (service-is None u watch keys files lines whole m)) (subst Q (sym stands) (broken-console v s p tells b a at.said same heard))

-- the unit got no answer
pub comes-stops : (u : UnitName) (watch watch' : WatchState) (keys : List (ℕ × ℕ)) (files files' : List NamedBytes) (lines : LineState) (whole : List Answer) (m n h : MachineState) (w : Want) (stop : Stop) (tells : Bool) (b a : Output)
    → n ≡ asked u m → w ≡ want_at u m → Hosts u watch watch' keys files files' n h w (Stops stop) → (IsTrue tells → a.console ≡ b.console ++ []) → a.heard ≡ b.heard → IfSome (unit_note (Some stop)) (λ n. n.unit ≡ u) → IsImageOf u (Some stop)
    → Comes (own_service (failure_of_stop (Some stop)) u (seen (beside watch keys files lines) whole m)) (Some stop) (seen (beside watch' keys files' lines) whole h) tells b a
comes-stops u watch watch' keys files files' lines whole m n h w (FileFault f) tells b a asks wants made printed heard own image = comes-failed u watch watch' keys files files' lines whole m n h w f tells b a asks wants made printed heard own
comes-stops u watch watch' keys files files' lines whole m n h w (BadImage x place) tells b a asks wants made printed heard own image = comes-bad u watch watch' keys files files' lines whole m n h w x place tells b a asks wants made printed heard image
comes-stops u watch watch' keys files files' lines whole m n h w ConsoleFault tells b a asks wants made printed heard own image = comes-broken u watch watch' keys files files' lines whole m n h w tells b a asks wants made printed heard
comes-stops u watch watch' keys files files' lines whole m n h w stop tells b a asks wants made printed heard own image = absurd made.said

-- ---- a line that is there

-- what the unit wants comes to this on a line
service-by : (fault : Option Failure) (u : UnitName) (s : Seen) (l : Option Lined) → lined_at u s ≡ l → service fault u s ≡ service_by l fault u s
unfolding service
service-by fault u s l is = ap (λ (x : Option Lined). service_by x fault u s) is

-- it wants nothing of one
pub comes-own : (fault : Option Failure) (u : UnitName) (s : Seen) (r : Option Stop) (last : Seen) (tells : Bool) (b a : Output)
    → lined_at u s ≡ None → Comes (own_service fault u s) r last tells b a → Comes (service fault u s) r last tells b a
comes-own fault u s r last tells b a none comes = subst (λ (p : Part). Comes p r last tells b a) (sym (service-by fault u s None none)) comes

sends-text : (sent : List Sent) → text_of (sends {S = Seen} sent) ≡ []
sends-text [] = refl
sends-text (s ∷ sent) = refl

-- the key that is due for the console, and what stands around a want of that machine
abbrev pub due_of : WatchState → List (ℕ × ℕ) → MachineState → Option ℕ
due_of watch keys m = first_key (due_send m.time watch.sends) (due_key keys m.taken m.time)

abbrev pub around_of : WatchState → List (ℕ × ℕ) → LineState → List Answer → MachineState → Around
around_of watch keys s whole m =
    around_at m.time (first_key (due_send m.time watch.sends) (due_key keys m.taken m.time)) watch.expects (map (seen_line s) m.lines) (ahead_of s.told whole)

-- the machine behind the answer, with its lines
lined-answered : (u : UnitName) (watch watch' : WatchState) (keys : List (ℕ × ℕ)) (files : List NamedBytes) (old new : LineState) (whole : List Answer) (m : MachineState) (ls : List (LineOf ℕ)) (l : Lined)
    → watch' ≡ record watch { expects = l.expects } → l.lines ≡ map (seen_line new) ls → l.ahead ≡ ahead_of new.told whole
    → replied u l.stop (Ok l.got) (behind_line u l (seen (beside watch keys files old) whole m))
    ≡ silent (first_stop l.stop (answered u l.got (record (asked u m) { lines = ls })).stop) (seen (beside watch' keys files new) whole (answered u l.got (record (asked u m) { lines = ls })).machine)
unfolding answered asked
lined-answered u watch watch' keys files old new whole m ls l watched lines ahead =
    let t = answered u l.got (asked u (erased m)) in
    let stop = first_stop l.stop t.stop in
    let w = record watch { expects = l.expects } in
    ap (λ (x : List (LineOf Peer)). silent stop (record { machine = t.machine; watch = w; keys = keys; files = files; lines = x; ahead = l.ahead })) lines
    ∙ ap (λ (x : Ahead). silent stop (record { machine = t.machine; watch = w; keys = keys; files = files; lines = map (seen_line new) ls; ahead = x })) ahead
    ∙ ap (λ (x : WatchState). silent stop (record { machine = t.machine; watch = x; keys = keys; files = files; lines = map (seen_line new) ls; ahead = ahead_of new.told whole })) (sym watched)

line-is : (u : UnitName) (l : Lined) (s : Seen) → line_service u l s ≡ behind_made (sends l.sent) (replied u l.stop (Ok l.got) (behind_line u l s))
unfolding line_service
line-is u l s = refl

pub comes-lined : (fault : Option Failure) (u : UnitName) (watch watch' : WatchState) (keys : List (ℕ × ℕ)) (files : List NamedBytes) (old new : LineState) (whole : List Answer) (m h last : MachineState) (l : Lined)
    (r : Option Stop) (tells : Bool) (b a : Output)
    → lined (want_at u m) (around_of watch keys old whole m) ≡ Some l → watch' ≡ record watch { expects = l.expects } → l.lines ≡ map (seen_line new) h.lines → l.ahead ≡ ahead_of new.told whole
    → a.heard ≡ heard_more b.heard l.sent → (IsTrue tells → a.console ≡ b.console ++ []) → h ≡ record (asked u m) { lines = h.lines } → IsOwn r
    → r ≡ first_stop l.stop (answered u l.got h).stop → last ≡ (answered u l.got h).machine
    → Comes (service fault u (seen (beside watch keys files old) whole m)) r (seen (beside watch' keys files new) whole last) tells b a
comes-lined fault u watch watch' keys files old new whole m h last l r tells b a there watched lines ahead heard printed is own stops left =
    let s = seen (beside watch keys files old) whole m in
    let k : MachineState = record (asked u m) { lines = h.lines } in
    let t = answered u l.got k in
    let stop = first_stop l.stop t.stop in
    let same : answered u l.got h ≡ t = ap (λ (x : MachineState). answered u l.got x) is in
    let P : Part → Type 0 = λ p. Comes p r (seen (beside watch' keys files new) whole last) tells b a in
    subst P (sym (service-by fault u s (Some l) there ∙ line-is u l s ∙ ap (behind_made (sends l.sent)) (lined-answered u watch watch' keys files old new whole m h.lines l watched lines ahead)))
    (comes-behind (sends l.sent) (silent stop (seen (beside watch' keys files new) whole t.machine)) r (seen (beside watch' keys files new) whole last) tells b a a
    (λ told. printed told ∙ ap (λ (x : List ℕ). b.console ++ x) (sym (sends-text l.sent)))
    (heard ∙ heard-sends Seen b.heard l.sent)
    (silent-comes stop r (seen (beside watch' keys files new) whole t.machine) (seen (beside watch' keys files new) whole last) tells a own
    (stops ∙ ap (λ (x : Turned). first_stop l.stop x.stop) same) (ap (λ (x : MachineState). seen (beside watch' keys files new) whole x) (left ∙ ap (λ (x : Turned). x.machine) same))))

-- ---- what was done on a line, of the machine before its unit was asked

pub asked-lines : (u : UnitName) (m : MachineState) → (asked u m).lines ≡ m.lines
unfolding asked
asked-lines u m = refl

asked-lined : (u : UnitName) (m : MachineState) (watch : WatchState) (keys : List (ℕ × ℕ)) (s : LineState) (whole : List Answer)
    → lined (want_at u m) (around_of watch keys s whole (asked u m)) ≡ lined (want_at u m) (around_of watch keys s whole m)
unfolding asked
asked-lined u m watch keys s whole = refl

lined-asked : (u : UnitName) (m n : MachineState) (w : Want) (watch : WatchState) (keys : List (ℕ × ℕ)) (s : LineState) (whole : List Answer) → n ≡ asked u m → w ≡ want_at u m
    → lined w (around_of watch keys s whole n) ≡ lined (want_at u m) (around_of watch keys s whole m)
lined-asked u m n w watch keys s whole asks wants =
    ap (λ (x : MachineState). lined w (around_of watch keys s whole x)) asks
    ∙ ap (λ (x : Want). lined x (around_of watch keys s whole (asked u m))) wants
    ∙ asked-lined u m watch keys s whole

none-of : (o : Option Lined) → None ≡ option_map (λ (x : Lined). x.got) o → o ≡ None
none-of None is = refl
none-of (Some l) is = absurd (cc)

-- nothing was done on one
pub none-lined : (u : UnitName) (m n : MachineState) (w : Want) (watch : WatchState) (keys : List (ℕ × ℕ)) (s new : LineState) (whole : List Answer) (ls : List (LineOf ℕ)) → n ≡ asked u m → w ≡ want_at u m
    → DoneAs (lined w (around_of watch keys s whole n)) None watch.expects whole s new ls → lined (want_at u m) (around_of watch keys s whole m) ≡ None
none-lined u m n w watch keys s new whole ls asks wants done =
    sym (lined-asked u m n w watch keys s whole asks wants) ∙ none-of (lined w (around_of watch keys s whole n)) done.line.answers

-- this was done on one
pub record IsLined (o : Option Lined) (made : OnLine) (expects : ExpectTable) (whole : List Answer) (old new : LineState) (ls : List (LineOf ℕ)) : Type 0 where
  pub done : Lined
  pub is : o ≡ Some done
  pub got_is : got_on made ≡ done.got
  pub stop_is : stop_on made expects ≡ done.stop
  pub waits_is : expects_on made expects ≡ done.expects
  pub lines : done.lines ≡ map (seen_line new) ls
  pub ahead : done.ahead ≡ ahead_of new.told whole
  pub heard : new.sent ≡ heard_more old.sent done.sent

lined-of : (o : Option Lined) (made : OnLine) (expects : ExpectTable) (whole : List Answer) (old new : LineState) (ls : List (LineOf ℕ)) → DoneAs o (Some made) expects whole old new ls
    → IsLined o made expects whole old new ls
lined-of None made expects whole old new ls did = let none = did.line.answers in absurd (cc)
lined-of (Some l) made expects whole old new ls did = record {
  done = l;
  is = refl;
  got_is = same_Some (got_on made) l.got did.line.answers;
  stop_is = same_Some (stop_on made expects) l.stop (sym did.stop);
  waits_is = same_Some (expects_on made expects) l.expects (sym did.waits);
  lines = did.line.lines;
  ahead = did.line.ahead;
  heard = did.line.heard;
}

pub some-lined : (u : UnitName) (m n : MachineState) (w : Want) (made : OnLine) (watch : WatchState) (keys : List (ℕ × ℕ)) (s new : LineState) (whole : List Answer) (ls : List (LineOf ℕ)) → n ≡ asked u m → w ≡ want_at u m
    → DoneAs (lined w (around_of watch keys s whole n)) (Some made) watch.expects whole s new ls
    → IsLined (lined (want_at u m) (around_of watch keys s whole m)) made watch.expects whole s new ls
some-lined u m n w made watch keys s new whole ls asks wants did =
    lined-of (lined (want_at u m) (around_of watch keys s whole m)) made watch.expects whole s new ls
    (subst (λ (o : Option Lined). DoneAs o (Some made) watch.expects whole s new ls) (lined-asked u m n w watch keys s whole asks wants) did)
