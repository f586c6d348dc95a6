-- A session in which a saved one was restored goes on as that one, and as the one goes on that was saved.
use Rattle.std.specs.Prelude.{None, Ok}
use Rattle.std.specs.List.{AllByRecursion}
use Rattle.std.proofs.Common.{◌≡◌, ◌≢◌, inl, ℕ, zero, suc, Bool, true, false, Option, Some, if◌then◌else◌, List, [], ◌++◌, length, drop, refl, ap, sym, ◌∙◌, subst, arith, append_assoc, append-nil}
use Rattle.std.proofs.Math.Seq.{drop-nil}
use Rattle.std.proofs.lemmas.Option.{same_Some}
use Rattle.file_traits.specs.Lists.{NamedBytes, bytes_of}
use Rattle.observations.specs.Observations.{Observation, Trace, after_made, map_made, text_of, reads_of, sent_of}
use Rattle.observations.specs.Cut.{Outcome, cut_trace}
use Rattle.observations.proofs.CutLemmas.{no-faults, all-sent}
use Rattle.observations.proofs.MadeLemmas.{text_of-append, sent_of-append}
use Rattle.file_commands.specs.Notes.{CommandNote, Note, handed}
use Rattle.nova_machine.specs.Comes.{Output}
use Rattle.nova_machine.specs.LineChanges.{heard_with}
use Rattle.expect_actions.specs.Watch.{WatchState, forgotten}
use Rattle.saved_session.specs.Parts.{State as SavedState}
use Rattle.unit_files.specs.Attachments.{Attachment, attachment_at}
use Rattle.unit_files.specs.Buffer.{Buffer, disk_unit}
use Rattle.unit_files.specs.Acts.{flush_said, flushed_as, is_due_back, buffer_flushed}
use Rattle.nova_machine.specs.Seen.{attached_in}
use Rattle.nova_machine.specs.Valid.{CopyIsFile, DiskIsItsFile}
use Rattle.saved_session.specs.SavedWatch.{saved_watch}
use Rattle.state_text.specs.Text.{text}
use Rattle.scp_parser.specs.Command.{Save, Restore}
use Rattle.command_session.specs.Live.{Live}
use Rattle.command_session.specs.Reply.{Reply}
use Rattle.state_commands.specs.StateEffects.{flushed_with}
use Rattle.command_session.specs.Asked.{Asked}
use Rattle.command_session.specs.DiskFile.{disk_alone}
use Rattle.scp_commands.specs.Effect.{effect, does}
use Rattle.command_laws.proofs.OwnLines.{same-many}
use Rattle.command_laws.specs.Resumption.{done_with, left_by_save, continued, saved_among, HasNobody, HaveLengths, IsAtRest, HoldsSaved, IsLike}
use Rattle.command_laws.proofs.ResumptionLemmas.{restore-puts-back}
use Rattle.scp_script.specs.declared.progress.Finish.{Finish}
use Rattle.scp_script.specs.declared.progress.Finish.TheVariants.{Exit, EndOfInput, FlushFailed, Commands, Console, Input, OutOfMemory}
use Rattle.session_texts.specs.Scripts.{settled}
use Rattle.session_texts.specs.Actions.{Texts, texts_behind}
use Rattle.scp_script.specs.Session.{State, Session, Step, Following, Going, going_on, following, rested, state_at, asking, with_complaint, text_reply, text_step, step, Course, course, trace, ComesTo}
use Rattle.script_laws.specs.Core.{Core, SameCore, NoneFails}
use Rattle.scp_script.specs.Loop.{EndsAs, status_of, finish_of}
use Rattle.scp_script.specs.Perform.{IsSession, IsPerformed}
use Rattle.script_laws.specs.Resumption.{IsFaultless, SameCoreSameFinish, RestoresSaved, resumed, GoesOnAs, RestoredGoesOn, Saves, behind_save, SavedAndRestored, EndAlike, SavedAndRestoredGoOnAlike}
use Rattle.script_laws.specs.Valid.{ValidSession}
use Rattle.scp_script.proofs.SessionLemmas.{step-comes}
use Rattle.script_laws.proofs.ValidSessions.{comes-valid, sessions-stay-valid}
use Rattle.script_laws.proofs.CoreLemmas.{same-core-same-future, course-behind}

-- ---- ends that refuse nothing

-- all was printed and sent, and what is left is what the whole trace leaves
record IsWhole (t : Trace State) (status made : ℕ) (before after : Output) (state : State) : Type 0 where
  status_is : status ≡ t.ended.status
  printed : after.console ≡ before.console ++ text_of t.made
  heard : after.heard ≡ heard_with before.heard (sent_of t.made)
  reads_are : made ≡ reads_of t.made
  state_is : state ≡ t.ended.state

whole-end : (t : Trace State) (status gives made : ℕ) (before after : Output) (state : State) → EndsAs t status gives made before after state → status ≢ 102 → status ≢ 106
    → IsWhole t status made before after state
whole-end t status gives made before after state end no_byte no_read =
    let cut = cut_trace (length end.taken) gives t in
    let status_is : cut.status ≡ status = ap (λ (o : Outcome State). o.status) end.outcome in
    let whole = no-faults t.made t.ended (length end.taken) gives (λ e. no_byte (sym status_is ∙ e)) (λ e. no_read (sym status_is ∙ e)) in
    let all = sym end.outcome ∙ whole in
    let sent = all-sent t.made t.ended (length end.taken) gives (λ e. no_byte (sym status_is ∙ e)) (λ e. no_read (sym status_is ∙ e)) in
    record {
      status_is = ap (λ (o : Outcome State). o.status) all;
      printed = end.written ∙ ap (λ (l : List ℕ). before.console ++ l) (ap (λ (o : Outcome State). o.console) all);
      heard = end.heard ∙ ap (heard_with before.heard) sent;
      reads_are = ap (λ (o : Outcome State). o.reads) all;
      state_is = ap (λ (o : Outcome State). o.state) all;
    }

-- ---- sessions of one core

faultless-byte : (finish : Finish) → IsFaultless finish → status_of finish ≢ 102
faultless-byte (Exit status) low = λ e. omega (arith, low, e)
faultless-byte EndOfInput low = λ e. omega (arith, e)
faultless-byte FlushFailed low = λ e. omega (arith, e)
faultless-byte Commands low = λ e. omega (arith, e)
faultless-byte Console low = absurd low
faultless-byte Input low = absurd low
faultless-byte OutOfMemory low = absurd low

faultless-read : (finish : Finish) → IsFaultless finish → status_of finish ≢ 106
faultless-read (Exit status) low = λ e. omega (arith, low, e)
faultless-read EndOfInput low = λ e. omega (arith, e)
faultless-read FlushFailed low = λ e. omega (arith, e)
faultless-read Commands low = λ e. omega (arith, e)
faultless-read Console low = absurd low
faultless-read Input low = absurd low
faultless-read OutOfMemory low = absurd low

as-session : (s : Session) (finish : Finish) (x : Live) (rest : List ℕ) (before after : Output) → IsFaultless finish → IsPerformed s finish x rest before after → IsSession s finish x rest before after
as-session s (Exit status) x rest before after low is = is
as-session s EndOfInput x rest before after low is = is
as-session s FlushFailed x rest before after low is = is
as-session s Commands x rest before after low is = is
as-session s Console x rest before after low is = absurd low
as-session s Input x rest before after low is = absurd low
as-session s OutOfMemory x rest before after low is = absurd low

not-console : (finish : Finish) → IsFaultless finish → finish ≢ Console
not-console finish low = λ (e : finish ≡ Console). subst IsFaultless e low

not-input : (finish : Finish) → IsFaultless finish → finish ≢ Input
not-input finish low = λ (e : finish ≡ Input). subst IsFaultless e low

trace-same : (s t : Session) → SameCore s t → NoneFails s → NoneFails t → trace s ≡ trace t
unfolding trace
trace-same s t same none free = ap (λ (c : Course). c.trace) (same-core-same-future.all s t same none free)

pub same-core-same-finish : SameCoreSameFinish
same-core-same-finish s t finish other x y rest left before after front behind same none free low deep one two =
    let a = as-session s finish x rest before after low one in
    let b = as-session t other y left front behind deep two in
    let first = whole-end (trace s) (status_of finish) a.gives a.made before after (record { live = x; notes = [] }) a.end (faultless-byte finish low) (faultless-read finish low) in
    let second = whole-end (trace t) (status_of other) b.gives b.made front behind (record { live = y; notes = [] }) b.end (faultless-byte other deep) (faultless-read other deep) in
    let traces = trace-same s t same none free in
    let courses = same-core-same-future.all s t same none free in
    let input : s.input ≡ t.input = ap (λ (c : Core). c.input) same in
    let made : a.made ≡ b.made = first.reads_are ∙ ap (λ (z : Trace State). reads_of z.made) traces ∙ sym second.reads_are in
    record {
      finishes = same_Some finish other (a.named (not-console finish low) (not-input finish low) ∙ ap (λ (c : Course). finish_of c.end) courses ∙ sym (b.named (not-console other deep) (not-input other deep)));
      states = ap (λ (z : State). z.live) (first.state_is ∙ ap (λ (z : Trace State). z.ended.state) traces ∙ sym second.state_is);
      rests = a.rest ∙ ap (λ (n : ℕ). drop n s.input) made ∙ ap (drop b.made) input ∙ sym b.rest;
      added = text_of (trace s).made;
      one = first.printed;
      two = second.printed ∙ ap (λ (z : Trace State). front.console ++ text_of z.made) (sym traces);
      sent = sent_of (trace s).made;
      one_heard = first.heard;
      two_heard = second.heard ∙ ap (λ (z : Trace State). heard_with front.heard (sent_of z.made)) (sym traces);
    }

-- ---- a session that is restored

-- what a text comes to that was answered so
step-of : (made : List (Observation State)) (behind : Session) (what : Asked) (reply : Reply) → text_reply behind.limit behind.texts (handed behind.spent behind.notes) behind.live what ≡ reply
    → text_step made behind what ≡ record {
      made = made ++ map_made (state_at behind.notes) reply.made;
      next = following reply.answer (disk_alone behind.live reply.after.live) (record behind {
        live = reply.after.live;
        notes = drop reply.after.used behind.notes;
        texts = texts_behind behind.texts what reply.answer reply.after.live.watch;
      });
    }
unfolding text_step
step-of made behind what reply is =
    ap (λ (r : Reply). record {
      made = made ++ map_made (state_at behind.notes) r.made;
      next = following r.answer (disk_alone behind.live r.after.live) (record behind { live = r.after.live; notes = drop r.after.used behind.notes; texts = texts_behind behind.texts what r.answer r.after.live.watch });
    }) is

-- the same of one that is done and prints nothing
step-done : (made : List (Observation State)) (behind : Session) (what : Asked) (used : ℕ) (live : Live) → text_reply behind.limit behind.texts (handed behind.spent behind.notes) behind.live what ≡ done_with used live
    → text_step made behind what ≡ record { made = made; next = going_on (disk_alone behind.live live) (rested (record behind { live = live; notes = drop used behind.notes })) }
step-done made behind what used live is =
    step-of made behind what (done_with used live) is
    ∙ ap (λ (l : List (Observation State)). record { made = l; next = going_on (disk_alone behind.live live) (rested (record behind { live = live; notes = drop used behind.notes })) }) (append-nil made)

-- a command that is done with nothing to say, as a text
said-restore : (limit : ℕ) (t : Texts) (notes : List CommandNote) (live now : Live) (force : Bool) (name : List ℕ) (used : ℕ) → effect limit notes live (Restore force name) ≡ done_with used now
    → text_reply limit t notes live (Ok (Restore force name)) ≡ done_with used now
unfolding text_reply does
said-restore limit t notes live now force name used is = ap (λ (r : Reply). with_complaint t.actions (settled t.scripts (Ok (Restore force name)) r)) is

said-save : (limit : ℕ) (t : Texts) (notes : List CommandNote) (live now : Live) (name : List ℕ) (used : ℕ) → effect limit notes live (Save name) ≡ done_with used now
    → text_reply limit t notes live (Ok (Save name)) ≡ done_with used now
unfolding text_reply does
said-save limit t notes live now name used is = ap (λ (r : Reply). with_complaint t.actions (settled t.scripts (Ok (Save name)) r)) is

-- what was saved has no actions of a stop
rested-already : (s : Live) (used : ℕ) (behind : Session) → s.watch ≡ forgotten s.watch → rested (resumed s used behind) ≡ resumed s used behind
rested-already s used behind clean = ap (λ (w : WatchState). record behind { live = record (continued s behind.live) { watch = w }; notes = drop used behind.notes }) (sym clean)

step-back : (at behind : Session) (s : Live) (used : ℕ) → ValidSession at → RestoresSaved at behind s used → step at ≡ record { made = asking at; next = Going (resumed s used behind) }
step-back at behind s used valid back =
    let r = back.restores in
    let live = comes-valid at r.line behind valid r.comes in
    let saved = back.holds.rest.session in
    let many = live.count ∙ same-many behind.live.machine.units s.machine.units back.kinds ∙ sym saved.count in
    let like : IsLike behind.live s = record { files = back.files; kinds = back.kinds; many = many } in
    let what : Asked = Ok (Restore back.force back.name) in
    let notes = handed behind.spent behind.notes in
    let is = restore-puts-back.restored behind.limit notes behind.live s back.force back.name back.then_files used r.done back.holds like in
    let alone = restore-puts-back.alone behind.limit notes behind.live s back.force back.name back.then_files used r.done back.holds like in
    step-comes at behind r.line what r.comes r.command
    ∙ step-done (asking at) behind what used (continued s behind.live) (said-restore behind.limit behind.texts notes behind.live (continued s behind.live) back.force back.name used is)
    ∙ ap (λ (b : Bool). record { made = asking at; next = going_on b (rested (resumed s used behind)) }) alone
    ∙ ap (λ (t : Session). record { made = asking at; next = Going t }) (rested-already s used behind back.holds.rest.watch)

comes-more : (count : ℕ) (s t u : Session) (made : List (Observation State)) → ComesTo count s made t → (step t).next ≡ Going u → ComesTo (suc count) s (made ++ (step t).made) u
comes-more zero s t u made (none, same) goes = (
  u,
  [],
  ap (λ x. (step x).next) same ∙ goes,
  ap (λ l. l ++ (step t).made) none ∙ ap (λ x. (step x).made) (sym same) ∙ sym (append-nil (step s).made),
  (refl, refl),
)
comes-more (suc count) s t u made (mid, more, first, parts, rest) goes = (
  mid,
  more ++ (step t).made,
  first,
  ap (λ l. l ++ (step t).made) parts ∙ append_assoc (step s).made more (step t).made,
  comes-more count mid t u more rest goes,
)

-- behind a text that goes on so
comes-on : (count : ℕ) (start at next : Session) (front : List (Observation State)) → ComesTo count start front at → step at ≡ record { made = asking at; next = Going next }
    → ComesTo (suc count) start (front ++ asking at) next
comes-on count start at next front comes is =
    subst (λ (l : List (Observation State)). ComesTo (suc count) start (front ++ l) next) (ap (λ (x : Step). x.made) is)
    (comes-more count start at next front comes (ap (λ (x : Step). x.next) is))

-- the end of a session that came so far
end-behind : (count : ℕ) (start t : Session) (front : List (Observation State)) (status gives made : ℕ) (before after : Output) (state : State) → ComesTo count start front t
    → EndsAs (trace start) status gives made before after state → status ≢ 102 → status ≢ 106 → GoesOnAs t front status before after state
unfolding trace
end-behind count start t front status gives made before after state comes end no_byte no_read =
    let is : trace start ≡ after_made front (trace t) = ap (λ (c : Course). c.trace) (course-behind count start t front comes) in
    let whole = whole-end (trace start) status gives made before after state end no_byte no_read in
    record {
      status_is = whole.status_is ∙ ap (λ (z : Trace State). z.ended.status) is;
      printed = whole.printed ∙ ap (λ (z : Trace State). before.console ++ text_of z.made) is ∙ ap (λ (l : List ℕ). before.console ++ l) (text_of-append front (trace t).made);
      heard = whole.heard ∙ ap (λ (z : Trace State). heard_with before.heard (sent_of z.made)) is ∙ ap (heard_with before.heard) (sent_of-append front (trace t).made);
      state_is = whole.state_is ∙ ap (λ (z : Trace State). z.ended.state) is;
    }

pub restored-comes : (count : ℕ) (start at behind : Session) (s : Live) (used : ℕ) (front : List (Observation State)) → ValidSession start → ComesTo count start front at → RestoresSaved at behind s used
    → ComesTo (suc count) start (front ++ asking at) (resumed s used behind)
restored-comes count start at behind s used front valid comes back =
    comes-on count start at (resumed s used behind) front comes (step-back at behind s used (sessions-stay-valid.all count start at front valid comes) back)

pub restored-goes-on : RestoredGoesOn
restored-goes-on = record {
  text = step-back;
  comes = restored-comes;
  all = λ count start at behind s used front valid comes back.
      course-behind (suc count) start (resumed s used behind) (front ++ asking at) (restored-comes count start at behind s used front valid comes back);
  ended = λ count start at behind s used front status gives made before after state valid comes back.
      end-behind (suc count) start (resumed s used behind) (front ++ asking at) status gives made before after state (restored-comes count start at behind s used front valid comes back);
}

-- ---- a session that was saved, and goes on

step-save : (at behind : Session) (name : List ℕ) → Saves at behind name
    → step at ≡ record { made = asking at; next = going_on (disk_alone behind.live (left_by_save name behind.live)) (behind_save name behind) }
step-save at behind name saves =
    let now = left_by_save name behind.live in
    let none : effect behind.limit (handed behind.spent behind.notes) behind.live (Save name) ≡ done_with 0 now =
    ap (λ (notes : List Note). effect behind.limit (handed behind.spent notes) behind.live (Save name)) saves.none ∙ restore-puts-back.saved behind.limit behind.live name in
    step-comes at behind saves.line (Ok (Save name)) saves.comes saves.command
    ∙ step-done (asking at) behind (Ok (Save name)) 0 now (said-save behind.limit behind.texts (handed behind.spent behind.notes) behind.live now name 0 none)

-- where it goes on
step-saved : (at behind : Session) (name : List ℕ) → Saves at behind name → (step at).next ≡ Going (behind_save name behind)
    → step at ≡ record { made = asking at; next = Going (behind_save name behind) }
step-saved at behind name saves goes =
    let is = step-save at behind name saves in
    is ∙ ap (λ (next : Following). record { made = asking at; next = next }) (sym (ap (λ (x : Step). x.next) is) ∙ goes)

-- what is saved has no actions of a stop
watch-saved : (w : WatchState) → saved_watch (forgotten w) ≡ saved_watch w
unfolding saved_watch
watch-saved w = refl

rested-saved : (files : List NamedBytes) (live : Live) → saved_among files (record live { watch = forgotten live.watch }) ≡ saved_among files live
rested-saved files live = λ i. record (saved_among files live) { watch = watch-saved live.watch i }

-- behind the writing back of the disk nothing is to be written back
written-back : (o : Option Attachment) (disk : Buffer) (files : List NamedBytes) → CopyIsFile o (buffer_flushed (flush_said None disk_unit o disk) disk_unit disk) files
    → (buffer_flushed (flush_said None disk_unit o disk) disk_unit disk).written ≡ false
written-back None disk files copy = ap (λ (b : Buffer). b.written) copy
written-back (Some a) disk files copy = by (is_due_back disk_unit disk)
  where
    by : (b : Bool) → (buffer_flushed (flushed_as (if b then None else None)) disk_unit disk).written ≡ false
    by true = refl
    by false = refl

-- what a SAVE leaves is at rest
rest-saved : (saving behind : Session) (name : List ℕ) → ValidSession saving → DiskIsItsFile saving.live → (step saving).next ≡ Going (behind_save name behind) → AllByRecursion HasNobody behind.live.lines
    → IsAtRest (behind_save name behind).live
rest-saved saving behind name valid held goes nobody =
    let copy = sessions-stay-valid.disk saving (behind_save name behind) valid goes held in
    record {
      session = (sessions-stay-valid.next saving (behind_save name behind) valid goes).live;
      nobody = nobody;
      copy = copy;
      written = written-back (attachment_at (attached_in behind.live.machine) disk_unit) behind.live.machine.disk (behind_save name behind).live.files copy;
      watch = refl;
    }

holds-saved : (behind : Session) (name : List ℕ) (files : List NamedBytes) → IsAtRest (behind_save name behind).live → HaveLengths (flushed_with None behind.live).files
    → files ≡ (behind_save name behind).live.files → HoldsSaved files (flushed_with None behind.live).files name (behind_save name behind).live
holds-saved behind name files rest lengths same =
    let then_files = (flushed_with None behind.live).files in
    let is : saved_among then_files (behind_save name behind).live ≡ saved_among then_files (left_by_save name behind.live) = rested-saved then_files (left_by_save name behind.live) in
    record {
      rest = rest;
      lengths = lengths;
      bytes = inl (ap (λ (l : List NamedBytes). bytes_of l name) same ∙ restore-puts-back.holds behind.live name ∙ ap (λ (v : SavedState). text v) (sym is));
    }

restores-saved : (saving behind restoring present : Session) (name : List ℕ) (used : ℕ) → ValidSession saving → DiskIsItsFile saving.live → SavedAndRestored saving behind restoring present name used
    → RestoresSaved restoring present (behind_save name behind).live used
restores-saved saving behind restoring present name used valid held both = record {
  force = both.force;
  name = name;
  then_files = (flushed_with None behind.live).files;
  restores = both.restores;
  holds = holds-saved behind name present.live.files (rest-saved saving behind name valid held both.goes both.nobody) both.lengths both.outside.files;
  files = both.outside.files;
  kinds = both.outside.kinds;
}

core-saved : (saving behind restoring present : Session) (name : List ℕ) (used : ℕ) → SavedAndRestored saving behind restoring present name used
    → SameCore (behind_save name behind) (resumed (behind_save name behind).live used present)
core-saved saving behind restoring present name used both =
    let s = (behind_save name behind).live in
    let out = both.outside in
    let texts : behind.texts ≡ present.texts = both.saves.alone ∙ sym both.restores.alone in
    λ i. record {
      live = record {
        machine = s.machine;
        watch = s.watch;
        keys = sym out.keys i;
        files = sym out.files i;
        lines = s.lines;
        ahead = sym out.ahead i;
      };
      limit = sym out.limit i;
      budget = sym out.budget i;
      texts = texts i;
      reads = sym out.reads i;
      prompt = sym out.prompt i;
      input = sym out.input i;
      open_ = sym out.open_ i;
    }

none-saved : (saving behind restoring present : Session) (name : List ℕ) (used : ℕ) → SavedAndRestored saving behind restoring present name used
    → NoneFails (resumed (behind_save name behind).live used present)
none-saved saving behind restoring present name used both = ap (drop used) both.none ∙ drop-nil used

all-saved : (saving behind restoring present : Session) (name : List ℕ) (used : ℕ) → SavedAndRestored saving behind restoring present name used
    → course (behind_save name behind) ≡ course (resumed (behind_save name behind).live used present)
all-saved saving behind restoring present name used both =
    same-core-same-future.all (behind_save name behind) (resumed (behind_save name behind).live used present) (core-saved saving behind restoring present name used both)
    both.saves.none (none-saved saving behind restoring present name used both)

pub saves-come : (count : ℕ) (start at behind : Session) (name : List ℕ) (front : List (Observation State)) → ComesTo count start front at → Saves at behind name → (step at).next ≡ Going (behind_save name behind)
    → ComesTo (suc count) start (front ++ asking at) (behind_save name behind)
saves-come count start at behind name front comes saves goes = comes-on count start at (behind_save name behind) front comes (step-saved at behind name saves goes)

pub traces-saved : (saving behind restoring present : Session) (name : List ℕ) (used : ℕ) → SavedAndRestored saving behind restoring present name used
    → trace (behind_save name behind) ≡ trace (resumed (behind_save name behind).live used present)
unfolding trace
traces-saved saving behind restoring present name used both = ap (λ (c : Course). c.trace) (all-saved saving behind restoring present name used both)

end-alike : (front begin : List (Observation State)) (s t : Session) (status other : ℕ) (before after start end : Output) (x y : State) → trace s ≡ trace t
    → GoesOnAs s front status before after x → GoesOnAs t begin other start end y → EndAlike front begin status other before after start end x y
end-alike front begin s t status other before after start end x y same one two = record {
  statuses = one.status_is ∙ ap (λ (z : Trace State). z.ended.status) same ∙ sym two.status_is;
  states = one.state_is ∙ ap (λ (z : Trace State). z.ended.state) same ∙ sym two.state_is;
  added = text_of (trace s).made;
  one = one.printed;
  two = two.printed ∙ ap (λ (z : Trace State). start.console ++ (text_of begin ++ text_of z.made)) (sym same);
  sent = sent_of (trace s).made;
  one_heard = one.heard;
  two_heard = two.heard ∙ ap (λ (z : Trace State). heard_with start.heard (sent_of begin ++ sent_of z.made)) (sym same);
}

pub saved-and-restored-go-on-alike : SavedAndRestoredGoOnAlike
saved-and-restored-go-on-alike = record {
  saves = step-save;
  restores = λ saving behind restoring present name used valid held fresh both. restores-saved saving behind restoring present name used valid held both;
  core = core-saved;
  none = none-saved;
  all = all-saved;
  ended = λ count many start saving behind other restoring present name used front begin status gives made status' gives' made' before after before' after' x y valid held fresh comes more both end end' no_byte no_read no_byte' no_read'.
      let s = (behind_save name behind).live in
      end-alike (front ++ asking saving) (begin ++ asking restoring) (behind_save name behind) (resumed s used present) status status' before after before' after' x y
      (traces-saved saving behind restoring present name used both)
      (end-behind (suc count) start (behind_save name behind) (front ++ asking saving) status gives made before after x (saves-come count start saving behind name front comes both.saves both.goes) end no_byte no_read)
      (end-behind (suc many) other (resumed s used present) (begin ++ asking restoring) status' gives' made' before' after' y
      (restored-comes many other restoring present s used begin fresh more
      (restores-saved saving behind restoring present name used (sessions-stay-valid.all count start saving front valid comes) (sessions-stay-valid.disk_all count start saving front valid held comes) both)) end' no_byte' no_read');
}
