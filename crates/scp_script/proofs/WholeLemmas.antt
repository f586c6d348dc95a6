-- All lines of a session, one behind another.
use Rattle.std.proofs.Common.{Option, ◌≡◌, inl, ℕ, zero, suc, ◌+◌, Bool, true, List, [], ◌∷◌, ◌++◌, length, drop, refl, ap, sym, ◌∙◌, subst, arith, append_assoc, append-nil, zero-add, length-append}
use Rattle.std.proofs.lemmas.List.{drop-drop}
use Rattle.fault_counts.specs.Faults.{raised}
use Rattle.file_traits.specs.State.{FileState}
use Rattle.unit_files.specs.Attachments.{Held}
use Rattle.file_commands.proofs.Emptying.{unwritten-since}
use Rattle.observations.specs.Observations.{Observation, Trace, after_made, text_of, reads_of, sent_of}
use Rattle.observations.specs.Cut.{behind, ends, cut, cut_trace, sent_until}
use Rattle.observations.proofs.CutLemmas.{cut-after, sent-after}
use Rattle.observations.proofs.MadeLemmas.{text_of-append, reads_of-append, sent_of-append, after_made-append}
use Rattle.nova_machine.specs.Comes.{Output}
use Rattle.nova_machine.specs.LineChanges.{heard_with}
use Rattle.nova_machine.proofs.Hearing.{heard-nothing, heard-behind}
use Rattle.file_commands.specs.declared.note.FaultNote.{FaultNote}
use Rattle.file_commands.specs.Notes.{CommandNote, Note}
use Rattle.expect_actions.specs.Watch.{WatchState}
use Rattle.command_session.specs.Live.{Live}
use Rattle.command_session.specs.Doing.{ComeBehind}
use Rattle.command_session.proofs.RemainLemmas.{remains}
use Rattle.scp_script.specs.declared.progress.Progress.TheVariants.{GoesOn, IsOver}
use Rattle.scp_script.specs.declared.progress.Finish.{Finish}
use Rattle.scp_script.specs.declared.progress.Finish.TheVariants.{Exit, EndOfInput, FlushFailed, Commands, Console, Input, OutOfMemory}
use Rattle.session_texts.specs.Lines.{reads_left}
use Rattle.session_texts.specs.Reading.{AreRead}
use Rattle.command_session.specs.DiskFile.{disk_alone}
use Rattle.scp_script.specs.Session.{upcoming, flushes_next, State, Session, step, Going, going_on, rested, after_step, course, trace, ComesTo}
use Rattle.scp_script.specs.Loop.{status_of, finish_of, Finishes, FinishCause, GoesPast, LetsThrough, RunsOut, MayFollow, Progresses, Stepped, AreKept, KeptCause}
use Rattle.scp_script.specs.Perform.{IsSession, RunsShort, IsPerformed, Performed}
use Rattle.scp_script.proofs.SessionLemmas.{course-going}
use Rattle.scp_script.proofs.NoteLemmas.{with_notes, none-short}

-- one text more
comes-more : (count : ℕ) (s t u : Session) (made : List (Observation State)) → ComesTo count s made t → (step t).next ≡ Going u → ComesTo (suc count) s (made ++ (step t).made) u
comes-more zero s t u made (none, same) goes = (
  u,
  [],
  ap (λ x. (step x).next) same ∙ goes,
  ap (λ l. l ++ (step t).made) none ∙ ap (λ x. (step x).made) (sym same) ∙ sym (append-nil (step s).made),
  (refl, refl),
)
comes-more (suc count) s t u made (mid, more, first, parts, rest) goes = (
  mid,
  more ++ (step t).made,
  first,
  ap (λ l. l ++ (step t).made) parts ∙ append_assoc (step s).made more (step t).made,
  comes-more count mid t u more rest goes,
)

-- the session came from its start to here by that many texts, with these observations
pub record Reached (start now : Session) (before after : Output) : Type 0 where
  pub count : ℕ
  pub done : List (Observation State)
  pub comes : ComesTo count start done now
  pub so_far : course start ≡ after_step done (Going now) course
  pub written : after.console ≡ before.console ++ text_of done
  pub heard : after.heard ≡ heard_with before.heard (sent_of done)
  pub reads : AreRead (reads_of done) start.open_ start.input now.open_ now.input

pub reached-none : (start : Session) (before : Output) → Reached start start before before
reached-none start before = record {
  count = 0;
  done = [];
  comes = (refl, refl);
  so_far = refl;
  written = sym (append-nil before.console);
  heard = sym (heard-nothing before.heard);
  reads = record { rest = refl; count = sym (zero-add (reads_left start.open_ start.input)) };
}

pub reads-behind : (m n : ℕ) (o1 o2 o3 : Bool) (i1 i2 i3 : List ℕ) → AreRead m o1 i1 o2 i2 → AreRead n o2 i2 o3 i3 → AreRead (m + n) o1 i1 o3 i3
reads-behind m n o1 o2 o3 i1 i2 i3 a b = record {
  rest = b.rest ∙ ap (drop n) a.rest ∙ drop-drop n m i1;
  count = omega (arith, a.count, b.count);
}

pub reached-more : (start now next : Session) (before mid after : Output) → disk_alone now.live next.live ≡ true → Reached start now before mid → GoesPast now next mid after
    → Reached start (rested next) before after
reached-more start now next before mid after alone r g =
    let goes : (step now).next ≡ Going (rested next) = g.next ∙ ap (λ b. going_on b (rested next)) alone in
    record {
      count = suc r.count;
      done = r.done ++ (step now).made;
      comes = comes-more r.count start now (rested next) r.done r.comes goes;
      so_far = r.so_far ∙ ap (λ c. after_step r.done (Going now) (λ _. c)) (course-going now (rested next) goes)
          ∙ ap (λ t. record { trace = t; end = (course (rested next)).end }) (sym (after_made-append r.done (step now).made (course (rested next)).trace));
      written = g.written ∙ ap (λ t. t ++ text_of (step now).made) r.written ∙ append_assoc before.console (text_of r.done) (text_of (step now).made)
          ∙ ap (λ t. before.console ++ t) (sym (text_of-append r.done (step now).made));
      heard = g.heard ∙ ap (λ h. heard_with h (sent_of (step now).made)) r.heard ∙ heard-behind before.heard (sent_of r.done) (sent_of (step now).made)
          ∙ ap (heard_with before.heard) (sym (sent_of-append r.done (step now).made));
      reads = subst (λ n. AreRead n start.open_ start.input next.open_ next.input) (sym (reads_of-append r.done (step now).made))
          (reads-behind (reads_of r.done) (reads_of (step now).made) start.open_ now.open_ next.open_ start.input now.input next.input r.reads g.reads);
    }

-- the trace of a session that came to another
trace-behind : (start now : Session) (done : List (Observation State)) → course start ≡ after_step done (Going now) course → trace start ≡ after_made done (trace now)
unfolding trace
trace-behind start now done so_far = ap (λ c. c.trace) so_far

-- what the input lets through from its start
all-let : (finish : Finish) (gives made all done whole : ℕ) → LetsThrough finish gives made all → whole ≡ done + all → LetsThrough finish (done + gives) (done + made) whole
all-let (Exit status) gives made all done whole h e = omega (arith, h, e)
all-let EndOfInput gives made all done whole h e = omega (arith, h, e)
all-let FlushFailed gives made all done whole h e = omega (arith, h, e)
all-let Commands gives made all done whole h e = omega (arith, h, e)
all-let OutOfMemory gives made all done whole h e = omega (arith, h, e)
all-let Console gives made all done whole h e = omega (arith, h, e)
all-let Input gives made all done whole h e = omega (arith, h)

-- the session is over, and has used every note
session-over : (start now new : Session) (finish : Finish) (before mid after : Output) → new.notes ≡ [] → Reached start now before mid → Finishes now finish new mid after
    → IsSession start finish new.live new.input before after
session-over start now new finish before mid after used r f =
    let taken = text_of r.done ++ f.end.taken in
    let so_far = trace-behind start now r.done r.so_far in
    let size : length taken ≡ length (text_of r.done) + length f.end.taken = length-append (text_of r.done) f.end.taken in
    let sent : sent_until (length taken) (reads_of r.done + f.gives) (trace start).made ≡ sent_of r.done ++ sent_until (length f.end.taken) f.gives (trace now).made =
    ap (λ (t : Trace State). sent_until (length taken) (reads_of r.done + f.gives) t.made) so_far
    ∙ ap (λ n. sent_until n (reads_of r.done + f.gives) (r.done ++ (trace now).made)) size
    ∙ sent-after r.done (trace now).made (length f.end.taken) f.gives in
    let none = ap (λ (l : List Note). behind (text_of r.done) (reads_of r.done) (ends (status_of finish) f.end.taken f.made (record { live = new.live; notes = l }))) used in
    record {
      gives = reads_of r.done + f.gives;
      made = reads_of r.done + f.made;
      lets_through = all-let finish f.gives f.made (reads_left now.open_ now.input) (reads_of r.done) (reads_left start.open_ start.input) f.lets_through r.reads.count;
      rest = (reads-behind (reads_of r.done) f.made start.open_ now.open_ new.open_ start.input now.input new.input r.reads f.reads).rest;
      end = record {
        taken = taken;
        written = f.end.written ∙ ap (λ t. t ++ f.end.taken) r.written ∙ append_assoc before.console (text_of r.done) f.end.taken;
        outcome = ap (cut_trace (length taken) (reads_of r.done + f.gives)) so_far
            ∙ ap (λ n. cut n (reads_of r.done + f.gives) (r.done ++ (trace now).made) (trace now).ended) size
            ∙ cut-after r.done (trace now).made (trace now).ended (length f.end.taken) f.gives
            ∙ ap (behind (text_of r.done) (reads_of r.done)) f.end.outcome
            ∙ none;
        heard = f.end.heard ∙ ap (λ h. heard_with h (sent_until (length f.end.taken) f.gives (trace now).made)) r.heard
            ∙ heard-behind before.heard (sent_of r.done) (sent_until (length f.end.taken) f.gives (trace now).made)
            ∙ ap (heard_with before.heard) (sym sent);
      };
      named = λ console input. f.named console input ∙ ap (λ c. finish_of c.end) (sym r.so_far);
    }

-- memory ran out
session-short : (start now new : Session) (before mid after : Output) → Reached start now before mid → RunsOut now new mid after → RunsShort start new.live new.input before after
session-short start now new before mid after r s = record {
  count = r.count;
  done = r.done;
  reached = now;
  comes = r.comes;
  mid = mid;
  written = r.written;
  heard = r.heard;
  made = s.made;
  few = s.few;
  rest = (reads-behind (reads_of r.done) s.made start.open_ now.open_ new.open_ start.input now.input new.input r.reads s.reads).rest;
  short = s.short;
}

performed-by : (start now new : Session) (finish : Finish) (before mid after : Output) → new.notes ≡ [] → Reached start now before mid → Progresses now (IsOver finish) new mid after
    → IsPerformed start finish new.live new.input before after
performed-by start now new (Exit status) before mid after used r p = session-over start now new (Exit status) before mid after used r p
performed-by start now new EndOfInput before mid after used r p = session-over start now new EndOfInput before mid after used r p
performed-by start now new FlushFailed before mid after used r p = session-over start now new FlushFailed before mid after used r p
performed-by start now new Commands before mid after used r p = session-over start now new Commands before mid after used r p
performed-by start now new Console before mid after used r p = session-over start now new Console before mid after used r p
performed-by start now new Input before mid after used r p = session-over start now new Input before mid after used r p
performed-by start now new OutOfMemory before mid after used r p = session-short start now new before mid after r p

-- With any notes that may follow here behind those that were kept, the session came from its start to here, where those are
-- left.
pub record ComesSoFar (start now : List Note → Session) (before after : Output) (notes notes' : List Note) : Type 0 where
  pub own : List Note
  pub kept : notes' ≡ notes ++ own
  pub first : (more : List Note) → MayFollow (now []).spent (now []).live more → MayFollow (start []).spent (start []).live (own ++ more)
  pub comes : (more : List Note) → MayFollow (now []).spent (now []).live more → Reached (start (own ++ more)) (now more) before after

pub begun : (start : List Note → Session) (before : Output) (notes : List Note) → ComesSoFar start start before before notes notes
begun start before notes = record {
  own = [];
  kept = sym (append-nil notes);
  first = λ more follow. follow;
  comes = λ more follow. reached-none (start more) before;
}

-- what may come behind where the actions of the last stop were let go of
late-rested : (live : Live) (watch : WatchState) (notes : List CommandNote) → ComeBehind (record live { watch = watch }) notes → ComeBehind live notes
late-rested live watch [] late = late
late-rested live watch (n ∷ notes) (late, more) = (
  record { unit = late.unit; subject_is = late.subject_is; among = late.among; call = late.call; there = late.there },
  late-rested live watch notes more,
)

follow-rested : (number : ℕ) (live : Live) (watch : WatchState) (notes : List Note) → MayFollow number (record live { watch = watch }) notes → MayFollow number live notes
follow-rested number live watch notes f = record { behind = f.behind; later = f.later; are = f.are; closings = late-rested live watch f.behind f.closings; follows = f.follows }

pub further : (start now next : List Note → Session) (before mid after : Output) (notes notes' notes'' : List Note) → ((more more' : List Note) → disk_alone (now more).live (next more').live ≡ true)
    → ComesSoFar start now before mid notes notes' → Stepped now GoesOn next mid after notes' notes'' → ComesSoFar start (λ n. rested (next n)) before after notes notes''
further start now next before mid after notes notes' notes'' alone s st =
    let follows : (more : List Note) → MayFollow (next []).spent (rested (next [])).live more → MayFollow (next []).spent (next []).live more =
    λ more follow. follow-rested (next []).spent (next []).live (rested (next [])).live.watch more follow in
    record {
      own = s.own ++ st.own;
      kept = st.kept ∙ ap (λ l. l ++ st.own) s.kept ∙ append_assoc notes s.own st.own;
      first = λ more follow. subst (λ l. MayFollow (start []).spent (start []).live l) (sym (append_assoc s.own st.own more))
          (s.first (st.own ++ more) (st.first more (follows more follow)));
      comes = λ more follow. subst (λ l. Reached (start l) (rested (next more)) before after) (sym (append_assoc s.own st.own more))
          (reached-more (start (s.own ++ (st.own ++ more))) (now (st.own ++ more)) (next more) before mid after (alone (st.own ++ more) more)
          (s.comes (st.own ++ more) (st.first more (follows more follow))) (st.goes more (follows more follow)));
    }

pub over : (start now : List Note → Session) (new : Session) (finish : Finish) (before mid after : Output) (notes notes' notes'' : List Note) → ComesSoFar start now before mid notes notes'
    → Stepped now (IsOver finish) (with_notes new) mid after notes' notes'' → Performed start finish new.live new.input before after notes notes''
over start now new finish before mid after notes notes' notes'' s st =
    let own = s.own ++ (st.own ++ []) in
    let follow = st.first [] refl in
    record {
      own = own;
      kept = st.kept ∙ ap (λ l. l ++ st.own) s.kept ∙ append_assoc notes s.own st.own ∙ ap (λ l. notes ++ (s.own ++ l)) (sym (append-nil st.own));
      first = s.first (st.own ++ []) follow;
      is = performed-by (start own) (now (st.own ++ [])) (with_notes new []) finish before mid after refl (s.comes (st.own ++ []) follow) (st.goes [] refl);
    }

-- memory ran out before the first text
pub never-begun : (start : List Note → Session) (before : Output) (notes : List Note) → (start []).notes ≡ []
    → Performed start OutOfMemory (start []).live (start []).input before before notes notes
never-begun start before notes none = record {
  own = [];
  kept = sym (append-nil notes);
  first = record { behind = []; later = []; are = refl; closings = tt; follows = tt };
  is = record {
    count = 0;
    done = [];
    reached = start [];
    comes = (refl, refl);
    mid = before;
    written = sym (append-nil before.console);
    heard = sym (heard-nothing before.heard);
    made = 0;
    few = omega arith;
    rest = refl;
    short = record {
      live_is = inl (remains (flushes_next (start [])) (start []).live (start []).live refl);
      notes = none-short (upcoming (start [])) (start []).notes none;
      written = inl refl;
      heard = refl;
    };
  };
}

pub causes-behind : (finish : Finish) (sink sink_mid sink_now source source_mid source_now : ℕ) → sink_mid ≡ sink → source_mid ≡ source → FinishCause finish sink_mid sink_now source_mid source_now
    → FinishCause finish sink sink_now source source_now
causes-behind finish sink sink_mid sink_now source source_mid source_now a b c = record {
  console = λ e. c.console e ∙ ap raised a;
  input = λ e. c.input e ∙ ap raised b;
  console_only = λ n. c.console_only n ∙ a;
  input_only = λ n. c.input_only n ∙ b;
  exit = c.exit;
}

-- a unit has kept its file since an earlier time, from which no count has fallen
pub kept-since : (finish : Finish) (slots : List (Option Held)) (most given_most : ℕ) (notes notes' notes'' : List FaultNote) (old mid new : FileState) → AreKept most given_most notes notes' old mid
    → KeptCause finish slots notes'' mid new → KeptCause finish slots notes'' old new
kept-since FlushFailed slots most given_most notes notes' notes'' old mid new a k = unwritten-since slots notes'' old mid new (λ file. (a.counted.files file).0) k
kept-since (Exit status) slots most given_most notes notes' notes'' old mid new a k = tt
kept-since EndOfInput slots most given_most notes notes' notes'' old mid new a k = tt
kept-since Commands slots most given_most notes notes' notes'' old mid new a k = tt
kept-since Console slots most given_most notes notes' notes'' old mid new a k = tt
kept-since Input slots most given_most notes notes' notes'' old mid new a k = tt
kept-since OutOfMemory slots most given_most notes notes' notes'' old mid new a k = tt
