-- What a session does depends on its core alone, where no call on a file fails; and it is cut behind each of its texts.
use Rattle.std.specs.Prelude.{Ok, Err}
use Rattle.std.proofs.Common.{◌≡◌, ℕ, zero, suc, ◌+◌, Bool, true, false, nat_le, List, [], ◌∷◌, ◌++◌, length, drop, refl, ap, sym, ◌∙◌, append_assoc, subst, if◌then◌else◌}
use Rattle.std.proofs.Math.Seq.{drop-nil}
use Rattle.observations.specs.Observations.{Observation, Trace, after_made, text_of, reads_of, sent_of}
use Rattle.observations.specs.Cut.{cut_trace, behind, sent_until}
use Rattle.observations.proofs.CutLemmas.{cut-after, sent-after}
use Rattle.command_session.specs.declared.next.Next.TheVariants.{Go, Ran, Do, Goto, Exit}
use Rattle.file_commands.specs.Notes.{Note}
use Rattle.command_session.specs.Live.{Live}
use Rattle.command_session.specs.Reply.{Answer}
use Rattle.command_session.specs.Asked.{Asked, asked}
use Rattle.command_session.specs.DiskFile.{disk_alone}
use Rattle.script_text.specs.Lines.{line_cost, first_line}
use Rattle.session_texts.specs.Lines.{Arrival, InputEnds, Unpaid, LineComes, arrival}
use Rattle.session_texts.specs.Scripts.{Script, still_open, cost_of_line, text_of_line}
use Rattle.session_texts.specs.Actions.{texts_behind}
use Rattle.scp_script.specs.Session.{State, Session, spent_more, SessionEnd, ExitDone, AllDone, InputEnded, FlushFailed, BudgetSpent, NothingSaid, closed, end_state, Following, Going, Over, rested, going_on, following, Upcoming, Ends, Comes, asking, behind_line, behind_script_line, behind_action, upcoming_of, upcoming_in, upcoming_at, upcoming, step_upcoming, text_reply, text_step, step, Course, after_step, over_by, texts, course, trace, ComesTo}
use Rattle.script_laws.specs.Core.{Core, core_of, session_at, SameCore, NoneFails, SameNext, SameStep, SameCoreSameFuture, after_all, CutBehindTexts}
use Rattle.scp_script.proofs.SessionLemmas.{line-by-line}

-- ---- the session of a core

-- a session in which no call fails is that of its core
is-of-core : (s : Session) → NoneFails s → s ≡ session_at (core_of s) s.spent
is-of-core s none = ap (λ (notes : List Note). record s { notes = notes }) none

-- both are of one core
record OfCore (s t : Session) : Type 0 where
  core : Core
  one : ℕ
  other : ℕ
  first : s ≡ session_at core one
  second : t ≡ session_at core other

-- ---- what comes next

abbrev SameUpcoming : Upcoming → Upcoming → Type 0
SameUpcoming (Ends end) (Ends other) = end ≡ other
SameUpcoming (Comes text s) (Comes line t) = (text ≡ line) × OfCore s t
SameUpcoming _ _ = ⊥

same-arrival : (c : Core) (n m : ℕ) (a : Arrival) → SameUpcoming (upcoming_of (session_at c n) a) (upcoming_of (session_at c m) a)
unfolding behind_line
same-arrival c n m InputEnds = refl
same-arrival c n m Unpaid = refl
same-arrival c n m (LineComes line) =
    let cost = line_cost (length (first_line c.input)) in
    (refl, record { core = core_of (behind_line (session_at c n)); one = spent_more n cost; other = spent_more m cost; first = refl; second = refl })

same-choice : (b : Bool) (u v end other : Upcoming) → SameUpcoming u v → SameUpcoming end other → SameUpcoming (if b then u else end) (if b then v else other)
same-choice true u v end other h k = h
same-choice false u v end other h k = k

same-in : (c : Core) (n m : ℕ) (scripts : List Script) → SameUpcoming (upcoming_in (session_at c n) scripts) (upcoming_in (session_at c m) scripts)
unfolding behind_script_line
same-in c n m [] =
    let a = arrival c.budget c.open_ c.input in
    same-choice c.reads (upcoming_of (session_at c n) a) (upcoming_of (session_at c m) a) (Ends AllDone) (Ends AllDone) (same-arrival c n m a) refl
same-in c n m (script ∷ outer) =
    same-choice (nat_le (cost_of_line script) c.budget)
    (Comes (text_of_line script) (behind_script_line (session_at c n) script outer)) (Comes (text_of_line script) (behind_script_line (session_at c m) script outer))
    (Ends BudgetSpent) (Ends BudgetSpent)
    (refl, record { core = core_of (behind_script_line (session_at c n) script outer); one = spent_more n (cost_of_line script); other = spent_more m (cost_of_line script); first = refl; second = refl })
    refl

same-at : (c : Core) (n m : ℕ) (actions : List (List ℕ)) → SameUpcoming (upcoming_at (session_at c n) actions) (upcoming_at (session_at c m) actions)
unfolding behind_action
same-at c n m [] = same-in c n m (still_open c.texts.scripts)
same-at c n m (action ∷ others) =
    same-choice (nat_le 1 c.budget) (Comes action (behind_action (session_at c n) others)) (Comes action (behind_action (session_at c m) others)) (Ends BudgetSpent) (Ends BudgetSpent)
    (refl, record { core = core_of (behind_action (session_at c n) others); one = spent_more n 1; other = spent_more m 1; first = refl; second = refl })
    refl

same-upcoming : (c : Core) (n m : ℕ) → SameUpcoming (upcoming (session_at c n)) (upcoming (session_at c m))
unfolding upcoming
same-upcoming c n m = same-at c n m c.texts.actions

same-asking : (c : Core) (n m : ℕ) → asking (session_at c n) ≡ asking (session_at c m)
unfolding asking
same-asking c n m = refl

same-end : (c : Core) (n m : ℕ) (end : SessionEnd) → end_state end (session_at c n) ≡ end_state end (session_at c m)
unfolding closed
same-end c n m (ExitDone status) = refl
same-end c n m AllDone = refl
same-end c n m InputEnded = refl
same-end c n m FlushFailed = refl
same-end c n m BudgetSpent = refl
same-end c n m NothingSaid = refl

-- ---- one text

-- what a text leaves of the session behind it
abbrev left_at : Core → ℕ → Asked → Session
left_at d k what =
    let behind = session_at d k in
    let reply = text_reply d.limit d.texts [] d.live what in
    record behind { live = reply.after.live; notes = drop reply.after.used []; texts = texts_behind d.texts what reply.answer reply.after.live.watch }

none-left : (d : Core) (k : ℕ) (what : Asked) → NoneFails (left_at d k what)
none-left d k what = drop-nil (text_reply d.limit d.texts [] d.live what).after.used

same-going_on : (d : Core) (k l : ℕ) (what : Asked) (alone : Bool) → SameNext (going_on alone (rested (left_at d k what))) (going_on alone (rested (left_at d l what)))
same-going_on d k l what true = (refl, none-left d k what, none-left d l what)
same-going_on d k l what false = (refl, λ i. record { live = (rested (left_at d k what)).live; notes = (none-left d k what ∙ sym (none-left d l what)) i })

same-following : (d : Core) (k l : ℕ) (what : Asked) (answer : Answer) (alone : Bool) → SameNext (following answer alone (left_at d k what)) (following answer alone (left_at d l what))
same-following d k l what (Ok (Exit status)) alone = (refl, refl)
same-following d k l what (Ok Go) alone = same-going_on d k l what alone
same-following d k l what (Ok (Ran stop)) alone = same-going_on d k l what alone
same-following d k l what (Ok (Do file)) alone = same-going_on d k l what alone
same-following d k l what (Ok Goto) alone = same-going_on d k l what alone
same-following d k l what (Err fault) alone = same-going_on d k l what alone

same-text : (made : List (Observation State)) (d : Core) (k l : ℕ) (what : Asked) → SameStep (text_step made (session_at d k) what) (text_step made (session_at d l) what)
unfolding text_step
same-text made d k l what =
    let reply = text_reply d.limit d.texts [] d.live what in
    record { made = refl; next = same-following d k l what reply.answer (disk_alone d.live reply.after.live) }

same-step-of : (c : Core) (n m : ℕ) (u v : Upcoming) → SameUpcoming u v → SameStep (step_upcoming (session_at c n) u) (step_upcoming (session_at c m) v)
same-step-of c n m (Ends end) (Ends other) h = record { made = same-asking c n m; next = (h, same-end c n m end ∙ ap (λ e. end_state e (session_at c m)) h) }
same-step-of c n m (Comes text s) (Comes line t) (h, of) =
    let one : SameStep (text_step (asking (session_at c n)) (session_at of.core of.one) (asked text)) (text_step (asking (session_at c n)) (session_at of.core of.other) (asked text)) =
    same-text (asking (session_at c n)) of.core of.one of.other (asked text) in
    let two : SameStep (text_step (asking (session_at c n)) s (asked text)) (text_step (asking (session_at c n)) (session_at of.core of.other) (asked text)) =
    subst (λ (x : Session). SameStep (text_step (asking (session_at c n)) x (asked text)) (text_step (asking (session_at c n)) (session_at of.core of.other) (asked text))) (sym of.first) one in
    let three : SameStep (text_step (asking (session_at c n)) s (asked text)) (text_step (asking (session_at c n)) t (asked text)) =
    subst (λ (x : Session). SameStep (text_step (asking (session_at c n)) s (asked text)) (text_step (asking (session_at c n)) x (asked text))) (sym of.second) two in
    let four : SameStep (text_step (asking (session_at c n)) s (asked text)) (text_step (asking (session_at c m)) t (asked text)) =
    subst (λ l. SameStep (text_step (asking (session_at c n)) s (asked text)) (text_step l t (asked text))) (same-asking c n m) three in
    subst (λ l. SameStep (text_step (asking (session_at c n)) s (asked text)) (text_step (asking (session_at c m)) t (asked l))) h four
same-step-of c n m (Ends end) (Comes line t) h = absurd h
same-step-of c n m (Comes text s) (Ends other) h = absurd h

same-step : (c : Core) (n m : ℕ) → SameStep (step (session_at c n)) (step (session_at c m))
unfolding step
same-step c n m = same-step-of c n m (upcoming (session_at c n)) (upcoming (session_at c m)) (same-upcoming c n m)

text-same : (s t : Session) → SameCore s t → NoneFails s → NoneFails t → SameStep (step s) (step t)
text-same s t same none free =
    let one : s ≡ session_at (core_of s) s.spent = is-of-core s none in
    let two : t ≡ session_at (core_of s) t.spent = is-of-core t free ∙ ap (λ (c : Core). session_at c t.spent) (sym same) in
    subst (λ (x : Session). SameStep (step x) (step t)) (sym one)
    (subst (λ (x : Session). SameStep (step (session_at (core_of s) s.spent)) (step x)) (sym two) (same-step (core_of s) s.spent t.spent))

-- ---- all texts

after-same : (f : Session → Course) (made : List (Observation State)) (a b : Following) → SameNext a b → ((s t : Session) → SameCore s t → NoneFails s → NoneFails t → f s ≡ f t)
    → after_step made a f ≡ after_step made b f
after-same f made (Going s) (Going t) (core, none, free) same = ap (after_all made) (same s t core none free)
after-same f made (Over end x) (Over other y) (e, h) same = ap (λ (z : SessionEnd). over_by made z x) e ∙ ap (over_by made other) h
after-same f made (Going s) (Over other y) h same = absurd h
after-same f made (Over end x) (Going t) h same = absurd h

texts-same : (count : ℕ) (s t : Session) → SameCore s t → NoneFails s → NoneFails t → texts count s ≡ texts count t
unfolding texts
texts-same zero s t same none free =
    ap (λ (x : State). over_by [] BudgetSpent x)
    (ap (λ (l : Live). record { live = l; notes = s.notes }) (ap (λ (c : Core). c.live) same) ∙ ap (λ (n : List Note). record { live = t.live; notes = n }) (none ∙ sym free))
texts-same (suc count) s t same none free =
    let one = text-same s t same none free in
    ap (λ made. after_step made (step s).next (λ x. texts count x)) one.made
    ∙ after-same (λ x. texts count x) (step t).made (step s).next (step t).next one.next (texts-same count)

course-same : (s t : Session) → SameCore s t → NoneFails s → NoneFails t → course s ≡ course t
unfolding course
course-same s t same none free =
    texts-same (suc s.budget) s t same none free ∙ ap (λ n. texts (suc n) t) (ap (λ (c : Core). c.budget) same)

pub same-core-same-future : SameCoreSameFuture
same-core-same-future = record { text = text-same; all = course-same }

-- ---- a cut

pub course-behind : (count : ℕ) (s t : Session) (made : List (Observation State)) → ComesTo count s made t → course s ≡ after_all made (course t)
course-behind zero s t made (none, same) = ap course same ∙ ap (λ l. after_all l (course t)) (sym none)
course-behind (suc count) s t made (mid, more, goes, parts, rest) =
    line-by-line s ∙ ap (λ next. after_step (step s).made next course) goes ∙ ap (after_all (step s).made) (course-behind count mid t more rest)
    ∙ ap (λ (l : List (Observation State)). record { trace = record { made = l; ended = (course t).trace.ended }; end = (course t).end }) (sym (append_assoc (step s).made more (course t).trace.made))
    ∙ ap (λ l. after_all l (course t)) (sym parts)

trace-behind : (count : ℕ) (s t : Session) (made : List (Observation State)) → ComesTo count s made t → trace s ≡ after_made made (trace t)
unfolding trace
trace-behind count s t made comes = ap (λ c. c.trace) (course-behind count s t made comes)

outcome-behind : (count : ℕ) (s t : Session) (made : List (Observation State)) (takes gives : ℕ) → ComesTo count s made t
    → cut_trace (length (text_of made) + takes) (reads_of made + gives) (trace s) ≡ behind (text_of made) (reads_of made) (cut_trace takes gives (trace t))
outcome-behind count s t made takes gives comes =
    ap (cut_trace (length (text_of made) + takes) (reads_of made + gives)) (trace-behind count s t made comes)
    ∙ cut-after made (trace t).made (trace t).ended takes gives

sent-behind : (count : ℕ) (s t : Session) (made : List (Observation State)) (takes gives : ℕ) → ComesTo count s made t
    → sent_until (length (text_of made) + takes) (reads_of made + gives) (trace s).made ≡ sent_of made ++ sent_until takes gives (trace t).made
sent-behind count s t made takes gives comes =
    ap (λ (x : Trace State). sent_until (length (text_of made) + takes) (reads_of made + gives) x.made) (trace-behind count s t made comes)
    ∙ sent-after made (trace t).made takes gives

pub cut-behind-texts : CutBehindTexts
cut-behind-texts = record { course = course-behind; outcome = outcome-behind; sent = sent-behind }
