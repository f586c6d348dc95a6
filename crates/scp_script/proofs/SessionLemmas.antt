-- The trace of a session, one text further.
use Rattle.std.proofs.Common.{◌≡◌, ℕ, zero, suc, ◌-◌, ◌<◌, ◌≤◌, Bool, true, false, not, ◌||◌, nat_le, nat_lt, nat_eq, List, [], ◌∷◌, ◌++◌, length, drop, refl, ap, sym, ◌∙◌, arith, if◌then◌else◌, append_assoc, append-nil, Ok, Err}
use Rattle.std.proofs.lemmas.Bool.{leb-true, le-leb, lt-leb, lt-ltb, cond_both}
use Rattle.observations.specs.Observations.{Observation, Prints, Ended, after_made, sent_of}
use Rattle.command_session.specs.declared.next.Next.TheVariants.{Go, Ran, Do, Goto, Exit}
use Rattle.file_commands.specs.Notes.{handed}
use Rattle.command_session.specs.Reply.{Answer}
use Rattle.command_session.specs.Asked.{Asked, asked}
use Rattle.command_session.specs.DiskFile.{disk_alone}
use Rattle.script_text.specs.Lines.{line_cost, first_line, command_line}
use Rattle.session_texts.specs.Lines.{Arrival, InputEnds, Unpaid, LineComes, arrival}
use Rattle.session_texts.specs.Scripts.{Script, still_open, cost_of_line, text_of_line, echo_text}
use Rattle.session_texts.specs.Actions.{Texts, texts_of, texts_behind}
use Rattle.session_texts.proofs.StackLemmas.{still-none}
use Rattle.scp_script.specs.Session.{State, Session, SessionEnd, ExitDone, AllDone, InputEnded, FlushFailed, BudgetSpent, NothingSaid, end_status, state_of, closed, end_state, Following, Going, rested, going_on, Over, Upcoming, Ends, Comes, asking_input, asking_in, asking_at, asking, behind_line, behind_script_line, behind_action, upcoming_of, upcoming_in, upcoming_at, upcoming, text_reply, following, text_step, Step, step_upcoming, step, Course, over_by, after_step, texts, course, trace}

pub going-equal : {s t : Session} → Going s ≡ Going t → s ≡ t
going-equal h = cc

-- a line that comes was paid
pub arrival-paid : (budget : ℕ) (open_ : Bool) (input line : List ℕ) → arrival budget open_ input ≡ LineComes line → line_cost (length (first_line input)) ≤ budget
arrival-paid budget open_ input line =
    cond_both (not open_ || nat_eq (length input) 0) InputEnds (if nat_le (line_cost (length (first_line input))) budget then LineComes (command_line input) else Unpaid)
    (λ d. d ≡ LineComes line → line_cost (length (first_line input)) ≤ budget)
    (λ _ h. absurd (cc))
    (λ _. cond_both (nat_le (line_cost (length (first_line input))) budget) (LineComes (command_line input)) Unpaid
    (λ d. d ≡ LineComes line → line_cost (length (first_line input)) ≤ budget)
    (λ fits _. leb-true (line_cost (length (first_line input))) budget fits)
    (λ _ h. absurd (cc)))

behind-budget : (s : Session) → (behind_line s).budget ≡ s.budget - line_cost (length (first_line s.input))
unfolding behind_line
behind-budget s = refl

behind-script-budget : (s : Session) (script : Script) (outer : List Script) → (behind_script_line s script outer).budget ≡ s.budget - cost_of_line script
unfolding behind_script_line
behind-script-budget s script outer = refl

behind-action-budget : (s : Session) (others : List (List ℕ)) → (behind_action s others).budget ≡ s.budget - 1
unfolding behind_action
behind-action-budget s others = refl

-- it goes on only where the disk alone has changed the disk's file
going-on-is : (alone : Bool) (s t : Session) → going_on alone s ≡ Going t → s ≡ t
going-on-is true s t h = going-equal h
going-on-is false s t h = absurd (cc)

pub following-is : (answer : Answer) (alone : Bool) (s t : Session) → following answer alone s ≡ Going t → rested s ≡ t
following-is (Ok (Exit status)) alone s t h = absurd (cc)
following-is (Ok Go) alone s t h = going-on-is alone (rested s) t h
following-is (Ok (Ran stop)) alone s t h = going-on-is alone (rested s) t h
following-is (Ok (Do file)) alone s t h = going-on-is alone (rested s) t h
following-is (Ok Goto) alone s t h = going-on-is alone (rested s) t h
following-is (Err fault) alone s t h = going-on-is alone (rested s) t h

-- a text keeps the budget of the session behind it
text-budget : (made : List (Observation State)) (behind t : Session) (what : Asked) → (text_step made behind what).next ≡ Going t → t.budget ≡ behind.budget
unfolding text_step
text-budget made behind t what h =
    let reply = text_reply behind.limit behind.texts (handed behind.spent behind.notes) behind.live what in
    ap (λ (x : Session). x.budget)
    (sym (following-is reply.answer (disk_alone behind.live reply.after.live) (record behind { live = reply.after.live; notes = drop reply.after.used behind.notes; texts = texts_behind behind.texts what reply.answer reply.after.live.watch }) t h))

arrival-pays : (s t : Session) (a : Arrival) → arrival s.budget s.open_ s.input ≡ a → (step_upcoming s (upcoming_of s a)).next ≡ Going t → t.budget < s.budget
arrival-pays s t InputEnds e h = absurd (cc)
arrival-pays s t Unpaid e h = absurd (cc)
arrival-pays s t (LineComes line) e h =
    let paid = arrival-paid s.budget s.open_ s.input line e in
    let same = text-budget _ (behind_line s) t (asked line) h in
    omega (arith, paid, same, behind-budget s)

upcoming-pays : (s t : Session) (scripts : List Script) → (step_upcoming s (upcoming_in s scripts)).next ≡ Going t → t.budget < s.budget
upcoming-pays s t [] =
    cond_both s.reads (upcoming_of s (arrival s.budget s.open_ s.input)) (Ends AllDone)
    (λ u. (step_upcoming s u).next ≡ Going t → t.budget < s.budget)
    (λ _. arrival-pays s t (arrival s.budget s.open_ s.input) refl)
    (λ _ h. absurd (cc))
upcoming-pays s t (script ∷ outer) =
    cond_both (nat_le (cost_of_line script) s.budget) (Comes (text_of_line script) (behind_script_line s script outer)) (Ends BudgetSpent)
    (λ u. (step_upcoming s u).next ≡ Going t → t.budget < s.budget)
    (λ fits h.
    let paid = leb-true (cost_of_line script) s.budget fits in
    let same = text-budget (asking s) (behind_script_line s script outer) t (asked (text_of_line script)) h in
    omega (arith, paid, same, behind-script-budget s script outer))
    (λ _ h. absurd (cc))

-- an action was paid too
action-pays : (s t : Session) (actions : List (List ℕ)) → (step_upcoming s (upcoming_at s actions)).next ≡ Going t → t.budget < s.budget
action-pays s t [] = upcoming-pays s t (still_open s.texts.scripts)
action-pays s t (action ∷ others) =
    cond_both (nat_le 1 s.budget) (Comes action (behind_action s others)) (Ends BudgetSpent)
    (λ u. (step_upcoming s u).next ≡ Going t → t.budget < s.budget)
    (λ fits h.
    let paid = leb-true 1 s.budget fits in
    let same = text-budget (asking s) (behind_action s others) t (asked action) h in
    omega (arith, paid, same, behind-action-budget s others))
    (λ _ h. absurd (cc))

-- a text after which the session goes on costs a unit
pub going-pays : (s t : Session) → (step s).next ≡ Going t → t.budget < s.budget
unfolding step upcoming
going-pays s t h = action-pays s t s.texts.actions h

after-step-same : (made : List (Observation State)) (next : Following) (f g : Session → Course) → ((t : Session) → next ≡ Going t → f t ≡ g t) → after_step made next f ≡ after_step made next g
after-step-same made (Going t) f g same = ap (λ c. record { trace = after_made made c.trace; end = c.end }) (same t refl)
after-step-same made (Over end state) f g same = refl

-- more fuel than budget changes nothing
texts-same : (n m : ℕ) (s : Session) → s.budget < n → s.budget < m → texts n s ≡ texts m s
unfolding texts
texts-same zero m s a b = absurd (omega (arith, a))
texts-same (suc n) zero s a b = absurd (omega (arith, b))
texts-same (suc n) (suc m) s a b =
    after-step-same (step s).made (step s).next (λ t. texts n t) (λ t. texts m t)
    (λ t e. texts-same n m t (omega (arith, going-pays s t e, a)) (omega (arith, going-pays s t e, b)))

-- the session goes on
pub course-going : (s t : Session) → (step s).next ≡ Going t → course s ≡ after_step (step s).made (Going t) course
unfolding texts course
course-going s t e =
    ap (λ next. after_step (step s).made next (λ t. texts s.budget t)) e
    ∙ ap (λ c. after_step (step s).made (Going t) (λ _. c)) (texts-same s.budget (suc t.budget) t (going-pays s t e) (omega arith))

pub course-over : (s : Session) (end : SessionEnd) (state : State) → (step s).next ≡ Over end state → course s ≡ over_by (step s).made end state
unfolding texts course
course-over s end state e = ap (λ next. after_step (step s).made next (λ t. texts s.budget t)) e

by-next : (s : Session) (next : Following) → (step s).next ≡ next → course s ≡ after_step (step s).made next course
by-next s (Going t) e = course-going s t e
by-next s (Over end state) e = course-over s end state e

-- a session goes line by line
pub line-by-line : (s : Session) → course s ≡ after_step (step s).made (step s).next course
line-by-line s = by-next s (step s).next refl

-- a trace begins with these observations
pub record Begins (s : Session) (made : List (Observation State)) : Type 0 where
  pub more : List (Observation State)
  pub ended : Ended State
  pub is : trace s ≡ record { made = made ++ more; ended = ended }

-- what is known of a course is known of the trace
pub trace-is : (s : Session) (c : Course) → course s ≡ c → trace s ≡ c.trace
unfolding trace
trace-is s c e = ap (λ c. c.trace) e

-- it begins with those of its first text
next-begins : (s : Session) (next : Following) → (step s).next ≡ next → Begins s (step s).made
next-begins s (Going t) e = let c = course t in record {
  more = c.trace.made;
  ended = c.trace.ended;
  is = trace-is s _ (course-going s t e);
}
next-begins s (Over end state) e = record {
  more = [];
  ended = record { status = end_status end; state = state };
  is = trace-is s _ (course-over s end state e)
      ∙ ap (λ made. record { made = made; ended = record { status = end_status end; state = state } }) (sym (append-nil (step s).made));
}

pub trace-begins : (s : Session) → Begins s (step s).made
trace-begins s = next-begins s (step s).next refl

-- every text begins with asking
upcoming-asks : (s : Session) (u : Upcoming) → (more : List (Observation State)) × ((step_upcoming s u).made ≡ asking s ++ more)
unfolding text_step
upcoming-asks s (Ends end) = ([], sym (append-nil (asking s)))
upcoming-asks s (Comes text behind) = (_, refl)

begins-shorter : (s : Session) (made front more : List (Observation State)) → Begins s made → made ≡ front ++ more → Begins s front
begins-shorter s made front more b e = record {
  more = more ++ b.more;
  ended = b.ended;
  is = b.is ∙ ap (λ l. record { made = l ++ b.more; ended = b.ended }) e ∙ ap (λ l. record { made = l; ended = b.ended }) (append_assoc front more b.more);
}

pub trace-asks : (s : Session) → Begins s (asking s)
unfolding step
trace-asks s = let asks = upcoming-asks s (upcoming s) in begins-shorter s (step s).made (asking s) asks.0 (trace-begins s) asks.1

-- asking sends nothing
sent-in : (s : Session) (scripts : List Script) → sent_of (asking_in s scripts) ≡ []
sent-in s [] = cond_both s.reads (asking_input s) [] (λ (l : List (Observation State)). sent_of l ≡ []) (λ _. refl) (λ _. refl)
sent-in s (script ∷ outer) =
    cond_both (nat_le (cost_of_line script) s.budget) (Prints (echo_text script) (state_of s) ∷ []) [] (λ (l : List (Observation State)). sent_of l ≡ []) (λ _. refl) (λ _. refl)

sent-at : (s : Session) (actions : List (List ℕ)) → sent_of (asking_at s actions) ≡ []
sent-at s [] = sent-in s (still_open s.texts.scripts)
sent-at s (action ∷ others) = refl

pub asking-sent : (s : Session) → sent_of (asking s) ≡ []
unfolding asking
asking-sent s = sent-at s s.texts.actions

-- ---- what comes next

pub step-comes : (s behind : Session) (text : List ℕ) (what : Asked) → upcoming s ≡ Comes text behind → asked text ≡ what → step s ≡ text_step (asking s) behind what
unfolding step
step-comes s behind text what e c = ap (step_upcoming s) e ∙ ap (text_step (asking s) behind) c

pub step-over : (s : Session) (end : SessionEnd) → upcoming s ≡ Ends end → step s ≡ record { made = asking s; next = Over end (end_state end s) }
unfolding step
step-over s end e = ap (step_upcoming s) e

-- a line, where no action waits
pub upcoming-lines : (s : Session) → s.texts.actions ≡ [] → upcoming s ≡ upcoming_in s (still_open s.texts.scripts)
unfolding upcoming
upcoming-lines s none = ap (upcoming_at s) none

pub asking-lines : (s : Session) → s.texts.actions ≡ [] → asking s ≡ asking_in s (still_open s.texts.scripts)
unfolding asking
asking-lines s none = ap (asking_at s) none

-- the same of the texts in which none does
no-action : (s : Session) (scripts : List Script) → s.texts ≡ texts_of [] scripts → s.texts.actions ≡ []
no-action s scripts is = ap (λ (t : Texts). t.actions) is

those-scripts : (s : Session) (scripts : List Script) → s.texts ≡ texts_of [] scripts → s.texts.scripts ≡ scripts
those-scripts s scripts is = ap (λ (t : Texts). t.scripts) is

upcoming-none : (s : Session) → s.texts ≡ texts_of [] [] → upcoming s ≡ upcoming_in s []
upcoming-none s none = upcoming-lines s (no-action s [] none) ∙ ap (upcoming_in s) (still-none s.texts.scripts (those-scripts s [] none))

asking-none : (s : Session) → s.texts ≡ texts_of [] [] → asking s ≡ asking_in s []
asking-none s none = asking-lines s (no-action s [] none) ∙ ap (asking_in s) (still-none s.texts.scripts (those-scripts s [] none))

-- a line of the input, where no script is open
pub upcoming-input : (s : Session) (a : Arrival) → s.texts ≡ texts_of [] [] → s.reads ≡ true → arrival s.budget s.open_ s.input ≡ a → upcoming s ≡ upcoming_of s a
upcoming-input s a none reads e =
    upcoming-none s none ∙ ap (λ (b : Bool). if b then upcoming_of s (arrival s.budget s.open_ s.input) else Ends AllDone) reads ∙ ap (upcoming_of s) e

pub asking-is : (s : Session) → s.texts ≡ texts_of [] [] → s.reads ≡ true → asking s ≡ asking_input s
asking-is s none reads = asking-none s none ∙ ap (λ (b : Bool). if b then asking_input s else []) reads

-- the end, where the input is not read
pub upcoming-done : (s : Session) → s.texts ≡ texts_of [] [] → s.reads ≡ false → upcoming s ≡ Ends AllDone
upcoming-done s none reads = upcoming-none s none ∙ ap (λ (b : Bool). if b then upcoming_of s (arrival s.budget s.open_ s.input) else Ends AllDone) reads

pub asking-done : (s : Session) → s.texts ≡ texts_of [] [] → s.reads ≡ false → asking s ≡ []
asking-done s none reads = asking-none s none ∙ ap (λ (b : Bool). if b then asking_input s else []) reads

-- an action
pub upcoming-action : (s : Session) (action : List ℕ) (others : List (List ℕ)) → s.texts.actions ≡ action ∷ others → 1 ≤ s.budget → upcoming s ≡ Comes action (behind_action s others)
unfolding upcoming
upcoming-action s action others is fits =
    let test = le-leb 1 s.budget fits in
    ap (upcoming_at s) is ∙ ap (λ (b : Bool). if b then Comes action (behind_action s others) else Ends BudgetSpent) test

pub action-unpaid : (s : Session) (action : List ℕ) (others : List (List ℕ)) → s.texts.actions ≡ action ∷ others → s.budget < 1 → upcoming s ≡ Ends BudgetSpent
unfolding upcoming
action-unpaid s action others is short =
    let test = lt-leb 1 s.budget short in
    ap (upcoming_at s) is ∙ ap (λ (b : Bool). if b then Comes action (behind_action s others) else Ends BudgetSpent) test

pub asking-action : (s : Session) (action : List ℕ) (others : List (List ℕ)) → s.texts.actions ≡ action ∷ others → asking s ≡ []
unfolding asking
asking-action s action others is = ap (asking_at s) is

-- a script that has another line is open
still-top : (script : Script) (outer : List Script) → script.place < length script.text → still_open (script ∷ outer) ≡ script ∷ outer
unfolding still_open
still-top script outer more = let test = lt-ltb script.place (length script.text) more in rw test refl

still-there : (s : Session) (script : Script) (outer : List Script) → s.texts ≡ texts_of [] (script ∷ outer) → script.place < length script.text → still_open s.texts.scripts ≡ script ∷ outer
still-there s script outer is more = ap still_open (those-scripts s (script ∷ outer) is) ∙ still-top script outer more

-- a line of a script
pub upcoming-script : (s : Session) (script : Script) (outer : List Script) → s.texts ≡ texts_of [] (script ∷ outer) → script.place < length script.text → cost_of_line script ≤ s.budget
    → upcoming s ≡ Comes (text_of_line script) (behind_script_line s script outer)
upcoming-script s script outer is more fits =
    let test = le-leb (cost_of_line script) s.budget fits in
    upcoming-lines s (no-action s (script ∷ outer) is) ∙ ap (upcoming_in s) (still-there s script outer is more)
    ∙ ap (λ (b : Bool). if b then Comes (text_of_line script) (behind_script_line s script outer) else Ends BudgetSpent) test

pub upcoming-unpaid : (s : Session) (script : Script) (outer : List Script) → s.texts ≡ texts_of [] (script ∷ outer) → script.place < length script.text → s.budget < cost_of_line script
    → upcoming s ≡ Ends BudgetSpent
upcoming-unpaid s script outer is more short =
    let test = lt-leb (cost_of_line script) s.budget short in
    upcoming-lines s (no-action s (script ∷ outer) is) ∙ ap (upcoming_in s) (still-there s script outer is more)
    ∙ ap (λ (b : Bool). if b then Comes (text_of_line script) (behind_script_line s script outer) else Ends BudgetSpent) test

pub asking-script : (s : Session) (script : Script) (outer : List Script) → s.texts ≡ texts_of [] (script ∷ outer) → script.place < length script.text → cost_of_line script ≤ s.budget
    → asking s ≡ Prints (echo_text script) (state_of s) ∷ []
asking-script s script outer is more fits =
    let test = le-leb (cost_of_line script) s.budget fits in
    asking-lines s (no-action s (script ∷ outer) is) ∙ ap (asking_in s) (still-there s script outer is more)
    ∙ ap (λ (b : Bool). if b then Prints (echo_text script) (state_of s) ∷ [] else []) test

pub asking-unpaid : (s : Session) (script : Script) (outer : List Script) → s.texts ≡ texts_of [] (script ∷ outer) → script.place < length script.text → s.budget < cost_of_line script
    → asking s ≡ []
asking-unpaid s script outer is more short =
    let test = lt-leb (cost_of_line script) s.budget short in
    asking-lines s (no-action s (script ∷ outer) is) ∙ ap (asking_in s) (still-there s script outer is more)
    ∙ ap (λ (b : Bool). if b then Prints (echo_text script) (state_of s) ∷ [] else []) test

-- ---- scripts that have ended may be closed before

pub still-still : (scripts : List Script) → still_open (still_open scripts) ≡ still_open scripts
unfolding still_open
still-still [] = refl
still-still (s ∷ outer) =
    cond_both (nat_lt s.place (length s.text)) (s ∷ outer) (still_open outer) (λ l. still_open l ≡ l)
    (λ more. rw more refl)
    (λ _. still-still outer)

-- a session in which they are, where no action waits
abbrev pub closing : Session → Session
closing s = record s { texts = texts_of s.texts.actions (still_open s.texts.scripts) }

asking-closing : (s : Session) (scripts : List Script) → asking_in (closing s) scripts ≡ asking_in s scripts
asking-closing s [] = refl
asking-closing s (script ∷ outer) = refl

pub asking-still : (s : Session) → s.texts.actions ≡ [] → asking (closing s) ≡ asking s
asking-still s none =
    asking-lines (closing s) none ∙ ap (asking_in (closing s)) (still-still s.texts.scripts) ∙ asking-closing s (still_open s.texts.scripts) ∙ sym (asking-lines s none)

arrival-closing : (s : Session) (a : Arrival) → upcoming_of (closing s) a ≡ upcoming_of s a
unfolding behind_line
arrival-closing s InputEnds = refl
arrival-closing s Unpaid = refl
arrival-closing s (LineComes line) = refl

upcoming-closing : (s : Session) (scripts : List Script) → upcoming_in (closing s) scripts ≡ upcoming_in s scripts
unfolding behind_script_line
upcoming-closing s [] = ap (λ (u : Upcoming). if s.reads then u else Ends AllDone) (arrival-closing s (arrival s.budget s.open_ s.input))
upcoming-closing s (script ∷ outer) = refl

pub upcoming-still : (s : Session) → s.texts.actions ≡ [] → upcoming (closing s) ≡ upcoming s
upcoming-still s none =
    upcoming-lines (closing s) none ∙ ap (upcoming_in (closing s)) (still-still s.texts.scripts) ∙ upcoming-closing s (still_open s.texts.scripts) ∙ sym (upcoming-lines s none)

end-closing : (end : SessionEnd) (s : Session) → end_state end (closing s) ≡ end_state end s
unfolding closed
end-closing (ExitDone status) s = refl
end-closing AllDone s = refl
end-closing InputEnded s = refl
end-closing FlushFailed s = refl
end-closing BudgetSpent s = refl
end-closing NothingSaid s = refl

step-closing : (s : Session) (u : Upcoming) → s.texts.actions ≡ [] → step_upcoming (closing s) u ≡ step_upcoming s u
step-closing s (Ends end) none =
    ap (λ l. record { made = l; next = Over end (end_state end (closing s)) }) (asking-still s none) ∙ ap (λ x. record { made = asking s; next = Over end x }) (end-closing end s)
step-closing s (Comes text behind) none = ap (λ l. text_step l behind (asked text)) (asking-still s none)

pub step-still : (s : Session) → s.texts.actions ≡ [] → step (closing s) ≡ step s
unfolding step
step-still s none = ap (step_upcoming (closing s)) (upcoming-still s none) ∙ step-closing s (upcoming s) none

pub course-still : (s : Session) → s.texts.actions ≡ [] → course (closing s) ≡ course s
course-still s none = line-by-line (closing s) ∙ ap (λ (x : Step). after_step x.made x.next course) (step-still s none) ∙ sym (line-by-line s)
