-- Every text of a session keeps what every session is, and what the disk holds of its file.
use Rattle.std.proofs.Common.{◌≡◌, inl, inr, ℕ, zero, suc, ◌+◌, ◌||◌, not, nat_le, nat_lt, nat_eq, Bool, true, false, List, [], ◌∷◌, ◌++◌, length, drop, Ok, Err, if◌then◌else◌, refl, sym, ap, subst, arith}
use Rattle.std.proofs.lemmas.Bool.{ltb-true}
use Rattle.observations.specs.Observations.{Observation, Prints, StandsAt, map_made}
use Rattle.observations.specs.Cut.{Outcome}
use Rattle.observations.proofs.CutLemmas.{cut-state}
use Rattle.observations.proofs.MadeLemmas.{stands-either, stands-mapped}
use Rattle.file_commands.specs.Notes.{CommandNote, handed}
use Rattle.expect_actions.specs.Watch.{forgotten}
use Rattle.nova_machine.specs.Comes.{Output}
use Rattle.nova_machine.specs.Valid.{AreBytes, DiskIsItsFile}
use Rattle.machine_laws.proofs.ValidBytes.{bytes-drop}
use Rattle.script_text.specs.Lines.{first_line, command_line, line_cost}
use Rattle.script_text.proofs.ByteLemmas.{line_bytes}
use Rattle.scp_parser.specs.Command as request
use Rattle.command_session.specs.declared.next.Next.TheVariants.{Go, Ran, Do, Goto, Exit}
use Rattle.command_session.specs.declared.fault.CommandFault.TheVariants.{TooDeep}
use Rattle.command_session.specs.Live.{Live, Standing}
use Rattle.command_session.specs.Remains.{flushes_of}
use Rattle.command_session.specs.Reply.{Answer, Reply}
use Rattle.command_session.specs.Asked.{Asked, asked}
use Rattle.command_session.specs.DiskFile.{disk_alone}
use Rattle.scp_commands.specs.Effect.{does}
use Rattle.command_laws.specs.Valid.{ValidLive, CopyFollows, CopyStays}
use Rattle.command_laws.proofs.ValidCopies.{copy-tested}
use Rattle.command_laws.proofs.ValidWatch.{watch-forgotten}
use Rattle.command_laws.proofs.ValidEffect.{StandsBy, watch-live, stands-refused, stands-emptied, stands-effect, remains-valid}
use Rattle.session_texts.specs.Lines.{Arrival, InputEnds, Unpaid, LineComes, arrival}
use Rattle.session_texts.specs.Scripts.{Script, most_scripts, still_open, cost_of_line, text_of_line, echo_text, checked, settled_answer}
use Rattle.session_texts.specs.Actions.{Texts, texts_of, texts_behind}
use Rattle.scp_script.specs.Session.{State, Session, state_of, state_at, asking_input, asking_in, asking_at, asking, behind_line, behind_script_line, behind_action, SessionEnd, ExitDone, AllDone, InputEnded, FlushFailed, BudgetSpent, NothingSaid}
use Rattle.scp_script.specs.Session.{Upcoming, Ends, Comes, upcoming_of, upcoming_in, upcoming_at, upcoming, complaint, text_reply, flushes_in, flushes_next, Following, Going, Over, rested, going_on, following, Step, text_step, closed, end_state, step_upcoming, step, Course, after_step, texts, course, trace, ComesTo}
use Rattle.scp_script.specs.declared.progress.Finish.{Finish}
use Rattle.scp_script.specs.declared.progress.Finish.TheVariants.{OutOfMemory}
use Rattle.scp_script.specs.Perform.{IsSession, IsPerformed}
use Rattle.script_laws.specs.Valid.{ValidTexts, ValidSession, SessionsStayValid}
use Rattle.script_laws.proofs.RoomLemmas.{RoomFor, room-effect}
use Rattle.script_laws.proofs.ListenedLemmas.{listened-at-valid}
use Rattle.script_laws.proofs.LawLemmas.{lines-are-consumed}
use Rattle.script_laws.proofs.ValidTexts.{IsValidAsked, asked-valid, checked-valid, ValidScripts, open-valid, line-bytes, past-valid, texts-valid, settled-gives, settled-room}

-- the parts of a session that a text changes beside its numbers
record Holds (s : Session) : Type 0 where
  live : ValidLive s.live
  texts : ValidTexts s.texts
  input : AreBytes s.input

-- ---- what comes next

-- a text of bytes, and a session behind it in the same state
abbrev IsGoodUpcoming : Session → Upcoming → Type 0
IsGoodUpcoming s (Ends end) = Unit {0}
IsGoodUpcoming s (Comes text behind) = AreBytes text × Holds behind × (behind.live ≡ s.live)

upcoming-if : (s : Session) (b : Bool) (x y : Upcoming) → IsGoodUpcoming s x → IsGoodUpcoming s y → IsGoodUpcoming s (if b then x else y)
upcoming-if s true x y first second = first
upcoming-if s false x y first second = second

-- the line that comes is the first one of the input
abbrev IsFirst : List ℕ → Arrival → Type 0
IsFirst input (LineComes line) = line ≡ command_line input
IsFirst input a = Unit {0}

first-if : (input : List ℕ) (b : Bool) (x y : Arrival) → IsFirst input x → IsFirst input y → IsFirst input (if b then x else y)
first-if input true x y first second = first
first-if input false x y first second = second

arrival-first : (budget : ℕ) (open_ : Bool) (input : List ℕ) → IsFirst input (arrival budget open_ input)
arrival-first budget open_ input =
    let fits = nat_le (line_cost (length (first_line input))) budget in
    first-if input (not open_ || nat_eq (length input) 0) InputEnds (if fits then LineComes (command_line input) else Unpaid) tt
    (first-if input fits (LineComes (command_line input)) Unpaid refl tt)

line-holds : (s : Session) → Holds s → Holds (behind_line s)
unfolding behind_line
line-holds s is = record {
  live = is.live;
  texts = record { few = omega arith; actions = tt; open_ = omega arith; scripts = tt };
  input = bytes-drop (length (first_line s.input) + 1) s.input is.input;
}

line-live : (s : Session) → (behind_line s).live ≡ s.live
unfolding behind_line
line-live s = refl

script-holds : (s : Session) (script : Script) (outer : List Script) → Holds s → ValidScripts (script ∷ outer) → Holds (behind_script_line s script outer)
unfolding behind_script_line
script-holds s script outer is valid = record {
  live = is.live;
  texts = record { few = omega arith; actions = tt; open_ = valid.few; scripts = (past-valid script valid.each.0, valid.each.1) };
  input = is.input;
}

script-live : (s : Session) (script : Script) (outer : List Script) → (behind_script_line s script outer).live ≡ s.live
unfolding behind_script_line
script-live s script outer = refl

action-holds : (s : Session) (action : List ℕ) (others : List (List ℕ)) → Holds s → ValidTexts (texts_of (action ∷ others) s.texts.scripts) → Holds (behind_action s others)
unfolding behind_action
action-holds s action others is valid =
    let few = valid.few in
    record {
      live = is.live;
      texts = record { few = omega (arith, few); actions = valid.actions.1; open_ = valid.open_; scripts = valid.scripts };
      input = is.input;
    }

action-live : (s : Session) (others : List (List ℕ)) → (behind_action s others).live ≡ s.live
unfolding behind_action
action-live s others = refl

good-arrival : (s : Session) (a : Arrival) → Holds s → IsFirst s.input a → IsGoodUpcoming s (upcoming_of s a)
good-arrival s InputEnds is first = tt
good-arrival s Unpaid is first = tt
good-arrival s (LineComes line) is first = (subst AreBytes (sym first) (line_bytes s.input is.input), line-holds s is, line-live s)

good-in : (s : Session) (scripts : List Script) → Holds s → ValidScripts scripts → IsGoodUpcoming s (upcoming_in s scripts)
good-in s [] is valid =
    upcoming-if s s.reads (upcoming_of s (arrival s.budget s.open_ s.input)) (Ends AllDone)
    (good-arrival s (arrival s.budget s.open_ s.input) is (arrival-first s.budget s.open_ s.input)) tt
good-in s (script ∷ outer) is valid =
    upcoming-if s (nat_le (cost_of_line script) s.budget) (Comes (text_of_line script) (behind_script_line s script outer)) (Ends BudgetSpent)
    (line-bytes script valid.each.0, script-holds s script outer is valid, script-live s script outer) tt

good-at : (s : Session) (actions : List (List ℕ)) → Holds s → ValidTexts (texts_of actions s.texts.scripts) → IsGoodUpcoming s (upcoming_at s actions)
good-at s [] is valid = good-in s (still_open s.texts.scripts) is (open-valid s.texts.scripts (record { few = valid.open_; each = valid.scripts }))
good-at s (action ∷ others) is valid =
    upcoming-if s (nat_le 1 s.budget) (Comes action (behind_action s others)) (Ends BudgetSpent)
    (valid.actions.0, action-holds s action others is valid, action-live s others) tt

good-upcoming : (s : Session) → Holds s → IsGoodUpcoming s (upcoming s)
unfolding upcoming
good-upcoming s is = good-at s s.texts.actions is (record { few = is.texts.few; actions = is.texts.actions; open_ = is.texts.open_; scripts = is.texts.scripts })

-- ---- what a text does

does-stands : (limit : ℕ) (notes : List CommandNote) (live : Live) (what : Asked) → ValidLive live → IsValidAsked what → StandsBy (flushes_of what) live (does limit notes live what)
unfolding does
does-stands limit notes live (Ok r) is valid = stands-effect limit notes live r is valid.0 valid.1
does-stands limit notes live (Err fault) is valid = stands-refused fault live is

-- a script that has no room is no command that flushes, and neither is one that has
checked-flushes : (scripts : List Script) (what : Asked) → flushes_of (checked scripts what) ≡ flushes_of what
checked-flushes scripts (Ok (request.Do echo strict name arguments)) = by-room (nat_lt (length scripts) most_scripts)
  where
    by-room : (b : Bool) → flushes_of (if b then Ok (request.Do echo strict name arguments) else Err TooDeep) ≡ false
    by-room true = refl
    by-room false = refl
checked-flushes scripts (Ok r) = refl
checked-flushes scripts (Err fault) = refl

-- a script begins only where there is room for it
does-room : (scripts : List Script) (limit : ℕ) (notes : List CommandNote) (live : Live) (what : Asked) → RoomFor scripts (does limit notes live (checked scripts what)).answer
unfolding does
does-room scripts limit notes live (Ok (request.Do echo strict name arguments)) = by-room (nat_lt (length scripts) most_scripts) refl
  where
    by-room : (b : Bool) → nat_lt (length scripts) most_scripts ≡ b
        → RoomFor scripts (does limit notes live (if b then Ok (request.Do echo strict name arguments) else Err TooDeep)).answer
    by-room true fits = room-effect scripts limit notes live (request.Do echo strict name arguments) (ltb-true (length scripts) most_scripts fits)
    by-room false fits = tt
does-room scripts limit notes live (Ok r) = room-effect scripts limit notes live r tt
does-room scripts limit notes live (Err fault) = tt

complaint-at : (waiting : List (List ℕ)) (answer : Answer) (from at : Standing) → StandsAt at (complaint waiting answer from) → at ≡ from
complaint-at waiting (Ok (Ran stop)) from at (inl h) = h
complaint-at waiting (Ok (Ran stop)) from at (inr h) = absurd h
complaint-at waiting (Err fault) from at (inl h) = h
complaint-at waiting (Err fault) from at (inr h) = absurd h
complaint-at waiting (Ok next) from at h = absurd h

-- what a text comes to
record Comes_to (t : Texts) (live : Live) (what : Asked) (reply : Reply) : Type 0 where
  after : ValidLive reply.after.live
  made : (at : Standing) → StandsAt at reply.made → ValidLive at.live
  texts : ValidTexts (texts_behind t what reply.answer reply.after.live.watch)
  copy : CopyFollows live reply.after.live
  stays : CopyStays (flushes_of (checked t.scripts what)) live reply.after.live

text-comes : (limit : ℕ) (t : Texts) (notes : List CommandNote) (live : Live) (what : Asked) → ValidLive live → ValidTexts t → IsValidAsked what → Comes_to t live what (text_reply limit t notes live what)
unfolding text_reply
text-comes limit t notes live what is valid good =
    let reply = does limit notes live (checked t.scripts what) in
    let stands = does-stands limit notes live (checked t.scripts what) is (checked-valid t.scripts what good) in
    let answer = settled_answer t.scripts what reply.answer in
    record {
      after = stands.valid.after;
      made = λ at h. elim (stands-either at reply.made (complaint t.actions answer reply.after) h) [
        | inl x ↦ stands.valid.made at x
        | inr x ↦ subst (λ (s : Standing). ValidLive s.live) (sym (complaint-at t.actions answer reply.after at x)) stands.valid.after
      ];
      texts = texts-valid t what answer reply.after.live.watch valid good (settled-gives t.scripts what reply.answer stands.valid.script)
          (settled-room t.scripts what reply.answer (does-room t.scripts limit notes live what)) stands.valid.after.valid.watch;
      copy = copy-tested live reply.after.live stands.holds;
      stays = stands.stays;
    }

-- ---- one text of a session

-- what comes behind it
record IsGoodNext (flushes : Bool) (live : Live) (next : Following) : Type 0 where
  going : (t : Session) → next ≡ Going t → Holds t
  over : (end : SessionEnd) (at : State) → next ≡ Over end at → ValidLive at.live
  copy : (t : Session) → next ≡ Going t → DiskIsItsFile live → DiskIsItsFile t.live
  closed : (end : SessionEnd) (at : State) → next ≡ Over end at → CopyFollows live at.live
  stays : (end : SessionEnd) (at : State) → next ≡ Over end at → CopyStays flushes live at.live

good-going : {flushes : Bool} (live : Live) (t : Session) → Holds t → (DiskIsItsFile live → DiskIsItsFile t.live) → IsGoodNext flushes live (Going t)
good-going live t holds copy = record {
  going = λ u h. let same : t ≡ u = cc h in subst Holds same holds;
  over = λ end at h. absurd (cc h);
  copy = λ u h. let same : t ≡ u = cc h in subst (λ (x : Session). DiskIsItsFile live → DiskIsItsFile x.live) same copy;
  closed = λ end at h. absurd (cc h);
  stays = λ end at h. absurd (cc h);
}

good-over : {flushes : Bool} (live : Live) (end : SessionEnd) (state : State) → ValidLive state.live → CopyFollows live state.live → CopyStays flushes live state.live
    → IsGoodNext flushes live (Over end state)
good-over {flushes} live end state is copy stays = record {
  going = λ u h. absurd (cc h);
  over = λ other at h. let same : state ≡ at = cc h in subst (λ (x : State). ValidLive x.live) same is;
  copy = λ u h. absurd (cc h);
  closed = λ other at h. let same : state ≡ at = cc h in subst (λ (x : State). CopyFollows live x.live) same copy;
  stays = λ other at h. let same : state ≡ at = cc h in subst (λ (x : State). CopyStays flushes live x.live) same stays;
}

rested-holds : (s : Session) → Holds s → Holds (rested s)
rested-holds s is = record { live = watch-live s.live (forgotten s.live.watch) is.live (watch-forgotten s.live.watch is.live.valid.watch); texts = is.texts; input = is.input }

-- its tables are no part of that
copy-rested : (live : Live) (s : Session) → CopyFollows live s.live → CopyFollows live (rested s).live
unfolding disk_alone
copy-rested live s copy = λ is alone. copy is alone

stays-rested : {flushes : Bool} (live : Live) (s : Session) → CopyStays flushes live s.live → CopyStays flushes live (rested s).live
stays-rested live s stays = λ is clean leaves. stays is clean leaves

good-going_on : {flushes : Bool} (live : Live) (s : Session) (alone : Bool) → disk_alone live s.live ≡ alone → Holds s → CopyFollows live s.live → CopyStays flushes live s.live
    → IsGoodNext flushes live (going_on alone (rested s))
good-going_on live s true alone is copy stays = good-going live (rested s) (rested-holds s is) (λ held. copy held alone)
good-going_on live s false alone is copy stays =
    good-over live NothingSaid (state_of (rested s)) (rested-holds s is).live (copy-rested live s copy) (stays-rested live s stays)

good-following : {flushes : Bool} (live : Live) (answer : Answer) (s : Session) → Holds s → CopyFollows live s.live → CopyStays flushes live s.live
    → IsGoodNext flushes live (following answer (disk_alone live s.live) s)
good-following live (Ok (Exit status)) s is copy stays = good-over live (ExitDone status) (state_of s) is.live copy stays
good-following live (Ok Go) s is copy stays = good-going_on live s (disk_alone live s.live) refl is copy stays
good-following live (Ok (Ran stop)) s is copy stays = good-going_on live s (disk_alone live s.live) refl is copy stays
good-following live (Ok (Do file)) s is copy stays = good-going_on live s (disk_alone live s.live) refl is copy stays
good-following live (Ok Goto) s is copy stays = good-going_on live s (disk_alone live s.live) refl is copy stays
good-following live (Err fault) s is copy stays = good-going_on live s (disk_alone live s.live) refl is copy stays

-- and all of it
record IsGoodStep (flushes : Bool) (live : Live) (x : Step) : Type 0 where
  made : (at : State) → StandsAt at x.made → ValidLive at.live
  next : IsGoodNext flushes live x.next

text-good : (first : List (Observation State)) (behind : Session) (what : Asked) → Holds behind → IsValidAsked what → ((at : State) → StandsAt at first → ValidLive at.live)
    → IsGoodStep (flushes_of (checked behind.texts.scripts what)) behind.live (text_step first behind what)
unfolding text_step
text-good first behind what is valid before =
    let reply = text_reply behind.limit behind.texts (handed behind.spent behind.notes) behind.live what in
    let comes = text-comes behind.limit behind.texts (handed behind.spent behind.notes) behind.live what is.live is.texts valid in
    record {
      made = λ at h. elim (stands-either at first (map_made (state_at behind.notes) reply.made) h) [
        | inl x ↦ before at x
        | inr x ↦
            let from = stands-mapped (state_at behind.notes) at reply.made x in
            subst (λ (s : State). ValidLive s.live) (sym from.2) (comes.made from.0 from.1)
      ];
      next = good-following behind.live reply.answer
          (record behind { live = reply.after.live; notes = drop reply.after.used behind.notes; texts = texts_behind behind.texts what reply.answer reply.after.live.watch })
          (record { live = comes.after; texts = comes.texts; input = is.input }) comes.copy comes.stays;
    }

-- ---- what comes before it

asking-in : (s : Session) (scripts : List Script) (at : State) → StandsAt at (asking_in s scripts) → at ≡ state_of s
asking-in s [] at h = by-reads s.reads h
  where
    by-reads : (b : Bool) → StandsAt at (if b then asking_input s else []) → at ≡ state_of s
    by-reads true (inl h) = h
    by-reads true (inr (inl h)) = h
    by-reads true (inr (inr h)) = absurd h
    by-reads false h = absurd h
asking-in s (script ∷ outer) at h = by-paid (nat_le (cost_of_line script) s.budget) h
  where
    by-paid : (b : Bool) → StandsAt at (if b then Prints (echo_text script) (state_of s) ∷ [] else []) → at ≡ state_of s
    by-paid true (inl h) = h
    by-paid true (inr h) = absurd h
    by-paid false h = absurd h

asking-at : (s : Session) (actions : List (List ℕ)) (at : State) → StandsAt at (asking_at s actions) → at ≡ state_of s
asking-at s [] at h = asking-in s (still_open s.texts.scripts) at h
asking-at s (action ∷ others) at h = absurd h

asking-valid : (s : Session) → ValidLive s.live → (at : State) → StandsAt at (asking s) → ValidLive at.live
unfolding asking
asking-valid s is at h = subst (λ (x : State). ValidLive x.live) (sym (asking-at s s.texts.actions at h)) is

-- ---- the end

closed-good : (s : Session) (end : SessionEnd) → Holds s → IsGoodNext false s.live (Over end (closed s))
unfolding closed
closed-good s end is =
    let stands = stands-emptied Go (handed s.spent s.notes) s.live tt is.live in
    good-over s.live end (closed s) stands.valid.after (copy-tested s.live (closed s).live stands.holds) stands.stays

copy-here : (live : Live) → CopyFollows live live
copy-here live = λ is alone. is

stays-here : (live : Live) → CopyStays false live live
stays-here live = λ is clean leaves. is

left-here : (s : Session) (end : SessionEnd) → Holds s → IsGoodNext false s.live (Over end (state_of s))
left-here s end is = good-over s.live end (state_of s) is.live (copy-here s.live) (stays-here s.live)

end-good : (s : Session) (end : SessionEnd) → Holds s → IsGoodNext false s.live (Over end (end_state end s))
end-good s InputEnded is = closed-good s InputEnded is
end-good s FlushFailed is = closed-good s FlushFailed is
end-good s (ExitDone status) is = left-here s (ExitDone status) is
end-good s AllDone is = left-here s AllDone is
end-good s BudgetSpent is = left-here s BudgetSpent is
end-good s NothingSaid is = left-here s NothingSaid is

upcoming-good : (s : Session) (u : Upcoming) → Holds s → IsGoodUpcoming s u → IsGoodStep (flushes_in u) s.live (step_upcoming s u)
upcoming-good s (Ends end) is good = record { made = asking-valid s is.live; next = end-good s end is }
upcoming-good s (Comes text behind) is good =
    subst (λ (live : Live). IsGoodStep (flushes_of (asked text)) live (text_step (asking s) behind (asked text))) good.2
    (subst (λ (b : Bool). IsGoodStep b behind.live (text_step (asking s) behind (asked text))) (checked-flushes behind.texts.scripts (asked text))
    (text-good (asking s) behind (asked text) good.1 (asked-valid text good.0) (asking-valid s is.live)))

step-good : (s : Session) → Holds s → IsGoodStep (flushes_next s) s.live (step s)
unfolding step
step-good s is = upcoming-good s (upcoming s) is (good-upcoming s is)

-- ---- many texts, and a whole session

session-holds : (s : Session) → ValidSession s → Holds s
session-holds s is = record { live = is.live; texts = is.texts; input = is.input }

-- the state in which the next text is done
pub comes-valid : (s : Session) (line : List ℕ) (behind : Session) → ValidSession s → upcoming s ≡ Comes line behind → ValidLive behind.live
comes-valid s line behind is comes =
    let good = subst (IsGoodUpcoming s) comes (good-upcoming s (session-holds s is)) in
    good.1.live

next-valid : (s t : Session) → ValidSession s → (step s).next ≡ Going t → ValidSession t
next-valid s t is h =
    let holds = (step-good s (session-holds s is)).next.going t h in
    let behind = lines-are-consumed.texts 1 s t ((step s).made ++ []) (t, [], h, refl, (refl, refl)) in
    let budget = is.budget in
    let sum = is.spent in
    let least = is.least in
    let most = is.limit in
    let same = behind.limit in
    let spent = behind.spent in
    let paid = behind.paid in
    record {
      live = holds.live;
      texts = holds.texts;
      input = holds.input;
      least = omega (arith, least, same);
      limit = omega (arith, most, same);
      budget = omega (arith, budget, paid);
      spent = omega (arith, sum, spent);
    }

all-valid : (count : ℕ) (s t : Session) (made : List (Observation State)) → ValidSession s → ComesTo count s made t → ValidSession t
all-valid zero s t made is (none, same) = subst ValidSession same is
all-valid (suc count) s t made is (mid, more, goes, are, rest) = all-valid count mid t more (next-valid s mid is goes) rest

next-disk : (s t : Session) → ValidSession s → (step s).next ≡ Going t → DiskIsItsFile s.live → DiskIsItsFile t.live
next-disk s t is h = (step-good s (session-holds s is)).next.copy t h

all-disk : (count : ℕ) (s t : Session) (made : List (Observation State)) → ValidSession s → DiskIsItsFile s.live → ComesTo count s made t → DiskIsItsFile t.live
all-disk zero s t made is held (none, same) = subst (λ (x : Session). DiskIsItsFile x.live) same held
all-disk (suc count) s t made is held (mid, more, goes, are, rest) = all-disk count mid t more (next-valid s mid is goes) (next-disk s mid is goes held) rest

record IsGoodCourse (c : Course) : Type 0 where
  made : (at : State) → StandsAt at c.trace.made → ValidLive at.live
  ended : ValidLive c.trace.ended.state.live

after-good : {flushes : Bool} (live : Live) (made : List (Observation State)) (next : Following) (goes_on : Session → Course) → ((at : State) → StandsAt at made → ValidLive at.live) → IsGoodNext flushes live next
    → ((t : Session) → Holds t → IsGoodCourse (goes_on t)) → IsGoodCourse (after_step made next goes_on)
after-good live made (Going t) goes_on first next more =
    let rest = more t (next.going t refl) in
    record {
      made = λ at h. elim (stands-either at made (goes_on t).trace.made h) [ inl x ↦ first at x | inr x ↦ rest.made at x ];
      ended = rest.ended;
    }
after-good live made (Over end state) goes_on first next more = record { made = first; ended = next.over end state refl }

texts-good : (count : ℕ) (s : Session) → Holds s → IsGoodCourse (texts count s)
unfolding texts
texts-good zero s is = record { made = λ at h. absurd h; ended = is.live }
texts-good (suc count) s is =
    let good = step-good s is in
    after-good s.live (step s).made (step s).next (λ t. texts count t) good.made good.next (λ t holds. texts-good count t holds)

trace-made : (s : Session) → Holds s → (at : State) → StandsAt at (trace s).made → ValidLive at.live
unfolding trace course
trace-made s is at h = (texts-good (suc s.budget) s is).made at h

trace-ended : (s : Session) → Holds s → ValidLive (trace s).ended.state.live
unfolding trace course
trace-ended s is = (texts-good (suc s.budget) s is).ended

-- ---- what a call has left

whole-left : (start : Session) (finish : Finish) (live : Live) (rest : List ℕ) (before after : Output) → ValidSession start → IsSession start finish live rest before after → ValidLive live
whole-left start finish live rest before after is h =
    let holds = session-holds start is in
    let Left : State → Type 0 = λ s. ValidLive s.live in
    let cut = cut-state Left (trace start).made (trace start).ended (length h.end.taken) h.gives (trace-made start holds) (trace-ended start holds) in
    subst Left (ap (λ (o : Outcome State). o.state) h.end.outcome) cut

left-valid : (start : Session) (finish : Finish) (live : Live) (rest : List ℕ) (before after : Output) → ValidSession start → IsPerformed start finish live rest before after → ValidLive live
left-valid start OutOfMemory live rest before after is h =
    let reached = all-valid h.count start h.reached h.done is h.comes in
    elim h.short.live_is [
      | inl left ↦ remains-valid (flushes_next h.reached) h.reached.live live reached.live left
      | inr listened ↦ listened-at-valid (upcoming h.reached) h.reached.live live reached.live listened
    ]
left-valid start finish live rest before after is h = whole-left start finish live rest before after is h

pub sessions-stay-valid : SessionsStayValid
sessions-stay-valid = record {
  next = next-valid;
  all = all-valid;
  made = λ s at is h. trace-made s (session-holds s is) at h;
  ended = λ s is. trace-ended s (session-holds s is);
  disk = next-disk;
  disk_all = all-disk;
  closed = λ s end at is h. (step-good s (session-holds s is)).next.closed end at h;
  stays = λ s end at is h. (step-good s (session-holds s is)).next.stays end at h;
  left = left-valid;
}
