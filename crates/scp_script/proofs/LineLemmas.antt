-- One text of a session, by what it came to.
use Rattle.std.proofs.Common.{Option, Some, None, ◌≡◌, inl, inr, ℕ, ◌+◌, ◌-◌, ◌<◌, ◌≤◌, Bool, true, false, IsTrue, List, [], ◌∷◌, ◌++◌, length, take, drop, refl, ap, sym, ◌∙◌, subst, arith, append_assoc, append-nil, zero-add, add-zero, length-take-le, nat_le, if◌then◌else◌, Some, None, Ok, Err}
use Rattle.std.proofs.lemmas.Bool.{le-leb, leb-false, cond_both}
use Rattle.file_traits.specs.Streams.{AddsPart}
use Rattle.observations.specs.Observations.{Observation, Prints, Reads, Trace, text_of, reads_of, sent_of, map_made}
use Rattle.observations.specs.Cut.{ends, cut, cut_trace, sent_until, BreaksOff}
use Rattle.observations.proofs.CutLemmas.{cut-refused, cut-failed-after, cut-whole, ends-refused, ends-failed, sent-whole}
use Rattle.observations.proofs.CutLemmas.{breaks-before, breaks-behind, breaks-map, before-reads, behind-reads, breaks-reads, before-sent, behind-sent, map-sent}
use Rattle.observations.proofs.MadeLemmas.{text_of-append, reads_of-append, sent_of-append, text_of-map, reads_of-map, sent_of-map}
use Rattle.nova_machine.specs.Comes.{Output}
use Rattle.nova_machine.specs.LineChanges.{heard_with}
use Rattle.nova_machine.proofs.Hearing.{heard-nothing}
use Rattle.file_commands.specs.Notes.{Note, handed}
use Rattle.command_session.specs.declared.next.Next.TheVariants.{Go, Ran, Do, Goto, Exit as ExitNext}
use Rattle.command_session.specs.Live.{Standing, standing}
use Rattle.command_session.specs.Reply.{Answer, Reply}
use Rattle.command_session.specs.Doing.{IsSaid}
use Rattle.command_session.specs.Asked.{Asked, asked}
use Rattle.command_session.specs.DiskFile.{disk_alone}
use Rattle.command_session.specs.Remains.{Remains, flushes_of, reader_of}
use Rattle.scp_script.specs.declared.progress.Progress.{Progress}
use Rattle.scp_script.specs.declared.progress.Progress.TheVariants.{GoesOn, IsOver}
use Rattle.scp_script.specs.declared.progress.Finish.{Finish}
use Rattle.scp_script.specs.declared.progress.Finish.TheVariants.{Exit, EndOfInput, FlushFailed, Commands, Console, Input, OutOfMemory}
use Rattle.script_text.specs.Lines.{line_cost, first_line}
use Rattle.session_texts.specs.Lines.{InputEnds, Unpaid, LineComes, arrival, line_reads, reads_left}
use Rattle.session_texts.specs.Reading.{AreRead}
use Rattle.session_texts.specs.Actions.{Texts, texts_of, texts_behind}
use Rattle.unit_trait.specs.declared.kind.UnitName.{UnitName}
use Rattle.scp_script.specs.Session as ends
use Rattle.scp_script.specs.Session.{emptied_in, input_end, State, Session, Upcoming, SessionEnd, ExitDone, AllDone, InputEnded, BudgetSpent, end_status, state_of, state_at, flushes_in, closed, end_state, rested, going_on, Over, Ends, Comes, prompt_text, asking_input, asking, upcoming, text_reply, following, text_step, step, over_by, course, trace}
use Rattle.scp_script.specs.Loop.{exit_of, IsAnswer, AreClosings, AreShort, AsksPorts, HasListened, HasListenedAt, IsShort, LetsThrough, status_of, finish_of, Finishes, Progresses}
use Rattle.scp_script.proofs.TextLemmas.{text-reads}
use Rattle.scp_script.proofs.SessionLemmas.{arrival-paid, trace-is, trace-asks, trace-begins, asking-sent, course-over, step-comes, step-over, upcoming-input, upcoming-done, asking-is, asking-done}

-- no read was made
pub none-read : (open_ : Bool) (input : List ℕ) → AreRead 0 open_ input open_ input
none-read open_ input = record { rest = refl; count = sym (zero-add (reads_left open_ input)) }

-- ---- what comes before a text

-- the console refused a byte of it
refused-cut : (s : Session) (shown : List ℕ) (rest : List (Observation State)) (n gives : ℕ) → asking s ≡ Prints shown (state_of s) ∷ rest → n < length shown
    → cut_trace (length (take n shown)) gives (trace s) ≡ ends 102 (take n shown) 0 (state_of s)
refused-cut s shown rest n gives asks short =
    let b = trace-asks s in
    let size = length-take-le n shown (omega (arith, short)) in
    ap (cut_trace (length (take n shown)) gives) b.is
    ∙ ap (λ l. cut (length (take n shown)) gives (l ++ b.more) b.ended) asks
    ∙ ap (λ m. cut m gives (Prints shown (state_of s) ∷ (rest ++ b.more)) b.ended) size
    ∙ cut-refused shown (state_of s) (rest ++ b.more) b.ended n gives short

-- and nothing was sent before
refused-sent : (s : Session) (shown : List ℕ) (rest : List (Observation State)) (n gives : ℕ) → asking s ≡ Prints shown (state_of s) ∷ rest → n < length shown
    → sent_until (length (take n shown)) gives (trace s).made ≡ []
refused-sent s shown rest n gives asks short =
    let b = trace-asks s in
    let size = length-take-le n shown (omega (arith, short)) in
    ap (λ (t : Trace State). sent_until (length (take n shown)) gives t.made) b.is
    ∙ ap (λ (l : List (Observation State)). sent_until (length (take n shown)) gives (l ++ b.more)) asks
    ∙ ap (λ m. sent_until m gives (Prints shown (state_of s) ∷ (rest ++ b.more))) (size ∙ sym (zero-add n))
    ∙ ap (λ m. sent_until (0 + n) m (Prints shown (state_of s) ∷ (rest ++ b.more))) (sym (zero-add gives))
    ∙ (ends-refused [] (rest ++ b.more) shown (state_of s) b.ended n gives short).sent

-- callers have heard what they had heard
heard-none : (before after : Output) (sent : List (ℕ × ℕ)) → sent ≡ [] → after.heard ≡ before.heard → after.heard ≡ heard_with before.heard sent
heard-none before after sent none heard = heard ∙ sym (ap (heard_with before.heard) none ∙ heard-nothing before.heard)

pub asking-refused : (old new : Session) (shown : List ℕ) (rest : List (Observation State)) (before after : Output) → asking old ≡ Prints shown (state_of old) ∷ rest
    → state_of old ≡ state_of new → AreRead 0 old.open_ old.input new.open_ new.input → AddsPart before.console shown after.console → after.heard ≡ before.heard
    → Finishes old Console new before after
asking-refused old new shown rest before after asks same reads (n, short, written) heard = record {
  gives = reads_left old.open_ old.input;
  made = 0;
  lets_through = refl;
  reads = reads;
  end = record {
    taken = take n shown;
    written = written;
    outcome = refused-cut old shown rest n (reads_left old.open_ old.input) asks short ∙ ap (ends 102 (take n shown) 0) same;
    heard = heard-none before after _ (refused-sent old shown rest n (reads_left old.open_ old.input) asks short) heard;
  };
  named = λ console _. absurd (console refl);
}

-- all of it went through
asked-cut : (s : Session) (end : SessionEnd) (gives : ℕ) (state : State) → course s ≡ over_by (asking s) end state → reads_of (asking s) ≤ gives
    → cut_trace (length (text_of (asking s))) gives (trace s) ≡ ends (end_status end) (text_of (asking s)) (reads_of (asking s)) state
asked-cut s end gives state is enough =
    let more : gives ≡ reads_of (asking s) + (gives - reads_of (asking s)) = omega (arith, enough) in
    ap (cut_trace (length (text_of (asking s))) gives) (trace-is s _ is)
    ∙ ap (λ n. cut (length (text_of (asking s))) n (asking s) (record { status = end_status end; state = state })) more
    ∙ cut-whole (asking s) (record { status = end_status end; state = state }) (gives - reads_of (asking s))

asked-sent : (s : Session) (end : SessionEnd) (gives : ℕ) (state : State) → course s ≡ over_by (asking s) end state → reads_of (asking s) ≤ gives
    → sent_until (length (text_of (asking s))) gives (trace s).made ≡ []
asked-sent s end gives state is enough =
    let more : gives ≡ reads_of (asking s) + (gives - reads_of (asking s)) = omega (arith, enough) in
    ap (λ (t : Trace State). sent_until (length (text_of (asking s))) gives t.made) (trace-is s _ is)
    ∙ ap (λ n. sent_until (length (text_of (asking s))) n (asking s)) more
    ∙ sent-whole (asking s) (gives - reads_of (asking s))
    ∙ asking-sent s

-- the reads that were made are among those that can be made
read-within : (made : ℕ) (open_ : Bool) (input : List ℕ) (open_now : Bool) (left : List ℕ) → AreRead made open_ input open_now left → made ≤ reads_left open_ input
read-within made open_ input open_now left r = omega (arith, r.count)

-- the session is over before a text, in that state
over-before : (old new : Session) (end : SessionEnd) (finish : Finish) (before after : Output) → upcoming old ≡ Ends end → end_state end old ≡ state_of new
    → status_of finish ≡ end_status end → finish_of end ≡ Some finish → LetsThrough finish (reads_left old.open_ old.input) (reads_of (asking old)) (reads_left old.open_ old.input)
    → AreRead (reads_of (asking old)) old.open_ old.input new.open_ new.input → after.console ≡ before.console ++ text_of (asking old) → after.heard ≡ before.heard
    → Finishes old finish new before after
over-before old new end finish before after e state status named lets reads written heard =
    let step = step-over old end e ∙ ap (λ x. record { made = asking old; next = Over end x }) state in
    let is = course-over old end (state_of new) (ap (λ s. s.next) step) ∙ ap (λ s. over_by s.made end (state_of new)) step in
    let within = read-within _ old.open_ old.input new.open_ new.input reads in
    let all = asked-cut old end (reads_left old.open_ old.input) (state_of new) is within in
    record {
      gives = reads_left old.open_ old.input;
      made = reads_of (asking old);
      lets_through = lets;
      reads = reads;
      end = record {
        taken = text_of (asking old);
        written = written;
        outcome = all ∙ ap (λ n. ends n (text_of (asking old)) (reads_of (asking old)) (state_of new)) (sym status);
        heard = heard-none before after _ (asked-sent old end (reads_left old.open_ old.input) (state_of new) is within) heard;
      };
      named = λ _ _. sym named ∙ ap (λ c. finish_of c.end) (sym is);
    }

-- ---- a line of the input is asked for, where no action waits and no script is open

-- the text of asking is the prompt
pub asking-text : (s : Session) → s.texts ≡ texts_of [] [] → s.reads ≡ true → text_of (asking s) ≡ prompt_text s.prompt
asking-text s none on = ap text_of (asking-is s none on) ∙ append-nil (prompt_text s.prompt)

pub asking-reads : (s : Session) → s.texts ≡ texts_of [] [] → s.reads ≡ true → reads_of (asking s) ≡ line_reads s.budget s.open_ s.input
asking-reads s none on = ap reads_of (asking-is s none on) ∙ add-zero (line_reads s.budget s.open_ s.input)

over-input : (old new : Session) (end : SessionEnd) (finish : Finish) (before after : Output) → old.texts ≡ texts_of [] [] → old.reads ≡ true → upcoming old ≡ Ends end → end_state end old ≡ state_of new
    → status_of finish ≡ end_status end → finish_of end ≡ Some finish → ((made : ℕ) → LetsThrough finish (reads_left old.open_ old.input) made (reads_left old.open_ old.input))
    → AreRead (line_reads old.budget old.open_ old.input) old.open_ old.input new.open_ new.input → after.console ≡ before.console ++ prompt_text old.prompt → after.heard ≡ before.heard
    → Finishes old finish new before after
over-input old new end finish before after none on e state status named lets reads written heard =
    over-before old new end finish before after e state status named (lets (reads_of (asking old)))
    (subst (λ n. AreRead n old.open_ old.input new.open_ new.input) (sym (asking-reads old none on)) reads) (written ∙ ap (λ t. before.console ++ t) (sym (asking-text old none on))) heard

-- the finish at the end of the input
abbrev pub input_finish : Option UnitName → Finish
input_finish None = EndOfInput
input_finish (Some unit) = FlushFailed

pub input-ended : (old new : Session) (k : Option UnitName) (before after : Output) → old.texts ≡ texts_of [] [] → old.reads ≡ true → arrival old.budget old.open_ old.input ≡ InputEnds → (emptied_in old).kept ≡ k → closed old ≡ state_of new
    → AreRead (line_reads old.budget old.open_ old.input) old.open_ old.input new.open_ new.input → after.console ≡ before.console ++ prompt_text old.prompt → after.heard ≡ before.heard
    → Finishes old (input_finish k) new before after
input-ended old new None before after none on e kept closing reads written heard =
    over-input old new InputEnded EndOfInput before after none on (upcoming-input old InputEnds none on e ∙ ap (λ (k : Option UnitName). Ends (input_end k)) kept) closing refl refl (λ _. refl) reads written heard
input-ended old new (Some u) before after none on e kept closing reads written heard =
    over-input old new ends.FlushFailed FlushFailed before after none on (upcoming-input old InputEnds none on e ∙ ap (λ (k : Option UnitName). Ends (input_end k)) kept) closing refl refl (λ _. refl) reads written heard

pub budget-spent : (old new : Session) (before after : Output) → old.texts ≡ texts_of [] [] → old.reads ≡ true → arrival old.budget old.open_ old.input ≡ Unpaid → state_of old ≡ state_of new
    → AreRead (line_reads old.budget old.open_ old.input) old.open_ old.input new.open_ new.input → after.console ≡ before.console ++ prompt_text old.prompt → after.heard ≡ before.heard
    → Finishes old Commands new before after
budget-spent old new before after none on e same reads written heard =
    over-input old new BudgetSpent Commands before after none on (upcoming-input old Unpaid none on e) same refl refl (λ _. refl) reads written heard

-- the console refused a byte of the prompt
pub prompt-refused : (old new : Session) (before after : Output) → old.texts ≡ texts_of [] [] → old.reads ≡ true → state_of old ≡ state_of new → AreRead 0 old.open_ old.input new.open_ new.input
    → AddsPart before.console (prompt_text old.prompt) after.console → after.heard ≡ before.heard → Finishes old Console new before after
prompt-refused old new before after none on same reads part heard =
    asking-refused old new (prompt_text old.prompt) (Reads (line_reads old.budget old.open_ old.input) (state_of old) ∷ []) before after (asking-is old none on) same reads part heard

-- a read fails behind the prompt
failed-cut : (s : Session) (made : ℕ) → s.texts ≡ texts_of [] [] → s.reads ≡ true → made < line_reads s.budget s.open_ s.input
    → cut_trace (length (prompt_text s.prompt)) made (trace s) ≡ ends 106 (prompt_text s.prompt) made (state_of s)
failed-cut s made none on short =
    let b = trace-asks s in
    ap (cut_trace (length (prompt_text s.prompt)) made) b.is
    ∙ ap (λ l. cut (length (prompt_text s.prompt)) made (l ++ b.more) b.ended) (asking-is s none on)
    ∙ ap (λ t. cut (length t) made (asking_input s ++ b.more) b.ended) (sym (append-nil (prompt_text s.prompt)))
    ∙ ap (λ n. cut (length (prompt_text s.prompt ++ [])) n (asking_input s ++ b.more) b.ended) (sym (zero-add made))
    ∙ cut-failed-after (Prints (prompt_text s.prompt) (state_of s) ∷ []) (line_reads s.budget s.open_ s.input) (state_of s) b.more b.ended made short
    ∙ ap (λ t. ends 106 t (0 + made) (state_of s)) (append-nil (prompt_text s.prompt))
    ∙ ap (λ n. ends 106 (prompt_text s.prompt) n (state_of s)) (zero-add made)

failed-sent : (s : Session) (made : ℕ) → s.texts ≡ texts_of [] [] → s.reads ≡ true → made < line_reads s.budget s.open_ s.input
    → sent_until (length (prompt_text s.prompt)) made (trace s).made ≡ []
failed-sent s made none on short =
    let b = trace-asks s in
    ap (λ (t : Trace State). sent_until (length (prompt_text s.prompt)) made t.made) b.is
    ∙ ap (λ (l : List (Observation State)). sent_until (length (prompt_text s.prompt)) made (l ++ b.more)) (asking-is s none on)
    ∙ ap (λ t. sent_until (length t) made (asking_input s ++ b.more)) (sym (append-nil (prompt_text s.prompt)))
    ∙ ap (λ n. sent_until (length (prompt_text s.prompt ++ [])) n (asking_input s ++ b.more)) (sym (zero-add made))
    ∙ ap (λ n. sent_until n (0 + made) (asking_input s ++ b.more)) (sym (add-zero (length (prompt_text s.prompt ++ []))))
    ∙ (ends-failed (Prints (prompt_text s.prompt) (state_of s) ∷ []) b.more (line_reads s.budget s.open_ s.input) (state_of s) b.ended 0 made short).sent

pub input-failed : (old new : Session) (before after : Output) (made : ℕ) → old.texts ≡ texts_of [] [] → old.reads ≡ true → made < line_reads old.budget old.open_ old.input → state_of old ≡ state_of new
    → AreRead made old.open_ old.input new.open_ new.input → after.console ≡ before.console ++ prompt_text old.prompt → after.heard ≡ before.heard
    → Finishes old Input new before after
input-failed old new before after made none on short same reads written heard = record {
  gives = made;
  made = made;
  lets_through = refl;
  reads = reads;
  end = record {
    taken = prompt_text old.prompt;
    written = written;
    outcome = failed-cut old made none on short ∙ ap (ends 106 (prompt_text old.prompt) made) same;
    heard = heard-none before after _ (failed-sent old made none on short) heard;
  };
  named = λ _ input. absurd (input refl);
}

-- a line that comes takes its bytes, and its LF or the end
pub comes-reads : (budget : ℕ) (open_ : Bool) (input line : List ℕ) → arrival budget open_ input ≡ LineComes line → line_reads budget open_ input ≡ length (first_line input) + 1
comes-reads budget true input line e =
    let paid = arrival-paid budget true input line e in
    let test = le-leb (line_cost (length (first_line input))) budget paid in rw test refl
comes-reads budget false input line e = absurd (cc)

-- ---- all is done, where the input is not read

pub all-done : (old new : Session) (before : Output) → old.texts ≡ texts_of [] [] → old.reads ≡ false → state_of old ≡ state_of new
    → AreRead 0 old.open_ old.input new.open_ new.input → Finishes old (Exit 0) new before before
all-done old new before none off same reads =
    let asks = asking-done old none off in
    over-before old new AllDone (Exit 0) before before (upcoming-done old none off) same refl refl refl
    (subst (λ (l : List (Observation State)). AreRead (reads_of l) old.open_ old.input new.open_ new.input) (sym asks) reads)
    (sym (append-nil before.console) ∙ ap (λ (l : List (Observation State)). before.console ++ text_of l) (sym asks)) refl

-- ---- a line of a script, or an action, for which no unit is left

pub text-unpaid : (old new : Session) (before after : Output) → upcoming old ≡ Ends BudgetSpent → asking old ≡ [] → state_of old ≡ state_of new
    → AreRead 0 old.open_ old.input new.open_ new.input → after ≡ before → Finishes old Commands new before after
text-unpaid old new before after e asks same reads written =
    over-before old new BudgetSpent Commands before after e same refl refl refl
    (subst (λ (l : List (Observation State)). AreRead (reads_of l) old.open_ old.input new.open_ new.input) (sym asks) reads)
    (ap (λ (o : Output). o.console) written ∙ sym (append-nil before.console) ∙ ap (λ (l : List (Observation State)). before.console ++ text_of l) (sym asks))
    (ap (λ (o : Output). o.heard) written)

-- ---- what a text comes to: the asking, and then what it does

-- its reply in the session behind it
abbrev pub reply_in : Session → Asked → Reply
reply_in behind what = text_reply behind.limit behind.texts (handed behind.spent behind.notes) behind.live what

-- what is made in it
abbrev pub made_by : Session → Session → Asked → List (Observation State)
made_by s behind what = asking s ++ map_made (state_at behind.notes) (reply_in behind what).made

-- the session that it leaves
abbrev pub left_by : Session → Asked → Session
left_by behind what = record behind {
  live = (reply_in behind what).after.live;
  notes = drop (reply_in behind what).after.used behind.notes;
  texts = texts_behind behind.texts what (reply_in behind what).answer (reply_in behind what).after.live.watch;
}

pub text-made : (s behind : Session) (what : Asked) → (text_step (asking s) behind what).made ≡ made_by s behind what
unfolding text_step
text-made s behind what = refl

pub text-next : (s behind : Session) (what : Asked) → (text_step (asking s) behind what).next
    ≡ following (reply_in behind what).answer (disk_alone behind.live (reply_in behind what).after.live) (left_by behind what)
unfolding text_step
text-next s behind what = refl

text-text : (s behind : Session) (what : Asked) → text_of (made_by s behind what) ≡ text_of (asking s) ++ text_of (reply_in behind what).made
text-text s behind what =
    text_of-append (asking s) (map_made (state_at behind.notes) (reply_in behind what).made)
    ∙ ap (λ t. text_of (asking s) ++ t) (text_of-map (state_at behind.notes) (reply_in behind what).made)

text-sent : (s behind : Session) (what : Asked) → sent_of (made_by s behind what) ≡ sent_of (reply_in behind what).made
text-sent s behind what =
    sent_of-append (asking s) (map_made (state_at behind.notes) (reply_in behind what).made)
    ∙ ap (λ (l : List (ℕ × ℕ)). l ++ sent_of (map_made (state_at behind.notes) (reply_in behind what).made)) (asking-sent s)
    ∙ sent_of-map (state_at behind.notes) (reply_in behind what).made

none-made : (behind : Session) (what : Asked) → reads_of (map_made (state_at behind.notes) (reply_in behind what).made) ≡ 0
none-made behind what =
    reads_of-map (state_at behind.notes) (reply_in behind what).made
    ∙ text-reads behind.limit behind.texts (handed behind.spent behind.notes) behind.live what

pub made-reads : (s behind : Session) (what : Asked) → reads_of (made_by s behind what) ≡ reads_of (asking s)
made-reads s behind what =
    reads_of-append (asking s) (map_made (state_at behind.notes) (reply_in behind what).made)
    ∙ ap (λ n. reads_of (asking s) + n) (none-made behind what)
    ∙ add-zero (reads_of (asking s))

following-none : (answer : Answer) (alone : Bool) (s : Session) → exit_of answer ≡ None → following answer alone s ≡ going_on alone (rested s)
following-none (Ok (ExitNext status)) alone s e = absurd (cc)
following-none (Ok Go) alone s e = refl
following-none (Ok (Ran stop)) alone s e = refl
following-none (Ok (Do file)) alone s e = refl
following-none (Ok Goto) alone s e = refl
following-none (Err fault) alone s e = refl

following-some : (answer : Answer) (alone : Bool) (s : Session) (status : ℕ) → exit_of answer ≡ Some status → following answer alone s ≡ Over (ExitDone status) (state_of s)
following-some (Ok (ExitNext n)) alone s status e = let same : n ≡ status = cc in ap (λ k. Over (ExitDone k) (state_of s)) same
following-some (Ok Go) alone s status e = absurd (cc)
following-some (Ok (Ran stop)) alone s status e = absurd (cc)
following-some (Ok (Do file)) alone s status e = absurd (cc)
following-some (Ok Goto) alone s status e = absurd (cc)
following-some (Err fault) alone s status e = absurd (cc)

-- a byte of what the text makes is refused
text-refused-cut : (s behind : Session) (text : List ℕ) (what : Asked) (taken : List ℕ) (at : Standing) (gives : ℕ) → upcoming s ≡ Comes text behind → asked text ≡ what
    → BreaksOff (reply_in behind what).made taken at → reads_of (asking s) ≤ gives
    → cut_trace (length (text_of (asking s) ++ taken)) gives (trace s) ≡ ends 102 (text_of (asking s) ++ taken) (reads_of (asking s)) (state_at behind.notes at)
text-refused-cut s behind text what taken at gives e c breaks enough =
    let b = trace-begins s in
    let own = map_made (state_at behind.notes) (reply_in behind what).made in
    let state = state_at behind.notes at in
    let made : (step s).made ≡ asking s ++ own = ap (λ s. s.made) (step-comes s behind text what e c) ∙ text-made s behind what in
    let placed = breaks-map (state_at behind.notes) (reply_in behind what).made taken at breaks in
    let inner = breaks-behind (asking s) own taken state placed in
    let wide = breaks-before (asking s ++ own) b.more (text_of (asking s) ++ taken) state inner in
    let none = breaks-reads own taken state placed in
    let reads : wide.reads ≡ reads_of (asking s) =
    before-reads (asking s ++ own) b.more (text_of (asking s) ++ taken) state inner
    ∙ behind-reads (asking s) own taken state placed
    ∙ omega (arith, none, none-made behind what) in
    let more : gives ≡ wide.reads + (gives - wide.reads) = omega (arith, reads, enough) in
    let shown = text_of (asking s) ++ taken in
    ap (cut_trace (length shown) gives) b.is
    ∙ ap (λ l. cut (length shown) gives (l ++ b.more) b.ended) made
    ∙ ap (λ n. cut (length shown) n ((asking s ++ own) ++ b.more) b.ended) more
    ∙ wide.cut_at (gives - wide.reads) b.ended
    ∙ ap (λ n. ends 102 shown n state) reads

-- up to that was sent what the text had sent
text-refused-sent : (s behind : Session) (text : List ℕ) (what : Asked) (taken : List ℕ) (at : Standing) (gives : ℕ) → upcoming s ≡ Comes text behind → asked text ≡ what
    → (breaks : BreaksOff (reply_in behind what).made taken at) → reads_of (asking s) ≤ gives
    → sent_until (length (text_of (asking s) ++ taken)) gives (trace s).made ≡ breaks.sent
text-refused-sent s behind text what taken at gives e c breaks enough =
    let b = trace-begins s in
    let own = map_made (state_at behind.notes) (reply_in behind what).made in
    let state = state_at behind.notes at in
    let made : (step s).made ≡ asking s ++ own = ap (λ s. s.made) (step-comes s behind text what e c) ∙ text-made s behind what in
    let placed = breaks-map (state_at behind.notes) (reply_in behind what).made taken at breaks in
    let inner = breaks-behind (asking s) own taken state placed in
    let wide = breaks-before (asking s ++ own) b.more (text_of (asking s) ++ taken) state inner in
    let none = breaks-reads own taken state placed in
    let reads : wide.reads ≡ reads_of (asking s) =
    before-reads (asking s ++ own) b.more (text_of (asking s) ++ taken) state inner
    ∙ behind-reads (asking s) own taken state placed
    ∙ omega (arith, none, none-made behind what) in
    let more : gives ≡ wide.reads + (gives - wide.reads) = omega (arith, reads, enough) in
    let shown = text_of (asking s) ++ taken in
    ap (λ (t : Trace State). sent_until (length shown) gives t.made) b.is
    ∙ ap (λ (l : List (Observation State)). sent_until (length shown) gives (l ++ b.more)) made
    ∙ ap (λ n. sent_until (length shown) n ((asking s ++ own) ++ b.more)) more
    ∙ wide.sent_is (gives - wide.reads)
    ∙ before-sent (asking s ++ own) b.more (text_of (asking s) ++ taken) state inner
    ∙ behind-sent (asking s) own taken state placed
    ∙ ap (λ (l : List (ℕ × ℕ)). l ++ placed.sent) (asking-sent s)
    ∙ map-sent (state_at behind.notes) (reply_in behind what).made taken at breaks

-- the session is over behind its text
text-whole-cut : (s behind : Session) (status gives : ℕ) (state : State) (what : Asked) → course s ≡ over_by (made_by s behind what) (ExitDone status) state
    → reads_of (asking s) ≤ gives
    → cut_trace (length (text_of (asking s) ++ text_of (reply_in behind what).made)) gives (trace s)
    ≡ ends status (text_of (asking s) ++ text_of (reply_in behind what).made) (reads_of (asking s)) state
text-whole-cut s behind status gives state what is enough =
    let made = made_by s behind what in
    let shown = text_of (asking s) ++ text_of (reply_in behind what).made in
    let more : gives ≡ reads_of made + (gives - reads_of (asking s)) = omega (arith, made-reads s behind what, enough) in
    ap (cut_trace (length shown) gives) (trace-is s _ is)
    ∙ ap (λ t. cut (length t) gives made (record { status = status; state = state })) (sym (text-text s behind what))
    ∙ ap (λ n. cut (length (text_of made)) n made (record { status = status; state = state })) more
    ∙ cut-whole made (record { status = status; state = state }) (gives - reads_of (asking s))
    ∙ ap (λ t. ends status t (reads_of made) state) (text-text s behind what)
    ∙ ap (λ n. ends status shown n state) (made-reads s behind what)

text-whole-sent : (s behind : Session) (status gives : ℕ) (state : State) (what : Asked) → course s ≡ over_by (made_by s behind what) (ExitDone status) state
    → reads_of (asking s) ≤ gives
    → sent_until (length (text_of (asking s) ++ text_of (reply_in behind what).made)) gives (trace s).made ≡ sent_of (reply_in behind what).made
text-whole-sent s behind status gives state what is enough =
    let made = made_by s behind what in
    let shown = text_of (asking s) ++ text_of (reply_in behind what).made in
    let more : gives ≡ reads_of made + (gives - reads_of (asking s)) = omega (arith, made-reads s behind what, enough) in
    ap (λ (t : Trace State). sent_until (length shown) gives t.made) (trace-is s _ is)
    ∙ ap (λ t. sent_until (length t) gives made) (sym (text-text s behind what))
    ∙ ap (λ n. sent_until (length (text_of made)) n made) more
    ∙ sent-whole made (gives - reads_of (asking s))
    ∙ text-sent s behind what

-- the place that a text has left, which used so many of the notes, is where the session stands
placed : (behind new : Session) (used : ℕ) → drop used behind.notes ≡ new.notes → state_of new ≡ state_at behind.notes (standing used new.live)
placed behind new used notes = ap (λ (l : List Note). record { live = new.live; notes = l }) (sym notes)

-- the session behind a text, but for what commands work on, their notes and the texts still to come
abbrev pub IsBehind : Session → Session → Type 0
IsBehind behind new = new ≡ record behind { live = new.live; notes = new.notes; texts = new.texts }

left-is : (behind new : Session) (what : Asked) → IsBehind behind new → state_of new ≡ state_at behind.notes (reply_in behind what).after
    → new.texts ≡ texts_behind behind.texts what (reply_in behind what).answer (reply_in behind what).after.live.watch → left_by behind what ≡ new
left-is behind new what same state texts =
    ap (λ (x : State). record behind { live = x.live; notes = x.notes; texts = texts_behind behind.texts what (reply_in behind what).answer (reply_in behind what).after.live.watch }) (sym state)
    ∙ ap (λ (t : Texts). record behind { live = new.live; notes = new.notes; texts = t }) (sym texts)
    ∙ sym same

-- what a text comes to, which used so many of the notes
pub answered : (old behind new : Session) (text : List ℕ) (what : Asked) (used : ℕ) (result : Progress) (tells : Bool) (before mid after : Output) → IsTrue tells
    → upcoming old ≡ Comes text behind → asked text ≡ what → behind.live ≡ old.live → IsBehind behind new → mid.console ≡ before.console ++ text_of (asking old) → mid.heard ≡ before.heard → drop used behind.notes ≡ new.notes
    → AreRead (reads_of (asking old)) old.open_ old.input new.open_ new.input
    → IsAnswer (reply_in behind what) (texts_behind behind.texts what) result new.texts (standing used new.live) tells mid after → IsShort what behind.spent result old.live new.live old.notes mid after
    → Progresses old result new before after
answered old behind new text what used GoesOn tells before mid after told e c still b asks quiet notes reads a short =
    let is = step-comes old behind text what e c in
    let reply = reply_in behind what in
    let made = ap (λ s. s.made) is ∙ text-made old behind what in
    let said : IsSaid reply (standing used new.live) tells mid after = a.2 in
    let state = placed behind new used notes ∙ ap (state_at behind.notes) said.after_is in
    record {
      next = ap (λ s. s.next) is ∙ text-next old behind what ∙ following-none reply.answer (disk_alone behind.live reply.after.live) (left_by behind what) a.0
          ∙ ap (λ (x : Session). going_on (disk_alone behind.live reply.after.live) (rested x)) (left-is behind new what b state a.1)
          ∙ (λ i. going_on (disk_alone (still i) (ap (λ (x : Standing). x.live) (sym said.after_is) i)) (rested new));
      written = said.written told ∙ ap (λ t. t ++ text_of reply.made) asks ∙ append_assoc before.console (text_of (asking old)) (text_of reply.made)
          ∙ ap (λ t. before.console ++ t) (sym (ap (λ l. text_of l) made ∙ text-text old behind what));
      heard = said.heard ∙ ap (λ h. heard_with h (sent_of reply.made)) quiet ∙ ap (heard_with before.heard) (sym (ap (λ l. sent_of l) made ∙ text-sent old behind what));
      reads = subst (λ n. AreRead n old.open_ old.input new.open_ new.input) (sym (ap (λ l. reads_of l) made ∙ made-reads old behind what)) reads;
    }
answered old behind new text what used (IsOver (Exit status)) tells before mid after told e c still b asks quiet notes reads a short =
    let is = step-comes old behind text what e c in
    let reply = reply_in behind what in
    let said : IsSaid reply (standing used new.live) tells mid after = a.1 in
    let last = state_at behind.notes reply.after in
    let next = ap (λ s. s.next) is ∙ text-next old behind what ∙ following-some reply.answer (disk_alone behind.live reply.after.live) (left_by behind what) status a.0 in
    let over = course-over old (ExitDone status) last next ∙ ap (λ l. over_by l (ExitDone status) last) (ap (λ s. s.made) is ∙ text-made old behind what) in
    let within = read-within _ old.open_ old.input new.open_ new.input reads in
    let whole = text-whole-cut old behind status (reads_left old.open_ old.input) last what over within in
    let sent = text-whole-sent old behind status (reads_left old.open_ old.input) last what over within in
    record {
      gives = reads_left old.open_ old.input;
      made = reads_of (asking old);
      lets_through = refl;
      reads = reads;
      end = record {
        taken = text_of (asking old) ++ text_of reply.made;
        written = said.written told ∙ ap (λ t. t ++ text_of reply.made) asks ∙ append_assoc before.console (text_of (asking old)) (text_of reply.made);
        outcome = whole ∙ ap (ends status (text_of (asking old) ++ text_of reply.made) (reads_of (asking old))) (sym (placed behind new used notes ∙ ap (state_at behind.notes) said.after_is));
        heard = said.heard ∙ ap (λ h. heard_with h (sent_of reply.made)) quiet ∙ ap (heard_with before.heard) (sym sent);
      };
      named = λ _ _. ap (λ c. finish_of c.end) (sym over);
    }
answered old behind new text what used (IsOver Console) tells before mid after told e c still b asks quiet notes reads a short =
    let off = a.told told in
    let within = read-within _ old.open_ old.input new.open_ new.input reads in
    let refused = text-refused-cut old behind text what off.taken (standing used new.live) (reads_left old.open_ old.input) e c off.breaks within in
    let sent = text-refused-sent old behind text what off.taken (standing used new.live) (reads_left old.open_ old.input) e c off.breaks within in
    record {
      gives = reads_left old.open_ old.input;
      made = reads_of (asking old);
      lets_through = refl;
      reads = reads;
      end = record {
        taken = text_of (asking old) ++ off.taken;
        written = off.written ∙ ap (λ t. t ++ off.taken) asks ∙ append_assoc before.console (text_of (asking old)) off.taken;
        outcome = refused ∙ ap (ends 102 (text_of (asking old) ++ off.taken) (reads_of (asking old))) (sym (placed behind new used notes));
        heard = off.heard ∙ ap (λ h. heard_with h off.breaks.sent) quiet ∙ ap (heard_with before.heard) (sym sent);
      };
      named = λ console _. absurd (console refl);
    }
answered old behind new text what used (IsOver OutOfMemory) tells before mid after told e c still b asks quiet notes reads a short = record {
  short = record {
    live_is = elim short.0 [
      | inl left ↦ inl (subst (λ (b : Bool). Remains b old.live new.live) (sym (ap flushes_in e ∙ ap flushes_of c)) left)
      | inr heard ↦ inr (subst (λ (u : Upcoming). HasListenedAt u old.live new.live) (sym e)
          (subst (λ (a : Asked). AsksPorts a × HasListened old.live new.live) (sym c) heard))
    ];
    notes = subst (λ (u : Upcoming). AreShort u old.notes) (sym e) (subst (λ (a : Asked). AreClosings (reader_of a) behind.spent old.notes) (sym c) short.1);
    written = inr (ap (λ (o : Output). o.console) short.2 ∙ asks);
    heard = ap (λ (o : Output). o.heard) short.2 ∙ quiet;
  };
  made = reads_of (asking old);
  few = omega arith;
  reads = reads;
}
answered old behind new text what used (IsOver EndOfInput) tells before mid after told e c still b asks quiet notes reads a short = absurd a
answered old behind new text what used (IsOver FlushFailed) tells before mid after told e c still b asks quiet notes reads a short = absurd a
answered old behind new text what used (IsOver Commands) tells before mid after told e c still b asks quiet notes reads a short = absurd a
answered old behind new text what used (IsOver Input) tells before mid after told e c still b asks quiet notes reads a short = absurd a

-- the text that a script's line is, where it is short enough
pub some-fits : (text line : List ℕ) → Some text ≡ (if nat_le (length line) 512 then Some line else None) → text ≡ line
some-fits text line =
    cond_both (nat_le (length line) 512) (Some line) None (λ o. Some text ≡ o → text ≡ line)
    (λ _ h. cc)
    (λ _ h. absurd (cc))

pub none-fits : (line : List ℕ) → None ≡ (if nat_le (length line) 512 then Some line else None) → 512 < length line
none-fits line =
    cond_both (nat_le (length line) 512) (Some line) None (λ o. None ≡ o → 512 < length line)
    (λ _ h. absurd (cc))
    (λ long _. omega (arith, leb-false (length line) 512 long))
