-- A line with the notes that were kept in it: what is handed to its text, and what is left.
use Rattle.std.proofs.Common.{Option, Some, None, ◌≡◌, ◌≢◌, ◌⊎◌, ℕ, ◌-◌, ◌<◌, ◌≤◌, Bool, true, IsTrue, List, [], ◌∷◌, ◌++◌, length, drop, take, option_map, slice_get, refl, ap, sym, ◌∙◌, subst, arith, append_assoc, append-nil, inl, inr}
use Rattle.std.proofs.Math.Seq.{take-append_seam}
use Rattle.expect_actions.specs.Actions.{first_written}
use Rattle.fault_counts.specs.Faults.{raised}
use Rattle.observations.specs.Observations.{Observation, Trace, text_of, reads_of, sent_of}
use Rattle.file_traits.specs.Lists.{NamedBytes}
use Rattle.file_traits.specs.State.{FileState}
use Rattle.unit_files.specs.Attachments.{Held}
use Rattle.file_commands.specs.declared.note.Subject.{Subject}
use Rattle.file_commands.specs.declared.note.FaultNote.{FaultNote}
use Rattle.file_commands.specs.Notes.{CommandNote, Note, notes_said, numbered, handed, Follow}
use Rattle.file_commands.proofs.Handing.{handed-own, dropped}
use Rattle.nova_machine.specs.Comes.{Output}
use Rattle.nova_machine.specs.LineChanges.{heard_with}
use Rattle.command_session.specs.Live.{Live, standing, CommandState, Beyond}
use Rattle.command_session.specs.Asked.{Asked, asked}
use Rattle.command_session.specs.Remains.{Remains, reader_of}
use Rattle.command_session.proofs.RemainLemmas.{remains}
use Rattle.unit_trait.specs.declared.kind.UnitName.{UnitName}
use Rattle.command_session.specs.FileEffects.{emptied_all, emptied_live}
use Rattle.command_session.specs.Doing.{Closes}
use Rattle.scp_script.specs.declared.progress.CommandLoop.{CommandLoop}
use Rattle.scp_script.specs.declared.progress.Progress.{Progress}
use Rattle.scp_script.specs.declared.progress.Progress.TheVariants.{GoesOn, IsOver}
use Rattle.scp_script.specs.declared.progress.Finish.{Finish}
use Rattle.scp_script.specs.declared.progress.Finish.TheVariants.{Exit, EndOfInput, FlushFailed, Commands, Console, Input, OutOfMemory}
use Rattle.script_text.specs.Lines.{line_cost, first_line, has_lf}
use Rattle.session_texts.specs.Lines.{InputEnds, LineComes, arrival, line_reads}
use Rattle.session_texts.specs.Reading.{AreRead}
use Rattle.session_texts.specs.Scripts.{Script, still_open, cost_of_line, text_of_line, echo_text, past_line}
use Rattle.session_texts.specs.Actions.{texts_of, texts_behind}
use Rattle.scp_script.specs.Session.{State, Session, spent_more, Upcoming, Ends, Comes, Step, flushes_in, flushes_next, Course, prompt_text, asking, behind_line, behind_script_line, behind_action, upcoming, emptied_in, closed, text_reply, course, trace}
use Rattle.scp_script.specs.Loop.{session_of, IsAnswer, AreClosings, AreShort, HasListenedAt, IsShort, Answers, AnswerCounts, HasExitStatus, status_of, finish_of, EndsAs, Finishes, MayFollow, MayCome, StopsShort, RunsOut, Progresses, ProgressCause, Stepped, KeptInLine}
use Rattle.scp_script.proofs.SessionLemmas.{arrival-paid, upcoming-input, upcoming-script, asking-script, upcoming-action, asking-action, trace-is, closing, asking-still, upcoming-still, step-still, course-still}
use Rattle.scp_script.proofs.LineLemmas.{none-read, comes-reads, asking-text, asking-reads, IsBehind, answered, input_finish, input-ended}

-- a session to which these calls are still to come
abbrev pub with_notes : Session → List Note → Session
with_notes s notes = record s { notes = notes }

numbered-append : (number : ℕ) (own behind : List CommandNote) → numbered number (own ++ behind) ≡ numbered number own ++ numbered number behind
numbered-append number [] behind = refl
numbered-append number (n ∷ own) behind = ap (λ (l : List Note). record { command = number; note = n } ∷ l) (numbered-append number own behind)

-- a command's notes and those that may follow them: those of its number, and then later ones
together : (number : ℕ) (live : Live) (own : List CommandNote) (more : List Note) → (m : MayFollow number live more) → numbered number own ++ more ≡ numbered number (own ++ m.behind) ++ m.later
together number live own more m =
    ap (λ l. numbered number own ++ l) m.are
    ∙ sym (append_assoc (numbered number own) (numbered number m.behind) m.later)
    ∙ ap (λ l. l ++ m.later) (sym (numbered-append number own m.behind))

handed-more : (number : ℕ) (live : Live) (own : List CommandNote) (more : List Note) → (m : MayFollow number live more) → handed number (numbered number own ++ more) ≡ own ++ m.behind
handed-more number live own more m = ap (handed number) (together number live own more m) ∙ handed-own number (own ++ m.behind) m.later m.follows

follow-less : (j k : ℕ) (more : List Note) → j < k → Follow k more → Follow j more
follow-less j k [] less later = tt
follow-less j k (n ∷ more) less later = omega (arith, less, later)

follow-own : (j k : ℕ) (own : List CommandNote) (more : List Note) → j < k → Follow k more → Follow j (numbered k own ++ more)
follow-own j k [] more less later = follow-less j k more less later
follow-own j k (n ∷ own) more less later = less

-- the notes of a later command may follow
later-follow : (before number : ℕ) (live now : Live) (own : List CommandNote) (more : List Note) → before < number → MayFollow number now more → MayFollow before live (numbered number own ++ more)
later-follow before number live now own more less m = record {
  behind = [];
  later = numbered number own ++ more;
  are = refl;
  closings = tt;
  follows = subst (λ l. Follow before l) (sym (together number now own more m)) (follow-own before number (own ++ m.behind) m.later less m.follows);
}

-- none may follow
pub none-follow : (number : ℕ) (live : Live) (more : List Note) → more ≡ [] → MayFollow number live more
none-follow number live more none = record { behind = []; later = []; are = none; closings = tt; follows = tt }

may-follow : (p : Progress) (number : ℕ) (live : Live) (more : List Note) → MayCome p number live more → MayFollow number live more
may-follow GoesOn number live more m = m
may-follow (IsOver finish) number live more none = none-follow number live more none

-- no more notes come behind those of a command for which memory ran out
short-all : (what : Asked) (number : ℕ) (p : Progress) (old new now : Live) (own more : List Note) (before after : Output) → MayCome p number now more
    → IsShort what number p old new own before after → IsShort what number p old new (own ++ more) before after
short-all what number GoesOn old new now own more before after come short = tt
short-all what number (IsOver OutOfMemory) old new now own more before after none short =
    subst (λ (l : List Note). IsShort what number (IsOver OutOfMemory) old new l before after) (sym (ap (λ (l : List Note). own ++ l) none ∙ append-nil own)) short
short-all what number (IsOver (Exit status)) old new now own more before after come short = tt
short-all what number (IsOver EndOfInput) old new now own more before after come short = tt
short-all what number (IsOver FlushFailed) old new now own more before after come short = tt
short-all what number (IsOver Commands) old new now own more before after come short = tt
short-all what number (IsOver Console) old new now own more before after come short = tt
short-all what number (IsOver Input) old new now own more before after come short = tt

-- a text was done
pub text-stepped : (old behind new : Session) (text : List ℕ) (what : Asked) (shown : List ℕ) (made : ℕ) (result : Progress) (tells : Bool) (before mid after : Output) (notes notes' : List Note) → IsTrue tells
    → ((l : List Note) → upcoming (with_notes old l) ≡ Comes text (with_notes behind l)) → asked text ≡ what → behind.live ≡ old.live → IsBehind behind new → old.spent < new.spent
    → ((l : List Note) → text_of (asking (with_notes old l)) ≡ shown) → mid.console ≡ before.console ++ shown → mid.heard ≡ before.heard → ((l : List Note) → reads_of (asking (with_notes old l)) ≡ made)
    → AreRead made old.open_ old.input new.open_ new.input
    → Answers behind.limit behind.live behind.texts what new.spent result new.live new.texts tells mid after notes notes' → ((own : List Note) → notes' ≡ notes ++ own → IsShort what new.spent result old.live new.live own mid after)
    → Stepped (with_notes old) result (with_notes new) before after notes notes'
text-stepped old behind new text what shown made result tells before mid after notes notes' told e c still b less asks prompted quiet counts reads a short = record {
  own = numbered new.spent a.own;
  kept = a.kept;
  first = λ more come. later-follow old.spent new.spent old.live new.live a.own more less (may-follow result new.spent new.live more come);
  goes = λ more come.
      let m = may-follow result new.spent new.live more come in
      let all = numbered new.spent a.own ++ more in
      let given : handed behind.spent all ≡ a.own ++ m.behind =
      ap (λ n. handed n all) (sym (ap (λ (x : Session). x.spent) b)) ∙ handed-more new.spent new.live a.own more m in
      answered (with_notes old all) (with_notes behind all) (with_notes new more) text what (length a.own) result tells before mid after told (e all) c still
      (ap (λ (x : Session). record x { notes = more }) b) (prompted ∙ ap (λ t. before.console ++ t) (sym (asks all))) quiet (dropped new.spent a.own more)
      (subst (λ n. AreRead n old.open_ old.input new.open_ new.input) (sym (counts all)) reads)
      (subst (λ l. IsAnswer (text_reply behind.limit behind.texts l behind.live what) (texts_behind behind.texts what) result new.texts (standing (length a.own) new.live) tells mid after)
      (sym given) (a.answers m.behind m.closings))
      (subst (λ n. IsShort what n result old.live new.live all mid after) (ap (λ (x : Session). x.spent) b)
      (short-all what new.spent result old.live new.live new.live (numbered new.spent a.own) more mid after come (short (numbered new.spent a.own) a.kept)));
}

session-equal : (s t : Session) → s.live ≡ t.live → s.notes ≡ t.notes → s.spent ≡ t.spent → s.limit ≡ t.limit → s.budget ≡ t.budget → s.texts ≡ t.texts → s.reads ≡ t.reads → s.prompt ≡ t.prompt → s.input ≡ t.input → s.open_ ≡ t.open_ → s ≡ t
session-equal s t live notes spent limit budget texts reads prompt input open_ =
    ap (λ x. record s { live = x }) live
    ∙ ap (λ x. record s { live = t.live; notes = x }) notes
    ∙ ap (λ x. record s { live = t.live; notes = t.notes; spent = x }) spent
    ∙ ap (λ x. record s { live = t.live; notes = t.notes; spent = t.spent; limit = x }) limit
    ∙ ap (λ x. record t { budget = x; texts = s.texts; reads = s.reads; prompt = s.prompt; input = s.input; open_ = s.open_ }) budget
    ∙ ap (λ x. record t { texts = x; reads = s.reads; prompt = s.prompt; input = s.input; open_ = s.open_ }) texts
    ∙ ap (λ x. record t { reads = x; prompt = s.prompt; input = s.input; open_ = s.open_ }) reads
    ∙ ap (λ x. record t { prompt = x; input = s.input; open_ = s.open_ }) prompt
    ∙ ap (λ x. record t { input = x; open_ = s.open_ }) input
    ∙ ap (λ x. record t { open_ = x }) open_

-- a session behind a line of the input, as the code leaves it, but for what commands work on, their notes and the texts that
-- are still to come
pub record IsBehindLine (old new : Session) : Type 0 where
  pub spent : new.spent ≡ spent_more old.spent (line_cost (length (first_line old.input)))
  pub limit : new.limit ≡ old.limit
  pub budget : new.budget ≡ old.budget - line_cost (length (first_line old.input))
  pub open_ : new.open_ ≡ has_lf old.input
  pub reading : new.reads ≡ old.reads
  pub prompt : new.prompt ≡ old.prompt
  pub reads : AreRead (line_reads old.budget old.open_ old.input) old.open_ old.input new.open_ new.input

behind-input : (old new : Session) (line : List ℕ) → arrival old.budget old.open_ old.input ≡ LineComes line → IsBehindLine old new → IsBehind (behind_line old) new
unfolding behind_line
behind-input old new line e b =
    session-equal new (record (behind_line old) { live = new.live; notes = new.notes; texts = new.texts }) refl refl b.spent b.limit b.budget refl b.reading b.prompt
    (b.reads.rest ∙ ap (λ n. drop n old.input) (comes-reads old.budget old.open_ old.input line e)) b.open_

-- a line of the input was done, where no action waited and no script was open
pub line-stepped : (old new : Session) (line : List ℕ) (what : Asked) (result : Progress) (tells : Bool) (before mid after : Output) (notes notes' : List Note) → IsTrue tells
    → old.texts ≡ texts_of [] [] → old.reads ≡ true → arrival old.budget old.open_ old.input ≡ LineComes line → asked line ≡ what → IsBehindLine old new → old.spent < new.spent → mid.console ≡ before.console ++ prompt_text old.prompt → mid.heard ≡ before.heard
    → Answers old.limit old.live (texts_of [] []) what new.spent result new.live new.texts tells mid after notes notes' → ((own : List Note) → notes' ≡ notes ++ own → IsShort what new.spent result old.live new.live own mid after)
    → Stepped (with_notes old) result (with_notes new) before after notes notes'
unfolding behind_line
line-stepped old new line what result tells before mid after notes notes' told none on e c b less prompted quiet a short =
    text-stepped old (behind_line old) new line what (prompt_text old.prompt) (line_reads old.budget old.open_ old.input) result tells before mid after notes notes' told
    (λ l. upcoming-input (with_notes old l) (LineComes line) none on e) c refl (behind-input old new line e b) less (λ l. asking-text (with_notes old l) none on) prompted quiet
    (λ l. asking-reads (with_notes old l) none on) b.reads a short

-- the same behind the next line of a script
pub record IsBehindScript (old new : Session) (script : Script) : Type 0 where
  pub spent : new.spent ≡ spent_more old.spent (cost_of_line script)
  pub limit : new.limit ≡ old.limit
  pub budget : new.budget ≡ old.budget - cost_of_line script
  pub reading : new.reads ≡ old.reads
  pub prompt : new.prompt ≡ old.prompt
  pub input : new.input ≡ old.input
  pub open_ : new.open_ ≡ old.open_

behind-script : (old new : Session) (script : Script) (outer : List Script) → IsBehindScript old new script → IsBehind (behind_script_line old script outer) new
unfolding behind_script_line
behind-script old new script outer b =
    session-equal new (record (behind_script_line old script outer) { live = new.live; notes = new.notes; texts = new.texts }) refl refl b.spent b.limit b.budget refl b.reading b.prompt b.input b.open_

pub same-read : (o o' : Bool) (i i' : List ℕ) → o' ≡ o → i' ≡ i → AreRead 0 o i o' i'
same-read o o' i i' open_ input = subst (λ (x : Bool). AreRead 0 o i x i') (sym open_) (subst (λ (x : List ℕ). AreRead 0 o i o x) (sym input) (none-read o i))

-- a line of the innermost script was done
pub script-stepped : (old new : Session) (script : Script) (outer : List Script) (what : Asked) (result : Progress) (tells : Bool) (before mid after : Output) (notes notes' : List Note) → IsTrue tells
    → old.texts ≡ texts_of [] (script ∷ outer) → script.place < length script.text → cost_of_line script ≤ old.budget → asked (text_of_line script) ≡ what → IsBehindScript old new script
    → old.spent < new.spent → mid.console ≡ before.console ++ echo_text script → mid.heard ≡ before.heard
    → Answers old.limit old.live (texts_of [] (past_line script ∷ outer)) what new.spent result new.live new.texts tells mid after notes notes' → ((own : List Note) → notes' ≡ notes ++ own → IsShort what new.spent result old.live new.live own mid after)
    → Stepped (with_notes old) result (with_notes new) before after notes notes'
unfolding behind_script_line
script-stepped old new script outer what result tells before mid after notes notes' told is more fits c b less prompted quiet a short =
    text-stepped old (behind_script_line old script outer) new (text_of_line script) what (echo_text script) 0 result tells before mid after notes notes' told
    (λ l. upcoming-script (with_notes old l) script outer is more fits) c refl (behind-script old new script outer b) less
    (λ l. ap text_of (asking-script (with_notes old l) script outer is more fits) ∙ append-nil (echo_text script)) prompted quiet
    (λ l. ap reads_of (asking-script (with_notes old l) script outer is more fits)) (same-read old.open_ new.open_ old.input new.input b.open_ b.input) a short

-- the same behind an action
pub record IsBehindAction (old new : Session) : Type 0 where
  pub spent : new.spent ≡ spent_more old.spent 1
  pub limit : new.limit ≡ old.limit
  pub budget : new.budget ≡ old.budget - 1
  pub reading : new.reads ≡ old.reads
  pub prompt : new.prompt ≡ old.prompt
  pub input : new.input ≡ old.input
  pub open_ : new.open_ ≡ old.open_

behind-action : (old new : Session) (others : List (List ℕ)) → IsBehindAction old new → IsBehind (behind_action old others) new
unfolding behind_action
behind-action old new others b =
    session-equal new (record (behind_action old others) { live = new.live; notes = new.notes; texts = new.texts }) refl refl b.spent b.limit b.budget refl b.reading b.prompt b.input b.open_

-- the action that waited first was done
pub action-stepped : (old new : Session) (action : List ℕ) (others : List (List ℕ)) (what : Asked) (result : Progress) (tells : Bool) (before after : Output) (notes notes' : List Note) → IsTrue tells
    → old.texts.actions ≡ action ∷ others → 1 ≤ old.budget → asked action ≡ what → IsBehindAction old new → old.spent < new.spent
    → Answers old.limit old.live (texts_of others old.texts.scripts) what new.spent result new.live new.texts tells before after notes notes' → ((own : List Note) → notes' ≡ notes ++ own → IsShort what new.spent result old.live new.live own before after)
    → Stepped (with_notes old) result (with_notes new) before after notes notes'
unfolding behind_action
action-stepped old new action others what result tells before after notes notes' told is fits c b less a short =
    text-stepped old (behind_action old others) new action what [] 0 result tells before before after notes notes' told
    (λ l. upcoming-action (with_notes old l) action others is fits) c refl (behind-action old new others b) less
    (λ l. ap text_of (asking-action (with_notes old l) action others is)) (sym (append-nil before.console)) refl
    (λ l. ap reads_of (asking-action (with_notes old l) action others is)) (same-read old.open_ new.open_ old.input new.input b.open_ b.input) a short

-- the actions that wait begin with one
pub record HasFirst (l : List (List ℕ)) : Type 0 where
  pub action : List ℕ
  pub others : List (List ℕ)
  pub is : l ≡ action ∷ others

pub has-first : (l : List (List ℕ)) → l ≢ [] → HasFirst l
has-first [] some = absurd (some refl)
has-first (action ∷ others) some = record { action = action; others = others; is = refl }

-- what is taken of them is its text
pub action-text : (l : List (List ℕ)) (action : List ℕ) (others : List (List ℕ)) (out out' : List ℕ) (n : ℕ) → l ≡ action ∷ others → Some n ≡ option_map length (slice_get l 0) → out' ≡ first_written l out
    → take n out' ≡ action
action-text l action others out out' n is count text =
    let counted : Some n ≡ Some (length action) = count ∙ ap (λ (x : List (List ℕ)). option_map length (slice_get x 0)) is in
    let many : n ≡ length action = cc in
    let all : out' ≡ action ++ drop (length action) out = text ∙ ap (λ (x : List (List ℕ)). first_written x out) is in
    (λ i. take (many i) (all i)) ∙ take-append_seam action (drop (length action) out)

pub action-there : (l : List (List ℕ)) (action : List ℕ) (others : List (List ℕ)) → l ≡ action ∷ others → None ≡ option_map length (slice_get l 0) → ⊥
action-there l action others is none =
    let never : None ≡ Some (length action) = none ∙ ap (λ (x : List (List ℕ)). option_map length (slice_get x 0)) is in
    absurd (cc)

-- the session is over, and no note was kept for that
pub over-alone : (old new : Session) (finish : Finish) (before after : Output) (notes notes' : List Note) → notes' ≡ notes
    → Progresses (with_notes old []) (IsOver finish) (with_notes new []) before after → Stepped (with_notes old) (IsOver finish) (with_notes new) before after notes notes'
over-alone old new finish before after notes notes' same over = record {
  own = [];
  kept = same ∙ sym (append-nil notes);
  first = λ more none. none-follow old.spent old.live more none;
  goes = λ more none. subst (λ l. Progresses (with_notes old l) (IsOver finish) (with_notes new l) before after) (sym none) over;
}

closed-own : (s : Session) (own : List CommandNote) → (emptied_all own s.live).used ≡ length own
    → closed (with_notes s (numbered s.spent own ++ [])) ≡ record { live = emptied_live (emptied_all own s.live) s.live; notes = [] }
unfolding closed
closed-own s own used =
    let all = numbered s.spent own ++ [] in
    ap (λ (l : List CommandNote). record { live = emptied_live (emptied_all l s.live) s.live; notes = drop (emptied_all l s.live).used all }) (handed-own s.spent own [] tt)
    ∙ ap (λ n. record { live = emptied_live (emptied_all own s.live) s.live; notes = drop n all }) used
    ∙ ap (λ l. record { live = emptied_live (emptied_all own s.live) s.live; notes = l }) (dropped s.spent own [])

kept-own : (s : Session) (own : List CommandNote) → (emptied_in (with_notes s (numbered s.spent own ++ []))).kept ≡ (emptied_all own s.live).kept
kept-own s own = ap (λ (l : List CommandNote). (emptied_all l s.live).kept) (handed-own s.spent own [] tt)

ended-so : (k : Option UnitName) (old new : Session) (before after : Output) → Finishes old (input_finish k) new before after → Progresses old (IsOver (input_finish k)) new before after
ended-so None old new before after f = f
ended-so (Some u) old new before after f = f

-- the input has ended, and the units have lost their files, up to one that has kept it
pub input-closed : (old new : Session) (k : Option UnitName) (before after : Output) (notes notes' : List Note) → old.texts ≡ texts_of [] [] → old.reads ≡ true → arrival old.budget old.open_ old.input ≡ InputEnds
    → (step : Type 0) → step → Closes step old.spent old.live new.live k notes notes' → AreRead (line_reads old.budget old.open_ old.input) old.open_ old.input new.open_ new.input → after.console ≡ before.console ++ prompt_text old.prompt → after.heard ≡ before.heard
    → Stepped (with_notes old) (IsOver (input_finish k)) (with_notes new) before after notes notes'
input-closed old new k before after notes notes' none_open on e step now c reads written heard =
    let own = numbered old.spent c.own in
    let left : new.live ≡ emptied_live (emptied_all c.own old.live) old.live = c.after ∙ ap (λ (files : List NamedBytes). record (emptied_live (emptied_all c.own old.live) old.live) { files = files }) (c.content now) in
    let closing = closed-own old c.own c.used ∙ ap (λ (x : Live). record { live = x; notes = [] }) (sym left) in
    let over = input-ended (with_notes old (own ++ [])) (with_notes new []) k before after none_open on e (kept-own old c.own ∙ c.keeps) closing reads written heard in
    record {
      own = own;
      kept = c.kept;
      first = λ more none. record { behind = c.own; later = []; are = ap (λ l. own ++ l) none; closings = c.behind; follows = tt };
      goes = λ more none. subst (λ l. Progresses (with_notes old (own ++ l)) (IsOver (input_finish k)) (with_notes new l) before after) (sym none)
          (ended-so k (with_notes old (own ++ [])) (with_notes new []) before after over);
    }

pub none-short : (u : Upcoming) (notes : List Note) → notes ≡ [] → AreShort u notes
none-short (Ends end) notes none = none
none-short (Comes text behind) notes none = by-reader (reader_of (asked text))
  where
    by-reader : (who : Option Subject) → AreClosings who behind.spent notes
    by-reader None = none
    by-reader (Some who) = subst (λ (l : List Note). AreClosings (Some who) behind.spent l) (sym none) tt

-- memory ran out before a text was asked for
pub room-refused : (old new : Session) (before : Output) → old.notes ≡ [] → new ≡ old → RunsOut old new before before
room-refused old new before none same = subst (λ (x : Session). RunsOut old x before before) (sym same) (record {
  short = record { live_is = inl (remains (flushes_next old) old.live old.live refl); notes = none-short (upcoming old) old.notes none; written = inl refl; heard = refl };
  made = 0;
  few = omega arith;
  reads = none-read old.open_ old.input;
})

-- ---- scripts that have ended are closed before the next text

short-still : (s : Session) (live : Live) (before after : Output) → s.texts.actions ≡ [] → StopsShort (closing s) live before after → StopsShort s live before after
short-still s live before after none h = record {
  live_is = elim h.live_is [
    | inl left ↦ inl (subst (λ (u : Upcoming). Remains (flushes_in u) s.live live) (upcoming-still s none) left)
    | inr heard ↦ inr (subst (λ (u : Upcoming). HasListenedAt u s.live live) (upcoming-still s none) heard)
  ];
  notes = subst (λ (u : Upcoming). AreShort u s.notes) (upcoming-still s none) h.notes;
  written = subst (λ (l : List (Observation State)). (after.console ≡ before.console) ⊎ (after.console ≡ before.console ++ text_of l)) (asking-still s none) h.written;
  heard = h.heard;
}

over-still : (s : Session) (finish : Finish) (new : Session) (before after : Output) → s.texts.actions ≡ [] → Finishes (closing s) finish new before after → Finishes s finish new before after
over-still s finish new before after none f =
    let course_is = course-still s none in
    let trace_is : trace (closing s) ≡ trace s = trace-is (closing s) (course s) course_is ∙ sym (trace-is s (course s) refl) in
    record {
      gives = f.gives;
      made = f.made;
      lets_through = f.lets_through;
      reads = f.reads;
      end = subst (λ (t : Trace State). EndsAs t (status_of finish) f.gives f.made before after (record { live = new.live; notes = new.notes })) trace_is f.end;
      named = λ console input. f.named console input ∙ ap (λ (c : Course). finish_of c.end) course_is;
    }

progress-still : (s : Session) (p : Progress) (new : Session) (before after : Output) → s.texts.actions ≡ [] → Progresses (closing s) p new before after → Progresses s p new before after
progress-still s GoesOn new before after none g = record {
  next = ap (λ (x : Step). x.next) (sym (step-still s none)) ∙ g.next;
  written = g.written ∙ ap (λ (x : Step). before.console ++ text_of x.made) (step-still s none);
  heard = g.heard ∙ ap (λ (x : Step). heard_with before.heard (sent_of x.made)) (step-still s none);
  reads = subst (λ n. AreRead n s.open_ s.input new.open_ new.input) (ap (λ (x : Step). reads_of x.made) (step-still s none)) g.reads;
}
progress-still s (IsOver OutOfMemory) new before after none r = record {
  short = short-still s new.live before after none r.short;
  made = r.made;
  few = subst (λ (l : List (Observation State)). r.made ≤ reads_of l) (asking-still s none) r.few;
  reads = r.reads;
}
progress-still s (IsOver (Exit status)) new before after none f = over-still s (Exit status) new before after none f
progress-still s (IsOver EndOfInput) new before after none f = over-still s EndOfInput new before after none f
progress-still s (IsOver FlushFailed) new before after none f = over-still s FlushFailed new before after none f
progress-still s (IsOver Commands) new before after none f = over-still s Commands new before after none f
progress-still s (IsOver Console) new before after none f = over-still s Console new before after none f
progress-still s (IsOver Input) new before after none f = over-still s Input new before after none f

-- what is known behind the closing is known before
pub closed-before : (old : Session) (scripts : List Script) (p : Progress) (new : List Note → Session) (before after : Output) (notes notes' : List Note) → old.texts.actions ≡ [] → still_open old.texts.scripts ≡ scripts
    → Stepped (with_notes (record old { texts = texts_of old.texts.actions scripts })) p new before after notes notes' → Stepped (with_notes old) p new before after notes notes'
closed-before old scripts p new before after notes notes' none is s = record {
  own = s.own;
  kept = s.kept;
  first = s.first;
  goes = λ more come. progress-still (with_notes old (s.own ++ more)) p (new more) before after none
      (subst (λ (l : List Script). Progresses (record (with_notes old (s.own ++ more)) { texts = texts_of old.texts.actions l }) p (new more) before after) (sym is) (s.goes more come));
}

-- an answer that is not for want of memory
pub never-short : (what : Asked) (number : ℕ) (result : Progress) (old new : Live) (own : List Note) (before after : Output) → result ≢ IsOver OutOfMemory
    → IsShort what number result old new own before after
never-short what number GoesOn old new own before after never = tt
never-short what number (IsOver OutOfMemory) old new own before after never = absurd (never refl)
never-short what number (IsOver (Exit status)) old new own before after never = tt
never-short what number (IsOver EndOfInput) old new own before after never = tt
never-short what number (IsOver FlushFailed) old new own before after never = tt
never-short what number (IsOver Commands) old new own before after never = tt
never-short what number (IsOver Console) old new own before after never = tt
never-short what number (IsOver Input) old new own before after never = tt

-- what is known of the state that is left is known where it is that
pub left-at : (old new now : CommandState) (around : Beyond) (lines lines' : CommandLoop) (input left : List ℕ) (p : Progress) (before after : Output) → new ≡ now
    → Stepped (session_of old around lines input) p (session_of now around lines' left) before after (notes_said old.notes) (notes_said now.notes)
    → Stepped (session_of old around lines input) p (session_of new around lines' left) before after (notes_said old.notes) (notes_said new.notes)
left-at old new now around lines lines' input left p before after is =
    subst (λ (x : CommandState). Stepped (session_of old around lines input) p (session_of x around lines' left) before after (notes_said old.notes) (notes_said x.notes)) (sym is)

-- what is spent has risen by what a line costs
pub spent-line : (command command' budget budget' : ℕ) (open_ : Bool) (input line : List ℕ) → arrival budget open_ input ≡ LineComes line → budget' ≡ budget - line_cost (length (first_line input))
    → command' ≡ spent_more command (budget - budget') → command' ≡ spent_more command (line_cost (length (first_line input)))
spent-line command command' budget budget' open_ input line e pays sum =
    let enough = arrival-paid budget open_ input line e in
    omega (arith, enough, pays, sum)

-- the causes of an answer are causes of the line, whose prompt was printed and whose bytes were read before
pub answer-causes : (result : Progress) (sink sink_mid sink_now source source_now : ℕ) → sink_mid ≡ sink → source_now ≡ source → AnswerCounts result sink_mid sink_now
    → HasExitStatus result → ProgressCause result sink sink_now source source_now
answer-causes GoesOn sink sink_mid sink_now source source_now a b c s = (c ∙ a, b)
answer-causes (IsOver (Exit status)) sink sink_mid sink_now source source_now a b c s =
    record { console = λ e. absurd (cc); input = λ e. absurd (cc); console_only = λ _. c ∙ a; input_only = λ _. b; exit = s }
answer-causes (IsOver EndOfInput) sink sink_mid sink_now source source_now a b c s =
    record { console = λ e. absurd (cc); input = λ e. absurd (cc); console_only = λ _. c ∙ a; input_only = λ _. b; exit = tt }
answer-causes (IsOver FlushFailed) sink sink_mid sink_now source source_now a b c s = absurd c
answer-causes (IsOver Commands) sink sink_mid sink_now source source_now a b c s = absurd c
answer-causes (IsOver OutOfMemory) sink sink_mid sink_now source source_now a b c s =
    record { console = λ e. absurd (cc); input = λ e. absurd (cc); console_only = λ _. c ∙ a; input_only = λ _. b; exit = tt }
answer-causes (IsOver Console) sink sink_mid sink_now source source_now a b c s =
    record { console = λ e. c ∙ ap raised a; input = λ e. absurd (cc); console_only = λ n. absurd (n refl); input_only = λ _. b; exit = tt }
answer-causes (IsOver Input) sink sink_mid sink_now source source_now a b c s = absurd c

-- no text's answer is that the disk has kept its file
pub answer-kept : (result : Progress) (sink sink_now : ℕ) (slots : List (Option Held)) (notes : List FaultNote) (old new : FileState) → AnswerCounts result sink sink_now
    → KeptInLine result slots notes old new
answer-kept GoesOn sink sink_now slots notes old new c = tt
answer-kept (IsOver (Exit status)) sink sink_now slots notes old new c = tt
answer-kept (IsOver EndOfInput) sink sink_now slots notes old new c = tt
answer-kept (IsOver FlushFailed) sink sink_now slots notes old new c = absurd c
answer-kept (IsOver Commands) sink sink_now slots notes old new c = absurd c
answer-kept (IsOver Console) sink sink_now slots notes old new c = tt
answer-kept (IsOver Input) sink sink_now slots notes old new c = tt
answer-kept (IsOver OutOfMemory) sink sink_now slots notes old new c = tt
