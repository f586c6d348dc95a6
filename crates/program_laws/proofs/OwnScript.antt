-- A session whose texts are the lines of one script alone, and which reads no input.
use Rattle.std.proofs.Common.{◌≡◌, ◌⊎◌, inl, inr, ℕ, zero, suc, ◌||◌, ◌==◌, Bool, false, length, nat_le, List, [], ◌∷◌, drop, refl, ap, sym, ◌∙◌, subst, Ok, Err, if◌then◌else◌}
use Rattle.std.proofs.lemmas.Bool.{cond_both}
use Rattle.observations.specs.Observations.{Observation}
use Rattle.file_commands.specs.Notes.{CommandNote, handed}
use Rattle.expect_actions.specs.Watch.{WatchState}
use Rattle.scp_parser.specs.Command.{Request}
use Rattle.command_session.specs.declared.next.Next.TheVariants.{Go, Ran, Do, Goto, Exit}
use Rattle.command_session.specs.Live.{Standing}
use Rattle.command_session.specs.DiskFile.{disk_alone}
use Rattle.command_session.specs.Nature.{nature}
use Rattle.command_session.specs.Reply.{Answer}
use Rattle.command_session.specs.Asked.{Asked, asked}
use Rattle.scp_commands.specs.Effect.{effect, does}
use Rattle.session_texts.specs.Lines.{arrival}
use Rattle.session_texts.specs.Scripts.{Script, still_open, cost_of_line, text_of_line, past_line, checked, settled_answer, behind_failure, is_assertion}
use Rattle.session_texts.specs.Actions.{texts_of, text_of_stop, put_first, behind_refusal, texts_behind}
use Rattle.scp_script.specs.Session.{State, Session, AllDone, BudgetSpent, Going, following, Upcoming, Ends, Comes, asking, behind_script_line, upcoming_of, upcoming_in, upcoming_at, upcoming, step_upcoming, text_reply, text_step, step, ComesTo}
use Rattle.scp_script.specs.Used.{telling_of, UsedTold, ports_in, UpcomingTold, NextTold}
use Rattle.scp_script.proofs.SessionLemmas.{following-is}

-- no action waits, these scripts are open, and the input is not read
pub record HasScripts (open_ : List Script) (s : Session) : Type 0 where
  pub unread : s.reads ≡ false
  pub actions : s.texts.actions ≡ []
  pub scripts : s.texts.scripts ≡ open_

-- ---- what comes next

upcoming-open : (s : Session) (scripts : List Script) → HasScripts scripts s → upcoming s ≡ upcoming_in s (still_open scripts)
unfolding upcoming
upcoming-open s scripts has = ap (upcoming_at s) has.actions ∙ ap (λ (l : List Script). upcoming_in s (still_open l)) has.scripts

-- where no line is left, it is over
upcoming-done : (s : Session) (scripts : List Script) → HasScripts scripts s → still_open scripts ≡ [] → upcoming s ≡ Ends AllDone
upcoming-done s scripts has none =
    upcoming-open s scripts has ∙ ap (upcoming_in s) none
    ∙ ap (λ (reads : Bool). if reads then upcoming_of s (arrival s.budget s.open_ s.input) else Ends AllDone) has.unread

-- the next line of its script, where it is paid
abbrev pub line_or_end : Session → Script → Upcoming
line_or_end s script = if nat_le (cost_of_line script) s.budget then Comes (text_of_line script) (behind_script_line s script []) else Ends BudgetSpent

upcoming-line : (s : Session) (script : Script) → HasScripts (script ∷ []) s → still_open (script ∷ []) ≡ script ∷ [] → upcoming s ≡ line_or_end s script
upcoming-line s script has more = upcoming-open s (script ∷ []) has ∙ ap (upcoming_in s) more

-- ---- what that uses of files and lines

pub done-told : (files lines : Bool) (s : Session) (scripts : List Script) → HasScripts scripts s → still_open scripts ≡ [] → NextTold files lines s
unfolding NextTold
done-told files lines s scripts has none = subst (UpcomingTold files lines s.live) (sym (upcoming-done s scripts has none)) tt

-- a command that no open script keeps from being done
abbrev pub IsAllowed : Request → Type 0
IsAllowed r = (scripts : List Script) → checked scripts (Ok r) ≡ Ok r

pub line-told : (files lines : Bool) (s : Session) (script : Script) (r : Request) → HasScripts (script ∷ []) s → still_open (script ∷ []) ≡ script ∷ [] → asked (text_of_line script) ≡ Ok r → IsAllowed r
    → UsedTold files lines (nature r).telling s.live.machine.slots (ports_in s.live) → NextTold files lines s
unfolding NextTold behind_script_line
line-told files lines s script r has more is allowed used =
    let Told : Asked → Type 0 = λ a. UsedTold files lines (telling_of a) s.live.machine.slots (ports_in s.live) in
    let all : Told (checked (past_line script ∷ []) (asked (text_of_line script))) =
    subst (λ (a : Asked). Told (checked (past_line script ∷ []) a)) (sym is) (subst Told (sym (allowed (past_line script ∷ []))) used) in
    subst (UpcomingTold files lines s.live) (sym (upcoming-line s script has more))
    (cond_both (nat_le (cost_of_line script) s.budget) (Comes (text_of_line script) (behind_script_line s script [])) (Ends BudgetSpent) (UpcomingTold files lines s.live) (λ _. all) (λ _. tt))

-- ---- what comes behind it

-- an answer that opens no script, goes to no label and brings no action
abbrev pub IsPlain : Answer → WatchState → Type 0
IsPlain (Ok Go) watch = Unit {0}
IsPlain (Ok (Ran stop)) watch = text_of_stop stop watch ≡ []
IsPlain (Ok (Do file)) watch = ⊥
IsPlain (Ok Goto) watch = ⊥
IsPlain (Ok (Exit status)) watch = Unit {0}
IsPlain (Err fault) watch = Unit {0}

failure-cases : (ends : Bool) (script : Script) → (behind_failure ends (script ∷ []) ≡ script ∷ []) ⊎ (behind_failure ends (script ∷ []) ≡ [])
unfolding behind_failure
failure-cases ends script =
    cond_both (ends || script.strict) [] (script ∷ []) (λ (l : List Script). (l ≡ script ∷ []) ⊎ (l ≡ [])) (λ _. inr refl) (λ _. inl refl)

-- where none wait, none are taken away
refusal-none : (before after : List Script) → behind_refusal before after [] ≡ []
refusal-none before after = cond_both (length after == length before) [] [] (λ (l : List (List ℕ)). l ≡ []) (λ _. refl) (λ _. refl)

-- the session behind a text that was answered so
abbrev left_behind : Session → Script → Asked → Answer → Standing → Session
left_behind b script what answer after = record b {
  live = after.live;
  notes = drop after.used b.notes;
  texts = texts_behind (texts_of [] (script ∷ [])) what answer after.live.watch;
}

answer-goes : (b t : Session) (script : Script) (what : Asked) (answer : Answer) (alone : Bool) (after : Standing) → b.reads ≡ false → IsPlain answer after.live.watch
    → following (settled_answer (script ∷ []) what answer) alone (left_behind b script what (settled_answer (script ∷ []) what answer) after) ≡ Going t
    → HasScripts (script ∷ []) t ⊎ HasScripts [] t
answer-goes b t script what (Ok Go) alone after unread plain goes =
    inl (subst (HasScripts (script ∷ [])) (following-is (Ok Go) alone (left_behind b script what (Ok Go) after) t goes) (record { unread = unread; actions = refl; scripts = refl }))
answer-goes b t script what (Ok (Ran stop)) alone after unread plain goes =
    inl (subst (HasScripts (script ∷ [])) (following-is (Ok (Ran stop)) alone (left_behind b script what (Ok (Ran stop)) after) t goes)
    (record { unread = unread; actions = ap (λ (text : List ℕ). put_first text []) plain; scripts = refl }))
answer-goes b t script what (Ok (Do file)) alone after unread plain goes = absurd plain
answer-goes b t script what (Ok Goto) alone after unread plain goes = absurd plain
answer-goes b t script what (Ok (Exit status)) alone after unread plain goes = absurd (cc)
answer-goes b t script what (Err fault) alone after unread plain goes =
    let same = following-is (Err fault) alone (left_behind b script what (Err fault) after) t goes in
    let none = refusal-none (script ∷ []) (behind_failure (is_assertion fault) (script ∷ [])) in
    elim (failure-cases (is_assertion fault) script) [
      | inl stays ↦ inl (subst (HasScripts (script ∷ [])) same (record { unread = unread; actions = none; scripts = stays }))
      | inr ends ↦ inr (subst (HasScripts []) same (record { unread = unread; actions = none; scripts = ends }))
    ]

-- a command is always answered so in that session
abbrev pub AnswersPlainly : Session → Request → Type 0
AnswersPlainly s r = (limit : ℕ) (notes : List CommandNote) → IsPlain (effect limit notes s.live r).answer (effect limit notes s.live r).after.live.watch

text-goes : (s t : Session) (made : List (Observation State)) (script : Script) (r : Request) → s.reads ≡ false → IsAllowed r → AnswersPlainly s r
    → (text_step made (behind_script_line s script []) (Ok r)).next ≡ Going t → HasScripts (past_line script ∷ []) t ⊎ HasScripts [] t
unfolding text_step text_reply behind_script_line does
text-goes s t made script r unread allowed plain goes =
    let b = behind_script_line s script [] in
    let here = past_line script ∷ [] in
    let notes = handed b.spent b.notes in
    let P : Asked → Type 0 = λ a. IsPlain (does b.limit notes b.live a).answer (does b.limit notes b.live a).after.live.watch in
    let reply = does b.limit notes b.live (checked here (Ok r)) in
    answer-goes b t (past_line script) (Ok r) reply.answer (disk_alone b.live reply.after.live) reply.after unread (subst P (sym (allowed here)) (plain b.limit notes)) goes

pub line-goes : (s t : Session) (script : Script) (r : Request) → HasScripts (script ∷ []) s → still_open (script ∷ []) ≡ script ∷ [] → asked (text_of_line script) ≡ Ok r → IsAllowed r → AnswersPlainly s r
    → (step s).next ≡ Going t → HasScripts (past_line script ∷ []) t ⊎ HasScripts [] t
unfolding step
line-goes s t script r has more is allowed plain goes =
    let Goal : Type 0 = HasScripts (past_line script ∷ []) t ⊎ HasScripts [] t in
    let made = asking s in
    let text : (text_step made (behind_script_line s script []) (asked (text_of_line script))).next ≡ Going t → Goal =
    λ next. text-goes s t made script r has.unread allowed plain (subst (λ (a : Asked). (text_step made (behind_script_line s script []) a).next ≡ Going t) is next) in
    cond_both (nat_le (cost_of_line script) s.budget) (Comes (text_of_line script) (behind_script_line s script [])) (Ends BudgetSpent)
    (λ (u : Upcoming). (step_upcoming s u).next ≡ Going t → Goal) (λ _. text) (λ _ over. absurd (cc))
    (subst (λ (u : Upcoming). (step_upcoming s u).next ≡ Going t) (upcoming-line s script has more) goes)

-- nothing comes behind the last line
pub done-stops : (s t : Session) (scripts : List Script) → HasScripts scripts s → still_open scripts ≡ [] → (step s).next ≡ Going t → ⊥
unfolding step
done-stops s t scripts has none goes =
    let over = subst (λ (u : Upcoming). (step_upcoming s u).next ≡ Going t) (upcoming-done s scripts has none) goes in
    absurd (cc)

-- ---- a course

-- what each text keeps holds wherever a session may come
pub each-text : (P : Session → Type 0) → ((s t : Session) → P s → (step s).next ≡ Going t → P t)
    → (count : ℕ) (s t : Session) (made : List (Observation State)) → P s → ComesTo count s made t → P t
each-text P keeps zero s t made first (none, same) = subst P same first
each-text P keeps (suc count) s t made first (mid, more, goes, parts, rest) = each-text P keeps count mid t more (keeps s mid first goes) rest
