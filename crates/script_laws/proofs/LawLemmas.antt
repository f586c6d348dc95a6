-- What is consumed behind texts that only go on.
use Rattle.std.proofs.Common.{◌≡◌, ◌⊎◌, ⊎_elim, inl, inr, ℕ, zero, suc, ◌+◌, ◌-◌, ◌<◌, Bool, true, false, nat_le, List, [], ◌∷◌, ◌++◌, length, drop, refl, ap, sym, ◌∙◌, arith, subst, if◌then◌else◌}
use Rattle.std.proofs.lemmas.List.{drop-drop}
use Rattle.std.proofs.lemmas.Bool.{leb-true, leb-false}
use Rattle.observations.specs.Observations.{Observation, Prints, reads_of}
use Rattle.observations.proofs.MadeLemmas.{reads_of-append}
use Rattle.command_session.specs.Asked.{asked}
use Rattle.command_session.specs.DiskFile.{disk_alone}
use Rattle.script_text.specs.Lines.{first_line, line_cost}
use Rattle.session_texts.specs.Lines.{Arrival, InputEnds, Unpaid, LineComes, arrival}
use Rattle.session_texts.specs.Scripts.{Script, still_open, cost_of_line, text_of_line, echo_text}
use Rattle.session_texts.specs.Actions.{texts_of}
use Rattle.scp_script.specs.Session.{State, Session, spent_more, input_end, emptied_in, AllDone, BudgetSpent, Upcoming, Ends, Comes, Going, rested, state_of, asking_in, asking, behind_line, behind_script_line, behind_action, upcoming_in, upcoming, Step, step, ComesTo}
use Rattle.script_laws.specs.Laws.{lines_size, lines_cost, AreBehind, IsBehindLines, OnlyInput, LinesAreConsumed, AreForgotten, ActionsAreForgotten, EndedScriptsDoNotMatter}
use Rattle.scp_script.proofs.SessionLemmas.{arrival-paid, following-is, step-comes, step-over, upcoming-input, upcoming-done, upcoming-lines, asking-lines, upcoming-action, action-unpaid, asking-action, closing, step-still, course-still}
use Rattle.scp_script.proofs.LineLemmas.{reply_in, left_by, text-made, text-next, made-reads, asking-reads, comes-reads}

-- ---- one text

-- a session behind a line of the input
record IsNextLine (s t : Session) : Type 0 where
  pub rest : t.input ≡ drop (length (first_line s.input) + 1) s.input
  pub reads : reads_of (step s).made ≡ length (first_line s.input) + 1
  pub budget : s.budget ≡ t.budget + line_cost (length (first_line s.input))
  pub spent : t.spent ≡ spent_more s.spent (line_cost (length (first_line s.input)))
  pub limit : t.limit ≡ s.limit
  pub prompt : t.prompt ≡ s.prompt
  pub reading : t.reads ≡ s.reads

-- a session behind a line of a script, or an action
record IsNextScript (s t : Session) : Type 0 where
  pub cost : ℕ
  pub some : 0 < cost
  pub rest : t.input ≡ s.input
  pub reads : reads_of (step s).made ≡ 0
  pub budget : s.budget ≡ t.budget + cost
  pub spent : t.spent ≡ spent_more s.spent cost
  pub limit : t.limit ≡ s.limit
  pub prompt : t.prompt ≡ s.prompt
  pub reading : t.reads ≡ s.reads

-- the session that a text has left
left-is : (s behind t : Session) (text : List ℕ) → upcoming s ≡ Comes text behind → (step s).next ≡ Going t → rested (left_by behind (asked text)) ≡ t
left-is s behind t text e h =
    let is = step-comes s behind text (asked text) e refl in
    following-is (reply_in behind (asked text)).answer (disk_alone behind.live (reply_in behind (asked text)).after.live) (left_by behind (asked text)) t (sym (text-next s behind (asked text)) ∙ sym (ap (λ (x : Step). x.next) is) ∙ h)

step-reads : (s behind : Session) (text : List ℕ) → upcoming s ≡ Comes text behind → reads_of (step s).made ≡ reads_of (asking s)
step-reads s behind text e =
    ap (λ (x : Step). reads_of x.made) (step-comes s behind text (asked text) e refl) ∙ ap (λ l. reads_of l) (text-made s behind (asked text)) ∙ made-reads s behind (asked text)

at-line : (s t : Session) (line : List ℕ) → s.texts ≡ texts_of [] [] → s.reads ≡ true → arrival s.budget s.open_ s.input ≡ LineComes line → (step s).next ≡ Going t → IsNextLine s t
unfolding behind_line
at-line s t line none on e h =
    let comes : upcoming s ≡ Comes line (behind_line s) = upcoming-input s (LineComes line) none on e in
    let left = left-is s (behind_line s) t line comes h in
    let paid = arrival-paid s.budget s.open_ s.input line e in
    let fallen : s.budget - line_cost (length (first_line s.input)) ≡ t.budget = ap (λ (x : Session). x.budget) left in
    record {
      rest = sym (ap (λ (x : Session). x.input) left);
      reads = step-reads s (behind_line s) line comes ∙ asking-reads s none on ∙ comes-reads s.budget s.open_ s.input line e;
      budget = omega (arith, paid, fallen);
      spent = sym (ap (λ (x : Session). x.spent) left);
      limit = sym (ap (λ (x : Session). x.limit) left);
      prompt = sym (ap (λ (x : Session). x.prompt) left);
      reading = sym (ap (λ (x : Session). x.reads) left);
    }

at-arrival : (s t : Session) (a : Arrival) → s.texts ≡ texts_of [] [] → s.reads ≡ true → arrival s.budget s.open_ s.input ≡ a → (step s).next ≡ Going t → IsNextLine s t
at-arrival s t InputEnds none on e h = let over = ap (λ (x : Step). x.next) (step-over s (input_end (emptied_in s).kept) (upcoming-input s InputEnds none on e)) in absurd (cc (over, h))
at-arrival s t Unpaid none on e h = let over = ap (λ (x : Step). x.next) (step-over s BudgetSpent (upcoming-input s Unpaid none on e)) in absurd (cc (over, h))
at-arrival s t (LineComes line) none on e h = at-line s t line none on e h

next-line : (s t : Session) (reads : Bool) → s.texts ≡ texts_of [] [] → s.reads ≡ reads → (step s).next ≡ Going t → IsNextLine s t
next-line s t true none on h = at-arrival s t (arrival s.budget s.open_ s.input) none on refl h
next-line s t false none off h = let over = ap (λ (x : Step). x.next) (step-over s AllDone (upcoming-done s none off)) in absurd (cc (over, h))

upcoming-open : (s : Session) (script : Script) (outer : List Script) (b : Bool) → s.texts.actions ≡ [] → still_open s.texts.scripts ≡ script ∷ outer → nat_le (cost_of_line script) s.budget ≡ b
    → upcoming s ≡ (if b then Comes (text_of_line script) (behind_script_line s script outer) else Ends BudgetSpent)
upcoming-open s script outer b none is test =
    upcoming-lines s none ∙ ap (upcoming_in s) is ∙ ap (λ (x : Bool). if x then Comes (text_of_line script) (behind_script_line s script outer) else Ends BudgetSpent) test

asking-open : (s : Session) (script : Script) (outer : List Script) (b : Bool) → s.texts.actions ≡ [] → still_open s.texts.scripts ≡ script ∷ outer → nat_le (cost_of_line script) s.budget ≡ b
    → asking s ≡ (if b then Prints (echo_text script) (state_of s) ∷ [] else [])
asking-open s script outer b none is test = asking-lines s none ∙ ap (asking_in s) is ∙ ap (λ (x : Bool). if x then Prints (echo_text script) (state_of s) ∷ [] else []) test

at-script : (s t : Session) (script : Script) (outer : List Script) (b : Bool) → s.texts.actions ≡ [] → still_open s.texts.scripts ≡ script ∷ outer → nat_le (cost_of_line script) s.budget ≡ b → (step s).next ≡ Going t
    → IsNextScript s t
unfolding behind_script_line
at-script s t script outer true none is test h =
    let comes : upcoming s ≡ Comes (text_of_line script) (behind_script_line s script outer) = upcoming-open s script outer true none is test in
    let left = left-is s (behind_script_line s script outer) t (text_of_line script) comes h in
    let paid = leb-true (cost_of_line script) s.budget test in
    let fallen : s.budget - cost_of_line script ≡ t.budget = ap (λ (x : Session). x.budget) left in
    record {
      cost = cost_of_line script;
      some = omega arith;
      rest = sym (ap (λ (x : Session). x.input) left);
      reads = step-reads s (behind_script_line s script outer) (text_of_line script) comes ∙ ap (λ l. reads_of l) (asking-open s script outer true none is test);
      budget = omega (arith, paid, fallen);
      spent = sym (ap (λ (x : Session). x.spent) left);
      limit = sym (ap (λ (x : Session). x.limit) left);
      prompt = sym (ap (λ (x : Session). x.prompt) left);
      reading = sym (ap (λ (x : Session). x.reads) left);
    }
at-script s t script outer false none is test h =
    let over = ap (λ (x : Step). x.next) (step-over s BudgetSpent (upcoming-open s script outer false none is test)) in absurd (cc (over, h))

at-action : (s t : Session) (action : List ℕ) (others : List (List ℕ)) (b : Bool) → s.texts.actions ≡ action ∷ others → nat_le 1 s.budget ≡ b → (step s).next ≡ Going t → IsNextScript s t
unfolding behind_action
at-action s t action others true is test h =
    let paid = leb-true 1 s.budget test in
    let comes : upcoming s ≡ Comes action (behind_action s others) = upcoming-action s action others is paid in
    let left = left-is s (behind_action s others) t action comes h in
    let fallen : s.budget - 1 ≡ t.budget = ap (λ (x : Session). x.budget) left in
    record {
      cost = 1;
      some = omega arith;
      rest = sym (ap (λ (x : Session). x.input) left);
      reads = step-reads s (behind_action s others) action comes ∙ ap (λ l. reads_of l) (asking-action s action others is);
      budget = omega (arith, paid, fallen);
      spent = sym (ap (λ (x : Session). x.spent) left);
      limit = sym (ap (λ (x : Session). x.limit) left);
      prompt = sym (ap (λ (x : Session). x.prompt) left);
      reading = sym (ap (λ (x : Session). x.reads) left);
    }
at-action s t action others false is test h =
    let short = leb-false 1 s.budget test in
    let over = ap (λ (x : Step). x.next) (step-over s BudgetSpent (action-unpaid s action others is (omega (arith, short)))) in absurd (cc (over, h))

-- a line of the input, where no action waits
record IsInputNext (s t : Session) : Type 0 where
  pub none : s.texts.actions ≡ []
  pub line : IsNextLine (closing s) t

-- either is the next
next-open : (s t : Session) (scripts : List Script) → s.texts.actions ≡ [] → still_open s.texts.scripts ≡ scripts → (step s).next ≡ Going t → IsInputNext s t ⊎ IsNextScript s t
next-open s t [] none is h = inl (record { none = none; line = next-line (closing s) t s.reads (λ i. texts_of (none i) (is i)) refl (ap (λ (x : Step). x.next) (step-still s none) ∙ h) })
next-open s t (script ∷ outer) none is h = inr (at-script s t script outer (nat_le (cost_of_line script) s.budget) none is refl h)

next-text : (s t : Session) (actions : List (List ℕ)) → s.texts.actions ≡ actions → (step s).next ≡ Going t → IsInputNext s t ⊎ IsNextScript s t
next-text s t [] none h = next-open s t (still_open s.texts.scripts) none refl h
next-text s t (action ∷ others) is h = inr (at-action s t action others (nat_le 1 s.budget) is refl h)

-- ---- many texts

texts-behind : (count : ℕ) (s t : Session) (made : List (Observation State)) → ComesTo count s made t → AreBehind count s made t
texts-behind zero s t made (none, same) = record {
  lines = 0;
  few = omega arith;
  rest = ap (λ (x : Session). x.input) (sym same);
  reads = ap (λ l. reads_of l) none;
  spent = let units = ap (λ (x : Session). x.budget) same in let number = ap (λ (x : Session). x.spent) same in omega (arith, units, number);
  paid = let equal = ap (λ (x : Session). x.budget) same in omega (arith, equal);
  limit = ap (λ (x : Session). x.limit) (sym same);
  prompt = ap (λ (x : Session). x.prompt) (sym same);
  reading = ap (λ (x : Session). x.reads) (sym same);
}
texts-behind (suc count) s t made (mid, more, goes, parts, rest) =
    let inner = texts-behind count mid t more rest in
    let sum = ap (λ l. reads_of l) parts ∙ reads_of-append (step s).made more in
    let size = length (first_line s.input) + 1 in
    ⊎_elim
    (λ (one : IsInputNext s mid).
    let read : reads_of (step s).made ≡ size = ap (λ (x : Step). reads_of x.made) (sym (step-still s one.none)) ∙ one.line.reads in
    behind-line count s mid t made more inner one.line read sum)
    (λ (one : IsNextScript s mid). behind-script count s mid t made more inner one sum)
    (next-text s mid s.texts.actions refl goes)
  where
    behind-line : (count : ℕ) (s mid t : Session) (made more : List (Observation State)) → AreBehind count mid more t → IsNextLine (closing s) mid
        → reads_of (step s).made ≡ length (first_line s.input) + 1 → reads_of made ≡ reads_of (step s).made + reads_of more → AreBehind (suc count) s made t
    behind-line count s mid t made more inner one read sum =
        let size = length (first_line s.input) + 1 in record {
          lines = suc inner.lines;
          few = omega (arith, inner.few);
          rest = inner.rest ∙ ap (λ i. drop (lines_size inner.lines i) i) one.rest ∙ drop-drop (lines_size inner.lines (drop size s.input)) size s.input;
          reads = sum ∙ ap (λ n. n + reads_of more) read ∙ ap (λ n. size + n) (inner.reads ∙ ap (lines_size inner.lines) one.rest);
          spent = omega (arith, one.budget, one.spent, inner.spent, inner.paid);
          paid = omega (arith, one.budget, inner.paid);
          limit = inner.limit ∙ one.limit;
          prompt = inner.prompt ∙ one.prompt;
          reading = inner.reading ∙ one.reading;
        }

    behind-script : (count : ℕ) (s mid t : Session) (made more : List (Observation State)) → AreBehind count mid more t → IsNextScript s mid
        → reads_of made ≡ reads_of (step s).made + reads_of more → AreBehind (suc count) s made t
    behind-script count s mid t made more inner one sum = record {
      lines = inner.lines;
      few = omega (arith, inner.few);
      rest = inner.rest ∙ ap (λ i. drop (lines_size inner.lines i) i) one.rest;
      reads = omega (arith, sum, one.reads, inner.reads ∙ ap (lines_size inner.lines) one.rest);
      spent = omega (arith, one.budget, one.spent, inner.spent, inner.paid);
      paid = omega (arith, one.budget, one.some, inner.paid);
      limit = inner.limit ∙ one.limit;
      prompt = inner.prompt ∙ one.prompt;
      reading = inner.reading ∙ one.reading;
    }

lines-behind : (count : ℕ) (s t : Session) (made : List (Observation State)) → ComesTo count s made t → OnlyInput count s made t → IsBehindLines count s made t
lines-behind zero s t made (none, same) closed = record {
  rest = ap (λ (x : Session). x.input) (sym same);
  reads = ap (λ l. reads_of l) none;
  budget = ap (λ (x : Session). x.budget) same ∙ omega arith;
  spent = let number = ap (λ (x : Session). x.spent) same in omega (arith, number);
}
lines-behind (suc count) s t made (mid, more, goes, parts, rest) closed =
    let one = next-line s mid s.reads (closed 0 [] s (omega arith) (refl, refl)) refl goes in
    let size = length (first_line s.input) + 1 in
    let inner = lines-behind count mid t more rest
    (λ before more' mid' less comes. closed (suc before) ((step s).made ++ more') mid' (omega (arith, less)) (mid, more', goes, refl, comes)) in
    let left = one.rest in
    let costs : lines_cost count mid.input ≡ lines_cost count (drop size s.input) = ap (lines_cost count) left in
    record {
      rest = inner.rest ∙ ap (λ i. drop (lines_size count i) i) left ∙ drop-drop (lines_size count (drop size s.input)) size s.input;
      reads = ap (λ l. reads_of l) parts ∙ reads_of-append (step s).made more ∙ ap (λ n. n + reads_of more) one.reads
          ∙ ap (λ n. size + n) (inner.reads ∙ ap (lines_size count) left);
      budget = omega (arith, one.budget, inner.budget, costs);
      spent = omega (arith, one.spent, inner.spent, costs);
    }

pub lines-are-consumed : LinesAreConsumed
lines-are-consumed = record { texts = texts-behind; lines = lines-behind }

-- ---- the actions of a stop

comes-rested : (s t : Session) (u : Upcoming) → upcoming s ≡ u → (step s).next ≡ Going t → AreForgotten t
comes-rested s t (Ends end) e h = let over = ap (λ (x : Step). x.next) (step-over s end e) in absurd (cc (over, h))
comes-rested s t (Comes text behind) e h = subst AreForgotten (left-is s behind t text e h) refl

next-rested : (s t : Session) → (step s).next ≡ Going t → AreForgotten t
next-rested s t h = comes-rested s t (upcoming s) refl h

all-rested : (count : ℕ) (s t : Session) (made : List (Observation State)) → AreForgotten s → ComesTo count s made t → AreForgotten t
all-rested zero s t made none (empty, same) = subst AreForgotten same none
all-rested (suc count) s t made none (mid, more, goes, parts, rest) = all-rested count mid t more (next-rested s mid goes) rest

pub actions-are-forgotten : ActionsAreForgotten
actions-are-forgotten = record { next = next-rested; all = all-rested }

-- ---- scripts whose last line was done

pub ended-scripts-do-not-matter : EndedScriptsDoNotMatter
ended-scripts-do-not-matter = record { next = step-still; all = course-still }
