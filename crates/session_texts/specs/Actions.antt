-- Actions that wait: those of a break or of a text that was waited for are done before the next line (SIMH Users' Guide,
-- "Breakpoints").
use Rattle.std.specs.Prelude.{ℕ, ◌+◌, ◌++◌, ◌==◌, nat_lt, Bool, List, [], length, Ok, Err, if◌then◌else◌}
use Rattle.expect_actions.specs.Actions.{split, most_actions}
use Rattle.expect_actions.specs.Watch.{WatchState}
use Rattle.nova_machine.specs.declared.machine.Stop.{Stop}
use Rattle.nova_machine.specs.declared.machine.Stop.TheVariants.{Break, Expect}
use Rattle.command_session.specs.declared.next.Next.TheVariants as next
use Rattle.command_session.specs.declared.fault.CommandFault.TheVariants.{Full}
use Rattle.command_session.specs.Asked.{Asked}
use Rattle.command_session.specs.FaultText.{fault_text}
use Rattle.command_session.specs.Reply.{Answer}
use Rattle.session_texts.specs.declared.texts.Texts.{Texts as HeldTexts}
use Rattle.session_texts.specs.Scripts.{Script, is_assertion, behind_failure, scripts_behind}

-- the texts that are still to come beside the input's: the actions that wait, and the scripts that are open, the innermost
-- first
pub record Texts : Type 0 where
  pub actions : List (List ℕ)
  pub scripts : List Script

abbrev pub texts_of : List (List ℕ) → List Script → Texts
texts_of actions scripts = record { actions = actions; scripts = scripts }

-- the texts that the loop holds
abbrev pub coming : HeldTexts → Texts
coming t = texts_of t.actions t.scripts

-- ---- the actions of a stop

-- as one text: those of the break or of the expect at which it came
abbrev pub text_of_stop : Stop → WatchState → List ℕ
text_of_stop (Break k) watch = watch.breaks.actions
text_of_stop (Expect k) watch = watch.expects.actions
text_of_stop stop watch = []

-- the actions of a text do not fit in front of those that wait
abbrev pub overflows : List ℕ → List (List ℕ) → Bool
overflows text waiting = nat_lt most_actions (length waiting + length (split text))

-- they come in front of those that wait, all of them or none
abbrev pub put_first : List ℕ → List (List ℕ) → List (List ℕ)
put_first text waiting = if overflows text waiting then waiting else split text ++ waiting

-- what is printed where they do not fit
abbrev pub overflow_text : List ℕ → List (List ℕ) → List ℕ
overflow_text text waiting = if overflows text waiting then fault_text Full else []

-- ---- the texts behind one that was answered so, where the watch tables stand so

-- a failed command that ends a script takes away what waits
abbrev pub behind_refusal : List Script → List Script → List (List ℕ) → List (List ℕ)
behind_refusal before after waiting = if length after == length before then waiting else []

abbrev pub actions_behind : Texts → Answer → WatchState → List (List ℕ)
actions_behind t (Ok (next.Ran stop)) watch = put_first (text_of_stop stop watch) t.actions
actions_behind t (Ok other) watch = t.actions
actions_behind t (Err fault) watch = behind_refusal t.scripts (behind_failure (is_assertion fault) t.scripts) t.actions

abbrev pub texts_behind : Texts → Asked → Answer → WatchState → Texts
texts_behind t what answer watch = texts_of (actions_behind t answer watch) (scripts_behind t.scripts what answer)
