-- Why a session is over, and what it has spent then.
use Rattle.std.proofs.Common.{◌≡◌, ◌≢◌, inl, ℕ, ◌+◌, ◌-◌, ◌<◌, ◌≤◌, ◌^◌, Bool, List, [], ◌∷◌, length, refl, arith, sym, subst, Result}
use Rattle.command_session.specs.declared.fault.CommandFault.{CommandFault}
use Rattle.command_session.specs.Asked.{Asked, asked}
use Rattle.session_texts.specs.Scripts.{Script, behind_failure, jumped_to, StackOf}
use Rattle.session_texts.proofs.OpenLemmas.{stack-later, stack-as, stack-opened, stack-failed, stack-jumped}
use Rattle.scp_script.specs.declared.progress.Finish.{Finish}
use Rattle.scp_script.specs.declared.progress.Finish.TheVariants.{Exit, EndOfInput, FlushFailed, Commands, Console, Input, OutOfMemory}
use Rattle.scp_script.specs.declared.progress.Progress.{Progress}
use Rattle.scp_script.specs.declared.progress.Progress.TheVariants.{GoesOn, IsOver}
use Rattle.scp_script.specs.Loop.{AnswerCounts}
use Rattle.scp_script.specs.Spending.{EndOf, IsNoExit, OpensOne, ComesNext, IsUnpaid, TextCause, CanCome, StopsAt, EndCause}

-- ---- EXIT

pub no-exit : (what : Asked) (result : Progress) → IsNoExit result → EndOf what result
no-exit what GoesOn none = tt
no-exit what (IsOver (Exit status)) none = absurd none
no-exit what (IsOver Commands) none = tt
no-exit what (IsOver EndOfInput) none = tt
no-exit what (IsOver FlushFailed) none = tt
no-exit what (IsOver Console) none = tt
no-exit what (IsOver Input) none = tt
no-exit what (IsOver OutOfMemory) none = tt

-- ---- the scripts behind a text

pub opens-by : (old new : List Script) (result : Progress) → ((first : List Script) (most : ℕ) → StackOf first most old → StackOf first (most + 1) new) → OpensOne old result new
opens-by old new GoesOn by = by
opens-by old new (IsOver finish) by = tt

pub opens-none : (old new : List Script) (result : Progress) → new ≡ old → OpensOne old result new
opens-none old new result is = opens-by old new result (λ first most s. stack-as first (most + 1) old new is (stack-later first most (most + 1) old (omega arith) s))

pub opens-failed : (ends : Bool) (old new : List Script) (result : Progress) → new ≡ behind_failure ends old → OpensOne old result new
opens-failed ends old new result is =
    opens-by old new result (λ first most s. stack-as first (most + 1) (behind_failure ends old) new is (stack-later first most (most + 1) (behind_failure ends old) (omega arith) (stack-failed first most ends old s)))

pub opens-jumped : (found : Result ℕ CommandFault) (old new : List Script) (result : Progress) → new ≡ jumped_to found old → OpensOne old result new
opens-jumped found old new result is =
    opens-by old new result (λ first most s. stack-as first (most + 1) (jumped_to found old) new is (stack-later first most (most + 1) (jumped_to found old) (omega arith) (stack-jumped first most found old s)))

pub opens-one : (script : Script) (old new : List Script) (result : Progress) → length script.text ≤ 2 ^ 20 → new ≡ script ∷ old → OpensOne old result new
opens-one script old new result file is = opens-by old new result (λ first most s. stack-as first (most + 1) (script ∷ old) new is (stack-opened first most script old file s))

-- where other scripts are open before
pub opens-since : (old mid new : List Script) (result : Progress) → ((first : List Script) (most : ℕ) → StackOf first most old → StackOf first most mid) → OpensOne mid result new
    → OpensOne old result new
opens-since old mid new GoesOn since opens = λ first most s. opens first most (since first most s)
opens-since old mid new (IsOver finish) since opens = tt

-- ---- the last text

-- a text that was paid for
pub paid-text : (reads : Bool) (actions : List (List ℕ)) (scripts : List Script) (budget now sink sink_now : ℕ) (text : List ℕ) (result : Progress) → now < budget
    → ComesNext reads actions scripts text → AnswerCounts result sink sink_now → EndOf (asked text) result → TextCause reads actions scripts budget result now
paid-text reads actions scripts budget now sink sink_now text GoesOn paid next counts exit = tt
paid-text reads actions scripts budget now sink sink_now text (IsOver (Exit status)) paid next counts exit = inl (paid, text, next, exit)
paid-text reads actions scripts budget now sink sink_now text (IsOver Commands) paid next counts exit = absurd counts
paid-text reads actions scripts budget now sink sink_now text (IsOver EndOfInput) paid next counts exit = tt
paid-text reads actions scripts budget now sink sink_now text (IsOver FlushFailed) paid next counts exit = tt
paid-text reads actions scripts budget now sink sink_now text (IsOver Console) paid next counts exit = tt
paid-text reads actions scripts budget now sink sink_now text (IsOver Input) paid next counts exit = tt
paid-text reads actions scripts budget now sink sink_now text (IsOver OutOfMemory) paid next counts exit = tt

-- one that is refused before any command
pub denied-text : (reads : Bool) (actions : List (List ℕ)) (scripts : List Script) (budget now sink sink_now : ℕ) (result : Progress) → AnswerCounts result sink sink_now → IsNoExit result
    → TextCause reads actions scripts budget result now
denied-text reads actions scripts budget now sink sink_now GoesOn counts exit = tt
denied-text reads actions scripts budget now sink sink_now (IsOver (Exit status)) counts exit = absurd exit
denied-text reads actions scripts budget now sink sink_now (IsOver Commands) counts exit = absurd counts
denied-text reads actions scripts budget now sink sink_now (IsOver EndOfInput) counts exit = tt
denied-text reads actions scripts budget now sink sink_now (IsOver FlushFailed) counts exit = tt
denied-text reads actions scripts budget now sink sink_now (IsOver Console) counts exit = tt
denied-text reads actions scripts budget now sink sink_now (IsOver Input) counts exit = tt
denied-text reads actions scripts budget now sink sink_now (IsOver OutOfMemory) counts exit = tt

-- an action comes first
pub action-next : (reads : Bool) (actions : List (List ℕ)) (scripts : List Script) (action : List ℕ) (others : List (List ℕ)) (text : List ℕ) → actions ≡ action ∷ others → text ≡ action
    → ComesNext reads actions scripts text
action-next reads actions scripts action others text is same = subst (λ (l : List (List ℕ)). ComesNext reads l scripts text) (sym is) same

pub unpaid-action : (reads : Bool) (actions : List (List ℕ)) (scripts : List Script) (left : ℕ) → actions ≢ [] → left ≡ 0 → IsUnpaid reads actions scripts left
unpaid-action reads [] scripts left some none = absurd (some refl)
unpaid-action reads (action ∷ others) scripts left some none = none

-- the same of other words for what was still to come
pub cause-as : (reads reads' : Bool) (actions actions' : List (List ℕ)) (scripts scripts' : List Script) (budget now : ℕ) (result : Progress) → reads ≡ reads' → actions ≡ actions' → scripts ≡ scripts'
    → TextCause reads' actions' scripts' budget result now → TextCause reads actions scripts budget result now
cause-as reads reads' actions actions' scripts scripts' budget now result on first then cause =
    subst (λ (b : Bool). TextCause b actions scripts budget result now) (sym on)
    (subst (λ (l : List (List ℕ)). TextCause reads' l scripts budget result now) (sym first)
    (subst (λ (l : List Script). TextCause reads' actions' l budget result now) (sym then) cause))

-- ---- a session

pub begins-so : (first : List Script) (paid : ℕ) (actions : List (List ℕ)) (scripts : List Script) → paid ≡ 0 → StackOf first 0 first → actions ≡ [] → scripts ≡ first → CanCome first paid actions scripts
begins-so first paid actions scripts none stack quiet is = record {
  stack = stack-later first 0 paid scripts (omega arith) (stack-as first 0 first scripts is stack);
  begins = λ zero. (quiet, is);
}

pub goes-so : (first : List Script) (budget before now : ℕ) (actions actions' : List (List ℕ)) (scripts scripts' : List Script) → now < before → before ≤ budget
    → CanCome first (budget - before) actions scripts → OpensOne scripts GoesOn scripts' → CanCome first (budget - now) actions' scripts'
goes-so first budget before now actions actions' scripts scripts' paid within come opens = record {
  stack = stack-later first ((budget - before) + 1) (budget - now) scripts' (omega (arith, paid, within)) (opens first (budget - before) come.stack);
  begins = λ zero. absurd (omega (arith, paid, within, zero));
}

pub ends-so : (reads : Bool) (first : List Script) (budget : ℕ) (finish : Finish) (left left' : ℕ) → left' ≡ left → StopsAt reads first budget finish left → EndCause reads first budget finish left'
ends-so reads first budget Commands left left' same stops = subst (λ (n : ℕ). StopsAt reads first budget Commands n) (sym same) stops
ends-so reads first budget (Exit status) left left' same stops = subst (λ (n : ℕ). StopsAt reads first budget (Exit status) n) (sym same) stops
ends-so reads first budget EndOfInput left left' same stops = subst (λ (n : ℕ). StopsAt reads first budget EndOfInput n) (sym same) stops
ends-so reads first budget FlushFailed left left' same stops = subst (λ (n : ℕ). StopsAt reads first budget FlushFailed n) (sym same) stops
ends-so reads first budget Console left left' same stops = subst (λ (n : ℕ). StopsAt reads first budget Console n) (sym same) stops
ends-so reads first budget Input left left' same stops = subst (λ (n : ℕ). StopsAt reads first budget Input n) (sym same) stops
ends-so reads first budget OutOfMemory left left' same stops = tt
