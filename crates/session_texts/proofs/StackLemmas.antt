-- The innermost of the scripts that are open.
use Rattle.std.proofs.Common.{◌≡◌, ◌||◌, Bool, true, false, nat_lt, List, [], ◌∷◌, length, ap, ◌∙◌, if◌then◌else◌}
use Rattle.session_texts.specs.Scripts.{Script, still_open, behind_failure}

pub still-none : (scripts : List Script) → scripts ≡ [] → still_open scripts ≡ []
unfolding still_open
still-none scripts none = ap still_open none

-- where its last line was done it is closed
pub still-closed : (scripts : List Script) (script : Script) (outer : List Script) → scripts ≡ script ∷ outer → nat_lt script.place (length script.text) ≡ false
    → still_open scripts ≡ still_open outer
unfolding still_open
still-closed scripts script outer is past = ap still_open is ∙ ap (λ (b : Bool). if b then script ∷ outer else still_open outer) past

pub still-kept : (scripts : List Script) (script : Script) (outer : List Script) → scripts ≡ script ∷ outer → nat_lt script.place (length script.text) ≡ true
    → still_open scripts ≡ script ∷ outer
unfolding still_open
still-kept scripts script outer is more = ap still_open is ∙ ap (λ (b : Bool). if b then script ∷ outer else still_open outer) more

-- a failed command ends it, or not
pub failure-ends : (ends : Bool) (scripts : List Script) (script : Script) (outer : List Script) → scripts ≡ script ∷ outer → (ends || script.strict) ≡ true
    → behind_failure ends scripts ≡ behind_failure false outer
unfolding behind_failure
failure-ends ends scripts script outer is over =
    ap (behind_failure ends) is ∙ ap (λ (b : Bool). if b then behind_failure false outer else script ∷ outer) over

pub failure-leaves : (ends : Bool) (scripts : List Script) (script : Script) (outer : List Script) → scripts ≡ script ∷ outer → (ends || script.strict) ≡ false
    → behind_failure ends scripts ≡ script ∷ outer
unfolding behind_failure
failure-leaves ends scripts script outer is over =
    ap (behind_failure ends) is ∙ ap (λ (b : Bool). if b then behind_failure false outer else script ∷ outer) over

pub failure-nil : (ends : Bool) (scripts : List Script) → scripts ≡ [] → behind_failure ends scripts ≡ []
unfolding behind_failure
failure-nil ends scripts none = ap (behind_failure ends) none
