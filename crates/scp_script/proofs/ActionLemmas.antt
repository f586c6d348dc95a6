-- Whether the actions of a stop fit in front of those that wait.
use Rattle.std.proofs.Common.{◌≡◌, ℕ, ◌+◌, ◌<◌, Bool, true, false, List, [], ◌++◌, length, nat_lt, refl, ap, sym, ◌∙◌, subst, append-nil, if◌then◌else◌}
use Rattle.std.proofs.lemmas.Bool.{ltb-true, lt-ltb}
use Rattle.command_session.specs.declared.fault.CommandFault.TheVariants.{Full}
use Rattle.command_session.specs.FaultText.{fault_text}
use Rattle.expect_actions.specs.Actions.{split}
use Rattle.scp_script.specs.declared.progress.Progress.{Progress}
use Rattle.scp_script.specs.declared.progress.Progress.TheVariants.{GoesOn}
use Rattle.session_texts.specs.Actions.{overflows, put_first, overflow_text}
use Rattle.scp_script.specs.Loop.{Complains}

-- they were taken
test-false : (n : ℕ) (b : Bool) → ((64 < n) → false ≡ true) → nat_lt 64 n ≡ b → nat_lt 64 n ≡ false
test-false n false never e = e
test-false n true never e =
    let other : false ≡ true = never (ltb-true 64 n e) in
    absurd (cc)

pub taken-fits : (text : List ℕ) (waiting : List (List ℕ)) → ((64 < length waiting + length (split text)) → false ≡ true) → overflows text waiting ≡ false
taken-fits text waiting never = test-false (length waiting + length (split text)) (nat_lt 64 (length waiting + length (split text))) never refl

-- they were not
pub refused-overflows : (text : List ℕ) (waiting : List (List ℕ)) → 64 < length waiting + length (split text) → overflows text waiting ≡ true
refused-overflows text waiting more = lt-ltb 64 (length waiting + length (split text)) more

pub put-taken : (text : List ℕ) (waiting : List (List ℕ)) → overflows text waiting ≡ false → split text ++ waiting ≡ put_first text waiting
put-taken text waiting fits = ap (λ (b : Bool). if b then waiting else split text ++ waiting) (sym fits)

pub put-refused : (text : List ℕ) (waiting : List (List ℕ)) → overflows text waiting ≡ true → waiting ≡ put_first text waiting
put-refused text waiting full = ap (λ (b : Bool). if b then waiting else split text ++ waiting) (sym full)

-- nothing is printed where they fit, and else the fault's text
pub quiet-taken : (text : List ℕ) (waiting : List (List ℕ)) (tells : Bool) (before : List ℕ) → overflows text waiting ≡ false → Complains tells before (overflow_text text waiting) GoesOn before
quiet-taken text waiting tells before fits = λ told. sym (append-nil before) ∙ ap (λ (b : Bool). before ++ (if b then fault_text Full else [])) (sym fits)

pub said-refused : (text : List ℕ) (waiting : List (List ℕ)) (tells : Bool) (before after : List ℕ) (result : Progress) → overflows text waiting ≡ true → Complains tells before (fault_text Full) result after
    → Complains tells before (overflow_text text waiting) result after
said-refused text waiting tells before after result full told =
    subst (λ (b : Bool). Complains tells before (if b then fault_text Full else []) result after) (sym full) told
