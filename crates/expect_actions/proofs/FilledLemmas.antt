-- Entries that are added in their order each come behind the others.
use Rattle.std.proofs.Common.{◌≡◌, ℕ, ◌<◌, ◌≤◌, ◌+◌, ◌^◌, min, max, ltb, List, [], ◌∷◌, ◌++◌, refl, sym, ap, subst, ◌∙◌, append_assoc, append-nil, arith}
use Rattle.std.specs.List.{AllByRecursion}
use Rattle.std.proofs.lemmas.Bool.{lt-ltb, le-ltb}
use Rattle.expect_actions.specs.declared.breaks.Break.{Break}
use Rattle.expect_actions.specs.declared.expects.Expect.{Expect}
use Rattle.expect_actions.specs.Breaks.{with_break, Rising}
use Rattle.expect_actions.specs.Expects.{ExpectTable, with_expect}
use Rattle.expect_actions.specs.Sends.{Send, last_behind, last_queued, queued, InTime}
use Rattle.expect_actions.specs.Filled.{with_breaks, with_expects, with_sends, TablesAreFilled}
use Rattle.expect_actions.proofs.BreakLemmas.{below, above, yes, otherwise}

-- what holds of all holds of the one behind some
there : {A : Type 0} (P : A → Type 0) (front : List A) (x : A) (others : List A) → AllByRecursion P (front ++ x ∷ others) → P x
there P [] x others all = all.0
there P (y ∷ front) x others all = there P front x others all.1

-- ---- breaks
lower-before : (front : List Break) (b : Break) (others : List Break) → Rising (front ++ b ∷ others) → AllByRecursion (λ (x : Break). x.address < b.address) front
lower-before [] b others rising = tt
lower-before (x ∷ front) b others rising =
    (there (λ (later : Break). x.address < later.address) front b others rising.0, lower-before front b others rising.1)

all-below : (a : ℕ) (front : List Break) → AllByRecursion (λ (x : Break). x.address < a) front → below a front ≡ front
all-below a [] all = refl
all-below a (x ∷ front) all =
    yes (ltb x.address a) (x ∷ below a front) (below a front) (lt-ltb x.address a all.0) ∙ ap (λ rest. x ∷ rest) (all-below a front all.1)

none-above : (a : ℕ) (front : List Break) → AllByRecursion (λ (x : Break). x.address < a) front → above a front ≡ []
none-above a [] all = refl
none-above a (x ∷ front) all =
    otherwise (ltb a x.address) (x ∷ above a front) (above a front) (le-ltb a x.address (omega (arith, all.0))) ∙ none-above a front all.1

break-last : (front : List Break) (b : Break) (others : List Break) → Rising (front ++ b ∷ others) → with_break b front ≡ front ++ b ∷ []
break-last front b others rising =
    let lower = lower-before front b others rising in
    ap (λ xs. xs ++ b ∷ above b.address front) (all-below b.address front lower)
    ∙ ap (λ xs. front ++ b ∷ xs) (none-above b.address front lower)

breaks-behind : (front list : List Break) → Rising (front ++ list) → with_breaks front list ≡ front ++ list
breaks-behind front [] rising = sym (append-nil front)
breaks-behind front (b ∷ others) rising =
    let joined : (front ++ b ∷ []) ++ others ≡ front ++ b ∷ others = append_assoc front (b ∷ []) others in
    ap (λ xs. with_breaks xs others) (break-last front b others rising)
    ∙ breaks-behind (front ++ b ∷ []) others (subst Rising (sym joined) rising)
    ∙ joined

-- ---- expects
expects-behind : (t : ExpectTable) (list : List Expect) → with_expects t list ≡ record t { list = t.list ++ list }
expects-behind t [] = ap (λ xs. record t { list = xs }) (sym (append-nil t.list))
expects-behind t (e ∷ others) =
    expects-behind (with_expect e t) others ∙ ap (λ xs. record t { list = xs }) (append_assoc t.list (e ∷ []) others)

-- ---- bytes
last-before : (time : ℕ) (front : List Send) (send : Send) (others : List Send) → time ≤ send.0 → InTime (front ++ send ∷ others) → last_behind time front ≤ send.0
last-before time [] send others early in_time = early
last-before time (x ∷ front) send others early in_time =
    last-before x.0 front send others (there (λ (later : Send). x.0 ≤ later.0) front send others in_time.1) in_time.2

within : (front : List Send) (send : Send) (others : List Send) → InTime (front ++ send ∷ others) → send.0 ≤ 2 ^ 62
within [] send others in_time = in_time.0
within (x ∷ front) send others in_time = within front send others in_time.2

at-its-time : (time last : ℕ) → last ≤ time → time ≤ 2 ^ 62 → min (max time last + 0) (2 ^ 62) ≡ time
at-its-time time last early low = omega arith

send-last : (front : List Send) (send : Send) (others : List Send) → InTime (front ++ send ∷ others) → queued send.0 0 0 (send.1 ∷ []) front ≡ front ++ send ∷ []
send-last front send others in_time =
    ap (λ time. front ++ (time, send.1) ∷ [])
    (at-its-time send.0 (last_queued front) (last-before 0 front send others (omega arith) in_time) (within front send others in_time))

sends-behind : (front sends : List Send) → InTime (front ++ sends) → with_sends front sends ≡ front ++ sends
sends-behind front [] in_time = sym (append-nil front)
sends-behind front (send ∷ others) in_time =
    let joined : (front ++ send ∷ []) ++ others ≡ front ++ send ∷ others = append_assoc front (send ∷ []) others in
    ap (λ xs. with_sends xs others) (send-last front send others in_time)
    ∙ sends-behind (front ++ send ∷ []) others (subst InTime (sym joined) in_time)
    ∙ joined

pub tables-filled : TablesAreFilled
tables-filled = record { breaks = breaks-behind []; expects = expects-behind; sends = sends-behind [] }
