-- Entries of saved watch tables that are added one behind another.
use Rattle.std.proofs.Common.{◌≡◌, ℕ, zero, suc, ◌+◌, ◌<◌, ◌≤◌, ◌^◌, ◌∷◌, ◌++◌, List, [], length, map, take, get_or, refl, sym, ap, subst, ◌∙◌, arith}
use Rattle.std.specs.List.{AllByRecursion}
use Rattle.std.proofs.lemmas.Bool.{leb-true}
use Rattle.std.proofs.lemmas.List.{take_more, take_all, length-map, length-take-le, map_push}
use Rattle.expect_actions.specs.declared.breaks.Break.{Break}
use Rattle.expect_actions.specs.declared.expects.Expect.{Expect}
use Rattle.expect_actions.specs.Breaks.{BreakTable, with_break, Rising}
use Rattle.expect_actions.specs.Breaks.{table as break_table}
use Rattle.expect_actions.specs.Expects.{ExpectTable, with_expect, table as expect_table}
use Rattle.expect_actions.specs.Filled.{with_breaks, with_sends}
use Rattle.expect_actions.specs.Sends.{Send, queued, InTime}
use Rattle.expect_actions.proofs.FilledLemmas.{tables-filled}
use Rattle.saved_session.specs.declared.saved.SavedBreak.{SavedBreak}
use Rattle.saved_session.specs.declared.saved.SavedExpect.{SavedExpect}
use Rattle.saved_session.specs.declared.saved.SavedSend.{SavedSend}
use Rattle.saved_session.specs.Parts.{break_in, expect_in}
use Rattle.saved_session.specs.SavedWatch.{break_from, expect_from, send_from}
use Rattle.saved_session.specs.Order.{behind_break, behind_send}
use Rattle.saved_session.specs.Valid.{Follow, IsBreak, IsExpect, IsSend}
use Rattle.saved_session.proofs.WatchOrder.{address-from, breaks-rise, sends-in-time}

-- ---- what holds of the first ones

first-all : {A : Type 0} (P : A → Type 0) (n : ℕ) (xs : List A) → AllByRecursion P xs → AllByRecursion P (take n xs)
first-all P zero xs all = tt
first-all P (suc n) [] all = tt
first-all P (suc n) (x ∷ xs) all = (all.0, first-all P n xs all.1)

first-rising : (n : ℕ) (list : List Break) → Rising list → Rising (take n list)
first-rising zero list rising = tt
first-rising (suc n) [] rising = tt
first-rising (suc n) (b ∷ list) rising =
    (first-all (λ (later : Break). b.address < later.address) n list rising.0, first-rising n list rising.1)

first-in-time : (n : ℕ) (sends : List Send) → InTime sends → InTime (take n sends)
first-in-time zero sends in_time = tt
first-in-time (suc n) [] in_time = tt
first-in-time (suc n) (s ∷ sends) in_time = (
  in_time.0,
  first-all (λ (later : Send). s.0 ≤ later.0) n sends in_time.1,
  first-in-time n sends in_time.2,
)

first-mapped : {A B : Type 0} (f : A → B) (n : ℕ) (xs : List A) → map f (take n xs) ≡ take n (map f xs)
first-mapped f zero xs = refl
first-mapped f (suc n) [] = refl
first-mapped f (suc n) (x ∷ xs) = ap (λ (l : List _). f x ∷ l) (first-mapped f n xs)

-- the first ones, and one more
one-more : {A B : Type 0} (f : A → B) (xs : List A) (i : ℕ) (x : A) → i < length xs → x ≡ get_or xs i x
    → map f (take (i + 1) xs) ≡ map f (take i xs) ++ f x ∷ []
one-more {A} f xs i x within is =
    let e : take (i + 1) xs ≡ take i xs ++ x ∷ [] =
    take_more xs i x within ∙ ap (λ (y : A). take i xs ++ y ∷ []) (sym is) in
    ap (map f) e ∙ map_push f (take i xs) x

-- ---- breaks

abbrev pub break_said : SavedBreak → Break
break_said b = break_from (break_in b)

pub breaks-said : (xs : List SavedBreak) → map break_from (map break_in xs) ≡ map break_said xs
breaks-said [] = refl
breaks-said (x ∷ xs) = ap (λ (l : List Break). break_said x ∷ l) (breaks-said xs)

with-last : (front list : List Break) (b : Break) → with_breaks front (list ++ b ∷ []) ≡ with_break b (with_breaks front list)
with-last front [] b = refl
with-last front (x ∷ list) b = with-last (with_break x front) list b

-- what is asked of a break before it is added
pub record CanBreak (b : SavedBreak) : Type 0 where
  pub address : b.address < 2 ^ 15
  pub short : length b.actions.items ≤ 512

pub each-breaks : (least : ℕ) (bs : List SavedBreak) → Follow IsBreak behind_break least (map break_in bs)
    → AllByRecursion CanBreak bs
each-breaks least [] follow = tt
each-breaks least (b ∷ bs) follow = (
  record {
    address = (address-from least (break_in b) follow.0).1;
    short = leb-true (length b.actions.items) 512 follow.0.actions.short;
  },
  each-breaks (b.address + 1) bs follow.1,
)

-- the table of the first so many
abbrev pub BreaksSoFar : BreakTable → ℕ → List SavedBreak → Type 0
BreaksSoFar t i bs = t ≡ break_table (map break_said (take i bs)) []

pub break-more : (bs : List SavedBreak) (i : ℕ) (b : SavedBreak) (t n : BreakTable) → i < length bs → b ≡ get_or bs i b
    → Follow IsBreak behind_break 0 (map break_in bs) → n ≡ break_table (with_break (break_said b) t.list) t.actions
    → BreaksSoFar t i bs → BreaksSoFar n (i + 1) bs
break-more bs i b t n within is follow becomes so_far =
    let rising : (k : ℕ) → Rising (map break_said (take k bs)) =
    λ (k : ℕ). subst Rising (sym (first-mapped break_said k bs))
    (first-rising k (map break_said bs) (subst Rising (breaks-said bs) (breaks-rise 0 (map break_in bs) follow))) in
    let more = one-more break_said bs i b within is in
    let last : with_break (break_said b) (map break_said (take i bs)) ≡ map break_said (take (i + 1) bs) =
    ap (with_break (break_said b)) (sym (tables-filled.breaks (map break_said (take i bs)) (rising i)))
    ∙ sym (with-last [] (map break_said (take i bs)) (break_said b))
    ∙ ap (with_breaks []) (sym more)
    ∙ tables-filled.breaks (map break_said (take (i + 1) bs)) (rising (i + 1)) in
    becomes
    ∙ ap (λ (x : BreakTable). break_table (with_break (break_said b) x.list) x.actions) so_far
    ∙ ap (λ (l : List Break). break_table l []) last

pub room-so-far : {A B : Type 0} (f : A → B) (xs : List A) (i most : ℕ) → i < length xs → length xs ≤ most
    → length (map f (take i xs)) < most
room-so-far f xs i most within few =
    let all = length-map (take i xs) f in
    let some = length-take-le i xs (omega (arith, within)) in
    omega (arith, all, some)

pub breaks-end : (bs : List SavedBreak) (i : ℕ) (t : BreakTable) → length bs ≤ i → BreaksSoFar t i bs
    → t ≡ break_table (map break_from (map break_in bs)) []
breaks-end bs i t most so_far =
    so_far ∙ ap (λ (l : List SavedBreak). break_table (map break_said l) []) (take_all i bs most)
    ∙ ap (λ (l : List Break). break_table l []) (sym (breaks-said bs))

-- ---- texts

abbrev pub expect_said : SavedExpect → Expect
expect_said e = expect_from (expect_in e)

expects-said : (xs : List SavedExpect) → map expect_from (map expect_in xs) ≡ map expect_said xs
expects-said [] = refl
expects-said (x ∷ xs) = ap (λ (l : List Expect). expect_said x ∷ l) (expects-said xs)

pub each-expects : (es : List SavedExpect) → AllByRecursion IsExpect (map expect_in es)
    → AllByRecursion (λ (e : SavedExpect). IsExpect (expect_in e)) es
each-expects [] all = tt
each-expects (e ∷ es) all = (all.0, each-expects es all.1)

abbrev pub ExpectsSoFar : ExpectTable → ℕ → List SavedExpect → Type 0
ExpectsSoFar t i es = t ≡ expect_table (map expect_said (take i es)) [] []

pub expect-more : (es : List SavedExpect) (i : ℕ) (e : SavedExpect) (t n : ExpectTable) → i < length es
    → e ≡ get_or es i e → n ≡ with_expect (expect_said e) t → ExpectsSoFar t i es → ExpectsSoFar n (i + 1) es
expect-more es i e t n within is becomes so_far =
    becomes ∙ ap (with_expect (expect_said e)) so_far
    ∙ ap (λ (l : List Expect). expect_table l [] []) (sym (one-more expect_said es i e within is))

pub expects-end : (es : List SavedExpect) (i : ℕ) (tail : List ℕ) (t n : ExpectTable) → length es ≤ i
    → ExpectsSoFar t i es → n ≡ expect_table t.list tail t.actions
    → n ≡ expect_table (map expect_from (map expect_in es)) tail []
expects-end es i tail t n most so_far becomes =
    becomes ∙ ap (λ (x : ExpectTable). expect_table x.list tail x.actions) so_far
    ∙ ap (λ (l : List SavedExpect). expect_table (map expect_said l) tail []) (take_all i es most)
    ∙ ap (λ (l : List Expect). expect_table l tail []) (sym (expects-said es))

-- ---- bytes

queued-last : (front list : List Send) (s : Send)
    → with_sends front (list ++ s ∷ []) ≡ queued s.0 0 0 (s.1 ∷ []) (with_sends front list)
queued-last front [] s = refl
queued-last front (x ∷ list) s = queued-last (queued x.0 0 0 (x.1 ∷ []) front) list s

abbrev pub SendsSoFar : List Send → ℕ → List SavedSend → Type 0
SendsSoFar l i ss = l ≡ map send_from (take i ss)

pub send-more : (ss : List SavedSend) (i : ℕ) (d : SavedSend) (l n : List Send) → i < length ss
    → Follow IsSend behind_send 0 ss → n ≡ queued (get_or ss i d).time 0 0 ((get_or ss i d).byte ∷ []) l
    → SendsSoFar l i ss → SendsSoFar n (i + 1) ss
send-more ss i d l n within follow becomes so_far =
    let s = get_or ss i d in
    let in_time : (k : ℕ) → InTime (map send_from (take k ss)) =
    λ (k : ℕ). subst InTime (sym (first-mapped send_from k ss))
    (first-in-time k (map send_from ss) (sends-in-time 0 ss follow)) in
    let more : map send_from (take (i + 1) ss) ≡ map send_from (take i ss) ++ send_from s ∷ [] =
    ap (map send_from) (take_more ss i d within) ∙ map_push send_from (take i ss) s in
    becomes
    ∙ ap (queued s.time 0 0 (s.byte ∷ [])) (so_far ∙ sym (tables-filled.sends (map send_from (take i ss)) (in_time i)))
    ∙ sym (queued-last [] (map send_from (take i ss)) (send_from s))
    ∙ ap (with_sends []) (sym more)
    ∙ tables-filled.sends (map send_from (take (i + 1) ss)) (in_time (i + 1))

pub sends-end : (ss : List SavedSend) (i : ℕ) (l : List Send) → length ss ≤ i → SendsSoFar l i ss
    → l ≡ map send_from ss
sends-end ss i l most so_far = so_far ∙ ap (map send_from) (take_all i ss most)
