-- Matches of expects.
use Rattle.std.proofs.Common.{◌≡◌, ℕ, ◌<◌, ltb, leb, Bool, true, false, cond, List, [], ◌++◌, length, get_or, set, take, remove, Option, Some, None, sym, ap, ◌∙◌}
use Rattle.std.proofs.lemmas.Bool.{ltb-true, ltb-false, lt-leb, le-leb}
use Rattle.std.proofs.lemmas.List.{take_at}
use Rattle.std.proofs.lemmas.List.Quantifiers.{position-Some}
use Rattle.std.proofs.lemmas.Option.{slice_get-get_or}
use Rattle.expect_actions.specs.declared.expects.Expect.{Expect}
use Rattle.expect_actions.specs.Expects.{ExpectTable, table, ends_in, first_match, stop_of, counted_down, matched}

-- the bytes that were copied first into a longer place
pub copied : (n : ℕ) (printed rest out : List ℕ) → n ≡ length printed → out ≡ printed ++ rest → take n out ≡ printed
copied n printed rest out long is = ap (take n) is ∙ take_at printed rest n (sym long)

-- a place that is found is in the list
pub found : (printed : List ℕ) (list : List Expect) (k : ℕ) (d : Expect) → first_match printed list ≡ Some k → k < length list
found printed list k d at = (position-Some (λ (e : Expect). ends_in printed e.text) list k d at).0

-- a count is above 1, or it is not
not_least : (v : Bool) (n : ℕ) → v ≡ ltb 1 n → v ≡ true → leb n 1 ≡ false
not_least v n is above = lt-leb n 1 (ltb-true 1 n (sym is ∙ above))

least : (v : Bool) (n : ℕ) → v ≡ ltb 1 n → v ≡ false → leb n 1 ≡ true
least v n is above = le-leb n 1 (ltb-false 1 n (sym is ∙ above))

-- a match of the expect at a place, by what stands there and by its count
abbrev choice_stop : ℕ → Option Expect → Option ℕ
choice_stop k o = elim o [ None ↦ None | Some e ↦ cond (leb e.count 1) (Some k) None ]

abbrev choice_table : ℕ → ExpectTable → Option Expect → ExpectTable
choice_table k t o = elim o [
  | None ↦ table t.list [] t.actions
  | Some e ↦ cond (leb e.count 1) (table (remove t.list k) [] e.actions) (table (set t.list k (counted_down e)) [] t.actions)
]

stop_is : (list : List Expect) (k : ℕ) (d : Expect) → k < length list → stop_of (Some k) list ≡ cond (leb (get_or list k d).count 1) (Some k) None
stop_is list k d within = ap (choice_stop k) (slice_get-get_or list k d within)

table_is : (t : ExpectTable) (printed : List ℕ) (k : ℕ) (d : Expect) → k < length t.list
    → matched (Some k) printed t ≡ cond (leb (get_or t.list k d).count 1) (table (remove t.list k) [] (get_or t.list k d).actions) (table (set t.list k (counted_down (get_or t.list k d))) [] t.actions)
table_is t printed k d within = ap (choice_table k t) (slice_get-get_or t.list k d within)

-- a match that does not stop
pub on_stop : (list : List Expect) (k : ℕ) (d : Expect) (v : Bool) → k < length list → v ≡ ltb 1 (get_or list k d).count → v ≡ true → stop_of (Some k) list ≡ None
on_stop list k d v within is above =
    stop_is list k d within ∙ ap (λ (v : Bool). cond v (Some k) None) (not_least v (get_or list k d).count is above)

pub on_table : (t : ExpectTable) (printed : List ℕ) (k : ℕ) (d : Expect) (v : Bool) → k < length t.list → v ≡ ltb 1 (get_or t.list k d).count → v ≡ true
    → matched (Some k) printed t ≡ table (set t.list k (counted_down (get_or t.list k d))) [] t.actions
on_table t printed k d v within is above =
    table_is t printed k d within
    ∙ ap (λ (v : Bool). cond v (table (remove t.list k) [] (get_or t.list k d).actions) (table (set t.list k (counted_down (get_or t.list k d))) [] t.actions)) (not_least v (get_or t.list k d).count is above)

-- a match that stops
pub at_stop : (list : List Expect) (k : ℕ) (d : Expect) (v : Bool) → k < length list → v ≡ ltb 1 (get_or list k d).count → v ≡ false → stop_of (Some k) list ≡ Some k
at_stop list k d v within is above =
    stop_is list k d within ∙ ap (λ (v : Bool). cond v (Some k) None) (least v (get_or list k d).count is above)

pub at_table : (t : ExpectTable) (printed : List ℕ) (k : ℕ) (d : Expect) (v : Bool) → k < length t.list → v ≡ ltb 1 (get_or t.list k d).count → v ≡ false
    → matched (Some k) printed t ≡ table (remove t.list k) [] (get_or t.list k d).actions
at_table t printed k d v within is above =
    table_is t printed k d within
    ∙ ap (λ (v : Bool). cond v (table (remove t.list k) [] (get_or t.list k d).actions) (table (set t.list k (counted_down (get_or t.list k d))) [] t.actions)) (least v (get_or t.list k d).count is above)
