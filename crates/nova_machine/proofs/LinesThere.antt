-- Which lines a machine has, by its units.
use Rattle.std.proofs.Common.{◌≡◌, ◌∙◌, sym, ap, refl, ℕ, ◌<◌, ◌≤◌, nat_lt, get_or, ◌⊎◌, inl, inr, arith, Bool, ◌||◌, List, length, slice_get, slice_set, Option, Some, None, subst, is_some, IsSome, IfSome, option_map, if◌then◌else◌}
use Rattle.std.proofs.lemmas.List.{length-set, length-replicate}
use Rattle.std.proofs.lemmas.Option.{slice_get_cases, slice_get_read}
use Rattle.std.proofs.lemmas.Bool.{false≢true}
use Rattle.std.proofs.lemmas.Bool.Decides.{nat_tests}
use Rattle.telnet_lines.specs.Line.{LineOf}
use Rattle.unit_trait.specs.declared.kind.Kind.{Kind}
use Rattle.unit_trait.specs.declared.kind.Kind.TheVariants.{Tti1, Tto1, Qty}
use Rattle.unit_trait.specs.Kinds.{code_of}
use Rattle.unit_trait.specs.Calls.{UnitState}
use Rattle.unit_list.specs.Bus.{unit_at, kinds_of}
use Rattle.unit_list.proofs.Calls.{there-kinds}
use Rattle.nova_machine.specs.Machine.{line_count, terminal_lines_for, HasItsLines}

-- the kinds alone say how many lines there are
count-by-kinds : (us vs : List UnitState) → kinds_of us ≡ kinds_of vs → line_count us ≡ line_count vs
count-by-kinds us vs same =
    let there : (code : ℕ) → is_some (unit_at code us) ≡ is_some (unit_at code vs) = λ code. there-kinds code us vs same in
    let by : Bool → Bool → Bool → ℕ = λ mux keys printer. if mux then 65 else if keys || printer then 1 else 0 in
    ap (λ (b : Bool). by b (is_some (unit_at (code_of Tti1) us)) (is_some (unit_at (code_of Tto1) us))) (there (code_of Qty))
    ∙ ap (λ (b : Bool). by (is_some (unit_at (code_of Qty) vs)) b (is_some (unit_at (code_of Tto1) us))) (there (code_of Tti1))
    ∙ ap (λ (b : Bool). by (is_some (unit_at (code_of Qty) vs)) (is_some (unit_at (code_of Tti1) vs)) b) (there (code_of Tto1))

pub own_lines : (us : List UnitState) (lines : List (LineOf ℕ)) → lines ≡ terminal_lines_for us → HasItsLines (kinds_of us) lines
unfolding HasItsLines
own_lines us lines are = λ vs same. ap (λ (ls : List (LineOf ℕ)). length ls) are ∙ length-replicate (line_count us) _ ∙ sym (count-by-kinds vs us same)

-- a line that is changed is still there, and no other comes or goes
pub set-has : (kinds : List Kind) (lines : List (LineOf ℕ)) (n : ℕ) (line : LineOf ℕ) → HasItsLines kinds lines → HasItsLines kinds (slice_set lines n line)
unfolding HasItsLines
set-has kinds lines n line has = λ us same. length-set lines n line ∙ has us same

map-some : {A B : Type 0} (f : A → B) (o : Option A) → is_some (option_map f o) ≡ is_some o
map-some f None = refl
map-some f (Some a) = refl

is-within : (lines : List (LineOf ℕ)) (n : ℕ) → is_some (slice_get lines n) ≡ nat_lt n (length lines)
is-within lines n = by (slice_get_cases lines n).1
  where
    by : ((x : LineOf ℕ) × (n < length lines) × (slice_get lines n ≡ Some x) × (get_or lines n x ≡ x)) ⊎ ((length lines ≤ n) × (slice_get lines n ≡ None))
        → is_some (slice_get lines n) ≡ nat_lt n (length lines)
    by (inl (x, within, is, read)) = grind (arith, nat_tests, within, is)
    by (inr (past, none)) = grind (arith, nat_tests, past, none)

pub counted : (us : List UnitState) (lines : List (LineOf ℕ)) → HasItsLines (kinds_of us) lines → length lines ≡ line_count us
unfolding HasItsLines
counted us lines has = has us refl

-- what is lent of the lines is there just where the units say so
pub lent-there : {A : Type 0} (f : A → LineOf ℕ) (o : Option A) (us : List UnitState) (lines : List (LineOf ℕ)) (n : ℕ) → HasItsLines (kinds_of us) lines
    → option_map f o ≡ slice_get lines n → is_some o ≡ nat_lt n (line_count us)
lent-there f o us lines n has is =
    sym (map-some f o) ∙ ap (λ (x : Option (LineOf ℕ)). is_some x) is ∙ is-within lines n ∙ ap (λ (k : ℕ). nat_lt n k) (counted us lines has)

pub lent-value : {A : Type 0} (f : A → LineOf ℕ) (o : Option A) (lines : List (LineOf ℕ)) (count n : ℕ) → count ≡ length lines
    → (IsSome o → n < count) × (n < count → IsSome o) → IfSome o (λ a. f a ≡ get_or lines n (f a)) → option_map f o ≡ slice_get lines n
lent-value f None lines count n long there is = by (slice_get_cases lines n).1
  where
    by : ((x : LineOf ℕ) × (n < length lines) × (slice_get lines n ≡ Some x) × (get_or lines n x ≡ x)) ⊎ ((length lines ≤ n) × (slice_get lines n ≡ None))
        → None ≡ slice_get lines n
    by (inl (x, within, held, read)) = absurd (false≢true (there.1 (subst (λ (k : ℕ). n < k) (sym long) within)))
    by (inr (past, none)) = sym none
lent-value f (Some a) lines count n long there is = sym (slice_get_read lines count n (f a) long (there.0 refl) is)
