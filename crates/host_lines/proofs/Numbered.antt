-- Which calls fail, once one more has begun.
use mathlib.Core.Path.{fun_ext}
use Rattle.std.proofs.Common.{◌≡◌, ◌∙◌, ap, sym, arith, ℕ, suc, ◌+◌, ◌-◌, ◌^◌, ◌==◌, ◌&&◌, nat_lt, false, List, Some, None, if◌then◌else◌, inl, inr}
use Rattle.std.specs.List.{list_any}
use Rattle.std.proofs.lemmas.Bool.Decides.{eqb_tells, leb_tells}
use Rattle.host_lines.specs.MemLines.{fails_from, next_number}

-- behind the last number there is none
past_last : (n k : ℕ) (failing : List ℕ) → n ≡ 2 ^ 64 - 1 → false ≡ fails_from (Some n) failing (k + 1)
past_last n k failing is = elim (leb_tells (suc (n + (k + 1))) (2 ^ 64)) [
  | inl e ↦ absurd (omega (arith, is, e.1))
  | inr e ↦ sym (ap (λ b. b && list_any (λ f. f == n + (k + 1)) failing) e.0)
]

one_on : (n k : ℕ) (failing : List ℕ) → fails_from (Some (n + 1)) failing k ≡ fails_from (Some n) failing (k + 1)
one_on n k failing = ap (λ m. nat_lt m (2 ^ 64) && list_any (λ f. f == m) failing) (omega arith)

pub fails_later : (n : ℕ) (failing : List ℕ) → fails_from (next_number n) failing ≡ (λ k. fails_from (Some n) failing (k + 1))
fails_later n failing = elim (eqb_tells n (2 ^ 64 - 1)) as (λ x. fails_from (next_number n) failing ≡ (λ k. fails_from (Some n) failing (k + 1))) [
  | inl e ↦ ap (λ b. fails_from (if b then None else Some (n + 1)) failing) e.0 ∙ fun_ext (λ k. past_last n k failing e.1)
  | inr e ↦ ap (λ b. fails_from (if b then None else Some (n + 1)) failing) e.0 ∙ fun_ext (λ k. one_on n k failing)
]
