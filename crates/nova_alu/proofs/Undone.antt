-- MUL and DIV undo each other, where the high word of the dividend, or the addend, is below AC2.
use Rattle.std.proofs.Common.{◌≡◌, ℕ, ◌+◌, ◌*◌, ◌/◌, ◌%◌, ◌<◌, List, [], ◌∷◌, length, slice_index_or, false, nat_le, refl, arith, lit<}
use Rattle.std.proofs.lemmas.Bool.{lt-leb}
use Rattle.std.proofs.lemmas.Nat.{div-add-mod', div-mul-add, mod-mul-add, mul-add-lt, div_below}
use Rattle.std.proofs.Math.Nat.{div-add-mod}
use Rattle.nova_alu.specs.MultiplyDivide.{multiplied, divided}

-- a list of four is that of its items, each read by some default
pub four_items : (acs : List ℕ) (d0 d1 d2 d3 : ℕ) → length acs ≡ 4 →
    slice_index_or acs 0 d0 ∷ slice_index_or acs 1 d1 ∷ slice_index_or acs 2 d2 ∷ slice_index_or acs 3 d3 ∷ [] ≡ acs
four_items [] d0 d1 d2 d3 four = absurd (omega (arith, four))
four_items (a ∷ []) d0 d1 d2 d3 four = absurd (omega (arith, four))
four_items (a ∷ b ∷ []) d0 d1 d2 d3 four = absurd (omega (arith, four))
four_items (a ∷ b ∷ c ∷ []) d0 d1 d2 d3 four = absurd (omega (arith, four))
four_items (a ∷ b ∷ c ∷ d ∷ []) d0 d1 d2 d3 four = refl
four_items (a ∷ b ∷ c ∷ d ∷ e ∷ more) d0 d1 d2 d3 four = absurd (omega (arith, four))

-- MUL of quotient and remainder gives the dividend
pub mul_undoes_div : (high low by other : ℕ) → high < by → low < 65536 →
    multiplied ((high * 65536 + low) % by ∷ (high * 65536 + low) / by ∷ by ∷ other ∷ []) ≡ high ∷ low ∷ by ∷ other ∷ []
unfolding multiplied
mul_undoes_div high low by other fits word =
    rw (div-add-mod' (high * 65536 + low) by, div-mul-add high 65536 low word, mod-mul-add high 65536 low word) refl

-- DIV of a product and an addend below AC2 gives the factor and the addend
pub div_undoes_mul : (addend factor by other : ℕ) → addend < by → factor < 65536 →
    divided ((factor * by + addend) / 65536 ∷ (factor * by + addend) % 65536 ∷ by ∷ other ∷ []) ≡ addend ∷ factor ∷ by ∷ other ∷ []
unfolding divided
div_undoes_mul addend factor by other below word =
    let high_below : (factor * by + addend) / 65536 < by =
    div_below (factor * by + addend) 65536 by (lit< tt) (mul-add-lt factor by addend 65536 word below) in
    let fits : nat_le by ((factor * by + addend) / 65536) ≡ false = lt-leb by ((factor * by + addend) / 65536) high_below in
    rw (fits, div-add-mod (factor * by + addend) 65536, div-mul-add factor by addend below, mod-mul-add factor by addend below) refl
