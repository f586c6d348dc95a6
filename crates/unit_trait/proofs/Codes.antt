-- The code of a kind tells it from every other one.
use Rattle.std.proofs.Common.{◌≡◌, ℕ, ◌==◌, true, arith, refl, ap, sym, ◌∙◌, if◌then◌else◌}
use Rattle.std.proofs.lemmas.Bool.Decides.{nat_tests}
use Rattle.unit_trait.specs.declared.kind.Kind.{Kind}
use Rattle.unit_trait.specs.declared.kind.Kind.TheVariants.{Dsk, Mta, Lpt, Ptr, Ptp, Clk, Tti, Tto, Tti1, Tto1, Qty}
use Rattle.unit_trait.specs.declared.kind.UnitName.{UnitName}
use Rattle.unit_trait.specs.Kinds.{code_of, same_unit}
use Rattle.unit_trait.proofs.EveryKind.{every-kind}

-- the kind with a code, where there is one
kind_with : ℕ → Kind
kind_with code =
    if code == 0o20 then Dsk else if code == 0o22 then Mta else if code == 0o17 then Lpt else if code == 0o12 then Ptr
    else if code == 0o13 then Ptp else if code == 0o14 then Clk else if code == 0o10 then Tti else if code == 0o11 then Tto
    else if code == 0o50 then Tti1 else if code == 0o51 then Tto1 else Qty

with-code : (kind : Kind) → kind_with (code_of kind) ≡ kind
unfolding kind_with
with-code kind = every-kind (λ (k : Kind). kind_with (code_of k) ≡ k) (refl, refl, refl, refl, refl, refl, refl, refl, refl, refl, refl) kind

pub same-code : (a b : Kind) → code_of a ≡ code_of b → a ≡ b
same-code a b same = sym (with-code a) ∙ ap kind_with same ∙ with-code b

pub same-self : (u : UnitName) → same_unit u u ≡ true
same-self u = grind (arith, nat_tests)
