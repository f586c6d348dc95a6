-- Units of a standard machine are taken one behind another.
use Rattle.std.proofs.Common.{◌≡◌, ℕ, zero, suc, ◌<◌, ◌&&◌, ◌==◌, Bool, true, false, List, [], ◌∷◌, length, take, Option, Some, inl, inr, refl, sym, ap, subst, ◌∙◌, arith}
use Rattle.std.specs.Prelude.{slice_get, option_map, option_and_then, unwrap_or, is_some, IfSome, not, if◌then◌else◌}
use Rattle.std.proofs.lemmas.Bool.{and_parts, false≢true, not-true}
use Rattle.std.proofs.lemmas.List.{length-map}
use Rattle.std.proofs.lemmas.Option.{slice_get-map}
use Rattle.unit_trait.specs.declared.kind.Kind.{Kind}
use Rattle.unit_trait.specs.declared.kind.Kind.TheVariants.{Qty}
use Rattle.unit_trait.specs.Kinds.{all_kinds, code_of}
use Rattle.unit_trait.specs.Registers.{registers}
use Rattle.unit_trait.specs.Calls.{UnitState}
use Rattle.unit_trait.specs.Row.{Fits}
use Rattle.unit_list.specs.Bus.{AllFit, kinds_of, unit_at, register_in}
use Rattle.unit_list.proofs.Calls.{found-fits}
use Rattle.unit_list.proofs.Room.{kind-found}
use Rattle.unit_list.specs.BusOrder.{place_of}
use Rattle.nova_machine.specs.Machine.{has_multiplexer}
use Rattle.saved_session.specs.Ranges.{kind_at, standard_kinds, most_kinds, register_count}
use Rattle.state_transfer.specs.SavedValid.{AreStandard}
use Rattle.state_transfer.proofs.TakenSizes.{as-many}

-- ---- units, and their registers

-- a register of the unit of a kind
pub register-of : (kind : Kind) (i : ℕ) (us : List UnitState) (u : UnitState) (found : Option ℕ)
    → found ≡ register_in kind i us → unit_at (code_of kind) us ≡ Some u → slice_get u.registers i ≡ found
register-of kind i us u found is there =
    sym (is ∙ ap (λ (o : Option UnitState). option_and_then (λ (v : UnitState). slice_get v.registers i) o) there)

-- the unit of a kind has as many registers as its kind
pub count-of : (kind : Kind) (us : List UnitState) (u : UnitState) → AllFit us → unit_at (code_of kind) us ≡ Some u
    → length u.registers ≡ register_count kind
unfolding register_count
count-of kind us u all there =
    let fits : Fits u = subst (λ (o : Option UnitState). IfSome o Fits) there (found-fits (code_of kind) us all) in
    let same : u.kind ≡ kind = subst (λ (o : Option UnitState). IfSome o (λ v. v.kind ≡ kind)) there (kind-found kind us) in
    as-many (registers u.kind) u.registers fits ∙ ap (λ (k : Kind). length (registers k)) same

-- ---- the units of a standard machine

-- whether the kind at a place is the first with that code
abbrev first_is : ℕ → List Kind → ℕ → Bool
first_is code [] p = false
first_is code (k ∷ ks) zero = code_of k == code
first_is code (k ∷ ks) (suc p) = not (code_of k == code) && first_is code ks p

-- the unit that stands at a place, found by its code
pub record Stands (us : List UnitState) (code p : ℕ) : Type 0 where
  pub unit : UnitState
  pub got : slice_get us p ≡ Some unit
  pub found : unit_at code us ≡ Some unit

stands : (us : List UnitState) (code p : ℕ) → first_is code (kinds_of us) p ≡ true → Stands us code p
stands [] code p first = absurd (false≢true first)
stands (u ∷ us) code zero first =
    record { unit = u; got = refl; found = ap (λ b. if b then Some u else unit_at code us) first }
stands (u ∷ us) code (suc p) first =
    let parts = and_parts _ _ first in
    let behind = stands us code p parts.1 in
    record {
      unit = behind.unit;
      got = behind.got;
      found = ap (λ b. if b then Some u else unit_at code us) (not-true _ parts.0) ∙ behind.found;
    }

-- each kind of a standard machine is at its position, and the first with its code
record IsPlaced (kinds : List Kind) (p : ℕ) : Type 0 where
  first : first_is (code_of (kind_at p)) kinds p ≡ true
  place : option_map place_of (slice_get kinds p) ≡ Some p

placed-ten : (p : ℕ) → p < 10 → IsPlaced (take standard_kinds all_kinds) p
unfolding kind_at
placed-ten zero lt = record { first = refl; place = refl }
placed-ten (suc zero) lt = record { first = refl; place = refl }
placed-ten (suc (suc zero)) lt = record { first = refl; place = refl }
placed-ten (suc (suc (suc zero))) lt = record { first = refl; place = refl }
placed-ten (suc (suc (suc (suc zero)))) lt = record { first = refl; place = refl }
placed-ten (suc (suc (suc (suc (suc zero))))) lt = record { first = refl; place = refl }
placed-ten (suc (suc (suc (suc (suc (suc zero)))))) lt = record { first = refl; place = refl }
placed-ten (suc (suc (suc (suc (suc (suc (suc zero))))))) lt = record { first = refl; place = refl }
placed-ten (suc (suc (suc (suc (suc (suc (suc (suc zero)))))))) lt = record { first = refl; place = refl }
placed-ten (suc (suc (suc (suc (suc (suc (suc (suc (suc zero))))))))) lt = record { first = refl; place = refl }
placed-ten (suc (suc (suc (suc (suc (suc (suc (suc (suc (suc p)))))))))) lt = absurd (omega (arith, lt))

placed-eleven : (p : ℕ) → p < 11 → IsPlaced all_kinds p
unfolding kind_at
placed-eleven zero lt = record { first = refl; place = refl }
placed-eleven (suc zero) lt = record { first = refl; place = refl }
placed-eleven (suc (suc zero)) lt = record { first = refl; place = refl }
placed-eleven (suc (suc (suc zero))) lt = record { first = refl; place = refl }
placed-eleven (suc (suc (suc (suc zero)))) lt = record { first = refl; place = refl }
placed-eleven (suc (suc (suc (suc (suc zero))))) lt = record { first = refl; place = refl }
placed-eleven (suc (suc (suc (suc (suc (suc zero)))))) lt = record { first = refl; place = refl }
placed-eleven (suc (suc (suc (suc (suc (suc (suc zero))))))) lt = record { first = refl; place = refl }
placed-eleven (suc (suc (suc (suc (suc (suc (suc (suc zero)))))))) lt = record { first = refl; place = refl }
placed-eleven (suc (suc (suc (suc (suc (suc (suc (suc (suc zero))))))))) lt = record { first = refl; place = refl }
placed-eleven (suc (suc (suc (suc (suc (suc (suc (suc (suc (suc zero)))))))))) lt = record { first = refl; place = refl }
placed-eleven (suc (suc (suc (suc (suc (suc (suc (suc (suc (suc (suc p))))))))))) lt = absurd (omega (arith, lt))

as-many-kinds : (us : List UnitState) (kinds : List Kind) → kinds_of us ≡ kinds → length us ≡ length kinds
as-many-kinds us kinds same = sym (length-map us (λ (u : UnitState). u.kind)) ∙ ap (λ (ks : List Kind). length ks) same

placed : (us : List UnitState) → AreStandard us → (p : ℕ) → p < length us → IsPlaced (kinds_of us) p
placed us (inl ten) p lt =
    let many = as-many-kinds us (take standard_kinds all_kinds) ten in
    subst (λ (ks : List Kind). IsPlaced ks p) (sym ten) (placed-ten p (omega (arith, lt, many)))
placed us (inr eleven) p lt =
    let many = as-many-kinds us all_kinds eleven in
    subst (λ (ks : List Kind). IsPlaced ks p) (sym eleven) (placed-eleven p (omega (arith, lt, many)))

pub unit-stands : (us : List UnitState) → AreStandard us → (p : ℕ) → p < length us → Stands us (code_of (kind_at p)) p
unit-stands us standard p lt = stands us (code_of (kind_at p)) p (placed us standard p lt).first

pub unit-place : (us : List UnitState) → AreStandard us → (p : ℕ) (u : UnitState) → p < length us
    → slice_get us p ≡ Some u → place_of u.kind ≡ p
unit-place us standard p u lt got =
    let kind : slice_get (kinds_of us) p ≡ Some u.kind = slice_get-map (λ (v : UnitState). v.kind) us p ∙ ap (option_map (λ (v : UnitState). v.kind)) got in
    ap (λ (o : Option ℕ). unwrap_or o p) (sym (ap (option_map place_of) kind) ∙ (placed us standard p lt).place)

-- ---- whether the multiplexer is among them, and how many they are

if-some : (b : Bool) (u : UnitState) (o : Option UnitState) → is_some (if b then Some u else o) ≡ (if b then true else is_some o)
if-some true u o = refl
if-some false u o = refl

-- whether a kind with that code is among these
has_code : ℕ → List Kind → Bool
has_code code [] = false
has_code code (k ∷ ks) = if code_of k == code then true else has_code code ks

found-by-kind : (code : ℕ) (us : List UnitState) → is_some (unit_at code us) ≡ has_code code (kinds_of us)
unfolding has_code
found-by-kind code [] = refl
found-by-kind code (u ∷ us) =
    if-some (code_of u.kind == code) u (unit_at code us)
    ∙ ap (λ (b : Bool). if code_of u.kind == code then true else b) (found-by-kind code us)

pub ten-lack : (us : List UnitState) → kinds_of us ≡ take standard_kinds all_kinds → has_multiplexer us ≡ false
unfolding has_code
ten-lack us ten = found-by-kind (code_of Qty) us ∙ ap (has_code (code_of Qty)) ten

pub eleven-have : (us : List UnitState) → kinds_of us ≡ all_kinds → has_multiplexer us ≡ true
unfolding has_code
eleven-have us eleven = found-by-kind (code_of Qty) us ∙ ap (has_code (code_of Qty)) eleven

pub ten-many : (us : List UnitState) → kinds_of us ≡ take standard_kinds all_kinds → length us ≡ standard_kinds
ten-many us ten = as-many-kinds us (take standard_kinds all_kinds) ten

pub eleven-many : (us : List UnitState) → kinds_of us ≡ all_kinds → length us ≡ most_kinds
eleven-many us eleven = as-many-kinds us all_kinds eleven

pub many-with : (us : List UnitState) → AreStandard us → has_multiplexer us ≡ true → length us ≡ most_kinds
many-with us (inl ten) has = absurd (false≢true (sym (ten-lack us ten) ∙ has))
many-with us (inr eleven) has = eleven-many us eleven

pub many-without : (us : List UnitState) → AreStandard us → has_multiplexer us ≡ false → length us ≡ standard_kinds
many-without us (inl ten) lack = ten-many us ten
many-without us (inr eleven) lack = absurd (false≢true (sym lack ∙ eleven-have us eleven))
