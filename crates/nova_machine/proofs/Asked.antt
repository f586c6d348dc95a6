-- An event is asked for of a unit that is there.
use Rattle.std.proofs.Common.{◌≡◌, ◌==◌, inl, inr, ℕ, Bool, true, false, IsTrue, is_some, List, [], ◌∷◌, Some, if◌then◌else◌, refl, sym, subst}
use Rattle.std.proofs.lemmas.Bool.{eqb-true}
use Rattle.unit_trait.specs.declared.kind.Kind.{Kind}
use Rattle.unit_trait.specs.declared.kind.UnitName.{UnitName}
use Rattle.unit_trait.specs.declared.calls.Queue.TheVariants.{After}
use Rattle.unit_trait.specs.Kinds.{code_of}
use Rattle.unit_trait.specs.Calls.{UnitState}
use Rattle.unit_trait.proofs.Codes.{same-code}
use Rattle.event_queue.specs.EventList.{Event, activated}
use Rattle.unit_list.specs.Bus.{unit_at, kinds_of}
use Rattle.nova_machine.specs.Core.{IsAmong, AreListed}
use Rattle.nova_machine.proofs.Listed.{listed-wished}

-- a kind of which a unit is found is among theirs
among-there : (kind : Kind) (us : List UnitState) → IsTrue (is_some (unit_at (code_of kind) us)) → IsAmong kind (kinds_of us)
among-there kind [] there = absurd (cc)
among-there kind (u ∷ us) there = by-code (code_of u.kind == code_of kind) refl there (among-there kind us)
  where
    by-code : (same : Bool) → (code_of u.kind == code_of kind) ≡ same → IsTrue (is_some (if same then Some u else unit_at (code_of kind) us))
        → (IsTrue (is_some (unit_at (code_of kind) us)) → IsAmong kind (kinds_of us)) → IsAmong kind (kinds_of (u ∷ us))
    by-code true is there more = inl (same-code u.kind kind (eqb-true (code_of u.kind) (code_of kind) is))
    by-code false is there more = inr (more there)

pub listed-asked : (us : List UnitState) (u : UnitName) (t : ℕ) (old new : List Event) → IsTrue (is_some (unit_at (code_of u.kind) us)) → new ≡ activated u t old
    → AreListed (kinds_of us) old → AreListed (kinds_of us) new
listed-asked us u t old new there is all =
    subst (AreListed (kinds_of us)) (sym is) (listed-wished (kinds_of us) u (After t) old (among-there u.kind us there) all)
