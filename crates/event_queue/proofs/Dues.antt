-- Which events are due.
use Rattle.std.proofs.Common.{◌≡◌, ℕ, ◌≤◌, List, [], ◌∷◌, Some, None, refl, arith}
use Rattle.std.proofs.lemmas.Bool.Decides.{nat_tests}
use Rattle.unit_trait.specs.declared.kind.UnitName.{UnitName}
use Rattle.unit_trait.specs.declared.calls.Queue.{Queue}
use Rattle.unit_trait.specs.declared.calls.Queue.TheVariants.{Keep, Cancel, After}
use Rattle.unit_trait.specs.Row.{IsAgain}
use Rattle.event_queue.specs.EventList.{Event, activated, placed, due, served, dues, wished}

pub dues-some : (u : UnitName) (es : List Event) → due es ≡ Some u → dues es ≡ u ∷ dues (served es)
dues-some u [] is = absurd (cc)
dues-some u (e ∷ es) is = grind (arith, nat_tests)

pub dues-none : (es : List Event) → due es ≡ None → dues es ≡ []
dues-none [] is = refl
dues-none (e ∷ es) is = grind (arith, nat_tests)

pub dues-placed : (u : UnitName) (t : ℕ) (es : List Event) → 1 ≤ t → dues (placed u t es) ≡ dues es
dues-placed u t [] later = grind (arith, nat_tests)
dues-placed u t (e ∷ es) later = grind (arith, nat_tests, dues-placed u t es later)

pub dues-activated : (u : UnitName) (t : ℕ) (es : List Event) → 1 ≤ t → dues (activated u t es) ≡ dues es
dues-activated u t es later = grind (arith, dues-placed u t es later)

-- a wish that asks for nothing, or for an event later than now, leaves the events that are due
pub wished-dues : (u : UnitName) (w : Queue) (es : List Event) → IsAgain w → dues (wished u w es) ≡ dues es
wished-dues u Keep es again = refl
wished-dues u Cancel es again = absurd again
wished-dues u (After t) es again = dues-activated u t es again

pub due-placed : (u : UnitName) (t : ℕ) (es : List Event) → 1 ≤ t → due es ≡ None → due (placed u t es) ≡ None
due-placed u t [] later none = grind (arith, nat_tests)
due-placed u t (e ∷ es) later none = grind (arith, nat_tests)

pub due-activated : (u : UnitName) (t : ℕ) (es : List Event) → 1 ≤ t → due es ≡ None → due (activated u t es) ≡ None
due-activated u t es later none = grind (arith, due-placed u t es later none)

pub ruleset activation = (dues-activated, due-activated)
