-- The registers of the tape: nine of its control, and behind them where the tape of each drive stands.
use Rattle.std.proofs.Common.{ℕ, ◌<◌, ◌≤◌, zero, suc, IsTrue, List, [], ◌∷◌, length, arith}
use Rattle.std.specs.Prelude.{slice_get}
use Rattle.std.proofs.lemmas.Bool.Decides.{nat_tests}
use Rattle.unit_trait.specs.Device.{Register}
use Rattle.unit_trait.specs.Row.{takes_value}
use Rattle.unit_trait.specs.Tape.{tape, tape_length, tape_positions}
use Rattle.unit_trait.proofs.Ranges.{AllTake, place-within}

takes-here : (rs : List Register) (i place : ℕ) → AllTake place rs → i < length rs → IsTrue (takes_value (slice_get rs i) place)
takes-here [] i place take within = absurd (omega arith)
takes-here (r ∷ rs) zero place take within = grind (arith, nat_tests)
takes-here (r ∷ rs) (suc i) place take within = takes-here rs i place take.1 (omega arith)

-- the registers behind STAT take the places of a tape
pub takes-place : (i place : ℕ) → 9 ≤ i → i ≤ 16 → place ≤ tape_length → IsTrue (takes_value (slice_get tape.registers i) place)
takes-place (suc (suc (suc (suc (suc (suc (suc (suc (suc i))))))))) place least most low =
    takes-here tape_positions i place (omega arith) (omega arith)
takes-place i place least most low = absurd (omega arith)

pub ruleset drives = (place-within, takes-place)
