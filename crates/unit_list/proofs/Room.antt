-- An answer that is for a place of a file below the largest is one that the unit may get.
use Rattle.std.proofs.Common.{◌≡◌, ℕ, IsTrue, List, [], ◌∷◌, Option, Some, None, refl, sym, subst, arith}
use Rattle.std.specs.Prelude.{IfSome, option_map}
use Rattle.std.proofs.lemmas.Bool.Decides.{nat_tests}
use Rattle.unit_trait.specs.declared.kind.Kind.{Kind}
use Rattle.unit_trait.specs.declared.kind.Kind.TheVariants.{Lpt, Ptr, Ptp}
use Rattle.unit_trait.specs.declared.calls.Got.{Got}
use Rattle.unit_trait.specs.Reader.{reader_row}
use Rattle.unit_trait.specs.Writer.{writer_row}
use Rattle.unit_trait.specs.Kinds.{code_of}
use Rattle.unit_trait.specs.Calls.{UnitState, Due, Answered}
use Rattle.unit_trait.specs.Row.{row, row_of, moved, moves_on, goes_by_bytes, CanMoveOn, TakesAnswer}
use Rattle.unit_trait.proofs.Codes.{same-code}
use Rattle.unit_list.specs.Bus.{unit_at, row_or_nothing, row_at, after_at, TakesAnswerIn, IsByteBelowEnd, IsBelowEnd}
use Rattle.unit_list.specs.Laws.{BringsByte, CanBeAsked}
use Rattle.unit_list.proofs.Calls.{after-here}

room-of : (kind : Kind) (values : List ℕ) (n : ℕ) (got : Got) → IsByteBelowEnd (row_of kind values (Due n)).want got
    → IsTrue (goes_by_bytes kind) → IsTrue (moves_on got) → CanMoveOn (row_of kind values (Due n)).registers
unfolding row_of reader_row writer_row
room-of Ptr values n got below = λ bytes moves. below moves
room-of Ptp values n got below = λ bytes moves. below moves
room-of Lpt values n got below = λ bytes moves. below moves
room-of kind values n got below = λ bytes moves. absurd (cc)

room-unit : (u : UnitState) (n : ℕ) (got : Got) → IsByteBelowEnd (row u (Due n)).want got
    → IsTrue (goes_by_bytes u.kind) → IsTrue (moves_on got) → CanMoveOn (moved u (Due n)).registers
room-unit u n got below = room-of u.kind u.registers n got below

-- the unit that is found by the code of a kind is of that kind
pub kind-found : (kind : Kind) (us : List UnitState) → IfSome (unit_at (code_of kind) us) (λ u. u.kind ≡ kind)
kind-found kind [] = tt
kind-found kind (u ∷ us) = grind (arith, nat_tests, same-code u.kind kind, kind-found kind us)

room-found : (kind : Kind) (n : ℕ) (got : Got) (there : Option UnitState) → IfSome there (λ u. u.kind ≡ kind)
    → IsByteBelowEnd (row_or_nothing (Due n) there).want got → IsTrue (goes_by_bytes kind) → IsTrue (moves_on got)
    → IfSome (option_map (λ u. moved u (Due n)) there) (λ u. CanMoveOn u.registers)
room-found kind n got None same below bytes moves = tt
room-found kind n got (Some u) same below bytes moves =
    room-unit u n got below (subst (λ k. IsTrue (goes_by_bytes k)) (sym same) bytes) moves

-- where a unit was asked what it wants, and is answered for a place below the largest, it may get the answer
pub room-in : (kind : Kind) (n : ℕ) (got : Got) (us : List UnitState) → IsBelowEnd (row_at (code_of kind) (Due n) us).want got
    → TakesAnswerIn kind got (after_at (code_of kind) (Due n) us)
room-in kind n got us below = record {
  room = λ bytes moves.
      subst (λ there. IfSome there (λ u. CanMoveOn u.registers)) (sym (after-here (code_of kind) (Due n) us))
      (room-found kind n got (unit_at (code_of kind) us) (kind-found kind us) below.0 bytes moves);
  tape = below.1;
}

-- an answer that the unit of a kind may get is one that the unit that is found there may get
pub room-at : (kind : Kind) (got : Got) (us : List UnitState) (u : UnitState) → TakesAnswerIn kind got us → unit_at (code_of kind) us ≡ Some u
    → u.kind ≡ kind → TakesAnswer u got
room-at kind got us u takes there same = record {
  room = λ bytes moves.
      subst (λ there. IfSome there (λ v. CanMoveOn v.registers)) there (takes.room (subst (λ k. IsTrue (goes_by_bytes k)) same bytes) moves);
  tape = takes.tape;
}

-- .. and that it can be asked to take, where it brings bytes
pub asked-in : (kind : Kind) (n : ℕ) (got : Got) (us : List UnitState) → BringsByte got → TakesAnswerIn kind got us
    → IfSome (unit_at (code_of kind) us) (λ u. CanBeAsked u (Answered n got))
asked-in kind n got us bytes takes = by-unit (unit_at (code_of kind) us) refl (kind-found kind us)
  where
    by-unit : (o : Option UnitState) → unit_at (code_of kind) us ≡ o → IfSome o (λ u. u.kind ≡ kind) → IfSome o (λ u. CanBeAsked u (Answered n got))
    by-unit None there same = tt
    by-unit (Some u) there same = (bytes, room-at kind got us u takes there same)
