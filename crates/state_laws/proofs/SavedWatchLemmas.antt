-- What a run watches is valid as it is saved.
use Rattle.std.proofs.Common.{◌≡◌, ℕ, ◌+◌, ◌<◌, ◌≤◌, ◌^◌, ◌&&◌, true, List, [], ◌∷◌, length, map, arith}
use Rattle.std.specs.Prelude.{nat_le}
use Rattle.std.specs.List.{AllByRecursion}
use Rattle.std.proofs.lemmas.Bool.{and_from, le-leb}
use Rattle.std.proofs.lemmas.Bool.Decides.{nat_tests}
use Rattle.std.proofs.lemmas.List.{length-map}
use Rattle.expect_actions.specs.declared.breaks.Break.{Break}
use Rattle.expect_actions.specs.declared.expects.Expect.{Expect}
use Rattle.expect_actions.specs.Breaks.{Rising}
use Rattle.expect_actions.specs.Sends.{Send, InTime}
use Rattle.expect_actions.specs.Watch.{WatchState}
use Rattle.nova_machine.specs.Valid.{ValidBreak, ValidWatch}
use Rattle.saved_session.specs.Ranges.{is_address, most_breaks, most_expects, longest_text, most_sends, last_send}
use Rattle.saved_session.specs.Valid.{Follow, IsBreak, IsExpect, IsSend, IsWatch}
use Rattle.saved_session.specs.Order.{behind_break, behind_send}
use Rattle.saved_session.specs.SavedWatch.{saved_break, saved_expect, saved_send, saved_watch}
use Rattle.state_transfer.specs.SavedValid.{IsGivenBreak, IsGivenExpect, AreGiven}
use Rattle.saved_session.proofs.WatchOrder.{all-weaker}

-- at most so many of them
pub few : {A B : Type 0} (f : A → B) (xs : List A) (most : ℕ) → length xs ≤ most
    → nat_le (length (map f xs)) most ≡ true
few f xs most le = le-leb (length (map f xs)) most (let same = length-map xs f in omega (arith, same, le))

is-address : (least a : ℕ) → least ≤ a → a < 2 ^ 15 → (nat_le least a && is_address a) ≡ true
is-address least a least_le below = grind (arith, nat_tests)

breaks-follow : (least : ℕ) (bs : List Break) → AllByRecursion (λ (b : Break). least ≤ b.address) bs → Rising bs
    → AllByRecursion ValidBreak bs → AllByRecursion IsGivenBreak bs
    → Follow IsBreak behind_break least (map saved_break bs)
breaks-follow least [] from rising valid given = tt
breaks-follow least (b ∷ bs) from rising valid given = (
  record {
    address = is-address least b.address from.0 valid.0.address;
    count = given.0.count;
    actions = given.0.actions;
  },
  breaks-follow (b.address + 1) bs
      (all-weaker (λ (x : Break). b.address < x.address) (λ (x : Break). b.address + 1 ≤ x.address)
      (λ x lt. omega (arith, lt)) bs rising.0)
      rising.1 valid.1 given.1,
)

from-zero : (bs : List Break) → AllByRecursion (λ (b : Break). 0 ≤ b.address) bs
from-zero [] = tt
from-zero (b ∷ bs) = (omega arith, from-zero bs)

expects-are : (es : List Expect) → AllByRecursion IsGivenExpect es → AllByRecursion IsExpect (map saved_expect es)
expects-are [] given = tt
expects-are (e ∷ es) given = (
  record {
    some = le-leb 1 e.count given.0.some;
    count = given.0.count;
    long = given.0.long;
    text = given.0.text;
    actions = given.0.actions;
  },
  expects-are es given.1,
)

sends-follow : (least : ℕ) (sends : List Send) → AllByRecursion (λ (send : Send). least ≤ send.0) sends → InTime sends
    → AllByRecursion (λ (send : Send). send.1 < 2 ^ 8) sends → Follow IsSend behind_send least (map saved_send sends)
sends-follow least [] from in_time bytes = tt
sends-follow least (send ∷ sends) from in_time bytes = (
  record { time = and_from _ _ (le-leb least send.0 from.0) (le-leb send.0 last_send in_time.0); byte = bytes.0 },
  sends-follow send.0 sends in_time.1 in_time.2 bytes.1,
)

any-time : (sends : List Send) → AllByRecursion (λ (send : Send). 0 ≤ send.0) sends
any-time [] = tt
any-time (send ∷ sends) = (omega arith, any-time sends)

pub watch-valid : (w : WatchState) → ValidWatch w → AreGiven w → IsWatch (saved_watch w)
unfolding saved_watch
watch-valid w valid given = record {
  few_breaks = few saved_break w.breaks.list most_breaks valid.breaks;
  breaks = breaks-follow 0 w.breaks.list (from-zero w.breaks.list) valid.rising valid.each given.breaks;
  few_expects = few saved_expect w.expects.list most_expects valid.expects;
  expects = expects-are w.expects.list given.expects;
  short_tail = le-leb (length w.expects.tail) longest_text valid.tail;
  tail = given.tail;
  few_sends = few saved_send w.sends most_sends valid.sends;
  sends = sends-follow 0 w.sends (any-time w.sends) valid.in_time valid.bytes;
}
