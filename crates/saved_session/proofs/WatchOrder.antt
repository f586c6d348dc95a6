-- Saved breaks and bytes that are sent stand in their order.
use Rattle.std.proofs.Common.{◌≡◌, ℕ, ◌+◌, ◌<◌, ◌≤◌, ◌^◌, true, List, [], ◌∷◌, length, map, arith}
use Rattle.std.specs.Prelude.{nat_le}
use Rattle.std.specs.List.{AllByRecursion}
use Rattle.std.proofs.lemmas.Bool.{and_parts, leb-true, ltb-true}
use Rattle.std.proofs.lemmas.List.{length-map}
use Rattle.expect_actions.specs.declared.breaks.Break.{Break}
use Rattle.expect_actions.specs.Breaks.{Rising}
use Rattle.expect_actions.specs.Sends.{Send, InTime}
use Rattle.saved_session.specs.declared.saved.SavedSend.{SavedSend}
use Rattle.saved_session.specs.Parts.{BreakPart}
use Rattle.saved_session.specs.Ranges.{is_address, last_send}
use Rattle.saved_session.specs.Order.{behind_break, behind_send}
use Rattle.saved_session.specs.SavedWatch.{break_from, send_from}
use Rattle.saved_session.specs.Valid.{Follow, IsBreak, IsSend}

pub all-weaker : {A : Type 0} (P Q : A → Type 0) → ((x : A) → P x → Q x) → (xs : List A) → AllByRecursion P xs
    → AllByRecursion Q xs
all-weaker P Q gives [] all = tt
all-weaker P Q gives (x ∷ xs) all = (gives x all.0, all-weaker P Q gives xs all.1)

pub at-most : {A B : Type 0} (f : A → B) (xs : List A) (most : ℕ) → nat_le (length xs) most ≡ true
    → length (map f xs) ≤ most
at-most f xs most few =
    let le = leb-true (length xs) most few in
    let same = length-map xs f in
    omega (arith, le, same)

pub address-from : (least : ℕ) (b : BreakPart) → IsBreak least b → (least ≤ b.address) × (b.address < 2 ^ 15)
address-from least b is =
    let parts = and_parts (nat_le least b.address) (is_address b.address) is.address in
    (leb-true least b.address parts.0, ltb-true b.address 32768 parts.1)

breaks-from : (low least : ℕ) (bs : List BreakPart) → low ≤ least → Follow IsBreak behind_break least bs
    → AllByRecursion (λ (b : Break). low ≤ b.address) (map break_from bs)
breaks-from low least [] le are = tt
breaks-from low least (b ∷ bs) le are =
    let from = (address-from least b are.0).0 in
    (omega (arith, le, from), breaks-from low (b.address + 1) bs (omega (arith, le, from)) are.1)

pub breaks-rise : (least : ℕ) (bs : List BreakPart) → Follow IsBreak behind_break least bs → Rising (map break_from bs)
breaks-rise least [] are = tt
breaks-rise least (b ∷ bs) are = (
  all-weaker (λ (x : Break). b.address + 1 ≤ x.address) (λ (x : Break). b.address < x.address)
      (λ x le. omega (arith, le)) (map break_from bs)
      (breaks-from (b.address + 1) (b.address + 1) bs (omega arith) are.1),
  breaks-rise (b.address + 1) bs are.1,
)

sends-from : (low least : ℕ) (sends : List SavedSend) → low ≤ least → Follow IsSend behind_send least sends
    → AllByRecursion (λ (send : Send). low ≤ send.0) (map send_from sends)
sends-from low least [] le are = tt
sends-from low least (s ∷ sends) le are =
    let from = leb-true least s.time (and_parts (nat_le least s.time) (nat_le s.time last_send) are.0.time).0 in
    (omega (arith, le, from), sends-from low s.time sends (omega (arith, le, from)) are.1)

pub sends-in-time : (least : ℕ) (sends : List SavedSend) → Follow IsSend behind_send least sends
    → InTime (map send_from sends)
sends-in-time least [] are = tt
sends-in-time least (s ∷ sends) are =
    let last = leb-true s.time last_send (and_parts (nat_le least s.time) (nat_le s.time last_send) are.0.time).1 in
    (last, sends-from s.time s.time sends (omega arith) are.1, sends-in-time s.time sends are.1)
