-- What a run watches is in range once a valid state was put back.
use Rattle.std.proofs.Common.{ℕ, ◌+◌, ◌<◌, ◌^◌, List, [], ◌∷◌, length, map}
use Rattle.std.specs.Prelude.{nat_le}
use Rattle.std.specs.List.{AllByRecursion}
use Rattle.std.proofs.lemmas.Bool.{and_parts, leb-true}
use Rattle.expect_actions.specs.Sends.{Send}
use Rattle.nova_machine.specs.Valid.{AreShortActions, ValidBreak, ValidExpect, ValidWatch}
use Rattle.saved_session.specs.declared.saved.SavedSend.{SavedSend}
use Rattle.saved_session.specs.Parts.{BreakPart, ExpectPart, WatchPart}
use Rattle.saved_session.specs.Ranges.{longest_actions, most_breaks, most_expects, longest_text, most_sends}
use Rattle.saved_session.specs.Valid.{Follow, AreActions, IsBreak, IsExpect, IsSend, IsWatch}
use Rattle.saved_session.specs.Order.{behind_break, behind_send}
use Rattle.saved_session.specs.SavedWatch.{break_from, expect_from, send_from, watch_from}
use Rattle.saved_session.proofs.WatchOrder.{at-most, address-from, breaks-rise, sends-in-time}

-- no actions are longer than their number can tell
actions-short : (actions : List ℕ) → AreActions actions → AreShortActions actions
actions-short actions is = record { bytes = is.bytes; short = leb-true (length actions) longest_actions is.short }

breaks-valid : (least : ℕ) (bs : List BreakPart) → Follow IsBreak behind_break least bs
    → AllByRecursion ValidBreak (map break_from bs)
breaks-valid least [] are = tt
breaks-valid least (b ∷ bs) are = (
  record {
    address = (address-from least b are.0).1;
    count = are.0.count;
    actions = actions-short b.actions are.0.actions;
  },
  breaks-valid (b.address + 1) bs are.1,
)

expects-valid : (es : List ExpectPart) → AllByRecursion IsExpect es
    → AllByRecursion ValidExpect (map expect_from es)
expects-valid [] are = tt
expects-valid (e ∷ es) are = (
  record {
    count = are.0.count;
    text = are.0.text;
    long = leb-true (length e.text) longest_text
        (and_parts (nat_le 1 (length e.text)) (nat_le (length e.text) longest_text) are.0.long).1;
    actions = actions-short e.actions are.0.actions;
  },
  expects-valid es are.1,
)

sends-bytes : (least : ℕ) (sends : List SavedSend) → Follow IsSend behind_send least sends
    → AllByRecursion (λ (send : Send). send.1 < 2 ^ 8) (map send_from sends)
sends-bytes least [] are = tt
sends-bytes least (s ∷ sends) are = (are.0.byte, sends-bytes s.time sends are.1)

pub watch-in-range : (w : WatchPart) → IsWatch w → ValidWatch (watch_from w)
unfolding watch_from
watch-in-range w is = record {
  breaks = at-most break_from w.breaks most_breaks is.few_breaks;
  rising = breaks-rise 0 w.breaks is.breaks;
  each = breaks-valid 0 w.breaks is.breaks;
  expects = at-most expect_from w.expects most_expects is.few_expects;
  texts = expects-valid w.expects is.expects;
  tail = leb-true (length w.tail) longest_text is.short_tail;
  printed = is.tail;
  sends = at-most send_from w.sends most_sends is.few_sends;
  in_time = sends-in-time 0 w.sends is.sends;
  bytes = sends-bytes 0 w.sends is.sends;
  broke = tt;
  matched = tt;
}
