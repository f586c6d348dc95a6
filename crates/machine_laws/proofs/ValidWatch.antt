-- The watch tables stay within their limits and in order, and keys that come are bytes.
use Rattle.std.proofs.Common.{◌≡◌, ℕ, zero, suc, ◌-◌, ◌^◌, ◌<◌, ◌≤◌, List, [], ◌∷◌, ◌++◌, length, remove, set, slice_get, Option, Some, None, option_map, unwrap_or, IfSome, refl, subst, arith, nat_le, leb, cond}
use Rattle.std.specs.List.{AllByRecursion}
use Rattle.std.proofs.lemmas.Bool.{cond_both}
use Rattle.std.proofs.lemmas.List.{length-drop, length-set}
use Rattle.std.proofs.lemmas.List.Edits.{length-remove}
use Rattle.std.proofs.lemmas.Option.{slice_get_within}
use Rattle.unit_trait.specs.declared.calls.Want.{Want}
use Rattle.unit_trait.specs.declared.calls.Want.TheVariants as want
use Rattle.expect_actions.specs.declared.breaks.Break.{Break}
use Rattle.expect_actions.specs.declared.expects.Expect.{Expect}
use Rattle.expect_actions.specs.Breaks.{is_at, lowered, tested, stop_at, stopped_actions, after_test}
use Rattle.expect_actions.specs.Expects.{ExpectTable, table, most_expects, longest_text, last_bytes, first_match, counted_down, matched, printed_with, after_printed}
use Rattle.expect_actions.specs.KeysFile.{due_key}
use Rattle.expect_actions.specs.Sends.{Send, due_send, sends_left}
use Rattle.expect_actions.specs.Watch.{WatchState}
use Rattle.expect_actions.proofs.BreakLemmas.{tested_length, tested_rising}
use Rattle.expect_actions.proofs.SendLemmas.{left_stays}
use Rattle.nova_machine.specs.Wants.{first_key, typed_key, taken_after, watch_after}
use Rattle.nova_machine.specs.Valid.{AreBytes, ValidBreak, ValidExpect, ValidWatch}
use Rattle.machine_laws.proofs.ValidBytes.{IsByte, PrintsByte}
use Rattle.nova_machine.proofs.Each.{every-append, every-drop, every-remove, every-set}

-- ---- breaks

each-tested : (address : ℕ) (list : List Break) → AllByRecursion ValidBreak list → AllByRecursion ValidBreak (tested address list)
each-tested address [] all = tt
each-tested address (b ∷ list) all = (
  cond_both (is_at address b) (lowered b) b ValidBreak
      (λ _. let count = all.0.count in record { address = all.0.address; count = omega (arith, count); actions = all.0.actions }) (λ _. all.0),
  each-tested address list all.1,
)

actions-at : (list : List Break) (k : ℕ) (before : List ℕ) → AllByRecursion ValidBreak list → AreBytes before → AreBytes (unwrap_or (option_map (λ b. b.actions) (slice_get list k)) before)
actions-at [] k before all bytes = bytes
actions-at (b ∷ list) zero before all bytes = all.0.actions.bytes
actions-at (b ∷ list) (suc k) before all bytes = actions-at list k before all.1 bytes

actions-stopped : (place : Option ℕ) (list : List Break) (before : List ℕ) → AllByRecursion ValidBreak list → AreBytes before → AreBytes (stopped_actions place list before)
actions-stopped None list before all bytes = bytes
actions-stopped (Some k) list before all bytes = actions-at list k before all bytes

-- the breaks are tested at an address
pub watch-tested : (address : ℕ) (w : WatchState) → ValidWatch w → ValidWatch (record w { breaks = after_test address w.breaks })
watch-tested address w is = record {
  breaks = let same = tested_length address w.breaks.list in omega (arith, same, is.breaks);
  rising = tested_rising address w.breaks.list is.rising;
  each = each-tested address w.breaks.list is.each;
  expects = is.expects;
  texts = is.texts;
  tail = is.tail;
  printed = is.printed;
  sends = is.sends;
  in_time = is.in_time;
  bytes = is.bytes;
  broke = actions-stopped (stop_at address w.breaks.list) w.breaks.list w.breaks.actions is.each is.broke;
  matched = is.matched;
}

-- ---- expects

record ValidExpects (t : ExpectTable) : Type 0 where
  few : length t.list ≤ most_expects
  texts : AllByRecursion ValidExpect t.list
  tail : length t.tail ≤ longest_text
  printed : AreBytes t.tail
  actions : AreBytes t.actions

-- what a match makes of the table, by what stands at its place
abbrev choice : ℕ → ExpectTable → Option Expect → ExpectTable
choice k t o = elim o [
  | None ↦ table t.list [] t.actions
  | Some e ↦ cond (leb e.count 1) (table (remove t.list k) [] e.actions) (table (set t.list k (counted_down e)) [] t.actions)
]

texts-at : (list : List Expect) (k : ℕ) (e : Expect) → AllByRecursion ValidExpect list → slice_get list k ≡ Some e → ValidExpect e
texts-at [] k e all at = absurd (cc)
texts-at (x ∷ list) zero e all at = let same : x ≡ e = cc in subst ValidExpect same all.0
texts-at (x ∷ list) (suc k) e all at = texts-at list k e all.1 at

expects-chosen : (k : ℕ) (t : ExpectTable) (o : Option Expect) → slice_get t.list k ≡ o → ValidExpects t → ValidExpects (choice k t o)
expects-chosen k t None at is = record { few = is.few; texts = is.texts; tail = omega arith; printed = tt; actions = is.actions }
expects-chosen k t (Some e) at is =
    let within = slice_get_within t.list k e at in
    let valid = texts-at t.list k e is.texts at in
    cond_both (leb e.count 1) (table (remove t.list k) [] e.actions) (table (set t.list k (counted_down e)) [] t.actions) ValidExpects
    (λ _. record {
      few = let less = length-remove t.list k within in omega (arith, less, is.few);
      texts = every-remove ValidExpect t.list k is.texts;
      tail = omega arith;
      printed = tt;
      actions = valid.actions.bytes;
    })
    (λ _. let count = valid.count in record {
      few = let same = length-set t.list k (counted_down e) in omega (arith, same, is.few);
      texts = every-set ValidExpect t.list k (counted_down e) (record { count = omega (arith, count); text = valid.text; long = valid.long; actions = valid.actions }) is.texts;
      tail = omega arith;
      printed = tt;
      actions = is.actions;
    })

expects-matched : (place : Option ℕ) (printed : List ℕ) (t : ExpectTable) → length printed ≤ longest_text → AreBytes printed → ValidExpects t
    → ValidExpects (matched place printed t)
expects-matched None printed t short bytes is = record { few = is.few; texts = is.texts; tail = short; printed = bytes; actions = is.actions }
expects-matched (Some k) printed t short bytes is = expects-chosen k t (slice_get t.list k) refl is

last-short : (text : List ℕ) → length (last_bytes text) ≤ longest_text
last-short text = let size = length-drop (length text - longest_text) text in omega (arith, size)

last-bytes : (text : List ℕ) → AreBytes text → AreBytes (last_bytes text)
last-bytes text all = every-drop IsByte (length text - longest_text) text all

-- a byte was printed
pub watch-printed : (byte : ℕ) (w : WatchState) → IsByte byte → ValidWatch w → ValidWatch (record w { expects = after_printed byte w.expects })
watch-printed byte w low is =
    let printed = printed_with byte w.expects in
    let now = expects-matched (first_match printed w.expects.list) printed w.expects (last-short (w.expects.tail ++ byte ∷ []))
    (last-bytes (w.expects.tail ++ byte ∷ []) (every-append IsByte w.expects.tail (byte ∷ []) is.printed (low, tt)))
    (record { few = is.expects; texts = is.texts; tail = is.tail; printed = is.printed; actions = is.matched }) in
    record {
      breaks = is.breaks;
      rising = is.rising;
      each = is.each;
      expects = now.few;
      texts = now.texts;
      tail = now.tail;
      printed = now.printed;
      sends = is.sends;
      in_time = is.in_time;
      bytes = is.bytes;
      broke = is.broke;
      matched = now.actions;
    }

-- ---- bytes that were sent

left-few : (now : ℕ) (sends : List Send) → length (sends_left now sends) ≤ length sends
left-few now [] = omega arith
left-few now (send ∷ others) =
    cond_both (nat_le send.0 now) others (send ∷ others) (λ (l : List Send). length l ≤ length (send ∷ others)) (λ _. omega arith) (λ _. omega arith)

left-bytes : (now : ℕ) (sends : List Send) → AllByRecursion (λ (send : Send). send.1 < 2 ^ 8) sends → AllByRecursion (λ (send : Send). send.1 < 2 ^ 8) (sends_left now sends)
left-bytes now [] all = tt
left-bytes now (send ∷ others) all =
    cond_both (nat_le send.0 now) others (send ∷ others) (λ (l : List Send). AllByRecursion (λ (send : Send). send.1 < 2 ^ 8) l) (λ _. all.1) (λ _. all)

watch-taken : (now : ℕ) (w : WatchState) → ValidWatch w → ValidWatch (record w { sends = sends_left now w.sends })
watch-taken now w is = record {
  breaks = is.breaks;
  rising = is.rising;
  each = is.each;
  expects = is.expects;
  texts = is.texts;
  tail = is.tail;
  printed = is.printed;
  sends = let fewer = left-few now w.sends in omega (arith, fewer, is.sends);
  in_time = left_stays now w.sends is.in_time;
  bytes = left-bytes now w.sends is.bytes;
  broke = is.broke;
  matched = is.matched;
}

-- what a unit wants was done
pub watch-after : (time : ℕ) (w : Want) (watch : WatchState) → PrintsByte w → ValidWatch watch → ValidWatch (watch_after time w watch)
watch-after time want.Key watch low is = watch-taken time watch is
watch-after time (want.Console byte) watch low is = watch-printed byte watch low is
watch-after time w watch low is = is

-- ---- keys

-- a key that is due is a byte, and there is one more than were taken
pub key-typed : (keys : List (ℕ × ℕ)) (taken now : ℕ) → AllByRecursion (λ (key : ℕ × ℕ). key.1 < 2 ^ 8) keys
    → IfSome (due_key keys taken now) (λ (b : ℕ). (b < 2 ^ 8) × (taken < length keys))
key-typed [] taken now all = tt
key-typed (key ∷ keys) zero now all =
    cond_both (nat_le key.0 now) (Some key.1) None (λ (o : Option ℕ). IfSome o (λ (b : ℕ). (b < 2 ^ 8) × (zero < length (key ∷ keys)))) (λ _. (all.0, omega arith)) (λ _. tt)
key-typed (key ∷ keys) (suc taken) now all = further (due_key keys taken now) (key-typed keys taken now all.1)
  where
    further : (o : Option ℕ) → IfSome o (λ (b : ℕ). (b < 2 ^ 8) × (taken < length keys)) → IfSome o (λ (b : ℕ). (b < 2 ^ 8) × (suc taken < length (key ∷ keys)))
    further None is = tt
    further (Some b) is = let within = is.1 in (is.0, omega (arith, within))

pub key-sent : (now : ℕ) (sends : List Send) → AllByRecursion (λ (send : Send). send.1 < 2 ^ 8) sends → IfSome (due_send now sends) IsByte
key-sent now [] all = tt
key-sent now (send ∷ others) all = cond_both (nat_le send.0 now) (Some send.1) None (λ (o : Option ℕ). IfSome o IsByte) (λ _. all.0) (λ _. tt)

-- the key that comes
pub key-first : (sent typed : Option ℕ) (P : Type 0) → IfSome sent IsByte → IfSome typed (λ (b : ℕ). (b < 2 ^ 8) × P) → IfSome (first_key sent typed) IsByte
key-first None None P byte is = tt
key-first None (Some b) P byte is = is.0
key-first (Some b) typed P byte is = byte

taken-key : (key : Option ℕ) (taken most : ℕ) (w : Want) → taken ≤ most → IfSome key (λ (b : ℕ). (b < 2 ^ 8) × (taken < most)) → taken_after taken key w ≤ most
taken-key None taken most w low more = low
taken-key (Some b) taken most want.Key low more = let within = more.1 in omega (arith, within)
taken-key (Some b) taken most w low more = low

-- no more keys are taken than there are
pub taken-within : (sent typed : Option ℕ) (taken most : ℕ) (w : Want) → taken ≤ most → IfSome typed (λ (b : ℕ). (b < 2 ^ 8) × (taken < most))
    → taken_after taken (typed_key sent typed) w ≤ most
taken-within None typed taken most w low more = taken-key typed taken most w low more
taken-within (Some b) typed taken most w low more = taken-key None taken most w low tt
