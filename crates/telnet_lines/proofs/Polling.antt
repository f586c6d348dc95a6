-- A poll is its steps, one behind another.
use Rattle.std.proofs.Common.{◌≡◌, ◌∙◌, ap, sym, ℕ, List, ◌++◌, append_assoc, arith, inl, inr}
use Rattle.host_lines.specs.Traffic.{Answer}
use Rattle.host_lines.specs.Told.{IsFirst, record_in, ahead_of, Heard, heard_more}
use Rattle.host_lines.specs.State.{LineState}
use Rattle.telnet_lines.specs.Line.{LineOf, first_key, key_taken}
use Rattle.telnet_lines.specs.Poll.{Met, accepted, received, sent, Polled, polled, polled_as, with_key_taken}
use Rattle.telnet_lines.specs.Joined.{seen_line, seen_with, Makes, Sends, Polls, KeepsOthers}

-- the steps of a poll: `s0` to `s3` are the lines before, between and behind them, and `l0` to `l3` the line
pub record Steps (now : ℕ) (s0 s1 s2 s3 : LineState) (l0 l1 l2 l3 : LineOf ℕ) : Type 0 where
  pub accepts : Makes (accepted now) s0 l0 s1 l1
  pub receives : Makes (received now) s1 l1 s2 l2
  pub sends : Sends s2 (key_taken l2) s3 l3
  pub unheard : s2.sent ≡ s0.sent

first_through : (a b c : List Answer) → IsFirst a b → IsFirst b c → IsFirst a c
first_through a b c one two = (one.0 ++ two.0, two.1 ∙ ap (λ (l : List Answer). l ++ two.0) one.1 ∙ append_assoc a one.0 two.0)

-- What the poll comes to, where the record comes to `whole`: a key is taken behind what was received, and what waits is sent.
opened : (now : ℕ) (m0 m1 m2 : Met) → accepted now m0 ≡ m1 → received now m1 ≡ m2 → polled now m0.line m0.ahead ≡ with_key_taken m2
unfolding polled
opened now m0 m1 m2 a r = ap (λ (m : Met). with_key_taken (received now m)) a ∙ ap with_key_taken r

comes_to : (now : ℕ) (s0 s1 s2 s3 : LineState) (l0 l1 l2 l3 : LineOf ℕ) → Steps now s0 s1 s2 s3 l0 l1 l2 l3
    → (whole : List Answer) → IsFirst (record_in s3.told) whole
    → polled now (seen_line s0 l0) (ahead_of s0.told whole) ≡ polled_as (first_key l2.keys) (sent (seen_with whole s2 (key_taken l2)))
comes_to now s0 s1 s2 s3 l0 l1 l2 l3 steps whole first =
    let behind_receive = first_through (record_in s2.told) (record_in s3.told) whole steps.sends.grows first in
    let behind_accept = first_through (record_in s1.told) (record_in s2.told) whole steps.receives.grows behind_receive in
    opened now (seen_with whole s0 l0) (seen_with whole s1 l1) (seen_with whole s2 l2)
    (steps.accepts.made whole behind_accept) (steps.receives.made whole behind_receive)

pub polls : (now : ℕ) (s0 s1 s2 s3 : LineState) (l0 l1 l2 l3 : LineOf ℕ) → Steps now s0 s1 s2 s3 l0 l1 l2 l3 → Polls now (first_key l2.keys) s0 l0 s3 l3
polls now s0 s1 s2 s3 l0 l1 l2 l3 steps =
    let is = comes_to now s0 s1 s2 s3 l0 l1 l2 l3 steps in
    record {
      grows = first_through (record_in s0.told) (record_in s1.told) (record_in s3.told) steps.accepts.grows
          (first_through (record_in s1.told) (record_in s2.told) (record_in s3.told) steps.receives.grows steps.sends.grows);
      key_is = λ whole first. ap (λ (p : Polled). p.key) (is whole first);
      line_is = λ whole first. ap (λ (p : Polled). p.line) (is whole first) ∙ ap (λ (m : Met). m.line) (steps.sends.made whole first);
      ahead_is = λ whole first. ap (λ (p : Polled). p.ahead) (is whole first) ∙ ap (λ (m : Met). m.ahead) (steps.sends.made whole first);
      heard = λ whole first.
          let taken = sent (seen_with whole s2 (key_taken l2)) in
          steps.sends.heard whole first ∙ ap (λ (h : Heard). heard_more h taken.sent) steps.unheard
          ∙ ap (λ (p : Polled). heard_more s0.sent p.sent) (sym (is whole first));
    }

-- what one step and then another leave as it was, told or not
pub keeps_both : (s0 s1 s2 : LineState) (l0 l1 l2 : LineOf ℕ) → KeepsOthers s0 l0 s1 l1 → KeepsOthers s1 l1 s2 l2 → KeepsOthers s0 l0 s2 l2
keeps_both s0 s1 s2 l0 l1 l2 a b = record {
  listens = b.listens ∙ a.listens;
  owned = λ conn stands. elim (b.owned conn stands) [
    | inl own ↦ inl own
    | inr before ↦ elim (a.owned conn before.0) [ inl own ↦ absurd (before.1 own) | inr stood ↦ inr stood ]
  ];
  later = omega (arith, a.later, b.later);
}

-- a key that is taken makes no difference to that
pub keeps_with_key : (s : LineState) (l : LineOf ℕ) (s' : LineState) (l' : LineOf ℕ) → KeepsOthers s (key_taken l) s' l' → KeepsOthers s l s' l'
keeps_with_key s l s' l' k = record { listens = k.listens; owned = k.owned; later = k.later }
