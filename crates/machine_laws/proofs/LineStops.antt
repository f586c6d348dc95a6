-- The stop that the machine has for itself where something was done on a line: none, that of control E, or that of a text.
use Rattle.std.proofs.Common.{◌≡◌, ℕ, ◌==◌, suc, Bool, true, false, Option, Some, None, option_map, subst, slice_get, if◌then◌else◌}
use Rattle.host_lines.specs.Traffic.{Peer}
use Rattle.telnet_lines.specs.Line.{LineOf, is_full}
use Rattle.telnet_lines.specs.Poll.{polled}
use Rattle.unit_trait.specs.declared.calls.Want.{Want}
use Rattle.unit_trait.specs.declared.calls.Want.TheVariants as want
use Rattle.expect_actions.specs.Expects.{match_at}
use Rattle.nova_machine.specs.declared.machine.Stop.{Stop}
use Rattle.nova_machine.specs.declared.machine.Stop.TheVariants.{Wru, Expect}
use Rattle.nova_machine.specs.Wants.{wru, key_stop}
use Rattle.nova_machine.specs.OnLines.{Lined, Around, lined, lined_by, put_by, console_in, console_polled, console_key, console_put}

key-case : (P : Option Stop → Type 0) → P None → P (Some Wru) → (key : Option ℕ) → P (key_stop key)
key-case P none stops None = none
key-case P none stops (Some key) = by (key == wru)
  where
    by : (b : Bool) → P (if b then Some Wru else None)
    by true = stops
    by false = none

text-case : (P : Option Stop → Type 0) → P None → ((k : ℕ) → P (Some (Expect k))) → (full : Bool) (place : Option ℕ) → P (if full then None else option_map Expect place)
text-case P none ends true place = none
text-case P none ends false None = none
text-case P none ends false (Some k) = ends k

pub lined-stops : (P : Option Stop → Type 0) (w : Want) (a : Around) (l : Lined) → P None → P (Some Wru) → ((k : ℕ) → P (Some (Expect k))) → lined w a ≡ Some l → P l.stop
unfolding lined
lined-stops P (want.LineKey n) a l none stops ends there = by (slice_get a.lines (suc n)) there
  where
    by : (o : Option (LineOf Peer)) → option_map (λ line. lined_by (suc n) a (polled a.time line a.ahead)) o ≡ Some l → P l.stop
    by None there = absurd (cc)
    by (Some line) there = let same : lined_by (suc n) a (polled a.time line a.ahead) ≡ l = cc in subst (λ (x : Lined). P x.stop) same none
lined-stops P (want.LinePut n byte) a l none stops ends there = by (slice_get a.lines (suc n)) there
  where
    by : (o : Option (LineOf Peer)) → option_map (put_by (suc n) byte a) o ≡ Some l → P l.stop
    by None there = absurd (cc)
    by (Some line) there = let same : put_by (suc n) byte a line ≡ l = cc in subst (λ (x : Lined). P x.stop) same none
lined-stops P want.Key a l none stops ends there = due a.due there
  where
    by : (o : Option (LineOf Peer)) → option_map (λ line. console_polled a (polled a.time line a.ahead)) o ≡ Some l → P l.stop
    by None there = absurd (cc)
    by (Some line) there =
        let p = polled a.time line a.ahead in
        let same : console_polled a p ≡ l = cc in
        subst (λ (x : Lined). P x.stop) same (key-case P none stops p.key)

    due : (key : Option ℕ) → console_key key a ≡ Some l → P l.stop
    due None there = by (console_in a.lines) there
    due (Some key) there = absurd (cc)
lined-stops P (want.Console byte) a l none stops ends there = by (console_in a.lines) there
  where
    by : (o : Option (LineOf Peer)) → option_map (console_put byte a) o ≡ Some l → P l.stop
    by None there = absurd (cc)
    by (Some line) there =
        let same : console_put byte a line ≡ l = cc in
        subst (λ (x : Lined). P x.stop) same (text-case P none ends (is_full line) (match_at byte a.expects))
lined-stops P w a l none stops ends there = absurd (cc)
