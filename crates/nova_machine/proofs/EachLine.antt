-- What was done on a line leaves the texts that are waited for as they were, or with one more byte compared.
use Rattle.std.proofs.Common.{◌≡◌, ℕ, suc, Bool, true, false, Option, Some, None, option_map, subst, slice_get, if◌then◌else◌}
use Rattle.host_lines.specs.Traffic.{Peer}
use Rattle.telnet_lines.specs.Line.{LineOf, is_full}
use Rattle.telnet_lines.specs.Poll.{polled}
use Rattle.unit_trait.specs.declared.calls.Want.{Want}
use Rattle.unit_trait.specs.declared.calls.Want.TheVariants as want
use Rattle.expect_actions.specs.Expects.{ExpectTable, after_printed}
use Rattle.nova_machine.specs.OnLines.{Lined, Around, lined, lined_by, put_by, console_in, console_polled, console_key, console_put}

either : (P : ExpectTable → Type 0) (full : Bool) (same more : ExpectTable) → P same → P more → P (if full then same else more)
either P true same more one two = one
either P false same more one two = two

pub lined-waits : (P : ExpectTable → Type 0) (w : Want) (a : Around) (l : Lined) → P a.expects → ((byte : ℕ) → P (after_printed byte a.expects)) → lined w a ≡ Some l → P l.expects
unfolding lined
lined-waits P (want.LineKey n) a l same more there = by (slice_get a.lines (suc n)) there
  where
    by : (o : Option (LineOf Peer)) → option_map (λ line. lined_by (suc n) a (polled a.time line a.ahead)) o ≡ Some l → P l.expects
    by None there = absurd (cc)
    by (Some line) there = let is : lined_by (suc n) a (polled a.time line a.ahead) ≡ l = cc in subst (λ (x : Lined). P x.expects) is same
lined-waits P (want.LinePut n byte) a l same more there = by (slice_get a.lines (suc n)) there
  where
    by : (o : Option (LineOf Peer)) → option_map (put_by (suc n) byte a) o ≡ Some l → P l.expects
    by None there = absurd (cc)
    by (Some line) there = let is : put_by (suc n) byte a line ≡ l = cc in subst (λ (x : Lined). P x.expects) is same
lined-waits P want.Key a l same more there = due a.due there
  where
    by : (o : Option (LineOf Peer)) → option_map (λ line. console_polled a (polled a.time line a.ahead)) o ≡ Some l → P l.expects
    by None there = absurd (cc)
    by (Some line) there = let is : console_polled a (polled a.time line a.ahead) ≡ l = cc in subst (λ (x : Lined). P x.expects) is same

    due : (key : Option ℕ) → console_key key a ≡ Some l → P l.expects
    due None there = by (console_in a.lines) there
    due (Some key) there = absurd (cc)
lined-waits P (want.Console byte) a l same more there = by (console_in a.lines) there
  where
    by : (o : Option (LineOf Peer)) → option_map (console_put byte a) o ≡ Some l → P l.expects
    by None there = absurd (cc)
    by (Some line) there =
        let is : console_put byte a line ≡ l = cc in
        subst (λ (x : Lined). P x.expects) is (either P (is_full line) a.expects (after_printed byte a.expects) same (more byte))
lined-waits P w a l same more there = absurd (cc)
