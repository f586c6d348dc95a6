-- What is left of the watch tables where something was done on a line, and the cause of a stop behind that.
use Rattle.std.proofs.Common.{◌≡◌, ◌∙◌, ap, sym, refl, subst, arith, ℕ, Bool, true, false, List, [], ◌∷◌, ◌++◌, append-nil, nat_le, Option, Some, None, option_map, inr, if◌then◌else◌}
use Rattle.unit_trait.specs.declared.kind.UnitName.{UnitName}
use Rattle.unit_trait.specs.declared.calls.Want.{Want}
use Rattle.unit_trait.specs.declared.calls.Want.TheVariants as want
use Rattle.unit_trait.specs.declared.calls.Got.{Got}
use Rattle.unit_trait.specs.declared.calls.Got.TheVariants as got
use Rattle.expect_actions.specs.Breaks.{BreakTable}
use Rattle.expect_actions.specs.Expects.{ExpectTable, match_at}
use Rattle.expect_actions.specs.KeysFile.{due_key}
use Rattle.expect_actions.specs.Sends.{Send, due_send, sends_left}
use Rattle.expect_actions.specs.Watch.{WatchState}
use Rattle.nova_machine.specs.declared.machine.Stop.{Stop}
use Rattle.nova_machine.specs.declared.machine.Stop.TheVariants.{Expect}
use Rattle.nova_machine.specs.declared.on_line.OnLine.{OnLine}
use Rattle.nova_machine.specs.declared.on_line.OnLine.TheVariants.{Gets, Wru, Put}
use Rattle.nova_machine.specs.Machine.{MachineState}
use Rattle.nova_machine.specs.Wants.{first_key, typed_key, taken_after}
use Rattle.nova_machine.specs.Service.{asked, answered, first_stop}
use Rattle.nova_machine.specs.OnLines.{IsOfLine, is_ported}
use Rattle.nova_machine.specs.OnLine.{got_on, stop_on, expects_on, IsDoneOn}
use Rattle.nova_machine.specs.LineChanges.{ports_of}
use Rattle.nova_machine.specs.StopCauses.{moment_of, console_bytes, AreCountedDown, Matches, Watches, TookWru, ServiceCause}
use Rattle.nova_machine.proofs.Causes.{counted-same, IsNoMatch, matches-none, watches-still}
use Rattle.nova_machine.proofs.ServiceCauses.{line-cause, asked-taken, asked-ported, answered-taken, answered-no-match}
use Rattle.nova_machine.proofs.ConsoleSteps.{ported-same}

-- What was done on a line was this: of the machine m the unit was asked, which left n; the line left h, and the answer now.
pub record DidOnLine (keys : List (ℕ × ℕ)) (u : UnitName) (w : Want) (made : OnLine) (watch watch' : WatchState) (m n h now : MachineState) (stop : Option Stop) : Type 0 where
  pub asks : n ≡ asked u m
  pub only : h ≡ record n { lines = h.lines }
  pub ports : ports_of h.lines ≡ ports_of n.lines
  pub wants : IsDoneOn w (is_ported n.lines) (first_key (due_send n.time watch.sends) (due_key keys n.taken n.time)) made
  pub of : IsOfLine (got_on made)
  pub watched : watch' ≡ record watch { expects = expects_on made watch.expects }
  pub left : now ≡ (answered u (got_on made) h).machine
  pub stops : stop ≡ first_stop (stop_on made watch.expects) (answered u (got_on made) h).stop

answered-ported : (u : UnitName) (g : Got) (h : MachineState) → is_ported (answered u g h).machine.lines ≡ is_ported h.lines
unfolding answered
answered-ported u g h = refl

answered-time : (u : UnitName) (g : Got) (h : MachineState) → (answered u g h).machine.time ≡ h.time
unfolding answered
answered-time u g h = refl

taken-same : (keys : List (ℕ × ℕ)) (u : UnitName) (w : Want) (made : OnLine) (watch watch' : WatchState) (m n h now : MachineState) (stop : Option Stop) → DidOnLine keys u w made watch watch' m n h now stop
    → now.taken ≡ m.taken
taken-same keys u w made watch watch' m n h now stop did =
    ap (λ (x : MachineState). x.taken) did.left ∙ answered-taken u (got_on made) h ∙ ap (λ (x : MachineState). x.taken) did.only ∙ ap (λ (x : MachineState). x.taken) did.asks ∙ asked-taken u m

port-asked : (u : UnitName) (m n : MachineState) → n ≡ asked u m → is_ported n.lines ≡ is_ported m.lines
port-asked u m n asks = ap (λ (x : MachineState). is_ported x.lines) asks ∙ asked-ported u m

port-now : (keys : List (ℕ × ℕ)) (u : UnitName) (w : Want) (made : OnLine) (watch watch' : WatchState) (m n h now : MachineState) (stop : Option Stop) → DidOnLine keys u w made watch watch' m n h now stop
    → is_ported now.lines ≡ is_ported n.lines
port-now keys u w made watch watch' m n h now stop did =
    ap (λ (x : MachineState). is_ported x.lines) did.left ∙ answered-ported u (got_on made) h ∙ ported-same n.lines h.lines did.ports

-- ---- the texts that are waited for

put-ported : (w : Want) (ported : Bool) (due : Option ℕ) (byte : ℕ) → IsDoneOn w ported due (Put byte) → ported ≡ true
put-ported (want.Console b) ported due byte is = is.0
put-ported (want.LineKey n) ported due byte is = absurd is
put-ported (want.LinePut n b) ported due byte is = absurd is
put-ported want.Key ported due byte is = absurd is.2
put-ported w ported due byte is = absurd is

put-matches : (place : Option ℕ) (byte : ℕ) (t : ExpectTable) (other stop : Option Stop) → match_at byte t ≡ place → IsNoMatch other → stop ≡ first_stop (option_map Expect place) other → Matches stop (byte ∷ []) t
put-matches None byte t other stop none plain is = matches-none stop (byte ∷ []) t (subst (λ (o : Option Stop). IsNoMatch o) (sym is) plain) (none, tt)
put-matches (Some k) byte t other stop there plain is = subst (λ (o : Option Stop). Matches o (byte ∷ []) t) (sym is) there

pub line-watches : (keys : List (ℕ × ℕ)) (u : UnitName) (w : Want) (made : OnLine) (watch watch' : WatchState) (m n h now : MachineState) (stop : Option Stop) (tells : Bool) (text : List ℕ)
    → DidOnLine keys u w made watch watch' m n h now stop → Watches stop (moment_of watch m) (moment_of watch' now) tells text text
line-watches keys u w (Gets g) watch watch' m n h now stop tells text did =
    watches-still stop (moment_of watch m) (moment_of watch' now) tells text (answered-no-match u g h stop did.stops) did.watched
    (taken-same keys u w (Gets g) watch watch' m n h now stop did) (port-now keys u w (Gets g) watch watch' m n h now stop did ∙ port-asked u m n did.asks)
line-watches keys u w Wru watch watch' m n h now stop tells text did =
    watches-still stop (moment_of watch m) (moment_of watch' now) tells text (subst (λ (o : Option Stop). IsNoMatch o) (sym did.stops) tt) did.watched
    (taken-same keys u w Wru watch watch' m n h now stop did) (port-now keys u w Wru watch watch' m n h now stop did ∙ port-asked u m n did.asks)
line-watches keys u w (Put byte) watch watch' m n h now stop tells text did =
    let before = port-asked u m n did.asks in
    let on : is_ported m.lines ≡ true = sym before ∙ put-ported w (is_ported n.lines) _ byte did.wants in
    let taken = taken-same keys u w (Put byte) watch watch' m n h now stop did in
    record {
      bytes = byte ∷ [];
      written = λ _. sym (append-nil text) ∙ ap (λ (p : Bool). text ++ console_bytes p (byte ∷ [])) (sym on);
      ported = port-now keys u w (Put byte) watch watch' m n h now stop did ∙ before;
      compared = ap (λ (x : WatchState). x.expects) did.watched;
      matches = put-matches (match_at byte watch.expects) byte watch.expects (answered u got.Done h).stop stop refl (answered-no-match u got.Done h (answered u got.Done h).stop refl) did.stops;
      breaks = subst (λ (x : BreakTable). AreCountedDown watch.breaks.list x.list) (sym (ap (λ (x : WatchState). x.breaks) did.watched)) (counted-same watch.breaks.list);
      front = [];
      sends = sym (ap (λ (x : WatchState). x.sends) did.watched);
      keys = omega (arith, taken);
    }

-- ---- the cause of a stop

both-none : (sent typed : Option ℕ) → first_key sent typed ≡ None → (sent ≡ None) × (typed ≡ None)
both-none None typed is = (refl, is)
both-none (Some key) typed is = absurd (cc)

none-left : (time : ℕ) (sends : List Send) → due_send time sends ≡ None → sends_left time sends ≡ sends
none-left time [] none = refl
none-left time (send ∷ others) none = by (nat_le send.0 time) none
  where
    by : (b : Bool) → (if b then Some send.1 else None) ≡ None → (if b then others else send ∷ others) ≡ send ∷ others
    by true is = absurd (cc)
    by false is = refl

wru-due : (w : Want) (ported : Bool) (due : Option ℕ) → IsDoneOn w ported due Wru → (ported ≡ true) × (due ≡ None)
wru-due want.Key ported due is = (is.0, is.1)
wru-due (want.Console b) ported due is = absurd is.1
wru-due (want.LineKey n) ported due is = absurd is
wru-due (want.LinePut n b) ported due is = absurd is
wru-due w ported due is = absurd is

took-wru : (keys : List (ℕ × ℕ)) (u : UnitName) (w : Want) (watch watch' : WatchState) (m n h now : MachineState) (stop : Option Stop) → DidOnLine keys u w Wru watch watch' m n h now stop
    → TookWru keys (moment_of watch m) watch' now
took-wru keys u w watch watch' m n h now stop did =
    let key = wru-due w (is_ported n.lines) _ did.wants in
    let time : n.time ≡ now.time =
    sym (ap (λ (x : MachineState). x.time) did.left ∙ answered-time u got.NoKey h ∙ ap (λ (x : MachineState). x.time) did.only) in
    let same : n.taken ≡ m.taken = ap (λ (x : MachineState). x.taken) did.asks ∙ asked-taken u m in
    let D : ℕ → ℕ → Type 0 = λ t k. first_key (due_send t watch.sends) (due_key keys k t) ≡ None in
    let due : D now.time m.taken = subst (λ (t : ℕ). D t m.taken) time (subst (λ (k : ℕ). D n.time k) same key.1) in
    let none = both-none (due_send now.time watch.sends) (due_key keys m.taken now.time) due in
    let untyped : typed_key (due_send now.time watch.sends) (due_key keys m.taken now.time) ≡ None =
    ap (λ (o : Option ℕ). typed_key o (due_key keys m.taken now.time)) none.0 ∙ none.1 in
    record {
      front = [];
      sends = watch.sends;
      waited = refl;
      taken = m.taken;
      later = omega arith;
      key = inr (due, port-now keys u w Wru watch watch' m n h now stop did ∙ key.0);
      sends_now = ap (λ (x : WatchState). x.sends) did.watched ∙ sym (none-left now.time watch.sends none.0);
      taken_now = taken-same keys u w Wru watch watch' m n h now stop did ∙ sym (ap (λ (o : Option ℕ). taken_after m.taken o want.Key) untyped);
    }

put-cause : (keys : List (ℕ × ℕ)) (u : UnitName) (watch watch' : WatchState) (m h now : MachineState) (place : Option ℕ) (stop : Option Stop) → now ≡ (answered u got.Done h).machine
    → stop ≡ first_stop (option_map Expect place) (answered u got.Done h).stop → ServiceCause stop keys (moment_of watch m) watch' now
put-cause keys u watch watch' m h now None stop left is = line-cause keys (moment_of watch m) watch' u got.Done h now stop tt is left
put-cause keys u watch watch' m h now (Some k) stop left is = subst (λ (o : Option Stop). ServiceCause o keys (moment_of watch m) watch' now) (sym is) tt

pub line-caused : (keys : List (ℕ × ℕ)) (u : UnitName) (w : Want) (made : OnLine) (watch watch' : WatchState) (m n h now : MachineState) (stop : Option Stop) → DidOnLine keys u w made watch watch' m n h now stop
    → ServiceCause stop keys (moment_of watch m) watch' now
line-caused keys u w (Gets g) watch watch' m n h now stop did = line-cause keys (moment_of watch m) watch' u g h now stop did.of did.stops did.left
line-caused keys u w Wru watch watch' m n h now stop did =
    subst (λ (o : Option Stop). ServiceCause o keys (moment_of watch m) watch' now) (sym did.stops) (took-wru keys u w watch watch' m n h now stop did)
line-caused keys u w (Put byte) watch watch' m n h now stop did = put-cause keys u watch watch' m h now (match_at byte watch.expects) stop did.left did.stops
