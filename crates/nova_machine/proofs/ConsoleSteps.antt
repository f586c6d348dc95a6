-- What is done on the console line.
use Rattle.std.proofs.Common.{◌≡◌, ◌∙◌, ap, sym, refl, subst, ℕ, suc, Bool, true, false, not, true≢false, IsTrue, List, [], ◌∷◌, map, slice_get, slice_set, Option, Some, None, is_some, ◌||◌, option_map, inl, inr, nat_le, if◌then◌else◌}
use Rattle.std.proofs.lemmas.Option.{same_Some}
use Rattle.host_lines.specs.Traffic.{Peer, Answer, Ahead}
use Rattle.host_lines.specs.Told.{IsFirst, record_in, ahead_of}
use Rattle.host_lines.specs.State.{LineState}
use Rattle.telnet_lines.specs.Line.{LineOf, unconnected, is_full}
use Rattle.telnet_lines.specs.Poll.{polled}
use Rattle.telnet_lines.specs.Joined.{seen_line, Polls}
use Rattle.telnet_lines.proofs.Several.{stand_apart}
use Rattle.telnet_lines.proofs.Sending.{nothing_heard}
use Rattle.expect_actions.specs.Expects.{ExpectTable, match_at, after_printed}
use Rattle.expect_actions.specs.Sends.{Send, due_send}
use Rattle.unit_trait.specs.declared.calls.Want.{Want}
use Rattle.unit_trait.specs.declared.calls.Want.TheVariants as want
use Rattle.unit_trait.specs.declared.calls.Got.{Got}
use Rattle.nova_machine.specs.declared.machine.Stop.TheVariants.{Expect}
use Rattle.nova_machine.specs.declared.on_line.OnLine.{OnLine}
use Rattle.nova_machine.specs.declared.on_line.OnLine.TheVariants.{Gets}
use Rattle.nova_machine.specs.Wants.{first_key, got_of_key, key_stop}
use Rattle.nova_machine.specs.OnLines.{Lined, Around, around_at, lined, lined_by, put_by, put_line, put_got, with_port, console_in, is_ported, console_polled, console_put}
use Rattle.nova_machine.specs.OnLine.{got_on, stop_on, expects_on, IsOffLine, is_off_line}
use Rattle.nova_machine.specs.LineChanges.{ports_of, AreLinesTold, DoneOnLine, DoneAs}
use Rattle.nova_machine.proofs.LineSteps.{StepsAt, IsOnLine, done-plain, seen-put, put-seen-parts}

-- ---- whether it has a port

pub ported_is : {P : Type 0} (line : LineOf P) (lines : List (LineOf P)) → is_ported (line ∷ lines) ≡ is_some line.port
ported_is {P} line lines = by (is_some line.port)
  where
    by : (b : Bool) → is_some (if b then Some line else None) ≡ b
    by true = refl
    by false = refl

pub closed-none : {P : Type 0} (lines : List (LineOf P)) → slice_get lines 0 ≡ Some (unconnected None) → console_in lines ≡ None
closed-none {P} lines closed = ap (λ (o : Option (LineOf P)). with_port o) closed

pub none-of : {A : Type 0} (o : Option A) → is_some o ≡ false → o ≡ None
none-of None is = refl
none-of (Some a) is = absurd (cc)

pub unported-none : {P : Type 0} (lines : List (LineOf P)) → is_ported lines ≡ false → console_in lines ≡ None
unported-none lines is = none-of (console_in lines) is

pub ported-in : {P : Type 0} (line : LineOf P) (lines : List (LineOf P)) → is_some line.port ≡ true → console_in (line ∷ lines) ≡ Some line
ported-in {P} line lines some = ap (λ (b : Bool). if b then Some line else None) some

-- the same of what is seen
pub console-seen : (s : LineState) (lines : List (LineOf ℕ)) → console_in (map (seen_line s) lines) ≡ option_map (seen_line s) (console_in lines)
console-seen s [] = refl
console-seen s (line ∷ lines) = by (is_some line.port)
  where
    by : (b : Bool) → (if b then Some (seen_line s line) else None) ≡ option_map (seen_line s) (if b then Some line else None)
    by true = refl
    by false = refl

-- lines with the same ports
pub ported-same : (before after : List (LineOf ℕ)) → ports_of after ≡ ports_of before → is_ported after ≡ is_ported before
ported-same [] [] same = refl
ported-same [] (l ∷ after) same = absurd (cc)
ported-same (k ∷ before) [] same = absurd (cc)
ported-same (k ∷ before) (l ∷ after) same =
    let one : l.port ≡ k.port = cc in
    ported_is l after ∙ ap (λ (p : Option ℕ). is_some p) one ∙ sym (ported_is k before)

-- ---- a want that is for no line

pub key-off : (time : ℕ) (due : Option ℕ) (expects : ExpectTable) (lines : List (LineOf Peer)) (ahead : Ahead) → console_in lines ≡ None → lined want.Key (around_at time due expects lines ahead) ≡ None
unfolding lined
key-off time (Some key) expects lines ahead none = refl
key-off time None expects lines ahead none =
    ap (option_map (λ line. console_polled (around_at time None expects lines ahead) (polled time line ahead))) none

key-due : (time : ℕ) (due : Option ℕ) (expects : ExpectTable) (lines : List (LineOf Peer)) (ahead : Ahead) → is_some due ≡ true → lined want.Key (around_at time due expects lines ahead) ≡ None
unfolding lined
key-due time (Some key) expects lines ahead some = refl
key-due time None expects lines ahead some = absurd (cc)

byte-off : (time byte : ℕ) (due : Option ℕ) (expects : ExpectTable) (lines : List (LineOf Peer)) (ahead : Ahead) → console_in lines ≡ None
    → lined (want.Console byte) (around_at time due expects lines ahead) ≡ None
unfolding lined
byte-off time byte due expects lines ahead none = ap (option_map (console_put byte (around_at time due expects lines ahead))) none

-- nothing was done
nothing-as : (o : Option Lined) (s : LineState) (lines : List (LineOf ℕ)) (expects : ExpectTable) (whole : List Answer) → o ≡ None → DoneAs o None expects whole s s lines
nothing-as o s lines expects whole none =
    subst (λ (l : Option Lined). DoneAs l None expects whole s s lines) (sym none)
    (record { line = record { answers = refl; lines = tt; ahead = tt; heard = tt }; stop = refl; waits = refl })

pub done-off-key : (time : ℕ) (due : Option ℕ) (expects : ExpectTable) (s : LineState) (lines : List (LineOf ℕ)) (whole : List Answer) → is_ported lines ≡ false
    → DoneAs (lined want.Key (around_at time due expects (map (seen_line s) lines) (ahead_of s.told whole))) None expects whole s s lines
done-off-key time due expects s lines whole off =
    nothing-as _ s lines expects whole
    (key-off time due expects (map (seen_line s) lines) (ahead_of s.told whole) (console-seen s lines ∙ ap (option_map (seen_line s)) (unported-none lines off)))

pub done-due-key : (time : ℕ) (due : Option ℕ) (expects : ExpectTable) (s : LineState) (lines : List (LineOf ℕ)) (whole : List Answer) → is_some due ≡ true
    → DoneAs (lined want.Key (around_at time due expects (map (seen_line s) lines) (ahead_of s.told whole))) None expects whole s s lines
done-due-key time due expects s lines whole some = nothing-as _ s lines expects whole (key-due time due expects (map (seen_line s) lines) (ahead_of s.told whole) some)

pub done-off-byte : (time byte : ℕ) (due : Option ℕ) (expects : ExpectTable) (s : LineState) (lines : List (LineOf ℕ)) (whole : List Answer) → is_ported lines ≡ false
    → DoneAs (lined (want.Console byte) (around_at time due expects (map (seen_line s) lines) (ahead_of s.told whole))) None expects whole s s lines
done-off-byte time byte due expects s lines whole off =
    nothing-as _ s lines expects whole
    (byte-off time byte due expects (map (seen_line s) lines) (ahead_of s.told whole) (console-seen s lines ∙ ap (option_map (seen_line s)) (unported-none lines off)))

-- ---- what was done on another line

pub none-as : (o : Option Lined) (expects : ExpectTable) (whole : List Answer) (old new : LineState) (after : List (LineOf ℕ)) → DoneOnLine o None whole old new after → DoneAs o None expects whole old new after
none-as None expects whole old new after done = record { line = done; stop = refl; waits = refl }
none-as (Some l) expects whole old new after done = let no = done.answers in absurd (cc)

pub key-as : (n : ℕ) (a : Around) (g : Got) (whole : List Answer) (old new : LineState) (after : List (LineOf ℕ)) → DoneOnLine (lined (want.LineKey n) a) (Some g) whole old new after
    → DoneAs (lined (want.LineKey n) a) (Some (Gets g)) a.expects whole old new after
unfolding lined
key-as n a g whole old new after = by (slice_get a.lines (suc n))
  where
    by : (o : Option (LineOf Peer)) → DoneOnLine (option_map (λ line. lined_by (suc n) a (polled a.time line a.ahead)) o) (Some g) whole old new after
        → DoneAs (option_map (λ line. lined_by (suc n) a (polled a.time line a.ahead)) o) (Some (Gets g)) a.expects whole old new after
    by None done = let no = done.answers in absurd (cc)
    by (Some line) done = record { line = done; stop = refl; waits = refl }

pub put-as : (n byte : ℕ) (a : Around) (g : Got) (whole : List Answer) (old new : LineState) (after : List (LineOf ℕ)) → DoneOnLine (lined (want.LinePut n byte) a) (Some g) whole old new after
    → DoneAs (lined (want.LinePut n byte) a) (Some (Gets g)) a.expects whole old new after
unfolding lined
put-as n byte a g whole old new after = by (slice_get a.lines (suc n))
  where
    by : (o : Option (LineOf Peer)) → DoneOnLine (option_map (put_by (suc n) byte a) o) (Some g) whole old new after
        → DoneAs (option_map (put_by (suc n) byte a) o) (Some (Gets g)) a.expects whole old new after
    by None done = let no = done.answers in absurd (cc)
    by (Some line) done = record { line = done; stop = refl; waits = refl }

-- a want that no line can do
pub plain-as : (time : ℕ) (due : Option ℕ) (expects : ExpectTable) (w : Want) (s : LineState) (lines : List (LineOf ℕ)) (whole : List Answer) → (¬ IsOnLine w)
    → DoneAs (lined w (around_at time due expects (map (seen_line s) lines) (ahead_of s.told whole))) None expects whole s s lines
plain-as time due expects w s lines whole plain = none-as _ expects whole s s lines (done-plain time due expects w s lines whole plain)

pub plain-off : (w : Want) (ported : Bool) (due : Option ℕ) → (¬ IsOnLine w) → IsOffLine w ported due
plain-off want.Key ported due plain = absurd (plain tt)
plain-off (want.Console byte) ported due plain = absurd (plain tt)
plain-off w ported due plain = tt

-- ---- a key

console-lined : (time : ℕ) (due : Option ℕ) (expects : ExpectTable) (lines : List (LineOf Peer)) (line : LineOf Peer) (ahead : Ahead) → due ≡ None → console_in lines ≡ Some line
    → lined want.Key (around_at time due expects lines ahead) ≡ Some (console_polled (around_at time due expects lines ahead) (polled time line ahead))
unfolding lined
console-lined time (Some key) expects lines line ahead none there = absurd (cc)
console-lined time None expects lines line ahead none there =
    ap (option_map (λ line. console_polled (around_at time None expects lines ahead) (polled time line ahead))) there

pub done-console-key : (tells : Bool) (time : ℕ) (due : Option ℕ) (expects : ExpectTable) (old new : LineState) (line : LineOf ℕ) (others : List (LineOf ℕ)) (after : LineOf ℕ) (key : Option ℕ) (made : OnLine)
    (whole : List Answer)
    → StepsAt tells 0 old (line ∷ others) line new after → is_some line.port ≡ true → due ≡ None → (IsTrue tells → Polls time key old line new after)
    → AreLinesTold tells old (line ∷ others) → IsFirst (record_in new.told) whole
    → got_on made ≡ got_of_key key → stop_on made expects ≡ key_stop key → expects_on made expects ≡ expects
    → DoneAs (lined want.Key (around_at time due expects (map (seen_line old) (line ∷ others)) (ahead_of old.told whole))) (Some made) expects whole old new (after ∷ others)
done-console-key tells time due expects old new line others after key made whole step some none polls told first got stop waits = elim told [
  | inl apart ↦
      let lines = line ∷ others in
      let p = polls apart.0 in
      let one = stand_apart 0 old new lines line after refl apart.1 (step.parties apart.0) in
      let a = around_at time due expects (map (seen_line old) lines) (ahead_of old.told whole) in
      let q = polled time (seen_line old line) (ahead_of old.told whole) in
      let there : console_in (map (seen_line old) lines) ≡ Some (seen_line old line) = console-seen old lines ∙ ap (option_map (seen_line old)) (ported-in line others some) in
      subst (λ (l : Option Lined). DoneAs l (Some made) expects whole old new (after ∷ others)) (sym (console-lined time due expects (map (seen_line old) lines) (seen_line old line) (ahead_of old.told whole) none there))
      (record {
        line = record {
          answers = ap Some (got ∙ ap got_of_key (sym (p.key_is whole first)));
          lines = ap (slice_set (map (seen_line old) lines) 0) (p.line_is whole first) ∙ sym one.seen;
          ahead = p.ahead_is whole first;
          heard = p.heard whole first;
        };
        stop = ap Some (ap key_stop (p.key_is whole first) ∙ sym stop);
        waits = ap Some (sym waits);
      })
  | inr closed ↦ let no : is_some line.port ≡ false = ap (λ (o : Option ℕ). is_some o) closed.0 in absurd (cc)
]

-- ---- a byte

byte-lined : (time byte : ℕ) (due : Option ℕ) (expects : ExpectTable) (lines : List (LineOf Peer)) (line : LineOf Peer) (ahead : Ahead) → console_in lines ≡ Some line
    → lined (want.Console byte) (around_at time due expects lines ahead) ≡ Some (console_put byte (around_at time due expects lines ahead) line)
unfolding lined
byte-lined time byte due expects lines line ahead there = ap (option_map (console_put byte (around_at time due expects lines ahead))) there

full-seen : (s : LineState) (line : LineOf ℕ) → is_full (seen_line s line) ≡ is_full line
full-seen s line = by line.connection
  where
    by : (c : Option ℕ) → is_full (seen_line s (record line { connection = c })) ≡ is_full (record line { connection = c })
    by None = refl
    by (Some c) = refl

pub done-console-put : (time byte : ℕ) (due : Option ℕ) (expects : ExpectTable) (s : LineState) (line : LineOf ℕ) (others : List (LineOf ℕ)) (after : LineOf ℕ) (made : OnLine) (whole : List Answer)
    → is_some line.port ≡ true → after ≡ put_line byte line → got_on made ≡ put_got line
    → stop_on made expects ≡ (if is_full line then None else option_map Expect (match_at byte expects))
    → expects_on made expects ≡ (if is_full line then expects else after_printed byte expects)
    → DoneAs (lined (want.Console byte) (around_at time due expects (map (seen_line s) (line ∷ others)) (ahead_of s.told whole))) (Some made) expects whole s s (after ∷ others)
done-console-put time byte due expects s line others after made whole some put got stop waits =
    let lines = line ∷ others in
    let full = full-seen s line in
    let there : console_in (map (seen_line s) lines) ≡ Some (seen_line s line) = console-seen s lines ∙ ap (option_map (seen_line s)) (ported-in line others some) in
    subst (λ (l : Option Lined). DoneAs l (Some made) expects whole s s (after ∷ others)) (sym (byte-lined time byte due expects (map (seen_line s) lines) (seen_line s line) (ahead_of s.told whole) there))
    (record {
      line = record {
        answers = ap Some (got ∙ sym (put-seen-parts s byte line.port line.connection line.keys line.output line.rest).1);
        lines = seen-put s byte 0 line lines refl ∙ ap (λ (l : LineOf ℕ). map (seen_line s) (l ∷ others)) (sym put);
        ahead = refl;
        heard = sym (nothing_heard s.sent);
      };
      stop = ap Some (ap (λ (b : Bool). if b then None else option_map Expect (match_at byte expects)) full ∙ sym stop);
      waits = ap Some (ap (λ (b : Bool). if b then expects else after_printed byte expects) full ∙ sym waits);
    })

-- where it has no port, a key is wanted of no line
pub closed-off : (lines : List (LineOf ℕ)) (due : Option ℕ) → slice_get lines 0 ≡ Some (unconnected None) → IsOffLine want.Key (is_ported lines) due
closed-off lines due closed = λ ported. let no : is_ported lines ≡ false = ap (λ (o : Option (LineOf ℕ)). is_some o) (closed-none lines closed) in absurd (cc)

-- ---- other keys

pub first_some : (sent typed : Option ℕ) → is_some (first_key sent typed) ≡ (is_some sent || is_some typed)
first_some None typed = refl
first_some (Some key) typed = refl

-- a byte of SEND is due where the first has come
pub send_none : (time : ℕ) (sends : List Send) → slice_get sends 0 ≡ None → false ≡ is_some (due_send time sends)
send_none time [] none = refl
send_none time (send ∷ others) none = absurd (cc)

pub send_some : (time : ℕ) (sends : List Send) (send : Send) → slice_get sends 0 ≡ Some send → nat_le send.0 time ≡ is_some (due_send time sends)
send_some time [] send there = absurd (cc)
send_some time (first ∷ others) send there =
    let same : first ≡ send = same_Some first send there in
    ap (λ (x : Send). nat_le x.0 time) (sym same) ∙ by (nat_le first.0 time)
  where
    by : (b : Bool) → b ≡ is_some (if b then Some first.1 else None)
    by true = refl
    by false = refl

pub ruleset sends_due = (send_none, send_some)

-- ---- a want that is for no line, whichever key is due

unported : (ported : Bool) → not ported ≡ true → ported ≡ false
unported true off = sym off
unported false off = refl

pub off-as : (time : ℕ) (due : Option ℕ) (expects : ExpectTable) (w : Want) (s : LineState) (lines : List (LineOf ℕ)) (whole : List Answer) → is_off_line w (is_ported lines) ≡ true
    → DoneAs (lined w (around_at time due expects (map (seen_line s) lines) (ahead_of s.told whole))) None expects whole s s lines
off-as time due expects (want.LineKey n) s lines whole off = absurd (true≢false (sym off))
off-as time due expects (want.LinePut n byte) s lines whole off = absurd (true≢false (sym off))
off-as time due expects want.Key s lines whole off = done-off-key time due expects s lines whole (unported (is_ported lines) off)
off-as time due expects (want.Console byte) s lines whole off = done-off-byte time byte due expects s lines whole (unported (is_ported lines) off)
off-as time due expects w s lines whole off = plain-as time due expects w s lines whole (λ on. on)

pub off-off : (w : Want) (ported : Bool) (due : Option ℕ) → is_off_line w ported ≡ true → IsOffLine w ported due
off-off (want.LineKey n) ported due off = tt
off-off (want.LinePut n byte) ported due off = tt
off-off want.Key ported due off = λ has. absurd (true≢false (sym has ∙ unported ported off))
off-off (want.Console byte) ported due off = unported ported off
off-off w ported due off = tt
