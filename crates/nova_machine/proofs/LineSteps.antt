-- What calls leave of the lines of a machine, one behind another.
use Rattle.std.proofs.Common.{◌≡◌, ◌≢◌, ◌⊎◌, ◌∙◌, ap, sym, refl, subst, inl, inr, arith, ℕ, Bool, true, false, IsTrue, List, [], ◌∷◌, ◌++◌, append_assoc, append-nil, map, length, nat_le, ◌&&◌, if◌then◌else◌, zero, suc, slice_get, slice_set, Option, Some, None, is_some, option_map}
use Rattle.std.proofs.lemmas.Option.{same_Some, slice_get-map}
use Rattle.host_lines.specs.Traffic.{Peer, Answer, Ahead}
use Rattle.host_lines.specs.Told.{Heard, heard_more, IsFirst, record_in, ahead_of}
use Rattle.host_lines.specs.State.{LineState}
use Rattle.telnet_lines.specs.Line.{LineOf, IsSettled, line_of, unconnected, is_full, full_output, put_on}
use Rattle.telnet_lines.specs.Telnet.{coded}
use Rattle.telnet_lines.specs.declared.decoder.Rest.{Rest}
use Rattle.telnet_lines.specs.Poll.{Polled, accepted, received, sent, polled}
use Rattle.telnet_lines.specs.Joined.{seen_line, Polls, KeepsOthers, KeepsParties}
use Rattle.telnet_lines.specs.Many.{AreApart}
use Rattle.telnet_lines.proofs.Several.{stand_apart}
use Rattle.telnet_lines.proofs.Sending.{nothing_heard}
use Rattle.telnet_lines.proofs.Apart.{is_or_not, same_kind}
use Rattle.unit_trait.specs.declared.calls.Want.{Want}
use Rattle.unit_trait.specs.declared.calls.Want.TheVariants as want
use Rattle.unit_trait.specs.declared.calls.Got.TheVariants as got
use Rattle.nova_machine.proofs.Hearing.{both-heard}
use Rattle.expect_actions.specs.Expects.{ExpectTable}
use Rattle.nova_machine.specs.OnLines.{Lined, around_at, lined, lined_by, put_by, got_of_line, put_line, put_got}
use Rattle.nova_machine.specs.LineChanges.{ports_of, HaveNoPort, HasConnection, AreLinesTold, HearsOn, LinesGoOn, DoneOnLine}

-- ---- records of answers

pub first-same : (answers : List Answer) → IsFirst answers answers
first-same answers = ([], sym (append-nil answers))

pub first-through : (a b c : List Answer) → IsFirst a b → IsFirst b c → IsFirst a c
first-through a b c one two = (one.0 ++ two.0, two.1 ∙ ap (λ (l : List Answer). l ++ two.0) one.1 ∙ append_assoc a one.0 two.0)

-- ---- what is heard

pub hears-same : (h : Heard) → HearsOn h h
hears-same h = ([], sym (nothing_heard h))

pub hears-equal : (a b : Heard) → b ≡ a → HearsOn a b
hears-equal a b same = ([], same ∙ sym (nothing_heard a))

pub hears-then : (a b c : Heard) → HearsOn a b → HearsOn b c → HearsOn a c
hears-then a b c one two = (one.0 ++ two.0, two.1 ∙ ap (λ (h : Heard). heard_more h two.0) one.1 ∙ both-heard a one.0 two.0)

-- what a poll sends is heard behind what was
pub hears-poll : (now : ℕ) (key : Option ℕ) (old new : LineState) (before after : LineOf ℕ) → Polls now key old before new after → HearsOn old.sent new.sent
hears-poll now key old new before after polls =
    let whole = record_in new.told in
    ((polled now (seen_line old before) (ahead_of old.told whole)).sent, polls.heard whole (first-same whole))

-- ---- calls one behind another

has-or-not : (conn : ℕ) (lines : List (LineOf ℕ)) → HasConnection conn lines ⊎ (¬ HasConnection conn lines)
has-or-not conn [] = inr (λ none. none)
has-or-not conn (line ∷ lines) = elim (is_or_not line.connection conn) [
  | inl own ↦ inl (inl own)
  | inr other ↦ elim (has-or-not conn lines) [
    | inl has ↦ inl (inr has)
    | inr none ↦ inr (λ h. elim h [ inl own ↦ other own | inr has ↦ none has ])
  ]
]

-- nothing was asked of the lines
pub lines-stay : (tells : Bool) (s : LineState) (lines : List (LineOf ℕ)) → LinesGoOn tells s lines s lines
lines-stay tells s lines = record {
  listens = refl;
  ports = refl;
  owned = λ conn stands. elim (has-or-not conn lines) [ inl has ↦ inl has | inr none ↦ inr (stands, none) ];
  later = omega arith;
  idle = λ none. (refl, refl);
  told = λ told. (told, first-same (record_in s.told));
  heard = λ tells. hears-same s.sent;
}

pub no-ports-same : (before after : List (LineOf ℕ)) → ports_of after ≡ ports_of before → HaveNoPort before → HaveNoPort after
no-ports-same [] [] same none = tt
no-ports-same [] (l ∷ after) same none = absurd (cc)
no-ports-same (k ∷ before) [] same none = tt
no-ports-same (k ∷ before) (l ∷ after) same none =
    let one : l.port ≡ k.port = cc in
    let more : ports_of after ≡ ports_of before = cc in
    (one ∙ none.0, no-ports-same before after more none.1)

pub lines-then : (tells : Bool) (s mid new : LineState) (before between after : List (LineOf ℕ))
    → LinesGoOn tells s before mid between → LinesGoOn tells mid between new after → LinesGoOn tells s before new after
lines-then tells s mid new before between after one two = record {
  listens = two.listens ∙ one.listens;
  ports = two.ports ∙ one.ports;
  owned = λ conn stands. elim (two.owned conn stands) [
    | inl has ↦ inl has
    | inr still ↦ elim (one.owned conn still.0) [ inl has ↦ absurd (still.1 has) | inr before ↦ inr before ]
  ];
  later = let a = one.later in let b = two.later in omega (arith, a, b);
  idle = λ none.
      let first = one.idle none in
      let second = two.idle (no-ports-same before between one.ports none) in
      (second.0 ∙ first.0, second.1 ∙ first.1);
  told = λ told.
      let first = one.told told in
      let second = two.told first.0 in
      (second.0, first-through (record_in s.told) (record_in mid.told) (record_in new.told) first.1 second.1);
  heard = λ is. hears-then s.sent mid.sent new.sent (one.heard is) (two.heard is);
}

-- ---- one line of several

other-has : (conn i : ℕ) (lines : List (LineOf ℕ)) (before after : LineOf ℕ) → slice_get lines i ≡ Some before → before.connection ≢ Some conn
    → HasConnection conn lines → HasConnection conn (slice_set lines i after)
other-has conn i [] before after at other has = absurd has
other-has conn zero (line ∷ lines) before after at other (inl own) =
    let same : line ≡ before = same_Some line before at in
    absurd (other (ap (λ (l : LineOf ℕ). l.connection) (sym same) ∙ own))
other-has conn zero (line ∷ lines) before after at other (inr has) = inr has
other-has conn (suc i) (line ∷ lines) before after at other (inl own) = inl own
other-has conn (suc i) (line ∷ lines) before after at other (inr has) = inr (other-has conn i lines before after at other has)

here-has : (conn i : ℕ) (lines : List (LineOf ℕ)) (before after : LineOf ℕ) → slice_get lines i ≡ Some before → after.connection ≡ Some conn
    → HasConnection conn (slice_set lines i after)
here-has conn i [] before after at own = absurd (cc)
here-has conn zero (line ∷ lines) before after at own = inl own
here-has conn (suc i) (line ∷ lines) before after at own = inr (here-has conn i lines before after at own)

ports-set : (i : ℕ) (lines : List (LineOf ℕ)) (before after : LineOf ℕ) → slice_get lines i ≡ Some before → after.port ≡ before.port
    → ports_of (slice_set lines i after) ≡ ports_of lines
ports-set i [] before after at same = refl
ports-set zero (line ∷ lines) before after at same =
    let is : line ≡ before = same_Some line before at in
    ap (λ (p : Option ℕ). p ∷ ports_of lines) (same ∙ ap (λ (l : LineOf ℕ). l.port) (sym is))
ports-set (suc i) (line ∷ lines) before after at same = ap (λ (ps : List (Option ℕ)). line.port ∷ ps) (ports-set i lines before after at same)

pub no-port-at : (i : ℕ) (lines : List (LineOf ℕ)) (line : LineOf ℕ) → slice_get lines i ≡ Some line → HaveNoPort lines → line.port ≡ None
no-port-at i [] line at none = absurd (cc)
no-port-at zero (l ∷ lines) line at none = ap (λ (x : LineOf ℕ). x.port) (sym (same_Some l line at)) ∙ none.0
no-port-at (suc i) (l ∷ lines) line at none = no-port-at i lines line at none.1

pub set-same : {P : Type 0} (i : ℕ) (lines : List (LineOf P)) (line : LineOf P) → slice_get lines i ≡ Some line → slice_set lines i line ≡ lines
set-same i [] line at = refl
set-same {P} zero (l ∷ lines) line at = ap (λ (x : LineOf P). x ∷ lines) (sym (same_Some l line at))
set-same {P} (suc i) (l ∷ lines) line at = ap (λ (ls : List (LineOf P)). l ∷ ls) (set-same i lines line at)

-- a step for the line at a place
pub record StepsAt (tells : Bool) (i : ℕ) (old : LineState) (lines : List (LineOf ℕ)) (before : LineOf ℕ) (new : LineState) (after : LineOf ℕ) : Type 0 where
  pub here : slice_get lines i ≡ Some before
  pub port : after.port ≡ before.port
  pub others : KeepsOthers old before new after
  pub parties : IsTrue tells → KeepsParties old before new after
  pub idle : before.port ≡ None → (new ≡ old) × (after ≡ before)
  pub grows : IsTrue tells → IsFirst (record_in old.told) (record_in new.told)
  pub heard : IsTrue tells → HearsOn old.sent new.sent

pub one-goes-on : (tells : Bool) (i : ℕ) (old : LineState) (lines : List (LineOf ℕ)) (before : LineOf ℕ) (new : LineState) (after : LineOf ℕ)
    → StepsAt tells i old lines before new after → LinesGoOn tells old lines new (slice_set lines i after)
one-goes-on tells i old lines before new after step =
    let at = step.here in
    let none-left : HaveNoPort lines → (new ≡ old) × (slice_set lines i after ≡ lines) = λ none.
    let still = step.idle (no-port-at i lines before at none) in
    (still.0, ap (slice_set lines i) still.1 ∙ set-same i lines before at) in
    record {
      listens = step.others.listens;
      ports = ports-set i lines before after at step.port;
      owned = λ conn stands. elim (step.others.owned conn stands) [
        | inl own ↦ inl (here-has conn i lines before after at own)
        | inr still ↦ elim (has-or-not conn lines) [
          | inl has ↦ inl (other-has conn i lines before after at still.1 has)
          | inr none ↦ inr (still.0, none)
        ]
      ];
      later = step.others.later;
      idle = none-left;
      told = λ told. elim told [
        | inl apart ↦ (inl (apart.0, (stand_apart i old new lines before after at apart.1 (step.parties apart.0)).apart), step.grows apart.0)
        | inr none ↦
            let still = none-left none in (
              inr (no-ports-same lines (slice_set lines i after) (ports-set i lines before after at step.port) none),
              subst (λ (x : LineState). IsFirst (record_in old.told) (record_in x.told)) (sym still.0) (first-same (record_in old.told)),
            )
      ];
      heard = step.heard;
    }

-- ---- what was done on a line

-- a line by its number, as it is seen
pub seen-at : (s : LineState) (lines : List (LineOf ℕ)) (n : ℕ) (o : Option (LineOf ℕ)) → slice_get lines n ≡ o
    → slice_get (map (seen_line s) lines) n ≡ option_map (seen_line s) o
seen-at s lines n o is = slice_get-map (seen_line s) lines n ∙ ap (option_map (seen_line s)) is

-- a want that is for no line, or for one that is not there
unlined : (time : ℕ) (due : Option ℕ) (expects : ExpectTable) (w : Want) (s : LineState) (lines : List (LineOf ℕ)) (whole : List Answer)
    → lined w (around_at time due expects (map (seen_line s) lines) (ahead_of s.told whole)) ≡ None → DoneOnLine (lined w (around_at time due expects (map (seen_line s) lines) (ahead_of s.told whole))) None whole s s lines
unlined time due expects w s lines whole none =
    subst (λ (l : Option Lined). DoneOnLine l None whole s s lines) (sym none) (record { answers = refl; lines = tt; ahead = tt; heard = tt })

no-key : (time n : ℕ) (due : Option ℕ) (expects : ExpectTable) (lines : List (LineOf Peer)) (ahead : Ahead) → slice_get lines (suc n) ≡ None → lined (want.LineKey n) (around_at time due expects lines ahead) ≡ None
unfolding lined
no-key time n due expects lines ahead none = ap (option_map (λ line. lined_by (suc n) (around_at time due expects lines ahead) (polled time line ahead))) none

no-put : (time n byte : ℕ) (due : Option ℕ) (expects : ExpectTable) (lines : List (LineOf Peer)) (ahead : Ahead) → slice_get lines (suc n) ≡ None → lined (want.LinePut n byte) (around_at time due expects lines ahead) ≡ None
unfolding lined
no-put time n byte due expects lines ahead none =
    ap (option_map (λ (line : LineOf Peer). put_by (suc n) byte (around_at time due expects lines ahead) line)) none

pub done-no-key : (time n : ℕ) (due : Option ℕ) (expects : ExpectTable) (s : LineState) (lines : List (LineOf ℕ)) (whole : List Answer) → slice_get lines (suc n) ≡ None
    → DoneOnLine (lined (want.LineKey n) (around_at time due expects (map (seen_line s) lines) (ahead_of s.told whole))) None whole s s lines
done-no-key time n due expects s lines whole none =
    unlined time due expects (want.LineKey n) s lines whole (no-key time n due expects (map (seen_line s) lines) (ahead_of s.told whole) (seen-at s lines (suc n) None none))

pub done-no-put : (time n byte : ℕ) (due : Option ℕ) (expects : ExpectTable) (s : LineState) (lines : List (LineOf ℕ)) (whole : List Answer) → slice_get lines (suc n) ≡ None
    → DoneOnLine (lined (want.LinePut n byte) (around_at time due expects (map (seen_line s) lines) (ahead_of s.told whole))) None whole s s lines
done-no-put time n byte due expects s lines whole none =
    unlined time due expects (want.LinePut n byte) s lines whole (no-put time n byte due expects (map (seen_line s) lines) (ahead_of s.told whole) (seen-at s lines (suc n) None none))

-- wants that can be for a line
abbrev pub IsOnLine : Want → Type 0
IsOnLine (want.LineKey n) = Unit {0}
IsOnLine (want.LinePut n byte) = Unit {0}
IsOnLine want.Key = Unit {0}
IsOnLine (want.Console byte) = Unit {0}
IsOnLine other = ⊥

plain-want : (time : ℕ) (due : Option ℕ) (expects : ExpectTable) (w : Want) (lines : List (LineOf Peer)) (ahead : Ahead) → (¬ IsOnLine w) → lined w (around_at time due expects lines ahead) ≡ None
unfolding lined
plain-want time due expects (want.LineKey n) lines ahead plain = absurd (plain tt)
plain-want time due expects (want.LinePut n byte) lines ahead plain = absurd (plain tt)
plain-want time due expects want.Key lines ahead plain = absurd (plain tt)
plain-want time due expects (want.Console byte) lines ahead plain = absurd (plain tt)
plain-want time due expects w lines ahead plain = refl

pub done-plain : (time : ℕ) (due : Option ℕ) (expects : ExpectTable) (w : Want) (s : LineState) (lines : List (LineOf ℕ)) (whole : List Answer) → (¬ IsOnLine w)
    → DoneOnLine (lined w (around_at time due expects (map (seen_line s) lines) (ahead_of s.told whole))) None whole s s lines
done-plain time due expects w s lines whole plain = unlined time due expects w s lines whole (plain-want time due expects w (map (seen_line s) lines) (ahead_of s.told whole) plain)

-- the key of a poll
key-lined : (time n : ℕ) (due : Option ℕ) (expects : ExpectTable) (s : LineState) (lines : List (LineOf ℕ)) (line : LineOf ℕ) (whole : List Answer) → slice_get lines (suc n) ≡ Some line
    → lined (want.LineKey n) (around_at time due expects (map (seen_line s) lines) (ahead_of s.told whole))
    ≡ Some (lined_by (suc n) (around_at time due expects (map (seen_line s) lines) (ahead_of s.told whole)) (polled time (seen_line s line) (ahead_of s.told whole)))
unfolding lined
key-lined time n due expects s lines line whole there =
    ap (option_map (λ line. lined_by (suc n) (around_at time due expects (map (seen_line s) lines) (ahead_of s.told whole)) (polled time line (ahead_of s.told whole)))) (seen-at s lines (suc n) (Some line) there)

pub done-key : (time n : ℕ) (due : Option ℕ) (expects : ExpectTable) (old new : LineState) (lines : List (LineOf ℕ)) (before after : LineOf ℕ) (key : Option ℕ) (whole : List Answer)
    → slice_get lines (suc n) ≡ Some before → AreApart old lines → Polls time key old before new after → KeepsParties old before new after
    → IsFirst (record_in new.told) whole
    → DoneOnLine (lined (want.LineKey n) (around_at time due expects (map (seen_line old) lines) (ahead_of old.told whole))) (Some (got_of_line key)) whole old new (slice_set lines (suc n) after)
done-key time n due expects old new lines before after key whole there apart polls keeps first =
    let one = stand_apart (suc n) old new lines before after there apart keeps in
    let p = polled time (seen_line old before) (ahead_of old.told whole) in
    subst (λ (l : Option Lined). DoneOnLine l (Some (got_of_line key)) whole old new (slice_set lines (suc n) after)) (sym (key-lined time n due expects old lines before whole there))
    (record {
      answers = ap (λ (k : Option ℕ). Some (got_of_line k)) (sym (polls.key_is whole first));
      lines = ap (slice_set (map (seen_line old) lines) (suc n)) (polls.line_is whole first) ∙ sym one.seen;
      ahead = polls.ahead_is whole first;
      heard = polls.heard whole first;
    })

-- a poll of a line without a port
poll-nobody : (time : ℕ) (ahead : Ahead) → polled time (unconnected None) ahead ≡ record { key = None; sent = []; line = unconnected None; ahead = ahead }
unfolding polled accepted received sent
poll-nobody time ahead = refl

pub done-nobody : (time n : ℕ) (due : Option ℕ) (expects : ExpectTable) (s : LineState) (lines : List (LineOf ℕ)) (line : LineOf ℕ) (whole : List Answer)
    → slice_get lines (suc n) ≡ Some line → line ≡ unconnected None
    → DoneOnLine (lined (want.LineKey n) (around_at time due expects (map (seen_line s) lines) (ahead_of s.told whole))) (Some got.NoKey) whole s s lines
done-nobody time n due expects s lines line whole there nobody =
    let ahead = ahead_of s.told whole in
    let at = map (seen_line s) lines in
    let poll : polled time (seen_line s line) ahead ≡ record { key = None; sent = []; line = unconnected None; ahead = ahead } =
    ap (λ (l : LineOf ℕ). polled time (seen_line s l) ahead) nobody ∙ poll-nobody time ahead in
    let is : lined (want.LineKey n) (around_at time due expects at ahead) ≡ Some (record { got = got.NoKey; sent = []; lines = slice_set at (suc n) (unconnected None); ahead = ahead; stop = None; expects = expects }) =
    key-lined time n due expects s lines line whole there ∙ ap (λ (p : Polled). Some (lined_by (suc n) (around_at time due expects at ahead) p)) poll in
    subst (λ (l : Option Lined). DoneOnLine l (Some got.NoKey) whole s s lines) (sym is)
    (record {
      answers = refl;
      lines =
          ap (λ (l : LineOf ℕ). slice_set at (suc n) (seen_line s l)) (sym nobody)
          ∙ set-same (suc n) at (seen_line s line) (seen-at s lines (suc n) (Some line) there);
      ahead = refl;
      heard = sym (nothing_heard s.sent);
    })

-- a byte for a line, by its number and by who is behind it
pub put-seen-parts : (s : LineState) (byte : ℕ) (port connection : Option ℕ) (keys output : List ℕ) (rest : Rest)
    → (put_line byte (seen_line s (line_of port connection keys output rest)) ≡ seen_line s (put_line byte (line_of port connection keys output rest)))
    × (put_got (seen_line s (line_of port connection keys output rest)) ≡ put_got (line_of port connection keys output rest))
put-seen-parts s byte port None keys output rest = (refl, refl)
put-seen-parts s byte port (Some c) keys output rest = elim (nat_le full_output (length output)) as (λ b.
    ((if b then seen_line s (line_of port (Some c) keys output rest) else put_on byte (seen_line s (line_of port (Some c) keys output rest)))
    ≡ seen_line s (if b then line_of port (Some c) keys output rest else put_on byte (line_of port (Some c) keys output rest)))
    × ((if b then got.LineFull else got.Done) ≡ (if b then got.LineFull else got.Done))) [
      | true ↦ (refl, refl)
      | false ↦ (refl, refl)
    ]

put-connection : (byte : ℕ) (line : LineOf ℕ) → (put_line byte line).connection ≡ line.connection
put-connection byte line = elim (is_full line) as (λ b. (if b then line else put_on byte line).connection ≡ line.connection) [
  | true ↦ refl
  | false ↦ elim (is_some line.connection) as (λ b. (if b then record line { output = line.output ++ coded (byte ∷ []) } else line).connection ≡ line.connection) [
    | true ↦ refl
    | false ↦ refl
  ]
]

put-port : (byte : ℕ) (line : LineOf ℕ) → (put_line byte line).port ≡ line.port
put-port byte line = elim (is_full line) as (λ b. (if b then line else put_on byte line).port ≡ line.port) [
  | true ↦ refl
  | false ↦ elim (is_some line.connection) as (λ b. (if b then record line { output = line.output ++ coded (byte ∷ []) } else line).port ≡ line.port) [
    | true ↦ refl
    | false ↦ refl
  ]
]

put-parties : (s : LineState) (byte : ℕ) (line : LineOf ℕ) → KeepsParties s line s (put_line byte line)
put-parties s byte line = record {
  kind = same_kind s.told;
  kept = λ conn other has. refl;
  apart = λ conn other has at. absurd (other (sym (put-connection byte line) ∙ at));
  linked = λ own conn at. own conn (sym (put-connection byte line) ∙ at);
}

put-others : (s : LineState) (byte : ℕ) (line : LineOf ℕ) → KeepsOthers s line s (put_line byte line)
put-others s byte line = record {
  listens = refl;
  owned = λ conn stands. elim (is_or_not line.connection conn) [
    | inl own ↦ inl (put-connection byte line ∙ own)
    | inr other ↦ inr (stands, other)
  ];
  later = omega arith;
}

pub seen-put : (s : LineState) (byte n : ℕ) (line : LineOf ℕ) (lines : List (LineOf ℕ)) → slice_get lines n ≡ Some line
    → slice_set (map (seen_line s) lines) n (put_line byte (seen_line s line)) ≡ map (seen_line s) (slice_set lines n (put_line byte line))
seen-put s byte n line lines there =
    ap (slice_set (map (seen_line s) lines) n) (put-seen-parts s byte line.port line.connection line.keys line.output line.rest).0
    ∙ sym (set-map s n lines (put_line byte line))
  where
    set-map : (s : LineState) (i : ℕ) (ls : List (LineOf ℕ)) (l : LineOf ℕ) → map (seen_line s) (slice_set ls i l) ≡ slice_set (map (seen_line s) ls) i (seen_line s l)
    set-map s i [] l = refl
    set-map s zero (k ∷ ls) l = refl
    set-map s (suc i) (k ∷ ls) l = ap (λ (rest : List (LineOf Peer)). seen_line s k ∷ rest) (set-map s i ls l)

put-lined : (time n byte : ℕ) (due : Option ℕ) (expects : ExpectTable) (s : LineState) (lines : List (LineOf ℕ)) (line : LineOf ℕ) (whole : List Answer) → slice_get lines (suc n) ≡ Some line
    → lined (want.LinePut n byte) (around_at time due expects (map (seen_line s) lines) (ahead_of s.told whole))
    ≡ Some (put_by (suc n) byte (around_at time due expects (map (seen_line s) lines) (ahead_of s.told whole)) (seen_line s line))
unfolding lined
put-lined time n byte due expects s lines line whole there =
    ap (option_map (put_by (suc n) byte (around_at time due expects (map (seen_line s) lines) (ahead_of s.told whole))))
    (seen-at s lines (suc n) (Some line) there)

pub done-put : (time n byte : ℕ) (due : Option ℕ) (expects : ExpectTable) (s : LineState) (lines : List (LineOf ℕ)) (line : LineOf ℕ) (whole : List Answer) → slice_get lines (suc n) ≡ Some line
    → DoneOnLine (lined (want.LinePut n byte) (around_at time due expects (map (seen_line s) lines) (ahead_of s.told whole))) (Some (put_got line)) whole s s (slice_set lines (suc n) (put_line byte line))
done-put time n byte due expects s lines line whole there =
    subst (λ (l : Option Lined). DoneOnLine l (Some (put_got line)) whole s s (slice_set lines (suc n) (put_line byte line))) (sym (put-lined time n byte due expects s lines line whole there))
    (record {
      answers = ap Some (sym (put-seen-parts s byte line.port line.connection line.keys line.output line.rest).1);
      lines = seen-put s byte (suc n) line lines there;
      ahead = refl;
      heard = sym (nothing_heard s.sent);
    })

-- a byte for a line without a port
put-nobody : (byte : ℕ) (line : LineOf ℕ) → line.connection ≡ None → put_line byte line ≡ line
put-nobody byte line nobody =
    ap (λ (o : Option ℕ). if is_some o && nat_le full_output (length line.output) then line else (if is_some o then record line { output = line.output ++ coded (byte ∷ []) } else line)) nobody

-- a poll, told or of a line without a port
pub done-poll : (tells : Bool) (time n : ℕ) (due : Option ℕ) (expects : ExpectTable) (old new : LineState) (lines : List (LineOf ℕ)) (before after : LineOf ℕ) (key : Option ℕ) (whole : List Answer)
    → StepsAt tells (suc n) old lines before new after → (IsTrue tells → Polls time key old before new after)
    → (before.port ≡ None → (key ≡ None) × (after ≡ unconnected None)) → AreLinesTold tells old lines → IsFirst (record_in new.told) whole
    → DoneOnLine (lined (want.LineKey n) (around_at time due expects (map (seen_line old) lines) (ahead_of old.told whole))) (Some (got_of_line key)) whole old new (slice_set lines (suc n) after)
done-poll tells time n due expects old new lines before after key whole step polls nobody told first = elim told [
  | inl apart ↦ done-key time n due expects old new lines before after key whole step.here apart.1 (polls apart.0) (step.parties apart.0) first
  | inr none ↦
      let portless = no-port-at (suc n) lines before step.here none in
      let still = step.idle portless in
      let quiet = nobody portless in
      let alone : before ≡ unconnected None = sym still.1 ∙ quiet.1 in
      let at : DoneOnLine (lined (want.LineKey n) (around_at time due expects (map (seen_line old) lines) (ahead_of old.told whole))) (Some got.NoKey) whole old old lines =
      done-nobody time n due expects old lines before whole step.here alone in
      let K : Option ℕ → Type 0 = λ k. DoneOnLine (lined (want.LineKey n) (around_at time due expects (map (seen_line old) lines) (ahead_of old.told whole))) (Some (got_of_line k)) whole old old lines in
      let S : LineState → Type 0 = λ x. DoneOnLine (lined (want.LineKey n) (around_at time due expects (map (seen_line old) lines) (ahead_of old.told whole))) (Some (got_of_line key)) whole old x lines in
      let L : List (LineOf ℕ) → Type 0 = λ x. DoneOnLine (lined (want.LineKey n) (around_at time due expects (map (seen_line old) lines) (ahead_of old.told whole))) (Some (got_of_line key)) whole old new x in
      subst L (sym (ap (slice_set lines (suc n)) still.1 ∙ set-same (suc n) lines before step.here)) (subst S (sym still.0) (subst K (sym quiet.0) at))
]

-- a byte for the line at a place
pub put-steps : (tells : Bool) (n byte : ℕ) (s : LineState) (lines : List (LineOf ℕ)) (line : LineOf ℕ) → slice_get lines n ≡ Some line
    → IsSettled line → StepsAt tells n s lines line s (put_line byte line)
put-steps tells n byte s lines line there settled = record {
  here = there;
  port = put-port byte line;
  others = put-others s byte line;
  parties = λ told. put-parties s byte line;
  idle = λ none. (refl, put-nobody byte line (settled.port none));
  grows = λ told. first-same (record_in s.told);
  heard = λ told. hears-same s.sent;
}
