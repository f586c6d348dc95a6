-- The step of a poll that sends: nothing where nobody is connected or nothing waits, else a piece, or its fault.
use Rattle.std.proofs.Common.{◌≡◌, ◌∙◌, ap, sym, refl, subst, ℕ, zero, suc, ◌-◌, ◌==◌, Bool, false, true≢false, List, [], ◌∷◌, ◌++◌, length, take, drop, Option, Some, None, option_map, append-nil, inl, inr, if◌then◌else◌}
use Rattle.std.proofs.lemmas.Bool.Decides.{eqb_tells}
use Rattle.host_lines.specs.Traffic.{Peer, Answer, Quiet, Took, Failed, Ahead, replied, sending, sent_bytes, taken_answer}
use Rattle.host_lines.specs.Told.{Told, Gives, IsFirst, record_in, ahead_of, Heard, Named, Unnamed, heard_more}
use Rattle.host_lines.specs.State.{LineState, parties}
use Rattle.telnet_lines.specs.Line.{LineOf, unconnected, renamed}
use Rattle.telnet_lines.specs.Poll.{Met, met, Sending, sending_of, piece_of, sent_by, sent_on, sent}
use Rattle.telnet_lines.specs.Joined.{seen_line, seen_with, Sends}

abbrev nil : List ℕ
nil = []

none_taken : (n : ℕ) → take n nil ≡ nil
none_taken zero = refl
none_taken (suc n) = refl

pub nothing_heard : (h : Heard) → heard_more h [] ≡ h
nothing_heard (Named bytes) = ap Named (append-nil bytes)
nothing_heard (Unnamed room bytes) = ap (λ (l : List ℕ). Unnamed room (bytes ++ l)) (none_taken (room - length bytes)) ∙ ap (Unnamed room) (append-nil bytes)

same_record : (t : Told) → IsFirst (record_in t) (record_in t)
same_record t = ([], sym (append-nil (record_in t)))

-- where nothing is sent, nothing changes
sends_none : (s : LineState) (line : LineOf ℕ)
    → ((whole : List Answer) → sent (seen_with whole s line) ≡ sending_of [] (seen_with whole s line)) → Sends s line s line
sends_none s line is = record {
  grows = same_record s.told;
  made = λ whole first. ap (λ (x : Sending). x.met) (is whole);
  heard = λ whole first. sym (ap (λ (x : Sending). heard_more s.sent x.sent) (is whole) ∙ nothing_heard s.sent);
}

unconnected_is : (s : LineState) (line : LineOf ℕ) (whole : List Answer) → line.connection ≡ None
    → sent (seen_with whole s line) ≡ sending_of [] (seen_with whole s line)
unfolding sent
unconnected_is s line whole none = ap (λ (o : Option ℕ). sent_on (option_map (parties s) o) line.output (seen_with whole s line)) none

pub sends_unconnected : (s : LineState) (line : LineOf ℕ) → line.connection ≡ None → Sends s line s line
sends_unconnected s line none = sends_none s line (λ whole. unconnected_is s line whole none)

no_output : (peer : Option Peer) (m : Met) → sent_on peer [] m ≡ sending_of [] m
no_output None m = refl
no_output (Some peer) m = refl

outputless_is : (s : LineState) (line : LineOf ℕ) (whole : List Answer) → line.output ≡ []
    → sent (seen_with whole s line) ≡ sending_of [] (seen_with whole s line)
unfolding sent
outputless_is s line whole none =
    ap (λ (o : List ℕ). sent_on (option_map (parties s) line.connection) o (seen_with whole s line)) none
    ∙ no_output (option_map (parties s) line.connection) (seen_with whole s line)

pub sends_without_output : (s : LineState) (line : LineOf ℕ) → line.output ≡ [] → Sends s line s line
sends_without_output s line none = sends_none s line (λ whole. outputless_is s line whole none)

-- where output waits, what the call answers decides
sent_of_some : (peer : Peer) (output : List ℕ) (m : Met) → (length output == 0) ≡ false
    → sent_on (Some peer) output m ≡ sent_by peer m.line (sending peer (length (piece_of m.line.output)) m.ahead)
sent_of_some peer [] m some = elim (true≢false some) [ ]
sent_of_some peer (b ∷ more) m some = refl

sends_as : (s : LineState) (line : LineOf ℕ) (conn : ℕ) (whole : List Answer) (answer : Answer) (ahead : Ahead)
    → line.connection ≡ Some conn → (length line.output == 0) ≡ false
    → sending (parties s conn) (length (piece_of line.output)) (ahead_of s.told whole) ≡ replied answer ahead
    → sent (seen_with whole s line) ≡ sent_by (parties s conn) (seen_line s line) (replied answer ahead)
unfolding sent
sends_as s line conn whole answer ahead is some gives =
    ap (λ (o : Option ℕ). sent_on (option_map (parties s) o) line.output (seen_with whole s line)) is
    ∙ sent_of_some (parties s conn) line.output (seen_with whole s line) some
    ∙ ap (sent_by (parties s conn) (seen_line s line)) gives

-- what was taken of a piece is what was sent, and what is left is the output without it
taken_as : (peer : Peer) (line : LineOf Peer) (n : ℕ) (ahead : Ahead)
    → sent_by peer line (replied (taken_answer (length (piece_of line.output)) n) ahead)
    ≡ sending_of (sent_bytes peer (take n line.output)) (met (record line { output = drop n line.output }) ahead)
taken_as peer line n ahead =
    let size = length (piece_of line.output) in
    let without : ℕ → Sending = λ k. sending_of (sent_bytes peer (take k line.output)) (met (record line { output = drop k line.output }) ahead) in
    let answered : Bool → Sending = λ b. sent_by peer line (replied (if b then Quiet else Took n) ahead) in
    elim (eqb_tells n size) as (λ x. sent_by peer line (replied (taken_answer size n) ahead) ≡ without n) [
      | inl e ↦ ap answered e.0 ∙ ap without (sym e.1)
      | inr e ↦ ap answered e.0
    ]

pub sends_some : (old new : LineState) (line : LineOf ℕ) (conn n : ℕ) → line.connection ≡ Some conn → (length line.output == 0) ≡ false
    → Gives old.told new.told (sending (parties old conn) (length (piece_of line.output))) (taken_answer (length (piece_of line.output)) n)
    → parties new ≡ parties old → new.sent ≡ heard_more old.sent (sent_bytes (parties old conn) (take n line.output))
    → Sends old line new (record line { output = drop n line.output })
sends_some old new line conn n is some told peers sent_is =
    let answer = taken_answer (length (piece_of line.output)) n in
    let rest = record line { output = drop n line.output } in
    let comes = λ (whole : List Answer) (first : IsFirst (record_in new.told) whole).
    sends_as old line conn whole answer (ahead_of new.told whole) is some (told.gives whole first)
    ∙ taken_as (parties old conn) (seen_line old line) n (ahead_of new.told whole) in
    record {
      grows = told.grows;
      made = λ whole first.
          ap (λ (x : Sending). x.met) (comes whole first) ∙ ap (λ (p : ℕ → Peer). met (renamed p rest) (ahead_of new.told whole)) (sym peers);
      heard = λ whole first. sent_is ∙ sym (ap (λ (x : Sending). heard_more old.sent x.sent) (comes whole first));
    }

pub sends_failed : (old mid new : LineState) (line : LineOf ℕ) (conn : ℕ) → line.connection ≡ Some conn → (length line.output == 0) ≡ false
    → Gives old.told mid.told (sending (parties old conn) (length (piece_of line.output))) Failed
    → new.told ≡ mid.told → new.sent ≡ heard_more old.sent (sent_bytes (parties old conn) []) → Sends old line new (unconnected line.port)
sends_failed old mid new line conn is some told same sent_is =
    let comes = λ (whole : List Answer) (first : IsFirst (record_in new.told) whole).
    sends_as old line conn whole Failed (ahead_of mid.told whole) is some
    (told.gives whole (subst (λ (t : Told). IsFirst (record_in t) whole) same first)) in
    record {
      grows = subst (λ (t : Told). IsFirst (record_in old.told) (record_in t)) (sym same) told.grows;
      made = λ whole first. ap (λ (x : Sending). x.met) (comes whole first) ∙ ap (λ (t : Told). met (unconnected line.port) (ahead_of t whole)) (sym same);
      heard = λ whole first. sent_is ∙ sym (ap (λ (x : Sending). heard_more old.sent x.sent) (comes whole first));
    }
