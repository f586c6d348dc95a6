-- A step for one of several lines: the others are seen as before, and have no connection that becomes its own.
use Rattle.std.proofs.Common.{◌≡◌, ◌≢◌, ◌∙◌, ap, sym, refl, subst, Bool, true, false, true≢false, ℕ, zero, suc, pred, inl, inr, List, [], ◌∷◌, map, slice_get, slice_set, Option, Some, None}
use Rattle.std.proofs.lemmas.Option.{same_Some, slice_get_within}
use Rattle.std.proofs.lemmas.Bool.Decides.{eqb_tells}
use Rattle.circular_buffer.proofs.Places.{slice_get-set_same, slice_get-set_other}
use Rattle.host_lines.specs.Traffic.{Peer}
use Rattle.host_lines.specs.State.{LineState, parties}
use Rattle.telnet_lines.specs.declared.decoder.Rest.{Rest}
use Rattle.telnet_lines.specs.Line.{LineOf, line_of}
use Rattle.telnet_lines.specs.Joined.{IsRecorded, IsLinked, seen_line, KeepsParties}
use Rattle.telnet_lines.specs.Many.{AreApart, LinesStandApart}
use Rattle.telnet_lines.proofs.Apart.{is_or_not, still_has, recorded_parties, recorded_after}

abbrev is_zero : ℕ → Bool
is_zero zero = true
is_zero (suc n) = false

not_zero : (n : ℕ) → suc n ≢ zero
not_zero n e = true≢false (ap is_zero (sym e))

-- two functions that agree on a list, and on all of it but one place that is replaced
same_map : {X Y : Type 0} (f g : X → Y) (xs : List X) → ((j : ℕ) (y : X) → slice_get xs j ≡ Some y → f y ≡ g y) → map f xs ≡ map g xs
same_map f g [] same = refl
same_map {Y = Y} f g (y ∷ xs) same =
    ap (λ (z : Y). z ∷ map f xs) (same zero y refl) ∙ ap (λ (l : List Y). g y ∷ l) (same_map f g xs (λ j z at. same (suc j) z at))

same_but_one : {X Y : Type 0} (f g : X → Y) (xs : List X) (i : ℕ) (x : X) → ((j : ℕ) (y : X) → j ≢ i → slice_get xs j ≡ Some y → f y ≡ g y)
    → map f (slice_set xs i x) ≡ slice_set (map g xs) i (f x)
same_but_one f g [] i x same = refl
same_but_one {Y = Y} f g (y ∷ xs) zero x same = ap (λ (l : List Y). f x ∷ l) (same_map f g xs (λ j z at. same (suc j) z (not_zero j) at))
same_but_one {Y = Y} f g (y ∷ xs) (suc i) x same =
    ap (λ (z : Y). z ∷ map f (slice_set xs i x)) (same zero y (λ e. not_zero i (sym e)) refl)
    ∙ ap (λ (l : List Y). g y ∷ l) (same_but_one f g xs i x (λ j z other at. same (suc j) z (λ e. other (ap pred e)) at))

-- a line whose connection keeps who is behind it is seen as before
seen_still : (s s' : LineState) (port connection : Option ℕ) (keys output : List ℕ) (rest : Rest)
    → ((conn : ℕ) → connection ≡ Some conn → parties s' conn ≡ parties s conn)
    → seen_line s' (line_of port connection keys output rest) ≡ seen_line s (line_of port connection keys output rest)
seen_still s s' port None keys output rest same = refl
seen_still s s' port (Some conn) keys output rest same =
    ap (λ (p : Peer). line_of port (Some p) keys output rest) (same conn refl)

-- a step for the line at a place
record Step (i : ℕ) (s s' : LineState) (lines : List (LineOf ℕ)) (before after : LineOf ℕ) : Type 0 where
  pub here : slice_get lines i ≡ Some before
  pub apart : AreApart s lines
  pub keeps : KeepsParties s before s' after

-- another line's connection keeps who is behind it
caller_stays : (i : ℕ) (s s' : LineState) (lines : List (LineOf ℕ)) (before after : LineOf ℕ) → Step i s s' lines before after
    → (j : ℕ) (line : LineOf ℕ) → j ≢ i → slice_get lines j ≡ Some line → (conn : ℕ) → line.connection ≡ Some conn → parties s' conn ≡ parties s conn
caller_stays i s s' lines before after step j line other there conn at = elim (is_or_not before.connection conn) [
  | inl own ↦
      let recorded = step.apart.apart j i line before other there step.here conn at own in
      ap (λ (f : ℕ → Peer). f conn) (recorded_parties s.told s'.told s.peers s'.peers recorded step.keeps.kind)
  | inr its ↦ step.keeps.kept conn its (step.apart.linked j line there conn at)
]

-- and is not the one that the line has now, but where a record says so
never_shared : (i : ℕ) (s s' : LineState) (lines : List (LineOf ℕ)) (before after : LineOf ℕ) → Step i s s' lines before after
    → (j : ℕ) (line : LineOf ℕ) → j ≢ i → slice_get lines j ≡ Some line → (conn : ℕ) → line.connection ≡ Some conn → after.connection ≡ Some conn → IsRecorded s.told
never_shared i s s' lines before after step j line other there conn at now = elim (is_or_not before.connection conn) [
  | inl own ↦ step.apart.apart j i line before other there step.here conn at own
  | inr its ↦ step.keeps.apart conn its (step.apart.linked j line there conn at) now
]

-- what stands in the list behind the step: at its place the line itself, and elsewhere what stood there
at_place : (i j : ℕ) (lines : List (LineOf ℕ)) (before after line : LineOf ℕ) → slice_get lines i ≡ Some before → j ≡ i
    → slice_get (slice_set lines i after) j ≡ Some line → after ≡ line
at_place i j lines before after line here is at =
    same_Some after line
    (sym (slice_get-set_same lines i after (slice_get_within lines i before here)) ∙ subst (λ (k : ℕ). slice_get (slice_set lines i after) k ≡ Some line) is at)

elsewhere : (i j : ℕ) (lines : List (LineOf ℕ)) (after line : LineOf ℕ) → j ≢ i → slice_get (slice_set lines i after) j ≡ Some line → slice_get lines j ≡ Some line
elsewhere i j lines after line other at = sym (slice_get-set_other lines i j after other) ∙ at

linked_behind : (i : ℕ) (s s' : LineState) (lines : List (LineOf ℕ)) (before after : LineOf ℕ) → Step i s s' lines before after
    → (j : ℕ) (line : LineOf ℕ) → slice_get (slice_set lines i after) j ≡ Some line → IsLinked s' line
linked_behind i s s' lines before after step j line at = elim (eqb_tells j i) [
  | inl e ↦ subst (IsLinked s') (at_place i j lines before after line step.here e.1 at) (step.keeps.linked (step.apart.linked i before step.here))
  | inr e ↦
      let there = elsewhere i j lines after line e.1 at in
      λ conn has. still_has s s' conn (caller_stays i s s' lines before after step j line e.1 there conn has) (step.apart.linked j line there conn has)
]

apart_behind : (i : ℕ) (s s' : LineState) (lines : List (LineOf ℕ)) (before after : LineOf ℕ) → Step i s s' lines before after
    → (j k : ℕ) (one other : LineOf ℕ) → j ≢ k → slice_get (slice_set lines i after) j ≡ Some one → slice_get (slice_set lines i after) k ≡ Some other
    → (conn : ℕ) → one.connection ≡ Some conn → other.connection ≡ Some conn → IsRecorded s.told
apart_behind i s s' lines before after step j k one other differ at_one at_other conn has_one has_other = elim (eqb_tells j i) [
  | inl e ↦
      let elsewise : k ≢ i = λ f. differ (e.1 ∙ sym f) in
      let own = ap (λ (l : LineOf ℕ). l.connection) (at_place i j lines before after one step.here e.1 at_one) ∙ has_one in
      never_shared i s s' lines before after step k other elsewise (elsewhere i k lines after other elsewise at_other) conn has_other own
  | inr e ↦ elim (eqb_tells k i) [
    | inl f ↦
        let own = ap (λ (l : LineOf ℕ). l.connection) (at_place i k lines before after other step.here f.1 at_other) ∙ has_other in
        never_shared i s s' lines before after step j one e.1 (elsewhere i j lines after one e.1 at_one) conn has_one own
    | inr f ↦ step.apart.apart j k one other differ (elsewhere i j lines after one e.1 at_one) (elsewhere i k lines after other f.1 at_other) conn has_one has_other
  ]
]

pub stand_apart : LinesStandApart
stand_apart i s s' lines before after here apart keeps =
    let step : Step i s s' lines before after = record { here = here; apart = apart; keeps = keeps } in
    record {
      seen = same_but_one (seen_line s') (seen_line s) lines i after (λ j line other there.
          seen_still s s' line.port line.connection line.keys line.output line.rest (caller_stays i s s' lines before after step j line other there));
      apart = record {
        linked = linked_behind i s s' lines before after step;
        apart = λ j k one other differ at_one at_other conn has_one has_other.
            recorded_after s.told s'.told keeps.kind (apart_behind i s s' lines before after step j k one other differ at_one at_other conn has_one has_other);
      };
    }
