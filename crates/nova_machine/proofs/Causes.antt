-- What parts of a turn make of the watch tables, and the causes of their stops, one behind another.
use Rattle.std.proofs.Common.{◌≡◌, ℕ, Bool, true, false, List, [], ◌∷◌, ◌++◌, Option, Some, None, refl, ap, sym, subst, ◌∙◌, append_assoc, append-nil, arith, if◌then◌else◌}
use Rattle.expect_actions.specs.declared.breaks.Break.{Break}
use Rattle.expect_actions.specs.Breaks.{is_at, lowered, tested}
use Rattle.expect_actions.specs.Expects.{ExpectTable, match_at, after_printed}
use Rattle.expect_actions.specs.Sends.{Send}
use Rattle.expect_actions.specs.Watch.{WatchState}
use Rattle.nova_machine.specs.declared.machine.Stop.{Stop}
use Rattle.nova_machine.specs.declared.machine.Stop.TheVariants.{Expect, Wru}
use Rattle.nova_machine.specs.Machine.{MachineState}
use Rattle.nova_machine.specs.StopCauses.{Moment, console_bytes, IsCountedDown, AreCountedDown, all_printed, NoneMatches, LastMatches, Matches, Watches, TookWru, ServiceCause}

-- ---- breaks

pub counted-same : (list : List Break) → AreCountedDown list list
counted-same [] = tt
counted-same (b ∷ list) = (record { address = refl; count = omega arith; actions = refl }, counted-same list)

pub counted-then : (first second third : List Break) → AreCountedDown first second → AreCountedDown second third → AreCountedDown first third
counted-then [] [] [] one two = tt
counted-then [] [] (d ∷ third) one two = absurd two
counted-then [] (c ∷ second) third one two = absurd one
counted-then (b ∷ first) [] third one two = absurd one
counted-then (b ∷ first) (c ∷ second) [] one two = absurd two
counted-then (b ∷ first) (c ∷ second) (d ∷ third) one two =
    let before = one.0.count in
    let after = two.0.count in
    (record { address = two.0.address ∙ one.0.address; count = omega (arith, before, after); actions = two.0.actions ∙ one.0.actions }, counted-then first second third one.1 two.1)

counted-if : (t : Bool) (b : Break) → IsCountedDown b (if t then lowered b else b)
counted-if true b = record { address = refl; count = omega arith; actions = refl }
counted-if false b = record { address = refl; count = omega arith; actions = refl }

pub counted-tested : (address : ℕ) (list : List Break) → AreCountedDown list (tested address list)
counted-tested address [] = tt
counted-tested address (b ∷ list) = (counted-if (is_at address b) b, counted-tested address list)

-- ---- printed bytes

printed-more : (first second : List ℕ) (t : ExpectTable) → all_printed (first ++ second) t ≡ all_printed second (all_printed first t)
printed-more [] second t = refl
printed-more (b ∷ first) second t = printed-more first second (after_printed b t)

none-more : (first second : List ℕ) (t : ExpectTable) → NoneMatches first t → NoneMatches second (all_printed first t) → NoneMatches (first ++ second) t
none-more [] second t one two = two
none-more (b ∷ first) second t one two = (one.0, none-more first second (after_printed b t) one.1 two)

last-front : (place b : ℕ) (rest : List ℕ) (t : ExpectTable) → match_at b t ≡ None → LastMatches place rest (after_printed b t) → LastMatches place (b ∷ rest) t
last-front place b [] t none last = absurd last
last-front place b (c ∷ rest) t none last = (none, last)

last-more : (place : ℕ) (first second : List ℕ) (t : ExpectTable) → NoneMatches first t → LastMatches place second (all_printed first t) → LastMatches place (first ++ second) t
last-more place [] second t one two = two
last-more place (b ∷ first) second t one two = last-front place b (first ++ second) t one.0 (last-more place first second (after_printed b t) one.1 two)

matches-more : (stop : Option Stop) (first second : List ℕ) (t : ExpectTable) → NoneMatches first t → Matches stop second (all_printed first t) → Matches stop (first ++ second) t
matches-more (Some (Expect place)) first second t one two = last-more place first second t one two
matches-more stop first second t one two = none-more first second t one two

-- a stop that is at no text
abbrev pub IsNoMatch : Option Stop → Type 0
IsNoMatch (Some (Expect place)) = ⊥
IsNoMatch stop = Unit {0}

pub matches-none : (stop : Option Stop) (bytes : List ℕ) (t : ExpectTable) → IsNoMatch stop → NoneMatches bytes t → Matches stop bytes t
matches-none (Some (Expect place)) bytes t other none = absurd other
matches-none stop bytes t other none = none

-- ---- the watch tables

-- bytes of the console, one list behind another
pub none-bytes : (ported : Bool) → console_bytes ported [] ≡ []
none-bytes true = refl
none-bytes false = refl

bytes-more : (ported : Bool) (one two : List ℕ) → console_bytes ported (one ++ two) ≡ console_bytes ported one ++ console_bytes ported two
bytes-more true one two = refl
bytes-more false one two = refl

pub text-same : (ported : Bool) (text : List ℕ) → text ≡ text ++ console_bytes ported []
text-same ported text = sym (append-nil text) ∙ ap (λ (l : List ℕ). text ++ l) (sym (none-bytes ported))

-- nothing is made of them
pub watches-still : (stop : Option Stop) (old new : Moment) (tells : Bool) (text : List ℕ) → IsNoMatch stop → new.watch ≡ old.watch → new.taken ≡ old.taken → new.ported ≡ old.ported → Watches stop old new tells text text
watches-still stop old new tells text other same taken ported = record {
  bytes = [];
  written = λ _. text-same old.ported text;
  ported = ported;
  compared = ap (λ (w : WatchState). w.expects) same;
  matches = matches-none stop [] old.watch.expects other tt;
  breaks = subst (λ (w : WatchState). AreCountedDown old.watch.breaks.list w.breaks.list) (sym same) (counted-same old.watch.breaks.list);
  front = [];
  sends = ap (λ (w : WatchState). w.sends) (sym same);
  keys = omega (arith, taken);
}

pub watches-then : (stop : Option Stop) (first second third : Moment) (tells : Bool) (x y z : List ℕ) → Watches None first second tells x y → Watches stop second third tells y z → Watches stop first third tells x z
watches-then stop first second third tells x y z one two =
    let S : ExpectTable → Type 0 = λ t. Matches stop two.bytes t in
    let before = one.keys in
    let after = two.keys in
    record {
      bytes = one.bytes ++ two.bytes;
      written = λ told.
          two.written told
          ∙ ap (λ (p : Bool). y ++ console_bytes p two.bytes) one.ported
          ∙ ap (λ (l : List ℕ). l ++ console_bytes first.ported two.bytes) (one.written told)
          ∙ append_assoc x (console_bytes first.ported one.bytes) (console_bytes first.ported two.bytes)
          ∙ ap (λ (l : List ℕ). x ++ l) (sym (bytes-more first.ported one.bytes two.bytes));
      ported = two.ported ∙ one.ported;
      compared = two.compared ∙ ap (all_printed two.bytes) one.compared ∙ sym (printed-more one.bytes two.bytes first.watch.expects);
      matches = matches-more stop one.bytes two.bytes first.watch.expects one.matches (subst S one.compared two.matches);
      breaks = counted-then first.watch.breaks.list second.watch.breaks.list third.watch.breaks.list one.breaks two.breaks;
      front = one.front ++ two.front;
      sends = one.sends ∙ ap (λ (l : List Send). one.front ++ l) two.sends ∙ sym (append_assoc one.front two.front third.watch.sends);
      keys = omega (arith, before, after);
    }

-- the same, where the two do not name one moment, or a stop is none
pub watches-goes : (stop goes : Option Stop) (first second second' third : Moment) (tells : Bool) (x y z : List ℕ) → goes ≡ None → second'.watch ≡ second.watch → second'.taken ≡ second.taken
    → second'.ported ≡ second.ported → Watches goes first second tells x y → Watches stop second' third tells y z → Watches stop first third tells x z
watches-goes stop goes first second second' third tells x y z none same taken ported one two =
    let P : Option Stop → Type 0 = λ s. Watches s first second tells x y in
    watches-then stop first second third tells x y z (subst P none one)
    (watches-then stop second second' third tells y y z (watches-still None second second' tells y tt same taken ported) two)

-- behind that nothing is made of them
pub watches-left : (stop goes : Option Stop) (first second third : Moment) (tells : Bool) (x y : List ℕ) → goes ≡ None → IsNoMatch stop → third.watch ≡ second.watch → third.taken ≡ second.taken
    → third.ported ≡ second.ported → Watches goes first second tells x y → Watches stop first third tells x y
watches-left stop goes first second third tells x y none other same taken ported one =
    watches-goes stop goes first second second third tells x y y none refl refl refl one (watches-still stop second third tells y other same taken ported)

-- a test of the breaks
pub watches-tested : (stop goes : Option Stop) (first second third : Moment) (tells : Bool) (x y : List ℕ) → goes ≡ None → IsNoMatch stop → third.watch ≡ record second.watch { breaks = third.watch.breaks }
    → AreCountedDown second.watch.breaks.list third.watch.breaks.list → third.taken ≡ second.taken → third.ported ≡ second.ported → Watches goes first second tells x y
    → Watches stop first third tells x y
watches-tested stop goes first second third tells x y none other same lowered taken ported one =
    watches-goes stop goes first second second third tells x y y none refl refl refl one (record {
      bytes = [];
      written = λ _. text-same second.ported y;
      ported = ported;
      compared = ap (λ (w : WatchState). w.expects) same;
      matches = matches-none stop [] second.watch.expects other tt;
      breaks = lowered;
      front = [];
      sends = sym (ap (λ (w : WatchState). w.sends) same);
      keys = omega (arith, taken);
    })

-- ---- the cause of a service's stop, of a moment before

took-then : (keys : List (ℕ × ℕ)) (first second : Moment) (watch : WatchState) (m : MachineState) (tells : Bool) (x y : List ℕ) → Watches None first second tells x y
    → TookWru keys second watch m → TookWru keys first watch m
took-then keys first second watch m tells x y one two =
    let before = one.keys in
    let after = two.later in
    record {
      front = one.front ++ two.front;
      sends = two.sends;
      waited = one.sends ∙ ap (λ (l : List Send). one.front ++ l) two.waited ∙ sym (append_assoc one.front two.front two.sends);
      taken = two.taken;
      later = omega (arith, before, after);
      key = two.key;
      sends_now = two.sends_now;
      taken_now = two.taken_now;
    }

pub service-then : (stop : Option Stop) (keys : List (ℕ × ℕ)) (first second : Moment) (watch : WatchState) (m : MachineState) (tells : Bool) (x y : List ℕ) → Watches None first second tells x y
    → ServiceCause stop keys second watch m → ServiceCause stop keys first watch m
service-then (Some Wru) keys first second watch m tells x y one cause = took-then keys first second watch m tells x y one cause
service-then stop keys first second watch m tells x y one cause = cause
