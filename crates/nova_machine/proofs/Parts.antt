-- Parts of a run, one behind another, and what a call has come to that does them.
use Rattle.std.proofs.Common.{◌≡◌, ◌≢◌, ◌⊎◌, inl, inr, ℕ, Bool, IsTrue, List, [], ◌++◌, refl, ap, sym, ◌∙◌, subst, append_assoc, append-nil, Option, Some, None, IsSome}
use Rattle.observations.specs.Observations.{Observation, text_of, sent_of, StandsAt}
use Rattle.host_lines.specs.Told.{Heard}
use Rattle.observations.proofs.MadeLemmas.{text_of-append, sent_of-append, stands-before, stands-behind}
use Rattle.observations.proofs.CutLemmas.{breaks-before, breaks-behind, before-sent, behind-sent}
use Rattle.nova_machine.specs.declared.machine.Stop.{Stop}
use Rattle.nova_machine.specs.declared.machine.Stop.TheVariants.{ConsoleFault, FileFault}
use Rattle.nova_machine.specs.Seen.{Seen}
use Rattle.nova_machine.specs.Parts.{Part, silent, behind_made, followed, then_part}
use Rattle.nova_machine.specs.Comes.{Output, IsWhole, BrokenOff, IsBrokenOff, Comes, StopCounts, bare, IsOwn}
use Rattle.nova_machine.specs.LineChanges.{heard_with}
use Rattle.nova_machine.proofs.Hearing.{heard-nothing, heard-behind}

pub split-comes : (p : Part) (r : Option Stop) (s : Seen) (tells : Bool) (b a : Output) → Comes p r s tells b a
    → ((r ≡ Some ConsoleFault) × IsBrokenOff p s tells b a) ⊎ ((r ≢ Some ConsoleFault) × IsWhole p r s tells b a)
split-comes p (Some ConsoleFault) s tells b a h = inl (refl, h)
split-comes p r s tells b a h = inr ((λ e. absurd (cc)), h)

pub whole-comes : (p : Part) (r : Option Stop) (s : Seen) (tells : Bool) (b a : Output) → r ≢ Some ConsoleFault → IsWhole p r s tells b a → Comes p r s tells b a
whole-comes p (Some ConsoleFault) s tells b a other h = absurd (other refl)
whole-comes p r s tells b a other h = h

-- a stop of neither the console nor a file
pub own-other : (r : Option Stop) → IsOwn r → r ≢ Some ConsoleFault
own-other (Some ConsoleFault) own is = own
own-other r own is = absurd (cc)

pub own-bare : (r : Option Stop) → IsOwn r → bare r ≡ r
own-bare (Some (FileFault f)) own = absurd own
own-bare r own = refl

pub silent-comes : (stop r : Option Stop) (s now : Seen) (tells : Bool) (b : Output) → IsOwn r → r ≡ stop → now ≡ s → Comes (silent stop s) r now tells b b
silent-comes stop r s now tells b own same is =
    whole-comes (silent stop s) r now tells b b (own-other r own) (record { stop_is = own-bare r own ∙ same; after_is = is; written = λ _. sym (append-nil b.console); heard = sym (heard-nothing b.heard) })

broken-behind : (made : List (Observation Seen)) (p : Part) (s : Seen) (tells : Bool) (b c a : Output) → (IsTrue tells → c.console ≡ b.console ++ text_of made) → c.heard ≡ heard_with b.heard (sent_of made)
    → IsBrokenOff p s tells c a → IsBrokenOff (behind_made made p) s tells b a
broken-behind made p s tells b c a printed sent broken = record {
  stands = stands-behind s made p.made broken.stands;
  told = λ told.
      let o = broken.told told in
      record {
        taken = text_of made ++ o.taken;
        written = o.written ∙ ap (λ (l : List ℕ). l ++ o.taken) (printed told) ∙ append_assoc b.console (text_of made) o.taken;
        breaks = breaks-behind made p.made o.taken s o.breaks;
        heard = o.heard ∙ ap (λ (h : Heard). heard_with h o.breaks.sent) sent ∙ heard-behind b.heard (sent_of made) o.breaks.sent ∙ ap (heard_with b.heard) (sym (behind-sent made p.made o.taken s o.breaks));
      };
}

whole-behind : (made : List (Observation Seen)) (p : Part) (r : Option Stop) (s : Seen) (tells : Bool) (b c a : Output) → (IsTrue tells → c.console ≡ b.console ++ text_of made) → c.heard ≡ heard_with b.heard (sent_of made)
    → IsWhole p r s tells c a → IsWhole (behind_made made p) r s tells b a
whole-behind made p r s tells b c a printed sent whole = record {
  stop_is = whole.stop_is;
  after_is = whole.after_is;
  written = λ told.
      whole.written told ∙ ap (λ (l : List ℕ). l ++ text_of p.made) (printed told) ∙ append_assoc b.console (text_of made) (text_of p.made)
      ∙ ap (λ (l : List ℕ). b.console ++ l) (sym (text_of-append made p.made));
  heard =
      whole.heard ∙ ap (λ (h : Heard). heard_with h (sent_of p.made)) sent ∙ heard-behind b.heard (sent_of made) (sent_of p.made)
      ∙ ap (heard_with b.heard) (sym (sent_of-append made p.made));
}

-- behind what was printed
pub comes-behind : (made : List (Observation Seen)) (p : Part) (r : Option Stop) (s : Seen) (tells : Bool) (b c a : Output) → (IsTrue tells → c.console ≡ b.console ++ text_of made) → c.heard ≡ heard_with b.heard (sent_of made)
    → Comes p r s tells c a → Comes (behind_made made p) r s tells b a
comes-behind made p (Some ConsoleFault) s tells b c a printed sent h = broken-behind made p s tells b c a printed sent h
comes-behind made p r s tells b c a printed sent h = whole-behind made p _ s tells b c a printed sent h

then-goes : (p : Part) (goes_on : Seen → Part) → None ≡ p.stop → then_part p goes_on ≡ behind_made p.made (goes_on p.after)
then-goes p goes_on goes = ap (λ (o : Option Stop). followed p.made o p.after goes_on) (sym goes)

then-stops : (p : Part) (goes_on : Seen → Part) (stop : Stop) → bare (Some stop) ≡ p.stop → then_part p goes_on ≡ p
then-stops p goes_on stop stops = by-stop (bare (Some stop)) (is-some stop) stops
  where
    is-some : (x : Stop) → IsSome (bare (Some x))
    is-some (FileFault f) = refl
    is-some x = refl

    by-stop : (o : Option Stop) → IsSome o → o ≡ p.stop → then_part p goes_on ≡ p
    by-stop None some is = absurd (cc)
    by-stop (Some x) some is =
        ap (λ (o : Option Stop). followed p.made o p.after goes_on) (sym is) ∙ ap (λ (o : Option Stop). record { made = p.made; after = p.after; stop = o }) is

then-made : (p : Part) (goes_on : Seen → Part) → (more : List (Observation Seen)) × ((then_part p goes_on).made ≡ p.made ++ more)
then-made p goes_on = by-stop p.made p.stop p.after
  where
    by-stop : (made : List (Observation Seen)) (stop : Option Stop) (s : Seen) → (more : List (Observation Seen)) × ((followed made stop s goes_on).made ≡ made ++ more)
    by-stop made None s = ((goes_on s).made, refl)
    by-stop made (Some stop) s = ([], sym (append-nil made))

-- a part that goes on, and the next one
pub comes-then : (p : Part) (goes_on : Seen → Part) (now : Seen) (r : Option Stop) (s : Seen) (tells : Bool) (b c a : Output)
    → Comes p None now tells b c → Comes (goes_on now) r s tells c a → Comes (then_part p goes_on) r s tells b a
comes-then p goes_on now r s tells b c a first second =
    let P : Part → Type 0 = λ x. Comes x r s tells b a in
    let Q : Seen → Type 0 = λ x. Comes (goes_on x) r s tells c a in
    subst P (sym (then-goes p goes_on first.stop_is)) (comes-behind p.made (goes_on p.after) r s tells b c a first.written first.heard (subst Q first.after_is second))

-- what was broken off in an earlier part
broken-before : (p : Part) (more : List (Observation Seen)) (q : Part) (s : Seen) (b a : Output) → BrokenOff p s b a
    → BrokenOff (record { made = p.made ++ more; after = q.after; stop = q.stop }) s b a
broken-before p more q s b a o = record {
  taken = o.taken;
  written = o.written;
  breaks = breaks-before p.made more o.taken s o.breaks;
  heard = o.heard ∙ ap (heard_with b.heard) (sym (before-sent p.made more o.taken s o.breaks));
}

-- a part that stops
pub comes-stopped : (p : Part) (goes_on : Seen → Part) (stop : Stop) (s : Seen) (tells : Bool) (b a : Output)
    → Comes p (Some stop) s tells b a → Comes (then_part p goes_on) (Some stop) s tells b a
comes-stopped p goes_on stop s tells b a h =
    elim (split-comes p (Some stop) s tells b a h) [
      | inl (is, broken) ↦
          let (more, made) = then-made p goes_on in
          let P : List (Observation Seen) → Type 0 = λ l. StandsAt s l in
          let Q : List (Observation Seen) → Type 0 = λ l. (o : BrokenOff p s b a) → BrokenOff (record { made = l; after = (then_part p goes_on).after; stop = (then_part p goes_on).stop }) s b a in
          let off : IsBrokenOff (then_part p goes_on) s tells b a = record {
            stands = subst P (sym made) (stands-before s p.made more broken.stands);
            told = λ told. subst Q (sym made) (λ o. broken-before p more (then_part p goes_on) s b a o) (broken.told told);
          } in
          let R : Option Stop → Type 0 = λ o. Comes (then_part p goes_on) o s tells b a in
          subst R (sym is) off
      | inr (other, whole) ↦
          let P : Part → Type 0 = λ x. Comes x (Some stop) s tells b a in
          subst P (sym (then-stops p goes_on stop whole.stop_is)) h
    ]

-- where there was no stop, the console has counted no fault
pub counts-none : (r : Option Stop) (before now : ℕ) → r ≡ None → StopCounts r before now → now ≡ before
counts-none None before now none counts = counts
counts-none (Some stop) before now none counts = absurd (cc)
