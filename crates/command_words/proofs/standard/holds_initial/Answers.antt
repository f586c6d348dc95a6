use Rattle.std.proofs.Common.{◌≡◌, ◌+◌, get_or, take, slice_get, option_map, None, Some, refl, sym, ◌∙◌, subst, arith, rules}
use Rattle.unit_trait.specs.Registers.{registers}
use Rattle.command_words.proofs.StandardLemmas.{same-more, same-all, held-length, initials, initial-at, no-initial, few-initials}
use Rattle.command_words.proofs.standard.holds_initial.Goals as goal

pub returns-in-None : goal.returns-in-None
returns-in-None g c =
    let u = g.U.Unit.unit_state c.args.unit.now in
    let read : None ≡ option_map (λ r. r.initial) (slice_get (registers u.kind) c.loop-i.i) = search rules in
    let same : take c.loop-i.i u.registers ≡ take c.loop-i.i (initials (registers u.kind)) = search rules in
    let none = no-initial (registers u.kind) c.loop-i.i read in
    let many = held-length u c.kind-kind.ensures.fits in
    ((λ _. same-all u.registers (initials (registers u.kind)) c.loop-i.i (omega (arith, none, many)) none same), (λ _. refl))

pub loop-i-preserved : goal.loop-i-preserved
loop-i-preserved g c =
    let u = g.U.Unit.unit_state c.args.unit.now in
    let read : Some c.in-Some.initial ≡ option_map (λ r. r.initial) (slice_get (registers u.kind) c.loop-i.i) = search rules in
    let same : take c.loop-i.i u.registers ≡ take c.loop-i.i (initials (registers u.kind)) = search rules in
    let held : get_or u.registers c.loop-i.i 0 ≡ c.in-Some.initial = search rules in
    let here = initial-at (registers u.kind) c.loop-i.i c.in-Some.initial read in
    let many = held-length u c.kind-kind.ensures.fits in
    subst (λ k. take (c.loop-i.i + 1) u.registers ≡ take (c.loop-i.i + 1) (initials (registers k))) (sym c.kind-kind.ensures.kind)
    (same-more u.registers (initials (registers u.kind)) c.loop-i.i 0 (omega (arith, here.0, many)) here.0 same (held ∙ sym here.1))

pub returns : goal.returns
returns g c =
    let u = g.U.Unit.unit_state c.args.unit.now in
    let same : take c.loop-i.i u.registers ≡ take c.loop-i.i (initials (registers u.kind)) = search rules in
    let few = few-initials u.kind in
    let many = held-length u c.kind-kind.ensures.fits in
    ((λ _. same-all u.registers (initials (registers u.kind)) c.loop-i.i (omega (arith, few, many)) (omega (arith, few)) same), (λ _. refl))
