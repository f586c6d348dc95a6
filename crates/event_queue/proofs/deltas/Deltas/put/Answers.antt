use Rattle.std.proofs.Common.{◌≡◌, ℕ, ◌<◌, ◌≤◌, ◌++◌, ◌∷◌, List, length, take, drop, insert, IsOk, sym, subst, ◌∙◌, ap, arith}
use Rattle.std.proofs.lemmas.List.{take_at}
use Rattle.event_queue.specs.declared.delta.Delta.{Delta}
use Rattle.event_queue.specs.EventList.{Sound, waits, placed}
use Rattle.event_queue.specs.Deltas.{events_of, delta, nearer, entered}
use Rattle.event_queue.proofs.RemainingTimes.{behind-length, behind-entered, insert-split}
use Rattle.event_queue.proofs.Numbers.{room}
use Rattle.event_queue.proofs.SoundLists.{sound-placed}
use Rattle.event_queue.proofs.deltas.Deltas.put.Goals as goal

pub invariant_of-self : goal.invariant_of-self
invariant_of-self c =
    let ds = c.self.inside.list.items in
    let k = c.place-at.result.0 in
    let left = c.place-at.result.1 in
    let mid = c.bring_nearer.new.deltas in
    let none = ap (waits c.args.unit) c.self.view_is ∙ c.requires.absent in
    let short : length (events_of ds) < 81 = room c.args.unit (events_of ds) c.requires.unit none c.self.invariant.0 in
    let within : k ≤ length ds = subst (λ (xs : List Delta). k ≤ length xs) c.as_slice.ensures.value c.place-at.ensures.within in
    let is : mid ≡ take k ds ++ nearer left (drop k ds) =
    c.bring_nearer.ensures ∙ ap (λ (xs : List Delta). take k xs ++ nearer left (drop k xs)) c.as_mut_slice.ensures.value in
    let long : length mid ≡ c.self.inside.list.len = omega (arith, c.bring_nearer.auto.deltas, c.as_mut_slice.ensures.len) in
    let whole : take c.self.inside.list.len (mid ++ drop (length mid) ds) ≡ take k ds ++ nearer left (drop k ds) =
    take_at mid (drop (length mid) ds) c.self.inside.list.len long ∙ is in
    let ok : IsOk c.insert.result = c.insert.ensures.succeeds (omega (arith, behind-length 0 ds)) in
    let inserted : c.insert.new.self.items ≡ insert (take c.self.inside.list.len (mid ++ drop (length mid) ds)) k (delta c.args.unit left) = grind arith in
    let put : c.insert.new.self.items ≡ entered c.args.unit c.args.delay ds =
    inserted ∙ ap (λ (xs : List Delta). insert xs k (delta c.args.unit left)) whole ∙ insert-split k left ds (delta c.args.unit left) within
    ∙ subst (λ (xs : List Delta). take k xs ++ delta c.args.unit left ∷ nearer left (drop k xs) ≡ entered c.args.unit c.args.delay xs) c.as_slice.ensures.value
    (c.place-at.ensures.entered c.args.unit) in
    let all : events_of c.insert.new.self.items ≡ placed c.args.unit c.args.delay (events_of ds) =
    ap events_of put ∙ behind-entered c.args.unit 0 c.args.delay ds ∙ ap (λ (t : ℕ). placed c.args.unit t (events_of ds)) (omega arith) in
    (subst Sound (sym all) (sound-placed c.args.unit c.args.delay (events_of ds) c.requires.unit (omega arith) none c.self.invariant.0), omega arith)

pub returns : goal.returns
returns c =
    let ds = c.self.inside.list.items in
    let k = c.place-at.result.0 in
    let left = c.place-at.result.1 in
    let mid = c.bring_nearer.new.deltas in
    let none = ap (waits c.args.unit) c.self.view_is ∙ c.requires.absent in
    let short : length (events_of ds) < 81 = room c.args.unit (events_of ds) c.requires.unit none c.self.invariant.0 in
    let within : k ≤ length ds = subst (λ (xs : List Delta). k ≤ length xs) c.as_slice.ensures.value c.place-at.ensures.within in
    let is : mid ≡ take k ds ++ nearer left (drop k ds) =
    c.bring_nearer.ensures ∙ ap (λ (xs : List Delta). take k xs ++ nearer left (drop k xs)) c.as_mut_slice.ensures.value in
    let long : length mid ≡ c.self.inside.list.len = omega (arith, c.bring_nearer.auto.deltas, c.as_mut_slice.ensures.len) in
    let whole : take c.self.inside.list.len (mid ++ drop (length mid) ds) ≡ take k ds ++ nearer left (drop k ds) =
    take_at mid (drop (length mid) ds) c.self.inside.list.len long ∙ is in
    let ok : IsOk c.insert.result = c.insert.ensures.succeeds (omega (arith, behind-length 0 ds)) in
    let inserted : c.insert.new.self.items ≡ insert (take c.self.inside.list.len (mid ++ drop (length mid) ds)) k (delta c.args.unit left) = grind arith in
    let put : c.insert.new.self.items ≡ entered c.args.unit c.args.delay ds =
    inserted ∙ ap (λ (xs : List Delta). insert xs k (delta c.args.unit left)) whole ∙ insert-split k left ds (delta c.args.unit left) within
    ∙ subst (λ (xs : List Delta). take k xs ++ delta c.args.unit left ∷ nearer left (drop k xs) ≡ entered c.args.unit c.args.delay xs) c.as_slice.ensures.value
    (c.place-at.ensures.entered c.args.unit) in
    let all : events_of c.insert.new.self.items ≡ placed c.args.unit c.args.delay (events_of ds) =
    ap events_of put ∙ behind-entered c.args.unit 0 c.args.delay ds ∙ ap (λ (t : ℕ). placed c.args.unit t (events_of ds)) (omega arith) in
    all ∙ ap (placed c.args.unit c.args.delay) c.self.view_is
