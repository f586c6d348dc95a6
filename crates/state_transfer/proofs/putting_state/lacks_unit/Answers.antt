use Rattle.std.proofs.Common.{◌≡◌, ◌∙◌, ap, sym, refl, length, map, ◌&&◌, ◌==◌, not, Bool, false, rules}
use Rattle.std.proofs.lemmas.Bool.{false_from_ne_true, eq-eqb, eqb-true}
use Rattle.saved_session.specs.Parts.{unit_in}
use Rattle.saved_session.specs.Ranges.{most_kinds}
use Rattle.nova_machine.specs.Machine.{has_multiplexer}
use Rattle.state_transfer.proofs.PutBackMachineLemmas.{missing-tested}
use Rattle.state_transfer.proofs.PuttingLemmas.{parts-long}
use Rattle.state_transfer.proofs.putting_state.lacks_unit.Goals as goal

pub returns-then-as_slice-eq11 : goal.returns-then-as_slice-eq11
returns-then-as_slice-eq11 g c =
    let us = map unit_in c.args.saved.now.units.items in
    let n = length c.args.saved.now.units.items in
    let is : n ≡ most_kinds = search rules in
    ap (λ (x : Bool). x && not c.has_unit.result) (sym (eq-eqb n most_kinds is))
    ∙ missing-tested us c.args.machine.now.units n c.has_unit.result c.requires.all c.requires.units
    (sym (parts-long c.args.saved.now.units.items)) c.has_unit.ensures

pub returns-else-as_slice-eq11 : goal.returns-else-as_slice-eq11
returns-else-as_slice-eq11 g c =
    let us = map unit_in c.args.saved.now.units.items in
    let n = length c.args.saved.now.units.items in
    let has = has_multiplexer c.args.machine.now.units in
    let isnt : ¬ (n ≡ most_kinds) = search rules in
    let other : (n == most_kinds) ≡ false = false_from_ne_true (n == most_kinds) (λ same. isnt (eqb-true n most_kinds same)) in
    let s = length c.as_slice.result.now in
    let differs : ¬ (s ≡ most_kinds) = search rules in
    let first : (s == most_kinds) ≡ false = false_from_ne_true (s == most_kinds) (λ same. differs (eqb-true s most_kinds same)) in
    first ∙ ap (λ (x : Bool). x && not has) (sym other)
    ∙ missing-tested us c.args.machine.now.units n has c.requires.all c.requires.units
    (sym (parts-long c.args.saved.now.units.items)) refl
