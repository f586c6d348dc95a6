use Rattle.std.proofs.Common.{◌∙◌, ap, sym, length, map, ◌&&◌, ◌==◌, Bool}
use Rattle.saved_session.specs.Parts.{unit_in}
use Rattle.saved_session.specs.Ranges.{standard_kinds}
use Rattle.state_transfer.proofs.PutBackMachineLemmas.{lacking-tested}
use Rattle.state_transfer.proofs.PuttingLemmas.{parts-long, count-of-parts}
use Rattle.state_transfer.proofs.putting.lacks_first.Goals as goal

pub returns-then-has_unit : goal.returns-then-has_unit
returns-then-has_unit g c =
    let us = map unit_in c.args.units.now in
    let n = length c.args.units.now in
    ap (λ (x : Bool). x && (n == standard_kinds)) (sym c.if-has_unit.true)
    ∙ lacking-tested us c.args.machine.now.units n c.has_unit.result (count-of-parts c.args.units.now c.requires.all) c.requires.valid
    (sym (parts-long c.args.units.now)) c.has_unit.ensures

pub returns-else-has_unit : goal.returns-else-has_unit
returns-else-has_unit g c =
    let us = map unit_in c.args.units.now in
    let n = length c.args.units.now in
    c.if-has_unit.false ∙ ap (λ (x : Bool). x && (n == standard_kinds)) (sym c.if-has_unit.false)
    ∙ lacking-tested us c.args.machine.now.units n c.has_unit.result (count-of-parts c.args.units.now c.requires.all) c.requires.valid
    (sym (parts-long c.args.units.now)) c.has_unit.ensures
