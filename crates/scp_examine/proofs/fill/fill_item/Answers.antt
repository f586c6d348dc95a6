use Rattle.std.proofs.Common.{ap, ◌∙◌}
use Rattle.scp_examine.specs.Shape.{shape_of}
use Rattle.scp_examine.specs.Checks.{values_fault}
use Rattle.scp_examine.proofs.FillLemmas.{named_fits, value_fits}
use Rattle.scp_examine.proofs.fill.fill_item.Goals as goal

pub named_by-named-requires : goal.named_by-named-requires
named_by-named-requires g c = named_fits (shape_of c.args.machine.now) c.args.device c.args.value c.args.item c.requires

pub fill_named-requires-clause-value : goal.fill_named-requires-clause-value
fill_named-requires-clause-value g c =
    ap (λ ps. values_fault c.args.value ps) c.named_by-named.ensures.places ∙ value_fits (shape_of c.args.machine.now) c.args.device c.args.value c.args.item c.requires
