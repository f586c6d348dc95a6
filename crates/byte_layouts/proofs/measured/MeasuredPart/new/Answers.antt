use Rattle.std.proofs.Common.{List, ap}
use Rattle.std.specs.Prelude.{map}
use Rattle.byte_layouts.specs.Layout.{reading}
use Rattle.byte_layouts.proofs.PartLaws.{measured_fresh}
use Rattle.byte_layouts.proofs.measured.MeasuredPart.new.Goals as goal

pub returns : goal.returns
returns g c = record {
  fresh = λ known. measured_fresh g.M.Measure.view g.M.Measure.count (reading (g.M.Measure.layout known)) (λ front. reading (g.R.Format.layout known front)) 0 (map g.R.Format.view c.new.result.items)
      (ap (λ (xs : List g.row.R-Item.Denot). map g.R.Format.view xs) c.new.ensures.items);
}
