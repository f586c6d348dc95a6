use Rattle.byte_layouts.specs.Layout.{reading}
use Rattle.byte_layouts.proofs.PartLaws.{telling_fresh}
use Rattle.byte_layouts.proofs.telling.TellingPart.new.Goals as goal

pub returns : goal.returns
returns g c = record {
  fresh = λ known. telling_fresh g.M.Tells.view (reading (g.M.Tells.layout known)) (λ x. g.P.Part.rest (g.M.Tells.tells known x) c.new.result) (λ x. reading (g.P.Part.layout (g.M.Tells.tells known x)))
      (g.P.Part.rest c.nothing.result c.new.result) (λ x. c.new.ensures.fresh (g.M.Tells.tells known x));
}
