use Rattle.std.specs.Prelude.{◌&&◌}
use Rattle.byte_layouts.specs.Parts.{both}
use Rattle.byte_layouts.proofs.PartLaws.{both_go}
use Rattle.byte_layouts.proofs.three.ThreePart.go_on.Goals as goal

pub returns : goal.returns
returns g c = record {
  goes = both_go (g.A.Part.is_over c.go_on.new.self) (g.B.Part.is_over c.go_on_both.new.first && g.C.Part.is_over c.go_on_both.new.second) c.go_on_both.result
      (g.A.Part.rest c.args.known c.args.self.now.first) (g.A.Part.rest c.args.known c.go_on.new.self) (both (g.B.Part.rest c.args.known c.args.self.now.second) (g.C.Part.rest c.args.known c.args.self.now.third))
      (both (g.B.Part.rest c.args.known c.go_on_both.new.first) (g.C.Part.rest c.args.known c.go_on_both.new.second)) c.args.pending.now c.go_on.new.pending c.go_on_both.new.pending
      c.in_ok-go_on.ensures.goes.0 c.in_ok-go_on.ensures.goes.1 c.in_ok-go_on.ensures.goes.2 c.go_on_both.ensures;
}
