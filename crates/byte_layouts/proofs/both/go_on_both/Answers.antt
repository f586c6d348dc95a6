use Rattle.byte_layouts.proofs.PartLaws.{both_go}
use Rattle.byte_layouts.proofs.both.go_on_both.Goals as goal

pub returns : goal.returns
returns g c =
    both_go (g.A.Part.is_over c.go_on.new.self) (g.B.Part.is_over c.go_on-2.new.self) c.go_on-2.result (g.A.Part.rest c.args.known c.args.first.now) (g.A.Part.rest c.args.known c.go_on.new.self)
    (g.B.Part.rest c.args.known c.args.second.now) (g.B.Part.rest c.args.known c.go_on-2.new.self) c.args.pending.now c.go_on.new.pending c.go_on-2.new.pending
    c.in_ok-go_on.ensures.goes.0 c.in_ok-go_on.ensures.goes.1 c.in_ok-go_on.ensures.goes.2 c.go_on-2.ensures.goes
