use Rattle.std.proofs.Common.{arith}
use Rattle.byte_layouts.specs.Nothing.{nothing}
use Rattle.byte_layouts.specs.Layout.{reading}
use Rattle.byte_layouts.specs.Fed.{IsFed}
use Rattle.byte_layouts.proofs.FedLaws.{takes, then_settled}
use Rattle.byte_layouts.proofs.reading.Reading.feed.Goals as goal

pub returns-clause-fed : goal.returns-clause-fed
returns-clause-fed g c =
    then_settled (IsFed c.args.self.now.stage (reading (g.P.Part.layout nothing)) (g.P.Part.rest nothing c.args.self.now.part) c.args.self.now.kept c.args.self.now.pending)
    (IsFed c.args.self.now.stage (reading (g.P.Part.layout nothing)) (g.P.Part.rest nothing c.args.self.now.part) c.args.self.now.kept c.take_in.new.self) _ c.settle.result c.args.piece.now
    (λ fed it. takes c.args.self.now.stage (reading (g.P.Part.layout nothing)) (g.P.Part.rest nothing c.args.self.now.part) c.args.self.now.kept c.args.self.now.pending c.take_in.new.self fed c.args.piece.now c.wanted-count.result
    (λ i. omega (arith, c.type_inv.piece i)) c.wanted-count.ensures.few c.wanted-count.ensures.wanted
    (record { hasher = c.in_ok-take_in.ensures.hasher; place = c.in_ok-take_in.ensures.place; rest = c.in_ok-take_in.ensures.rest }) it)
    c.settle.ensures.fed
