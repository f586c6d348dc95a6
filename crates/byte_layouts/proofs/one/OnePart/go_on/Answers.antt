use Rattle.std.proofs.Common.{[], refl}
use Rattle.byte_layouts.specs.Layout.{reading}
use Rattle.byte_layouts.proofs.PartLaws.{none_further, one_read, one_there}
use Rattle.byte_layouts.proofs.one.OnePart.go_on.Goals as goal

pub returns-in_ok-take_next : goal.returns-in_ok-take_next
returns-in_ok-take_next g c =
    record { goes = (one_read g.R.Format.view (reading (g.R.Format.layout c.args.known [])) c.args.self.now.item c.in_ok-take_next.field-0 c.args.pending.now c.take_next.new.pending c.if-is_none.ensures c.in_ok-take_next.ensures, (g.R.Format.view c.in_ok-take_next.field-0, λ at. refl), refl) }

pub returns-else-is_none : goal.returns-else-is_none
returns-else-is_none g c =
    record { goes = (none_further _ c.args.pending.now, one_there g.R.Format.view (reading (g.R.Format.layout c.args.known [])) c.args.self.now.item c.if-is_none.ensures, c.if-is_none.ensures) }
