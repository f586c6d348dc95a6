use Rattle.std.proofs.Common.{◌≡◌, true, refl}
use Rattle.std.specs.Prelude.{map}
use Rattle.std.specs.Option.{is_some}
use Rattle.byte_layouts.specs.Layout.{reading}
use Rattle.byte_layouts.specs.Parts.{Further, rest_of_measured}
use Rattle.byte_layouts.proofs.PartLaws.{none_further, head_taken, measured_goes}
use Rattle.byte_layouts.proofs.measured.MeasuredPart.go_on.Goals as goal
use Rattle.byte_layouts.proofs.measured.MeasuredPart.go_on.Goals.{then-is_none+in_ok-head+in-Some-1, then-is_none+in_ok-head+in-None-1, else-is_none}

pub returns : goal.returns
returns g c =
    let start = rest_of_measured g.M.Measure.view g.M.Measure.count (reading (g.M.Measure.layout c.args.known)) (λ front. reading (g.R.Format.layout c.args.known front)) c.args.self.now.head c.args.self.now.left (map g.R.Format.view c.args.self.now.items.items) in
    let p : Further start
    (rest_of_measured g.M.Measure.view g.M.Measure.count (reading (g.M.Measure.layout c.args.known)) (λ front. reading (g.R.Format.layout c.args.known front)) c.if-is_none.self.head c.if-is_none.self.left (map g.R.Format.view c.if-is_none.self.items.items))
    c.args.pending.now c.if-is_none.pending
    × (is_some c.if-is_none.self.head ≡ true) = elim c.if-is_none.branch [
      | then-is_none+in_ok-head+in-Some-1 w ↦
          rw (w.self-is, w.pending-is) (
            head_taken g.M.Measure.view g.M.Measure.count (reading (g.M.Measure.layout c.args.known)) (λ front. reading (g.R.Format.layout c.args.known front)) c.args.self.now.head w.in_ok-head.head c.args.self.now.left w.count-self.result
                (map g.R.Format.view c.args.self.now.items.items) c.args.pending.now w.take_next.new.pending w.if-is_none.ensures w.count-self.ensures.counted w.in_ok-head.ensures,
            refl,
          )
      | then-is_none+in_ok-head+in-None-1 w ↦
          rw (w.self-is, w.pending-is) (
            head_taken g.M.Measure.view g.M.Measure.count (reading (g.M.Measure.layout c.args.known)) (λ front. reading (g.R.Format.layout c.args.known front)) c.args.self.now.head w.in_ok-head.head c.args.self.now.left w.count-self.result
                (map g.R.Format.view c.args.self.now.items.items) c.args.pending.now w.take_next.new.pending w.if-is_none.ensures w.count-self.ensures.counted w.in_ok-head.ensures,
            refl,
          )
      | else-is_none w ↦ rw (w.self-is, w.pending-is) (none_further start c.args.pending.now, w.if-is_none.ensures)
    ] in
    record {
      goes = measured_goes c.take_elements.result g.M.Measure.view g.M.Measure.count (reading (g.M.Measure.layout c.args.known)) (λ front. reading (g.R.Format.layout c.args.known front)) start
          c.if-is_none.self.head c.if-is_none.self.left c.take_elements.new.left (map g.R.Format.view c.if-is_none.self.items.items) (map g.R.Format.view c.take_elements.new.items.items)
          c.args.pending.now c.if-is_none.pending c.take_elements.new.pending p.0 p.1 c.take_elements.ensures;
    }
