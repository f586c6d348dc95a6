use Rattle.std.proofs.Common.{◌≡◌, true, refl, ap}
use Rattle.std.specs.Option.{is_some}
use Rattle.byte_layouts.specs.declared.known.Known.{Known}
use Rattle.byte_layouts.specs.Layout.{reading}
use Rattle.byte_layouts.specs.Parts.{Further, rest_of_telling}
use Rattle.byte_layouts.proofs.PartLaws.{none_further, teller_taken, telling_goes}
use Rattle.byte_layouts.proofs.telling.TellingPart.go_on.Goals as goal
use Rattle.byte_layouts.proofs.telling.TellingPart.go_on.Goals.{then-is_none+in_ok-head+in-Some-1, then-is_none+in_ok-head+in-None-1, else-is_none}

pub returns : goal.returns
returns g c =
    let known = c.args.known in
    let front = c.args.self.now.behind in
    let reader = reading (g.M.Tells.layout known) in
    let start = rest_of_telling g.M.Tells.view reader (λ x. g.P.Part.rest (g.M.Tells.tells known x) front) (g.P.Part.rest c.args.self.now.next front) c.args.self.now.head in
    let p : Further start
    (rest_of_telling g.M.Tells.view reader (λ x. g.P.Part.rest (g.M.Tells.tells known x) front) (g.P.Part.rest c.if-is_none.self.next c.if-is_none.self.behind) c.if-is_none.self.head)
    c.args.pending.now c.if-is_none.pending
    × (is_some c.if-is_none.self.head ≡ true) = elim c.if-is_none.branch [
      | then-is_none+in_ok-head+in-Some-1 w ↦
          rw (w.self-is, w.pending-is) (
            teller_taken g.M.Tells.view reader (λ x. g.P.Part.rest (g.M.Tells.tells known x) front) (g.P.Part.rest c.args.self.now.next front) (g.P.Part.rest w.tell-self.result front) c.args.self.now.head w.in_ok-head.head
                c.args.pending.now w.take_next.new.pending w.if-is_none.ensures (ap (λ (k : Known). g.P.Part.rest k front) w.tell-self.ensures.told) w.in_ok-head.ensures,
            refl,
          )
      | then-is_none+in_ok-head+in-None-1 w ↦
          rw (w.self-is, w.pending-is) (
            teller_taken g.M.Tells.view reader (λ x. g.P.Part.rest (g.M.Tells.tells known x) front) (g.P.Part.rest c.args.self.now.next front) (g.P.Part.rest w.tell-self.result front) c.args.self.now.head w.in_ok-head.head
                c.args.pending.now w.take_next.new.pending w.if-is_none.ensures (ap (λ (k : Known). g.P.Part.rest k front) w.tell-self.ensures.told) w.in_ok-head.ensures,
            refl,
          )
      | else-is_none w ↦ rw (w.self-is, w.pending-is) (none_further start c.args.pending.now, w.if-is_none.ensures)
    ] in
    record {
      goes = telling_goes (g.P.Part.is_over c.go_on.new.self) c.go_on.result g.M.Tells.view reader (λ x. g.P.Part.rest (g.M.Tells.tells known x) front) (λ x. g.P.Part.rest (g.M.Tells.tells known x) c.go_on.new.self)
          (g.P.Part.rest c.if-is_none.self.next c.if-is_none.self.behind) (g.P.Part.rest c.if-is_none.self.next c.go_on.new.self) start c.if-is_none.self.head
          c.args.pending.now c.if-is_none.pending c.go_on.new.pending p.0 p.1 c.go_on.ensures.goes;
    }
