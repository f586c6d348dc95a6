use Rattle.std.proofs.Common.{◌≡◌, true, refl}
use Rattle.std.specs.Prelude.{map}
use Rattle.byte_layouts.specs.Layout.{width, reading}
use Rattle.byte_layouts.specs.Readers.{number, tested}
use Rattle.byte_layouts.specs.Parts.{Further, rest_of_elements, rest_of_list}
use Rattle.byte_layouts.proofs.PartLaws.{count_read, count_there, list_goes}
use Rattle.byte_layouts.proofs.list.ElementsPart.go_on.Goals as goal
use Rattle.byte_layouts.proofs.list.ElementsPart.go_on.Goals.{then-not-self+in_ok-self, else-not-self}

pub returns : goal.returns
returns g c =
    let counts = tested (g.R.ListFormat.few c.args.known) (number (width g.R.ListFormat.size)) in
    let p : Further (rest_of_list counts (λ front. reading (g.R.Format.layout c.args.known front)) c.args.self.now.counted c.args.self.now.left (map g.R.Format.view c.args.self.now.items.items))
    (rest_of_elements (λ front. reading (g.R.Format.layout c.args.known front)) c.if-not-self.self.left (map g.R.Format.view c.if-not-self.self.items.items)) c.args.pending.now c.if-not-self.pending
    × (c.if-not-self.self.counted ≡ true) = elim c.if-not-self.branch [
      | then-not-self+in_ok-self w ↦
          rw (w.self-is, w.pending-is) (
            count_read counts (λ front. reading (g.R.Format.layout c.args.known front)) c.args.self.now.counted c.args.self.now.left w.in_ok-self.field-0 (map g.R.Format.view c.args.self.now.items.items)
                c.args.pending.now w.take_next.new.pending w.if-not-self.true w.in_ok-self.ensures,
            refl,
          )
      | else-not-self w ↦
          rw (w.self-is, w.pending-is) (
            count_there counts (λ front. reading (g.R.Format.layout c.args.known front)) c.args.self.now.counted c.args.self.now.left (map g.R.Format.view c.args.self.now.items.items)
                c.args.pending.now w.if-not-self.false,
            w.if-not-self.false,
          )
    ] in
    record {
      goes = list_goes c.take_elements.result counts (λ front. reading (g.R.Format.layout c.args.known front)) (rest_of_list counts (λ front. reading (g.R.Format.layout c.args.known front)) c.args.self.now.counted c.args.self.now.left (map g.R.Format.view c.args.self.now.items.items))
          c.if-not-self.self.counted c.if-not-self.self.left c.take_elements.new.left (map g.R.Format.view c.if-not-self.self.items.items) (map g.R.Format.view c.take_elements.new.items.items)
          c.args.pending.now c.if-not-self.pending c.take_elements.new.pending p.0 p.1 c.take_elements.ensures;
    }
