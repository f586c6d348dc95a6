use Rattle.std.specs.Prelude.{map}
use Rattle.byte_layouts.specs.Layout.{reading}
use Rattle.byte_layouts.specs.Parts.{Further, rest_of_elements}
use Rattle.byte_layouts.proofs.list.take_elements.Given as goal

abbrev pub invariant-loop-left : goal.invariant-loop-left
invariant-loop-left g l =
    Further (rest_of_elements (λ front. reading (g.R.Format.layout l.fn.known front)) l.fn.left (map g.R.Format.view l.fn.items.items))
    (rest_of_elements (λ front. reading (g.R.Format.layout l.fn.known front)) l.left (map g.R.Format.view l.items.items)) l.fn.pending l.pending

abbrev pub decreases-loop-left : goal.decreases-loop-left
decreases-loop-left g l = l.left
