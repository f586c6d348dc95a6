use Rattle.std.proofs.Common.{◌≡◌, ◌-◌, []}
use Rattle.std.specs.Prelude.{map}
use Rattle.byte_layouts.specs.Readers.{chain, with_last}
use Rattle.byte_layouts.specs.Layout.{reading}
use Rattle.byte_layouts.proofs.Loops.{with_front}
use Rattle.byte_layouts.proofs.list.read_elements.Given as goal

abbrev pub invariant-loop-i : goal.invariant-loop-i
invariant-loop-i g l =
    with_front (map g.R.Format.view l.items.items) (chain (λ front. reading (g.R.Format.layout l.known front)) with_last (l.count - l._i) (map g.R.Format.view l.items.items) l.cursor)
    ≡ chain (λ front. reading (g.R.Format.layout l.known front)) with_last l.count [] l.fn.cursor
