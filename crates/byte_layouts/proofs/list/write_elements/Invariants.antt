use Rattle.std.proofs.Common.{◌≡◌, ◌++◌, [], take}
use Rattle.std.specs.Prelude.{map}
use Rattle.std.specs.List.{flat_map}
use Rattle.byte_layouts.specs.Layout.{text}
use Rattle.byte_layouts.proofs.list.write_elements.Given as goal

abbrev pub invariant-loop-item : goal.invariant-loop-item
invariant-loop-item g l =
    l.out.items ≡ l.fn.out.items ++ flat_map (text (g.R.Format.layout l.known [])) (map g.R.Format.view (take l.item-index l.items))
