use Rattle.std.proofs.Common.{◌≡◌, List, [], ◌++◌, take, ap, ◌∙◌, arith}
use Rattle.std.specs.Prelude.{map}
use Rattle.std.specs.List.{flat_map}
use Rattle.std.proofs.lemmas.List.{take_all}
use Rattle.std.proofs.lemmas.List.Elements.{All-from_recursion}
use Rattle.byte_layouts.specs.Layout.{text, Fits}
use Rattle.byte_layouts.proofs.WriteLaws.{flat_texts, each_fits}
use Rattle.byte_layouts.proofs.list.write_elements.Goals as goal

pub write-requires : goal.write-requires
write-requires g c = record {
  fits = rw c.item-item.is (All-from_recursion (λ (x : g.row.R-Item.Denot). Fits (g.R.Format.layout c.args.known []) (g.R.Format.view x)) c.args.items.now
      (each_fits g.R.Format.view (λ front. Fits (g.R.Format.layout c.args.known front)) (Fits (g.R.Format.layout c.args.known [])) (λ front x. g.met.R.Writes.same_fits c.args.known front x) [] c.args.items.now c.requires) c.loop-item.item-index _ c.loop-item-test.true);
}

pub returns : goal.returns
returns g c =
    let same = flat_texts (λ front. text (g.R.Format.layout c.args.known front)) (text (g.R.Format.layout c.args.known [])) (λ front x. g.met.R.Writes.same_text c.args.known front x) [] (map g.R.Format.view c.args.items.now) in
    let all : take c.loop-item.item-index c.args.items.now ≡ c.args.items.now = take_all c.loop-item.item-index c.args.items.now (omega (arith, c.loop-item-test.false)) in
    rw same (c.loop-item.invariant ∙ ap (λ (xs : List g.row.R-Item.Denot). c.args.out.now.items ++ flat_map (text (g.R.Format.layout c.args.known [])) (map g.R.Format.view xs)) all)
