use Rattle.std.specs.Prelude.{map, []}
use Rattle.byte_layouts.specs.Layout.{Fits}
use Rattle.byte_layouts.proofs.WriteLaws.{all_fit}
use Rattle.byte_layouts.proofs.list.write_plain.Goals as goal

pub write_elements-requires : goal.write_elements-requires
write_elements-requires g c = all_fit (λ front. Fits (g.R.Format.layout c.args.known front)) (λ front x. g.met.R.Plain.always_fits c.args.known front x) [] (map g.R.Format.view c.args.items.now)
