use Rattle.std.specs.Prelude.{map}
use Rattle.byte_layouts.proofs.PartLaws.{found}
use Rattle.byte_layouts.proofs.trying.try_next.Goals as goal

pub returns : goal.returns
returns g c = record {
  bytes = c.cursor-cursor.ensures.bytes;
  found = found (g.R.Format.layout c.args.known (map g.R.Format.view c.args.before.now)) c.args.pending.now c.cursor-cursor.result c.read.new.cursor (g.R.Format.view c.in_ok-found.found) c.place.result c.cursor-cursor.ensures.bytes c.cursor-cursor.ensures.at c.in_ok-found.ensures.read c.place.ensures;
}
