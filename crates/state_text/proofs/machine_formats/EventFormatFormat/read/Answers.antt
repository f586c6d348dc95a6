use Rattle.std.proofs.Common.{rules}
use Rattle.std.proofs.lemmas.List.{map-id}
use Rattle.state_text.proofs.machine_formats.EventFormatFormat.read.Goals as goal

pub returns : goal.returns
returns c = record { read = rw (map-id c.args.before.now) (search rules) }
