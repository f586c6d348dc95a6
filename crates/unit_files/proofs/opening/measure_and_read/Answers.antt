use Rattle.std.proofs.Common.{◌≡◌, true, rules}
use Rattle.unit_files.specs.Attachments.{is_disk}
use Rattle.unit_files.proofs.Copies.{copy-fits}
use Rattle.unit_files.proofs.opening.measure_and_read.Goals as goal

pub read_copy-requires-clause-fits : goal.read_copy-requires-clause-fits
read_copy-requires-clause-fits g c =
    let is : is_disk c.args.unit.kind ≡ true = search rules in
    copy-fits c.args.unit.kind c.in-Ok.count is c.in-Ok.ensures.bound
