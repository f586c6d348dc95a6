use Rattle.std.proofs.Common.{length, drop, min, rules}
use Rattle.std.proofs.lemmas.List.{take_min}
use Rattle.unit_files.specs.Pages.{page_bytes}
use Rattle.unit_files.proofs.Sectors.{behind-place}
use Rattle.unit_files.proofs.flushing.page_at.Goals as goal

pub returns : goal.returns
unfolding page_bytes
returns c =
    let bytes = c.args.bytes.now in
    let e = behind-place bytes c.args.place (min c.args.place (length bytes)) in
    let f = take_min 4096 (drop c.args.place bytes) in
    search (rules, e, f)
