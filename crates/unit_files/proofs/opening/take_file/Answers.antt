use Rattle.std.proofs.Common.{Ok, Err, sym, subst}
use Rattle.unit_files.specs.declared.faults.AttachFault.{AttachFault}
use Rattle.unit_files.specs.Causes.{CountsAttach}
use Rattle.unit_files.proofs.OpeningCounts.{counts_opened, counts_unopened}
use Rattle.unit_files.proofs.opening.take_file.Goals as goal

pub returns-in-Ok-measure_or_close-clause-exact : goal.returns-in-Ok-measure_or_close-clause-exact
returns-in-Ok-measure_or_close-clause-exact g c =
    let state = g.F.Files.state in
    counts_opened c.args.mode g.F.Files.tells c.args.unit c.args.name.now c.in-Ok.file (state c.args.files.now)
    (state c.open_for.new.files) (state c.measure_or_close.new.files) c.in-Ok.ensures.counts c.in-Ok.ensures.opens.0
    c.in-Ok-measure_or_close.ensures.counts (Ok c.in-Ok-measure_or_close.length) c.in-Ok-measure_or_close.ensures.cause

pub returns-in-Err-measure_or_close-clause-exact : goal.returns-in-Err-measure_or_close-clause-exact
returns-in-Err-measure_or_close-clause-exact g c =
    let state = g.F.Files.state in
    counts_opened c.args.mode g.F.Files.tells c.args.unit c.args.name.now c.in-Ok.file (state c.args.files.now)
    (state c.open_for.new.files) (state c.measure_or_close.new.files) c.in-Ok.ensures.counts c.in-Ok.ensures.opens.0
    c.in-Err-measure_or_close.ensures.counts (Err c.in-Err-measure_or_close.fault) c.in-Err-measure_or_close.ensures.cause

pub returns-in-Err-clause-exact : goal.returns-in-Err-clause-exact
returns-in-Err-clause-exact g c =
    let state = g.F.Files.state in
    subst (λ (fault : AttachFault). CountsAttach c.args.mode g.F.Files.tells (Err fault) (state c.args.files.now)
    (state c.open_for.new.files)) (sym c.fault_of.ensures)
    (counts_unopened c.args.mode g.F.Files.tells c.args.unit c.args.name.now c.in-Err.fault (state c.args.files.now)
    (state c.open_for.new.files) c.in-Err.ensures.counts c.in-Err.ensures.opens)
