use Rattle.std.proofs.Common.{ap, ◌∙◌}
use Rattle.host_adapters.specs.RealFiles.{RealState, untold_state}
use Rattle.host_adapters.proofs.real_files.RealFilesFiles.open_file.Goals as goal

pub returns-then-matches-clause-counts : goal.returns-then-matches-clause-counts
returns-then-matches-clause-counts g c =
    ap (λ (s : RealState). (untold_state s).faults) c.count_opening.ensures ∙ c.open_uncounted-result.ensures.counts
