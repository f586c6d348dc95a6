use Rattle.unit_files.proofs.FlushLaws.{flushes-leave}
use Rattle.unit_files.proofs.laws.flushes_leave_the_copy.Goals as goal

pub returns : goal.returns
returns c = flushes-leave
