use Rattle.unit_files.proofs.DigestLaws.{digests-are}
use Rattle.unit_files.proofs.laws.digests_are_of_the_file.Goals as goal

pub returns : goal.returns
returns c = digests-are
