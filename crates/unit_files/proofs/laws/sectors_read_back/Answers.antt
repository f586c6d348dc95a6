use Rattle.unit_files.proofs.SectorLaws.{sectors-back}
use Rattle.unit_files.proofs.laws.sectors_read_back.Goals as goal

pub returns : goal.returns
returns c = sectors-back
