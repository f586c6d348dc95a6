use Rattle.unit_files.proofs.PageLaws.{sectors-mark}
use Rattle.unit_files.proofs.laws.sectors_mark_their_pages.Goals as goal

pub returns : goal.returns
returns c = sectors-mark
