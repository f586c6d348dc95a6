use Rattle.byte_layouts.proofs.WholeLaws.{texts-are-read}
use Rattle.byte_layouts.proofs.laws.texts_are_read.Goals as goal

pub returns : goal.returns
returns g c = λ known. texts-are-read (g.P.Part.layout known)
