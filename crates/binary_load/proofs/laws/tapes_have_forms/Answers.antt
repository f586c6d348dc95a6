use Rattle.binary_load.proofs.FormLemmas.{tapes-formed, faults-formed}
use Rattle.binary_load.proofs.FaultLemmas.{faults-found}
use Rattle.binary_load.proofs.laws.tapes_have_forms.Goals as goal

pub returns : goal.returns
returns c = record { tapes = tapes-formed; faults = faults-formed; found = faults-found }
