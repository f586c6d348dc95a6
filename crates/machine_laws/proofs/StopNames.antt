-- The register by which a unit that can have a file stops a run is STOP_IOE.
use Rattle.std.proofs.Common.{refl}
use Rattle.unit_trait.specs.declared.kind.Kind.TheVariants.{Dsk, Mta, Lpt, Ptr, Ptp}
use Rattle.nova_machine.specs.StopCauses.{StopIoeHasItsName}

pub stop-ioe-named : StopIoeHasItsName
stop-ioe-named Dsk takes = refl
stop-ioe-named Mta takes = refl
stop-ioe-named Lpt takes = refl
stop-ioe-named Ptr takes = refl
stop-ioe-named Ptp takes = refl
stop-ioe-named kind takes = absurd (cc)
