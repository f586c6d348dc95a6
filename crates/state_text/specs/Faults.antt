-- The fault of a state file that a fault of its fields is.
use Rattle.byte_layouts.specs.declared.fault.FieldFault.{FieldFault}
use Rattle.byte_layouts.specs.declared.fault.FieldFault.TheVariants as fields
use Rattle.state_text.specs.declared.fault.StateFault.{StateFault}
use Rattle.state_text.specs.declared.fault.StateFault.TheVariants as faults

abbrev pub state_fault : FieldFault → StateFault
state_fault fields.NotHead = faults.NotState
state_fault (fields.Version n) = faults.Version n
state_fault (fields.BadField place) = faults.BadField place
state_fault fields.Truncated = faults.Truncated
state_fault fields.OutOfMemory = faults.OutOfMemory
