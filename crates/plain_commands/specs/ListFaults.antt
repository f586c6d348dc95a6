-- The fault of a list, as that of a command.
use Rattle.scp_examine.specs.declared.fault.ExamineFault.{ExamineFault}
use Rattle.scp_examine.specs.declared.fault.ExamineFault.TheVariants as list
use Rattle.command_session.specs.declared.fault.CommandFault.{CommandFault}
use Rattle.command_session.specs.declared.fault.CommandFault.TheVariants.{NoSuchName, OutOfRange, ReadOnlyName, Console}

-- the fault of a list
abbrev pub list_fault : ExamineFault → CommandFault
list_fault list.NoSuchName = NoSuchName
list_fault list.OutOfRange = OutOfRange
list_fault list.ReadOnlyName = ReadOnlyName
list_fault list.Console = Console
