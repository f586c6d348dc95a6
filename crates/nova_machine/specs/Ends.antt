-- What an instruction came to, as the stop of its turn.
use Rattle.std.specs.Prelude.{Option, Some, None}
use Rattle.nova_machine.specs.declared.machine.Stop.{Stop}
use Rattle.nova_machine.specs.declared.machine.Stop.TheVariants.{Halt, ChainLimit, UnknownDevice}
use Rattle.nova_machine.specs.declared.instruction_end.InstructionEnd.{InstructionEnd}
use Rattle.nova_machine.specs.declared.instruction_end.InstructionEnd.TheVariants as end

abbrev pub end_stop : InstructionEnd → Option Stop
end_stop end.Executed = None
end_stop end.Halt = Some Halt
end_stop end.ChainLimit = Some ChainLimit
end_stop end.UnknownDevice = Some UnknownDevice
