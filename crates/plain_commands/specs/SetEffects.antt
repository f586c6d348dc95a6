-- SET CPU (SIMH Users' Guide, "Altering The Simulated Configuration").
use Rattle.std.specs.Prelude.{ℕ, ◌*◌, Bool, if◌then◌else◌}
use Rattle.nova_memory.specs.Memory.{fits_size, resized, by_rule}
use Rattle.nova_machine.specs.Machine.{MachineState}
use Rattle.nova_machine.specs.Turn.{with_memory}
use Rattle.command_session.specs.declared.fault.CommandFault.TheVariants.{OutOfRange}
use Rattle.command_session.specs.Live.{Live, with_machine}
use Rattle.command_session.specs.Reply.{Reply, goes, refused}

-- the machine with so many K of memory, each of 1024 words: the words below that stay, and all others are 0
abbrev pub sized : MachineState → ℕ → MachineState
sized m k = with_memory m (resized m.processor.memory (1024 * k))

-- SET CPU gives the machine that many K of memory: 4, 8 and so on up to 32. It prints nothing.
unfoldable pub set_size_reply : Live → ℕ → Reply
set_size_reply live k = if fits_size k then goes (with_machine live (sized live.machine k)) else refused OutOfRange live

-- the machine in which bit 0 of an auto-index word is tested before its change, or behind it
abbrev pub ruled : MachineState → Bool → MachineState
ruled m before = with_memory m (by_rule before m.processor.memory)

-- SET CPU AUTOBIT chooses when that bit is tested. Nothing else changes, and it prints nothing.
unfoldable pub set_autobit_reply : Live → Bool → Reply
set_autobit_reply live before = goes (with_machine live (ruled live.machine before))
