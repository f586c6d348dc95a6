-- EXAMINE and DEPOSIT (SIMH Users' Guide, "Examining and Changing State").
use Rattle.std.specs.Prelude.{ℕ, ◌^◌, ◌-◌, min, Bool, false, Option, Some, None, is_none, if◌then◌else◌}
use Rattle.unit_trait.specs.Kinds.{code_of}
use Rattle.unit_list.specs.Bus.{unit_at}
use Rattle.nova_machine.specs.Machine.{MachineState}
use Rattle.operand_forms.specs.declared.listing.Name.{Name}
use Rattle.operand_forms.specs.declared.listing.Name.TheVariants as whose
use Rattle.operand_forms.specs.declared.listing.Listing.{Listing}
use Rattle.scp_examine.specs.declared.fault.ExamineFault.{ExamineFault}
use Rattle.scp_examine.specs.Effect.{examine_fault, examined, fault_of_deposit, deposited}
use Rattle.command_session.specs.declared.fault.CommandFault.TheVariants.{NoSuchName}
use Rattle.command_session.specs.Live.{Live, with_machine}
use Rattle.command_session.specs.Reply.{Reply, goes, says, refused}
use Rattle.plain_commands.specs.ListFaults.{list_fault}

-- a list is of the registers of a device that the machine has no unit of
abbrev pub lacks_device : MachineState → Name → Bool
lacks_device m whose.Cpu = false
lacks_device m (whose.Device kind) = is_none (unit_at (code_of kind) m.units)

abbrev pub examine_after : Option ExamineFault → Live → Listing → Reply
examine_after (Some fault) live l = refused (list_fault fault) live
examine_after None live l = says (examined live.machine l) live

-- EXAMINE prints its list
unfoldable pub examine_reply : Live → Listing → Reply
examine_reply live l =
    if lacks_device live.machine l.device then refused NoSuchName live else examine_after (examine_fault live.machine l) live l

-- a value that is too large for its reader is handed on as the largest of 32 bits
abbrev pub handed : ℕ → ℕ
handed value = min value (2 ^ 32 - 1)

abbrev pub deposit_after : Option ExamineFault → Live → Listing → ℕ → Reply
deposit_after (Some fault) live l value = refused (list_fault fault) live
deposit_after None live l value = goes (with_machine live (deposited live.machine l value))

-- DEPOSIT puts its value into its list
unfoldable pub deposit_reply : Live → Listing → ℕ → Reply
deposit_reply live l value =
    if lacks_device live.machine l.device then refused NoSuchName live else deposit_after (fault_of_deposit live.machine l (handed value)) live l (handed value)
