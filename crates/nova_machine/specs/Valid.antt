-- What every state is that a run works on: true of the beginning, and kept by every turn. Laws speak of such states.
use Rattle.std.specs.Prelude.{◌≡◌, ℕ, ◌+◌, ◌^◌, ◌<◌, ◌≤◌, false, List, length, Option, Some, None, IfSome}
use Rattle.std.specs.List.{AllByRecursion}
use Rattle.file_traits.specs.Lists.{NamedBytes, bytes_of}
use Rattle.host_lines.specs.Traffic.{Peer, Happening, Traffic, Answer, Gave, Ahead, Script, Answers}
use Rattle.telnet_lines.specs.Line.{LineOf, unconnected, full_output}
use Rattle.telnet_lines.specs.Poll.{longest_received}
use Rattle.unit_files.specs.Attachments.{Attachment, Held, attachment_at}
use Rattle.unit_files.specs.Buffer.{Buffer, no_buffer, disk_unit}
use Rattle.nova_memory.specs.Memory.{IsMemory, IsSize}
use Rattle.nova_processor.specs.declared.cpu.Cpu.{Cpu}
use Rattle.expect_actions.specs.declared.breaks.Break.{Break}
use Rattle.expect_actions.specs.declared.expects.Expect.{Expect}
use Rattle.expect_actions.specs.Breaks.{most_breaks, Rising}
use Rattle.expect_actions.specs.Expects.{most_expects, longest_text}
use Rattle.expect_actions.specs.KeysFile.{most_keys}
use Rattle.expect_actions.specs.Sends.{Send, most_sends, InTime}
use Rattle.expect_actions.specs.Watch.{WatchState}
use Rattle.nova_machine.specs.Core.{IsCore}
use Rattle.nova_machine.specs.Machine.{MachineState}
use Rattle.nova_machine.specs.Seen.{Seen, attached_in}

abbrev pub AreBytes : List ℕ → Type 0
AreBytes bytes = AllByRecursion (λ (b : ℕ). b < 2 ^ 8) bytes

-- four accumulators of 16 bits, and a PC of 15
pub record ValidCpu (cpu : Cpu) : Type 0 where
  pub four : length cpu.accumulators ≡ 4
  pub words : AllByRecursion (λ (w : ℕ). w < 2 ^ 16) cpu.accumulators
  pub pc : cpu.pc < 2 ^ 15

-- a name of a file is of bytes, 255 at the most
pub record IsByteName (name : List ℕ) : Type 0 where
  pub bytes : AreBytes name
  pub short : length name ≤ 255

abbrev pub HasByteName : Option Held → Type 0
HasByteName slot = IfSome slot (λ h. IsByteName h.attachment.name)

-- A machine: its memory is 0 past its size, its registers are in range, and the names of its files are of bytes.
pub record ValidMachine (m : MachineState) : Type 0 where
  pub memory : IsMemory m.processor.memory
  pub size : IsSize m.processor.memory.size
  pub cpu : ValidCpu m.processor.cpu
  pub mask : m.ints.mask < 2 ^ 16
  pub switches : m.sr < 2 ^ 16
  pub core : IsCore m
  pub places : length m.slots ≡ 12
  pub names : AllByRecursion HasByteName m.slots
  pub disk : AreBytes m.disk.bytes

-- the actions of a break, or of a text that is waited for: they have come in a line
pub record AreShortActions (actions : List ℕ) : Type 0 where
  pub bytes : AreBytes actions
  pub short : length actions ≤ 512

pub record ValidBreak (b : Break) : Type 0 where
  pub address : b.address < 2 ^ 15
  pub count : b.count < 2 ^ 32
  pub actions : AreShortActions b.actions

pub record ValidExpect (e : Expect) : Type 0 where
  pub count : e.count < 2 ^ 32
  pub text : AreBytes e.text
  pub long : length e.text ≤ longest_text
  pub actions : AreShortActions e.actions

-- the watch tables: each list is within its limit, breaks in the order of their addresses, sends in that of their times
pub record ValidWatch (w : WatchState) : Type 0 where
  pub breaks : length w.breaks.list ≤ most_breaks
  pub rising : Rising w.breaks.list
  pub each : AllByRecursion ValidBreak w.breaks.list
  pub expects : length w.expects.list ≤ most_expects
  pub texts : AllByRecursion ValidExpect w.expects.list
  pub tail : length w.expects.tail ≤ longest_text
  pub printed : AreBytes w.expects.tail
  pub sends : length w.sends ≤ most_sends
  pub in_time : InTime w.sends
  pub bytes : AllByRecursion (λ (send : Send). send.1 < 2 ^ 8) w.sends
  pub broke : AreBytes w.breaks.actions
  pub matched : AreBytes w.expects.actions

abbrev pub IsPort : ℕ → Type 0
IsPort port = (1 ≤ port) × (port < 2 ^ 16)

-- A line: its port is 1 to 65535. Keys and coded output that wait are bytes, at most 64 keys and 1025 bytes of output, and
-- nothing waits where nobody is connected.
pub record ValidLine (line : LineOf Peer) : Type 0 where
  pub port : IfSome line.port IsPort
  pub nothing : line.connection ≡ None → line ≡ unconnected line.port
  pub keys : AreBytes line.keys
  pub output : AreBytes line.output
  pub few_keys : length line.keys ≤ longest_received
  pub few_bytes : length line.output ≤ full_output + 1

-- what is still to come on lines: callers send bytes, and an answer gives no more of them than one receive takes
abbrev pub ValidAnswer : Answer → Type 0
ValidAnswer (Gave bytes) = AreBytes bytes × (length bytes ≤ longest_received)
ValidAnswer other = Unit {0}

abbrev pub ValidTraffic : Traffic → Type 0
ValidTraffic t = AllByRecursion (λ (e : Happening). AreBytes e.bytes) t.entries

abbrev pub ValidAhead : Ahead → Type 0
ValidAhead (Script t) = ValidTraffic t
ValidAhead (Answers answers) = AllByRecursion ValidAnswer answers

-- And with the keys, the files, the lines, and what is still to come on them. A session knows no more keys than it can
-- take, and takes no more; one that was put back may have taken more than are known now.
pub record Valid (s : Seen) : Type 0 where
  pub machine : ValidMachine s.machine
  pub watch : ValidWatch s.watch
  pub taken : s.machine.taken ≤ most_keys
  pub known : length s.keys ≤ most_keys
  pub keys : AllByRecursion (λ (key : ℕ × ℕ). key.1 < 2 ^ 8) s.keys
  pub files : AllByRecursion (λ (f : NamedBytes). AreBytes f.1) s.files
  pub lines : AllByRecursion ValidLine s.lines
  pub ahead : ValidAhead s.ahead

-- what the disk holds of its file is what is in the file, where nothing is to be written back; without a file it holds nothing
abbrev pub CopyIsFile : Option Attachment → Buffer → List NamedBytes → Type 0
CopyIsFile None disk files = disk ≡ no_buffer
CopyIsFile (Some a) disk files = disk.written ≡ false → disk.bytes ≡ bytes_of files a.name

abbrev pub DiskIsItsFile : Seen → Type 0
DiskIsItsFile s = CopyIsFile (attachment_at (attached_in s.machine) disk_unit) s.machine.disk s.files

-- nobody but the disk has changed the disk's file
abbrev pub KeepsFile : Option Attachment → List NamedBytes → List NamedBytes → Type 0
KeepsFile None old new = Unit {0}
KeepsFile (Some a) old new = bytes_of new a.name ≡ bytes_of old a.name

abbrev pub LeavesDiskFile : Seen → Seen → Type 0
LeavesDiskFile s t = KeepsFile (attachment_at (attached_in s.machine) disk_unit) s.files t.files
