-- Why a turn or a run stopped, by the machine and the watch tables that it left and by those that it began with, whether
-- the bytes of files are told or not.
use Rattle.std.specs.Prelude.{◌≡◌, ◌⊎◌, ℕ, ◌+◌, ◌<◌, ◌≤◌, Bool, true, false, IsTrue, List, [], ◌∷◌, ◌++◌, Option, Some, None, codes, if◌then◌else◌}
use Rattle.nova_memory.specs.Memory.{get}
use Rattle.unit_trait.specs.declared.kind.Kind.{Kind}
use Rattle.unit_trait.specs.declared.kind.UnitName.{UnitName}
use Rattle.unit_trait.specs.declared.calls.Want.{Want}
use Rattle.unit_trait.specs.declared.calls.Want.TheVariants as want
use Rattle.unit_trait.specs.declared.calls.Got.{Got}
use Rattle.unit_trait.specs.declared.calls.Got.TheVariants as got
use Rattle.unit_trait.specs.Device.{position}
use Rattle.unit_trait.specs.Registers.{pos_number, name_at}
use Rattle.unit_list.specs.Bus.{register_in}
use Rattle.unit_files.specs.Attachments.{Attachment, attachment_at, is_tape, only_writes, takes_files}
use Rattle.expect_actions.specs.declared.breaks.Break.{Break}
use Rattle.expect_actions.specs.Breaks.{BreakTable, stop_at, after_test}
use Rattle.expect_actions.specs.Expects.{ExpectTable, match_at, after_printed}
use Rattle.expect_actions.specs.Sends.{Send, due_send, sends_left}
use Rattle.expect_actions.specs.KeysFile.{due_key}
use Rattle.expect_actions.specs.Watch.{WatchState}
use Rattle.nova_processor.specs.declared.burst.BurstEnd.{BurstEnd}
use Rattle.nova_processor.specs.declared.burst.BurstEnd.TheVariants as burst_end
use Rattle.nova_processor.specs.Instruction.{following}
use Rattle.nova_machine.specs.declared.machine.Stop.{Stop}
use Rattle.nova_machine.specs.declared.machine.Stop.TheVariants.{Halt, ChainLimit, UnknownDevice, Break as BreakStop, Expect, Stepped, Limit, UnitEnd, UnitNone, BadImage, Wru, FileFault, ConsoleFault}
use Rattle.nova_machine.specs.declared.service.Hosted.{Hosted}
use Rattle.nova_machine.specs.declared.service.Hosted.TheVariants.{Gets, Matched, Stops}
use Rattle.nova_machine.specs.declared.service.Hosted.TheVariants as hosted
use Rattle.nova_machine.specs.Machine.{MachineState}
use Rattle.nova_machine.specs.OnLines.{is_ported}
use Rattle.nova_machine.specs.Seen.{attached_in}
use Rattle.nova_machine.specs.Wants.{first_key, typed_key, wru, own_stop, taken_after}
use Rattle.nova_machine.specs.Turn.{is_interrupted, interrupt_reference}
use Rattle.nova_machine.specs.Run.{last_time}
use Rattle.nova_machine.specs.StopLaws.{fetched, IsHalt, IsUnknown, IsEndless, behind_chain, behind_entry}

-- ---- the processor

-- the word in front of PC is a HALT
pub record IsBehindHalt (m : MachineState) : Type 0 where
  pub at : ℕ
  pub within : at < m.processor.memory.size
  pub next : m.processor.cpu.pc ≡ following at
  pub halt : IsHalt (get m.processor.memory at)

-- the chain of the word at PC had no end in the machine as it was before that chain
pub record IsAtEndlessChain (m : MachineState) : Type 0 where
  pub before : MachineState
  pub chain : IsEndless (fetched before) before
  pub left : m ≡ behind_chain before

-- an interrupt came, and the chain of its JMP @1 had no end in the machine as it was before
pub record IsAtEndlessEntry (m : MachineState) : Type 0 where
  pub before : MachineState
  pub comes : is_interrupted before ≡ true
  pub chain : (interrupt_reference before).address ≡ None
  pub left : m ≡ behind_entry before

abbrev pub IsAtChainLimit : MachineState → Type 0
IsAtChainLimit m = IsAtEndlessChain m ⊎ IsAtEndlessEntry m

-- ---- units and their files

-- STOP_IOE is the third register of each unit that can have a file
abbrev pub stop_ioe_number : ℕ
stop_ioe_number = 2

abbrev pub StopIoeHasItsName : Type 0
StopIoeHasItsName = (kind : Kind) → IsTrue (takes_files kind) → name_at kind stop_ioe_number ≡ codes "STOP_IOE"

abbrev pub StopsForFile : UnitName → MachineState → Type 0
StopsForFile unit m = register_in unit.kind stop_ioe_number m.units ≡ Some 1

abbrev pub IsThere : Option Attachment → Type 0
IsThere a = (file : Attachment) × (a ≡ Some file)

abbrev pub HasFile : UnitName → MachineState → Type 0
HasFile unit m = IsThere (attachment_at (attached_in m) unit)

-- a unit that only writes is at the end of its file where its POS is the largest that there is
abbrev pub IsFull : UnitName → MachineState → Type 0
IsFull unit m = only_writes unit.kind ≡ true → register_in unit.kind pos_number m.units ≡ Some position.largest

-- a file is attached to a unit, and its STOP_IOE is on; a unit that only writes has no room left
pub record IsAtFileEnd (unit : UnitName) (m : MachineState) : Type 0 where
  pub kind : IsTrue (takes_files unit.kind)
  pub file : HasFile unit m
  pub stops : StopsForFile unit m
  pub full : IsFull unit m

-- no file is attached to a unit that can have one, and its STOP_IOE is on
pub record IsWithoutFile (unit : UnitName) (m : MachineState) : Type 0 where
  pub kind : IsTrue (takes_files unit.kind)
  pub none : attachment_at (attached_in m) unit ≡ None
  pub stops : StopsForFile unit m

-- a tape is in that drive
pub record HasTape (unit : UnitName) (m : MachineState) : Type 0 where
  pub kind : IsTrue (is_tape unit.kind)
  pub file : HasFile unit m

-- ---- what is made of a want

-- a unit is told that it has no file only where none is attached, and of an end or of a tape only where one is
abbrev pub IsGotOf : Option Attachment → Got → Type 0
IsGotOf a got.End = IsThere a
IsGotOf a (got.Tape tape) = IsThere a
IsGotOf a got.NoFile = a ≡ None
IsGotOf a other = Unit {0}

-- a byte is not written for want of room past the bytes that a unit sees alone
abbrev pub IsPastRoom : Want → Hosted → Type 0
IsPastRoom (want.WriteByte place byte) (Gets got.End) = position.largest ≤ place
IsPastRoom want made = Unit {0}

-- what was made of a want of a unit of that kind, by its attachment, the key that came and the texts that are waited for
abbrev pub IsMadeOf : Want → Kind → Option Attachment → Option ℕ → ExpectTable → Hosted → Type 0
IsMadeOf want kind a key expects (Gets g) = IsGotOf a g × (own_stop key expects want ≡ None)
IsMadeOf want kind a key expects hosted.Wru = own_stop key expects want ≡ Some Wru
IsMadeOf want kind a key expects (Matched place) = own_stop key expects want ≡ Some (Expect place)
IsMadeOf want kind a key expects (Stops (BadImage unit place)) = IsTrue (is_tape kind) × IsThere a
IsMadeOf want kind a key expects (Stops (FileFault f)) = Unit {0}
IsMadeOf want kind a key expects (Stops ConsoleFault) = Unit {0}
IsMadeOf want kind a key expects (Stops stop) = ⊥

-- ---- the watch tables

-- a moment of a session, by the time, how many keys were taken, whether the console line has a port, and the watch tables
pub record Moment : Type 0 where
  pub time : ℕ
  pub taken : ℕ
  pub ported : Bool
  pub watch : WatchState

abbrev pub moment_of : WatchState → MachineState → Moment
moment_of watch m = record { time = m.time; taken = m.taken; ported = is_ported m.lines; watch = watch }

-- a break whose count is no larger than it was
pub record IsCountedDown (old new : Break) : Type 0 where
  pub address : new.address ≡ old.address
  pub count : new.count ≤ old.count
  pub actions : new.actions ≡ old.actions

abbrev pub AreCountedDown : List Break → List Break → Type 0
AreCountedDown [] [] = Unit {0}
AreCountedDown (b ∷ old) (c ∷ new) = IsCountedDown b c × AreCountedDown old new
AreCountedDown old new = ⊥

-- the break with that place stops a test at an address, which makes the table what it then is
pub record StopsTest (place address : ℕ) (before after : BreakTable) : Type 0 where
  pub stops : stop_at address before.list ≡ Some place
  pub left : after ≡ after_test address before

-- .. of a table whose counts earlier tests may have lowered
pub record StopsLaterTest (place address : ℕ) (start after : BreakTable) : Type 0 where
  pub before : BreakTable
  pub lowered : AreCountedDown start.list before.list
  pub test : StopsTest place address before after

-- the table of texts once these bytes were printed
abbrev pub all_printed : List ℕ → ExpectTable → ExpectTable
all_printed [] t = t
all_printed (b ∷ bytes) t = all_printed bytes (after_printed b t)

-- none of these bytes ends a text at which a run stops
abbrev pub NoneMatches : List ℕ → ExpectTable → Type 0
NoneMatches [] t = Unit {0}
NoneMatches (b ∷ bytes) t = (match_at b t ≡ None) × NoneMatches bytes (after_printed b t)

-- the last of these bytes, and none before it, ends the text of the entry with that place, at which a run stops
abbrev pub LastMatches : ℕ → List ℕ → ExpectTable → Type 0
LastMatches place [] t = ⊥
LastMatches place (b ∷ []) t = match_at b t ≡ Some place
LastMatches place (b ∷ c ∷ bytes) t = (match_at b t ≡ None) × LastMatches place (c ∷ bytes) (after_printed b t)

-- the run stopped for a text exactly where the bytes that were printed end it
abbrev pub Matches : Option Stop → List ℕ → ExpectTable → Type 0
Matches (Some (Expect place)) bytes t = LastMatches place bytes t
Matches stop bytes t = NoneMatches bytes t

-- the bytes that come on the console's own output: where its line has a port, they were put on that
abbrev pub console_bytes : Bool → List ℕ → List ℕ
console_bytes ported bytes = if ported then [] else bytes

-- What a turn or a run has made of the watch tables and the keys, on a console that had and has these bytes: each byte
-- that it printed, or put on the console line, was compared with the texts, counts of breaks were lowered, bytes of SEND were
-- taken from the front, and no key was given back. The console line has a port as before, or none.
pub record Watches (stop : Option Stop) (start now : Moment) (tells : Bool) (before after : List ℕ) : Type 0 where
  pub bytes : List ℕ
  pub written : IsTrue tells → after ≡ before ++ console_bytes start.ported bytes
  pub ported : now.ported ≡ start.ported
  pub compared : now.watch.expects ≡ all_printed bytes start.watch.expects
  pub matches : Matches stop bytes start.watch.expects
  pub breaks : AreCountedDown start.watch.breaks.list now.watch.breaks.list
  pub front : List Send
  pub sends : start.watch.sends ≡ front ++ now.watch.sends
  pub keys : start.taken ≤ now.taken

-- A key stops a run that came from SEND or else from the keys file and was due; or where none was, and the console line has a
-- port, from a poll of that.
abbrev pub IsWruKey : Option ℕ → Bool → Type 0
IsWruKey due ported = (due ≡ Some wru) ⊎ ((due ≡ None) × (ported ≡ true))

-- the key that stops a run came, and was taken
pub record TookWru (keys : List (ℕ × ℕ)) (start : Moment) (watch : WatchState) (m : MachineState) : Type 0 where
  pub front : List Send
  pub sends : List Send
  pub waited : start.watch.sends ≡ front ++ sends
  pub taken : ℕ
  pub later : start.taken ≤ taken
  pub key : IsWruKey (first_key (due_send m.time sends) (due_key keys taken m.time)) (is_ported m.lines)
  pub sends_now : watch.sends ≡ sends_left m.time sends
  pub taken_now : m.taken ≡ taken_after taken (typed_key (due_send m.time sends) (due_key keys taken m.time)) want.Key

-- ---- the stops

-- A stop of a service. That a call on a file failed, or the console refused a byte, is told by the counts of faults.
abbrev pub ServiceCause : Option Stop → List (ℕ × ℕ) → Moment → WatchState → MachineState → Type 0
ServiceCause None keys start watch m = Unit {0}
ServiceCause (Some (UnitEnd unit)) keys start watch m = IsAtFileEnd unit m
ServiceCause (Some (UnitNone unit)) keys start watch m = IsWithoutFile unit m
ServiceCause (Some (BadImage unit place)) keys start watch m = HasTape unit m
ServiceCause (Some Wru) keys start watch m = TookWru keys start watch m
ServiceCause (Some (Expect place)) keys start watch m = Unit {0}
ServiceCause (Some (FileFault f)) keys start watch m = Unit {0}
ServiceCause (Some ConsoleFault) keys start watch m = Unit {0}
ServiceCause (Some stop) keys start watch m = ⊥

-- A stop of an instruction, with the machine that the instruction leaves, and the time before it.
abbrev pub InstructionCause : Option Stop → ℕ → MachineState → Type 0
InstructionCause None time m = m.time ≡ time + 1
InstructionCause (Some Halt) time m = IsBehindHalt m × (m.time ≡ time + 1)
InstructionCause (Some UnknownDevice) time m = IsUnknown (fetched m) m × (m.time ≡ time)
InstructionCause (Some ChainLimit) time m = IsAtEndlessChain m × (m.time ≡ time)
InstructionCause (Some stop) time m = ⊥

-- A stop of an interrupt's entry, and one of the services and the interrupt.
abbrev pub EntryCause : Option Stop → MachineState → Type 0
EntryCause None m = Unit {0}
EntryCause (Some ChainLimit) m = IsAtEndlessEntry m
EntryCause (Some stop) m = ⊥

abbrev pub AttendedCause : Option Stop → List (ℕ × ℕ) → Moment → WatchState → MachineState → Type 0
AttendedCause (Some ChainLimit) keys start watch m = IsAtEndlessEntry m
AttendedCause stop keys start watch m = ServiceCause stop keys start watch m

-- A stop of a test of the breaks at an address.
abbrev pub TestCause : Option Stop → ℕ → BreakTable → BreakTable → Type 0
TestCause None address before after = Unit {0}
TestCause (Some (BreakStop place)) address before after = StopsTest place address before after
TestCause (Some stop) address before after = ⊥

-- A stop before the instruction of a turn, which may be a run's first.
abbrev pub EarlyCause : Bool → Option Stop → List (ℕ × ℕ) → Moment → WatchState → MachineState → Type 0
EarlyCause first (Some (BreakStop place)) keys start watch m =
    (first ≡ false) × StopsTest place m.processor.cpu.pc start.watch.breaks watch.breaks
EarlyCause first stop keys start watch m = AttendedCause stop keys start watch m

-- A stop of a turn, which may be a run's first. Time has grown by the instruction of a HALT, and else stands still.
abbrev pub TurnCause : Bool → Option Stop → List (ℕ × ℕ) → Moment → WatchState → MachineState → Type 0
TurnCause first None keys start watch m = m.time ≡ start.time + 1
TurnCause first (Some Halt) keys start watch m = IsBehindHalt m × (m.time ≡ start.time + 1)
TurnCause first (Some UnknownDevice) keys start watch m = IsUnknown (fetched m) m × (m.time ≡ start.time)
TurnCause first (Some ChainLimit) keys start watch m = IsAtChainLimit m × (m.time ≡ start.time)
TurnCause first stop keys start watch m = EarlyCause first stop keys start watch m × (m.time ≡ start.time)

-- a burst ended at a chain without an end, and before its count was reached
abbrev pub BurstCause : BurstEnd → ℕ → ℕ → MachineState → Type 0
BurstCause burst_end.ChainLimit most done m = IsAtEndlessChain m × (done < most) × (m.time < last_time)
BurstCause end most done m = Unit {0}

-- fewer instructions than that were executed, and time has not ended
pub record StopsShort (count start now : ℕ) : Type 0 where
  pub least : start ≤ now
  pub most : now < start + count
  pub last : now < last_time

-- the count was reached, or time has ended before that
abbrev pub IsLimited : Bool → ℕ → ℕ → ℕ → Type 0
IsLimited step count start now = ((step ≡ false) × (now ≡ start + count)) ⊎ ((now ≡ last_time) × (now < start + count))

-- a stop of a run of that many instructions at the most
abbrev pub RunCause : Bool → ℕ → Stop → List (ℕ × ℕ) → Moment → WatchState → MachineState → Type 0
RunCause step count Stepped keys start watch m = (step ≡ true) × (m.time ≡ start.time + count)
RunCause step count Limit keys start watch m = IsLimited step count start.time m.time
RunCause step count Halt keys start watch m = IsBehindHalt m × (start.time < m.time) × (m.time ≤ start.time + count)
RunCause step count UnknownDevice keys start watch m = IsUnknown (fetched m) m × StopsShort count start.time m.time
RunCause step count ChainLimit keys start watch m = IsAtChainLimit m × StopsShort count start.time m.time
RunCause step count (BreakStop place) keys start watch m =
    StopsLaterTest place m.processor.cpu.pc start.watch.breaks watch.breaks × (start.time < m.time) × StopsShort count start.time m.time
RunCause step count stop keys start watch m = ServiceCause (Some stop) keys start watch m × StopsShort count start.time m.time
