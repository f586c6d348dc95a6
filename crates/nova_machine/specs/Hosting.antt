-- What the machine's own answers mean that it makes of what a unit wants.
use Rattle.std.specs.Prelude.{◌≡◌, ℕ, ◌<◌, ◌≤◌, ◌^◌, IsTrue, ◌==◌, List, [], Option, Some, None, Ok, Err, if◌then◌else◌}
use Rattle.file_traits.specs.Lists.{NamedBytes}
use Rattle.unit_trait.specs.declared.kind.Kind.{Kind}
use Rattle.unit_trait.specs.declared.kind.UnitName.{UnitName}
use Rattle.unit_trait.specs.declared.kind.Kind.TheVariants.{Dsk}
use Rattle.unit_list.specs.Bus.{IsBelowEnd}
use Rattle.file_traits.specs.OneList.{longest_list}
use Rattle.unit_trait.specs.declared.calls.TapeOrder.{TapeOrder}
use Rattle.unit_trait.specs.declared.calls.Want.{Want}
use Rattle.unit_trait.specs.declared.calls.Want.TheVariants as want
use Rattle.unit_trait.specs.declared.calls.Got.TheVariants as got
use Rattle.unit_files.specs.declared.faults.ByteAnswer.{ByteAnswer}
use Rattle.unit_files.specs.declared.faults.ByteAnswer.TheVariants as byte
use Rattle.unit_files.specs.Attachments.{Attachment, is_paper, is_tape, only_writes}
use Rattle.unit_files.specs.Buffer.{disk_sectors}
use Rattle.unit_files.specs.Answers.{failure_in}
use Rattle.nova_machine.specs.declared.machine.Stop.{Stop}
use Rattle.nova_machine.specs.declared.machine.Stop.TheVariants.{BadImage, FileFault, ConsoleFault, Wru as WruStop, Expect}
use Rattle.nova_machine.specs.declared.service.Hosted.{Hosted}
use Rattle.nova_machine.specs.declared.service.Hosted.TheVariants.{Gets, Wru, Matched, Stops}
use Rattle.memory_transfer.specs.Tapes.{FileFails, ImageIsBad}
use Rattle.expect_actions.specs.Expects.{ExpectTable}
use Rattle.expect_actions.specs.Watch.{WatchState}
use Rattle.nova_machine.specs.Wants.{wru, answer_to, own_stop, watch_after, bytes_of, IsConsole}

abbrev pub hosted_of : ByteAnswer → Hosted
hosted_of (byte.Byte b) = Gets (got.Byte b)
hosted_of byte.Written = Gets got.Done
hosted_of byte.End = Gets got.End
hosted_of byte.NoFile = Gets got.NoFile
hosted_of (byte.Failed f) = Stops (FileFault f)

abbrev pub hosted_key : Option ℕ → Hosted
hosted_key None = Gets got.NoKey
hosted_key (Some key) = if key == wru then Wru else Gets (got.Key key)

-- the stop of a unit that gets no answer
abbrev pub stop_in : Hosted → Option Stop
stop_in (Stops stop) = Some stop
stop_in other = None

-- a refused byte is none that was printed
abbrev pub bytes_printed : Want → Hosted → List ℕ
bytes_printed want (Stops stop) = []
bytes_printed want other = bytes_of want

-- the watch tables behind that: a byte that the console refused is not waited for
abbrev pub watch_behind : ℕ → Want → Hosted → WatchState → WatchState
watch_behind time want (Stops stop) watch = watch
watch_behind time want other watch = watch_after time want watch

-- what is made of a printed byte: the unit is done, and the run may stop at the text that it ends
abbrev pub hosted_byte : Option ℕ → Hosted
hosted_byte None = Gets got.Done
hosted_byte (Some k) = Matched k

-- what was made of a want: the answer, or the failure or the place that its stop claims
abbrev pub IsHosted : Want → Option Attachment → List NamedBytes → Option ℕ → ExpectTable → Hosted → Type 0
IsHosted want a files key expects (Gets g) = (answer_to None a files key want ≡ Ok g) × (own_stop key expects want ≡ None)
IsHosted want a files key expects Wru = (answer_to None a files key want ≡ Ok got.NoKey) × (own_stop key expects want ≡ Some WruStop)
IsHosted want a files key expects (Matched k) = (answer_to None a files key want ≡ Ok got.Done) × (own_stop key expects want ≡ Some (Expect k))
IsHosted want a files key expects (Stops (FileFault f)) = answer_to (Some (failure_in f)) a files key want ≡ Err (FileFails (failure_in f))
IsHosted want a files key expects (Stops (BadImage unit place)) = answer_to None a files key want ≡ Err (ImageIsBad place)
IsHosted want a files key expects (Stops ConsoleFault) = IsConsole want
IsHosted want a files key expects (Stops stop) = ⊥

-- a stop for a bad image is that unit's
abbrev pub IsImageOf : UnitName → Option Stop → Type 0
IsImageOf unit (Some (BadImage of place)) = of ≡ unit
IsImageOf unit stop = Unit {0}

-- what is made of a want is one that its unit may get: no byte past the largest place
abbrev pub HasRoom : Want → Hosted → Type 0
HasRoom want (Gets g) = IsBelowEnd want g
HasRoom want (Matched k) = IsBelowEnd want got.Done
HasRoom want other = Unit {0}

-- an operation that the tape's registers can say
pub record IsTapeOrder (order : TapeOrder) : Type 0 where
  pub place : order.place ≤ longest_list
  pub address : order.address < 2 ^ 15
  pub some : 1 ≤ order.count
  pub most : order.count ≤ 2 ^ 12

-- Bytes are wanted by the paper tape units and the printer alone, each at a place that its register can hold, sectors by
-- the disk alone, and operations on a tape by the tape alone.
abbrev pub CanBeHosted : Want → Kind → Type 0
CanBeHosted (want.ReadByte place) kind = IsTrue (is_paper kind) × (place ≤ 8 ^ 8)
CanBeHosted (want.WriteByte place byte) kind = IsTrue (only_writes kind) × (place ≤ 8 ^ 8)
CanBeHosted (want.Sector write sector from) kind = (kind ≡ Dsk) × (sector < disk_sectors) × (from < 2 ^ 15)
CanBeHosted (want.Tape order) kind = IsTrue (is_tape kind) × IsTapeOrder order
CanBeHosted other kind = Unit {0}
