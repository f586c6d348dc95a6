-- A tape operation on the file of a drive.
use Rattle.std.specs.Prelude.{ℕ, ◌&&◌, List, Option, Some, None, Result, Ok, if◌then◌else◌}
use Rattle.file_traits.specs.Lists.{NamedBytes, bytes_of, changed}
use Rattle.file_traits.specs.OneList.{shown}
use Rattle.nova_memory.specs.Memory.{MemoryState}
use Rattle.unit_trait.specs.declared.calls.TapeOrder.{TapeOrder}
use Rattle.unit_trait.specs.declared.calls.Got.{Got}
use Rattle.unit_trait.specs.declared.calls.Got.TheVariants as got
use Rattle.unit_files.specs.Attachments.{Attachment}
use Rattle.unit_files.specs.Acts.{Failure}
use Rattle.memory_transfer.specs.Tapes.{NoAnswer, operation, writes_tape, memory_operated, image_operated}

-- the image of a drive's tape
abbrev pub image_of : Attachment → List NamedBytes → List ℕ
image_of a files = shown (bytes_of files a.name)

abbrev pub tape_answer : Option Failure → Option Attachment → List NamedBytes → TapeOrder → Result Got NoAnswer
tape_answer fault None files order = Ok got.NoFile
tape_answer fault (Some a) files order = if writes_tape order && a.read_only then Ok got.ReadOnly else operation fault (image_of a files) order

abbrev pub tape_memory : Option Failure → Option Attachment → List NamedBytes → TapeOrder → MemoryState → MemoryState
tape_memory fault None files order memory = memory
tape_memory fault (Some a) files order memory = memory_operated fault (image_of a files) order memory

abbrev pub tape_files : Option Failure → Option Attachment → MemoryState → List NamedBytes → TapeOrder → List NamedBytes
tape_files fault None memory files order = files
tape_files fault (Some a) memory files order =
    if writes_tape order && a.read_only then files else changed files a.name (image_operated fault memory order)
