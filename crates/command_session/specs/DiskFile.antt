-- Whether the disk alone has changed its file in a command. What is said of a session is said as long as that is so: the
-- disk's copy is written back over its file in parts, and what these come to is known of a file that nothing else has
-- changed.
use Rattle.std.specs.Prelude.{ℕ, nat_le, ◌==◌, ◌&&◌, ◌||◌, Bool, true, false, IsTrue, List, [], ◌∷◌, length, drop, bytes_eq, Option, Some, None, if◌then◌else◌}
use Rattle.file_traits.specs.Lists.{NamedBytes, find_file, bytes_of}
use Rattle.host_lines.specs.Traffic.{Answer as LineAnswer}
use Rattle.host_lines.specs.State.{LineState}
use Rattle.unit_files.specs.Attachments.{Attachment, attachment_at}
use Rattle.unit_files.specs.Buffer.{Buffer, disk_unit}
use Rattle.unit_files.specs.InStep.{InStep}
use Rattle.nova_machine.specs.Machine.{attached_files}
use Rattle.nova_machine.specs.Seen.{attached_in}
use Rattle.command_session.specs.Live.{Live, CommandState, beyond, live_in}

-- whether a list begins with that byte
abbrev pub begins_with : ℕ → List ℕ → Bool
begins_with byte [] = false
begins_with byte (first ∷ bytes) = byte == first

-- whether each byte of a list is that of one of two others at its place
abbrev pub is_of_both : List ℕ → List ℕ → List ℕ → Bool
is_of_both [] old copy = true
is_of_both (byte ∷ bytes) old copy = (begins_with byte old || begins_with byte copy) && is_of_both bytes (drop 1 old) (drop 1 copy)

-- Whether a file with these bytes can have been left by the disk, where it had others before: where nothing is to be written
-- back, it has what the disk holds; and else it has at each place the byte that it had or that which the disk holds, has lost
-- none, and has none that the disk does not hold.
abbrev pub is_by_disk : Buffer → List ℕ → List ℕ → Bool
is_by_disk disk old now =
    if disk.written then nat_le (length old) (length now) && nat_le (length now) (length disk.bytes) && is_of_both now old disk.bytes
    else bytes_eq now disk.bytes

-- the same of a file that may not be there any more: the disk takes none away
abbrev pub is_left_by_disk : Buffer → List ℕ → Option (List ℕ) → Bool
is_left_by_disk disk old None = false
is_left_by_disk disk old (Some now) = is_by_disk disk old now

-- the same of the file that is attached to the disk, where one was attached before, and where none was
abbrev pub is_by_disk_at : Option Attachment → Option Attachment → Buffer → List NamedBytes → List NamedBytes → Bool
is_by_disk_at before None disk old now = true
is_by_disk_at None (Some a) disk old now = is_left_by_disk disk (bytes_of now a.name) (find_file now a.name)
is_by_disk_at (Some b) (Some a) disk old now = is_left_by_disk disk (bytes_of old a.name) (find_file now a.name)

-- Whether nothing else has changed the file of the disk, from one state to another.
unfoldable pub disk_alone : Live → Live → Bool
disk_alone old new =
    is_by_disk_at (attachment_at (attached_in old.machine) disk_unit) (attachment_at (attached_in new.machine) disk_unit) new.machine.disk old.files
    new.files

-- What the disk holds of its file stays in step with the file, from one state to another of what commands stand in.
abbrev pub StaysInStep : CommandState → CommandState → List NamedBytes → List NamedBytes → Type 0
StaysInStep old new files files' = InStep (attached_files old.machine) files → InStep (attached_files new.machine) files'

-- .. where nothing else has changed the file
abbrev pub StaysWhereAlone : CommandState → CommandState → List NamedBytes → List NamedBytes → Type 0
StaysWhereAlone old new files files' =
    InStep (attached_files old.machine) files → (lines lines' : LineState) (whole whole' : List LineAnswer)
    → IsTrue (disk_alone (live_in old (beyond files lines whole)) (live_in new (beyond files' lines' whole')))
    → InStep (attached_files new.machine) files'
