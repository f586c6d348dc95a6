-- What contracts see of files in memory, and of what is done to them beside the calls of `Files`.
use Rattle.std.specs.Prelude.{ℕ, Bool, true, false, [], map, Result, Ok, Err}
use Rattle.host_files.specs.declared.mem_files.MemFiles.{MemFiles}
use Rattle.host_files.specs.declared.mem_files.AddFault.{AddFault}
use Rattle.host_files.specs.declared.mem_files.AddFault.TheVariants.{TooLong, OutOfMemory}
use Rattle.host_files.specs.MemFiles.{MemState, named_of, no_failing}

abbrev pub mem_of : MemFiles → MemState
mem_of s = record { files = map named_of s.files.items; room = s.room; table = s.table; calls = s.calls; open_faults = s.open_faults }

-- no file, of so much room
abbrev pub no_files : ℕ → MemState
no_files room = record { files = []; room = room; table = record { opened = []; counts = [] }; calls = no_failing; open_faults = 0 }

-- whether bytes were longer than the room for them
abbrev pub is_too_long : {T : Type 0} → Result T AddFault → Bool
is_too_long (Ok x) = false
is_too_long (Err TooLong) = true
is_too_long (Err OutOfMemory) = false
