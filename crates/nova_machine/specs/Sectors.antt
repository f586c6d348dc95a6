-- What the disk's answers mean, and what a sector that is read or written changes (How to Use the Nova Computers, "Fixed
-- Head Disk").
use Rattle.std.specs.Prelude.{Bool, true, false, Option, Some}
use Rattle.nova_memory.specs.Memory.{MemoryState}
use Rattle.unit_trait.specs.declared.calls.Want.{Want}
use Rattle.unit_trait.specs.declared.calls.Want.TheVariants as want
use Rattle.unit_trait.specs.declared.calls.Got.{Got}
use Rattle.unit_trait.specs.declared.calls.Got.TheVariants as got
use Rattle.unit_files.specs.declared.faults.SectorAnswer.{SectorAnswer}
use Rattle.unit_files.specs.declared.faults.SectorAnswer.TheVariants as sector
use Rattle.unit_files.specs.Attachments.{Attachment}
use Rattle.unit_files.specs.Buffer.{Buffer, sector_of, said_of_reading, said_of_writing, sector_written}
use Rattle.memory_transfer.specs.Words.{sector_words, words_put, bytes_got}

-- what the disk's answer means for the unit
abbrev pub got_of_sector : SectorAnswer → Got
got_of_sector sector.Done = got.Done
got_of_sector sector.NoFile = got.NoFile
got_of_sector sector.ReadOnly = got.ReadOnly

abbrev pub said_of_sector : Bool → Option Attachment → SectorAnswer
said_of_sector true a = said_of_writing a
said_of_sector false a = said_of_reading a

-- the first where a file is read, and else the second
abbrev pub memory_with : Bool → Option Attachment → MemoryState → MemoryState → MemoryState
memory_with false (Some a) filled memory = filled
memory_with write a filled memory = memory

-- memory once that was done that a unit wants: the words of a sector were read into it
abbrev pub memory_after : Option Attachment → Buffer → Want → MemoryState → MemoryState
memory_after a disk (want.Sector write n from) memory = memory_with write a (words_put sector_words from (sector_of disk.bytes n) memory) memory
memory_after a disk other memory = memory

-- what the disk holds of its file: a sector was written into it
abbrev pub disk_after : Option Attachment → MemoryState → Want → Buffer → Buffer
disk_after a memory (want.Sector true n from) disk = sector_written a disk n (bytes_got sector_words from memory)
disk_after a memory other disk = disk
