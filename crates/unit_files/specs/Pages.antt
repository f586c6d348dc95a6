-- The pages in which the disk's copy of its file is written back, and which of them are marked. No definition of what is done
-- speaks of them: they are the way of the code, and what they come to is a content alone.
use Rattle.std.specs.Prelude.{ℕ, ◌+◌, ◌-◌, ◌/◌, ◌^◌, Bool, true, List, ◌++◌, take, drop, replicate}
use Rattle.unit_files.specs.Aside.{aside_length, nothing_aside}

-- how many bytes a page of the copy has
unfoldable pub page_bytes : ℕ
page_bytes = 2 ^ 12

-- how many pages the disk has
abbrev pub disk_pages : ℕ
disk_pages = aside_length

-- no page is marked
abbrev pub no_marks : List Bool
no_marks = nothing_aside

-- the page of a byte
unfoldable pub page_of : ℕ → ℕ
page_of place = place / page_bytes

-- the marks, with those from a page up to another one set
unfoldable pub marked : ℕ → ℕ → List Bool → List Bool
marked first last marks = take first marks ++ replicate (last + 1 - first) true ++ drop (last + 1) marks
