-- The effective address of a memory reference (How to Use the Nova Computers, "Memory Reference Instructions").
use Rattle.std.specs.Prelude.{Bool, ℕ, ◌+◌, ◌-◌, ◌%◌, ◌^◌, ◌<◌, ◌≤◌, ◌==◌, ◌&&◌, zero, suc, List, slice_index, nat_le, nat_lt, if◌then◌else◌, Option, Some, None}
use Rattle.nova_word.specs.Bits.{bits}
use Rattle.nova_memory.specs.Memory.{MemoryState, get, put}

-- a base plus a displacement of 8 bits, of which 0o200 to 0o377 stand for -0o200 to -1, around the end of memory
abbrev pub displaced : ℕ → ℕ → ℕ
displaced base d =
    if nat_lt d 0o200 then (base + d) % 2 ^ 15 else (base + 2 ^ 15 - (0o400 - d)) % 2 ^ 15

-- the address that a word at that address gives with those accumulators, before it is followed
unfoldable pub indexed : ℕ → ℕ → List ℕ → ℕ
indexed w pc acs =
    let index = bits 6 7 w in
    let d = bits 8 15 w in
    if index == 0 then d else if index == 1 then displaced pc d else displaced (slice_index acs index) d

-- a location whose word an indirect reference changes
abbrev pub IsAutoIndex : ℕ → Type 0
IsAutoIndex a = (0o20 ≤ a) × (a < 0o40)

-- the word that an indirect reference makes of the one that stands there: one more through 0o20 to 0o27, one less
-- through 0o30 to 0o37
abbrev pub changed : ℕ → ℕ → ℕ
changed a v =
    if nat_le 0o20 a && nat_lt a 0o30 then (v + 1) % 2 ^ 16
    else if nat_le 0o30 a && nat_lt a 0o40 then (v + 2 ^ 16 - 1) % 2 ^ 16
    else v

-- the word whose bit 0 says whether an indirect reference goes on, of the one that was read and the one that it was
-- changed to: the first one by the rule of a test before the change
abbrev pub tested : Bool → ℕ → ℕ → ℕ
tested before read now = if before then read else now

-- what a memory reference comes to: the memory after it, and its address, if its chain ends
pub record Reference : Type 0 where
  pub memory : MemoryState
  pub address : Option ℕ

-- an indirect reference through an address, with so many levels left: the changed word is stored, and its low 15 bits are
-- the address where bit 0 of the tested word is 0, and else the next level
unfoldable pub chain : ℕ → MemoryState → ℕ → Reference
chain zero m a = record { memory = m; address = None }
chain (suc left) m a =
    let v = changed a (get m a) in
    let after = put m a v in
    if nat_lt (tested m.before (get m a) v) (2 ^ 15) then record { memory = after; address = Some (v % 2 ^ 15) }
    else chain left after (v % 2 ^ 15)

-- the memory reference of a word at that address, with those accumulators: bit 5 makes it indirect, up to 16 levels
unfoldable pub address : MemoryState → ℕ → ℕ → List ℕ → Reference
address m w pc acs =
    if bits 5 5 w == 1 then chain 16 m (indexed w pc acs)
    else record { memory = m; address = Some (indexed w pc acs) }
