-- What stands of a device in its table, and the registers that several devices have (SIMH Users' Guide, "Examining and
-- Changing State").
use Rattle.std.specs.Prelude.{ℕ, ◌+◌, ◌/◌, ◌%◌, Bool, true, false, nat_lt, List, [], ◌∷◌, ◌++◌, codes, if◌then◌else◌}

-- a register: its name, its least and largest value, what it holds at first, and whether a reset sets it to 0
pub record Register : Type 0 where
  pub name : List ℕ
  pub least : ℕ
  pub largest : ℕ
  pub initial : ℕ
  pub cleared : Bool

-- a device: its name, its code on the bus, the bit of the interrupt mask word that masks it out (0 is the most
-- significant of 16), how many units it has, whether a file is attached to them, and its registers in order
pub record Device : Type 0 where
  pub name : List ℕ
  pub code : ℕ
  pub mask_bit : ℕ
  pub units : ℕ
  pub takes_file : Bool
  pub registers : List Register

-- a number below 100 in decimal, without a leading zero
abbrev pub decimal_below_100 : ℕ → List ℕ
decimal_below_100 n = if nat_lt n 10 then (48 + n) ∷ [] else (48 + n / 10) ∷ (48 + n % 10) ∷ []

-- the name of one of several registers that are alike: a text, and its number behind that
abbrev pub numbered_name : List ℕ → ℕ → List ℕ
numbered_name text number = text ++ decimal_below_100 number

-- a register that is 0 at first and that a reset leaves alone
abbrev pub kept_register : List ℕ → ℕ → Register
kept_register name largest = record { name = name; least = 0; largest = largest; initial = 0; cleared = false }

-- a register that is 0 at first and that a reset sets to 0
abbrev pub cleared_register : List ℕ → ℕ → Register
cleared_register name largest = record { name = name; least = 0; largest = largest; initial = 0; cleared = true }

-- how many instructions an operation takes, by what it is at first
abbrev pub time_register : ℕ → Register
time_register initial = record { name = codes "TIME"; least = 1; largest = 65535; initial = initial; cleared = false }

-- whether the device is at work, and whether it has done its work
abbrev pub busy : Register
busy = cleared_register (codes "BUSY") 1

abbrev pub done : Register
done = cleared_register (codes "DONE") 1

-- whether a unit stops the machine where it has no file or is at its end
abbrev pub stop_ioe : Register
stop_ioe = kept_register (codes "STOP_IOE") 1

-- how far a file of bytes was read or written
abbrev pub position : Register
position = kept_register (codes "POS") 0o100000000
