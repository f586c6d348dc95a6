-- What a function of state files returned.
use Rattle.std.specs.Prelude.{◌≡◌, Result, Ok, Err}
use Rattle.state_text.specs.declared.fault.StateFault.{StateFault}
use Rattle.state_text.specs.declared.fault.StateFault.TheVariants.{OutOfMemory}

-- its fault is that of reading, unless memory ran out
abbrev pub Fails : {B : Type 0} → StateFault → Result B StateFault → Type 0
Fails OutOfMemory read = Unit {0}
Fails fault read = read ≡ Err fault

-- what it returned, seen by view, is what reading gives
abbrev pub Gives : {X Y : Type 0} → (X → Y) → Result X StateFault → Result Y StateFault → Type 0
Gives view (Ok x) read = read ≡ Ok (view x)
Gives view (Err fault) read = Fails fault read
