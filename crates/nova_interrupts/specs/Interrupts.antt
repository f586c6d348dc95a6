-- What of the processor belongs to interrupts (How to Use the Nova Computers, "Program Interrupt"): the mask word, whether
-- interrupts are on, and whether they wait for one more instruction.
use Rattle.std.specs.Prelude.{ℕ, true, false}
use Rattle.nova_interrupts.specs.declared.interrupts.Ints.{Ints}

-- interrupts off, none waiting, and a mask of 0
abbrev pub no_interrupts : Ints
no_interrupts = record { mask = 0; on = false; hold = false }

-- each device is masked out whose bit of the word is 1, and no other
abbrev pub masked_out : ℕ → Ints → Ints
masked_out word ints = record ints { mask = word }

-- interrupts on, but for the next instruction
abbrev pub enabled : Ints → Ints
enabled ints = record ints { on = true; hold = true }

-- interrupts off
abbrev pub disabled : Ints → Ints
disabled ints = record ints { on = false; hold = false }

-- interrupts that wait for no further instruction
abbrev pub released : Ints → Ints
released ints = record ints { hold = false }
