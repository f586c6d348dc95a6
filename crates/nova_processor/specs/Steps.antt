-- A step of a word, with what it leads to and what it comes to.
use Rattle.std.specs.Prelude.{◌≡◌, ℕ}
use Rattle.nova_processor.specs.declared.burst.Step.{Step}
use Rattle.nova_processor.specs.Processor.{ProcessorState}
use Rattle.nova_processor.specs.Burst.{step_of}

abbrev pub Steps : ℕ → ProcessorState → Step → ProcessorState → Type 0
Steps word p end q = step_of word p ≡ record { processor = q; end = end }
