-- What texts leave of the console, and of what ties the disk's file to its copy.
use Rattle.std.proofs.Common.{◌≡◌, ℕ, Bool, true, false, IsTrue, List, ◌++◌, take, ap, refl}
use Rattle.file_traits.specs.Lists.{NamedBytes}
use Rattle.file_traits.specs.Streams.{AddsPart}
use Rattle.unit_files.specs.InStep.{InStep}
use Rattle.nova_machine.specs.Machine.{MachineState, attached_files}
use Rattle.command_session.specs.declared.fault.CommandFault.{CommandFault}
use Rattle.command_session.specs.declared.fault.CommandFault.TheVariants as fault
use Rattle.command_session.specs.FaultText.{fault_text}
use Rattle.command_session.specs.Live.{CommandState}
use Rattle.command_session.specs.Remains.{StepsIf}
use Rattle.command_session.specs.DiskFile.{StaysWhereAlone}
use Rattle.command_session.specs.Doing.{Grows}
use Rattle.command_session.proofs.GrowLemmas.{grows-same}
use Rattle.command_session.proofs.StepLemmas.{step-unchanged, stays-alone}
use Rattle.scp_script.specs.declared.progress.Progress.{Progress}
use Rattle.scp_script.specs.declared.progress.Progress.TheVariants.{GoesOn, IsOver}
use Rattle.scp_script.specs.declared.progress.Finish.TheVariants.{Exit, EndOfInput, FlushFailed, Commands, Console, Input, OutOfMemory}
use Rattle.scp_script.specs.Loop.{Complains, Denies}

-- a text was printed, or a first part of it
pub grows-by : (tells : Bool) (before text after : List ℕ) → (IsTrue tells → after ≡ before ++ text) → Grows tells before after
grows-by tells before text after puts = λ told. (text, puts told)

pub grows-part : (tells : Bool) (before text after : List ℕ) → (IsTrue tells → AddsPart before text after) → Grows tells before after
grows-part tells before text after adds = λ told. let part = adds told in (take part.0 text, part.2)

-- that of a fault
pub complained-grows : (tells : Bool) (before text : List ℕ) (result : Progress) (after : List ℕ) → Complains tells before text result after → Grows tells before after
complained-grows tells before text GoesOn after said = grows-by tells before text after said
complained-grows tells before text (IsOver Console) after said = grows-part tells before text after said
complained-grows tells before text (IsOver (Exit status)) after said = absurd said
complained-grows tells before text (IsOver EndOfInput) after said = absurd said
complained-grows tells before text (IsOver FlushFailed) after said = absurd said
complained-grows tells before text (IsOver Commands) after said = absurd said
complained-grows tells before text (IsOver Input) after said = absurd said
complained-grows tells before text (IsOver OutOfMemory) after said = absurd said

pub denied-grows : (why : CommandFault) (tells : Bool) (result : Progress) (before after : List ℕ) (sink sink_now : ℕ) → Denies why tells result before after sink sink_now → Grows tells before after
denied-grows fault.Console tells result before after sink sink_now denies = grows-same tells before after denies.1
denied-grows fault.OutOfMemory tells result before after sink sink_now denies = grows-same tells before after denies.1
denied-grows why tells result before after sink sink_now denies = complained-grows tells before (fault_text why) result after denies.0

-- ---- the disk's file

-- nothing was done
pub stays-same : (s : CommandState) (files : List NamedBytes) → StaysWhereAlone s s files files
stays-same s files = stays-alone s s files files (λ step. step)

-- nothing was done to the machine
pub stays-kept : (old new : CommandState) (files : List NamedBytes) → new.machine ≡ old.machine → StaysWhereAlone old new files files
stays-kept old new files same = stays-alone old new files files (step-unchanged old new files files (ap attached_files same) refl)

-- it is in step for what flushes too
pub steps-if : (flushes : Bool) (m : MachineState) (files : List NamedBytes) → InStep (attached_files m) files → StepsIf flushes m files
steps-if true m files step = step
steps-if false m files step = tt
