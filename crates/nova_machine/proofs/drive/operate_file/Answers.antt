use Rattle.std.proofs.Common.{rules, ◌≡◌, ℕ, subst}
use Rattle.file_traits.specs.Lists.{changed}
use Rattle.file_traits.specs.State.{name_at}
use Rattle.file_traits.proofs.ThroughOne.{through_changed, through_one, through_file}
use Rattle.memory_transfer.specs.Tapes.{image_operated}
use Rattle.memory_transfer.specs.Operated.{failure_of, CountsStop}
use Rattle.nova_machine.specs.DriveCauses.{StopCause}
use Rattle.nova_machine.proofs.Operating.{stop-cause}
use Rattle.nova_machine.proofs.drive.operate_file.Goals as goal

pub returns-clause-files : goal.returns-clause-files
returns-clause-files g c = λ told.
    let old = g.F.Files.state c.args.files.now in
    let one = c.operate.new.tape in
    let new = g.F.Files.state one.files.now in
    let step = image_operated (failure_of c.operate.result) c.args.memory.now c.args.order in
    let is : new.files ≡ changed old.files (name_at old.opened c.args.file.0) step =
    through_changed old new c.args.file.0 one.file.0 step c.operate.ensures.behind (c.operate.ensures.image told) in
    search (rules, is)

pub returns-clause-cause : goal.returns-clause-cause
returns-clause-cause g c =
    let old = g.F.Files.state c.args.files.now in
    let one = c.operate.new.tape in
    let new = g.F.Files.state one.files.now in
    let counts : CountsStop (old.faults c.args.file.0) (new.faults c.args.file.0) c.operate.result =
    subst (λ (k : ℕ). CountsStop (old.faults c.args.file.0) (new.faults k) c.operate.result) (through_file old new c.args.file.0 one.file.0 c.operate.ensures.behind) c.operate.ensures.counts in
    let is : StopCause c.operate.result c.args.file.0 old new =
    stop-cause c.operate.result c.args.file.0 old new (through_one old new c.args.file.0 one.file.0 c.operate.ensures.behind) counts in
    search (rules, is)
