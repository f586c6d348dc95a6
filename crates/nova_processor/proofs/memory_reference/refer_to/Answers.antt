use Rattle.std.proofs.Common.{◌≡◌, ◌∙◌, rules}
use Rattle.nova_processor.specs.Processor.{joined}
use Rattle.nova_processor.proofs.References.{references, references-is}
use Rattle.nova_processor.proofs.memory_reference.refer_to.Goals as goal

pub returns-in-0 : goal.returns-in-0
returns-in-0 c carry =
    let p = joined c.args.acs.now carry c.args.pc.now c.args.memory.now in
    let done : joined c.without_accumulator.new.acs carry c.without_accumulator.new.pc c.without_accumulator.new.memory ≡ references c.args.kind c.args.function c.args.address p = search rules in
    done ∙ references-is c.args._word c.args.kind c.args.function c.args.address p c.requires.kind c.requires.function

pub returns-in-1 : goal.returns-in-1
returns-in-1 c carry =
    let p = joined c.args.acs.now carry c.args.pc.now c.args.memory.now in
    let done : joined c.load.new.acs carry c.load.new.pc c.args.memory.now ≡ references c.args.kind c.args.function c.args.address p = search rules in
    done ∙ references-is c.args._word c.args.kind c.args.function c.args.address p c.requires.kind c.requires.function

pub returns-in_default : goal.returns-in_default
returns-in_default c carry =
    let p = joined c.args.acs.now carry c.args.pc.now c.args.memory.now in
    let done : joined c.args.acs.now carry c.store.new.pc c.store.new.memory ≡ references c.args.kind c.args.function c.args.address p = search rules in
    done ∙ references-is c.args._word c.args.kind c.args.function c.args.address p c.requires.kind c.requires.function
