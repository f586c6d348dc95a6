use Rattle.std.proofs.Common.{◌≢◌, rules}
use Rattle.nova_processor.specs.declared.burst.BurstEnd.TheVariants as burst_end
use Rattle.nova_machine.proofs.Waits.{burst-then}
use Rattle.nova_machine.proofs.InstructionCauses.{cause-behind}
use Rattle.nova_machine.proofs.machine.Machine.burst.Goals as goal

pub returns-in-Spent-clause-told : goal.returns-in-Spent-clause-told
returns-in-Spent-clause-told g c =
    let other : c.work-burst.result.end ≢ burst_end.ChainLimit = search rules in
    burst-then c.args.watch.now c.args.keys.now c.args.most c.work-burst.result.done c.idle-idled.result.done c.work-burst.result.end c.idle-idled.result.end c.args.self.now c.work-burst.new.self
    c.idle-idled.new.self other (c.work-burst.ensures.told c.args.keys.now) c.idle-idled.ensures.told

pub returns-in-Transfer-clause-told : goal.returns-in-Transfer-clause-told
returns-in-Transfer-clause-told g c =
    let other : c.work-burst.result.end ≢ burst_end.ChainLimit = search rules in
    burst-then c.args.watch.now c.args.keys.now c.args.most c.work-burst.result.done c.wait-waited.result c.work-burst.result.end burst_end.Transfer c.args.self.now c.work-burst.new.self
    c.wait-waited.new.self other (c.work-burst.ensures.told c.args.keys.now) c.wait-waited.ensures.told

pub returns-in-Spent-clause-cause : goal.returns-in-Spent-clause-cause
returns-in-Spent-clause-cause g c =
    cause-behind c.idle-idled.result.end c.args.most c.work-burst.result.done c.idle-idled.result.done c.idle-idled.new.self c.work-burst.ensures.few c.idle-idled.ensures.cause
