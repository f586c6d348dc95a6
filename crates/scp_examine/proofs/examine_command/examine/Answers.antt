use Rattle.scp_examine.proofs.KindLemmas.{fault-kind, refused_told, refused_faults, refused_cause}
use Rattle.scp_examine.proofs.examine_command.examine.Goals as goal

pub returns-in-Some-clause-told : goal.returns-in-Some-clause-told
returns-in-Some-clause-told g c = λ told.
    refused_told (Unit {0}) c.args.machine.now c.args.what.now (g.S.Sink.written c.args.out.now) c.in-Some.fault
    (fault-kind c.args.machine.now c.args.what.now c.in-Some.fault c.in-Some.ensures) c.in-Some.ensures

pub returns-in-Some-clause-faults : goal.returns-in-Some-clause-faults
returns-in-Some-clause-faults g c =
    refused_faults (Unit {0}) c.args.machine.now c.args.what.now c.in-Some.fault
    (fault-kind c.args.machine.now c.args.what.now c.in-Some.fault c.in-Some.ensures) c.in-Some.ensures

pub returns-in-Some-clause-cause : goal.returns-in-Some-clause-cause
returns-in-Some-clause-cause g c =
    refused_cause (Unit {0}) (g.S.Sink.fault_count c.args.out.now) c.in-Some.fault (fault-kind c.args.machine.now c.args.what.now c.in-Some.fault c.in-Some.ensures)
