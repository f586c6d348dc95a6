use Rattle.observations.specs.Status.{number_of}
use Rattle.program_start.proofs.RefusalLemmas.{unopened-denied}
use Rattle.program_start.proofs.refusals.print_refusal.Goals as goal

pub returns-in-Unopened-clause-told : goal.returns-in-Unopened-clause-told
returns-in-Unopened-clause-told g c = λ sink.
    unopened-denied c.args.words.now c.requires.0 c.args.refusal c.in-Unopened.place c.index-words-place.result c.put_unopened-printed.result (number_of c.status_printed.result) (g.S.Sink.written c.args.output.now)
    (g.S.Sink.written c.put_unopened-printed.new.output) c.requires.1 c.in-Unopened.is c.index-words-place.is (c.put_unopened-printed.ensures.told sink) c.status_printed.ensures
