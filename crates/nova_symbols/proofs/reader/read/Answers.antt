use Rattle.std.proofs.Common.{Ok, Err}
use Rattle.nova_symbols.proofs.LawLemmas.{answers_word, answers_fault, word_read, fault_read}
use Rattle.nova_symbols.proofs.reader.read.Goals as goal

pub returns-in-Ok-clause-word : goal.returns-in-Ok-clause-word
returns-in-Ok-clause-word c = answers_word c.args.text.now (Ok c.in-Ok.w) (word_read c.args.text.now c.in-Ok.w c.in-Ok.ensures)

pub returns-in-Ok-clause-fault : goal.returns-in-Ok-clause-fault
returns-in-Ok-clause-fault c = answers_fault c.args.text.now (Ok c.in-Ok.w) (word_read c.args.text.now c.in-Ok.w c.in-Ok.ensures)

pub returns-in-Err-clause-word : goal.returns-in-Err-clause-word
returns-in-Err-clause-word c =
    answers_word c.args.text.now (Err c.placed.result) (fault_read c.args.text.now c.in-Err.fault c.placed.result c.in-Err.ensures c.placed.ensures)

pub returns-in-Err-clause-fault : goal.returns-in-Err-clause-fault
returns-in-Err-clause-fault c =
    answers_fault c.args.text.now (Err c.placed.result) (fault_read c.args.text.now c.in-Err.fault c.placed.result c.in-Err.ensures c.placed.ensures)
