use Rattle.std.proofs.Common.{arith}
use Rattle.simh_tape.proofs.PlaceLemmas.{ends-there}
use Rattle.simh_tape.proofs.words.read_word.Goals as goal

pub returns-then-place-ge-LAST_PLACE-clause-word :
    goal.returns-then-place-ge-LAST_PLACE-clause-word
returns-then-place-ge-LAST_PLACE-clause-word g c = λ tells. ends-there (g.B.Bytes.content c.args.tape.now) c.args.place (omega arith)
