use Rattle.std.proofs.Common.{refl}
use Rattle.state_text.proofs.TellLaws.{all_taken}
use Rattle.state_text.proofs.state_reader.StateReader.take.Goals as goal

pub returns-clause-fed : goal.returns-clause-fed
returns-clause-fed c =
    let r = c.args.self.now in
    all_taken c.feed.result r (record r { reading = c.feed.new.self }) c.args.piece.now refl c.feed.ensures.kept c.feed.ensures.fed
