use Rattle.plain_commands.proofs.QuotedLemmas.{quoted-texts-read-back}
use Rattle.command_laws.proofs.laws.quoted_texts_read_back.Goals as goal

pub returns : goal.returns
returns c = quoted-texts-read-back
