use Rattle.scp_examine.proofs.DepositLemmas.{deposit_puts}
use Rattle.scp_examine.proofs.laws.deposits_change_the_listed_places_alone.Goals as goal

pub returns : goal.returns
returns c = deposit_puts
