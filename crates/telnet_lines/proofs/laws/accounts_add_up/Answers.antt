use Rattle.telnet_lines.proofs.Accounts.{add_up}
use Rattle.telnet_lines.proofs.laws.accounts_add_up.Goals as goal

pub returns : goal.returns
returns c = add_up
