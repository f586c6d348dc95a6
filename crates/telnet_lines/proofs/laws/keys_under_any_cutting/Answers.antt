use Rattle.telnet_lines.specs.Telnet.{no_rest}
use Rattle.telnet_lines.proofs.Cutting.{keys_cut, rest_cut}
use Rattle.telnet_lines.proofs.laws.keys_under_any_cutting.Goals as goal

pub returns : goal.returns
returns c = record { keys = keys_cut no_rest; rest = rest_cut no_rest }
