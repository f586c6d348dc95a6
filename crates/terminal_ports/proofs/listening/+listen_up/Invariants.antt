use Rattle.terminal_ports.proofs.listening.+listen_up.Given as goal

abbrev pub decreases-listen_up : goal.decreases-listen_up
decreases-listen_up g l = l.count
