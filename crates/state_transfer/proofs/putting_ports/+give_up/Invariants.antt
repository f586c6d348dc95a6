use Rattle.state_transfer.proofs.putting_ports.+give_up.Given as goal

abbrev pub decreases-give_up : goal.decreases-give_up
decreases-give_up g l = l.count
