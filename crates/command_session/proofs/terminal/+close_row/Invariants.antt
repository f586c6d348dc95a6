use Rattle.command_session.proofs.terminal.+close_row.Given as goal

abbrev pub decreases-close_row : goal.decreases-close_row
decreases-close_row g l = l.row.count
