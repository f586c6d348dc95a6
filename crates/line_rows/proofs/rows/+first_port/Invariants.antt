use Rattle.line_rows.proofs.rows.+first_port.Given as goal

abbrev pub decreases-first_port : goal.decreases-first_port
decreases-first_port g l = l.count
