use Rattle.line_rows.proofs.rows.+connected_in.Given as goal

abbrev pub decreases-connected_in : goal.decreases-connected_in
decreases-connected_in g l = l.count
