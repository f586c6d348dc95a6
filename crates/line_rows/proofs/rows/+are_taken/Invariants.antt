use Rattle.line_rows.proofs.rows.+are_taken.Given as goal

abbrev pub decreases-are_taken : goal.decreases-are_taken
decreases-are_taken g l = l.count
